-- A word of a row's slots is stored, and the hand of one thread changes: a deferred task goes from a slot to a hand, or from a hand to a slot.
use Rattle.std.proofs.Common.{◌≡◌, ◌≢◌, ◌==◌, ◌&&◌, ◌+◌, ◌<◌, ℕ, true, inl, inr, List, Option, Some, refl, sym, ap, subst, ◌∙◌, arith, ne_eqb, ◌≤◌}
use Rattle.std.specs.Prelude.{◌⊎◌}
use Rattle.std.proofs.lemmas.Bool.{cases_eq}
use Rattle.omi_rep.specs.Codes.{task_told}
use Rattle.omi_rep.specs.Records.{slot_word}
use Rattle.omi_model.specs.declared.id.Tid.{Tid}
use Rattle.omi_model.specs.declared.progress.Progress.TheVariants as progress
use Rattle.omi_model.specs.declared.task.Task.{Task}
use Rattle.omi_model.specs.State.{State, task_of}
use Rattle.omi_model.proofs.Slots.{found_live, some_same}
use Rattle.omi_numbers.specs.declared.limits.TheConstants.{OWN_SLOTS}
use Rattle.omi_layout.specs.declared.field.Field.TheVariants.{TaskChildren, TaskLife, TaskSlots, TaskReferences}
use Rattle.omi_layout.specs.Field.{regions, runtime, tasks, threads}
use Rattle.omi_layout.specs.Memory.{Memory, Rec, replace_at}
use Rattle.omi_layout.specs.Named.{number}
use Rattle.omi_layout.specs.Table.{per_thread}
use Rattle.omi_layout.specs.Valid.{IsValid}
use Rattle.omi_layout.proofs.Puts.{each_put, record_stays, word_read, word_stays}
use Rattle.omi_layout.specs.declared.limits.TheConstants.{COUNT_PLACE}
use Rattle.omi_layout.specs.declared.field.Field.{Field}
use Rattle.omi_rep.specs.Shows.{IsWithin}
use Rattle.omi_rule_words.specs.Owes.{Owed, nothing}
use Rattle.omi_rule_words.specs.Counts.{has_slot, is_explicit, is_task, one, start_owed}
use Rattle.omi_rule_words.specs.Threads.{Has, KeepsRuntime}
use Rattle.omi_rule_words.specs.Objects.{IsDeferredIn}
use Rattle.omi_rule_words.specs.Words.{KeepsMade, KeepsRegionSlot, KeepsTask, KeepsTaskSlot, KeepsWords, task_in}
use Rattle.omi_rule_words.specs.ExplicitKinds.{SlotTakesKeep, slot_of, with_slot}
use Rattle.omi_rule_words.proofs.MadeSlots.{made_kept}
use Rattle.omi_rule_words.proofs.Codes.{code_some, has_record, same_codes}
use Rattle.omi_rule_words.proofs.EachPlace.{each_place}
use Rattle.omi_rule_words.proofs.Fills.{life_same}
use Rattle.omi_rule_words.proofs.Hands.{made_rehanded, one_hand}
use Rattle.omi_rule_words.proofs.OtherCounts.{owed_put}
use Rattle.omi_rule_words.proofs.SlotSums.{slots_changed}
use Rattle.omi_rule_words.proofs.StoredCodes.{task_apart}
use Rattle.omi_rule_words.proofs.GroupCounts.{OnGroupsAlike, groups_owed, groups_read, on_groups_alike}

module _ (w : List ℕ) (m : Memory) (s : State) (owes : ℕ → Owed) (i : ℕ) (hand : Option Tid) (row : Tid)
    (u : Task) (place word : ℕ) (keeps : KeepsWords w m s owes)
    (known : i < s.count) (maker : row.0.creator < s.count) (slot_below : row.0.slot < per_thread w tasks)
    (live : task_of s row ≡ Some u) (implicit : u.implicit ≡ true)
    (inside : place < OWN_SLOTS)
    (word_is : (word ≡ 0) ⊎ ((k : Tid) × IsDeferredIn s u place k × (word ≡ slot_word w k))) where
  abbrev after : Memory
  after = with_slot m row place word

  abbrev p : Owed
  p = record (owes i) { hand = hand }

  stays : (c kind j : ℕ) → (kind ≡ tasks → ⊥) → after c kind j ≡ m c kind j
  stays c kind j ne =
      record_stays m row.0.creator tasks row.0.slot (number TaskSlots) place word c kind j
      (λ _ same _. ne same)

  other_word : (g : ℕ) → g ≢ number TaskSlots → (c j at : ℕ) → after c tasks j g at ≡ m c tasks j g at
  other_word g ne c j at =
      word_stays m row.0.creator tasks row.0.slot (number TaskSlots) place word c tasks j g at
      (λ _ _ _ same _. ne same)

  -- a word behind the slots, and one of another field
  told_word : (g : Field) (at : ℕ) → (number g ≡ number TaskSlots → OWN_SLOTS ≤ at)
      → after row.0.creator tasks row.0.slot (number g) at ≡ m row.0.creator tasks row.0.slot (number g) at
  told_word g at behind =
      word_stays m row.0.creator tasks row.0.slot (number TaskSlots) place word row.0.creator tasks row.0.slot (number g) at
      (λ _ _ _ field same. let least = behind field in absurd (omega (arith, least, inside, same)))

  there : (s.tasks row.0.creator row.0.slot).live ≡ Some u
  there = found_live row.0.generation (s.tasks row.0.creator row.0.slot) u live

  -- the row's own record
  row_kept : KeepsTask w s owes (task_in row.0.creator row.0.slot (s.tasks row.0.creator row.0.slot)) (m row.0.creator tasks row.0.slot) u
      → KeepsTask w s owes (task_in row.0.creator row.0.slot (s.tasks row.0.creator row.0.slot))
      (after row.0.creator tasks row.0.slot) u
  row_kept o = record {
    environment = λ g at x none told. told_word g at (task_apart w (task_told u) g at x told).slots ∙ o.environment g at x none told;
    place = λ has g at x is told. told_word g at (task_apart w (task_told u) g at x told).slots ∙ o.place has g at x is told;
    counts = record {
      children = other_word (number TaskChildren) (λ is. omega (arith, is)) row.0.creator row.0.slot 0 ∙ o.counts.children;
      references = other_word (number TaskReferences) (λ is. omega (arith, is)) row.0.creator row.0.slot 0 ∙ o.counts.references;
      given = o.counts.given
          ∙ ap (λ y. one (is_explicit u && y == 0))
          (sym (other_word (number TaskReferences) (λ is. omega (arith, is)) row.0.creator row.0.slot 0));
    };
    slots = λ _ at below. slot at (cases_eq at place) (o.slots implicit at below);
  }
    where
      IsSlotOf : (ℕ → ℕ → ℕ) → ℕ → Type 0
      IsSlotOf r at =
          Has r TaskSlots at 0 ⊎ ((k : Tid) × IsDeferredIn s u at k × Has r TaskSlots at (slot_word w k))

      stored : (word ≡ 0) ⊎ ((k : Tid) × IsDeferredIn s u place k × (word ≡ slot_word w k))
          → IsSlotOf (after row.0.creator tasks row.0.slot) place
      stored (inl none) =
          inl (word_read m row.0.creator tasks row.0.slot (number TaskSlots) place word ∙ none)
      stored (inr (k, deferred, is)) =
          inr (k, deferred, word_read m row.0.creator tasks row.0.slot (number TaskSlots) place word ∙ is)

      slot : (at : ℕ) → (at ≡ place) ⊎ (at ≢ place) → IsSlotOf (m row.0.creator tasks row.0.slot) at
          → IsSlotOf (after row.0.creator tasks row.0.slot) at
      slot at (inl same) _ =
          subst (λ x. IsSlotOf (after row.0.creator tasks row.0.slot) x) (sym same) (stored word_is)
      slot at (inr ne) was = go was
        where
          stays_there : after row.0.creator tasks row.0.slot (number TaskSlots) at ≡ m row.0.creator tasks row.0.slot (number TaskSlots) at
          stays_there =
              word_stays m row.0.creator tasks row.0.slot
              (number TaskSlots) place word row.0.creator tasks row.0.slot (number TaskSlots) at
              (λ _ _ _ _ same. ne same)

          go : IsSlotOf (m row.0.creator tasks row.0.slot) at
              → IsSlotOf (after row.0.creator tasks row.0.slot) at
          go (inl none) = inl (stays_there ∙ none)
          go (inr (k, deferred, is)) = inr (k, deferred, stays_there ∙ is)

  slot_kept : (c j : ℕ) → KeepsTaskSlot w s owes c j (m c tasks j)
      → KeepsTaskSlot w s owes c j (after c tasks j)
  slot_kept =
      each_place
      (λ c j. KeepsTaskSlot w s owes c j (m c tasks j) → KeepsTaskSlot w s owes c j (after c tasks j)) row.0.creator row.0.slot
      (λ o. record {
        life =
            life_same (m row.0.creator tasks row.0.slot) (after row.0.creator tasks row.0.slot) TaskLife
            (s.tasks row.0.creator row.0.slot) (has_slot row.0.slot (owes row.0.creator).tasks)
            (other_word (number TaskLife) (λ is. omega (arith, is)) row.0.creator row.0.slot 0) o.life;
        live = λ x is.
            let name : Tid = task_in row.0.creator row.0.slot (s.tasks row.0.creator row.0.slot) in
            let same : u ≡ x = some_same there is in
            subst (λ (y : Task). KeepsTask w s owes name (after row.0.creator tasks row.0.slot) y) same
            (row_kept (subst (λ (y : Task). KeepsTask w s owes name (m row.0.creator tasks row.0.slot) y) (sym same) (o.live x is)));
      })
      (λ c j apart o. subst (λ (r : Rec). KeepsTaskSlot w s owes c j r)
      (sym (record_stays m row.0.creator tasks row.0.slot (number TaskSlots) place word c tasks j (λ creator _ slot. apart creator slot))) o)

  made_stored : (j : ℕ) → KeepsMade w s owes j (m j) → KeepsMade w s owes j (after j)
  made_stored j o =
      made_kept w s owes j (m j) (after j) (stays j threads 0 (λ kind. absurd (omega (arith, kind)))) o
      (λ k below. subst (λ (r : Rec). KeepsRegionSlot w s owes j k r) (sym (stays j regions k (λ kind. absurd (omega (arith, kind))))) (o.regions k below))
      (λ k below. slot_kept j k (o.tasks k below))

  -- each deferred task is where it was, or has changed its slot for a hand or its hand for a slot
  pub slot_stored : ((q : Tid) (t : Task) → task_of s q ≡ Some t → t.progress ≡ progress.Deferred
      → one (word == slot_word w q) + start_owed q p ≡ one (slot_of m row place == slot_word w q) + start_owed q (owes i))
      → ((q : Tid) → hand ≡ Some q → (t : Task) × (task_of s q ≡ Some t) × (t.progress ≡ progress.Deferred))
      → KeepsWords w after s (replace_at owes i p)
  slot_stored balance held = record {
    runtime_record = subst (λ (r : Rec). KeepsRuntime w r s) (sym (stays 0 runtime 0 (λ kind. absurd (omega (arith, kind))))) keeps.runtime_record;
    made = λ j below. subst (λ (o : ℕ → Owed). KeepsMade w s o j (after j)) (one_hand owes i hand)
        (made_rehanded w s owes (replace_at (λ c. (owes c).hand) i hand) j (after j) (made_stored j (keeps.made j below)));
    deferred = record {
      once = λ q t is deferred.
          let was = keeps.deferred.once q t is deferred in
          let slots =
          slots_changed w s row u place there implicit maker slot_below inside m word (slot_word w q) in
          let owed = owed_put s owes i p known (start_owed q) in
          let even = balance q t is deferred in
          omega (arith, was, slots, owed, even);
      hands = λ j q below.
          each_put
          (λ c (o : Owed). c < s.count → o.hand ≡ Some q → (t : Task) × (task_of s q ≡ Some t) × (t.progress ≡ progress.Deferred)) owes i p
          (λ _. held q)
          j (λ _ there. keeps.deferred.hands j q there) below;
    };
    groups =
        groups_read w (λ c. m c tasks) (λ c. after c tasks) s (replace_at owes i p)
        (λ k t index there few. word_stays m row.0.creator tasks row.0.slot (number TaskSlots) place word k.0.creator tasks k.0.slot (number TaskSlots) (COUNT_PLACE + index)
        (λ _ _ _ _ same. absurd (omega (arith, inside, same))))
        (groups_owed w (λ c. m c tasks) s owes (replace_at owes i p)
        (λ j. each_put (λ c (o : Owed). OnGroupsAlike o (owes c)) owes i p (record { counted = refl; uncounted = refl; raised = λ k _ is. is; own = λ k _ is. is }) j (λ _. on_groups_alike (owes j))) keeps.groups);
  }

pub slot_takes_keep : SlotTakesKeep
slot_takes_keep =
    λ w m s owes i row u place k keeps within v known owed live implicit inside deferred word. taken w m s owes i row u place k keeps within v known owed live implicit inside deferred word
  where
    taken : (w : List ℕ) (m : Memory) (s : State) (owes : ℕ → Owed) (i : ℕ) (row : Tid) (u : Task) (place : ℕ) (k : Tid)
        → KeepsWords w m s owes → IsWithin w s → IsValid w → i < s.count → owes i ≡ nothing
        → task_of s row ≡ Some u → u.implicit ≡ true → place < OWN_SLOTS → IsDeferredIn s u place k → slot_of m row place ≡ slot_word w k
        → KeepsWords w (with_slot m row place 0) s (replace_at owes i (record nothing { hand = Some k }))
    taken w m s owes i row u place k keeps within v known owed live implicit inside deferred word =
        subst
        (λ (o : Owed). KeepsWords w (with_slot m row place 0) s (replace_at owes i (record o { hand = Some k }))) owed
        (slot_stored w m s owes i (Some k) row u place 0 keeps known
        (let count = within.count in let below = (has_record w s row u within live).made_by in omega (arith, count, below))
        (has_record w s row u within live).within live implicit inside (inl refl)
        (λ q t is _.
        let gone : one (0 == slot_word w q) ≡ 0 =
        ap one (ne_eqb 0 (slot_word w q) (λ none. code_some w q (sym none))) in
        let was : one (slot_of m row place == slot_word w q) ≡ one (is_task q k) =
        ap (λ x. one (x == slot_word w q)) word
        ∙ same_codes w v k q (has_record w s k deferred.task within deferred.live)
        (has_record w s q t within is) in
        let unheld : start_owed q (owes i) ≡ 0 = ap (start_owed q) owed in
        omega (arith, gone, was, unheld))
        (λ q is. let same : k ≡ q = some_same refl is in subst (λ (x : Tid). (t : Task) ×
        (task_of s x ≡ Some t) × (t.progress ≡ progress.Deferred)) same (deferred.task, deferred.live, deferred.progress)))
