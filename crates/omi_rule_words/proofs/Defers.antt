-- A new explicit task is deferred into an empty slot, or starts at once.
use Rattle.std.proofs.Common.{◌≡◌, ◌≢◌, ◌==◌, ◌+◌, ◌<◌, ℕ, Bool, true, false, inl, inr, List, Option, Some, None, refl, sym, ap, subst, ◌∙◌, arith, ne_eqb, if◌then◌else◌}
use mathlib.Core.Path.{fun_ext}
use Rattle.std.specs.Prelude.{◌⊎◌}
use Rattle.omi_numbers.specs.Addresses.{exit_below}
use Rattle.omi_script.specs.declared.program.Program.{Program}
use Rattle.omi_model.specs.declared.id.Tid.{Tid}
use Rattle.omi_model.specs.declared.progress.Progress.TheVariants as progress
use Rattle.omi_model.specs.declared.task.Task.{Task}
use Rattle.omi_model.specs.LawNames.{AreNamesLive}
use Rattle.omi_model.specs.Put.{made}
use Rattle.omi_model.specs.State.{State, task_of}
use Rattle.omi_model.specs.Tasking.{deferred, deferred_task, scheduled, started_now}
use Rattle.omi_model.proofs.Slots.{made_same, made_stays}
use Rattle.omi_numbers.specs.declared.limits.TheConstants.{OWN_SLOTS}
use Rattle.omi_layout.specs.declared.field.Field.TheVariants.{TaskSlots, ThreadCurrent}
use Rattle.omi_layout.specs.Field.{tasks, threads}
use Rattle.omi_layout.specs.Memory.{Memory, replace_at, with_word}
use Rattle.omi_layout.specs.Named.{number}
use Rattle.omi_layout.specs.Place.{IsSlot}
use Rattle.omi_layout.specs.Table.{per_thread}
use Rattle.omi_layout.specs.Valid.{IsValid}
use Rattle.omi_layout.proofs.Puts.{each_put, put_same}
use Rattle.omi_rep.specs.Records.{task_address, slot_word}
use Rattle.omi_rep.specs.Shows.{IsWithin}
use Rattle.omi_rule_words.specs.Owes.{Owed, nothing}
use Rattle.omi_rule_words.specs.Counts.{is_some_task, is_task, of_live, one, start_owed, sum_below, sum_of_owed}
use Rattle.omi_rule_words.specs.Threads.{Has}
use Rattle.omi_rule_words.specs.Objects.{IsDeferredIn, KeepsPlace, KeepsSlots, slots_with}
use Rattle.omi_rule_words.specs.Words.{KeepsWords}
use Rattle.omi_rule_words.specs.ExplicitKinds.{DefersKeep, IsFilledFor, IsRow, OwesNew, StartsNowKeep, slot_of, with_slot}
use Rattle.omi_rule_words.proofs.Begun.{none_found, some_found}
use Rattle.omi_rule_words.proofs.Changed.{current_stored}
use Rattle.omi_rule_words.proofs.Codes.{code_some, code_tells, has_record, same_codes}
use Rattle.omi_rule_words.proofs.MadeTasks.{IsFilledAs, IsMade, empty, made_counted, made_kept, maker_is, new_or_old}
use Rattle.omi_rule_words.proofs.OtherCounts.{is_own_id, owed_put}
use Rattle.omi_rule_words.proofs.SlotStores.{slot_stored}
use Rattle.omi_rule_words.proofs.Starts.{other_name}
use Rattle.omi_rule_words.proofs.StoredCodes.{environment_placed}
use Rattle.omi_rule_words.proofs.Sums.{slots_none_within, sum_none_within}
use Rattle.omi_rule_words.specs.Groups.{AreOwnersLive}

module _ (w : List ℕ) (m : Memory) (s : State) (owes : ℕ → Owed) (i : ℕ) (task : Tid) (new : Task) (k : Tid)
    (t : Task) (hand : Option Tid)
    (keeps : KeepsWords w m s owes) (names : AreNamesLive s) (owners : AreOwnersLive s)
    (known : i < s.count)
    (owes_new : OwesNew w s owes i task k t) (is_made : IsMade k t new)
    (filled : IsFilledAs w (m i tasks task.0.slot) new)
    (within : IsWithin w s) (v : IsValid w) where
  abbrev after : State
  after = record s { tasks = made s.tasks task.0 new }

  abbrev given : Owed
  given = record nothing { hand = hand }

  abbrev other : ℕ → Owed
  other = replace_at owes i given

  -- the name of the new task is no live task's
  unnamed : (u : Task) → task_of s task ≡ Some u → ⊥
  unnamed u live =
      none_found task.0.generation (s.tasks task.0.creator task.0.slot)
      (empty w m s owes i task new k t hand keeps names owners known owes_new is_made filled)
      (some_found (task_of s task) u live)

  -- so it is in no hand, and its code is in no slot
  unheld : sum_of_owed s owes (start_owed task) ≡ 0
  unheld = sum_none_within s.count (λ j. start_owed task (owes j)) each
    where
      each : (j : ℕ) → j < s.count → start_owed task (owes j) ≡ 0
      each j below = go (owes j).hand refl
        where
          go : (h : Option Tid) → (owes j).hand ≡ h → one (is_some_task task h) ≡ 0
          go None is = refl
          go (Some q) is =
              let (u, live, _) = keeps.deferred.hands j q below is in
              ap one
              (other_name task q (λ same. unnamed u (subst (λ n. task_of s (record { 0 = n }) ≡ Some u) (sym same) live)))

  unslotted : slots_with w (λ c. m c tasks) s (slot_word w task) ≡ 0
  unslotted = slots_none_within w s held (λ c j maker place. go c j maker place (s.tasks c j).live refl)
    where
      held : ℕ → ℕ → Task → ℕ
      held c j x =
          if x.implicit then sum_below OWN_SLOTS (λ place. one (m c tasks j (number TaskSlots) place == slot_word w task)) else 0

      in_row : (c j : ℕ) (x : Task) → KeepsSlots w s (m c tasks j) x
          → sum_below OWN_SLOTS (λ place. one (m c tasks j (number TaskSlots) place == slot_word w task)) ≡ 0
      in_row c j x slots =
          sum_none_within OWN_SLOTS
          (λ place. one (m c tasks j (number TaskSlots) place == slot_word w task))
          (λ place below. ap one (ne_eqb (m c tasks j (number TaskSlots) place) (slot_word w task) (apart place (slots place below))))
        where
          apart : (place : ℕ)
              → Has (m c tasks j) TaskSlots place 0 ⊎ ((q : Tid) × IsDeferredIn s x place q × Has (m c tasks j) TaskSlots place (slot_word w q))
              → m c tasks j (number TaskSlots) place ≢ slot_word w task
          apart place (inl none) same = code_some w task (sym same ∙ none)
          apart place (inr (q, d, is)) same =
              let name : q ≡ task =
              code_tells w v q task (has_record w s q d.task within d.live) owes_new.made_by (sym is ∙ same) in
              unnamed d.task (subst (λ x. task_of s x ≡ Some d.task) name d.live)

      by_kind : (c j : ℕ) (x : Task) (b : Bool) → x.implicit ≡ b
          → (x.implicit ≡ true → KeepsSlots w s (m c tasks j) x)
          → (if b then sum_below OWN_SLOTS (λ place. one (m c tasks j (number TaskSlots) place == slot_word w task)) else 0) ≡ 0
      by_kind c j x true e slots = in_row c j x (slots e)
      by_kind c j x false e slots = refl

      go : (c j : ℕ) → c < s.count → j < per_thread w tasks → (o : Option Task) → (s.tasks c j).live ≡ o
          → of_live (held c j) o ≡ 0
      go c j maker place None is = refl
      go c j maker place (Some x) is =
          by_kind c j x x.implicit refl (((keeps.made c maker).tasks j place).live x is).slots

  slots_same : (code : ℕ) → slots_with w (λ c. m c tasks) after code ≡ slots_with w (λ c. m c tasks) s code
  slots_same code =
      let more = made_counted w m s owes i task new k t hand keeps names owners known owes_new is_made filled held in
      let none : held task.0.creator task.0.slot new ≡ 0 =
      ap
      (λ b. if b then sum_below OWN_SLOTS (λ place. one (m task.0.creator tasks task.0.slot (number TaskSlots) place == code)) else 0) is_made.explicit in
      omega (arith, more, none)
    where
      held : ℕ → ℕ → Task → ℕ
      held c j x =
          if x.implicit then sum_below OWN_SLOTS (λ place. one (m c tasks j (number TaskSlots) place == code)) else 0

  -- the new task is in the thread's hand where it is deferred
  made_in_hand : ((q : Tid) → hand ≡ Some q → (q ≡ task) × (new.progress ≡ progress.Deferred))
      → (new.progress ≡ progress.Deferred → hand ≡ Some task) → KeepsWords w m after other
  made_in_hand held in_hand =
      made_kept w m s owes i task new k t hand keeps names owners known owes_new is_made filled (record {
        once = λ q u is deferred. once q u deferred (new_or_old w m s owes i task new k t hand keeps names owners known owes_new is_made filled q u is);
        hands = λ j q below.
            each_put
            (λ c (o : Owed). c < s.count → o.hand ≡ Some q → (u : Task) × (task_of after q ≡ Some u) × (u.progress ≡ progress.Deferred)) owes i given
            (λ _ is. let (name, deferred) = held q is in (new, subst (λ (x : Tid). task_of after x ≡ Some new) (sym name) (made_same s.tasks task.0 new), deferred))
            j (λ _ there is. let (u, live, deferred) = keeps.deferred.hands j q there is in
            (u, made_stays s.tasks task.0 new q.0 u (empty w m s owes i task new k t hand keeps names owners known owes_new is_made filled) live, deferred)) below;
      })
    where
      once : (q : Tid) (u : Task) → u.progress ≡ progress.Deferred
          → (record { name : q ≡ task; same : u ≡ new }) ⊎ (task_of s q ≡ Some u)
          → slots_with w (λ c. m c tasks) after (slot_word w q) + sum_of_owed s other (start_owed q) ≡ 1
      once q u deferred (inl is) =
          subst
          (λ (x : Tid). slots_with w (λ c. m c tasks) after (slot_word w x) + sum_of_owed s other (start_owed x) ≡ 1)
          (sym is.name)
          (let slots = slots_same (slot_word w task) in
          let none = unslotted in
          let nobody = unheld in
          let change = owed_put s owes i given known (start_owed task) in
          let was : start_owed task (owes i) ≡ 0 = ap (start_owed task) owes_new.owed in
          let now : start_owed task given ≡ 1 =
          ap (λ h. one (is_some_task task h))
          (in_hand (ap (λ (x : Task). x.progress) (sym is.same) ∙ deferred))
          ∙ ap one (is_own_id task.0) in
          omega (arith, slots, none, nobody, change, was, now))
      once q u deferred (inr live) =
          let before = keeps.deferred.once q u live deferred in
          let slots = slots_same (slot_word w q) in
          let change = owed_put s owes i given known (start_owed q) in
          let was : start_owed q (owes i) ≡ 0 = ap (start_owed q) owes_new.owed in
          let now : start_owed q given ≡ 0 = go hand refl in
          omega (arith, before, slots, change, was, now)
        where
          go : (h : Option Tid) → hand ≡ h → one (is_some_task q h) ≡ 0
          go None is = refl
          go (Some x) is =
              ap one
              (other_name q x (λ same. unnamed u (subst (λ (y : Tid). task_of s y ≡ Some u) (ap (λ n. record { 0 = n }) same ∙ (held x is).0) live)))

-- a new task starts at once
pub starts_now_keep : StartsNowKeep
starts_now_keep =
    λ p w m s owes i task f final k t keeps within names owners v known owes_new filled place. starts p w m s owes i task f final k t keeps within names owners v known owes_new filled place
  where
    starts : (p : Program) (w : List ℕ) (m : Memory) (s : State) (owes : ℕ → Owed) (i : ℕ) (task : Tid) (f : ℕ) (final : Bool) (k : Tid) (t : Task)
        → KeepsWords w m s owes → IsWithin w s → AreNamesLive s → AreOwnersLive s → IsValid w
        → i < s.count → OwesNew w s owes i task k t → IsFilledFor w (m i tasks task.0.slot)
        (deferred_task p k t f final 0) → KeepsPlace w (m i tasks task.0.slot) (scheduled i k t (deferred_task p k t f final 0))
        → KeepsWords w (with_word m i threads 0 (number ThreadCurrent) 0 (task_address w task))
        (started_now p s i task f final k t) (replace_at owes i nothing)
    starts p w m s owes i task f final k t keeps within names owners v known owes_new filled place =
        current_stored w m (record s { tasks = made s.tasks task.0 new }) (replace_at owes i nothing) i
        (Some task)
        (made_in_hand w m s owes i task new k t None keeps names owners known owes_new
        (record { explicit = refl; region = refl; generating = refl; goes = refl; unmet = λ is. absurd (cc); group = refl })
        (record {
          environment = environment_placed w (m i tasks task.0.slot) (deferred_task p k t f final 0) i t.number (Some k) (exit_below t.exit) 0 filled.environment;
          place = λ _. place;
          children = filled.children;
          references = filled.references;
          groups = filled.groups;
        })
        within v (λ q is. absurd (cc)) (λ is. absurd (cc)))
        known
      where
        new : Task
        new = scheduled i k t (deferred_task p k t f final 0)

-- what is stored twice is what was stored last
pub put_twice : {A : Type 0} (f : ℕ → A) (i : ℕ) (x y : A)
    → ◌≡◌ {A = ℕ → A} (replace_at (replace_at f i x) i y) (replace_at f i y)
put_twice {A} f i x y = fun_ext (λ j. go j (j == i))
  where
    go : (j : ℕ) (b : Bool) → (if b then y else (if b then x else f j)) ≡ (if b then y else f j)
    go j true = refl
    go j false = refl

-- a new task is deferred: it is taken into the hand, and from there into the slot
module _ (p : Program) (w : List ℕ) (m : Memory) (s : State) (owes : ℕ → Owed) (i : ℕ) (task : Tid) (f : ℕ)
    (final : Bool) (place : ℕ) (k : Tid) (t : Task) (row : Tid) (keeps : KeepsWords w m s owes)
    (within : IsWithin w s)
    (names : AreNamesLive s) (owners : AreOwnersLive s) (v : IsValid w) (known : i < s.count) (owes_new : OwesNew w s owes i task k t)
    (is_row : IsRow s i row t) (inside : place < OWN_SLOTS) (free : slot_of m row place ≡ 0)
    (filled : IsFilledFor w (m i tasks task.0.slot) (deferred_task p k t f final place)) where
  abbrev new : Task
  new = deferred_task p k t f final place

  abbrev now : State
  now = record s { tasks = made s.tasks task.0 new }

  abbrev in_hand : Owed
  in_hand = record nothing { hand = Some task }

  made_as : IsMade k t new
  made_as = record { explicit = refl; region = refl; generating = refl; goes = refl; unmet = λ is. absurd (cc); group = refl }

  filled_as : IsFilledAs w (m i tasks task.0.slot) new
  filled_as = record { environment = filled.environment; place = λ undeferred. absurd (undeferred refl refl); children = filled.children; references = filled.references; groups = filled.groups }

  in_the_hand : KeepsWords w m now (replace_at owes i in_hand)
  in_the_hand =
      made_in_hand w m s owes i task new k t (Some task) keeps names owners known owes_new made_as filled_as within v
      (λ q is. (let same : task ≡ q = cc in sym same, refl)) (λ _. refl)

  -- what lives after it
  still : (q : Tid) (u : Task) → task_of s q ≡ Some u → task_of now q ≡ Some u
  still q u is =
      made_stays s.tasks task.0 new q.0 u
      (empty w m s owes i task new k t (Some task) keeps names owners known owes_new made_as filled_as) is

  recorded : (q : Tid) (u : Task) → task_of now q ≡ Some u → IsSlot w tasks q.0.creator q.0.slot
  recorded q u is =
      go
      (new_or_old w m s owes i task new k t (Some task) keeps names owners known owes_new made_as filled_as q u is)
    where
      go : (record { name : q ≡ task; same : u ≡ new }) ⊎ (task_of s q ≡ Some u)
          → IsSlot w tasks q.0.creator q.0.slot
      go (inl is) = subst (λ (x : Tid). IsSlot w tasks x.0.creator x.0.slot) (sym is.name) owes_new.made_by
      go (inr live) = has_record w s q u within live

  row_record : IsSlot w tasks row.0.creator row.0.slot
  row_record = has_record w s row is_row.task within is_row.live

  task_in_slot : IsDeferredIn now is_row.task place task
  task_in_slot = record {
    task = new;
    live = made_same s.tasks task.0 new;
    progress = refl;
    region = sym is_row.region;
    place_is = refl;
    maker = maker_is w m s owes i task new k t (Some task) keeps names owners known owes_new made_as filled_as ∙ sym is_row.thread;
  }

  held_now : replace_at owes i in_hand i ≡ in_hand
  held_now = put_same owes i in_hand

  task_defers : KeepsWords w (with_slot m row place (slot_word w task)) now (replace_at owes i nothing)
  task_defers =
      subst (λ (o : ℕ → Owed). KeepsWords w (with_slot m row place (slot_word w task)) now o)
      (put_twice owes i in_hand nothing)
      (subst (λ (o : Owed). KeepsWords w (with_slot m row place (slot_word w task)) now (replace_at (replace_at owes i in_hand) i (record o { hand = None }))) held_now
      (slot_stored w m now (replace_at owes i in_hand) i None row is_row.task place (slot_word w task) in_the_hand known
      (let count = within.count in let below = row_record.made_by in omega (arith, count, below)) row_record.within
      (still row is_row.task is_row.live) is_row.implicit inside
      (inr (task, task_in_slot, refl))
      (λ q u is _.
      let none : one (slot_of m row place == slot_word w q) ≡ 0 =
      ap one (ne_eqb (slot_of m row place) (slot_word w q) (λ same. code_some w q (sym same ∙ free))) in
      let code : one (slot_word w task == slot_word w q) ≡ one (is_task q task) =
      same_codes w v task q owes_new.made_by (recorded q u is) in
      let held : start_owed q (replace_at owes i in_hand i) ≡ one (is_task q task) =
      ap (start_owed q) held_now in
      omega (arith, none, code, held))
      (λ q is. absurd (cc))))

pub defers_keep : DefersKeep
defers_keep =
    λ p w m s owes i task f final place k t row keeps within names owners v known owes_new is_row inside free filled.
    task_defers p w m s owes i task f final place k t row keeps within names owners v known owes_new is_row inside free filled
