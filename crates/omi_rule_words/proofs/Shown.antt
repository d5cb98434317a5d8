-- Words that keep the rule show the state.
use Rattle.std.proofs.Common.{◌≡◌, ◌==◌, ◌<◌, ◌≤◌, ℕ, ◌+◌, ◌*◌, Bool, true, false, List, length, Some, None, refl, ap, subst, ◌∙◌, arith, eqb-true, if◌then◌else◌}
use Rattle.std.specs.Prelude.{MatchBool}
use Rattle.omi_model.specs.declared.progress.Progress.{Progress}
use Rattle.omi_model.specs.declared.id.Rid.{Rid}
use Rattle.omi_model.specs.declared.id.Tid.{Tid}
use Rattle.omi_model.specs.declared.slot.Slot.{Slot}
use Rattle.omi_model.specs.Put.{found}
use Rattle.omi_model.specs.State.{State}
use Rattle.omi_model.specs.Visible.{HasStarted, IsVisibleRegion, IsVisibleTask}
use Rattle.omi_model.proofs.Slots.{found_live}
use Rattle.omi_layout.specs.declared.field.Field.{Field}
use Rattle.omi_layout.specs.declared.field.Field.TheVariants.{RegionLife, TaskLife}
use Rattle.omi_layout.specs.Field.{runtime, threads, regions, tasks, kind_of}
use Rattle.omi_layout.specs.Given.{HasTables}
use Rattle.omi_layout.specs.Memory.{Rec, Memory, memory_of, word_address}
use Rattle.omi_layout.specs.Named.{number}
use Rattle.omi_layout.specs.Place.{image_words, IsSlot}
use Rattle.omi_word.specs.Words.{Words, words_of}
use Rattle.omi_layout.specs.Table.{thread_count, per_thread, version}
use Rattle.omi_layout.specs.Valid.{IsValid}
use Rattle.omi_layout.proofs.Numbers.{numbered_field}
use Rattle.omi_layout.proofs.Stored.{mapped}
use Rattle.omi_layout.proofs.Tables.{tables_give}
use Rattle.omi_layout.specs.declared.limits.TheConstants.{GROUP_VERSION}
use Rattle.omi_rep.specs.Codes.{region_code, region_told, runtime_told, shown, shown_unbegun, task_code, task_told, thread_code, thread_told}
use Rattle.omi_rep.specs.Records.{records_of}
use Rattle.omi_rep.specs.Shows.{CodesStand, IsWithin, RecordsShow, Shows, ShowsSlot, Stands}
use Rattle.omi_rep.proofs.Codes.{codes_stand, region_coded, runtime_coded, task_coded, thread_coded, wide}
use Rattle.omi_rule_words.specs.Owes.{Owed}
use Rattle.omi_rule_words.specs.Shown.{KeptWordsShow}
use Rattle.omi_rule_words.specs.Objects.{HasPlace, KeepsLife, KeepsRegion}
use Rattle.omi_rule_words.specs.Words.{KeepsTask, KeepsWords, region_in, task_in}
use Rattle.omi_rule_words.proofs.StoredCodes.{all_codes}

-- an object that is found is of the slot's last generation
pub found_generations : {A : Type 0} (g : ℕ) (slot : Slot A) (x : A) → found g slot ≡ Some x
    → slot.generations ≡ g + 1
found_generations {A} g slot x e = go (slot.generations == g + 1) refl e
  where
    go : (b : Bool) → slot.generations == g + 1 ≡ b → (if b then slot.live else None) ≡ Some x
        → slot.generations ≡ g + 1
    go true is h = eqb-true slot.generations (g + 1) is
    go false is h = absurd (cc)

module _ (w words : List ℕ) (s : State) (owes : ℕ → Owed) (v : IsValid w) (grouped : version w ≡ GROUP_VERSION)
    (count : length words ≡ image_words w) (tables : HasTables w words) (within : IsWithin w s)
    (keeps : KeepsWords w (memory_of w words) s owes) where
  abbrev g : Words
  g = words_of words

  abbrev m : Memory
  m = memory_of w words

  thread_slot : (i : ℕ) → i < s.count → IsSlot w threads i 0
  thread_slot i known =
      let same = within.count in record { made_by = omega (arith, known, same); within = omega arith }

  thread_shown : (fields : Field → Bool) (i : ℕ) → i < s.count
      → CodesStand fields (thread_code w i (thread_told (s.threads i))) (records_of w g i threads 0)
  thread_shown fields i known =
      codes_stand w words v count fields _ threads i 0 (thread_slot i known)
      (thread_coded w v i (thread_told (s.threads i))) (keeps.made i known).thread

  -- the life word of a slot, as it is kept
  slot_shown : {A : Type 0} (f : Field) (c k : ℕ) (slot : Slot A) (owed : Bool)
      → IsSlot w (kind_of (number f)) c k → KeepsLife (m c (kind_of (number f)) k) f slot owed
      → ShowsSlot (records_of w g c (kind_of (number f)) k) f slot
  unfolding word_address
  slot_shown f c k slot owed there o = record {
    live = λ e x is.
        let made = found_generations e slot x is in
        let life = o.live x (found_live e slot x is) in
        of_word (2 * e + 1) (omega (arith, made, life));
    free = λ word empty is. at_least word empty (of_word _ refl) is owed refl;
  }
    where
      r : Rec
      r = m c (kind_of (number f)) k

      of_word : (x : ℕ) → r (number f) 0 ≡ x → Stands (records_of w g c (kind_of (number f)) k) f 0 x
      of_word x e =
          mapped w v words c k (number f) 0 (omega (arith, count))
          (record { field = numbered_field f; record_slot = there; within = wide w v (number f) })
          ∙ ap Some e

      at_least : (word : ℕ) → slot.live ≡ None
          → Stands (records_of w g c (kind_of (number f)) k) f 0 (r (number f) 0)
          → Stands (records_of w g c (kind_of (number f)) k) f 0 word → (b : Bool) → owed ≡ b → 2 * slot.generations ≤ word
      at_least word empty is there true taken =
          let same : r (number f) 0 ≡ word = cc in
          let life = o.taken empty taken in
          omega (arith, same, life)
      at_least word empty is there false free =
          let same : r (number f) 0 ≡ word = cc in
          let life = o.free empty free in
          omega (arith, same, life)

  region_shown : (n : Rid) (seen : IsVisibleRegion s n)
      → CodesStand shown (region_code w (region_told seen.region)) (records_of w g n.0.creator regions n.0.slot)
  region_shown n seen =
      let few = (within.well_formed.regions n seen).few in
      let same = within.count in
      codes_stand w words v count shown _ regions n.0.creator n.0.slot
      (record { made_by = there.maker; within = there.place })
      (region_coded w v (region_told seen.region) (omega (arith, few, same))) o.codes
    where
      there : record { maker : n.0.creator < thread_count w; place : n.0.slot < per_thread w regions }
      there = within.regions n.0.creator n.0.slot n.0.generation seen.region seen.live

      known : n.0.creator < s.count
      known = let same = within.count in let maker = there.maker in omega (arith, same, maker)

      o : KeepsRegion w s owes (region_in n.0.creator n.0.slot (s.regions n.0.creator n.0.slot)) (m n.0.creator regions n.0.slot) seen.region
      o =
          ((keeps.made n.0.creator known).regions n.0.slot there.place).live seen.region
          (found_live n.0.generation (s.regions n.0.creator n.0.slot) seen.region seen.live)

  task_shown : (k : Tid) (seen : IsVisibleTask s k)
      → CodesStand shown (task_code w (task_told seen.task)) (records_of w g k.0.creator tasks k.0.slot)
  task_shown k seen =
      codes_stand w words v count shown _ tasks k.0.creator k.0.slot
      (record { made_by = there.maker; within = there.place })
      (task_coded w v (task_told seen.task) (within.well_formed.tasks k seen).variables.few)
      (all_codes w (m k.0.creator tasks k.0.slot) seen.task o.environment (o.place placed))
    where
      there : record { maker : k.0.creator < thread_count w; place : k.0.slot < per_thread w tasks }
      there = within.tasks k.0.creator k.0.slot k.0.generation seen.task seen.live

      known : k.0.creator < s.count
      known = let same = within.count in let maker = there.maker in omega (arith, same, maker)

      o : KeepsTask w s owes (task_in k.0.creator k.0.slot (s.tasks k.0.creator k.0.slot)) (m k.0.creator tasks k.0.slot) seen.task
      o =
          ((keeps.made k.0.creator known).tasks k.0.slot there.place).live seen.task
          (found_live k.0.generation (s.tasks k.0.creator k.0.slot) seen.task seen.live)

      -- it is implicit, or has started
      placed : HasPlace seen.task
      placed explicit deferred =
          subst (λ (p : Progress). HasStarted p) deferred
          (subst (λ b. MatchBool b (IsVisibleRegion s seen.task.region) (HasStarted seen.task.progress)) explicit seen.shown)

  records_shown : RecordsShow w (records_of w g) s
  records_shown = record {
    globals = codes_stand w words v count shown _ runtime 0 0 (record { made_by = omega arith; within = omega arith }) (runtime_coded w v (runtime_told s)) keeps.runtime_record;
    lives = thread_shown shown_unbegun;
    region_lives = λ c k maker place.
        let known : c < s.count = (let same = within.count in omega (arith, same, maker)) in
        slot_shown RegionLife c k (s.regions c k) _ (record { made_by = maker; within = place }) ((keeps.made c known).regions k place).life;
    task_lives = λ c k maker place.
        let known : c < s.count = (let same = within.count in omega (arith, same, maker)) in
        slot_shown TaskLife c k (s.tasks c k) _ (record { made_by = maker; within = place }) ((keeps.made c known).tasks k place).life;
    threads = λ i known _. thread_shown shown i known;
    regions = region_shown;
    tasks = task_shown;
  }

  kept_shown : Shows w g s
  kept_shown = record {
    layout = tables_give w words v tables;
    within = within;
    groups = λ first k t live. absurd (omega (arith, first, grouped));
    records = records_shown;
  }

pub kept_words_show : KeptWordsShow
kept_words_show =
    λ w words s owes v grouped count tables within keeps. kept_shown w words s owes v grouped count tables within keeps
