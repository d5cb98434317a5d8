-- Over words that show a state, the row of a visible task and the chain of a thread are those of the state.
use Rattle.std.proofs.Common.{◌≡◌, ℕ, zero, suc, ◌+◌, ◌<◌, false, List, [], ◌∷◌, length, map, Option, Some, None, refl, sym, ap, ap₂, subst, ◌∙◌, arith}
use Rattle.std.specs.Prelude.{Ok, slice_get}
use Rattle.std.specs.Option.{option_map, option_and_then}
use Rattle.std.specs.List.{AllZip, flat_map}
use Rattle.omi_layout.specs.declared.field.Field.TheVariants.{TaskImplicit, TaskRegion, TaskGenerating, TaskScheduling, TaskFunction, TaskExit, TaskEnter, TaskDynamic, TaskNthreadsLength, TaskSchedule, TaskDevice, TaskFinal, TaskTool, TaskNthreads}
use Rattle.omi_layout.specs.Field.{regions, tasks}
use Rattle.omi_layout.specs.Table.{records}
use Rattle.omi_layout.specs.Place.{record_address, slot_address, index_of}
use Rattle.omi_layout.specs.Valid.{IsValid}
use Rattle.omi_word.specs.Words.{Words}
use Rattle.omi_layout.proofs.Arenas.{index_within}
use Rattle.omi_model.specs.declared.id.Id.{Id}
use Rattle.omi_model.specs.declared.id.Tid.{Tid}
use Rattle.omi_model.specs.declared.task.Task.{Task}
use Rattle.omi_model.specs.declared.view.TaskRow.{TaskRow}
use Rattle.omi_model.specs.State.{State, scheduling_of}
use Rattle.omi_model.specs.Views.{IsChain, AreChains, task_row}
use Rattle.omi_model.specs.Visible.{IsVisibleTask}
use Rattle.omi_model.specs.WellFormed.{HasBegun, IsTaskRight, along, Ends}
use Rattle.omi_rep.specs.Codes.{task_code, task_told}
use Rattle.omi_rep.specs.Codes.{shown as visible}
use Rattle.omi_rep.specs.Records.{records_of, task_address}
use Rattle.omi_rep.specs.Look.{id_address, was_met, live_at, look_word}
use Rattle.omi_rep.specs.LookView.{look_nthreads, look_task, look_chain, look_tasks}
use Rattle.omi_rep.specs.Shows.{CodesStand, Shows}
use Rattle.omi_rep.proofs.Looks.{step}
use Rattle.omi_rep.proofs.Same.{same_task, task_slot}
use Rattle.omi_rep.specs.ShownLooks.{AreNames}
use Rattle.omi_rep.proofs.Lists.{given_back}
use Rattle.omi_rep.proofs.shown.ReadWords.{places_looked, word_looked, within_looked, object_looked, optional_looked, onward_looked, region_live, task_live, task_somewhere}
use Rattle.omi_rep.proofs.shown.Threads.{current_seen, current_looked}
use Rattle.omi_rep.proofs.shown.Walks.{Places, Walk, walk_begins, walk_onward, address_new, some_left}

map_same : {A : Type 0} (xs : List A) → map (λ x. x) xs ≡ xs
map_same [] = refl
map_same (x ∷ xs) = ap (λ ys. x ∷ ys) (map_same xs)

module _ (w : List ℕ) (words : Words) (s : State) (valid : IsValid w) (names : AreNames s)
    (shown : Shows w words s) where
  -- ---- a visible task
  module _ (k : Tid) (seen : IsVisibleTask s k) where
    abbrev t : Task
    t = seen.task

    abbrev at : ℕ
    at = id_address w tasks k.0

    told : CodesStand visible (task_code w (task_told t)) (records_of w words k.0.creator tasks k.0.slot)
    told = shown.records.tasks k seen

    right : IsTaskRight s t
    right = shown.within.well_formed.tasks k seen

    nthreads_looked : look_nthreads w words k.0 ≡ Ok t.variables.nthreads
    nthreads_looked =
        step _ _ (length t.variables.nthreads) _
        (within_looked w words at TaskNthreadsLength 1 4 _ (told TaskNthreadsLength 0 _ refl refl) right.variables.some right.variables.few)
        (places_looked (look_word w words at TaskNthreads) (λ (n : ℕ). n) 0 t.variables.nthreads element ∙ ap Ok (map_same t.variables.nthreads))
      where
        element : (j n : ℕ) → slice_get t.variables.nthreads j ≡ Some n
            → look_word w words at TaskNthreads (0 + j) ≡ Ok n
        element j n is =
            let e : 0 + j ≡ j = omega arith in ap (look_word w words at TaskNthreads) e ∙ word_looked w words at TaskNthreads j n (told TaskNthreads j n refl is)

    -- its row, where the task that it was scheduled from was not met
    task_looked : (i : ℕ) (met : List ℕ)
        → ((h : Tid) → t.scheduling ≡ Some h → was_met met (id_address w tasks h.0) ≡ false)
        → look_task w words met i k.0 ≡ Ok (task_row i k t)
    task_looked i met new =
        step _ _ _ _ (word_looked w words at TaskImplicit 0 _ (told TaskImplicit 0 _ refl refl))
        (step _ _ t.region.0 _ (object_looked w words regions at TaskRegion 0 t.region.0 (told TaskRegion 0 _ refl refl) (region_live w words s valid names shown t.region right.region))
        (step _ _ _ _ (word_looked w words at TaskFunction 0 _ (told TaskFunction 0 _ refl refl))
        (step _ _ _ _ (optional_looked w words tasks at TaskGenerating (λ (q : Tid). q.0) t.generating somewhere (λ g is. lives g (right.generating g is)) (told TaskGenerating 0 _ refl refl))
        (step _ _ _ _ (onward_looked w words tasks at TaskScheduling (λ (q : Tid). q.0) t.scheduling somewhere (λ h is. lives h (right.scheduling h is)) (told TaskScheduling 0 _ refl refl) met new)
        (step _ _ _ _ (word_looked w words at TaskExit 0 _ (told TaskExit 0 _ refl refl))
        (step _ _ _ _ (word_looked w words at TaskEnter 0 _ (told TaskEnter 0 _ refl refl))
        (step _ _ _ _ (word_looked w words at TaskTool 0 _ (told TaskTool 0 _ refl refl))
        (step _ _ _ _ (word_looked w words at TaskDynamic 0 _ (told TaskDynamic 0 _ refl refl))
        (step _ _ _ _ nthreads_looked
        (step _ _ _ _ (word_looked w words at TaskSchedule 0 _ (told TaskSchedule 0 _ refl refl))
        (step _ _ _ _ (word_looked w words at TaskDevice 0 _ (told TaskDevice 0 _ refl refl))
        (step _ _ _ _ (word_looked w words at TaskFinal 0 _ (told TaskFinal 0 _ refl refl))
        (ap₂ (λ (g h : Option Tid). Ok (record (task_row i k t) { generating = g; scheduling = h })) (named t.generating) (named t.scheduling))))))))))))))
      where
        named : (q : Option Tid)
            → option_map (λ (n : Id). record { 0 = n }) (option_map (λ (q : Tid). q.0) q) ≡ q
        named = given_back (λ (q : Tid). q.0) (λ (n : Id). record { 0 = n }) (λ q. refl)

        somewhere : (q : Tid) → 0 < id_address w tasks q.0
        somewhere = task_somewhere w words s valid names shown

        lives : (q : Tid) → IsVisibleTask s q → live_at w words tasks (id_address w tasks q.0) ≡ Some q.0
        lives = task_live w words s valid names shown

    -- the one that it was scheduled from
    scheduled : scheduling_of s k ≡ t.scheduling
    scheduled = ap (option_and_then (λ (u : Task). u.scheduling)) seen.live

  -- ---- a walk along a chain of tasks

  abbrev place : Tid → ℕ
  place k = index_of w tasks k.0.creator k.0.slot

  places : Places (scheduling_of s) (IsVisibleTask s) place (task_address w) (records w tasks)
  unfolding slot_address
  places = record {
    next_seen = λ k seen h is. (right k seen).scheduling h (sym (scheduled k seen) ∙ is);
    low = λ k seen. index_within w tasks k.0.creator k.0.slot (task_slot w words valid s shown k seen);
    one_place = λ k h seen also same. same_task w words valid s s shown shown k h seen also (ap (record_address w tasks) same);
    one_address = λ k h seen also same. same_task w words valid s s shown shown k h seen also same;
  }

  abbrev TaskWalk : ℕ → List Tid → Option Tid → Type 0
  TaskWalk = Walk (scheduling_of s) (IsVisibleTask s) place (records w tasks)

  chain_looked : (i left : ℕ) (before : List Tid) (now : Option Tid) → TaskWalk left before now
      → (rows : List TaskRow) × (look_chain w words left (map (task_address w) before) i (option_map (λ k. k.0) now) ≡ Ok rows) × IsChain s i now rows
  chain_looked i zero before None walk = ([], refl, tt)
  chain_looked i (suc left) before None walk = ([], refl, tt)
  chain_looked i zero before (Some k) walk =
      absurd
      (some_left (scheduling_of s) (IsVisibleTask s) place (task_address w) (records w tasks) places before k walk)
  chain_looked i (suc left) before (Some k) walk =
      let seen = walk.is_seen k refl in
      let onward =
      walk_onward (scheduling_of s) (IsVisibleTask s) place (task_address w)
      (records w tasks) places left before k walk in
      let then : TaskWalk left (k ∷ before) seen.task.scheduling =
      subst (TaskWalk left (k ∷ before)) (scheduled k seen) onward in
      let new =
      address_new (scheduling_of s) (IsVisibleTask s) place (task_address w) (records w tasks) places left
      (k ∷ before) seen.task.scheduling then in
      let (rows, are, chain) = chain_looked i left (k ∷ before) seen.task.scheduling then in (
        task_row i k seen.task ∷ rows,
        step _ _ (task_row i k seen.task) _ (task_looked k seen i (map (task_address w) (k ∷ before)) new) (step _ _ rows _ are refl),
        (seen.task, seen.live, refl, chain),
      )

  -- the chain of a thread that has begun
  pub tasks_looked : (i : ℕ) → HasBegun s i
      → (rows : List TaskRow) × (look_tasks w words i ≡ Ok rows) × IsChain s i (s.threads i).current rows
  tasks_looked i has =
      let seen = current_seen w words s valid names shown i has in
      let (rows, are, chain) = chain_looked i (records w tasks) [] (s.threads i).current
      (walk_begins (scheduling_of s) (IsVisibleTask s) place (task_address w) (records w tasks) (s.threads i).current seen (ends (s.threads i).current seen)) in
      (rows, step _ _ _ _ (current_looked w words s valid names shown i has) are, chain)
    where
      ends : (o : Option Tid) → ((k : Tid) → o ≡ Some k → IsVisibleTask s k) → Ends (scheduling_of s) o
      ends None seen = (0, refl)
      ends (Some k) seen =
          let is = seen k refl in
          let (n, end) = (right k is).ends in
          (suc n, ap (along (scheduling_of s) n) (scheduled k is) ∙ end)

-- the chains of all threads
pub chains_are : (s : State) (threads : List ℕ) (chains : List (List TaskRow))
    → AllZip (λ i rows. IsChain s i (s.threads i).current rows) threads chains
    → AreChains s threads (flat_map (λ rows. rows) chains)
chains_are s [] [] all = refl
chains_are s [] (rows ∷ chains) all = absurd all
chains_are s (i ∷ threads) [] all = absurd all
chains_are s (i ∷ threads) (rows ∷ chains) all =
    (rows, flat_map (λ rows. rows) chains, refl, all.0, chains_are s threads chains all.1)
