-- Over words that show a state, each variable of what is asked about is the state's, and what is no variable of it is none of the state.
use Rattle.std.proofs.Common.{◌≡◌, ◌==◌, ◌+◌, ◌*◌, ℕ, false, List, length, Option, Some, None, refl, sym, ap, subst, ◌∙◌}
use Rattle.std.specs.Prelude.{Result, Ok, Err}
use Rattle.std.specs.Option.{option_map, option_and_then, ok_or}
use Rattle.omi_calls.specs.Told.{Told}
use Rattle.omi_handle.specs.declared.handle.Kind.TheVariants as kind
use Rattle.omi_layout.specs.declared.field.Field.TheVariants.{RuntimeProcs, RuntimeDebug, RuntimeMaxActive, ThreadCurrent, RegionLevels, RegionActive, TaskImplicit, TaskNthreads, TaskNthreadsLength, TaskNumber, TaskDynamic, TaskSchedule, TaskDevice, TaskFinal}
use Rattle.omi_model.specs.declared.id.Rid.{Rid}
use Rattle.omi_model.specs.declared.id.Tid.{Tid}
use Rattle.omi_model.specs.declared.task.Task.{Task}
use Rattle.omi_numbers.specs.Words.{flag}
use Rattle.omi_model.specs.State.{State, task_of, current_task}
use Rattle.omi_model.specs.Visible.{IsVisibleRegion, IsVisibleTask}
use Rattle.omi_model.specs.WellFormed.{HasBegun}
use Rattle.omi_rep.specs.Records.{runtime_address, thread_address, region_address, task_address}
use Rattle.omi_session.specs.declared.rc.Rc.{Rc}
use Rattle.omi_session.specs.declared.rc.Rc.TheVariants.{Unavailable, Unsupported}
use Rattle.omi_session.specs.Reads.{answer_on}
use Rattle.omi_session.specs.Inquiry.{follow_some}
use Rattle.omi_session.specs.Shown.{ShowsTold, held_task, as_held}
use Rattle.omi_session.proofs.ShownParts.{then_answered, then_refused, word_told}
use Rattle.omi_session.proofs.ShownAnswers.{some_task, size_told}
use Rattle.omi_icv.specs.declared.scoped.Scope.{Scope}
use Rattle.omi_icv.specs.declared.scoped.Scope.TheVariants.{AddressSpace, Thread, Parallel, Task as TaskScope}
use Rattle.omi_icv.specs.declared.variable.Source.TheVariants.{TeamSize, MemberNumber}
use Rattle.omi_icv.specs.declared.variable.Spelling.TheVariants.{Decimal, Schedule, Switch}
use Rattle.omi_icv.specs.Table.{row_of, in_scope, variable_in}
use Rattle.omi_icv.specs.Values.{member_number}
use Rattle.omi_icv.specs.StateValues.{Content, of_number, value_in, space_values, thread_values, region_values, task_values}
use Rattle.omi_icv.proofs.ByNumber.{by_number}
use Rattle.omi_icv.proofs.Shown.{Agrees, unsupported_agrees, number_agrees, refusal_agrees, word_agrees, elements_agree, switch_text, schedule_spelled}

-- no row has another number than the variables have
no_row : (n : ℕ) → n == 1 ≡ false → n == 2 ≡ false → n == 3 ≡ false → n == 4 ≡ false → n == 5 ≡ false
    → n == 6 ≡ false → n == 7 ≡ false
    → n == 8 ≡ false → n == 9 ≡ false → n == 10 ≡ false → n == 11 ≡ false → n == 12 ≡ false → n == 13 ≡ false → row_of n ≡ None
no_row n a b c d e f g h i j k l m = rw (a, b, c, d, e, f, g, h, i, j, k, l, m) refl

module _ (w : List ℕ) (s : State) (told : Told) (shown : ShowsTold told w s) where
  -- neither side has a variable
  module _ (address : ℕ) (scope : Scope) (values : List (ℕ × Result Content Rc)) where
    neither : (n : ℕ) → row_of n ≡ None → value_in values n ≡ Err Unsupported
        → Agrees w shown.memory address (variable_in scope n) (value_in values n)
    neither n none unknown =
        subst (Agrees w shown.memory address (variable_in scope n)) (sym unknown)
        (subst (λ o. Agrees w shown.memory address (ok_or (option_and_then (in_scope scope) o) Unsupported) (Err Unsupported)) (sym none) (unsupported_agrees w shown.memory address))

  pub space_agrees : (icv : ℕ)
      → Agrees w shown.memory (runtime_address w) (variable_in AddressSpace icv) (value_in (space_values s) icv)
  space_agrees =
      let globals = shown.shows.records.globals in
      let address = runtime_address w in
      let none = unsupported_agrees w shown.memory address in
      by_number
      (λ icv. Agrees w shown.memory address (variable_in AddressSpace icv) (value_in (space_values s) icv))
      none none none none none none
      (word_agrees w shown.memory address AddressSpace RuntimeMaxActive Decimal s.max_active _ (globals RuntimeMaxActive 0 _ refl refl) refl)
      (word_agrees w shown.memory address AddressSpace RuntimeDebug Switch (flag s.environment.debug) _ (globals RuntimeDebug 0 _ refl refl) (switch_text s.environment.debug))
      (word_agrees w shown.memory address AddressSpace RuntimeProcs Decimal s.environment.procs _ (globals RuntimeProcs 0 _ refl refl) refl)
      none none none none
      (λ n a b c d e f g h i j k l m. neither address AddressSpace (space_values s) n (no_row n a b c d e f g h i j k l m) (rw (g, h, i) refl))

  pub region_agrees : (name : Rid) (seen : IsVisibleRegion s name) (icv : ℕ)
      → Agrees w shown.memory (region_address w name) (variable_in Parallel icv) (value_in (region_values seen.region) icv)
  region_agrees name seen =
      let records = shown.shows.records.regions name seen in
      let address = region_address w name in
      let none = unsupported_agrees w shown.memory address in
      by_number
      (λ icv. Agrees w shown.memory address (variable_in Parallel icv) (value_in (region_values seen.region) icv))
      none none none none none none none none none
      (word_agrees w shown.memory address Parallel RegionLevels Decimal seen.region.levels _ (records RegionLevels 0 _ refl refl) refl)
      (word_agrees w shown.memory address Parallel RegionActive Decimal seen.region.active _ (records RegionActive 0 _ refl refl) refl)
      (number_agrees w shown.memory address (record { scope = Parallel; source = TeamSize; spelling = Decimal }) (length seen.region.team) _ refl (size_told told w s shown name seen) refl)
      none
      (λ n a b c d e f g h i j k l m. neither address Parallel (region_values seen.region) n (no_row n a b c d e f g h i j k l m) (rw (j, k, l) refl))

  pub task_agrees : (name : Tid) (seen : IsVisibleTask s name) (icv : ℕ)
      → Agrees w shown.memory (task_address w name) (variable_in TaskScope icv) (value_in (task_values seen.task) icv)
  task_agrees name seen =
      let records = shown.shows.records.tasks name seen in
      let right = (shown.shows.within.well_formed.tasks name seen).variables in
      let t = seen.task in
      let address = task_address w name in
      let none = unsupported_agrees w shown.memory address in
      by_number
      (λ icv. Agrees w shown.memory address (variable_in TaskScope icv) (value_in (task_values t) icv))
      (word_agrees w shown.memory address TaskScope TaskDynamic Decimal (flag t.variables.dynamic) _ (records TaskDynamic 0 _ refl refl) refl)
      (elements_agree w shown.memory address t.variables.nthreads right.some right.few (records TaskNthreadsLength 0 _ refl refl) (λ j n is. records TaskNthreads j n refl is) TaskScope)
      (word_agrees w shown.memory address TaskScope TaskSchedule Schedule (t.variables.schedule.chunk * 8 + t.variables.schedule.kind) _ (records TaskSchedule 0 _ refl refl) (schedule_spelled t.variables.schedule right.kind_from right.kind_to))
      (word_agrees w shown.memory address TaskScope TaskDevice Decimal t.variables.device _ (records TaskDevice 0 _ refl refl) refl)
      (word_agrees w shown.memory address TaskScope TaskFinal Decimal (flag t.is_final) _ (records TaskFinal 0 _ refl refl) refl)
      (word_agrees w shown.memory address TaskScope TaskImplicit Decimal (flag t.implicit) _ (records TaskImplicit 0 _ refl refl) refl)
      none none none none none none none
      (λ n a b c d e f g h i j k l m. neither address TaskScope (task_values t) n (no_row n a b c d e f g h i j k l m) (rw (a, b, c, d, e, f) refl))

  -- the number of a thread's current task
  leads : (i : ℕ) → HasBegun s i
      → answer_on shown.memory (follow_some w kind.Task (thread_address w i) ThreadCurrent) ≡ as_held (held_task w) (ok_or (s.threads i).current Unavailable)
  leads i begun =
      some_task told w s shown (thread_address w i) ThreadCurrent (s.threads i).current
      (λ k is. shown.shows.within.well_formed.currents i k begun.known is)
      (shown.shows.records.threads i begun.known begun.begun ThreadCurrent 0 _ refl refl)

  member_told : (i : ℕ) → HasBegun s i
      → answer_on shown.memory (member_number w (thread_address w i)) ≡ ok_or (option_map (λ t. t.number) (current_task s i)) Unavailable
  unfolding member_number
  member_told i begun = go (s.threads i).current refl
    where
      go : (o : Option Tid) → (s.threads i).current ≡ o
          → answer_on shown.memory (member_number w (thread_address w i)) ≡ ok_or (option_map (λ (t : Task). t.number) (option_and_then (task_of s) (s.threads i).current)) Unavailable
      go None e =
          then_refused shown.memory (follow_some w kind.Task (thread_address w i) ThreadCurrent) _ Unavailable
          (leads i begun ∙ ap (λ o. as_held (held_task w) (ok_or o Unavailable)) e)
          ∙ sym
          (ap (λ o. ok_or (option_map (λ (t : Task). t.number) (option_and_then (task_of s) o)) Unavailable) e)
      go (Some k) e =
          let seen = shown.shows.within.well_formed.currents i k begun.known e in
          then_answered shown.memory (follow_some w kind.Task (thread_address w i) ThreadCurrent) _
          (held_task w k) (leads i begun ∙ ap (λ o. as_held (held_task w) (ok_or o Unavailable)) e)
          ∙ word_told w shown.memory (task_address w k) TaskNumber 0 seen.task.number
          (shown.shows.records.tasks k seen TaskNumber 0 _ refl refl)
          ∙ sym (ap (λ o. ok_or (option_map (λ (t : Task). t.number) (option_and_then (task_of s) o)) Unavailable) e
          ∙ ap (λ o. ok_or (option_map (λ (t : Task). t.number) o) Unavailable) seen.live)

  number_alone_agrees : (address : ℕ) (o : Option Task)
      → answer_on shown.memory (member_number w address) ≡ ok_or (option_map (λ (t : Task). t.number) o) Unavailable
      → Agrees w shown.memory address
      (Ok (record { scope = Thread; source = MemberNumber; spelling = Decimal }))
      (ok_or (option_map (λ (t : Task). of_number t.number) o) Unavailable)
  number_alone_agrees address None is =
      refusal_agrees w shown.memory address
      (record { scope = Thread; source = MemberNumber; spelling = Decimal }) Unavailable refl is
  number_alone_agrees address (Some t) is =
      number_agrees w shown.memory address
      (record { scope = Thread; source = MemberNumber; spelling = Decimal }) t.number _ refl is refl

  pub thread_agrees : (i : ℕ) → HasBegun s i → (icv : ℕ)
      → Agrees w shown.memory (thread_address w i) (variable_in Thread icv) (value_in (thread_values s i) icv)
  thread_agrees i begun =
      let address = thread_address w i in
      let none = unsupported_agrees w shown.memory address in
      by_number
      (λ icv. Agrees w shown.memory address (variable_in Thread icv) (value_in (thread_values s i) icv))
      none none none none none none none none none none none none
      (number_alone_agrees address (current_task s i) (member_told i begun))
      (λ n a b c d e f g h i' j k l m. neither address Thread (thread_values s i) n (no_row n a b c d e f g h i' j k l m) (rw m refl))
