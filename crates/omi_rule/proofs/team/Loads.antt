-- The loads of a parallel construct: the levels of the current region, and the data environment of the current task.
use Rattle.std.proofs.Common.{◌≡◌, ◌≢◌, ◌+◌, ◌==◌, ◌<◌, nat_lt, ℕ, zero, suc, Bool, true, false, List, length, slice_index, slice_set, refl, sym, ap, ◌∙◌, subst, arith, eq-eqb, eqb-true, ltb-true, if◌then◌else◌}
use Rattle.std.proofs.lemmas.List.{get_or-set_other, get_or-set_same, length-set}
use Rattle.std.proofs.lemmas.Bool.Decides.{nat_tests}
use Rattle.omi_word.specs.declared.op.Op.TheVariants as op
use Rattle.omi_script.specs.declared.program.Program.{Program}
use Rattle.omi_model.specs.declared.event.Event.{Event}
use Rattle.omi_model.specs.declared.id.Id.{Id}
use Rattle.omi_model.specs.declared.region.Region.{Region}
use Rattle.omi_model.specs.declared.task.Task.{Task}
use Rattle.omi_model.specs.State.{State}
use Rattle.omi_model.proofs.Slots.{some_same}
use Rattle.omi_layout.specs.declared.field.Field.TheVariants.{RegionActive, RegionLevels, TaskDevice, TaskDynamic, TaskNthreads, TaskNthreadsLength, TaskSchedule}
use Rattle.omi_layout.specs.Field.{kind_of, tasks}
use Rattle.omi_layout.specs.Memory.{IsRecordWord, Memory, Rec}
use Rattle.omi_layout.specs.Named.{number}
use Rattle.omi_layout.specs.Place.{IsSlot}
use Rattle.omi_pc.specs.declared.actor.Actor.{Actor}
use Rattle.omi_pc.specs.declared.counter.Counter.TheVariants as counter
use Rattle.omi_pc.specs.declared.gathered.Gathered.{Gathered}
use Rattle.omi_pc.specs.declared.limits.TheConstants.{VARIABLE_WORDS}
use Rattle.omi_pc.specs.declared.team_counter.TeamCounter.TheVariants as team
use Rattle.omi_rep.specs.declared.outcome.Outcome.TheVariants as outcome
use Rattle.omi_rule_words.specs.Objects.{KeepsEnvironment}
use Rattle.omi_step_words.specs.Moving.{to_team, with_loaded_variable}
use Rattle.omi_step_words.specs.Plan.{of_variable, variable_at}
use Rattle.omi_step_words.specs.Words.{of_region}
use Rattle.omi_fork.specs.TeamSteps.{team_moved, team_next, team_outcome}
use Rattle.omi_rule.specs.Rows.{IsVariable, KnowsVariables}
use Rattle.omi_rule.specs.Steps.{KeepsRule, RecordWord, StepKeeps, found_in}
use Rattle.omi_rule.proofs.Assembly.{Before, load_stays}
use Rattle.omi_rule.proofs.team.Within.{context, fits, going, goes_on, own, owes, region_record, region_slot, row, task_record, task_slot}

module _ (p : Program) (w : List ℕ) (m : Memory) (events : List (ℕ × Event)) (s : State) (actors : ℕ → Actor)
    (i : ℕ) (before : Before p w m events s actors i) where
  abbrev a : Actor
  a = actors i

  abbrev g : Gathered
  g = (actors i).gathered

  pub levels_keep : (actors i).counter ≡ counter.Team team.LoadLevels
      → StepKeeps p w m events s actors i (team_next p w (actors i) team.LoadLevels)
      (λ old. (team_moved p w (actors i) team.LoadLevels old, team_outcome p w (actors i) team.LoadLevels old))
  levels_keep at =
      let n = (actors i).context.region in
      let x : RecordWord = record { creator = n.0.creator; slot = n.0.slot; field = RegionLevels; place = 0 } in
      let o = context p w m events s actors i before team.LoadLevels at in
      let word : found_in m x ≡ o.region.levels = (region_record p w m events s actors i before team.LoadLevels at).codes RegionLevels 0 _ refl in (
        x,
        record { there = record { field = record { from = omega arith; to = omega arith }; record_slot = region_slot p w m events s actors i before team.LoadLevels at; within = omega arith }; address = refl },
        load_stays p w m events s actors i before (of_region w n RegionLevels) x
            (going team.LoadActive (record g { levels = found_in m x }) a)
            (sym (owes p w m events s actors i before team.LoadLevels at))
            (goes_on p w m events s actors i before team.LoadLevels at m team.LoadActive (record g { levels = found_in m x }) (own p w m events s actors i before team.LoadLevels at).fits.variables refl
            (fits p w m events s actors i before team.LoadLevels at) tt (o.region, o.found, sym word)),
      )

  pub active_keeps : (actors i).counter ≡ counter.Team team.LoadActive
      → StepKeeps p w m events s actors i (team_next p w (actors i) team.LoadActive)
      (λ old. (team_moved p w (actors i) team.LoadActive old, team_outcome p w (actors i) team.LoadActive old))
  active_keeps at =
      let n = (actors i).context.region in
      let x : RecordWord = record { creator = n.0.creator; slot = n.0.slot; field = RegionActive; place = 0 } in
      let o = context p w m events s actors i before team.LoadActive at in
      let (r, found, levels) = row p w m events s actors i before team.LoadActive at in
      let same : o.region ≡ r = some_same o.found found in
      let word : found_in m x ≡ o.region.active =
      (region_record p w m events s actors i before team.LoadActive at).codes RegionActive 0 _ refl in
      let fits_now = fits p w m events s actors i before team.LoadActive at in (
        x,
        record { there = record { field = record { from = omega arith; to = omega arith }; record_slot = region_slot p w m events s actors i before team.LoadActive at; within = omega arith }; address = refl },
        load_stays p w m events s actors i before (of_region w n RegionActive) x
            (going (team.LoadVariable 0) (record g { active = found_in m x }) a)
            (sym (owes p w m events s actors i before team.LoadActive at))
            (goes_on p w m events s actors i before team.LoadActive at m (team.LoadVariable 0) (record g { active = found_in m x }) (own p w m events s actors i before team.LoadActive at).fits.variables refl
            (fits_now, omega arith) tt
            ((r, found, levels, sym (word ∙ ap (λ (y : Region). y.active) same)), (o.task, o.live, λ j below. absurd (omega (arith, below))))),
      )

-- ---- the data environment

-- where the words of a data environment stand
pub variable_field : (word : ℕ) → word < VARIABLE_WORDS → kind_of (number (variable_at word).0) ≡ tasks
variable_field zero below = refl
variable_field (suc zero) below = refl
variable_field (suc (suc zero)) below = refl
variable_field (suc (suc (suc zero))) below = refl
variable_field (suc (suc (suc (suc zero)))) below = refl
variable_field (suc (suc (suc (suc (suc zero))))) below = refl
variable_field (suc (suc (suc (suc (suc (suc zero)))))) below = refl
variable_field (suc (suc (suc (suc (suc (suc (suc zero))))))) below = refl
variable_field (suc (suc (suc (suc (suc (suc (suc (suc n)))))))) below = absurd (omega (arith, below))

pub variable_word : (w : List ℕ) (k : Id) (word : ℕ) → word < VARIABLE_WORDS → IsSlot w tasks k.creator k.slot
    → IsRecordWord w k.creator k.slot (number (variable_at word).0) (variable_at word).1
variable_word w k zero below o = record { field = record { from = omega arith; to = omega arith }; record_slot = o; within = omega arith }
variable_word w k (suc zero) below o = record { field = record { from = omega arith; to = omega arith }; record_slot = o; within = omega arith }
variable_word w k (suc (suc zero)) below o = record { field = record { from = omega arith; to = omega arith }; record_slot = o; within = omega arith }
variable_word w k (suc (suc (suc zero))) below o = record { field = record { from = omega arith; to = omega arith }; record_slot = o; within = omega arith }
variable_word w k (suc (suc (suc (suc zero)))) below o = record { field = record { from = omega arith; to = omega arith }; record_slot = o; within = omega arith }
variable_word w k (suc (suc (suc (suc (suc zero))))) below o = record { field = record { from = omega arith; to = omega arith }; record_slot = o; within = omega arith }
variable_word w k (suc (suc (suc (suc (suc (suc zero)))))) below o = record { field = record { from = omega arith; to = omega arith }; record_slot = o; within = omega arith }
variable_word w k (suc (suc (suc (suc (suc (suc (suc zero))))))) below o = record { field = record { from = omega arith; to = omega arith }; record_slot = o; within = omega arith }
variable_word w k (suc (suc (suc (suc (suc (suc (suc (suc n)))))))) below o = absurd (omega (arith, below))

-- they are the codes of it
pub variable_is : (w : List ℕ) (r : Rec) (t : Task) (word : ℕ) → word < VARIABLE_WORDS
    → KeepsEnvironment w r t
    → IsVariable t.variables word (r (number (variable_at word).0) (variable_at word).1)
variable_is w r t zero below o = o TaskDynamic 0 _ refl refl
variable_is w r t (suc zero) below o = o TaskNthreadsLength 0 _ refl refl
variable_is w r t (suc (suc zero)) below o = o TaskSchedule 0 _ refl refl
variable_is w r t (suc (suc (suc zero))) below o = o TaskDevice 0 _ refl refl
variable_is w r t (suc (suc (suc (suc zero)))) below o = λ n there. o TaskNthreads 0 n refl there
variable_is w r t (suc (suc (suc (suc (suc zero))))) below o = λ n there. o TaskNthreads 1 n refl there
variable_is w r t (suc (suc (suc (suc (suc (suc zero)))))) below o = λ n there. o TaskNthreads 2 n refl there
variable_is w r t (suc (suc (suc (suc (suc (suc (suc zero))))))) below o =
    λ n there. o TaskNthreads 3 n refl there
variable_is w r t (suc (suc (suc (suc (suc (suc (suc (suc n)))))))) below o = absurd (omega (arith, below))

-- one word more of it is gathered
pub variables_more : (t : Task) (old : List ℕ) (word value : ℕ) → length old ≡ VARIABLE_WORDS
    → word < VARIABLE_WORDS → ((j : ℕ) → j < word → IsVariable t.variables j (slice_index old j))
    → IsVariable t.variables word value
    → (j : ℕ) → j < word + 1 → IsVariable t.variables j (slice_index (slice_set old word value) j)
variables_more t old word value whole below are here j within = go (j == word) refl
  where
    go : (b : Bool) → j == word ≡ b → IsVariable t.variables j (slice_index (slice_set old word value) j)
    go true e =
        let same : j ≡ word = eqb-true j word e in
        subst (λ k. IsVariable t.variables k (slice_index (slice_set old word value) k)) (sym same)
        (subst (IsVariable t.variables word) (sym (get_or-set_same old word value 0 (omega (arith, below, whole)))) here)
    go false e =
        let apart : j ≢ word = λ same. cc (sym (eq-eqb j word same), e) in
        subst (IsVariable t.variables j) (sym (get_or-set_other old word j value 0 apart))
        (are j (omega (arith, within, apart)))

module _ (p : Program) (w : List ℕ) (m : Memory) (events : List (ℕ × Event)) (s : State) (actors : ℕ → Actor)
    (i : ℕ) (before : Before p w m events s actors i) (word : ℕ)
    (at : (actors i).counter ≡ counter.Team (team.LoadVariable word)) where
  abbrev Name : Id
  Name = (actors i).context.task.0

  abbrev X : RecordWord
  X = record { creator = (actors i).context.task.0.creator; slot = (actors i).context.task.0.slot; field = (variable_at word).0; place = (variable_at word).1 }

  abbrev Then : Gathered
  Then =
      record (actors i).gathered { variables = slice_set (actors i).gathered.variables word (found_in m X) }

  below : word < VARIABLE_WORDS
  below = (fits p w m events s actors i before (team.LoadVariable word) at).1

  variables : length Then.variables ≡ VARIABLE_WORDS
  variables =
      length-set (actors i).gathered.variables word (found_in m X)
      ∙ (own p w m events s actors i before (team.LoadVariable word) at).fits.variables

  -- one word more is known
  known : KnowsVariables s (going team.Want Then (actors i)) (word + 1)
  known =
      let (active, (t, live, are)) = row p w m events s actors i before (team.LoadVariable word) at in
      let o = context p w m events s actors i before (team.LoadVariable word) at in
      let same : o.task ≡ t = some_same o.live live in
      let found : found_in m X ≡ m Name.creator tasks Name.slot (number (variable_at word).0) (variable_at word).1 =
      ap (λ kind. m Name.creator kind Name.slot (number (variable_at word).0) (variable_at word).1)
      (variable_field word below) in
      let here : IsVariable t.variables word (found_in m X) =
      subst (IsVariable t.variables word) (sym found)
      (subst (λ (v : Task). IsVariable v.variables word (m Name.creator tasks Name.slot (number (variable_at word).0) (variable_at word).1)) same
      (variable_is w (m Name.creator tasks Name.slot) o.task word below (task_record p w m events s actors i before (team.LoadVariable word) at))) in
      (t, live, variables_more t (actors i).gathered.variables word (found_in m X) (own p w m events s actors i before (team.LoadVariable word) at).fits.variables below are here)

  pub variable_keeps : StepKeeps p w m events s actors i (team_next p w (actors i) (team.LoadVariable word)) (λ old. (team_moved p w (actors i) (team.LoadVariable word) old, team_outcome p w (actors i) (team.LoadVariable word) old))
  variable_keeps = (
    X,
    record { there = variable_word w Name word below (task_slot p w m events s actors i before (team.LoadVariable word) at); address = refl },
    go (nat_lt (word + 1) VARIABLE_WORDS) refl,
  )
    where
      go : (b : Bool) → nat_lt (word + 1) VARIABLE_WORDS ≡ b
          → KeepsRule p w m events s actors i (op.Load (of_variable w Name word)) X (to_team (if b then team.LoadVariable (word + 1) else team.Want) (with_loaded_variable word (found_in m X) (actors i)), outcome.Quiet)
      go true e =
          let next : word + 1 < VARIABLE_WORDS = ltb-true (word + 1) VARIABLE_WORDS e in
          let (active, others) = row p w m events s actors i before (team.LoadVariable word) at in
          load_stays p w m events s actors i before (of_variable w Name word) X
          (going (team.LoadVariable (word + 1)) Then (actors i))
          (sym (owes p w m events s actors i before (team.LoadVariable word) at))
          (goes_on p w m events s actors i before (team.LoadVariable word) at m (team.LoadVariable (word + 1)) Then variables refl
          ((fits p w m events s actors i before (team.LoadVariable word) at).0, next) tt (active, known))
      go false e =
          let all : word + 1 ≡ VARIABLE_WORDS = grind (arith, nat_tests, below) in
          let (active, others) = row p w m events s actors i before (team.LoadVariable word) at in
          load_stays p w m events s actors i before (of_variable w Name word) X
          (going team.Want Then (actors i))
          (sym (owes p w m events s actors i before (team.LoadVariable word) at))
          (goes_on p w m events s actors i before (team.LoadVariable word) at m team.Want Then variables refl
          (fits p w m events s actors i before (team.LoadVariable word) at).0 tt (record { region = active; task = subst (KnowsVariables s (going team.Want Then (actors i))) all known }))
