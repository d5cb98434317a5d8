-- The searches of a parallel construct for records: one that is free is taken, and the thread waits on any other.
use Rattle.std.proofs.Common.{◌≡◌, ◌<◌, inl, ℕ, Bool, true, false, List, refl, sym, ap, ◌∙◌, subst, arith, if◌then◌else◌}
use Rattle.omi_word.specs.declared.op.Op.TheVariants as op
use Rattle.omi_script.specs.declared.program.Program.{Program}
use Rattle.omi_model.specs.declared.event.Event.{Event}
use Rattle.omi_model.specs.declared.id.Rid.{Rid}
use Rattle.omi_model.specs.declared.id.Tid.{Tid}
use Rattle.omi_model.specs.State.{State}
use Rattle.omi_layout.specs.declared.field.Field.TheVariants.{RegionLife, TaskLife}
use Rattle.omi_layout.specs.Field.{regions, tasks}
use Rattle.omi_layout.specs.Memory.{Memory}
use Rattle.omi_layout.specs.Place.{IsSlot}
use Rattle.omi_pc.specs.declared.actor.Actor.{Actor}
use Rattle.omi_pc.specs.declared.counter.Counter.TheVariants as counter
use Rattle.omi_pc.specs.declared.team_counter.TeamCounter.{TeamCounter}
use Rattle.omi_pc.specs.declared.team_counter.TeamCounter.TheVariants as team
use Rattle.omi_rep.specs.declared.outcome.Outcome.TheVariants as outcome
use Rattle.omi_rule_words.specs.Counts.{has_region_slot, has_slot}
use Rattle.omi_rule_words.specs.Objects.{KeepsLife}
use Rattle.omi_rule_words.specs.Owes.{Owed, owed}
use Rattle.omi_step_words.specs.Moving.{to_team}
use Rattle.omi_step_words.specs.Searches.{next_slot, own_place}
use Rattle.omi_step_words.specs.Words.{is_free, object_in, of_place}
use Rattle.omi_fork.specs.TeamSteps.{team_moved, team_next, team_outcome}
use Rattle.omi_rule.specs.Rows.{HasFilled, HasTeam}
use Rattle.omi_rule.specs.Steps.{KeepsRule, RecordWord, StepKeeps, found_in}
use Rattle.omi_rule.specs.Waits as Waits
use Rattle.omi_rule.proofs.Assembly.{Before, load_stays, load_waits}
use Rattle.omi_rule.proofs.SlotGenerations.{slots_few}
use Rattle.omi_rule.proofs.team.Records.{filled_as_before, free_slot, is_forking, next_within, taken_slot, team_goes}
use Rattle.omi_rule.proofs.team.Within.{fits, goes_on, own, owes, placed, row}

module _ (p : Program) (w : List ℕ) (m : Memory) (events : List (ℕ × Event)) (s : State) (actors : ℕ → Actor)
    (i : ℕ) (before : Before p w m events s actors i) where
  -- the thread is one of the layout
  makes : (actors i).thread ≡ i → (actors i).thread < s.count
  makes same = let known = before.known in omega (arith, same, known)

  module _ (slot : ℕ) (at : (actors i).counter ≡ counter.Team (team.LoadRegionLife slot)) where
    abbrev C : TeamCounter
    C = team.LoadRegionLife slot

    abbrev X : RecordWord
    X = record { creator = (actors i).thread; slot = slot; field = RegionLife; place = 0 }

    mine : (actors i).thread ≡ i
    mine = (own p w m events s actors i before C at).thread

    life : KeepsLife (m (actors i).thread regions slot) RegionLife (s.regions i slot) (has_region_slot slot (owed (actors i)).region)
    life =
        subst
        (λ j. KeepsLife (m j regions slot) RegionLife (s.regions i slot) (has_region_slot slot (owed (actors i)).region))
        (sym mine)
        (((before.rule.words.made i before.known).regions slot (placed p w m events s actors i before C at)).life)

    pub region_search_keeps : StepKeeps p w m events s actors i (team_next p w (actors i) C) (λ old. (team_moved p w (actors i) C old, team_outcome p w (actors i) C old))
    region_search_keeps = (
      X,
      record {
        there = record {
          field = record { from = omega arith; to = omega arith };
          record_slot = record { made_by = (let known = before.known in let count = before.rule.within.count in let same = mine in omega (arith, same, known, count)); within = placed p w m events s actors i before C at };
          within = omega arith;
        };
        address = refl;
      },
      go (is_free (found_in m X)) refl,
    )
      where
        go : (b : Bool) → is_free (found_in m X) ≡ b
            → KeepsRule p w m events s actors i
            (op.Load (of_place w (own_place (actors i) slot) RegionLife)) X
            (to_team (if b then team.TakeRegion (record { 0 = object_in (own_place (actors i) slot) (found_in m X) }) else team.LoadRegionLife (next_slot w regions slot)) (actors i), if b then outcome.Quiet else outcome.NotReady (of_place w (own_place (actors i) slot) RegionLife) (found_in m X))
        go true free =
            let r : Rid = record { 0 = object_in (own_place (actors i) slot) (found_in m X) } in
            let (fresh, none) =
            free_slot s.regions i (actors i).thread slot RegionLife (m (actors i).thread regions slot)
            (has_region_slot slot (owed (actors i)).region) mine life free in
            load_stays p w m events s actors i before (of_place w (own_place (actors i) slot) RegionLife) X
            (to_team (team.TakeRegion r) (actors i)) (sym (owes p w m events s actors i before C at))
            (goes_on p w m events s actors i before C at m (team.TakeRegion r) (actors i).gathered (own p w m events s actors i before C at).fits.variables refl
            (fits p w m events s actors i before C at, refl)
            (record { made_by = (let known = before.known in let count = before.rule.within.count in let same = mine in omega (arith, same, known, count)); within = placed p w m events s actors i before C at })
            (team_goes s i (actors i) (team.TakeRegion r) (actors i).gathered.team refl (row p w m events s actors i before C at), fresh))
        go false taken =
            load_waits p w m events s actors i before (of_place w (own_place (actors i) slot) RegionLife) X
            (to_team (team.LoadRegionLife (next_slot w regions slot)) (actors i))
            (Waits.ForRegion (is_forking p w m events s actors i before C at refl (fits p w m events s actors i before C at).0, (row p w m events s actors i before C at).over)
            (record {
              slot = slot;
              within = placed p w m events s actors i before C at;
              address_is = ap (λ j. of_place w (record { creator = j; slot = slot }) RegionLife) mine;
              taken = taken_slot (s.regions i slot) RegionLife (m (actors i).thread regions slot) (has_region_slot slot (owed (actors i)).region) life ((slots_few p events s before.rule.reached).0 i slot) taken;
            }))
            (sym (owes p w m events s actors i before C at))
            (goes_on p w m events s actors i before C at m (team.LoadRegionLife (next_slot w regions slot)) (actors i).gathered (own p w m events s actors i before C at).fits.variables refl
            (fits p w m events s actors i before C at)
            (next_within w regions slot (placed p w m events s actors i before C at))
            (team_goes s i (actors i) (team.LoadRegionLife (next_slot w regions slot)) (actors i).gathered.team refl (row p w m events s actors i before C at)))

  module _ (r : Rid) (member slot : ℕ)
      (at : (actors i).counter ≡ counter.Team (team.LoadTaskLife r member slot)) where
    abbrev D : TeamCounter
    D = team.LoadTaskLife r member slot

    abbrev Y : RecordWord
    Y = record { creator = (actors i).thread; slot = slot; field = TaskLife; place = 0 }

    same_thread : (actors i).thread ≡ i
    same_thread = (own p w m events s actors i before D at).thread

    task_life : KeepsLife (m (actors i).thread tasks slot) TaskLife (s.tasks i slot) (has_slot slot (owed (actors i)).tasks)
    task_life =
        subst
        (λ j. KeepsLife (m j tasks slot) TaskLife (s.tasks i slot) (has_slot slot (owed (actors i)).tasks))
        (sym same_thread)
        (((before.rule.words.made i before.known).tasks slot (placed p w m events s actors i before D at).1).life)

    there : IsSlot w tasks (actors i).thread slot
    there = record { made_by = (let known = before.known in let count = before.rule.within.count in let same = same_thread in omega (arith, same, known, count)); within = (placed p w m events s actors i before D at).1 }

    pub task_search_keeps : StepKeeps p w m events s actors i (team_next p w (actors i) D) (λ old. (team_moved p w (actors i) D old, team_outcome p w (actors i) D old))
    task_search_keeps = (
      Y,
      record { there = record { field = record { from = omega arith; to = omega arith }; record_slot = there; within = omega arith }; address = refl },
      go (is_free (found_in m Y)) refl,
    )
      where
        asks : HasTeam s i (actors i)
        asks = (row p w m events s actors i before D at).0

        filled : HasFilled p w m (actors i) r member
        filled = (row p w m events s actors i before D at).1

        go : (b : Bool) → is_free (found_in m Y) ≡ b
            → KeepsRule p w m events s actors i (op.Load (of_place w (own_place (actors i) slot) TaskLife)) Y
            (to_team (if b then team.TakeTask r member (record { 0 = object_in (own_place (actors i) slot) (found_in m Y) }) else team.LoadTaskLife r member (next_slot w tasks slot)) (actors i), if b then outcome.Quiet else outcome.NotReady (of_place w (own_place (actors i) slot) TaskLife) (found_in m Y))
        go true free =
            let t : Tid = record { 0 = object_in (own_place (actors i) slot) (found_in m Y) } in
            let next : TeamCounter = team.TakeTask r member t in
            let (fresh, none) =
            free_slot s.tasks i (actors i).thread slot TaskLife (m (actors i).thread tasks slot)
            (has_slot slot (owed (actors i)).tasks) same_thread task_life free in
            let mine = fits p w m events s actors i before D at in
            load_stays p w m events s actors i before (of_place w (own_place (actors i) slot) TaskLife) Y
            (to_team next (actors i)) (sym (owes p w m events s actors i before D at))
            (goes_on p w m events s actors i before D at m next (actors i).gathered (own p w m events s actors i before D at).fits.variables refl
            (mine.0, mine.1, refl)
            ((placed p w m events s actors i before D at).0, there)
            (team_goes s i (actors i) next (actors i).gathered.team refl asks, filled_as_before p w m (actors i) r member next filled, fresh, ap (λ (o : Owed). has_slot slot o.tasks) (sym (owes p w m events s actors i before D at)) ∙ none))
        go false taken =
            let next : TeamCounter = team.LoadTaskLife r member (next_slot w tasks slot) in
            load_waits p w m events s actors i before (of_place w (own_place (actors i) slot) TaskLife) Y
            (to_team next (actors i))
            (Waits.ForTaskRecord (inl (is_forking p w m events s actors i before D at refl (fits p w m events s actors i before D at).0.0.0, asks.over))
            (record {
              slot = slot;
              within = (placed p w m events s actors i before D at).1;
              address_is = ap (λ j. of_place w (record { creator = j; slot = slot }) TaskLife) same_thread;
              taken = taken_slot (s.tasks i slot) TaskLife (m (actors i).thread tasks slot) (has_slot slot (owed (actors i)).tasks) task_life ((slots_few p events s before.rule.reached).1 i slot) taken;
            }))
            (sym (owes p w m events s actors i before D at))
            (goes_on p w m events s actors i before D at m next (actors i).gathered (own p w m events s actors i before D at).fits.variables refl
            (fits p w m events s actors i before D at)
            ((placed p w m events s actors i before D at).0, next_within w tasks slot (placed p w m events s actors i before D at).1)
            (team_goes s i (actors i) next (actors i).gathered.team refl asks, filled_as_before p w m (actors i) r member next filled))
