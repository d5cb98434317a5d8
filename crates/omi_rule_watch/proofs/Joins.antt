-- The join of a team, and the steps that give its records back: no search stands there, and no look.
use Rattle.std.proofs.Common.{◌≡◌, ◌<◌, ℕ, Bool, true, false, List, length, Some, refl, sym, subst, arith, if◌then◌else◌}
use Rattle.omi_word.specs.declared.op.Op.TheVariants as op
use Rattle.omi_script.specs.declared.program.Program.{Program}
use Rattle.omi_model.specs.declared.event.Event.{Event}
use Rattle.omi_model.specs.declared.id.Rid.{Rid}
use Rattle.omi_model.specs.declared.id.Tid.{Tid}
use Rattle.omi_model.specs.State.{State, task_of}
use Rattle.omi_model.proofs.Slots.{some_same}
use Rattle.omi_layout.specs.declared.field.Field.TheVariants.{RegionLeft, RegionTeam, TaskLife}
use Rattle.omi_layout.specs.Field.{regions, tasks}
use Rattle.omi_layout.specs.Memory.{IsRecordWord, Memory}
use Rattle.omi_layout.specs.Named.{number}
use Rattle.omi_layout.specs.Table.{thread_count}
use Rattle.omi_layout.proofs.Numbers.{numbered_field}
use Rattle.omi_pc.specs.declared.actor.Actor.{Actor}
use Rattle.omi_pc.specs.declared.counter.Counter.{Counter}
use Rattle.omi_pc.specs.declared.counter.Counter.TheVariants as counter
use Rattle.omi_pc.specs.declared.place.Place.{Place}
use Rattle.omi_pc.specs.declared.team_counter.JoinCounter.{JoinCounter}
use Rattle.omi_pc.specs.declared.team_counter.JoinCounter.TheVariants as join
use Rattle.omi_pc.specs.Fits.{IsJoined}
use Rattle.omi_rep.specs.declared.outcome.Outcome.TheVariants as outcome
use Rattle.omi_step_words.specs.Moving.{to_join}
use Rattle.omi_step_words.specs.Placed.{HasRegion, HasTaskPlace}
use Rattle.omi_step_words.specs.Words.{is_free, of_region}
use Rattle.omi_fork.specs.JoinSteps.{behind_free, join_moved, join_next, join_outcome, some_inside}
use Rattle.omi_rule.specs.Rows.{IsGivenBack, IsMemberOf, place_of}
use Rattle.omi_rule.specs.Steps.{IsOn, RecordWord, found_in}
use Rattle.omi_rule.proofs.Assembly.{Before}
use Rattle.omi_rule.proofs.barrier.AtCounter.{context_placed, fits_counter, front_is, placed_counter, row_is}
use Rattle.omi_rule.proofs.join.NextMember.{may_free, next, next_there}
use Rattle.omi_rule_watch.specs.Given.{IsSearchGiven}
use Rattle.omi_rule_watch.specs.Watch.{Watch, is_own}
use Rattle.omi_rule_watch.proofs.Parts.{IsCalm, KeepsParts, PartsKeep, calm_at, event_rests, quiet_rests, waits_rests}
use Rattle.omi_rule_watch.proofs.Resting.{Rests, rests_join, rests_working}
use Rattle.omi_rule_watch.proofs.Standing.{life_taken, record_word, some_word, word_of}
use Rattle.omi_rule_watch.proofs.Workers.{not_found}

module _ (p : Program) (w : List ℕ) (m : Memory) (events : List (ℕ × Event)) (s : State) (actors : ℕ → Actor)
    (i : ℕ) (before : Before p w m events s actors i) (h : Watch) where
  abbrev a : Actor
  a = actors i

  -- the step at this counter keeps its parts
  abbrev Keeps : JoinCounter → Type 0
  Keeps c = PartsKeep w m s i (join_next w a c) (λ old. (join_moved p w a c old, join_outcome w a c old)) h

  module _ (c : JoinCounter) (at : (actors i).counter ≡ counter.Join c)
      (given : IsSearchGiven (actors i) (counter.Join c) h.search) where
    idle : IsCalm h.search
    idle = calm_at a (counter.Join c) h.search refl refl refl given

    now : Rests (actors i).counter
    now = subst Rests (sym at) (rests_join c)

    -- an event
    event_to : (b : Actor) (e : Event) → Rests b.counter
        → (x : RecordWord) × IsOn w (join_next w a c) x × KeepsParts w m s i (join_next w a c) x (b, outcome.Event e) h
    event_to b e rests =
        let (x, on) = some_word p w m events s actors i before (counter.Join c) at in
        (x, on, event_rests w m s i (join_next w a c) x b h idle e rests)

  -- ---- the wait for the other members

  module _ (at : (actors i).counter ≡ counter.Join join.LoadLeft)
      (given : IsSearchGiven (actors i) (counter.Join join.LoadLeft) h.search) where
    abbrev left : RecordWord
    left = word_of a.context.region.0.creator a.context.region.0.slot RegionLeft

    abbrev address : ℕ
    address = of_region w a.context.region RegionLeft

    by_left : (b : Bool) → KeepsParts w m s i (op.Load address) left
        (if b then a else to_join join.Join a, if b then outcome.NotReady address (found_in m left) else outcome.Quiet) h
    by_left true =
        waits_rests w m s i _ left a h (idle join.LoadLeft at given) _ _ refl refl refl (now join.LoadLeft at given)
    by_left false = quiet_rests w m s i _ left _ h (idle join.LoadLeft at given) refl refl (rests_join join.Join)

    left_there : IsRecordWord w a.context.region.0.creator a.context.region.0.slot (number RegionLeft) 0
    left_there =
        record_word p w m events s actors i before regions a.context.region.0.creator a.context.region.0.slot RegionLeft refl
        (context_placed p w m events s actors i before (counter.Join join.LoadLeft) at tt).region

    loads_left : Keeps join.LoadLeft
    loads_left = (
      left,
      record { there = left_there; address = refl },
      by_left (some_inside a (found_in m left)),
    )

  -- ---- the name of a member's task

  module _ (r : Rid) (size member : ℕ) (at : (actors i).counter ≡ counter.Join (join.LoadMember r size member))
      (given : IsSearchGiven (actors i) (counter.Join (join.LoadMember r size member)) h.search) where
    abbrev at_member : Counter
    at_member = counter.Join (join.LoadMember r size member)

    fits : IsJoined p a r size × (member < size)
    fits = fits_counter p w m events s actors i before at_member at tt

    placed : HasRegion w r
    placed = placed_counter p w m events s actors i before at_member at tt

    abbrev on_member : RecordWord
    on_member = record { creator = r.0.creator; slot = r.0.slot; field = RegionTeam; place = member }

    there : IsRecordWord w r.0.creator r.0.slot (number RegionTeam) member
    there = record {
      field = numbered_field RegionTeam;
      record_slot = placed;
      within =
          let less = fits.1 in
          let few = fits.0.2 in
          let same : p.threads ≡ thread_count w = before.suits.threads in
          omega (arith, less, few, same);
    }

    loads_member : Keeps (join.LoadMember r size member)
    loads_member = (
      on_member,
      record { there = there; address = refl },
      quiet_rests w m s i _ on_member _ h (idle (join.LoadMember r size member) at given) refl refl (rests_join _),
    )

  module _ (r : Rid) (size member : ℕ) (t : Place) (at : (actors i).counter ≡ counter.Join (join.LoadLife r size member t))
      (given : IsSearchGiven (actors i) (counter.Join (join.LoadLife r size member t)) h.search) where
    abbrev at_life : Counter
    at_life = counter.Join (join.LoadLife r size member t)

    fits_life : IsJoined p a r size × (member < size) × (t.creator ≡ a.thread)
    fits_life = fits_counter p w m events s actors i before at_life at tt

    placed_life : HasRegion w r × HasTaskPlace w t
    placed_life = placed_counter p w m events s actors i before at_life at tt

    abbrev on_life : RecordWord
    on_life = word_of t.creator t.slot TaskLife

    -- the member's task lives until it is given back
    taken : is_free (found_in m on_life) ≡ false
    taken = go (row_is p w m events s actors i before at_life at tt)
      where
        go : IsGivenBack s r size (IsMemberOf member (λ k. place_of k.0 ≡ t)) → is_free (found_in m on_life) ≡ false
        go (region, live, joined, same, (k, of_team, is)) =
            let less = fits_life.1 in
            let below : member < length region.team = omega (arith, same, less) in
            let front = front_is p w m events s actors i before at_life at tt in
            let may = may_free p w m events s actors i before at_life at tt r member front region live below in
            let one : next p w m events s actors i before at_life at tt r member front region live below ≡ k =
            some_same (next_there p w m events s actors i before at_life at tt r member front region live below) of_team in
            let old : task_of s k.0 ≡ Some may.old = subst (λ (x : Tid × ℕ). task_of s x.0 ≡ Some may.old) one may.spent.live in
            life_taken p w m events s actors i before k.0 may.old t old is

    loads_life : Keeps (join.LoadLife r size member t)
    loads_life = (
      on_life,
      record { there = record_word p w m events s actors i before tasks t.creator t.slot TaskLife refl placed_life.1; address = refl },
      quiet_rests w m s i _ on_life _ h (idle (join.LoadLife r size member t) at given) refl
          (not_found (is_own TaskLife i on_life) (is_free (found_in m on_life)) taken) (rests_join _),
    )

  -- ---- all of them

  pub join_parts : (c : JoinCounter) (at : (actors i).counter ≡ counter.Join c)
      → IsSearchGiven (actors i) (counter.Join c) h.search
      → PartsKeep w m s i (join_next w (actors i) c) (λ old. (join_moved p w (actors i) c old, join_outcome w (actors i) c old)) h
  join_parts join.LoadLeft at given = loads_left at given
  join_parts join.Join at given = event_to join.Join at given _ _ (rests_join _)
  join_parts (join.LoadMember r size member) at given = loads_member r size member at given
  join_parts (join.LoadLife r size member t) at given = loads_life r size member t at given
  join_parts (join.FreeTask r size member t) at given =
      event_to (join.FreeTask r size member t) at given _ _ (rests_join (behind_free r size member))
  join_parts (join.FreeRegion r size) at given =
      event_to (join.FreeRegion r size) at given _ _
      (rests_working p a (λ none. now (join.FreeRegion r size) at given))
