-- Behind a join the thread loads the name of the next member's task: its place from the region's team, and its life word.
use Rattle.std.specs.Prelude.{slice_get}
use Rattle.std.proofs.Common.{◌≡◌, ◌<◌, ℕ, List, length, Some, refl, sym, ap, subst, arith, ◌∙◌}
use Rattle.omi_word.specs.declared.op.Op.TheVariants as op
use Rattle.omi_rep.specs.declared.outcome.Outcome.TheVariants as outcome
use Rattle.omi_script.specs.declared.program.Program.{Program}
use Rattle.omi_model.specs.declared.event.Event.{Event}
use Rattle.omi_model.specs.declared.id.Rid.{Rid}
use Rattle.omi_model.specs.declared.id.Tid.{Tid}
use Rattle.omi_model.specs.declared.region.Region.{Region}
use Rattle.omi_model.specs.State.{State, task_of}
use Rattle.omi_model.proofs.Slots.{some_same}
use Rattle.omi_layout.specs.declared.field.Field.TheVariants.{RegionTeam, TaskLife}
use Rattle.omi_layout.specs.Field.{regions, tasks}
use Rattle.omi_layout.specs.Memory.{IsRecordWord, Memory}
use Rattle.omi_layout.specs.Named.{number}
use Rattle.omi_layout.specs.Table.{thread_count}
use Rattle.omi_layout.proofs.Numbers.{numbered_field}
use Rattle.omi_pc.specs.declared.actor.Actor.{Actor}
use Rattle.omi_pc.specs.declared.counter.Counter.{Counter}
use Rattle.omi_pc.specs.declared.counter.Counter.TheVariants as counter
use Rattle.omi_pc.specs.declared.place.Place.{Place}
use Rattle.omi_pc.specs.declared.team_counter.JoinCounter.TheVariants as join
use Rattle.omi_pc.specs.Fits.{IsJoined}
use Rattle.omi_rep.specs.Codes.{region_told}
use Rattle.omi_rep.proofs.Codes.{member_code}
use Rattle.omi_step_words.specs.Placed.{HasRegion, HasTask, HasTaskPlace}
use Rattle.omi_step_words.specs.Words.{generation_of, object_in, of_member, of_place, task_place}
use Rattle.omi_step_words.proofs.ReadBack.{places_back, generations_back}
use Rattle.omi_fork.specs.JoinSteps.{join_moved, join_next, join_outcome}
use Rattle.omi_rule.specs.Rows.{IsGivenBack, IsMemberOf, place_of}
use Rattle.omi_rule.specs.Steps.{KeepsRule, RecordWord, StepKeeps}
use Rattle.omi_rule.proofs.Assembly.{Before}
use Rattle.omi_rule.proofs.KeptObjects.{region_kept, task_life, task_there}
use Rattle.omi_rule.proofs.barrier.AtCounter.{GoesTo, ahead_is, at_counter, fits_counter, front_is, load_quiet, placed_counter, row_is, wide}
use Rattle.omi_rule.proofs.join.NextMember.{has_next, made_next, may_free, next, next_there}
use Rattle.omi_rule.proofs.Generations.{generations_below}

module _ (p : Program) (w : List ℕ) (m : Memory) (events : List (ℕ × Event)) (s : State) (actors : ℕ → Actor)
    (i : ℕ) (before : Before p w m events s actors i) (r : Rid) (size member : ℕ) where
  abbrev a : Actor
  a = actors i

  -- ---- its place

  module _ (at : (actors i).counter ≡ counter.Join (join.LoadMember r size member)) where
    abbrev standing : Counter
    standing = counter.Join (join.LoadMember r size member)

    given : IsGivenBack s r size (λ team. Unit {0})
    given = row_is p w m events s actors i before standing at tt

    fits : IsJoined p a r size × (member < size)
    fits = fits_counter p w m events s actors i before standing at tt

    placed : HasRegion w r
    placed = placed_counter p w m events s actors i before standing at tt

    abbrev region : Region
    region = given.0

    below : member < length region.team
    below = let same = given.3 in let less = fits.1 in omega (arith, same, less)

    abbrev behind : Tid × ℕ
    behind = next p w m events s actors i before standing at tt r member (front_is p w m events s actors i before standing at tt) region given.1 below

    behind_there : slice_get region.team member ≡ Some behind
    behind_there = next_there p w m events s actors i before standing at tt r member (front_is p w m events s actors i before standing at tt) region given.1 below

    has_task : HasTask w behind.0
    has_task = has_next p w m events s actors i before standing at tt r member (front_is p w m events s actors i before standing at tt) region given.1 below

    made : behind.0.0.creator ≡ a.thread
    made = made_next p w m events s actors i before standing at tt r member (front_is p w m events s actors i before standing at tt) region given.1 below

    abbrev on_member : RecordWord
    on_member = record { creator = r.0.creator; slot = r.0.slot; field = RegionTeam; place = member }

    abbrev word : ℕ
    word = m r.0.creator regions r.0.slot (number RegionTeam) member

    read_back : task_place w word ≡ place_of behind.0.0
    read_back =
        ap (task_place w)
        ((region_kept p w m events s actors before.rule r region given.1).codes RegionTeam member _ (member_code w (region_told region) member behind behind_there))
        ∙ places_back w tasks behind.0.0.creator behind.0.0.slot before.valid
        (record { from = omega arith; to = omega arith }) has_task

    there : IsRecordWord w r.0.creator r.0.slot (number RegionTeam) member
    there = record {
      field = numbered_field RegionTeam;
      record_slot = placed;
      within =
          let less = fits.1 in
          let few = fits.0.2 in
          let same : p.threads ≡ thread_count w = before.suits.threads in
          omega (arith, less, few, same);
    }

    abbrev to : Counter
    to = counter.Join (join.LoadLife r size member (task_place w word))

    goes : GoesTo p w m events s actors i before standing at tt to
    goes = record {
      fits = (fits.0, fits.1, ap (λ (q : Place). q.creator) read_back ∙ made);
      placed = (placed, subst (HasTaskPlace w) (sym read_back) has_task);
      ahead = ahead_is p w m events s actors i before standing at tt;
      front = front_is p w m events s actors i before standing at tt;
      owes = refl;
      row = (region, given.1, given.2, given.3, (behind, behind_there, sym read_back));
      ended = tt;
    }

    pub load_member_keeps : StepKeeps p w m events s actors i (join_next w (actors i) (join.LoadMember r size member)) (λ old. (join_moved p w (actors i) (join.LoadMember r size member) old, join_outcome w (actors i) (join.LoadMember r size member) old))
    load_member_keeps = (
      on_member,
      record { there = there; address = refl },
      load_quiet p w m events s actors i before standing at tt (of_member w r member) on_member to goes,
    )

  -- ---- its name

  module _ (t : Place) (at : (actors i).counter ≡ counter.Join (join.LoadLife r size member t)) where
    abbrev standing_life : Counter
    standing_life = counter.Join (join.LoadLife r size member t)

    of_member_at : IsGivenBack s r size (IsMemberOf member (λ k. place_of k.0 ≡ t))
    of_member_at = row_is p w m events s actors i before standing_life at tt

    fits_life : IsJoined p a r size × (member < size) × (t.creator ≡ a.thread)
    fits_life = fits_counter p w m events s actors i before standing_life at tt

    placed_life : HasRegion w r × HasTaskPlace w t
    placed_life = placed_counter p w m events s actors i before standing_life at tt

    abbrev on_life : RecordWord
    on_life = record { creator = t.creator; slot = t.slot; field = TaskLife; place = 0 }

    abbrev life : ℕ
    life = m t.creator tasks t.slot (number TaskLife) 0

    -- the name that is loaded
    abbrev found : Tid
    found = record { 0 = object_in t life }

    load_life_quiet : KeepsRule p w m events s actors i (op.Load (of_place w t TaskLife)) on_life (at_counter (counter.Join (join.FreeTask r size member found)) a, outcome.Quiet)
    load_life_quiet = go of_member_at
      where
        go : IsGivenBack s r size (IsMemberOf member (λ k. place_of k.0 ≡ t))
            → KeepsRule p w m events s actors i (op.Load (of_place w t TaskLife)) on_life (at_counter (counter.Join (join.FreeTask r size member found)) a, outcome.Quiet)
        go (region, live, joined, same, (k, of_team, is)) =
            let less = fits_life.1 in
            let below : member < length region.team = omega (arith, same, less) in
            let front = front_is p w m events s actors i before standing_life at tt in
            let may = may_free p w m events s actors i before standing_life at tt r member front region live below in
            let one : next p w m events s actors i before standing_life at tt r member front region live below ≡ k =
            some_same (next_there p w m events s actors i before standing_life at tt r member front region live below) of_team in
            let old : task_of s k.0 ≡ Some may.old = subst (λ (x : Tid × ℕ). task_of s x.0 ≡ Some may.old) one may.spent.live in
            let named : found ≡ k.0 =
            ap (λ (q : Place). record { 0 = object_in q (m q.creator tasks q.slot (number TaskLife) 0) }) (sym is)
            ∙ ap (λ (g : ℕ). record { 0 = record { creator = k.0.0.creator; slot = k.0.0.slot; generation = g } })
            (ap generation_of (task_life p w m events s actors before.rule k.0 may.old old) ∙ generations_back k.0.0 ((generations_below p events s before.rule.reached).tasks k.0 may.old old)) in
            load_quiet p w m events s actors i before standing_life at tt (of_place w t TaskLife) on_life (counter.Join (join.FreeTask r size member found))
            (record {
              fits = fits_life;
              placed = (placed_life.0, subst (HasTask w) (sym named) (task_there p w m events s actors before.rule k.0 may.old old));
              ahead = ahead_is p w m events s actors i before standing_life at tt;
              front = front;
              owes = refl;
              row = (region, live, joined, same, (k, of_team, sym named));
              ended = tt;
            })

    pub load_life_keeps : StepKeeps p w m events s actors i (join_next w (actors i) (join.LoadLife r size member t)) (λ old. (join_moved p w (actors i) (join.LoadLife r size member t) old, join_outcome w (actors i) (join.LoadLife r size member t) old))
    load_life_keeps = (
      on_life,
      record { there = record { field = numbered_field TaskLife; record_slot = placed_life.1; within = wide p w m events s actors i before standing_life at tt (number TaskLife) }; address = refl },
      load_life_quiet,
    )
