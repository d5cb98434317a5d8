-- Member 0 waits at its end for the others to leave.
use Rattle.std.proofs.Common.{◌≡◌, ◌≢◌, ◌<◌, ◌≤◌, ◌-◌, ℕ, Bool, true, false, List, length, drop, Some, refl, sym, ap, subst, arith, ltb-true, if◌then◌else◌, slice_get, ◌∙◌, ltb-false}
use Rattle.std.specs.List.{All}
use Rattle.omi_word.specs.declared.op.Op.TheVariants as op
use Rattle.omi_script.specs.declared.program.Program.{Program}
use Rattle.omi_model.specs.declared.event.Event.{Event}
use Rattle.omi_model.specs.State.{State}
use Rattle.omi_model.proofs.members.EncounterLaws.{encounters}
use Rattle.omi_model.proofs.MembersKnown.{members_known}
use Rattle.omi_layout.specs.declared.field.Field.TheVariants.{RegionLeft}
use Rattle.omi_layout.specs.Field.{regions}
use Rattle.omi_layout.specs.Memory.{Memory}
use Rattle.omi_layout.specs.Named.{number}
use Rattle.omi_pc.specs.declared.actor.Actor.{Actor}
use Rattle.omi_pc.specs.declared.counter.Counter.{Counter}
use Rattle.omi_pc.specs.declared.counter.Counter.TheVariants as counter
use Rattle.omi_pc.specs.declared.frame.Frame.{Frame}
use Rattle.omi_pc.specs.declared.frame.Opened.{Opened}
use Rattle.omi_pc.specs.declared.frame.Opened.TheVariants as opened
use Rattle.omi_pc.specs.OpenBodies.{AreOpen, IsAtEnd, IsMaster, StandsOn}
use Rattle.omi_pc.specs.declared.team_counter.JoinCounter.{JoinCounter}
use Rattle.omi_pc.specs.declared.team_counter.JoinCounter.TheVariants as join
use Rattle.omi_rep.specs.declared.outcome.Outcome.TheVariants as outcome
use Rattle.omi_rule_words.specs.Counts.{ended_members}
use Rattle.omi_rule_words.specs.Owes.{all_owed}
use Rattle.omi_rule_words.proofs.Joins.{all_have_left}
use Rattle.omi_step_words.specs.Words.{of_region}
use Rattle.omi_fork.specs.JoinSteps.{join_moved, join_next, join_outcome, some_inside}
use Rattle.omi_rule.specs.Steps.{KeepsRule, RecordWord, StepKeeps}
use Rattle.omi_rule.specs.Waits.{Waits, joins_next}
use Rattle.omi_rule.proofs.Assembly.{Before}
use Rattle.omi_rule.proofs.barrier.AtCounter.{GoesTo, ahead_is, at_counter, body, fits_counter, here, keeps_region, load_quiet, load_waits, of_own_region, own, region_record, region_word, word_of, front_is}
use Rattle.omi_rule.proofs.join.Departures.{all_ended, ended_few}

module _ (p : Program) (w : List ℕ) (m : Memory) (events : List (ℕ × Event)) (s : State) (actors : ℕ → Actor)
    (i : ℕ) (before : Before p w m events s actors i) where
  abbrev a : Actor
  a = actors i

  -- what is known where the word is full
  module _ (c : JoinCounter) (at : (actors i).counter ≡ counter.Join c)
      (full : (actors i).context.size - 1 ≤ region_record p w m events s actors i before (counter.Join c) at tt (number RegionLeft) 0) where
    word_is : region_record p w m events s actors i before (counter.Join c) at tt (number RegionLeft) 0 ≡ ended_members (here p w m events s actors i before (counter.Join c) at tt).region
    word_is =
        let o = here p w m events s actors i before (counter.Join c) at tt in
        let sizes =
        (members_known p events s before.rule.reached).regions a.context.region o.region o.found in
        let few = ended_few o.region.ended in
        let count = (keeps_region p w m events s actors i before (counter.Join c) at tt).left in
        let size = o.size in
        let ends = sizes.ended in omega (arith, full, few, count, size, ends)

    pub others_ended : All (λ b. b ≡ true) (drop 1 (here p w m events s actors i before (counter.Join c) at tt).region.ended)
    others_ended =
        let o = here p w m events s actors i before (counter.Join c) at tt in
        let sizes =
        (members_known p events s before.rule.reached).regions a.context.region o.region o.found in
        let is = word_is in
        let size = o.size in
        let ends = sizes.ended in all_ended o.region.ended (omega (arith, full, is, size, ends))

    pub none_owes : (j : ℕ) → j < s.count → (all_owed actors j).left ≢ Some a.context.region
    none_owes j known =
        let o = here p w m events s actors i before (counter.Join c) at tt in
        let within =
        before.rule.within.regions a.context.region.0.creator a.context.region.0.slot a.context.region.0.generation o.region o.found in
        all_have_left w m s (all_owed actors) a.context.region o.region before.rule.words o.found
        (subst (λ n. a.context.region.0.creator < n) (sym before.rule.within.count) within.maker) within.place word_is j known

  -- member 0 made the record of its region
  made_here : (c : JoinCounter) → (actors i).counter ≡ counter.Join c → IsAtEnd p IsMaster (actors i).stack
      → (actors i).context.region.0.creator ≡ i
  made_here c at end =
      let (f, fs, is, task) = body p w m events s actors i before (counter.Join c) at tt in
      let o = here p w m events s actors i before (counter.Join c) at tt in
      let (at_end, master) = subst (IsAtEnd p IsMaster) is end in
      let (open_body, rest) =
      subst (AreOpen p a.context) is (own p w m events s actors i before (counter.Join c) at tt).fits.bodies in
      let first = first_of f fs f.opened master open_body.stands in
      sym
      (((encounters p events s before.rule.reached).named a.context.region o.region o.found).first (a.context.row, i) (ap (λ j. slice_get o.region.team j) (sym first) ∙ o.row))
    where
      first_of : (f : Frame) (fs : List Frame) (x : Opened) → IsMaster x
          → StandsOn p a.context f.function fs x → a.context.number ≡ 0
      first_of f fs (opened.Master saved) master (num, construct, is) = is.number
      first_of f fs opened.Main master on = absurd master
      first_of f fs opened.Worker master on = absurd master
      first_of f fs (opened.Task y saved) master on = absurd master
      first_of f fs opened.Call master on = absurd master
      first_of f fs (opened.Repeat left) master on = absurd master
      first_of f fs (opened.Critical k) master on = absurd master
      first_of f fs opened.Taskgroup master on = absurd master

  module _ (at : (actors i).counter ≡ counter.Join join.LoadLeft) where
    abbrev left_word : ℕ
    left_word =
        region_record p w m events s actors i before (counter.Join join.LoadLeft) at tt (number RegionLeft) 0

    abbrev on_left : RecordWord
    on_left = word_of p w m events s actors i before (counter.Join join.LoadLeft) at tt RegionLeft

    abbrev left_address : ℕ
    left_address = of_region w a.context.region RegionLeft

    stays_there : at_counter (counter.Join join.LoadLeft) a ≡ a
    stays_there = ap (λ (x : Counter). at_counter x a) (sym at)

    goes_to : GoesTo p w m events s actors i before (counter.Join join.LoadLeft) at tt (counter.Join join.LoadLeft)
    goes_to = record {
      fits = fits_counter p w m events s actors i before (counter.Join join.LoadLeft) at tt;
      placed = tt;
      ahead = ahead_is p w m events s actors i before (counter.Join join.LoadLeft) at tt;
      front = front_is p w m events s actors i before (counter.Join join.LoadLeft) at tt;
      owes = refl;
      row = tt;
      ended = tt;
    }

    by_left : (d : Bool) → some_inside a left_word ≡ d
        → KeepsRule p w m events s actors i (op.Load left_address) on_left
        (if d then a else at_counter (counter.Join join.Join) a, if d then outcome.NotReady left_address left_word else outcome.Quiet)
    by_left true inside =
        let o = here p w m events s actors i before (counter.Join join.LoadLeft) at tt in
        let less : left_word < a.context.size - 1 = ltb-true left_word (a.context.size - 1) inside in
        subst
        (λ (x : Actor). KeepsRule p w m events s actors i (op.Load left_address) on_left (x, outcome.NotReady left_address left_word)) stays_there
        (load_waits p w m events s actors i before (counter.Join join.LoadLeft) at tt left_address on_left (counter.Join join.LoadLeft) goes_to
        (Waits.ForMembers
        (of_own_region p w m events s actors i before (counter.Join join.LoadLeft) at tt (λ t r. joins_next t.list × (left_address ≡ of_region w t.region RegionLeft) × (left_word < length r.team - 1)) (
          subst joins_next (sym (ahead_is p w m events s actors i before (counter.Join join.LoadLeft) at tt)) tt,
          ap (λ n. of_region w n RegionLeft) (sym o.region_is),
          subst (λ n. left_word < n - 1) (sym o.size) less,
        ))))
    by_left false inside =
        let enough : a.context.size - 1 ≤ left_word = ltb-false left_word (a.context.size - 1) inside in
        let maker =
        made_here join.LoadLeft at
        (fits_counter p w m events s actors i before (counter.Join join.LoadLeft) at tt) in
        load_quiet p w m events s actors i before (counter.Join join.LoadLeft) at tt left_address on_left
        (counter.Join join.Join)
        (record {
          fits = fits_counter p w m events s actors i before (counter.Join join.LoadLeft) at tt;
          placed = tt;
          ahead = ahead_is p w m events s actors i before (counter.Join join.LoadLeft) at tt;
          front = front_is p w m events s actors i before (counter.Join join.LoadLeft) at tt;
          owes = refl;
          row = (maker, subst (λ k. a.context.size - 1 ≤ m k regions a.context.region.0.slot (number RegionLeft) 0) maker enough);
          ended = tt;
        })

    pub load_left_keeps : StepKeeps p w m events s actors i (join_next w (actors i) join.LoadLeft) (λ old. (join_moved p w (actors i) join.LoadLeft old, join_outcome w (actors i) join.LoadLeft old))
    load_left_keeps =
        (on_left, record { there = region_word p w m events s actors i before (counter.Join join.LoadLeft) at tt RegionLeft refl; address = refl }, by_left (some_inside a left_word) refl)
