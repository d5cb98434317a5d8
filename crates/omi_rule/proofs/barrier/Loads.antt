-- Loads at barriers: member 0 waits until all have arrived, and then until no explicit task of the region lives; and the other members wait for the release.
use Rattle.std.proofs.Common.{◌≡◌, ◌≢◌, ◌<◌, ◌≤◌, ◌+◌, ◌*◌, ◌==◌, ℕ, zero, suc, Bool, true, false, List, ◌∷◌, length, slice_index, sum, refl, sym, ap, ◌∙◌, subst, arith, eq-eqb, eqb-true, ne_eqb, ltb-true, ltb-false, if◌then◌else◌}
use Rattle.omi_word.specs.declared.op.Op.TheVariants as op
use Rattle.omi_script.specs.declared.program.Program.{Program}
use Rattle.omi_model.specs.declared.encounter.Encounter.{Encounter}
use Rattle.omi_model.specs.declared.event.Event.{Event}
use Rattle.omi_model.specs.declared.item.Item.TheVariants as item
use Rattle.omi_model.specs.declared.region.Region.{Region}
use Rattle.omi_model.specs.Barriers.{HasNoExplicit}
use Rattle.omi_model.specs.State.{State}
use Rattle.omi_model.proofs.Slots.{some_same}
use Rattle.omi_layout.specs.declared.field.Field.TheVariants.{RegionArrived, RegionPending, RegionReleased}
use Rattle.omi_layout.specs.Memory.{Memory}
use Rattle.omi_layout.specs.Named.{number}
use Rattle.omi_pc.specs.declared.actor.Actor.{Actor}
use Rattle.omi_pc.specs.declared.counter.Counter.TheVariants as counter
use Rattle.omi_pc.specs.declared.frame.Barrier.{Barrier}
use Rattle.omi_pc.specs.declared.frame.Frame.{Frame}
use Rattle.omi_pc.specs.declared.frame.Wait.TheVariants as wait
use Rattle.omi_pc.specs.declared.task_counter.LookCounter.TheVariants.{LoadRow}
use Rattle.omi_pc.specs.declared.team_counter.BarrierCounter.{BarrierCounter}
use Rattle.omi_pc.specs.declared.team_counter.BarrierCounter.TheVariants as barrier
use Rattle.omi_pc.specs.Fits.{IsMemberAt}
use Rattle.omi_rep.specs.declared.outcome.Outcome.TheVariants as outcome
use Rattle.omi_step_words.specs.Words.{of_region}
use Rattle.omi_fork.specs.BarrierSteps.{barrier_moved, barrier_next, barrier_outcome, is_closed, looking, of_current, some_missing}
use Rattle.omi_rule_words.proofs.TasksGone.{all_tasks_gone}
use Rattle.omi_rule_words.specs.Owes.{all_owed}
use Rattle.omi_rule.specs.Ahead.{barrier_state, passing}
use Rattle.omi_rule.specs.Ahead as Ahead
use Rattle.omi_rule.specs.Rows.{HasReleased}
use Rattle.omi_rule.specs.Steps.{KeepsRule, RecordWord, StepKeeps}
use Rattle.omi_rule.specs.Waits.{Waits, passes_next, releases_next}
use Rattle.omi_rule.proofs.Assembly.{Before}
use Rattle.omi_rule.proofs.barrier.Arrivals.{all_arrived, before_release}
use Rattle.omi_rule.proofs.barrier.AtBarrier.{fits_barrier, list_is, row}
use Rattle.omi_rule.proofs.barrier.AtCounter.{GoesTo, at_counter, here, is_context, keeps_region, load_quiet, load_waits, of_own_region, region_record, region_there, region_word, sees, sees_number, word_of, front_is}
use Rattle.omi_rule.proofs.OwnRow.{is_open}
use Rattle.omi_rule.proofs.Descends.{descends_in_region}

-- ---- lists

pub first_arrives : (p : Program) (at : Encounter) (fs : List Frame) (b : Barrier) → at.number ≡ 0
    → Ahead.arrived p at fs b ≡ item.Tasks (barrier_state b) ∷ item.Release ∷ passing p at fs b
first_arrives p at fs b first =
    ap
    (λ (x : Bool). item.Tasks (barrier_state b) ∷ (if x then item.Release ∷ passing p at fs b else passing p at fs b))
    (eq-eqb at.number 0 first)

pub other_arrives : (p : Program) (at : Encounter) (fs : List Frame) (b : Barrier) → at.number ≢ 0
    → Ahead.arrived p at fs b ≡ item.Tasks (barrier_state b) ∷ passing p at fs b
other_arrives p at fs b other =
    ap
    (λ (x : Bool). item.Tasks (barrier_state b) ∷ (if x then item.Release ∷ passing p at fs b else passing p at fs b))
    (ne_eqb at.number 0 other)

pub first_released : (p : Program) (at : Encounter) (fs : List Frame) (b : Barrier) → at.number ≡ 0
    → Ahead.released p at fs b ≡ passing p at fs b
first_released p at fs b first =
    ap (λ (x : Bool). if x then passing p at fs b else Ahead.arrived p at fs b) (eq-eqb at.number 0 first)

pub other_released : (p : Program) (at : Encounter) (fs : List Frame) (b : Barrier) → at.number ≢ 0
    → Ahead.released p at fs b ≡ Ahead.arrived p at fs b
other_released p at fs b other =
    ap (λ (x : Bool). if x then passing p at fs b else Ahead.arrived p at fs b) (ne_eqb at.number 0 other)

module _ (p : Program) (w : List ℕ) (m : Memory) (events : List (ℕ × Event)) (s : State) (actors : ℕ → Actor)
    (i : ℕ) (before : Before p w m events s actors i) where
  abbrev a : Actor
  a = actors i

  -- ---- the look

  module _ (c : BarrierCounter) (at : (actors i).counter ≡ counter.Barrier c) where
    abbrev At : Encounter
    At = sees p w m events s actors i before (counter.Barrier c) at tt

    -- a member that has arrived looks at the slots
    pub looks : (b : Barrier) → IsMemberAt p a b
        → (here p w m events s actors i before (counter.Barrier c) at tt).task.list ≡ Ahead.arrived p At a.stack b
        → GoesTo p w m events s actors i before (counter.Barrier c) at tt (counter.Look (LoadRow (wait.Barrier b) 0))
    looks b member is =
        let some = (is_context p w m events s actors i before (counter.Barrier c) at tt).size.0 in
        record { fits = ((member, omega (arith, some)), refl); placed = tt; ahead = is; front = front_is p w m events s actors i before (counter.Barrier c) at tt; owes = refl; row = tt; ended = tt }

    -- the arrivals of member 0 before its release
    pub one_more : (b : Barrier) → IsMemberAt p a b → a.context.number ≡ 0
        → (here p w m events s actors i before (counter.Barrier c) at tt).task.list ≡ Ahead.arrived p At a.stack b
        → a.context.arrivals ≡ (here p w m events s actors i before (counter.Barrier c) at tt).region.released + 1
    one_more b member first is =
        let o = here p w m events s actors i before (counter.Barrier c) at tt in
        let sees_first : At.number ≡ 0 =
        sees_number p w m events s actors i before (counter.Barrier c) at tt ∙ first in
        let is_one =
        before_release p events s before.rule.reached a.context.task o.task o.region (barrier_state b)
        (passing p At a.stack b) o.live (o.implicit ∙ member.1)
        (region_there p w m events s actors i before (counter.Barrier c) at tt) (o.number ∙ first)
        (is ∙ first_arrives p At a.stack b sees_first) in
        sym o.arrivals ∙ ap (λ j. slice_index o.region.arrivals j) (sym o.number) ∙ is_one

    pub has_release : (b : Barrier) → a.context.number ≡ 0
        → (here p w m events s actors i before (counter.Barrier c) at tt).task.list ≡ Ahead.arrived p At a.stack b
        → releases_next (here p w m events s actors i before (counter.Barrier c) at tt).task.list
    has_release b first is =
        subst releases_next
        (sym (is ∙ first_arrives p At a.stack b (sees_number p w m events s actors i before (counter.Barrier c) at tt ∙ first))) tt

    -- no explicit task of the region lives where its word for them is 0
    pub all_gone : region_record p w m events s actors i before (counter.Barrier c) at tt (number RegionPending) 0 ≡ 0
        → HasNoExplicit s a.context.region
    all_gone none =
        all_tasks_gone w m s (all_owed actors) a.context.region
        (here p w m events s actors i before (counter.Barrier c) at tt).region before.rule.words before.rule.within
        (descends_in_region p events s before.rule.reached)
        (here p w m events s actors i before (counter.Barrier c) at tt).found none

  -- ---- the counters

  module _ (b : Barrier) (at : (actors i).counter ≡ counter.Barrier (barrier.LoadArrived b)) where
    abbrev arrived_word : ℕ
    arrived_word =
        region_record p w m events s actors i before (counter.Barrier (barrier.LoadArrived b)) at tt
        (number RegionArrived) 0

    abbrev on_arrived : RecordWord
    on_arrived =
        word_of p w m events s actors i before (counter.Barrier (barrier.LoadArrived b)) at tt RegionArrived

    by_arrivals : (d : Bool) → some_missing a arrived_word ≡ d
        → KeepsRule p w m events s actors i (op.Load (of_current w a RegionArrived)) on_arrived
        (if d then looking b a else at_counter (counter.Barrier (barrier.LoadPending b)) a, if d then outcome.NotReady (of_current w a RegionArrived) arrived_word else outcome.Quiet)
    by_arrivals true missing =
        let (member, first) = fits_barrier p w m events s actors i before (barrier.LoadArrived b) at in
        let is = list_is p w m events s actors i before (barrier.LoadArrived b) at in
        let o = here p w m events s actors i before (counter.Barrier (barrier.LoadArrived b)) at tt in
        let more = one_more (barrier.LoadArrived b) at b member first is in
        let less : arrived_word < a.context.size * a.context.arrivals =
        ltb-true arrived_word (a.context.size * a.context.arrivals) missing in
        load_waits p w m events s actors i before (counter.Barrier (barrier.LoadArrived b)) at tt
        (of_current w a RegionArrived) on_arrived (counter.Look (LoadRow (wait.Barrier b) 0))
        (looks (barrier.LoadArrived b) at b member is)
        (Waits.ForArrivals
        (of_own_region p w m events s actors i before (counter.Barrier (barrier.LoadArrived b)) at tt (λ t r. releases_next t.list × (of_current w a RegionArrived ≡ of_region w t.region RegionArrived) × (arrived_word < length r.team * (r.released + 1))) (
          has_release (barrier.LoadArrived b) at b first is,
          ap (λ n. of_region w n RegionArrived) (sym o.region_is),
          subst (λ n. arrived_word < n * (o.region.released + 1)) (sym o.size) (subst (λ n. arrived_word < a.context.size * n) more less),
        )))
    by_arrivals false missing =
        let (member, first) = fits_barrier p w m events s actors i before (barrier.LoadArrived b) at in
        let is = list_is p w m events s actors i before (barrier.LoadArrived b) at in
        let o = here p w m events s actors i before (counter.Barrier (barrier.LoadArrived b)) at tt in
        let more = one_more (barrier.LoadArrived b) at b member first is in
        let enough : a.context.size * a.context.arrivals ≤ arrived_word =
        ltb-false arrived_word (a.context.size * a.context.arrivals) missing in
        let whole : a.context.size * (o.region.released + 1) ≤ sum o.region.arrivals =
        subst (λ n. a.context.size * n ≤ sum o.region.arrivals) more
        (subst (λ n. a.context.size * a.context.arrivals ≤ n) ((keeps_region p w m events s actors i before (counter.Barrier (barrier.LoadArrived b)) at tt).codes RegionArrived 0 _ refl) enough) in
        load_quiet p w m events s actors i before (counter.Barrier (barrier.LoadArrived b)) at tt
        (of_current w a RegionArrived) on_arrived (counter.Barrier (barrier.LoadPending b))
        (record {
          fits = (member, first);
          placed = tt;
          ahead = is;
          front = front_is p w m events s actors i before (counter.Barrier (barrier.LoadArrived b)) at tt;
          owes = refl;
          row = (o.region, o.found, all_arrived p events s before.rule.reached a.context.region o.region o.found (is_open p events s before.rule.reached i a.context o) (subst (λ n. n * (o.region.released + 1) ≤ sum o.region.arrivals) (sym o.size) whole));
          ended = tt;
        })

    pub load_arrived_keeps : StepKeeps p w m events s actors i (barrier_next w (actors i) (barrier.LoadArrived b)) (λ old. (barrier_moved p (actors i) (barrier.LoadArrived b) old, barrier_outcome w (actors i) (barrier.LoadArrived b) old))
    load_arrived_keeps =
        (on_arrived, record { there = region_word p w m events s actors i before (counter.Barrier (barrier.LoadArrived b)) at tt RegionArrived refl; address = refl }, by_arrivals (some_missing a arrived_word) refl)

  module _ (b : Barrier) (at : (actors i).counter ≡ counter.Barrier (barrier.LoadPending b)) where
    abbrev pending_word : ℕ
    pending_word =
        region_record p w m events s actors i before (counter.Barrier (barrier.LoadPending b)) at tt
        (number RegionPending) 0

    abbrev on_pending : RecordWord
    on_pending =
        word_of p w m events s actors i before (counter.Barrier (barrier.LoadPending b)) at tt RegionPending

    by_pending : (d : Bool) → pending_word == 0 ≡ d
        → KeepsRule p w m events s actors i (op.Load (of_current w a RegionPending)) on_pending
        (if d then at_counter (counter.Barrier (barrier.Release b)) a else looking b a, if d then outcome.Quiet else outcome.NotReady (of_current w a RegionPending) pending_word)
    by_pending true none =
        let (member, first) = fits_barrier p w m events s actors i before (barrier.LoadPending b) at in
        load_quiet p w m events s actors i before (counter.Barrier (barrier.LoadPending b)) at tt
        (of_current w a RegionPending) on_pending (counter.Barrier (barrier.Release b))
        (record {
          fits = (member, first);
          placed = tt;
          ahead = list_is p w m events s actors i before (barrier.LoadPending b) at;
          front = front_is p w m events s actors i before (counter.Barrier (barrier.LoadPending b)) at tt;
          owes = refl;
          row = (row p w m events s actors i before (barrier.LoadPending b) at, all_gone (barrier.LoadPending b) at (eqb-true pending_word 0 none));
          ended = tt;
        })
    by_pending false some =
        let (member, first) = fits_barrier p w m events s actors i before (barrier.LoadPending b) at in
        let is = list_is p w m events s actors i before (barrier.LoadPending b) at in
        let o = here p w m events s actors i before (counter.Barrier (barrier.LoadPending b)) at tt in
        load_waits p w m events s actors i before (counter.Barrier (barrier.LoadPending b)) at tt
        (of_current w a RegionPending) on_pending (counter.Look (LoadRow (wait.Barrier b) 0))
        (looks (barrier.LoadPending b) at b member is)
        (Waits.ForTasks
        (of_own_region p w m events s actors i before (counter.Barrier (barrier.LoadPending b)) at tt (λ t r. releases_next t.list × (of_current w a RegionPending ≡ of_region w t.region RegionPending) × (pending_word ≢ 0))
        (has_release (barrier.LoadPending b) at b first is, ap (λ n. of_region w n RegionPending) (sym o.region_is), λ e. cc (sym some, eq-eqb pending_word 0 e))))

    pub load_pending_keeps : StepKeeps p w m events s actors i (barrier_next w (actors i) (barrier.LoadPending b)) (λ old. (barrier_moved p (actors i) (barrier.LoadPending b) old, barrier_outcome w (actors i) (barrier.LoadPending b) old))
    load_pending_keeps =
        (on_pending, record { there = region_word p w m events s actors i before (counter.Barrier (barrier.LoadPending b)) at tt RegionPending refl; address = refl }, by_pending (pending_word == 0) refl)

  module _ (b : Barrier) (at : (actors i).counter ≡ counter.Barrier (barrier.LoadReleased b)) where
    abbrev pub released_word : ℕ
    released_word =
        region_record p w m events s actors i before (counter.Barrier (barrier.LoadReleased b)) at tt
        (number RegionReleased) 0

    abbrev pub on_released : RecordWord
    on_released =
        word_of p w m events s actors i before (counter.Barrier (barrier.LoadReleased b)) at tt RegionReleased

    -- a member other than member 0, before the release
    by_number : released_word < a.context.arrivals → (n : ℕ) → a.context.number ≡ n → HasReleased s a n
        → KeepsRule p w m events s actors i (op.Load (of_current w a RegionReleased)) on_released
        (looking b a, outcome.NotReady (of_current w a RegionReleased) released_word)
    by_number less zero first (r, there, is) =
        let o = here p w m events s actors i before (counter.Barrier (barrier.LoadReleased b)) at tt in
        let one : o.region ≡ r = some_same o.found there in
        let word =
        (keeps_region p w m events s actors i before (counter.Barrier (barrier.LoadReleased b)) at tt).codes RegionReleased 0 _ refl in
        let all : o.region.released ≡ a.context.arrivals = ap (λ (x : Region). x.released) one ∙ is in
        absurd (omega (arith, word, all, less))
    by_number less (suc n) later o_row =
        let member = fits_barrier p w m events s actors i before (barrier.LoadReleased b) at in
        let o = here p w m events s actors i before (counter.Barrier (barrier.LoadReleased b)) at tt in
        let at_member : Encounter =
        sees p w m events s actors i before (counter.Barrier (barrier.LoadReleased b)) at tt in
        let number_is : at_member.number ≡ suc n =
        sees_number p w m events s actors i before (counter.Barrier (barrier.LoadReleased b)) at tt ∙ later in
        let other : at_member.number ≢ 0 = λ z. omega (arith, z, number_is) in
        let is =
        list_is p w m events s actors i before (barrier.LoadReleased b) at
        ∙ other_released p at_member a.stack b other in
        load_waits p w m events s actors i before (counter.Barrier (barrier.LoadReleased b)) at tt
        (of_current w a RegionReleased) on_released (counter.Look (LoadRow (wait.Barrier b) 0))
        (looks (barrier.LoadReleased b) at b member is)
        (Waits.ForRelease
        (of_own_region p w m events s actors i before (counter.Barrier (barrier.LoadReleased b)) at tt (λ t r. passes_next t.list × (of_current w a RegionReleased ≡ of_region w t.region RegionReleased) × (released_word < slice_index r.arrivals t.number)) (
          subst passes_next (sym (is ∙ other_arrives p at_member a.stack b other)) tt,
          ap (λ k. of_region w k RegionReleased) (sym o.region_is),
          subst (λ k. released_word < slice_index o.region.arrivals k) (sym o.number) (subst (λ k. released_word < k) (sym o.arrivals) less),
        )))

    pub closed_keeps : is_closed a released_word ≡ true
        → KeepsRule p w m events s actors i (op.Load (of_current w a RegionReleased)) on_released
        (looking b a, outcome.NotReady (of_current w a RegionReleased) released_word)
    closed_keeps closed =
        by_number (ltb-true released_word a.context.arrivals closed) a.context.number refl
        (row p w m events s actors i before (barrier.LoadReleased b) at)
