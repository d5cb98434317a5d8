-- A member passes a barrier that was released: its construct ends, or the member does.
use Rattle.std.proofs.Common.{◌≡◌, ◌≢◌, ◌≤◌, ℕ, zero, suc, inr, Bool, true, false, List, [], ◌∷◌, ◌++◌, length, slice_index, Some, refl, sym, ap, ◌∙◌, subst, arith, ltb-false, if◌then◌else◌}
use Rattle.omi_word.specs.declared.op.Op.TheVariants as op
use Rattle.omi_script.specs.declared.program.Program.{Program}
use Rattle.omi_script.specs.declared.statement.Stmt.TheVariants as stmt
use Rattle.omi_model.specs.declared.encounter.Encounter.{Encounter}
use Rattle.omi_model.specs.declared.event.Event.{Event}
use Rattle.omi_model.specs.declared.event.Event.TheVariants as event
use Rattle.omi_model.specs.declared.item.Item.{Item}
use Rattle.omi_model.specs.declared.item.Item.TheVariants as item
use Rattle.omi_model.specs.Changes.{IsCurrent}
use Rattle.omi_model.specs.Lists.{take_item}
use Rattle.omi_model.specs.Reached.{Step}
use Rattle.omi_model.specs.Rows.{work_state}
use Rattle.omi_model.specs.State.{State}
use Rattle.omi_layout.specs.declared.field.Field.TheVariants.{RegionReleased}
use Rattle.omi_layout.specs.Memory.{Memory}
use Rattle.omi_pc.specs.declared.actor.Actor.{Actor}
use Rattle.omi_pc.specs.declared.counter.Counter.{Counter}
use Rattle.omi_pc.specs.declared.counter.Counter.TheVariants as counter
use Rattle.omi_pc.specs.declared.counter.PlainCounter.TheVariants as plain
use Rattle.omi_pc.specs.declared.frame.Barrier.{Barrier}
use Rattle.omi_pc.specs.declared.frame.Barrier.TheVariants.{Explicit, Implicit}
use Rattle.omi_pc.specs.declared.frame.Frame.{Frame}
use Rattle.omi_pc.specs.declared.frame.Opened.{Opened}
use Rattle.omi_pc.specs.declared.frame.Opened.TheVariants as opened
use Rattle.omi_pc.specs.declared.team_counter.BarrierCounter.{BarrierCounter}
use Rattle.omi_pc.specs.declared.team_counter.BarrierCounter.TheVariants as barrier
use Rattle.omi_pc.specs.declared.team_counter.JoinCounter.TheVariants.{LoadLeft}
use Rattle.omi_pc.specs.declared.team_counter.WorkerCounter.TheVariants.{ImplicitEnd}
use Rattle.omi_pc.specs.Frames.{body_in}
use Rattle.omi_pc.specs.Moves.{worked}
use Rattle.omi_pc.specs.OpenBodies.{IsAt, IsAtBarrier, IsAtEnd, IsMain, IsMaster, IsMember, IsWorker}
use Rattle.omi_rep.specs.declared.outcome.Outcome.TheVariants as outcome
use Rattle.omi_rule_words.specs.Owes.{all_owed}
use Rattle.omi_rule_words.specs.Words.{KeepsWords}
use Rattle.omi_step_words.specs.Words.{of_region}
use Rattle.omi_fork.specs.BarrierSteps.{barrier_moved, barrier_next, barrier_outcome, behind_member_end, ended_in, is_closed, looking, of_current, passed}
use Rattle.omi_rule.specs.Ahead.{behind_barrier, last_by, last_of, leaving}
use Rattle.omi_rule.specs.Ahead as Ahead
use Rattle.omi_rule.specs.Chains.{KeepsContext}
use Rattle.omi_rule.specs.Steps.{KeepsRule, StepKeeps}
use Rattle.omi_rule.proofs.Assembly.{Before, of_load, spares_none}
use Rattle.omi_rule.proofs.OwnTask.{is_current}
use Rattle.omi_rule.proofs.RowsStay.{Spares}
use Rattle.omi_rule.proofs.barrier.AtBarrier.{fits_barrier, list_is}
use Rattle.omi_rule.proofs.barrier.AtCounter.{at_counter, body, here, keeps_region, region_there, region_word, sees, sees_debug, sees_number, stands}
use Rattle.omi_rule.proofs.barrier.Constructs.{at_construct}
use Rattle.omi_rule.proofs.barrier.Events.{IsReadyAt, event_leads_to, relisted_changes, relisted_state, relisted_words, steps}
use Rattle.omi_rule.proofs.barrier.Loads.{closed_keeps, first_released, on_released, other_arrives, other_released, released_word}

module _ (p : Program) (w : List ℕ) (m : Memory) (events : List (ℕ × Event)) (s : State) (actors : ℕ → Actor)
    (i : ℕ) (before : Before p w m events s actors i) (b : Barrier)
    (at : (actors i).counter ≡ counter.Barrier (barrier.LoadReleased b)) where
  abbrev a : Actor
  a = actors i

  abbrev c : BarrierCounter
  c = barrier.LoadReleased b

  abbrev At : Encounter
  At = sees p w m events s actors i before (counter.Barrier c) at tt

  abbrev own : KeepsContext s i (actors i).context
  own = here p w m events s actors i before (counter.Barrier c) at tt

  abbrev behind : List Item
  behind = behind_barrier p At a.stack b

  abbrev next : State
  next = relisted_state p w m events s actors i before (counter.Barrier c) at tt behind

  abbrev word : ℕ
  word = released_word p w m events s actors i before b at

  -- ---- the event

  takes_pass : take_item p At event.Pass own.task.list ≡ Some (item.Pass, behind)
  takes_pass =
      ap (λ xs. take_item p At event.Pass xs) (list_is p w m events s actors i before c at)
      ∙ go a.context.number refl
    where
      go : (n : ℕ) → a.context.number ≡ n
          → take_item p At event.Pass (Ahead.released p At a.stack b) ≡ Some (item.Pass, behind)
      go zero first =
          ap (λ xs. take_item p At event.Pass xs)
          (first_released p At a.stack b (sees_number p w m events s actors i before (counter.Barrier c) at tt ∙ first))
      go (suc n) later =
          let number_is : At.number ≡ suc n =
          sees_number p w m events s actors i before (counter.Barrier c) at tt ∙ later in
          let other : At.number ≢ 0 = λ z. omega (arith, z, number_is) in
          ap (λ xs. take_item p At event.Pass xs)
          (other_released p At a.stack b other ∙ other_arrives p At a.stack b other)

  current : IsCurrent s i a.context.task own.task
  current = is_current p s i a (stands p w m events s actors i before (counter.Barrier c) at tt)

  step : is_closed a word ≡ false → Step p s i event.Pass next
  step free =
      let reached : a.context.arrivals ≤ word = ltb-false word a.context.arrivals free in
      let is =
      (keeps_region p w m events s actors i before (counter.Barrier c) at tt).codes RegionReleased 0 _ refl in
      let may : slice_index own.region.arrivals own.task.number ≤ own.region.released =
      subst (λ j. slice_index own.region.arrivals j ≤ own.region.released) (sym own.number)
      (subst (λ k. k ≤ own.region.released) (sym own.arrivals) (subst (λ k. a.context.arrivals ≤ k) is reached)) in
      steps p w m events s actors i before
      (counter.Barrier c) at tt event.Pass item.Pass behind next takes_pass
      (a.context.task, own.task, own.region, current, region_there p w m events s actors i before (counter.Barrier c) at tt, may) refl refl

  abbrev later : List (ℕ × Event)
  later = events ++ (i, event.Pass) ∷ []

  passes : is_closed a word ≡ false → (y : Counter)
      → ((n : Memory) → IsReadyAt p w n later next i At a y behind)
      → KeepsRule p w m events s actors i (op.Load (of_current w a RegionReleased)) (on_released p w m events s actors i before b at) (at_counter y a, outcome.Event event.Pass)
  passes free y ready =
      let same =
      of_load p w m events s actors i before (of_current w a RegionReleased)
      (on_released p w m events s actors i before b at) in
      event_leads_to p w m events s actors i before (counter.Barrier c) at tt refl
      (op.Load (of_current w a RegionReleased)) (on_released p w m events s actors i before b at) y
      (outcome.Event event.Pass) event.Pass item.Pass behind next refl (λ no_object. no_object)
      (λ f e. absurd (cc e)) takes_pass (step free)
      (a.context.task, own.task, current, ap (λ n. op.Load (of_region w n RegionReleased)) (sym own.region_is))
      (subst (λ (n : Memory). KeepsWords w n next (all_owed actors)) (sym same) (relisted_words p w m events s actors i before (counter.Barrier c) at tt behind))
      (λ j other. subst (λ (n : Memory). Spares m n s j (actors j)) (sym same) (spares_none m s j (actors j)))
      (relisted_changes p w m events s actors i before (counter.Barrier c) at tt behind) refl (ready _)

  -- ---- where the member goes on

  abbrev Goes : Actor → Type 0
  Goes x =
      KeepsRule p w m events s actors i (op.Load (of_current w a RegionReleased))
      (on_released p w m events s actors i before b at) (x, outcome.Event event.Pass)

  -- a barrier construct is in work
  construct_goes : is_closed a word ≡ false → b ≡ Explicit → IsAt p a.stack stmt.Barrier
      → Goes (passed p Explicit a)
  construct_goes free explicit here_is =
      let (f, fs, is, task) = body p w m events s actors i before (counter.Barrier c) at tt in
      let (goes_on, ahead_is) = at_construct p a f fs stmt.Barrier is here_is in
      go p.env.debug refl goes_on (ahead_is At)
    where
      list_is : (d : Bool) → p.env.debug ≡ d
          → behind ≡ (if d then item.State (work_state At.level) 0 ∷ leaving p At a.stack else leaving p At a.stack)
      list_is d e =
          ap (λ x. behind_barrier p At a.stack x) explicit
          ∙ ap
          (λ (x : Bool). if x then item.State (work_state At.level) 0 ∷ leaving p At a.stack else leaving p At a.stack)
          (sees_debug p w m events s actors i before (counter.Barrier c) at tt ∙ e)

      go : (d : Bool) → p.env.debug ≡ d → worked p a ≡ at_counter (counter.Plain plain.Leave) a
          → Ahead.worked p At a.stack ≡ leaving p At a.stack
          → Goes (if d then at_counter (counter.Plain plain.WorkState) a else worked p a)
      go true e goes_on ahead_is =
          passes free (counter.Plain plain.WorkState)
          (λ n. record { fits = inr (stmt.Barrier, here_is, tt); placed = tt; ahead = list_is true e ∙ ap (λ xs. item.State (work_state At.level) 0 ∷ xs) (sym ahead_is); front = tt; owes = refl; row = tt; ended = tt })
      go false e goes_on ahead_is =
          subst Goes (sym goes_on)
          (passes free (counter.Plain plain.Leave) (λ n. record { fits = (stmt.Barrier, here_is, tt); placed = tt; ahead = list_is false e; front = tt; owes = refl; row = tt; ended = tt }))

  -- the member is at its end
  member_goes : is_closed a word ≡ false → b ≡ Implicit → IsAtEnd p IsMember a.stack
      → Goes (passed p Implicit a)
  member_goes free implicit end =
      let (f, fs, is, task) = body p w m events s actors i before (counter.Barrier c) at tt in
      let (at_end, opened_is) = subst (IsAtEnd p IsMember) is end in
      subst Goes (sym (ap (λ (xs : List Frame). ended_in xs a) is))
      (go f fs is at_end f.opened refl opened_is)
    where
      go : (f : Frame) (fs : List Frame) → a.stack ≡ f ∷ fs → f.next ≡ length (body_in p f) → (o : Opened)
          → f.opened ≡ o → IsMember o → Goes (at_counter (behind_member_end o a.counter) a)
      go f fs is at_end o e member =
          by o e member
          (ap (λ x. behind_barrier p At a.stack x) implicit ∙ ap (λ (xs : List Frame). last_of xs) is ∙ ap last_by e)
        where
          ends : (P : Opened → Type 0) → P f.opened → IsAtEnd p P a.stack
          ends P o = subst (IsAtEnd p P) (sym is) (at_end, o)

          by : (o : Opened) → f.opened ≡ o → IsMember o → behind ≡ last_by o
              → Goes (at_counter (behind_member_end o a.counter) a)
          by opened.Main e member last =
              passes free (counter.Plain plain.Done)
              (λ n. record { fits = ends IsMain (subst IsMain (sym e) tt); placed = tt; ahead = last; front = tt; owes = refl; row = tt; ended = tt })
          by opened.Worker e member last =
              passes free (counter.Worker ImplicitEnd)
              (λ n. record { fits = ends IsWorker (subst IsWorker (sym e) tt); placed = tt; ahead = last; front = tt; owes = refl; row = tt; ended = tt })
          by (opened.Master saved) e member last =
              passes free (counter.Join LoadLeft)
              (λ n. record { fits = ends IsMaster (subst IsMaster (sym e) tt); placed = tt; ahead = last; front = tt; owes = refl; row = tt; ended = tt })
          by (opened.Task x saved) e member last = absurd member
          by opened.Call e member last = absurd member
          by (opened.Repeat left) e member last = absurd member
          by (opened.Critical k) e member last = absurd member
          by opened.Taskgroup e member last = absurd member

  goes_from : is_closed a word ≡ false → (x : Barrier) → b ≡ x → IsAtBarrier p a.stack x → Goes (passed p x a)
  goes_from free Explicit e here_is = construct_goes free e here_is
  goes_from free Implicit e here_is = member_goes free e here_is

  by_release : (d : Bool) → is_closed a word ≡ d
      → KeepsRule p w m events s actors i (op.Load (of_current w a RegionReleased)) (on_released p w m events s actors i before b at)
      (if d then looking b a else passed p b a, if d then outcome.NotReady (of_current w a RegionReleased) word else outcome.Event event.Pass)
  by_release true closed = closed_keeps p w m events s actors i before b at closed
  by_release false free = goes_from free b refl (fits_barrier p w m events s actors i before c at).0

  pub load_released_keeps : StepKeeps p w m events s actors i (barrier_next w (actors i) (barrier.LoadReleased b)) (λ old. (barrier_moved p (actors i) (barrier.LoadReleased b) old, barrier_outcome w (actors i) (barrier.LoadReleased b) old))
  load_released_keeps =
      (on_released p w m events s actors i before b at, record { there = region_word p w m events s actors i before (counter.Barrier c) at tt RegionReleased refl; address = refl }, by_release (is_closed a word) refl)
