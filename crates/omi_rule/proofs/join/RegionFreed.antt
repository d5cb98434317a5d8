-- Behind the tasks of its members, a joined region is given back, and the encountering task works on.
use Rattle.std.proofs.Common.{◌≡◌, ℕ, zero, suc, inl, inr, Bool, true, false, List, [], ◌∷◌, ◌++◌, length, Option, Some, refl, sym, ap, ◌∙◌, subst, arith, if◌then◌else◌}
use Rattle.omi_word.specs.declared.op.Op.TheVariants as op
use Rattle.omi_script.specs.declared.program.Program.{Program}
use Rattle.omi_script.specs.declared.statement.Stmt.{Stmt}
use Rattle.omi_script.specs.declared.statement.Stmt.TheVariants as stmt
use Rattle.omi_model.specs.declared.encounter.Encounter.{Encounter}
use Rattle.omi_model.specs.declared.event.Event.{Event}
use Rattle.omi_model.specs.declared.event.Event.TheVariants as event
use Rattle.omi_model.specs.declared.freeable.Freeable.TheVariants as freeable
use Rattle.omi_model.specs.declared.id.Id.{Id}
use Rattle.omi_model.specs.declared.id.Rid.{Rid}
use Rattle.omi_model.specs.declared.id.Tid.{Tid}
use Rattle.omi_model.specs.declared.item.Item.{Item}
use Rattle.omi_model.specs.declared.item.Item.TheVariants as item
use Rattle.omi_model.specs.declared.region.Region.{Region}
use Rattle.omi_model.specs.declared.task.Task.{Task}
use Rattle.omi_model.specs.Freeing.{MayFreeRegion, region_freed}
use Rattle.omi_model.specs.Reached.{Step}
use Rattle.omi_model.specs.Rows.{work_state}
use Rattle.omi_model.specs.Rules.{Rule}
use Rattle.omi_model.specs.State.{State, region_of, task_of}
use Rattle.omi_model.proofs.Slots.{found_live, gone_other, some_same}
use Rattle.omi_model.proofs.StaysKept.{stays_step}
use Rattle.omi_model.proofs.Steps.{rule_moved}
use Rattle.omi_layout.specs.declared.field.Field.TheVariants.{RegionLife}
use Rattle.omi_layout.specs.Memory.{Memory}
use Rattle.omi_layout.specs.Named.{number}
use Rattle.omi_layout.proofs.Numbers.{numbered_field}
use Rattle.omi_pc.specs.declared.actor.Actor.{Actor}
use Rattle.omi_pc.specs.declared.context.Context.{Context}
use Rattle.omi_pc.specs.declared.counter.Counter.{Counter}
use Rattle.omi_pc.specs.declared.counter.Counter.TheVariants as counter
use Rattle.omi_pc.specs.declared.counter.PlainCounter.{PlainCounter}
use Rattle.omi_pc.specs.declared.counter.PlainCounter.TheVariants as plain
use Rattle.omi_pc.specs.declared.frame.Frame.{Frame}
use Rattle.omi_pc.specs.declared.team_counter.JoinCounter.TheVariants as join
use Rattle.omi_pc.specs.Fits.{FitsPlain, IsJoined, IsParallel}
use Rattle.omi_pc.specs.Frames.{body_in, statement_before}
use Rattle.omi_pc.specs.Moves.{back_to_work, worked, worked_at, worked_in}
use Rattle.omi_pc.specs.OpenBodies.{IsAt}
use Rattle.omi_rep.specs.declared.outcome.Outcome.TheVariants as outcome
use Rattle.omi_rule_words.specs.FreeKinds.{with_region_emptied}
use Rattle.omi_rule_words.specs.Owes.{all_owed}
use Rattle.omi_rule_words.specs.Words.{KeepsWords}
use Rattle.omi_rule_words.proofs.Moves.{moves_keep}
use Rattle.omi_rule_words.proofs.RegionFrees.{region_frees_keep}
use Rattle.omi_rule_words.proofs.Shown.{found_generations}
use Rattle.omi_step_words.specs.Placed.{HasRegion}
use Rattle.omi_step_words.specs.Words.{of_region, unused_word}
use Rattle.omi_fork.specs.JoinSteps.{join_moved, join_next, join_outcome}
use Rattle.omi_rule.specs.Ahead as Ahead
use Rattle.omi_rule.specs.Ahead.{IsAhead, leaving}
use Rattle.omi_rule.specs.Chains.{IsPassable, KeepsContext}
use Rattle.omi_rule.specs.Rows.{IsGivenBack}
use Rattle.omi_rule.specs.Rule.{HasEnded}
use Rattle.omi_rule.specs.Steps.{KeepsRule, RecordWord, StepKeeps}
use Rattle.omi_rule.proofs.Assembly.{Before, plain_event_keeps, spares_region}
use Rattle.omi_rule.proofs.GivesBack.{current, gives, goes_back, in_middle, middle, middle_tasks, middle_words, mine, none_waits}
use Rattle.omi_rule.proofs.OwedInside.{pending_open}
use Rattle.omi_rule.proofs.OwnTask.{relisted_front}
use Rattle.omi_rule.proofs.barrier.AtCounter.{ahead_is, at_counter, fits_counter, front_is, here, owes_now, placed_counter, row_is, sees, sees_debug, stands, wide}
use Rattle.omi_rule.proofs.join.BodiesUnder.{LeavesUnder, task_kept}
use Rattle.omi_rule.proofs.join.NextMember.{may_go_on}

module _ (p : Program) (w : List ℕ) (m : Memory) (events : List (ℕ × Event)) (s : State) (actors : ℕ → Actor)
    (i : ℕ) (before : Before p w m events s actors i) (r : Rid) (size : ℕ)
    (at : (actors i).counter ≡ counter.Join (join.FreeRegion r size)) where
  abbrev a : Actor
  a = actors i

  abbrev standing : Counter
  standing = counter.Join (join.FreeRegion r size)

  given : IsGivenBack s r size (λ team. Unit {0})
  given = row_is p w m events s actors i before standing at tt

  fits : IsJoined p a r size
  fits = fits_counter p w m events s actors i before standing at tt

  placed : HasRegion w r
  placed = placed_counter p w m events s actors i before standing at tt

  abbrev own_task : Task
  own_task = mine p w m events s actors i before standing at tt

  front : own_task.frees ≡ Some (freeable.Joined r size)
  front = front_is p w m events s actors i before standing at tt

  abbrev k : Tid
  k = a.context.task

  abbrev At : Encounter
  At = sees p w m events s actors i before standing at tt

  -- ---- the event

  may : MayFreeRegion s r r size
  may =
      let o = may_go_on p w m events s actors i before standing at tt r size front in
      let (region, found, joined, same, known) = given in
      o.last (sym same ∙ ap (λ (q : Region). length q.team) (some_same found o.live))

  abbrev between : State
  between = middle p w m events s actors i before standing at tt

  abbrev u : State
  u = region_freed between r

  rule : Rule s i (event.FreeRegion r) (item.Frees (freeable.Joined r size))
  rule = (k, own_task, current p w m events s actors i before standing at tt, may)

  step : Step p s i (event.FreeRegion r) u
  step = gives p w m events s actors i before standing at tt (freeable.Joined r size) front (event.FreeRegion r) u refl refl rule refl

  -- ---- words

  abbrev n : Memory
  n = with_region_emptied m r

  may_between : MayFreeRegion between r r size
  may_between =
      let (x, v, is, o) =
      in_middle p w m events s actors i before standing at tt (λ (z : State). Rule z i (event.FreeRegion r) (item.Frees (freeable.Joined r size)))
      (rule_moved s i (event.FreeRegion r) (item.Frees (freeable.Joined r size)) own_task.list rule) in o

  -- a live region on which a thread owes is not joined
  unjoined : (q : Region) → region_of s r ≡ Some q → q.joined ≡ false → ⊥
  unjoined q found is =
      let same : q ≡ may.old = some_same found may.ended.live in
      cc (ap (λ (x : Region). x.joined) same, is, may.ended.joined)

  words : KeepsWords w n u (all_owed actors)
  words =
      region_frees_keep w m between (all_owed actors) r size (middle_words p w m events s actors i before standing at tt) may_between
      (λ j known is. let (q, found, off) = pending_open p w m events s actors before.rule j known r is in unjoined q found off)
      (λ j known is. let (q, found, off) = (before.rule.words.made j known).objects.left r is in unjoined q found off)

  -- ---- what stays: a name that no task has stands for the one that is gone

  abbrev nobody : Tid
  nobody = record { 0 = record { creator = 0; slot = 0; generation = (s.tasks 0 0).generations } }

  nobody_lives : (t : Task) → task_of s nobody ≡ Some t → ⊥
  nobody_lives t live =
      let made = found_generations (s.tasks 0 0).generations (s.tasks 0 0) t live in omega (arith, made)

  leaves : LeavesUnder s u nobody
  leaves = record {
    environment = refl;
    others = λ x other v live. middle_tasks p w m events s actors i before standing at tt x v live;
    regions = λ x v live q found. (
      q,
      gone_other s.regions r.0 v.region.0 q
          (λ same. may.empty x.0.creator x.0.slot v (found_live x.0.generation (s.tasks x.0.creator x.0.slot) v live) (ap (λ (d : Id). record { 0 = d }) same)) found,
      refl,
      refl,
      refl,
    );
  }

  apart : (c : Context) → KeepsContext s i c → c.task ≡ nobody → ⊥
  apart c o same = nobody_lives o.task (ap (task_of s) (sym same) ∙ o.live)

  -- ---- the thread

  abbrev on_life : RecordWord
  on_life = record { creator = r.0.creator; slot = r.0.slot; field = RegionLife; place = 0 }

  abbrev Goes : Actor → Type 0
  Goes b =
      KeepsRule p w m events s actors i (op.Store (of_region w r RegionLife) (unused_word r.0)) on_life
      (b, outcome.Event (event.FreeRegion r))

  abbrev later : List (ℕ × Event)
  later = events ++ (i, event.FreeRegion r) ∷ []

  -- the current task has the same list, and nothing in front of it
  lists : (x : Task) → task_of u k ≡ Some x → (x.list ≡ own_task.list) × IsPassable x.frees
  lists x live =
      let mine_now = here p w m events s actors i before standing at tt in
      let (free, there) = task_kept p s u i nobody leaves a.context (apart a.context mine_now) own_task mine_now.live in (
        ap (λ (y : Task). y.list) (some_same live there),
        subst IsPassable (sym (relisted_front p s i a (stands p w m events s actors i before standing at tt) own_task.list u refl x live)) tt,
      )

  leads_to : (y : PlainCounter) → FitsPlain p (at_counter (counter.Plain y) a) y
      → IsAhead p At a.stack (counter.Plain y) own_task.list → HasEnded later i (counter.Plain y)
      → Goes (at_counter (counter.Plain y) a)
  leads_to y fit ahead ended =
      plain_event_keeps p w m events s actors i before (op.Store (of_region w r RegionLife) (unused_word r.0)) on_life
      (at_counter (counter.Plain y) a, outcome.Event (event.FreeRegion r)) (event.FreeRegion r) u
      (λ none. none) refl step (unused_word r.0, refl)
      (none_waits p w m events s actors i before standing at tt (freeable.Joined r size) front (event.FreeRegion r) u refl step)
      (moves_keep w n u actors i (at_counter (counter.Plain y) a) words (sym (owes_now p w m events s actors i before standing at tt)))
      (λ j other. spares_region m s r may.old RegionLife 0 (unused_word r.0) j (actors j) may.ended.live (inl (λ same. omega (arith, same))))
      (goes_back p w m events s actors i before standing at tt u nobody leaves apart refl
      (stays_step p s i (event.FreeRegion r) u step) n later (counter.Plain y) lists fit tt ahead tt ended)

  -- ---- the construct that goes on

  module _ (f : ℕ) (num : Option ℕ) (at_construct : IsAt p a.stack (stmt.Parallel f num)) where
    by : (d : Bool) → p.env.debug ≡ d → worked p a ≡ at_counter (counter.Plain plain.Leave) a
        → Ahead.worked p At a.stack ≡ leaving p At a.stack
        → Goes (if d then at_counter (counter.Plain plain.WorkState) a else worked p a)
    by true e leave ahead =
        leads_to plain.WorkState (inr (stmt.Parallel f num, at_construct, tt))
        (ahead_is p w m events s actors i before standing at tt
        ∙ ap (λ (b : Bool). if b then item.State (work_state At.level) 0 ∷ leaving p At a.stack else leaving p At a.stack) (sees_debug p w m events s actors i before standing at tt ∙ e)
        ∙ ap (λ (xs : List Item). item.State (work_state At.level) 0 ∷ xs) (sym ahead))
        tt
    by false e leave ahead =
        subst Goes (sym leave)
        (leads_to plain.Leave (stmt.Parallel f num, at_construct, tt)
        (ahead_is p w m events s actors i before standing at tt
        ∙ ap (λ (b : Bool). if b then item.State (work_state At.level) 0 ∷ leaving p At a.stack else leaving p At a.stack) (sees_debug p w m events s actors i before standing at tt ∙ e))
        tt)

    of_next : (g : Frame) (gs : List Frame) → a.stack ≡ g ∷ gs → (j : ℕ) → g.next ≡ j
        → statement_before (body_in p g) j ≡ Some (stmt.Parallel f num) → Goes (back_to_work p a)
    of_next g gs is zero e none = absurd (cc none)
    of_next g gs is (suc j) e some =
        by p.env.debug refl
        (ap (λ (xs : List Frame). worked_in p xs a) is ∙ ap (λ x. worked_at p x a) e)
        (ap (λ (xs : List Frame). Ahead.worked p At xs) is ∙ ap (λ x. Ahead.working_at p At x (g ∷ gs)) e ∙ ap (leaving p At) (sym is))

    of_frame : (xs : List Frame) → a.stack ≡ xs → IsAt p xs (stmt.Parallel f num) → Goes (back_to_work p a)
    of_frame [] is none = absurd (cc none)
    of_frame (g ∷ gs) is some = of_next g gs is g.next refl some

    goes : Goes (back_to_work p a)
    goes = of_frame a.stack refl at_construct

  of_statement : (x : Stmt) → IsAt p a.stack x → IsParallel x → Goes (back_to_work p a)
  of_statement (stmt.Parallel f num) at_construct is = goes f num at_construct
  of_statement x at_construct is = absurd is

  pub free_region_keeps : StepKeeps p w m events s actors i (join_next w (actors i) (join.FreeRegion r size))
      (λ old. (join_moved p w (actors i) (join.FreeRegion r size) old, join_outcome w (actors i) (join.FreeRegion r size) old))
  free_region_keeps = (
    on_life,
    record { there = record { field = numbered_field RegionLife; record_slot = placed; within = wide p w m events s actors i before standing at tt (number RegionLife) }; address = refl },
    let (x, at_construct, is) = fits.0 in of_statement x at_construct is,
  )
