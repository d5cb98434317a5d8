-- An explicit task finishes: its body is closed, and the task that it was scheduled from goes on once the counts are lowered.
use Rattle.std.proofs.Common.{◌≡◌, ℕ, false, List, [], ◌∷◌, ◌++◌, length, Option, Some, None, refl, sym, ap, ◌∙◌, subst, arith}
use Rattle.std.specs.Option.{option_map}
use Rattle.omi_word.specs.declared.op.Op.TheVariants as op
use Rattle.omi_script.specs.declared.program.Program.{Program}
use Rattle.omi_script.specs.declared.statement.Stmt.TheVariants as stmt
use Rattle.omi_model.specs.declared.encounter.Encounter.{Encounter}
use Rattle.omi_model.specs.declared.event.Event.{Event}
use Rattle.omi_model.specs.declared.event.Event.TheVariants as event
use Rattle.omi_model.specs.declared.freeable.Freeable.{Freeable}
use Rattle.omi_model.specs.declared.freeable.Freeable.TheVariants as freeable
use Rattle.omi_model.specs.declared.id.Tid.{Tid}
use Rattle.omi_model.specs.declared.item.Item.TheVariants as item
use Rattle.omi_model.specs.declared.progress.Progress.TheVariants.{Finished}
use Rattle.omi_model.specs.declared.task.Task.{Task}
use Rattle.omi_model.specs.declared.thread.Thread.{Thread}
use Rattle.omi_model.specs.Changes.{IsCurrent}
use Rattle.omi_model.specs.Lists.{take_item}
use Rattle.omi_model.specs.Put.{on, put, named}
use Rattle.omi_model.specs.Reached.{Step}
use Rattle.omi_model.specs.State.{State, task_of}
use Rattle.omi_model.specs.Tasking.{finished}
use Rattle.omi_model.proofs.Slots.{on_other, on_same, put_same, some_same}
use Rattle.omi_model.proofs.Steps.{at_current, current_moved, relisted}
use Rattle.omi_layout.specs.declared.field.Field.TheVariants.{ThreadCurrent}
use Rattle.omi_layout.specs.Field.{threads}
use Rattle.omi_layout.specs.Memory.{Memory, with_word}
use Rattle.omi_layout.specs.Named.{number}
use Rattle.omi_pc.specs.declared.actor.Actor.{Actor}
use Rattle.omi_pc.specs.declared.context.Context.{Context}
use Rattle.omi_pc.specs.declared.counter.Counter.{Counter}
use Rattle.omi_pc.specs.declared.counter.Counter.TheVariants as counter
use Rattle.omi_pc.specs.declared.frame.Frame.{Frame}
use Rattle.omi_pc.specs.declared.frame.Opened.{Opened}
use Rattle.omi_pc.specs.declared.frame.Opened.TheVariants as opened
use Rattle.omi_pc.specs.Fits.{IsBack}
use Rattle.omi_pc.specs.Frames.{body_in}
use Rattle.omi_pc.specs.Moves.{closed, closed_in, context_under}
use Rattle.omi_pc.specs.OpenBodies.{AreOpen, IsAtEnd, IsExplicit, IsExplicitOf, StandsOn, StartsAt}
use Rattle.omi_rep.specs.declared.outcome.Outcome.TheVariants as outcome
use Rattle.omi_rep.specs.Records.{task_address, task_word}
use Rattle.omi_rule_words.specs.Owes.{Owed, all_owed, nothing}
use Rattle.omi_rule_words.specs.Words.{KeepsWords}
use Rattle.omi_step_words.specs.Moving.{task_under, to_finish}
use Rattle.omi_step_words.specs.Placed.{AreContextsPlaced}
use Rattle.omi_step_words.specs.Words.{of_thread}
use Rattle.omi_rule.proofs.WaitingFronts.{freeing_front}
use Rattle.omi_rule.specs.Ahead.{IsAhead, ahead, behind_body, resuming}
use Rattle.omi_rule.specs.Chains.{IsScheduledFrom, IsSuspended, KeepsBodies, KeepsBody, KeepsContext, Stands, StandsWith, encounter_of}
use Rattle.omi_rule.specs.Steps.{IsOn, KeepsRule, RecordWord, StepKeeps}
use Rattle.omi_rule.proofs.OwnWords.{store_on, thread_word}
use Rattle.omi_rule.proofs.Assembly.{Before, plain_event_keeps, spares_threads}
use Rattle.omi_rule.proofs.Own.{AreBelow, IsBelow}
use Rattle.omi_rule.proofs.OthersStand.{of_innermost}
use Rattle.omi_rule.proofs.OwnTask.{is_current, list_moved, own_below}
use Rattle.omi_rule.proofs.barrier.AtCounter.{ahead_is, body, context_placed, fits_counter, here, is_context, own, owes_now, sees, stands}
use Rattle.omi_rule.proofs.barrier.Events.{none_new, relisted_state, relisted_words, steps}
use Rattle.omi_rule.proofs.join.BodiesUnder.{freeing_later, LeavesUnder, encounter_kept, task_kept, under_kept}
use Rattle.omi_model.proofs.StaysKept.{stays_step}
use Rattle.omi_rule.specs.Chains.{RunsFunctions}
use Rattle.omi_rule.proofs.Runs.{bodies_run}
use Rattle.omi_pc.specs.declared.frame.Wait.{Wait}
use Rattle.omi_pc.specs.declared.task_counter.FinishCounter.TheVariants as finish
use Rattle.omi_model.proofs.NamesLive.{names_live}
use Rattle.omi_rule_words.proofs.ListedNames.{names_stay_live}
use Rattle.omi_model.specs.LawNames.{AreNamesLive}
use Rattle.omi_task.specs.FinishSteps.{finish_moved, finish_next, finish_outcome, wait_by, wait_in}
use Rattle.omi_task.specs.FinishSteps as FinishSteps
use Rattle.omi_rule.specs.Rows.{HasEndedUnder}
use Rattle.omi_rule_words.proofs.Finishes.{finishes_keep}
use Rattle.omi_rule.proofs.Descends.{made_by_larger}
use Rattle.omi_rule.proofs.Owing.{owed_after}
use Rattle.omi_rule.proofs.RelistedState.{within_relisted}
use Rattle.omi_rule.proofs.Settling.{last_item, none_behind}

module _ (p : Program) (w : List ℕ) (m : Memory) (events : List (ℕ × Event)) (s : State) (actors : ℕ → Actor)
    (i : ℕ) (before : Before p w m events s actors i)
    (at : (actors i).counter ≡ counter.Finish finish.Finish) where
  abbrev a : Actor
  a = actors i

  abbrev x : Counter
  x = counter.Finish finish.Finish

  abbrev At : Encounter
  At = sees p w m events s actors i before x at tt

  abbrev mine : KeepsContext s i (actors i).context
  mine = here p w m events s actors i before x at tt

  abbrev listed : State
  listed = relisted_state p w m events s actors i before x at tt []

  abbrev ended_task : Task
  ended_task = relisted [] mine.task

  abbrev ending : Task → Task
  ending t = record t { progress = Finished }

  abbrev next : State
  next = finished listed i a.context.task ended_task

  current : IsCurrent s i a.context.task mine.task
  current = is_current p s i a (stands p w m events s actors i before x at tt)

  current_listed : IsCurrent listed i a.context.task ended_task
  current_listed = current_moved s i a.context.task current.name [] a.context.task mine.task current

  -- ---- what stays

  later_task : (n : Tid) (t : Task) → named (on listed.tasks a.context.task.0 ending) n.0 ≡ Some t
      → (free : Option Freeable) × (task_of next n ≡ Some (record t { frees = free }))
  later_task = freeing_later (on listed.tasks a.context.task.0 ending) (Some (freeable.Finished a.context.task)) ended_task.scheduling

  leaves : LeavesUnder s next a.context.task
  leaves = record {
    environment = refl;
    others = λ n other t live.
        later_task n t
        (on_other listed.tasks a.context.task.0 ending n.0 other ∙ on_other s.tasks a.context.task.0 (relisted []) n.0 other ∙ live);
    regions = λ n t live r found. (r, found, refl, refl, refl);
  }

  abbrev on_current : RecordWord
  on_current = thread_word i ThreadCurrent

  abbrev later : List (ℕ × Event)
  later = events ++ (i, event.Finish a.context.task) ∷ []

  abbrev Goes : Actor → Type 0
  Goes b =
      KeepsRule p w m events s actors i
      (op.Store (of_thread w a.thread ThreadCurrent) (task_address w (task_under a))) on_current
      (b, outcome.Event (event.Finish a.context.task))

  is_on : IsOn w (op.Store (of_thread w a.thread ThreadCurrent) (task_address w (task_under a))) on_current
  is_on = store_on p w m events s actors i before ThreadCurrent (task_address w (task_under a)) refl

  -- ---- with the bodies of the stack

  module _ (f : Frame) (fs : List Frame) (stack : a.stack ≡ f ∷ fs) (end : f.next ≡ length (body_in p f))
      (v : Option Wait) (saved : Context) (how : f.opened ≡ opened.Task v saved)
      (starts : StartsAt p saved f.function fs v) (of : IsExplicitOf saved a.context)
      (from : IsScheduledFrom s saved a.context)
      (suspended : IsSuspended s saved (resuming p (encounter_of s saved) fs v))
      (under : KeepsBodies p s i saved fs)
      (open_under : AreOpen p saved fs) (placed_under : AreContextsPlaced w saved fs)
      (apart : saved.task ≡ a.context.task → ⊥) (below : AreBelow a.context.task fs) where
    -- the thread behind the end of the task
    abbrev back : Actor
    back =
        record a { context = saved; stack = fs; counter = counter.Finish (finish.LoadGenerating v a.context.task) }

    runs_under : RunsFunctions s saved fs
    runs_under =
        subst (λ (o : Opened). RunsFunctions s (context_under a.context o) fs) how
        (subst (RunsFunctions s a.context) stack (own p w m events s actors i before x at tt).runs).1

    closed_is : closed a ≡ record a { context = saved; stack = fs }
    closed_is =
        ap (λ (xs : List Frame). closed_in a xs) stack
        ∙ ap (λ (o : Opened). record a { context = context_under a.context o; stack = fs }) how

    finished_is : FinishSteps.past_finish a ≡ back
    finished_is =
        ap
        (λ (xs : List Frame). to_finish (finish.LoadGenerating (wait_in xs) a.context.task) (closed_in a xs)) stack
        ∙ ap
        (λ (o : Opened). record a { context = context_under a.context o; stack = fs; counter = counter.Finish (finish.LoadGenerating (wait_by o) a.context.task) }) how

    explicit : mine.task.implicit ≡ false
    explicit = mine.implicit ∙ of.implicit

    met : mine.task.scheduling ≡ Some saved.task
    met = ap (λ (t : Task). t.scheduling) (some_same mine.live from.live) ∙ from.scheduling

    same_region : mine.task.region ≡ saved.region
    same_region = mine.region_is ∙ of.region

    -- ---- the event

    list_is : mine.task.list ≡ item.Finish ∷ []
    list_is =
        ahead_is p w m events s actors i before x at tt ∙ ap (λ (xs : List Frame). ahead p At xs) stack
        ∙ last_item (body_in p f) f.next (behind_body At f.opened f.function (ahead p At fs))
        (none_behind (body_in p f) f.next end)
        ∙ ap (λ (o : Opened). behind_body At o f.function (ahead p At fs)) how

    taken : take_item p At (event.Finish a.context.task) mine.task.list ≡ Some (item.Finish, [])
    taken = ap (λ xs. take_item p At (event.Finish a.context.task) xs) list_is

    step : Step p s i (event.Finish a.context.task) next
    step =
        steps p w m events s actors i before x at tt (event.Finish a.context.task) item.Finish [] next taken
        (a.context.task, mine.task, current, record { current = refl; explicit = explicit }) refl
        (at_current listed i a.context.task ended_task (finished listed i) current_listed)

    -- the task that made it
    maker : (g : Tid) × (mine.task.generating ≡ Some g)
    maker =
        let (g, u, by, there, less) = made_by_larger p events s before.rule.reached a.context.task mine.task mine.live explicit in (g, by)

    -- ---- words

    names : AreNamesLive listed
    names =
        subst AreNamesLive (list_moved p s i a (stands p w m events s actors i before x at tt) [])
        (names_stay_live s i [] (names_live p events s before.rule.reached))

    word_is : task_word w mine.task.scheduling ≡ task_address w (task_under a)
    word_is = ap (task_word w) met ∙ sym (ap (λ (b : Actor). task_address w b.context.task) closed_is)

    abbrev stored : Memory
    stored = with_word m i threads 0 (number ThreadCurrent) 0 (task_address w (task_under a))

    abbrev lowers : Owed
    lowers = record nothing { pending = Some mine.task.region; lowered = Some a.context.task; uncounted = Some a.context.task; own = Some a.context.task }

    words : KeepsWords w stored next (put (all_owed actors) i lowers)
    words =
        subst
        (λ v. KeepsWords w (with_word m i threads 0 (number ThreadCurrent) 0 v) next (put (all_owed actors) i lowers)) word_is
        (finishes_keep w m listed (all_owed actors) i a.context.task maker.0 ended_task (relisted_words p w m events s actors i before x at tt [])
        (within_relisted s a.context.task [] w before.rule.within) names before.known
        (owes_now p w m events s actors i before x at tt)
        (record { live = current_listed.live; explicit = explicit; progress = mine.begun }) maker.1)

    -- ---- the thread

    top_under : KeepsContext s i saved
    top_under = of_innermost p s i saved fs under

    sees_same : encounter_of next saved ≡ encounter_of s saved
    sees_same = encounter_kept p s next i a.context.task leaves saved apart top_under

    stands_back : Stands p next i back
    stands_back = by fs refl
      where
        in_task : (g : Frame) (gs : List Frame) → fs ≡ g ∷ gs → StandsWith p next i back (g ∷ gs)
        in_task g gs is = record {
          current = ap (λ (h : Thread). h.current) (put_same s.threads i (record (s.threads i) { current = mine.task.scheduling })) ∙ met;
          bodies = under_kept p s next i a.context.task leaves saved fs apart below under;
          ahead = λ t live.
              let (free, there) = task_kept p s next i a.context.task leaves saved apart suspended.task suspended.live in
              let one : record suspended.task { frees = free } ≡ t = some_same there live in
              subst (λ (e : Encounter). IsAhead p e fs back.counter t.list) (sym sees_same) (ap (λ (u : Task). u.list) (sym one) ∙ suspended.list_is);
          front = λ t live. freeing_front (Some (freeable.Finished a.context.task)) _ mine.task.scheduling saved.task met t live;
        }

        none : (o : Option Wait) → StartsAt p saved f.function [] o → ⊥
        none None (undeferred, final, is) = absurd (cc is)
        none (Some y) (less, waits) = absurd (omega (arith, less))

        by : (xs : List Frame) → fs ≡ xs → StandsWith p next i back xs
        by [] is = absurd (none v (subst (λ (xs : List Frame). StartsAt p saved f.function xs v) is starts))
        by (g ∷ gs) is = in_task g gs is

    back_there : IsBack p back v
    back_there = by v starts
      where
        by : (o : Option Wait) → StartsAt p saved f.function fs o → IsBack p back o
        by None (undeferred, final, is) = (stmt.Task f.function undeferred final, is, tt)
        by (Some y) (less, waits) = waits

    ended_there : (free : Option Freeable) × (task_of next a.context.task ≡ Some (record (ending ended_task) { frees = free }))
    ended_there =
        later_task a.context.task (ending ended_task)
        (on_same listed.tasks a.context.task.0 ending ∙ ap (option_map ending) current_listed.live)

    ended_under : HasEndedUnder next back a.context.task (λ g. Unit {0})
    ended_under = record {
      task = record (ending ended_task) { frees = ended_there.0 };
      live = ended_there.1;
      explicit = explicit;
      progress = refl;
      region = same_region;
      generating = maker.0;
      made_by = maker.1;
      knows = tt;
    }

    goes : Goes (FinishSteps.past_finish a)
    goes =
        let o = own p w m events s actors i before x at tt in
        let v = task_address w (task_under a) in
        subst Goes (sym finished_is)
        (plain_event_keeps p w m events s actors i before (op.Store (of_thread w a.thread ThreadCurrent) v) on_current (back, outcome.Event (event.Finish a.context.task)) (event.Finish a.context.task) next
        (λ no_object. no_object) refl step (v, ap (λ j. op.Store (of_thread w j ThreadCurrent) v) o.thread)
        (none_new p w m events s actors i before x at tt (event.Finish a.context.task) item.Finish [] next taken step (λ g e. absurd (cc e)))
        (owed_after w stored next actors i back lowers (ap (λ r. record nothing { pending = Some r; lowered = Some a.context.task; uncounted = Some a.context.task; own = Some a.context.task }) (sym same_region)) words)
        (λ j other. spares_threads m s i ThreadCurrent v j (actors j) (λ same. omega (arith, same)))
        (record {
          thread = o.thread;
          fits = record { thread = o.fits.thread; variables = o.fits.variables; bodies = open_under; counter = (back_there, (is_context p w m events s actors i before x at tt).task) };
          placed = record { bodies = placed_under; counter = (context_placed p w m events s actors i before x at tt).task };
          stands = stands_back;
          runs = bodies_run p s next i (stays_step p s i (event.Finish a.context.task) next step) saved fs under runs_under;
          row = ended_under;
          ended = tt;
        }))

  -- ---- the step

  pub finish_keeps : StepKeeps p w m events s actors i (finish_next w (actors i) finish.Finish) (λ old. (finish_moved p w (actors i) finish.Finish old, finish_outcome (actors i) finish.Finish))
  finish_keeps = (on_current, is_on, with_bodies)
    where
      by : (f : Frame) (fs : List Frame) → a.stack ≡ f ∷ fs → f.next ≡ length (body_in p f) → (o : Opened)
          → f.opened ≡ o → IsExplicit o → StandsOn p a.context f.function fs o → KeepsBody p s a.context o fs
          → KeepsBodies p s i (context_under a.context o) fs
          → AreOpen p (context_under a.context o) fs → AreContextsPlaced w (context_under a.context o) fs → AreBelow a.context.task (f ∷ fs) → Goes (FinishSteps.past_finish a)
      by f fs is end (opened.Task v saved) how task_body (starts, of) (from, suspended) under open_under placed_under (apart, below) =
          goes f fs is end v saved how starts of from suspended under open_under placed_under
          (subst (IsBelow a.context.task) how apart) below
      by f fs is end opened.Main how task_body on keeps under open_under placed_under below = absurd task_body
      by f fs is end opened.Worker how task_body on keeps under open_under placed_under below =
          absurd task_body
      by f fs is end (opened.Master saved) how task_body on keeps under open_under placed_under below =
          absurd task_body
      by f fs is end opened.Call how task_body on keeps under open_under placed_under below = absurd task_body
      by f fs is end (opened.Repeat left) how task_body on keeps under open_under placed_under below =
          absurd task_body
      by f fs is end (opened.Critical k) how task_body on keeps under open_under placed_under below =
          absurd task_body
      by f fs is end opened.Taskgroup how task_body on keeps under open_under placed_under below =
          absurd task_body

      with_bodies : Goes (FinishSteps.past_finish a)
      with_bodies =
          let (f, fs, is, task) = body p w m events s actors i before x at tt in
          let o = own p w m events s actors i before x at tt in
          let (open_body, open_rest) = subst (AreOpen p a.context) is o.fits.bodies in
          let (top, keeps, rest) =
          subst (KeepsBodies p s i a.context) is (stands p w m events s actors i before x at tt).bodies in
          let placed = subst (AreContextsPlaced w a.context) is o.placed.bodies in
          let (end, task_body) =
          subst (IsAtEnd p IsExplicit) is (fits_counter p w m events s actors i before x at tt) in
          by f fs is end f.opened refl task_body open_body.stands keeps rest open_rest placed.1
          (subst (AreBelow a.context.task) is (own_below p s i a (stands p w m events s actors i before x at tt) events before.rule.reached))
