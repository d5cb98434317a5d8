-- A thread stands where it stood while another thread makes an event.
use Rattle.std.proofs.Common.{◌≡◌, ◌≢◌, ℕ, Bool, if◌then◌else◌, List, [], ◌∷◌, length, slice_get, Option, Some, refl, sym, ap, ◌∙◌, subst}
use Rattle.std.specs.Option.{option_map_or}
use Rattle.omi_script.specs.declared.program.Program.{Program}
use Rattle.omi_model.specs.declared.id.Tid.{Tid}
use Rattle.omi_model.specs.declared.item.Item.{Item}
use Rattle.omi_model.specs.declared.progress.Progress.TheVariants as progress
use Rattle.omi_model.specs.declared.region.Region.{Region}
use Rattle.omi_model.specs.declared.task.Task.{Task}
use Rattle.omi_model.specs.Changes.{encounter_by, level_of}
use Rattle.omi_numbers.specs.declared.states.TheConstants.{IDLE}
use Rattle.omi_model.specs.Rows.{working}
use Rattle.omi_model.specs.declared.item.Item.TheVariants as item
use Rattle.omi_script.specs.declared.env.Env.{Env}
use Rattle.omi_model.specs.State.{region_of, State, task_of}
use Rattle.omi_model.proofs.Slots.{some_same}
use Rattle.omi_pc.specs.declared.actor.Actor.{Actor}
use Rattle.omi_pc.specs.declared.context.Context.{Context}
use Rattle.omi_pc.specs.declared.counter.Counter.{Counter}
use Rattle.omi_pc.specs.declared.counter.Counter.TheVariants as counter
use Rattle.omi_pc.specs.declared.frame.Frame.{Frame}
use Rattle.omi_pc.specs.declared.frame.Opened.{Opened}
use Rattle.omi_pc.specs.declared.frame.Opened.TheVariants as opened
use Rattle.omi_pc.specs.declared.team_counter.WorkerCounter.{WorkerCounter}
use Rattle.omi_pc.specs.declared.team_counter.WorkerCounter.TheVariants as worker
use Rattle.omi_pc.specs.Moves.{context_under}
use Rattle.omi_rule.specs.Ahead.{IsAhead, leaving, resuming}
use Rattle.omi_rule.specs.Chains.{IsScheduledFrom, IsSuspended, IsWorkerAhead, KeepsBodies, KeepsBody, KeepsContext, Stands, StandsAlone, StandsInTask, StandsWith, encounter_of, offering, worker_ahead}
use Rattle.omi_rule.specs.LeavesOthers.{IsSameForOthers, LeavesOthers}

-- a task that has begun is not deferred
pub begun_undeferred : (t : Task) → t.progress ≡ progress.Begun → t.progress ≡ progress.Deferred → ⊥
begun_undeferred t begun deferred = cc (sym begun, deferred)

pub begun_unfinished : (t : Task) → t.progress ≡ progress.Begun → t.progress ≡ progress.Finished → ⊥
begun_unfinished t begun over = cc (sym begun, over)

-- the context of the innermost body of a stack
pub of_innermost : (p : Program) (s : State) (i : ℕ) (c : Context) (fs : List Frame) → KeepsBodies p s i c fs
    → KeepsContext s i c
of_innermost p s i c [] o = o
of_innermost p s i c (f ∷ fs) o = o.0

module _ (p : Program) (s u : State) (i : ℕ) (leaves : LeavesOthers s u i) (j : ℕ) (other : j ≢ i) where
  task_stays : (c : Context) (o : KeepsContext s j c) → task_of u c.task ≡ Some o.task
  task_stays c o =
      leaves.tasks c.task o.task o.live (λ same. other (sym o.thread ∙ same))
      (begun_undeferred o.task o.begun) (begun_unfinished o.task o.begun)

  region_stays : (c : Context) (o : KeepsContext s j c)
      → (q : Region) × (region_of u c.region ≡ Some q) × IsSameForOthers i o.region q
  region_stays c o =
      let (q, found, same) = leaves.regions c.task o.task o.region o.live (ap (region_of s) o.region_is ∙ o.found) in
      (q, ap (region_of u) (sym o.region_is) ∙ found, same)

  context_stays : (c : Context) → KeepsContext s j c → KeepsContext u j c
  context_stays c o =
      let (q, found, same) = region_stays c o in
      record {
        task = o.task;
        live = task_stays c o;
        begun = o.begun;
        thread = o.thread;
        implicit = o.implicit;
        region_is = o.region_is;
        number = o.number;
        final = o.final;
        exit = o.exit;
        region = q;
        found = found;
        size = ap length same.team ∙ o.size;
        row = ap (λ (t : List (Tid × ℕ)). slice_get t c.number) same.team ∙ o.row;
        arrivals = same.arrivals c.number (c.row, j) o.row other ∙ o.arrivals;
        groups = o.groups;
      }

  -- what the rows of statements see of a task
  level_stays : (c : Context) (o : KeepsContext s j c) → level_of u o.task.region ≡ level_of s o.task.region
  level_stays c o =
      let (q, found, same) = region_stays c o in
      subst (λ n. level_of u n ≡ level_of s n) (sym o.region_is)
      (ap (λ (x : Option Region). option_map_or (λ r. r.levels) x 0) found ∙ same.levels ∙ sym (ap (λ (x : Option Region). option_map_or (λ r. r.levels) x 0) o.found))

  encounter_stays : (c : Context) → KeepsContext s j c → encounter_of u c ≡ encounter_of s c
  encounter_stays c o =
      ap (encounter_by u) (task_stays c o)
      ∙ ap
      (λ (b : Bool). record { debug = b; number = o.task.number; level = level_of u o.task.region; is_final = o.task.is_final })
      (ap (λ (e : Env). e.debug) leaves.environment)
      ∙ ap
      (λ l. record { debug = s.environment.debug; number = o.task.number; level = l; is_final = o.task.is_final })
      (level_stays c o)
      ∙ sym (ap (encounter_by s) o.live)

  scheduled_stays : (saved c : Context) → KeepsContext s j c → IsScheduledFrom s saved c
      → IsScheduledFrom u saved c
  scheduled_stays saved c o x = record {
    task = o.task;
    live = task_stays c o;
    scheduling = ap (λ (t : Task). t.scheduling) (some_same o.live x.live) ∙ x.scheduling;
  }

  suspended_stays : (c : Context) (list new : List Item) → KeepsContext s j c → new ≡ list
      → IsSuspended s c list → IsSuspended u c new
  suspended_stays c list new o same x = record {
    task = o.task;
    live = task_stays c o;
    list_is = ap (λ (t : Task). t.list) (some_same o.live x.live) ∙ x.list_is ∙ sym same;
  }

  body_stays : (c : Context) (o : Opened) (fs : List Frame) → KeepsContext s j c
      → KeepsContext s j (context_under c o) → KeepsBody p s c o fs → KeepsBody p u c o fs
  body_stays c opened.Main fs k l keeps = keeps
  body_stays c (opened.Master saved) fs k l (from, suspended) = (
    scheduled_stays saved c k from,
    suspended_stays saved _ _ l (ap (λ at. working at (leaving p at fs)) (encounter_stays saved l)) suspended,
  )
  body_stays c (opened.Task w saved) fs k l (from, suspended) = (
    scheduled_stays saved c k from,
    suspended_stays saved _ _ l (ap (λ at. resuming p at fs w) (encounter_stays saved l)) suspended,
  )
  body_stays c opened.Worker fs k l keeps = tt
  body_stays c opened.Call fs k l keeps = tt
  body_stays c (opened.Repeat left) fs k l keeps = tt
  body_stays c (opened.Critical lock) fs k l keeps = tt
  body_stays c opened.Taskgroup fs k l keeps = tt

  bodies_stay : (c : Context) (fs : List Frame) → KeepsBodies p s j c fs → KeepsBodies p u j c fs
  bodies_stay c [] o = context_stays c o
  bodies_stay c (f ∷ fs) (o, body, rest) =
      (context_stays c o, body_stays c f.opened fs o (of_innermost p s j (context_under c f.opened) fs rest) body, bodies_stay (context_under c f.opened) fs rest)

  in_task_stays : (a : Actor) (f : Frame) (fs : List Frame) → a.stack ≡ f ∷ fs → StandsInTask p s j a
      → StandsInTask p u j a
  in_task_stays a f fs is o =
      let top : KeepsContext s j a.context = of_innermost p s j a.context a.stack o.bodies in
      record {
        current = (leaves.threads j other).current ∙ o.current;
        bodies = bodies_stay a.context a.stack o.bodies;
        ahead = λ t live.
            let same : top.task ≡ t = some_same (task_stays a.context top) live in
            subst (λ (x : Task). IsAhead p (encounter_of u a.context) a.stack a.counter x.list) same
            (subst (λ at. IsAhead p at a.stack a.counter top.task.list) (sym (encounter_stays a.context top)) (o.ahead top.task top.live));
        front = λ t live. o.front t (top.live ∙ ap Some (some_same (task_stays a.context top) live));
      }

  worker_stays : (c : WorkerCounter) → worker_ahead u c ≡ worker_ahead s c
  worker_stays worker.Begin = refl
  worker_stays worker.Offer = refl
  worker_stays (worker.AddLeft r) =
      ap (λ (b : Bool). if b then item.State IDLE 0 ∷ offering else offering)
      (ap (λ (e : Env). e.debug) leaves.environment)
  worker_stays worker.IdleState = refl
  worker_stays c = refl

  worker_ahead_stays : (c : Counter) (list : List Item) → IsWorkerAhead s c list → IsWorkerAhead u c list
  worker_ahead_stays (counter.Worker c) list o = o ∙ sym (worker_stays c)
  worker_ahead_stays c list o = absurd o

  alone_stays : (a : Actor) → StandsAlone s j a → StandsAlone u j a
  alone_stays a o =
      let h = leaves.threads j other in
      record { current = h.current ∙ o.current; ahead = subst (IsWorkerAhead u a.counter) (sym h.list) (worker_ahead_stays a.counter (s.threads j).list o.ahead) }

  pub others_stand : (a : Actor) → Stands p s j a → Stands p u j a
  others_stand a o = go a.stack refl o
    where
      go : (fs : List Frame) → a.stack ≡ fs → StandsWith p s j a fs → StandsWith p u j a fs
      go [] is o = alone_stays a o
      go (f ∷ fs) is o = in_task_stays a f fs is o
