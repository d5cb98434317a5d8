-- A thread's step in its own task: the state after an event on the task, and where the thread stands in it.
use Rattle.std.proofs.Common.{◌≡◌, ℕ, List, [], ◌∷◌, Option, Some, refl, sym, ap, ◌∙◌, subst, None, true}
use Rattle.std.specs.Option.{option_and_then, option_map, option_map_or}
use Rattle.omi_script.specs.declared.program.Program.{Program}
use Rattle.omi_model.specs.declared.id.Tid.{Tid}
use Rattle.omi_model.specs.declared.item.Item.{Item}
use Rattle.omi_model.specs.declared.region.Region.{Region}
use Rattle.omi_model.specs.declared.task.Task.{Task}
use Rattle.omi_model.specs.Changes.{IsCurrent, encounter, encounter_by, list_of, on_task, on_thread, with_list, ahead_of}
use Rattle.omi_model.specs.declared.event.Event.{Event}
use Rattle.omi_model.specs.Put.{Slots, named, on}
use Rattle.omi_model.specs.Reached.{Reached}
use Rattle.omi_model.specs.State.{State, task_of}
use Rattle.omi_model.proofs.ChainsKept.{have_chains}
use Rattle.omi_model.proofs.EachObject.{list_of_current, ahead_of_current}
use Rattle.omi_model.proofs.Slots.{on_other, on_same, some_same}
use Rattle.omi_model.proofs.Steps.{relisted}
use Rattle.omi_pc.specs.declared.actor.Actor.{Actor}
use Rattle.omi_pc.specs.declared.context.Context.{Context}
use Rattle.omi_pc.specs.declared.counter.Counter.{Counter}
use Rattle.omi_pc.specs.declared.counter.Counter.TheVariants as counter
use Rattle.omi_pc.specs.declared.frame.Frame.{Frame}
use Rattle.omi_pc.specs.declared.frame.Opened.{Opened}
use Rattle.omi_pc.specs.declared.frame.Opened.TheVariants as opened
use Rattle.omi_pc.specs.declared.team_counter.WorkerCounter.{WorkerCounter}
use Rattle.omi_pc.specs.Moves.{context_under}
use Rattle.omi_pc.specs.OpenBodies.{IsCalled}
use Rattle.omi_model.specs.declared.freeable.Freeable.{Freeable}
use Rattle.omi_model.specs.declared.freeable.Freeable.TheVariants as freeable
use Rattle.omi_model.proofs.ListLaws.{may_pass}
use Rattle.omi_rule.specs.Ahead.{IsAhead}
use Rattle.omi_rule.specs.Chains.{IsFront, IsWorkerAhead, KeepsBodies, KeepsBody, KeepsContext, IsPassable, Stands, StandsInTask, StandsWith, encounter_of}
use Rattle.omi_rule.proofs.BodyMoves.{IsOfBodies}
use Rattle.omi_rule.proofs.OthersStand.{of_innermost}
use Rattle.omi_rule.proofs.Own.{AreBelow, ChangesTask, IsAlike, below_current, bodies_kept, encounter_kept}
use Rattle.omi_model.proofs.FreesLists.{no_frees, taken_behind}
use Rattle.omi_model.specs.Lists.{take_item}
use Rattle.omi_model.specs.declared.encounter.Encounter.{Encounter}

-- ---- facts of open bodies

-- a body that a statement opened says nothing of the state
called_says_nothing : (p : Program) (s : State) (c : Context) (o : Opened) (fs : List Frame) → IsCalled o
    → KeepsBody p s c o fs
called_says_nothing p s c opened.Main fs called = absurd (cc called)
called_says_nothing p s c opened.Worker fs called = tt
called_says_nothing p s c (opened.Master saved) fs called = absurd (cc called)
called_says_nothing p s c (opened.Task w saved) fs called = absurd (cc called)
called_says_nothing p s c opened.Call fs called = tt
called_says_nothing p s c (opened.Repeat left) fs called = tt
called_says_nothing p s c (opened.Critical k) fs called = tt
called_says_nothing p s c opened.Taskgroup fs called = tt

-- and stands in the same task
pub called_under : (c : Context) (o : Opened) → IsCalled o → context_under c o ≡ c
called_under c opened.Main called = refl
called_under c opened.Worker called = refl
called_under c (opened.Master saved) called = absurd (cc called)
called_under c (opened.Task w saved) called = absurd (cc called)
called_under c opened.Call called = refl
called_under c (opened.Repeat left) called = refl
called_under c (opened.Critical k) called = refl
called_under c opened.Taskgroup called = refl

pub bodies_are_of_bodies : (p : Program) (s : State) (i : ℕ) → IsOfBodies (KeepsBodies p s i)
bodies_are_of_bodies p s i = record {
  advances = λ c f fs o. o;
  calls = λ c g x f fs called o. (o.0, called_says_nothing p s c x (f ∷ fs) called, subst (λ (d : Context). KeepsBodies p s i d (f ∷ fs)) (sym (called_under c x called)) o);
  returns = λ c f fs called o. subst (λ (d : Context). KeepsBodies p s i d fs) (called_under c f.opened called) o.2;
  again = λ c f left fs called o. (o.0, tt, subst (λ (d : Context). KeepsBodies p s i d fs) (called_under c f.opened called) o.2);
}

-- ---- what stands in front of a list

-- what may be passed over, as an item
pub passable : (o : Option Freeable) → IsPassable o → may_pass o ≡ true
passable None may = refl
passable (Some (freeable.Finished t)) may = refl
passable (Some (freeable.Joined n number)) may = absurd may

-- ---- the current task

-- a thread at a counter of a task has a body open, and stands in its task
pub in_task : (p : Program) (s : State) (i : ℕ) (a : Actor)
    → ((c : WorkerCounter) → a.counter ≡ counter.Worker c → ⊥) → Stands p s i a
    → (f : Frame) × (fs : List Frame) × (a.stack ≡ f ∷ fs) × StandsInTask p s i a
in_task p s i a busy stands = go a.stack refl stands
  where
    go : (xs : List Frame) → a.stack ≡ xs → StandsWith p s i a xs
        → (f : Frame) × (fs : List Frame) × (a.stack ≡ f ∷ fs) × StandsInTask p s i a
    go (f ∷ fs) is o = (f, fs, is, o)
    go [] is o = absurd (none a.counter refl)
      where
        none : (c : Counter) → a.counter ≡ c → ⊥
        none (counter.Worker c) e = busy c e
        none (counter.Team c) e = subst (λ x. IsWorkerAhead s x (s.threads i).list) e o.ahead
        none (counter.Barrier c) e = subst (λ x. IsWorkerAhead s x (s.threads i).list) e o.ahead
        none (counter.Join c) e = subst (λ x. IsWorkerAhead s x (s.threads i).list) e o.ahead
        none (counter.Task c) e = subst (λ x. IsWorkerAhead s x (s.threads i).list) e o.ahead
        none (counter.Look c) e = subst (λ x. IsWorkerAhead s x (s.threads i).list) e o.ahead
        none (counter.Finish c) e = subst (λ x. IsWorkerAhead s x (s.threads i).list) e o.ahead
        none (counter.Plain c) e = subst (λ x. IsWorkerAhead s x (s.threads i).list) e o.ahead

module _ (p : Program) (s : State) (i : ℕ) (a : Actor) (o : StandsInTask p s i a) where
  unfoldable pub top : KeepsContext s i a.context
  top = of_innermost p s i a.context a.stack o.bodies

  pub is_current : IsCurrent s i a.context.task top.task
  is_current = record { name = o.current; live = top.live }

  -- its list, and what the rows of statements see of it
  pub own_list : list_of s i ≡ top.task.list
  own_list = list_of_current s i a.context.task top.task is_current

  -- an event that its list allows
  pub own_taken : (events : List (ℕ × Event)) → Reached p events s → IsPassable top.task.frees
      → (at : Encounter) (e : Event) (y : Item) (zs : List Item)
      → take_item p at e top.task.list ≡ Some (y, zs) → take_item p at e (ahead_of s i) ≡ Some (y, zs)
  own_taken events reached may at e y zs taken =
      ap (take_item p at e) (ahead_of_current s i a.context.task top.task is_current)
      ∙ taken_behind p at e top.task.frees top.task.list y zs (no_frees p events s reached a.context.task top.task top.live) (passable top.task.frees may) taken

  pub own_front : IsFront a.counter top.task.frees
  own_front = o.front top.task top.live

  pub own_encounter : encounter s i ≡ encounter_of s a.context
  own_encounter =
      ap (λ (n : Option Tid). encounter_by s (option_and_then (task_of s) n)) o.current

  pub own_ahead : IsAhead p (encounter_of s a.context) a.stack a.counter top.task.list
  own_ahead = o.ahead top.task top.live

  -- the state whose list has moved on
  pub list_moved : (zs : List Item) → with_list s i zs ≡ on_task s a.context.task (relisted zs)
  list_moved zs =
      ap
      (λ (n : Option Tid). option_map_or (λ k. on_task s k (λ t. record t { frees = None; list = zs })) n (on_thread s i (λ h. record h { list = zs }))) o.current

  -- a state in which the own task is another
  pub own_changes : (f : Task → Task) (u : State)
      → ((t : Task) → task_of s a.context.task ≡ Some t → IsAlike t (f t)) → u.environment ≡ s.environment
      → (u.threads i).current ≡ (s.threads i).current
      → u.tasks ≡ on s.tasks a.context.task.0 f → u.regions ≡ s.regions → ChangesTask s u i a.context.task
  own_changes f u alike environment current tasks regions = record {
    environment = environment;
    current = current;
    own = λ t live.
        (f t, ap (λ (x : Slots Task). named x a.context.task.0) tasks ∙ on_same s.tasks a.context.task.0 f ∙ ap (λ (x : Option Task). option_map f x) live, alike t live);
    others = λ n ne. ap (λ (x : Slots Task). named x n.0) tasks ∙ on_other s.tasks a.context.task.0 f n.0 ne;
    regions = λ n r live. (r, ap (λ (x : Slots Region). named x n.0) regions ∙ live, refl, refl, refl);
  }

  -- the tasks that made way for others are not the current one
  pub own_below : (events : List (ℕ × Event)) → Reached p events s → AreBelow a.context.task a.stack
  own_below events reached =
      let (ks, chain) = have_chains p events s reached i in below_current p s i a.context a.stack ks o.current chain o.bodies

  -- the thread stands where its actor is after an event on its task that opens and closes no task's body
  pub own_stands : (events : List (ℕ × Event)) → Reached p events s → (u : State)
      → ChangesTask s u i a.context.task → (b : Actor) (f : Frame) (fs : List Frame) → b.stack ≡ f ∷ fs
      → b.context ≡ a.context
      → (KeepsBodies p u i a.context a.stack → KeepsBodies p u i b.context b.stack)
      → ((t : Task) → task_of u a.context.task ≡ Some t → IsAhead p (encounter_of s a.context) b.stack b.counter t.list)
      → ((t : Task) → task_of u a.context.task ≡ Some t → IsFront b.counter t.frees) → Stands p u i b
  own_stands events reached u changes b f fs stack context bodies next front =
      let same : encounter_of u a.context ≡ encounter_of s a.context =
      encounter_kept p s u i a.context.task changes a.context top in
      subst (StandsWith p u i b) (sym stack)
      (record {
        current = changes.current ∙ o.current ∙ ap (λ (c : Context). Some c.task) (sym context);
        bodies = bodies (bodies_kept p s u i a.context.task changes a.context a.stack (own_below events reached) o.bodies);
        ahead = λ t live.
            subst (λ (c : Context). IsAhead p (encounter_of u c) b.stack b.counter t.list) (sym context)
            (subst (λ at. IsAhead p at b.stack b.counter t.list) (sym same)
            (next t (subst (λ (c : Context). task_of u c.task ≡ Some t) context live)));
        front = λ t live. front t (subst (λ (c : Context). task_of u c.task ≡ Some t) context live);
      })

  -- what is ahead of the task with its new list
  pub relisted_ahead : (zs : List Item) (u : State) → u.tasks ≡ on s.tasks a.context.task.0 (relisted zs)
      → (P : List Item → Type 0) → P zs → (t : Task) → task_of u a.context.task ≡ Some t → P t.list
  relisted_ahead zs u tasks P is t live =
      let now : task_of u a.context.task ≡ Some (relisted zs top.task) =
      ap (λ (x : Slots Task). named x a.context.task.0) tasks
      ∙ on_same s.tasks a.context.task.0 (relisted zs)
      ∙ ap (λ (x : Option Task). option_map (relisted zs) x) top.live in
      subst (λ (x : Task). P x.list) (some_same now live) is

  -- nothing stands in front of it
  pub relisted_front : (zs : List Item) (u : State) → u.tasks ≡ on s.tasks a.context.task.0 (relisted zs)
      → (t : Task) → task_of u a.context.task ≡ Some t → t.frees ≡ None
  relisted_front zs u tasks t live =
      let now : task_of u a.context.task ≡ Some (relisted zs top.task) =
      ap (λ (x : Slots Task). named x a.context.task.0) tasks
      ∙ on_same s.tasks a.context.task.0 (relisted zs)
      ∙ ap (λ (x : Option Task). option_map (relisted zs) x) top.live in
      ap (λ (x : Task). x.frees) (some_same live now)

  pub relisted_both : (zs : List Item) (u : State) → u.tasks ≡ on s.tasks a.context.task.0 (relisted zs)
      → (t : Task) → task_of u a.context.task ≡ Some t → (t.list ≡ zs) × IsPassable t.frees
  relisted_both zs u tasks t live =
      (relisted_ahead zs u tasks (λ xs. xs ≡ zs) refl t live, subst IsPassable (sym (relisted_front zs u tasks t live)) tt)

-- a task with another list is alike
pub relisted_alike : (zs : List Item) (t : Task) → IsAlike t (relisted zs t)
relisted_alike zs t = record { implicit = refl; region = refl; thread = refl; number = refl; scheduling = refl; exit = refl; final = refl; progress = refl; groups = refl }
