-- The new task of a `task` construct before the event that makes it: its name is fresh, its record stands filled, and its thread owes the raises.
use Rattle.std.proofs.Common.{◌≡◌, ◌||◌, ◌<◌, ℕ, Bool, List, [], ◌∷◌, slice_index, Option, Some, refl, sym, ap, ◌∙◌, subst}
use Rattle.std.specs.List.{All}
use Rattle.std.specs.Option.{option_map}
use Rattle.std.proofs.lemmas.List.Elements.{All-head}
use Rattle.omi_script.specs.declared.program.Program.{Program}
use Rattle.omi_script.specs.declared.statement.Stmt.{Stmt}
use Rattle.omi_script.specs.declared.statement.Stmt.TheVariants as stmt
use Rattle.omi_model.specs.declared.event.Event.{Event}
use Rattle.omi_model.specs.declared.id.Id.{Id}
use Rattle.omi_model.specs.declared.id.Rid.{Rid}
use Rattle.omi_model.specs.declared.id.Tid.{Tid}
use Rattle.omi_model.specs.declared.item.Item.{Item}
use Rattle.omi_model.specs.declared.task.Task.{Task}
use Rattle.omi_model.specs.Changes.{IsCurrent, on_task}
use Rattle.omi_model.specs.Fresh.{IsFresh}
use Rattle.omi_model.specs.LawNames.{AreNamesLive}
use Rattle.omi_model.specs.State.{State, task_of}
use Rattle.omi_model.proofs.NamesLive.{names_live}
use Rattle.omi_model.proofs.Steps.{on_fresh, relisted}
use Rattle.omi_layout.specs.Field.{tasks}
use Rattle.omi_layout.specs.Memory.{Memory}
use Rattle.omi_layout.specs.Table.{per_thread, thread_count}
use Rattle.omi_pc.specs.declared.actor.Actor.{Actor}
use Rattle.omi_pc.specs.declared.counter.Counter.TheVariants as counter
use Rattle.omi_pc.specs.declared.frame.Frame.{Frame}
use Rattle.omi_pc.specs.declared.limits.TheConstants.{TASK_WORDS}
use Rattle.omi_pc.specs.declared.task_counter.TaskCounter.{TaskCounter}
use Rattle.omi_pc.specs.Fits.{IsAtSome, IsTask}
use Rattle.omi_pc.specs.OpenBodies.{IsAt}
use Rattle.omi_rep.specs.Shows.{AreWithin, IsWithin}
use Rattle.omi_rep.specs.Records.{group_word}
use Rattle.omi_rule_words.specs.ExplicitKinds.{OwesNew}
use Rattle.omi_rule_words.specs.Words.{IsInTheMaking}
use Rattle.omi_rule_words.proofs.ListedNames.{names_stay_live}
use Rattle.omi_step_words.specs.Placed.{HasTask}
use Rattle.omi_step_words.specs.Plan.{task_plan}
use Rattle.omi_task.specs.MakingSteps.{final_in, explicit_function, made_function, makes_final, new_task}
use Rattle.omi_task.specs.Groups.{new_group}
use Rattle.omi_rule.specs.Chains.{KeepsBodies, encounter_of}
use Rattle.omi_rule.proofs.Assembly.{Before}
use Rattle.omi_rule.proofs.RelistedState.{within_relisted, owners_relisted}
use Rattle.omi_model.specs.declared.region.Region.{Region}
use Rattle.omi_model.specs.Put.{Slots, made, named}
use Rattle.omi_model.proofs.Slots.{each_made, made_same, made_stays, on_same, some_same}
use Rattle.omi_model.proofs.StaysKept.{fresh_empty}
use Rattle.omi_model.specs.Groups.{group_within}
use Rattle.omi_rule_words.specs.Owes.{Owed, all_owed, nothing, owed, with_count}
use Rattle.omi_rule_words.specs.Groups.{AreOwnersLive}
use Rattle.omi_rule.specs.Rows.{HasFilledTask, IsFilled, IsVariable, KnowsVariables, KnowsGroup}
use Rattle.omi_rule.proofs.Own.{ChangesTask, bodies_kept, encounter_kept}
use Rattle.omi_rule.proofs.OthersStand.{of_innermost}
use Rattle.omi_rule.proofs.OwnTask.{list_moved, own_below, own_changes, relisted_alike}
use Rattle.omi_rule.proofs.team.ForkBodies.{IsLarger, bodies_grow, encounter_grows}
use Rattle.omi_rule.proofs.task.Within.{context, stands}
use Rattle.omi_rule.proofs.Groups.{new_group_is, owners_live}

-- the `task` construct in work
pub record IsTaskNext (p : Program) (fs : List Frame) : Type 0 where
  pub function : ℕ
  pub undeferred : Bool
  pub final : Bool
  pub is : IsAt p fs (stmt.Task function undeferred final)

pub task_next : (p : Program) (a : Actor) → IsAtSome p a IsTask → IsTaskNext p a.stack
task_next p a (s, is, is_task) = go s is is_task
  where
    go : (s : Stmt) → IsAt p a.stack s → IsTask s → IsTaskNext p a.stack
    go (stmt.Task f undeferred final) is o = record { function = f; undeferred = undeferred; final = final; is = is }
    go _ is o = absurd o

-- its function, and whether it makes its task final
pub made_as : (p : Program) (a : Actor) (next : IsTaskNext p a.stack) → made_function p a ≡ next.function
made_as p a next = ap explicit_function next.is

pub final_as : (p : Program) (a : Actor) (next : IsTaskNext p a.stack)
    → makes_final p a ≡ next.final || a.context.is_final
final_as p a next = ap (λ (o : Option Stmt). final_in o || a.context.is_final) next.is

-- ---- before the event

-- the new task, and the state `z` in which the list of the task that makes it has moved on
pub record IsReady (p : Program) (w : List ℕ) (m : Memory) (s : State) (owing : ℕ → Owed) (i : ℕ) (a : Actor) (t : Tid) (maker : Task) (z : State) : Type 0 where
  pub fresh : IsFresh s.tasks i t.0
  pub fresh_moved : IsFresh z.tasks i t.0
  pub current : IsCurrent z i a.context.task maker
  pub within : IsWithin w z
  pub names : AreNamesLive z
  pub owes : OwesNew w z owing i t a.context.task maker
  pub filled : IsFilled (m i tasks t.0.slot) (task_plan w (new_task p w a)) TASK_WORDS
  pub owners : AreOwnersLive z
  pub group : new_group w a ≡ group_word w (group_within a.context.task maker)
  pub variables : (j : ℕ) → j < 8 → IsVariable maker.variables j (slice_index a.gathered.variables j)
  pub bodies : KeepsBodies p z i a.context a.stack
  pub sees : encounter_of z a.context ≡ encounter_of s a.context

module _ (p : Program) (w : List ℕ) (m : Memory) (events : List (ℕ × Event)) (s : State) (actors : ℕ → Actor)
    (i : ℕ) (before : Before p w m events s actors i) (c : TaskCounter)
    (at : (actors i).counter ≡ counter.Task c) (t : Tid) (zs : List Item) where
  abbrev K : Tid
  K = (actors i).context.task

  abbrev Z : State
  Z = on_task s (actors i).context.task (relisted zs)

  -- the task that makes it is the same but for its list
  pub changes : ChangesTask s (on_task s (actors i).context.task (relisted zs)) i (actors i).context.task
  changes =
      own_changes p s i (actors i) (stands p w m events s actors i before c at) (relisted zs) Z
      (λ x live. relisted_alike zs x) refl refl refl refl

  pub is_ready : owed (actors i) ≡ with_count (actors i).context t → HasTask w t → (place : Option ℕ)
      → HasFilledTask p w m s (actors i) place t TASK_WORDS
      → IsReady p w m s (all_owed actors) i (actors i) t
      (relisted zs (context p w m events s actors i before c at).task)
      (on_task s (actors i).context.task (relisted zs))
  is_ready raises there place (((slots, variables), group), below, filled) =
      let o = context p w m events s actors i before c at in
      let making : IsInTheMaking i (s.tasks i) t.0 =
      All-head (λ (k : Tid). IsInTheMaking i (s.tasks i) k.0) t []
      (subst (λ (ks : List Tid). All (λ k. IsInTheMaking i (s.tasks i) k.0) ks) (ap (λ (x : Owed). x.tasks) raises) (before.rule.words.made i before.known).making.tasks) in
      let fresh : IsFresh s.tasks i t.0 = record { creator = making.maker; empty = making.free; next = making.next; below = below } in
      let live : task_of Z K ≡ Some (relisted zs o.task) =
      on_same s.tasks K.0 (relisted zs) ∙ ap (option_map (relisted zs)) o.live in
      record {
        fresh = fresh;
        fresh_moved = on_fresh s.tasks K.0 (relisted zs) i t.0 fresh;
        current = record { name = (stands p w m events s actors i before c at).current; live = live };
        within = within_relisted s K zs w before.rule.within;
        names = subst AreNamesLive (list_moved p s i (actors i) (stands p w m events s actors i before c at) zs) (names_stay_live s i zs (names_live p events s before.rule.reached));
        owes = record { owed = raises ∙ ap (λ (n : Rid). record nothing { tasks = t ∷ []; pending = Some n; raised = Some K; referred = Some K; counted = Some K }) (sym o.region_is); made_by = there; live = live };
        filled = subst (λ k. IsFilled (m k tasks t.0.slot) (task_plan w (new_task p w (actors i))) TASK_WORDS) making.maker filled;
        owners = owners_relisted s K zs (owners_live p events s before.rule.reached);
        group = group_is group;
        variables = known variables;
        bodies = bodies_kept p s Z i K changes (actors i).context (actors i).stack (own_below p s i (actors i) (stands p w m events s actors i before c at) events before.rule.reached) (stands p w m events s actors i before c at).bodies;
        sees = encounter_kept p s Z i K changes (actors i).context o;
      }
    where
      group_is : KnowsGroup w s (actors i)
          → new_group w (actors i) ≡ group_word w (group_within (actors i).context.task (relisted zs (context p w m events s actors i before c at).task))
      group_is (v, live, knows) =
          let o = context p w m events s actors i before c at in
          new_group_is w (actors i) (relisted zs o.task) o.groups
          (λ none. knows none ∙ ap (λ (x : Task). group_word w x.group) (some_same live o.live))

      known : KnowsVariables s (actors i) 8 → (j : ℕ) → j < 8
          → IsVariable (context p w m events s actors i before c at).task.variables j (slice_index (actors i).gathered.variables j)
      known (v, live, are) j within =
          subst (λ (x : Task). IsVariable x.variables j (slice_index (actors i).gathered.variables j))
          (some_same live (context p w m events s actors i before c at).live) (are j within)

-- ---- behind the event

module _ (p : Program) (w : List ℕ) (m : Memory) (s : State) (owing : ℕ → Owed) (i : ℕ) (a : Actor) (t : Tid)
    (maker : Task) (z : State) (ready : IsReady p w m s owing i a t maker z) (new : Task) (u : State)
    (environment : u.environment ≡ z.environment) (same : u.tasks ≡ made z.tasks t.0 new)
    (regions : u.regions ≡ z.regions) where
  -- the state has grown by the new task
  pub larger : IsLarger z u
  larger = record {
    environment = environment;
    tasks = λ k x live. ap (λ (y : Slots Task). named y k.0) same ∙ made_stays z.tasks t.0 new k.0 x (fresh_empty z.tasks i t.0 ready.fresh_moved) live;
    regions = λ n q live. ap (λ (y : Slots Region). named y n.0) regions ∙ live;
  }

  pub live_new : task_of u t ≡ Some new
  live_new = ap (λ (y : Slots Task). named y t.0) same ∙ made_same z.tasks t.0 new

  pub bodies_grown : KeepsBodies p u i a.context a.stack
  bodies_grown = bodies_grow p z u i larger a.context a.stack ready.bodies

  pub sees_grown : encounter_of u a.context ≡ encounter_of s a.context
  sees_grown =
      encounter_grows p z u i larger a.context (of_innermost p z i a.context a.stack ready.bodies)
      ∙ ready.sees

  -- the layout has its record
  pub tasks_within : AreWithin w tasks u.tasks
  tasks_within creator slot g x e =
      each_made
      (λ (n : Id) (y : Task). record { maker : n.creator < thread_count w; place : n.slot < per_thread w tasks }) z.tasks t.0 new
      (λ n y live. ready.within.tasks n.creator n.slot n.generation y live)
      (record { maker = ready.owes.made_by.made_by; place = ready.owes.made_by.within })
      (record { creator = creator; slot = slot; generation = g }) x
      (sym (ap (λ (y : Slots Task). named y (record { creator = creator; slot = slot; generation = g })) same) ∙ e)
