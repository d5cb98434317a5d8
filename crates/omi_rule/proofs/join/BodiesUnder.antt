-- The open bodies under a task that ends: the tasks that made way for it, and those under them, stay what they are.
use Rattle.std.proofs.Common.{◌≡◌, ℕ, Bool, List, [], ◌∷◌, length, slice_get, slice_index, Option, Some, None, refl, sym, ap, ◌∙◌}
use Rattle.std.specs.Option.{option_map_or}
use Rattle.omi_script.specs.declared.env.Env.{Env}
use Rattle.omi_script.specs.declared.program.Program.{Program}
use Rattle.omi_model.specs.declared.id.Id.{Id}
use Rattle.omi_model.specs.declared.id.Tid.{Tid}
use Rattle.omi_model.specs.declared.item.Item.{Item}
use Rattle.omi_model.specs.declared.region.Region.{Region}
use Rattle.omi_model.specs.Changes.{encounter_by, level_of}
use Rattle.omi_model.specs.Freeing.{freeing}
use Rattle.omi_model.specs.Put.{Slots, named}
use Rattle.omi_model.specs.Rows.{working}
use Rattle.omi_model.specs.State.{State, region_of, task_of}
use Rattle.omi_model.proofs.Slots.{later_on}
use Rattle.omi_pc.specs.declared.context.Context.{Context}
use Rattle.omi_pc.specs.declared.frame.Frame.{Frame}
use Rattle.omi_pc.specs.declared.frame.Opened.{Opened}
use Rattle.omi_pc.specs.declared.frame.Opened.TheVariants as opened
use Rattle.omi_pc.specs.Moves.{context_under}
use Rattle.omi_rule.specs.Ahead.{leaving, resuming}
use Rattle.omi_rule.specs.Chains.{IsScheduledFrom, IsSuspended, KeepsBodies, KeepsBody, KeepsContext, encounter_of}
use Rattle.omi_rule.proofs.OthersStand.{of_innermost}
use Rattle.omi_rule.proofs.Own.{AreBelow, IsBelow}
use Rattle.omi_model.specs.declared.freeable.Freeable.{Freeable}
use Rattle.omi_model.specs.declared.task.Task.{Task}

-- the tasks are as they were, but that something else may be given back next
pub freeing_later : (slots : Slots Task) (x : Option Freeable) (o : Option Tid) (n : Tid) (t : Task)
    → named slots n.0 ≡ Some t
    → (free : Option Freeable) × (named (freeing x o slots) n.0 ≡ Some (record t { frees = free }))
freeing_later slots x None n t live = (t.frees, live)
freeing_later slots x (Some m) n t live =
    let (v, there, same) =
    later_on (λ (y z : Task). (free : Option Freeable) × (z ≡ record y { frees = free })) (λ y. (y.frees, refl)) slots m.0
    (λ u. record u { frees = x }) (λ y e. (x, refl)) n.0 t live in
    (same.0, there ∙ ap (λ (z : Task). Some z) same.1)

-- a state in which one task has ended or is gone, a region was joined, or one of which no task lives is gone
pub record LeavesUnder (s u : State) (k : Tid) : Type 0 where
  pub environment : u.environment ≡ s.environment
  pub others : (n : Tid) → (n.0 ≡ k.0 → ⊥) → (t : Task) → task_of s n ≡ Some t
      → (free : Option Freeable) × (task_of u n ≡ Some (record t { frees = free }))
  pub regions : (n : Tid) (t : Task) → task_of s n ≡ Some t → (r : Region) → region_of s t.region ≡ Some r
      → (q : Region) × (region_of u t.region ≡ Some q) × (q.team ≡ r.team) × (q.levels ≡ r.levels) × (q.arrivals ≡ r.arrivals)

module _ (p : Program) (s u : State) (i : ℕ) (k : Tid) (leaves : LeavesUnder s u k) where
  pub task_kept : (c : Context) → (c.task ≡ k → ⊥) → (t : Task) → task_of s c.task ≡ Some t
      → (free : Option Freeable) × (task_of u c.task ≡ Some (record t { frees = free }))
  task_kept c apart =
      leaves.others c.task (λ (e : c.task.0 ≡ k.0). apart (ap (λ (d : Id). record { 0 = d }) e))

  context_kept : (c : Context) → (c.task ≡ k → ⊥) → KeepsContext s i c → KeepsContext u i c
  context_kept c apart o =
      let (q, found, team, levels, arrivals) =
      leaves.regions c.task o.task o.live o.region (ap (region_of s) o.region_is ∙ o.found) in
      let (free, there) = task_kept c apart o.task o.live in
      record {
        task = record o.task { frees = free };
        live = there;
        begun = o.begun;
        thread = o.thread;
        implicit = o.implicit;
        region_is = o.region_is;
        number = o.number;
        final = o.final;
        exit = o.exit;
        region = q;
        found = ap (region_of u) (sym o.region_is) ∙ found;
        size = ap length team ∙ o.size;
        row = ap (λ (t : List (Tid × ℕ)). slice_get t c.number) team ∙ o.row;
        arrivals = ap (λ (xs : List ℕ). slice_index xs c.number) arrivals ∙ o.arrivals;
        groups = o.groups;
      }

  pub encounter_kept : (c : Context) → (c.task ≡ k → ⊥) → KeepsContext s i c
      → encounter_of u c ≡ encounter_of s c
  encounter_kept c apart o =
      let found_task : region_of s o.task.region ≡ Some o.region = ap (region_of s) o.region_is ∙ o.found in
      let (q, found, team, levels, arrivals) = leaves.regions c.task o.task o.live o.region found_task in
      let level : level_of u o.task.region ≡ level_of s o.task.region =
      ap (λ (x : Option Region). option_map_or (λ r. r.levels) x 0) found
      ∙ levels
      ∙ sym (ap (λ (x : Option Region). option_map_or (λ r. r.levels) x 0) found_task) in
      ap (encounter_by u) (task_kept c apart o.task o.live).1
      ∙ ap
      (λ (b : Bool). record { debug = b; number = o.task.number; level = level_of u o.task.region; is_final = o.task.is_final })
      (ap (λ (e : Env). e.debug) leaves.environment)
      ∙ ap
      (λ l. record { debug = s.environment.debug; number = o.task.number; level = l; is_final = o.task.is_final }) level
      ∙ sym (ap (encounter_by s) o.live)

  scheduled_kept : (saved c : Context) → (c.task ≡ k → ⊥) → IsScheduledFrom s saved c
      → IsScheduledFrom u saved c
  scheduled_kept saved c apart x =
      let (free, there) = task_kept c apart x.task x.live in record { task = record x.task { frees = free }; live = there; scheduling = x.scheduling }

  suspended_kept : (c : Context) (list new : List Item) → (c.task ≡ k → ⊥) → new ≡ list → IsSuspended s c list
      → IsSuspended u c new
  suspended_kept c list new apart same x =
      let (free, there) = task_kept c apart x.task x.live in record { task = record x.task { frees = free }; live = there; list_is = x.list_is ∙ sym same }

  -- the task under a body is not the one that has ended
  under_apart : (c : Context) (o : Opened) → (c.task ≡ k → ⊥) → IsBelow k o → (context_under c o).task ≡ k → ⊥
  under_apart c opened.Main apart below = apart
  under_apart c opened.Worker apart below = apart
  under_apart c (opened.Master saved) apart below = below
  under_apart c (opened.Task w saved) apart below = below
  under_apart c opened.Call apart below = apart
  under_apart c (opened.Repeat left) apart below = apart
  under_apart c (opened.Critical lock) apart below = apart
  under_apart c opened.Taskgroup apart below = apart

  body_kept : (c : Context) (o : Opened) (fs : List Frame) → (c.task ≡ k → ⊥) → IsBelow k o
      → KeepsContext s i (context_under c o) → KeepsBody p s c o fs → KeepsBody p u c o fs
  body_kept c opened.Main fs apart below l keeps = keeps
  body_kept c (opened.Master saved) fs apart below l (from, suspended) =
      (scheduled_kept saved c apart from, suspended_kept saved _ _ below (ap (λ at. working at (leaving p at fs)) (encounter_kept saved below l)) suspended)
  body_kept c (opened.Task w saved) fs apart below l (from, suspended) =
      (scheduled_kept saved c apart from, suspended_kept saved _ _ below (ap (λ at. resuming p at fs w) (encounter_kept saved below l)) suspended)
  body_kept c opened.Worker fs apart below l keeps = tt
  body_kept c opened.Call fs apart below l keeps = tt
  body_kept c (opened.Repeat left) fs apart below l keeps = tt
  body_kept c (opened.Critical lock) fs apart below l keeps = tt
  body_kept c opened.Taskgroup fs apart below l keeps = tt

  pub under_kept : (c : Context) (fs : List Frame) → (c.task ≡ k → ⊥) → AreBelow k fs → KeepsBodies p s i c fs
      → KeepsBodies p u i c fs
  under_kept c [] apart below o = context_kept c apart o
  under_kept c (f ∷ fs) apart (here, below) (o, body, rest) = (
    context_kept c apart o,
    body_kept c f.opened fs apart here (of_innermost p s i (context_under c f.opened) fs rest) body,
    under_kept (context_under c f.opened) fs (under_apart c f.opened apart here) below rest,
  )

-- a name that is none of a task with an open body is below none of them
pub below_apart : (p : Program) (s : State) (i : ℕ) (k : Tid) → ((c : Context) → KeepsContext s i c → c.task ≡ k → ⊥)
    → (c : Context) (fs : List Frame) → KeepsBodies p s i c fs → AreBelow k fs
below_apart p s i k apart c [] bodies = tt
below_apart p s i k apart c (f ∷ fs) (o, body, rest) =
    (of_opened f.opened rest, below_apart p s i k apart (context_under c f.opened) fs rest)
  where
    of_opened : (x : Opened) → KeepsBodies p s i (context_under c x) fs → IsBelow k x
    of_opened opened.Main under = tt
    of_opened opened.Worker under = tt
    of_opened (opened.Master saved) under = apart saved (of_innermost p s i saved fs under)
    of_opened (opened.Task w saved) under = apart saved (of_innermost p s i saved fs under)
    of_opened opened.Call under = tt
    of_opened (opened.Repeat left) under = tt
    of_opened (opened.Critical lock) under = tt
    of_opened opened.Taskgroup under = tt
