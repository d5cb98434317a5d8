-- A task of a thread begins or ends a group: the thread's chain is as it was, but for the number of open groups in the context of this task.
use Rattle.std.proofs.Common.{◌≡◌, ℕ, Bool, true, false, List, [], ◌∷◌, Option, Some, refl, sym, ap, ◌∙◌, subst}
use Rattle.std.specs.Option.{option_map}
use Rattle.omi_script.specs.declared.program.Program.{Program}
use Rattle.omi_model.specs.declared.id.Id.{Id}
use Rattle.omi_model.specs.declared.id.Tid.{Tid}
use Rattle.omi_model.specs.declared.item.Item.{Item}
use Rattle.omi_model.specs.declared.task.Task.{Task}
use Rattle.omi_model.specs.Changes.{encounter_by}
use Rattle.omi_model.specs.Groups.{with_groups}
use Rattle.omi_model.specs.Rows.{working}
use Rattle.omi_model.specs.State.{State, task_of}
use Rattle.omi_model.proofs.Slots.{on_other, on_same}
use Rattle.omi_pc.specs.declared.context.Context.{Context}
use Rattle.omi_pc.specs.declared.frame.Frame.{Frame}
use Rattle.omi_pc.specs.declared.frame.Opened.{Opened}
use Rattle.omi_pc.specs.declared.frame.Opened.TheVariants as opened
use Rattle.omi_pc.specs.FitLaws.{grouped}
use Rattle.omi_pc.specs.Moves.{context_under}
use Rattle.omi_rule.specs.Ahead.{leaving, resuming}
use Rattle.omi_rule.specs.Chains.{IsScheduledFrom, IsSuspended, KeepsBodies, KeepsBody, KeepsContext, RunsFunctions, encounter_of}
use Rattle.omi_rule.proofs.OthersStand.{of_innermost}
use Rattle.omi_rule.proofs.Own.{AreBelow, IsBelow}

module _ (p : Program) (s : State) (i : ℕ) (k : Tid) (n : ℕ) where
  abbrev later : State
  later = with_groups s n k

  abbrev with_open : Task → Task
  with_open t = record t { open_groups = n }

  own_later : (t : Task) → task_of s k ≡ Some t → task_of later k ≡ Some (record t { open_groups = n })
  own_later t live =
      on_same s.tasks k.0 with_open ∙ ap (λ (x : Option Task). option_map with_open x) live

  other_later : (h : Tid) → (h ≡ k → ⊥) → task_of later h ≡ task_of s h
  other_later h ne =
      on_other s.tasks k.0 with_open h.0
      (λ (e : h.0 ≡ k.0). ne (ap (λ (d : Id). record { 0 = d }) e))

  -- ---- contexts: that of the task, and one of another task

  abbrev IsOf : Bool → Context → Type 0
  IsOf true c = c.task ≡ k
  IsOf false c = c.task ≡ k → ⊥

  abbrev regrouped : Bool → Context → Context
  regrouped true c = grouped n c
  regrouped false c = c

  pub context_regrouped : (c : Context) → c.task ≡ k → KeepsContext s i c → KeepsContext later i (grouped n c)
  context_regrouped c is o = record {
    task = record o.task { open_groups = n };
    live = ap (task_of later) is ∙ own_later o.task (ap (task_of s) (sym is) ∙ o.live);
    begun = o.begun;
    thread = o.thread;
    implicit = o.implicit;
    region_is = o.region_is;
    number = o.number;
    final = o.final;
    exit = o.exit;
    region = o.region;
    found = o.found;
    size = o.size;
    row = o.row;
    arrivals = o.arrivals;
    groups = refl;
  }

  context_apart : (c : Context) → (c.task ≡ k → ⊥) → KeepsContext s i c → KeepsContext later i c
  context_apart c apart o = record {
    task = o.task;
    live = other_later c.task apart ∙ o.live;
    begun = o.begun;
    thread = o.thread;
    implicit = o.implicit;
    region_is = o.region_is;
    number = o.number;
    final = o.final;
    exit = o.exit;
    region = o.region;
    found = o.found;
    size = o.size;
    row = o.row;
    arrivals = o.arrivals;
    groups = o.groups;
  }

  context_later : (b : Bool) (c : Context) → IsOf b c → KeepsContext s i c → KeepsContext later i (regrouped b c)
  context_later true c is o = context_regrouped c is o
  context_later false c apart o = context_apart c apart o

  -- what the rows of statements see of a task stays
  pub sees_own : (c : Context) → c.task ≡ k → KeepsContext s i c → encounter_of later c ≡ encounter_of s c
  sees_own c is o =
      ap (encounter_by later) (ap (task_of later) is ∙ own_later o.task (ap (task_of s) (sym is) ∙ o.live))
      ∙ sym (ap (encounter_by s) o.live)

  sees_apart : (c : Context) → (c.task ≡ k → ⊥) → KeepsContext s i c → encounter_of later c ≡ encounter_of s c
  sees_apart c apart o =
      ap (encounter_by later) (other_later c.task apart ∙ o.live) ∙ sym (ap (encounter_by s) o.live)

  -- ---- bodies

  scheduled_later : (b : Bool) (saved c : Context) → IsOf b c → IsScheduledFrom s saved c
      → IsScheduledFrom later saved (regrouped b c)
  scheduled_later true saved c is x = record {
    task = record x.task { open_groups = n };
    live = ap (task_of later) is ∙ own_later x.task (ap (task_of s) (sym is) ∙ x.live);
    scheduling = x.scheduling;
  }
  scheduled_later false saved c apart x = record { task = x.task; live = other_later c.task apart ∙ x.live; scheduling = x.scheduling }

  suspended_later : (c : Context) (list new : List Item) → (c.task ≡ k → ⊥) → new ≡ list → IsSuspended s c list
      → IsSuspended later c new
  suspended_later c list new apart same x = record { task = x.task; live = other_later c.task apart ∙ x.live; list_is = x.list_is ∙ sym same }

  main_later : (b : Bool) (c : Context) (fs : List Frame) → KeepsBody p s c opened.Main fs → KeepsBody p later (regrouped b c) opened.Main fs
  main_later true c fs keeps = keeps
  main_later false c fs keeps = keeps

  body_later : (b : Bool) (c : Context) (o : Opened) (fs : List Frame) → IsOf b c → IsBelow k o
      → KeepsContext s i (context_under c o) → KeepsBody p s c o fs → KeepsBody p later (regrouped b c) o fs
  body_later b c opened.Main fs is below l keeps = main_later b c fs keeps
  body_later b c opened.Worker fs is below l keeps = tt
  body_later b c (opened.Master saved) fs is below l (from, suspended) = (
    scheduled_later b saved c is from,
    suspended_later saved _ _ below (ap (λ at. working at (leaving p at fs)) (sees_apart saved below l)) suspended,
  )
  body_later b c (opened.Task w saved) fs is below l (from, suspended) = (
    scheduled_later b saved c is from,
    suspended_later saved _ _ below (ap (λ at. resuming p at fs w) (sees_apart saved below l)) suspended,
  )
  body_later b c opened.Call fs is below l keeps = tt
  body_later b c (opened.Repeat left) fs is below l keeps = tt
  body_later b c (opened.Critical lock) fs is below l keeps = tt
  body_later b c opened.Taskgroup fs is below l keeps = tt

  abbrev Later : List Frame → Type 0
  Later fs = (b : Bool) (c : Context) → IsOf b c → AreBelow k fs → KeepsBodies p s i c fs → KeepsBodies p later i (regrouped b c) fs

  -- under a body that a task began stands another task, and under any other body the same one
  under_same : (b : Bool) (c : Context) (o : Opened) (fs : List Frame) → context_under c o ≡ c
      → context_under (regrouped b c) o ≡ regrouped b c → Later fs → IsOf b c → AreBelow k fs
      → KeepsBodies p s i (context_under c o) fs → KeepsBodies p later i (context_under (regrouped b c) o) fs
  under_same b c o fs same then inside is below keeps =
      subst (λ (d : Context). KeepsBodies p later i d fs) (sym then)
      (inside b c is below (subst (λ (d : Context). KeepsBodies p s i d fs) same keeps))

  under_later : (b : Bool) (c : Context) (o : Opened) (fs : List Frame) → Later fs → IsOf b c → IsBelow k o
      → AreBelow k fs → KeepsBodies p s i (context_under c o) fs → KeepsBodies p later i (context_under (regrouped b c) o) fs
  under_later b c opened.Main fs inside is below rest keeps = under_same b c opened.Main fs refl refl inside is rest keeps
  under_later b c opened.Worker fs inside is below rest keeps = under_same b c opened.Worker fs refl refl inside is rest keeps
  under_later b c (opened.Master saved) fs inside is below rest keeps = inside false saved below rest keeps
  under_later b c (opened.Task w saved) fs inside is below rest keeps = inside false saved below rest keeps
  under_later b c opened.Call fs inside is below rest keeps = under_same b c opened.Call fs refl refl inside is rest keeps
  under_later b c (opened.Repeat left) fs inside is below rest keeps = under_same b c (opened.Repeat left) fs refl refl inside is rest keeps
  under_later b c (opened.Critical lock) fs inside is below rest keeps = under_same b c (opened.Critical lock) fs refl refl inside is rest keeps
  under_later b c opened.Taskgroup fs inside is below rest keeps = under_same b c opened.Taskgroup fs refl refl inside is rest keeps

  bodies_later : (fs : List Frame) → Later fs
  bodies_later [] b c is below keeps = context_later b c is keeps
  bodies_later (f ∷ fs) b c is (here, below) (o, body, rest) = (
    context_later b c is o,
    body_later b c f.opened fs is here (of_innermost p s i (context_under c f.opened) fs rest) body,
    under_later b c f.opened fs (bodies_later fs) is here below rest,
  )

  pub bodies_regrouped : (c : Context) (fs : List Frame) → c.task ≡ k → AreBelow k fs → KeepsBodies p s i c fs
      → KeepsBodies p later i (grouped n c) fs
  bodies_regrouped c fs is below keeps = bodies_later fs true c is below keeps

-- the functions of the tasks are the same
module _ (s : State) (n : ℕ) where
  runs_under : (c : Context) (o : Opened) (fs : List Frame) → (RunsFunctions s c fs → RunsFunctions s (grouped n c) fs)
      → RunsFunctions s (context_under c o) fs → RunsFunctions s (context_under (grouped n c) o) fs
  runs_under c opened.Main fs inside runs = inside runs
  runs_under c opened.Worker fs inside runs = inside runs
  runs_under c (opened.Master saved) fs inside runs = runs
  runs_under c (opened.Task w saved) fs inside runs = runs
  runs_under c opened.Call fs inside runs = inside runs
  runs_under c (opened.Repeat left) fs inside runs = inside runs
  runs_under c (opened.Critical lock) fs inside runs = inside runs
  runs_under c opened.Taskgroup fs inside runs = inside runs

  pub runs_regrouped : (c : Context) (fs : List Frame) → RunsFunctions s c fs → RunsFunctions s (grouped n c) fs
  runs_regrouped c [] runs = tt
  runs_regrouped c (f ∷ fs) (here, rest) = (here, runs_under c f.opened fs (runs_regrouped c fs) rest)
