-- The bodies of a thread where a state grows: each live task and region is there as it was.
use Rattle.std.proofs.Common.{◌≡◌, ℕ, List, [], ◌∷◌, Option, Some, sym, ap, ◌∙◌}
use Rattle.std.specs.Option.{option_map_or}
use Rattle.omi_script.specs.declared.env.Env.{Env}
use Rattle.omi_script.specs.declared.program.Program.{Program}
use Rattle.omi_model.specs.declared.id.Rid.{Rid}
use Rattle.omi_model.specs.declared.id.Tid.{Tid}
use Rattle.omi_model.specs.declared.item.Item.{Item}
use Rattle.omi_model.specs.declared.region.Region.{Region}
use Rattle.omi_model.specs.declared.task.Task.{Task}
use Rattle.omi_model.specs.Changes.{encounter_by, level_of}
use Rattle.omi_model.specs.Rows.{working}
use Rattle.omi_model.specs.State.{State, region_of, task_of}
use Rattle.omi_pc.specs.declared.context.Context.{Context}
use Rattle.omi_pc.specs.declared.frame.Frame.{Frame}
use Rattle.omi_pc.specs.declared.frame.Opened.{Opened}
use Rattle.omi_pc.specs.declared.frame.Opened.TheVariants as opened
use Rattle.omi_pc.specs.Moves.{context_under}
use Rattle.omi_rule.specs.Ahead.{leaving, resuming}
use Rattle.omi_rule.specs.Chains.{IsScheduledFrom, IsSuspended, KeepsBodies, KeepsBody, KeepsContext, encounter_of}
use Rattle.omi_rule.proofs.OthersStand.{of_innermost}

pub record IsLarger (s u : State) : Type 0 where
  pub environment : u.environment ≡ s.environment
  pub tasks : (k : Tid) (t : Task) → task_of s k ≡ Some t → task_of u k ≡ Some t
  pub regions : (n : Rid) (r : Region) → region_of s n ≡ Some r → region_of u n ≡ Some r

module _ (p : Program) (s u : State) (i : ℕ) (larger : IsLarger s u) where
  context_grows : (c : Context) → KeepsContext s i c → KeepsContext u i c
  context_grows c o = record {
    task = o.task;
    live = larger.tasks c.task o.task o.live;
    begun = o.begun;
    thread = o.thread;
    implicit = o.implicit;
    region_is = o.region_is;
    number = o.number;
    final = o.final;
    exit = o.exit;
    region = o.region;
    found = larger.regions c.region o.region o.found;
    size = o.size;
    row = o.row;
    arrivals = o.arrivals;
    groups = o.groups;
  }

  pub encounter_grows : (c : Context) → KeepsContext s i c → encounter_of u c ≡ encounter_of s c
  encounter_grows c o =
      let there : region_of s o.task.region ≡ Some o.region = ap (region_of s) o.region_is ∙ o.found in
      let level : level_of u o.task.region ≡ level_of s o.task.region =
      ap (λ (x : Option Region). option_map_or (λ r. r.levels) x 0)
      (larger.regions o.task.region o.region there)
      ∙ sym (ap (λ (x : Option Region). option_map_or (λ r. r.levels) x 0) there) in
      ap (encounter_by u) (larger.tasks c.task o.task o.live)
      ∙ ap
      (λ (e : Env). record { debug = e.debug; number = o.task.number; level = level_of u o.task.region; is_final = o.task.is_final }) larger.environment
      ∙ ap
      (λ l. record { debug = s.environment.debug; number = o.task.number; level = l; is_final = o.task.is_final }) level
      ∙ sym (ap (encounter_by s) o.live)

  scheduled_grows : (saved c : Context) → IsScheduledFrom s saved c → IsScheduledFrom u saved c
  scheduled_grows saved c x = record { task = x.task; live = larger.tasks c.task x.task x.live; scheduling = x.scheduling }

  suspended_grows : (c : Context) (list new : List Item) → new ≡ list → IsSuspended s c list
      → IsSuspended u c new
  suspended_grows c list new same x = record { task = x.task; live = larger.tasks c.task x.task x.live; list_is = x.list_is ∙ sym same }

  body_grows : (c : Context) (o : Opened) (fs : List Frame) → KeepsContext s i (context_under c o)
      → KeepsBody p s c o fs → KeepsBody p u c o fs
  body_grows c opened.Main fs l keeps = keeps
  body_grows c (opened.Master saved) fs l (from, suspended) =
      (scheduled_grows saved c from, suspended_grows saved _ _ (ap (λ at. working at (leaving p at fs)) (encounter_grows saved l)) suspended)
  body_grows c (opened.Task w saved) fs l (from, suspended) =
      (scheduled_grows saved c from, suspended_grows saved _ _ (ap (λ at. resuming p at fs w) (encounter_grows saved l)) suspended)
  body_grows c opened.Worker fs l keeps = tt
  body_grows c opened.Call fs l keeps = tt
  body_grows c (opened.Repeat left) fs l keeps = tt
  body_grows c (opened.Critical lock) fs l keeps = tt
  body_grows c opened.Taskgroup fs l keeps = tt

  pub bodies_grow : (c : Context) (fs : List Frame) → KeepsBodies p s i c fs → KeepsBodies p u i c fs
  bodies_grow c [] o = context_grows c o
  bodies_grow c (f ∷ fs) (o, body, rest) =
      (context_grows c o, body_grows c f.opened fs (of_innermost p s i (context_under c f.opened) fs rest) body, bodies_grow (context_under c f.opened) fs rest)
