-- The open bodies of a member that arrives at a barrier: its own task has one arrival more, and the tasks under it are in regions further out.
use Rattle.std.proofs.Common.{◌≡◌, ◌<◌, ◌+◌, ℕ, ◌⊎◌, inl, inr, Bool, true, List, [], ◌∷◌, length, slice_index, slice_set, Option, Some, None, refl, sym, ap, ◌∙◌, subst, arith, eq-eqb, if◌then◌else◌}
use Rattle.std.specs.Prelude.{MatchOption}
use Rattle.std.specs.Option.{option_map, option_map_or}
use Rattle.std.proofs.lemmas.List.{get_or-set_same}
use Rattle.std.proofs.lemmas.Option.{slice_get_within}
use Rattle.omi_script.specs.declared.program.Program.{Program}
use Rattle.omi_model.specs.declared.event.Event.{Event}
use Rattle.omi_model.specs.declared.id.Id.{Id}
use Rattle.omi_model.specs.declared.id.Rid.{Rid}
use Rattle.omi_model.specs.declared.item.Item.{Item}
use Rattle.omi_model.specs.declared.region.Region.{Region}
use Rattle.omi_model.specs.declared.task.Task.{Task}
use Rattle.omi_model.specs.Changes.{encounter_by, level_of, on_region}
use Rattle.omi_model.specs.LawLevels.{IsEnclosedIn}
use Rattle.omi_model.specs.Put.{named}
use Rattle.omi_model.specs.Reached.{Reached}
use Rattle.omi_model.specs.Rows.{working}
use Rattle.omi_model.specs.State.{State, region_of, task_of}
use Rattle.omi_model.proofs.LevelsCount.{levels_count}
use Rattle.omi_model.proofs.members.EncounterLaws.{encounters}
use Rattle.omi_model.proofs.MembersKnown.{members_known}
use Rattle.omi_model.proofs.Slots.{on_other, on_same, same_or_not, some_same}
use Rattle.omi_pc.specs.declared.context.Context.{Context}
use Rattle.omi_pc.specs.declared.frame.Frame.{Frame}
use Rattle.omi_pc.specs.declared.frame.Opened.{Opened}
use Rattle.omi_pc.specs.declared.frame.Opened.TheVariants as opened
use Rattle.omi_pc.specs.FitLaws.{arrived}
use Rattle.omi_pc.specs.Moves.{context_under}
use Rattle.omi_pc.specs.OpenBodies.{AreOpen, IsMasterOf, StandsOn}
use Rattle.omi_step_words.specs.Placed.{AreContextsPlaced}
use Rattle.omi_rule.specs.Ahead.{leaving, resuming}
use Rattle.omi_rule.specs.Chains.{IsScheduledFrom, IsSuspended, KeepsBodies, KeepsBody, KeepsContext, RunsFunctions, encounter_of}
use Rattle.omi_rule.proofs.OthersStand.{of_innermost}

-- ---- the tasks under a member

-- the contexts of open bodies are in other regions
abbrev pub AreElsewhere : Rid → Context → List Frame → Type 0
AreElsewhere n c [] = c.region ≡ n → ⊥
AreElsewhere n c (f ∷ fs) = (c.region ≡ n → ⊥) × AreElsewhere n (context_under c f.opened) fs

module _ (p : Program) (events : List (ℕ × Event)) (s : State) (reached : Reached p events s) (i : ℕ) where
  level_is : (c : Context) (o : KeepsContext s i c) → level_of s c.region ≡ o.region.levels
  level_is c o = ap (λ (x : Option Region). option_map_or (λ r. r.levels) x 0) o.found

  -- the task from which member 0 is scheduled encountered the region
  pub met_by : (saved c : Context) (o : KeepsContext s i c) → IsMasterOf saved c → IsScheduledFrom s saved c
      → o.region.encountering ≡ Some saved.task
  met_by saved c o master from =
      let scheduled =
      ((members_known p events s reached).encountered c.task o.task o.live).scheduling
      (o.implicit ∙ master.implicit) o.region (ap (region_of s) o.region_is ∙ o.found) in
      sym
      (scheduled ∙ ap (λ (b : Bool). if b then o.region.encountering else None) (eq-eqb o.task.number 0 (o.number ∙ master.number)))
      ∙ ap (λ (t : Task). t.scheduling) (some_same {x = o.task} o.live from.live) ∙ from.scheduling

  -- a region is one level deeper than that of this task
  master_below : (saved c : Context) → KeepsContext s i c → IsMasterOf saved c → IsScheduledFrom s saved c
      → KeepsContext s i saved → level_of s saved.region + 1 ≡ level_of s c.region
  master_below saved c o master from under =
      let met : o.region.encountering ≡ Some saved.task = met_by saved c o master from in
      let is = (encounters p events s reached).encountered c.region o.region saved.task under.task o.found met under.live in
      let around : o.region.enclosing ≡ Some saved.region =
      is.enclosing
      ∙ ap (λ (t : Task). Some t.region) (some_same {x = is.task} is.live under.live)
      ∙ ap (λ (n : Rid). Some n) under.region_is in
      let (q, found, within) =
      inside o.region (Some saved.region) around
      (levels_count p events s reached c.region o.region o.found).levels in
      let one : q ≡ under.region = some_same {x = q} found under.found in
      let outer = level_is saved under in
      let inner = level_is c o in
      let same : q.levels ≡ under.region.levels = ap (λ (r : Region). r.levels) one in
      let more = within.levels in omega (arith, outer, inner, same, more)
    where
      inside : (r : Region) (x : Option Rid) → r.enclosing ≡ x
          → MatchOption r.enclosing ((r.levels ≡ 0) × (r.active ≡ 0)) (λ n. (q : Region) × (region_of s n ≡ Some q) × IsEnclosedIn r q)
          → MatchOption x ((r.levels ≡ 0) × (r.active ≡ 0))
          (λ n. (q : Region) × (region_of s n ≡ Some q) × IsEnclosedIn r q)
      inside r x e h =
          subst
          (λ (y : Option Rid). MatchOption y ((r.levels ≡ 0) × (r.active ≡ 0)) (λ n. (q : Region) × (region_of s n ≡ Some q) × IsEnclosedIn r q)) e h

  not_there : (n : Rid) (c : Context) → level_of s c.region < level_of s n → c.region ≡ n → ⊥
  not_there n c less same =
      let is : level_of s c.region ≡ level_of s n = ap (level_of s) same in omega (arith, less, is)

  under_less : (n : Rid) (f : ℕ) (fs : List Frame) (c : Context) → KeepsContext s i c → (x : Opened)
      → StandsOn p c f fs x → KeepsBody p s c x fs → KeepsContext s i (context_under c x)
      → level_of s c.region < level_of s n → level_of s (context_under c x).region < level_of s n
  under_less n f fs c o opened.Main on body under less = less
  under_less n f fs c o opened.Worker on body under less = less
  under_less n f fs c o (opened.Master saved) (num, at, master) (from, suspended) under less =
      let more = master_below saved c o master from under in omega (arith, more, less)
  under_less n f fs c o (opened.Task w saved) on body under less =
      subst (λ (r : Rid). level_of s r < level_of s n) on.1.region less
  under_less n f fs c o opened.Call on body under less = less
  under_less n f fs c o (opened.Repeat left) on body under less = less
  under_less n f fs c o (opened.Critical k) on body under less = less
  under_less n f fs c o opened.Taskgroup on body under less = less

  elsewhere : (n : Rid) (fs : List Frame) (c : Context) → AreOpen p c fs → KeepsBodies p s i c fs
      → level_of s c.region < level_of s n → AreElsewhere n c fs
  elsewhere n [] c open_bodies o less = not_there n c less
  elsewhere n (f ∷ fs) c (is, below) (o, body, rest) less =
      (not_there n c less, elsewhere n fs (context_under c f.opened) below rest (under_less n f.function fs c o f.opened is.stands body (of_innermost p s i (context_under c f.opened) fs rest) less))

-- ---- an arrival

-- the arrivals of a region, where the member with a number has arrived once more
abbrev pub arrived_once : ℕ → Region → Region
arrived_once j r = record r { arrivals = slice_set r.arrivals j (slice_index r.arrivals j + 1) }

module _ (p : Program) (z : State) (i : ℕ) (n : Rid) (j : ℕ) where
  abbrev u : State
  u = on_region z n (arrived_once j)

  pub region_goes_on : (x : Rid) (r : Region) → region_of z x ≡ Some r
      → (q : Region) × (region_of u x ≡ Some q) × (q.team ≡ r.team) × (q.levels ≡ r.levels)
  region_goes_on x r live = go (same_or_not x.0 n.0)
    where
      go : (x.0 ≡ n.0) ⊎ (x.0 ≡ n.0 → ⊥)
          → (q : Region) × (region_of u x ≡ Some q) × (q.team ≡ r.team) × (q.levels ≡ r.levels)
      go (inl same) = (
        arrived_once j r,
        ap (named u.regions) same ∙ on_same z.regions n.0 (arrived_once j) ∙ ap (λ (o : Option Region). option_map (arrived_once j) o) (ap (named z.regions) (sym same) ∙ live),
        refl,
        refl,
      )
      go (inr other) = (r, on_other z.regions n.0 (arrived_once j) x.0 other ∙ live, refl, refl)

  pub encounter_stays : (c : Context) → KeepsContext z i c → encounter_of u c ≡ encounter_of z c
  encounter_stays c o =
      let (q, found, team, levels) =
      region_goes_on o.task.region o.region (ap (region_of z) o.region_is ∙ o.found) in
      let level : level_of u o.task.region ≡ level_of z o.task.region =
      ap (λ (x : Option Region). option_map_or (λ r. r.levels) x 0) found ∙ levels
      ∙ sym
      (ap (λ (x : Option Region). option_map_or (λ r. r.levels) x 0) (ap (region_of z) o.region_is ∙ o.found)) in
      ap (encounter_by u) o.live
      ∙ ap
      (λ l. record { debug = z.environment.debug; number = o.task.number; level = l; is_final = o.task.is_final }) level
      ∙ sym (ap (encounter_by z) o.live)

  -- a context of another region
  context_stays : (c : Context) → (c.region ≡ n → ⊥) → KeepsContext z i c → KeepsContext u i c
  context_stays c apart o = record {
    task = o.task;
    live = o.live;
    begun = o.begun;
    thread = o.thread;
    implicit = o.implicit;
    region_is = o.region_is;
    number = o.number;
    final = o.final;
    exit = o.exit;
    region = o.region;
    found = on_other z.regions n.0 (arrived_once j) c.region.0 (λ same. apart (ap (λ (a : Id). record { 0 = a }) same)) ∙ o.found;
    size = o.size;
    row = o.row;
    arrivals = o.arrivals;
    groups = o.groups;
  }

  suspended_stays : (c : Context) (list new : List Item) → new ≡ list → IsSuspended z c list
      → IsSuspended u c new
  suspended_stays c list new same x = record { task = x.task; live = x.live; list_is = x.list_is ∙ sym same }

  scheduled_stays : (saved c d : Context) → d.task ≡ c.task → IsScheduledFrom z saved c
      → IsScheduledFrom u saved d
  scheduled_stays saved c d same x = record { task = x.task; live = ap (task_of z) same ∙ x.live; scheduling = x.scheduling }

  body_stays : (c d : Context) (o : Opened) (fs : List Frame) → d.task ≡ c.task → d.region ≡ c.region
      → KeepsContext z i (context_under c o) → KeepsBody p z c o fs → KeepsBody p u d o fs
  body_stays c d opened.Main fs same region under (task_is, region_is) = (same ∙ task_is, region ∙ region_is)
  body_stays c d (opened.Master saved) fs same region under (from, suspended) =
      (scheduled_stays saved c d same from, suspended_stays saved _ _ (ap (λ at. working at (leaving p at fs)) (encounter_stays saved under)) suspended)
  body_stays c d (opened.Task w saved) fs same region under (from, suspended) =
      (scheduled_stays saved c d same from, suspended_stays saved _ _ (ap (λ at. resuming p at fs w) (encounter_stays saved under)) suspended)
  body_stays c d opened.Worker fs same region under keeps = tt
  body_stays c d opened.Call fs same region under keeps = tt
  body_stays c d (opened.Repeat left) fs same region under keeps = tt
  body_stays c d (opened.Critical k) fs same region under keeps = tt
  body_stays c d opened.Taskgroup fs same region under keeps = tt

  bodies_stay : (fs : List Frame) (c : Context) → AreElsewhere n c fs → KeepsBodies p z i c fs
      → KeepsBodies p u i c fs
  bodies_stay [] c apart o = context_stays c apart o
  bodies_stay (f ∷ fs) c (apart, below) (o, body, rest) =
      (context_stays c apart o, body_stays c c f.opened fs refl refl (of_innermost p z i (context_under c f.opened) fs rest) body, bodies_stay fs (context_under c f.opened) below rest)

  -- ---- the own task

  module _ (c : Context) (region : c.region ≡ n) (number : c.number ≡ j)
      (sizes : (r : Region) → region_of z n ≡ Some r → length r.arrivals ≡ length r.team) where
    abbrev d : Context
    d = arrived (c.arrivals + 1) c

    context_arrives : KeepsContext z i c → KeepsContext u i d
    context_arrives o =
        let found : region_of z n ≡ Some o.region = ap (region_of z) (sym region) ∙ o.found in
        let within : c.number < length o.region.team =
        slice_get_within o.region.team c.number (c.row, i) o.row in
        let size = sizes o.region found in
        let below : j < length o.region.arrivals = omega (arith, within, size, number) in
        let was : slice_index o.region.arrivals j ≡ c.arrivals =
        ap (λ k. slice_index o.region.arrivals k) (sym number) ∙ o.arrivals in
        record {
          task = o.task;
          live = o.live;
          begun = o.begun;
          thread = o.thread;
          implicit = o.implicit;
          region_is = o.region_is;
          number = o.number;
          final = o.final;
          exit = o.exit;
          region = arrived_once j o.region;
          found = ap (region_of u) region ∙ on_same z.regions n.0 (arrived_once j) ∙ ap (λ (x : Option Region). option_map (arrived_once j) x) found;
          size = o.size;
          row = o.row;
          arrivals =
              ap (λ k. slice_index (arrived_once j o.region).arrivals k) number
              ∙ get_or-set_same o.region.arrivals j (slice_index o.region.arrivals j + 1) 0 below
              ∙ ap (λ k. k + 1) was;
          groups = o.groups;
        }

    module _ (events : List (ℕ × Event)) (s : State) (reached : Reached p events s)
        (im : c.implicit ≡ true) where
      -- the bodies of the task under its own
      under_arrives : (fs : List Frame) (f : ℕ) (x : Opened) → StandsOn p c f fs x
          → AreOpen p (context_under c x) fs → KeepsContext s i c → KeepsBody p s c x fs
          → KeepsBodies p s i (context_under c x) fs → KeepsBodies p z i (context_under c x) fs
          → (AreOpen p c fs → KeepsBodies p s i c fs → KeepsBodies p z i c fs → KeepsBodies p u i d fs) → KeepsBodies p u i (context_under d x) fs
      under_arrives fs f opened.Main on bodies o body was now own = own bodies was now
      under_arrives fs f opened.Worker on bodies o body was now own = own bodies was now
      under_arrives fs f (opened.Master saved) (num, at, master) bodies o (from, suspended) was now own =
          let below =
          master_below p events s reached i saved c o master from (of_innermost p s i saved fs was) in
          let level : level_of s c.region ≡ level_of s n = ap (level_of s) region in
          bodies_stay fs saved
          (elsewhere p events s reached i n fs saved bodies was (omega (arith, below, level))) now
      under_arrives fs f (opened.Task w saved) on bodies o body was now own =
          let explicit = on.1.implicit in absurd (cc (sym im, explicit))
      under_arrives fs f opened.Call on bodies o body was now own = own bodies was now
      under_arrives fs f (opened.Repeat left) on bodies o body was now own = own bodies was now
      under_arrives fs f (opened.Critical k) on bodies o body was now own = own bodies was now
      under_arrives fs f opened.Taskgroup on bodies o body was now own = own bodies was now

      pub bodies_arrive : (fs : List Frame) → AreOpen p c fs → KeepsBodies p s i c fs → KeepsBodies p z i c fs
          → KeepsBodies p u i d fs
      bodies_arrive [] bodies was o = context_arrives o
      bodies_arrive (f ∷ fs) (is, below) (was, was_body, was_rest) (o, body, rest) = (
        context_arrives o,
        body_stays c d f.opened fs refl refl (of_innermost p z i (context_under c f.opened) fs rest) body,
        under_arrives fs f.function f.opened is.stands below was was_body was_rest rest (λ a b e. bodies_arrive fs a b e),
      )

-- what holds under a body holds under it behind the arrival, if it does in the own task
under_arrived : (P : Context → List Frame → Type 0) (n : ℕ) (fs : List Frame) (c : Context) (x : Opened)
    → P (context_under c x) fs → (P c fs → P (arrived n c) fs) → P (context_under (arrived n c) x) fs
under_arrived P n fs c opened.Main o own = own o
under_arrived P n fs c opened.Worker o own = own o
under_arrived P n fs c (opened.Master saved) o own = o
under_arrived P n fs c (opened.Task x saved) o own = o
under_arrived P n fs c opened.Call o own = own o
under_arrived P n fs c (opened.Repeat left) o own = own o
under_arrived P n fs c (opened.Critical k) o own = own o
under_arrived P n fs c opened.Taskgroup o own = own o

-- the contexts name the same records
pub contexts_arrive : (w : List ℕ) (n : ℕ) (fs : List Frame) (c : Context) → AreContextsPlaced w c fs
    → AreContextsPlaced w (arrived n c) fs
contexts_arrive w n [] c o = tt
contexts_arrive w n (f ∷ fs) c (o, rest) =
    (record { task = o.task; region = o.region; row = o.row }, under_arrived (AreContextsPlaced w) n fs c f.opened rest (λ x. contexts_arrive w n fs c x))

-- and their tasks run the same functions
pub functions_arrive : (u : State) (n : ℕ) (fs : List Frame) (c : Context) → RunsFunctions u c fs
    → RunsFunctions u (arrived n c) fs
functions_arrive u n [] c o = tt
functions_arrive u n (f ∷ fs) c (o, rest) =
    (o, under_arrived (RunsFunctions u) n fs c f.opened rest (λ x. functions_arrive u n fs c x))
