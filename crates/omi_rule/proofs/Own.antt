-- What a thread's event on its own task leaves of the thread's chain: the contexts of its tasks, and the tasks that made way for others.
use Rattle.std.proofs.Common.{◌≡◌, ℕ, ◌⊎◌, inl, inr, Bool, List, [], ◌∷◌, length, slice_get, slice_index, Option, Some, refl, sym, ap, ◌∙◌, subst}
use Rattle.std.specs.Option.{option_map_or}
use Rattle.omi_script.specs.declared.env.Env.{Env}
use Rattle.omi_script.specs.declared.program.Program.{Program}
use Rattle.omi_model.specs.declared.id.Id.{Id}
use Rattle.omi_model.specs.declared.id.Rid.{Rid}
use Rattle.omi_model.specs.declared.id.Tid.{Tid}
use Rattle.omi_model.specs.declared.item.Item.{Item}
use Rattle.omi_model.specs.declared.region.Region.{Region}
use Rattle.omi_model.specs.declared.task.Task.{Task}
use Rattle.omi_model.specs.Changes.{encounter_by, level_of}
use Rattle.omi_model.specs.LawChains.{IsApart, IsChain}
use Rattle.omi_model.specs.Put.{named}
use Rattle.omi_model.specs.Rows.{working}
use Rattle.omi_model.specs.State.{State, region_of, task_of}
use Rattle.omi_model.proofs.Slots.{none_some, same_or_not, some_same}
use Rattle.omi_pc.specs.declared.context.Context.{Context}
use Rattle.omi_pc.specs.declared.frame.Frame.{Frame}
use Rattle.omi_pc.specs.declared.frame.Opened.{Opened}
use Rattle.omi_pc.specs.declared.frame.Opened.TheVariants as opened
use Rattle.omi_pc.specs.Moves.{context_under}
use Rattle.omi_rule.specs.Ahead.{leaving, resuming}
use Rattle.omi_rule.specs.Chains.{IsScheduledFrom, IsSuspended, KeepsBodies, KeepsBody, KeepsContext, encounter_of}
use Rattle.omi_rule.proofs.OthersStand.{of_innermost}

-- ---- the tasks below the current one

-- the tasks that made way for others are not this one
abbrev pub IsBelow : Tid → Opened → Type 0
IsBelow k (opened.Master saved) = saved.task ≡ k → ⊥
IsBelow k (opened.Task w saved) = saved.task ≡ k → ⊥
IsBelow k o = Unit {0}

abbrev pub AreBelow : Tid → List Frame → Type 0
AreBelow k [] = Unit {0}
AreBelow k (f ∷ fs) = IsBelow k f.opened × AreBelow k fs

module _ (p : Program) (s : State) (i : ℕ) (k : Tid) where
  abbrev Under : List Frame → Type 0
  Under fs =
      (c : Context) (ns : List Tid) → KeepsBodies p s i c fs → (n : Tid) → IsChain s i (Some c.task) (n ∷ ns) → IsApart k ns → AreBelow k fs

  -- one step down the chain
  under : (fs : List Frame) (saved c : Context) → Under fs → KeepsContext s i c → IsScheduledFrom s saved c
      → KeepsBodies p s i saved fs → (n : Tid) (ns : List Tid) → IsChain s i (Some c.task) (n ∷ ns)
      → IsApart k ns
      → (saved.task ≡ k → ⊥) × AreBelow k fs
  under fs saved c rest o from bodies n ns (u, top, apart, live, thread, begun, chain) others =
      go ns next others
    where
      same : c.task ≡ n
      same = cc top

      next : IsChain s i (Some saved.task) ns
      next =
          let here : task_of s c.task ≡ Some u = subst (λ (x : Tid). task_of s x ≡ Some u) (sym same) live in
          let is : u.scheduling ≡ Some saved.task =
          ap (λ (t : Task). t.scheduling) (some_same here from.live) ∙ from.scheduling in
          subst (λ (x : Option Tid). IsChain s i x ns) is chain

      go : (ms : List Tid) → IsChain s i (Some saved.task) ms → IsApart k ms
          → (saved.task ≡ k → ⊥) × AreBelow k fs
      go [] none away = absurd (cc none)
      go (m ∷ ms) (v, topm, apartm, livem, threadm, begunm, chainm) (ne, away) =
          let first : saved.task ≡ m = cc topm in
          ((λ e. ne (sym e ∙ first)), rest saved ms bodies m (v, topm, apartm, livem, threadm, begunm, chainm) away)

  -- the body of a task, by how it was opened
  below_opened : (f : Frame) (fs : List Frame) (c : Context) (ns : List Tid) (n : Tid) → Under fs
      → KeepsContext s i c → (x : Opened) → KeepsBody p s c x fs → KeepsBodies p s i (context_under c x) fs
      → IsChain s i (Some c.task) (n ∷ ns) → IsApart k ns → IsBelow k x × AreBelow k fs
  below_opened f fs c ns n inside o opened.Main keeps rest chain away = (tt, inside c ns rest n chain away)
  below_opened f fs c ns n inside o opened.Worker keeps rest chain away = (tt, inside c ns rest n chain away)
  below_opened f fs c ns n inside o (opened.Master saved) (from, keeps) rest chain away =
      under fs saved c inside o from rest n ns chain away
  below_opened f fs c ns n inside o (opened.Task w saved) (from, keeps) rest chain away =
      under fs saved c inside o from rest n ns chain away
  below_opened f fs c ns n inside o opened.Call keeps rest chain away = (tt, inside c ns rest n chain away)
  below_opened f fs c ns n inside o (opened.Repeat left) keeps rest chain away =
      (tt, inside c ns rest n chain away)
  below_opened f fs c ns n inside o (opened.Critical lock) keeps rest chain away =
      (tt, inside c ns rest n chain away)
  below_opened f fs c ns n inside o opened.Taskgroup keeps rest chain away =
      (tt, inside c ns rest n chain away)

  below : (fs : List Frame) → Under fs
  below [] c ns o n chain away = tt
  below (f ∷ fs) c ns (o, body, bodies) n chain away =
      below_opened f fs c ns n (below fs) o f.opened body bodies chain away

-- of the current task
pub below_current : (p : Program) (s : State) (i : ℕ) (c : Context) (fs : List Frame) (ks : List Tid)
    → (s.threads i).current ≡ Some c.task → IsChain s i (s.threads i).current ks → KeepsBodies p s i c fs
    → AreBelow c.task fs
below_current p s i c fs [] is chain o = absurd (none_some chain is)
below_current p s i c fs (n ∷ ns) is (u, top, apart, live, thread, begun, chain) o =
    let same : n ≡ c.task = some_same top is in
    below p s i c.task fs c ns o n (u, sym is ∙ top, apart, live, thread, begun, chain)
    (subst (λ (x : Tid). IsApart x ns) same apart)

-- ---- an event on the own task

-- a task and the same task with another list, enter frame, variables or tool word
pub record IsAlike (t v : Task) : Type 0 where
  pub implicit : v.implicit ≡ t.implicit
  pub region : v.region ≡ t.region
  pub thread : v.thread ≡ t.thread
  pub number : v.number ≡ t.number
  pub scheduling : v.scheduling ≡ t.scheduling
  pub exit : v.exit ≡ t.exit
  pub final : v.is_final ≡ t.is_final
  pub progress : v.progress ≡ t.progress
  pub groups : v.open_groups ≡ t.open_groups

-- a state in which one task changed so
pub record ChangesTask (s u : State) (i : ℕ) (k : Tid) : Type 0 where
  pub environment : u.environment ≡ s.environment
  pub current : (u.threads i).current ≡ (s.threads i).current
  pub own : (t : Task) → task_of s k ≡ Some t → (v : Task) × (task_of u k ≡ Some v) × IsAlike t v
  pub others : (n : Tid) → (n.0 ≡ k.0 → ⊥) → task_of u n ≡ task_of s n
  pub regions : (n : Rid) (r : Region) → region_of s n ≡ Some r
      → (q : Region) × (region_of u n ≡ Some q) × (q.team ≡ r.team) × (q.levels ≡ r.levels) × (q.arrivals ≡ r.arrivals)

module _ (p : Program) (s u : State) (i : ℕ) (k : Tid) (changes : ChangesTask s u i k) where
  alike : (t : Task) → IsAlike t t
  alike t = record { implicit = refl; region = refl; thread = refl; number = refl; scheduling = refl; exit = refl; final = refl; progress = refl; groups = refl }

  -- any task goes on as one that is alike
  pub goes_on : (n : Tid) (t : Task) → task_of s n ≡ Some t
      → (v : Task) × (task_of u n ≡ Some v) × IsAlike t v
  goes_on n t live = go (same_or_not n.0 k.0)
    where
      go : (n.0 ≡ k.0) ⊎ (n.0 ≡ k.0 → ⊥) → (v : Task) × (task_of u n ≡ Some v) × IsAlike t v
      go (inl same) =
          let (v, now, is) = changes.own t (subst (λ (d : Id). named s.tasks d ≡ Some t) same live) in
          (v, subst (λ (d : Id). named u.tasks d ≡ Some v) (sym same) now, is)
      go (inr ne) = (t, changes.others n ne ∙ live, alike t)

  pub context_kept : (c : Context) → KeepsContext s i c → KeepsContext u i c
  context_kept c o =
      let (v, now, is) = goes_on c.task o.task o.live in
      let (q, found, team, levels, arrivals) = changes.regions c.region o.region o.found in
      record {
        task = v;
        live = now;
        begun = is.progress ∙ o.begun;
        thread = is.thread ∙ o.thread;
        implicit = is.implicit ∙ o.implicit;
        region_is = is.region ∙ o.region_is;
        number = is.number ∙ o.number;
        final = is.final ∙ o.final;
        exit = is.exit ∙ o.exit;
        region = q;
        found = found;
        size = ap length team ∙ o.size;
        row = ap (λ (t : List (Tid × ℕ)). slice_get t c.number) team ∙ o.row;
        arrivals = ap (λ (xs : List ℕ). slice_index xs c.number) arrivals ∙ o.arrivals;
        groups = is.groups ∙ o.groups;
      }

  pub encounter_kept : (c : Context) → KeepsContext s i c → encounter_of u c ≡ encounter_of s c
  encounter_kept c o =
      let (v, now, is) = goes_on c.task o.task o.live in
      let (q, found, team, levels, arrivals) = changes.regions c.region o.region o.found in
      let level : level_of u v.region ≡ level_of s o.task.region =
      ap (level_of u) (is.region ∙ o.region_is)
      ∙ ap (λ (x : Option Region). option_map_or (λ r. r.levels) x 0) found
      ∙ levels
      ∙ sym
      (ap (level_of s) o.region_is ∙ ap (λ (x : Option Region). option_map_or (λ r. r.levels) x 0) o.found) in
      ap (encounter_by u) now
      ∙ ap
      (λ (b : Bool). record { debug = b; number = v.number; level = level_of u v.region; is_final = v.is_final })
      (ap (λ (e : Env). e.debug) changes.environment)
      ∙ ap
      (λ n. record { debug = s.environment.debug; number = n; level = level_of u v.region; is_final = v.is_final }) is.number
      ∙ ap
      (λ l. record { debug = s.environment.debug; number = o.task.number; level = l; is_final = v.is_final }) level
      ∙ ap
      (λ (b : Bool). record { debug = s.environment.debug; number = o.task.number; level = level_of s o.task.region; is_final = b }) is.final
      ∙ sym (ap (encounter_by s) o.live)

  scheduled_kept : (saved c : Context) → IsScheduledFrom s saved c → IsScheduledFrom u saved c
  scheduled_kept saved c x =
      let (v, now, is) = goes_on c.task x.task x.live in record { task = v; live = now; scheduling = is.scheduling ∙ x.scheduling }

  suspended_kept : (c : Context) (list new : List Item) → (c.task ≡ k → ⊥) → new ≡ list → IsSuspended s c list
      → IsSuspended u c new
  suspended_kept c list new apart same x = record {
    task = x.task;
    live = changes.others c.task (λ (e : c.task.0 ≡ k.0). apart (ap (λ (d : Id). record { 0 = d }) e)) ∙ x.live;
    list_is = x.list_is ∙ sym same;
  }

  body_kept : (c : Context) (o : Opened) (fs : List Frame) → IsBelow k o
      → KeepsContext s i (context_under c o) → KeepsBody p s c o fs → KeepsBody p u c o fs
  body_kept c opened.Main fs apart l keeps = keeps
  body_kept c (opened.Master saved) fs apart l (from, suspended) =
      (scheduled_kept saved c from, suspended_kept saved _ _ apart (ap (λ at. working at (leaving p at fs)) (encounter_kept saved l)) suspended)
  body_kept c (opened.Task w saved) fs apart l (from, suspended) =
      (scheduled_kept saved c from, suspended_kept saved _ _ apart (ap (λ at. resuming p at fs w) (encounter_kept saved l)) suspended)
  body_kept c opened.Worker fs apart l keeps = tt
  body_kept c opened.Call fs apart l keeps = tt
  body_kept c (opened.Repeat left) fs apart l keeps = tt
  body_kept c (opened.Critical lock) fs apart l keeps = tt
  body_kept c opened.Taskgroup fs apart l keeps = tt

  pub bodies_kept : (c : Context) (fs : List Frame) → AreBelow k fs → KeepsBodies p s i c fs
      → KeepsBodies p u i c fs
  bodies_kept c [] apart o = context_kept c o
  bodies_kept c (f ∷ fs) (here, apart) (o, body, rest) =
      (context_kept c o, body_kept c f.opened fs here (of_innermost p s i (context_under c f.opened) fs rest) body, bodies_kept (context_under c f.opened) fs apart rest)
