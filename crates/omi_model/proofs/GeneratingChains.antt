-- The chain of generating tasks of each task, in which the owner of its group stands.
use Rattle.std.proofs.Common.{◌≡◌, ◌≤◌, ◌⊎◌, inl, inr, ℕ, zero, suc, Bool, false, List, [], ◌∷◌, Option, Some, refl, sym, ap, ◌∙◌, subst, arith}
use Rattle.std.specs.List.{Contains}
use Rattle.omi_script.specs.declared.program.Program.{Program}
use Rattle.omi_model.specs.declared.event.Event.{Event}
use Rattle.omi_model.specs.declared.freeable.Freeable.{Freeable}
use Rattle.omi_model.specs.declared.group.Group.{Group}
use Rattle.omi_model.specs.declared.id.Rid.{Rid}
use Rattle.omi_model.specs.declared.id.Tid.{Tid}
use Rattle.omi_model.specs.declared.item.Item.{Item}
use Rattle.omi_model.specs.declared.progress.Progress.{Progress}
use Rattle.omi_model.specs.declared.progress.Progress.TheVariants.{Begun, Deferred, Finished, NotBegun}
use Rattle.omi_model.specs.declared.task.Task.{Task}
use Rattle.omi_model.specs.Changes.{IsCurrent}
use Rattle.omi_model.specs.Groups.{group_within}
use Rattle.omi_model.specs.LawLineage.{IsLineage}
use Rattle.omi_model.specs.LawStays.{IsNeeded, Stays, stage_of}
use Rattle.omi_model.specs.Opening.{opening}
use Rattle.omi_model.specs.Reached.{Reached, Step}
use Rattle.omi_model.specs.State.{State, task_of}
use Rattle.omi_model.specs.Visible.{HasStarted}
use Rattle.omi_model.proofs.ChainsKept.{current_begun}
use Rattle.omi_model.proofs.EachObject.{EachTask, IsTaskLaw, law_of_lasting, task_step}
use Rattle.omi_model.proofs.Innermost.{innermost_cases}
use Rattle.omi_model.proofs.OpeningObjects.{each_first_task}
use Rattle.omi_model.proofs.ReachedStates.{over_reached}
use Rattle.omi_model.proofs.Slots.{none_some}
use Rattle.omi_model.proofs.StaysKept.{needed_begun, needed_generating, stays_step}
use Rattle.omi_model.proofs.Steps.{IsRelisted, relisted_to}

-- ---- chains of generating tasks

started_later : (a b : Progress) → stage_of a ≤ stage_of b → HasStarted a → HasStarted b
started_later Begun Deferred less h = absurd (omega (arith, less))
started_later Begun NotBegun less h = absurd (omega (arith, less))
started_later Begun Begun less h = tt
started_later Begun Finished less h = tt
started_later Finished Deferred less h = absurd (omega (arith, less))
started_later Finished NotBegun less h = absurd (omega (arith, less))
started_later Finished Begun less h = tt
started_later Finished Finished less h = tt
started_later Deferred b less h = absurd h
started_later NotBegun b less h = absurd h

lineage_later : (s u : State) → Stays s u
    → (implicit : Bool) (region : Rid) (generating : Option Tid) (gs : List Tid)
    → ((n : Tid) (v : Task) → generating ≡ Some n → IsNeeded s n v)
    → IsLineage s implicit region generating gs → IsLineage u implicit region generating gs
lineage_later s u stay implicit region generating [] need h = h
lineage_later s u stay implicit region generating (g ∷ gs) need (explicit, t, is, live, here, started, rest) =
    let (v, found, same) = stay.tasks g t live (need g t is) in
    let on : IsLineage u t.implicit t.region t.generating gs =
    lineage_later s u stay t.implicit t.region t.generating gs (needed_generating s g t live) rest in
    let a : IsLineage u v.implicit t.region t.generating gs =
    subst (λ b. IsLineage u b t.region t.generating gs) (sym same.implicit) on in
    let b : IsLineage u v.implicit v.region t.generating gs =
    subst (λ n. IsLineage u v.implicit n t.generating gs) (sym same.region) a in
    let c : IsLineage u v.implicit v.region v.generating gs =
    subst (λ o. IsLineage u v.implicit v.region o gs) (sym same.generating) b in
    (explicit, v, is, found, same.region ∙ here, started_later t.progress v.progress same.stage started, c)

-- a task of this chain of generating tasks generated a live task
pub generated_on : (s : State) (k : Tid) (t : Task) → task_of s k ≡ Some t → (gs : List Tid)
    → IsLineage s t.implicit t.region t.generating gs → (n : Tid) → Contains gs n
    → (m : Tid) × (w : Task) × (task_of s m ≡ Some w) × (w.generating ≡ Some n)
generated_on s k t live [] line n (j, below, at) = absurd (omega (arith, below))
generated_on s k t live (g ∷ gs) (explicit, u, met, found, here, started, rest) n (zero, below, at) =
    (k, t, live, met ∙ ap (λ (x : Tid). Some x) at)
generated_on s k t live (g ∷ gs) (explicit, u, met, found, here, started, rest) n (suc j, below, at) =
    generated_on s g u found gs rest n (j, omega (arith, below), at)

-- and it is live, has begun and is of the same region
pub on_lineage : (s : State) (implicit : Bool) (region : Rid) (generating : Option Tid) (gs : List Tid)
    → IsLineage s implicit region generating gs → (n : Tid) → Contains gs n
    → (w : Task) × (task_of s n ≡ Some w) × (w.region ≡ region) × HasStarted w.progress
on_lineage s implicit region generating [] line n (j, below, at) = absurd (omega (arith, below))
on_lineage s implicit region generating (g ∷ gs) (explicit, u, met, found, here, started, rest) n (zero, below, at) =
    (u, ap (task_of s) (sym at) ∙ found, here, started)
on_lineage s implicit region generating (g ∷ gs) (explicit, u, met, found, here, started, rest) n (suc j, below, at) =
    let (w, live, same, begun) = on_lineage s u.implicit u.region u.generating gs rest n (j, omega (arith, below), at) in
    (w, live, same ∙ here, begun)

-- only an explicit task has a chain of generating tasks in its region
pub explicit_on : (s : State) (implicit : Bool) (region : Rid) (generating : Option Tid) (gs : List Tid)
    → IsLineage s implicit region generating gs → (n : Tid) → Contains gs n → implicit ≡ false
explicit_on s implicit region generating [] line n (j, below, at) = absurd (omega (arith, below))
explicit_on s implicit region generating (g ∷ gs) (explicit, u, met, found, here, started, rest) n has = explicit

abbrev pub OwnersIn : Option Group → List Tid → Type 0
OwnersIn group gs = (g : Group) → group ≡ Some g → Contains gs g.owner

abbrev pub HasLine : State → Tid → Task → Type 0
HasLine s k t = (gs : List Tid) × IsLineage s t.implicit t.region t.generating gs × OwnersIn t.group gs

-- the owner of the group of a new task is the current task or stands above it
owners_within : (k : Tid) (t : Task) (gs : List Tid) → OwnersIn t.group gs → OwnersIn (group_within k t) (k ∷ gs)
owners_within k t gs owners g is = go (innermost_cases t.group k t.open_groups g is)
  where
    go : (t.group ≡ Some g) ⊎ ((g.owner ≡ k) × (suc g.index ≡ t.open_groups)) → Contains (k ∷ gs) g.owner
    go (inl own) = let (j, below, at) = owners g own in (suc j, omega (arith, below), at)
    go (inr (same, more)) = (0, omega arith, sym same)

module _ (p : Program) (events : List (ℕ × Event)) (s : State) (reached : Reached p events s) (i : ℕ)
    (e : Event) (next : State) (step : Step p s i e next) where
  stay : Stays s next
  stay = stays_step p s i e next step

  -- the current task, before and after
  pub was : (middle : State) → IsRelisted s middle → (k : Tid) (t : Task) → IsCurrent middle i k t
      → (v : Task) × (xs : Option Freeable × List Item) × IsCurrent s i k v × (t ≡ relisted_to xs v)
  was middle before k t is =
      let (v, xs, live, same) = before.tasks k t is.live in
      let current : IsCurrent s i k v = record { name = sym (before.currents i) ∙ is.name; live = live } in
      (v, xs, current, same)

  -- under the current task
  under : EachTask (HasLine s) s → (middle : State) → IsRelisted s middle → (k : Tid) (t : Task)
      → IsCurrent middle i k t
      → (gs : List Tid) × IsLineage next false t.region (Some k) gs × OwnersIn (group_within k t) gs
  under all middle before k t is =
      let (v, xs, cur, same) = was middle before k t is in
      let (gs, chain, owners) = all k v cur.live in
      let begun = (current_begun p events s reached i k v cur.name cur.live).0 in
      let (u, found, kept) = stay.tasks k v cur.live (needed_begun s k v begun) in
      let line : IsLineage next v.implicit v.region v.generating gs =
      lineage_later s next stay v.implicit v.region v.generating gs (needed_generating s k v cur.live) chain in
      let a : IsLineage next u.implicit v.region v.generating gs =
      subst (λ b. IsLineage next b v.region v.generating gs) (sym kept.implicit) line in
      let b : IsLineage next u.implicit u.region v.generating gs =
      subst (λ n. IsLineage next u.implicit n v.generating gs) (sym kept.region) a in
      let c : IsLineage next u.implicit u.region u.generating gs =
      subst (λ o. IsLineage next u.implicit u.region o gs) (sym kept.generating) b in (
        k ∷ gs,
        (refl, u, refl, found, kept.region ∙ ap (λ (x : Task). x.region) (sym same), started_later v.progress u.progress kept.stage (subst HasStarted (sym begun) tt), c),
        owners_within k t gs (subst (λ (o : Option Group). OwnersIn o gs) (ap (λ (x : Task). x.group) (sym same)) owners),
      )

  line_step : EachTask (HasLine s) s → EachTask (HasLine next) next
  line_step all =
      task_step p (HasLine next) s i e next step (λ k t y ys is taken q. q) law
      (λ k t live. let (gs, chain, owners) = all k t live in (gs, lineage_later s next stay t.implicit t.region t.generating gs (needed_generating s k t live) chain, owners))
    where
      law : (middle : State) (y : Item) → IsRelisted s middle → Stays middle next
          → EachTask (HasLine next) middle → IsTaskLaw p middle i e y next (HasLine next)
      law middle y before later of_tasks = law_of_lasting p middle i e y next (HasLine next) (record {
        starts = λ k u j t x is live ex de may of by q. q;
        members = λ region team f k t r is found may new of by j n at. ([], refl, λ g none. absurd (none_some refl none));
        deferred = λ task f final seen k t is of fresh. under all middle before k t is;
        made = λ task f final k t is of fresh by. under all middle before k t is;
      })

pub have_line : (p : Program) (events : List (ℕ × Event)) (s : State) → Reached p events s
    → EachTask (HasLine s) s
have_line p events s reached =
    over_reached p (λ u. EachTask (HasLine u) u)
    (λ first u first_reached i e next step h. line_step p first u first_reached i e next step h) []
    (opening p) refl events s reached
    (each_first_task p (HasLine (opening p)) ([], refl, λ g none. absurd (none_some refl none)))
