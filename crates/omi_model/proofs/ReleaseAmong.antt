-- Releases among events: the released barriers of a region rise by nothing else.
use Rattle.std.proofs.Common.{◌≡◌, ◌+◌, ◌<◌, ◌≤◌, ℕ, ◌⊎◌, inl, inr, true, List, [], ◌∷◌, length, slice_index, Some, refl, sym, ap, ◌∙◌, subst, arith}
use Rattle.std.proofs.lemmas.List.{get_or-set_same}
use Rattle.std.proofs.lemmas.Option.{slice_get_within}
use Rattle.omi_script.specs.declared.program.Program.{Program}
use Rattle.omi_model.specs.declared.event.Event.{Event}
use Rattle.omi_model.specs.declared.event.Event.TheVariants as event
use Rattle.omi_model.specs.declared.id.Id.{Id}
use Rattle.omi_model.specs.declared.id.Rid.{Rid}
use Rattle.omi_model.specs.declared.id.Tid.{Tid}
use Rattle.omi_model.specs.declared.item.Item.{Item}
use Rattle.omi_model.specs.declared.progress.Progress.TheVariants.{Deferred}
use Rattle.omi_model.specs.declared.region.Region.{Region}
use Rattle.omi_model.specs.declared.task.Task.{Task}
use Rattle.omi_model.specs.Barriers.{HasNoExplicit}
use Rattle.omi_model.specs.Changes.{IsCurrent}
use Rattle.omi_model.specs.LawBarriers.{IsReleaseAmong}
use Rattle.omi_model.specs.LawStays.{StaysOver}
use Rattle.omi_model.specs.Reached.{Leads, Reached, Step}
use Rattle.omi_model.specs.Rules.{Legal, Rule}
use Rattle.omi_model.specs.State.{State, region_of, task_of}
use Rattle.omi_model.proofs.BarrierLaw.{near, placed}
use Rattle.omi_model.proofs.BarrierSteps.{Changes, region_changed}
use Rattle.omi_model.proofs.NamesKept.{made_later, made_live, names_kept}
use Rattle.omi_model.proofs.OpenNames.{open_names}
use Rattle.omi_model.proofs.Slots.{same_or_not, some_same}
use Rattle.omi_model.proofs.StaysKept.{needed_region, stays_step}
use Rattle.omi_model.proofs.StaysLater.{leads_kept, stays_leads}
use Rattle.omi_model.proofs.Steps.{move_of}

pub arrivals_near : (p : Program) (events : List (ℕ × Event)) (s : State) → Reached p events s
    → (k : Tid) (t : Task) (r : Region) → task_of s k ≡ Some t → t.implicit ≡ true
    → region_of s t.region ≡ Some r
    → (r.released ≤ slice_index r.arrivals t.number) × (slice_index r.arrivals t.number ≤ r.released + 1)
arrivals_near p events s reached k t r live im found =
    let (q, found_q, m) = ((placed p events s reached).places k t live).0 im in
    let one : q ≡ r = some_same found_q found in
    subst
    (λ (x : Region). (x.released ≤ slice_index x.arrivals t.number) × (slice_index x.arrivals t.number ≤ x.released + 1)) one
    (near m.phase t.number (slice_index q.arrivals t.number) q.released m.stands)

-- an implicit task is not deferred
pub undeferred : (p : Program) (events : List (ℕ × Event)) (s : State) → Reached p events s
    → (k : Tid) (t : Task) → task_of s k ≡ Some t → t.implicit ≡ true → t.progress ≡ Deferred → ⊥
undeferred p events s reached k t live im is =
    let (r, found, at) = (placed p events s reached).members.tasks k t live im in
    let m = ((open_names p events s reached).regions t.region r found).members t.number (k, t.thread) at t live in
    let one : m.task ≡ t = some_same m.live live in
    m.undeferred (ap (λ (x : Task). x.progress) one ∙ is)

module _ (p : Program) (n : Rid) where
  -- a step that raises the released barriers is a release
  raises : (s : State) (i : ℕ) (e : Event) (next : State) → Step p s i e next → (y : Item) → Rule s i e y
      → (r q : Region) → Changes s i e n r q → region_of s n ≡ Some r → (xs : List (ℕ × Event))
      → (q.released ≡ r.released) ⊎ IsReleaseAmong p s ((i, e) ∷ xs) n
  raises s i event.Arrive next step y (k, t, r0, is, found, may) r q change known xs = inl (change k t is).2
  raises s i event.Release next step y (k, t, r0, is, found, may) r q change known xs =
      go (same_or_not t.region.0 n.0)
    where
      go : (t.region.0 ≡ n.0) ⊎ (t.region.0 ≡ n.0 → ⊥)
          → (q.released ≡ r.released) ⊎ IsReleaseAmong p s ((i, event.Release) ∷ xs) n
      go (inl same) =
          let region : t.region ≡ n = ap (λ (a : Id). record { 0 = a }) same in
          inr (record {
            before = [];
            thread = i;
            after = xs;
            split = refl;
            middle = s;
            leads = refl;
            legal = step.legal;
            full = (k, t, r0, is, found, (region, may.first, may.arrived, subst (λ m. HasNoExplicit s m) region may.alone));
          })
      go (inr other) = inl ((change k t is).1 (λ h. other (ap (λ (a : Rid). a.0) h)))
  raises s i e next step y rule r q change known xs = inl change.1

  later_release : (s next : State) (i : ℕ) (e : Event) (xs : List (ℕ × Event)) → Step p s i e next
      → IsReleaseAmong p next xs n → IsReleaseAmong p s ((i, e) ∷ xs) n
  later_release s next i e xs step is = record {
    before = (i, e) ∷ is.before;
    thread = is.thread;
    after = is.after;
    split = ap (λ ys. (i, e) ∷ ys) is.split;
    middle = is.middle;
    leads = (next, step, is.leads);
    legal = is.legal;
    full = is.full;
  }

  pub release_between : (s : State) (events : List (ℕ × Event)) (u : State) (r q : Region)
      → Leads p s events u → region_of s n ≡ Some r → region_of u n ≡ Some q → r.released < q.released
      → IsReleaseAmong p s events n
  release_between s [] u r q same found found_q more =
      let one : q ≡ r = some_same found_q (ap (λ x. region_of x n) same ∙ found) in
      let none : q.released ≡ r.released = ap (λ (x : Region). x.released) one in absurd (omega arith)
  release_between s (x ∷ xs) u r q (mid, step, leads) found found_q more =
      let m = move_of p s x.0 x.1 mid step in
      let kept = (names_kept p s x.0 x.1 mid step).0 in
      let made = made_later s.regions mid.regions kept n.0 (made_live s.regions n.0 r found) in
      let (w, found_w) = (leads_kept p mid xs u leads).0.back n.0 q made found_q in
      let change = region_changed p s x.0 x.1 mid m n r w found found_w in
      go w (raises s x.0 x.1 mid step m.item m.rule r w change found xs)
      (λ less. release_between mid xs u w q leads found_w found_q less)
    where
      go : (w : Region) → (w.released ≡ r.released) ⊎ IsReleaseAmong p s (x ∷ xs) n
          → (w.released < q.released → IsReleaseAmong p mid xs n) → IsReleaseAmong p s (x ∷ xs) n
      go w (inl same) later = later_release s mid x.0 x.1 xs step (later (omega arith))
      go w (inr among) later = among

pub pass_follows : (p : Program) (first more : List (ℕ × Event)) (s next u : State) (i : ℕ) (k : Tid) (t v : Task)
    → Reached p first s → IsCurrent s i k t → Step p s i event.Arrive next → Leads p next more u
    → IsCurrent u i k v → Legal p u i event.Pass → IsReleaseAmong p next more t.region
pass_follows p first more s next u i k t v reached is step leads is_later legal =
    let (k0, t0, r0, is0, found0, im0) = step.legal.rule in
    let one : t0 ≡ t = some_same is0.live (ap (task_of s) (some_same is0.name is.name) ∙ is.live) in
    let im : t.implicit ≡ true = ap (λ (x : Task). x.implicit) (sym one) ∙ im0 in
    let found : region_of s t.region ≡ Some r0 = ap (λ (x : Task). region_of s x.region) (sym one) ∙ found0 in
    let above = (arrivals_near p first s reached k t r0 is.live im found).0 in
    let (q, found_q, before) =
    (stays_step p s i event.Arrive next step).regions t.region r0 found (needed_region s k t is.live r0) in
    let change =
    region_changed p s i event.Arrive next (move_of p s i event.Arrive next step) t.region r0 q found found_q in
    let touched = change k t is in
    let arrived : slice_index q.arrivals t.number ≡ slice_index r0.arrivals t.number + 1 =
    ap (λ xs. slice_index xs t.number) (touched.0 refl)
    ∙ get_or-set_same r0.arrivals t.number (slice_index r0.arrivals t.number + 1) 0 (inside r0 im found) in
    let on : StaysOver s u = stays_leads p s ((i, event.Arrive) ∷ more) u (next, step, leads) in
    let same = on.alike k t v is.live is_later.live in
    let region : v.region ≡ t.region = same.region in
    let number : v.number ≡ t.number = same.number (undeferred p first s reached k t is.live im) in
    let (k1, v1, w, is1, found1, may) = legal.rule in
    let one_passing : v1 ≡ v =
    some_same is1.live (ap (task_of u) (some_same is1.name is_later.name) ∙ is_later.live) in
    let found_w : region_of u t.region ≡ Some w =
    ap (region_of u) (sym (ap (λ (x : Task). x.region) one_passing ∙ region)) ∙ found1 in
    let same_w = (stays_leads p next more u leads).alike_regions t.region q w found_q found_w in
    let may_here : slice_index w.arrivals t.number ≤ w.released =
    subst (λ j. slice_index w.arrivals j ≤ w.released) (ap (λ (x : Task). x.number) one_passing ∙ number) may in
    let kept : slice_index q.arrivals t.number ≤ slice_index w.arrivals t.number = same_w.arrivals t.number in
    let released : q.released ≡ r0.released = touched.2 in
    release_between p t.region next more u q w leads found_q found_w (omega arith)
  where
    inside : (r : Region) → t.implicit ≡ true → region_of s t.region ≡ Some r → t.number < length r.arrivals
    inside r im found =
        let known = (placed p first s reached).members in
        let (q, found_q, at) = known.tasks k t is.live im in
        let same : q ≡ r = some_same found_q found in
        let sizes = known.regions t.region r found in
        let within : t.number < length q.team = slice_get_within q.team t.number (k, t.thread) at in
        omega (arith, subst (λ (x : Region). t.number < length x.team) same within, sizes.arrivals)
