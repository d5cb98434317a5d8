-- The law of barriers: each member stands in the barriers of its region as its to-do list says.
use Rattle.std.proofs.Common.{◌≡◌, ◌≢◌, ◌==◌, ℕ, ◌+◌, ◌-◌, ◌<◌, ◌≤◌, ◌⊎◌, inl, inr, Bool, true, false, List, [], ◌∷◌, length, replicate, slice_get, slice_index, slice_set, Option, Some, refl, sym, ap, ◌∙◌, subst, arith}
use Rattle.std.specs.Option.{option_and_then}
use Rattle.std.specs.List.{All}
use Rattle.std.proofs.lemmas.List.{get_or-replicate, get_or-set_other, get_or-set_same}
use Rattle.std.proofs.lemmas.Option.{slice_get_within}
use Rattle.omi_script.specs.declared.program.Program.{Program}
use Rattle.omi_model.specs.declared.encounter.Encounter.{Encounter}
use Rattle.omi_model.specs.declared.event.Event.{Event}
use Rattle.omi_model.specs.declared.event.Event.TheVariants as event
use Rattle.omi_model.specs.declared.id.Id.{Id}
use Rattle.omi_model.specs.declared.id.Rid.{Rid}
use Rattle.omi_model.specs.declared.id.Tid.{Tid}
use Rattle.omi_model.specs.declared.item.Item.{Item}
use Rattle.omi_model.specs.declared.item.Item.TheVariants as item
use Rattle.omi_model.specs.declared.region.Region.{Region}
use Rattle.omi_model.specs.declared.task.Task.{Task}
use Rattle.omi_model.specs.Barriers.{HaveArrived}
use Rattle.omi_model.specs.Changes.{IsCurrent, encounter, encounter_by, in_front}
use Rattle.omi_model.specs.LawMembers.{AreMembersKnown}
use Rattle.omi_model.specs.Lists.{fits, stays, take_item}
use Rattle.omi_model.specs.Opening.{opening, opening_region}
use Rattle.omi_model.specs.Reached.{Reached, Step}
use Rattle.omi_model.specs.Rows.{member_items}
use Rattle.omi_model.specs.Rules.{Rule}
use Rattle.omi_model.specs.State.{State, region_of, task_of}
use Rattle.omi_model.proofs.BarrierCounts.{barriers_of, counted}
use Rattle.omi_model.proofs.BarrierOrder.{IsCounted, IsReady, Outside, Phase, Released, Waiting, Wrong, and_left, any_number, arrive_ready, fair, fair_item, main_ready, member_ready, order, pass_ready, release_ready, shown_ready, stays_ready, take_ready, task_ready, wrong}
use Rattle.omi_model.proofs.BarrierSteps.{Changes, region_changed}
use Rattle.omi_model.proofs.EachObject.{EachTask, IsTaskLaw, ahead_of_current, law_of_lasting, over_events, start_list, task_step_from}
use Rattle.omi_model.proofs.ListLaws.{take_fits, by_taken}
use Rattle.omi_model.proofs.MembersKnown.{members_known, members_step}
use Rattle.omi_model.proofs.OpeningObjects.{each_first_task}
use Rattle.omi_model.proofs.Slots.{false_true, same_or_not, some_same}
use Rattle.omi_model.proofs.StaysKept.{needed_region, stays_step}
use Rattle.omi_model.proofs.Steps.{IsMove, IsRelisted, is_relisted, move_of, moved_on, relisted}

-- a member's arrivals, where so many barriers are released
abbrev pub Stands : Phase → ℕ → ℕ → ℕ → Type 0
Stands Outside n a r = a ≡ r
Stands Waiting n a r = (r ≤ a) × (a ≤ r + 1) × (n ≡ 0 → a ≡ r + 1)
Stands Released n a r = a ≡ r
Stands Wrong n a r = ⊥

-- member n, by the arrivals, the released barriers and the function of its region
pub record Member (b : ℕ → ℕ) (arrivals : List ℕ) (released function n : ℕ) (list : List Item) : Type 0 where
  pub phase : Phase
  pub ahead : ℕ
  pub ready : IsReady b n phase ahead list
  pub stands : Stands phase n (slice_index arrivals n) released
  pub barriers : slice_index arrivals n + ahead ≡ b function + 1

abbrev pub IsMemberOf : (ℕ → ℕ) → Region → Task → Type 0
IsMemberOf b r t = Member b r.arrivals r.released r.function t.number t.list

-- an implicit task stands in the barriers of its region; an explicit one has none ahead
abbrev pub HasPlace : (ℕ → ℕ) → State → Tid → Task → Type 0
HasPlace b s k t =
    (t.implicit ≡ true → (r : Region) × (region_of s t.region ≡ Some r) × IsMemberOf b r t)
    × (t.implicit ≡ false → IsReady b t.number Outside 0 t.list)

-- the arrivals are the released barriers or one more
pub near : (ph : Phase) (n a r : ℕ) → Stands ph n a r → (r ≤ a) × (a ≤ r + 1)
near Outside n a r h = (omega arith, omega arith)
near Waiting n a r h = (h.0, h.1)
near Released n a r h = (omega arith, omega arith)
near Wrong n a r h = absurd h

-- the barrier at which another member waits is released
raised : (ph : Phase) (n a r : ℕ) → Stands ph n a r → a ≡ r + 1 → n ≢ 0 → Stands ph n a (r + 1)
raised Outside n a r h e other = absurd (let same : a ≡ r = h in omega arith)
raised Waiting n a r h e other = (omega arith, omega arith, λ z. absurd (other z))
raised Released n a r h e other = absurd (let same : a ≡ r = h in omega arith)
raised Wrong n a r h e other = h

module _ (b : ℕ → ℕ) where
  -- the same arrivals of this member
  same_member : (xs ys : List ℕ) (r q f g n : ℕ) (list : List Item) → slice_index ys n ≡ slice_index xs n
      → q ≡ r → g ≡ f → Member b xs r f n list → Member b ys q g n list
  same_member xs ys r q f g n list a e h m = record {
    phase = m.phase;
    ahead = m.ahead;
    ready = m.ready;
    stands = subst (λ x. Stands m.phase n x q) (sym a) (subst (Stands m.phase n (slice_index xs n)) (sym e) m.stands);
    barriers = ap (λ x. x + m.ahead) a ∙ (m.barriers ∙ ap (λ x. b x + 1) (sym h));
  }

  -- another list, as ready
  other_list : (xs : List ℕ) (r f n : ℕ) (list zs : List Item) → (m : Member b xs r f n list)
      → IsReady b n m.phase m.ahead zs → Member b xs r f n zs
  other_list xs r f n list zs m ready = record { phase = m.phase; ahead = m.ahead; ready = ready; stands = m.stands; barriers = m.barriers }

all_at : (m n : ℕ) (xs : List ℕ) → All (λ x. x ≡ m) xs → n < length xs → slice_index xs n ≡ m
all_at m n xs all h = all n 0 h

start_ready : (b : ℕ → ℕ) (n : ℕ) (x : Item) (at : Encounter) (zs : List Item) → IsReady b n Outside 0 zs
    → IsReady b n Outside 0 (start_list x at zs)
start_ready b n (item.Tasks state) at zs r = shown_ready b at n Outside 0 _ 0 zs r
start_ready b n x at zs r = r

pub number_met : (s : State) (i : ℕ) (k : Tid) (t : Task) → IsCurrent s i k t
    → (encounter s i).number ≡ t.number
number_met s i k t is =
    ap (λ (o : Option Task). (encounter_by s o).number) (ap (option_and_then (task_of s)) is.name ∙ is.live)

module _ (p : Program) (b : ℕ → ℕ) (ok : IsCounted p b) (s : State) (i : ℕ) (e : Event) (next : State)
    (step : Step p s i e next) (known : AreMembersKnown s) (all : EachTask (HasPlace b s) s) where
  the_move : IsMove p s i e next
  the_move = move_of p s i e next step

  -- what the event takes off the current task's list
  taken_ready : (k : Tid) (t : Task) → IsCurrent s i k t
      → take_item p (encounter s i) e (in_front t.frees t.list) ≡ Some (the_move.item, the_move.behind) → (ph : Phase) (w : ℕ)
      → IsReady b t.number ph w t.list → IsReady b t.number ph w (the_move.item ∷ the_move.behind)
  taken_ready k t is taken ph w r =
      let same = number_met s i k t is in
      subst (λ n. IsReady b n ph w (the_move.item ∷ the_move.behind)) same
      (by_taken p (encounter s i) e t.frees t.list the_move.item the_move.behind
      (λ f y ys. IsReady b (encounter s i).number ph w (y ∷ ys)) taken
      (λ from. take_ready p b ok (encounter s i) e ph w t.list the_move.item the_move.behind from here)
      (λ task n. record {
        in_order = here.in_order;
        barriers = omega (arith, here.barriers);
        is_fair = here.is_fair;
      }))
    where
      here : IsReady b (encounter s i).number ph w t.list
      here = subst (λ n. IsReady b n ph w t.list) (sym (number_met s i k t is)) r

  -- two members of one region have two numbers
  apart : (k : Tid) (t : Task) (k0 : Tid) (t0 : Task) → task_of s k ≡ Some t → task_of s k0 ≡ Some t0
      → t.implicit ≡ true → t0.implicit ≡ true → t0.region ≡ t.region → (k ≡ k0 → ⊥) → t.number ≢ t0.number
  apart k t k0 t0 live live0 im im0 region ne number =
      let (r, found, at) = known.tasks k t live im in
      let (r0, found0, at0) = known.tasks k0 t0 live0 im0 in
      let one : r0 ≡ r = some_same found0 (ap (region_of s) region ∙ found) in
      ne
      (ap (λ (m : Tid × ℕ). m.0) (some_same at (ap (λ n. slice_get r.team n) number ∙ (ap (λ (x : Region). slice_get x.team t0.number) (sym one) ∙ at0))))

  inside : (k : Tid) (t : Task) (r : Region) → task_of s k ≡ Some t → t.implicit ≡ true
      → region_of s t.region ≡ Some r → t.number < length r.arrivals
  inside k t r live im found =
      let (q, found_q, at) = known.tasks k t live im in
      let one : q ≡ r = some_same found_q found in
      let sizes = known.regions t.region r found in
      let within : t.number < length q.team = slice_get_within q.team t.number (k, t.thread) at in
      omega (arith, subst (λ (x : Region). t.number < length x.team) one within, sizes.arrivals)

  -- ---- the members that the event is not by

  other_member : (e' : Event) (y : Item) → Rule s i e' y → (k : Tid) (t : Task) (r q : Region)
      → ((s.threads i).current ≡ Some k → ⊥) → task_of s k ≡ Some t → t.implicit ≡ true
      → region_of s t.region ≡ Some r → Changes s i e' t.region r q → q.function ≡ r.function
      → ((k0 : Tid) (t0 : Task) → e' ≡ event.Release → IsCurrent s i k0 t0 → t0.number ≡ 0 → t0.implicit ≡ true) → IsMemberOf b r t → IsMemberOf b q t
  other_member event.Arrive y (k0, t0, r0, is0, found0, im0) k t r q ne live im found change f member0 m =
      go (same_or_not t0.region.0 t.region.0)
    where
      touched : (t0.region ≡ t.region
          → q.arrivals ≡ slice_set r.arrivals t0.number (slice_index r.arrivals t0.number + 1))
          × ((t0.region ≡ t.region → ⊥) → q.arrivals ≡ r.arrivals) × (q.released ≡ r.released)
      touched = change k0 t0 is0

      go : (t0.region.0 ≡ t.region.0) ⊎ (t0.region.0 ≡ t.region.0 → ⊥) → IsMemberOf b q t
      go (inl same) =
          let region : t0.region ≡ t.region = ap (λ (a : Id). record { 0 = a }) same in
          let other =
          apart k t k0 t0 live is0.live im im0 region (λ g. ne (is0.name ∙ ap (λ (a : Tid). Some a) (sym g))) in
          same_member b r.arrivals q.arrivals r.released q.released r.function q.function t.number t.list
          (ap (λ xs. slice_index xs t.number) (touched.0 region) ∙ get_or-set_other r.arrivals t0.number t.number (slice_index r.arrivals t0.number + 1) 0 other) touched.2 f m
      go (inr apart_regions) =
          same_member b r.arrivals q.arrivals r.released q.released r.function q.function t.number t.list
          (ap (λ xs. slice_index xs t.number) (touched.1 (λ h. apart_regions (ap (λ (a : Rid). a.0) h)))) touched.2 f m
  other_member event.Release y (k0, t0, r0, is0, found0, may) k t r q ne live im found change f member0 m =
      go (same_or_not t0.region.0 t.region.0)
    where
      touched : (t0.region ≡ t.region → (t0.number ≡ 0) × HaveArrived r × (q.released ≡ r.released + 1)) × ((t0.region ≡ t.region → ⊥) → q.released ≡ r.released) × (q.arrivals ≡ r.arrivals)
      touched = change k0 t0 is0

      go : (t0.region.0 ≡ t.region.0) ⊎ (t0.region.0 ≡ t.region.0 → ⊥) → IsMemberOf b q t
      go (inl same) =
          let region : t0.region ≡ t.region = ap (λ (a : Id). record { 0 = a }) same in
          let (first, arrived, more) = touched.0 region in
          let other =
          apart k t k0 t0 live is0.live im (member0 k0 t0 refl is0 first) region
          (λ g. ne (is0.name ∙ ap (λ (a : Tid). Some a) (sym g))) in
          let here : slice_index r.arrivals t.number ≡ r.released + 1 =
          all_at (r.released + 1) t.number r.arrivals arrived (inside k t r live im found) in
          let up : Stands m.phase t.number (slice_index r.arrivals t.number) (r.released + 1) =
          raised m.phase t.number (slice_index r.arrivals t.number) r.released m.stands here
          (λ z. other (z ∙ sym first)) in
          same_member b r.arrivals q.arrivals
          (r.released + 1) q.released r.function q.function t.number t.list
          (ap (λ xs. slice_index xs t.number) touched.2) more f
          (record { phase = m.phase; ahead = m.ahead; ready = m.ready; stands = up; barriers = m.barriers })
      go (inr apart_regions) =
          same_member b r.arrivals q.arrivals r.released q.released r.function q.function t.number t.list
          (ap (λ xs. slice_index xs t.number) touched.2)
          (touched.1 (λ h. apart_regions (ap (λ (a : Rid). a.0) h))) f m
  other_member e' y rule k t r q ne live im found change f member0 m =
      same_member b r.arrivals q.arrivals r.released q.released r.function q.function t.number t.list
      (ap (λ xs. slice_index xs t.number) change.0) change.1 f m

  -- ---- the task that the event is by

  -- the current task is implicit where its item is a release
  abbrev Taken : Task → Event → Item → List Item → Type 0
  Taken t e' y ys = (ph : Phase) (w : ℕ) → IsReady b t.number ph w t.list → IsReady b t.number ph w (y ∷ ys)

  own_member : (e' : Event) (y : Item) (ys : List Item) → fits e' y ≡ true → Rule s i e' y
      → (k : Tid) (t : Task) (r q : Region) → IsCurrent s i k t → t.implicit ≡ true
      → region_of s t.region ≡ Some r → Changes s i e' t.region r q → q.function ≡ r.function
      → Taken t e' y ys → IsMemberOf b r t → Member b q.arrivals q.released q.function t.number (stays (encounter s i) e' y ys)
  own_member event.Arrive item.Arrive ys fit rule k t r q is im found change f taken m =
      let (outside, more, ready) =
      arrive_ready b t.number m.phase m.ahead ys (taken m.phase m.ahead m.ready) in
      let touched = change k t is in
      let stood : slice_index r.arrivals t.number ≡ r.released =
      subst (λ ph. Stands ph t.number (slice_index r.arrivals t.number) r.released) outside m.stands in
      let here : slice_index q.arrivals t.number ≡ slice_index r.arrivals t.number + 1 =
      ap (λ xs. slice_index xs t.number) (touched.0 refl)
      ∙ get_or-set_same r.arrivals t.number (slice_index r.arrivals t.number + 1) 0
      (inside k t r is.live im found) in
      let released : q.released ≡ r.released = touched.2 in
      let count = m.barriers in
      let function : b q.function ≡ b r.function = ap b f in
      record { phase = Waiting; ahead = m.ahead - 1; ready = ready; stands = (omega arith, omega arith, λ z. omega arith); barriers = omega arith }
  own_member event.Release item.Release ys fit (k0, t0, r0, is0, found0, may) k t r q is im found change f taken m =
      let touched = change k t is in
      let (first, arrived, more) = touched.0 refl in
      let (waited, ready) =
      release_ready b t.number m.phase m.ahead ys first (taken m.phase m.ahead m.ready) in
      let here : slice_index r.arrivals t.number ≡ r.released + 1 =
      all_at (r.released + 1) t.number r.arrivals arrived (inside k t r is.live im found) in
      let same : slice_index q.arrivals t.number ≡ slice_index r.arrivals t.number =
      ap (λ xs. slice_index xs t.number) touched.2 in
      let count = m.barriers in
      let function : b q.function ≡ b r.function = ap b f in
      record { phase = Released; ahead = m.ahead; ready = ready; stands = same ∙ (here ∙ sym more); barriers = omega arith }
  own_member event.Pass item.Pass ys fit (k0, t0, r0, is0, found0, may) k t r q is im found change f taken m =
      let (inside_barrier, ready) =
      pass_ready b t.number m.phase m.ahead ys (taken m.phase m.ahead m.ready) in
      let same : slice_index q.arrivals t.number ≡ slice_index r.arrivals t.number =
      ap (λ xs. slice_index xs t.number) change.0 in
      let one : t0 ≡ t = some_same is0.live (ap (task_of s) (some_same is0.name is.name) ∙ is.live) in
      let one_region : r0 ≡ r = some_same found0 (ap (λ (x : Task). region_of s x.region) one ∙ found) in
      let may_here : slice_index r.arrivals t.number ≤ r.released =
      subst (λ (x : Region). slice_index x.arrivals t.number ≤ x.released) one_region
      (subst (λ (x : Task). slice_index r0.arrivals x.number ≤ r0.released) one may) in
      let above = (near m.phase t.number (slice_index r.arrivals t.number) r.released m.stands).0 in
      let released : q.released ≡ r.released = change.1 in
      let count = m.barriers in
      let function : b q.function ≡ b r.function = ap b f in
      record { phase = Outside; ahead = m.ahead; ready = ready; stands = omega arith; barriers = omega arith }
  own_member event.Arrive y ys fit rule k t r q is im found change f taken m = absurd (false_true fit)
  own_member event.Release y ys fit rule k t r q is im found change f taken m = absurd (false_true fit)
  own_member event.Pass y ys fit rule k t r q is im found change f taken m = absurd (false_true fit)
  own_member e' y ys fit rule k t r q is im found change f taken m =
      same_member b r.arrivals q.arrivals r.released q.released r.function q.function t.number
      (stays (encounter s i) e' y ys) (ap (λ xs. slice_index xs t.number) change.0) change.1 f
      (other_list b r.arrivals r.released r.function t.number t.list (stays (encounter s i) e' y ys) m
      (stays_ready b (encounter s i) t.number m.phase m.ahead e' y ys fit refl (taken m.phase m.ahead m.ready)))

  own_explicit : (e' : Event) (y : Item) (ys : List Item) → fits e' y ≡ true → Rule s i e' y
      → (k : Tid) (t : Task) → IsCurrent s i k t → t.implicit ≡ false → Taken t e' y ys
      → IsReady b t.number Outside 0 t.list → IsReady b t.number Outside 0 (stays (encounter s i) e' y ys)
  own_explicit event.Arrive y ys fit (k0, t0, r0, is0, found0, im0) k t is ex taken r =
      let one : t0 ≡ t = some_same is0.live (ap (task_of s) (some_same is0.name is.name) ∙ is.live) in
      absurd (false_true (sym ex ∙ (ap (λ (x : Task). x.implicit) (sym one) ∙ im0)))
  own_explicit event.Release item.Release ys fit rule k t is ex taken r =
      absurd (wrong t.number ys (taken Outside 0 r).in_order)
  own_explicit event.Pass item.Pass ys fit rule k t is ex taken r =
      absurd (wrong t.number ys (taken Outside 0 r).in_order)
  own_explicit event.Release y ys fit rule k t is ex taken r = absurd (false_true fit)
  own_explicit event.Pass y ys fit rule k t is ex taken r = absurd (false_true fit)
  own_explicit e' y ys fit rule k t is ex taken r =
      stays_ready b (encounter s i) t.number Outside 0 e' y ys fit refl (taken Outside 0 r)

  -- a release is by an implicit task
  releases_implicit : (k0 : Tid) (t0 : Task) → e ≡ event.Release → IsCurrent s i k0 t0
      → take_item p (encounter s i) e (in_front t0.frees t0.list) ≡ Some (the_move.item, the_move.behind) → t0.implicit ≡ true
  releases_implicit k0 t0 is_release is taken = go t0.implicit refl
    where
      go : (kind : Bool) → t0.implicit ≡ kind → t0.implicit ≡ true
      go true im = im
      go false ex =
          let ready = taken_ready k0 t0 is taken Outside 0 ((all k0 t0 is.live).1 ex) in
          absurd
          (item_wrong the_move.item (subst (λ (x : Event). fits x the_move.item ≡ true) is_release
          (take_fits p (encounter s i) e (in_front t0.frees t0.list) the_move.item the_move.behind taken))
          ready.in_order)
        where
          item_wrong : (y : Item) → fits event.Release y ≡ true
              → order t0.number Outside (y ∷ the_move.behind) ≡ true → ⊥
          item_wrong item.Release fit o = wrong t0.number the_move.behind o
          item_wrong y fit o = false_true fit

  taken_by_current : (k : Tid) (t : Task) → IsCurrent s i k t
      → take_item p (encounter s i) e (in_front t.frees t.list) ≡ Some (the_move.item, the_move.behind)
  taken_by_current k t is =
      ap (take_item p (encounter s i) e) (sym (ahead_of_current s i k t is)) ∙ the_move.taken

  -- a task over which one of the events is made names a function with no barrier
  item_fair : (k : Tid) (t : Task) → IsCurrent s i k t → fair_item b the_move.item ≡ true
  item_fair k t is = go t.implicit refl
    where
      go : (kind : Bool) → t.implicit ≡ kind → fair_item b the_move.item ≡ true
      go true im =
          let (r, found, m) = (all k t is.live).0 im in
          and_left (fair_item b the_move.item) (fair b the_move.behind)
          (taken_ready k t is (taken_by_current k t is) m.phase m.ahead m.ready).is_fair
      go false ex =
          and_left (fair_item b the_move.item) (fair b the_move.behind)
          (taken_ready k t is (taken_by_current k t is) Outside 0 ((all k t is.live).1 ex)).is_fair

  -- the region of a live task, and its function
  region_after : (k : Tid) (t : Task) → task_of s k ≡ Some t → (r : Region) → region_of s t.region ≡ Some r
      → (q : Region) × (region_of next t.region ≡ Some q) × Changes s i e t.region r q × (q.function ≡ r.function)
  region_after k t live r found =
      let (q, found_q, same) = (stays_step p s i e next step).regions t.region r found (needed_region s k t live r) in
      (q, found_q, region_changed p s i e next the_move t.region r q found found_q, same.function)

  abbrev middle : State
  middle = moved_on s i e the_move.item the_move.behind

  law : EachTask (HasPlace b next) middle → IsTaskLaw p middle i e the_move.item next (HasPlace b next)
  law of_tasks = law_of_lasting p middle i e the_move.item next (HasPlace b next) (record {
    starts = λ k u j t x is live ex de may of by q.
        (λ im. absurd (false_true (sym ex ∙ im)), λ h. start_ready b t.number x (encounter middle i) u.list (any_number p b ok u.number t.number u.list (q.1 ex)));
    members = λ region team f k t r is found may new of by j m at.
        (λ im. (_, new, member region team f r j m at), λ ex. absurd (false_true (sym ex)));
    deferred = λ task f final seen k t is of fresh. (λ im. absurd (false_true im), λ ex. task_ready p b ok 0 f (fair_of k t is (item.Defer seen f final) of));
    made = λ task f final k t is of fresh by. (λ im. absurd (false_true im), λ ex. task_ready p b ok t.number f (fair_made k t is f final of));
  })
    where
      before : IsRelisted s middle
      before = is_relisted s i (stays (encounter s i) e the_move.item the_move.behind)

      fair_of : (k : Tid) (t : Task) → IsCurrent middle i k t → (y : Item) → the_move.item ≡ y
          → fair_item b y ≡ true
      fair_of k t is y of =
          let (v, xs, live, same) = before.tasks k t is.live in
          subst (λ (x : Item). fair_item b x ≡ true) of
          (item_fair k v (record { name = sym (before.currents i) ∙ is.name; live = live }))

      fair_made : (k : Tid) (t : Task) → IsCurrent middle i k t → (f : ℕ) (final : Bool)
          → (the_move.item ≡ item.StartNow f final) ⊎ ((seen : ℕ) × (the_move.item ≡ item.Defer seen f final))
          → b f == 0 ≡ true
      fair_made k t is f final (inl of) = fair_of k t is (item.StartNow f final) of
      fair_made k t is f final (inr (seen, of)) = fair_of k t is (item.Defer seen f final) of

      member : (region : Rid) (team : List (Tid × ℕ)) (f : ℕ) (r : Region) (j : ℕ) (m : Tid × ℕ)
          → slice_get team j ≡ Some m
          → Member b (replicate (length team) 0) 0 f j
          (member_items p (record { debug = p.env.debug; number = j; level = r.levels + 1; is_final = false }) f)
      member region team f r j m at =
          let none : slice_index (replicate (length team) 0) j ≡ 0 =
          get_or-replicate (length team) j 0 0 (slice_get_within team j m at) in
          record {
            phase = Outside;
            ahead = b f + 1;
            ready = member_ready p b ok (record
                { debug = p.env.debug; number = j; level = r.levels + 1; is_final = false }) f;
            stands = none;
            barriers = omega arith;
          }

  pub places_step : EachTask (HasPlace b next) next
  places_step = task_step_from p (HasPlace b s) (HasPlace b next) s i e next the_move own others law all
    where
      own : (k : Tid) (t : Task) → IsCurrent s i k t
          → take_item p (encounter s i) e (in_front t.frees t.list) ≡ Some (the_move.item, the_move.behind) → HasPlace b s k t
          → HasPlace b next k (relisted (stays (encounter s i) e the_move.item the_move.behind) t)
      own k t is taken place =
          let fit = take_fits p (encounter s i) e (in_front t.frees t.list) the_move.item the_move.behind taken in (
            λ im.
                let (r, found, m) = place.0 im in
                let (q, found_q, change, f) = region_after k t is.live r found in
                (q, found_q, own_member e the_move.item the_move.behind fit the_move.rule k t r q is im found change f (taken_ready k t is taken) m),
            λ ex. own_explicit e the_move.item the_move.behind fit the_move.rule k t is ex (taken_ready k t is taken) (place.1 ex),
          )

      others : (k : Tid) (t : Task) → ((s.threads i).current ≡ Some k → ⊥) → task_of s k ≡ Some t
          → HasPlace b s k t → HasPlace b next k t
      others k t ne live place = (
        λ im.
            let (r, found, m) = place.0 im in
            let (q, found_q, change, f) = region_after k t live r found in (
              q,
              found_q,
              other_member e the_move.item the_move.rule k t r q ne live im found change f
                  (λ k0 t0 is_release is first. releases_implicit k0 t0 is_release is (taken_by_current k0 t0 is)) m,
            ),
        place.1,
      )

-- ---- every reached state

-- members and their places
pub record ArePlaced (p : Program) (s : State) : Type 0 where
  pub members : AreMembersKnown s
  pub places : EachTask (HasPlace (barriers_of p) s) s

pub placed : (p : Program) (events : List (ℕ × Event)) (s : State) → Reached p events s → ArePlaced p s
placed p events s reached = over_events p (ArePlaced p)
    (λ u i e next step h. record { members = members_step p u i e next step h.members; places = places_step p (barriers_of p) (counted p) u i e next step h.members h.places })
    (opening p) events s reached
    (record {
      members = members_known p [] (opening p) refl;
      places = each_first_task p (HasPlace (barriers_of p) (opening p)) (
        λ im. (
          opening_region p,
          refl,
          record {
            phase = Outside;
            ahead = barriers_of p p.main + 1;
            ready = main_ready p (barriers_of p) (counted p) (record { debug = p.env.debug; number = 0; level = 0; is_final = false }) p.main;
            stands = refl;
            barriers = omega arith;
          },
        ),
        λ ex. absurd (false_true (sym ex)),
      );
    })
