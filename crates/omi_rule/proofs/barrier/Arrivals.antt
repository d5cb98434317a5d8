-- Arrivals at barriers: a region's are no more than the events so far; a member that has its release ahead has arrived at one barrier more than were released; and where all arrivals are so many, each member has arrived.
use Rattle.std.proofs.Common.{◌≡◌, ◌<◌, ◌≤◌, ◌+◌, ◌*◌, ℕ, zero, suc, false, true, List, [], ◌∷◌, length, replicate, slice_get, slice_index, slice_set, sum, Some, refl, sym, ap, ◌∙◌, subst, arith}
use Rattle.std.specs.List.{All}
use Rattle.std.proofs.lemmas.List.Sums.{sum_by-cons}
use Rattle.omi_script.specs.declared.program.Program.{Program}
use Rattle.omi_model.specs.declared.event.Event.{Event}
use Rattle.omi_model.specs.declared.id.Rid.{Rid}
use Rattle.omi_model.specs.declared.id.Tid.{Tid}
use Rattle.omi_model.specs.declared.item.Item.{Item}
use Rattle.omi_model.specs.declared.item.Item.TheVariants as item
use Rattle.omi_model.specs.declared.region.Region.{Region}
use Rattle.omi_model.specs.declared.task.Task.{Task}
use Rattle.omi_model.specs.Barriers.{HaveArrived}
use Rattle.omi_model.specs.Opening.{opening, opening_region}
use Rattle.omi_model.specs.Reached.{Leads, Reached, Step}
use Rattle.omi_model.specs.State.{State, region_of, task_of}
use Rattle.omi_model.proofs.BarrierCounts.{barriers_of}
use Rattle.omi_model.proofs.BarrierLaw.{Stands, placed}
use Rattle.omi_model.proofs.BarrierOrder.{order, quiet_off, release_ready}
use Rattle.omi_model.proofs.BarrierOrder as phase
use Rattle.omi_model.proofs.EachObject.{EachRegion, region_step}
use Rattle.omi_model.proofs.MembersKnown.{members_known}
use Rattle.omi_model.proofs.NamesLive.{names_live}
use Rattle.omi_model.proofs.OpeningObjects.{each_first_region}
use Rattle.omi_model.proofs.ReleaseAmong.{arrivals_near}
use Rattle.omi_model.proofs.Slots.{some_same}

-- ---- sums

pub cons_sum : (x : ℕ) (xs : List ℕ) → sum (x ∷ xs) ≡ x + sum xs
cons_sum x xs = sum_by-cons (λ y. y) x xs

set_sum : (xs : List ℕ) (n : ℕ) → sum (slice_set xs n (slice_index xs n + 1)) ≤ sum xs + 1
set_sum [] n = omega arith
set_sum (x ∷ xs) zero =
    let more : sum ((x + 1) ∷ xs) ≤ sum (x ∷ xs) + 1 = omega (arith, cons_sum (x + 1) xs, cons_sum x xs) in more
set_sum (x ∷ xs) (suc n) =
    let rest = set_sum xs n in
    let ys : List ℕ = slice_set xs n (slice_index xs n + 1) in
    let more : sum (x ∷ ys) ≤ sum (x ∷ xs) + 1 = omega (arith, rest, cons_sum x ys, cons_sum x xs) in more

none_sum : (n : ℕ) → sum (replicate n 0) ≡ 0
none_sum zero = refl
none_sum (suc n) = none_sum n

pub part_sum : (xs : List ℕ) (n : ℕ) → slice_index xs n ≤ sum xs
part_sum [] n = omega arith
part_sum (x ∷ xs) zero = let more : x ≤ sum (x ∷ xs) = omega (arith, cons_sum x xs) in more
part_sum (x ∷ xs) (suc n) =
    let rest = part_sum xs n in
    let more : slice_index xs n ≤ sum (x ∷ xs) = omega (arith, rest, cons_sum x xs) in more

-- ---- as many as events

abbrev IsFew : ℕ → Rid → Region → Type 0
IsFew n k r = sum r.arrivals ≤ n

few_step : (p : Program) (n : ℕ) (s : State) (i : ℕ) (e : Event) (next : State) → Step p s i e next
    → EachRegion (IsFew n) s → EachRegion (IsFew (n + 1)) next
few_step p n s i e next step all = region_step p (IsFew (n + 1)) s i e next step
    (λ middle before later. record {
      arrives = λ k t r is found h. let was : sum r.arrivals ≤ n = all t.region r (sym (before.regions t.region) ∙ found) in let more = set_sum r.arrivals t.number in omega (arith, was, more);
      releases = λ k t r is found may h. h;
      ends = λ k t r is found im other h. h;
      joins = λ k t r is found may h. h;
      forks = λ region team f k t r is found may new. let none = none_sum (length team) in omega (arith, none);
    })
    (λ k r found. let was : sum r.arrivals ≤ n = all k r found in omega (arith, was))

few_leads : (p : Program) (s : State) (xs : List (ℕ × Event)) (u : State) → Leads p s xs u → (n : ℕ)
    → EachRegion (IsFew n) s → EachRegion (IsFew (n + length xs)) u
few_leads p s [] u same n all k r found =
    let was : sum r.arrivals ≤ n = all k r (sym (ap (λ x. region_of x k) same) ∙ found) in omega (arith, was)
few_leads p s (x ∷ xs) u (next, step, leads) n all k r found =
    let rest : sum r.arrivals ≤ n + 1 + length xs = few_leads p next xs u leads (n + 1) (few_step p n s x.0 x.1 next step all) k r found in omega (arith, rest)

pub arrivals_few : (p : Program) (events : List (ℕ × Event)) (s : State) → Reached p events s
    → (k : Rid) (r : Region) → region_of s k ≡ Some r → sum r.arrivals ≤ length events
arrivals_few p events s reached k r found =
    let few : sum r.arrivals ≤ 0 + length events = few_leads p (opening p) events s reached 0 (each_first_region p (IsFew 0) (first (opening_region p).arrivals refl)) k r found in omega (arith, few)
  where
    first : (xs : List ℕ) → xs ≡ 0 ∷ [] → sum xs ≤ 0
    first xs same = subst (λ ys. sum ys ≤ 0) (sym same) (omega arith)

-- ---- member 0 before its release

pub before_release : (p : Program) (events : List (ℕ × Event)) (s : State) → Reached p events s
    → (k : Tid) (t : Task) (r : Region) (state : ℕ) (ys : List Item) → task_of s k ≡ Some t
    → t.implicit ≡ true → region_of s t.region ≡ Some r
    → t.number ≡ 0 → t.list ≡ item.Tasks state ∷ item.Release ∷ ys → slice_index r.arrivals t.number ≡ r.released + 1
before_release p events s reached k t r state ys live im found first is =
    let (q, found_q, member) = ((placed p events s reached).places k t live).0 im in
    let one : q ≡ r = some_same found_q found in
    let ready =
    quiet_off (barriers_of p) t.number member.phase member.ahead (item.Tasks state) (item.Release ∷ ys) refl
    (subst (λ (xs : List Item). phase.IsReady (barriers_of p) t.number member.phase member.ahead xs) is member.ready) in
    let (waits, rest) = release_ready (barriers_of p) t.number member.phase member.ahead ys first ready in
    let stood : Stands phase.Waiting t.number (slice_index q.arrivals t.number) q.released =
    subst
    (λ (ph : phase.Phase). Stands ph t.number (slice_index q.arrivals t.number) q.released) waits member.stands in
    subst (λ (x : Region). slice_index x.arrivals t.number ≡ x.released + 1) one (stood.2 first)

-- ---- a full sum

at_most : (b : ℕ) (ys : List ℕ) → ((k : ℕ) → k < length ys → slice_index ys k ≤ b) → sum ys ≤ length ys * b
at_most b [] each = omega arith
at_most b (y ∷ ys) each =
    let first : y ≤ b = each 0 (omega arith) in
    let others : sum ys ≤ length ys * b = at_most b ys (λ k within. each (suc k) (omega (arith, within))) in
    let split : (suc (length ys)) * b ≡ b + length ys * b = grind arith in
    let both : sum (y ∷ ys) ≤ (suc (length ys)) * b = omega (arith, first, others, split, cons_sum y ys) in both

full : (xs : List ℕ) (b : ℕ) → ((n : ℕ) → n < length xs → slice_index xs n ≤ b) → length xs * b ≤ sum xs
    → (n : ℕ) → n < length xs → slice_index xs n ≡ b
full [] b most enough n below = absurd (omega (arith, below))
full (x ∷ xs) b most enough n below =
    let here : x ≤ b = most 0 (omega arith) in
    let rest : sum xs ≤ length xs * b = at_most b xs (λ k within. most (suc k) (omega (arith, within))) in
    let all : (suc (length xs)) * b ≤ sum (x ∷ xs) = enough in
    let cons = cons_sum x xs in
    let split : (suc (length xs)) * b ≡ b + length xs * b = grind arith in
    let more : length xs * b ≤ sum xs = omega (arith, here, rest, all, split, cons) in
    go n below (omega (arith, here, rest, all, split, cons))
    (λ k within. full xs b (λ j inside. most (suc j) (omega (arith, inside))) more k within)
  where
    go : (n : ℕ) → n < suc (length xs) → x ≡ b → ((k : ℕ) → k < length xs → slice_index xs k ≡ b)
        → slice_index (x ∷ xs) n ≡ b
    go zero within is later = is
    go (suc k) within is later = later k (omega (arith, within))

pub all_arrived : (p : Program) (events : List (ℕ × Event)) (s : State) → Reached p events s
    → (n : Rid) (r : Region) → region_of s n ≡ Some r → r.joined ≡ false → length r.team * (r.released + 1) ≤ sum r.arrivals
    → HaveArrived r
all_arrived p events s reached n r found unjoined enough =
    let sizes = (members_known p events s reached).regions n r found in
    let whole : length r.arrivals * (r.released + 1) ≤ sum r.arrivals =
    subst (λ k. k * (r.released + 1) ≤ sum r.arrivals) (sym sizes.arrivals) enough in
    each r.arrivals
    (full r.arrivals (r.released + 1) (λ j below. near j (omega (arith, below, sizes.arrivals))) whole)
  where
    member : (team : List (Tid × ℕ)) (j : ℕ) → j < length team → (x : Tid × ℕ) × (slice_get team j ≡ Some x)
    member [] j below = absurd (omega (arith, below))
    member (x ∷ xs) zero below = (x, refl)
    member (x ∷ xs) (suc j) below = member xs j (omega (arith, below))

    near : (j : ℕ) → j < length r.team → slice_index r.arrivals j ≤ r.released + 1
    near j below =
        let (x, there) = member r.team j below in
        let o = ((names_live p events s reached).regions n r found).team unjoined j x there in
        let most =
        (arrivals_near p events s reached x.0 o.task r o.live o.implicit (ap (region_of s) o.region ∙ found)).1 in
        subst (λ k. slice_index r.arrivals k ≤ r.released + 1) o.number most

    each : (xs : List ℕ) → ((j : ℕ) → j < length xs → slice_index xs j ≡ r.released + 1)
        → All (λ x. x ≡ r.released + 1) xs
    each [] is j d below = absurd (omega (arith, below))
    each (x ∷ xs) is zero d below = is 0 (omega arith)
    each (x ∷ xs) is (suc j) d below =
        each xs (λ k within. is (suc k) (omega (arith, within))) j d (omega (arith, below))
