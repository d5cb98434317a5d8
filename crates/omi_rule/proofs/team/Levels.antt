-- A region has at most as many levels, and active levels, as there were events.
use Rattle.std.proofs.Common.{◌≡◌, ◌+◌, ◌≤◌, nat_lt, ℕ, Bool, true, false, List, [], ◌∷◌, length, Some, sym, ap, ◌∙◌, arith, if◌then◌else◌}
use Rattle.omi_script.specs.declared.program.Program.{Program}
use Rattle.omi_model.specs.declared.event.Event.{Event}
use Rattle.omi_model.specs.declared.id.Rid.{Rid}
use Rattle.omi_model.specs.declared.region.Region.{Region}
use Rattle.omi_model.specs.Opening.{opening}
use Rattle.omi_model.specs.Reached.{Leads, Reached, Step}
use Rattle.omi_model.specs.State.{State, region_of}
use Rattle.omi_model.proofs.EachObject.{EachRegion, region_step}
use Rattle.omi_model.proofs.OpeningObjects.{each_first_region}

abbrev AreFew : ℕ → Rid → Region → Type 0
AreFew n k r = (r.levels ≤ n) × (r.active ≤ n)

one_more : (active n : ℕ) (b : Bool) → active ≤ n → active + (if b then 1 else 0) ≤ n + 1
one_more active n true few = omega (arith, few)
one_more active n false few = omega (arith, few)

few_step : (p : Program) (n : ℕ) (s : State) (i : ℕ) (e : Event) (next : State) → Step p s i e next
    → EachRegion (AreFew n) s → EachRegion (AreFew (n + 1)) next
few_step p n s i e next step all = region_step p (AreFew (n + 1)) s i e next step
    (λ middle before later. record {
      arrives = λ k t r is found h. h;
      releases = λ k t r is found may h. h;
      ends = λ k t r is found im other h. h;
      joins = λ k t r is found may h. h;
      forks = λ region team f k t r is found may new.
          let was : AreFew n t.region r = all t.region r (sym (before.regions t.region) ∙ found) in
          let low = was.0 in
          (omega (arith, low), one_more r.active n (nat_lt 1 (length team)) was.1);
    })
    (λ k r found. let was : AreFew n k r = all k r found in let low = was.0 in let active = was.1 in (omega (arith, low), omega (arith, active)))

few_leads : (p : Program) (s : State) (xs : List (ℕ × Event)) (u : State) → Leads p s xs u → (n : ℕ)
    → EachRegion (AreFew n) s → EachRegion (AreFew (n + length xs)) u
few_leads p s [] u same n all k r found =
    let was : AreFew n k r = all k r (sym (ap (λ x. region_of x k) same) ∙ found) in let low = was.0 in let active = was.1 in (omega (arith, low), omega (arith, active))
few_leads p s (x ∷ xs) u (next, step, leads) n all k r found =
    let rest : AreFew (n + 1 + length xs) k r =
    few_leads p next xs u leads (n + 1) (few_step p n s x.0 x.1 next step all) k r found in
    let low = rest.0 in let active = rest.1 in (omega (arith, low), omega (arith, active))

pub levels_few : (p : Program) (events : List (ℕ × Event)) (s : State) → Reached p events s
    → (k : Rid) (r : Region) → region_of s k ≡ Some r
    → (r.levels ≤ length events) × (r.active ≤ length events)
levels_few p events s reached k r found =
    let few : AreFew (0 + length events) k r =
    few_leads p (opening p) events s reached 0
    (each_first_region p (AreFew 0) (omega arith, omega arith)) k r found in
    let low = few.0 in let active = few.1 in (omega (arith, low), omega (arith, active))
