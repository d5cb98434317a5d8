-- The levels of regions along the chain of enclosing regions.
use Rattle.std.proofs.Common.{◌≡◌, ◌+◌, ℕ, zero, suc, List, length, Option, Some, None, MatchOption, if◌then◌else◌, nat_lt, refl, sym, ap, ◌∙◌, subst, arith}
use Rattle.std.specs.Option.{option_and_then}
use Rattle.omi_script.specs.declared.program.Program.{Program}
use Rattle.omi_model.specs.declared.event.Event.{Event}
use Rattle.omi_model.specs.declared.id.Rid.{Rid}
use Rattle.omi_model.specs.declared.id.Tid.{Tid}
use Rattle.omi_model.specs.declared.region.Region.{Region}
use Rattle.omi_model.specs.LawLevels.{AreLevelsRight, IsEnclosedIn, StandsInChain}
use Rattle.omi_model.specs.LawStays.{Stays}
use Rattle.omi_model.specs.Opening.{opening}
use Rattle.omi_model.specs.Reached.{Reached, Step}
use Rattle.omi_model.specs.State.{State, enclosing_of, region_of}
use Rattle.omi_model.specs.WellFormed.{along}
use Rattle.omi_model.proofs.EachObject.{EachRegion, IsRegionLaw, over_events, region_step}
use Rattle.omi_model.proofs.OpeningObjects.{each_first_region}
use Rattle.omi_model.proofs.StaysKept.{needed_enclosing, needed_region, stays_step}
use Rattle.omi_model.proofs.Steps.{IsRelisted}

abbrev Levels : State → Type 0
Levels s = EachRegion (λ n r. AreLevelsRight s r) s

levels_stay : (s u : State) → Stays s u → (n : Rid) (r : Region) → region_of s n ≡ Some r → AreLevelsRight s r
    → AreLevelsRight u r
levels_stay s u stay n r live h = go r.enclosing refl h
  where
    go : (o : Option Rid) → r.enclosing ≡ o
        → MatchOption o ((r.levels ≡ 0) × (r.active ≡ 0)) (λ n. (q : Region) × (region_of s n ≡ Some q) × IsEnclosedIn r q)
        → MatchOption o ((r.levels ≡ 0) × (r.active ≡ 0))
        (λ n. (q : Region) × (region_of u n ≡ Some q) × IsEnclosedIn r q)
    go None met is = is
    go (Some o) met (q, e, is) =
        let (q', e', same) = stay.regions o q e (needed_enclosing s n o r q live met) in
        (q', e', record { levels = is.levels ∙ ap (λ m. m + 1) (sym same.levels); active = is.active ∙ ap (λ m. m + (if nat_lt 1 (length r.team) then 1 else 0)) (sym same.active) })

-- a region that differs in nothing that the law reads
levels_same : (u : State) (r w : Region) → w.enclosing ≡ r.enclosing → w.levels ≡ r.levels
    → w.active ≡ r.active → w.team ≡ r.team → AreLevelsRight u r → AreLevelsRight u w
levels_same u r w enclosing levels active team h =
    subst
    (λ (o : Option Rid). MatchOption o ((w.levels ≡ 0) × (w.active ≡ 0)) (λ n. (q : Region) × (region_of u n ≡ Some q) × IsEnclosedIn w q))
    (sym enclosing) (go r.enclosing h)
  where
    go : (o : Option Rid)
        → MatchOption o ((r.levels ≡ 0) × (r.active ≡ 0)) (λ n. (q : Region) × (region_of u n ≡ Some q) × IsEnclosedIn r q)
        → MatchOption o ((w.levels ≡ 0) × (w.active ≡ 0))
        (λ n. (q : Region) × (region_of u n ≡ Some q) × IsEnclosedIn w q)
    go None is = (levels ∙ is.0, active ∙ is.1)
    go (Some n) (q, e, is) =
        (q, e, record { levels = levels ∙ is.levels; active = active ∙ (is.active ∙ ap (λ (x : List (Tid × ℕ)). q.active + (if nat_lt 1 (length x) then 1 else 0)) (sym team)) })

levels_step : (p : Program) (s : State) (i : ℕ) (e : Event) (next : State) → Step p s i e next → Levels s
    → Levels next
levels_step p s i e next step all =
    region_step p (λ n r. AreLevelsRight next r) s i e next step law
    (λ n r live. levels_stay s next (stays_step p s i e next step) n r live (all n r live))
  where
    law : (middle : State) → IsRelisted s middle → Stays middle next
        → IsRegionLaw p middle i next (λ n r. AreLevelsRight next r)
    law middle before later = record {
      arrives = λ k t r is found q. levels_same next r _ refl refl refl refl q;
      releases = λ k t r is found may q. levels_same next r _ refl refl refl refl q;
      ends = λ k t r is found im other q. levels_same next r _ refl refl refl refl q;
      joins = λ k t r is found may q. levels_same next r _ refl refl refl refl q;
      forks = λ region team f k t r is found may new.
          let (q, live, same) = later.regions t.region r found (needed_region middle k t is.live r) in
          (q, live, record { levels = ap (λ m. m + 1) (sym same.levels); active = ap (λ m. m + (if nat_lt 1 (length team) then 1 else 0)) (sym same.active) });
    }

reached_levels : (p : Program) (events : List (ℕ × Event)) (s : State) → Reached p events s → Levels s
reached_levels p events s reached =
    over_events p Levels (λ u i e next step h. levels_step p u i e next step h) (opening p) events s reached
    (each_first_region p (λ n r. AreLevelsRight (opening p) r) (refl, refl))

abbrev Enclosed : State → Region → Option Rid → Type 0
Enclosed s r o =
    MatchOption o ((r.levels ≡ 0) × (r.active ≡ 0))
    (λ n. (q : Region) × (region_of s n ≡ Some q) × IsEnclosedIn r q)

-- the chain from a region of a level ends after as many steps
chain_ends : (s : State) → Levels s → (m : ℕ) (r : Region) → r.levels ≡ m → AreLevelsRight s r
    → along (enclosing_of s) m r.enclosing ≡ None
chain_ends s all zero r level right = go r.enclosing right
  where
    go : (o : Option Rid) → Enclosed s r o → o ≡ None
    go None is = refl
    go (Some n) (q, e, is) = absurd (let deeper = is.levels in omega arith)
chain_ends s all (suc m) r level right =
    go (λ n q e deeper. chain_ends s all m q deeper (all n q e)) r.enclosing right
  where
    go : ((n : Rid) (q : Region) → region_of s n ≡ Some q → q.levels ≡ m → along (enclosing_of s) m q.enclosing ≡ None)
        → (o : Option Rid) → Enclosed s r o → along (enclosing_of s) (suc m) o ≡ None
    go shorter None is = absurd (let none = is.0 in omega arith)
    go shorter (Some n) (q, e, is) =
        ap (along (enclosing_of s) m) (ap (option_and_then (λ (x : Region). x.enclosing)) e)
        ∙ shorter n q e (let deeper = is.levels in omega arith)

pub levels_count : (p : Program) (events : List (ℕ × Event)) (s : State) → Reached p events s
    → (n : Rid) (r : Region) → region_of s n ≡ Some r → StandsInChain s r
levels_count p events s reached n r live =
    let all = reached_levels p events s reached in
    record { levels = all n r live; ends = (r.levels, chain_ends s all r.levels r refl (all n r live)) }
