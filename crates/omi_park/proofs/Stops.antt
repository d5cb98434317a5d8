-- Stops in turn: behind one more step, with one more stop, and the numbers of their threads.
use Rattle.std.proofs.Common.{◌≡◌, ◌≤◌, ◌==◌, ◌+◌, ◌++◌, ℕ, zero, suc, Bool, true, false, List, [], ◌∷◌, length, take, slice_get, Some, refl, sym, ap, ◌∙◌, subst, arith, if◌then◌else◌}
use Rattle.std.proofs.lemmas.List.{length-append, take-append-le, take_all}
use Rattle.omi_script.specs.declared.program.Program.{Program}
use Rattle.omi_layout.specs.declared.layout.Layout.{Layout}
use Rattle.omi_core.specs.declared.entry.Entry.{Entry}
use Rattle.omi_core.specs.declared.thread_run.ThreadRun.{ThreadRun}
use Rattle.omi_core.specs.Steps.{steps_of}
use Rattle.omi_park.specs.declared.stopped.Stopped.{Stopped}
use Rattle.omi_park.specs.Parked.{AreStops, IsStop, NeverFall, NonePasses}
use Rattle.omi_list.proofs.Places.{none_at, one_value}

-- ---- the steps of a thread among the first steps of all

-- more of these have as many of its own or more
pub taken_rises : (i a b : ℕ) (xs : List (ℕ × Entry)) → a ≤ b
    → length (steps_of i (take a xs)) ≤ length (steps_of i (take b xs))
taken_rises i zero b [] less = omega arith
taken_rises i zero b (x ∷ xs) less = omega arith
taken_rises i (suc a) zero xs less = absurd (omega (arith, less))
taken_rises i (suc a) (suc b) [] less = omega arith
taken_rises i (suc a) (suc b) (x ∷ xs) less = go (taken_rises i a b xs (omega (arith, less))) (x.0 == i)
  where
    go : length (steps_of i (take a xs)) ≤ length (steps_of i (take b xs)) → (c : Bool)
        → length (if c then x.1 ∷ steps_of i (take a xs) else steps_of i (take a xs)) ≤ length (if c then x.1 ∷ steps_of i (take b xs) else steps_of i (take b xs))
    go rest true = omega (arith, rest)
    go rest false = rest

-- one more step leaves the first of its own as they are
first_stand : (i n : ℕ) (xs : List (ℕ × Entry)) (x : ℕ × Entry) → n ≤ length (steps_of i xs)
    → take n (steps_of i (xs ++ x ∷ [])) ≡ take n (steps_of i xs)
first_stand i n [] x less = ap (λ k. take k (steps_of i (x ∷ []))) none ∙ sym (ap (λ k. take k (steps_of i [])) none)
  where
    none : n ≡ 0
    none = omega (arith, less)
first_stand i n (y ∷ ys) x less = go (λ k fewer. first_stand i k ys x fewer) (y.0 == i) n less
  where
    go : ((k : ℕ) → k ≤ length (steps_of i ys) → take k (steps_of i (ys ++ x ∷ [])) ≡ take k (steps_of i ys))
        → (c : Bool) (n : ℕ) → n ≤ length (if c then y.1 ∷ steps_of i ys else steps_of i ys)
        → take n (if c then y.1 ∷ steps_of i (ys ++ x ∷ []) else steps_of i (ys ++ x ∷ [])) ≡ take n (if c then y.1 ∷ steps_of i ys else steps_of i ys)
    go rest true zero less = refl
    go rest true (suc m) less = ap (λ (es : List Entry). y.1 ∷ es) (rest m (omega (arith, less)))
    go rest false n less = rest n less

-- ---- stops

pub stops_stand : (p : Program) (l : Layout) (from : ℕ) (entries : List (ℕ × Entry)) (x : ℕ × Entry)
    (stops : List Stopped) → AreStops p l from entries stops → AreStops p l from (entries ++ x ∷ []) stops
stops_stand p l from entries x [] are = tt
stops_stand p l from entries x (stop ∷ stops) (at, rising, within, is, first, are) = (
  at,
  rising,
  (let more : length (entries ++ x ∷ []) ≡ length entries + 1 = length-append entries (x ∷ []) in omega (arith, within, more)),
  subst (λ (es : List (ℕ × Entry)). IsStop p l es stop) (sym same) is,
  (λ i n got.
      let count = is.counts i n got in
      let least = taken_rises i at (length entries) entries within in
      let whole : length (steps_of i (take (length entries) entries)) ≡ length (steps_of i entries) =
      ap (λ (es : List (ℕ × Entry)). length (steps_of i es)) (take_all (length entries) entries (omega arith)) in
      ap (steps_of i) same ∙ first i n got
      ∙ sym (first_stand i n entries x (omega (arith, count, least, whole)))),
  stops_stand p l at entries x stops are,
)
  where
    same : take at (entries ++ x ∷ []) ≡ take at entries
    same = take-append-le at entries (x ∷ []) within

pub stop_more : (p : Program) (l : Layout) (from : ℕ) (entries : List (ℕ × Entry)) (stop : Stopped)
    (stops : List Stopped) → from ≤ length entries → IsStop p l entries stop → AreStops p l from entries stops
    → AreStops p l from entries (stops ++ stop ∷ [])
stop_more p l from entries stop [] within is are = (
  length entries,
  within,
  omega arith,
  subst (λ (es : List (ℕ × Entry)). IsStop p l es stop) (sym whole) is,
  (λ i n got.
      let count = is.counts i n got in
      ap (steps_of i) whole ∙ sym (take_all n (steps_of i entries) (omega (arith, count)))),
  tt,
)
  where
    whole : take (length entries) entries ≡ entries
    whole = take_all (length entries) entries (omega arith)
stop_more p l from entries stop (first ∷ stops) within is (at, rising, behind, was, own, are) =
    (at, rising, behind, was, own, stop_more p l at entries stop stops behind is are)

-- ---- their numbers

pub never_fall : (p : Program) (l : Layout) (from : ℕ) (entries : List (ℕ × Entry)) (stops : List Stopped)
    → AreStops p l from entries stops → NeverFall stops
never_fall p l from entries [] are j i n m stop next got behind here there = absurd (none_at [] j stop refl got)
never_fall p l from entries (first ∷ []) are j i n m stop next got behind here there =
    absurd (nothing j behind)
  where
    nothing : (j : ℕ) → slice_get (first ∷ []) (j + 1) ≡ Some next → ⊥
    nothing zero is = none_at [] 0 next refl is
    nothing (suc j) is =
        let more : suc j + 1 ≡ suc (j + 1) = omega arith in
        none_at [] (j + 1) next refl (subst (λ k. slice_get (first ∷ []) k ≡ Some next) more is)
never_fall p l from entries (first ∷ second ∷ stops) (at, rising, within, is, own, (next_at, later, next_within, next_is, next_own, are)) zero i n m stop next got behind here there =
    let first_is : first ≡ stop = one_value (Some first) first stop refl got in
    let second_is : second ≡ next = one_value (Some second) second next refl behind in
    let count = is.counts i n (ap (λ (s : Stopped). slice_get s.steps i) first_is ∙ here) in
    let next_count = next_is.counts i m (ap (λ (s : Stopped). slice_get s.steps i) second_is ∙ there) in
    let rises = taken_rises i at next_at entries later in
    omega (arith, count, next_count, rises)
never_fall p l from entries (first ∷ second ∷ stops) (at, rising, within, is, own, are) (suc j) i n m stop next got behind here there =
    let more : suc j + 1 ≡ suc (j + 1) = omega arith in
    never_fall p l at entries (second ∷ stops) are j i n m stop next got
    (subst (λ k. slice_get (first ∷ second ∷ stops) k ≡ Some next) more behind) here there

pub none_passes : (p : Program) (l : Layout) (from : ℕ) (entries : List (ℕ × Entry)) (stops : List Stopped)
    (runs : List ThreadRun) → AreStops p l from entries stops
    → ((i : ℕ) (r : ThreadRun) → slice_get runs i ≡ Some r → r.steps ≡ length (steps_of i entries))
    → NonePasses stops runs
none_passes p l from entries [] runs are ends j i n stop run got here last = absurd (none_at [] j stop refl got)
none_passes p l from entries (first ∷ stops) runs (at, rising, within, is, own, are) ends zero i n stop run got here last =
    let first_is : first ≡ stop = one_value (Some first) first stop refl got in
    let count = is.counts i n (ap (λ (s : Stopped). slice_get s.steps i) first_is ∙ here) in
    let rises = taken_rises i at (length entries) entries within in
    let whole : length (steps_of i (take (length entries) entries)) ≡ length (steps_of i entries) =
    ap (λ (es : List (ℕ × Entry)). length (steps_of i es)) (take_all (length entries) entries (omega arith)) in
    let end = ends i run last in
    omega (arith, count, rises, whole, end)
none_passes p l from entries (first ∷ stops) runs (at, rising, within, is, own, are) ends (suc j) i n stop run got here last =
    none_passes p l at entries stops runs are ends j i n stop run got here last
