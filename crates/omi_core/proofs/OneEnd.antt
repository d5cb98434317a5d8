-- A run ends in one way, and at one step: no run that goes on behind it has the same first steps.
use Rattle.std.proofs.Common.{◌≡◌, ◌≢◌, ◌<◌, ◌≤◌, ◌++◌, ℕ, true, List, [], ◌∷◌, Option, Some, None, refl, sym, ap, ◌∙◌, subst, arith, if◌then◌else◌}
use Rattle.std.specs.Prelude.{IfSome, MatchOption}
use Rattle.std.specs.List.{AllByRecursion}
use Rattle.std.proofs.lemmas.List.{append_assoc, append-nil}
use Rattle.std.proofs.lemmas.List.Sums.{sum_by-append}
use Rattle.std.proofs.lemmas.Bool.Decides.{nat_tests}
use Rattle.omi_model.specs.declared.event.Event.{Event}
use Rattle.omi_model.specs.declared.event.Event.TheVariants as event
use Rattle.omi_core.specs.declared.stop.Break.{Break}
use Rattle.omi_core.specs.declared.stop.Break.TheVariants as kind
use Rattle.omi_core.specs.declared.stop.End.{End}
use Rattle.omi_core.specs.declared.stop.End.TheVariants as end
use Rattle.omi_core.specs.declared.stop.Stop.{Stop}
use Rattle.omi_core.specs.Ends.{EndsAt, GoesOn, IsEnded, count_of, is_of_kind}

abbrev Numbered : Type 0
Numbered = ℕ × ℕ × Event

-- ---- the last of a list

abbrev last_of : Numbered → List Numbered → Numbered
last_of d [] = d
last_of d (x ∷ xs) = last_of x xs

last_is : (d : Numbered) (xs : List Numbered) (x : Numbered) → last_of d (xs ++ x ∷ []) ≡ x
last_is d [] x = refl
last_is d (y ∷ xs) x = last_is y xs x

abbrev front_of : List Numbered → List Numbered
front_of [] = []
front_of (x ∷ []) = []
front_of (x ∷ y ∷ xs) = x ∷ front_of (y ∷ xs)

front_is : (xs : List Numbered) (x : Numbered) → front_of (xs ++ x ∷ []) ≡ xs
front_is [] x = refl
front_is (y ∷ []) x = refl
front_is (y ∷ z ∷ xs) x = ap (λ (ys : List Numbered). y ∷ ys) (front_is (z ∷ xs) x)

same_last : (xs ys : List Numbered) (x y : Numbered) → xs ++ x ∷ [] ≡ ys ++ y ∷ [] → x ≡ y
same_last xs ys x y same = sym (last_is x xs x) ∙ ap (last_of x) same ∙ last_is x ys y

same_front : (xs ys : List Numbered) (x y : Numbered) → xs ++ x ∷ [] ≡ ys ++ y ∷ [] → xs ≡ ys
same_front xs ys x y same = sym (front_is xs x) ∙ ap front_of same ∙ front_is ys y

-- a list with something is a front and a last
split_last : (x : Numbered) (xs : List Numbered)
    → (front : List Numbered) × (y : Numbered) × (x ∷ xs ≡ front ++ y ∷ [])
split_last x [] = ([], x, refl)
split_last x (y ∷ ys) =
    let (front, z, same) = split_last y ys in
    (x ∷ front, z, ap (λ (zs : List Numbered). x ∷ zs) same)

-- ---- a front of events

all_front : (P : Numbered → Type 0) (es more : List Numbered) → AllByRecursion P (es ++ more)
    → AllByRecursion P es
all_front P [] more all = tt
all_front P (e ∷ es) more (one, rest) = (one, all_front P es more rest)

all_last : (P : Numbered → Type 0) (es : List Numbered) (e : Numbered) → AllByRecursion P (es ++ e ∷ []) → P e
all_last P [] e (one, rest) = one
all_last P (x ∷ es) e (one, rest) = all_last P es e rest

module _ (stop : Stop) where
  goes_front : (es more : List Numbered) → GoesOn stop (es ++ more) → GoesOn stop es
  goes_front es more goes = record {
    not_done = all_front (λ (x : Numbered). x.2 ≢ event.Done) es more goes.not_done;
    too_few = go stop.on goes.too_few;
  }
    where
      go : (on : Option (Break × ℕ)) → IfSome on (λ o. count_of o.0 (es ++ more) < o.1)
          → IfSome on (λ o. count_of o.0 es < o.1)
      go None few = tt
      go (Some o) few =
          let both = sum_by-append (λ (x : Numbered). if is_of_kind o.0 x.2 then 1 else 0) es more in
          omega (arith, both, few)

  -- a run that ends later went on behind these events
  goes_before : (n m : ℕ) (es more : List Numbered) → n < m → EndsAt stop n es → EndsAt stop m (es ++ more)
      → GoesOn stop es
  goes_before n m es [] later at behind =
      let same : at.before ++ (n, at.thread, at.last) ∷ [] ≡ behind.before ++ (m, behind.thread, behind.last) ∷ [] =
      sym at.are ∙ sym (append-nil es) ∙ behind.are in
      let number : n ≡ m =
      ap (λ (x : Numbered). x.0)
      (same_last at.before behind.before (n, at.thread, at.last) (m, behind.thread, behind.last) same) in
      absurd (omega (arith, number, later))
  goes_before n m es (x ∷ xs) later at behind =
      let (front, y, is) = split_last x xs in
      let same : (es ++ front) ++ y ∷ [] ≡ behind.before ++ (m, behind.thread, behind.last) ∷ [] =
      append_assoc es front (y ∷ []) ∙ ap (λ (ys : List Numbered). es ++ ys) (sym is) ∙ behind.are in
      goes_front es front
      (subst (λ (ys : List Numbered). GoesOn stop ys) (sym (same_front (es ++ front) behind.before y (m, behind.thread, behind.last) same)) behind.goes_on)

  -- events that end a run leave none that goes on
  no_break : (es : List Numbered) (last : Event)
      → MatchOption stop.on ⊥ (λ on. (is_of_kind on.0 last ≡ true) × (count_of on.0 es ≡ on.1))
      → GoesOn stop es → ⊥
  no_break es last met goes = go stop.on met goes.too_few
    where
      go : (on : Option (Break × ℕ))
          → MatchOption on ⊥ (λ o. (is_of_kind o.0 last ≡ true) × (count_of o.0 es ≡ o.1))
          → IfSome on (λ o. count_of o.0 es < o.1) → ⊥
      go None met few = met
      go (Some o) (of_kind, all) few = omega (arith, all, few)

  no_done : (n : ℕ) (es : List Numbered) (at : EndsAt stop n es) → at.last ≡ event.Done → GoesOn stop es → ⊥
  no_done n es at done goes =
      all_last (λ (x : Numbered). x.2 ≢ event.Done) at.before (n, at.thread, at.last)
      (subst (AllByRecursion (λ (x : Numbered). x.2 ≢ event.Done)) at.are goes.not_done) done

  -- ---- one end

  -- why a run ended later, it went on behind these
  went_on : (n m : ℕ) (es more : List Numbered) (later : End) → n < m → EndsAt stop n es
      → IsEnded stop m m (es ++ more) later → GoesOn stop es
  went_on n m es more end.Steps less at (goes, all) = goes_front es more goes
  went_on n m es more end.Break less at (behind, met) = goes_before n m es more less at behind
  went_on n m es more end.Done less at (behind, done) = goes_before n m es more less at behind

  pub no_later : (n m : ℕ) (es more : List Numbered) (why later : End) → n < m → m ≤ stop.steps
      → IsEnded stop n n es why → IsEnded stop m m (es ++ more) later → ⊥
  no_later n m es more end.Steps later less most (goes, all) behind = omega (arith, less, most, all)
  no_later n m es more end.Break later less most (at, met) behind =
      no_break es at.last met (went_on n m es more later less at behind)
  no_later n m es more end.Done later less most (at, done) behind =
      no_done n es at done (went_on n m es more later less at behind)

  -- `done` is of no kind at which a run is to stop
  done_of_none : (k : Break) (e : Event) → e ≡ event.Done → is_of_kind k e ≡ true → ⊥
  done_of_none k e is of_kind = go k (subst (λ (x : Event). is_of_kind k x ≡ true) is of_kind)
    where
      go : (k : Break) → is_of_kind k event.Done ≡ true → ⊥
      go kind.ParallelBegin h = grind (arith, nat_tests)
      go kind.ParallelEnd h = grind (arith, nat_tests)
      go kind.TaskBegin h = grind (arith, nat_tests)
      go kind.TaskEnd h = grind (arith, nat_tests)
      go kind.ThreadBegin h = grind (arith, nat_tests)

  not_both : (n : ℕ) (es : List Numbered) (a b : EndsAt stop n es)
      → MatchOption stop.on ⊥ (λ on. (is_of_kind on.0 a.last ≡ true) × (count_of on.0 es ≡ on.1))
      → b.last ≡ event.Done → ⊥
  not_both n es a b met done = go stop.on met
    where
      same : a.last ≡ b.last
      same =
          ap (λ (x : Numbered). x.2)
          (same_last a.before b.before (n, a.thread, a.last) (n, b.thread, b.last) (sym a.are ∙ b.are))

      go : (on : Option (Break × ℕ))
          → MatchOption on ⊥ (λ o. (is_of_kind o.0 a.last ≡ true) × (count_of o.0 es ≡ o.1)) → ⊥
      go None met = met
      go (Some o) (of_kind, all) = done_of_none o.0 a.last (same ∙ done) of_kind

  pub one_end : (n : ℕ) (es : List Numbered) (a b : End) → IsEnded stop n n es a → IsEnded stop n n es b
      → a ≡ b
  one_end n es end.Steps end.Steps x y = refl
  one_end n es end.Steps end.Break (goes, all) (at, met) = absurd (no_break es at.last met goes)
  one_end n es end.Steps end.Done (goes, all) (at, done) = absurd (no_done n es at done goes)
  one_end n es end.Break end.Steps (at, met) (goes, all) = absurd (no_break es at.last met goes)
  one_end n es end.Break end.Break x y = refl
  one_end n es end.Break end.Done (a, met) (b, done) = absurd (not_both n es a b met done)
  one_end n es end.Done end.Steps (at, done) (goes, all) = absurd (no_done n es at done goes)
  one_end n es end.Done end.Break (b, done) (a, met) = absurd (not_both n es a b met done)
  one_end n es end.Done end.Done x y = refl
