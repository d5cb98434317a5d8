-- Rows that are added one part after the other.
use Rattle.std.proofs.Common.{◌≡◌, ℕ, List, [], ◌∷◌, ◌++◌, refl, sym, ap, subst, ◌∙◌, append_assoc}
use Rattle.std.specs.Prelude.{Result, Ok, Err}
use Rattle.omi_word.specs.Words.{Words}
use Rattle.omi_calls.specs.Told.{Told}
use Rattle.omi_rep.specs.Look.{Look, and_then, mapped, each}
use Rattle.omi_session.specs.Opened.{Opened, Stays}
use Rattle.omi_walk.specs.declared.fault.WalkFault.{WalkFault}
use Rattle.omi_walk.specs.Added.{Added}
use Rattle.omi_walk.specs.Gives.{Looks}
use Rattle.omi_walk.proofs.Steps.{mapped_same, same_gives, look_then, look_stops, look_is}

-- a look at the elements of two lists is one at those of the first, and then at those of the second
mapped_over : {B : Type 0} (front : List B) (y : B) (l : Look (List B))
    → mapped (λ more. y ∷ more) (mapped (λ back. front ++ back) l) ≡ mapped (λ back. (y ∷ front) ++ back) l
unfolding and_then
mapped_over front y (Ok back) = refl
mapped_over front y (Err f) = refl

and_then_over : {B : Type 0} (y : B) (l m : Look (List B))
    → mapped (λ more. y ∷ more) (and_then l (λ front. mapped (λ back. front ++ back) m)) ≡ and_then (mapped (λ more. y ∷ more) l) (λ front. mapped (λ back. front ++ back) m)
unfolding and_then
and_then_over y (Ok front) m = mapped_over front y m
and_then_over y (Err f) m = refl

pub each_over : {A B : Type 0} (look : A → Look B) (xs ys : List A)
    → each look (xs ++ ys) ≡ and_then (each look xs) (λ front. mapped (λ back. front ++ back) (each look ys))
unfolding and_then
each_over look [] ys = mapped_same (each look ys)
each_over look (x ∷ xs) ys = go (look x) (each_over look xs ys)
  where
    go : (l : Look _)
        → each look (xs ++ ys) ≡ and_then (each look xs) (λ front. mapped (λ back. front ++ back) (each look ys))
        → and_then l (λ y. mapped (λ more. y ∷ more) (each look (xs ++ ys)))
        ≡ and_then (and_then l (λ y. mapped (λ more. y ∷ more) (each look xs)))
        (λ front. mapped (λ back. front ++ back) (each look ys))
    go (Err f) rest = refl
    go (Ok y) rest = ap (mapped (λ more. y ∷ more)) rest ∙ and_then_over y (each look xs) (each look ys)

-- the look at these elements
abbrev pub at_each : {A B : Type 0} → (List ℕ → Words → A → Look B) → List A → List ℕ → Words → Look (List B)
at_each look xs w memory = each (look w memory) xs

module _ {A B C F : Type 0} (told : C → Told) (look : List ℕ → Words → A → Look B) where
  here : (s : Opened C F) → Stays told s s
  here s = record { table = record { same = refl; order = refl; to_host = refl }; layout = refl }

  -- looks that are the same in the layout of a session give the same
  pub looks_as : {X : Type 0} (s : Opened C F) (r : Result X WalkFault) (a b : List ℕ → Words → Look X)
      → ((memory : Words) → a s.layout memory ≡ b s.layout memory) → Looks told s r a → Looks told s r b
  unfolding Looks
  looks_as s r a b same gives =
      λ memory tells. same_gives r (a s.layout memory) (b s.layout memory) (same memory) (gives memory tells)

  -- or the look at it is refused
  pub one_stops : (s : Opened C F) (x : A) (f : WalkFault)
      → Looks {A = B} told s (Err f) (λ w memory. look w memory x)
      → Looks {A = List B} told s (Err f) (at_each look (x ∷ []))
  one_stops s x f first =
      look_stops told s f (λ w memory. look w memory x) (λ w memory y. mapped (λ ys. y ∷ ys) (Ok [])) first

  module _ (s t : Opened C F) (front one : List A) (a b : List B)
      (first : Added told s a b (at_each look front)) (stays : Stays told s t) where
    -- and rows that a later look gives are added to those before
    pub added_then : (c : List B) → Added told t b c (at_each look one)
        → Added told s a c (at_each look (front ++ one))
    added_then c second = record {
      rows = first.rows ++ second.rows;
      is = second.is ∙ ap (λ xs. xs ++ second.rows) first.is ∙ append_assoc a first.rows second.rows;
      gives =
          looks_as s (Ok (first.rows ++ second.rows)) _ _
          (λ memory. sym (each_over (look s.layout memory) front one))
          (look_then told s t first.rows (Ok (first.rows ++ second.rows)) (at_each look front) (λ w memory rows. mapped (λ back. rows ++ back) (at_each look one w memory)) first.gives stays
          (look_then told t t second.rows (Ok (first.rows ++ second.rows)) (at_each look one) (λ w memory back. Ok (first.rows ++ back)) second.gives (here t)
          (look_is told t (first.rows ++ second.rows))));
    }

    -- and one that is refused ends the whole
    pub added_stops : (rest : List A) (f : WalkFault) → Looks {A = List B} told t (Err f) (at_each look one)
        → Looks {A = List B} told s (Err f) (at_each look (front ++ (one ++ rest)))
    added_stops rest f second =
        looks_as s (Err f) _ _ (λ memory. sym (each_over (look s.layout memory) front (one ++ rest)))
        (look_then told s t first.rows (Err f) (at_each look front) (λ w memory rows. mapped (λ back. rows ++ back) (at_each look (one ++ rest) w memory)) first.gives stays
        (look_stops told t f (at_each look (one ++ rest)) (λ w memory back. Ok (first.rows ++ back))
        (looks_as t (Err f) _ _ (λ memory. sym (each_over (look t.layout memory) one rest))
        (look_stops told t f (at_each look one) (λ w memory rows. mapped (λ back. rows ++ back) (at_each look rest w memory)) second))))

    -- where nothing was there before, the rows are what the look gives
    pub all_added : a ≡ [] → Looks told s (Ok b) (at_each look front)
    all_added none =
        let same : first.rows ≡ b = sym (first.is ∙ ap (λ xs. xs ++ first.rows) none) in
        subst (λ x. Looks told s (Ok x) (at_each look front)) same first.gives
