use Rattle.std.proofs.Common.{◌≡◌, ℕ, true, false, List, [], ◌∷◌, inr, Err, refl, sym, ap, subst, ◌∙◌, arith, eq-eqb, eqb}
use lib.Pointwise.{pointwise}
use Rattle.omi_session.specs.Opening.{Opens}
use Rattle.omi_session.proofs.OpeningReads.{opens_as}
use Rattle.omi_session.proofs.parted.Parted.over.Goals as goal

-- the test of two lists is true where they are the same
same_words : (xs : List ℕ) → pointwise eqb xs xs ≡ true
same_words [] = refl
same_words (x ∷ xs) = grind (arith, same_words xs, eq-eqb x x refl)

pub returns-else-eq-clause-words : goal.returns-else-eq-clause-words
returns-else-eq-clause-words g c = λ memory t sizes ne. inr (record {
  other = record {
    layout = c.in-Ok.layout.table;
    valid = c.in-Ok.layout.valid;
    gives = c.in-Ok.ensures.words memory t sizes;
    differs = λ same.
        let mine : c.in-Ok.layout.table ≡ c.self.inside.layout.table =
        same ∙ sym (ap (λ s. s.layout) c.self.view_is) in
        let clash : true ≡ false =
        sym (same_words c.in-Ok.layout.table)
        ∙ ap (pointwise eqb c.in-Ok.layout.table) mine
        ∙ sym c.eq.ensures
        ∙ c.if-eq.false in
        cc;
  };
  is = refl;
})

pub returns-then-eq-clause-asked : goal.returns-then-eq-clause-asked
returns-then-eq-clause-asked g c =
    subst (λ k. Opens g.C.Callbacks.told g.C.Callbacks.asked c.args.t k ⊥) (sym c.over.ensures.table)
    (opens_as (λ e. (let is = e in cc)) (λ never. absurd never) c.in-Ok.ensures.asked)

pub returns-else-eq-clause-asked : goal.returns-else-eq-clause-asked
returns-else-eq-clause-asked g c =
    opens_as (λ e. absurd (let is = e in cc)) (λ e. absurd (let is = e in cc)) c.in-Ok.ensures.asked

pub returns-in-Err-clause-asked : goal.returns-in-Err-clause-asked
returns-in-Err-clause-asked g c =
    opens_as (λ e. (let is = e in cc)) (λ e. ap Err e) c.in-Err.ensures.asked
