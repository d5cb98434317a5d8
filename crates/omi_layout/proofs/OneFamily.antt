-- A family has one layout for a number of threads.
use Rattle.std.proofs.Common.{◌≡◌, ◌+◌, ◌-◌, ◌<◌, ◌≤◌, ◌⊎◌, inl, inr, ℕ, List, length, slice_index, sym, ◌∙◌, subst, arith}
use Rattle.std.proofs.lemmas.Bool.{cases_lt}
use Rattle.std.proofs.lemmas.List.{ext_get_or}
use Rattle.omi_layout.specs.declared.limits.TheConstants.{FIELDS, GROUP_VERSION}
use Rattle.omi_layout.specs.Family.{IsFamily, IsFamilyOf}
use Rattle.omi_layout.proofs.Arenas.{next_below}
use Rattle.omi_layout.proofs.Frame.{kind_1, kind_2, kind_3, kind_4}

module _ (v k t : ℕ) (w u : List ℕ) (a : IsFamilyOf v k t w) (b : IsFamilyOf v k t u) where
  abbrev Same : ℕ → Type 0
  Same i = slice_index w i ≡ slice_index u i

  in_front : (i : ℕ) → i < 12 → Same i
  in_front i =
      next_below Same 11 i (
      next_below Same 10 i (
      next_below Same 9 i (
      next_below Same 8 i (
      next_below Same 7 i (
      next_below Same 6 i (
      next_below Same 5 i (
      next_below Same 4 i (
      next_below Same 3 i (
      next_below Same 2 i (
      next_below Same 1 i (
      next_below Same 0 i (λ less. absurd (omega (arith, less))) (a.known ∙ sym b.known))
      (a.places 1 kind_1 ∙ sym (b.places 1 kind_1)))
      (a.sizes 1 kind_1 ∙ sym (b.sizes 1 kind_1)))
      (a.places 2 kind_2 ∙ sym (b.places 2 kind_2)))
      (a.sizes 2 kind_2 ∙ sym (b.sizes 2 kind_2)))
      (a.threads ∙ sym b.threads))
      (a.places 3 kind_3 ∙ sym (b.places 3 kind_3)))
      (a.sizes 3 kind_3 ∙ sym (b.sizes 3 kind_3)))
      (a.regions ∙ sym b.regions))
      (a.places 4 kind_4 ∙ sym (b.places 4 kind_4)))
      (a.sizes 4 kind_4 ∙ sym (b.sizes 4 kind_4)))
      (a.tasks ∙ sym b.tasks)

  same_at : (i : ℕ) → i < length w → Same i
  same_at i within = go (cases_lt i 12)
    where
      go : (i < 12) ⊎ (12 ≤ i) → Same i
      go (inl less) = in_front i less
      go (inr more) =
          let words = a.words in
          let from : 1 ≤ i - 11 = omega (arith, more) in
          let to : i - 11 ≤ FIELDS = omega (arith, within, words) in
          let here : 11 + (i - 11) ≡ i = omega (arith, more) in
          subst Same here
          (a.offsets (i - 11) (record { from = from; to = to }) ∙ sym (b.offsets (i - 11) (record { from = from; to = to })))

  one_layout : w ≡ u
  one_layout = ext_get_or 0 w u (a.words ∙ sym b.words) same_at

pub one_family : (k t : ℕ) (w u : List ℕ) → IsFamily k t w → IsFamily k t u → w ≡ u
one_family k t w u a b = one_layout GROUP_VERSION k t w u a b
