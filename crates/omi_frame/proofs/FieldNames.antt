-- The texts that name fields: none is long, and a number past the last field has none.
use Rattle.std.proofs.Common.{◌≡◌, ◌<◌, ◌≤◌, [], ℕ, Bool, true, false, List, length, refl, sym, ◌∙◌, ap, arith, leb-false}
use Rattle.std.specs.Prelude.{nat_le}
use Rattle.std.specs.List.{list_all}
use Rattle.std.proofs.lemmas.Bool.{leb-true}
use Rattle.std.proofs.lemmas.List.{get_or_past}
use Rattle.std.proofs.lemmas.List.Folds.{list_all_at}
use Rattle.omi_layout.specs.declared.limits.TheConstants.{FIELDS}
use Rattle.omi_layout.specs.Named.{field_text, names}

abbrev is_short : List ℕ → Bool
is_short name = nat_le (length name) 32

all_short : list_all is_short names ≡ true
all_short = refl

pub no_name : (f : ℕ) → FIELDS < f → field_text f ≡ []
no_name f past = get_or_past names f [] (omega (arith, past))

short_named : (f : ℕ) → f ≤ FIELDS → (b : Bool) → is_short (field_text f) ≡ b → length (field_text f) ≤ 32
short_named f within true short = leb-true (length (field_text f)) 32 short
short_named f within false long =
    let wrong : true ≡ false = sym all_short ∙ list_all_at is_short names f [] (omega (arith, within)) long in absurd (cc)

pub short : (f : ℕ) → length (field_text f) ≤ 32
short f = go (nat_le f FIELDS) refl
  where
    go : (b : Bool) → nat_le f FIELDS ≡ b → length (field_text f) ≤ 32
    go true within = short_named f (leb-true f FIELDS within) (is_short (field_text f)) refl
    go false past =
        let none : length (field_text f) ≡ 0 = ap (λ (name : List ℕ). length name) (no_name f (leb-false f FIELDS past)) in omega (arith, none)
