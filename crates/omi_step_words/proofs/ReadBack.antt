-- What words name is read back from them.
use Rattle.std.proofs.Common.{◌≡◌, ◌%◌, ◌^◌, ◌<◌, ◌==◌, nat_lt, refl, arith, eqb-true, ltb-true}
use Rattle.omi_layout.specs.Place.{slot_address}
use Rattle.omi_layout.proofs.Arenas.{positive, test_left, test_right}
use Rattle.omi_step_words.specs.WordLaws.{FunctionsAreReadBack, GenerationsAreReadBack, LifeGoesUpByOne, PlacesAreReadBack}
use Rattle.omi_step_words.proofs.Places.{found_place}

pub places_back : PlacesAreReadBack
places_back w kind creator slot v is k =
    found_place w kind (slot_address w kind creator slot) creator slot (positive w v.inside kind is) k refl

pub functions_back : FunctionsAreReadBack
functions_back f h = omega (arith, h)

pub generations_back : GenerationsAreReadBack
generations_back n h = omega (arith, h)

pub taken_up : LifeGoesUpByOne
taken_up at life free =
    let even : life % 2 ≡ 0 = eqb-true (life % 2) 0 (test_left (life % 2 == 0) (nat_lt life (2 ^ 33)) free) in
    let low : life < 2 ^ 33 =
    ltb-true life (2 ^ 33) (test_right (life % 2 == 0) (nat_lt life (2 ^ 33)) free) in
    omega (arith, even, low)
