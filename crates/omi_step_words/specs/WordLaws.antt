-- Laws of the words that steps store and read back.
use Rattle.std.specs.Prelude.{◌≡◌, ℕ, ◌+◌, ◌^◌, ◌<◌, true, List}
use Rattle.omi_model.specs.declared.id.Id.{Id}
use Rattle.omi_numbers.specs.Addresses.{entry_address, function_at}
use Rattle.omi_layout.specs.Field.{IsKind}
use Rattle.omi_layout.specs.Place.{IsSlot, slot_address}
use Rattle.omi_layout.specs.Valid.{IsValid}
use Rattle.omi_pc.specs.declared.place.Place.{Place}
use Rattle.omi_step_words.specs.Words.{generation_of, is_free, object_in, place_at, used_word}

-- the address of a record tells its slot
abbrev pub PlacesAreReadBack : Type 0
PlacesAreReadBack =
    (w : List ℕ) (kind creator slot : ℕ) → IsValid w → IsKind kind → IsSlot w kind creator slot
    → place_at w kind (slot_address w kind creator slot)
    ≡ record { creator = creator; slot = slot }

-- the entry address of a function tells its number
abbrev pub FunctionsAreReadBack : Type 0
FunctionsAreReadBack = (f : ℕ) → f < 256 → function_at (entry_address f) ≡ f

-- the life word of a record in use tells the generation of its object
abbrev pub GenerationsAreReadBack : Type 0
GenerationsAreReadBack =
    (n : Id) → n.generation < 2 ^ 32 → generation_of (used_word n) ≡ n.generation

-- a record is taken by the life word that is one more than the one found
abbrev pub LifeGoesUpByOne : Type 0
LifeGoesUpByOne =
    (at : Place) (life : ℕ) → is_free life ≡ true → used_word (object_in at life) ≡ life + 1
