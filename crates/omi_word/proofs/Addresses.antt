-- The addresses of words, and their places.
use Rattle.std.proofs.Common.{◌≡◌, ℕ, ◌<◌, List, length, arith}
use Rattle.omi_word.specs.Memory.{address_at, place_of, IsWordOf}

-- the word at a place's address is at that place
pub place-address : (place : ℕ) → place_of (address_at place) ≡ place
place-address place = omega arith

-- a place in the list has an address at which a word stands
pub placed_word : (words : List ℕ) (place : ℕ) → place < length words → IsWordOf words (address_at place)
placed_word words place within = record { aligned = omega arith; above = omega arith; below = omega arith }
