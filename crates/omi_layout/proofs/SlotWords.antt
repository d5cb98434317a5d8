-- The slots of a task are words of its last field in every version, and so are the words for groups in the version that has them.
use Rattle.std.proofs.Common.{◌≡◌, ◌==◌, ◌+◌, ◌<◌, ◌≤◌, ℕ, Bool, true, false, List, sym, subst, arith, if◌then◌else◌}
use Rattle.omi_numbers.specs.declared.limits.TheConstants.{OWN_SLOTS}
use Rattle.omi_layout.specs.declared.field.Field.TheVariants.{TaskSlots}
use Rattle.omi_layout.specs.declared.limits.TheConstants.{GROUP_VERSION, GROUP_WORDS}
use Rattle.omi_layout.specs.Named.{number}
use Rattle.omi_layout.specs.Table.{slot_words, version, width}

pub own_slots_within : (v : ℕ) → OWN_SLOTS ≤ slot_words v
own_slots_within v = go (v == GROUP_VERSION)
  where
    go : (b : Bool) → OWN_SLOTS ≤ (if b then OWN_SLOTS + GROUP_WORDS else OWN_SLOTS)
    go true = omega arith
    go false = omega arith

-- an own slot is a word of the field
pub slot_within : (w : List ℕ) (place : ℕ) → place < OWN_SLOTS → place < width w (number TaskSlots)
slot_within w place less = let few = own_slots_within (version w) in omega (arith, few, less)

-- a word for groups is one where the version has them
pub group_word_within : (w : List ℕ) (place : ℕ) → version w ≡ GROUP_VERSION → place < OWN_SLOTS + GROUP_WORDS
    → place < width w (number TaskSlots)
group_word_within w place known less = subst (λ v. place < slot_words v) (sym known) less
