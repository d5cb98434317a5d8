-- Where the word of a region for the members that have left is full, each member but member 0 has ended, and no thread owes a departure.
use Rattle.std.proofs.Common.{◌≡◌, ◌≤◌, ◌-◌, zero, suc, Bool, true, false, List, [], ◌∷◌, length, drop, refl, arith}
use Rattle.std.specs.List.{All}
use Rattle.omi_rule_words.specs.Counts.{count_true}

count_few : (bs : List Bool) → count_true bs ≤ length bs
count_few [] = omega arith
count_few (true ∷ bs) = let rest = count_few bs in omega (arith, rest)
count_few (false ∷ bs) = let rest = count_few bs in omega (arith, rest)

all_true : (bs : List Bool) → length bs ≤ count_true bs → All (λ b. b ≡ true) bs
all_true [] full j d below = absurd (omega (arith, below))
all_true (true ∷ bs) full zero d below = refl
all_true (true ∷ bs) full (suc j) d below = all_true bs (omega (arith, full)) j d (omega (arith, below))
all_true (false ∷ bs) full j d below = let few = count_few bs in absurd (omega (arith, few, full))

length_less : (bs : List Bool) → length (drop 1 bs) ≡ length bs - 1
length_less [] = refl
length_less (b ∷ bs) = omega arith

-- the members that have ended, of so many
pub all_ended : (bs : List Bool) → length bs - 1 ≤ count_true (drop 1 bs) → All (λ b. b ≡ true) (drop 1 bs)
all_ended bs full = let less = length_less bs in all_true (drop 1 bs) (omega (arith, full, less))

pub ended_few : (bs : List Bool) → count_true (drop 1 bs) ≤ length bs - 1
ended_few bs = let less = length_less bs in let few = count_few (drop 1 bs) in omega (arith, less, few)
