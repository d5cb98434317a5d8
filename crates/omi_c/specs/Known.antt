-- The words of the target that are known, and what they tell.
use Rattle.std.specs.Prelude.{◌==◌, ◌&&◌, ◌%◌, ℕ, Bool, not, List, [], ◌∷◌, Option, Some, None, is_some, if◌then◌else◌}
use Rattle.omi_word.specs.Words.{Words}
use Rattle.omi_calls.specs.Told.{Told, aligned_word_at}
use Rattle.omi_calls.specs.Memory.{usual_sizes}
use Rattle.omi_c.specs.declared.known.Known.{Known}

-- what stands at the address of a known word
abbrev pub word_known : Known → Option ℕ
word_known k = if k.mapped then Some k.word else None

-- the first known word at an address
abbrev pub known_at : List Known → ℕ → Option Known
known_at [] addr = None
known_at (k ∷ more) addr = if k.addr == addr then Some k else known_at more addr

-- what stands at an address by what is known there, and else by other words
abbrev pub known_or : Option Known → Option ℕ → Option ℕ
known_or (Some k) other = word_known k
known_or None other = other

-- known words tell a target's words by those that aren't known
abbrev pub words_by : List Known → Words → Words
words_by known rest addr = known_or (known_at known addr) (rest addr)

-- the word at an address isn't known. At one that is no multiple of 8 none stands, whatever is said to be known there
abbrev pub is_unknown : List Known → ℕ → Bool
is_unknown known addr = addr % 8 == 0 && not (is_some (known_at known addr))

-- the word at an address, where it is known
abbrev pub word_at : List Known → Words
word_at known = aligned_word_at (words_by known (λ _. None))

-- a read fails exactly where the word isn't known
abbrev pub told_by_known : List Known → Told
told_by_known known = record {
  order = Some 0;
  words = λ rest. Some (words_by known rest);
  symbols = None;
  fails = Some (is_unknown known);
  sizes = usual_sizes;
}
