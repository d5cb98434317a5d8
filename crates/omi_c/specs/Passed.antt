-- Where known words are looked for in the order in which they stand.
use Rattle.std.specs.Prelude.{◌≡◌, ◌<◌, ℕ, List, drop}
use Rattle.omi_c.specs.declared.known.Known.{Known}
use Rattle.omi_c.specs.Known.{known_at}

-- the words before a place are at no address above the highest
abbrev pub IsPassed : List Known → ℕ → ℕ → Type 0
IsPassed known next highest = (addr : ℕ) → highest < addr → known_at known addr ≡ known_at (drop next known) addr
