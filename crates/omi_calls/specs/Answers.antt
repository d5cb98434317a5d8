-- What an answer of a callback says, where it is not that the debugger failed.
use Rattle.std.specs.Prelude.{◌≡◌, ℕ, Option, Some, None, IsSome}
use Rattle.omi_calls.specs.declared.callbacks.Got.{Got}
use Rattle.omi_calls.specs.declared.callbacks.Got.TheVariants.{Bytes, NotMapped}
use Rattle.omi_calls.specs.declared.callbacks.Place.{Place}
use Rattle.omi_calls.specs.declared.callbacks.Place.TheVariants.{At, NoSuch}

-- whether there is a word
abbrev pub SaysMapped : Got → Option ℕ → Type 0
SaysMapped Bytes word = IsSome word
SaysMapped NotMapped word = word ≡ None
SaysMapped _ word = Unit {0}

-- where a symbol is, if anywhere
abbrev pub SaysPlace : Place → Option ℕ → Type 0
SaysPlace (At addr) symbol = symbol ≡ Some addr
SaysPlace NoSuch symbol = symbol ≡ None
SaysPlace _ symbol = Unit {0}
