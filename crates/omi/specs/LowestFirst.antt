-- What is told with the lowest byte of a word first.
use Rattle.std.specs.Option.{option_map}
use Rattle.omi_calls.specs.Told.{Told}

-- the same words and symbols
abbrev pub lowest_first : Told → Told
lowest_first told = record told { order = option_map (λ _. 0) told.order }
