use Rattle.std.proofs.Common.{◌≡◌, drop, map, string_bytes}
use Rattle.omi_usage.specs.Reading.{first_from}
use Rattle.omi_usage.specs.declared.reading.Mode.TheVariants as mode
use Rattle.omi_usage.proofs.reading.first_of.Given as goal

abbrev pub invariant-loop-word : goal.invariant-loop-word
invariant-loop-word l =
    first_from (drop l.word-index (map string_bytes l.words)) l.mode ≡ first_from (map string_bytes l.words) mode.Word
