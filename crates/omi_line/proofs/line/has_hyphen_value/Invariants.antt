use Rattle.std.proofs.Common.{◌≡◌, map, string_bytes, false, drop}
use Rattle.omi_line.specs.Hyphen.{gives_hyphen}
use Rattle.omi_line.proofs.line.has_hyphen_value.Given as goal

abbrev pub invariant-loop-word : goal.invariant-loop-word
invariant-loop-word l =
    gives_hyphen (drop l.word-index (map string_bytes l.words)) l.is_waiting ≡ gives_hyphen (map string_bytes l.words) false
