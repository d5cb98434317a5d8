use Rattle.std.proofs.Common.{◌≡◌, drop}
use Rattle.std.specs.Prelude.{nat_lt}
use Rattle.std.specs.List.{list_any}
use Rattle.omi_process.specs.Words.{place_of, words_to}
use Rattle.omi_process.proofs.segments.is_cut_off.Given as goal

abbrev pub invariant-loop-h : goal.invariant-loop-h
invariant-loop-h l = list_any (λ h. nat_lt l.len (place_of h (words_to h))) (drop l.h-index l.segments)
    ≡ list_any (λ h. nat_lt l.len (place_of h (words_to h))) l.segments
