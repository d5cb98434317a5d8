-- What callbacks over known words tell, and what they keep.
use Rattle.std.specs.Prelude.{ℕ, List, Option, Some, None}
use Rattle.omi_calls.specs.Asked.{Asked}
use Rattle.omi_calls.specs.Told.{Told}
use Rattle.omi_c.specs.declared.calls.KnownCalls.{KnownCalls}
use Rattle.omi_c.specs.declared.finding.KnownInOrder.{KnownInOrder}
use Rattle.omi_c.specs.declared.known.Known.{Known}
use Rattle.omi_c.specs.Known.{told_by_known}

abbrev pub words_of : KnownInOrder → List Known
words_of words = words.known.now

abbrev pub told_of : KnownCalls → Told
told_of calls = told_by_known (words_of calls.known)

-- how many calls failed
abbrev pub faults_of : KnownCalls → ℕ
faults_of calls = calls.faults

-- the address of the latest word that was asked for and isn't known, if one was
abbrev pub missed_of : KnownCalls → Option ℕ
missed_of calls = calls.missed

-- they list nothing, and keep this address
abbrev pub asked_of : KnownCalls → Asked
asked_of calls = record { listed = None; missed = Some (missed_of calls) }
