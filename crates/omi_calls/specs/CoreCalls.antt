-- What callbacks over a core tell of it.
use Rattle.omi_calls.specs.Memory.{told_of}
use Rattle.omi_calls.specs.Told.{Told}
use Rattle.omi_calls.specs.declared.core_calls.CoreCalls.{CoreCalls}

abbrev pub told_of_core : CoreCalls → Told
told_of_core calls = told_of calls.calls
