-- Kinds of statuses, and when a status comes.
use Rattle.std.specs.Prelude.{◌≡◌, ◌⊎◌, ⊤}
use Rattle.omi_outside.specs.declared.status.Status.{Status}
use Rattle.omi_outside.specs.declared.status.Status.TheVariants as status

-- a fault of the outside before the command answers, or want of memory
abbrev pub IsFaultStatus : Status → Type 0
IsFaultStatus status.ReadFault = ⊤
IsFaultStatus status.OutOfMemory = ⊤
IsFaultStatus other = ⊥

-- a status comes exactly where a fact holds, but for a fault of reading and for want of memory
abbrev pub ComesWhere : Status → Status → Type 0 → Type 0
ComesWhere status result fact = (result ≡ status → fact)
    × (fact → (result ≡ status) ⊎ IsFaultStatus result)

-- a core is refused: for its bytes, for the layout in its words, or by the look at them
abbrev pub IsOfCore : Status → Type 0
IsOfCore status.Core = ⊤
IsOfCore status.Damaged = ⊤
IsOfCore status.Incompatible = ⊤
IsOfCore other = ⊥

-- printing ended well, with a fault, or for want of memory
abbrev pub IsPrinting : Status → Type 0
IsPrinting s = (s ≡ status.Success) ⊎ ((s ≡ status.WriteFault) ⊎ (s ≡ status.OutOfMemory))

-- a fault of the outside, or want of memory
abbrev pub IsOutsideStatus : Status → Type 0
IsOutsideStatus status.ReadFault = ⊤
IsOutsideStatus status.WriteFault = ⊤
IsOutsideStatus status.OutOfMemory = ⊤
IsOutsideStatus other = ⊥

-- all is done, or a file or the output failed or memory ran out: nothing is refused
abbrev pub IsDoneOrFailed : Status → Type 0
IsDoneOrFailed status.Success = ⊤
IsDoneOrFailed other = IsOutsideStatus other
