-- What a verb gave and what a call of it leaves of the file that it writes and of the output.
use Rattle.std.specs.Prelude.{◌≡◌, ◌⊎◌, ℕ, List, Option, Some, None, Result, Ok, Err, ⊤}
use Rattle.std.specs.Global.{Vec}
use Rattle.omi_outside.specs.Outside.{Told, holding, IsCut, IsPutCut, put_on}
use Rattle.omi_outside.specs.declared.status.Status.{Status}
use Rattle.omi_outside.specs.declared.status.Status.TheVariants as status
use Rattle.omi_frame.specs.Refusal.{IsLate, refusal_line, status_of}
use Rattle.omi_frame.specs.Said.{IsSaid}
use Rattle.omi_frame.specs.Verb.{Gives, Verb}
use Rattle.omi_frame.specs.declared.refusal.Input.{Input}
use Rattle.omi_frame.specs.declared.refusal.Input.TheVariants as input
use Rattle.omi_frame.specs.declared.refusal.Refusal.{Refusal}
use Rattle.omi_frame.specs.declared.refusal.Refusal.TheVariants as refusal

-- a fault before anything is written, of a file that the verb reads or of memory; and one after all is, of a file that it reads back or of
-- memory
abbrev pub IsEarly : Verb → Refusal → Type 0
IsEarly v (refusal.ReadFault read) = v.reads_first read
IsEarly v refusal.OutOfMemory = ⊤
IsEarly v r = ⊥

abbrev pub IsBehind : Verb → Refusal → Type 0
IsBehind v (refusal.ReadFault read) = v.reads_back read
IsBehind v refusal.OutOfMemory = v.reads_back input.Core
IsBehind v r = ⊥

-- the file holds what a verb writes; one that writes nothing leaves it
abbrev pub Holds : Option (List ℕ) → Told → Told → Type 0
Holds None old new = new ≡ old
Holds (Some bytes) old new = new ≡ holding old bytes

-- a verb's file is not written to its end: it is as before, or holds a front of the bytes that is not all. Or it is written whole
abbrev pub IsHalfWritten : Verb → (List ℕ → Told) → Told → Told → Type 0
IsHalfWritten v told old new = (bytes : List ℕ) × v.is_to_write told bytes × IsCut old new bytes

abbrev pub IsWritten : Verb → (List ℕ → Told) → Told → Told → Type 0
IsWritten v told old new = (bytes : List ℕ) × v.is_to_write told bytes × (new ≡ holding old bytes)

-- What a verb gave, and what it left of the file that it writes: what an answer says and its bytes; or a fault, before the file, within it
-- or behind it.
abbrev pub IsAnswered : Verb → (List ℕ → Told) → Result (Vec ℕ) Refusal → Told → Told → Type 0
IsAnswered v told (Ok text) old new = (written : Option (List ℕ))
    × v.answers told (Gives written (Ok text.items)) × Holds written old new
IsAnswered v told (Err r) old new =
    ((written : Option (List ℕ)) × v.answers told (Gives written (Err r)) × Holds written old new)
    ⊎ ((IsEarly v r × (new ≡ old))
    ⊎ ((IsLate r × IsHalfWritten v told old new) ⊎ (IsBehind v r × IsWritten v told old new)))

-- the file and the output after a fault: the file is not written to its end and nothing put, or it is whole and a front of the answer's
-- text put, which is not all
abbrev pub IsPartlyDone : Verb → (List ℕ → Told) → Told → Told → Option (List ℕ) → Option (List ℕ) → Type 0
IsPartlyDone v told old new out after = (IsHalfWritten v told old new × (after ≡ out))
    ⊎ ((written : Option (List ℕ)) × (text : List ℕ) × v.answers told (Gives written (Ok text))
    × Holds written old new × IsPutCut text out after)

-- an answer says a refusal with this status: its file is written, and the refusal's line is said
abbrev pub IsRefused : Verb → (List ℕ → Told) → Status → Told → Told → Type 0 → Option (List ℕ)
    → Option (List ℕ) → Type 0
IsRefused v told s old new counted out after =
    (r : Refusal) × (status_of r ≡ s) × (written : Option (List ℕ))
    × v.answers told (Gives written (Err r)) × Holds written old new
    × IsSaid (refusal_line v.names r) counted out after

-- a file that the verb reads can't be read, before anything is written or after all is, and the line with that file's name is said
abbrev pub IsReadFailed : Verb → (List ℕ → Told) → Told → Told → Type 0 → Option (List ℕ)
    → Option (List ℕ) → Type 0
IsReadFailed v told old new counted out after = (read : Input)
    × ((v.reads_first read × (new ≡ old)) ⊎ (v.reads_back read × IsWritten v told old new))
    × IsSaid (refusal_line v.names (refusal.ReadFault read)) counted out after

-- memory ran out before anything was written, or after all was and before anything was put
abbrev pub IsUnsaid : Verb → (List ℕ → Told) → Told → Told → Option (List ℕ) → Option (List ℕ) → Type 0
IsUnsaid v told old new out after =
    ((new ≡ old) ⊎ (v.reads_back input.Core × IsWritten v told old new)) × (after ≡ out)

-- What a call with this status leaves of the file that it writes and of the output, where a line that isn't put is counted by the sink.
abbrev pub IsLeft : Verb → (List ℕ → Told) → Status → Told → Told → Type 0 → Option (List ℕ)
    → Option (List ℕ) → Type 0
IsLeft v told status.Success old new counted out after =
    (written : Option (List ℕ)) × (text : List ℕ) × v.answers told (Gives written (Ok text))
    × Holds written old new × (after ≡ put_on out text)
IsLeft v told status.ReadFault old new counted out after = IsReadFailed v told old new counted out after
IsLeft v told status.WriteFault old new counted out after = IsPartlyDone v told old new out after
IsLeft v told status.OutOfMemory old new counted out after =
    IsUnsaid v told old new out after ⊎ IsPartlyDone v told old new out after
IsLeft v told refused old new counted out after = IsRefused v told refused old new counted out after
