-- What a walk makes of the refusal of an inquiry.
use Rattle.std.specs.Prelude.{Option, Some, None, Result, Ok, Err}
use Rattle.omi_handle.specs.declared.handle.Held.{Held}
use Rattle.omi_layout.specs.declared.field.Field.TheVariants.{RegionSize}
use Rattle.omi_layout.specs.Named.{number}
use Rattle.omi_rep.specs.Look.{life_of}
use Rattle.omi_session.specs.declared.rc.Rc.{Rc}
use Rattle.omi_session.specs.declared.rc.Rc.TheVariants.{Unavailable, StaleHandle, BadInput, Error, Unsupported, NeedsStateTracking, Incompatible, NoMem, Incomplete, CallbackError}
use Rattle.omi_session.specs.Named.{record_kind}
use Rattle.omi_walk.specs.declared.fault.WalkFault.{WalkFault}
use Rattle.omi_walk.specs.declared.fault.WalkFault.TheVariants.{Damaged, Callback, OutOfMemory}

-- the life word of the record that a handle stands for. Where the words are told, it is never refused
abbrev pub stale : Option Held → WalkFault
stale (Some h) = Damaged h.addr (number (life_of (record_kind h.kind)))
stale None = Damaged 0 0

abbrev pub fault_of : Option Held → Rc → WalkFault
fault_of found (Error addr field) = Damaged addr field
fault_of found CallbackError = Callback
fault_of found NoMem = OutOfMemory
fault_of found Unavailable = stale found
fault_of found StaleHandle = stale found
fault_of found BadInput = stale found
fault_of found Unsupported = stale found
fault_of found NeedsStateTracking = stale found
fault_of found Incompatible = stale found
fault_of found (Incomplete first) = stale found

-- the same of an inquiry for a member of a region, whose number was below the region's size: one that isn't below the size any more is a
-- damaged size
abbrev pub damaged_size : Option Held → WalkFault
damaged_size (Some region) = Damaged region.addr (number RegionSize)
damaged_size None = Damaged 0 0

abbrev pub member_fault : Option Held → Rc → WalkFault
member_fault found BadInput = damaged_size found
member_fault found rc = fault_of found rc

-- the answer of an inquiry, to a walk
abbrev pub walked : {A : Type 0} → Option Held → Result A Rc → Result A WalkFault
walked found (Ok x) = Ok x
walked found (Err rc) = Err (fault_of found rc)

-- the same of an inquiry for an object of which there may be none
abbrev pub absent : {A : Type 0} → Option Held → Rc → Result (Option A) WalkFault
absent found Unavailable = Ok None
absent found rc = Err (fault_of found rc)

-- and of one for a state, where the target may keep none
abbrev pub untracked : {A : Type 0} → Option Held → Rc → Result (Option A) WalkFault
untracked found NeedsStateTracking = Ok None
untracked found rc = Err (fault_of found rc)
