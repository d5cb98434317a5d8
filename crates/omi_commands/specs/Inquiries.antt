-- What a refusal of the library, and the fault of a look at words, are handed on as. A callback that fails is a read that failed.
use Rattle.std.specs.Prelude.{⊤}
use Rattle.omi_rep.specs.declared.fault.LookFault.{LookFault}
use Rattle.omi_rep.specs.declared.fault.LookFault.TheVariants as look
use Rattle.omi_session.specs.declared.rc.Rc.{Rc}
use Rattle.omi_session.specs.declared.rc.Rc.TheVariants as code
use Rattle.omi_frame.specs.Refusal.{IsUnread}
use Rattle.omi_frame.specs.declared.refusal.Input.TheVariants as input
use Rattle.omi_frame.specs.declared.refusal.Refusal.{Refusal}
use Rattle.omi_frame.specs.declared.refusal.Refusal.TheVariants as refusal
use Rattle.omi_walk.specs.declared.fault.WalkFault.{WalkFault}
use Rattle.omi_walk.specs.declared.fault.WalkFault.TheVariants as walk

-- the code of a session that doesn't open, or of an inquiry on a handle
abbrev pub refusal_of_code : Rc → Refusal
refusal_of_code code.CallbackError = refusal.ReadFault input.Core
refusal_of_code (code.Error addr field) = refusal.Damaged addr field
refusal_of_code other = refusal.Incompatible

-- what the fault of a look at the words is handed on as
abbrev pub refusal_of_look : LookFault → Refusal
refusal_of_look (look.Damaged addr field) = refusal.Damaged addr field
refusal_of_look (look.Cycle addr) = refusal.Cycle addr

-- and that of a walk. A callback that fails is a read that failed
abbrev pub refusal_of_walk : WalkFault → Refusal
refusal_of_walk (walk.Damaged addr field) = refusal.Damaged addr field
refusal_of_walk (walk.Cycle addr) = refusal.Cycle addr
refusal_of_walk walk.Callback = refusal.ReadFault input.Core
refusal_of_walk walk.OutOfMemory = refusal.OutOfMemory

-- a refusal of words that are read one at a time
abbrev pub ComesOfWords : Refusal → Type 0
ComesOfWords refusal.Incompatible = ⊤
ComesOfWords (refusal.Damaged addr field) = ⊤
ComesOfWords (refusal.Cycle addr) = ⊤
ComesOfWords r = IsUnread input.Core r
