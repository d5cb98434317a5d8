-- The record of what is asked about: the runtime's for the address space, and else that of the live object of the handle.
use Rattle.std.specs.Prelude.{ℕ, List, Option, None, Ok}
use Rattle.omi_handle.specs.declared.handle.Kind.{Kind}
use Rattle.omi_handle.specs.declared.handle.Kind.TheVariants as kind
use Rattle.omi_handle.specs.declared.handle.Held.{Held}
use Rattle.omi_rep.specs.Records.{runtime_address}
use Rattle.omi_session.specs.Reads.{Reads, Answer, then_reads}
use Rattle.omi_session.specs.Inquiry.{object_of}
use Rattle.omi_session.specs.Made.{thread_pair, region_pair, task_pair}
use Rattle.omi_icv.specs.declared.scoped.Scoped.{Scoped}
use Rattle.omi_icv.specs.declared.scoped.Scoped.TheVariants.{Space, Thread, Parallel, Task}

-- the handles that are held, by key and serial
abbrev pub Handles : Type 0
Handles = ℕ × ℕ → Option Held

-- what is held of what is asked about. Of the address space nothing is
abbrev pub found_of : Handles → Scoped → Option Held
found_of held Space = None
found_of held (Thread t) = held (thread_pair t)
found_of held (Parallel r) = held (region_pair r)
found_of held (Task k) = held (task_pair k)

module _ (w : List ℕ) where
  -- the address of the record of a handle's object, which has to be live
  unfoldable pub record_of_handle : Kind → Option Held → Reads ℕ
  record_of_handle kind found = then_reads (object_of w kind found) (λ h. Answer (Ok h.addr))

  -- the address of the record of what is asked about. Of the address space no word is read
  abbrev pub record_of : Handles → Scoped → Reads ℕ
  record_of held Space = Answer (Ok (runtime_address w))
  record_of held (Thread t) = record_of_handle kind.Thread (held (thread_pair t))
  record_of held (Parallel r) = record_of_handle kind.Region (held (region_pair r))
  record_of held (Task k) = record_of_handle kind.Task (held (task_pair k))
