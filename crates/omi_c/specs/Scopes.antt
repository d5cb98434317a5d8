-- What is asked about, by the number of a scope and an object.
use Rattle.std.specs.Prelude.{◌==◌, ℕ, List, Option, Some, None, Err, if◌then◌else◌}
use Rattle.omi_handle.specs.declared.handle.Held.{Held}
use Rattle.omi_handle.specs.declared.handle.Kind.TheVariants as kind
use Rattle.omi_icv.specs.declared.scoped.Scope.{Scope}
use Rattle.omi_icv.specs.declared.scoped.Scope.TheVariants.{AddressSpace, Thread, Parallel, Task}
use Rattle.omi_icv.specs.declared.scoped.Scoped.{Scoped}
use Rattle.omi_icv.specs.Records.{Handles}
use Rattle.omi_icv.specs.Scopes.{any_of}
use Rattle.omi_session.specs.declared.rc.Rc.TheVariants.{Unsupported}
use Rattle.omi_session.specs.Reads.{Reads, Answer}
use Rattle.omi_c.specs.declared.answers.Object.{Object}
use Rattle.omi_c.specs.Objects.{held_in}

-- the scope of a number of OpenMP 5.0, of those that variables have
abbrev pub scope_numbered : ℕ → Option Scope
scope_numbered number =
    if number == 2 then Some AddressSpace
    else if number == 3 then Some Thread
    else if number == 4 then Some Parallel
    else if number == 6 then Some Task
    else None

module _ (w : List ℕ) (object : Object) where
  -- what is held of the object in a scope. The address space has none
  abbrev pub held_for : Scope → Option Held
  held_for AddressSpace = None
  held_for Thread = held_in w kind.Thread object
  held_for Parallel = held_in w kind.Region object
  held_for Task = held_in w kind.Task object

  -- the reads of an inquiry for what is asked about. Where a handle is asked about, each stands for the object
  abbrev pub reads_in : {A : Type 0} → (Handles → Scoped → Reads A) → Option Scope → Reads A
  reads_in inquiry (Some scope) = inquiry (λ _. held_for scope) (any_of scope)
  reads_in inquiry None = Answer (Err Unsupported)

  abbrev pub reads_of : {A : Type 0} → ℕ → (Handles → Scoped → Reads A) → Reads A
  reads_of number inquiry = reads_in inquiry (scope_numbered number)
