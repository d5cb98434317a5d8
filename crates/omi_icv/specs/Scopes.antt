-- The scopes of control variables by OpenMP 5.0: address space 2, thread 3, parallel 4, task 6. No variable of this profile has the scope global (1) or implicit task (5).
use Rattle.std.specs.Prelude.{ℕ}
use Rattle.omi_icv.specs.declared.scoped.Scope.{Scope}
use Rattle.omi_icv.specs.declared.scoped.Scope.TheVariants as scope
use Rattle.omi_icv.specs.declared.scoped.Scoped.{Scoped}
use Rattle.omi_icv.specs.declared.scoped.Scoped.TheVariants as scoped

abbrev pub scope_number : Scope → ℕ
scope_number scope.AddressSpace = 2
scope_number scope.Thread = 3
scope_number scope.Parallel = 4
scope_number scope.Task = 6

-- the scope of the variables of what is asked about
abbrev pub scope_of : Scoped → Scope
scope_of scoped.Space = scope.AddressSpace
scope_of (scoped.Thread t) = scope.Thread
scope_of (scoped.Parallel r) = scope.Parallel
scope_of (scoped.Task k) = scope.Task

-- what is asked about in a scope, by a handle that doesn't matter: the inquiry takes this for held under each
abbrev pub any_of : Scope → Scoped
any_of scope.AddressSpace = scoped.Space
any_of scope.Thread = scoped.Thread (record { key = 0; serial = 0 })
any_of scope.Parallel = scoped.Parallel (record { key = 0; serial = 0 })
any_of scope.Task = scoped.Task (record { key = 0; serial = 0 })
