-- Chains of objects, of which none comes twice.
use Rattle.std.specs.Prelude.{ℕ, Bool, List, map, Option, Some, None, Result, Ok, Err, if◌then◌else◌}
use Rattle.omi_model.specs.declared.id.Id.{Id}
use Rattle.omi_walk.specs.declared.fault.WalkFault.{WalkFault}
use Rattle.omi_walk.specs.declared.fault.WalkFault.TheVariants.{Cycle}
use Rattle.omi_walk.specs.declared.met.Met.{Met}

-- an object whose record was not met before
abbrev pub unmet : (ℕ → Bool) → Option Met → Result (Option Met) WalkFault
unmet before None = Ok None
unmet before (Some m) = if before m.held.addr then Err (Cycle m.held.addr) else Ok (Some m)

-- the names of a chain
abbrev pub names_of : Result (List Met) WalkFault → Result (List Id) WalkFault
names_of (Ok chain) = Ok (map (λ m. m.name) chain)
names_of (Err fault) = Err fault
