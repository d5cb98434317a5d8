-- The size of a region, as the told words have it, and what is made of a member that is none by it.
use Rattle.std.specs.Prelude.{ℕ, List, Ok, Err}
use Rattle.omi_calls.specs.Told.{Told}
use Rattle.omi_layout.specs.declared.field.Field.TheVariants.{RegionSize}
use Rattle.omi_layout.specs.Field.{regions}
use Rattle.omi_layout.specs.Named.{number}
use Rattle.omi_model.specs.declared.id.Id.{Id}
use Rattle.omi_rep.specs.declared.fault.LookFault.TheVariants.{Damaged}
use Rattle.omi_rep.specs.Look.{Look, id_address}
use Rattle.omi_session.specs.Opened.{Opened}
use Rattle.omi_walk.specs.Gives.{Looks}
use Rattle.omi_walk.specs.Parts.{look_size}

abbrev pub HasSize : {C F : Type 0} → (C → Told) → Opened C F → Id → ℕ → Type 0
HasSize told s n size = Looks told s (Ok size) (λ w memory. look_size w memory n)

-- the size of a region is refused
abbrev pub size_refused : List ℕ → Id → Look Id
size_refused w n = Err (Damaged (id_address w regions n) (number RegionSize))
