-- What meeting one more object changes of the marks.
use Rattle.std.specs.Prelude.{◌≡◌, ◌⊎◌, ◌+◌}
use Rattle.omi_model.specs.declared.id.Id.{Id}
use Rattle.omi_machine_view.specs.declared.marks.Marks.{Marks}
use Rattle.omi_machine_view.specs.Marks.{WasMet, unmet}

-- an object is met: it, and no other one
pub record IsMarked (old new : Marks) (n : Id) : Type 0 where
  pub creators : new.creators ≡ old.creators
  pub width : new.width ≡ old.width
  pub kept : (m : Id) → WasMet old.met.items m → WasMet new.met.items m
  pub only : (m : Id) → WasMet new.met.items m → WasMet old.met.items m ⊎ (m ≡ n)
  pub added : WasMet new.met.items n
  pub fewer : unmet new.met.items + 1 ≡ unmet old.met.items
