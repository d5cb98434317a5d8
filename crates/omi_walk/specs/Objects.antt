-- The objects that a walk meets, each by its name and what a handle to it stands for.
use Rattle.std.specs.Prelude.{◌≡◌, ℕ, Option, Some, Result, Ok, Err}
use Rattle.std.specs.Option.{option_map}
use Rattle.std.specs.FinMap.{get}
use Rattle.omi_word.specs.Words.{Words}
use Rattle.omi_calls.specs.Told.{Told}
use Rattle.omi_handle.specs.declared.handle.Kind.{Kind}
use Rattle.omi_handle.specs.declared.handle.Held.{Held}
use Rattle.omi_model.specs.declared.id.Id.{Id}
use Rattle.omi_session.specs.Handles.{name_of}
use Rattle.omi_session.specs.Inquiry.{unchanged}
use Rattle.omi_session.specs.Named.{IsNamed}
use Rattle.omi_session.specs.Opened.{Opened}
use Rattle.omi_session.specs.Reads.{answer_on}
use Rattle.omi_session.specs.Tells.{Tells}
use Rattle.omi_walk.specs.declared.fault.WalkFault.{WalkFault}
use Rattle.omi_walk.specs.declared.met.Met.{Met}

-- something of a kind is held
pub record IsHeldAs (kind : Kind) (found : Option Held) : Type 0 where
  pub object : Held
  pub is : found ≡ Some object
  pub of_kind : object.kind ≡ kind

-- a live object of a kind, by its name
pub record IsMet {C F : Type 0} (told : C → Told) (s : Opened C F) (kind : Kind) (met : Met)
    : Type 0 where
  pub of_kind : met.held.kind ≡ kind
  pub place : IsNamed s.layout met.held
  pub name : name_of s.layout met.held ≡ Some met.name
  pub lives : (memory : Words) → Tells (told s.table.calls) memory
      → answer_on memory (unchanged s.layout met.held) ≡ Ok met.held

-- a handle stands for the live object of this name
pub record Stands {C F : Type 0} (told : C → Told) (s : Opened C F) (kind : Kind) (pair : ℕ × ℕ)
    (name : Id) : Type 0 where
  pub object : Held
  pub is : get s.handles.held pair ≡ Some object
  pub met : IsMet told s kind (record { name = name; held = object })

-- the names of what was met
abbrev pub name_met : Result Met WalkFault → Result Id WalkFault
name_met (Ok m) = Ok m.name
name_met (Err fault) = Err fault

abbrev pub names_met : Result (Option Met) WalkFault → Result (Option Id) WalkFault
names_met (Ok o) = Ok (option_map (λ m. m.name) o)
names_met (Err fault) = Err fault

-- the name of what may have been met
abbrev pub name_in : Option Met → Option Id
name_in = option_map (λ m. m.name)
