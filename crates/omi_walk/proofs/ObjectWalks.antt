-- An inquiry for an object: it was found and let go, or it was refused.
use Rattle.std.proofs.Common.{◌≡◌, ℕ, Option, Some, refl, sym, ap, ◌∙◌}
use Rattle.std.specs.FinMap.{get}
use Rattle.std.specs.Option.{option_map}
use Rattle.std.specs.Prelude.{Result, Ok, Err}
use Rattle.omi_calls.specs.Asked.{Asked}
use Rattle.omi_calls.specs.Told.{Told}
use Rattle.omi_handle.specs.declared.handle.Held.{Held}
use Rattle.omi_session.specs.declared.rc.Rc.{Rc}
use Rattle.omi_session.specs.declared.rc.Rc.TheVariants.{NoMem, CallbackError}
use Rattle.omi_session.specs.Handles.{name_of}
use Rattle.omi_session.specs.Made.{Answered}
use Rattle.omi_session.specs.Opened.{Opened}
use Rattle.omi_session.specs.Reads.{Reads}
use Rattle.omi_walk.specs.declared.fault.WalkFault.{WalkFault}
use Rattle.omi_walk.specs.declared.fault.WalkFault.TheVariants.{Callback, OutOfMemory}
use Rattle.omi_walk.specs.declared.met.Met.{Met}
use Rattle.omi_walk.specs.Asking.{ask_maybe, ask_object, maybe_absent, met}
use Rattle.omi_walk.specs.Fault.{absent}
use Rattle.omi_walk.specs.Walks.{Walks}
use Rattle.omi_walk.proofs.AskedObjects.{absent_map, met_is}
use Rattle.omi_walk.proofs.Goes.{of_made_err, of_made_ok, walks_err, walks_map, walks_ok}

-- the object that a handle stood for, by its name
named : {C F : Type 0} (s mid : Opened C F) (m : Met) → mid.layout ≡ s.layout → name_of mid.layout m.held ≡ Some m.name
    → m ≡ met s.layout m.held
named s mid m layout name = met_is s.layout m (ap (λ w. name_of w m.held) (sym layout) ∙ name)

module _ {C F : Type 0} {told : C → Told} {asked : C → Asked} {s mid new : Opened C F} {reads : Reads Held} {pair : ℕ × ℕ}
    (m : Met) (answered : Answered told asked s mid (Ok pair) reads) (there : get mid.handles.held pair ≡ Some m.held)
    (name : name_of mid.layout m.held ≡ Some m.name) (layout : mid.layout ≡ s.layout) (table : new.table ≡ mid.table) where
  -- it was found
  pub object_found : (change : Result Held Rc → Result Held WalkFault) → change (Err CallbackError) ≡ Err Callback → change (Ok m.held) ≡ Ok m.held
      → Walks told asked s new (Ok m) (ask_object s.layout change reads)
  unfolding ask_object
  object_found change failed is =
      walks_ok told asked s new (met s.layout) m.held m _ (named s mid m layout name)
      (of_made_ok told asked s mid new pair m.held reads change m.held failed answered there is table)

  -- the same of one of which there may be none
  pub maybe_found : (found : Option Held) → Walks told asked s new (Ok (Some m)) (ask_maybe s.layout found reads)
  unfolding ask_maybe
  maybe_found found =
      walks_ok told asked s new (option_map (met s.layout)) (Some m.held) (Some m) _ (ap Some (named s mid m layout name))
      (of_made_ok told asked s mid new pair m.held reads (maybe_absent found) (Some m.held) refl answered there refl table)

module _ {C F : Type 0} {told : C → Told} {asked : C → Asked} {s mid : Opened C F} {reads : Reads Held} {rc : Rc}
    (answered : Answered told asked s mid (Err rc) reads) where
  -- it was refused
  pub object_refused : (change : Result Held Rc → Result Held WalkFault) (fault : WalkFault)
      → change (Err CallbackError) ≡ Err Callback → change (Err NoMem) ≡ Err OutOfMemory → Err fault ≡ change (Err rc)
      → Walks told asked s mid (Err fault) (ask_object s.layout change reads)
  unfolding ask_object
  object_refused change fault failed full is =
      walks_err told asked s mid (met s.layout) fault _ (of_made_err told asked s mid rc reads change (Err fault) failed full is answered)

  -- or there may be none
  pub maybe_refused : (found : Option Held) (r : Result (Option Met) WalkFault) → r ≡ absent found rc
      → Walks told asked s mid r (ask_maybe s.layout found reads)
  unfolding ask_maybe
  maybe_refused found r is =
      walks_map told asked s mid (option_map (met s.layout)) (absent {A = Held} found rc) r _ (is ∙ absent_map (met s.layout) found rc)
      (of_made_err told asked s mid rc reads (maybe_absent found) (absent {A = Held} found rc) refl refl refl answered)
