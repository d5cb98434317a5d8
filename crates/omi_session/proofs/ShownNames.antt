-- Over words that show a state, the name of a handle's object is the one that the state has for it.
use Rattle.std.proofs.Common.{◌≡◌, ℕ, ◌+◌, ◌*◌, ◌/◌, List, Option, Some, None, sym, ap, subst, ◌∙◌, arith}
use Rattle.std.specs.Prelude.{Result, Ok, Err}
use Rattle.std.specs.Option.{option_map}
use Rattle.omi_handle.specs.declared.handle.Kind.{Kind}
use Rattle.omi_handle.specs.declared.handle.Held.{Held}
use Rattle.omi_layout.specs.Place.{slot_address, IsSlot}
use Rattle.omi_layout.specs.Valid.{IsValid}
use Rattle.omi_model.specs.declared.id.Id.{Id}
use Rattle.omi_session.specs.declared.rc.Rc.{Rc}
use Rattle.omi_session.specs.Named.{record_kind}
use Rattle.omi_session.specs.Inquiry.{live_handle}
use Rattle.omi_session.specs.Handles.{name_of, IsNameOf}
use Rattle.omi_session.proofs.ShownParts.{handle_told}
use Rattle.omi_rep.proofs.Slots.{slot_found}
use Rattle.omi_session.proofs.Slots.{kind_is}

-- the object of a name that is held for a kind has this name
pub name_told : (w : List ℕ) → IsValid w → (kind : Kind) (n : Id)
    → IsSlot w (record_kind kind) n.creator n.slot → (found : Option Held)
    → found ≡ Some (record { kind = kind; addr = slot_address w (record_kind kind) n.creator n.slot; life = 2 * n.generation + 1 })
    → (result : Result Id Rc) → IsNameOf w (live_handle kind found) result → result ≡ Ok n
name_told w valid kind n is found held result named =
    go result
    (subst (λ (h : Result Held Rc). IsNameOf w h result) (handle_told w (λ addr. None) kind (2 * n.generation + 1) (slot_address w (record_kind kind) n.creator n.slot) found held) named)
  where
    object : Held
    object = record { kind = kind; addr = slot_address w (record_kind kind) n.creator n.slot; life = 2 * n.generation + 1 }

    has : name_of w object ≡ Some n
    has =
        let half : (2 * n.generation + 1) / 2 ≡ n.generation = omega arith in
        ap
        (option_map (λ (at : ℕ × ℕ). record { creator = at.0; slot = at.1; generation = (2 * n.generation + 1) / 2 }))
        (slot_found w valid (record_kind kind) (kind_is kind) n.creator n.slot is)
        ∙ ap (λ g. Some (record { creator = n.creator; slot = n.slot; generation = g })) half

    go : (r : Result Id Rc) → IsNameOf w (Ok object) r → r ≡ Ok n
    go (Ok id) h = let both : Some id ≡ Some n = sym h ∙ has in let same : id ≡ n = cc in ap Ok same
    go (Err rc) h = absurd h
