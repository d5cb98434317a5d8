-- The names of objects and the addresses of their records, and handles that are made and let go again.
use Rattle.std.proofs.Common.{◌≡◌, inl, inr, ℕ, ◌/◌, Bool, cond, List, Option, Some, None, refl, sym, ap, ◌∙◌}
use Rattle.std.specs.Option.{option_map}
use Rattle.std.specs.Ordering.{eq_by_cmp}
use Rattle.std.specs.FinMap.{FinMap, get, insert, remove, get-insert, get-remove, same_map}
use Rattle.omi_handle.specs.declared.handle.Held.{Held}
use Rattle.omi_handle.specs.Ledger.{pair_cmp}
use Rattle.omi_handle.proofs.HeldLemmas.{pair_cmp_total, pair_cmp_antisymmetric, tied, one_of_both}
use Rattle.omi_model.specs.declared.id.Id.{Id}
use Rattle.omi_layout.specs.Place.{slot_address}
use Rattle.omi_rep.specs.Look.{slot_at, id_address}
use Rattle.omi_session.specs.Handles.{name_of}
use Rattle.omi_session.specs.Named.{record_kind}
use Rattle.omi_rep.proofs.Slots.{slot_is}

-- the record of an object is the one that its name has
pub named_address : (w : List ℕ) (h : Held) (n : Id) → name_of w h ≡ Some n
    → h.addr ≡ id_address w (record_kind h.kind) n
named_address w h n is = go (slot_at w (record_kind h.kind) h.addr) refl is
  where
    go : (o : Option (ℕ × ℕ)) → slot_at w (record_kind h.kind) h.addr ≡ o
        → option_map (λ (at : ℕ × ℕ). record { creator = at.0; slot = at.1; generation = h.life / 2 }) o ≡ Some n
        → h.addr ≡ id_address w (record_kind h.kind) n
    go None e is = absurd (cc)
    go (Some at) e is =
        let there = slot_is w (record_kind h.kind) h.addr at e in
        let same : record { creator = at.0; slot = at.1; generation = h.life / 2 } ≡ n = cc in
        there.1 ∙ ap (λ (m : Id). slot_address w (record_kind h.kind) m.creator m.slot) same

-- what was added and let go again leaves all as it was
pub restored : (held : FinMap pair_cmp Held) (pair : ℕ × ℕ) (h : Held) → get held pair ≡ None
    → remove (insert held pair h) pair ≡ held
restored held pair h unheld = same_map pair_cmp_total pair_cmp_antisymmetric _ _ (λ other.
    get-remove pair_cmp_total (insert held pair h) pair other
    ∙ elim (one_of_both (eq_by_cmp pair_cmp other pair)) [
      | inl is ↦ rw is (sym (ap (get held) (tied other pair is) ∙ unheld))
      | inr is ↦ rw is (get-insert pair_cmp_total held pair h other ∙ ap (λ (b : Bool). cond b (Some h) (get held other)) is)
    ])
