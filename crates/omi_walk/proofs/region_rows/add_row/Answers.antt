use Rattle.std.proofs.Common.{◌≡◌, ◌∷◌, [], List, Some, None, sym, ap, subst, ◌∙◌, refl, append-nil}
use Rattle.std.specs.Option.{option_copied}
use Rattle.std.specs.Ordering.{nat_cmp}
use Rattle.std.specs.BTreeMap.{get}
use Rattle.std.proofs.lemmas.Result.{err_from_is_err_and}
use Rattle.omi_walk.specs.Index.{slot_key}
use Rattle.std.specs.Prelude.{Ok, Err}
use Rattle.omi_walk.specs.declared.met.Met.{Met}
use Rattle.omi_walk.specs.declared.fault.WalkFault.TheVariants.{OutOfMemory}
use Rattle.omi_walk.specs.Walks.{Walks}
use Rattle.omi_walk.specs.Asking.{ask_each}
use Rattle.omi_walk.specs.AskRegions.{ask_region}
use Rattle.omi_walk.proofs.SlotsAsked.{one_found, none_found}
use Rattle.omi_walk.proofs.EachAsked.{asks_begin, asks_next, asks_stop, asks_end}
use Rattle.omi_walk.proofs.Goes.{goes_unsaid}
use Rattle.omi_walk.proofs.region_rows.add_row.Goals as goal

-- reads: what was asked

pub returns-in_default-clause-reads : goal.returns-in_default-clause-reads
returns-in_default-clause-reads g c =
    let told = g.C.Callbacks.told in
    let asked = g.C.Callbacks.asked in
    let s = c.args.s.now in
    let none : get nat_cmp c.args.index.now (slot_key c.args.slot.0 c.args.slot.1) ≡ None =
    ap (get nat_cmp c.args.index.now) (sym c.slot_key.ensures)
    ∙ sym c.get.ensures.value
    ∙ ap option_copied c.in_default.is in
    record {
      rows = [];
      is = sym (append-nil c.args.rows.now);
      walks =
          subst (λ (xs : List Met). Walks told asked s s (Ok []) (ask_each (ask_region s.layout) xs))
          (sym (none_found c.args.index.now c.args.slot.0 c.args.slot.1 none))
          (asks_end told asked s (0, 0) (λ w k m. ask_region w m) [] s [] (asks_begin told asked s (0, 0) (λ w k m. ask_region w m) []));
    }

pub returns-in_err-row-clause-reads : goal.returns-in_err-row-clause-reads
returns-in_err-row-clause-reads g c =
    let told = g.C.Callbacks.told in
    let asked = g.C.Callbacks.asked in
    let p = err_from_is_err_and c.from_residual.result c.from_residual.ensures.1 in
    let s = c.args.s.now in
    let some : get nat_cmp c.args.index.now (slot_key c.args.slot.0 c.args.slot.1) ≡ Some c.in-Some.region.now =
    ap (get nat_cmp c.args.index.now) (sym c.slot_key.ensures)
    ∙ sym c.get.ensures.value
    ∙ ap option_copied c.in-Some.is in
    let m = c.in-Some.region.now in
    let there = sym (one_found c.args.index.now c.args.slot.0 c.args.slot.1 m some) in
    rw (p.1, p.2) (subst (λ (xs : List Met). Walks told asked s c.region_row.new.s (Err c.in_err-row.field-0.0) (ask_each (ask_region s.layout) xs)) there
    (asks_stop told asked s (0, 0) (λ w k m. ask_region w m) (m ∷ []) s c.region_row.new.s [] m [] c.in_err-row.field-0.0 (Err c.in_err-row.field-0.0) (asks_begin told asked s (0, 0) (λ w k m. ask_region w m) (m ∷ [])) c.in_err-row.ensures.reads refl))

pub returns-in_err-push-clause-reads : goal.returns-in_err-push-clause-reads
returns-in_err-push-clause-reads g c =
    let told = g.C.Callbacks.told in
    let asked = g.C.Callbacks.asked in
    let p = err_from_is_err_and c.from_residual-in_err-push.result c.from_residual-in_err-push.ensures.1 in
    let s = c.args.s.now in
    let some : get nat_cmp c.args.index.now (slot_key c.args.slot.0 c.args.slot.1) ≡ Some c.in-Some.region.now =
    ap (get nat_cmp c.args.index.now) (sym c.slot_key.ensures)
    ∙ sym c.get.ensures.value
    ∙ ap option_copied c.in-Some.is in
    let m = c.in-Some.region.now in
    let there = sym (one_found c.args.index.now c.args.slot.0 c.args.slot.1 m some) in
    rw (p.1, p.2) (subst (λ (xs : List Met). Walks told asked s c.region_row.new.s (Err OutOfMemory) (ask_each (ask_region s.layout) xs)) there
    (goes_unsaid told asked s c.region_row.new.s _ _ (Err OutOfMemory)
    (asks_next told asked s (0, 0) (λ w k m. ask_region w m) (m ∷ []) s c.region_row.new.s [] _ m [] c.in_ok-row.row (asks_begin told asked s (0, 0) (λ w k m. ask_region w m) (m ∷ [])) c.region_row.ensures.leaves c.in_ok-row.ensures.reads) refl))

pub returns-clause-reads : goal.returns-clause-reads
returns-clause-reads g c =
    let told = g.C.Callbacks.told in
    let asked = g.C.Callbacks.asked in
    let s = c.args.s.now in
    let some : get nat_cmp c.args.index.now (slot_key c.args.slot.0 c.args.slot.1) ≡ Some c.in-Some.region.now =
    ap (get nat_cmp c.args.index.now) (sym c.slot_key.ensures)
    ∙ sym c.get.ensures.value
    ∙ ap option_copied c.in-Some.is in
    let m = c.in-Some.region.now in
    let there = sym (one_found c.args.index.now c.args.slot.0 c.args.slot.1 m some) in
    record {
      rows = c.in_ok-row.row ∷ [];
      is = c.in_ok-push.ensures.added;
      walks =
          subst
          (λ (xs : List Met). Walks told asked s c.region_row.new.s (Ok (c.in_ok-row.row ∷ [])) (ask_each (ask_region s.layout) xs)) there
          (asks_end told asked s (0, 0) (λ w k m. ask_region w m) (m ∷ []) c.region_row.new.s (c.in_ok-row.row ∷ [])
          (asks_next told asked s (0, 0) (λ w k m. ask_region w m) (m ∷ []) s c.region_row.new.s [] _ m [] c.in_ok-row.row (asks_begin told asked s (0, 0) (λ w k m. ask_region w m) (m ∷ [])) c.region_row.ensures.leaves c.in_ok-row.ensures.reads));
    }
