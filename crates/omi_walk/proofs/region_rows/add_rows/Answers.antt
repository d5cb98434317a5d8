use Rattle.std.proofs.Common.{ℕ, ◌≡◌, ◌≤◌, ◌++◌, List, refl, sym, ap, subst, ◌∙◌, arith, ◌∷◌, [], append_assoc, append-nil, ◌-◌, map}
use Rattle.std.specs.List.{range_with_len, filter_map}
use Rattle.std.proofs.lemmas.Result.{err_from_is_err_and}
use Rattle.omi_layout.proofs.Arenas.{regions_of_valid}
use Rattle.omi_layout.specs.Field.{regions}
use Rattle.omi_layout.specs.Table.{per_thread}
use Rattle.omi_walk.specs.Regions.{met_in_slot, own_slots}
use Rattle.omi_walk.proofs.Steps.{leaves_same, leaves_then, next_range, no_more}
use Rattle.std.specs.Prelude.{Err}
use Rattle.omi_walk.specs.AskRegions.{ask_region}
use Rattle.omi_walk.proofs.SlotsAsked.{slot_next}
use Rattle.omi_walk.proofs.EachAsked.{EachGoes, asks_begin, asks_part, part_stop, asks_end}
use Rattle.omi_walk.proofs.region_rows.add_rows.Goals as goal

pub loop-slot-init : goal.loop-slot-init
loop-slot-init g c = record {
  leaves = leaves_same g.C.Callbacks.told _ c.args.s.now;
  later = omega arith;
  bound = c.regions_per_thread-slot-end.ensures ∙ ap (λ w. per_thread w regions) c.layout.ensures;
  few = subst (λ w. per_thread w regions ≤ 64) c.layout.ensures (regions_of_valid c.layout.result.now.table c.layout.result.now.valid);
  walked = [];
  walked_is = sym (append-nil c.args.rows.now);
  goes =
      let n = per_thread c.args.s.now.layout regions in
      let none : n - 0 ≡ n = omega arith in
      subst
      (λ k. EachGoes g.C.Callbacks.told g.C.Callbacks.asked c.args.s.now (0, 0) (λ w k m. ask_region w m) (filter_map (met_in_slot c.args.index.now) (own_slots c.args.s.now.layout c.args.creator)) c.args.s.now [] (filter_map (met_in_slot c.args.index.now) (map (λ slot. (c.args.creator, slot)) (range_with_len 0 k))))
      (sym none)
      (asks_begin g.C.Callbacks.told g.C.Callbacks.asked c.args.s.now (0, 0) (λ w k m. ask_region w m) (filter_map (met_in_slot c.args.index.now) (own_slots c.args.s.now.layout c.args.creator)));
}

pub loop-slot-preserved : goal.loop-slot-preserved
loop-slot-preserved g c = record {
  leaves = leaves_then g.C.Callbacks.told _ _ _ _ _ _ (omega arith) c.loop-slot.invariant.leaves c.add_row.ensures.leaves;
  later = omega (arith, c.loop-slot.invariant.later, c.add_row.ensures.cause.later);
  bound = c.loop-slot.invariant.bound;
  few = c.loop-slot.invariant.few;
  walked = c.loop-slot.invariant.walked ++ c.in_ok-add_row.ensures.reads.rows;
  walked_is =
      c.in_ok-add_row.ensures.reads.is
      ∙ ap (λ rows. rows ++ c.in_ok-add_row.ensures.reads.rows) c.loop-slot.invariant.walked_is
      ∙ append_assoc c.args.rows.now c.loop-slot.invariant.walked c.in_ok-add_row.ensures.reads.rows;
  goes =
      asks_part g.C.Callbacks.told g.C.Callbacks.asked c.args.s.now (0, 0) (λ w k m. ask_region w m)
      (filter_map (met_in_slot c.args.index.now) (own_slots c.args.s.now.layout c.args.creator)) c.loop-slot.s c.add_row.new.s c.loop-slot.invariant.walked _
      (filter_map (met_in_slot c.args.index.now) ((c.args.creator, c.loop-slot.slot) ∷ [])) _ c.in_ok-add_row.ensures.reads.rows
      (subst (λ left. EachGoes g.C.Callbacks.told g.C.Callbacks.asked c.args.s.now (0, 0) (λ w k m. ask_region w m) (filter_map (met_in_slot c.args.index.now) (own_slots c.args.s.now.layout c.args.creator)) c.loop-slot.s c.loop-slot.invariant.walked left)
      (ap (λ slots. filter_map (met_in_slot c.args.index.now) (map (λ slot. (c.args.creator, slot)) slots))
      (next_range c.loop-slot.slot (per_thread c.args.s.now.layout regions) (omega (arith, c.loop-slot.invariant.bound, c.loop-slot-test.true)))
      ∙ slot_next c.args.index.now c.args.creator c.loop-slot.slot _) c.loop-slot.invariant.goes)
      c.add_row.ensures.leaves c.in_ok-add_row.ensures.reads.walks;
}

-- reads: what was asked

pub returns-in_err-add_row-clause-reads : goal.returns-in_err-add_row-clause-reads
returns-in_err-add_row-clause-reads g c =
    let told = g.C.Callbacks.told in
    let asked = g.C.Callbacks.asked in
    let p = err_from_is_err_and c.from_residual.result c.from_residual.ensures.1 in
    let s = c.args.s.now in
    rw (p.1, p.2) (part_stop told asked s (0, 0) (λ w k m. ask_region w m) (filter_map (met_in_slot c.args.index.now) (own_slots c.args.s.now.layout c.args.creator)) c.loop-slot.s c.add_row.new.s c.loop-slot.invariant.walked
    (filter_map (met_in_slot c.args.index.now) ((c.args.creator, c.loop-slot.slot) ∷ [])) _ c.in_err-add_row.field-0.0
    (Err c.in_err-add_row.field-0.0)
    (subst (λ left. EachGoes told asked s (0, 0) (λ w k m. ask_region w m) (filter_map (met_in_slot c.args.index.now) (own_slots c.args.s.now.layout c.args.creator)) c.loop-slot.s c.loop-slot.invariant.walked left)
    (ap (λ slots. filter_map (met_in_slot c.args.index.now) (map (λ slot. (c.args.creator, slot)) slots))
    (next_range c.loop-slot.slot (per_thread s.layout regions) (omega (arith, c.loop-slot.invariant.bound, c.loop-slot-test.true)))
    ∙ slot_next c.args.index.now c.args.creator c.loop-slot.slot _) c.loop-slot.invariant.goes) c.in_err-add_row.ensures.reads refl)

pub returns-clause-reads : goal.returns-clause-reads
returns-clause-reads g c =
    let told = g.C.Callbacks.told in
    let asked = g.C.Callbacks.asked in
    let s = c.args.s.now in
    record {
      rows = c.loop-slot.invariant.walked;
      is = c.loop-slot.invariant.walked_is;
      walks =
          asks_end told asked s (0, 0) (λ w k m. ask_region w m)
          (filter_map (met_in_slot c.args.index.now) (own_slots c.args.s.now.layout c.args.creator)) c.loop-slot.s c.loop-slot.invariant.walked
          (subst (λ (slots : List ℕ). EachGoes told asked s (0, 0) (λ w k m. ask_region w m) (filter_map (met_in_slot c.args.index.now) (own_slots c.args.s.now.layout c.args.creator)) c.loop-slot.s c.loop-slot.invariant.walked (filter_map (met_in_slot c.args.index.now) (map (λ slot. (c.args.creator, slot)) slots)))
          (no_more c.loop-slot.slot (per_thread s.layout regions) (omega (arith, c.loop-slot.invariant.bound, c.loop-slot-test.false))) c.loop-slot.invariant.goes);
    }
