-- The rows of regions are made thread by thread, each by the slots that are the thread's own.
use Rattle.std.proofs.Common.{◌≡◌, ◌≤◌, ◌++◌, ◌<◌, ◌+◌, [], List, Ok, refl, sym, ap, subst, ◌∙◌, arith, ℕ, ◌-◌}
use Rattle.std.specs.List.{flat_map, filter_map, range_with_len}
use Rattle.std.proofs.lemmas.Result.{err_from_is_err_and}
use Rattle.omi_layout.proofs.Arenas.{threads_of_valid, regions_of_valid}
use Rattle.omi_layout.specs.Field.{regions}
use Rattle.omi_layout.specs.Table.{thread_count, per_thread}
use Rattle.omi_rep.specs.Look.{slot_list}
use Rattle.omi_walk.specs.Regions.{met_in_slot, own_slots}
use Rattle.omi_walk.proofs.Steps.{leaves_same, leaves_then, next_range, no_more}
use Rattle.std.specs.Prelude.{Result, Ok, Err}
use Rattle.omi_walk.specs.declared.met.Met.{Met}
use Rattle.std.specs.BTreeMap.{BTreeMap}
use Rattle.omi_calls.specs.Asked.{Asked}
use Rattle.omi_calls.specs.Told.{Told}
use Rattle.omi_session.specs.Opened.{Opened}
use Rattle.omi_walk.specs.declared.fault.WalkFault.{WalkFault}
use Rattle.omi_walk.specs.Leaves.{Leaves}
use Rattle.omi_walk.specs.Walks.{Walks}
use Rattle.omi_walk.specs.Asking.{ask_each}
use Rattle.omi_model.specs.declared.view.RegionRow.{RegionRow}
use Rattle.omi_walk.specs.AskRegions.{ask_region}
use Rattle.omi_walk.proofs.SlotsAsked.{thread_next, first_in_slots}
use Rattle.omi_walk.proofs.EachAsked.{EachGoes, asks_begin, asks_part, part_stop, asks_end}
use Rattle.omi_walk.proofs.region_rows.region_rows.Goals as goal

-- the rows of regions, by the slots of one thread after the other
module _ {C F : Type 0} (told : C → Told) (asked : C → Asked) (s : Opened C F)
    (index : BTreeMap ℕ Met) where
  -- the regions that the index has in these slots: all of them, and those that these threads made
  abbrev met_at : List (ℕ × ℕ) → List Met
  met_at slots = filter_map (met_in_slot index) slots

  abbrev all_met : List Met
  all_met = met_at (slot_list s.layout regions)

  abbrev made_by : List ℕ → List Met
  made_by creators = met_at (flat_map (own_slots s.layout) creators)

  -- these are the rows so far, and those regions are left
  abbrev AreLeft : Opened C F → List RegionRow → List Met → Type 0
  AreLeft t rows left = EachGoes told asked s (0, 0) (λ w k m. ask_region w m) all_met t rows left

  -- the rows of all regions were made
  rows_end : (t : Opened C F) (rows : List RegionRow) (creator threads : ℕ) → threads ≤ creator
      → AreLeft t rows (made_by (range_with_len creator (threads - creator)))
      → Walks told asked s t (Ok rows) (ask_each (ask_region s.layout) all_met)
  rows_end t rows creator threads over so =
      asks_end told asked s (0, 0) (λ w k m. ask_region w m) all_met t rows
      (subst (λ (creators : List ℕ). AreLeft t rows (made_by creators)) (no_more creator threads over)
      so)

  module _ (t u : Opened C F) (rows : List RegionRow) (creator threads : ℕ) (below : creator < threads)
      (same : t.layout ≡ s.layout)
      (so : AreLeft t rows (made_by (range_with_len creator (threads - creator)))) where
    abbrev others : List ℕ
    others = range_with_len (creator + 1) (threads - (creator + 1))

    -- the regions of this thread stand in front of those of the others
    at_thread : AreLeft t rows (met_at (own_slots s.layout creator) ++ made_by others)
    at_thread =
        subst (λ left. AreLeft t rows left)
        (ap (λ creators. made_by creators) (next_range creator threads below)
        ∙ thread_next index s.layout creator others) so

    own_here : (result : Result (List RegionRow) WalkFault)
        → Walks told asked t u result
        (ask_each (ask_region t.layout) (met_at (own_slots t.layout creator)))
        → Walks told asked t u result
        (ask_each (ask_region t.layout) (met_at (own_slots s.layout creator)))
    own_here result walks =
        subst
        (λ (w : List ℕ). Walks told asked t u result
        (ask_each (ask_region t.layout) (met_at (own_slots w creator)))) same walks

    -- its rows are added
    rows_added : (n : ℕ) (more : List RegionRow) → Leaves told n t u
        → Walks told asked t u (Ok more)
        (ask_each (ask_region t.layout) (met_at (own_slots t.layout creator)))
        → AreLeft u (rows ++ more) (made_by others)
    rows_added n more leaves walks =
        asks_part told asked s (0, 0) (λ w k m. ask_region w m) all_met t u rows n
        (met_at (own_slots s.layout creator)) (made_by others) more at_thread leaves
        (own_here (Ok more) walks)

    -- or they are refused
    rows_refused : (fault : WalkFault)
        → Walks {A = List RegionRow} told asked t u (Err fault)
        (ask_each (ask_region t.layout) (met_at (own_slots t.layout creator)))
        → Walks {A = List RegionRow} told asked s u (Err fault) (ask_each (ask_region s.layout) all_met)
    rows_refused fault walks =
        part_stop told asked s (0, 0) (λ w k m. ask_region w m) all_met t u rows
        (met_at (own_slots s.layout creator)) (made_by others) fault (Err fault) at_thread
        (own_here (Err fault) walks) refl

pub loop-creator-init : goal.loop-creator-init
loop-creator-init g c =
    let told = g.C.Callbacks.told in
    let asked = g.C.Callbacks.asked in
    let s = c.args.s.now in
    let index = c.args.index.now in
    let layout = c.layout.result.now in
    record {
      leaves = leaves_same g.C.Callbacks.told _ c.args.s.now;
      later = omega arith;
      bound = c.threads-creator-end.ensures ∙ ap thread_count c.layout.ensures;
      few =
          subst (λ w. per_thread w regions ≤ 64) c.layout.ensures
          (regions_of_valid layout.table layout.valid);
      threads =
          subst (λ w. thread_count w ≤ 64) c.layout.ensures
          (threads_of_valid layout.table layout.valid);
      goes =
          let n = thread_count s.layout in
          let none : n - 0 ≡ n = omega arith in
          let begun = asks_begin told asked s (0, 0) (λ w k m. ask_region w m)
          (all_met told asked s index) in
          rw c.new-rows.ensures (subst
          (λ k. AreLeft told asked s index s [] (made_by told asked s index (range_with_len 0 k)))
          (sym none) begun);
    }

pub loop-creator-preserved : goal.loop-creator-preserved
loop-creator-preserved g c =
    let told = g.C.Callbacks.told in
    let now = c.loop-creator.invariant in
    let reads = c.in_ok-add_rows.ensures.reads in
    record {
      leaves = leaves_then told _ _ _ _ _ _ (omega arith) now.leaves c.add_rows.ensures.leaves;
      later = omega (arith, now.later, c.add_rows.ensures.cause.later);
      bound = now.bound;
      few = now.few;
      threads = now.threads;
      goes =
          rw reads.is (rows_added told g.C.Callbacks.asked c.args.s.now c.args.index.now c.loop-creator.s
          c.add_rows.new.s c.loop-creator.rows c.loop-creator.creator
          (thread_count c.args.s.now.layout) (omega (arith, now.bound, c.loop-creator-test.true))
          now.leaves.stays.layout now.goes _ reads.rows c.add_rows.ensures.leaves reads.walks);
    }

-- reads: what was asked

pub returns-in_err-add_rows-clause-reads : goal.returns-in_err-add_rows-clause-reads
returns-in_err-add_rows-clause-reads g c = λ met first small.
    let told = g.C.Callbacks.told in
    let asked = g.C.Callbacks.asked in
    let p = err_from_is_err_and c.from_residual.result c.from_residual.ensures.1 in
    let s = c.args.s.now in
    let index = c.args.index.now in
    let now = c.loop-creator.invariant in
    let fault = c.in_err-add_rows.field-0.0 in
    let refused =
    rows_refused told asked s index c.loop-creator.s c.add_rows.new.s c.loop-creator.rows
    c.loop-creator.creator (thread_count s.layout) (omega (arith, now.bound, c.loop-creator-test.true))
    now.leaves.stays.layout now.goes fault c.in_err-add_rows.ensures.reads in
    rw (p.1, p.2) (subst
    (λ (xs : List Met). Walks {A = List RegionRow} told asked s c.add_rows.new.s (Err fault)
    (ask_each (ask_region s.layout) xs))
    (sym (first_in_slots index met first small s.layout (omega (arith, now.few)))) refused)

pub returns-clause-reads : goal.returns-clause-reads
returns-clause-reads g c = λ met first small.
    let told = g.C.Callbacks.told in
    let asked = g.C.Callbacks.asked in
    let s = c.args.s.now in
    let index = c.args.index.now in
    let now = c.loop-creator.invariant in
    subst
    (λ (xs : List Met). Walks told asked s c.loop-creator.s (Ok c.loop-creator.rows)
    (ask_each (ask_region s.layout) xs))
    (sym (first_in_slots index met first small s.layout (omega (arith, now.few))))
    (rows_end told asked s index c.loop-creator.s c.loop-creator.rows c.loop-creator.creator
    (thread_count s.layout) (omega (arith, now.bound, c.loop-creator-test.false)) now.goes)

-- what was made

pub returns-in_err-add_rows-clause-leaves : goal.returns-in_err-add_rows-clause-leaves
returns-in_err-add_rows-clause-leaves g c =
    let now = c.loop-creator.invariant in
    leaves_then g.C.Callbacks.told _ _ _ _ _ _
    (omega (arith, now.threads, now.bound, c.loop-creator-test.true)) now.leaves
    c.add_rows.ensures.leaves

pub returns-clause-leaves : goal.returns-clause-leaves
returns-clause-leaves g c =
    let now = c.loop-creator.invariant in
    let last = c.loop-creator.auto.creator-end in
    record {
      stays = now.leaves.stays;
      held = now.leaves.held;
      later = now.leaves.later;
      made = omega (arith, now.leaves.made, now.threads, now.bound, last);
    }
