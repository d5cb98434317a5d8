use Rattle.std.proofs.Common.{◌/◌, ◌%◌, ◌<◌, Some, sym, subst, arith}
use Rattle.omi_layout.specs.Place.{IsSlotAt}
use Rattle.omi_layout.specs.Table.{thread_count}
use Rattle.omi_layout.proofs.Arenas.{threads_of_valid, few_slots, some_slots}
use Rattle.omi_layout.proofs.Finding.{creator_below, slot_below, slot_found, no_slot}
use Rattle.omi_layout.proofs.layout.Layout.slot_of.Goals as goal

pub nonzero_div-creator : goal.nonzero_div-creator
nonzero_div-creator c =
    omega
    (arith, c.per_thread-per.ensures, some_slots c.args.self.now.table c.args.p c.args.self.now.valid c.requires.from c.requires.to)

pub nonzero_rem-slot : goal.nonzero_rem-slot
nonzero_rem-slot c =
    omega
    (arith, c.per_thread-per.ensures, some_slots c.args.self.now.table c.args.p c.args.self.now.valid c.requires.from c.requires.to)

pub overflow_cast-result : goal.overflow_cast-result
overflow_cast-result c =
    let w = c.args.self.now.table in
    let v = c.args.self.now.valid in
    let below =
    creator_below w c.args.p c.args.addr c.in_ok-index.index (omega (arith, c.requires.from))
    (some_slots w c.args.p v c.requires.from c.requires.to) c.in_ok-index.ensures in
    let creator : c.in_ok-index.index / c.per_thread-per.result < thread_count w =
    subst (λ per. c.in_ok-index.index / per < thread_count w) (sym c.per_thread-per.ensures) below in
    omega (arith, creator, threads_of_valid w v)

pub overflow_cast-result-2 : goal.overflow_cast-result-2
overflow_cast-result-2 c =
    let w = c.args.self.now.table in
    let v = c.args.self.now.valid in
    omega
    (arith, c.per_thread-per.ensures, slot_below c.in_ok-index.index c.per_thread-per.result (omega (arith, c.per_thread-per.ensures, some_slots w c.args.p v c.requires.from c.requires.to)), few_slots w c.args.p v c.requires.from c.requires.to)

pub returns : goal.returns
returns c =
    let w = c.args.self.now.table in
    subst
    (λ per. IsSlotAt w c.args.p c.args.addr (Some (record { 0 = c.in_ok-index.index / per; 1 = c.in_ok-index.index % per })))
    (sym c.per_thread-per.ensures)
    (slot_found w c.args.p c.args.addr c.in_ok-index.index (omega (arith, c.requires.from)) (some_slots w c.args.p c.args.self.now.valid c.requires.from c.requires.to) c.in_ok-index.ensures)

pub returns-in_err-index : goal.returns-in_err-index
returns-in_err-index c =
    let w = c.args.self.now.table in
    subst (IsSlotAt w c.args.p c.args.addr) (sym c.from_residual.ensures)
    (no_slot w c.args.p c.args.addr (omega (arith, c.requires.from)) c.in_err-index.ensures)
