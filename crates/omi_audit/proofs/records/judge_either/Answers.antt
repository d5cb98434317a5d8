use Rattle.std.proofs.Common.{◌≡◌, ◌∙◌, ℕ, List, Option, cond, refl, sym, ap, subst, true, false}
use Rattle.std.specs.Prelude.{is_some}
use Rattle.omi_layout.specs.declared.field.Field.TheVariants.{RegionEnclosing}
use Rattle.omi_layout.specs.Field.{regions}
use Rattle.omi_layout.specs.Place.{IsSlotAt}
use Rattle.omi_word.specs.Words.{Words}
use Rattle.omi_rep.specs.Look.{slot_at}
use Rattle.omi_rep.proofs.Slots.{slot_same}
use Rattle.omi_audit.specs.Search.{is_region, region_places, task_places}
use Rattle.omi_audit.specs.InOrder.{AsksOnly, ended}
use Rattle.omi_audit.specs.Listed.{asked_among}
use Rattle.omi_audit.proofs.JudgedRecords.{judged_kind}
use Rattle.omi_audit.proofs.records.judge_either.Goals as goal

-- the address is a region's where the layout finds a slot for it
region_by : (w : List ℕ) (memory : Words) (address : ℕ) (table : List ℕ) → table ≡ w → (found : Option (ℕ × ℕ)) → IsSlotAt table regions address found
    → is_region w memory address ≡ is_some found
region_by w memory address table same found at =
    ap (λ l. is_some (slot_at l regions address)) (sym same) ∙ ap is_some (slot_same table regions address found at)

pub returns-then-is_some-clause-judged : goal.returns-then-is_some-clause-judged
returns-then-is_some-clause-judged g c = λ memory tells known.
    let w = c.args.s.now.layout in
    let region = region_by w memory c.args.addr c.layout.result.now.table c.layout.ensures c.region_of.result c.region_of.ensures ∙ sym c.is_some.ensures ∙ c.if-is_some.true in
    judged_kind w memory c.args.addr c.args.search.now c.judge_parts.new.search c.judge_parts.result true region
    (c.judge_parts.ensures.judged memory tells known RegionEnclosing refl)

pub returns-else-is_some-clause-judged : goal.returns-else-is_some-clause-judged
returns-else-is_some-clause-judged g c = λ memory tells known.
    let w = c.args.s.now.layout in
    let region = region_by w memory c.args.addr c.layout.result.now.table c.layout.ensures c.region_of.result c.region_of.ensures ∙ sym c.is_some.ensures ∙ c.if-is_some.false in
    judged_kind w memory c.args.addr c.args.search.now c.judge_task.new.search c.judge_task.result false region
    (c.judge_task.ensures.judged memory tells known)

pub returns-then-is_some-clause-asks : goal.returns-then-is_some-clause-asks
returns-then-is_some-clause-asks g c = λ memory tells known.
    let w = c.args.s.now.layout in
    let region = region_by w memory c.args.addr c.layout.result.now.table c.layout.ensures c.region_of.result c.region_of.ensures ∙ sym c.is_some.ensures ∙ c.if-is_some.true in
    subst
    (λ b. AsksOnly (g.C.Callbacks.told c.args.s.now.table.calls) memory
    (asked_among w memory 0 c.args.search.now.met.keys (cond b (region_places w memory c.args.addr) (task_places w memory c.args.addr)))
    (g.C.Callbacks.asked c.args.s.now.table.calls) (g.C.Callbacks.asked c.judge_parts.new.s.table.calls) (ended c.judge_parts.result)) (sym region)
    (c.judge_parts.ensures.asks memory tells known)

pub returns-else-is_some-clause-asks : goal.returns-else-is_some-clause-asks
returns-else-is_some-clause-asks g c = λ memory tells known.
    let w = c.args.s.now.layout in
    let region = region_by w memory c.args.addr c.layout.result.now.table c.layout.ensures c.region_of.result c.region_of.ensures ∙ sym c.is_some.ensures ∙ c.if-is_some.false in
    subst
    (λ b. AsksOnly (g.C.Callbacks.told c.args.s.now.table.calls) memory
    (asked_among w memory 0 c.args.search.now.met.keys (cond b (region_places w memory c.args.addr) (task_places w memory c.args.addr)))
    (g.C.Callbacks.asked c.args.s.now.table.calls) (g.C.Callbacks.asked c.judge_task.new.s.table.calls) (ended c.judge_task.result)) (sym region)
    (c.judge_task.ensures.asks memory tells known)
