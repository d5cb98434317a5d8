use Rattle.std.proofs.Common.{sym, subst, ◌∙◌}
use Rattle.std.specs.Prelude.{Ok}
use Rattle.omi_audit.specs.Found.{count_with}
use Rattle.omi_audit.specs.InOrder.{AsksOnly, stopped_by}
use Rattle.omi_audit.specs.Listed.{asked_among}
use Rattle.omi_audit.specs.Judged.{IsLinked, all_places, refused_among, said_by}
use Rattle.omi_audit.specs.Search.{elements_of, places_of}
use Rattle.omi_audit.proofs.Asking.{ended_by}
use Rattle.omi_audit.proofs.AskedRecords.{asks_stop, behind_asks}
use Rattle.omi_audit.proofs.JudgedPlaces.{judges_stop}
use Rattle.omi_audit.proofs.JudgedRecords.{behind_fine, behind_stops, stops_first}
use Rattle.omi_audit.proofs.records.judge_parts.Goals as goal

pub returns-clause-judged : goal.returns-clause-judged
returns-clause-judged g c = λ memory tells known chain is.
    let front = c.in_ok-found.ensures in
    let fine =
    behind_fine g.C.Callbacks.told c.args.s.now c.judge_fields.new.s front.same c.args.search.now c.judge_fields.new.search c.judge_elements.new.search
    c.args.addr c.args.fields.now c.args.elements c.in_ok-found.found front.judged c.in_ok-judge_elements.ensures.judged memory tells known in
    record {
      none = fine.none;
      known = record { next = (front.judged memory tells known).known.next ∙ is; meets = fine.known };
    }

pub returns-in_err-found-clause-judged : goal.returns-in_err-found-clause-judged
returns-in_err-found-clause-judged g c = λ memory tells known chain is.
    let w = c.args.s.now.layout in
    let places = all_places w memory c.args.addr c.args.fields.now c.args.elements in
    let stop = c.in_err-found.field-0.0 in
    judges_stop (refused_among w memory 0 places) (IsLinked w memory c.args.addr chain places c.args.search.now c.judge_fields.new.search)
    c.from_residual.result stop c.from_residual.ensures.1
    (stops_first w memory 0 (places_of c.args.addr c.args.fields.now) _ stop (c.in_err-found.ensures.judged memory tells known))

pub returns-in_err-judge_elements-clause-judged : goal.returns-in_err-judge_elements-clause-judged
returns-in_err-judge_elements-clause-judged g c = λ memory tells known chain is.
    let w = c.args.s.now.layout in
    let front = c.in_ok-found.ensures in
    let places = all_places w memory c.args.addr c.args.fields.now c.args.elements in
    let stop = c.in_err-judge_elements.field-0.0 in
    judges_stop (refused_among w memory 0 places) (IsLinked w memory c.args.addr chain places c.args.search.now c.judge_elements.new.search)
    c.from_residual-in_err-judge_elements.result stop c.from_residual-in_err-judge_elements.ensures.1
    (behind_stops g.C.Callbacks.told c.args.s.now c.judge_fields.new.s front.same c.args.search.now c.judge_fields.new.search c.judge_elements.new.search
    c.args.addr c.args.fields.now c.args.elements c.in_ok-found.found front.judged stop c.in_err-judge_elements.ensures.judged memory tells known)

pub returns-clause-asks : goal.returns-clause-asks
returns-clause-asks g c =
    let front = c.in_ok-found.ensures in
    behind_asks g.C.Callbacks.told g.C.Callbacks.asked c.args.s.now c.judge_fields.new.s c.judge_elements.new.s front.same c.args.search.now c.judge_fields.new.search
    c.args.addr c.args.fields.now c.args.elements c.in_ok-found.found front.judged front.asks (Ok tt) c.in_ok-judge_elements.ensures.asks

pub returns-in_err-found-clause-asks : goal.returns-in_err-found-clause-asks
returns-in_err-found-clause-asks g c = λ memory tells known.
    let w = c.args.s.now.layout in
    let places = all_places w memory c.args.addr c.args.fields.now c.args.elements in
    let stop = c.in_err-found.field-0.0 in
    subst
    (AsksOnly (g.C.Callbacks.told c.args.s.now.table.calls) memory (asked_among w memory 0 c.args.search.now.met.keys places)
    (g.C.Callbacks.asked c.args.s.now.table.calls) (g.C.Callbacks.asked c.judge_fields.new.s.table.calls))
    (sym (ended_by c.from_residual.result stop c.from_residual.ensures.1))
    (asks_stop g.C.Callbacks.told g.C.Callbacks.asked c.args.s.now c.judge_fields.new.s c.args.search.now c.judge_fields.new.search 0
    (λ l m. places_of c.args.addr c.args.fields.now) (λ l m. elements_of c.args.addr c.args.elements (said_by l m count_with c.args.addr c.args.fields.now))
    stop c.in_err-found.ensures.judged c.in_err-found.ensures.asks memory tells known)

pub returns-in_err-judge_elements-clause-asks : goal.returns-in_err-judge_elements-clause-asks
returns-in_err-judge_elements-clause-asks g c = λ memory tells known.
    let w = c.args.s.now.layout in
    let front = c.in_ok-found.ensures in
    let places = all_places w memory c.args.addr c.args.fields.now c.args.elements in
    let stop = c.in_err-judge_elements.field-0.0 in
    subst
    (AsksOnly (g.C.Callbacks.told c.args.s.now.table.calls) memory (asked_among w memory 0 c.args.search.now.met.keys places)
    (g.C.Callbacks.asked c.args.s.now.table.calls) (g.C.Callbacks.asked c.judge_elements.new.s.table.calls))
    (sym (ended_by c.from_residual-in_err-judge_elements.result stop c.from_residual-in_err-judge_elements.ensures.1))
    (behind_asks g.C.Callbacks.told g.C.Callbacks.asked c.args.s.now c.judge_fields.new.s c.judge_elements.new.s front.same c.args.search.now c.judge_fields.new.search
    c.args.addr c.args.fields.now c.args.elements c.in_ok-found.found front.judged front.asks (stopped_by stop) c.in_err-judge_elements.ensures.asks memory tells known)
