use Rattle.std.proofs.Common.{refl, sym, subst}
use Rattle.omi_layout.specs.declared.field.Field.TheVariants.{TaskScheduling}
use Rattle.std.specs.Prelude.{Ok}
use Rattle.omi_audit.specs.InOrder.{AsksOnly, stopped_by}
use Rattle.omi_audit.specs.Listed.{asked_among}
use Rattle.omi_audit.specs.Judged.{IsLinked, refused_among}
use Rattle.omi_audit.specs.Search.{group_places, task_places, value_places}
use Rattle.omi_audit.proofs.Asking.{ended_by}
use Rattle.omi_audit.proofs.AskedRecords.{asks_both, asks_stop}
use Rattle.omi_audit.proofs.JudgedPlaces.{judges_stop}
use Rattle.omi_audit.proofs.JudgedRecords.{fine_both, stops_both, stops_first}
use Rattle.omi_audit.proofs.records.judge_task.Goals as goal

pub returns-clause-judged : goal.returns-clause-judged
returns-clause-judged g c = λ memory tells known.
    let front = c.in_ok-next.ensures in
    let a = c.args.addr in
    let fine =
    fine_both g.C.Callbacks.told c.args.s.now c.judge_parts.new.s front.same c.args.search.now c.judge_parts.new.search c.judge_groups.new.search
    (λ w m. value_places w m a) (λ w m. group_places w m a)
    (λ m t k. let f = front.judged m t k TaskScheduling refl in record { none = f.none; known = f.known.meets })
    c.in_ok-judge_groups.ensures.judged memory tells known in
    record {
      none = fine.none;
      known = record { next = (front.judged memory tells known TaskScheduling refl).known.next; meets = fine.known };
    }

pub returns-in_err-next-clause-judged : goal.returns-in_err-next-clause-judged
returns-in_err-next-clause-judged g c = λ memory tells known.
    let w = c.args.s.now.layout in
    let stop = c.in_err-next.field-0.0 in
    judges_stop (refused_among w memory 0 (task_places w memory c.args.addr))
    (IsLinked w memory c.args.addr TaskScheduling (task_places w memory c.args.addr) c.args.search.now c.judge_parts.new.search)
    c.from_residual.result stop c.from_residual.ensures.1
    (stops_first w memory 0 (value_places w memory c.args.addr) (group_places w memory c.args.addr) stop (c.in_err-next.ensures.judged memory tells known TaskScheduling refl))

pub returns-in_err-judge_groups-clause-judged : goal.returns-in_err-judge_groups-clause-judged
returns-in_err-judge_groups-clause-judged g c = λ memory tells known.
    let w = c.args.s.now.layout in
    let a = c.args.addr in
    let front = c.in_ok-next.ensures in
    let stop = c.in_err-judge_groups.field-0.0 in
    judges_stop (refused_among w memory 0 (task_places w memory a))
    (IsLinked w memory a TaskScheduling (task_places w memory a) c.args.search.now c.judge_groups.new.search)
    c.from_residual-in_err-judge_groups.result stop c.from_residual-in_err-judge_groups.ensures.1
    (stops_both g.C.Callbacks.told c.args.s.now c.judge_parts.new.s front.same c.args.search.now c.judge_parts.new.search c.judge_groups.new.search
    (λ w m. value_places w m a) (λ w m. group_places w m a)
    (λ m t k. let f = front.judged m t k TaskScheduling refl in record { none = f.none; known = f.known.meets })
    stop c.in_err-judge_groups.ensures.judged memory tells known)

pub returns-clause-asks : goal.returns-clause-asks
returns-clause-asks g c =
    let front = c.in_ok-next.ensures in
    let a = c.args.addr in
    asks_both g.C.Callbacks.told g.C.Callbacks.asked c.args.s.now c.judge_parts.new.s c.args.search.now c.judge_parts.new.search 0
    (λ w m. value_places w m a) (λ w m. group_places w m a) c.judge_groups.new.s (Ok tt) front.same
    (λ m t k. let f = front.judged m t k TaskScheduling refl in record { none = f.none; known = f.known.meets })
    front.asks c.in_ok-judge_groups.ensures.asks

pub returns-in_err-next-clause-asks : goal.returns-in_err-next-clause-asks
returns-in_err-next-clause-asks g c = λ memory tells known.
    let w = c.args.s.now.layout in
    let a = c.args.addr in
    let stop = c.in_err-next.field-0.0 in
    subst
    (AsksOnly (g.C.Callbacks.told c.args.s.now.table.calls) memory (asked_among w memory 0 c.args.search.now.met.keys (task_places w memory a))
    (g.C.Callbacks.asked c.args.s.now.table.calls) (g.C.Callbacks.asked c.judge_parts.new.s.table.calls))
    (sym (ended_by c.from_residual.result stop c.from_residual.ensures.1))
    (asks_stop g.C.Callbacks.told g.C.Callbacks.asked c.args.s.now c.judge_parts.new.s c.args.search.now c.judge_parts.new.search 0
    (λ w m. value_places w m a) (λ w m. group_places w m a) stop
    (λ m t k. c.in_err-next.ensures.judged m t k TaskScheduling refl) c.in_err-next.ensures.asks memory tells known)

pub returns-in_err-judge_groups-clause-asks : goal.returns-in_err-judge_groups-clause-asks
returns-in_err-judge_groups-clause-asks g c = λ memory tells known.
    let w = c.args.s.now.layout in
    let a = c.args.addr in
    let front = c.in_ok-next.ensures in
    let stop = c.in_err-judge_groups.field-0.0 in
    subst
    (AsksOnly (g.C.Callbacks.told c.args.s.now.table.calls) memory (asked_among w memory 0 c.args.search.now.met.keys (task_places w memory a))
    (g.C.Callbacks.asked c.args.s.now.table.calls) (g.C.Callbacks.asked c.judge_groups.new.s.table.calls))
    (sym (ended_by c.from_residual-in_err-judge_groups.result stop c.from_residual-in_err-judge_groups.ensures.1))
    (asks_both g.C.Callbacks.told g.C.Callbacks.asked c.args.s.now c.judge_parts.new.s c.args.search.now c.judge_parts.new.search 0
    (λ w m. value_places w m a) (λ w m. group_places w m a) c.judge_groups.new.s (stopped_by stop) front.same
    (λ m t k. let f = front.judged m t k TaskScheduling refl in record { none = f.none; known = f.known.meets })
    front.asks c.in_err-judge_groups.ensures.asks memory tells known)
