use Rattle.std.proofs.Common.{◌≡◌, ◌≤◌, ◌+◌, inl, suc, ◌∙◌, Some, refl, sym, ap, subst, take, length, arith}
use Rattle.std.specs.Prelude.{Ok, nat_eq, slice_get}
use Rattle.indexmap.specs.IndexSet.{insert_all}
use Rattle.std.proofs.lemmas.List.{take_all}
use Rattle.std.specs.List.{flat_map}
use Rattle.omi_layout.specs.declared.limits.TheConstants.{LAST_END}
use Rattle.omi_session.proofs.ShownAnswers.{element_of_all}
use Rattle.omi_layout.specs.Field.{regions, tasks}
use Rattle.omi_layout.specs.Table.{thread_count, records}
use Rattle.omi_session.proofs.Told.{stays_then}
use Rattle.omi_audit.specs.InOrder.{AsksOnly, stopped_by}
use Rattle.omi_audit.specs.Listed.{asked_in_record, asked_in_records}
use Rattle.omi_audit.specs.Judged.{IsFine, IsFirst, IsRecord, IsSearched, refused_record}
use Rattle.omi_audit.specs.Search.{all_records, named_by, reached}
use Rattle.omi_audit.proofs.JudgedPlaces.{judges_stop}
use Rattle.omi_audit.proofs.JudgedSearch.{IsJudging, begins_take, few, front_at, judging_met, met_begins, judging_first, judging_next, judging_stops, judging_done, judging_all, past_end}
use Rattle.omi_audit.proofs.KeptOn.{kept_on}
use Rattle.std.proofs.lemmas.Option.{slice_get_within}
use Rattle.omi_audit.proofs.Asking.{AsksAll, asks_all, asks_kept, each_next, each_stops, ended_by}
use Rattle.omi_audit.proofs.FirstOnes.{with_all_begins}
use Rattle.omi_audit.proofs.records.judge_met.Goals as goal

pub judge_record-requires-clause-begun : goal.judge_record-requires-clause-begun
judge_record-requires-clause-begun g c =
    ap length c.loop-next.invariant.begun ∙ c.requires ∙ ap thread_count (sym c.loop-next.invariant.same.layout)

pub judge_record-requires-clause-low : goal.judge_record-requires-clause-low
judge_record-requires-clause-low g c =
    element_of_all (λ addr. addr ≤ LAST_END) c.loop-next.search.met.keys c.loop-next.next c.in-Some.addr c.loop-next.search.low
    (sym c.get_index.ensures.key ∙ sym c.copied.ensures ∙ c.in-Some.is)

pub loop-next-init : goal.loop-next-init
loop-next-init g c = record {
  judged = λ memory tells known starts. judging_first c.args.s.now.layout memory c.args.search.now starts known;
  asks = λ memory tells known starts. (refl, refl);
  end = c.record_count-next-end.ensures ∙ ap (λ l. records l regions + records l tasks) c.layout.ensures;
  begun = refl;
  same = record { table = record { same = refl; order = refl; to_host = refl }; layout = refl; handles = refl };
  later = omega arith;
}

pub loop-next-preserved : goal.loop-next-preserved
loop-next-preserved g c =
    let before = c.loop-next.invariant in
    let done = c.in_ok-judge_record.ensures in
    let at : slice_get c.loop-next.search.met.keys c.loop-next.next ≡ Some c.in-Some.addr = sym c.get_index.ensures.key ∙ sym c.copied.ensures ∙ c.in-Some.is in
    record {
      judged = λ memory tells known starts.
          let w = c.args.s.now.layout in
          let k = c.loop-next.next in
          let j = before.judged memory tells known starts in
          let now =
          kept_on g.C.Callbacks.told c.args.s.now c.loop-next.s c.loop-next.search
          (λ l m. IsFine (refused_record l m c.in-Some.addr) (IsRecord l m c.in-Some.addr c.loop-next.search c.judge_record.new.search)) before.same done.judged memory tells j.knows in
          let one : suc k ≡ k + 1 = omega arith in
          subst (λ n. IsJudging w memory n c.judge_record.new.search) one
          (judging_next w memory k c.loop-next.search c.judge_record.new.search c.in-Some.addr at j now);
      asks = λ memory tells known starts.
          let w = c.args.s.now.layout in
          let k = c.loop-next.next in
          let addr = c.in-Some.addr in
          let j = before.judged memory tells known starts in
          let now =
          kept_on g.C.Callbacks.told c.args.s.now c.loop-next.s c.loop-next.search
          (λ l m. IsFine (refused_record l m addr) (IsRecord l m addr c.loop-next.search c.judge_record.new.search)) before.same done.judged memory tells j.knows in
          let past = slice_get_within c.loop-next.search.met.keys k addr at in
          let more : take (suc k) c.judge_record.new.search.met.keys ≡ take (suc k) c.loop-next.search.met.keys =
          ap (take (suc k)) now.known.met ∙ begins_take (suc k) (omega (arith, past)) (with_all_begins c.loop-next.search.met.keys (named_by w memory addr)) in
          let one : suc k ≡ k + 1 = omega arith in
          let told = g.C.Callbacks.told c.args.s.now.table.calls in
          let first = g.C.Callbacks.asked c.args.s.now.table.calls in
          let mid = g.C.Callbacks.asked c.loop-next.s.table.calls in
          let last = g.C.Callbacks.asked c.judge_record.new.s.table.calls in
          let met = c.args.search.now.met.keys in
          let keys = c.loop-next.search.met.keys in
          subst (λ n. AsksAll told memory (asked_in_records w memory met (take n c.judge_record.new.search.met.keys)) first last) one
          (subst (λ l. AsksAll told memory (asked_in_records w memory met l) first last) (sym more)
          (asks_all told memory (asked_in_records w memory met (take (suc k) keys)) first last
          (each_next (asked_in_record w memory) (named_by w memory) (refused_record w memory) told memory met keys first mid last (Ok tt)
          keys k addr at j.none (judging_met w memory k c.args.search.now c.loop-next.search starts j) (before.asks memory tells known starts)
          (asks_kept g.C.Callbacks.told c.args.s.now c.loop-next.s c.loop-next.search (λ l m. asked_in_record l m keys addr) mid last (Ok tt) before.same done.asks memory tells j.knows))));
      end = before.end;
      begun = done.begun ∙ before.begun;
      same = stays_then g.C.Callbacks.told c.args.s.now c.loop-next.s c.judge_record.new.s before.same done.same;
      later = omega (arith, before.later, done.cause.later);
    }

pub returns-in_default-clause-judged : goal.returns-in_default-clause-judged
returns-in_default-clause-judged g c = λ memory tells known starts.
    let w = c.args.s.now.layout in
    let j = c.loop-next.invariant.judged memory tells known starts in
    judging_done w memory c.loop-next.next c.loop-next.search
    (past_end c.loop-next.search.met.keys c.loop-next.next (λ x is. c.in_default.not-Some x (c.copied.ensures ∙ c.get_index.ensures.key ∙ is))) j

pub returns-clause-judged : goal.returns-clause-judged
returns-clause-judged g c = λ memory tells known starts.
    let w = c.args.s.now.layout in
    let before = c.loop-next.invariant in
    judging_all w memory c.loop-next.next c.loop-next.search (omega (arith, before.end)) (before.judged memory tells known starts)

pub returns-in_err-judge_record-clause-judged : goal.returns-in_err-judge_record-clause-judged
returns-in_err-judge_record-clause-judged g c = λ memory tells known starts.
    let w = c.args.s.now.layout in
    let k = c.loop-next.next in
    let addr = c.in-Some.addr in
    let at : slice_get c.loop-next.search.met.keys k ≡ Some addr = sym c.get_index.ensures.key ∙ sym c.copied.ensures ∙ c.in-Some.is in
    let stop = c.in_err-judge_record.field-0.0 in
    let before = c.loop-next.invariant in
    let j = before.judged memory tells known starts in
    let first =
    kept_on g.C.Callbacks.told c.args.s.now c.loop-next.s c.loop-next.search
    (λ l m. IsFirst (refused_record l m addr) stop) before.same c.in_err-judge_record.ensures.judged memory tells j.knows in
    judges_stop (flat_map (refused_record w memory) (reached w memory)) (λ _. IsSearched w memory c.judge_record.new.search)
    c.from_residual.result stop c.from_residual.ensures.1
    (judging_stops w memory k c.loop-next.search addr stop (omega (arith, before.end)) at j first)

pub returns-in_default-clause-asks : goal.returns-in_default-clause-asks
returns-in_default-clause-asks g c = λ memory tells known starts.
    let w = c.args.s.now.layout in
    let before = c.loop-next.invariant in
    let keys = c.loop-next.search.met.keys in
    let past = past_end keys c.loop-next.next (λ x is. c.in_default.not-Some x (c.copied.ensures ∙ c.get_index.ensures.key ∙ is)) in
    let all = judging_done w memory c.loop-next.next c.loop-next.search past (before.judged memory tells known starts) in
    inl
    (subst
    (λ l. AsksAll (g.C.Callbacks.told c.args.s.now.table.calls) memory (asked_in_records w memory c.args.search.now.met.keys l)
    (g.C.Callbacks.asked c.args.s.now.table.calls) (g.C.Callbacks.asked c.loop-next.s.table.calls))
    (take_all c.loop-next.next keys past ∙ all.known.met) (before.asks memory tells known starts))

pub returns-clause-asks : goal.returns-clause-asks
returns-clause-asks g c = λ memory tells known starts.
    let w = c.args.s.now.layout in
    let before = c.loop-next.invariant in
    let keys = c.loop-next.search.met.keys in
    let j = before.judged memory tells known starts in
    let past : all_records w memory ≤ c.loop-next.next = omega (arith, before.end) in
    let most = few w memory c.loop-next.next c.loop-next.search j in
    let all = judging_all w memory c.loop-next.next c.loop-next.search past j in
    inl
    (subst
    (λ l. AsksAll (g.C.Callbacks.told c.args.s.now.table.calls) memory (asked_in_records w memory c.args.search.now.met.keys l)
    (g.C.Callbacks.asked c.args.s.now.table.calls) (g.C.Callbacks.asked c.loop-next.s.table.calls))
    (take_all c.loop-next.next keys (omega (arith, past, most)) ∙ all.known.met) (before.asks memory tells known starts))

pub returns-in_err-judge_record-clause-asks : goal.returns-in_err-judge_record-clause-asks
returns-in_err-judge_record-clause-asks g c = λ memory tells known starts.
    let w = c.args.s.now.layout in
    let k = c.loop-next.next in
    let addr = c.in-Some.addr in
    let at : slice_get c.loop-next.search.met.keys k ≡ Some addr = sym c.get_index.ensures.key ∙ sym c.copied.ensures ∙ c.in-Some.is in
    let stop = c.in_err-judge_record.field-0.0 in
    let before = c.loop-next.invariant in
    let j = before.judged memory tells known starts in
    let told = g.C.Callbacks.told c.args.s.now.table.calls in
    let start = g.C.Callbacks.asked c.args.s.now.table.calls in
    let mid = g.C.Callbacks.asked c.loop-next.s.table.calls in
    let last = g.C.Callbacks.asked c.judge_record.new.s.table.calls in
    let met = c.args.search.now.met.keys in
    let keys = c.loop-next.search.met.keys in
    let past = slice_get_within keys k addr at in
    let begins = met_begins w memory k c.loop-next.search (omega (arith, before.end)) j in
    let front : take k (reached w memory) ≡ take k keys = begins_take k (omega (arith, past)) begins in
    let first =
    kept_on g.C.Callbacks.told c.args.s.now c.loop-next.s c.loop-next.search
    (λ l m. IsFirst (refused_record l m addr) stop) before.same c.in_err-judge_record.ensures.judged memory tells j.knows in
    subst (AsksOnly told memory (asked_in_records w memory met (reached w memory)) start last)
    (sym (ended_by c.from_residual.result stop c.from_residual.ensures.1))
    (each_stops (asked_in_record w memory) (named_by w memory) (refused_record w memory) told memory met keys start mid last
    (reached w memory) k addr stop (ap (λ l. slice_get l k) begins.is ∙ front_at keys begins.rest k addr at)
    (ap (flat_map (refused_record w memory)) front ∙ j.none)
    (judging_met w memory k c.args.search.now c.loop-next.search starts j ∙ ap (λ l. insert_all nat_eq met (flat_map (named_by w memory) l)) (sym front))
    (subst (λ l. AsksAll told memory (asked_in_records w memory met l) start mid) (sym front) (before.asks memory tells known starts)) first
    (asks_kept g.C.Callbacks.told c.args.s.now c.loop-next.s c.loop-next.search (λ l m. asked_in_record l m keys addr) mid last (stopped_by stop)
    before.same c.in_err-judge_record.ensures.asks memory tells j.knows))
