use Rattle.std.proofs.Common.{◌≡◌, ◌∙◌, ℕ, [], length, sym, ap, subst}
use Rattle.std.specs.List.{range_with_len}
use Rattle.std.specs.Prelude.{Result, Ok}
use Rattle.std.specs.Result.{IsErrAnd}
use Rattle.omi_calls.specs.Asked.{Asked}
use Rattle.omi_audit.specs.declared.stop.Stop.{Stop}
use Rattle.omi_audit.specs.InOrder.{AsksOnly, ended, stopped_by}
use Rattle.omi_audit.specs.Listed.{asked_words}
use Rattle.omi_audit.specs.Judged.{AreThreads, refused_among, IsFirst, IsFine, IsSearched, AreClear, Starts}
use Rattle.omi_audit.specs.Search.{reached}
use Rattle.omi_audit.specs.Verdicts.{refusals}
use Rattle.omi_audit.proofs.JudgedAll.{IsNew, knows_new, of_threads, of_records, of_chains, runtime_stops, threads_stop, records_stop, chains_stop, none_refused, threads_fine, records_fine, after_runtime, after_threads, starts}
use Rattle.omi_audit.proofs.JudgedPlaces.{judges_stop}
use Rattle.omi_audit.specs.Search.{runtime_places}
use Rattle.omi_layout.specs.Table.{thread_count}
use Rattle.omi_word.specs.Words.{Words}
use Rattle.omi_session.specs.Tells.{Tells}
use Rattle.omi_audit.proofs.Asking.{asks_all, asks_behind, ended_by}
use Rattle.omi_audit.proofs.AskedAll.{records_ask, runtime_ask, threads_ask}
use Rattle.omi_audit.proofs.auditing.judge_all.Given.{Over}
use Rattle.omi_audit.proofs.auditing.judge_all.Goals.{In_ok-judge_runtime, In_ok-judge_threads, In_ok-judge_met}
use Rattle.omi_audit.proofs.auditing.judge_all.Goals as goal

module _ (g : Over) where
  -- nothing was met before the runtime record was judged
  begun : (c : In_ok-judge_runtime g) → IsNew c.new-search.result
  begun c = record { met = c.new-search.ensures.met; links = c.new-search.ensures.links; begun = c.new-search.ensures.begun }

  runtime_fine : (c : In_ok-judge_runtime g) (m : Words) → Tells (g.C.Callbacks.told c.args.s.now.table.calls) m
      → refused_among c.args.s.now.layout m 0 (runtime_places c.args.s.now.layout m) ≡ []
  runtime_fine c m tells =
      (c.in_ok-judge_runtime.ensures.judged m tells (knows_new c.args.s.now.layout m c.new-search.result (begun c))).none

  -- the threads, as their records were judged
  all_fine : (c : In_ok-judge_threads g) (m : Words) → Tells (g.C.Callbacks.told c.args.s.now.table.calls) m
      → IsFine (of_threads c.args.s.now.layout m) (AreThreads c.args.s.now.layout m (range_with_len 0 (thread_count c.args.s.now.layout)) c.judge_runtime.new.search c.judge_threads.new.search)
  all_fine c =
      threads_fine g.C.Callbacks.told c.args.s.now c.judge_runtime.new.s c.in_ok-judge_runtime.ensures.same c.new-search.result c.judge_runtime.new.search
      (begun (goal.at.In_ok-judge_threads g c).In_ok-judge_runtime) c.in_ok-judge_runtime.ensures.judged
      c.judge_threads.new.s c.in_ok-judge_threads.ensures.same c.judge_threads.new.search c.in_ok-judge_threads.ensures.judged

  -- the records that were met
  met_fine : (c : In_ok-judge_met g) (m : Words) → Tells (g.C.Callbacks.told c.args.s.now.table.calls) m
      → IsFine (of_records c.args.s.now.layout m) (IsSearched c.args.s.now.layout m c.judge_met.new.search)
  met_fine c =
      records_fine g.C.Callbacks.told c.args.s.now c.judge_runtime.new.s c.in_ok-judge_runtime.ensures.same c.new-search.result c.judge_runtime.new.search
      (begun (goal.at.In_ok-judge_met g c).In_ok-judge_runtime) c.in_ok-judge_runtime.ensures.judged
      c.judge_threads.new.s c.in_ok-judge_threads.ensures.same c.judge_threads.new.search c.in_ok-judge_threads.ensures.judged
      c.judge_met.new.search c.in_ok-judge_met.ensures.judged

  searched : (c : In_ok-judge_met g) (m : Words) → Tells (g.C.Callbacks.told c.args.s.now.table.calls) m
      → AsksOnly (g.C.Callbacks.told c.args.s.now.table.calls) m (asked_words c.args.s.now.layout m)
      (g.C.Callbacks.asked c.args.s.now.table.calls) (g.C.Callbacks.asked c.judge_met.new.s.table.calls) (Ok tt)
  searched c =
      records_ask g.C.Callbacks.told g.C.Callbacks.asked c.args.s.now c.judge_runtime.new.s c.new-search.result c.judge_runtime.new.search
      (begun (goal.at.In_ok-judge_met g c).In_ok-judge_runtime) c.in_ok-judge_runtime.ensures.same c.in_ok-judge_runtime.ensures.judged c.in_ok-judge_runtime.ensures.asks
      c.judge_threads.new.s c.in_ok-judge_threads.ensures.same c.judge_threads.new.search c.in_ok-judge_threads.ensures.judged c.in_ok-judge_threads.ensures.asks
      c.judge_met.new.s (Ok tt) c.in_ok-judge_met.ensures.asks

  -- what an audit that stopped asks for
  asked_until : (c : In_ok-judge_runtime g) (m : Words) (now : Asked) (r : Result ℕ Stop) (stop : Stop) → IsErrAnd r (λ other. other ≡ stop)
      → AsksOnly (g.C.Callbacks.told c.args.s.now.table.calls) m (asked_words c.args.s.now.layout m) (g.C.Callbacks.asked c.args.s.now.table.calls) now (stopped_by stop)
      → AsksOnly (g.C.Callbacks.told c.args.s.now.table.calls) m (asked_words c.args.s.now.layout m) (g.C.Callbacks.asked c.args.s.now.table.calls) now (ended r)
  asked_until c m now r stop is asks =
      subst (AsksOnly (g.C.Callbacks.told c.args.s.now.table.calls) m (asked_words c.args.s.now.layout m) (g.C.Callbacks.asked c.args.s.now.table.calls) now)
      (sym (ended_by r stop is)) asks

pub returns-in_err-judge_runtime-clause-judged : goal.returns-in_err-judge_runtime-clause-judged
returns-in_err-judge_runtime-clause-judged g c = λ memory tells.
    let w = c.args.s.now.layout in
    let k = c.new-search.result in
    let new : IsNew k = record { met = c.new-search.ensures.met; links = c.new-search.ensures.links; begun = c.new-search.ensures.begun } in
    let stop = c.in_err-judge_runtime.field-0.0 in
    judges_stop (refusals w memory) (λ records. records ≡ length (reached w memory)) c.from_residual.result stop c.from_residual.ensures.1
    (runtime_stops w memory stop (c.in_err-judge_runtime.ensures.judged memory tells (knows_new w memory k new)))

pub returns-in_err-judge_threads-clause-judged : goal.returns-in_err-judge_threads-clause-judged
returns-in_err-judge_threads-clause-judged g c = λ memory tells.
    let w = c.args.s.now.layout in
    let before = (goal.at.returns-in_err-judge_threads-clause-judged g c).In_ok-judge_runtime in
    let runtime = c.in_ok-judge_runtime.ensures in
    let stop = c.in_err-judge_threads.field-0.0 in
    let first =
    after_runtime g.C.Callbacks.told c.args.s.now c.judge_runtime.new.s runtime.same c.new-search.result c.judge_runtime.new.search (begun g before) runtime.judged
    (λ l m. IsFirst (of_threads l m) stop) c.in_err-judge_threads.ensures.judged memory tells in
    judges_stop (refusals w memory) (λ records. records ≡ length (reached w memory)) c.from_residual-in_err-judge_threads.result stop c.from_residual-in_err-judge_threads.ensures.1
    (threads_stop w memory stop (runtime_fine g before memory tells) first)

pub returns-in_err-judge_met-clause-judged : goal.returns-in_err-judge_met-clause-judged
returns-in_err-judge_met-clause-judged g c = λ memory tells.
    let w = c.args.s.now.layout in
    let k = c.new-search.result in
    let before = (goal.at.returns-in_err-judge_met-clause-judged g c).In_ok-judge_runtime in
    let clear = (all_fine g (goal.at.returns-in_err-judge_met-clause-judged g c).In_ok-judge_threads memory tells).none in
    let runtime = c.in_ok-judge_runtime.ensures in
    let threads = c.in_ok-judge_threads.ensures in
    let stop = c.in_err-judge_met.field-0.0 in
    let first =
    after_threads g.C.Callbacks.told c.args.s.now c.judge_runtime.new.s runtime.same k c.judge_runtime.new.search (begun g before) runtime.judged
    c.judge_threads.new.s threads.same c.judge_threads.new.search threads.judged
    (λ l m. Starts l m c.judge_threads.new.search → IsFirst (of_records l m) stop) c.in_err-judge_met.ensures.judged memory tells
    (starts g.C.Callbacks.told c.args.s.now c.judge_runtime.new.s runtime.same k c.judge_runtime.new.search (begun g before) runtime.judged
    c.judge_threads.new.s threads.same c.judge_threads.new.search threads.judged memory tells) in
    judges_stop (refusals w memory) (λ records. records ≡ length (reached w memory)) c.from_residual-in_err-judge_met.result stop c.from_residual-in_err-judge_met.ensures.1
    (records_stop w memory stop (runtime_fine g before memory tells) clear first)

pub returns-in_err-judge_chains-clause-judged : goal.returns-in_err-judge_chains-clause-judged
returns-in_err-judge_chains-clause-judged g c = λ memory tells.
    let w = c.args.s.now.layout in
    let at = goal.at.returns-in_err-judge_chains-clause-judged g c in
    let fine = met_fine g at.In_ok-judge_met memory tells in
    let same : c.layout.result.now.table ≡ w = c.layout.ensures ∙ c.in_ok-judge_met.ensures.same.layout ∙ c.in_ok-judge_threads.ensures.same.layout ∙ c.in_ok-judge_runtime.ensures.same.layout in
    let stop = c.in_err-judge_chains.field-0.0 in
    let first =
    subst (λ l. IsSearched l memory c.judge_met.new.search → AreClear l memory → IsFirst (of_chains l memory) stop) same
    (c.in_err-judge_chains.ensures.judged memory) fine.known fine.none in
    judges_stop (refusals w memory) (λ records. records ≡ length (reached w memory)) c.from_residual-in_err-judge_chains.result stop c.from_residual-in_err-judge_chains.ensures.1
    (chains_stop w memory stop (runtime_fine g at.In_ok-judge_runtime memory tells) (all_fine g at.In_ok-judge_threads memory tells).none fine.none first)

pub returns-clause-judged : goal.returns-clause-judged
returns-clause-judged g c = λ memory tells.
    let w = c.args.s.now.layout in
    let at = goal.at.returns-clause-judged g c in
    let fine = met_fine g at.In_ok-judge_met memory tells in
    let same : c.layout.result.now.table ≡ w = c.layout.ensures ∙ c.in_ok-judge_met.ensures.same.layout ∙ c.in_ok-judge_threads.ensures.same.layout ∙ c.in_ok-judge_runtime.ensures.same.layout in
    let ends =
    (subst (λ l. IsSearched l memory c.judge_met.new.search → AreClear l memory → IsFine (of_chains l memory) (Unit {0})) same
    (c.in_ok-judge_chains.ensures.judged memory) fine.known fine.none).none in
    record {
      none = none_refused w memory (runtime_fine g at.In_ok-judge_runtime memory tells) (all_fine g at.In_ok-judge_threads memory tells).none fine.none ends;
      known = c.len.ensures.len ∙ ap length fine.known.met;
    }

pub returns-in_err-judge_runtime-clause-reads : goal.returns-in_err-judge_runtime-clause-reads
returns-in_err-judge_runtime-clause-reads g c = λ memory tells.
    let w = c.args.s.now.layout in
    let k = c.new-search.result in
    let new : IsNew k = record { met = c.new-search.ensures.met; links = c.new-search.ensures.links; begun = c.new-search.ensures.begun } in
    let stop = c.in_err-judge_runtime.field-0.0 in
    subst
    (AsksOnly (g.C.Callbacks.told c.args.s.now.table.calls) memory (asked_words w memory) (g.C.Callbacks.asked c.args.s.now.table.calls) (g.C.Callbacks.asked c.judge_runtime.new.s.table.calls))
    (sym (ended_by c.from_residual.result stop c.from_residual.ensures.1))
    (runtime_ask g.C.Callbacks.told g.C.Callbacks.asked c.args.s.now c.judge_runtime.new.s k c.judge_runtime.new.search new stop
    c.in_err-judge_runtime.ensures.judged c.in_err-judge_runtime.ensures.asks memory tells)

pub returns-in_err-judge_threads-clause-reads : goal.returns-in_err-judge_threads-clause-reads
returns-in_err-judge_threads-clause-reads g c = λ memory tells.
    let before = (goal.at.returns-in_err-judge_threads-clause-reads g c).In_ok-judge_runtime in
    let runtime = c.in_ok-judge_runtime.ensures in
    let stop = c.in_err-judge_threads.field-0.0 in
    asked_until g before memory (g.C.Callbacks.asked c.judge_threads.new.s.table.calls) c.from_residual-in_err-judge_threads.result stop c.from_residual-in_err-judge_threads.ensures.1
    (threads_ask g.C.Callbacks.told g.C.Callbacks.asked c.args.s.now c.judge_runtime.new.s c.new-search.result c.judge_runtime.new.search (begun g before)
    runtime.same runtime.judged runtime.asks c.judge_threads.new.s stop c.in_err-judge_threads.ensures.judged c.in_err-judge_threads.ensures.asks memory tells)

pub returns-in_err-judge_met-clause-reads : goal.returns-in_err-judge_met-clause-reads
returns-in_err-judge_met-clause-reads g c = λ memory tells.
    let before = (goal.at.returns-in_err-judge_met-clause-reads g c).In_ok-judge_runtime in
    let runtime = c.in_ok-judge_runtime.ensures in
    let threads = c.in_ok-judge_threads.ensures in
    let stop = c.in_err-judge_met.field-0.0 in
    asked_until g before memory (g.C.Callbacks.asked c.judge_met.new.s.table.calls) c.from_residual-in_err-judge_met.result stop c.from_residual-in_err-judge_met.ensures.1
    (records_ask g.C.Callbacks.told g.C.Callbacks.asked c.args.s.now c.judge_runtime.new.s c.new-search.result c.judge_runtime.new.search (begun g before)
    runtime.same runtime.judged runtime.asks c.judge_threads.new.s threads.same c.judge_threads.new.search threads.judged threads.asks
    c.judge_met.new.s (stopped_by stop) c.in_err-judge_met.ensures.asks memory tells)

pub returns-in_err-judge_chains-clause-reads : goal.returns-in_err-judge_chains-clause-reads
returns-in_err-judge_chains-clause-reads g c = λ memory tells.
    let at = goal.at.returns-in_err-judge_chains-clause-reads g c in
    let w = c.args.s.now.layout in
    let told = g.C.Callbacks.told c.args.s.now.table.calls in
    let first = g.C.Callbacks.asked c.args.s.now.table.calls in
    let last = g.C.Callbacks.asked c.judge_met.new.s.table.calls in
    let stop = c.in_err-judge_chains.field-0.0 in
    asked_until g at.In_ok-judge_runtime memory last c.from_residual-in_err-judge_chains.result stop c.from_residual-in_err-judge_chains.ensures.1
    (asks_behind told memory (asked_words w memory) first last stop c.in_err-judge_chains.ensures.cause
    (asks_all told memory (asked_words w memory) first last (searched g at.In_ok-judge_met memory tells)))

pub returns-clause-reads : goal.returns-clause-reads
returns-clause-reads g c = λ memory tells. searched g (goal.at.returns-clause-reads g c).In_ok-judge_met memory tells
