use Rattle.std.proofs.Common.{◌≡◌, ◌<◌, ◌+◌, inl, suc, ◌∙◌, take, length, refl, sym, ap, subst, arith}
use Rattle.std.specs.List.{flat_map, range_with_len}
use Rattle.std.proofs.Math.Seq.{take-length}
use Rattle.std.proofs.lemmas.List.FromFn.{length-range_with_len}
use Rattle.omi_layout.specs.Table.{thread_count}
use Rattle.omi_session.proofs.Told.{stays_then}
use Rattle.omi_audit.specs.InOrder.{AsksOnly, stopped_by}
use Rattle.omi_audit.specs.Listed.{asked_of_thread, asked_of_threads}
use Rattle.omi_audit.specs.Judged.{IsFine, IsFirst, IsThread, AreThreads, named_by_thread, refused_thread}
use Rattle.omi_audit.proofs.JudgedPlaces.{judges_stop, refused_first}
use Rattle.omi_audit.proofs.JudgedRecords.{grows_none, range_at, threads_next, knows_threads}
use Rattle.omi_audit.proofs.KeptOn.{kept_on}
use Rattle.std.specs.Prelude.{Ok}
use Rattle.omi_audit.proofs.Asking.{AsksAll, asks_all, asks_kept, each_next, each_stops, ended_by}
use Rattle.omi_audit.proofs.records.judge_threads.Goals as goal

pub loop-thread-init : goal.loop-thread-init
loop-thread-init g c = record {
  judged = λ memory tells known. record { none = refl; known = grows_none c.args.search.now };
  asks = λ memory tells known. (refl, refl);
  end = c.threads-thread-end.ensures ∙ ap thread_count c.layout.ensures;
  begun = c.requires;
  same = record { table = record { same = refl; order = refl; to_host = refl }; layout = refl; handles = refl };
  later = omega arith;
}

pub loop-thread-preserved : goal.loop-thread-preserved
loop-thread-preserved g c =
    let before = c.loop-thread.invariant in
    let done = c.in_ok-judge_thread.ensures in
    record {
      judged = λ memory tells known.
          let w = c.args.s.now.layout in
          let k = c.loop-thread.thread in
          let n = thread_count w in
          let within : k < n = omega (arith, before.end) in
          let fine = before.judged memory tells known in
          let knows = knows_threads w memory n k c.args.search.now c.loop-thread.search (omega (arith, within)) c.requires known fine.known in
          let now =
          kept_on g.C.Callbacks.told c.args.s.now c.loop-thread.s c.loop-thread.search
          (λ l m. IsFine (refused_thread l m k) (IsThread l m k c.loop-thread.search c.judge_thread.new.search)) before.same done.judged memory tells knows in
          let one : suc k ≡ k + 1 = omega arith in
          subst (λ j. IsFine (flat_map (refused_thread w memory) (take j (range_with_len 0 n))) (AreThreads w memory (take j (range_with_len 0 n)) c.args.search.now c.judge_thread.new.search)) one
          (threads_next w memory n k c.args.search.now c.loop-thread.search c.judge_thread.new.search within fine now);
      asks = λ memory tells known.
          let w = c.args.s.now.layout in
          let told = g.C.Callbacks.told c.args.s.now.table.calls in
          let first = g.C.Callbacks.asked c.args.s.now.table.calls in
          let mid = g.C.Callbacks.asked c.loop-thread.s.table.calls in
          let last = g.C.Callbacks.asked c.judge_thread.new.s.table.calls in
          let met = c.args.search.now.met.keys in
          let after = c.loop-thread.search.met.keys in
          let k = c.loop-thread.thread in
          let n = thread_count w in
          let within : k < n = omega (arith, before.end) in
          let fine = before.judged memory tells known in
          let knows = knows_threads w memory n k c.args.search.now c.loop-thread.search (omega (arith, within)) c.requires known fine.known in
          let one : suc k ≡ k + 1 = omega arith in
          subst (λ j. AsksAll told memory (asked_of_threads w memory met (take j (range_with_len 0 n))) first last) one
          (asks_all told memory (asked_of_threads w memory met (take (suc k) (range_with_len 0 n))) first last
          (each_next (asked_of_thread w memory) (named_by_thread w memory) (refused_thread w memory) told memory met after first mid last (Ok tt)
          (range_with_len 0 n) k k (range_at n k within) fine.none fine.known.met (before.asks memory tells known)
          (asks_kept g.C.Callbacks.told c.args.s.now c.loop-thread.s c.loop-thread.search (λ l m. asked_of_thread l m after k) mid last (Ok tt) before.same done.asks memory tells knows)));
      end = before.end;
      begun = omega (arith, before.begun, done.begun);
      same = stays_then g.C.Callbacks.told c.args.s.now c.loop-thread.s c.judge_thread.new.s before.same done.same;
      later = omega (arith, before.later, done.cause.later);
    }

pub returns-clause-judged : goal.returns-clause-judged
returns-clause-judged g c = λ memory tells known.
    let w = c.args.s.now.layout in
    let n = thread_count w in
    let before = c.loop-thread.invariant in
    let all = length-range_with_len 0 n in
    let end : c.loop-thread.thread ≡ length (range_with_len 0 n) = omega (arith, before.end, all) in
    subst (λ l. IsFine (flat_map (refused_thread w memory) l) (AreThreads w memory l c.args.search.now c.loop-thread.search))
    (ap (λ j. take j (range_with_len 0 n)) end ∙ take-length (range_with_len 0 n)) (before.judged memory tells known)

pub returns-in_err-judge_thread-clause-judged : goal.returns-in_err-judge_thread-clause-judged
returns-in_err-judge_thread-clause-judged g c = λ memory tells known.
    let w = c.args.s.now.layout in
    let n = thread_count w in
    let k = c.loop-thread.thread in
    let stop = c.in_err-judge_thread.field-0.0 in
    let before = c.loop-thread.invariant in
    let within : k < n = omega (arith, before.end) in
    let fine = before.judged memory tells known in
    let knows = knows_threads w memory n k c.args.search.now c.loop-thread.search (omega (arith, within)) c.requires known fine.known in
    let first =
    kept_on g.C.Callbacks.told c.args.s.now c.loop-thread.s c.loop-thread.search
    (λ l m. IsFirst (refused_thread l m k) stop) before.same c.in_err-judge_thread.ensures.judged memory tells knows in
    judges_stop (flat_map (refused_thread w memory) (range_with_len 0 n)) (λ _. AreThreads w memory (range_with_len 0 n) c.args.search.now c.judge_thread.new.search)
    c.from_residual.result stop c.from_residual.ensures.1
    (refused_first (refused_thread w memory) (range_with_len 0 n) k k (range_at n k within) stop fine.none first)

pub returns-clause-asks : goal.returns-clause-asks
returns-clause-asks g c = λ memory tells known.
    let w = c.args.s.now.layout in
    let n = thread_count w in
    let before = c.loop-thread.invariant in
    let all = length-range_with_len 0 n in
    let end : c.loop-thread.thread ≡ length (range_with_len 0 n) = omega (arith, before.end, all) in
    inl
    (subst
    (λ l. AsksAll (g.C.Callbacks.told c.args.s.now.table.calls) memory (asked_of_threads w memory c.args.search.now.met.keys l)
    (g.C.Callbacks.asked c.args.s.now.table.calls) (g.C.Callbacks.asked c.loop-thread.s.table.calls))
    (ap (λ j. take j (range_with_len 0 n)) end ∙ take-length (range_with_len 0 n)) (before.asks memory tells known))

pub returns-in_err-judge_thread-clause-asks : goal.returns-in_err-judge_thread-clause-asks
returns-in_err-judge_thread-clause-asks g c = λ memory tells known.
    let w = c.args.s.now.layout in
    let told = g.C.Callbacks.told c.args.s.now.table.calls in
    let start = g.C.Callbacks.asked c.args.s.now.table.calls in
    let mid = g.C.Callbacks.asked c.loop-thread.s.table.calls in
    let last = g.C.Callbacks.asked c.judge_thread.new.s.table.calls in
    let met = c.args.search.now.met.keys in
    let after = c.loop-thread.search.met.keys in
    let n = thread_count w in
    let k = c.loop-thread.thread in
    let stop = c.in_err-judge_thread.field-0.0 in
    let before = c.loop-thread.invariant in
    let within : k < n = omega (arith, before.end) in
    let fine = before.judged memory tells known in
    let knows = knows_threads w memory n k c.args.search.now c.loop-thread.search (omega (arith, within)) c.requires known fine.known in
    let first =
    kept_on g.C.Callbacks.told c.args.s.now c.loop-thread.s c.loop-thread.search
    (λ l m. IsFirst (refused_thread l m k) stop) before.same c.in_err-judge_thread.ensures.judged memory tells knows in
    subst (AsksOnly told memory (asked_of_threads w memory met (range_with_len 0 n)) start last)
    (sym (ended_by c.from_residual.result stop c.from_residual.ensures.1))
    (each_stops (asked_of_thread w memory) (named_by_thread w memory) (refused_thread w memory) told memory met after start mid last
    (range_with_len 0 n) k k stop (range_at n k within) fine.none fine.known.met (before.asks memory tells known) first
    (asks_kept g.C.Callbacks.told c.args.s.now c.loop-thread.s c.loop-thread.search (λ l m. asked_of_thread l m after k) mid last (stopped_by stop)
    before.same c.in_err-judge_thread.ensures.asks memory tells knows))
