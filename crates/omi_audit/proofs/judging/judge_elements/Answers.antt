use Rattle.std.proofs.Common.{◌≡◌, ◌∙◌, ◌+◌, ◌<◌, inl, suc, [], ◌∷◌, take, length, refl, sym, ap, subst, arith}
use Rattle.std.specs.Prelude.{Ok}
use Rattle.std.proofs.Math.Seq.{take-length}
use Rattle.std.proofs.lemmas.List.FromFn.{length-map-range_with_len}
use Rattle.std.proofs.lemmas.Result.{err_from_is_err_and}
use Rattle.omi_session.proofs.Told.{stays_then}
use Rattle.omi_audit.specs.Search.{elements_of}
use Rattle.omi_audit.specs.Verdicts.{refused_at}
use Rattle.omi_audit.specs.Judged.{place_at, IsFine, IsFirst, IsJudged}
use Rattle.omi_audit.specs.InOrder.{AsksOnly, stopped_by}
use Rattle.omi_audit.specs.Listed.{asked_among}
use Rattle.omi_audit.proofs.Asking.{AsksAll, asks_all, asks_kept, ended_by, places_next, places_stop}
use Rattle.omi_audit.proofs.JudgedPlaces.{AreFine, element_at, fine_start, fine_next, fine_stop}
use Rattle.omi_audit.proofs.KeptOn.{kept_on}
use Rattle.omi_audit.proofs.NamedWords.{still_knows_named}
use Rattle.omi_audit.proofs.judging.judge_elements.Goals as goal

pub loop-at-init : goal.loop-at-init
loop-at-init g c = record {
  judged = λ memory tells known. fine_start c.args.s.now.layout memory 0 c.args.search.now;
  asks = λ memory tells known. (refl, refl);
  begun = refl;
  same = record { table = record { same = refl; order = refl; to_host = refl }; layout = refl; handles = refl };
  later = omega arith;
}

pub loop-at-preserved : goal.loop-at-preserved
loop-at-preserved g c =
    let before = c.loop-at.invariant in
    let done = c.in_ok-judge.ensures in
    record {
      judged = λ memory tells known.
          let w = c.args.s.now.layout in
          let k = c.loop-at.at in
          let p = place_at c.args.addr c.args.field k in
          let places = elements_of c.args.addr c.args.field c.args.count in
          let fine = before.judged memory tells known in
          let within : k < c.args.count = omega arith in
          let knows = still_knows_named w memory c.args.search.now c.loop-at.search (take k places) known fine.known in
          let now =
          kept_on g.C.Callbacks.told c.args.s.now c.loop-at.s c.loop-at.search
          (λ l m. IsFine (refused_at l m 0 p) (IsJudged l m p c.loop-at.search c.judge.new.search c.in_ok-judge.field-0))
          before.same done.judged memory tells knows in
          let one : suc k ≡ k + 1 = omega arith in
          subst (λ n. AreFine w memory 0 (take n places) c.args.search.now c.judge.new.search) one
          (fine_next w memory 0 places k p (element_at c.args.addr c.args.field c.args.count k within) c.args.search.now c.loop-at.search c.judge.new.search c.in_ok-judge.field-0 fine now);
      asks = λ memory tells known.
          let w = c.args.s.now.layout in
          let told = g.C.Callbacks.told c.args.s.now.table.calls in
          let asked = g.C.Callbacks.asked in
          let k = c.loop-at.at in
          let p = place_at c.args.addr c.args.field k in
          let places = elements_of c.args.addr c.args.field c.args.count in
          let met = c.args.search.now.met.keys in
          let fine = before.judged memory tells known in
          let within : k < c.args.count = omega arith in
          let knows = still_knows_named w memory c.args.search.now c.loop-at.search (take k places) known fine.known in
          let one : suc k ≡ k + 1 = omega arith in
          subst (λ n. AsksAll told memory (asked_among w memory 0 met (take n places)) (asked c.args.s.now.table.calls) (asked c.judge.new.s.table.calls)) one
          (asks_all told memory (asked_among w memory 0 met (take (suc k) places)) (asked c.args.s.now.table.calls) (asked c.judge.new.s.table.calls)
          (places_next w memory 0 told met c.loop-at.search.met.keys (asked c.args.s.now.table.calls) (asked c.loop-at.s.table.calls) (asked c.judge.new.s.table.calls) (Ok tt)
          places k p (element_at c.args.addr c.args.field c.args.count k within) fine.none fine.known.met (before.asks memory tells known)
          (asks_kept g.C.Callbacks.told c.args.s.now c.loop-at.s c.loop-at.search (λ l m. asked_among l m 0 c.loop-at.search.met.keys (p ∷ []))
          (asked c.loop-at.s.table.calls) (asked c.judge.new.s.table.calls) (Ok tt) before.same done.asks memory tells knows)));
      begun = done.begun ∙ before.begun;
      same = stays_then g.C.Callbacks.told c.args.s.now c.loop-at.s c.judge.new.s before.same done.same;
      later = omega (arith, before.later, done.cause.later);
    }

pub returns-clause-judged : goal.returns-clause-judged
returns-clause-judged g c = λ memory tells known.
    let w = c.args.s.now.layout in
    let places = elements_of c.args.addr c.args.field c.args.count in
    let long : length places ≡ c.args.count = length-map-range_with_len (place_at c.args.addr c.args.field) 0 c.args.count in
    let end : c.loop-at.at ≡ length places = omega (arith, long) in
    subst (λ l. AreFine w memory 0 l c.args.search.now c.loop-at.search) (ap (λ n. take n places) end ∙ take-length places)
    (c.loop-at.invariant.judged memory tells known)

pub returns-in_err-judge-clause-judged : goal.returns-in_err-judge-clause-judged
returns-in_err-judge-clause-judged g c = λ memory tells known.
    let w = c.args.s.now.layout in
    let k = c.loop-at.at in
    let p = place_at c.args.addr c.args.field k in
    let places = elements_of c.args.addr c.args.field c.args.count in
    let before = c.loop-at.invariant in
    let fine = before.judged memory tells known in
    let knows = still_knows_named w memory c.args.search.now c.loop-at.search (take k places) known fine.known in
    let first =
    kept_on g.C.Callbacks.told c.args.s.now c.loop-at.s c.loop-at.search
    (λ l m. IsFirst (refused_at l m 0 p) c.in_err-judge.field-0.0)
    before.same c.in_err-judge.ensures.judged memory tells knows in
    let stopped = err_from_is_err_and {Q = λ stop. stop ≡ c.in_err-judge.field-0.0} c.from_residual.result c.from_residual.ensures.1 in
    rw (stopped.1, stopped.2)
    (fine_stop w memory 0 places k p (element_at c.args.addr c.args.field c.args.count k (omega arith)) c.in_err-judge.field-0.0 fine.none first)

pub returns-clause-asks : goal.returns-clause-asks
returns-clause-asks g c = λ memory tells known.
    let places = elements_of c.args.addr c.args.field c.args.count in
    let long : length places ≡ c.args.count = length-map-range_with_len (place_at c.args.addr c.args.field) 0 c.args.count in
    let end : c.loop-at.at ≡ length places = omega (arith, long) in
    inl
    (subst
    (λ l. AsksAll (g.C.Callbacks.told c.args.s.now.table.calls) memory (asked_among c.args.s.now.layout memory 0 c.args.search.now.met.keys l)
    (g.C.Callbacks.asked c.args.s.now.table.calls) (g.C.Callbacks.asked c.loop-at.s.table.calls))
    (ap (λ n. take n places) end ∙ take-length places) (c.loop-at.invariant.asks memory tells known))

pub returns-in_err-judge-clause-asks : goal.returns-in_err-judge-clause-asks
returns-in_err-judge-clause-asks g c = λ memory tells known.
    let w = c.args.s.now.layout in
    let told = g.C.Callbacks.told c.args.s.now.table.calls in
    let asked = g.C.Callbacks.asked in
    let k = c.loop-at.at in
    let p = place_at c.args.addr c.args.field k in
    let places = elements_of c.args.addr c.args.field c.args.count in
    let met = c.args.search.now.met.keys in
    let stop = c.in_err-judge.field-0.0 in
    let before = c.loop-at.invariant in
    let fine = before.judged memory tells known in
    let knows = still_knows_named w memory c.args.search.now c.loop-at.search (take k places) known fine.known in
    let first =
    kept_on g.C.Callbacks.told c.args.s.now c.loop-at.s c.loop-at.search
    (λ l m. IsFirst (refused_at l m 0 p) stop) before.same c.in_err-judge.ensures.judged memory tells knows in
    subst (AsksOnly told memory (asked_among w memory 0 met places) (asked c.args.s.now.table.calls) (asked c.judge.new.s.table.calls))
    (sym (ended_by c.from_residual.result stop c.from_residual.ensures.1))
    (places_stop w memory 0 told met c.loop-at.search.met.keys (asked c.args.s.now.table.calls) (asked c.loop-at.s.table.calls) (asked c.judge.new.s.table.calls)
    places k p stop (element_at c.args.addr c.args.field c.args.count k (omega arith)) fine.none fine.known.met (before.asks memory tells known) first
    (asks_kept g.C.Callbacks.told c.args.s.now c.loop-at.s c.loop-at.search (λ l m. asked_among l m 0 c.loop-at.search.met.keys (p ∷ []))
    (asked c.loop-at.s.table.calls) (asked c.judge.new.s.table.calls) (stopped_by stop) before.same c.in_err-judge.ensures.asks memory tells knows))
