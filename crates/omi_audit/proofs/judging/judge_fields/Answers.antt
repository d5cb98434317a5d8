use Rattle.std.proofs.Common.{◌≡◌, ◌∙◌, ◌+◌, inl, suc, [], ◌∷◌, take, length, get_or, Some, refl, sym, ap, subst, arith}
use Rattle.std.specs.Prelude.{Ok, slice_get}
use Rattle.std.proofs.Math.Seq.{take-length}
use Rattle.std.proofs.lemmas.List.{length-map}
use Rattle.std.proofs.lemmas.Option.{slice_get-get_or}
use Rattle.omi_session.proofs.Told.{stays_then}
use Rattle.omi_layout.specs.declared.field.Field.TheVariants.{RuntimeVersion}
use Rattle.omi_audit.specs.Search.{places_of}
use Rattle.omi_audit.specs.Verdicts.{refused_at}
use Rattle.omi_audit.specs.Judged.{place_at, refused_among, IsFine, IsFirst, IsFound, IsJudged}
use Rattle.omi_audit.specs.InOrder.{AsksOnly, stopped_by}
use Rattle.omi_audit.specs.Listed.{asked_among}
use Rattle.omi_audit.proofs.Asking.{AsksAll, asks_all, asks_kept, ended_by, places_next, places_stop}
use Rattle.omi_audit.proofs.JudgedPlaces.{AreFine, AreSaid, field_place, said_next, judges_stop, fine_start, fine_next, fine_stop}
use Rattle.omi_audit.proofs.KeptOn.{kept_on}
use Rattle.omi_audit.proofs.NamedWords.{still_knows_named}
use Rattle.omi_audit.proofs.judging.judge_fields.Goals as goal

pub loop-field-init : goal.loop-field-init
loop-field-init g c = record {
  judged = λ memory tells known. fine_start c.args.s.now.layout memory c.args.thread c.args.search.now;
  said = λ memory tells known. record { next = refl; count = refl };
  asks = λ memory tells known. (refl, refl);
  few = omega arith;
  begun = refl;
  same = record { table = record { same = refl; order = refl; to_host = refl }; layout = refl; handles = refl };
  later = omega arith;
}

pub loop-field-preserved : goal.loop-field-preserved
loop-field-preserved g c =
    let before = c.loop-field.invariant in
    let done = c.in_ok-word.ensures in
    let fields = c.args.fields.now in
    let k = c.loop-field.field-index in
    let f = get_or fields k RuntimeVersion in
    let at : slice_get fields k ≡ Some f = slice_get-get_or fields k RuntimeVersion (omega arith) in
    let one : suc k ≡ k + 1 = omega arith in
    record {
      judged = λ memory tells known.
          let w = c.args.s.now.layout in
          let p = place_at c.args.addr f 0 in
          let places = places_of c.args.addr fields in
          let fine = before.judged memory tells known in
          let knows = still_knows_named w memory c.args.search.now c.loop-field.search (take k places) known fine.known in
          let now =
          kept_on g.C.Callbacks.told c.args.s.now c.loop-field.s c.loop-field.search
          (λ l m. IsFine (refused_at l m c.args.thread p) (IsJudged l m p c.loop-field.search c.judge.new.search c.in_ok-word.word))
          before.same done.judged memory tells knows in
          subst (λ n. AreFine w memory c.args.thread (take n places) c.args.search.now c.judge.new.search) one
          (fine_next w memory c.args.thread places k p (field_place w memory c.args.addr fields k f at) c.args.search.now c.loop-field.search c.judge.new.search c.in_ok-word.word fine now);
      said = λ memory tells known.
          let w = c.args.s.now.layout in
          let p = place_at c.args.addr f 0 in
          let fine = before.judged memory tells known in
          let knows = still_knows_named w memory c.args.search.now c.loop-field.search (take k (places_of c.args.addr fields)) known fine.known in
          let now =
          kept_on g.C.Callbacks.told c.args.s.now c.loop-field.s c.loop-field.search
          (λ l m. IsFine (refused_at l m c.args.thread p) (IsJudged l m p c.loop-field.search c.judge.new.search c.in_ok-word.word))
          before.same done.judged memory tells knows in
          subst (λ n. AreSaid w memory c.args.addr (take n fields) c.with-found.result) one
          (said_next w memory c.args.addr fields k f at c.loop-field.found c.with-found.result c.in_ok-word.word now.known.word (before.said memory tells known)
          c.with-found.ensures.next c.with-found.ensures.count);
      asks = λ memory tells known.
          let w = c.args.s.now.layout in
          let i = c.args.thread in
          let told = g.C.Callbacks.told c.args.s.now.table.calls in
          let asked = g.C.Callbacks.asked in
          let p = place_at c.args.addr f 0 in
          let places = places_of c.args.addr fields in
          let met = c.args.search.now.met.keys in
          let fine = before.judged memory tells known in
          let knows = still_knows_named w memory c.args.search.now c.loop-field.search (take k places) known fine.known in
          subst (λ n. AsksAll told memory (asked_among w memory i met (take n places)) (asked c.args.s.now.table.calls) (asked c.judge.new.s.table.calls)) one
          (asks_all told memory (asked_among w memory i met (take (suc k) places)) (asked c.args.s.now.table.calls) (asked c.judge.new.s.table.calls)
          (places_next w memory i told met c.loop-field.search.met.keys (asked c.args.s.now.table.calls) (asked c.loop-field.s.table.calls) (asked c.judge.new.s.table.calls) (Ok tt)
          places k p (field_place w memory c.args.addr fields k f at) fine.none fine.known.met (before.asks memory tells known)
          (asks_kept g.C.Callbacks.told c.args.s.now c.loop-field.s c.loop-field.search (λ l m. asked_among l m i c.loop-field.search.met.keys (p ∷ []))
          (asked c.loop-field.s.table.calls) (asked c.judge.new.s.table.calls) (Ok tt) before.same done.asks memory tells knows)));
      few = c.with-found.ensures.few;
      begun = done.begun ∙ before.begun;
      same = stays_then g.C.Callbacks.told c.args.s.now c.loop-field.s c.judge.new.s before.same done.same;
      later = omega (arith, before.later, done.cause.later);
    }

pub returns-clause-judged : goal.returns-clause-judged
returns-clause-judged g c = λ memory tells known.
    let w = c.args.s.now.layout in
    let fields = c.args.fields.now in
    let places = places_of c.args.addr fields in
    let long : length places ≡ length fields = length-map fields (λ f. place_at c.args.addr f 0) in
    let end : c.loop-field.field-index ≡ length fields = omega arith in
    let fine =
    subst (λ l. AreFine w memory c.args.thread l c.args.search.now c.loop-field.search)
    (ap (λ n. take n places) (let e : c.loop-field.field-index ≡ length places = omega (arith, long) in e) ∙ take-length places)
    (c.loop-field.invariant.judged memory tells known) in
    let said =
    subst (λ l. AreSaid w memory c.args.addr l c.loop-field.found) (ap (λ n. take n fields) end ∙ take-length fields)
    (c.loop-field.invariant.said memory tells known) in
    record { none = fine.none; known = record { next = said.next; count = said.count; meets = fine.known } }

pub returns-in_err-word-clause-judged : goal.returns-in_err-word-clause-judged
returns-in_err-word-clause-judged g c = λ memory tells known.
    let w = c.args.s.now.layout in
    let fields = c.args.fields.now in
    let k = c.loop-field.field-index in
    let f = get_or fields k RuntimeVersion in
    let at : slice_get fields k ≡ Some f = slice_get-get_or fields k RuntimeVersion (omega arith) in
    let p = place_at c.args.addr f 0 in
    let places = places_of c.args.addr fields in
    let stop = c.in_err-word.field-0.0 in
    let before = c.loop-field.invariant in
    let fine = before.judged memory tells known in
    let knows = still_knows_named w memory c.args.search.now c.loop-field.search (take k places) known fine.known in
    let first =
    kept_on g.C.Callbacks.told c.args.s.now c.loop-field.s c.loop-field.search
    (λ l m. IsFirst (refused_at l m c.args.thread p) stop) before.same c.in_err-word.ensures.judged memory tells knows in
    judges_stop (refused_among w memory c.args.thread places) (IsFound w memory c.args.addr fields c.args.search.now c.judge.new.search)
    c.from_residual.result stop c.from_residual.ensures.1
    (fine_stop w memory c.args.thread places k p (field_place w memory c.args.addr fields k f at) stop fine.none first)

pub returns-clause-asks : goal.returns-clause-asks
returns-clause-asks g c = λ memory tells known.
    let fields = c.args.fields.now in
    let places = places_of c.args.addr fields in
    let long : length places ≡ length fields = length-map fields (λ f. place_at c.args.addr f 0) in
    let end : c.loop-field.field-index ≡ length places = omega (arith, long) in
    inl
    (subst
    (λ l. AsksAll (g.C.Callbacks.told c.args.s.now.table.calls) memory (asked_among c.args.s.now.layout memory c.args.thread c.args.search.now.met.keys l)
    (g.C.Callbacks.asked c.args.s.now.table.calls) (g.C.Callbacks.asked c.loop-field.s.table.calls))
    (ap (λ n. take n places) end ∙ take-length places) (c.loop-field.invariant.asks memory tells known))

pub returns-in_err-word-clause-asks : goal.returns-in_err-word-clause-asks
returns-in_err-word-clause-asks g c = λ memory tells known.
    let w = c.args.s.now.layout in
    let i = c.args.thread in
    let told = g.C.Callbacks.told c.args.s.now.table.calls in
    let asked = g.C.Callbacks.asked in
    let fields = c.args.fields.now in
    let k = c.loop-field.field-index in
    let f = get_or fields k RuntimeVersion in
    let at : slice_get fields k ≡ Some f = slice_get-get_or fields k RuntimeVersion (omega arith) in
    let p = place_at c.args.addr f 0 in
    let places = places_of c.args.addr fields in
    let met = c.args.search.now.met.keys in
    let stop = c.in_err-word.field-0.0 in
    let before = c.loop-field.invariant in
    let fine = before.judged memory tells known in
    let knows = still_knows_named w memory c.args.search.now c.loop-field.search (take k places) known fine.known in
    let first =
    kept_on g.C.Callbacks.told c.args.s.now c.loop-field.s c.loop-field.search
    (λ l m. IsFirst (refused_at l m i p) stop) before.same c.in_err-word.ensures.judged memory tells knows in
    subst (AsksOnly told memory (asked_among w memory i met places) (asked c.args.s.now.table.calls) (asked c.judge.new.s.table.calls))
    (sym (ended_by c.from_residual.result stop c.from_residual.ensures.1))
    (places_stop w memory i told met c.loop-field.search.met.keys (asked c.args.s.now.table.calls) (asked c.loop-field.s.table.calls) (asked c.judge.new.s.table.calls)
    places k p stop (field_place w memory c.args.addr fields k f at) fine.none fine.known.met (before.asks memory tells known) first
    (asks_kept g.C.Callbacks.told c.args.s.now c.loop-field.s c.loop-field.search (λ l m. asked_among l m i c.loop-field.search.met.keys (p ∷ []))
    (asked c.loop-field.s.table.calls) (asked c.judge.new.s.table.calls) (stopped_by stop) before.same c.in_err-word.ensures.asks memory tells knows))
