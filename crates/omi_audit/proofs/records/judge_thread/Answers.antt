use Rattle.std.proofs.Common.{◌≡◌, ◌≢◌, ◌==◌, ℕ, [], ◌∷◌, true, false, inl, inr, refl, sym, ap, subst, ◌∙◌, arith}
use Rattle.std.specs.Prelude.{Ok}
use Rattle.std.proofs.lemmas.Bool.{eq-eqb}
use Rattle.std.proofs.lemmas.Bool.Decides.{eqb_tells}
use Rattle.omi_layout.specs.declared.field.Field.TheVariants.{ThreadLife, ThreadNative}
use Rattle.omi_layout.specs.Field.{threads}
use Rattle.omi_layout.specs.Place.{slot_address}
use Rattle.omi_rep.specs.Records.{thread_address}
use Rattle.omi_audit.specs.declared.fields.TheConstants.{BEGUN_FIELDS}
use Rattle.omi_audit.specs.declared.stop.Stop.TheVariants.{Fault}
use Rattle.omi_audit.specs.declared.verdict.AuditFault.TheVariants.{OutOfMemory}
use Rattle.omi_audit.specs.InOrder.{AsksOnly, ended, stopped_by}
use Rattle.omi_audit.specs.Listed.{asked_of_thread}
use Rattle.omi_audit.specs.Judged.{place_at, has_begun, refused_among, refused_thread, IsFine, IsFirst, IsFound, IsThread}
use Rattle.omi_audit.specs.Search.{places_of}
use Rattle.omi_audit.specs.Verdicts.{refused_at}
use Rattle.omi_audit.proofs.JudgedPlaces.{fine_start, judges_stop}
use Rattle.omi_audit.proofs.JudgedRecords.{begun_by, begun_places, first_places, after_life, one_fine, both_fine, after_both, first_stops, one_stops, stops_first, stops_then, thread_fine, thread_stops}
use Rattle.omi_session.proofs.Told.{stays_then}
use Rattle.omi_audit.proofs.Asking.{asks_all, asks_out, ended_by}
use Rattle.omi_audit.proofs.AskedRecords.{asks_both, asks_stop, thread_asks}
use Rattle.omi_audit.proofs.records.judge_thread.Goals as goal

unlike : (n : ℕ) → n ≢ 1 → (n == 1) ≡ false
unlike n apart = elim (eqb_tells n 1) [
  | inl same ↦ absurd (apart same.1)
  | inr other ↦ other.0
]

pub returns-in_err-life-clause-judged : goal.returns-in_err-life-clause-judged
returns-in_err-life-clause-judged g c = λ memory tells known.
    let w = c.args.s.now.layout in
    let i = c.args.thread in
    let a = c.thread_at-addr.result in
    let there : a ≡ thread_address w i = c.thread_at-addr.ensures.address ∙ ap (λ l. slot_address l threads i 0) c.layout.ensures in
    let stop = c.in_err-life.field-0.0 in
    judges_stop (refused_thread w memory i) (λ _. IsThread w memory i c.args.search.now c.judge.new.search)
    c.from_residual.result stop c.from_residual.ensures.1
    (first_stops w memory i a there (has_begun w memory i) stop refl
    (stops_first w memory i (place_at a ThreadLife 0 ∷ []) (place_at a ThreadNative 0 ∷ []) stop
    (one_stops w memory i (place_at a ThreadLife 0) stop (c.in_err-life.ensures.judged memory tells known))))

pub returns-in_err-judge-clause-judged : goal.returns-in_err-judge-clause-judged
returns-in_err-judge-clause-judged g c = λ memory tells known.
    let w = c.args.s.now.layout in
    let i = c.args.thread in
    let a = c.thread_at-addr.result in
    let there : a ≡ thread_address w i = c.thread_at-addr.ensures.address ∙ ap (λ l. slot_address l threads i 0) c.layout.ensures in
    let stop = c.in_err-judge.field-0.0 in
    let life = c.in_ok-life.ensures in
    let first =
    after_life g.C.Callbacks.told c.args.s.now c.judge.new.s life.same i a c.args.search.now c.judge.new.search c.in_ok-life.life life.judged
    (λ l m. IsFirst (refused_at l m i (place_at a ThreadNative 0)) stop) c.in_err-judge.ensures.judged memory tells known in
    judges_stop (refused_thread w memory i) (λ _. IsThread w memory i c.args.search.now c.judge-2.new.search)
    c.from_residual-in_err-judge.result stop c.from_residual-in_err-judge.ensures.1
    (first_stops w memory i a there (has_begun w memory i) stop refl
    (stops_then w memory i (place_at a ThreadLife 0 ∷ []) (place_at a ThreadNative 0 ∷ []) stop
    (one_fine w memory i (place_at a ThreadLife 0) c.args.search.now c.judge.new.search c.in_ok-life.life (life.judged memory tells known)).none
    (one_stops w memory i (place_at a ThreadNative 0) stop first)))

pub returns-then-life-ne1-clause-judged : goal.returns-then-life-ne1-clause-judged
returns-then-life-ne1-clause-judged g c = λ memory tells known.
    let w = c.args.s.now.layout in
    let i = c.args.thread in
    let a = c.thread_at-addr.result in
    let there : a ≡ thread_address w i = c.thread_at-addr.ensures.address ∙ ap (λ l. slot_address l threads i 0) c.layout.ensures in
    let life = c.in_ok-life.ensures in
    let native = c.in_ok-judge.ensures in
    let front =
    both_fine g.C.Callbacks.told c.args.s.now c.judge.new.s life.same i a c.args.search.now c.judge.new.search c.in_ok-life.life life.judged
    c.judge-2.new.s native.same c.judge-2.new.search c.in_ok-judge.field-0 native.judged memory tells known in
    thread_fine w memory i a there c.args.search.now c.judge-2.new.search c.judge-2.new.search _ c.in_ok-life.life false
    (life.judged memory tells known).known.word (unlike c.in_ok-life.life c.if-life-ne1.true) front (fine_start w memory i c.judge-2.new.search)
    refl refl c.in_ok-push.ensures.items

pub returns-clause-judged : goal.returns-clause-judged
returns-clause-judged g c = λ memory tells known.
    let w = c.args.s.now.layout in
    let i = c.args.thread in
    let a = c.thread_at-addr.result in
    let there : a ≡ thread_address w i = c.thread_at-addr.ensures.address ∙ ap (λ l. slot_address l threads i 0) c.layout.ensures in
    let life = c.in_ok-life.ensures in
    let native = c.in_ok-judge.ensures in
    let front =
    both_fine g.C.Callbacks.told c.args.s.now c.judge.new.s life.same i a c.args.search.now c.judge.new.search c.in_ok-life.life life.judged
    c.judge-2.new.s native.same c.judge-2.new.search c.in_ok-judge.field-0 native.judged memory tells known in
    let behind =
    after_both g.C.Callbacks.told c.args.s.now c.judge.new.s life.same i a c.args.search.now c.judge.new.search c.in_ok-life.life life.judged
    c.judge-2.new.s native.same c.judge-2.new.search c.in_ok-judge.field-0 native.judged
    (λ l m. IsFine (refused_among l m i (places_of a BEGUN_FIELDS)) (IsFound l m a BEGUN_FIELDS c.judge-2.new.search c.judge_fields.new.search c.in_ok-judge_fields.field-0))
    c.in_ok-judge_fields.ensures.judged memory tells known in
    thread_fine w memory i a there c.args.search.now c.judge-2.new.search c.judge_fields.new.search _ c.in_ok-life.life true
    (life.judged memory tells known).known.word (eq-eqb c.in_ok-life.life 1 (let e : c.in_ok-life.life ≡ 1 = omega arith in e)) front (record { none = behind.none; known = behind.known.meets })
    refl refl c.in_ok-push-2.ensures.items

pub returns-in_err-judge_fields-clause-judged : goal.returns-in_err-judge_fields-clause-judged
returns-in_err-judge_fields-clause-judged g c = λ memory tells known.
    let w = c.args.s.now.layout in
    let i = c.args.thread in
    let a = c.thread_at-addr.result in
    let there : a ≡ thread_address w i = c.thread_at-addr.ensures.address ∙ ap (λ l. slot_address l threads i 0) c.layout.ensures in
    let stop = c.in_err-judge_fields.field-0.0 in
    let life = c.in_ok-life.ensures in
    let native = c.in_ok-judge.ensures in
    let front =
    both_fine g.C.Callbacks.told c.args.s.now c.judge.new.s life.same i a c.args.search.now c.judge.new.search c.in_ok-life.life life.judged
    c.judge-2.new.s native.same c.judge-2.new.search c.in_ok-judge.field-0 native.judged memory tells known in
    let first =
    after_both g.C.Callbacks.told c.args.s.now c.judge.new.s life.same i a c.args.search.now c.judge.new.search c.in_ok-life.life life.judged
    c.judge-2.new.s native.same c.judge-2.new.search c.in_ok-judge.field-0 native.judged
    (λ l m. IsFirst (refused_among l m i (places_of a BEGUN_FIELDS)) stop) c.in_err-judge_fields.ensures.judged memory tells known in
    judges_stop (refused_thread w memory i) (λ _. IsThread w memory i c.args.search.now c.judge_fields.new.search)
    c.from_residual-in_err-judge_fields.result stop c.from_residual-in_err-judge_fields.ensures.1
    (thread_stops w memory i a there c.in_ok-life.life true stop (life.judged memory tells known).known.word
    (eq-eqb c.in_ok-life.life 1 (let e : c.in_ok-life.life ≡ 1 = omega arith in e))
    (stops_then w memory i (first_places a) (places_of a BEGUN_FIELDS) stop front.none first))

pub returns-in_err-life-clause-asks : goal.returns-in_err-life-clause-asks
returns-in_err-life-clause-asks g c = λ memory tells known.
    let w = c.args.s.now.layout in
    let i = c.args.thread in
    let a = c.thread_at-addr.result in
    let there : a ≡ thread_address w i = c.thread_at-addr.ensures.address ∙ ap (λ l. slot_address l threads i 0) c.layout.ensures in
    let told = g.C.Callbacks.told c.args.s.now.table.calls in
    let met = c.args.search.now.met.keys in
    let start = g.C.Callbacks.asked c.args.s.now.table.calls in
    let last = g.C.Callbacks.asked c.judge.new.s.table.calls in
    let stop = c.in_err-life.field-0.0 in
    subst (AsksOnly told memory (asked_of_thread w memory met i) start last) (sym (ended_by c.from_residual.result stop c.from_residual.ensures.1))
    (thread_asks w memory i a there (has_begun w memory i) refl told met start last (stopped_by stop)
    (asks_stop g.C.Callbacks.told g.C.Callbacks.asked c.args.s.now c.judge.new.s c.args.search.now c.judge.new.search i
    (λ l m. place_at a ThreadLife 0 ∷ []) (λ l m. place_at a ThreadNative 0 ∷ begun_places a (has_begun l m i)) stop
    (λ m t k. one_stops c.args.s.now.layout m i (place_at a ThreadLife 0) stop (c.in_err-life.ensures.judged m t k)) c.in_err-life.ensures.asks memory tells known))

pub returns-in_err-judge-clause-asks : goal.returns-in_err-judge-clause-asks
returns-in_err-judge-clause-asks g c = λ memory tells known.
    let w = c.args.s.now.layout in
    let i = c.args.thread in
    let a = c.thread_at-addr.result in
    let there : a ≡ thread_address w i = c.thread_at-addr.ensures.address ∙ ap (λ l. slot_address l threads i 0) c.layout.ensures in
    let told = g.C.Callbacks.told c.args.s.now.table.calls in
    let met = c.args.search.now.met.keys in
    let start = g.C.Callbacks.asked c.args.s.now.table.calls in
    let last = g.C.Callbacks.asked c.judge-2.new.s.table.calls in
    let life = c.in_ok-life.ensures in
    let stop = c.in_err-judge.field-0.0 in
    subst (AsksOnly told memory (asked_of_thread w memory met i) start last) (sym (ended_by c.from_residual-in_err-judge.result stop c.from_residual-in_err-judge.ensures.1))
    (thread_asks w memory i a there (has_begun w memory i) refl told met start last (stopped_by stop)
    (asks_stop g.C.Callbacks.told g.C.Callbacks.asked c.args.s.now c.judge-2.new.s c.args.search.now c.judge-2.new.search i
    (λ l m. first_places a) (λ l m. begun_places a (has_begun l m i)) stop
    (λ m t k.
    stops_then c.args.s.now.layout m i (place_at a ThreadLife 0 ∷ []) (place_at a ThreadNative 0 ∷ []) stop
    (one_fine c.args.s.now.layout m i (place_at a ThreadLife 0) c.args.search.now c.judge.new.search c.in_ok-life.life (life.judged m t k)).none
    (one_stops c.args.s.now.layout m i (place_at a ThreadNative 0) stop
    (after_life g.C.Callbacks.told c.args.s.now c.judge.new.s life.same i a c.args.search.now c.judge.new.search c.in_ok-life.life life.judged
    (λ l o. IsFirst (refused_at l o i (place_at a ThreadNative 0)) stop) c.in_err-judge.ensures.judged m t k)))
    (asks_both g.C.Callbacks.told g.C.Callbacks.asked c.args.s.now c.judge.new.s c.args.search.now c.judge.new.search i
    (λ l m. place_at a ThreadLife 0 ∷ []) (λ l m. place_at a ThreadNative 0 ∷ []) c.judge-2.new.s (stopped_by stop) life.same
    (λ m t k. one_fine c.args.s.now.layout m i (place_at a ThreadLife 0) c.args.search.now c.judge.new.search c.in_ok-life.life (life.judged m t k))
    life.asks c.in_err-judge.ensures.asks)
    memory tells known))

pub returns-then-life-ne1-clause-asks : goal.returns-then-life-ne1-clause-asks
returns-then-life-ne1-clause-asks g c = λ memory tells known.
    let w = c.args.s.now.layout in
    let i = c.args.thread in
    let a = c.thread_at-addr.result in
    let there : a ≡ thread_address w i = c.thread_at-addr.ensures.address ∙ ap (λ l. slot_address l threads i 0) c.layout.ensures in
    let told = g.C.Callbacks.told c.args.s.now.table.calls in
    let met = c.args.search.now.met.keys in
    let start = g.C.Callbacks.asked c.args.s.now.table.calls in
    let last = g.C.Callbacks.asked c.judge-2.new.s.table.calls in
    let life = c.in_ok-life.ensures in
    let idle = begun_by w memory i a there c.in_ok-life.life (life.judged memory tells known).known.word ∙ unlike c.in_ok-life.life c.if-life-ne1.true in
    thread_asks w memory i a there false idle told met start last (Ok tt)
    (asks_both g.C.Callbacks.told g.C.Callbacks.asked c.args.s.now c.judge.new.s c.args.search.now c.judge.new.search i
    (λ l m. place_at a ThreadLife 0 ∷ []) (λ l m. place_at a ThreadNative 0 ∷ []) c.judge-2.new.s (Ok tt) life.same
    (λ m t k. one_fine c.args.s.now.layout m i (place_at a ThreadLife 0) c.args.search.now c.judge.new.search c.in_ok-life.life (life.judged m t k))
    life.asks c.in_ok-judge.ensures.asks memory tells known)

pub returns-in_err-push-clause-asks : goal.returns-in_err-push-clause-asks
returns-in_err-push-clause-asks g c = λ memory tells known.
    let w = c.args.s.now.layout in
    let i = c.args.thread in
    let a = c.thread_at-addr.result in
    let there : a ≡ thread_address w i = c.thread_at-addr.ensures.address ∙ ap (λ l. slot_address l threads i 0) c.layout.ensures in
    let told = g.C.Callbacks.told c.args.s.now.table.calls in
    let met = c.args.search.now.met.keys in
    let start = g.C.Callbacks.asked c.args.s.now.table.calls in
    let last = g.C.Callbacks.asked c.judge-2.new.s.table.calls in
    let life = c.in_ok-life.ensures in
    let idle = begun_by w memory i a there c.in_ok-life.life (life.judged memory tells known).known.word ∙ unlike c.in_ok-life.life c.if-life-ne1.true in
    asks_out told memory (asked_of_thread w memory met i) start last (ended c.from_residual-in_err-push.result)
    (ended_by c.from_residual-in_err-push.result (Fault OutOfMemory) c.from_residual-in_err-push.ensures.1)
    (asks_all told memory (asked_of_thread w memory met i) start last
    (thread_asks w memory i a there false idle told met start last (Ok tt)
    (asks_both g.C.Callbacks.told g.C.Callbacks.asked c.args.s.now c.judge.new.s c.args.search.now c.judge.new.search i
    (λ l m. place_at a ThreadLife 0 ∷ []) (λ l m. place_at a ThreadNative 0 ∷ []) c.judge-2.new.s (Ok tt) life.same
    (λ m t k. one_fine c.args.s.now.layout m i (place_at a ThreadLife 0) c.args.search.now c.judge.new.search c.in_ok-life.life (life.judged m t k))
    life.asks c.in_ok-judge.ensures.asks memory tells known)))

pub returns-in_err-judge_fields-clause-asks : goal.returns-in_err-judge_fields-clause-asks
returns-in_err-judge_fields-clause-asks g c = λ memory tells known.
    let w = c.args.s.now.layout in
    let i = c.args.thread in
    let a = c.thread_at-addr.result in
    let there : a ≡ thread_address w i = c.thread_at-addr.ensures.address ∙ ap (λ l. slot_address l threads i 0) c.layout.ensures in
    let told = g.C.Callbacks.told c.args.s.now.table.calls in
    let met = c.args.search.now.met.keys in
    let start = g.C.Callbacks.asked c.args.s.now.table.calls in
    let last = g.C.Callbacks.asked c.judge_fields.new.s.table.calls in
    let life = c.in_ok-life.ensures in
    let native = c.in_ok-judge.ensures in
    let front =
    both_fine g.C.Callbacks.told c.args.s.now c.judge.new.s life.same i a c.args.search.now c.judge.new.search c.in_ok-life.life life.judged
    c.judge-2.new.s native.same c.judge-2.new.search c.in_ok-judge.field-0 native.judged in
    let begun = begun_by w memory i a there c.in_ok-life.life (life.judged memory tells known).known.word ∙ eq-eqb c.in_ok-life.life 1 (let e : c.in_ok-life.life ≡ 1 = omega arith in e) in
    let stop = c.in_err-judge_fields.field-0.0 in
    subst (AsksOnly told memory (asked_of_thread w memory met i) start last)
    (sym (ended_by c.from_residual-in_err-judge_fields.result stop c.from_residual-in_err-judge_fields.ensures.1))
    (thread_asks w memory i a there true begun told met start last (stopped_by stop)
    (asks_both g.C.Callbacks.told g.C.Callbacks.asked c.args.s.now c.judge-2.new.s c.args.search.now c.judge-2.new.search i
    (λ l m. first_places a) (λ l m. places_of a BEGUN_FIELDS) c.judge_fields.new.s (stopped_by stop)
    (stays_then g.C.Callbacks.told c.args.s.now c.judge.new.s c.judge-2.new.s life.same native.same) front
    (asks_both g.C.Callbacks.told g.C.Callbacks.asked c.args.s.now c.judge.new.s c.args.search.now c.judge.new.search i
    (λ l m. place_at a ThreadLife 0 ∷ []) (λ l m. place_at a ThreadNative 0 ∷ []) c.judge-2.new.s (Ok tt) life.same
    (λ m t k. one_fine c.args.s.now.layout m i (place_at a ThreadLife 0) c.args.search.now c.judge.new.search c.in_ok-life.life (life.judged m t k))
    life.asks native.asks)
    c.in_err-judge_fields.ensures.asks memory tells known))

pub returns-clause-asks : goal.returns-clause-asks
returns-clause-asks g c = λ memory tells known.
    let w = c.args.s.now.layout in
    let i = c.args.thread in
    let a = c.thread_at-addr.result in
    let there : a ≡ thread_address w i = c.thread_at-addr.ensures.address ∙ ap (λ l. slot_address l threads i 0) c.layout.ensures in
    let told = g.C.Callbacks.told c.args.s.now.table.calls in
    let met = c.args.search.now.met.keys in
    let start = g.C.Callbacks.asked c.args.s.now.table.calls in
    let last = g.C.Callbacks.asked c.judge_fields.new.s.table.calls in
    let life = c.in_ok-life.ensures in
    let native = c.in_ok-judge.ensures in
    let front =
    both_fine g.C.Callbacks.told c.args.s.now c.judge.new.s life.same i a c.args.search.now c.judge.new.search c.in_ok-life.life life.judged
    c.judge-2.new.s native.same c.judge-2.new.search c.in_ok-judge.field-0 native.judged in
    let begun = begun_by w memory i a there c.in_ok-life.life (life.judged memory tells known).known.word ∙ eq-eqb c.in_ok-life.life 1 (let e : c.in_ok-life.life ≡ 1 = omega arith in e) in
    thread_asks w memory i a there true begun told met start last (Ok tt)
    (asks_both g.C.Callbacks.told g.C.Callbacks.asked c.args.s.now c.judge-2.new.s c.args.search.now c.judge-2.new.search i
    (λ l m. first_places a) (λ l m. places_of a BEGUN_FIELDS) c.judge_fields.new.s (Ok tt)
    (stays_then g.C.Callbacks.told c.args.s.now c.judge.new.s c.judge-2.new.s life.same native.same) front
    (asks_both g.C.Callbacks.told g.C.Callbacks.asked c.args.s.now c.judge.new.s c.args.search.now c.judge.new.search i
    (λ l m. place_at a ThreadLife 0 ∷ []) (λ l m. place_at a ThreadNative 0 ∷ []) c.judge-2.new.s (Ok tt) life.same
    (λ m t k. one_fine c.args.s.now.layout m i (place_at a ThreadLife 0) c.args.search.now c.judge.new.search c.in_ok-life.life (life.judged m t k))
    life.asks native.asks)
    c.in_ok-judge_fields.ensures.asks memory tells known)

pub returns-in_err-push-2-clause-asks : goal.returns-in_err-push-2-clause-asks
returns-in_err-push-2-clause-asks g c = λ memory tells known.
    let w = c.args.s.now.layout in
    let i = c.args.thread in
    let a = c.thread_at-addr.result in
    let there : a ≡ thread_address w i = c.thread_at-addr.ensures.address ∙ ap (λ l. slot_address l threads i 0) c.layout.ensures in
    let told = g.C.Callbacks.told c.args.s.now.table.calls in
    let met = c.args.search.now.met.keys in
    let start = g.C.Callbacks.asked c.args.s.now.table.calls in
    let last = g.C.Callbacks.asked c.judge_fields.new.s.table.calls in
    let life = c.in_ok-life.ensures in
    let native = c.in_ok-judge.ensures in
    let front =
    both_fine g.C.Callbacks.told c.args.s.now c.judge.new.s life.same i a c.args.search.now c.judge.new.search c.in_ok-life.life life.judged
    c.judge-2.new.s native.same c.judge-2.new.search c.in_ok-judge.field-0 native.judged in
    let begun = begun_by w memory i a there c.in_ok-life.life (life.judged memory tells known).known.word ∙ eq-eqb c.in_ok-life.life 1 (let e : c.in_ok-life.life ≡ 1 = omega arith in e) in
    asks_out told memory (asked_of_thread w memory met i) start last (ended c.from_residual-in_err-push-2.result)
    (ended_by c.from_residual-in_err-push-2.result (Fault OutOfMemory) c.from_residual-in_err-push-2.ensures.1)
    (asks_all told memory (asked_of_thread w memory met i) start last
    (thread_asks w memory i a there true begun told met start last (Ok tt)
    (asks_both g.C.Callbacks.told g.C.Callbacks.asked c.args.s.now c.judge-2.new.s c.args.search.now c.judge-2.new.search i
    (λ l m. first_places a) (λ l m. places_of a BEGUN_FIELDS) c.judge_fields.new.s (Ok tt)
    (stays_then g.C.Callbacks.told c.args.s.now c.judge.new.s c.judge-2.new.s life.same native.same) front
    (asks_both g.C.Callbacks.told g.C.Callbacks.asked c.args.s.now c.judge.new.s c.args.search.now c.judge.new.search i
    (λ l m. place_at a ThreadLife 0 ∷ []) (λ l m. place_at a ThreadNative 0 ∷ []) c.judge-2.new.s (Ok tt) life.same
    (λ m t k. one_fine c.args.s.now.layout m i (place_at a ThreadLife 0) c.args.search.now c.judge.new.search c.in_ok-life.life (life.judged m t k))
    life.asks native.asks)
    c.in_ok-judge_fields.ensures.asks memory tells known)))
