use Rattle.std.proofs.Common.{◌≡◌, ◌∙◌, ℕ, List, [], ◌∷◌, Bool, cond, refl, sym, ap, subst, arith, eq-eqb}
use Rattle.std.specs.Prelude.{Ok}
use Rattle.omi_layout.specs.declared.field.Field.TheVariants.{TaskSlots}
use Rattle.omi_layout.specs.declared.limits.TheConstants.{GROUP_PLACE, GROUP_VERSION, OPEN_PLACE}
use Rattle.omi_layout.specs.Table.{version}
use Rattle.omi_word.specs.Words.{Words}
use Rattle.omi_audit.specs.InOrder.{AsksOnly, stopped_by}
use Rattle.omi_audit.specs.Listed.{asked_among}
use Rattle.omi_audit.specs.Judged.{IsFirst, MeetsNamed, place_at, refused_among}
use Rattle.omi_audit.specs.Search.{group_places}
use Rattle.omi_audit.proofs.Asking.{ended_by}
use Rattle.omi_audit.proofs.AskedRecords.{asks_both, asks_stop}
use Rattle.omi_audit.proofs.JudgedPlaces.{AreFine, judges_stop}
use Rattle.omi_audit.proofs.JudgedRecords.{fine_both, one_fine, one_stops, stops_both}
use Rattle.omi_audit.proofs.records.judge_groups.Goals as goal

-- the two words that are judged
both_words : (w : List ℕ) (m : Words) (a x y : ℕ) → version w ≡ GROUP_VERSION → x ≡ GROUP_PLACE → y ≡ OPEN_PLACE
    → place_at a TaskSlots x ∷ place_at a TaskSlots y ∷ [] ≡ group_places w m a
both_words w m a x y known first second =
    ap (λ n. place_at a TaskSlots n ∷ place_at a TaskSlots y ∷ []) first
    ∙ ap (λ n. place_at a TaskSlots GROUP_PLACE ∷ place_at a TaskSlots n ∷ []) second
    ∙ ap (λ (b : Bool). cond b (place_at a TaskSlots GROUP_PLACE ∷ place_at a TaskSlots OPEN_PLACE ∷ []) [])
    (sym (eq-eqb (version w) GROUP_VERSION known))

pub returns-in_err-judge-2-clause-judged : goal.returns-in_err-judge-2-clause-judged
returns-in_err-judge-2-clause-judged g c = λ memory tells known.
    let w = c.args.s.now.layout in
    let a = c.args.addr in
    let p = place_at a TaskSlots c.from.result in
    let q = place_at a TaskSlots c.from-2.result in
    let one = c.in_ok-judge.ensures in
    let stop = c.in_err-judge-2.field-0.0 in
    let grouped : version w ≡ GROUP_VERSION =
    sym (c.version.ensures ∙ ap version c.layout.ensures) ∙ (let same : c.version.result ≡ GROUP_VERSION = omega arith in same) in
    judges_stop (refused_among w memory 0 (group_places w memory a))
    (λ _. MeetsNamed w memory (group_places w memory a) c.args.search.now c.judge-2.new.search)
    c.from_residual-in_err-judge-2.result stop c.from_residual-in_err-judge-2.ensures.1
    (subst (λ l. IsFirst (refused_among w memory 0 l) stop) (both_words w memory a c.from.result c.from-2.result grouped c.from.ensures c.from-2.ensures)
    (stops_both g.C.Callbacks.told c.args.s.now c.judge.new.s one.same c.args.search.now c.judge.new.search c.judge-2.new.search
    (λ l m. p ∷ []) (λ l m. q ∷ [])
    (λ m t k. one_fine c.args.s.now.layout m 0 p c.args.search.now c.judge.new.search c.in_ok-judge.field-0 (one.judged m t k))
    stop (λ m t k. one_stops c.judge.new.s.layout m 0 q stop (c.in_err-judge-2.ensures.judged m t k)) memory tells known))

pub returns-clause-judged : goal.returns-clause-judged
returns-clause-judged g c = λ memory tells known.
    let w = c.args.s.now.layout in
    let a = c.args.addr in
    let p = place_at a TaskSlots c.from.result in
    let q = place_at a TaskSlots c.from-2.result in
    let one = c.in_ok-judge.ensures in
    let two = c.in_ok-judge-2.ensures in
    let grouped : version w ≡ GROUP_VERSION =
    sym (c.version.ensures ∙ ap version c.layout.ensures) ∙ (let same : c.version.result ≡ GROUP_VERSION = omega arith in same) in
    subst (λ l. AreFine w memory 0 l c.args.search.now c.judge-2.new.search) (both_words w memory a c.from.result c.from-2.result grouped c.from.ensures c.from-2.ensures)
    (fine_both g.C.Callbacks.told c.args.s.now c.judge.new.s one.same c.args.search.now c.judge.new.search c.judge-2.new.search
    (λ l m. p ∷ []) (λ l m. q ∷ [])
    (λ m t k. one_fine c.args.s.now.layout m 0 p c.args.search.now c.judge.new.search c.in_ok-judge.field-0 (one.judged m t k))
    (λ m t k. one_fine c.judge.new.s.layout m 0 q c.judge.new.search c.judge-2.new.search c.in_ok-judge-2.field-0 (two.judged m t k)) memory tells known)

pub returns-in_err-judge-clause-asks : goal.returns-in_err-judge-clause-asks
returns-in_err-judge-clause-asks g c = λ memory tells known.
    let w = c.args.s.now.layout in
    let a = c.args.addr in
    let p = place_at a TaskSlots c.from.result in
    let q = place_at a TaskSlots OPEN_PLACE in
    let told = g.C.Callbacks.told c.args.s.now.table.calls in
    let met = c.args.search.now.met.keys in
    let first = g.C.Callbacks.asked c.args.s.now.table.calls in
    let last = g.C.Callbacks.asked c.judge.new.s.table.calls in
    let stop = c.in_err-judge.field-0.0 in
    let grouped : version w ≡ GROUP_VERSION =
    sym (c.version.ensures ∙ ap version c.layout.ensures) ∙ (let same : c.version.result ≡ GROUP_VERSION = omega arith in same) in
    subst (AsksOnly told memory (asked_among w memory 0 met (group_places w memory a)) first last) (sym (ended_by c.from_residual.result stop c.from_residual.ensures.1))
    (subst (λ l. AsksOnly told memory (asked_among w memory 0 met l) first last (stopped_by stop)) (both_words w memory a c.from.result OPEN_PLACE grouped c.from.ensures refl)
    (asks_stop g.C.Callbacks.told g.C.Callbacks.asked c.args.s.now c.judge.new.s c.args.search.now c.judge.new.search 0 (λ l m. p ∷ []) (λ l m. q ∷ []) stop
    (λ m t k. one_stops c.args.s.now.layout m 0 p stop (c.in_err-judge.ensures.judged m t k)) c.in_err-judge.ensures.asks memory tells known))

pub returns-in_err-judge-2-clause-asks : goal.returns-in_err-judge-2-clause-asks
returns-in_err-judge-2-clause-asks g c = λ memory tells known.
    let w = c.args.s.now.layout in
    let a = c.args.addr in
    let p = place_at a TaskSlots c.from.result in
    let q = place_at a TaskSlots c.from-2.result in
    let told = g.C.Callbacks.told c.args.s.now.table.calls in
    let met = c.args.search.now.met.keys in
    let first = g.C.Callbacks.asked c.args.s.now.table.calls in
    let last = g.C.Callbacks.asked c.judge-2.new.s.table.calls in
    let one = c.in_ok-judge.ensures in
    let stop = c.in_err-judge-2.field-0.0 in
    let grouped : version w ≡ GROUP_VERSION =
    sym (c.version.ensures ∙ ap version c.layout.ensures) ∙ (let same : c.version.result ≡ GROUP_VERSION = omega arith in same) in
    subst (AsksOnly told memory (asked_among w memory 0 met (group_places w memory a)) first last)
    (sym (ended_by c.from_residual-in_err-judge-2.result stop c.from_residual-in_err-judge-2.ensures.1))
    (subst (λ l. AsksOnly told memory (asked_among w memory 0 met l) first last (stopped_by stop)) (both_words w memory a c.from.result c.from-2.result grouped c.from.ensures c.from-2.ensures)
    (asks_both g.C.Callbacks.told g.C.Callbacks.asked c.args.s.now c.judge.new.s c.args.search.now c.judge.new.search 0 (λ l m. p ∷ []) (λ l m. q ∷ [])
    c.judge-2.new.s (stopped_by stop) one.same
    (λ m t k. one_fine c.args.s.now.layout m 0 p c.args.search.now c.judge.new.search c.in_ok-judge.field-0 (one.judged m t k))
    one.asks c.in_err-judge-2.ensures.asks memory tells known))

pub returns-clause-asks : goal.returns-clause-asks
returns-clause-asks g c = λ memory tells known.
    let w = c.args.s.now.layout in
    let a = c.args.addr in
    let p = place_at a TaskSlots c.from.result in
    let q = place_at a TaskSlots c.from-2.result in
    let one = c.in_ok-judge.ensures in
    let grouped : version w ≡ GROUP_VERSION =
    sym (c.version.ensures ∙ ap version c.layout.ensures) ∙ (let same : c.version.result ≡ GROUP_VERSION = omega arith in same) in
    subst
    (λ l. AsksOnly (g.C.Callbacks.told c.args.s.now.table.calls) memory (asked_among w memory 0 c.args.search.now.met.keys l)
    (g.C.Callbacks.asked c.args.s.now.table.calls) (g.C.Callbacks.asked c.judge-2.new.s.table.calls) (Ok tt))
    (both_words w memory a c.from.result c.from-2.result grouped c.from.ensures c.from-2.ensures)
    (asks_both g.C.Callbacks.told g.C.Callbacks.asked c.args.s.now c.judge.new.s c.args.search.now c.judge.new.search 0 (λ l m. p ∷ []) (λ l m. q ∷ [])
    c.judge-2.new.s (Ok tt) one.same
    (λ m t k. one_fine c.args.s.now.layout m 0 p c.args.search.now c.judge.new.search c.in_ok-judge.field-0 (one.judged m t k))
    one.asks c.in_ok-judge-2.ensures.asks memory tells known)
