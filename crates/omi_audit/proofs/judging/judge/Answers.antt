use Rattle.std.proofs.Common.{◌≡◌, ◌+◌, ◌*◌, ◌∙◌, inl, ℕ, List, [], ◌∷◌, sym, ap, subst}
use Rattle.std.specs.Prelude.{Result, Ok, Err}
use Rattle.omi_layout.specs.Named.{number}
use Rattle.omi_layout.specs.Table.{offset}
use Rattle.omi_session.specs.declared.rc.Rc.TheVariants.{CallbackError}
use Rattle.omi_audit.specs.declared.stop.Stop.TheVariants.{Fails}
use Rattle.omi_audit.specs.declared.verdict.AuditFault.{AuditFault}
use Rattle.omi_audit.specs.declared.verdict.AuditFault.TheVariants.{Callback}
use Rattle.omi_calls.specs.Asked.{Asked}
use Rattle.omi_session.specs.Inquiry.{place_of}
use Rattle.omi_session.specs.Reads.{Ran}
use Rattle.omi_audit.specs.InOrder.{AsksOnly, read_all, stopped_by}
use Rattle.omi_audit.specs.Listed.{asked_among, asked_of_word}
use Rattle.omi_audit.specs.Judged.{place_at, OverKept, IsFailing}
use Rattle.omi_audit.proofs.KeptOn.{kept_on}
use Rattle.omi_audit.proofs.Leads.{word_ok, word_err}
use Rattle.omi_audit.proofs.NamedWords.{judged_unmapped, judged_refused, judged_fine}
use Rattle.omi_audit.proofs.Asking.{asks_kept, asks_then, ended_by, looked_failed, looked_other, place_found, place_front, place_unmapped, word_asks}
use Rattle.omi_audit.proofs.judging.judge.Given.{Over}
use Rattle.omi_audit.proofs.judging.judge.Goals.{In-Ok}
use Rattle.omi_session.proofs.Asked.{answers_is}
use Rattle.omi_audit.proofs.judging.judge.Goals as goal

pub returns-in-Err-clause-judged : goal.returns-in-Err-clause-judged
returns-in-Err-clause-judged g c = λ memory tells known.
    let w = c.args.s.now.layout in
    let read = c.in-Err.ensures in
    let none =
    word_err w memory c.args.addr c.args.field c.args.at c.in-Err.rc
    (answers_is read.answer memory tells (λ e. c.in_ok-unless_callback-in-Err.ensures.other (let same : c.in-Err.rc ≡ CallbackError = cc in same))) in
    judged_unmapped w memory c.args.thread (place_at c.args.addr c.args.field c.args.at) c.fails.result none
    (c.fails.ensures
    ∙ ap (λ (l : List ℕ). Fails (c.args.addr + 8 * (offset l (number c.args.field) + c.args.at)) (number c.args.field) 1)
    (c.layout.ensures ∙ read.same.layout))

pub returns-in-None-clause-judged : goal.returns-in-None-clause-judged
returns-in-None-clause-judged g c = λ memory tells known.
    let w = c.args.s.now.layout in
    let read = c.in-Ok.ensures in
    let word = word_ok w memory c.args.addr c.args.field c.args.at c.in-Ok.found (answers_is read.answer memory tells (λ e. (cc))) in
    let failing =
    kept_on g.C.Callbacks.told c.args.s.now c.word.new.s c.args.search.now
    (λ l m. IsFailing l m c.args.thread c.args.field c.args.at c.in-Ok.found c.args.search.now c.clause_failing.new.search c.in_ok-clause_failing.field-0)
    read.same c.in_ok-clause_failing.ensures.failing memory tells known in
    judged_fine w memory c.args.thread (place_at c.args.addr c.args.field c.args.at) c.args.search.now c.clause_failing.new.search c.in-Ok.found word
    (subst (IsFailing w memory c.args.thread c.args.field c.args.at c.in-Ok.found c.args.search.now c.clause_failing.new.search) c.in-None.is failing)

pub returns-in-Some-clause-judged : goal.returns-in-Some-clause-judged
returns-in-Some-clause-judged g c = λ memory tells known.
    let w = c.args.s.now.layout in
    let read = c.in-Ok.ensures in
    let word = word_ok w memory c.args.addr c.args.field c.args.at c.in-Ok.found (answers_is read.answer memory tells (λ e. (cc))) in
    let failing =
    kept_on g.C.Callbacks.told c.args.s.now c.word.new.s c.args.search.now
    (λ l m. IsFailing l m c.args.thread c.args.field c.args.at c.in-Ok.found c.args.search.now c.clause_failing.new.search c.in_ok-clause_failing.field-0)
    read.same c.in_ok-clause_failing.ensures.failing memory tells known in
    judged_refused w memory c.args.thread (place_at c.args.addr c.args.field c.args.at) c.args.search.now c.clause_failing.new.search c.in-Ok.found c.in-Some.clause c.fails-in-Some.result word
    (subst (IsFailing w memory c.args.thread c.args.field c.args.at c.in-Ok.found c.args.search.now c.clause_failing.new.search) c.in-Some.is failing)
    (c.fails-in-Some.ensures
    ∙ ap (λ (l : List ℕ). Fails (c.args.addr + 8 * (offset l (number c.args.field) + c.args.at)) (number c.args.field) c.in-Some.clause)
    (c.layout-in-Some.ensures ∙ c.in_ok-clause_failing.ensures.same.layout ∙ read.same.layout))

pub returns-in_err-unless_callback-in-Err-clause-asks : goal.returns-in_err-unless_callback-in-Err-clause-asks
returns-in_err-unless_callback-in-Err-clause-asks g c = λ memory tells known.
    let w = c.args.s.now.layout in
    let p = place_at c.args.addr c.args.field c.args.at in
    let told = g.C.Callbacks.told c.args.s.now.table.calls in
    let first = g.C.Callbacks.asked c.args.s.now.table.calls in
    let last = g.C.Callbacks.asked c.word.new.s.table.calls in
    let one = word_asks w told memory first last c.args.addr c.args.field c.args.at (Err c.in-Err.rc) (c.in-Err.ensures.answer.ran memory tells) in
    let failed = c.in_err-unless_callback-in-Err.ensures.failed in
    let r = c.from_residual.result in
    let is = ended_by r c.in_err-unless_callback-in-Err.field-0.0 c.from_residual.ensures.1 ∙ ap stopped_by failed.0 in
    let fault : AsksOnly told memory (place_of w c.args.addr c.args.field c.args.at ∷ []) first last (Err Callback) =
    inl (subst (λ o. Ran told memory Callback (read_all (place_of w c.args.addr c.args.field c.args.at ∷ [])) first last o) (looked_failed ℕ c.in-Err.rc failed.1) one) in
    subst (AsksOnly told memory (asked_among w memory c.args.thread c.args.search.now.met.keys (p ∷ [])) first last) (sym is)
    (place_front w memory c.args.thread c.args.search.now.met.keys p told first last Callback fault)

pub returns-in-Err-clause-asks : goal.returns-in-Err-clause-asks
returns-in-Err-clause-asks g c = λ memory tells known.
    let w = c.args.s.now.layout in
    let p = place_at c.args.addr c.args.field c.args.at in
    let told = g.C.Callbacks.told c.args.s.now.table.calls in
    let first = g.C.Callbacks.asked c.args.s.now.table.calls in
    let last = g.C.Callbacks.asked c.word.new.s.table.calls in
    let one = word_asks w told memory first last c.args.addr c.args.field c.args.at (Err c.in-Err.rc) (c.in-Err.ensures.answer.ran memory tells) in
    let none =
    word_err w memory c.args.addr c.args.field c.args.at c.in-Err.rc
    (answers_is c.in-Err.ensures.answer memory tells (λ e. c.in_ok-unless_callback-in-Err.ensures.other (let same : c.in-Err.rc ≡ CallbackError = cc in same))) in
    subst (AsksOnly told memory (asked_among w memory c.args.thread c.args.search.now.met.keys (p ∷ [])) first last)
    (sym (ap stopped_by c.fails.ensures))
    (subst (λ l. AsksOnly told memory l first last (Ok tt)) (sym (place_unmapped w memory c.args.thread c.args.search.now.met.keys p none))
    (inl (subst (λ o. Ran told memory Callback (read_all (place_of w c.args.addr c.args.field c.args.at ∷ [])) first last o)
    (looked_other ℕ c.in-Err.rc c.in_ok-unless_callback-in-Err.ensures.other) one)))

-- behind the word what it leads to is asked for
behind : (g : Over) (c : In-Ok g) (last : Asked) (r : Result (Unit {0}) AuditFault)
    → OverKept g.C.Callbacks.told c.word.new.s c.args.search.now (λ m. AsksOnly (g.C.Callbacks.told c.word.new.s.table.calls) m
    (asked_of_word c.word.new.s.layout c.args.search.now.met.keys c.args.field c.args.at c.in-Ok.found) (g.C.Callbacks.asked c.word.new.s.table.calls) last r)
    → OverKept g.C.Callbacks.told c.args.s.now c.args.search.now (λ m. AsksOnly (g.C.Callbacks.told c.args.s.now.table.calls) m
    (asked_among c.args.s.now.layout m c.args.thread c.args.search.now.met.keys (place_at c.args.addr c.args.field c.args.at ∷ [])) (g.C.Callbacks.asked c.args.s.now.table.calls) last r)
behind g c last r asks memory tells known =
    let w = c.args.s.now.layout in
    let read = c.in-Ok.ensures in
    let p = place_at c.args.addr c.args.field c.args.at in
    let met = c.args.search.now.met.keys in
    let told = g.C.Callbacks.told c.args.s.now.table.calls in
    let first = g.C.Callbacks.asked c.args.s.now.table.calls in
    let mid = g.C.Callbacks.asked c.word.new.s.table.calls in
    let word = word_ok w memory c.args.addr c.args.field c.args.at c.in-Ok.found (answers_is read.answer memory tells (λ e. (cc))) in
    subst (λ l. AsksOnly told memory l first last r) (sym (place_found w memory c.args.thread met p c.in-Ok.found word))
    (asks_then told memory (place_of w c.args.addr c.args.field c.args.at ∷ []) (asked_of_word w met c.args.field c.args.at c.in-Ok.found) first mid last r
    (word_asks w told memory first mid c.args.addr c.args.field c.args.at (Ok c.in-Ok.found) (read.answer.ran memory tells))
    (asks_kept g.C.Callbacks.told c.args.s.now c.word.new.s c.args.search.now (λ l m. asked_of_word l met c.args.field c.args.at c.in-Ok.found) mid last r read.same asks memory tells known))

pub returns-in_err-clause_failing-clause-asks : goal.returns-in_err-clause_failing-clause-asks
returns-in_err-clause_failing-clause-asks g c = λ memory tells known.
    let stop = c.in_err-clause_failing.field-0.0 in
    subst
    (AsksOnly (g.C.Callbacks.told c.args.s.now.table.calls) memory (asked_among c.args.s.now.layout memory c.args.thread c.args.search.now.met.keys (place_at c.args.addr c.args.field c.args.at ∷ []))
    (g.C.Callbacks.asked c.args.s.now.table.calls) (g.C.Callbacks.asked c.clause_failing.new.s.table.calls))
    (sym (ended_by c.from_residual-in_err-clause_failing.result stop c.from_residual-in_err-clause_failing.ensures.1))
    (behind g (goal.at.returns-in_err-clause_failing-clause-asks g c).In-Ok (g.C.Callbacks.asked c.clause_failing.new.s.table.calls) (stopped_by stop) c.in_err-clause_failing.ensures.asks memory tells known)

pub returns-in-None-clause-asks : goal.returns-in-None-clause-asks
returns-in-None-clause-asks g c = behind g (goal.at.returns-in-None-clause-asks g c).In-Ok (g.C.Callbacks.asked c.clause_failing.new.s.table.calls) (Ok tt) c.in_ok-clause_failing.ensures.asks

pub returns-in-Some-clause-asks : goal.returns-in-Some-clause-asks
returns-in-Some-clause-asks g c = λ memory tells known.
    subst
    (AsksOnly (g.C.Callbacks.told c.args.s.now.table.calls) memory (asked_among c.args.s.now.layout memory c.args.thread c.args.search.now.met.keys (place_at c.args.addr c.args.field c.args.at ∷ []))
    (g.C.Callbacks.asked c.args.s.now.table.calls) (g.C.Callbacks.asked c.clause_failing.new.s.table.calls))
    (sym (ap stopped_by c.fails-in-Some.ensures))
    (behind g (goal.at.returns-in-Some-clause-asks g c).In-Ok (g.C.Callbacks.asked c.clause_failing.new.s.table.calls) (Ok tt) c.in_ok-clause_failing.ensures.asks memory tells known)
