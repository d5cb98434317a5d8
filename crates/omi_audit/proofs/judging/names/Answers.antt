use Rattle.std.proofs.Common.{◌≡◌, ◌==◌, ◌∙◌, inl, true, false, sym, ap, subst, eq-eqb}
use Rattle.std.specs.Prelude.{Ok, Err, nat_eq, is_some}
use Rattle.omi_rep.specs.Look.{slot_at}
use Rattle.indexmap.specs.IndexSet.{insert_key, insert_all}
use Rattle.omi_layout.specs.Field.{threads}
use Rattle.omi_session.specs.declared.rc.Rc.TheVariants.{CallbackError}
use Rattle.omi_session.specs.Named.{record_kind}
use Rattle.omi_audit.proofs.Leads.{lead_ok, lead_err, not_thread}
use Rattle.omi_audit.proofs.NamedWords.{named_live, named_dead, meets_none}
use Rattle.omi_handle.specs.declared.handle.Held.{Held}
use Rattle.omi_session.specs.Reads.{Ran}
use Rattle.omi_audit.specs.declared.verdict.AuditFault.TheVariants.{Callback}
use Rattle.omi_audit.specs.InOrder.{AsksOnly, ended, read_all, stopped_by}
use Rattle.omi_audit.specs.Listed.{life_word}
use Rattle.omi_audit.proofs.Asking.{asked_new, asks_out, ended_by, lead_asks, looked_failed, looked_other}
use Rattle.omi_session.proofs.Asked.{answers_is}
use Rattle.omi_audit.proofs.judging.names.Goals as goal

pub returns-in_ok-meet-in-Ok-clause-led : goal.returns-in_ok-meet-in-Ok-clause-led
returns-in_ok-meet-in-Ok-clause-led g c = λ memory tells known.
    let w = c.args.s.now.layout in
    let kind = record_kind c.args.kind in
    let led = lead_ok w memory c.args.kind c.args.field c.args.pointer c.in-Ok.held (answers_is c.in-Ok.ensures.answer memory tells (λ e. (cc))) in
    let eq = c.eq.ensures in
    let no = c.if-eq.ensures in
    let other : (kind == threads) ≡ false = not_thread c.args.kind (λ e. (let clash = rw e at no in let never : false ≡ true = clash in cc)) in
    let done = c.in_ok-meet-in-Ok.ensures in
    let named = named_live w memory kind c.args.pointer other led.0 in
    record {
      is = sym led.0;
      meets = record {
        met = done.met ∙ ap (insert_key nat_eq c.args.search.now.met.keys) led.1 ∙ ap (insert_all nat_eq c.args.search.now.met.keys) (sym named);
        links = done.links;
        begun = done.begun;
      };
    }

pub returns-in_ok-unless_callback-in-Err-clause-led : goal.returns-in_ok-unless_callback-in-Err-clause-led
returns-in_ok-unless_callback-in-Err-clause-led g c = λ memory tells known.
    let w = c.args.s.now.layout in
    let dead = lead_err w memory c.args.kind c.args.field c.args.pointer c.in-Err.rc
    (answers_is c.in-Err.ensures.answer memory tells (λ e. c.in_ok-unless_callback-in-Err.ensures.other (let same : c.in-Err.rc ≡ CallbackError = cc in same))) in
    record {
      is = sym dead;
      meets = meets_none w memory c.args.search.now _ (named_dead w memory (record_kind c.args.kind) c.args.pointer dead);
    }

pub returns-in_err-meet-in-Ok-clause-asks : goal.returns-in_err-meet-in-Ok-clause-asks
returns-in_err-meet-in-Ok-clause-asks g c = λ memory tells known.
    let w = c.args.s.now.layout in
    let kind = record_kind c.args.kind in
    let told = g.C.Callbacks.told c.args.s.now.table.calls in
    let first = g.C.Callbacks.asked c.args.s.now.table.calls in
    let last = g.C.Callbacks.asked c.lead.new.s.table.calls in
    let all = lead_asks w told memory first last c.args.kind c.args.field c.args.pointer (Ok c.in-Ok.held) (c.in-Ok.ensures.answer.ran memory tells) in
    let other : (kind == threads) ≡ false = not_thread c.args.kind (λ e. (let clash = rw e at c.if-eq.ensures in let never : false ≡ true = clash in cc)) in
    subst (λ l. AsksOnly told memory l first last (ended c.from_residual.result))
    (sym (asked_new w kind c.args.pointer c.args.search.now.met.keys other
    (λ is. c.has_met.ensures.new c.if-has_met.false (λ e. (let never : false ≡ true = sym other ∙ eq-eqb kind threads e in cc))
    (ap (λ l. is_some (slot_at l kind c.args.pointer)) c.layout-2.ensures ∙ is))))
    (asks_out told memory (life_word w kind c.args.pointer) first last (ended c.from_residual.result)
    (ended_by c.from_residual.result c.in_err-meet-in-Ok.field-0.0 c.from_residual.ensures.1 ∙ ap stopped_by c.in_err-meet-in-Ok.ensures.memory) all)

pub returns-in_err-unless_callback-in-Err-clause-asks : goal.returns-in_err-unless_callback-in-Err-clause-asks
returns-in_err-unless_callback-in-Err-clause-asks g c = λ memory tells known.
    let w = c.args.s.now.layout in
    let kind = record_kind c.args.kind in
    let told = g.C.Callbacks.told c.args.s.now.table.calls in
    let first = g.C.Callbacks.asked c.args.s.now.table.calls in
    let last = g.C.Callbacks.asked c.lead.new.s.table.calls in
    let all = lead_asks w told memory first last c.args.kind c.args.field c.args.pointer (Err c.in-Err.rc) (c.in-Err.ensures.answer.ran memory tells) in
    let failed = c.in_err-unless_callback-in-Err.ensures.failed in
    let r = c.from_residual-in_err-unless_callback-in-Err.result in
    let is = ended_by r c.in_err-unless_callback-in-Err.field-0.0 c.from_residual-in_err-unless_callback-in-Err.ensures.1 ∙ ap stopped_by failed.0 in
    let other : (kind == threads) ≡ false = not_thread c.args.kind (λ e. (let clash = rw e at c.if-eq.ensures in let never : false ≡ true = clash in cc)) in
    subst (λ l. AsksOnly told memory l first last (ended r))
    (sym (asked_new w kind c.args.pointer c.args.search.now.met.keys other
    (λ is. c.has_met.ensures.new c.if-has_met.false (λ e. (let never : false ≡ true = sym other ∙ eq-eqb kind threads e in cc))
    (ap (λ l. is_some (slot_at l kind c.args.pointer)) c.layout-2.ensures ∙ is))))
    (inl (subst (λ o. Ran told memory Callback (read_all (life_word w kind c.args.pointer)) first last o) (looked_failed Held c.in-Err.rc failed.1 ∙ sym is) all))

pub returns-in_ok-meet-in-Ok-clause-asks : goal.returns-in_ok-meet-in-Ok-clause-asks
returns-in_ok-meet-in-Ok-clause-asks g c = λ memory tells known.
    let w = c.args.s.now.layout in
    let kind = record_kind c.args.kind in
    let told = g.C.Callbacks.told c.args.s.now.table.calls in
    let first = g.C.Callbacks.asked c.args.s.now.table.calls in
    let last = g.C.Callbacks.asked c.lead.new.s.table.calls in
    let all = lead_asks w told memory first last c.args.kind c.args.field c.args.pointer (Ok c.in-Ok.held) (c.in-Ok.ensures.answer.ran memory tells) in
    let other : (kind == threads) ≡ false = not_thread c.args.kind (λ e. (let clash = rw e at c.if-eq.ensures in let never : false ≡ true = clash in cc)) in
    subst (λ l. AsksOnly told memory l first last (Ok tt))
    (sym (asked_new w kind c.args.pointer c.args.search.now.met.keys other
    (λ is. c.has_met.ensures.new c.if-has_met.false (λ e. (let never : false ≡ true = sym other ∙ eq-eqb kind threads e in cc))
    (ap (λ l. is_some (slot_at l kind c.args.pointer)) c.layout-2.ensures ∙ is))))
    (inl all)

pub returns-in_ok-unless_callback-in-Err-clause-asks : goal.returns-in_ok-unless_callback-in-Err-clause-asks
returns-in_ok-unless_callback-in-Err-clause-asks g c = λ memory tells known.
    let w = c.args.s.now.layout in
    let kind = record_kind c.args.kind in
    let told = g.C.Callbacks.told c.args.s.now.table.calls in
    let first = g.C.Callbacks.asked c.args.s.now.table.calls in
    let last = g.C.Callbacks.asked c.lead.new.s.table.calls in
    let all = lead_asks w told memory first last c.args.kind c.args.field c.args.pointer (Err c.in-Err.rc) (c.in-Err.ensures.answer.ran memory tells) in
    let other : (kind == threads) ≡ false = not_thread c.args.kind (λ e. (let clash = rw e at c.if-eq.ensures in let never : false ≡ true = clash in cc)) in
    subst (λ l. AsksOnly told memory l first last (Ok tt))
    (sym (asked_new w kind c.args.pointer c.args.search.now.met.keys other
    (λ is. c.has_met.ensures.new c.if-has_met.false (λ e. (let never : false ≡ true = sym other ∙ eq-eqb kind threads e in cc))
    (ap (λ l. is_some (slot_at l kind c.args.pointer)) c.layout-2.ensures ∙ is))))
    (inl (subst (λ o. Ran told memory Callback (read_all (life_word w kind c.args.pointer)) first last o)
    (looked_other Held c.in-Err.rc c.in_ok-unless_callback-in-Err.ensures.other) all))
