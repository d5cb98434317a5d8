use Rattle.std.proofs.Common.{◌≡◌, ◌∙◌, sym, ap, subst}
use Rattle.std.specs.Prelude.{Ok}
use Rattle.omi_layout.specs.Field.{runtime}
use Rattle.omi_layout.specs.Place.{slot_address}
use Rattle.omi_rep.specs.Records.{runtime_address}
use Rattle.omi_audit.specs.declared.fields.TheConstants.{RUNTIME_FIELDS}
use Rattle.omi_audit.specs.InOrder.{AsksOnly, stopped_by}
use Rattle.omi_audit.specs.Listed.{asked_among}
use Rattle.omi_audit.specs.Judged.{refused_among}
use Rattle.omi_audit.specs.Search.{places_of}
use Rattle.omi_audit.proofs.Asking.{ended_by}
use Rattle.omi_audit.proofs.records.judge_runtime.Goals as goal

pub returns-clause-judged : goal.returns-clause-judged
returns-clause-judged g c = λ memory tells known.
    let w = c.args.s.now.layout in
    let fine = c.in_ok-judge_fields.ensures.judged memory tells known in
    let there : c.runtime_place-addr.result ≡ runtime_address w =
    c.runtime_place-addr.ensures.address ∙ ap (λ l. slot_address l runtime 0 0) c.layout.ensures in
    record {
      none = ap (λ a. refused_among w memory 0 (places_of a RUNTIME_FIELDS)) (sym there) ∙ fine.none;
      known = fine.known.meets;
    }

pub returns-clause-asks : goal.returns-clause-asks
returns-clause-asks g c = λ memory tells known.
    let w = c.args.s.now.layout in
    let there : c.runtime_place-addr.result ≡ runtime_address w =
    c.runtime_place-addr.ensures.address ∙ ap (λ l. slot_address l runtime 0 0) c.layout.ensures in
    subst
    (λ a. AsksOnly (g.C.Callbacks.told c.args.s.now.table.calls) memory (asked_among w memory 0 c.args.search.now.met.keys (places_of a RUNTIME_FIELDS))
    (g.C.Callbacks.asked c.args.s.now.table.calls) (g.C.Callbacks.asked c.judge_fields.new.s.table.calls) (Ok tt)) there
    (c.in_ok-judge_fields.ensures.asks memory tells known)

pub returns-in_err-judge_fields-clause-asks : goal.returns-in_err-judge_fields-clause-asks
returns-in_err-judge_fields-clause-asks g c = λ memory tells known.
    let w = c.args.s.now.layout in
    let there : c.runtime_place-addr.result ≡ runtime_address w =
    c.runtime_place-addr.ensures.address ∙ ap (λ l. slot_address l runtime 0 0) c.layout.ensures in
    let stop = c.in_err-judge_fields.field-0.0 in
    subst
    (AsksOnly (g.C.Callbacks.told c.args.s.now.table.calls) memory (asked_among w memory 0 c.args.search.now.met.keys (places_of (runtime_address w) RUNTIME_FIELDS))
    (g.C.Callbacks.asked c.args.s.now.table.calls) (g.C.Callbacks.asked c.judge_fields.new.s.table.calls))
    (sym (ended_by c.from_residual.result stop c.from_residual.ensures.1))
    (subst
    (λ a. AsksOnly (g.C.Callbacks.told c.args.s.now.table.calls) memory (asked_among w memory 0 c.args.search.now.met.keys (places_of a RUNTIME_FIELDS))
    (g.C.Callbacks.asked c.args.s.now.table.calls) (g.C.Callbacks.asked c.judge_fields.new.s.table.calls) (stopped_by stop)) there
    (c.in_err-judge_fields.ensures.asks memory tells known))
