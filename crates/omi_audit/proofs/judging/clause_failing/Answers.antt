use Rattle.std.proofs.Common.{◌≡◌, ◌≤◌, ◌==◌, [], ◌&&◌, ◌||◌, ◌∙◌, ℕ, List, true, false, Some, None, sym, ap, subst, nat_le, arith, leb-true}
use Rattle.std.specs.Prelude.{Result, Ok, is_some, nat_eq}
use Rattle.std.specs.Option.{option_map_or}
use Rattle.indexmap.specs.IndexSet.{insert_all}
use Rattle.omi_script.specs.declared.limits.TheConstants.{MAX_SIZES}
use Rattle.omi_layout.specs.declared.field.Field.{Field}
use Rattle.omi_layout.specs.declared.field.Field.TheVariants.{RegionSize, TaskNthreadsLength}
use Rattle.omi_layout.specs.Table.{thread_count}
use Rattle.omi_layout.specs.Valid.{IsValid}
use Rattle.omi_layout.proofs.Arenas.{test_right, threads_of_valid}
use Rattle.omi_rep.specs.Look.{live_at}
use Rattle.omi_session.specs.Named.{record_kind}
use Rattle.omi_calls.specs.Asked.{Asked}
use Rattle.omi_audit.specs.InOrder.{AsksOnly}
use Rattle.omi_audit.specs.declared.verdict.AuditFault.{AuditFault}
use Rattle.omi_audit.specs.Listed.{asked_of_record, asked_of_word}
use Rattle.omi_audit.specs.Clauses.{leads_to, led_to, may_be_none, clause_4, clause_5, clause_6}
use Rattle.omi_audit.specs.Found.{counts}
use Rattle.omi_audit.specs.Judged.{Knows, named_of}
use Rattle.omi_audit.proofs.NamedWords.{pointer_passes, pointer_refused, clause_of}
use Rattle.omi_word.specs.Words.{Words}
use Rattle.omi_session.specs.Tells.{Tells}
use Rattle.omi_audit.proofs.judging.clause_failing.Given.{Over}
use Rattle.omi_audit.proofs.judging.clause_failing.Goals.{In_ok-led}
use Rattle.omi_audit.proofs.judging.clause_failing.Goals as goal

-- a size or a length that passes is small
few_counted : (w : List ℕ) → IsValid w → (field : Field) (at word : ℕ) → counts field ≡ true → clause_5 w field word ≡ true
    → clause_6 w field at word ≡ true → word ≤ 64
few_counted w valid RegionSize at word counted region task =
    let most : word ≤ thread_count w = leb-true word (thread_count w) (test_right (nat_le 1 word) (nat_le word (thread_count w)) region) in
    omega (arith, threads_of_valid w valid)
few_counted w valid TaskNthreadsLength at word counted region task =
    let most : word ≤ MAX_SIZES = leb-true word MAX_SIZES (test_right (nat_le 1 word) (nat_le word MAX_SIZES) task) in omega arith
few_counted w valid field at word counted region task = absurd (cc)

pub returns-in_default-clause-few : goal.returns-in_default-clause-few
returns-in_default-clause-few g c = λ passes counted.
    let none : c.failing.result ≡ None = cc in
    few_counted c.layout.result.now.table c.layout.result.now.valid c.args.field c.args.at c.args.word counted
    (c.failing.ensures.region none) (c.failing.ensures.task none)

-- of a word of a field that points to a record, by whether it names one
module _ (g : Over) (c : In_ok-led g) where
  abbrev kind : ℕ
  kind = record_kind c.in-Some.kind

  leads : leads_to c.args.field c.args.at ≡ Some kind
  leads = sym c.in-Some.ensures

  passes : (memory : Words) → Tells (g.C.Callbacks.told c.args.s.now.table.calls) memory → Knows c.args.s.now.layout memory c.args.search.now
      → clause_4 c.args.s.now.layout memory c.args.field c.args.at c.args.word ≡ ((may_be_none c.args.field && c.args.word == 0) || c.in_ok-led.led)
  passes memory tells known =
      clause_of c.args.s.now.layout memory 0 c.args.field c.args.at kind c.args.word leads
      ∙ ap (λ x. (may_be_none c.args.field && c.args.word == 0) || is_some (live_at c.args.s.now.layout memory kind x)) (sym c.led_to.ensures)
      ∙ ap (λ b. (may_be_none c.args.field && c.args.word == 0) || b) (sym (c.in_ok-led.ensures.led memory tells known).is)

pub returns-then-may_stand-clause-failing : goal.returns-then-may_stand-clause-failing
returns-then-may_stand-clause-failing g c = λ memory tells known.
    let w = c.args.s.now.layout in
    let led = c.in_ok-led.ensures.led memory tells known in
    let here = (goal.at.returns-then-may_stand-clause-failing g c).In_ok-led in
    let holds = passes g here memory tells known ∙ sym c.may_stand.ensures ∙ c.if-may_stand.true in
    record {
      is = sym (pointer_passes w memory c.args.thread c.args.field c.args.at (kind g here) c.args.word (leads g here) holds);
      meets = λ _. record {
        met = led.meets.met
            ∙ ap (λ x. insert_all nat_eq c.args.search.now.met.keys (named_of w memory (kind g here) x)) c.led_to.ensures
            ∙ ap (λ o. insert_all nat_eq c.args.search.now.met.keys (option_map_or (λ k. named_of w memory k (led_to c.args.field c.args.word)) o [])) (sym (leads g here));
        links = led.meets.links;
        begun = led.meets.begun;
      };
    }

pub returns-else-may_stand-clause-failing : goal.returns-else-may_stand-clause-failing
returns-else-may_stand-clause-failing g c = λ memory tells known.
    let here = (goal.at.returns-else-may_stand-clause-failing g c).In_ok-led in
    let fails = passes g here memory tells known ∙ sym c.may_stand.ensures ∙ c.if-may_stand.false in
    record {
      is = ap (λ (n : ℕ). Some n) c.pointer_clause.ensures ∙ sym (pointer_refused c.args.s.now.layout memory c.args.thread c.args.field c.args.at (kind g here) c.args.word (leads g here) fails);
      meets = λ is. absurd (cc);
    }

-- what is asked for is what is asked for of the record to which the word leads
led_asks : (g : Over) (c : In_ok-led g) (memory : Words) (r : Result (Unit {0}) AuditFault) (now : Asked)
    → AsksOnly (g.C.Callbacks.told c.args.s.now.table.calls) memory (asked_of_record c.args.s.now.layout c.args.search.now.met.keys (kind g c) c.led_to.result) (g.C.Callbacks.asked c.args.s.now.table.calls) now r
    → AsksOnly (g.C.Callbacks.told c.args.s.now.table.calls) memory (asked_of_word c.args.s.now.layout c.args.search.now.met.keys c.args.field c.args.at c.args.word) (g.C.Callbacks.asked c.args.s.now.table.calls) now r
led_asks g c memory r now asks =
    let w = c.args.s.now.layout in
    let met = c.args.search.now.met.keys in
    subst (λ l. AsksOnly (g.C.Callbacks.told c.args.s.now.table.calls) memory l (g.C.Callbacks.asked c.args.s.now.table.calls) now r)
    (ap (asked_of_record w met (kind g c)) c.led_to.ensures
    ∙ ap (λ o. option_map_or (λ k. asked_of_record w met k (led_to c.args.field c.args.word)) o []) (sym (leads g c)))
    asks

pub returns-then-may_stand-clause-asks : goal.returns-then-may_stand-clause-asks
returns-then-may_stand-clause-asks g c = λ memory tells known.
    led_asks g (goal.at.returns-then-may_stand-clause-asks g c).In_ok-led memory (Ok tt) (g.C.Callbacks.asked c.names.new.s.table.calls) (c.in_ok-led.ensures.asks memory tells known)

pub returns-else-may_stand-clause-asks : goal.returns-else-may_stand-clause-asks
returns-else-may_stand-clause-asks g c = λ memory tells known.
    led_asks g (goal.at.returns-else-may_stand-clause-asks g c).In_ok-led memory (Ok tt) (g.C.Callbacks.asked c.names.new.s.table.calls) (c.in_ok-led.ensures.asks memory tells known)
