use Rattle.std.proofs.Common.{◌≡◌, ◌==◌, ℕ, refl, subst, arith, true, false}
use Rattle.std.proofs.lemmas.Bool.Decides.{nat_tests}
use Rattle.std.specs.Prelude.{Result, Ok, Err, if◌then◌else◌}
use Rattle.omi_calls.specs.Asked.{Asked}
use Rattle.omi_calls.specs.Told.{Told}
use Rattle.omi_layout.specs.declared.field.Field.TheVariants.{TaskNthreads}
use Rattle.omi_session.specs.declared.rc.Rc.{Rc}
use Rattle.omi_session.specs.declared.rc.Rc.TheVariants.{Incomplete}
use Rattle.omi_session.specs.Opened.{Opened}
use Rattle.omi_session.specs.Reads.{Answers}
use Rattle.omi_session.specs.Inquiry.{word_of}
use Rattle.omi_session.proofs.Asked.{asked_then, asked_answer, refused_then}
use Rattle.omi_icv.specs.Values.{list_length, only_element}
use Rattle.omi_icv.proofs.value.only_element.Goals as goal

-- both words were read, and their number decides
only_read : {C F : Type 0} {told : C → Told} {asked : C → Asked} {s t u : Opened C F} {result : Result ℕ Rc} (address count first : ℕ)
    → told t.table.calls ≡ told s.table.calls → t.layout ≡ s.layout
    → Answers told asked s t (Ok count) (list_length s.layout address)
    → told u.table.calls ≡ told t.table.calls
    → Answers told asked t u (Ok first) (word_of t.layout address TaskNthreads 0)
    → result ≡ (if count == 1 then Ok first else Err (Incomplete first))
    → Answers told asked s u result (only_element s.layout address)
unfolding only_element
only_read {told = told} {asked = asked} {t = t} {u = u} address count first same layout counted also read is =
    asked_then t _ count same counted
    (asked_then u _ first also
    (subst (λ w. Answers told asked t u (Ok first) (word_of w address TaskNthreads 0)) layout read)
    (asked_answer is))

pub returns-in_err-count-clause-answer : goal.returns-in_err-count-clause-answer
unfolding only_element
returns-in_err-count-clause-answer g c =
    refused_then _ c.in_err-count.ensures.answer c.from_residual.ensures.1

pub returns-in_err-first-clause-answer : goal.returns-in_err-first-clause-answer
unfolding only_element
returns-in_err-first-clause-answer g c =
    let first =
    subst
    (λ w. Answers g.C.Callbacks.told g.C.Callbacks.asked c.list_length.new.s c.word.new.s (Err c.in_err-first.field-0.0) (word_of w c.args.address TaskNthreads 0)) c.list_length.ensures.same.layout c.in_err-first.ensures.answer in
    asked_then c.list_length.new.s _ c.in_ok-count.count c.list_length.ensures.same.table.same c.in_ok-count.ensures.answer
    (refused_then _ first c.from_residual-in_err-first.ensures.1)

pub returns-then-count-eq1-clause-answer : goal.returns-then-count-eq1-clause-answer
returns-then-count-eq1-clause-answer g c =
    let alone : c.in_ok-count.count == 1 ≡ true = grind (arith, nat_tests, c.if-count-eq1.true) in
    only_read c.args.address c.in_ok-count.count c.in_ok-first.first c.list_length.ensures.same.table.same c.list_length.ensures.same.layout
    c.in_ok-count.ensures.answer c.word.ensures.same.table.same c.in_ok-first.ensures.answer (rw alone refl)

pub returns-else-count-eq1-clause-answer : goal.returns-else-count-eq1-clause-answer
returns-else-count-eq1-clause-answer g c =
    let more : c.in_ok-count.count == 1 ≡ false = grind (arith, nat_tests, c.if-count-eq1.false) in
    only_read c.args.address c.in_ok-count.count c.in_ok-first.first c.list_length.ensures.same.table.same c.list_length.ensures.same.layout
    c.in_ok-count.ensures.answer c.word.ensures.same.table.same c.in_ok-first.ensures.answer (rw more refl)
