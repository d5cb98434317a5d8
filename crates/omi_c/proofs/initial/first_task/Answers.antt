use Rattle.std.proofs.Common.{◌≡◌, ap, subst, ◌∙◌, arith}
use Rattle.std.specs.Prelude.{Ok, Err}
use Rattle.std.specs.Option.{ok_or}
use Rattle.omi_handle.specs.declared.handle.Kind.TheVariants.{Task}
use Rattle.omi_layout.specs.declared.field.Field.TheVariants.{TaskLife}
use Rattle.omi_session.specs.declared.rc.Rc.TheVariants.{Unavailable}
use Rattle.omi_session.specs.Inquiry.{object_at, word_of}
use Rattle.omi_session.specs.Reads.{Answers}
use Rattle.omi_session.proofs.Asked.{asked_then, asked_answer, refused_then}
use Rattle.omi_c.specs.Calls.{told_of, asked_of}
use Rattle.omi_c.specs.Initial.{initial_address, initial_task}
use Rattle.omi_c.proofs.initial.first_task.Goals as goal

pub returns-in_err-life : goal.returns-in_err-life
unfolding initial_task
returns-in_err-life g c =
    let at : c.task_at-address.result ≡ initial_address c.args.s.now.layout =
    c.task_at-address.ensures.address ∙ ap initial_address c.layout.ensures in
    let life =
    subst
    (λ a. Answers told_of asked_of c.args.s.now c.word.new.s (Err c.in_err-life.field-0.0) (word_of c.args.s.now.layout a TaskLife 0)) at c.in_err-life.ensures.answer in
    refused_then _ life c.from_residual.ensures.1

pub returns : goal.returns
unfolding initial_task
returns g c =
    let at : c.task_at-address.result ≡ initial_address c.args.s.now.layout =
    c.task_at-address.ensures.address ∙ ap initial_address c.layout.ensures in
    let life =
    subst
    (λ a. Answers told_of asked_of c.args.s.now c.word.new.s (Ok c.in_ok-life.life) (word_of c.args.s.now.layout a TaskLife 0)) at c.in_ok-life.ensures.answer in
    let held : c.object_at.result ≡ object_at c.args.s.now.layout Task (initial_address c.args.s.now.layout) c.in_ok-life.life =
    c.object_at.ensures.value
    ∙ (λ i. object_at ((c.layout-2.ensures ∙ c.word.ensures.same.layout) i) Task (at i) c.in_ok-life.life) in
    let is : c.ok_or.result ≡ ok_or c.object_at.result Unavailable = grind arith in
    asked_then c.word.new.s _ c.in_ok-life.life c.word.ensures.same.table.same life
    (asked_answer (is ∙ ap (λ found. ok_or found Unavailable) held))
