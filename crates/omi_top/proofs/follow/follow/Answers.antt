use Rattle.std.proofs.Common.{◌≡◌, ℕ, List, ap, subst, sym, ◌∙◌, arith}
use Rattle.std.specs.Global.{Vec}
use Rattle.std.proofs.lemmas.Result.{err_from_is_err_and}
use Rattle.omi_outside.specs.Outside.{Told}
use Rattle.omi_top.proofs.Asking.{file_of_command}
use Rattle.omi_frame.proofs.Behind.{rose_later}
use Rattle.omi_top.proofs.Following.{first_refused, later_of_command, later_read, later_refused, tasks_followed}
use Rattle.omi_frame.specs.Refusal.{IsReadFault}
use Rattle.omi_frame.specs.declared.refusal.Refusal.TheVariants as refusal
use Rattle.omi_top.proofs.follow.follow.Goals as goal

-- ---- the first core is refused

pub returns-in_err-kept-clause-answer : goal.returns-in_err-kept-clause-answer
returns-in_err-kept-clause-answer g c = λ old ((content, is), (others, also)).
    let p = err_from_is_err_and c.from_residual.result c.from_residual.ensures.1 in
    rw (p.1, p.2)
    (first_refused c.args.core.now c.args.later.now (g.F.Files.told c.args.files.now) content others is also old c.in_err-kept.field-0.0
    (c.in_err-kept.ensures.answered content is))

-- ---- the later core is refused

pub returns-in-Err-clause-answer : goal.returns-in-Err-clause-answer
returns-in-Err-clause-answer g c = λ old ((content, is), (others, also)).
    rw c.of_later.ensures
    (later_refused c.args.core.now c.args.later.now (g.F.Files.told c.args.files.now) content others is also old c.in_ok-kept.kept c.in-Err.refusal
    (c.in_ok-kept.ensures.answered content is)
    (c.in-Err.ensures.answered others (ap (λ (t : List ℕ → Told). t c.args.later.now) c.in_ok-kept.ensures.files_told ∙ also)))

pub returns-in-Err-clause-usage : goal.returns-in-Err-clause-usage
returns-in-Err-clause-usage g c = λ e.
    let one : c.of_later.result ≡ refusal.Usage = cc in
    (later_of_command c.in-Err.refusal (file_of_command c.in-Err.refusal c.in-Err.ensures.comes)).no_usage (sym c.of_later.ensures ∙ one)

pub returns-in-Err-clause-write : goal.returns-in-Err-clause-write
returns-in-Err-clause-write g c = λ e.
    let one : c.of_later.result ≡ refusal.WriteFault = cc in
    (later_of_command c.in-Err.refusal (file_of_command c.in-Err.refusal c.in-Err.ensures.comes)).no_write (sym c.of_later.ensures ∙ one)

pub returns-in-Err-clause-script : goal.returns-in-Err-clause-script
returns-in-Err-clause-script g c =
    rw c.of_later.ensures
    (later_of_command c.in-Err.refusal (file_of_command c.in-Err.refusal c.in-Err.ensures.comes)).no_script

pub returns-in-Err-clause-read : goal.returns-in-Err-clause-read
returns-in-Err-clause-read g c =
    let first = c.in_ok-kept.ensures.read in
    let second = c.in-Err.ensures.read in
    record {
      later = omega (arith, first.later, second.later);
      failed = λ read. rose_later _ _ _ first.later (second.failed (later_read c.in-Err.refusal (subst IsReadFault c.of_later.ensures read)));
    }

-- ---- the lines

pub returns-in-Ok-clause-answer : goal.returns-in-Ok-clause-answer
returns-in-Ok-clause-answer g c = λ old ((content, is), (others, also)).
    tasks_followed c.args.core.now c.args.later.now (g.F.Files.told c.args.files.now) content others is also old c.in_ok-kept.kept c.in-Ok.text c.into_bytes.result
    (c.in_ok-kept.ensures.answered content is)
    (c.in-Ok.ensures.answered others (ap (λ (t : List ℕ → Told). t c.args.later.now) c.in_ok-kept.ensures.files_told ∙ also))
    (ap (λ (v : Vec _). v.items) c.into_bytes.ensures.value)
