use Rattle.std.proofs.Common.{◌∙◌, ap, arith}
use Rattle.std.proofs.lemmas.Result.{err_from_is_err_and}
use Rattle.omi_frame.specs.Seen.{files_seen}
use Rattle.omi_frame.proofs.OfScript.{refused_performed}
use Rattle.omi_rewind_top.specs.Answer.{rewind_of}
use Rattle.omi_rewind_top.specs.Asked.{asked}
use Rattle.omi_rewind_top.proofs.Performing.{text_performed}
use Rattle.omi_rewind_top.proofs.top.perform.Goals as goal

pub returns-in_err-p-clause-performed : goal.returns-in_err-p-clause-performed
returns-in_err-p-clause-performed g c =
    let p = err_from_is_err_and c.from_residual.result c.from_residual.ensures.1 in
    let command = asked c.args.request in
    let files = files_seen (g.F.Files.told c.args.files.now) (g.F.Files.reads c.args.files.now) (g.F.Files.writes c.args.files.now) in
    let files_now = files_seen (g.F.Files.told c.program_of.new.files) (g.F.Files.reads c.program_of.new.files) (g.F.Files.writes c.program_of.new.files) in
    rw (p.1, p.2)
    (refused_performed (rewind_of command) files files_now files files_now c.in_err-p.field-0.0
    (λ content told. c.in_err-p.ensures.refused content (ap (g.F.Files.told c.args.files.now) c.script.ensures ∙ told))
    c.in_err-p.ensures.kind c.in_err-p.ensures.cause c.in_err-p.ensures.same (omega (arith, c.in_err-p.ensures.writes)))

pub returns-clause-performed : goal.returns-clause-performed
returns-clause-performed g c =
    let command = asked c.args.request in
    let files = files_seen (g.F.Files.told c.args.files.now) (g.F.Files.reads c.args.files.now) (g.F.Files.writes c.args.files.now) in
    let files_now = files_seen (g.F.Files.told c.program_of.new.files) (g.F.Files.reads c.program_of.new.files) (g.F.Files.writes c.program_of.new.files) in
    text_performed command files files_now c.in_ok-p.ensures.cause.later c.in_ok-p.ensures.same (omega (arith, c.in_ok-p.ensures.writes)) c.in_ok-p.p
    (λ content told. c.in_ok-p.ensures.program content (ap (g.F.Files.told c.args.files.now) c.script.ensures ∙ told))
    c.text_of.result c.text_of.ensures.text c.text_of.ensures.refused
