use Rattle.std.proofs.Common.{arith, refl}
use Rattle.std.proofs.lemmas.Result.{err_from_is_err_and}
use Rattle.omi_frame.specs.Seen.{SeenFiles, files_seen}
use Rattle.omi_frame.proofs.OfScript.{memory_performed, refused_performed, said_performed}
use Rattle.omi_park.specs.Answer.{park_of}
use Rattle.omi_park.specs.Asked.{asked}
use Rattle.omi_park.proofs.top.perform.Goals as goal

pub returns-in_err-p-clause-performed : goal.returns-in_err-p-clause-performed
returns-in_err-p-clause-performed g c =
    let p = err_from_is_err_and c.from_residual.result c.from_residual.ensures.1 in
    let files : SeenFiles = files_seen (g.F.Files.told c.args.files.now) (g.F.Files.reads c.args.files.now) (g.F.Files.writes c.args.files.now) in
    let files_now : SeenFiles = files_seen (g.F.Files.told c.program_of.new.files) (g.F.Files.reads c.program_of.new.files) (g.F.Files.writes c.program_of.new.files) in
    rw (p.1, p.2)
    (refused_performed (park_of (asked c.args.request)) files files_now files files_now c.in_err-p.field-0.0
    c.in_err-p.ensures.refused c.in_err-p.ensures.kind c.in_err-p.ensures.cause c.in_err-p.ensures.same (omega (arith, c.in_err-p.ensures.writes)))

pub returns-in_err-text-clause-performed : goal.returns-in_err-text-clause-performed
returns-in_err-text-clause-performed g c =
    let p = err_from_is_err_and c.from_residual-in_err-text.result c.from_residual-in_err-text.ensures.1 in
    let files : SeenFiles = files_seen (g.F.Files.told c.args.files.now) (g.F.Files.reads c.args.files.now) (g.F.Files.writes c.args.files.now) in
    let files_now : SeenFiles = files_seen (g.F.Files.told c.program_of.new.files) (g.F.Files.reads c.program_of.new.files) (g.F.Files.writes c.program_of.new.files) in
    rw (p.1, p.2)
    (memory_performed (park_of (asked c.args.request)) files files_now files files_now c.in_ok-p.ensures.cause.later c.in_ok-p.p
    c.in_ok-p.ensures.program c.in_ok-p.ensures.same (omega (arith, c.in_ok-p.ensures.writes)))

pub returns-clause-performed : goal.returns-clause-performed
returns-clause-performed g c =
    let files : SeenFiles = files_seen (g.F.Files.told c.args.files.now) (g.F.Files.reads c.args.files.now) (g.F.Files.writes c.args.files.now) in
    let files_now : SeenFiles = files_seen (g.F.Files.told c.program_of.new.files) (g.F.Files.reads c.program_of.new.files) (g.F.Files.writes c.program_of.new.files) in
    said_performed (park_of (asked c.args.request)) files files_now files files_now c.in_ok-p.ensures.cause.later c.in_ok-p.p
    c.in_ok-p.ensures.program c.in_ok-text.text (refl, c.in_ok-text.ensures) c.in_ok-p.ensures.same (omega (arith, c.in_ok-p.ensures.writes))
