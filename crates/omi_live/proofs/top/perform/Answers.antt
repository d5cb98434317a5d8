use Rattle.std.proofs.Common.{◌∙◌, ℕ, List, Err, refl, ap, subst, sym, arith, string_bytes}
use Rattle.std.specs.Global.{Vec}
use Rattle.std.proofs.lemmas.Result.{err_from_is_err_and}
use Rattle.omi_outside.specs.Outside.{Rose, Told, IsCut, holding}
use Rattle.omi_corefile.specs.Spelling.{core_bytes}
use Rattle.omi_frame.specs.Seen.{SeenFiles, files_seen}
use Rattle.omi_frame.proofs.OfScript.{cut_performed, memory_performed, refused_performed, written_performed}
use Rattle.omi_live.specs.Answer.{live_of}
use Rattle.omi_live.specs.Asked.{asked}
use Rattle.omi_live.specs.Run.{IsLiveRun}
use Rattle.omi_live.proofs.top.perform.Goals as goal

pub returns-in_err-p : goal.returns-in_err-p
returns-in_err-p g c =
    let p = err_from_is_err_and c.from_residual.result c.from_residual.ensures.1 in
    let files : SeenFiles = files_seen (g.F.Files.told c.args.files.now) (g.F.Files.reads c.args.files.now) (g.F.Files.writes c.args.files.now) in
    let files_now : SeenFiles = files_seen (g.F.Files.told c.program_of.new.files) (g.F.Files.reads c.program_of.new.files) (g.F.Files.writes c.program_of.new.files) in
    rw (p.1, p.2)
    (refused_performed (live_of (asked c.args.request)) files files_now files files_now c.in_err-p.field-0.0
    c.in_err-p.ensures.refused c.in_err-p.ensures.kind c.in_err-p.ensures.cause c.in_err-p.ensures.same (omega (arith, c.in_err-p.ensures.writes)))

pub returns-in_err-image : goal.returns-in_err-image
returns-in_err-image g c =
    let p = err_from_is_err_and c.from_residual-in_err-image.result c.from_residual-in_err-image.ensures.1 in
    let files : SeenFiles = files_seen (g.F.Files.told c.args.files.now) (g.F.Files.reads c.args.files.now) (g.F.Files.writes c.args.files.now) in
    let files_now : SeenFiles = files_seen (g.F.Files.told c.program_of.new.files) (g.F.Files.reads c.program_of.new.files) (g.F.Files.writes c.program_of.new.files) in
    rw (p.1, p.2)
    (memory_performed (live_of (asked c.args.request)) files files_now files files_now c.in_ok-p.ensures.cause.later c.in_ok-p.p
    c.in_ok-p.ensures.program c.in_ok-p.ensures.same (omega (arith, c.in_ok-p.ensures.writes)))

pub returns-in_err-write_core : goal.returns-in_err-write_core
returns-in_err-write_core g c =
    let p = err_from_is_err_and c.from_residual-in_err-write_core.result c.from_residual-in_err-write_core.ensures.1 in
    let name : List ℕ = c.args.request.core.now in
    let core : List ℕ = core_bytes c.in_ok-image.contexts c.in_ok-image.image in
    let files : SeenFiles = files_seen (g.F.Files.told c.args.files.now) (g.F.Files.reads c.args.files.now) (g.F.Files.writes c.args.files.now) in
    let files_now : SeenFiles = files_seen (g.F.Files.told c.write_core.new.files) (g.F.Files.reads c.write_core.new.files) (g.F.Files.writes c.write_core.new.files) in
    let same = c.in_ok-p.ensures.writes in
    let later = c.in_err-write_core.ensures.cause.later in
    rw (p.1, p.2)
    (cut_performed (live_of (asked c.args.request)) files files_now files files_now
    (omega (arith, c.in_ok-p.ensures.cause.later, c.in_err-write_core.ensures.reads)) c.in_ok-p.p c.in_ok-p.ensures.program name refl
    (λ other not. c.in_err-write_core.ensures.others other not ∙ ap (λ (t : List ℕ → Told). t other) c.in_ok-p.ensures.same)
    core (string_bytes c.in_ok-image.text) (core, refl, c.in_ok-image.ensures.run) c.in_err-write_core.field-0.0
    (subst (λ (t : List ℕ → Told). IsCut (t name) (g.F.Files.told c.write_core.new.files name) core) c.in_ok-p.ensures.same c.in_err-write_core.ensures.cut)
    (omega (arith, same, later))
    (λ is. subst (λ (n : ℕ). Rose n (g.F.Files.writes c.write_core.new.files)) same (c.in_err-write_core.ensures.cause.failed (ap Err is))))

pub returns : goal.returns
returns g c =
    let name : List ℕ = c.args.request.core.now in
    let core : List ℕ = core_bytes c.in_ok-image.contexts c.in_ok-image.image in
    let files : SeenFiles = files_seen (g.F.Files.told c.args.files.now) (g.F.Files.reads c.args.files.now) (g.F.Files.writes c.args.files.now) in
    let files_now : SeenFiles = files_seen (g.F.Files.told c.write_core.new.files) (g.F.Files.reads c.write_core.new.files) (g.F.Files.writes c.write_core.new.files) in
    let same = c.in_ok-p.ensures.writes in
    let later = c.in_ok-write_core.ensures.cause.later in
    written_performed (live_of (asked c.args.request)) files files_now files files_now
    (omega (arith, c.in_ok-p.ensures.cause.later, c.in_ok-write_core.ensures.reads)) c.in_ok-p.p c.in_ok-p.ensures.program name refl
    (λ other not. c.in_ok-write_core.ensures.others other not ∙ ap (λ (t : List ℕ → Told). t other) c.in_ok-p.ensures.same)
    core c.into_bytes.result
    (core, refl, subst (λ (v : Vec ℕ). IsLiveRun c.in_ok-p.p c.args.request.plan core v.items) (sym c.into_bytes.ensures.value) c.in_ok-image.ensures.run)
    (c.in_ok-write_core.ensures.written ∙ ap (λ (t : List ℕ → Told). holding (t name) core) c.in_ok-p.ensures.same)
    (omega (arith, same, later))
