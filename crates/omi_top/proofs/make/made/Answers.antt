use Rattle.std.proofs.Common.{◌≡◌, ◌∙◌, ap, string_bytes}
use Rattle.std.specs.Prelude.{String}
use Rattle.std.specs.declared.alloc.Global.{Global}
use Rattle.std.proofs.lemmas.Result.{IfOk-weaker}
use Rattle.omi_core.specs.declared.stop.Break.TheVariants.{TaskBegin}
use Rattle.omi_core.specs.Ends.{count_of}
use Rattle.omi_script.specs.Grammar.{Grammar}
use Rattle.omi_script.specs.declared.program.Program.{Program}
use Rattle.omi_top.specs.Make.{IsMade, made_line}
use Rattle.omi_top.proofs.Making.{made}
use Rattle.omi_top.proofs.make.made.Goals as goal

pub returns : goal.returns
returns c =
    let p = c.in_ok-p.p in
    let ran = c.in_ok-ran.ran in
    IfOk-weaker c.made_line.result
    (λ (line : String Global). string_bytes line ≡ made_line c.args.nodes ran.recorder.count ran.why)
    (λ (line : String Global). (p : Program) × Grammar c.args.text.now p × IsMade c.args.nodes p (string_bytes line))
    (λ line is.
    let made_run =
    made c.args.nodes p (λ items. ran.recorder.count ≡ count_of TaskBegin items) ran.image ran.steps ran.why
    (string_bytes line) c.in_ok-ran.ensures
    (λ es counts. is ∙ ap (λ n. made_line c.args.nodes n ran.why) counts) in
    (p, c.in_ok-p.ensures, made_run))
    c.made_line.ensures
