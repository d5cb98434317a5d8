use Rattle.std.proofs.Common.{◌∙◌, sym}
use Rattle.omi_script.proofs.ParserLemmas.{line_answer}
use Rattle.omi_script.proofs.parser.Parser.read.Goals as goal

pub returns-in-Some : goal.returns-in-Some
returns-in-Some c =
    line_answer c.args.self.state c.args.bytes.now c.in-Some.line c.line.result
    (sym c.are_text.ensures ∙ c.if-not-are_text.false)
    (sym c.in_ok-line.ensures ∙ c.in-Some.is)
    c.line.ensures
