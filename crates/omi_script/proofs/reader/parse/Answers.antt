use Rattle.std.proofs.Common.{◌≡◌, ◌<◌, ◌+◌, ◌≤◌, ◌∙◌, [], ap, subst, sym, length, arith}
use Rattle.std.proofs.lemmas.Grind.{common_steps}
use Rattle.std.specs.List.{after_first}
use Rattle.omi_script.specs.Errors.{IfFault}
use Rattle.omi_script.specs.Grammar.{Refused}
use Rattle.omi_script.specs.Lines.{is_line_feed, lines}
use Rattle.omi_script.specs.ParserState.{parser_after}
use Rattle.omi_script.specs.Verdict.{judge, verdict}
use Rattle.omi_script.specs.declared.limits.TheConstants.{MAX_BYTES}
use Rattle.omi_script.proofs.JudgeLemmas.{judge_after, judge_refused, may_end}
use Rattle.omi_script.proofs.LineLemmas.{after_shorter, lines_none}
use Rattle.omi_script.proofs.reader.parse.Goals as goal

pub returns-in-Err-clause-refused : goal.returns-in-Err-clause-refused
returns-in-Err-clause-refused c =
    let some : 0 < length c.lines.rest.now = grind (arith, common_steps) in
    subst (IfFault (Refused c.args.bytes.now)) (sym c.at-in-Err.ensures)
    (judge_refused c.args.bytes.now c.lines.number c.lines.parser.state (parser_after c.lines.parser.state c.cut.result.0.now) c.cut.result.0.now c.lines.rest.now c.in-Err.e some c.cut.ensures.first c.lines.invariant.judged c.in-Err.ensures)

pub lines-preserved : goal.lines-preserved
lines-preserved c =
    let some : 0 < length c.lines.rest.now = grind (arith, common_steps) in
    record {
      judged =
          ap (λ bs. judge (c.lines.number + 1) c.in-Ok.after.state (lines bs)) c.cut.ensures.rest
          ∙ judge_after c.lines.number c.lines.parser.state c.in-Ok.after.state c.cut.result.0.now c.lines.rest.now (verdict c.args.bytes.now) some c.cut.ensures.first c.lines.invariant.judged c.in-Ok.ensures;
      room = let rest : length c.cut.result.1.now ≡ length (after_first is_line_feed c.lines.rest.now) = ap length c.cut.ensures.rest in let less = after_shorter c.lines.rest.now some in let within : c.lines.number + length c.lines.rest.now ≤ MAX_BYTES + 1 = c.lines.invariant.room in omega arith;
    }

pub program-requires : goal.program-requires
program-requires c =
    let none : lines c.lines.rest.now ≡ [] =
    lines_none c.lines.rest.now (sym c.is_empty.ensures ∙ c.lines-test.false) in
    may_end c.args.bytes.now c.lines.number c.lines.parser.state
    (sym (ap (judge c.lines.number c.lines.parser.state) none) ∙ c.lines.invariant.judged)
