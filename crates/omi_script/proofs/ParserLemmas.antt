-- What the parser answers at a line, by what it says.
use Rattle.std.proofs.Common.{◌≡◌, ℕ, Bool, true, false, not, List, Option, Some, None, Result, Ok, Err, refl, sym, ap, ◌∙◌, if◌then◌else◌, cond}
use Rattle.std.specs.Prelude.{is_some}
use Rattle.std.specs.List.{list_all}
use Rattle.std.specs.Option.{option_and_then, option_map_or}
use Rattle.omi_script.specs.Line.{line_of}
use Rattle.omi_script.specs.LineFaults.{has_bad_number, has_fault, has_unknown_name, is_over_limit, is_repeated, is_task_with_barrier, least, nests_barrier, says_such}
use Rattle.omi_script.specs.Lines.{is_text, words}
use Rattle.omi_script.specs.ParserAnswers.{Answers, AnswersSaid}
use Rattle.omi_script.specs.ParserState.{parser_after, after_line, line_in, may_stand}
use Rattle.omi_script.specs.SaidFaults.{has_said_fault}
use Rattle.omi_script.specs.declared.fault.LineError.{LineError}
use Rattle.omi_script.specs.declared.fault.Why.{Why}
use Rattle.omi_script.specs.declared.line.SourceLine.{SourceLine}
use Rattle.omi_script.specs.declared.parser.Parser.{Parser}
use Rattle.omi_script.specs.declared.parser.ParserState.{ParserState}
use Rattle.omi_script.specs.declared.fault.LineError.TheVariants.{Fault, OutOfMemory}
use Rattle.omi_script.specs.declared.fault.Why.TheVariants.{NotText, UnknownWord, BadNumber, UnknownName, Repeated, BarrierInTask, BarrierNested, OverLimit}

-- the least fault of a line whose bytes are text, by what it says in its state
abbrev least_said : ParserState → Option SourceLine → Option Why
least_said state o =
    cond (not (is_some o)) (Some UnknownWord)
    (cond (option_map_or has_bad_number o false) (Some BadNumber)
    (cond (option_map_or (has_unknown_name state) o false) (Some UnknownName)
    (cond (option_map_or (is_repeated state) o false) (Some Repeated)
    (cond (option_map_or (says_such is_task_with_barrier state) o false) (Some BarrierInTask)
    (cond (option_map_or (says_such nests_barrier state) o false) (Some BarrierNested)
    (cond (option_map_or (is_over_limit state) o false) (Some OverLimit) None))))))

least_of_text : (state : ParserState) (bytes : List ℕ) → list_all is_text bytes ≡ true
    → least (has_fault state bytes) ≡ least_said state (line_in state bytes)
least_of_text state bytes h = ap (λ b. cond (not b) (Some NotText) (least_said state (line_in state bytes))) h

-- a line that says nothing that may stand in its state
pub unknown_answer : (state : ParserState) (bytes : List ℕ) → list_all is_text bytes ≡ true
    → line_in state bytes ≡ None → least (has_fault state bytes) ≡ Some UnknownWord
unknown_answer state bytes h e = least_of_text state bytes h ∙ ap (least_said state) e

-- one answer is as good as another where the faults and the state are the same
same_answer : (has other : Why → Bool) (next to : ParserState) (r : Result Parser LineError)
    → least has ≡ least other → next ≡ to → Answers other to r → Answers has next r
same_answer has other next to (Ok p) e f (none, is) = (e ∙ none, is ∙ sym f)
same_answer has other next to (Err (Fault why)) e f h = e ∙ h
same_answer has other next to (Err OutOfMemory) e f h = tt

-- a line with UnknownWord has that answer alone
unknown_alone : (has other : Why → Bool) (next to : ParserState) (r : Result Parser LineError)
    → least has ≡ Some UnknownWord → least other ≡ Some UnknownWord → Answers other to r → Answers has next r
unknown_alone has other next to (Ok p) e f (none, is) =
    let clash : Some UnknownWord ≡ None = sym f ∙ none in absurd (cc clash)
unknown_alone has other next to (Err (Fault why)) e f h = e ∙ sym f ∙ h
unknown_alone has other next to (Err OutOfMemory) e f h = tt

-- the answer at a line of text, from that at what it says
pub line_answer : (state : ParserState) (bytes : List ℕ) (s : SourceLine) (r : Result Parser LineError)
    → list_all is_text bytes ≡ true → line_of (words bytes) ≡ Some s → AnswersSaid state s r
    → Answers (has_fault state bytes) (parser_after state bytes) r
line_answer state bytes s r text says h = by_test (may_stand state s) refl
  where
    at : line_in state bytes ≡ (if may_stand state s then Some s else None)
    at = ap (λ o. option_and_then (λ x. if may_stand state x then Some x else None) o) says

    by_test : (b : Bool) → may_stand state s ≡ b
        → Answers (has_fault state bytes) (parser_after state bytes) r
    by_test true stands =
        let said : line_in state bytes ≡ Some s = at ∙ ap (λ b. if b then Some s else None) stands in
        let faults : least (has_fault state bytes) ≡ least (has_said_fault state s) =
        least_of_text state bytes text
        ∙ ap (least_said state) said
        ∙ sym (ap (λ b. cond (not b) (Some UnknownWord) (least_said state (Some s))) stands) in
        let next : parser_after state bytes ≡ after_line state s =
        ap (λ o. option_map_or (after_line state) o state) said in
        same_answer (has_fault state bytes) (has_said_fault state s) (parser_after state bytes)
        (after_line state s) r faults next h
    by_test false stands =
        let said : line_in state bytes ≡ None = at ∙ ap (λ b. if b then Some s else None) stands in
        unknown_alone (has_fault state bytes) (has_said_fault state s) (parser_after state bytes)
        (after_line state s) r
        (unknown_answer state bytes text said)
        (ap (λ b. cond (not b) (Some UnknownWord) (least_said state (Some s))) stands) h
