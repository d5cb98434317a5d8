-- The verdict on a text, line by line.
use Rattle.std.proofs.Common.{◌≡◌, ℕ, ◌<◌, ◌+◌, List, [], ◌∷◌, length, None, Err, sym, ap, ◌∙◌}
use Rattle.std.specs.List.{before_first, after_first}
use Rattle.omi_script.specs.Errors.{IfFault, error_at}
use Rattle.omi_script.specs.Grammar.{Refused}
use Rattle.omi_script.specs.LineFaults.{has_end_fault, has_fault, least}
use Rattle.omi_script.specs.Lines.{is_line_feed, lines}
use Rattle.omi_script.specs.ParserAnswers.{Answers, MayEnd}
use Rattle.omi_script.specs.ParserState.{parser_after}
use Rattle.omi_script.specs.Verdict.{Accepts, Verdict, judge, refused_or, verdict}
use Rattle.omi_script.specs.declared.fault.LineError.{LineError}
use Rattle.omi_script.specs.declared.parser.ParserState.{ParserState}
use Rattle.omi_script.specs.declared.fault.LineError.TheVariants.{Fault, OutOfMemory}
use Rattle.omi_script.proofs.LineLemmas.{lines_step}
use Rattle.omi_script.proofs.SoundPrograms.{rules_of}
use Rattle.omi_script.proofs.SoundVerdicts.{accepted_sound}

-- after a line without a fault
pub judge_after : (n : ℕ) (state next : ParserState) (line rest : List ℕ) (v : Verdict) → 0 < length rest
    → line ≡ before_first is_line_feed rest → judge n state (lines rest) ≡ v
    → (least (has_fault state line) ≡ None) × (next ≡ parser_after state line)
    → judge (n + 1) next (lines (after_first is_line_feed rest)) ≡ v
judge_after n state next line rest v some first says (none, is) =
    let more : List (List ℕ) = lines (after_first is_line_feed rest) in
    ap (λ p. judge (n + 1) p more) is
    ∙ sym (ap (λ o. refused_or n o (judge (n + 1) (parser_after state line) more)) none)
    ∙ ap (λ l. judge n state (l ∷ more)) first ∙ sym (ap (judge n state) (lines_step rest some)) ∙ says

-- a line with a fault
pub judge_refused : (bytes : List ℕ) (n : ℕ) (state next : ParserState) (line rest : List ℕ) (e : LineError)
    → 0 < length rest → line ≡ before_first is_line_feed rest → judge n state (lines rest) ≡ verdict bytes
    → Answers (has_fault state line) next (Err e) → IfFault (Refused bytes) (error_at n e)
judge_refused bytes n state next line rest OutOfMemory some first says h = tt
judge_refused bytes n state next line rest (Fault why) some first says h =
    let more : List (List ℕ) = lines (after_first is_line_feed rest) in
    record {
      says =
          sym says
          ∙ ap (judge n state) (lines_step rest some)
          ∙ sym (ap (λ l. judge n state (l ∷ more)) first)
          ∙ ap (λ o. refused_or n o (judge (n + 1) (parser_after state line) more)) h;
    }

-- the end of the text has none
end_accepts : (bytes : List ℕ) (n : ℕ) (state : ParserState) → judge n state [] ≡ verdict bytes
    → least (has_end_fault state) ≡ None → verdict bytes ≡ Accepts state
end_accepts bytes n state says none = sym says ∙ ap (λ o. refused_or n o (Accepts state)) none

-- the program keeps the rules, where the text may end
pub may_end : (bytes : List ℕ) (n : ℕ) (state : ParserState) → judge n state [] ≡ verdict bytes → MayEnd state
may_end bytes n state says none main is =
    let sound = accepted_sound bytes state (end_accepts bytes n state says none) in
    rules_of state sound.0 sound.1 main is
