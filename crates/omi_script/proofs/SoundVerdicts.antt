-- The state that the lines of an accepted text lead to keeps the rules.
use Rattle.std.proofs.Common.{◌≡◌, ℕ, ◌+◌, Bool, true, false, List, [], ◌∷◌, Option, Some, None, refl, sym, ap, ◌∙◌, arith, subst, if◌then◌else◌}
use Rattle.std.specs.Prelude.{is_some, nat_le, length}
use Rattle.std.specs.Option.{option_map_or, option_and_then}
use Rattle.omi_script.specs.Line.{line_of}
use Rattle.omi_script.specs.LineFaults.{has_bad_number, has_end_fault, has_fault, has_unknown_name, is_over_limit, is_repeated, is_task_with_barrier, least, nests_barrier, says_such}
use Rattle.omi_script.specs.Lines.{lines, words}
use Rattle.omi_script.specs.ParserState.{parser_after, after_line, first_state, line_in, may_stand}
use Rattle.omi_script.specs.Verdict.{Accepts, Refuses, Verdict, judge, refused_or, verdict}
use Rattle.omi_script.specs.declared.fault.Why.{Why}
use Rattle.omi_script.specs.declared.limits.TheConstants.{MAX_BYTES}
use Rattle.omi_script.specs.declared.line.SourceLine.{SourceLine}
use Rattle.omi_script.specs.declared.parser.ParserState.{ParserState}
use Rattle.omi_script.specs.declared.fault.Why.TheVariants.{NotText, UnknownWord, BadNumber, UnknownName, Repeated, BarrierInTask, BarrierNested, OverLimit, NoMain, Unclosed}
use Rattle.omi_script.proofs.LineRanges.{is_good, is_line_in_range, line_good}
use Rattle.omi_script.proofs.StateLemmas.{step}
use Rattle.omi_script.proofs.SoundStates.{IsSoundState}
use Rattle.omi_script.proofs.SoundLines.{some_of, yes, said_sound}

at_state : (state : ParserState) (o : Option SourceLine) (l : SourceLine) → is_good o ≡ true
    → option_and_then (λ x. if may_stand state x then Some x else None) o ≡ Some l
    → (is_line_in_range l ≡ true) × (may_stand state l ≡ true)
at_state state None l good e = absurd (cc)
at_state state (Some x) l good e = by_test (may_stand state x) refl
  where
    by_test : (b : Bool) → may_stand state x ≡ b → (is_line_in_range l ≡ true) × (may_stand state l ≡ true)
    by_test true h =
        let found : Some x ≡ Some l = sym (ap (λ b. if b then Some x else None) h) ∙ e in
        let same : x ≡ l = cc found in
        (sym (ap is_line_in_range same) ∙ good, sym (ap (may_stand state) same) ∙ h)
    by_test false h =
        let found : None ≡ Some l = sym (ap (λ b. if b then Some x else None) h) ∙ e in absurd (cc found)

-- a line without a fault leads from a state that keeps the rules to one that does
pub after_sound : (state : ParserState) (bytes : List ℕ) → IsSoundState state
    → least (has_fault state bytes) ≡ None → IsSoundState (parser_after state bytes)
after_sound state bytes sound e =
    let has : Why → Bool = has_fault state bytes in
    let from8 : List Why = OverLimit ∷ NoMain ∷ Unclosed ∷ [] in
    let from7 : List Why = BarrierNested ∷ from8 in
    let from6 : List Why = BarrierInTask ∷ from7 in
    let from5 : List Why = Repeated ∷ from6 in
    let from4 : List Why = UnknownName ∷ from5 in
    let from3 : List Why = BadNumber ∷ from4 in
    let f1 = step has NotText (UnknownWord ∷ from3) e in
    let f2 = step has UnknownWord from3 f1.1 in
    let f3 = step has BadNumber from4 f2.1 in
    let f4 = step has UnknownName from5 f3.1 in
    let f5 = step has Repeated from6 f4.1 in
    let f6 = step has BarrierInTask from7 f5.1 in
    let f7 = step has BarrierNested from8 f6.1 in
    let f8 = step has OverLimit (NoMain ∷ Unclosed ∷ []) f7.1 in
    let s = some_of (line_in state bytes) (yes (is_some (line_in state bytes)) f2.0) in
    let said : (test : SourceLine → Bool) → option_map_or test (line_in state bytes) false ≡ false → test s.0 ≡ false =
    λ test h. sym (ap (λ o. option_map_or test o false) s.1) ∙ h in
    let good = at_state state (line_of (words bytes)) s.0 (line_good (words bytes)) s.1 in
    let to : parser_after state bytes ≡ after_line state s.0 =
    ap (λ o. option_map_or (after_line state) o state) s.1 in
    subst IsSoundState (sym to)
    (said_sound state s.0 sound good.0 good.1 (said has_bad_number f3.0) (said (has_unknown_name state) f4.0) (said (is_repeated state) f5.0)
    (said (says_such is_task_with_barrier state) f6.0) (said (says_such nests_barrier state) f7.0) (said (is_over_limit state) f8.0))

unfaulted : (o : Option Why) (n : ℕ) (v : Verdict) (out : ParserState) → refused_or n o v ≡ Accepts out
    → (o ≡ None) × (v ≡ Accepts out)
unfaulted None n v out e = (refl, e)
unfaulted (Some why) n v out e = absurd (cc)

-- lines that are accepted lead to a state that keeps the rules, and their end has no fault
pub judged : (n : ℕ) (state : ParserState) (ls : List (List ℕ)) (out : ParserState) → IsSoundState state
    → judge n state ls ≡ Accepts out → IsSoundState out × (least (has_end_fault out) ≡ None)
judged n state [] out sound e =
    let u = unfaulted (least (has_end_fault state)) n (Accepts state) out e in
    let accepted : Accepts state ≡ Accepts out = u.1 in
    let same : state ≡ out = cc accepted in
    (subst IsSoundState same sound, sym (ap (λ p. least (has_end_fault p)) same) ∙ u.0)
judged n state (bytes ∷ more) out sound e =
    let u = unfaulted (least (has_fault state bytes)) n (judge (n + 1) (parser_after state bytes) more) out e in
    judged (n + 1) (parser_after state bytes) more out (after_sound state bytes sound u.0) u.1

first_sound : IsSoundState first_state
first_sound = record { head = record { threads = refl; sizes = refl; levels = refl; schedule = refl; device = refl; procs = refl }; count = omega arith; names = refl; distinct = refl; allowed = refl; statements = omega arith; open_function = tt }

-- a text that is accepted leads to a state that keeps the rules, and its end has no fault
pub accepted_sound : (bytes : List ℕ) (out : ParserState) → verdict bytes ≡ Accepts out
    → IsSoundState out × (least (has_end_fault out) ≡ None)
accepted_sound bytes out e = by_length (nat_le (length bytes) MAX_BYTES) e
  where
    by_length : (b : Bool)
        → (if b then judge 1 first_state (lines bytes) else Refuses (record { line = 1; why = OverLimit })) ≡ Accepts out
        → IsSoundState out × (least (has_end_fault out) ≡ None)
    by_length true h = judged 1 first_state (lines bytes) out first_sound h
    by_length false h = absurd (cc)
