-- Lines that have no fault where they stand, and the state that they lead to.
use Rattle.std.proofs.Common.{◌≡◌, ℕ, ◌+◌, Bool, true, false, not, cond, List, [], ◌∷◌, ◌++◌, Some, None, refl, sym, ap, ◌∙◌, subst, if◌then◌else◌}
use Rattle.std.specs.Prelude.{find, is_some}
use Rattle.std.specs.List.{list_all}
use Rattle.std.specs.Option.{option_map_or, option_and_then}
use Rattle.omi_script.specs.Line.{line_of}
use Rattle.omi_script.specs.LineFaults.{has_bad_number, has_end_fault, has_fault, has_unknown_name, if_said, is_over_limit, is_repeated, is_task_with_barrier, least, nests_barrier, says_such}
use Rattle.omi_script.specs.Lines.{words}
use Rattle.omi_script.specs.ParserState.{parser_after, after_line, line_in, may_stand}
use Rattle.omi_script.specs.Verdict.{Accepts, judge, refused_or}
use Rattle.omi_script.specs.declared.fault.Why.{Why}
use Rattle.omi_script.specs.declared.line.SourceLine.{SourceLine}
use Rattle.omi_script.specs.declared.parser.ParserState.{ParserState}
use Rattle.omi_script.specs.declared.fault.Why.TheVariants.{NotText, UnknownWord, BadNumber, UnknownName, Repeated, BarrierInTask, BarrierNested, OverLimit, NoMain, Unclosed}
use Rattle.omi_script.proofs.CanonicalLines.{is_printed, IsLineOf, text_from_printed}
use Rattle.omi_script.proofs.Conjunctions.{and_true}

-- what a line says has no fault there
pub record IsFaultless (state : ParserState) (s : SourceLine) : Type 0 where
  pub stands : may_stand state s ≡ true
  pub number : has_bad_number s ≡ false
  pub name : has_unknown_name state s ≡ false
  pub new : is_repeated state s ≡ false
  pub no_task : says_such is_task_with_barrier state s ≡ false
  pub no_nest : says_such nests_barrier state s ≡ false
  pub limit : is_over_limit state s ≡ false

-- the line is printed, has no fault in its state, and leads to the next
abbrev pub LineLeads : ParserState → List ℕ → ParserState → Type 0
LineLeads a line b =
    (list_all is_printed line ≡ true) × (least (has_fault a line) ≡ None) × (parser_after a line ≡ b)

-- each line is printed and has no fault where it stands, and the last leads to the state b
abbrev pub LinesLead : ParserState → List (List ℕ) → ParserState → Type 0
LinesLead a [] b = a ≡ b
LinesLead a (line ∷ more) b =
    (list_all is_printed line ≡ true) × (least (has_fault a line) ≡ None) × LinesLead (parser_after a line) more b

not_found : (has : Why → Bool) (w : Why) (ws : List Why) → has w ≡ false → find has ws ≡ None
    → find has (w ∷ ws) ≡ None
not_found has w ws h k = ap (λ b. cond b (Some w) (find has ws)) h ∙ k

-- a line that says what has no fault has none
pub line_leads : (state : ParserState) (ws : List (List ℕ)) (line : List ℕ) (s : SourceLine)
    → IsLineOf ws line → line_of ws ≡ Some s → IsFaultless state s → LineLeads state line (after_line state s)
line_leads state ws line s l e f =
    let has : Why → Bool = has_fault state line in
    let read : line_of (words line) ≡ Some s = ap line_of l.words ∙ e in
    let at : line_in state line ≡ Some s =
    ap (option_and_then (λ x. if may_stand state x then Some x else None)) read
    ∙ ap (λ b. if b then Some s else None) f.stands in
    let said : (test : SourceLine → Bool) → test s ≡ false → if_said test state line ≡ false =
    λ test h. ap (λ o. option_map_or test o false) at ∙ h in
    let ws9 : List Why = NoMain ∷ Unclosed ∷ [] in
    let ws8 : List Why = OverLimit ∷ ws9 in
    let ws7 : List Why = BarrierNested ∷ ws8 in
    let ws6 : List Why = BarrierInTask ∷ ws7 in
    let ws5 : List Why = Repeated ∷ ws6 in
    let ws4 : List Why = UnknownName ∷ ws5 in
    let ws3 : List Why = BadNumber ∷ ws4 in
    let from8 = not_found has OverLimit ws9 (said (is_over_limit state) f.limit) refl in
    let from7 = not_found has BarrierNested ws8 (said (says_such nests_barrier state) f.no_nest) from8 in
    let from6 =
    not_found has BarrierInTask ws7 (said (says_such is_task_with_barrier state) f.no_task) from7 in
    let from5 = not_found has Repeated ws6 (said (is_repeated state) f.new) from6 in
    let from4 = not_found has UnknownName ws5 (said (has_unknown_name state) f.name) from5 in
    let from3 = not_found has BadNumber ws4 (said has_bad_number f.number) from4 in
    let from2 = not_found has UnknownWord ws3 (ap (λ o. not (is_some o)) at) from3 in
    (l.printed, not_found has NotText (UnknownWord ∷ ws3) (ap not (text_from_printed line l.printed)) from2, ap (λ o. option_map_or (after_line state) o state) at)

-- a line and those after it
pub leads_on : (a b c : ParserState) (line : List ℕ) (more : List (List ℕ)) → LineLeads a line b
    → LinesLead b more c → LinesLead a (line ∷ more) c
leads_on a b c line more (printed, none, to) rest =
    (printed, none, subst (λ (p : ParserState). LinesLead p more c) (sym to) rest)

-- lines, and those after them
pub leads_through : (a b c : ParserState) (ls ms : List (List ℕ)) → LinesLead a ls b → LinesLead b ms c
    → LinesLead a (ls ++ ms) c
leads_through a b c [] ms h k = subst (λ (p : ParserState). LinesLead p ms c) (sym h) k
leads_through a b c (line ∷ ls) ms (printed, none, h) k =
    (printed, none, leads_through (parser_after a line) b c ls ms h k)

-- lines that lead to a state are printed
pub printed_from_leads : (a b : ParserState) (ls : List (List ℕ)) → LinesLead a ls b
    → list_all (list_all is_printed) ls ≡ true
printed_from_leads a b [] h = refl
printed_from_leads a b (line ∷ ls) (printed, none, h) =
    and_true (list_all is_printed line) (list_all (list_all is_printed) ls) printed
    (printed_from_leads (parser_after a line) b ls h)

-- lines that lead to a state whose end has no fault are accepted there
pub judged_accepted : (n : ℕ) (a b : ParserState) (ls : List (List ℕ)) → LinesLead a ls b
    → least (has_end_fault b) ≡ None → judge n a ls ≡ Accepts b
judged_accepted n a b [] h e =
    ap (λ (p : ParserState). judge n p []) h ∙ ap (λ o. refused_or n o (Accepts b)) e
judged_accepted n a b (line ∷ ls) (printed, none, h) e =
    ap (λ o. refused_or n o (judge (n + 1) (parser_after a line) ls)) none
    ∙ judged_accepted (n + 1) (parser_after a line) b ls h e
