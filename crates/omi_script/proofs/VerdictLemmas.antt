-- A text has one verdict: at most one program, at most one fault, and not both.
use Rattle.std.proofs.Common.{◌≡◌, ◌⊎◌, inl, inr, ℕ, List, Some, refl, sym, ap, ◌∙◌}
use Rattle.std.specs.Prelude.{position, codes}
use Rattle.omi_script.specs.Grammar.{AreEqual, Grammar, Refused, env_of, threads_of}
use Rattle.omi_script.specs.ParserState.{is_called}
use Rattle.omi_script.specs.Verdict.{Accepts, Refuses, Verdict, verdict}
use Rattle.omi_script.specs.declared.fault.ScriptFault.{ScriptFault}
use Rattle.omi_script.specs.declared.parser.ParserState.{ParserState}
use Rattle.omi_script.specs.declared.program.Program.{Program}

same_state : (bytes : List ℕ) (a b : ParserState) → verdict bytes ≡ Accepts a → verdict bytes ≡ Accepts b
    → a ≡ b
same_state bytes a b e f = cc

same_number : (m n : ℕ) → Some m ≡ Some n → m ≡ n
same_number m n e = cc

-- a text has at most one program
pub AreEqual-from_workload : (bytes : List ℕ) (p q : Program) → Grammar bytes p → Grammar bytes q
    → AreEqual p q
AreEqual-from_workload bytes p q g h =
    let e = same_state bytes g.state h.state g.says h.says in
    record {
      threads = g.program.threads ∙ ap (λ (a : ParserState). threads_of a.head) e ∙ sym h.program.threads;
      env = g.program.env ∙ ap (λ (a : ParserState). env_of a.head) e ∙ sym h.program.env;
      funcs = g.program.funcs ∙ ap (λ (a : ParserState). a.closed) e ∙ sym h.program.funcs;
      main = same_number p.main q.main (g.program.main ∙ ap (λ (a : ParserState). position (is_called (codes "main")) a.closed) e ∙ sym h.program.main);
    }

-- a text has at most one fault
pub same_fault : (bytes : List ℕ) (a b : ScriptFault) → Refused bytes a → Refused bytes b → a ≡ b
same_fault bytes a b r s =
    let e : verdict bytes ≡ Refuses a = r.says in
    let f : verdict bytes ≡ Refuses b = s.says in
    cc (e, f)

-- a text that is a program has no fault
pub not_both : (bytes : List ℕ) (p : Program) (fault : ScriptFault) → Grammar bytes p → Refused bytes fault
    → ⊥
not_both bytes p fault g r =
    let e : verdict bytes ≡ Accepts g.state = g.says in
    let f : verdict bytes ≡ Refuses fault = r.says in
    cc (e, f)

-- the lines of a text lead to a state, or the text is refused
pub state_or_refused : (bytes : List ℕ)
    → ((state : ParserState) × (verdict bytes ≡ Accepts state)) ⊎ ((fault : ScriptFault) × Refused bytes fault)
state_or_refused bytes = by_verdict (verdict bytes) refl
  where
    by_verdict : (v : Verdict) → verdict bytes ≡ v
        → ((state : ParserState) × (verdict bytes ≡ Accepts state)) ⊎ ((fault : ScriptFault) × Refused bytes fault)
    by_verdict (Accepts state) e = inl (state, e)
    by_verdict (Refuses fault) e = inr (fault, record { says = e })
