-- The first 65,537 bytes of a script tell what the script is, and how its reading is refused.
use Rattle.std.proofs.Common.{◌≡◌, ◌⊎◌, ◌<◌, inl, inr, ℕ, Bool, true, false, List, length, take, Option, Some, None, Ok, Err, if◌then◌else◌, refl, sym, ◌∙◌, ap, subst, arith, take_all, length-take-le, leb-false}
use Rattle.std.specs.Prelude.{nat_le, IfErr, IfOk, Result}
use Rattle.std.proofs.lemmas.Bool.{leb-true}
use Rattle.omi_script.specs.Errors.{IfFault}
use Rattle.omi_script.specs.Grammar.{Grammar, Refused}
use Rattle.omi_script.specs.Lines.{lines}
use Rattle.omi_script.specs.ParserState.{first_state}
use Rattle.omi_script.specs.Verdict.{Refuses as RefusesText, judge, verdict}
use Rattle.omi_script.specs.declared.fault.ScriptError.{ScriptError}
use Rattle.omi_script.specs.declared.fault.ScriptError.TheVariants as error
use Rattle.omi_script.specs.declared.fault.Why.TheVariants.{OverLimit}
use Rattle.omi_script.specs.declared.program.Program.{Program}
use Rattle.omi_frame.specs.declared.limits.TheConstants.{SCRIPT_FRONT}
use Rattle.omi_frame.specs.Refusal.{refusal_of_script, IsUnread}
use Rattle.omi_frame.specs.Scripts.{IsOfScript, IsProgramIn, IsScriptRefusal}
use Rattle.omi_frame.specs.declared.refusal.Input.TheVariants as input
use Rattle.omi_frame.specs.declared.refusal.Refusal.{Refusal}
use Rattle.omi_frame.specs.declared.refusal.Refusal.TheVariants as refusal

-- a text of more than 65,536 bytes is refused for its length
too_long : (bytes : List ℕ) → 65536 < length bytes
    → verdict bytes ≡ RefusesText (record { line = 1; why = OverLimit })
too_long bytes long = go (nat_le (length bytes) 65536) refl
  where
    go : (b : Bool) → nat_le (length bytes) 65536 ≡ b
        → (if b then judge 1 first_state (lines bytes) else RefusesText (record { line = 1; why = OverLimit })) ≡ RefusesText (record { line = 1; why = OverLimit })
    go true e = absurd (omega (arith, long, leb-true (length bytes) 65536 e))
    go false e = refl

-- the first 65,537 bytes of a text have the verdict of the text
front_verdict : (bytes : List ℕ) → verdict (take SCRIPT_FRONT bytes) ≡ verdict bytes
front_verdict bytes = go (nat_le (length bytes) SCRIPT_FRONT) refl
  where
    go : (b : Bool) → nat_le (length bytes) SCRIPT_FRONT ≡ b
        → verdict (take SCRIPT_FRONT bytes) ≡ verdict bytes
    go true e = ap verdict (take_all SCRIPT_FRONT bytes (leb-true (length bytes) SCRIPT_FRONT e))
    go false e =
        let long : SCRIPT_FRONT < length bytes = leb-false (length bytes) SCRIPT_FRONT e in
        let front : length (take SCRIPT_FRONT bytes) ≡ SCRIPT_FRONT =
        length-take-le SCRIPT_FRONT bytes (omega arith) in
        too_long (take SCRIPT_FRONT bytes) (omega arith) ∙ sym (too_long bytes (omega arith))

-- the error of reading a script as a refusal
pub script_refused : (bytes : List ℕ) (e : ScriptError) → IfFault (Refused bytes) e
    → IsScriptRefusal (Some bytes) (refusal_of_script e) ⊎ (refusal_of_script e ≡ refusal.OutOfMemory)
script_refused bytes (error.Fault fault) why = inl (fault, why, refl)
script_refused bytes error.OutOfMemory why = inr refl

-- ---- a file that can't be read

pub unread : (content : Option (List ℕ)) (r : Refusal)
    → ((r ≡ refusal.NoFile input.Script) × (content ≡ None)) ⊎ IsUnread input.Script r
    → IsScriptRefusal content r ⊎ IsUnread input.Script r
unread content r (inl (missing, none)) =
    inl (subst (λ (c : Option (List ℕ)). IsScriptRefusal c r) (sym none) missing)
unread content r (inr failed) = inr failed

pub unread_kind : (r : Refusal) → (r ≡ refusal.NoFile input.Script) ⊎ IsUnread input.Script r → IsOfScript r
unread_kind r (inl missing) = subst IsOfScript (sym missing) tt
unread_kind r (inr (inl failed)) = subst IsOfScript (sym failed) tt
unread_kind r (inr (inr memory)) = subst IsOfScript (sym memory) tt

-- ---- a file whose first bytes were read

module _ (content : Option (List ℕ)) (whole bytes : List ℕ) (holds : content ≡ Some bytes)
    (read : whole ≡ take SCRIPT_FRONT bytes) where
  accepted : (p : Program) → Grammar whole p → IsProgramIn content p
  accepted p grammar =
      let g : Grammar (take SCRIPT_FRONT bytes) p = subst (λ (xs : List ℕ). Grammar xs p) read grammar in
      subst (λ (c : Option (List ℕ)). IsProgramIn c p) (sym holds)
      (record { state = g.state; says = sym (front_verdict bytes) ∙ g.says; program = g.program })

  refuses : (r : Refusal) → IsScriptRefusal (Some whole) r ⊎ (r ≡ refusal.OutOfMemory)
      → IsScriptRefusal content r ⊎ IsUnread input.Script r
  refuses r (inl said) =
      let (fault, why, same) = subst (λ (xs : List ℕ). IsScriptRefusal (Some xs) r) read said in
      inl
      (subst (λ (c : Option (List ℕ)). IsScriptRefusal c r) (sym holds) (fault, record { says = sym (front_verdict bytes) ∙ why.says }, same))
  refuses r (inr memory) = inr (inr memory)

  -- whatever the verdict on these bytes is
  pub all_accepted : (r : Result Program Refusal) → IfOk r (λ p. Grammar whole p)
      → IfOk r (IsProgramIn content)
  all_accepted (Ok p) grammar = accepted p grammar
  all_accepted (Err e) nothing = tt

  pub all_refused : (r : Result Program Refusal)
      → IfErr r (λ e. IsScriptRefusal (Some whole) e ⊎ (e ≡ refusal.OutOfMemory))
      → IfErr r (λ e. IsScriptRefusal content e ⊎ IsUnread input.Script e)
  all_refused (Ok p) nothing = tt
  all_refused (Err e) said = refuses e said
