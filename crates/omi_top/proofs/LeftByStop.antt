-- What the clauses of the top call say of `stop`, from what it leaves.
use Rattle.std.proofs.Common.{◌≡◌, inl, inr, ℕ, List, Option, Some, None, Ok, Err, refl, sym, ◌∙◌, ap, subst}
use Rattle.omi_outside.specs.Outside.{Told, holding, put_on}
use Rattle.omi_outside.specs.declared.status.Status.{Status}
use Rattle.omi_outside.specs.declared.status.Status.TheVariants as status
use Rattle.omi_script.specs.Grammar.{Grammar, Refused}
use Rattle.omi_script.proofs.VerdictLemmas.{not_both}
use Rattle.omi_script.specs.declared.fault.ScriptFault.{ScriptFault}
use Rattle.omi_script.specs.declared.program.Program.{Program}
use Rattle.omi_frame.specs.declared.refusal.Refusal.{Refusal}
use Rattle.omi_frame.specs.Verb.{Answer, Gives}
use Rattle.omi_frame.specs.Statuses.{IsDoneOrFailed, IsFaultStatus, ComesWhere}
use Rattle.omi_frame.specs.Left.{IsLeft}
use Rattle.omi_frame.specs.Scripts.{IsScriptRefusal, HoldsProgram}
use Rattle.omi_top.specs.Command.{Stop}
use Rattle.omi_top.specs.declared.plan.Plan.{Plan}
use Rattle.omi_frame.specs.Refusal.{status_of}
use Rattle.omi_frame.proofs.Statuses.{DidMore, DoesMore, IsDoneStatus, one_content, comes_where, never_refused, written_more}
use Rattle.omi_top.specs.CommandVerbs.{AreTold, IsAnswer, verb_of}
use Rattle.omi_top.specs.verbs.Stop.{IsStopAnswer, IsStopped, StopPromise}

-- the text has a fault
abbrev HasFault : List ℕ → Type 0
HasFault bytes = (fault : ScriptFault) × Refused bytes fault

-- what an answer says of the script, where the script's content is told
module _ (plan : Plan) (script core : List ℕ) (told : List ℕ → Told) (content : Option (List ℕ))
    (is : told script ≡ Some content) where
  stop_answer : (a : Answer) → IsAnswer (Stop plan script core) told a → IsStopAnswer plan content a
  stop_answer a (c, here, answer) =
      subst (λ (x : Option (List ℕ)). IsStopAnswer plan x a)
      (one_content (told script) c content here is) answer

  refusals : (written : Option (List ℕ)) (r : Refusal)
      → IsAnswer (Stop plan script core) told (Gives written (Err r)) → IsScriptRefusal content r
  refusals written r answer = go content written (stop_answer (Gives written (Err r)) answer)
    where
      go : (c written : Option (List ℕ)) → IsStopAnswer plan c (Gives written (Err r)) → IsScriptRefusal c r
      go None None said = said
      go (Some bytes) None said = said
      go None (Some core) said = absurd said
      go (Some bytes) (Some core) said = absurd said

  runs : (a : Answer) → DoesMore a → IsAnswer (Stop plan script core) told a → HoldsProgram content
  runs a more answer = go content a more (stop_answer a answer)
    where
      go : (c : Option (List ℕ)) (a : Answer) → DoesMore a → IsStopAnswer plan c a → HoldsProgram c
      go c (Gives None (Err r)) more said = absurd more
      go None (Gives None (Ok text)) more said = absurd said
      go None (Gives (Some core) (Ok text)) more said = absurd said
      go None (Gives (Some core) (Err r)) more said = absurd said
      go (Some bytes) (Gives None (Ok text)) more said = absurd said
      go (Some bytes) (Gives (Some core) (Err r)) more said = absurd said
      go (Some bytes) (Gives (Some core) (Ok text)) more (p, grammar, stopped) = (p, grammar)

  did : DidMore (verb_of (Stop plan script core)) told → HoldsProgram content
  did (inl (a, more, answer)) = runs a more answer
  did (inr (bytes, (says, answer))) = runs (Gives (Some bytes) says) (written_more bytes says) answer

module _ (plan : Plan) (script core : List ℕ) (told : List ℕ → Told) (old new : Told) (counted : Type 0)
    (out after : Option (List ℕ)) where
  -- a status comes exactly where a fact holds of the script's content
  comes : (content : Option (List ℕ)) → told script ≡ Some content → (refused s : Status) (fact : Type 0)
      → (IsFaultStatus refused → ⊥) → (IsDoneStatus refused → ⊥)
      → ((r : Refusal) → IsScriptRefusal content r → status_of r ≡ refused → fact) → (fact → (r : Refusal) → IsScriptRefusal content r → status_of r ≡ refused) → (fact → HoldsProgram content → ⊥)
      → IsLeft (verb_of (Stop plan script core)) told s old new counted out after → ComesWhere refused s fact
  comes content is =
      comes_where (verb_of (Stop plan script core)) told old new counted out after (IsScriptRefusal content)
      (HoldsProgram content) (refusals plan script core told content is)
      (did plan script core told content is)

  -- there is no file exactly where the status says so
  pub no_file : (s : Status) (content : Option (List ℕ)) → told script ≡ Some content
      → IsLeft (verb_of (Stop plan script core)) told s old new counted out after
      → ComesWhere status.NoFile s (content ≡ None)
  no_file s content is =
      comes content is status.NoFile s (content ≡ None) (λ no. no) (λ no. no) (says content) (all content)
      (none content)
    where
      says : (c : Option (List ℕ)) (r : Refusal) → IsScriptRefusal c r → status_of r ≡ status.NoFile
          → c ≡ None
      says None r refuses is = refl
      says (Some bytes) r (fault, why, same) is =
          let wrong : status.Script ≡ status.NoFile = ap status_of (sym same) ∙ is in absurd (cc)

      all : (c : Option (List ℕ)) → c ≡ None → (r : Refusal) → IsScriptRefusal c r
          → status_of r ≡ status.NoFile
      all None missing r is = ap status_of is
      all (Some bytes) missing r is = absurd (cc)

      none : (c : Option (List ℕ)) → c ≡ None → HoldsProgram c → ⊥
      none None missing (p, nothing) = nothing
      none (Some bytes) missing holds = cc missing

  -- the grammar refuses exactly where the status says so
  pub script_refused : (s : Status) (bytes : List ℕ) → told script ≡ Some (Some bytes)
      → IsLeft (verb_of (Stop plan script core)) told s old new counted out after
      → ComesWhere status.Script s (HasFault bytes)
  script_refused s bytes is =
      comes (Some bytes) is status.Script s (HasFault bytes) (λ no. no) (λ no. no) says all none
    where
      says : (r : Refusal) → IsScriptRefusal (Some bytes) r → status_of r ≡ status.Script → HasFault bytes
      says r (fault, why, same) is = (fault, why)

      all : HasFault bytes → (r : Refusal) → IsScriptRefusal (Some bytes) r → status_of r ≡ status.Script
      all refused r (fault, why, same) = ap status_of same

      none : HasFault bytes → HoldsProgram (Some bytes) → ⊥
      none (fault, why) (p, grammar) = not_both bytes p fault grammar why

  -- a program is refused nothing
  pub stops : (s : Status) (bytes : List ℕ) → told script ≡ Some (Some bytes) → (p : Program)
      → Grammar bytes p → IsLeft (verb_of (Stop plan script core)) told s old new counted out after → IsDoneOrFailed s
  stops s bytes is p grammar = never_refused (verb_of (Stop plan script core)) told old new counted out after none s
    where
      none : (written : Option (List ℕ)) (r : Refusal)
          → IsAnswer (Stop plan script core) told (Gives written (Err r)) → ⊥
      none written r answer =
          let (fault, why, same) = refusals plan script core told (Some bytes) is written r answer in not_both bytes p fault grammar why

  -- what success leaves
  pub success : (s : Status) (bytes : List ℕ) → told script ≡ Some (Some bytes) → s ≡ status.Success
      → IsLeft (verb_of (Stop plan script core)) told s old new counted out after
      → (p : Program) × (written : List ℕ) × (text : List ℕ) × Grammar bytes p × IsStopped p plan written text × (new ≡ holding old written) × (after ≡ put_on out text)
  success s bytes is done left =
      go (subst (λ (x : Status). IsLeft (verb_of (Stop plan script core)) told x old new counted out after) done left)
    where
      go : IsLeft (verb_of (Stop plan script core)) told status.Success old new counted out after
          → (p : Program) × (written : List ℕ) × (text : List ℕ) × Grammar bytes p × IsStopped p plan written text × (new ≡ holding old written) × (after ≡ put_on out text)
      go (None, text, answer, held, put) =
          absurd (stop_answer plan script core told (Some bytes) is (Gives None (Ok text)) answer)
      go (Some written, text, answer, held, put) =
          let (p, grammar, stopped) = stop_answer plan script core told (Some bytes) is (Gives (Some written) (Ok text)) answer in (p, written, text, grammar, stopped, held, put)

  -- what is left keeps the promise
  pub kept : (s : Status) → (AreTold (Stop plan script core) told → IsLeft (verb_of (Stop plan script core)) told s old new counted out after)
      → StopPromise plan script core s told old new out after
  kept s left = record {
    no_file = λ content is. no_file s content is (left (content, is));
    script_fault = λ bytes is. script_refused s bytes is (left (Some bytes, is));
    accepts = λ bytes is p grammar. stops s bytes is p grammar (left (Some bytes, is));
    success = λ bytes is done. success s bytes is done (left (Some bytes, is));
  }
