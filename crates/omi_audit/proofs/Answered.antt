-- An audit's answer is the verdict where what stopped it is the first refusal, and a fault only where one stopped it. It comes behind the words that are asked for.
use Rattle.std.proofs.Common.{◌≡◌, ℕ, List, length, sym, ap, subst, ◌∙◌}
use Rattle.std.specs.Prelude.{Result, Ok, Err, Some, None, IfOk, slice_get}
use Rattle.std.specs.Option.{option_map_or}
use Rattle.omi_calls.specs.Asked.{Asked}
use Rattle.omi_calls.specs.Told.{Told}
use Rattle.omi_layout.specs.Valid.{IsValid}
use Rattle.omi_word.specs.Words.{Words}
use Rattle.omi_audit.specs.declared.stop.Stop.{Stop}
use Rattle.omi_audit.specs.declared.stop.Stop.TheVariants.{Fails, Fault}
use Rattle.omi_audit.specs.declared.verdict.AuditFault.TheVariants.{Callback}
use Rattle.omi_audit.specs.declared.verdict.Verdict.{Verdict}
use Rattle.omi_audit.specs.declared.verdict.Verdict.TheVariants.{Yes, No}
use Rattle.omi_audit.specs.InOrder.{AsksInOrder, AsksOnly, ended}
use Rattle.omi_audit.specs.Search.{reached}
use Rattle.omi_audit.specs.Verdicts.{refusals, verdict}
use Rattle.omi_audit.specs.Judged.{answer, Judges}
use Rattle.omi_audit.specs.Promise.{GivesState, RefusesNoReached}
use Rattle.omi_audit.proofs.Asking.{asks_answer, asks_fault}
use Rattle.omi_audit.proofs.BuiltRight.{clear_parts}
use Rattle.omi_audit.proofs.BuiltShows.{clear_shows}
use Rattle.omi_audit.proofs.ReachedClear.{reached_clear}

pub answer_faults : (r : Result ℕ Stop) → answer r ≡ Err Callback
    → ◌≡◌ {A = Result ℕ Stop} r (Err (Fault Callback))
answer_faults (Ok records) is = absurd (cc)
answer_faults (Err (Fails addr field clause)) is = absurd (cc)
answer_faults (Err (Fault fault)) is = let same : fault ≡ Callback = cc in ap (λ f. Err (Fault f)) same

module _ (w : List ℕ) (memory : Words) where
  pub answers_verdict : (r : Result ℕ Stop)
      → Judges (refusals w memory) (λ records. records ≡ length (reached w memory)) r
      → IfOk (answer r) (λ v. v ≡ verdict w memory)
  answers_verdict (Ok records) fine =
      ap Yes fine.known
      ∙ ap (λ found. option_map_or (λ no. no) (slice_get found 0) (Yes (length (reached w memory)))) (sym fine.none)
  answers_verdict (Err (Fails addr field clause)) first =
      ap (λ found. option_map_or (λ no. no) found (Yes (length (reached w memory)))) (sym first)
  answers_verdict (Err (Fault fault)) first = tt

  -- where it is Yes the words show a state
  pub answers_state : IsValid w → (r : Result ℕ Stop)
      → Judges (refusals w memory) (λ records. records ≡ length (reached w memory)) r
      → IfOk (answer r) (GivesState w memory)
  answers_state valid (Ok records) fine = clear_shows w memory valid (clear_parts w memory fine.none)
  answers_state valid (Err (Fails addr field clause)) first = tt
  answers_state valid (Err (Fault fault)) first = tt

  -- where the words show a state that events reach it is no No
  pub answers_reached : IsValid w → (r : Result ℕ Stop)
      → Judges (refusals w memory) (λ records. records ≡ length (reached w memory)) r
      → IfOk (answer r) (RefusesNoReached w memory)
  answers_reached valid (Ok records) fine = tt
  answers_reached valid (Err (Fails addr field clause)) first = λ shown.
      let none = reached_clear w memory valid shown.program shown.events shown.state shown.reached shown.shows in
      let clash : None ≡ Some (No addr field clause) = ap (λ l. slice_get l 0) (sym none) ∙ first in
      cc
  answers_reached valid (Err (Fault fault)) first = tt

-- the words that were asked for stand in front of the answer
pub answers_asked : (told : Told) (memory : Words) (list : List ℕ) (before now : Asked) (v : Verdict) (r : Result ℕ Stop) → IfOk (answer r) (λ x. x ≡ v)
    → AsksOnly told memory list before now (ended r) → AsksInOrder told memory list v before now (answer r)
answers_asked told memory list before now v (Ok records) is asks =
    subst (λ x. AsksInOrder told memory list v before now (Ok x)) (sym is) (asks_answer told memory v list before now asks)
answers_asked told memory list before now v (Err (Fails addr field clause)) is asks =
    subst (λ x. AsksInOrder told memory list v before now (Ok x)) (sym is) (asks_answer told memory v list before now asks)
answers_asked told memory list before now v (Err (Fault fault)) is asks = asks_fault told memory v list before now fault asks
