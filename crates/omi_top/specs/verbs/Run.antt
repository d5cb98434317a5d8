-- The verb `run`: its answers, and what it promises.
use Rattle.std.specs.Prelude.{◌≡◌, ◌⊎◌, ◌++◌, ℕ, List, Option, Some, None, ⊤, [], Ok, Err, Result}
use Rattle.omi_outside.specs.Outside.{Told, holding, put_on}
use Rattle.omi_outside.specs.declared.status.Status.{Status}
use Rattle.omi_outside.specs.declared.status.Status.TheVariants as status
use Rattle.omi_script.specs.Grammar.{Grammar, Refused}
use Rattle.omi_script.specs.declared.fault.ScriptFault.{ScriptFault}
use Rattle.omi_script.specs.declared.program.Program.{Program}
use Rattle.omi_model.specs.Views.{IsViewOf}
use Rattle.omi_model.specs.declared.view.View.{View}
use Rattle.omi_text.specs.Report.{report}
use Rattle.omi_frame.specs.Scripts.{HoldsProgram}
use Rattle.omi_frame.specs.Statuses.{ComesWhere, IsDoneOrFailed, IsOutsideStatus}
use Rattle.omi_commands.specs.Cores.{thread_ids}
use Rattle.omi_top.specs.Cores.{IsDamaged, IsIncompatible, Spells}
use Rattle.omi_top.specs.Files.{HasFault}
use Rattle.omi_top.specs.declared.plan.Plan.{Plan}
use Rattle.omi_frame.specs.Verb.{Answer, Gives, Verb}
use Rattle.omi_frame.specs.declared.refusal.Refusal.{Refusal}
use Rattle.omi_frame.specs.OfScript.{IsScript}
use Rattle.omi_top.specs.Kinds.{IsCore, IsUnwrittenBy, to_write}
use Rattle.omi_top.specs.verbs.Show.{IsReportOf, IsShowAnswer}
use Rattle.omi_top.specs.verbs.Stop.{IsStopAnswer, IsStopped, StopAnswers}

-- what `run` says behind the lines of its run, by the content under CORE in the files that it reads: the report that `show` puts for it,
-- or the refusal of `show` alone
abbrev pub IsReadBack : List ℕ → Option (List ℕ) → Result (List ℕ) Refusal → Type 0
IsReadBack lines content (Ok text) =
    (shown : List ℕ) × IsShowAnswer content (Gives None (Ok shown)) × (text ≡ lines ++ shown)
IsReadBack lines content (Err r) = IsShowAnswer content (Gives None (Err r))

-- an answer of `run`, by the contents of the script's file and of the core's: that of `stop` where this is a refusal; or the core of
-- `stop`, and what is read back
abbrev pub IsRunAnswer : Plan → Option (List ℕ) → Option (List ℕ) → Answer → Type 0
IsRunAnswer plan script content (Gives None says) = IsStopAnswer plan script (Gives None says)
IsRunAnswer plan script content (Gives (Some core) says) =
    (lines : List ℕ) × IsStopAnswer plan script (Gives (Some core) (Ok lines))
    × IsReadBack lines content says

-- the verb: it writes what `stop` writes, and then reads it back
abbrev pub run_verb : Plan → List ℕ → List ℕ → Verb
run_verb plan script core = record {
  names = record { script = script; core = core; later = [] };
  writes = Some core;
  are_told = λ told. ((content : Option (List ℕ)) × (told script ≡ Some content))
      × ((content : Option (List ℕ)) × (told core ≡ Some content));
  answers = λ told answer. (text : Option (List ℕ)) × (told script ≡ Some text)
      × (content : Option (List ℕ)) × (told core ≡ Some content) × IsRunAnswer plan text content answer;
  is_to_write = to_write (StopAnswers plan script);
  reads_first = IsScript;
  reads_back = IsCore;
  refuses_words = ⊥;
  refuses_core = λ s. ⊤;
  wrote_nothing = IsUnwrittenBy ⊥;
}

-- a status comes exactly where a fact holds of what is read back, but for a fault of reading or of writing and for want of memory
abbrev pub ComesBehind : Status → Status → Type 0 → Type 0
ComesBehind status result fact = (result ≡ status → fact)
    × (fact → (result ≡ status) ⊎ IsOutsideStatus result)

-- the core of the run was written, where the script is a program: a report was put, or what was read back was refused
abbrev pub IsReadBackStatus : Status → Type 0
IsReadBackStatus status.Success = ⊤
IsReadBackStatus status.NoFile = ⊤
IsReadBackStatus status.Core = ⊤
IsReadBackStatus status.Damaged = ⊤
IsReadBackStatus status.Incompatible = ⊤
IsReadBackStatus other = ⊥

-- what `run` makes of a script where it reads back the core that it left: the lines of a run of its program and the report of the state
-- that the run's events reach. The core is never refused
abbrev pub IsRunShown : List ℕ → Plan → List ℕ → Status → Option (List ℕ) → Option (List ℕ) → Type 0
IsRunShown script plan core status.Success out after =
    (p : Program) × (lines : List ℕ) × Grammar script p × (run : IsStopped p plan core lines)
    × (v : View) × IsViewOf run.state (thread_ids p.threads) v
    × (after ≡ put_on out (lines ++ report v))
IsRunShown script plan core status.NoFile out after = ⊥
IsRunShown script plan core status.Core out after = ⊥
IsRunShown script plan core status.Damaged out after = ⊥
IsRunShown script plan core status.Incompatible out after = ⊥
IsRunShown script plan core other out after = ⊤

-- What `run STEPS SCRIPT CORE` promises of a call that ends with the status s: CORE is written as with `stop`, and then the bytes under CORE in the
-- files that are read are judged as with `show`. told is what these files tell, old and new what CORE holds before and behind, and out and after
-- what was put before and behind.
pub record RunPromise (plan : Plan) (script core : List ℕ) (s : Status) (told : List ℕ → Told)
    (old new : Told) (out after : Option (List ℕ)) : Type 0 where
  -- the script is judged first; what is read back is refused behind a program alone
  pub script_fault : (bytes : List ℕ) (content : Option (List ℕ)) → told script ≡ Some (Some bytes)
      → told core ≡ Some content
      → ComesWhere status.Script s ((fault : ScriptFault) × Refused bytes fault)
  pub no_file : (text content : Option (List ℕ)) → told script ≡ Some text → told core ≡ Some content
      → ComesBehind status.NoFile s ((text ≡ None) ⊎ (HoldsProgram text × (content ≡ None)))
  pub core_fault : (text : Option (List ℕ)) (bytes : List ℕ) → told script ≡ Some text
      → told core ≡ Some (Some bytes) → ComesBehind status.Core s (HoldsProgram text × HasFault bytes)
  pub incompatible : (text : Option (List ℕ)) (bytes : List ℕ) → told script ≡ Some text
      → told core ≡ Some (Some bytes)
      → ComesBehind status.Incompatible s (HoldsProgram text × Spells bytes IsIncompatible)
  pub damaged : (text : Option (List ℕ)) (bytes : List ℕ) → told script ≡ Some text
      → told core ≡ Some (Some bytes)
      → ComesBehind status.Damaged s (HoldsProgram text × Spells bytes IsDamaged)
  -- a program is refused nothing, where what is read back has a report
  pub accepts : (text bytes shown : List ℕ) → told script ≡ Some (Some text)
      → told core ≡ Some (Some bytes) → (p : Program) → Grammar text p → IsReportOf bytes shown
      → IsDoneOrFailed s
  -- with success, and with a refusal of what is read back, CORE holds the core of the last words of a run
  pub written : (bytes : List ℕ) (content : Option (List ℕ)) → told script ≡ Some (Some bytes)
      → told core ≡ Some content → IsReadBackStatus s
      → (p : Program) × (written lines : List ℕ) × Grammar bytes p × IsStopped p plan written lines
      × (new ≡ holding old written)
  -- with success what is put is that run's events and its end, and the report of what is read back
  pub success : (text bytes : List ℕ) → told script ≡ Some (Some text)
      → told core ≡ Some (Some bytes) → s ≡ status.Success
      → (p : Program) × (written lines shown : List ℕ) × Grammar text p × IsStopped p plan written lines
      × (new ≡ holding old written) × IsReportOf bytes shown
      × (after ≡ put_on out (lines ++ shown))
  -- where it reads back the core that it wrote, it puts the lines of a run whose words that core holds, and then the report of the state which those
  -- events reach; it never refuses that core
  pub shown : (text bytes : List ℕ) → told script ≡ Some (Some text)
      → told core ≡ Some (Some bytes) → new ≡ Some (Some bytes)
      → IsRunShown text plan bytes s out after
