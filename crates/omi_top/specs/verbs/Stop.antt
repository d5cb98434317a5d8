-- The verb `stop`: its answers, and what it promises.
use Rattle.std.specs.Prelude.{◌≡◌, ℕ, List, [], length, Option, Some, None, Ok, Err, ⊤}
use Rattle.omi_outside.specs.Outside.{Told, holding, put_on}
use Rattle.omi_outside.specs.declared.status.Status.{Status}
use Rattle.omi_outside.specs.declared.status.Status.TheVariants as status
use Rattle.omi_script.specs.Grammar.{Grammar, Refused}
use Rattle.omi_script.specs.declared.fault.ScriptFault.{ScriptFault}
use Rattle.omi_script.specs.declared.program.Program.{Program}
use Rattle.omi_frame.specs.Statuses.{ComesWhere, IsDoneOrFailed}
use Rattle.omi_top.specs.declared.plan.Plan.{Plan}
use Rattle.omi_corefile.specs.Spelling.{core_bytes}
use Rattle.omi_layout.specs.Family.{IsFamily}
use Rattle.omi_layout.specs.Valid.{IsValid}
use Rattle.omi_model.specs.State.{State}
use Rattle.omi_core.specs.declared.entry.Entry.{Entry}
use Rattle.omi_core.specs.declared.stop.End.{End}
use Rattle.omi_core.specs.Steps.{events_behind}
use Rattle.omi_frame.specs.OfScript.{IsScript}
use Rattle.omi_frame.specs.Scripts.{IsScriptRefusal}
use Rattle.omi_frame.specs.Verb.{Answer, Gives, Verb}
use Rattle.omi_commands.specs.Cores.{IsCoreOf, thread_ids}
use Rattle.omi_top.specs.Kinds.{IsUnwrittenBy, to_write}
use Rattle.omi_top.specs.Lines.{run_text}
use Rattle.omi_top.specs.Run.{IsRun}

-- a run of the program by a plan, in the layout of its family, whose last words are this core, with the contexts of all threads, and
-- whose events and end are this text
pub record IsStopped (p : Program) (plan : Plan) (core text : List ℕ) : Type 0 where
  pub w : List ℕ
  pub valid : IsValid w
  pub family : IsFamily plan.layout p.threads w
  pub entries : List (ℕ × Entry)
  pub end : End
  pub words : List ℕ
  pub state : State
  pub run : IsRun w p plan entries end words state
  pub core_is : core ≡ core_bytes (thread_ids p.threads) words
  pub core_of : IsCoreOf (thread_ids p.threads) core words
  pub text_is : text ≡ run_text (events_behind 0 entries) (length entries) end

-- an answer of `stop`, by the content of the script's file: a refusal alone, or the core and the text of a run of its program
abbrev pub IsStopAnswer : Plan → Option (List ℕ) → Answer → Type 0
IsStopAnswer plan content (Gives None (Err r)) = IsScriptRefusal content r
IsStopAnswer plan (Some bytes) (Gives (Some core) (Ok text)) =
    (p : Program) × Grammar bytes p × IsStopped p plan core text
IsStopAnswer plan content answer = ⊥

-- the answers by what is told of the script's file, and the verb
abbrev pub StopAnswers : Plan → List ℕ → (List ℕ → Told) → Answer → Type 0
StopAnswers plan script told answer = (content : Option (List ℕ)) × (told script ≡ Some content) × IsStopAnswer plan content answer

abbrev pub stop_verb : Plan → List ℕ → List ℕ → Verb
stop_verb plan script core = record {
  names = record { script = script; core = core; later = [] };
  writes = Some core;
  are_told = λ told. (content : Option (List ℕ)) × (told script ≡ Some content);
  answers = StopAnswers plan script;
  is_to_write = to_write (StopAnswers plan script);
  reads_first = IsScript;
  reads_back = λ read. ⊥;
  refuses_words = ⊥;
  refuses_core = λ s. ⊥;
  wrote_nothing = IsUnwrittenBy ⊤;
}

-- What `stop STEPS SCRIPT CORE` promises of a call that ends with the status s: told is what the files that it reads tell, old and new what CORE
-- holds before and behind, and out and after what was put before and behind.
pub record StopPromise (plan : Plan) (script core : List ℕ) (s : Status) (told : List ℕ → Told)
    (old new : Told) (out after : Option (List ℕ)) : Type 0 where
  -- where the script's file is told: there is none, or the grammar refuses it, exactly where the status says so
  pub no_file : (content : Option (List ℕ)) → told script ≡ Some content
      → ComesWhere status.NoFile s (content ≡ None)
  pub script_fault : (bytes : List ℕ) → told script ≡ Some (Some bytes)
      → ComesWhere status.Script s ((fault : ScriptFault) × Refused bytes fault)
  -- a program is refused nothing: all is done, unless a file or the output fails or memory runs out
  pub accepts : (bytes : List ℕ) → told script ≡ Some (Some bytes) → (p : Program) → Grammar bytes p
      → IsDoneOrFailed s
  -- with success the core is that of the last words of a run, and what is put is that run's events and its end
  pub success : (bytes : List ℕ) → told script ≡ Some (Some bytes) → s ≡ status.Success
      → (p : Program) × (written text : List ℕ) × Grammar bytes p × IsStopped p plan written text
      × (new ≡ holding old written) × (after ≡ put_on out text)
