-- The verb `show`: its answers, and what it promises.
use Rattle.std.specs.Prelude.{◌≡◌, ℕ, List, Option, Some, None, Ok, ⊤, ◌⊎◌, Err}
use Rattle.omi_outside.specs.Outside.{Told, put_on}
use Rattle.omi_outside.specs.declared.status.Status.{Status}
use Rattle.omi_outside.specs.declared.status.Status.TheVariants as status
use Rattle.omi_corefile.specs.declared.core_image.CoreImage.{CoreImage}
use Rattle.omi_script.specs.declared.program.Program.{Program}
use Rattle.omi_model.specs.State.{State}
use Rattle.omi_model.specs.Views.{IsViewOf}
use Rattle.omi_model.specs.declared.view.View.{View}
use Rattle.omi_text.specs.Report.{report}
use Rattle.omi_frame.specs.Statuses.{ComesWhere, IsDoneOrFailed}
use Rattle.omi_commands.specs.Cores.{IsReachedCore, thread_ids}
use Rattle.omi_top.specs.Cores.{AreAlike, IsDamaged, IsIncompatible, IsLooked, ShowsState, Spells}
use Rattle.omi_top.specs.Files.{HasFault, IsFileRefusal}
use Rattle.omi_page.specs.CoreFiles.{IsFileOf}
use Rattle.omi_top.specs.Recode.{IsRecoded}
use Rattle.omi_top.specs.declared.plan.Plan.{Plan}
use Rattle.omi_frame.specs.Verb.{Answer, Gives, Verb}
use Rattle.omi_frame.specs.declared.refusal.Refusal.{Refusal}
use Rattle.omi_top.specs.Kinds.{of_core}
use Rattle.omi_top.specs.Shown.{IsRefusedCore}
use Rattle.omi_top.specs.verbs.Stop.{IsStopped}

-- a text is the report of what a look at the words of a file's core gives
abbrev pub IsReportOf : List ℕ → List ℕ → Type 0
IsReportOf bytes text = (v : View) × Spells bytes (λ core. IsLooked core (Ok v)) × (text ≡ report v)

-- why `show` refuses, by the content of the core's file: there is none, its bytes are no core, the core's words give no layout, or a look
-- at them has a fault
abbrev pub IsShowRefusal : Option (List ℕ) → Refusal → Type 0
IsShowRefusal None r = IsFileRefusal None r
IsShowRefusal (Some bytes) r =
    IsFileRefusal (Some bytes) r ⊎ Spells bytes (λ core. IsRefusedCore core r)

-- an answer of `show`, by the content of the core's file: a refusal, or the report
abbrev pub IsShowAnswer : Option (List ℕ) → Answer → Type 0
IsShowAnswer content (Gives None (Err r)) = IsShowRefusal content r
IsShowAnswer (Some bytes) (Gives None (Ok text)) = IsReportOf bytes text
IsShowAnswer content answer = ⊥

-- the verb, which reads a core and writes nothing
abbrev pub show_verb : List ℕ → Verb
show_verb core = of_core core IsShowAnswer

-- what `show` makes of a core whose words show a state: it puts the report of the state for these contexts, unless a file or the output
-- fails or memory runs out
abbrev pub IsShown : State → List ℕ → Status → Option (List ℕ) → Option (List ℕ) → Type 0
IsShown s contexts status.Success out after = (v : View) × IsViewOf s contexts v
    × (after ≡ put_on out (report v))
IsShown s contexts status.ReadFault out after = ⊤
IsShown s contexts status.WriteFault out after = ⊤
IsShown s contexts status.OutOfMemory out after = ⊤
IsShown s contexts other out after = ⊥

-- what `show` makes of a core that has a report: it puts this report, unless a file or the output fails or memory runs out
abbrev pub IsReported : List ℕ → Status → Option (List ℕ) → Option (List ℕ) → Type 0
IsReported text status.Success out after = after ≡ put_on out text
IsReported text status.ReadFault out after = ⊤
IsReported text status.WriteFault out after = ⊤
IsReported text status.OutOfMemory out after = ⊤
IsReported text other out after = ⊥

-- What `show CORE` promises of a call that ends with the status s: told is what the files that it reads tell, and out and after what was put before
-- and behind.
pub record ShowPromise (core : List ℕ) (s : Status) (told : List ℕ → Told) (out after : Option (List ℕ)) : Type 0 where
  -- where the core's file is told: there is none, it has a fault of its format, which is ELF where it begins with the four bytes of every
  -- ELF file, no layout table of this version is found in its words, or this table is wrong or the look at the words has a fault, exactly
  -- where the status says so
  pub no_file : (content : Option (List ℕ)) → told core ≡ Some content
      → ComesWhere status.NoFile s (content ≡ None)
  pub core_fault : (bytes : List ℕ) → told core ≡ Some (Some bytes) → ComesWhere status.Core s (HasFault bytes)
  pub incompatible : (bytes : List ℕ) → told core ≡ Some (Some bytes)
      → ComesWhere status.Incompatible s (Spells bytes IsIncompatible)
  pub damaged : (bytes : List ℕ) → told core ≡ Some (Some bytes)
      → ComesWhere status.Damaged s (Spells bytes IsDamaged)
  -- a core that has a report is refused nothing
  pub accepts : (bytes text : List ℕ) → told core ≡ Some (Some bytes) → IsReportOf bytes text → IsDoneOrFailed s
  -- with success what is put is the report of a look at the core's words, through the layout that they give, for the core's contexts: of each
  -- state that they show, exactly its view
  pub success : (bytes : List ℕ) → told core ≡ Some (Some bytes) → s ≡ status.Success
      → (image : CoreImage) × (v : View) × IsFileOf bytes image × IsLooked image (Ok v)
      × (after ≡ put_on out (report v))
      × ((state : State) → ShowsState image state → IsViewOf state image.contexts v)
  -- of a core whose words show a state, the report of this state is put
  pub shown : (bytes : List ℕ) → told core ≡ Some (Some bytes) → (image : CoreImage)
      → IsFileOf bytes image → (state : State) → ShowsState image state
      → IsShown state image.contexts s out after
  -- so it is of the core that a run left, whose events reach the state
  pub shown_again : (bytes : List ℕ) → told core ≡ Some (Some bytes) → (p : Program) (plan : Plan)
      (text : List ℕ) (run : IsStopped p plan bytes text)
      → IsShown run.state (thread_ids p.threads) s out after
  -- and of any core of order 0 and one segment, as `stop` writes it, whose words show a state that events of a program reach, whoever wrote it
  pub shown_reached : (bytes : List ℕ) → told core ≡ Some (Some bytes) → (p : Program) (ids : List ℕ)
      (state : State) → IsReachedCore p ids bytes state → IsShown state ids s out after
  -- of two files that stand for cores with the same words and contexts one report is put: of an ELF file that of the core file with its words, and
  -- of a file that `elf` wrote that of the core that it read
  pub alike : (bytes : List ℕ) → told core ≡ Some (Some bytes) → (other text : List ℕ)
      → AreAlike other bytes → IsReportOf other text → IsReported text s out after
  -- of a core that `recode` wrote, the report of the core that it read is put
  pub recoded : (bytes : List ℕ) → told core ≡ Some (Some bytes) → (order : ℕ) (other text : List ℕ)
      → IsRecoded order other bytes → IsReportOf other text → IsReported text s out after
