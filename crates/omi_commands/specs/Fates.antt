-- Tasks that are kept between two stops of a target, and what became of them.
use Rattle.std.specs.Prelude.{◌≡◌, ◌⊎◌, ◌==◌, ℕ, ◌+◌, ◌*◌, Bool, true, false, List, [], ◌∷◌, ◌++◌, All, Some, Result, Ok, Err, String, codes, if◌then◌else◌, string_bytes}
use Rattle.std.specs.declared.alloc.Global.{Global}
use Rattle.std.specs.FinMap.{get}
use Rattle.std.specs.List.{flat_map}
use Rattle.omi_handle.specs.Ledger.{Ledger}
use Rattle.omi_handle.specs.declared.handle.TaskHandle.{TaskHandle}
use Rattle.omi_layout.specs.Field.{tasks}
use Rattle.omi_layout.specs.Memory.{IsRecordWord, found_word}
use Rattle.omi_layout.specs.declared.field.Field.TheVariants.{TaskFunction, TaskLife}
use Rattle.omi_model.specs.declared.id.Tid.{Tid}
use Rattle.omi_rep.specs.Look.{Look, and_then, each, id_address, look_word, mapped}
use Rattle.omi_rep.specs.declared.fault.LookFault.{LookFault}
use Rattle.omi_session.specs.Made.{task_pair}
use Rattle.omi_session.specs.declared.rc.Rc.{Rc}
use Rattle.omi_session.specs.declared.rc.Rc.TheVariants as code
use Rattle.omi_text.specs.Ids.{task_id}
use Rattle.omi_walk.specs.Kept.{task_object}
use Rattle.omi_word.specs.Words.{Words}
use Rattle.omi_commands.specs.Inquiries.{refusal_of_code, refusal_of_look}
use Rattle.omi_frame.specs.Refusal.{IsUnread}
use Rattle.omi_commands.specs.declared.kept_tasks.KeptTasks.{KeptTasks}
use Rattle.omi_frame.specs.declared.refusal.Input.TheVariants as input
use Rattle.omi_frame.specs.declared.refusal.Refusal.{Refusal}
use Rattle.omi_frame.specs.declared.refusal.Refusal.TheVariants as refusal

-- ---- what became of a task

-- A task that was seen is current where its record's life word is still that of its generation, and stale where it is another. The function of one that
-- is current is read too
abbrev pub is_current : List ℕ → Words → Tid → Look Bool
is_current w words k =
    and_then (look_word w words (id_address w tasks k.0) TaskLife 0) (λ life.
    if life == 2 * k.0.generation + 1
    then mapped (λ function. true) (look_word w words (id_address w tasks k.0) TaskFunction 0)
    else Ok false)

-- a task, and what became of it
abbrev pub fate_word : Bool → List ℕ
fate_word true = codes "current"
fate_word false = codes "stale"

abbrev pub fate_line : Tid → Bool → List ℕ
fate_line k current =
    codes "task " ++ (task_id k ++ (codes " " ++ (fate_word current ++ 10 ∷ [])))

-- the lines on these tasks, or the first word that is missing
abbrev pub look_fates : List ℕ → Words → List Tid → Look (List ℕ)
look_fates w words ks =
    mapped (λ lines. flat_map (λ line. line) lines)
    (each (λ k. mapped (fate_line k) (is_current w words k)) ks)

-- each word of a record's fields is there
abbrev pub HasRecords : List ℕ → Words → Type 0
HasRecords w words = (creator slot f at : ℕ) → IsRecordWord w creator slot f at
    → (x : ℕ) × (found_word w words creator slot f at ≡ Some x)

-- ---- tasks of which handles are kept

-- a handle of each of these tasks is held
abbrev pub HoldsEach : List ℕ → Ledger → List (Tid × TaskHandle) → Type 0
HoldsEach w handles tasks =
    All (λ k. get handles.held (task_pair k.1) ≡ Some (task_object w k.0)) tasks

abbrev pub AreHeld : KeptTasks → Type 0
AreHeld kept = HoldsEach kept.parted.layout kept.parted.handles kept.tasks

-- what is made of the answer of the inquiry for a task's function: the handle of one that isn't current is stale
abbrev pub fate_of : Result ℕ Rc → Result Bool Refusal
fate_of (Ok address) = Ok true
fate_of (Err code.StaleHandle) = Ok false
fate_of (Err rc) = Err (refusal_of_code rc)

-- what is answered of one task: what a look gives, or a read that failed
abbrev pub IsFate : {A : Type 0} → Look A → Result A Refusal → Type 0
IsFate look (Ok a) = look ≡ Ok a
IsFate look (Err r) = (r ≡ refusal.ReadFault input.Core)
    ⊎ ((fault : LookFault) × (look ≡ Err fault) × (r ≡ refusal_of_look fault))

-- the lines on these tasks, or why there are none: a read that failed, want of memory, or a missing word
abbrev pub AreLines : List ℕ → Words → List Tid → Result (String Global) Refusal → Type 0
AreLines w memory ks (Ok text) = look_fates w memory ks ≡ Ok (string_bytes text)
AreLines w memory ks (Err r) = IsUnread input.Core r
    ⊎ ((fault : LookFault) × (look_fates w memory ks ≡ Err fault) × (r ≡ refusal_of_look fault))
