-- What `follow` makes of two cores of one target, and what it prints.
use Rattle.std.specs.Prelude.{◌≡◌, ◌≢◌, ◌⊎◌, ℕ, List, Option, Some, None, Result, Ok, Err, String, map, string_bytes}
use Rattle.std.specs.declared.alloc.Global.{Global}
use Rattle.omi_corefile.specs.declared.core_image.CoreImage.{CoreImage}
use Rattle.omi_layout.specs.Given.{GivesLayout}
use Rattle.omi_layout.specs.Field.{tasks}
use Rattle.omi_layout.specs.Valid.{IsValid}
use Rattle.omi_model.specs.declared.id.Tid.{Tid}
use Rattle.omi_model.specs.declared.view.View.{View}
use Rattle.omi_rep.specs.Look.{Look}
use Rattle.omi_rep.specs.LookView.{look_view}
use Rattle.omi_rep.specs.declared.fault.LookFault.{LookFault}
use Rattle.omi_walk.specs.Kept.{task_names}
use Rattle.omi_session.specs.Opened.{Apart}
use Rattle.omi_walk.specs.declared.fault.WalkFault.{WalkFault}
use Rattle.omi_handle.specs.declared.handle.TaskHandle.{TaskHandle}
use Rattle.omi_word.specs.Words.{Words}
use Rattle.omi_top.specs.Cores.{Spells, words_of_core}
use Rattle.omi_top.specs.Files.{IsFileRefusal}
use Rattle.omi_top.specs.Questions.{IsLayoutRefusal}
use Rattle.omi_commands.specs.Fates.{AreHeld, look_fates}
use Rattle.omi_commands.specs.Inquiries.{refusal_of_look, refusal_of_walk}
use Rattle.omi_top.specs.Shown.{IsRefusedCore}
use Rattle.omi_commands.specs.declared.kept_tasks.KeptTasks.{KeptTasks}
use Rattle.omi_frame.specs.Refusal.{IsUnread}
use Rattle.omi_frame.specs.declared.refusal.Input.TheVariants as input
use Rattle.omi_frame.specs.declared.refusal.Refusal.{Refusal}
use Rattle.omi_frame.specs.declared.refusal.Refusal.TheVariants as refusal

-- ---- what is made of two cores

-- the first core has a report, both give one layout, and this is looked up of the report's tasks in the words of the second
pub record IsFollowed (core later : CoreImage) (fates : Look (List ℕ)) : Type 0 where
  pub w : List ℕ
  pub valid : IsValid w
  pub layout : GivesLayout (words_of_core core) w
  pub same : GivesLayout (words_of_core later) w
  pub view : View
  pub looked : look_view w (words_of_core core) core.contexts ≡ Ok view
  pub is : look_fates w (words_of_core later) (task_names view) ≡ fates

-- words give another valid layout than this one
pub record GivesOther (words : Words) (w : List ℕ) : Type 0 where
  pub other : List ℕ
  pub valid : IsValid other
  pub gives : GivesLayout words other
  pub differs : other ≢ w

-- the words of two cores give two layouts
pub record AreUnlike (core later : CoreImage) : Type 0 where
  pub w : List ℕ
  pub layout : GivesLayout (words_of_core core) w
  pub other : GivesOther (words_of_core later) w

-- why a second core is refused, behind a first one that has a report: it gives no layout, or another, or a word of a task is missing
abbrev pub IsUnfollowed : CoreImage → CoreImage → Refusal → Type 0
IsUnfollowed core later r =
    IsLayoutRefusal later r
    ⊎ ((AreUnlike core later × (r ≡ refusal.Incompatible))
    ⊎ ((fault : LookFault) × IsFollowed core later (Err fault) × (r ≡ refusal_of_look fault)))

-- and by the content of its file: there is none, or its bytes are no core
abbrev pub IsLaterRefusal : CoreImage → Option (List ℕ) → Refusal → Type 0
IsLaterRefusal core None r = r ≡ refusal.NoFile input.Later
IsLaterRefusal core (Some bytes) r =
    IsFileRefusal (Some bytes) r ⊎ Spells bytes (λ later. IsUnfollowed core later r)

-- a refusal of the core that is read, as one of the later core
abbrev pub of_later : Refusal → Refusal
of_later (refusal.NoFile input.Core) = refusal.NoFile input.Later
of_later (refusal.ReadFault input.Core) = refusal.ReadFault input.Later
of_later r = r

-- ---- between the two cores

-- the tasks of a core's report, of which handles are kept
pub record KeepsTasks (core : CoreImage) (kept : KeptTasks) : Type 0 where
  pub valid : IsValid kept.parted.layout
  pub layout : GivesLayout (words_of_core core) kept.parted.layout
  pub view : View
  pub looked : look_view kept.parted.layout (words_of_core core) core.contexts ≡ Ok view
  pub tasks_are : map (λ k. k.0) kept.tasks ≡ task_names view
  pub held : AreHeld kept

-- what is kept of a session in which these tasks were found, with the fault of the walk as it is handed on
abbrev pub kept_in : Apart → Result (List (Tid × TaskHandle)) WalkFault → Result KeptTasks Refusal
kept_in parted (Ok tasks) = Ok (record { parted = parted; tasks = tasks })
kept_in parted (Err fault) = Err (refusal_of_walk fault)

-- what is answered of a first core, and of a second one for tasks that are kept: it is said of tasks whose handles are held
abbrev pub IsKept : CoreImage → Result KeptTasks Refusal → Type 0
IsKept core (Ok kept) = KeepsTasks core kept
IsKept core (Err r) = IsRefusedCore core r ⊎ IsUnread input.Core r

abbrev pub AreFatesOf : List ℕ → List Tid → CoreImage → Result (String Global) Refusal → Type 0
AreFatesOf w ks later (Ok text) = GivesLayout (words_of_core later) w
    × (look_fates w (words_of_core later) ks ≡ Ok (string_bytes text))
AreFatesOf w ks later (Err r) =
    IsUnread input.Core r
    ⊎ (IsLayoutRefusal later r
    ⊎ ((GivesOther (words_of_core later) w × (r ≡ refusal.Incompatible))
    ⊎ (GivesLayout (words_of_core later) w
    × ((fault : LookFault) × (look_fates w (words_of_core later) ks ≡ Err fault) × (r ≡ refusal_of_look fault)))))

abbrev pub AreFates : KeptTasks → CoreImage → Result (String Global) Refusal → Type 0
AreFates kept later result =
    AreHeld kept → AreFatesOf kept.parted.layout (map (λ k. k.0) kept.tasks) later result
