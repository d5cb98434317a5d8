-- What `follow` answers where each task of its first core has a line, and where there is none.
use Rattle.std.proofs.Common.{◌≡◌, ◌≢◌, inl, inr, ℕ, List, Option, Some, None, Ok, Err, refl, subst, sym, ◌∙◌, ap}
use Rattle.std.specs.Prelude.{Result, String, IfErr, IfOk, IsErrAnd, string_bytes}
use Rattle.std.specs.Global.{Vec}
use Rattle.std.specs.declared.alloc.Global.{Global}
use Rattle.omi_calls.specs.Memory.{told_by, usual_sizes}
use Rattle.omi_calls.specs.Told.{Told as Calls}
use Rattle.omi_corefile.specs.declared.core_image.CoreImage.{CoreImage}
use Rattle.omi_handle.specs.Ledger.{Ledger}
use Rattle.omi_handle.specs.declared.handle.TaskHandle.{TaskHandle}
use Rattle.omi_layout.specs.Given.{GivesLayout}
use Rattle.omi_layout.specs.Valid.{IsValid}
use Rattle.omi_layout.specs.declared.fault.LayoutFault.TheVariants.{Version, Overlap, OutOfRecord, BadArena}
use Rattle.omi_layout.specs.declared.reading.LayoutError.{LayoutError}
use Rattle.omi_layout.specs.declared.reading.LayoutError.TheVariants as error
use Rattle.omi_model.specs.declared.id.Tid.{Tid}
use Rattle.omi_model.specs.declared.view.View.{View}
use Rattle.omi_outside.specs.Outside.{Told}
use Rattle.omi_rep.specs.Look.{Look, and_then}
use Rattle.omi_rep.specs.LookView.{look_view}
use Rattle.omi_rep.specs.declared.fault.LookFault.{LookFault}
use Rattle.omi_rep.specs.declared.fault.LookFault.TheVariants as look
use Rattle.omi_session.specs.Opened.{Apart}
use Rattle.omi_session.specs.Opening.{RefusesOver}
use Rattle.omi_session.specs.Tells.{Tells}
use Rattle.omi_session.specs.declared.rc.Rc.{Rc}
use Rattle.omi_session.specs.declared.rc.Rc.TheVariants as code
use Rattle.omi_top.proofs.Asking.{IsOfCommand}
use Rattle.omi_commands.proofs.FateLines.{names}
use Rattle.omi_top.proofs.Files.{told_as}
use Rattle.omi.proofs.NoTargets.{tells_core}
use Rattle.omi_top.proofs.Opening.{cause_refusal}
use Rattle.omi_frame.specs.Left.{IsAnswered, IsEarly}
use Rattle.omi_top.specs.Command.{Follow}
use Rattle.omi_top.specs.Cores.{IsLooked, words_of_core}
use Rattle.omi_top.specs.Files.{IsFileRefusal}
use Rattle.omi_page.specs.CoreFiles.{IsFileOf}
use Rattle.omi_top.specs.Follow.{AreFates, AreFatesOf, IsFollowed, IsKept, IsLaterRefusal, KeepsTasks, of_later, kept_in}
use Rattle.omi_commands.specs.Fates.{AreLines, HoldsEach, look_fates}
use Rattle.omi_top.specs.Questions.{IsAnswerOf, refusal_of_layout}
use Rattle.omi_commands.specs.Inquiries.{ComesOfWords, refusal_of_code, refusal_of_look}
use Rattle.omi_commands.specs.declared.kept_tasks.KeptTasks.{KeptTasks}
use Rattle.omi_frame.specs.Refusal.{IsReadFault, IsUnread}
use Rattle.omi_frame.specs.declared.refusal.Input.TheVariants as input
use Rattle.omi_frame.specs.declared.refusal.Refusal.{Refusal}
use Rattle.omi_frame.specs.declared.refusal.Refusal.TheVariants as refusal
use Rattle.omi_walk.specs.Gives.{Gives}
use Rattle.omi_walk.specs.Kept.{Keeps, look_names, names_kept, task_names}
use Rattle.omi_walk.specs.declared.fault.WalkFault.{WalkFault}
use Rattle.omi_walk.specs.declared.fault.WalkFault.TheVariants as walk
use Rattle.omi_word.specs.Words.{Words}
use Rattle.omi_top.specs.CommandVerbs.{verb_of}

-- ---- the tasks of the first core

-- a look at the tasks of a report has the fault of the look at the report
no_names : (l : Look View) (fault : LookFault)
    → (let none : Look (List Tid) = Err fault in and_then l (λ v. Ok (task_names v)) ≡ none)
    → (let none : Look View = Err fault in l ≡ none)
unfolding and_then
no_names (Ok v) fault is = absurd (cc)
no_names (Err other) fault is = let same : other ≡ fault = cc in ap Err same

some_names : (l : Look View) (ks : List Tid) → and_then l (λ v. Ok (task_names v)) ≡ Ok ks
    → (v : View) × (l ≡ Ok v) × (ks ≡ task_names v)
unfolding and_then
some_names (Ok v) ks is = let same : task_names v ≡ ks = cc in (v, refl, sym same)
some_names (Err fault) ks is = absurd (cc)

-- what is kept of a walk in a session over the words of a core is the tasks of its report, or it is refused as the report is
pub kept_answer : (core : CoreImage) (told : Calls) (w contexts : List ℕ) (before after : Ledger) (parted : Apart) (found : Result (List (Tid × TaskHandle)) WalkFault)
    → told ≡ told_by core → contexts ≡ core.contexts → IsValid w → GivesLayout (words_of_core core) w
    → ((memory : Words) → Tells told memory → Gives (names_kept found) (look_names w memory contexts))
    → IfOk found (Keeps w before after) → parted.layout ≡ w → parted.handles ≡ after → IsKept core (kept_in parted found)
kept_answer core told w contexts before after parted found is same valid layout looks keeps place handles =
    go found keeps
    (subst (λ (ids : List ℕ). Gives (names_kept found) (look_names w (words_of_core core) ids)) same
    (looks (words_of_core core) (tells_core core told is)))
  where
    go : (r : Result (List (Tid × TaskHandle)) WalkFault) → IfOk r (Keeps w before after)
        → Gives (names_kept r) (look_names w (words_of_core core) core.contexts) → IsKept core (kept_in parted r)
    go (Ok ks) kept gives =
        let some = some_names (look_view w (words_of_core core) core.contexts) (names ks) gives in
        record {
          valid = subst IsValid (sym place) valid;
          layout = subst (GivesLayout (words_of_core core)) (sym place) layout;
          view = some.0;
          looked = ap (λ (v : List ℕ). look_view v (words_of_core core) core.contexts) place ∙ some.1;
          tasks_are = some.2;
          held =
              subst (λ (v : List ℕ). HoldsEach v parted.handles ks) (sym place)
              (subst (λ (h : Ledger). HoldsEach w h ks) (sym handles) kept.each);
        }
    go (Err (walk.Damaged addr field)) kept gives =
        inl (inr (
          look.Damaged addr field,
          record { w = w; valid = valid; layout = layout; is = no_names (look_view w (words_of_core core) core.contexts) (look.Damaged addr field) gives },
          refl,
        ))
    go (Err (walk.Cycle addr)) kept gives =
        inl (inr (
          look.Cycle addr,
          record { w = w; valid = valid; layout = layout; is = no_names (look_view w (words_of_core core) core.contexts) (look.Cycle addr) gives },
          refl,
        ))
    go (Err walk.Callback) kept gives = inr (inl refl)
    go (Err walk.OutOfMemory) kept gives = inr (inr refl)

pub kept_of_words : (parted : Apart) (found : Result (List (Tid × TaskHandle)) WalkFault)
    → IfErr (kept_in parted found) ComesOfWords
kept_of_words parted (Ok ks) = tt
kept_of_words parted (Err (walk.Damaged addr field)) = tt
kept_of_words parted (Err (walk.Cycle addr)) = tt
kept_of_words parted (Err walk.Callback) = inl refl
kept_of_words parted (Err walk.OutOfMemory) = inr refl

pub kept_failed : (parted : Apart) (found : Result (List (Tid × TaskHandle)) WalkFault)
    → IsErrAnd (kept_in parted found) IsReadFault → found ≡ Err walk.Callback
kept_failed parted (Ok ks) read = absurd read
kept_failed parted (Err (walk.Damaged addr field)) read = absurd read
kept_failed parted (Err (walk.Cycle addr)) read = absurd read
kept_failed parted (Err walk.Callback) read = refl
kept_failed parted (Err walk.OutOfMemory) read = absurd read

-- ---- what became of them

-- why a session with these tasks doesn't go on over a core
abbrev IsUnmoved : KeptTasks → CoreImage → Rc → Type 0
IsUnmoved kept later r = AreFatesOf kept.parted.layout (names kept.tasks) later (Err (refusal_of_code r))

-- the session doesn't go on over the words of the later core
pub unmoved_fates : (kept : KeptTasks) (later : CoreImage) (told : Calls) (rc : Rc) → told ≡ told_by later
    → ((memory : Words) → Tells told memory → told.sizes ≡ usual_sizes → RefusesOver kept.parted.layout memory rc)
    → AreFates kept later (Err (refusal_of_code rc))
unmoved_fates kept later told rc is words = λ held.
    go rc (words (words_of_core later) (tells_core later told is) (ap (λ (t : Calls). t.sizes) is))
  where
    moved : (r : Rc) → (r ≢ code.CallbackError) → RefusesOver kept.parted.layout (words_of_core later) r → IsUnmoved kept later r
    moved r whole refuses = elim (refuses whole) [
      | inl cause ↦ inr (inl (cause_refusal later r cause))
      | inr other ↦ inr (inr (inl (record { other = other.other.layout; valid = other.other.valid; gives = other.other.gives; differs = other.other.differs }, ap refusal_of_code other.is)))
    ]

    go : (r : Rc) → RefusesOver kept.parted.layout (words_of_core later) r → IsUnmoved kept later r
    go code.CallbackError refuses = inl (inl refl)
    go r refuses = moved r (λ e. cc) refuses

-- it goes on, in the same layout and with the same handles, and each is asked
pub moved_fates : (kept : KeptTasks) (later : CoreImage) (told now : Calls) (w : List ℕ) (handles : Ledger) (result : Result (String Global) Refusal)
    → told ≡ told_by later → now ≡ told → w ≡ kept.parted.layout → handles ≡ kept.parted.handles
    → ((memory : Words) → Tells told memory → told.sizes ≡ usual_sizes → GivesLayout memory kept.parted.layout)
    → ((memory : Words) → Tells now memory → HoldsEach w handles kept.tasks → AreLines w memory (names kept.tasks) result)
    → AreFates kept later result
moved_fates kept later told now w handles result is same layout keeps gives lines = λ held.
    go result
    (subst (λ (v : List ℕ). AreLines v (words_of_core later) (names kept.tasks) result) layout
    (lines (words_of_core later) (tells_core later now (same ∙ is))
    (subst (λ (v : List ℕ). HoldsEach v handles kept.tasks) (sym layout)
    (subst (λ (h : Ledger). HoldsEach kept.parted.layout h kept.tasks) (sym keeps) held))))
  where
    go : (r : Result (String Global) Refusal)
        → AreLines kept.parted.layout (words_of_core later) (names kept.tasks) r
        → AreFatesOf kept.parted.layout (names kept.tasks) later r
    go (Ok text) are =
        (gives (words_of_core later) (tells_core later told is) (ap (λ (t : Calls). t.sizes) is), are)
    go (Err r) (inl unread) = inl unread
    go (Err r) (inr fault) =
        inr (inr (inr (gives (words_of_core later) (tells_core later told is) (ap (λ (t : Calls). t.sizes) is), fault)))

-- ---- refusals of the later core

later_of_layout : (cause : LayoutError) → of_later (refusal_of_layout cause) ≡ refusal_of_layout cause
later_of_layout error.NoSymbol = refl
later_of_layout (error.Unmapped addr) = refl
later_of_layout (error.Refused addr (Version v)) = refl
later_of_layout (error.Refused addr (Overlap f g)) = refl
later_of_layout (error.Refused addr (OutOfRecord f)) = refl
later_of_layout (error.Refused addr (BadArena p)) = refl

later_of_look : (fault : LookFault) → of_later (refusal_of_look fault) ≡ refusal_of_look fault
later_of_look (look.Damaged addr field) = refl
later_of_look (look.Cycle addr) = refl

-- what is told of a file is told of the later one
later_told : (bytes : List ℕ) (r : Refusal) → IsFileRefusal (Some bytes) r → IsFileRefusal (Some bytes) (of_later r)
later_told bytes r told = told_as of_later (λ at why. refl) (λ at why. refl) bytes r told

pub later_of_command : (r : Refusal) → IsOfCommand r → IsOfCommand (of_later r)
later_of_command (refusal.NoFile input.Core) is = record { no_usage = λ e. cc; no_write = λ e. cc; no_script = λ e. cc }
later_of_command (refusal.ReadFault input.Core) is = record { no_usage = λ e. cc; no_write = λ e. cc; no_script = λ e. cc }
later_of_command r is = is

pub later_read : (r : Refusal) → IsReadFault (of_later r) → IsReadFault r
later_read (refusal.NoFile input.Core) read = absurd read
later_read (refusal.ReadFault input.Core) read = tt
later_read r read = read

-- ---- the answers

module _ (name later : List ℕ) (told : List ℕ → Told) (content others : Option (List ℕ))
    (is : told name ≡ Some content) (also : told later ≡ Some others) (old : Told) where
  unread : (r : Refusal) → IsUnread input.Core r → IsAnswered (verb_of (Follow name later)) told (Err r) old old
  unread r (inl failed) = inr (inl (subst (λ (x : Refusal). IsEarly (verb_of (Follow name later)) x) (sym failed) tt, refl))
  unread r (inr memory) = inr (inl (subst (λ (x : Refusal). IsEarly (verb_of (Follow name later)) x) (sym memory) tt, refl))

  unread_later : (r : Refusal) → IsUnread input.Core r
      → IsAnswered (verb_of (Follow name later)) told (Err (of_later r)) old old
  unread_later r (inl failed) =
      inr (inl (subst (λ (x : Refusal). IsEarly (verb_of (Follow name later)) (of_later x)) (sym failed) tt, refl))
  unread_later r (inr memory) =
      inr (inl (subst (λ (x : Refusal). IsEarly (verb_of (Follow name later)) (of_later x)) (sym memory) tt, refl))

  -- there are no tasks of the first core
  pub first_refused : (r : Refusal) → IsAnswerOf IsKept content (Err r)
      → IsAnswered (verb_of (Follow name later)) told (Err r) old old
  first_refused r answer = go content is answer
    where
      go : (c : Option (List ℕ)) → told name ≡ Some c → IsAnswerOf IsKept c (Err r)
          → IsAnswered (verb_of (Follow name later)) told (Err r) old old
      go None here (inl missing) = inl (None, (None, here, others, also, missing), refl)
      go None here (inr free) = unread r free
      go (Some bytes) here (inl refused) = inl (None, (Some bytes, here, others, also, inl (inl refused)), refl)
      go (Some bytes) here (inr (inl free)) = unread r free
      go (Some bytes) here (inr (inr (core, spelled, inl refused))) =
          inl (None, (Some bytes, here, others, also, inl (inr (core, spelled, refused))), refl)
      go (Some bytes) here (inr (inr (core, spelled, inr free))) = unread r free

  module _ (kept : KeptTasks) where
    -- what is looked up of the tasks that are kept is that of the report's
    followed : (core second : CoreImage) (keeps : KeepsTasks core kept) (fates : Look (List ℕ))
        → GivesLayout (words_of_core second) kept.parted.layout
        → look_fates kept.parted.layout (words_of_core second) (names kept.tasks) ≡ fates → IsFollowed core second fates
    followed core second keeps fates gives are = record {
      w = kept.parted.layout;
      valid = keeps.valid;
      layout = keeps.layout;
      same = gives;
      view = keeps.view;
      looked = keeps.looked;
      is =
          ap (λ (ks : List Tid). look_fates kept.parted.layout (words_of_core second) ks) (sym keeps.tasks_are) ∙ are;
    }

    looked : (core : CoreImage) (keeps : KeepsTasks core kept) → IsLooked core (Ok keeps.view)
    looked core keeps =
        record { w = kept.parted.layout; valid = keeps.valid; layout = keeps.layout; is = keeps.looked }

    -- there are tasks of the first core, and the later one is refused
    pub later_refused : (r : Refusal) → IsAnswerOf IsKept content (Ok kept) → IsAnswerOf (AreFates kept) others (Err r)
        → IsAnswered (verb_of (Follow name later)) told (Err (of_later r)) old old
    later_refused r first answer = go content is first others also answer
      where
        refused : (bytes : List ℕ) (core : CoreImage) (c : Option (List ℕ)) → told name ≡ Some (Some bytes) → told later ≡ Some c
            → IsFileOf bytes core → KeepsTasks core kept → IsLaterRefusal core c (of_later r)
            → IsAnswered (verb_of (Follow name later)) told (Err (of_later r)) old old
        refused bytes core c here there spelled keeps why =
            inl (None, (Some bytes, here, c, there, inr (keeps.view, (core, spelled, (looked core keeps, why)))), refl)

        fates : (bytes spelt : List ℕ) (core second : CoreImage) → told name ≡ Some (Some bytes)
            → told later ≡ Some (Some spelt) → IsFileOf bytes core → IsFileOf spelt second → KeepsTasks core kept
            → AreFatesOf kept.parted.layout (names kept.tasks) second (Err r)
            → IsAnswered (verb_of (Follow name later)) told (Err (of_later r)) old old
        fates bytes spelt core second here there spelled also_spelled keeps (inl free) = unread_later r free
        fates bytes spelt core second here there spelled also_spelled keeps (inr (inl (cause, none, why))) =
            refused bytes core (Some spelt) here there spelled keeps
            (inr (second, also_spelled, inl (cause, none, ap of_later why ∙ later_of_layout cause)))
        fates bytes spelt core second here there spelled also_spelled keeps (inr (inr (inl (other, why)))) =
            refused bytes core (Some spelt) here there spelled keeps
            (inr (second, also_spelled, inr (inl (record { w = kept.parted.layout; layout = keeps.layout; other = other }, ap of_later why))))
        fates bytes spelt core second here there spelled also_spelled keeps (inr (inr (inr (gives, (fault, none, why))))) =
            refused bytes core (Some spelt) here there spelled keeps
            (inr (second, also_spelled, inr (inr (fault, followed core second keeps (Err fault) gives none, ap of_later why ∙ later_of_look fault))))

        go : (c : Option (List ℕ)) → told name ≡ Some c → IsAnswerOf IsKept c (Ok kept)
            → (d : Option (List ℕ)) → told later ≡ Some d → IsAnswerOf (AreFates kept) d (Err r)
            → IsAnswered (verb_of (Follow name later)) told (Err (of_later r)) old old
        go None here first d there answer = absurd first
        go (Some bytes) here (core, spelled, keeps) None there (inl missing) =
            refused bytes core None here there spelled keeps (ap of_later missing)
        go (Some bytes) here (core, spelled, keeps) None there (inr free) = unread_later r free
        go (Some bytes) here (core, spelled, keeps) (Some spelt) there (inl told) =
            refused bytes core (Some spelt) here there spelled keeps (inl (later_told spelt r told))
        go (Some bytes) here (core, spelled, keeps) (Some spelt) there (inr (inl free)) = unread_later r free
        go (Some bytes) here (core, spelled, keeps) (Some spelt) there (inr (inr (second, also_spelled, answers))) =
            fates bytes spelt core second here there spelled also_spelled keeps (answers keeps.held)

    -- each of them has its line
    pub tasks_followed : (text : String Global) (bytes : Vec ℕ) → IsAnswerOf IsKept content (Ok kept)
        → IsAnswerOf (AreFates kept) others (Ok text) → bytes.items ≡ string_bytes text
        → IsAnswered (verb_of (Follow name later)) told (Ok bytes) old old
    tasks_followed text bytes first answer same = go content is first others also answer
      where
        go : (c : Option (List ℕ)) → told name ≡ Some c → IsAnswerOf IsKept c (Ok kept)
            → (d : Option (List ℕ)) → told later ≡ Some d → IsAnswerOf (AreFates kept) d (Ok text)
            → IsAnswered (verb_of (Follow name later)) told (Ok bytes) old old
        go None here first d there answer = absurd first
        go (Some spelt) here first None there answer = absurd answer
        go (Some spelt) here (core, spelled, keeps) (Some others) there (second, also_spelled, answers) =
            let fates = answers keeps.held in (
              None,
              (
                Some spelt,
                here,
                Some others,
                there,
                (core, spelled, (second, also_spelled, followed core second keeps (Ok bytes.items) fates.0 (fates.1 ∙ ap Ok (sym same)))),
              ),
              refl,
            )
