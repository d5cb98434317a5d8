-- What the library answers of the words of a stop: the tasks of their report, and what became of those of the report before. It is never refused.
use Rattle.std.proofs.Common.{◌≡◌, inl, inr, ℕ, List, [], ◌∷◌, map, Option, Some, Ok, Err, sym, ap, subst, ◌∙◌}
use Rattle.std.specs.Prelude.{All, Result, String}
use Rattle.std.specs.declared.alloc.Global.{Global}
use Rattle.std.proofs.lemmas.List.Elements.{All-cons, All-head, All-nil, All-tail}
use Rattle.omi.proofs.NoTargets.{tells_core}
use Rattle.omi.specs.Opened.{words_of_core}
use Rattle.omi_calls.specs.Memory.{told_by, usual_sizes}
use Rattle.omi_calls.specs.Told.{Told}
use Rattle.omi_corefile.specs.declared.core_image.CoreImage.{CoreImage}
use Rattle.omi_handle.specs.Ledger.{Ledger}
use Rattle.omi_handle.specs.declared.handle.TaskHandle.{TaskHandle}
use Rattle.omi_layout.proofs.OneAnswer.{not_both, one_layout}
use Rattle.omi_layout.specs.Field.{tasks}
use Rattle.omi_layout.specs.Given.{GivesLayout}
use Rattle.omi_layout.specs.NoLayout.{GivesNone}
use Rattle.omi_layout.specs.Place.{IsSlot}
use Rattle.omi_model.specs.declared.id.Tid.{Tid}
use Rattle.omi_model.specs.declared.view.View.{View}
use Rattle.omi_rep.specs.Look.{Look, and_then, mapped}
use Rattle.omi_rep.specs.LookView.{look_view}
use Rattle.omi_rep.specs.declared.fault.LookFault.{LookFault}
use Rattle.omi_session.specs.Opened.{Apart, Opened}
use Rattle.omi_session.specs.Opening.{RefusesOver}
use Rattle.omi_session.specs.Tells.{Tells}
use Rattle.omi_session.specs.declared.rc.Rc.{Rc}
use Rattle.omi_session.specs.declared.rc.Rc.TheVariants as code
use Rattle.omi_commands.proofs.Current.{fates_known, image_records}
use Rattle.omi_commands.proofs.Imaged.{not_refused, viewed}
use Rattle.omi_commands.specs.Fates.{AreLines, HoldsEach}
use Rattle.omi_commands.specs.declared.kept_tasks.KeptTasks.{KeptTasks}
use Rattle.omi_frame.specs.declared.refusal.Input.TheVariants as input
use Rattle.omi_frame.specs.declared.refusal.Refusal.{Refusal}
use Rattle.omi_frame.specs.declared.refusal.Refusal.TheVariants as refusal
use Rattle.omi_walk.specs.Gives.{Gives}
use Rattle.omi_walk.specs.Kept.{IsLive, Keeps, look_names, names_kept, task_names}
use Rattle.omi_walk.specs.declared.fault.WalkFault.{WalkFault}
use Rattle.omi_walk.specs.declared.fault.WalkFault.TheVariants as walk
use Rattle.omi_word.specs.Words.{Words, words_of}
use Rattle.omi_park.specs.Kept.{HoldsTasks, IsCopy}

-- tasks that were kept, or why none were
abbrev pub Kept : Type 0
Kept = Result (List (Tid × TaskHandle)) WalkFault

abbrev pub refused : WalkFault → Kept
refused fault = Err fault

abbrev pub tasks_kept : List (Tid × TaskHandle) → Kept
tasks_kept ks = Ok ks

-- the names of tasks that are kept
abbrev pub names : List (Tid × TaskHandle) → List Tid
names ks = map (λ (k : Tid × TaskHandle). k.0) ks

-- ---- the tasks of a report

slots_of : {C F : Type 0} (told : C → Told) (s : Opened C F) (w : List ℕ) → s.layout ≡ w → (ks : List (Tid × TaskHandle))
    → All (λ (k : Tid × TaskHandle). IsLive told s k.0) ks
    → All (λ (k : Tid). IsSlot w tasks k.0.creator k.0.slot) (names ks)
slots_of told s w same [] live = All-nil (λ (k : Tid). IsSlot w tasks k.0.creator k.0.slot)
slots_of told s w same (k ∷ ks) live =
    let P : Tid → Type 0 = λ x. IsSlot w tasks x.0.creator x.0.slot in
    let Q : Tid × TaskHandle → Type 0 = λ x. IsLive told s x.0 in
    All-cons P k.0 (names ks)
    (subst (λ (l : List ℕ). IsSlot l tasks k.0.0.creator k.0.0.slot) same (All-head Q k ks live).slot)
    (slots_of told s w same ks (All-tail Q k ks live))

one_list : (xs ys : List Tid) → (let gives : List Tid → Look (List Tid) = λ t. Ok t in gives xs ≡ gives ys) → xs ≡ ys
one_list xs ys same = cc

names_given : (w ids : List ℕ) (words : Words) (v : View) (ks : List (Tid × TaskHandle)) → look_view w words ids ≡ Ok v
    → look_names w words ids ≡ Ok (names ks) → names ks ≡ task_names v
unfolding and_then
names_given w ids words v ks looked gives =
    one_list (names ks) (task_names v) (sym gives ∙ ap (mapped task_names) looked)

names_looked : (w ids : List ℕ) (words : Words) (v : View) → look_view w words ids ≡ Ok v
    → look_names w words ids ≡ Ok (task_names v)
unfolding and_then
names_looked w ids words v looked = ap (mapped task_names) looked

module _ (w words : List ℕ) (k : IsCopy w words) where
  -- of each task of the report a handle is kept
  pub tasks_held : {C F : Type 0} (told : C → Told) (s t : Opened C F) (ids : List ℕ) (v : View)
      (ks : List (Tid × TaskHandle)) (parted : Apart) → s.layout ≡ w → t.layout ≡ s.layout
      → look_view w (words_of words) ids ≡ Ok v
      → Gives (names_kept (tasks_kept ks)) (look_names w (words_of words) ids)
      → Keeps s.layout s.handles t.handles ks → All (λ (x : Tid × TaskHandle). IsLive told t x.0) ks
      → parted.layout ≡ t.layout → parted.handles ≡ t.handles
      → HoldsTasks w (task_names v) (record { parted = parted; tasks = ks })
  tasks_held told s t ids v ks parted here stays looked gives keeps live place handles =
      let are = names_given w ids (words_of words) v ks looked gives in
      record {
        layout = place ∙ stays ∙ here;
        are = are;
        held =
            subst (λ (h : Ledger). HoldsEach w h ks) (sym handles)
            (subst (λ (l : List ℕ). HoldsEach l t.handles ks) here keeps.each);
        slots =
            subst (All (λ (x : Tid). IsSlot w tasks x.0.creator x.0.slot)) are
            (slots_of told t w (stays ∙ here) ks live);
      }

  -- they are never refused
  pub names_free : (ids : List ℕ) (fault : WalkFault) → Gives (names_kept (refused fault)) (look_names k.shown.w (words_of words) ids)
      → (fault ≡ walk.Callback → ⊥) → (fault ≡ walk.OutOfMemory → ⊥) → ⊥
  names_free ids fault gives no_callback some_memory =
      let (v, looked) = viewed words k.shown ids in
      not_refused fault (look_names k.shown.w (words_of words) ids) (task_names v) gives
      (names_looked k.shown.w ids (words_of words) v looked) no_callback some_memory

  -- ---- what became of tasks

  -- a session in this layout goes on over the words
  pub goes_on : (core : CoreImage) (told : Told) (layout : List ℕ) (rc : Rc) → words_of_core core ≡ words_of words
      → told ≡ told_by core → layout ≡ w
      → ((memory : Words) → Tells told memory → told.sizes ≡ usual_sizes → RefusesOver layout memory rc)
      → (rc ≡ code.CallbackError → ⊥) → ⊥
  goes_on core told layout rc same is here refuses known =
      elim (refuses (words_of_core core) (tells_core core told is) (ap (λ (t : Told). t.sizes) is) known) [
        | inl cause ↦
            not_both (words_of words) w cause.error k.valid k.gives
            (subst (λ (m : Words). GivesNone m cause.error) same cause.gives_none)
        | inr other ↦
            other.other.differs
            (one_layout (words_of words) other.other.layout w
            (subst (λ (m : Words). GivesLayout m other.other.layout) same other.other.gives) k.gives
            ∙ sym here)
      ]

  -- the lines on tasks that were kept are there
  module _ (ks : List Tid) (slots : All (λ (x : Tid). IsSlot w tasks x.0.creator x.0.slot) ks) where
    no_fault : (text : List ℕ) (fault : LookFault) → (let gives : Look (List ℕ) = Ok text in gives ≡ Err fault) → ⊥
    no_fault text fault same = cc

    pub fates_free : (r : Refusal) → (let refuses : Result (String Global) Refusal = Err r in AreLines w (words_of words) ks refuses)
        → (r ≡ refusal.ReadFault input.Core → ⊥) → (r ≡ refusal.OutOfMemory → ⊥) → ⊥
    fates_free r (inl (inl failed)) no_fault_read some_memory = no_fault_read failed
    fates_free r (inl (inr memory)) no_fault_read some_memory = some_memory memory
    fates_free r (inr (fault, is, why)) no_fault_read some_memory =
        let (text, known) = fates_known w (words_of words) k.valid (image_records w words k.valid k.long) ks slots in
        no_fault text fault (sym known ∙ is)

-- ---- what callbacks over a core of a copy tell

pub one_order : (a b : ℕ) → (let some : ℕ → Option ℕ = λ n. Some n in some a ≡ some b) → a ≡ b
one_order a b same = cc

-- what was answered in the session that goes on is answered of the copy
pub lines_on : (w words : List ℕ) (ks : List Tid) (kept : KeptTasks) → HoldsTasks w ks kept → (core : CoreImage)
    → words_of_core core ≡ words_of words → (told now : Told) → told ≡ told_by core → now ≡ told
    → (layout : List ℕ) (handles : Ledger) → layout ≡ kept.parted.layout → handles ≡ kept.parted.handles
    → (result : Result (String Global) Refusal)
    → ((memory : Words) → Tells now memory → HoldsEach layout handles kept.tasks → AreLines layout memory (names kept.tasks) result)
    → AreLines w (words_of words) ks result
lines_on w words ks kept holds core same told now is still layout handles place hands result answered =
    subst (λ (names : List Tid). AreLines w (words_of words) names result) holds.are
    (subst (λ (m : Words). AreLines w m (names kept.tasks) result) same
    (subst (λ (l : List ℕ). AreLines l (words_of_core core) (names kept.tasks) result) (place ∙ holds.layout)
    (answered (words_of_core core) (tells_core core now (still ∙ is))
    (subst (λ (l : List ℕ). HoldsEach l handles kept.tasks) (sym (place ∙ holds.layout))
    (subst (λ (h : Ledger). HoldsEach w h kept.tasks) (sym hands) holds.held)))))
