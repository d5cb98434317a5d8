-- What the inquiry for a task's function says of the task, and how the lines on tasks go on from one to the next.
use Rattle.std.proofs.Common.{◌≡◌, ◌==◌, ◌+◌, ◌*◌, ◌≤◌, ℕ, Bool, true, false, cond, List, [], ◌∷◌, ◌++◌, drop, length, map, Option, Some, inl, inr, refl, sym, ap, subst, ◌∙◌, append_assoc, append-nil}
use Rattle.std.specs.Prelude.{Result, Ok, Err, IfErr, IsErrAnd}
use Rattle.std.specs.FinMap.{get}
use Rattle.std.specs.List.{flat_map, slice_get}
use Rattle.std.proofs.lemmas.List.{drop_all, drop_more}
use Rattle.std.proofs.lemmas.List.Elements.{All-get_or}
use Rattle.std.proofs.lemmas.Option.{get_or_from_slice_get, slice_get_within}
use Rattle.omi_asktask.specs.TaskWords.{function}
use Rattle.omi_calls.specs.Told.{Told}
use Rattle.omi_handle.specs.declared.handle.Held.{Held}
use Rattle.omi_handle.specs.Ledger.{Ledger}
use Rattle.omi_handle.specs.declared.handle.TaskHandle.{TaskHandle}
use Rattle.omi_handle.specs.declared.handle.Kind.TheVariants.{Task}
use Rattle.omi_layout.specs.Field.{tasks}
use Rattle.omi_layout.specs.declared.field.Field.TheVariants.{TaskFunction, TaskLife}
use Rattle.omi_model.specs.declared.id.Tid.{Tid}
use Rattle.omi_rep.specs.Look.{Look, and_then, each, id_address, look_word, mapped}
use Rattle.omi_rep.specs.declared.fault.LookFault.TheVariants as look
use Rattle.omi_session.proofs.Asked.{answer_then}
use Rattle.omi_session.proofs.LookedLaws.{word_is_looked}
use Rattle.omi_session.proofs.Told.{still_tells}
use Rattle.omi_session.specs.Inquiry.{live_handle, object_of, unchanged, word_of}
use Rattle.omi_session.specs.Looked.{IsLook}
use Rattle.omi_session.specs.Made.{task_pair}
use Rattle.omi_session.specs.Opened.{Opened, StaysWhole}
use Rattle.omi_session.specs.Reads.{Answer, IsAnswer, after, answer_on}
use Rattle.omi_session.specs.Tells.{Tells}
use Rattle.omi_session.specs.declared.rc.Rc.{Rc}
use Rattle.omi_session.specs.declared.rc.Rc.TheVariants as code
use Rattle.omi_commands.specs.Fates.{AreLines, HoldsEach, IsFate, fate_line, fate_of, is_current, look_fates}
use Rattle.omi_commands.specs.Inquiries.{ComesOfWords, refusal_of_code}
use Rattle.omi_frame.specs.Refusal.{IsReadFault}
use Rattle.omi_frame.specs.declared.refusal.Refusal.{Refusal}
use Rattle.omi_walk.proofs.Steps.{mapped_same}
use Rattle.omi_walk.specs.Kept.{task_object}
use Rattle.omi_word.specs.Words.{Words}

-- ---- what a code is handed on as

pub code_of_words : (rc : Rc) → ComesOfWords (refusal_of_code rc)
code_of_words code.CallbackError = inl refl
code_of_words (code.Error addr field) = tt
code_of_words rc = tt

pub read_failed : (rc : Rc) → IsReadFault (refusal_of_code rc) → rc ≡ code.CallbackError
read_failed code.CallbackError read = refl
read_failed (code.Error addr field) read = absurd read
read_failed rc read = absurd read

-- ---- one task

-- what it is refused with comes of the words, and is a read that failed only where a callback failed
pub fate_of_words : (r : Result ℕ Rc) → IfErr (fate_of r) ComesOfWords
fate_of_words (Ok address) = tt
fate_of_words (Err code.StaleHandle) = tt
fate_of_words (Err rc) = code_of_words rc

pub fate_failed : (r : Result ℕ Rc) → IsErrAnd (fate_of r) IsReadFault → r ≡ Err code.CallbackError
fate_failed (Ok address) read = absurd read
fate_failed (Err code.StaleHandle) read = absurd read
fate_failed (Err rc) read = ap Err (read_failed rc read)

module _ (w : List ℕ) (memory : Words) (k : Tid) where
  -- the function, the life word behind it, and the inquiry behind that
  function_fate : (a : Result ℕ Rc) (l : Look ℕ) → IsLook {A = ℕ} {B = ℕ} (λ x y. x ≡ y) a l
      → IsFate {A = Bool} (mapped (λ address. true) l) (fate_of a)
  unfolding and_then
  function_fate (Ok x) (Ok y) same = refl
  function_fate (Ok x) (Err fault) same = absurd same
  function_fate (Err rc) (Ok y) same = absurd same
  function_fate (Err rc) (Err (look.Damaged addr field)) same =
      let l : Look Bool = Err (look.Damaged addr field) in
      subst (λ (c : Rc). IsFate l (fate_of (Err c))) (sym same) (inr (look.Damaged addr field, refl, refl))
  function_fate (Err rc) (Err (look.Cycle addr)) same = absurd same

  of_life : Bool → Result ℕ Rc
  of_life b =
      answer_on memory
      (after (cond b (Ok (task_object w k)) (Err code.StaleHandle)) (λ (task : Held). word_of w task.addr TaskFunction 0))

  life_fate : (b : Bool)
      → IsFate {A = Bool}
      (cond b (mapped (λ address. true) (look_word w memory (id_address w tasks k.0) TaskFunction 0)) (Ok false))
      (fate_of (of_life b))
  unfolding of_life
  life_fate true =
      function_fate (answer_on memory (word_of w (id_address w tasks k.0) TaskFunction 0))
      (look_word w memory (id_address w tasks k.0) TaskFunction 0)
      (word_is_looked w memory (id_address w tasks k.0) TaskFunction 0)
  life_fate false = refl

  by_life : Result ℕ Rc → Result ℕ Rc
  by_life a =
      answer_on memory
      (after
      (answer_on memory (after a (λ (life : ℕ). Answer (cond (life == 2 * k.0.generation + 1) (Ok (task_object w k)) (Err code.StaleHandle)))))
      (λ (task : Held). word_of w task.addr TaskFunction 0))

  word_fate : (a : Result ℕ Rc) (l : Look ℕ) → IsLook {A = ℕ} {B = ℕ} (λ x y. x ≡ y) a l
      → IsFate {A = Bool}
      (and_then l (λ life. cond (life == 2 * k.0.generation + 1)
      (mapped (λ address. true) (look_word w memory (id_address w tasks k.0) TaskFunction 0)) (Ok false)))
      (fate_of (by_life a))
  unfolding and_then by_life of_life
  word_fate (Ok x) (Ok y) same =
      subst
      (λ (life : ℕ). IsFate (cond (life == 2 * k.0.generation + 1)
      (mapped (λ address. true) (look_word w memory (id_address w tasks k.0) TaskFunction 0)) (Ok false))
      (fate_of (of_life (x == 2 * k.0.generation + 1)))) same
      (life_fate (x == 2 * k.0.generation + 1))
  word_fate (Ok x) (Err fault) same = absurd same
  word_fate (Err rc) (Ok y) same = absurd same
  word_fate (Err rc) (Err (look.Damaged addr field)) same =
      let l : Look Bool = Err (look.Damaged addr field) in
      subst (λ (c : Rc). IsFate l (fate_of (Err c))) (sym same) (inr (look.Damaged addr field, refl, refl))
  word_fate (Err rc) (Err (look.Cycle addr)) same = absurd same

  -- the answer of the inquiry, by the answer for the life word
  function_by : answer_on memory (function w (Some (task_object w k)))
      ≡ by_life (answer_on memory (word_of w (id_address w tasks k.0) TaskLife 0))
  unfolding function object_of unchanged by_life
  function_by =
      answer_then memory (object_of w Task (Some (task_object w k))) (λ (task : Held). word_of w task.addr TaskFunction 0)
      ∙ ap (λ (a : Result Held Rc). answer_on memory (after a (λ (task : Held). word_of w task.addr TaskFunction 0)))
      (answer_then memory (Answer (live_handle Task (Some (task_object w k)))) (unchanged w)
      ∙ answer_then memory (word_of w (id_address w tasks k.0) TaskLife 0)
      (λ (life : ℕ). Answer (cond (life == 2 * k.0.generation + 1) (Ok (task_object w k)) (Err code.StaleHandle))))

  answer_fate : IsFate (is_current w memory k) (fate_of (answer_on memory (function w (Some (task_object w k)))))
  answer_fate =
      subst (λ (a : Result ℕ Rc). IsFate (is_current w memory k) (fate_of a)) (sym function_by)
      (word_fate (answer_on memory (word_of w (id_address w tasks k.0) TaskLife 0))
      (look_word w memory (id_address w tasks k.0) TaskLife 0)
      (word_is_looked w memory (id_address w tasks k.0) TaskLife 0))

  -- what was answered of a handle that stands for the task, unless a callback failed
  pub fate_is : (told : Told) (found : Option Held) (r : Result ℕ Rc) → Tells told memory
      → found ≡ Some (task_object w k) → IsAnswer told r (function w found)
      → IsFate (is_current w memory k) (fate_of r)
  fate_is told found (Err code.CallbackError) tells held is = inl refl
  fate_is told found r tells held is =
      subst (λ (a : Result ℕ Rc). IsFate (is_current w memory k) (fate_of a))
      (sym (is memory tells (λ e. cc) ∙ ap (λ (h : Option Held). answer_on memory (function w h)) held)) answer_fate

-- ---- one task after the other

-- what follows the lines so far
joined : (a b : List ℕ) (l : Look (List ℕ))
    → mapped (λ rest. a ++ rest) (mapped (λ rest. b ++ rest) l) ≡ mapped (λ rest. (a ++ b) ++ rest) l
unfolding and_then
joined a b (Ok rest) = ap Ok (sym (append_assoc a b rest))
joined a b (Err fault) = refl

module _ (w : List ℕ) (memory : Words) where
  first_line : (k : Tid) (l : Look Bool) (lines : Look (List (List ℕ)))
      → mapped (λ (lines : List (List ℕ)). flat_map (λ (line : List ℕ). line) lines)
      (and_then (mapped (fate_line k) l) (λ line. mapped (λ (more : List (List ℕ)). line ∷ more) lines))
      ≡ and_then l (λ current. mapped (λ rest. fate_line k current ++ rest) (mapped (λ (lines : List (List ℕ)). flat_map (λ (line : List ℕ). line) lines) lines))
  unfolding and_then
  first_line k (Ok current) (Ok lines) = refl
  first_line k (Ok current) (Err fault) = refl
  first_line k (Err fault) lines = refl

  -- the line on the first task, and those on the others
  pub fates_on : (k : Tid) (ks : List Tid)
      → look_fates w memory (k ∷ ks) ≡ and_then (is_current w memory k) (λ current. mapped (λ rest. fate_line k current ++ rest) (look_fates w memory ks))
  fates_on k ks =
      first_line k (is_current w memory k) (each (λ (k : Tid). mapped (fate_line k) (is_current w memory k)) ks)

  -- the lines on all of these begin with this text, and go on with those on the tasks that are left
  abbrev pub FatesSoFar : List Tid → List ℕ → List Tid → Type 0
  FatesSoFar ks text left =
      look_fates w memory ks ≡ mapped (λ rest. text ++ rest) (look_fates w memory left)

  pub fates_begin : (ks : List Tid) → FatesSoFar ks [] ks
  fates_begin ks = mapped_same (look_fates w memory ks)

  module _ (ks : List Tid) (text : List ℕ) where
    pub fates_next : (k : Tid) (left : List Tid) (current : Bool) → FatesSoFar ks text (k ∷ left)
        → is_current w memory k ≡ Ok current → FatesSoFar ks (text ++ fate_line k current) left
    unfolding and_then
    fates_next k left current so is =
        so
        ∙ ap (mapped (λ rest. text ++ rest))
        (fates_on k left
        ∙ ap (λ (l : Look Bool). and_then l (λ now. mapped (λ rest. fate_line k now ++ rest) (look_fates w memory left))) is)
        ∙ joined text (fate_line k current) (look_fates w memory left)

    -- a task of which no word is known ends it
    pub fates_stop : (k : Tid) (left : List Tid) (r : Refusal) → FatesSoFar ks text (k ∷ left)
        → IsFate (is_current w memory k) (Err r) → AreLines w memory ks (Err r)
    unfolding and_then
    fates_stop k left r so (inl failed) = inl (inl failed)
    fates_stop k left r so (inr (fault, is, why)) =
        inr (
          fault,
          so
              ∙ ap (mapped (λ rest. text ++ rest))
              (fates_on k left
              ∙ ap (λ (l : Look Bool). and_then l (λ now. mapped (λ rest. fate_line k now ++ rest) (look_fates w memory left))) is),
          why,
        )

    pub fates_end : FatesSoFar ks text [] → look_fates w memory ks ≡ Ok text
    unfolding and_then
    fates_end so = so ∙ ap Ok (append-nil text)

-- ---- the tasks of which handles are held

-- the names of tasks that are kept
abbrev pub names : List (Tid × TaskHandle) → List Tid
names tasks = map (λ (k : Tid × TaskHandle). k.0) tasks

module _ {C F : Type 0} (told : C → Told) (s t : Opened C F) (tasks : List (Tid × TaskHandle)) (at : ℕ) (k : Tid × TaskHandle)
    (stays : StaysWhole told s t) (here : slice_get tasks at ≡ Some k) where
  held_at : HoldsEach s.layout s.handles tasks
      → get t.handles.held (task_pair k.1) ≡ Some (task_object t.layout k.0)
  held_at held =
      let P : Tid × TaskHandle → Type 0 = λ x. get s.handles.held (task_pair x.1) ≡ Some (task_object s.layout x.0) in
      let one : P k = subst P (get_or_from_slice_get tasks at k k here) (All-get_or P tasks at k (slice_get_within tasks at k here) held) in
      ap (λ (h : Ledger). get h.held (task_pair k.1)) stays.handles
      ∙ one
      ∙ ap (λ (w : List ℕ). Some (task_object w k.0)) (sym stays.layout)

  module _ (memory : Words) (tells : Tells (told s.table.calls) memory)
      (held : HoldsEach s.layout s.handles tasks) where
    -- what is answered of a task, in the layout in which the first was asked
    fate_at : (r : Result Bool Refusal)
        → (Tells (told t.table.calls) memory → get t.handles.held (task_pair k.1) ≡ Some (task_object t.layout k.0) → IsFate (is_current t.layout memory k.0) r)
        → IsFate (is_current s.layout memory k.0) r
    fate_at r answered =
        subst (λ (w : List ℕ). IsFate (is_current w memory k.0) r) stays.layout
        (answered (still_tells (told s.table.calls) (told t.table.calls) memory stays.table.same tells) (held_at held))

    left_at : (text : List ℕ) → FatesSoFar s.layout memory (names tasks) text (names (drop at tasks))
        → FatesSoFar s.layout memory (names tasks) text (k.0 ∷ names (drop (at + 1) tasks))
    left_at text so =
        subst (λ (left : List (Tid × TaskHandle)). FatesSoFar s.layout memory (names tasks) text (names left))
        (drop_more tasks at k (slice_get_within tasks at k here)
        ∙ ap (λ (x : Tid × TaskHandle). x ∷ drop (at + 1) tasks) (get_or_from_slice_get tasks at k k here)) so

    pub next_line : (text : List ℕ) (current : Bool)
        → FatesSoFar s.layout memory (names tasks) text (names (drop at tasks))
        → (Tells (told t.table.calls) memory → get t.handles.held (task_pair k.1) ≡ Some (task_object t.layout k.0) → IsFate (is_current t.layout memory k.0) (Ok current))
        → FatesSoFar s.layout memory (names tasks) (text ++ fate_line k.0 current) (names (drop (at + 1) tasks))
    next_line text current so answered =
        fates_next s.layout memory (names tasks) text k.0 (names (drop (at + 1) tasks)) current (left_at text so) (fate_at (Ok current) answered)

    pub no_line : (text : List ℕ) (r : Refusal)
        → FatesSoFar s.layout memory (names tasks) text (names (drop at tasks))
        → (Tells (told t.table.calls) memory → get t.handles.held (task_pair k.1) ≡ Some (task_object t.layout k.0) → IsFate (is_current t.layout memory k.0) (Err r))
        → AreLines s.layout memory (names tasks) (Err r)
    no_line text r so answered =
        fates_stop s.layout memory (names tasks) text k.0 (names (drop (at + 1) tasks)) r (left_at text so) (fate_at (Err r) answered)

-- each has its line
pub all_lines : (w : List ℕ) (memory : Words) (tasks : List (Tid × TaskHandle)) (at : ℕ) (text : List ℕ)
    → length tasks ≤ at → FatesSoFar w memory (names tasks) text (names (drop at tasks))
    → look_fates w memory (names tasks) ≡ Ok text
all_lines w memory tasks at text most so =
    fates_end w memory (names tasks) text
    (subst (λ (left : List (Tid × TaskHandle)). FatesSoFar w memory (names tasks) text (names left)) (drop_all at tasks most) so)
