-- What inquiries about threads answer are plain looks.
use Rattle.std.proofs.Common.{zero, suc, ◌≡◌, ◌==◌, ◌<◌, ◌+◌, ◌/◌, arith, ℕ, Bool, true, false, cond, List, [], ◌∷◌, Option, Some, None, refl, sym, ap, subst, ◌∙◌}
use Rattle.std.proofs.lemmas.Bool.{eqb-true}
use Rattle.std.specs.Prelude.{Result, Ok, Err, is_some}
use Rattle.std.specs.FinMap.{get}
use Rattle.std.specs.List.{range_with_len}
use Rattle.std.specs.Option.{option_map, ok_or}
use Rattle.omi_calls.specs.Kept.{Kept}
use Rattle.omi_word.specs.Words.{Words}
use Rattle.omi_calls.specs.Told.{Told}
use Rattle.omi_handle.specs.declared.handle.Kind.TheVariants.{Thread, Task}
use Rattle.omi_handle.specs.declared.handle.Held.{Held}
use Rattle.omi_handle.specs.declared.handle.ThreadHandle.{ThreadHandle}
use Rattle.omi_handle.specs.Ledger.{Ledger}
use Rattle.omi_icv.specs.declared.scoped.Scoped.TheVariants as scoped
use Rattle.omi_icv.specs.declared.variable.Source.TheVariants.{MemberNumber}
use Rattle.omi_icv.specs.declared.variable.Variable.{Variable}
use Rattle.omi_icv.specs.Icvs.{icv_from_scope}
use Rattle.omi_icv.specs.Scopes.{scope_of}
use Rattle.omi_icv.specs.StateWords.{state}
use Rattle.omi_icv.specs.Table.{variable_in}
use Rattle.omi_icv.specs.Values.{number_in, member_number}
use Rattle.omi_numbers.specs.Words.{state_of, wait_of}
use Rattle.omi_layout.specs.declared.field.Field.TheVariants.{RuntimeDebug, ThreadLife, ThreadNative, ThreadState, ThreadCurrent, TaskNumber}
use Rattle.omi_layout.specs.Field.{threads, tasks}
use Rattle.omi_layout.specs.Place.{slot_address}
use Rattle.omi_layout.specs.Table.{thread_count, per_thread}
use Rattle.omi_layout.specs.Valid.{IsValid}
use Rattle.omi_model.specs.declared.id.Id.{Id}
use Rattle.omi_layout.specs.Named.{number}
use Rattle.omi_rep.specs.declared.fault.LookFault.TheVariants.{Damaged}
use Rattle.omi_rep.specs.Look.{Look, and_then, id_address, optional, slot_at, is_live}
use Rattle.omi_rep.specs.LookView.{look_for, look_state, look_current, read_thread, read_task, read_runtime}
use Rattle.omi_rep.specs.Records.{runtime_address, thread_address}
use Rattle.omi_session.specs.declared.rc.Rc.{Rc}
use Rattle.omi_session.specs.declared.rc.Rc.TheVariants.{Unavailable, NeedsStateTracking}
use Rattle.omi_session.specs.Handles.{name_of}
use Rattle.omi_session.specs.Inquiry.{object_of, place_of, word_of, follow_some, unchanged}
use Rattle.omi_session.specs.Looked.{IsFault, IsOptional}
use Rattle.omi_session.specs.Made.{IsMade, IsMadeOf, thread_pair}
use Rattle.omi_session.specs.Named.{record_kind, IsNamed}
use Rattle.omi_session.specs.Opened.{Opened, Stays}
use Rattle.omi_session.specs.Reads.{Reads, Answer, answer_on, after, then_reads}
use Rattle.omi_session.specs.Tells.{Tells}
use Rattle.omi_session.proofs.Asked.{answer_then}
use Rattle.omi_session.proofs.LookedLaws.{word_is_looked}
use Rattle.omi_session.proofs.ShownParts.{then_answered, unchanged_told}
use Rattle.omi_session.proofs.ShownNames.{name_told}
use Rattle.omi_rep.proofs.Slots.{slot_is}
use Rattle.omi_session.proofs.Told.{still_tells}
use Rattle.omi_ask.specs.Threads.{begun, has_id, first_with, thread_with}
use Rattle.omi_walk.specs.declared.met.Met.{Met}
use Rattle.omi_walk.specs.Fault.{untracked}
use Rattle.omi_walk.specs.Objects.{IsMet, Stands}
use Rattle.omi_walk.proofs.Looked.{ValueIs, word_there, optional_there, stands_at, object_answers}
use Rattle.omi_walk.proofs.MemberLooks.{some_kind}
use Rattle.omi_walk.proofs.Names.{named_address}
use Rattle.omi_walk.proofs.WordLooks.{sourced_answers, record_answers}

-- ---- the thread with a native id

-- the thread that is answered is the one that a look finds, and it has begun
abbrev pub IsFound : List ℕ → Words → Result Held Rc → Look (Option ℕ) → Type 0
IsFound w memory (Ok h) (Ok (Some i)) =
    (h ≡ begun w i) × (memory (place_of w (thread_address w i) ThreadLife 0) ≡ Some 1)
    × (i < thread_count w)
IsFound w memory (Ok h) (Ok None) = ⊥
IsFound w memory (Ok h) (Err fault) = ⊥
IsFound w memory (Err rc) (Ok (Some i)) = ⊥
IsFound w memory (Err rc) (Ok None) = rc ≡ Unavailable
IsFound w memory (Err rc) (Err fault) = IsFault rc fault

-- each of these is the number of a thread
abbrev AreThreads : List ℕ → List ℕ → Type 0
AreThreads w [] = Unit {0}
AreThreads w (i ∷ more) = (i < thread_count w) × AreThreads w more

from_range : (w : List ℕ) (a n : ℕ) → a + n < thread_count w + 1 → AreThreads w (range_with_len a n)
from_range w a zero few = tt
from_range w a (suc n) few = (omega (arith, few), from_range w (a + 1) n (omega (arith, few)))

module _ (w : List ℕ) (memory : Words) (native : ℕ) where
  -- what is answered of these threads
  abbrev answered : List ℕ → Result Held Rc
  answered is = answer_on memory (first_with w native is)

  -- the word that a look gives stands there
  stands_word : (i x : ℕ) → read_thread w memory i ThreadLife ≡ Ok x
      → memory (place_of w (thread_address w i) ThreadLife 0) ≡ Some x
  stands_word i x is = go (memory (place_of w (thread_address w i) ThreadLife 0)) is
    where
      go : (o : Option ℕ) → ok_or o (Damaged (thread_address w i) (number ThreadLife)) ≡ Ok x
          → o ≡ Some x
      go None is = absurd (cc)
      go (Some y) is = let same : y ≡ x = cc in ap Some same

  module _ (i : ℕ) (more : List ℕ) (low : i < thread_count w)
      (rest : IsFound w memory (answered more) (look_for w memory native more)) where
    -- the thread is taken, or the next ones are asked
    taken : Bool → Reads Held
    taken is = cond is (Answer (Ok (begun w i))) (first_with w native more)

    same_id : ℕ → Reads Bool
    same_id id = Answer (Ok (id == native))

    begun_if : Bool → Reads Bool
    begun_if lives =
        cond lives (then_reads (word_of w (thread_address w i) ThreadNative 0) same_id)
        (Answer (Ok false))

    has_begun : ℕ → Reads Bool
    has_begun life = begun_if (life == 1)

    -- the look goes on by the native id, and by whether the thread lives
    abbrev look_taken : Bool → Look (Option ℕ)
    look_taken is = cond is (Ok (Some i)) (look_for w memory native more)

    abbrev look_if : Bool → Look (Option ℕ)
    look_if lives =
        cond lives
        (and_then (read_thread w memory i ThreadNative) (λ id. look_taken (id == native)))
        (look_for w memory native more)

    -- by the native id
    by_id : memory (place_of w (thread_address w i) ThreadLife 0) ≡ Some 1
        → (a : Result ℕ Rc) (l : Look ℕ) → ValueIs a l
        → IsFound w memory (answer_on memory (after (answer_on memory (after a same_id)) taken))
        (and_then l (λ id. look_taken (id == native)))
    unfolding and_then taken same_id
    by_id there (Ok x) (Ok y) same =
        subst (λ z. IsFound w memory (answer_on memory (taken (x == native))) (look_taken (z == native)))
        same (test (x == native))
      where
        test : (is : Bool) → IsFound w memory (answer_on memory (taken is)) (look_taken is)
        test true = (refl, there, low)
        test false = rest
    by_id there (Ok x) (Err fault) same = absurd same
    by_id there (Err rc) (Ok y) same = absurd same
    by_id there (Err rc) (Err fault) same = same

    -- by the life word
    by_life : (a : Result ℕ Rc) (l : Look ℕ) → l ≡ read_thread w memory i ThreadLife → ValueIs a l
        → IsFound w memory (answer_on memory (after (answer_on memory (after a has_begun)) taken))
        (and_then l (λ life. look_if (life == 1)))
    unfolding and_then begun_if has_begun taken
    by_life (Ok x) (Ok y) is same =
        subst
        (λ z. IsFound w memory (answer_on memory (after (answer_on memory (has_begun x)) taken))
        (look_if (z == 1))) same (test (x == 1) refl)
      where
        test : (lives : Bool) → x == 1 ≡ lives
            → IsFound w memory (answer_on memory (after (answer_on memory (begun_if lives)) taken))
            (look_if lives)
        test true e =
            let native_word : Reads ℕ = word_of w (thread_address w i) ThreadNative 0 in
            let one : y ≡ 1 = sym same ∙ eqb-true x 1 e in
            let there = stands_word i 1 (sym is ∙ ap Ok one) in
            subst
            (λ (r : Result Bool Rc). IsFound w memory (answer_on memory (after r taken)) (look_if true))
            (sym (answer_then memory native_word same_id))
            (by_id there (answer_on memory native_word) (read_thread w memory i ThreadNative)
            (word_is_looked w memory (thread_address w i) ThreadNative 0))
        test false e = rest
    by_life (Ok x) (Err fault) is same = absurd same
    by_life (Err rc) (Ok y) is same = absurd same
    by_life (Err rc) (Err fault) is same = same

    pub next_found : IsFound w memory (answer_on memory (first_with w native (i ∷ more)))
        (look_for w memory native (i ∷ more))
    unfolding first_with has_id taken begun_if has_begun same_id
    next_found =
        let life_word : Reads ℕ = word_of w (thread_address w i) ThreadLife 0 in
        let asked : answered (i ∷ more)
        ≡ answer_on memory (after (answer_on memory (after (answer_on memory life_word) has_begun)) taken) =
        answer_then memory (has_id w native i) taken
        ∙ ap (λ (r : Result Bool Rc). answer_on memory (after r taken))
        (answer_then memory life_word has_begun) in
        subst (λ (r : Result Held Rc). IsFound w memory r (look_for w memory native (i ∷ more)))
        (sym asked)
        (by_life (answer_on memory life_word) (read_thread w memory i ThreadLife) refl
        (word_is_looked w memory (thread_address w i) ThreadLife 0))

  pub first_found : (is : List ℕ) → AreThreads w is
      → IsFound w memory (answer_on memory (first_with w native is)) (look_for w memory native is)
  unfolding first_with
  first_found [] known = refl
  first_found (i ∷ more) known = next_found i more known.0 (first_found more known.1)

  pub thread_found : IsFound w memory (answer_on memory (thread_with w 0 native))
      (look_for w memory native (range_with_len 0 (thread_count w)))
  unfolding thread_with
  thread_found =
      first_found (range_with_len 0 (thread_count w))
      (from_range w 0 (thread_count w) (omega arith))

-- the number of a thread is that of its name
pub thread_number : (w : List ℕ) → IsValid w → (i : ℕ) (n : Id) → i < thread_count w
    → name_of w (begun w i) ≡ Some n → n.creator ≡ i
thread_number w valid i n low named =
    let name : Id = record { creator = i; slot = 0; generation = 0 } in
    let same = name_told w valid Thread name (record {
      made_by = omega (arith, low);
      within = omega arith;
    }) (Some (begun w i)) refl (Ok n) named in
    let one : n ≡ name = cc same in
    ap (λ (m : Id). m.creator) one

-- the thread that was found
pub found_thread : (w : List ℕ) (memory : Words) (new : Ledger) (pair : ℕ × ℕ) (h : Held) (n : Id)
    (answer : Result Held Rc) (l : Look (Option ℕ))
    → IsValid w → get new.held pair ≡ Some h → name_of w h ≡ Some n
    → IsMade new (Ok pair) answer → IsFound w memory answer l
    → (l ≡ Ok (Some n.creator)) × (memory (place_of w h.addr ThreadLife 0) ≡ Some h.life)
found_thread w memory new pair h n answer l valid held named made looked =
    let both : Some made.object ≡ Some h = sym made.found ∙ held in
    let same : made.object ≡ h = cc in
    go answer l (made.answers ∙ ap Ok same) looked
  where
    go : (answer : Result Held Rc) (l : Look (Option ℕ)) → answer ≡ Ok h → IsFound w memory answer l
        → (l ≡ Ok (Some n.creator)) × (memory (place_of w h.addr ThreadLife 0) ≡ Some h.life)
    go (Ok o) (Ok (Some i)) is looked =
        let object : h ≡ begun w i = (let first : o ≡ h = cc in sym first ∙ looked.0) in
        let number : n.creator ≡ i =
        thread_number w valid i n looked.2 (sym (ap (name_of w) object) ∙ named) in
        let lives : Held → Type 0 = λ g. memory (place_of w g.addr ThreadLife 0) ≡ Some g.life in
        (ap (λ k. Ok (Some k)) (sym number), subst lives (sym object) looked.1)
    go (Ok o) (Ok None) is looked = absurd looked
    go (Ok o) (Err fault) is looked = absurd looked
    go (Err rc) l is looked = absurd (cc)

-- ---- what there may be

-- an answer is what a look gives, or this refusal where it gives none
abbrev pub IsMaybe : {A : Type 0} → Rc → Result A Rc → Look (Option A) → Type 0
IsMaybe none (Ok x) (Ok (Some y)) = x ≡ y
IsMaybe none (Ok x) (Ok None) = ⊥
IsMaybe none (Ok x) (Err fault) = ⊥
IsMaybe none (Err rc) (Ok (Some y)) = ⊥
IsMaybe none (Err rc) (Ok None) = rc ≡ none
IsMaybe none (Err rc) (Err fault) = IsFault rc fault

-- an equal answer may be the same
pub maybe_by : {A : Type 0} (none : Rc) (l : Look (Option A)) {a b : Result A Rc} → a ≡ b
    → IsMaybe none b l → IsMaybe none a l
maybe_by {A} none l same looked = subst (λ (r : Result A Rc). IsMaybe none r l) (sym same) looked

-- ---- a thread's record

-- what inquiries answer of a thread whose record is that of this number
module _ (w : List ℕ) (memory : Words) (h : Held) (i : ℕ) (at : h.addr ≡ thread_address w i) where
  -- its state
  pub state_there : (t : Option Held) → answer_on memory (object_of w Thread t) ≡ Ok h
      → IsMaybe NeedsStateTracking (answer_on memory (state w t)) (look_state w memory i)
  unfolding state and_then
  state_there t answers =
      let debug_word : Reads ℕ = word_of w (runtime_address w) RuntimeDebug 0 in
      let read : answer_on memory (state w t)
      ≡ answer_on memory (after (answer_on memory debug_word) (kept h.addr)) =
      then_answered memory (object_of w Thread t) (λ thread. then_reads debug_word (kept thread.addr))
      h answers
      ∙ answer_then memory debug_word (kept h.addr) in
      maybe_by NeedsStateTracking (look_state w memory i) read
      (by_debug (answer_on memory debug_word) (read_runtime w memory RuntimeDebug)
      (word_is_looked w memory (runtime_address w) RuntimeDebug 0))
    where
      parted : ℕ → Reads (ℕ × ℕ)
      parted word = Answer (Ok (state_of word, wait_of word))

      look_parted : ℕ → Look (Option (ℕ × ℕ))
      look_parted word = Ok (Some (state_of word, wait_of word))

      -- by whether no states are kept
      kept_unless : ℕ → Bool → Reads (ℕ × ℕ)
      kept_unless address untracked =
          cond untracked (Answer (Err NeedsStateTracking))
          (then_reads (word_of w address ThreadState 0) parted)

      look_unless : Bool → Look (Option (ℕ × ℕ))
      look_unless untracked =
          cond untracked (Ok None) (and_then (read_thread w memory i ThreadState) look_parted)

      kept : ℕ → ℕ → Reads (ℕ × ℕ)
      kept address debug = kept_unless address (debug == 0)

      by_word : (a : Result ℕ Rc) (l : Look ℕ) → ValueIs a l
          → IsMaybe NeedsStateTracking (answer_on memory (after a parted)) (and_then l look_parted)
      by_word (Ok x) (Ok y) same = ap (λ word. (state_of word, wait_of word)) same
      by_word (Ok x) (Err fault) same = absurd same
      by_word (Err rc) (Ok y) same = absurd same
      by_word (Err rc) (Err fault) same = same

      here : (untracked : Bool)
          → IsMaybe NeedsStateTracking (answer_on memory (kept_unless h.addr untracked))
          (look_unless untracked)
      here true = refl
      here false =
          let state_word : Reads ℕ = word_of w h.addr ThreadState 0 in
          maybe_by NeedsStateTracking (look_unless false) (answer_then memory state_word parted)
          (by_word (answer_on memory state_word) (read_thread w memory i ThreadState)
          (word_there w memory ThreadState 0 at))

      by_debug : (a : Result ℕ Rc) (l : Look ℕ) → ValueIs a l
          → IsMaybe NeedsStateTracking (answer_on memory (after a (kept h.addr)))
          (and_then l (λ debug. look_unless (debug == 0)))
      by_debug (Ok x) (Ok y) same =
          subst
          (λ z. IsMaybe NeedsStateTracking (answer_on memory (kept h.addr x)) (look_unless (z == 0)))
          same (here (x == 0))
      by_debug (Ok x) (Err fault) same = absurd same
      by_debug (Err rc) (Ok y) same = absurd same
      by_debug (Err rc) (Err fault) same = same

  -- its number in the team of its current task
  pub number_there : (current : Option Id) → look_current w memory i ≡ Ok current
      → IsMaybe Unavailable (answer_on memory (number_in w MemberNumber h.addr))
      (optional (λ k. read_task w memory k TaskNumber) current)
  unfolding member_number and_then
  number_there current now =
      maybe_by Unavailable (optional (λ k. read_task w memory k TaskNumber) current)
      (answer_then memory followed word) (go (answer_on memory followed) refl current looked)
    where
      followed : Reads Held
      followed = follow_some w Task h.addr ThreadCurrent

      word : Held → Reads ℕ
      word task = word_of w task.addr TaskNumber 0

      looked : IsOptional w (answer_on memory followed) (Ok current)
      looked =
          subst (λ (l : Look (Option Id)). IsOptional w (answer_on memory followed) l) now
          (optional_there w memory Task ThreadCurrent at)

      value : (a : Result ℕ Rc) (l : Look ℕ) → ValueIs a l
          → IsMaybe Unavailable a (and_then l (λ y. Ok (Some y)))
      value (Ok x) (Ok y) same = same
      value (Ok x) (Err fault) same = absurd same
      value (Err rc) (Ok y) same = absurd same
      value (Err rc) (Err fault) same = same

      go : (a : Result Held Rc) → a ≡ answer_on memory followed
          → (current : Option Id) → IsOptional w a (Ok current)
          → IsMaybe Unavailable (answer_on memory (after a word))
          (optional (λ k. read_task w memory k TaskNumber) current)
      go (Ok task) from (Some k) named =
          let of_kind : task.kind ≡ Task =
          some_kind w memory Task h.addr ThreadCurrent task (sym from) in
          let there : task.addr ≡ id_address w tasks k =
          named_address w task k named ∙ ap (λ kind. id_address w (record_kind kind) k) of_kind in
          value (answer_on memory (word task)) (read_task w memory k TaskNumber)
          (word_there w memory TaskNumber 0 there)
      go (Ok task) from None named = absurd named
      go (Err rc) from (Some k) named = absurd named
      go (Err rc) from None named = named

module _ {C F : Type 0} (told : C → Told) (s : Opened C F) (t : ThreadHandle) (n : Id)
    (st : Stands told s Thread (thread_pair t) n) where
  -- it is where the thread of this number has it
  pub thread_at : id_address s.layout threads n ≡ thread_address s.layout n.creator
  thread_at = go (slot_at s.layout (record_kind st.object.kind) st.object.addr) refl st.met.name
    where
      named : ℕ × ℕ → Id
      named at = record { creator = at.0; slot = at.1; generation = st.object.life / 2 }

      go : (o : Option (ℕ × ℕ)) → slot_at s.layout (record_kind st.object.kind) st.object.addr ≡ o
          → option_map named o ≡ Some n
          → id_address s.layout threads n ≡ thread_address s.layout n.creator
      go None e is = absurd (cc)
      go (Some at) e is =
          let there = slot_is s.layout (record_kind st.object.kind) st.object.addr at e in
          let same : named at ≡ n = cc in
          let low : at.1 < 1 =
          subst (λ k. at.1 < per_thread s.layout (record_kind k)) st.met.of_kind there.0.within in
          let here : at.1 ≡ n.slot = ap (λ (m : Id). m.slot) same in
          let slot : n.slot ≡ 0 = omega (arith, low, here) in
          ap (slot_address s.layout threads n.creator) slot

  -- where its record stands
  record_at : st.object.addr ≡ thread_address s.layout n.creator
  record_at = stands_at told s Thread (thread_pair t) n st ∙ thread_at

  module _ (memory : Words) (tells : Tells (told s.table.calls) memory) where
    -- the state of the thread
    pub state_looked : IsMaybe NeedsStateTracking
        (answer_on memory (state s.layout (get s.handles.held (thread_pair t))))
        (look_state s.layout memory n.creator)
    state_looked =
        state_there s.layout memory st.object n.creator record_at (get s.handles.held (thread_pair t))
        (object_answers told s Thread (thread_pair t) n st memory tells)

    -- its number in the team of its current task
    pub number_looked : (icv : ℕ) (v : Variable) (current : Option Id)
        → variable_in (scope_of (scoped.Thread t)) icv ≡ Ok v → v.source ≡ MemberNumber
        → look_current s.layout memory n.creator ≡ Ok current
        → IsMaybe Unavailable
        (answer_on memory (icv_from_scope s.layout (get s.handles.held) (scoped.Thread t) icv))
        (optional (λ k. read_task s.layout memory k TaskNumber) current)
    number_looked icv v current is source now =
        let record_is = record_answers told s Thread (thread_pair t) n st memory tells in
        maybe_by Unavailable (optional (λ k. read_task s.layout memory k TaskNumber) current)
        (sourced_answers s.layout memory (get s.handles.held) (scoped.Thread t) icv st.object.addr v
        MemberNumber record_is is source)
        (number_there s.layout memory st.object n.creator record_at current now)

-- ---- a thread that was found and let go

module _ {C F : Type 0} (told : C → Told) (old mid new : Opened C F) (native : ℕ) (pair : ℕ × ℕ)
    (valid : IsValid old.layout)
    (stays : Stays told old mid) (layout : new.layout ≡ mid.layout) (table : new.table ≡ mid.table) where
  pub thread_lives : (m : Met) → get mid.handles.held pair ≡ Some m.held → m.held.kind ≡ Thread
      → IsNamed mid.layout m.held → name_of mid.layout m.held ≡ Some m.name
      → IsMadeOf (told old.table.calls) mid.handles (Ok pair) (thread_with old.layout 0 native)
      → IsMet told new Thread m
  thread_lives m there of_kind place name answered = record {
    of_kind = of_kind;
    place = subst (λ w. IsNamed w m.held) (sym layout) place;
    name = ap (λ w. name_of w m.held) layout ∙ name;
    lives = λ memory t.
        let same_table = sym (ap (λ (t : Kept C F). told t.calls) table ∙ stays.table.same) in
        let then : Tells (told old.table.calls) memory =
        still_tells (told new.table.calls) (told old.table.calls) memory same_table t in
        let name_before = ap (λ w. name_of w m.held) (sym stays.layout) ∙ name in
        let found =
        found_thread old.layout memory mid.handles pair m.held m.name
        (answer_on memory (thread_with old.layout 0 native))
        (look_for old.layout memory native (range_with_len 0 (thread_count old.layout))) valid
        there name_before (answered memory then) (thread_found old.layout memory native) in
        let here : IsNamed old.layout m.held = subst (λ w. IsNamed w m.held) stays.layout place in
        subst (λ w. answer_on memory (unchanged w m.held) ≡ Ok m.held) (sym (layout ∙ stays.layout))
        (lives_at old.layout memory m.held of_kind here found.1);
  }
    where
      lives_at : (w : List ℕ) (memory : Words) (h : Held) → h.kind ≡ Thread → IsNamed w h
          → memory (place_of w h.addr ThreadLife 0) ≡ Some h.life
          → answer_on memory (unchanged w h) ≡ Ok h
      lives_at w memory h is named there =
          let same : record { kind = Thread; addr = h.addr; life = h.life } ≡ h = λ i. record {
            kind = sym is i;
            addr = h.addr;
            life = h.life;
          } in
          subst (λ (k : Held). answer_on memory (unchanged w k) ≡ Ok k) same
          (unchanged_told w memory Thread h.life h.addr (record {
            place = subst (λ k. is_some (slot_at w (record_kind k) h.addr) ≡ true) is named.place;
            word = there;
            live = subst (λ k. is_live (record_kind k) h.life ≡ true) is named.live;
          }))
