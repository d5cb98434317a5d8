-- What a walk asks about threads is a plain look at their records.
use Rattle.std.proofs.Common.{◌≡◌, ◌<◌, ℕ, List, [], ◌∷◌, ◌++◌, Option, Some, None, map, refl, sym, ap, subst, ◌∙◌, arith}
use Rattle.std.specs.List.{range_with_len, flat_map, cons_option}
use Rattle.std.specs.Option.{option_map}
use Rattle.std.specs.Prelude.{Result, Ok, Err, is_some}
use Rattle.std.proofs.lemmas.List.{map-append}
use Rattle.omi_word.specs.Words.{Words}
use Rattle.omi_numbers.specs.declared.variables.TheConstants.{THREAD_NUM_VAR}
use Rattle.omi_handle.specs.declared.handle.Kind.TheVariants.{Thread, Task}
use Rattle.omi_handle.specs.declared.handle.Held.{Held}
use Rattle.omi_icv.specs.declared.scoped.Scoped.{Scoped}
use Rattle.omi_icv.specs.declared.scoped.Scoped.TheVariants as scoped
use Rattle.omi_icv.specs.Icvs.{icv_from_scope}
use Rattle.omi_icv.specs.StateWords.{state}
use Rattle.omi_layout.specs.declared.field.Field.TheVariants.{ThreadLife, ThreadCurrent, TaskNumber}
use Rattle.omi_layout.specs.Field.{threads}
use Rattle.omi_layout.specs.Table.{thread_count}
use Rattle.omi_layout.specs.Valid.{IsValid}
use Rattle.omi_model.specs.declared.id.Id.{Id}
use Rattle.omi_model.specs.declared.view.ThreadPart.{ThreadPart}
use Rattle.omi_model.specs.declared.view.ThreadRow.{ThreadRow}
use Rattle.omi_rep.specs.declared.fault.LookFault.{LookFault}
use Rattle.omi_rep.specs.declared.fault.LookFault.TheVariants as look
use Rattle.omi_rep.specs.Look.{Look, and_then, mapped, each, optional}
use Rattle.omi_rep.specs.LookView.{look_for, look_state, look_current, look_part, look_thread, read_task, found_threads}
use Rattle.omi_rep.specs.Records.{thread_address}
use Rattle.omi_rep.proofs.Slots.{slot_found}
use Rattle.omi_session.specs.declared.rc.Rc.{Rc}
use Rattle.omi_session.specs.declared.rc.Rc.TheVariants.{Unavailable, NeedsStateTracking}
use Rattle.omi_session.specs.Handles.{name_of}
use Rattle.omi_session.specs.Inquiry.{place_of, unchanged, current_task}
use Rattle.omi_session.specs.Looked.{IsFault}
use Rattle.omi_session.specs.Reads.{Reads, answer_on, after}
use Rattle.omi_session.proofs.ShownParts.{unchanged_told}
use Rattle.omi_session.proofs.Slots.{kind_is}
use Rattle.omi_ask.specs.Threads.{begun, thread_with}
use Rattle.omi_walk.specs.declared.fault.WalkFault.{WalkFault}
use Rattle.omi_walk.specs.declared.found.Found.{Found}
use Rattle.omi_walk.specs.declared.met.Met.{Met}
use Rattle.omi_walk.specs.declared.threads.SeenPart.{SeenPart}
use Rattle.omi_walk.specs.declared.threads.SeenThread.{SeenThread}
use Rattle.omi_walk.specs.declared.thread_rows.SeenThreads.{SeenThreads}
use Rattle.omi_walk.specs.AskLooked.{as_fault}
use Rattle.omi_walk.specs.Asking.{ask_each, maybe_absent, maybe_untracked, met}
use Rattle.omi_walk.specs.AskThreads.{all_seen, ask_thread_with, ask_state, ask_current, ask_number, ask_part, ask_found, ask_thread, ask_threads}
use Rattle.omi_walk.specs.Fault.{absent}
use Rattle.omi_walk.specs.SeenThreads.{found_in}
use Rattle.omi_walk.proofs.AskedLooks.{Alike, Same, AllAlike, Lives, IsObject, MaybeObject, alike_then, alike_on, alike_map, alike_with, alike_each, alike_follow_some, found_object, some_met, maybe_answers, maybe_refused, object_answers}
use Rattle.omi_walk.proofs.AskedChains.{FoundIs}
use Rattle.omi_walk.proofs.AskedRows.{name_same}
use Rattle.omi_walk.proofs.AskedWords.{record_answers}
use Rattle.omi_walk.proofs.Goes.{answer_answering}
use Rattle.omi_walk.proofs.ThreadLooks.{IsFound, IsMaybe, thread_found, maybe_by, state_there, number_there}
use Rattle.omi_walk.proofs.WordLooks.{variable_answers}

-- the name of a thread that has begun
abbrev pub thread_id : ℕ → Id
thread_id i = record { creator = i; slot = 0; generation = 0 }

-- ---- what there may be

maybe_fault : {A : Type 0} (none : Rc) (change : Result A Rc → Result (Option A) WalkFault)
    → ((rc : Rc) (fault : LookFault) → IsFault rc fault → change (Err rc) ≡ Err (as_fault fault))
    → ((x : A) → change (Ok x) ≡ Ok (Some x)) → change (Err none) ≡ Ok None
    → (a : Result A Rc) (l : Look (Option A)) → IsMaybe none a l → Alike Same (change a) l
maybe_fault none change refused given absent (Ok x) (Ok (Some y)) is =
    subst (λ a. Alike Same a (Ok (Some y))) (sym (given x)) (ap Some is)
maybe_fault none change refused given absent (Ok x) (Ok None) is = absurd is
maybe_fault none change refused given absent (Ok x) (Err fault) is = absurd is
maybe_fault none change refused given absent (Err rc) (Ok (Some y)) is = absurd is
maybe_fault {A} none change refused given absent (Err rc) (Ok None) is =
    subst (λ (a : Result (Option A) WalkFault). Alike Same a (Ok None))
    (sym (ap (λ c. change (Err c)) is ∙ absent)) refl
maybe_fault {A} none change refused given absent (Err rc) (Err fault) is =
    subst (λ (a : Result (Option A) WalkFault). Alike Same a (Err fault))
    (sym (refused rc fault is)) refl

absent_fault : {A : Type 0} (found : Option Held) (rc : Rc) (fault : LookFault) → IsFault rc fault
    → maybe_absent {A = A} found (Err rc) ≡ Err (as_fault fault)
absent_fault {A} found rc (look.Damaged addr field) is =
    ap (λ c. maybe_absent {A = A} found (Err c)) is
absent_fault found rc (look.Cycle addr) is = absurd is

untracked_fault : {A : Type 0} (found : Option Held) (rc : Rc) (fault : LookFault) → IsFault rc fault
    → maybe_untracked {A = A} found (Err rc) ≡ Err (as_fault fault)
untracked_fault {A} found rc (look.Damaged addr field) is =
    ap (λ c. maybe_untracked {A = A} found (Err c)) is
untracked_fault found rc (look.Cycle addr) is = absurd is

module _ (w : List ℕ) (memory : Words) where
  -- ---- the thread with a native id

  thread_named : IsValid w → (i : ℕ) → i < thread_count w → name_of w (begun w i) ≡ Some (thread_id i)
  thread_named valid i low =
      ap (option_map (λ (at : ℕ × ℕ). record { creator = at.0; slot = at.1; generation = 0 }))
      (slot_found w valid threads (kind_is Thread) i 0 (record { made_by = low; within = omega arith }))

  -- the thread that was met is the one of this number
  abbrev pub ThreadAs : Option Met → Option ℕ → Type 0
  ThreadAs o i = MaybeObject w memory Thread o (option_map thread_id i)

  pub alike_thread_with : IsValid w → (native : ℕ)
      → Alike ThreadAs (answer_on memory (ask_thread_with w native))
      (look_for w memory native (range_with_len 0 (thread_count w)))
  alike_thread_with valid native =
      let l : Look (Option ℕ) = look_for w memory native (range_with_len 0 (thread_count w)) in
      subst (λ (a : Result (Option Met) WalkFault). Alike ThreadAs a l)
      (sym (maybe_answers w memory Thread None (thread_with w 0 native)))
      (go (answer_on memory (thread_with w 0 native)) l (thread_found w memory native))
    where
      -- what is met of an answer
      met_of : Result Held Rc → Result (Option Met) WalkFault
      met_of a = answer_on memory (after (maybe_absent None a) (some_met w memory Thread))

      lives : (i : ℕ) → i < thread_count w
          → memory (place_of w (thread_address w i) ThreadLife 0) ≡ Some 1
          → answer_on memory (unchanged w (begun w i)) ≡ Ok (begun w i)
      lives i low there =
          let slot = slot_found w valid threads (kind_is Thread) i 0 (record {
            made_by = low;
            within = omega arith;
          }) in
          unchanged_told w memory Thread 1 (thread_address w i) (record {
            place = ap (λ o. is_some o) slot;
            word = there;
            live = refl;
          })

      go : (a : Result Held Rc) (l : Look (Option ℕ)) → IsFound w memory a l
          → Alike ThreadAs (met_of a) l
      go (Ok h) (Ok (Some i)) found =
          subst (λ h. IsObject w memory Thread (met w h) (thread_id i)) (sym found.0)
          (found_object w memory Thread (begun w i) (thread_id i) (thread_named valid i found.2)
          (lives i found.2 found.1) refl)
      go (Ok h) (Ok None) found = absurd found
      go (Ok h) (Err fault) found = absurd found
      go (Err rc) (Ok (Some i)) found = absurd found
      go (Err rc) (Ok None) found =
          subst (λ c. Alike ThreadAs (met_of (Err c)) (Ok None)) (sym found) tt
      go (Err rc) (Err fault) found = maybe_refused w memory Thread ThreadAs None rc fault found

  -- ---- a thread

  -- what is seen of the thread of this number, and its current task
  abbrev pub PartAs : ℕ → SeenPart → ThreadPart → Type 0
  PartAs i seen part =
      (seen.part ≡ part) × (seen.part.thread ≡ i)
      × FoundIs w memory (record { thread = i; current = seen.current })

  module _ (h : Held) (i : ℕ) (st : Lives w memory Thread h (thread_id i)) where
    pub alike_state : Alike Same (answer_on memory (ask_state w (Some h))) (look_state w memory i)
    unfolding ask_state
    alike_state =
        let inquiry : Reads (ℕ × ℕ) = state w (Some h) in
        let looked =
        state_there w memory h i st.at (Some h) (object_answers w memory Thread h (thread_id i) st) in
        subst (λ (a : Result (Option (ℕ × ℕ)) WalkFault). Alike Same a (look_state w memory i))
        (sym (answer_answering memory (maybe_untracked (Some h)) inquiry))
        (maybe_fault NeedsStateTracking (maybe_untracked (Some h)) (untracked_fault (Some h))
        (λ x. refl) refl (answer_on memory inquiry) (look_state w memory i) looked)

    pub alike_current : Alike (MaybeObject w memory Task) (answer_on memory (ask_current w (Some h)))
        (look_current w memory i)
    unfolding current_task
    alike_current =
        alike_follow_some w memory Thread h (thread_id i) st Task ThreadCurrent
        (current_task w (Some h)) refl

    pub alike_number : (current : Option Id) → look_current w memory i ≡ Ok current
        → Alike Same (answer_on memory (ask_number w (Some h)))
        (optional (λ k. read_task w memory k TaskNumber) current)
    unfolding ask_number
    alike_number current now =
        let this_thread : Scoped = scoped.Thread (record { key = 0; serial = 0 }) in
        let inquiry : Reads ℕ = icv_from_scope w (λ _. Some h) this_thread THREAD_NUM_VAR in
        let l : Look (Option ℕ) = optional (λ k. read_task w memory k TaskNumber) current in
        let read =
        variable_answers w memory (λ _. Some h) this_thread THREAD_NUM_VAR h.addr _
        (record_answers w memory Thread h (thread_id i) st) refl in
        let looked : IsMaybe Unavailable (answer_on memory inquiry) l =
        maybe_by Unavailable l read (number_there w memory h i st.at current now) in
        subst (λ (a : Result (Option ℕ) WalkFault). Alike Same a l)
        (sym (answer_answering memory (maybe_absent (Some h)) inquiry))
        (maybe_fault Unavailable (maybe_absent (Some h)) (absent_fault (Some h)) (λ x. refl) refl
        (answer_on memory inquiry) l looked)

    pub alike_part : Alike (PartAs i) (answer_on memory (ask_part w i (Some h))) (look_part w memory i)
    unfolding ask_part
    alike_part =
        alike_on (PartAs i) memory (ask_state w (Some h)) _ (look_state w memory i) _ alike_state
        (λ state e f.
        alike_then (MaybeObject w memory Task) (PartAs i) memory (ask_current w (Some h)) _
        (look_current w memory i) _ alike_current (λ current k e now is.
        alike_on (PartAs i) memory (ask_number w (Some h)) _
        (optional (λ k. read_task w memory k TaskNumber) k) _ (alike_number k now) (λ number e f. (
          (λ j. record {
            thread = i;
            state = state;
            number = number;
            current = option_map (λ (n : Id). record { 0 = n }) (name_same w memory Task current k is j);
          }),
          refl,
          record { current = k; looked = now; met = is },
        ))))

  -- ---- the rows of contexts

  -- each of these was found
  abbrev pub AreFound : List Found → Type 0
  AreFound [] = Unit {0}
  AreFound (f ∷ found) = FoundIs w memory f × AreFound found

  abbrev pub RowAs : SeenThread → ThreadRow → Type 0
  RowAs seen row = (seen.row ≡ row) × AreFound (found_in seen.row.found seen.current)

  pub alike_thread : IsValid w → (native : ℕ)
      → Alike RowAs (answer_on memory (ask_thread w native)) (look_thread w memory native)
  unfolding ask_thread ask_found and_then
  alike_thread valid native =
      alike_then ThreadAs RowAs memory (ask_thread_with w native) (ask_found w native)
      (look_for w memory native (range_with_len 0 (thread_count w))) _
      (alike_thread_with valid native) (λ o i e f is. go o i is)
    where
      with_part : Option ThreadPart → ThreadRow
      with_part part = record { native = native; found = part }

      rows : (l : Look ThreadPart)
          → mapped with_part (mapped (λ (y : ThreadPart). Some y) l)
          ≡ mapped (λ (part : ThreadPart). with_part (Some part)) l
      rows (Ok part) = refl
      rows (Err fault) = refl

      go : (o : Option Met) (i : Option ℕ) → ThreadAs o i
          → Alike RowAs (answer_on memory (ask_found w native o))
          (mapped with_part (optional (look_part w memory) i))
      go None None is = (refl, tt)
      go None (Some i) is = absurd is
      go (Some m) None is = absurd is
      go (Some m) (Some i) is =
          let number : m.name.creator ≡ i = ap (λ (n : Id). n.creator) is.name in
          let part =
          subst
          (λ c. Alike (PartAs i) (answer_on memory (ask_part w c (Some m.held))) (look_part w memory i))
          (sym number) (alike_part m.held i is.lives) in
          subst (λ l. Alike RowAs (answer_on memory (ask_found w native (Some m))) l)
          (sym (rows (look_part w memory i)))
          (alike_map (PartAs i) RowAs memory (ask_part w m.name.creator (Some m.held)) _
          (look_part w memory i) _ part (λ seen part e f both. (
            (λ j. record { native = native; found = Some (both.0 j) }),
            (
              subst (λ t. FoundIs w memory (record { thread = t; current = seen.current })) (sym both.1)
                  both.2,
              tt,
            ),
          )))

  pub all_rows : (seen : List SeenThread) (rows : List ThreadRow) → AllAlike RowAs seen rows
      → map (λ s. s.row) seen ≡ rows
  all_rows [] [] all = refl
  all_rows [] (row ∷ rows) all = absurd all
  all_rows (x ∷ seen) [] all = absurd all
  all_rows (x ∷ seen) (row ∷ rows) all = λ j. all.0.0 j ∷ all_rows seen rows all.1 j

  found_append : (xs ys : List Found) → AreFound xs → AreFound ys → AreFound (xs ++ ys)
  found_append [] ys one two = two
  found_append (x ∷ xs) ys one two = (one.0, found_append xs ys one.1 two)

  pub all_found : (seen : List SeenThread) (rows : List ThreadRow) → AllAlike RowAs seen rows
      → AreFound (flat_map (λ s. found_in s.row.found s.current) seen)
  all_found [] [] all = tt
  all_found [] (row ∷ rows) all = absurd all
  all_found (x ∷ seen) [] all = absurd all
  all_found (x ∷ seen) (row ∷ rows) all =
      found_append (found_in x.row.found x.current) _ all.0.1 (all_found seen rows all.1)

  -- the thread that a part of a row has
  abbrev thread_in : Option ThreadPart → Option ℕ
  thread_in o = option_map (λ (part : ThreadPart). part.thread) o

  -- they are the threads that the rows have
  number_in : (o : Option ThreadPart) (current : Option Met)
      → map (λ (f : Found). f.thread) (found_in o current) ≡ cons_option (thread_in o) []
  number_in None current = refl
  number_in (Some part) current = refl

  cons_append : (o : Option ℕ) (xs : List ℕ) → cons_option o [] ++ xs ≡ cons_option o xs
  cons_append None xs = refl
  cons_append (Some x) xs = refl

  pub all_threads : (seen : List SeenThread) (rows : List ThreadRow) → AllAlike RowAs seen rows
      → map (λ (f : Found). f.thread) (flat_map (λ s. found_in s.row.found s.current) seen)
      ≡ found_threads w memory rows
  all_threads [] [] all = refl
  all_threads [] (row ∷ rows) all = absurd all
  all_threads (x ∷ seen) [] all = absurd all
  all_threads (x ∷ seen) (row ∷ rows) all =
      let others : List ℕ = found_threads w memory rows in
      map-append (λ (f : Found). f.thread) (found_in x.row.found x.current)
      (flat_map (λ s. found_in s.row.found s.current) seen)
      ∙ (λ j. number_in x.row.found x.current j ++ all_threads seen rows all.1 j)
      ∙ cons_append (thread_in x.row.found) others
      ∙ ap (λ (row : ThreadRow). cons_option (thread_in row.found) others) all.0.0

  -- all rows, and what was found
  pub record ThreadsAs (seen : SeenThreads) (rows : List ThreadRow) : Type 0 where
    pub rows_are : seen.rows ≡ rows
    pub found : AreFound seen.found
    pub threads : map (λ (f : Found). f.thread) seen.found ≡ found_threads w memory rows

  pub alike_threads : IsValid w → (contexts : List ℕ)
      → Alike ThreadsAs (answer_on memory (ask_threads w contexts)) (each (look_thread w memory) contexts)
  unfolding ask_threads
  alike_threads valid contexts =
      alike_with (AllAlike RowAs) ThreadsAs memory (ask_each (ask_thread w) contexts) all_seen
      (each (look_thread w memory) contexts)
      (alike_each Same RowAs memory (ask_thread w) (look_thread w memory) (λ x z same.
      subst (λ z. Alike RowAs (answer_on memory (ask_thread w x)) (look_thread w memory z)) same
      (alike_thread valid x)) contexts contexts (same_all contexts))
      (λ seen rows e f all. record {
        rows_are = all_rows seen rows all;
        found = all_found seen rows all;
        threads = all_threads seen rows all;
      })
    where
      same_all : (xs : List ℕ) → AllAlike Same xs xs
      same_all [] = tt
      same_all (x ∷ xs) = (refl, same_all xs)
