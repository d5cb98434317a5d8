-- What the notes of threads add to ids, note by note and segment by segment.
use Rattle.std.proofs.Common.{◌≡◌, ◌⊎◌, inl, inr, ℕ, suc, ◌+◌, ◌<◌, ◌≤◌, ◌^◌, Bool, true, false, cond, leb, ltb, List, [], ◌∷◌, ◌++◌, length, take, drop, get_or, map, Option, Some, None, Err, refl, ap, sym, ◌∙◌, arith}
use Rattle.std.specs.Prelude.{find, not, ◌&&◌, if◌then◌else◌}
use Rattle.std.specs.Int.{w32}
use Rattle.std.proofs.lemmas.Bool.{le-leb, lt-ltb, le-ltb}
use Rattle.std.proofs.lemmas.List.{append-nil, append_assoc, drop_more}
use Rattle.omi_elf.specs.Header.{field, is_note_segment}
use Rattle.omi_elf.specs.Notes.{NotePlace, description_place, is_last_read, is_ours, is_status, n_descsz, notes_from, notes_in}
use Rattle.omi_elf.specs.Found.{IsReadPlace}
use Rattle.omi_elf.specs.declared.fault.ElfReadError.{ElfReadError}
use Rattle.omi_elf.specs.declared.fault.ElfReadError.TheVariants as read
use Rattle.omi_elf.specs.declared.program_header.ProgramHeader.{ProgramHeader}
use Rattle.omi_elf.proofs.NoteSegments.{no_header}
use Rattle.omi_elf.proofs.Within.{field_within}
use Rattle.omi_process.specs.Ids.{first_untold, pr_pid, statuses_in, tells_thread, thread_at}
use Rattle.omi_process.specs.Outcomes.{IsGathered, process_error_of}
use Rattle.omi_process.specs.Reading.{Gathered, Told, Untold, Cut, gathered, notes_of}
use Rattle.omi_process.specs.declared.fault.ProcessError.{ProcessError}
use Rattle.omi_process.specs.declared.fault.ProcessError.TheVariants.{Fault, Failed, OutOfMemory}
use Rattle.omi_process.specs.declared.fault.ProcessFault.TheVariants.{Elf, ManyHeaders, NoThreads, BadThread}
use Rattle.omi_process.specs.declared.limits.TheConstants.{PID_PLACE, PID_END}

-- ---- the id of one note

-- four bytes of the file have it
pub pid_is : (order : ℕ) (bytes piece : List ℕ) (place at : ℕ) → length piece ≡ 4 → piece ≡ take 4 (drop place bytes)
    → place ≡ description_place order bytes at + PID_PLACE → field w32 order piece 0 ≡ pr_pid order bytes at
pid_is order bytes piece place at four is there =
    field_within w32 order bytes piece place 0 (is ∙ ap (λ (n : ℕ). take n (drop place bytes)) (sym four)) (omega (arith, four))
    ∙ ap (field w32 order bytes) (omega (arith, there))

module _ (order : ℕ) (bytes : List ℕ) (at pid : ℕ) (is : pid ≡ pr_pid order bytes at) where
  pub told_thread : PID_END ≤ n_descsz order bytes at → 0 < pid → pid < 2 ^ 31 → thread_at order bytes at ≡ Some pid
  told_thread long above below =
      let a = le-leb PID_END (n_descsz order bytes at) long in
      let b = lt-ltb 0 (pr_pid order bytes at) (omega (arith, is, above)) in
      let c = lt-ltb (pr_pid order bytes at) (2 ^ 31) (omega (arith, is, below)) in
      rw (a, b, c) (ap Some (sym is))

  pub no_pid : (pid ≡ 0) ⊎ (2 ^ 31 ≤ pid) → thread_at order bytes at ≡ None
  no_pid (inl zero_is) = let b = le-ltb 0 (pr_pid order bytes at) (omega (arith, is, zero_is)) in
      first (leb PID_END (n_descsz order bytes at)) (ltb 0 (pr_pid order bytes at)) (ltb (pr_pid order bytes at) (2 ^ 31)) b
    where
      first : (x y z : Bool) → y ≡ false → (if x && y && z then Some (pr_pid order bytes at) else None) ≡ None
      first true y z e = rw e refl
      first false y z e = refl
  no_pid (inr high) = let c = le-ltb (pr_pid order bytes at) (2 ^ 31) (omega (arith, is, high)) in
      last (leb PID_END (n_descsz order bytes at)) (ltb 0 (pr_pid order bytes at)) (ltb (pr_pid order bytes at) (2 ^ 31)) c
    where
      last : (x y z : Bool) → z ≡ false → (if x && y && z then Some (pr_pid order bytes at) else None) ≡ None
      last true true z e = rw e refl
      last true false z e = refl
      last false y z e = refl

-- ---- one note

module _ (order : ℕ) (bytes ids : List ℕ) (at : ℕ) (more : List NotePlace) where
  -- another note adds nothing
  pub no_status : is_status order bytes at ≡ false → gathered order bytes ids (Some at ∷ more) ≡ gathered order bytes ids more
  no_status e = rw e refl

  -- that of a thread adds its id
  pub one_thread : (id : ℕ) → is_status order bytes at ≡ true → thread_at order bytes at ≡ Some id
      → gathered order bytes ids (Some at ∷ more) ≡ gathered order bytes (ids ++ id ∷ []) more
  one_thread id e there = rw e (go (tells_thread order bytes at) there)
    where
      go : (told : Bool) → (if told then Some (pr_pid order bytes at) else None) ≡ Some id
          → (if told then gathered order bytes (ids ++ pr_pid order bytes at ∷ []) more else Untold at)
          ≡ gathered order bytes (ids ++ id ∷ []) more
      go true is = let one : pr_pid order bytes at ≡ id = cc in rw one refl
      go false is = absurd cc

  -- or tells none
  pub no_thread : is_status order bytes at ≡ true → thread_at order bytes at ≡ None
      → gathered order bytes ids (Some at ∷ more) ≡ Untold at
  no_thread e there = rw e (go (tells_thread order bytes at) there)
    where
      go : (told : Bool) → (if told then Some (pr_pid order bytes at) else None) ≡ None
          → (if told then gathered order bytes (ids ++ pr_pid order bytes at ∷ []) more else Untold at) ≡ Untold at
      go true is = absurd cc
      go false is = refl

-- the file ends inside the note at a place, or a read of it failed
pub stopped : (order : ℕ) (bytes ids : List ℕ) (place room most : ℕ) (e : ElfReadError) (all : Gathered)
    → gathered order bytes ids (notes_from order bytes (suc most) place room) ≡ all
    → IsReadPlace order bytes place room (Err e) → IsGathered order bytes (Err (process_error_of e)) ids all
stopped order bytes ids place room most (read.Fault at why) all is cut = sym is ∙ ap (gathered order bytes ids) (cut.1 most)
stopped order bytes ids place room most read.Failed all is cut = tt
stopped order bytes ids place room most read.OutOfMemory all is cut = tt

-- ---- the notes of one segment, and then those of the others

module _ (order : ℕ) (bytes : List ℕ) where
  abbrev pub onward : Gathered → List NotePlace → Gathered
  onward (Told ids) more = gathered order bytes ids more
  onward (Untold at) more = Untold at
  onward Cut more = Cut

  pub gathered-append : (places more : List NotePlace) (ids : List ℕ)
      → gathered order bytes ids (places ++ more) ≡ onward (gathered order bytes ids places) more
  gathered-append [] more ids = refl
  gathered-append (None ∷ places) more ids = refl
  gathered-append (Some at ∷ places) more ids =
      by_status (gathered-append places more ids) (gathered-append places more (ids ++ pr_pid order bytes at ∷ []))
      (is_status order bytes at) (tells_thread order bytes at)
    where
      by_status : gathered order bytes ids (places ++ more) ≡ onward (gathered order bytes ids places) more
          → gathered order bytes (ids ++ pr_pid order bytes at ∷ []) (places ++ more)
          ≡ onward (gathered order bytes (ids ++ pr_pid order bytes at ∷ []) places) more
          → (status tells : Bool)
          → (if status then (if tells then gathered order bytes (ids ++ pr_pid order bytes at ∷ []) (places ++ more) else Untold at)
          else gathered order bytes ids (places ++ more))
          ≡ onward (if status then (if tells then gathered order bytes (ids ++ pr_pid order bytes at ∷ []) places else Untold at)
          else gathered order bytes ids places) more
      by_status same added true true = added
      by_status same added true false = refl
      by_status same added false tells = same

  -- of a list of segments, from a place on
  module _ (headers : List ProgramHeader) (i : ℕ) (lt : i < length headers) where
    pub in_others : (ids : List ℕ) → is_note_segment (get_or headers i no_header) ≡ false
        → gathered order bytes ids (notes_of order bytes (drop (i + 1) headers))
        ≡ gathered order bytes ids (notes_of order bytes (drop i headers))
    in_others ids e =
        sym (ap (λ hs. gathered order bytes ids (notes_of order bytes hs)) (drop_more headers i no_header lt) ∙ rw e refl)

    pub in_segment : (ids : List ℕ) → is_note_segment (get_or headers i no_header) ≡ true
        → gathered order bytes ids (notes_of order bytes (drop i headers))
        ≡ onward (gathered order bytes ids (notes_in order bytes (get_or headers i no_header))) (notes_of order bytes (drop (i + 1) headers))
    in_segment ids e =
        ap (λ hs. gathered order bytes ids (notes_of order bytes hs)) (drop_more headers i no_header lt)
        ∙ rw e (gathered-append (notes_in order bytes (get_or headers i no_header)) (notes_of order bytes (drop (i + 1) headers)) ids)

  -- what one segment refuses is refused of all
  pub refused_in : (e : ProcessError) (ids : List ℕ) (one all : Gathered) (more : List NotePlace) → onward one more ≡ all
      → IsGathered order bytes (Err e) ids one → IsGathered order bytes (Err e) ids all
  refused_in (Fault at (BadThread place)) ids one all more is (note, found, at_is, place_is) =
      (note, sym is ∙ ap (λ x. onward x more) found, at_is, place_is)
  refused_in (Fault at (Elf why)) ids one all more is found = sym is ∙ ap (λ x. onward x more) found
  refused_in (Fault at ManyHeaders) ids one all more is found = found
  refused_in (Fault at NoThreads) ids one all more is found = found
  refused_in Failed ids one all more is found = tt
  refused_in OutOfMemory ids one all more is found = tt

  -- ---- all notes, where the file has each of them whole and none is ours

  abbrev pub told_by : Option ℕ → List ℕ → Gathered
  told_by None ids = Told ids
  told_by (Some at) ids = Untold at

  not_found : {X : Type 0} (b : Bool) (x : X) (o : Option X) → cond b (Some x) o ≡ None → o ≡ None
  not_found true x o e = absurd cc
  not_found false x o e = e

  pub gathered_is : (places : List NotePlace) (ids : List ℕ) → find (is_last_read order bytes) places ≡ None
      → gathered order bytes ids places
      ≡ told_by (first_untold order bytes (statuses_in order bytes places)) (ids ++ map (pr_pid order bytes) (statuses_in order bytes places))
  gathered_is [] ids none = ap Told (sym (append-nil ids))
  gathered_is (None ∷ places) ids none = absurd cc
  gathered_is (Some at ∷ places) ids none =
      let behind = not_found (is_ours order bytes at) (Some at) (find (is_last_read order bytes) places) none in
      by_status
      (by_tells (gathered_is places (ids ++ pr_pid order bytes at ∷ []) behind) (tells_thread order bytes at))
      (gathered_is places ids behind) (is_status order bytes at)
    where
      rest : List ℕ
      rest = statuses_in order bytes places

      by_tells : gathered order bytes (ids ++ pr_pid order bytes at ∷ []) places
          ≡ told_by (first_untold order bytes rest) ((ids ++ pr_pid order bytes at ∷ []) ++ map (pr_pid order bytes) rest)
          → (tells : Bool)
          → (if tells then gathered order bytes (ids ++ pr_pid order bytes at ∷ []) places else Untold at)
          ≡ told_by (cond (not tells) (Some at) (first_untold order bytes rest)) (ids ++ pr_pid order bytes at ∷ map (pr_pid order bytes) rest)
      by_tells is true = is ∙ ap (told_by (first_untold order bytes rest)) (append_assoc ids (pr_pid order bytes at ∷ []) (map (pr_pid order bytes) rest))
      by_tells is false = refl

      by_status : (if tells_thread order bytes at then gathered order bytes (ids ++ pr_pid order bytes at ∷ []) places else Untold at)
          ≡ told_by (first_untold order bytes (at ∷ rest)) (ids ++ pr_pid order bytes at ∷ map (pr_pid order bytes) rest)
          → gathered order bytes ids places ≡ told_by (first_untold order bytes rest) (ids ++ map (pr_pid order bytes) rest)
          → (status : Bool)
          → (if status then (if tells_thread order bytes at then gathered order bytes (ids ++ pr_pid order bytes at ∷ []) places else Untold at)
          else gathered order bytes ids places)
          ≡ told_by (first_untold order bytes (cond status (at ∷ rest) rest)) (ids ++ map (pr_pid order bytes) (cond status (at ∷ rest) rest))
      by_status told same true = told
      by_status told same false = same
