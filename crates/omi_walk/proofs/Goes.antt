-- A walk goes on from one inquiry to the next: what is left to read after those so far.
use Rattle.std.proofs.Common.{◌≡◌, ◌≢◌, ◌⊎◌, inl, inr, ℕ, List, Option, Some, refl, sym, ap, subst, ◌∙◌}
use Rattle.std.specs.FinMap.{get}
use Rattle.std.specs.Prelude.{Result, Ok, Err, IsErrAnd, IsOk}
use Rattle.std.proofs.lemmas.Result.{err_from_is_err_and}
use Rattle.omi_word.specs.Words.{Words}
use Rattle.omi_calls.specs.Asked.{Asked, Word, asked_after}
use Rattle.omi_calls.specs.Kept.{Kept}
use Rattle.omi_calls.specs.Told.{Told}
use Rattle.omi_handle.specs.declared.handle.Held.{Held}
use Rattle.omi_handle.specs.Ledger.{Ledger}
use Rattle.omi_session.specs.declared.rc.Rc.{Rc}
use Rattle.omi_session.specs.declared.rc.Rc.TheVariants.{NoMem, CallbackError}
use Rattle.omi_session.specs.Made.{StandsFor, Answered}
use Rattle.omi_session.specs.Opened.{Opened, Stays}
use Rattle.omi_session.specs.Reads.{ReadsOr, Reads, Answer, Read, Ran, RanSome, answer_on, after, then_reads, Answers}
use Rattle.omi_session.specs.Tells.{Tells}
use Rattle.omi_session.proofs.Asked.{ran_is, ran_refused, ran_then}
use Rattle.omi_session.proofs.Told.{still_tells}
use Rattle.omi_walk.specs.declared.fault.WalkFault.{WalkFault}
use Rattle.omi_walk.specs.declared.fault.WalkFault.TheVariants.{Callback, OutOfMemory}
use Rattle.omi_walk.specs.Asking.{Asks, answering, with_answer}
use Rattle.omi_walk.specs.Leaves.{Leaves}
use Rattle.omi_walk.specs.Walks.{IsWalked, RanInRoom, Walks}
use Rattle.omi_walk.proofs.Steps.{stays_then}

-- ---- one memory

-- a changed answer is read as the one before it was
pub answer_answering : {D E A B : Type 0} (memory : Words) (change : Result A D → Result B E) (reads : ReadsOr D A)
    → answer_on memory (answering change reads) ≡ change (answer_on memory reads)
unfolding answering
answer_answering memory change (Answer result) = refl
answer_answering memory change (Read addr more) = answer_answering memory change (more (memory addr))

-- ---- one call

-- what a call answers, changed
abbrev pub map_ok : {A B : Type 0} → (A → B) → Result A WalkFault → Result B WalkFault
map_ok f (Ok x) = Ok (f x)
map_ok f (Err fault) = Err fault

-- ---- reads over one memory

module _ (told : Told) (memory : Words) where
  -- none of them was made yet
  pub some_none : {A : Type 0} (reads : Asks A) (before : Asked) → RanSome told memory reads before before
  some_none (Answer answer) before = refl
  some_none (Read addr more) before = inl refl

  module _ {E : Type 0} (failed : E) where
    -- all were made and none failed, and so some of them
    some_all : {A : Type 0} (reads : ReadsOr E A) (before now : Asked) (r : Result A E) → r ≢ Err failed
        → Ran told memory failed reads before now r → RanSome told memory reads before now
    some_all (Answer answer) before now r ne ran = ran.0
    some_all (Read addr more) before now r ne (inl fails) = absurd (ne fails.2)
    some_all (Read addr more) before now r ne (inr goes) =
        inr (goes.0, some_all (more (memory addr)) (asked_after (Word addr) before) now r ne goes.1)

    -- some of those behind them were made
    some_then : {A B : Type 0} (reads : ReadsOr E A) (more : A → ReadsOr E B) (before mid now : Asked) (x : A)
        → Ran told memory failed reads before mid (Ok x) → RanSome told memory (more x) mid now
        → RanSome told memory (then_reads reads more) before now
    unfolding then_reads
    some_then (Answer answer) more before mid now x first rest =
        subst (λ a. RanSome told memory (after a more) before now) first.1
        (subst (λ m. RanSome told memory (more x) m now) first.0 rest)
    some_then (Read addr next) more before mid now x (inl fails) rest = absurd (let is = fails.2 in cc)
    some_then (Read addr next) more before mid now x (inr goes) rest =
        inr (goes.0, some_then (next (memory addr)) more (asked_after (Word addr) before) mid now x goes.1 rest)

  -- or some of the first alone
  some_first : {A B : Type 0} (reads : Asks A) (more : A → Asks B) (before now : Asked)
      → RanSome told memory reads before now → RanSome told memory (then_reads reads more) before now
  unfolding then_reads
  some_first (Answer answer) more before now some =
      subst (λ m. RanSome told memory (after answer more) before m) (sym some) (some_none (after answer more) before)
  some_first (Read addr next) more before now (inl none) = inl none
  some_first (Read addr next) more before now (inr goes) =
      inr (goes.0, some_first (next (memory addr)) more (asked_after (Word addr) before) now goes.1)

  -- none failed
  walk_some : {A : Type 0} (reads : Asks A) (before now : Asked) (r : Result A WalkFault) → r ≢ Err Callback
      → RanInRoom told memory reads before now r → RanSome told memory reads before now
  walk_some reads before now r ne (inl ran) = some_all Callback reads before now r ne ran
  walk_some reads before now r ne (inr out) = out.1

  -- reads whose answer is changed
  ran_answering : {A B : Type 0} (change : Result A Rc → Result B WalkFault) → change (Err CallbackError) ≡ Err Callback
      → (reads : Reads A) (before now : Asked) (result : Result A Rc) → Ran told memory CallbackError reads before now result
      → Ran told memory Callback (answering change reads) before now (change result)
  unfolding answering
  ran_answering change fails (Answer answer) before now result ran = (ran.0, ap change ran.1)
  ran_answering change fails (Read addr more) before now result (inl failed) = inl (failed.0, failed.1, ap change failed.2 ∙ fails)
  ran_answering change fails (Read addr more) before now result (inr goes) =
      inr (goes.0, ran_answering change fails (more (memory addr)) (asked_after (Word addr) before) now result goes.1)

  some_answering : {A B : Type 0} (change : Result A Rc → Result B WalkFault) (reads : Reads A) (before now : Asked)
      → RanSome told memory reads before now → RanSome told memory (answering change reads) before now
  unfolding answering
  some_answering change (Answer answer) before now some = some
  some_answering change (Read addr more) before now (inl none) = inl none
  some_answering change (Read addr more) before now (inr goes) =
      inr (goes.0, some_answering change (more (memory addr)) (asked_after (Word addr) before) now goes.1)

  -- the first reads answered this, and those behind them were made
  walk_then : {A B : Type 0} (reads : Asks A) (more : A → Asks B) (before mid now : Asked) (x : A) (r : Result B WalkFault)
      → RanInRoom told memory reads before mid (Ok x) → RanInRoom told memory (more x) mid now r
      → RanInRoom told memory (then_reads reads more) before now r
  walk_then reads more before mid now x r (inl ran) (inl rest) =
      inl (ran_then told memory Callback reads more before mid now x r ran rest)
  walk_then reads more before mid now x r (inl ran) (inr out) =
      inr (out.0, some_then Callback reads more before mid now x ran out.1)
  walk_then reads more before mid now x r (inr out) rest = absurd (let is = out.0 in cc)

  -- or they were refused
  walk_refused : {A B : Type 0} (reads : Asks A) (more : A → Asks B) (before now : Asked) (fault : WalkFault)
      → RanInRoom told memory reads before now (Err fault)
      → RanInRoom {A = B} told memory (then_reads reads more) before now (Err fault)
  walk_refused reads more before now fault (inl ran) = inl (ran_refused told memory Callback reads more before now fault ran)
  walk_refused reads more before now fault (inr out) =
      let same : fault ≡ OutOfMemory = (let is = out.0 in cc) in inr (ap Err same, some_first reads more before now out.1)

  -- unless a callback failed or memory ran out, the result is the answer
  walk_is : {A : Type 0} (reads : Asks A) (before now : Asked) (r : Result A WalkFault)
      → RanInRoom told memory reads before now r → r ≢ Err Callback → r ≢ Err OutOfMemory → r ≡ answer_on memory reads
  walk_is reads before now r (inl ran) ne room = ran_is told memory Callback reads before now r ran ne
  walk_is reads before now r (inr out) ne room = absurd (room out.0)

-- what a handle was made for: memory ran out, or the search was refused
refused_by : (new : Ledger) (rc : Rc) (found : Result Held Rc) → StandsFor new (Err rc) found
    → ((rc ≡ NoMem) × IsOk found) ⊎ (found ≡ Err rc)
refused_by new NoMem found stands = inl (refl, stands)
refused_by new rc found stands = inr stands

module _ {C F : Type 0} (told : C → Told) (asked : C → Asked) where
  -- a result is the answer on the words that are told, unless a callback failed or memory ran out
  pub walks_is : {A : Type 0} {s t : Opened C F} {r : Result A WalkFault} {reads : Asks A} → Walks told asked s t r reads
      → IsWalked (told s.table.calls) r reads
  walks_is {s = s} {t = t} {r = r} {reads = reads} walks = λ memory tells ne no.
      walk_is (told s.table.calls) memory reads (asked s.table.calls) (asked t.table.calls) r (walks.ran memory tells) ne no

  -- an inquiry's answer, changed
  pub of_answers : {A B : Type 0} (s t : Opened C F) (a : Result A Rc) (r : Result B WalkFault) (change : Result A Rc → Result B WalkFault) (reads : Reads A)
      → change (Err CallbackError) ≡ Err Callback → r ≡ change a → Answers told asked s t a reads → Walks told asked s t r (answering change reads)
  of_answers s t a r change reads failed is answers = record {
    ran = λ memory tells.
        inl (
        subst (λ r. Ran (told s.table.calls) memory Callback (answering change reads) (asked s.table.calls) (asked t.table.calls) r) (sym is)
        (ran_answering (told s.table.calls) memory change failed reads (asked s.table.calls) (asked t.table.calls) a (answers.ran memory tells))
        );
  }

  -- an object was found and let go
  pub of_made_ok : {B : Type 0} (s mid new : Opened C F) (pair : ℕ × ℕ) (h : Held) (reads : Reads Held) (change : Result Held Rc → Result B WalkFault) (b : B)
      → change (Err CallbackError) ≡ Err Callback
      → Answered told asked s mid (Ok pair) reads → get mid.handles.held pair ≡ Some h → change (Ok h) ≡ Ok b → new.table ≡ mid.table
      → Walks told asked s new (Ok b) (answering change reads)
  of_made_ok s mid new pair h reads change b failed answered there given table = record {
    ran = λ memory tells.
        let by = answered.ran memory tells in
        let same : by.stands.object ≡ h = (let both : Some by.stands.object ≡ Some h = sym by.stands.held ∙ there in cc) in
        let answer : change by.found ≡ Ok b = ap change (by.stands.is ∙ ap Ok same) ∙ given in
        let ran =
        ran_answering (told s.table.calls) memory change failed reads (asked s.table.calls) (asked mid.table.calls) by.found by.ran in
        inl (
        subst (λ r. Ran (told s.table.calls) memory Callback (answering change reads) (asked s.table.calls) (asked new.table.calls) r) answer
        (subst (λ now. Ran (told s.table.calls) memory Callback (answering change reads) (asked s.table.calls) now (change by.found))
        (ap (λ (k : Kept C F). asked k.calls) (sym table)) ran)
        );
  }

  -- the inquiry for one was refused
  pub of_made_err : {B : Type 0} (s mid : Opened C F) (rc : Rc) (reads : Reads Held) (change : Result Held Rc → Result B WalkFault) (r : Result B WalkFault)
      → change (Err CallbackError) ≡ Err Callback → change (Err NoMem) ≡ Err OutOfMemory → r ≡ change (Err rc)
      → Answered told asked s mid (Err rc) reads → Walks told asked s mid r (answering change reads)
  of_made_err {B} s mid rc reads change r failed full is answered = record {
    ran = λ memory tells.
        let by = answered.ran memory tells in
        go memory by.found by.ran (refused_by mid.handles rc by.found by.stands);
  }
    where
      go : (memory : Words) (found : Result Held Rc)
          → Ran (told s.table.calls) memory CallbackError reads (asked s.table.calls) (asked mid.table.calls) found
          → ((rc ≡ NoMem) × IsOk found) ⊎ (found ≡ Err rc)
          → RanInRoom (told s.table.calls) memory (answering change reads) (asked s.table.calls) (asked mid.table.calls) r
      go memory (Ok x) ran (inl out) =
          inr (
            is ∙ ap (λ c. change (Err c)) out.0 ∙ full,
            some_answering (told s.table.calls) memory change reads (asked s.table.calls) (asked mid.table.calls)
                (some_all (told s.table.calls) memory CallbackError reads (asked s.table.calls) (asked mid.table.calls) (Ok x) (λ e. (cc)) ran),
          )
      go memory (Err why) ran (inl out) = absurd (let none = out.1 in cc)
      go memory found ran (inr same) =
          inl (
          subst (λ r. Ran (told s.table.calls) memory Callback (answering change reads) (asked s.table.calls) (asked mid.table.calls) r)
          (ap change same ∙ sym is)
          (ran_answering (told s.table.calls) memory change failed reads (asked s.table.calls) (asked mid.table.calls) found ran)
          )

  -- a call's answer is judged
  pub walks_judged : {A B : Type 0} (s t : Opened C F) (judge : A → Result B WalkFault) (x : A) (r : Result B WalkFault) (reads : Asks A)
      → r ≡ judge x → Walks told asked s t (Ok x) reads
      → Walks told asked s t r (then_reads reads (λ x. Answer (judge x)))
  walks_judged s t judge x r reads is walks = record {
    ran = λ memory tells.
        walk_then (told s.table.calls) memory reads (λ x. Answer (judge x)) (asked s.table.calls) (asked t.table.calls) (asked t.table.calls) x r
        (walks.ran memory tells) (inl (refl, is));
  }

  -- a call's answer, changed
  pub walks_ok : {A B : Type 0} (s t : Opened C F) (f : A → B) (x : A) (y : B) (reads : Asks A) → y ≡ f x
      → Walks told asked s t (Ok x) reads → Walks told asked s t (Ok y) (with_answer f reads)
  unfolding with_answer
  walks_ok s t f x y reads is walks = walks_judged s t (λ x. Ok (f x)) x (Ok y) reads (ap Ok is) walks

  pub walks_err : {A B : Type 0} (s t : Opened C F) (f : A → B) (fault : WalkFault) (reads : Asks A)
      → Walks told asked s t (Err fault) reads → Walks told asked s t (Err fault) (with_answer f reads)
  unfolding with_answer
  walks_err {A} {B} s t f fault reads walks = record {
    ran = λ memory tells.
        walk_refused (told s.table.calls) memory reads (λ x. Answer (Ok (f x))) (asked s.table.calls) (asked t.table.calls) fault (walks.ran memory tells);
  }

  pub walks_map : {A B : Type 0} (s t : Opened C F) (f : A → B) (a : Result A WalkFault) (r : Result B WalkFault) (reads : Asks A)
      → r ≡ map_ok f a → Walks told asked s t a reads → Walks told asked s t r (with_answer f reads)
  walks_map s t f (Ok x) r reads is walks =
      subst (λ r. Walks told asked s t r (with_answer f reads)) (sym is)
      (walks_ok s t f x (f x) reads refl walks)
  walks_map s t f (Err fault) r reads is walks =
      subst (λ r. Walks told asked s t r (with_answer f reads)) (sym is) (walks_err s t f fault reads walks)

  -- a call's refusal is that of the call around it
  pub walks_as : {A : Type 0} (s t : Opened C F) (fault : WalkFault) (r : Result A WalkFault) (reads : Asks A)
      → IsErrAnd r (λ why. why ≡ fault) → Walks told asked s t (Err fault) reads
      → Walks told asked s t r reads
  walks_as s t fault r reads is walks =
      let p = err_from_is_err_and r is in subst (λ r. Walks told asked s t r reads) (sym (p.1 ∙ ap Err p.2)) walks

  -- memory ran out after a call in which no callback failed
  pub walks_unsaid : {A B : Type 0} (s t : Opened C F) (f : A → B) (a : Result A WalkFault) (r : Result B WalkFault) (reads : Asks A)
      → a ≢ Err Callback → Walks told asked s t a reads → IsErrAnd r (λ why. why ≡ OutOfMemory)
      → Walks told asked s t r (with_answer f reads)
  unfolding with_answer
  walks_unsaid s t f a r reads ne walks is =
      let p = err_from_is_err_and r is in
      record {
        ran = λ memory tells.
            let some =
            walk_some (told s.table.calls) memory reads (asked s.table.calls) (asked t.table.calls) a ne (walks.ran memory tells) in
            inr (
              p.1 ∙ ap Err p.2,
              some_first (told s.table.calls) memory reads (λ x. Answer (Ok (f x))) (asked s.table.calls) (asked t.table.calls) some,
            );
      }

-- a call between the making of a handle and its release
pub lent_walks : {A C F : Type 0} {told : C → Told} {asked : C → Asked} {s given t new : Opened C F} {r : Result A WalkFault} (pair : ℕ × ℕ) (h : Held) (reads : List ℕ → Option Held → Asks A)
    → given.table ≡ s.table → given.layout ≡ s.layout → get given.handles.held pair ≡ Some h → new.table ≡ t.table
    → Walks told asked given t r (reads given.layout (get given.handles.held pair)) → Walks told asked s new r (reads s.layout (Some h))
lent_walks {A} {C} {F} {told} {asked} {s} {given} {t} {new} {r} pair h reads table layout there released walks =
    let here =
    subst (λ w. Walks told asked given t r (reads w (Some h))) layout
    (subst (λ o. Walks told asked given t r (reads given.layout o)) there walks) in
    record {
      ran = λ memory tells.
          let ran =
          here.ran memory
          (still_tells (told s.table.calls) (told given.table.calls) memory (ap (λ (k : Kept C F). told k.calls) table) tells) in
          subst (λ (k : Kept C F). RanInRoom (told s.table.calls) memory (reads s.layout (Some h)) (asked s.table.calls) (asked k.calls) r) (sym released)
          (subst (λ (k : Kept C F). RanInRoom (told k.calls) memory (reads s.layout (Some h)) (asked k.calls) (asked t.table.calls) r) table ran);
    }

-- ---- several calls

-- all of these reads, after some of them, are the rest: what is made of the rest is made of all
pub record Goes {B C F : Type 0} (told : C → Told) (asked : C → Asked) (s t : Opened C F) (all rest : Asks B) : Type 0 where
  pub stays : Stays told s t
  pub held : t.handles.held ≡ s.handles.held
  pub runs : (memory : Words) → Tells (told s.table.calls) memory → (now : Asked) (r : Result B WalkFault)
      → RanInRoom (told s.table.calls) memory rest (asked t.table.calls) now r
      → RanInRoom (told s.table.calls) memory all (asked s.table.calls) now r

module _ {C F : Type 0} (told : C → Told) (asked : C → Asked) where
  pub goes_begin : {B : Type 0} (s : Opened C F) (all : Asks B) → Goes told asked s s all all
  goes_begin s all = record {
    stays = record { table = record { same = refl; order = refl; to_host = refl }; layout = refl };
    held = refl;
    runs = λ memory tells now r ran. ran;
  }

  -- the same rest in other words
  pub goes_same : {B : Type 0} (s t : Opened C F) (all rest other : Asks B) → rest ≡ other
      → Goes told asked s t all rest → Goes told asked s t all other
  goes_same s t all rest other is so = subst (Goes told asked s t all) is so

  -- a call is seen from where the reads began
  from_start : {A B : Type 0} (s t u : Opened C F) (all rest : Asks B) (pair : ℕ × ℕ) (r : Result A WalkFault) (reads : List ℕ → Option Held → Asks A)
      → Goes told asked s t all rest → Walks told asked t u r (reads t.layout (get t.handles.held pair))
      → (memory : Words) → Tells (told s.table.calls) memory
      → RanInRoom (told s.table.calls) memory (reads s.layout (get s.handles.held pair)) (asked t.table.calls) (asked u.table.calls) r
  from_start s t u all rest pair r reads so walks = λ memory tells.
      let here =
      subst (λ w. Walks told asked t u r (reads w (get s.handles.held pair))) so.stays.layout
      (subst (λ o. Walks told asked t u r (reads t.layout o)) (ap (λ held. get held pair) so.held) walks) in
      subst (λ now. RanInRoom now memory (reads s.layout (get s.handles.held pair)) (asked t.table.calls) (asked u.table.calls) r) so.stays.table.same
      (here.ran memory (still_tells (told s.table.calls) (told t.table.calls) memory so.stays.table.same tells))

  module _ {A B : Type 0} (s t u : Opened C F) (pair : ℕ × ℕ) (all : Asks B)
      (reads : List ℕ → Option Held → Asks A) (more : A → Asks B)
      (so : Goes told asked s t all (then_reads (reads s.layout (get s.handles.held pair)) more)) where
    -- an inquiry answered this
    pub goes_on : (n : ℕ) (x : A) → Leaves told n t u
        → Walks told asked t u (Ok x) (reads t.layout (get t.handles.held pair))
        → Goes told asked s u all (more x)
    goes_on n x leaves walks =
        let first = reads s.layout (get s.handles.held pair) in
        record {
          stays = stays_then told s t u so.stays leaves.stays;
          held = leaves.held ∙ so.held;
          runs = λ memory tells now r ran.
              so.runs memory tells now r
              (walk_then (told s.table.calls) memory first more (asked t.table.calls) (asked u.table.calls) now x r
              (from_start s t u all (then_reads first more) pair (Ok x) reads so walks memory tells) ran);
        }

    -- or was refused
    pub goes_stop : (fault : WalkFault) (r : Result B WalkFault)
        → Walks told asked t u (Err fault) (reads t.layout (get t.handles.held pair))
        → IsErrAnd r (λ why. why ≡ fault) → Walks told asked s u r all
    goes_stop fault r walks is =
        let p = err_from_is_err_and r is in
        let first = reads s.layout (get s.handles.held pair) in
        subst (λ r. Walks told asked s u r all) (sym (p.1 ∙ ap Err p.2))
        (record {
          ran = λ memory tells.
              so.runs memory tells (asked u.table.calls) (Err fault)
              (walk_refused (told s.table.calls) memory first more (asked t.table.calls) (asked u.table.calls) fault
              (from_start s t u all (then_reads first more) pair (Err fault) reads so walks memory tells));
        })

  -- the last inquiry answers for all
  pub goes_last : {B : Type 0} (s t u : Opened C F) (pair : ℕ × ℕ) (all : Asks B) (reads : List ℕ → Option Held → Asks B) (r : Result B WalkFault)
      → Goes told asked s t all (reads s.layout (get s.handles.held pair)) → Walks told asked t u r (reads t.layout (get t.handles.held pair)) → Walks told asked s u r all
  goes_last s t u pair all reads r so walks = record {
    ran = λ memory tells.
        so.runs memory tells (asked u.table.calls) r
        (from_start s t u all (reads s.layout (get s.handles.held pair)) pair r reads so walks memory tells);
  }

  -- nothing is left to read
  pub goes_end : {B : Type 0} (s t : Opened C F) (all : Asks B) (r answer : Result B WalkFault) → r ≡ answer
      → Goes told asked s t all (Answer answer) → Walks told asked s t r all
  goes_end s t all r answer is so = record {
    ran = λ memory tells. so.runs memory tells (asked t.table.calls) r (inl (refl, is));
  }

  -- memory ran out, and nothing was asked since
  pub goes_unmade : {B : Type 0} (s t u : Opened C F) (all rest : Asks B) (fault : WalkFault) (r : Result B WalkFault)
      → Goes told asked s t all rest → u.table ≡ t.table → IsErrAnd r (λ why. why ≡ fault)
      → fault ≡ OutOfMemory → Walks told asked s u r all
  goes_unmade s t u all rest fault r so table is full =
      let p = err_from_is_err_and r is in
      record {
        ran = λ memory tells.
            subst (λ (k : Kept C F). RanInRoom (told s.table.calls) memory all (asked s.table.calls) (asked k.calls) r) (sym table)
            (so.runs memory tells (asked t.table.calls) r
            (inr (p.1 ∙ ap Err (p.2 ∙ full), some_none (told s.table.calls) memory rest (asked t.table.calls))));
      }

  pub goes_unsaid : {B : Type 0} (s t : Opened C F) (all rest : Asks B) (r : Result B WalkFault)
      → Goes told asked s t all rest → IsErrAnd r (λ why. why ≡ OutOfMemory) → Walks told asked s t r all
  goes_unsaid s t all rest r so is = goes_unmade s t t all rest OutOfMemory r so refl is refl

  -- the rest is this one, where words are told
  pub goes_told : {B : Type 0} (s t : Opened C F) (all rest other : Asks B)
      → ((memory : Words) → Tells (told s.table.calls) memory → rest ≡ other) → Goes told asked s t all rest
      → Goes told asked s t all other
  goes_told s t all rest other same so = record {
    stays = so.stays;
    held = so.held;
    runs = λ memory tells now r ran.
        so.runs memory tells now r
        (subst (λ reads. RanInRoom (told s.table.calls) memory reads (asked t.table.calls) now r) (sym (same memory tells)) ran);
  }

-- no handle was made, and so nothing was asked
pub walks_unmade : {B C F : Type 0} {told : C → Told} {asked : C → Asked} {s u : Opened C F} {all : Asks B} {fault : WalkFault} {r : Result B WalkFault}
    → u.table ≡ s.table → IsErrAnd r (λ why. why ≡ fault) → fault ≡ OutOfMemory → Walks told asked s u r all
walks_unmade {B} {C} {F} {told} {asked} {s} {u} {all} {fault} {r} table is full =
    goes_unmade told asked s s u all all fault r (goes_begin told asked s all) table is full

-- ---- one inquiry after the other

-- what is left to ask in a session, of reads that began in another one
pub record Left {B C F : Type 0} (told : C → Told) (asked : C → Asked) (s t : Opened C F) (all : Asks B) : Type 0 where
  pub rest : Asks B
  pub goes : Goes told asked s t all rest

-- before the first inquiry all is left
abbrev pub left_first : {B C F : Type 0} (told : C → Told) (asked : C → Asked) (s : Opened C F) (all : Asks B)
    → Left told asked s s all
left_first told asked s all = record { rest = all; goes = goes_begin told asked s all }

module _ {A B C F : Type 0} {told : C → Told} {asked : C → Asked} {s t u : Opened C F} {all : Asks B}
    (reads : List ℕ → Option Held → Asks A) (pair : ℕ × ℕ) (more : A → Asks B) (so : Left told asked s t all)
    (next : so.rest ≡ then_reads (reads s.layout (get s.handles.held pair)) more) where
  -- behind an inquiry that answered the rest is left
  abbrev pub left_on : {n : ℕ} {x : A} → Leaves told n t u
      → Walks told asked t u (Ok x) (reads t.layout (get t.handles.held pair)) → Left told asked s u all
  left_on {n} {x} leaves walks = record {
    rest = more x;
    goes = goes_on told asked s t u pair all reads more (goes_same told asked s t all so.rest _ next so.goes) n x leaves walks;
  }

  -- and one that was refused is the last
  pub left_stop : {fault : WalkFault} {r : Result B WalkFault}
      → Walks told asked t u (Err fault) (reads t.layout (get t.handles.held pair))
      → IsErrAnd r (λ why. why ≡ fault) → Walks told asked s u r all
  left_stop {fault} {r} walks is =
      goes_stop told asked s t u pair all reads more (goes_same told asked s t all so.rest _ next so.goes) fault r walks is

-- nothing is left but an answer
pub left_end : {B C F : Type 0} {told : C → Told} {asked : C → Asked} {s t : Opened C F} {all : Asks B} {r answer : Result B WalkFault} (so : Left told asked s t all)
    → so.rest ≡ Answer answer → r ≡ answer → Walks told asked s t r all
left_end {B} {C} {F} {told} {asked} {s} {t} {all} {r} {answer} so last is =
    goes_end told asked s t all r answer is (goes_same told asked s t all so.rest _ last so.goes)
