-- What a call answers after one of its parts has answered.
use Rattle.std.proofs.Common.{◌≡◌, ◌≢◌, inl, inr, ℕ, cond, Bool, true, false, List, Option, refl, sym, ap, subst, ◌∙◌}
use Rattle.std.specs.Prelude.{Result, Ok, Err, IsErr, IsErrAnd, is_err}
use Rattle.std.proofs.lemmas.Result.{err_from_is_err_and}
use Rattle.omi_word.specs.Words.{Words}
use Rattle.omi_calls.specs.Asked.{Asked, Word, AsksWord, asked_after}
use Rattle.omi_calls.specs.Told.{Told}
use Rattle.omi_handle.specs.declared.handle.Held.{Held}
use Rattle.omi_session.specs.declared.rc.Rc.{Rc}
use Rattle.omi_session.specs.declared.rc.Rc.TheVariants.{CallbackError}
use Rattle.omi_session.specs.Opened.{Opened}
use Rattle.omi_session.specs.Reads.{ReadsOr, Reads, Answer, Read, answer_on, after, then_reads, Ran, IsAnswer, Answers}
use Rattle.omi_session.specs.Tells.{Tells}
use Rattle.omi_session.proofs.Told.{still_tells}

-- the answer of reads and then others
pub answer_then : {E A B : Type 0} (memory : Words) (reads : ReadsOr E A) (more : A → ReadsOr E B)
    → answer_on memory (then_reads reads more) ≡ answer_on memory (after (answer_on memory reads) more)
unfolding then_reads
answer_then memory (Answer result) more = refl
answer_then memory (Read addr next) more = answer_then memory (next (memory addr)) more

-- ---- reads over a memory

module _ {E : Type 0} (told : Told) (memory : Words) (failed : E) where
  -- the first reads answered this, and those that depend on it were made
  pub ran_then : {A B : Type 0} (reads : ReadsOr E A) (more : A → ReadsOr E B) (before mid now : Asked) (x : A) (result : Result B E)
      → Ran told memory failed reads before mid (Ok x) → Ran told memory failed (more x) mid now result
      → Ran told memory failed (then_reads reads more) before now result
  unfolding then_reads
  ran_then (Answer answer) more before mid now x result first rest =
      subst (λ a. Ran told memory failed (after a more) before now result) first.1
      (subst (λ m. Ran told memory failed (more x) m now result) first.0 rest)
  ran_then (Read addr next) more before mid now x result (inl fails) rest = absurd (let is = fails.2 in cc)
  ran_then (Read addr next) more before mid now x result (inr goes) rest =
      inr (goes.0, ran_then (next (memory addr)) more (asked_after (Word addr) before) mid now x result goes.1 rest)

  -- or they were refused
  pub ran_refused : {A B : Type 0} (reads : ReadsOr E A) (more : A → ReadsOr E B) (before now : Asked) (e : E)
      → Ran told memory failed reads before now (Err e) → Ran told memory failed (then_reads reads more) before now (Err e)
  unfolding then_reads
  ran_refused (Answer answer) more before now e first =
      subst (λ a. Ran told memory failed (after a more) before now (Err e)) first.1 (first.0, refl)
  ran_refused (Read addr next) more before now e (inl fails) =
      let same : e ≡ failed = (let is = fails.2 in cc) in inl (fails.0, fails.1, ap Err same)
  ran_refused (Read addr next) more before now e (inr goes) =
      inr (goes.0, ran_refused (next (memory addr)) more (asked_after (Word addr) before) now e goes.1)

  -- unless a read failed, the result is the answer
  pub ran_is : {A : Type 0} (reads : ReadsOr E A) (before now : Asked) (result : Result A E)
      → Ran told memory failed reads before now result → result ≢ Err failed → result ≡ answer_on memory reads
  ran_is (Answer answer) before now result ran ne = ran.1
  ran_is (Read addr more) before now result (inl fails) ne = absurd (ne fails.2)
  ran_is (Read addr more) before now result (inr goes) ne =
      ran_is (more (memory addr)) (asked_after (Word addr) before) now result goes.1 ne

-- ---- calls of a session

module _ {C F : Type 0} {told : C → Told} {asked : C → Asked} {s t : Opened C F} where
  -- unless a callback failed, the result is the answer on the words that are told
  pub answers_is : {A : Type 0} {reads : Reads A} {result : Result A Rc} → Answers told asked s t result reads
      → IsAnswer (told s.table.calls) result reads
  answers_is {reads = reads} {result = result} answers = λ memory tells ne.
      ran_is (told s.table.calls) memory CallbackError reads (asked s.table.calls) (asked t.table.calls) result (answers.ran memory tells) ne

  -- the first part was refused
  pub asked_refused : {A B : Type 0} {reads : Reads A} {rc : Rc} (more : A → Reads B)
      → Answers told asked s t (Err rc) reads → Answers told asked s t (Err rc) (then_reads reads more)
  asked_refused {reads = reads} {rc = rc} more first = record {
    ran = λ memory tells.
        ran_refused (told s.table.calls) memory CallbackError reads more (asked s.table.calls) (asked t.table.calls) rc (first.ran memory tells);
  }

  -- the first part was refused, and the call with it
  pub refused_then : {A B : Type 0} {reads : Reads A} {rc : Rc} {result : Result B Rc} (more : A → Reads B)
      → Answers told asked s t (Err rc) reads → IsErrAnd result (λ why. why ≡ rc) → Answers told asked s t result (then_reads reads more)
  refused_then {result = result} more first is =
      let p = err_from_is_err_and result is in
      rw (p.1, p.2) (asked_refused more first)

  -- a call by what is found under a pair is one by what is held there
  pub asked_found : {A : Type 0} {result : Result A Rc} {found held : Option Held} (reads : Option Held → Reads A)
      → found ≡ held → Answers told asked s t result (reads found) → Answers told asked s t result (reads held)
  asked_found {result = result} reads is h = subst (λ o. Answers told asked s t result (reads o)) is h

  -- one of two ways to go on was taken
  pub asked_true : {A : Type 0} {b : Bool} {taken : Reads A} {result : Result A Rc} (other : Reads A)
      → b ≡ true → Answers told asked s t result taken
      → Answers told asked s t result (cond b taken other)
  asked_true {taken = taken} {result = result} other is h =
      subst (λ test. Answers told asked s t result (cond test taken other)) (sym is) h

  pub asked_false : {A : Type 0} {b : Bool} {other : Reads A} {result : Result A Rc} (taken : Reads A)
      → b ≡ false → Answers told asked s t result other
      → Answers told asked s t result (cond b taken other)
  asked_false {other = other} {result = result} taken is h =
      subst (λ test. Answers told asked s t result (cond test taken other)) (sym is) h

  -- one word was read, which decides
  pub asked_once : {A Failed : Type 0} {result : Result A Rc} {addr : ℕ} {last : Option ℕ → Result A Rc} (place : ℕ)
      → place ≡ addr → AsksWord (told s.table.calls) place (asked s.table.calls) (asked t.table.calls) Failed
      → ¬ Failed → ((memory : Words) → Tells (told s.table.calls) memory → result ≡ last (memory addr))
      → Answers told asked s t result (Read addr (λ word. Answer (last word)))
  asked_once {Failed = Failed} {addr = addr} place is asks worked answers = record {
    ran = λ memory tells.
        let here = (subst (λ a. AsksWord (told s.table.calls) a (asked s.table.calls) (asked t.table.calls) Failed) is asks).answered worked in
        inr (here.0, (here.1, answers memory tells));
  }

  -- or the read failed
  pub asked_failed : {A Failed : Type 0} {addr : ℕ} {more : Option ℕ → Reads A} (place : ℕ)
      → place ≡ addr → AsksWord (told s.table.calls) place (asked s.table.calls) (asked t.table.calls) Failed
      → Failed → Answers told asked s t (Err CallbackError) (Read addr more)
  asked_failed {Failed = Failed} {addr = addr} place is asks failed = record {
    ran = λ memory tells.
        let here = (subst (λ a. AsksWord (told s.table.calls) a (asked s.table.calls) (asked t.table.calls) Failed) is asks).failed failed in
        inl (here.0, here.1, refl);
  }

module _ {C F : Type 0} {told : C → Told} {asked : C → Asked} {s u : Opened C F} (t : Opened C F) where
  -- the first part answered this, and the rest what follows it
  pub asked_then : {A B : Type 0} {reads : Reads A} {result : Result B Rc} (more : A → Reads B) (x : A)
      → told t.table.calls ≡ told s.table.calls
      → Answers told asked s t (Ok x) reads → Answers told asked t u result (more x) → Answers told asked s u result (then_reads reads more)
  asked_then {reads = reads} {result = result} more x same first rest = record {
    ran = λ memory tells.
        let second =
        subst (λ now. Ran now memory CallbackError (more x) (asked t.table.calls) (asked u.table.calls) result) same
        (rest.ran memory (still_tells (told s.table.calls) (told t.table.calls) memory same tells)) in
        ran_then (told s.table.calls) memory CallbackError reads more (asked s.table.calls) (asked t.table.calls) (asked u.table.calls) x result (first.ran memory tells) second;
  }

  -- the first part answered this, and left the layout, so the rest is asked in the same
  pub asked_on : {A B : Type 0} {reads : Reads A} {result : Result B Rc} (more : List ℕ → A → Reads B) (x : A)
      → told t.table.calls ≡ told s.table.calls → t.layout ≡ s.layout
      → Answers told asked s t (Ok x) reads → Answers told asked t u result (more t.layout x) → Answers told asked s u result (then_reads reads (more s.layout))
  asked_on {result = result} more x same layout first rest =
      asked_then (more s.layout) x same first
      (subst (λ l. Answers told asked t u result (more l x)) layout rest)

-- nothing more was read
pub asked_answer : {A C F : Type 0} {told : C → Told} {asked : C → Asked} {s : Opened C F} {result answer : Result A Rc}
    → result ≡ answer → Answers told asked s s result (Answer answer)
asked_answer is = record { ran = λ memory tells. (refl, is) }

-- a call that answered didn't fail, and one that didn't answer failed
pub worked : {A E : Type 0} {r : Result A E} {x : A} → r ≡ Ok x → ¬ IsErr r
worked {r = r} is failed = let clash : false ≡ true = sym (ap is_err is) ∙ failed in absurd (cc)
