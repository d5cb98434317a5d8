-- What is read of the record of a thread is a plain look at it.
use Rattle.std.proofs.Common.{◌≡◌, ◌==◌, true, false, cond, ℕ, List, Option, Some, None, refl, sym, ap, subst, ◌∙◌}
use Rattle.std.specs.Prelude.{Result, Ok, Err, ◌≢◌}
use Rattle.omi_calls.specs.Told.{Told}
use Rattle.omi_layout.specs.declared.field.Field.{Field}
use Rattle.omi_layout.specs.declared.field.Field.TheVariants.{ThreadLife, ThreadNative}
use Rattle.omi_rep.specs.Look.{Look, and_then, mapped}
use Rattle.omi_rep.specs.LookView.{read_thread}
use Rattle.omi_rep.specs.Records.{thread_address}
use Rattle.omi_rep.specs.declared.fault.LookFault.TheVariants.{Cycle}
use Rattle.omi_rep.specs.declared.fault.LookFault.TheVariants as look
use Rattle.omi_session.specs.Inquiry.{word_of}
use Rattle.omi_session.specs.Opened.{Opened, Stays, StaysWhole}
use Rattle.omi_session.specs.Reads.{answer_on}
use Rattle.omi_session.specs.declared.rc.Rc.{Rc}
use Rattle.omi_session.specs.declared.rc.Rc.TheVariants.{Unavailable, StaleHandle, BadInput, Error, Unsupported, NeedsStateTracking, Incompatible, NoMem, Incomplete, CallbackError}
use Rattle.omi_walk.proofs.Looked.{ValueIs, value_by, word_there}
use Rattle.omi_walk.specs.Fault.{fault_of, walked}
use Rattle.omi_walk.specs.declared.fault.WalkFault.TheVariants.{Callback}
use Rattle.omi_ps.specs.Recorded.{look_id}
use Rattle.omi_walk.specs.Gives.{Gives}
use Rattle.omi_word.specs.Words.{Words}

-- a word that is answered is what a look gives
given : (r : Result ℕ Rc) (l : Look ℕ) → ValueIs r l → Gives (walked None r) l
given (Ok x) (Ok y) same = ap Ok (sym same)
given (Ok x) (Err fault) h = absurd h
given (Err rc) (Ok y) h = absurd h
given (Err rc) (Err (look.Damaged addr field)) h =
    subst (λ code. Gives (walked {A = ℕ} None (Err code)) (Err (look.Damaged addr field))) (sym h) refl
given (Err rc) (Err (Cycle addr)) h = absurd h

-- and one that is refused too, unless a callback failed
pub word_gives : (w : List ℕ) (memory : Words) (i : ℕ) (f : Field) (there : ℕ) (r : Result ℕ Rc) → there ≡ thread_address w i
    → (r ≢ Err CallbackError → r ≡ answer_on memory (word_of w there f 0)) → Gives (walked None r) (read_thread w memory i f)
word_gives w memory i f there r is answer = go r answer
  where
    unless : (r : Result ℕ Rc) → r ≢ Err CallbackError → (r ≢ Err CallbackError → r ≡ answer_on memory (word_of w there f 0))
        → Gives (walked None r) (read_thread w memory i f)
    unless r ne answer = given r (read_thread w memory i f) (value_by (read_thread w memory i f) (answer ne) (word_there w memory f 0 is))

    go : (r : Result ℕ Rc) → (r ≢ Err CallbackError → r ≡ answer_on memory (word_of w there f 0))
        → Gives (walked None r) (read_thread w memory i f)
    go (Ok x) answer = unless (Ok x) (λ e. (cc)) answer
    go (Err (Error addr field)) answer = unless (Err (Error addr field)) (λ e. (cc)) answer
    go (Err CallbackError) answer = tt
    go (Err NoMem) answer = tt
    go (Err Unavailable) answer = unless (Err Unavailable) (λ e. (cc)) answer
    go (Err StaleHandle) answer = unless (Err StaleHandle) (λ e. (cc)) answer
    go (Err BadInput) answer = unless (Err BadInput) (λ e. (cc)) answer
    go (Err Unsupported) answer = unless (Err Unsupported) (λ e. (cc)) answer
    go (Err NeedsStateTracking) answer = unless (Err NeedsStateTracking) (λ e. (cc)) answer
    go (Err Incompatible) answer = unless (Err Incompatible) (λ e. (cc)) answer
    go (Err (Incomplete first)) answer = unless (Err (Incomplete first)) (λ e. (cc)) answer

-- the fault is that a callback failed only where one did
pub only_callback : (rc : Rc) → fault_of None rc ≡ Callback → rc ≡ CallbackError
only_callback (Error addr field) is = absurd (cc)
only_callback CallbackError is = refl
only_callback NoMem is = absurd (cc)
only_callback Unavailable is = absurd (cc)
only_callback StaleHandle is = absurd (cc)
only_callback BadInput is = absurd (cc)
only_callback Unsupported is = absurd (cc)
only_callback NeedsStateTracking is = absurd (cc)
only_callback Incompatible is = absurd (cc)
only_callback (Incomplete first) is = absurd (cc)

-- by its life word a thread has no id, or that of its record
module _ (w : List ℕ) (memory : Words) (i life : ℕ) (first : read_thread w memory i ThreadLife ≡ Ok life) where
  abbrev read_id : Look (Option ℕ)
  read_id = mapped (λ id. Some id) (read_thread w memory i ThreadNative)

  by_life : look_id w memory i ≡ cond (life == 1) read_id (Ok None)
  unfolding and_then
  by_life = ap (λ l. and_then l (λ life. cond (life == 1) read_id (Ok None))) first

  pub unbegun : (life == 1) ≡ false → look_id w memory i ≡ Ok None
  unbegun isnt = by_life ∙ ap (λ b. cond b read_id (Ok None)) isnt

  pub begun : (life == 1) ≡ true → look_id w memory i ≡ mapped (λ id. Some id) (read_thread w memory i ThreadNative)
  begun is = by_life ∙ ap (λ b. cond b read_id (Ok None)) is

-- what is found for each thread, and the ids of those that have one
pub look_ids : {X Y : Type 0} (f : X → Y) (r : Look X) (x : X) → r ≡ Ok x → mapped f r ≡ Ok (f x)
unfolding and_then
look_ids f r x is = ap (mapped f) is

-- the layout and what is told stay
pub stays : {C F : Type 0} {told : C → Told} {s t : Opened C F} → StaysWhole told s t → Stays told s t
stays whole = record { table = whole.table; layout = whole.layout }
