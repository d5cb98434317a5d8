-- What the parts of inquiries answer, by the words of the records that they read: the word that stands there, and the live object to which it leads.
use Rattle.std.proofs.Common.{◌≡◌, ◌==◌, ℕ, ◌<◌, Bool, false, cond, List, Option, Some, None, refl, ap, ◌∙◌, arith, eq-eqb}
use Rattle.std.specs.Prelude.{Ok, Err}
use Rattle.std.specs.Option.{option_and_then, option_map_or, ok_or}
use Rattle.std.proofs.lemmas.Bool.Decides.{nat_tests}
use Rattle.omi_word.specs.Words.{Words}
use Rattle.omi_handle.specs.declared.handle.Kind.{Kind}
use Rattle.omi_handle.specs.declared.handle.Held.{Held}
use Rattle.omi_layout.specs.declared.field.Field.{Field}
use Rattle.omi_layout.specs.Named.{number}
use Rattle.omi_rep.specs.Look.{life_of}
use Rattle.omi_rep.specs.Records.{record_at}
use Rattle.omi_session.specs.declared.rc.Rc.{Rc}
use Rattle.omi_session.specs.declared.rc.Rc.TheVariants.{Unavailable, StaleHandle, BadInput, Error}
use Rattle.omi_session.specs.Named.{record_kind}
use Rattle.omi_session.specs.Inquiry.{object, word_of, unchanged, object_of, live_handle, lead, follow, follow_some}
use Rattle.omi_session.specs.Reads.{Reads, Answer, answer_on, after, then_reads}
use Rattle.omi_session.specs.Shown.{as_held}
use Rattle.omi_session.proofs.Asked.{answer_then}
use Rattle.omi_rep.proofs.LiveObjects.{Lives}

-- reads go on after an answer, and end with a refusal
pub then_answered : {A B : Type 0} (memory : Words) (reads : Reads A) (more : A → Reads B) (x : A)
    → answer_on memory reads ≡ Ok x
    → answer_on memory (then_reads reads more) ≡ answer_on memory (more x)
then_answered memory reads more x is =
    answer_then memory reads more ∙ ap (λ r. answer_on memory (after r more)) is

pub then_refused : {A B : Type 0} (memory : Words) (reads : Reads A) (more : A → Reads B) (rc : Rc)
    → answer_on memory reads ≡ Err rc
    → answer_on memory (then_reads reads more) ≡ Err rc
then_refused memory reads more rc is =
    answer_then memory reads more ∙ ap (λ r. answer_on memory (after r more)) is

module _ (w : List ℕ) (memory : Words) where
  -- the word of a field
  pub word_told : (address : ℕ) (f : Field) (at x : ℕ) → record_at w memory address (number f) at ≡ Some x
      → answer_on memory (word_of w address f at) ≡ Ok x
  unfolding word_of
  word_told address f at x is = ap (λ o. ok_or o (Error address (number f))) is

  module _ (kind : Kind) (life : ℕ) where
    -- the object to which the address of its record leads
    pub lead_told : (f : Field) (pointer : ℕ) → Lives w memory (record_kind kind) pointer life
        → answer_on memory (lead w kind f pointer) ≡ Ok (record { kind = kind; addr = pointer; life = life })
    unfolding lead
    lead_told f pointer is =
        rw is.place (ap (λ o. ok_or (option_and_then (object kind pointer) o) (Error pointer (number f))) is.word
        ∙ ap (λ (b : Bool). ok_or (cond b (Some (record { kind = kind; addr = pointer; life = life })) None) (Error pointer (number f))) is.live)

    -- the object of a handle that is held for it
    pub handle_told : (address : ℕ) (found : Option Held)
        → found ≡ Some (record { kind = kind; addr = address; life = life })
        → live_handle kind found ≡ Ok (record { kind = kind; addr = address; life = life })
    handle_told address found held =
        ap (live_handle kind) held
        ∙ ap (λ (b : Bool). cond b (Ok (record { kind = kind; addr = address; life = life })) (Err BadInput))
        (eq-eqb (record_kind kind) (record_kind kind) refl)

    pub unchanged_told : (address : ℕ) → Lives w memory (record_kind kind) address life
        → answer_on memory (unchanged w (record { kind = kind; addr = address; life = life })) ≡ Ok (record { kind = kind; addr = address; life = life })
    unfolding unchanged
    unchanged_told address is =
        then_answered memory (word_of w address (life_of (record_kind kind)) 0) _ life
        (word_told address (life_of (record_kind kind)) 0 life is.word)
        ∙ ap
        (λ (b : Bool). cond b (Ok (record { kind = kind; addr = address; life = life })) (Err StaleHandle))
        (eq-eqb life life refl)

    pub object_told : (address : ℕ) (found : Option Held)
        → found ≡ Some (record { kind = kind; addr = address; life = life })
        → Lives w memory (record_kind kind) address life
        → answer_on memory (object_of w kind found) ≡ Ok (record { kind = kind; addr = address; life = life })
    unfolding object_of
    object_told address found held is =
        then_answered memory (Answer (live_handle kind found)) (unchanged w) _
        (handle_told address found held)
        ∙ unchanged_told address is

    -- the object to which a word points
    pub follow_told : (address : ℕ) (f : Field) (at pointer : ℕ)
        → record_at w memory address (number f) at ≡ Some pointer
        → Lives w memory (record_kind kind) pointer life
        → answer_on memory (follow w kind address f at) ≡ Ok (record { kind = kind; addr = pointer; life = life })
    unfolding follow
    follow_told address f at pointer stands is =
        then_answered memory (word_of w address f at) (lead w kind f) pointer
        (word_told address f at pointer stands)
        ∙ lead_told f pointer is

  -- the object that a word names, where it may name none: `address_of` and `life_word` are those of each name
  pub optional_told : {N : Type 0} (kind : Kind) (address_of life_word : N → ℕ) (address : ℕ) (f : Field) (named : Option N)
      → ((n : N) → 0 < address_of n) → ((n : N) → named ≡ Some n → Lives w memory (record_kind kind) (address_of n) (life_word n))
      → record_at w memory address (number f) 0 ≡ Some (option_map_or address_of named 0)
      → answer_on memory (follow_some w kind address f) ≡ as_held (λ n. record { kind = kind; addr = address_of n; life = life_word n }) (ok_or named Unavailable)
  unfolding follow_some
  optional_told {N} kind address_of life_word address f named positive lives stands =
      then_answered memory (word_of w address f 0) _ (option_map_or address_of named 0)
      (word_told address f 0 _ stands)
      ∙ go named lives
    where
      go : (o : Option N)
          → ((n : N) → o ≡ Some n → Lives w memory (record_kind kind) (address_of n) (life_word n))
          → answer_on memory
          (cond (option_map_or address_of o 0 == 0) (Answer (Err Unavailable)) (lead w kind f (option_map_or address_of o 0)))
          ≡ as_held (λ n. record { kind = kind; addr = address_of n; life = life_word n })
          (ok_or o Unavailable)
      go None are = refl
      go (Some n) are =
          let low = positive n in
          let some : address_of n == 0 ≡ false = grind (arith, nat_tests) in
          ap
          (λ (b : Bool). answer_on memory (cond b (Answer (Err Unavailable)) (lead w kind f (address_of n)))) some
          ∙ lead_told kind (life_word n) f (address_of n) (are n refl)
