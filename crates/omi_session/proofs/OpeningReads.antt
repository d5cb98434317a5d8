-- The reads of a table, word by word.
use Rattle.std.proofs.Common.{◌≡◌, inl, inr, ℕ, suc, ◌&&◌, not, false, eqb, eqb-true, List, [], ◌∷◌, ◌++◌, length, Some, None, refl, subst}
use Rattle.std.proofs.lemmas.Bool.{not-false}
use Rattle.omi_script.proofs.Conjunctions.{and_left, and_right}
use Rattle.std.specs.Prelude.{Result, Ok, Err}
use Rattle.std.specs.Option.{ok_or}
use Rattle.omi_word.specs.Words.{Words}
use Rattle.omi_calls.specs.Asked.{Asked, Word, MayFail, MayAnswer, asked_after, missed_after}
use Rattle.omi_calls.specs.declared.callbacks.Sizes.{Sizes}
use Rattle.omi_calls.specs.Kept.{Kept}
use Rattle.omi_calls.specs.Memory.{usual_sizes}
use Rattle.omi_calls.specs.Told.{Told}
use Rattle.omi_layout.specs.NoLayout.{table_address}
use Rattle.omi_session.specs.declared.rc.Rc.{Rc}
use Rattle.omi_session.specs.declared.rc.Rc.TheVariants.{CallbackError, Error}
use Rattle.omi_session.specs.Opening.{Opens, words_behind}
use Rattle.omi_session.specs.Reads.{Ran, after}

module _ (told : Told) (memory : Words) (address n : ℕ) (words : List ℕ) (before now : Asked) where
  -- the next word was found, and the rest was read behind it
  pub read_on : (word : ℕ) (r : Result (List ℕ) Rc) → MayAnswer told (table_address address (length words))
      → Some word ≡ memory (table_address address (length words))
      → Ran told memory CallbackError (words_behind address n (words ++ (word ∷ []))) (asked_after (Word (table_address address (length words))) before) now r
      → Ran told memory CallbackError (words_behind address (suc n) words) before now r
  unfolding words_behind
  read_on word r may is rest =
      inr (
        may,
        subst (λ found. Ran told memory CallbackError (after (ok_or found (Error (table_address address (length words)) 0)) (λ x. words_behind address n (words ++ (x ∷ []))))
            (asked_after (Word (table_address address (length words))) before) now r) is rest,
      )

  -- no word stands there
  pub read_none : MayAnswer told (table_address address (length words)) → None ≡ memory (table_address address (length words))
      → now ≡ asked_after (Word (table_address address (length words))) before
      → Ran told memory CallbackError (words_behind address (suc n) words) before now (Err (Error (table_address address (length words)) 0))
  unfolding words_behind
  read_none may is asks =
      inr (
        may,
        subst (λ found. Ran told memory CallbackError (after (ok_or found (Error (table_address address (length words)) 0)) (λ x. words_behind address n (words ++ (x ∷ []))))
            (asked_after (Word (table_address address (length words))) before) now (Err (Error (table_address address (length words)) 0))) is (asks, refl),
      )

  -- the read failed
  pub read_failed : MayFail told (table_address address (length words)) → now ≡ missed_after (table_address address (length words)) before
      → Ran told memory CallbackError (words_behind address (suc n) words) before now (Err CallbackError)
  unfolding words_behind
  read_failed may misses = inl (may, misses, refl)

-- all were read
pub read_all : (told : Told) (memory : Words) (address : ℕ) (words : List ℕ) (asked : Asked)
    → Ran told memory CallbackError (words_behind address 0 words) asked asked (Ok words)
unfolding words_behind
read_all told memory address words asked = (refl, refl)

-- the sizes of the basic types were compared one by one
pub sizes_are : (s : Sizes) → not (eqb s.char_size 1 && (eqb s.short_size 2 && (eqb s.int_size 4 && (eqb s.long_size 8 && (eqb s.long_long_size 8 && eqb s.pointer_size 8))))) ≡ false
    → s ≡ usual_sizes
sizes_are s same =
    let all = not-false (eqb s.char_size 1 && (eqb s.short_size 2 && (eqb s.int_size 4 && (eqb s.long_size 8 && (eqb s.long_long_size 8 && eqb s.pointer_size 8))))) same in
    let one = and_right (eqb s.char_size 1) (eqb s.short_size 2 && (eqb s.int_size 4 && (eqb s.long_size 8 && (eqb s.long_long_size 8 && eqb s.pointer_size 8)))) all in
    let two = and_right (eqb s.short_size 2) (eqb s.int_size 4 && (eqb s.long_size 8 && (eqb s.long_long_size 8 && eqb s.pointer_size 8))) one in
    let three = and_right (eqb s.int_size 4) (eqb s.long_size 8 && (eqb s.long_long_size 8 && eqb s.pointer_size 8)) two in
    let four = and_right (eqb s.long_size 8) (eqb s.long_long_size 8 && eqb s.pointer_size 8) three in
    let char : s.char_size ≡ 1 = eqb-true s.char_size 1 (and_left (eqb s.char_size 1) _ all) in
    let short : s.short_size ≡ 2 = eqb-true s.short_size 2 (and_left (eqb s.short_size 2) _ one) in
    let int : s.int_size ≡ 4 = eqb-true s.int_size 4 (and_left (eqb s.int_size 4) _ two) in
    let long : s.long_size ≡ 8 = eqb-true s.long_size 8 (and_left (eqb s.long_size 8) _ three) in
    let long_long : s.long_long_size ≡ 8 = eqb-true s.long_long_size 8 (and_left (eqb s.long_long_size 8) _ four) in
    let pointer : s.pointer_size ≡ 8 = eqb-true s.pointer_size 8 (and_right (eqb s.long_long_size 8) (eqb s.pointer_size 8) four) in
    λ i. record {
      char_size = char i;
      short_size = short i;
      int_size = int i;
      long_size = long i;
      long_long_size = long_long i;
      pointer_size = pointer i;
    }

-- a call that fails exactly where another one does opens as that one
pub opens_as : {C F P Q : Type 0} {told : C → Told} {asked : C → Asked} {old new : Kept C F} → (P → Q) → (Q → P)
    → Opens told asked old new P → Opens told asked old new Q
opens_as to from opens = record {
  others = opens.others;
  usual = λ memory tells sizes.
      let by = opens.usual memory tells sizes in
      record { found = by.found; ran = by.ran; failed = (λ q. by.failed.0 (from q), λ e. to (by.failed.1 e)) };
}
