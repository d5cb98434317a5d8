-- Reads that are made over known words come to what an inquiry over these does.
use Rattle.std.proofs.Common.{◌≡◌, inl, inr, ℕ, true, cond, List, Option, Some, None, Result, Err, refl, sym, ap, ◌∙◌}
use Rattle.std.specs.Option.{option_map}
use Rattle.omi_calls.specs.Asked.{Asked, Word, asked_after}
use Rattle.omi_calls.specs.Told.{Told}
use Rattle.omi_session.specs.declared.rc.Rc.{Rc}
use Rattle.omi_session.specs.declared.rc.Rc.TheVariants.{CallbackError}
use Rattle.omi_session.specs.Reads.{Reads, Answer, Read, Ran}
use Rattle.omi_session.specs.Tells.{Tells}
use Rattle.omi_c.specs.declared.causes.Cause.TheVariants.{Needs}
use Rattle.omi_c.specs.declared.known.Known.{Known}
use Rattle.omi_c.specs.Known.{is_unknown, told_by_known, word_at, words_by}
use Rattle.omi_c.specs.Missed.{reply_by}
use Rattle.omi_c.specs.Replies.{asked_on, replied}

-- known words tell a memory that has no others
pub known_tells : (known : List Known) (told : Told) → told ≡ told_by_known known → Tells told (word_at known)
known_tells known told is = record {
  order = 0;
  order_told = ap (λ t. t.order) is;
  words = words_by known (λ _. None);
  rest = λ _. None;
  words_told = ap (λ t. t.words (λ _. None)) is;
  is = refl;
}

module _ {A : Type 0} (known : List Known) where
  pub came_over : (reads : Reads A) (before now : Asked) (result : Result A Rc) → before.missed ≡ Some None
      → Ran (told_by_known known) (word_at known) CallbackError reads before now result
      → (missed : Option ℕ) → now.missed ≡ Some missed → reply_by missed result ≡ asked_on known reads
  came_over (Answer answer) before now result none ran missed is =
      let same : Some missed ≡ Some None = sym is ∙ ap (λ a. a.missed) ran.0 ∙ none in
      let nothing : missed ≡ None = cc in
      ap (λ m. reply_by m result) nothing ∙ ap replied ran.1
  came_over (Read addr more) before now result none (inl fails) missed is =
      let unknown : is_unknown known addr ≡ true = fails.0 (is_unknown known) refl in
      let kept : now.missed ≡ Some (Some addr) =
      ap (λ a. a.missed) fails.1 ∙ ap (λ m. option_map (λ _. Some addr) m) none in
      let same : Some missed ≡ Some (Some addr) = sym is ∙ kept in
      let there : missed ≡ Some addr = cc in
      ap (λ m. reply_by m result) there
      ∙ sym (ap (λ b. cond b (Err (Needs addr)) (asked_on known (more (word_at known addr)))) unknown)
  came_over (Read addr more) before now result none (inr goes) missed is =
      came_over (more (word_at known addr)) (asked_after (Word addr) before) now result none goes.1 missed is
      ∙ sym (ap (λ b. cond b (Err (Needs addr)) (asked_on known (more (word_at known addr)))) (goes.0 (is_unknown known) refl))
