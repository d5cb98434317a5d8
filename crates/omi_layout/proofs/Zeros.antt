-- The memory of an image of zeros in which a layout was published.
use Rattle.std.proofs.Common.{◌≡◌, ℕ, zero, suc, Bool, true, false, cond, List, refl, ap, ◌∙◌}
use Rattle.std.specs.Prelude.{replicate, slice_index, IsTrue}
use Rattle.omi_layout.specs.Field.{kind_of}
use Rattle.omi_layout.specs.Front.{IsPublished}
use Rattle.omi_layout.specs.Memory.{memory_of, is_record_word}
use Rattle.omi_layout.specs.Place.{fits, index_of}
use Rattle.omi_layout.specs.Valid.{IsValid}
use Rattle.omi_layout.specs.Words.{word_place}
use Rattle.omi_layout.proofs.Frame.{are_inside}
use Rattle.omi_layout.proofs.Stored.{numbered, test_told}

pub zero_at : (n p : ℕ) → slice_index (replicate n 0) p ≡ 0
zero_at zero p = refl
zero_at (suc n) zero = refl
zero_at (suc n) (suc p) = zero_at n p

pub published_zero : (w old new : List ℕ) (n : ℕ) → IsValid w → old ≡ replicate n 0 → IsTrue (fits w n)
    → IsPublished w old new
    → (c k s f at : ℕ) → memory_of w new c k s f at ≡ 0
unfolding memory_of
published_zero w old new n v zeros fit published c k s f at = go (is_record_word w c k s f at) refl
  where
    go : (b : Bool) → is_record_word w c k s f at ≡ b
        → cond b (slice_index new (word_place w f (index_of w (kind_of f) c s) at)) 0 ≡ 0
    go false e = refl
    go true e =
        let told = test_told w c k s f at e in
        let behind =
        (are_inside w v n f (index_of w (kind_of f) c s) at fit (numbered w c s f at told.word)).behind in
        published.others (word_place w f (index_of w (kind_of f) c s) at) behind
        ∙ ap (λ (xs : List ℕ). slice_index xs (word_place w f (index_of w (kind_of f) c s) at)) zeros
        ∙ zero_at n (word_place w f (index_of w (kind_of f) c s) at)
