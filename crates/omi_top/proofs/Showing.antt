-- What `show` answers where there is a view of its core, and where there is none.
use Rattle.std.proofs.Common.{◌≡◌, inl, inr, ℕ, List, Option, Some, None, Ok, Err, refl, subst, sym}
use Rattle.std.specs.Global.{Vec}
use Rattle.omi_outside.specs.Outside.{Told}
use Rattle.omi_model.specs.declared.view.View.{View}
use Rattle.omi_text.specs.Report.{report}
use Rattle.omi_frame.specs.Left.{IsAnswered, IsEarly}
use Rattle.omi_top.specs.Command.{Show}
use Rattle.omi_top.specs.Questions.{IsAnswerOf}
use Rattle.omi_top.specs.Shown.{IsViewed}
use Rattle.omi_frame.specs.Refusal.{IsUnread}
use Rattle.omi_frame.specs.declared.refusal.Input.TheVariants as input
use Rattle.omi_frame.specs.declared.refusal.Refusal.{Refusal}
use Rattle.omi_top.specs.CommandVerbs.{verb_of}

module _ (name : List ℕ) (told : List ℕ → Told) (content : Option (List ℕ))
    (is : told name ≡ Some content) (old : Told) where
  unread : (r : Refusal) → IsUnread input.Core r → IsAnswered (verb_of (Show name)) told (Err r) old old
  unread r (inl failed) = inr (inl (subst (λ (x : Refusal). IsEarly (verb_of (Show name)) x) (sym failed) tt, refl))
  unread r (inr memory) = inr (inl (subst (λ (x : Refusal). IsEarly (verb_of (Show name)) x) (sym memory) tt, refl))

  pub show_refused : (r : Refusal) → IsAnswerOf IsViewed content (Err r)
      → IsAnswered (verb_of (Show name)) told (Err r) old old
  show_refused r answer = go content is answer
    where
      go : (c : Option (List ℕ)) → told name ≡ Some c → IsAnswerOf IsViewed c (Err r)
          → IsAnswered (verb_of (Show name)) told (Err r) old old
      go None here (inl missing) = inl (None, (None, here, missing), refl)
      go None here (inr free) = unread r free
      go (Some bytes) here (inl refused) = inl (None, (Some bytes, here, inl refused), refl)
      go (Some bytes) here (inr (inl free)) = unread r free
      go (Some bytes) here (inr (inr (core, spelled, inl refused))) =
          inl (None, (Some bytes, here, inr (core, spelled, refused)), refl)
      go (Some bytes) here (inr (inr (core, spelled, inr free))) = unread r free

  pub show_reported : (v : View) (text : Vec ℕ) → IsAnswerOf IsViewed content (Ok v)
      → text.items ≡ report v → IsAnswered (verb_of (Show name)) told (Ok text) old old
  show_reported v text answer same = go content is answer
    where
      go : (c : Option (List ℕ)) → told name ≡ Some c → IsAnswerOf IsViewed c (Ok v)
          → IsAnswered (verb_of (Show name)) told (Ok text) old old
      go None here answer = absurd answer
      go (Some bytes) here viewed = (None, (Some bytes, here, (v, viewed, same)), refl)
