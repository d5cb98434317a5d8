-- What `audit` answers where there is a verdict on its core, and where there is none.
use Rattle.std.proofs.Common.{◌≡◌, inl, inr, ℕ, List, Option, Some, None, Ok, Err, refl, subst, sym, ◌∙◌}
use Rattle.std.specs.Prelude.{Result, IfOk}
use Rattle.std.specs.Global.{Vec}
use Rattle.omi_audit.specs.Verdicts.{verdict}
use Rattle.omi_audit.specs.declared.verdict.AuditFault.{AuditFault}
use Rattle.omi_audit.specs.declared.verdict.AuditFault.TheVariants as fault
use Rattle.omi_audit.specs.declared.verdict.Verdict.{Verdict}
use Rattle.omi_corefile.specs.declared.core_image.CoreImage.{CoreImage}
use Rattle.omi_layout.specs.Given.{GivesLayout}
use Rattle.omi_layout.specs.Valid.{IsValid}
use Rattle.omi_outside.specs.Outside.{Told}
use Rattle.omi_frame.specs.Left.{IsAnswered, IsEarly}
use Rattle.omi_top.specs.Audit.{IsJudged, audit_line, judged}
use Rattle.omi_top.specs.Command.{Audit}
use Rattle.omi_top.specs.Cores.{words_of_core}
use Rattle.omi_top.specs.Questions.{IsAnswerOf, IsUnopened}
use Rattle.omi_frame.specs.Refusal.{IsUnread}
use Rattle.omi_frame.specs.declared.refusal.Input.TheVariants as input
use Rattle.omi_frame.specs.declared.refusal.Refusal.{Refusal}
use Rattle.omi_top.specs.CommandVerbs.{verb_of}

-- a core over which there is no session has no verdict
pub unopened_judged : (core : CoreImage) (r : Refusal) → IsUnopened core r → IsJudged core (Err r)
unopened_judged core r (inl refused) = inl refused
unopened_judged core r (inr failed) = inr (inl failed)

-- what an audit answers is the verdict on the words of the core, or there is none
pub audit_judged_by : (core : CoreImage) (w : List ℕ) (r : Result Verdict AuditFault) → IsValid w
    → GivesLayout (words_of_core core) w → IfOk r (λ v. v ≡ verdict w (words_of_core core)) → IsJudged core (judged r)
audit_judged_by core w (Ok v) valid layout is = record { w = w; valid = valid; layout = layout; is = sym is }
audit_judged_by core w (Err fault.Callback) valid layout is = inr (inl refl)
audit_judged_by core w (Err fault.OutOfMemory) valid layout is = inr (inr refl)

module _ (name : List ℕ) (told : List ℕ → Told) (content : Option (List ℕ))
    (is : told name ≡ Some content) (old : Told) where
  unread : (r : Refusal) → IsUnread input.Core r → IsAnswered (verb_of (Audit name)) told (Err r) old old
  unread r (inl failed) = inr (inl (subst (λ (x : Refusal). IsEarly (verb_of (Audit name)) x) (sym failed) tt, refl))
  unread r (inr memory) = inr (inl (subst (λ (x : Refusal). IsEarly (verb_of (Audit name)) x) (sym memory) tt, refl))

  pub audit_refused : (r : Refusal) → IsAnswerOf IsJudged content (Err r)
      → IsAnswered (verb_of (Audit name)) told (Err r) old old
  audit_refused r answer = go content is answer
    where
      go : (c : Option (List ℕ)) → told name ≡ Some c → IsAnswerOf IsJudged c (Err r)
          → IsAnswered (verb_of (Audit name)) told (Err r) old old
      go None here (inl missing) = inl (None, (None, here, missing), refl)
      go None here (inr free) = unread r free
      go (Some bytes) here (inl refused) = inl (None, (Some bytes, here, inl refused), refl)
      go (Some bytes) here (inr (inl free)) = unread r free
      go (Some bytes) here (inr (inr (core, spelled, inl refused))) =
          inl (None, (Some bytes, here, inr (core, spelled, refused)), refl)
      go (Some bytes) here (inr (inr (core, spelled, inr free))) = unread r free

  pub audit_judged : (v : Verdict) (text : Vec ℕ) (line : List ℕ) → IsAnswerOf IsJudged content (Ok v)
      → line ≡ audit_line v → text.items ≡ line → IsAnswered (verb_of (Audit name)) told (Ok text) old old
  audit_judged v text line answer same also = go content is answer
    where
      go : (c : Option (List ℕ)) → told name ≡ Some c → IsAnswerOf IsJudged c (Ok v)
          → IsAnswered (verb_of (Audit name)) told (Ok text) old old
      go None here answer = absurd answer
      go (Some bytes) here judged = (None, (Some bytes, here, (v, judged, also ∙ same)), refl)
