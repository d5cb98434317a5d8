-- Two cores have one refusal of `follow` or one answer.
use Rattle.std.proofs.Common.{◌≡◌, inl, inr, ℕ, List, Option, Some, None, Ok, Err, sym, ◌∙◌, ap, subst}
use Rattle.omi_corefile.specs.declared.core_image.CoreImage.{CoreImage}
use Rattle.omi_layout.proofs.OneAnswer.{one_cause, one_layout, not_both}
use Rattle.omi_model.specs.declared.view.View.{View}
use Rattle.omi_rep.specs.Look.{Look}
use Rattle.omi_rep.specs.LookView.{look_view}
use Rattle.omi_rep.specs.declared.fault.LookFault.{LookFault}
use Rattle.omi_walk.specs.Kept.{task_names}
use Rattle.omi_frame.specs.Verb.{Gives}
use Rattle.omi_top.specs.verbs.Follow.{IsFollowAnswer, IsFollowRefusal}
use Rattle.omi_top.specs.Cores.{IsLooked, words_of_core}
use Rattle.omi_top.specs.Follow.{AreUnlike, IsFollowed, IsLaterRefusal, IsUnfollowed}
use Rattle.omi_commands.specs.Fates.{look_fates}
use Rattle.omi_top.specs.Questions.{refusal_of_layout}
use Rattle.omi_commands.specs.Inquiries.{refusal_of_look}
use Rattle.omi_top.proofs.Files.{file_not_refused, one_told}
use Rattle.omi_page.proofs.OpenedFiles.{file_unique}
use Rattle.omi_top.proofs.ShowVerdicts.{one_refusal, one_view, report_not_refused}
use Rattle.omi_frame.specs.declared.refusal.Refusal.{Refusal}

-- ---- one answer of the words of two cores

-- what is looked up of two cores is one thing
pub one_followed : (core later : CoreImage) (x y : Look (List ℕ)) → IsFollowed core later x → IsFollowed core later y
    → x ≡ y
one_followed core later x y a b =
    let layouts : a.w ≡ b.w = one_layout (words_of_core core) a.w b.w a.layout b.layout in
    let views : a.view ≡ b.view =
    one_view a.view b.view
    (sym a.looked ∙ ap (λ (w : List ℕ). look_view w (words_of_core core) core.contexts) layouts ∙ b.looked) in
    sym a.is
    ∙ ap (λ (w : List ℕ). look_fates w (words_of_core later) (task_names a.view)) layouts
    ∙ ap (λ (v : View). look_fates b.w (words_of_core later) (task_names v)) views ∙ b.is

fates_fault : (e f : LookFault) → (let failed : LookFault → Look (List ℕ) = λ x. Err x in failed e ≡ failed f) → e ≡ f
fates_fault e f same = cc

text_no_fault : (text : List ℕ) (e : LookFault) → (let gives : Look (List ℕ) = Ok text in gives ≡ Err e) → ⊥
text_no_fault text e same = cc

-- two cores of one layout are not of two
not_unlike : (core later : CoreImage) (x : Look (List ℕ)) → IsFollowed core later x → AreUnlike core later → ⊥
not_unlike core later x a unlike =
    unlike.other.differs
    (one_layout (words_of_core later) unlike.other.other a.w unlike.other.gives a.same
    ∙ one_layout (words_of_core core) a.w unlike.w a.layout unlike.layout)

one_unfollowed : (core later : CoreImage) (r s : Refusal) → IsUnfollowed core later r → IsUnfollowed core later s
    → r ≡ s
one_unfollowed core later r s (inl (e, a, p)) (inl (f, b, q)) =
    p ∙ ap refusal_of_layout (one_cause (words_of_core later) e f a b) ∙ sym q
one_unfollowed core later r s (inl (e, a, p)) (inr (inl (b, q))) =
    absurd (not_both (words_of_core later) b.other.other e b.other.valid b.other.gives a)
one_unfollowed core later r s (inl (e, a, p)) (inr (inr (f, b, q))) =
    absurd (not_both (words_of_core later) b.w e b.valid b.same a)
one_unfollowed core later r s (inr (inl (a, p))) (inl (f, b, q)) =
    absurd (not_both (words_of_core later) a.other.other f a.other.valid a.other.gives b)
one_unfollowed core later r s (inr (inl (a, p))) (inr (inl (b, q))) = p ∙ sym q
one_unfollowed core later r s (inr (inl (a, p))) (inr (inr (f, b, q))) =
    absurd (not_unlike core later (Err f) b a)
one_unfollowed core later r s (inr (inr (e, a, p))) (inl (f, b, q)) =
    absurd (not_both (words_of_core later) a.w f a.valid a.same b)
one_unfollowed core later r s (inr (inr (e, a, p))) (inr (inl (b, q))) =
    absurd (not_unlike core later (Err e) a b)
one_unfollowed core later r s (inr (inr (e, a, p))) (inr (inr (f, b, q))) =
    p ∙ ap refusal_of_look (fates_fault e f (one_followed core later (Err e) (Err f) a b)) ∙ sym q

-- ---- of a second file

one_later : (core : CoreImage) (content : Option (List ℕ)) (r s : Refusal) → IsLaterRefusal core content r
    → IsLaterRefusal core content s → r ≡ s
one_later core None r s p q = p ∙ sym q
one_later core (Some bytes) r s (inl a) (inl b) = one_told bytes r s a b
one_later core (Some bytes) r s (inl a) (inr (later, is, b)) = absurd (file_not_refused bytes later r is a)
one_later core (Some bytes) r s (inr (later, is, a)) (inl b) = absurd (file_not_refused bytes later s is b)
one_later core (Some bytes) r s (inr (later, spelled, a)) (inr (other, also, b)) =
    one_unfollowed core later r s a
    (subst (λ (c : CoreImage). IsUnfollowed core c s) (file_unique bytes other later also spelled) b)

followed_not_refused : (core later : CoreImage) (text : List ℕ) (r : Refusal) → IsFollowed core later (Ok text)
    → IsUnfollowed core later r → ⊥
followed_not_refused core later text r a (inl (e, none, p)) =
    not_both (words_of_core later) a.w e a.valid a.same none
followed_not_refused core later text r a (inr (inl (unlike, p))) = not_unlike core later (Ok text) a unlike
followed_not_refused core later text r a (inr (inr (e, b, p))) =
    text_no_fault text e (one_followed core later (Ok text) (Err e) a b)

-- ---- of both

pub one_follow_refusal : (content later : Option (List ℕ)) (r s : Refusal) → IsFollowRefusal content later r
    → IsFollowRefusal content later s → r ≡ s
one_follow_refusal None later r s p q = one_refusal None r s p q
one_follow_refusal (Some bytes) later r s (inl a) (inl b) = one_refusal (Some bytes) r s a b
one_follow_refusal (Some bytes) later r s (inl a) (inr (v, (core, spelled, (looked, b)))) =
    absurd (report_not_refused bytes v r (core, spelled, looked) a)
one_follow_refusal (Some bytes) later r s (inr (v, (core, spelled, (looked, a)))) (inl b) =
    absurd (report_not_refused bytes v s (core, spelled, looked) b)
one_follow_refusal (Some bytes) later r s (inr (v, (core, spelled, (looked, a)))) (inr (u, (other, also, (seen, b)))) =
    one_later core later r s a
    (subst (λ (c : CoreImage). IsLaterRefusal c later s) (file_unique bytes other core also spelled) b)

-- a first core that is followed has a report
looked_of : (core later : CoreImage) (x : Look (List ℕ)) (a : IsFollowed core later x) → IsLooked core (Ok a.view)
looked_of core later x a = record { w = a.w; valid = a.valid; layout = a.layout; is = a.looked }

-- what is answered is not refused
pub follow_not_refused : (content later : Option (List ℕ)) (text : List ℕ) (r : Refusal)
    → IsFollowAnswer content later (Gives None (Ok text)) → IsFollowRefusal content later r → ⊥
follow_not_refused None later text r answer refuses = absurd answer
follow_not_refused (Some bytes) None text r answer refuses = absurd answer
follow_not_refused (Some bytes) (Some others) text r (core, spelled, (later, also, a)) (inl refused) =
    report_not_refused bytes a.view r (core, spelled, looked_of core later (Ok text) a) refused
follow_not_refused (Some bytes) (Some others) text r (core, spelled, (later, also, a)) (inr (v, (other, same, (looked, b)))) =
    go (subst (λ (c : CoreImage). IsLaterRefusal c (Some others) r) (file_unique bytes other core same spelled) b)
  where
    go : IsLaterRefusal core (Some others) r → ⊥
    go (inl told) = file_not_refused others later r also told
    go (inr (c, spells, unfollowed)) =
        followed_not_refused core later text r a
        (subst (λ (x : CoreImage). IsUnfollowed core x r) (file_unique others c later spells also) unfollowed)

-- there is one answer
pub one_follow_answer : (content later : Option (List ℕ)) (x y : List ℕ) → IsFollowAnswer content later (Gives None (Ok x))
    → IsFollowAnswer content later (Gives None (Ok y)) → x ≡ y
one_follow_answer None later x y a b = absurd a
one_follow_answer (Some bytes) None x y a b = absurd a
one_follow_answer (Some bytes) (Some others) x y (core, spelled, (later, also, a)) (image, same, (next, still, b)) =
    texts_one x y
    (one_followed core later (Ok x) (Ok y) a
    (subst (λ (c : CoreImage). IsFollowed c later (Ok y)) (file_unique bytes image core same spelled)
    (subst (λ (c : CoreImage). IsFollowed image c (Ok y)) (file_unique others next later still also) b)))
  where
    texts_one : (u v : List ℕ) → (let gives : List ℕ → Look (List ℕ) = λ t. Ok t in gives u ≡ gives v) → u ≡ v
    texts_one u v same = cc
