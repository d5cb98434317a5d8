-- A session over the words of a core: what they tell, why there is none, and what a walk in it answers.
use Rattle.std.proofs.Common.{◌≡◌, inl, inr, ℕ, List, Ok, Err, refl, sym, ◌∙◌, ap, subst}
use Rattle.std.specs.Prelude.{Result}
use Rattle.omi.proofs.NoTargets.{tells_core}
use Rattle.omi_calls.specs.Memory.{told_by, usual_sizes}
use Rattle.omi_calls.specs.Told.{Told}
use Rattle.omi_corefile.specs.declared.core_image.CoreImage.{CoreImage}
use Rattle.omi_layout.specs.Given.{GivesLayout}
use Rattle.omi_word.specs.Words.{Words}
use Rattle.omi_layout.specs.Valid.{IsValid}
use Rattle.omi_layout.specs.declared.fault.LayoutFault.TheVariants.{Version, Overlap, OutOfRecord, BadArena}
use Rattle.omi_layout.specs.declared.reading.LayoutError.{LayoutError}
use Rattle.omi_layout.specs.declared.reading.LayoutError.TheVariants as error
use Rattle.omi_model.specs.declared.view.View.{View}
use Rattle.omi_rep.specs.LookView.{look_view}
use Rattle.omi_rep.specs.declared.fault.LookFault.TheVariants as look
use Rattle.omi_session.specs.Opening.{IsCause, Refuses, cause_code}
use Rattle.omi_session.specs.Tells.{Tells}
use Rattle.omi_session.specs.declared.rc.Rc.{Rc}
use Rattle.omi_session.specs.declared.rc.Rc.TheVariants as code
use Rattle.omi_top.specs.Cores.{IsLooked, words_of_core}
use Rattle.omi_top.specs.Questions.{IsLayoutRefusal, IsUnopened, refusal_of_layout}
use Rattle.omi_commands.specs.Inquiries.{refusal_of_code}
use Rattle.omi_top.specs.Shown.{IsViewed, handed_on}
use Rattle.omi_frame.specs.declared.refusal.Refusal.{Refusal}
use Rattle.omi_walk.specs.Gives.{Gives}
use Rattle.omi_walk.specs.declared.fault.WalkFault.{WalkFault}
use Rattle.omi_walk.specs.declared.fault.WalkFault.TheVariants as walk

-- ---- a session that doesn't open

code_refusal : (e : LayoutError) → refusal_of_code (cause_code e) ≡ refusal_of_layout e
code_refusal error.NoSymbol = refl
code_refusal (error.Unmapped addr) = refl
code_refusal (error.Refused addr (Version v)) = refl
code_refusal (error.Refused addr (Overlap f g)) = refl
code_refusal (error.Refused addr (OutOfRecord f)) = refl
code_refusal (error.Refused addr (BadArena p)) = refl

-- the words give no layout, and the code says why
pub cause_refusal : (core : CoreImage) (rc : Rc) → IsCause (words_of_core core) rc
    → IsLayoutRefusal core (refusal_of_code rc)
cause_refusal core rc cause =
    (cause.error, cause.gives_none, ap refusal_of_code cause.is ∙ code_refusal cause.error)

-- the words give no layout, or a callback failed
pub open_refused : (core : CoreImage) (told : Told) (rc : Rc) → told ≡ told_by core
    → ((memory : Words) → Tells told memory → told.sizes ≡ usual_sizes → Refuses memory rc)
    → IsUnopened core (refusal_of_code rc)
open_refused core told rc is words =
    go rc (words (words_of_core core) (tells_core core told is) (ap (λ (t : Told). t.sizes) is))
  where
    go : (r : Rc) → Refuses (words_of_core core) r → IsUnopened core (refusal_of_code r)
    go code.CallbackError refuses = inr refl
    go r refuses = inl (cause_refusal core r (refuses (λ failed. cc failed)))

-- a core over which there is no session has no view
pub unopened_viewed : (core : CoreImage) (r : Refusal) → IsUnopened core r → IsViewed core (Err r)
unopened_viewed core r (inl refused) = inl (inl refused)
unopened_viewed core r (inr failed) = inr (inl failed)

-- what a walk over the words of a core answers, where no callback fails and there is memory
abbrev pub Walked : CoreImage → Result View WalkFault → Type 0
Walked core (Ok v) = IsLooked core (Ok v)
Walked core (Err (walk.Damaged addr field)) = IsLooked core (Err (look.Damaged addr field))
Walked core (Err (walk.Cycle addr)) = IsLooked core (Err (look.Cycle addr))
Walked core (Err walk.Callback) = Unit {0}
Walked core (Err walk.OutOfMemory) = Unit {0}

pub walked : (core : CoreImage) (told : Told) (w contexts : List ℕ) (result : Result View WalkFault)
    → told ≡ told_by core → contexts ≡ core.contexts → IsValid w → GivesLayout (words_of_core core) w
    → ((memory : Words) → Tells told memory → Gives result (look_view w memory contexts)) → Walked core result
walked core told w contexts result is same valid layout looks =
    go result
    (subst (λ (ids : List ℕ). Gives result (look_view w (words_of_core core) ids)) same (looks (words_of_core core) (tells_core core told is)))
  where
    go : (r : Result View WalkFault) → Gives r (look_view w (words_of_core core) core.contexts)
        → Walked core r
    go (Ok v) gives = record { w = w; valid = valid; layout = layout; is = gives }
    go (Err (walk.Damaged addr field)) gives = record { w = w; valid = valid; layout = layout; is = gives }
    go (Err (walk.Cycle addr)) gives = record { w = w; valid = valid; layout = layout; is = gives }
    go (Err walk.Callback) gives = tt
    go (Err walk.OutOfMemory) gives = tt

-- the answer of a walk is a view of the core's words, or says why there is none
pub walk_viewed : (core : CoreImage) (result : Result View WalkFault) → Walked core result
    → IsViewed core (handed_on result)
walk_viewed core (Ok v) looked = looked
walk_viewed core (Err (walk.Damaged addr field)) looked = inl (inr (look.Damaged addr field, looked, refl))
walk_viewed core (Err (walk.Cycle addr)) looked = inl (inr (look.Cycle addr, looked, refl))
walk_viewed core (Err walk.Callback) looked = inr (inl refl)
walk_viewed core (Err walk.OutOfMemory) looked = inr (inr refl)
