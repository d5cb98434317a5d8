-- A session over the words of an image that show a state: it opens, and a walk in it is never refused.
use Rattle.std.proofs.Common.{◌≡◌, ◌<◌, ℕ, List, [], ◌∷◌, length, Ok, Err, refl, ◌∙◌, subst, arith}
use Rattle.std.specs.Prelude.{Result}
use Rattle.omi.proofs.NoTargets.{tells_core}
use Rattle.omi.specs.Opened.{IsNoTarget, words_of_core}
use Rattle.omi.specs.declared.fault.OpenError.{OpenError}
use Rattle.omi.specs.declared.fault.OpenError.TheVariants as error
use Rattle.omi_calls.specs.Memory.{told_by}
use Rattle.omi_calls.specs.Told.{Told}
use Rattle.omi_corefile.specs.Spelling.{segments_of}
use Rattle.omi_corefile.specs.declared.core_image.CoreImage.{CoreImage}
use Rattle.omi_layout.proofs.OneAnswer.{not_both, one_layout}
use Rattle.omi_layout.specs.Given.{GivesLayout}
use Rattle.omi_layout.specs.NoLayout.{GivesNone}
use Rattle.omi_model.specs.declared.view.View.{View}
use Rattle.omi_rep.proofs.shown.ShownViews.{shown_looked}
use Rattle.omi_rep.specs.Look.{Look}
use Rattle.omi_rep.specs.LookView.{look_view}
use Rattle.omi_session.specs.Tells.{Tells}
use Rattle.omi_calls.proofs.ImageWords.{image_words}
use Rattle.omi_walk.specs.Gives.{Gives}
use Rattle.omi_walk.specs.declared.fault.WalkFault.{WalkFault}
use Rattle.omi_walk.specs.declared.fault.WalkFault.TheVariants as walk
use Rattle.omi_word.specs.Words.{Words, words_of}
use Rattle.omi_word.specs.declared.limits.TheConstants.{FIRST_ADDRESS}
use Rattle.omi_commands.specs.Imaged.{ShowsSome}

-- a walk that failed
abbrev pub failed : WalkFault → Result View WalkFault
failed fault = Err fault

-- a walk that gave a view
abbrev pub walked : View → Result View WalkFault
walked view = Ok view

-- what a look gives, a walk is not refused
pub not_refused : {A : Type 0} (fault : WalkFault) (look : Look A) (x : A)
    → (let refused : Result A WalkFault = Err fault in Gives refused look) → look ≡ Ok x
    → (fault ≡ walk.Callback → ⊥) → (fault ≡ walk.OutOfMemory → ⊥) → ⊥
not_refused (walk.Damaged addr field) look x gives looked none some = cc
not_refused (walk.Cycle addr) look x gives looked none some = cc
not_refused walk.Callback look x gives looked none some = none refl
not_refused walk.OutOfMemory look x gives looked none some = some refl

one_segment : (words : List ℕ) → 0 < length words
    → segments_of words ≡ record { start = FIRST_ADDRESS; words = words } ∷ []
one_segment [] some = absurd (omega (arith, some))
one_segment (word ∷ words) some = refl

-- the core of an image that has a word tells the image's words
pub core_words : (words ids : List ℕ) (core : CoreImage) → 0 < length words → core.order ≡ 0
    → core.contexts ≡ ids → core.segments ≡ segments_of words → words_of_core core ≡ words_of words
core_words words ids core some order contexts segments =
    image_words ids words core (record {
      order = order;
      contexts_are = contexts;
      segments = segments ∙ one_segment words some;
    })

module _ (words : List ℕ) (k : ShowsSome words) where
  -- a session over them opens
  pub opens : (core : CoreImage) (e : OpenError) → words_of_core core ≡ words_of words → IsNoTarget core e → ⊥
  opens core (error.NoTarget rc) same cause =
      not_both (words_of words) k.w cause.error k.valid k.shows.layout
      (subst (λ (m : Words). GivesNone m cause.error) same cause.gives_none)
  opens core error.NoFile same cause = cause
  opens core error.NotRead same cause = cause
  opens core (error.NoCore at why) same cause = cause
  opens core (error.NoElf at why) same cause = cause
  opens core error.OutOfMemory same cause = cause

  -- a walk gives what a look at them gives, in the layout that they give
  pub walk_gives : {A : Type 0} (core : CoreImage) (told : Told) (layout w : List ℕ) (result : Result A WalkFault)
      (look : List ℕ → Words → Look A) → words_of_core core ≡ words_of words → told ≡ told_by core
      → GivesLayout (words_of_core core) layout → ((memory : Words) → Tells told memory → Gives result (look layout memory))
      → GivesLayout (words_of words) w → Gives result (look w (words_of words))
  walk_gives core told layout w result look same is gives looks wanted =
      let here : GivesLayout (words_of words) layout =
      subst (λ (m : Words). GivesLayout m layout) same gives in
      subst (λ (l : List ℕ). Gives result (look l (words_of words)))
      (one_layout (words_of words) layout w here wanted)
      (subst (λ (m : Words). Gives result (look layout m)) same
      (looks (words_of_core core) (tells_core core told is)))

  -- there is a view of them
  pub viewed : (ids : List ℕ) → (v : View) × (look_view k.w (words_of words) ids ≡ Ok v)
  viewed ids =
      let (v, looked, view) =
      shown_looked k.w (words_of words) k.state ids k.valid k.names k.shows in
      (v, looked)

  -- and so is never refused
  pub walk_free : (ids : List ℕ) (fault : WalkFault) → Gives (failed fault) (look_view k.w (words_of words) ids)
      → (fault ≡ walk.Callback → ⊥) → (fault ≡ walk.OutOfMemory → ⊥) → ⊥
  walk_free ids fault gives no_callback some_memory =
      let (v, looked) = viewed ids in
      not_refused fault (look_view k.w (words_of words) ids) v gives looked no_callback some_memory
