-- Why there is no session over the words of a core.
use Rattle.std.proofs.Common.{◌≡◌, ℕ, List, Option, None, refl, sym, ap, subst}
use Rattle.omi_calls.specs.CoreWords.{words_of_segments}
use Rattle.omi_calls.specs.Memory.{told_by, usual_sizes}
use Rattle.omi_calls.specs.Told.{Told}
use Rattle.omi_corefile.specs.declared.core_image.CoreImage.{CoreImage}
use Rattle.omi_session.specs.Opening.{IsCause, Refuses}
use Rattle.omi_session.specs.Tells.{Tells}
use Rattle.omi_session.specs.declared.rc.Rc.{Rc}
use Rattle.omi_session.specs.declared.rc.Rc.TheVariants as code
use Rattle.omi_word.specs.Words.{Words}
use Rattle.omi.specs.Faults.{open_error_of_code}
use Rattle.omi.specs.Opened.{HoldsCore, IsNotOpened, IsUnopened, words_of_core}
use Rattle.omi.specs.declared.fault.OpenError.{OpenError}
use Rattle.omi.specs.declared.fault.OpenError.TheVariants as error

-- callbacks over a core tell its words
pub tells_core : (core : CoreImage) (told : Told) → told ≡ told_by core → Tells told (words_of_core core)
tells_core core told is =
    subst (λ (t : Told). Tells t (words_of_core core)) (sym is)
    (record { order = core.order; order_told = refl; words = words_of_segments core.segments; rest = λ _. None; words_told = refl; is = refl })

pub no_target : (core : CoreImage) (told : Told) (rc : Rc) → told ≡ told_by core
    → ((memory : Words) → Tells told memory → told.sizes ≡ usual_sizes → Refuses memory rc)
    → (rc ≡ code.CallbackError → ⊥) → IsCause (words_of_core core) rc
no_target core told rc is words known =
    words (words_of_core core) (tells_core core told is) (ap (λ (t : Told). t.sizes) is) known

-- there is no session over the words of a core, by the code of a session that doesn't open
pub unopened : (core : CoreImage) (told : Told) (rc : Rc) → told ≡ told_by core
    → ((memory : Words) → Tells told memory → told.sizes ≡ usual_sizes → Refuses memory rc)
    → IsUnopened core (open_error_of_code rc)
unopened core told rc is words =
    go rc (words (words_of_core core) (tells_core core told is) (ap (λ (t : Told). t.sizes) is))
  where
    go : (r : Rc) → Refuses (words_of_core core) r → IsUnopened core (open_error_of_code r)
    go code.CallbackError refuses = tt
    go r refuses = refuses (λ failed. cc failed)

-- and so the file that stands for the core isn't opened
pub not_opened : (content : Option (List ℕ)) (core : CoreImage) (e : OpenError) → HoldsCore content core → IsUnopened core e
    → IsNotOpened content e
not_opened content core (error.NoTarget rc) holds why = (core, holds, why)
not_opened content core error.NotRead holds why = tt
not_opened content core error.NoFile holds why = absurd why
not_opened content core (error.NoCore at fault) holds why = absurd why
not_opened content core (error.NoElf at fault) holds why = absurd why
not_opened content core error.OutOfMemory holds why = absurd why
