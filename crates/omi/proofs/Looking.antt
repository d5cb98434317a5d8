-- A look into the core that a file holds, by what is told of the pages of the file.
use Rattle.std.proofs.Common.{◌≡◌, ℕ, List, Option, Some, Ok, Err, ◌∙◌}
use Rattle.std.specs.Prelude.{IfErr, OnOk, Result}
use Rattle.omi_calls.specs.Told.{Told}
use Rattle.omi_corefile.specs.declared.core_image.CoreImage.{CoreImage}
use Rattle.omi_outside.specs.Outside.{Told as FileTold}
use Rattle.omi.proofs.NoTargets.{not_opened}
use Rattle.omi.specs.Opened.{HoldsCore, IsNotOpened, IsUnopened}
use Rattle.omi.specs.Targets.{HasLooked, HasLookedAt, Target, TellsCore}
use Rattle.omi.specs.declared.fault.OpenError.{OpenError}

-- where the file tells a core, and its pages what is told of it, a tool that looked at what the pages tell looked into the file's core
pub looked_into : {T : Type 0} (file : FileTold) (told pages : Told) (threads : List ℕ) (result : Result (Unit {0}) OpenError)
    (looks : T → Target → T → Type 0) (old new : T)
    → ((content : Option (List ℕ)) → file ≡ Some content → TellsCore content told threads) → pages ≡ told
    → OnOk result (HasLookedAt pages threads looks old new) → OnOk result (HasLooked file looks old new)
looked_into file told pages threads (Ok done) looks old new tells same at = record {
  target = at.target;
  looked = at.looked;
  there = λ content is.
      let t = tells content is in
      (t.core, t.holds, at.is t.core (same ∙ t.told_is) t.threads_are);
}
looked_into file told pages threads (Err e) looks old new tells same at = at

pub not_looked : (content : Option (List ℕ)) (core : CoreImage) (result : Result (Unit {0}) OpenError) → HoldsCore content core
    → IfErr result (IsUnopened core) → IfErr result (IsNotOpened content)
not_looked content core (Ok done) holds why = why
not_looked content core (Err e) holds why = not_opened content core e holds why
