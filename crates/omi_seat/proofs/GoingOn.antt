-- A thread that goes on behind its steps, and one more step.
use Rattle.std.proofs.Common.{◌≡◌, ◌++◌, false, List, [], ◌∷◌, Option, refl}
use Rattle.omi_core.specs.declared.entry.Entry.{Entry}
use Rattle.omi_core.specs.declared.stop.Break.{Break}
use Rattle.omi_seat.specs.Stops.{GoesOn, WentOn, ends_at, is_ended, stops_at}

pub not_ended : (on : Option Break) (es : List Entry) → GoesOn on es → is_ended es ≡ false
not_ended on [] goes = refl
not_ended on (e ∷ []) goes = goes.0
not_ended on (e ∷ f ∷ es) goes = not_ended on (f ∷ es) goes.2

pub went : (on : Option Break) (es : List Entry) → GoesOn on es → WentOn on es
went on [] goes = tt
went on (e ∷ []) goes = tt
went on (e ∷ f ∷ es) goes = (goes.0, goes.1, went on (f ∷ es) goes.2)

-- one more step, whatever comes of it
pub went_more : (on : Option Break) (es : List Entry) (e : Entry) → GoesOn on es → WentOn on (es ++ e ∷ [])
went_more on [] e goes = tt
went_more on (f ∷ []) e goes = (goes.0, goes.1, tt)
went_more on (f ∷ g ∷ es) e goes = (goes.0, goes.1, went_more on (g ∷ es) e goes.2)

pub goes_more : (on : Option Break) (es : List Entry) (e : Entry) → GoesOn on es → ends_at e.outcome ≡ false
    → stops_at on e.outcome ≡ false → GoesOn on (es ++ e ∷ [])
goes_more on [] e goes not_done no_stop = (not_done, no_stop, tt)
goes_more on (f ∷ es) e goes not_done no_stop = (goes.0, goes.1, goes_more on es e goes.2 not_done no_stop)

pub ended_by : (es : List Entry) (e : Entry) → is_ended (es ++ e ∷ []) ≡ ends_at e.outcome
ended_by [] e = refl
ended_by (f ∷ []) e = refl
ended_by (f ∷ g ∷ es) e = ended_by (g ∷ es) e
