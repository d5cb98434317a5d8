-- A further step, and an event at which a run stops.
use Rattle.std.proofs.Common.{◌≡◌, ◌++◌, ◌||◌, Bool, true, false, List, [], ◌∷◌, refl, ap}
use Rattle.std.proofs.lemmas.Bool.{false≢true}
use Rattle.omi_core.specs.declared.entry.Entry.{Entry}
use Rattle.omi_core.specs.declared.stop.Break.{Break}
use Rattle.std.specs.Prelude.{Option}
use Rattle.omi_seat.specs.Stops.{some_stop, stops_at}

-- a stop stays one behind a further step, and is one where the last step commits it
pub still_stops : (on : Option Break) (es : List Entry) (e : Entry) → some_stop on es ≡ true
    → some_stop on (es ++ e ∷ []) ≡ true
still_stops on [] e is = absurd (false≢true is)
still_stops on (x ∷ es) e is = go (stops_at on x.outcome) (still_stops on es e) is
  where
    go : (b : Bool) → (some_stop on es ≡ true → some_stop on (es ++ e ∷ []) ≡ true)
        → (b || some_stop on es) ≡ true → (b || some_stop on (es ++ e ∷ [])) ≡ true
    go true rest is = refl
    go false rest is = rest is

pub stops_last : (on : Option Break) (es : List Entry) (e : Entry) → stops_at on e.outcome ≡ true
    → some_stop on (es ++ e ∷ []) ≡ true
stops_last on [] e is = ap (λ (b : Bool). b || false) is
stops_last on (x ∷ es) e is = go (stops_at on x.outcome) (stops_last on es e is)
  where
    go : (b : Bool) → some_stop on (es ++ e ∷ []) ≡ true → (b || some_stop on (es ++ e ∷ [])) ≡ true
    go true rest = refl
    go false rest = rest
