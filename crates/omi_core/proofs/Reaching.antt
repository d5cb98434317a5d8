-- Events reach one state.
use Rattle.std.proofs.Common.{◌≡◌, ℕ, List, [], ◌∷◌, sym, ◌∙◌, subst}
use Rattle.omi_script.specs.declared.program.Program.{Program}
use Rattle.omi_model.specs.declared.event.Event.{Event}
use Rattle.omi_model.specs.Opening.{opening}
use Rattle.omi_model.specs.Reached.{Leads, Reached}
use Rattle.omi_model.specs.State.{State}
use Rattle.omi_model.proofs.Slots.{some_same}

leads_one : (p : Program) (s : State) (xs : List (ℕ × Event)) (t u : State) → Leads p s xs t → Leads p s xs u
    → t ≡ u
leads_one p s [] t u a b = a ∙ sym b
leads_one p s (x ∷ xs) t u (m, step, rest) (n, other, more) =
    let same : n ≡ m = some_same other.after_is step.after_is in
    leads_one p m xs t u rest (subst (λ (z : State). Leads p z xs u) same more)

pub reached_one : (p : Program) (events : List (ℕ × Event)) (t u : State) → Reached p events t
    → Reached p events u → t ≡ u
reached_one p events t u a b = leads_one p (opening p) events t u a b
