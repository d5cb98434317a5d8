-- What holds over the events of a run: in the opening state, and behind each event that a reached state allows.
use Rattle.std.proofs.Common.{ℕ, List, [], ◌∷◌, ◌++◌, refl, sym, subst}
use Rattle.omi_script.specs.declared.program.Program.{Program}
use Rattle.omi_model.specs.declared.event.Event.{Event}
use Rattle.omi_model.specs.Opening.{opening}
use Rattle.omi_model.specs.Reached.{Leads, Reached, Step}
use Rattle.omi_model.specs.State.{State}

pub leads_on : (p : Program) (s : State) (xs : List (ℕ × Event)) (u : State) (x : ℕ × Event) (next : State)
    → Leads p s xs u → Step p u x.0 x.1 next → Leads p s (xs ++ x ∷ []) next
leads_on p s [] u x after_step same step =
    (after_step, subst (λ v. Step p v x.0 x.1 after_step) same step, refl)
leads_on p s (y ∷ ys) u x after_step (mid, first, leads) step =
    (mid, first, leads_on p mid ys u x after_step leads step)

-- a law whose step knows that its state is reached
pub over_reached : (p : Program) (L : State → Type 0)
    → ((events : List (ℕ × Event)) (s : State) → Reached p events s → (i : ℕ) (e : Event) (next : State) → Step p s i e next → L s → L next)
    → (first : List (ℕ × Event)) (s : State) → Reached p first s → (events : List (ℕ × Event)) (u : State) → Leads p s events u → L s → L u
over_reached p L keeps first s reached [] u same h = subst L (sym same) h
over_reached p L keeps first s reached (x ∷ xs) u (after_step, step, leads) h =
    over_reached p L keeps (first ++ x ∷ []) after_step
    (leads_on p (opening p) first s x after_step reached step) xs u leads
    (keeps first s reached x.0 x.1 after_step step h)
