use Rattle.std.proofs.Common.{ℕ, List}
use Rattle.std.specs.Prelude.{IfOk, Result, Ok, Err}
use Rattle.omi_script.specs.declared.program.Program.{Program}
use Rattle.omi_pc.specs.declared.actor.Actor.{Actor}
use Rattle.omi_pc.specs.Fits.{Fits}
use Rattle.omi_pc.proofs.OpeningActors.{opened_fits}
use Rattle.omi_plain.proofs.OpeningPlaced.{opens}
use Rattle.omi_step_words.specs.Placed.{IsPlaced}
use Rattle.omi_test_steps.proofs.search_tests.opening.Goals as goal

fitting : {E : Type 0} (p : Program) (w : List ℕ) (r : Result Actor E) → IfOk r (λ a. Fits p a × IsPlaced w a) → IfOk r (λ a. Fits p a)
fitting p w (Ok a) both = both.0
fitting p w (Err e) both = both

placing : {E : Type 0} (p : Program) (w : List ℕ) (r : Result Actor E) → IfOk r (λ a. Fits p a × IsPlaced w a) → IfOk r (λ a. IsPlaced w a)
placing p w (Ok a) both = both.1
placing p w (Err e) both = both

pub returns-clause-fits : goal.returns-clause-fits
returns-clause-fits c =
    let p = c.args.p.now in
    let l = c.args.l.now in
    fitting p l.table c.opening.result (opens p l.table l.valid c.opening.result opened_fits c.opening.ensures)

pub returns-clause-placed : goal.returns-clause-placed
returns-clause-placed c =
    let p = c.args.p.now in
    let l = c.args.l.now in
    placing p l.table c.opening.result (opens p l.table l.valid c.opening.result opened_fits c.opening.ensures)
