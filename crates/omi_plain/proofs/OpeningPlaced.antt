-- The actor of thread 0 fits the program and is placed in the layout as the program opens.
use Rattle.std.proofs.Common.{◌≡◌, ℕ, List, [], ◌∷◌, sym, subst}
use Rattle.std.specs.Prelude.{IfOk, Result, Ok, Err}
use Rattle.omi_script.specs.declared.program.Program.{Program}
use Rattle.omi_script.proofs.RuleLemmas.{Rules-from_accepted}
use Rattle.omi_layout.specs.Valid.{IsValid}
use Rattle.omi_layout.proofs.Arenas.{some_regions, some_tasks, some_threads}
use Rattle.omi_pc.specs.declared.actor.Actor.{Actor}
use Rattle.omi_pc.specs.FitLaws.{OpeningFits}
use Rattle.omi_pc.specs.Fits.{Fits}
use Rattle.omi_pc.specs.declared.frame.Opened.TheVariants.{Main}
use Rattle.omi_pc.specs.Frames.{at_start}
use Rattle.omi_pc.specs.Opening.{initial_context, opening_actor, waiting_actor}
use Rattle.omi_plain.proofs.StayPlaced.{settled_placed}
use Rattle.omi_step_words.specs.Placed.{AreContextsPlaced, HasRegion, HasTask, IsPlaced}
use Rattle.omi_model.specs.Opening.{initial_region, initial_task}

module _ (p : Program) (w : List ℕ) (v : IsValid w) where
  first_task : HasTask w initial_task
  first_task = record { made_by = some_threads w v; within = some_tasks w v }

  first_region : HasRegion w initial_region
  first_region = record { made_by = some_threads w v; within = some_regions w v }

  placed : IsPlaced w (opening_actor p 0)
  placed =
      let a : Actor = record (waiting_actor 0) { stack = at_start p.main Main ∷ [] } in
      let all : AreContextsPlaced w initial_context (at_start p.main Main ∷ []) =
      (record { task = first_task; region = first_region; row = first_task }, tt) in
      settled_placed p w a (record { bodies = all; counter = tt })

  pub opens : {E : Type 0} (r : Result Actor E) → OpeningFits → IfOk r (λ a. a ≡ opening_actor p 0)
      → IfOk r (λ a. Fits p a × IsPlaced w a)
  opens (Ok a) law is =
      (subst (Fits p) (sym is) (law p 0 ((Rules-from_accepted p).threads.0)), subst (IsPlaced w) (sym is) placed)
  opens (Err e) law is = is
