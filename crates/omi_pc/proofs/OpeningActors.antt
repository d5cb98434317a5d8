-- The actors with which a program starts fit it.
use Rattle.std.proofs.Common.{ℕ, zero, suc, ◌<◌, [], ◌∷◌, refl, arith}
use Rattle.omi_script.specs.declared.program.Program.{Program}
use Rattle.omi_script.proofs.RuleLemmas.{Rules-from_accepted}
use Rattle.omi_pc.specs.declared.frame.Opened.TheVariants.{Main}
use Rattle.omi_pc.specs.Frames.{at_start}
use Rattle.omi_pc.specs.Fits.{Fits}
use Rattle.omi_pc.specs.Opening.{initial_context, opening_actor, waiting_actor}
use Rattle.omi_pc.specs.OpenBodies.{AreOpen}
use Rattle.omi_pc.proofs.Settled.{settled_fits}

-- the body of `main`
main_open : (p : Program) → AreOpen p initial_context (at_start p.main Main ∷ [])
main_open p =
    let rules = Rules-from_accepted p in (
      record {
        frame = record { function = rules.main; next = omega arith };
        context = record {
          size = (omega arith, rules.threads.0);
          number = omega arith;
          arrivals = omega arith;
          groups = omega arith;
          task = rules.threads.0;
          region = rules.threads.0;
          row = rules.threads.0;
          implicit = λ is. refl;
        };
        stands = (refl, record { implicit = refl; depth = refl }, refl);
      },
      tt,
    )

pub opened_fits : (p : Program) (thread : ℕ) → thread < p.threads → Fits p (opening_actor p thread)
opened_fits p zero within =
    settled_fits p (record (waiting_actor 0) { stack = at_start p.main Main ∷ [] })
    (record { thread = within; variables = refl; bodies = main_open p; some = omega arith })
opened_fits p (suc i) within = record { thread = within; variables = refl; bodies = tt; counter = refl }
