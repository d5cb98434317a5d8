-- The bodies of a thread that forks: there is room for one more, and that of member 0 stands on the construct.
use Rattle.std.proofs.Common.{◌≡◌, ℕ, ◌<◌, List, [], ◌∷◌, length, refl, ap, subst, arith}
use Rattle.omi_script.specs.declared.program.Program.{Program}
use Rattle.omi_script.specs.declared.statement.Stmt.{Stmt}
use Rattle.omi_script.specs.declared.statement.Stmt.TheVariants.{Parallel}
use Rattle.omi_model.specs.declared.id.Rid.{Rid}
use Rattle.omi_layout.specs.Table.{thread_count}
use Rattle.omi_pc.specs.declared.actor.Actor.{Actor}
use Rattle.omi_pc.specs.declared.counter.Counter.TheVariants as counter
use Rattle.omi_pc.specs.declared.frame.Frame.{Frame}
use Rattle.omi_pc.specs.declared.frame.Opened.TheVariants.{Master}
use Rattle.omi_pc.specs.declared.team_counter.TeamCounter.TheVariants as team
use Rattle.omi_pc.specs.FitLaws.{OpenedBodyStands}
use Rattle.omi_pc.specs.Fits.{Fits, FitsCounter, IsParallel, IsRegionGot}
use Rattle.omi_pc.specs.Frames.{at_start}
use Rattle.omi_pc.specs.OpenBodies.{AreOpen, IsAt}
use Rattle.omi_pc.proofs.Settled.{named_there}
use Rattle.omi_step_words.specs.Placed.{HasRegion, HaveTasks, IsPlaced, IsPlacedCounter}
use Rattle.omi_fork.specs.TeamParts.{parallel_function, master_context, region_function}

-- a body is open where a statement is in work
pub some_body : (p : Program) (fs : List Frame) (s : Stmt) → IsAt p fs s → 0 < length fs
some_body p [] s at = absurd (cc)
some_body p (f ∷ fs) s at = omega arith

pub body_at_fork : (p : Program) (a : Actor) (r : Rid) → Fits p a → a.counter ≡ counter.Team (team.Fork r)
    → 0 < length a.stack
body_at_fork p a r fits is =
    let got : IsRegionGot p a r = subst (FitsCounter p a) is fits.counter in
    some_body p a.stack got.0.0.0 got.0.0.1

module _ (p : Program) (w : List ℕ) (a : Actor) (r : Rid) (same : p.threads ≡ thread_count w)
    (stands : OpenedBodyStands) where
  opens : (s : Stmt) → IsAt p a.stack s → IsParallel s → Fits p a → IsRegionGot p a r → HasRegion w r
      → HaveTasks w 1 a.gathered.team
      → AreOpen p (master_context a r) (at_start (region_function p a) (Master a.context) ∷ a.stack)
  opens (Parallel f num) at is fits got region tasks =
      let function : region_function p a ≡ f = ap parallel_function at in
      let task = tasks 0 (omega arith) in
      rw function
      (stands p (master_context a r) f (Master a.context) a.stack (named_there p a.context a.stack (Parallel f num) f fits.bodies at refl)
      (record {
        size = (got.0.1, got.0.2);
        number = got.0.1;
        arrivals = omega arith;
        groups = omega arith;
        task = omega (arith, same, task.made_by);
        region = omega (arith, got.1, fits.thread);
        row = omega (arith, same, task.made_by);
        implicit = λ so. refl;
      })
      (num, at, record { implicit = refl; number = refl; depth = refl }) fits.bodies)
  opens _ at never fits got region tasks = absurd never

  -- the bodies once member 0 is current
  pub fork_opens : Fits p a → IsPlaced w a → a.counter ≡ counter.Team (team.Fork r)
      → AreOpen p (master_context a r) (at_start (region_function p a) (Master a.context) ∷ a.stack)
  fork_opens fits placed is =
      let got : IsRegionGot p a r = subst (FitsCounter p a) is fits.counter in
      let there : HasRegion w r × HaveTasks w 1 a.gathered.team =
      subst (IsPlacedCounter w a) is placed.counter in
      opens got.0.0.0 got.0.0.1 got.0.0.2 fits got there.0 there.1
