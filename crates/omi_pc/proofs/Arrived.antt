-- A member's arrival at a barrier leaves its bodies open.
use Rattle.std.proofs.Common.{◌≡◌, ℕ, ◌<◌, true, List, [], ◌∷◌}
use Rattle.omi_model.specs.declared.limits.TheConstants.{MOST_EVENTS}
use Rattle.omi_script.specs.declared.program.Program.{Program}
use Rattle.omi_pc.specs.declared.context.Context.{Context}
use Rattle.omi_pc.specs.declared.frame.Frame.{Frame}
use Rattle.omi_pc.specs.declared.frame.Opened.{Opened}
use Rattle.omi_pc.specs.declared.frame.Opened.TheVariants as opened
use Rattle.omi_pc.specs.FitLaws.{arrived}
use Rattle.omi_pc.specs.Moves.{context_under}
use Rattle.omi_pc.specs.OpenBodies.{AreOpen, IsContext, IsFirstTask, IsMasterOf, StandsOn}

module _ (p : Program) (c : Context) (n : ℕ) (implicit : c.implicit ≡ true) (few : n < MOST_EVENTS) where
  context_stays : IsContext p c → IsContext p (arrived n c)
  context_stays is = record { size = is.size; number = is.number; arrivals = few; groups = is.groups; task = is.task; region = is.region; row = is.row; implicit = is.implicit }

  first_stays : IsFirstTask c → IsFirstTask (arrived n c)
  first_stays is = record { implicit = is.implicit; depth = is.depth }

  master_stays : (saved : Context) → IsMasterOf saved c → IsMasterOf saved (arrived n c)
  master_stays saved is = record { implicit = is.implicit; number = is.number; depth = is.depth }

  stands_stays : (f : ℕ) (fs : List Frame) (o : Opened) → StandsOn p c f fs o
      → StandsOn p (arrived n c) f fs o
  stands_stays f fs opened.Main stands = (stands.0, first_stays stands.1, stands.2)
  stands_stays f fs opened.Worker stands = (stands.0, first_stays stands.1, stands.2)
  stands_stays f fs (opened.Master saved) stands = (stands.0, stands.1, master_stays saved stands.2)
  stands_stays f fs (opened.Task w saved) stands = let explicit = stands.1.implicit in absurd (cc)
  stands_stays f fs opened.Call stands = stands
  stands_stays f fs (opened.Repeat left) stands = stands
  stands_stays f fs (opened.Critical k) stands = stands
  stands_stays f fs opened.Taskgroup stands = stands

  under_stays : (f : ℕ) (fs : List Frame) (o : Opened) → StandsOn p c f fs o
      → AreOpen p (context_under c o) fs → (AreOpen p c fs → AreOpen p (arrived n c) fs)
      → AreOpen p (context_under (arrived n c) o) fs
  under_stays f fs opened.Main stands bodies more = more bodies
  under_stays f fs opened.Worker stands bodies more = more bodies
  under_stays f fs (opened.Master saved) stands bodies more = bodies
  under_stays f fs (opened.Task w saved) stands bodies more = bodies
  under_stays f fs opened.Call stands bodies more = more bodies
  under_stays f fs (opened.Repeat left) stands bodies more = more bodies
  under_stays f fs (opened.Critical k) stands bodies more = more bodies
  under_stays f fs opened.Taskgroup stands bodies more = more bodies

  pub arrived_open : (fs : List Frame) → AreOpen p c fs → AreOpen p (arrived n c) fs
  arrived_open [] bodies = tt
  arrived_open (f ∷ fs) bodies = (
    record { frame = bodies.0.frame; context = context_stays bodies.0.context; stands = stands_stays f.function fs f.opened bodies.0.stands },
    under_stays f.function fs f.opened bodies.0.stands bodies.1 (λ rest. arrived_open fs rest),
  )
