-- A task that begins or ends a group leaves its bodies open.
use Rattle.std.proofs.Common.{ℕ, ◌≤◌, List, [], ◌∷◌}
use Rattle.omi_numbers.specs.declared.limits.TheConstants.{OPEN_GROUPS}
use Rattle.omi_script.specs.declared.program.Program.{Program}
use Rattle.omi_pc.specs.declared.context.Context.{Context}
use Rattle.omi_pc.specs.declared.frame.Frame.{Frame}
use Rattle.omi_pc.specs.declared.frame.Opened.{Opened}
use Rattle.omi_pc.specs.declared.frame.Opened.TheVariants as opened
use Rattle.omi_pc.specs.FitLaws.{grouped}
use Rattle.omi_pc.specs.Moves.{context_under}
use Rattle.omi_pc.specs.OpenBodies.{AreOpen, IsContext, IsExplicitOf, IsFirstTask, IsMasterOf, StandsOn}

module _ (p : Program) (c : Context) (n : ℕ) (few : n ≤ OPEN_GROUPS) where
  context_stays : IsContext p c → IsContext p (grouped n c)
  context_stays is = record { size = is.size; number = is.number; arrivals = is.arrivals; groups = few; task = is.task; region = is.region; row = is.row; implicit = is.implicit }

  first_stays : IsFirstTask c → IsFirstTask (grouped n c)
  first_stays is = record { implicit = is.implicit; depth = is.depth }

  master_stays : (saved : Context) → IsMasterOf saved c → IsMasterOf saved (grouped n c)
  master_stays saved is = record { implicit = is.implicit; number = is.number; depth = is.depth }

  explicit_stays : (saved : Context) → IsExplicitOf saved c → IsExplicitOf saved (grouped n c)
  explicit_stays saved is =
      record { implicit = is.implicit; region = is.region; row = is.row; number = is.number; size = is.size; arrivals = is.arrivals; depth = is.depth }

  stands_stays : (f : ℕ) (fs : List Frame) (o : Opened) → StandsOn p c f fs o
      → StandsOn p (grouped n c) f fs o
  stands_stays f fs opened.Main stands = (stands.0, first_stays stands.1, stands.2)
  stands_stays f fs opened.Worker stands = (stands.0, first_stays stands.1, stands.2)
  stands_stays f fs (opened.Master saved) stands = (stands.0, stands.1, master_stays saved stands.2)
  stands_stays f fs (opened.Task w saved) stands = (stands.0, explicit_stays saved stands.1)
  stands_stays f fs opened.Call stands = stands
  stands_stays f fs (opened.Repeat left) stands = stands
  stands_stays f fs (opened.Critical k) stands = stands
  stands_stays f fs opened.Taskgroup stands = stands

  under_stays : (fs : List Frame) (o : Opened) → AreOpen p (context_under c o) fs
      → (AreOpen p c fs → AreOpen p (grouped n c) fs) → AreOpen p (context_under (grouped n c) o) fs
  under_stays fs opened.Main bodies more = more bodies
  under_stays fs opened.Worker bodies more = more bodies
  under_stays fs (opened.Master saved) bodies more = bodies
  under_stays fs (opened.Task w saved) bodies more = bodies
  under_stays fs opened.Call bodies more = more bodies
  under_stays fs (opened.Repeat left) bodies more = more bodies
  under_stays fs (opened.Critical k) bodies more = more bodies
  under_stays fs opened.Taskgroup bodies more = more bodies

  pub grouped_open : (fs : List Frame) → AreOpen p c fs → AreOpen p (grouped n c) fs
  grouped_open [] bodies = tt
  grouped_open (f ∷ fs) bodies = (
    record { frame = bodies.0.frame; context = context_stays bodies.0.context; stands = stands_stays f.function fs f.opened bodies.0.stands },
    under_stays fs f.opened bodies.1 (λ rest. grouped_open fs rest),
  )
