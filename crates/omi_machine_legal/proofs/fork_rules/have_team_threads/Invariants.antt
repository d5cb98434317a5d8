use Rattle.std.proofs.Common.{◌≡◌, ◌<◌, ◌∷◌, ℕ, map}
use Rattle.std.specs.Prelude.{slice_get}
use Rattle.omi_model.specs.declared.id.Tid.{Tid}
use Rattle.omi_model.specs.Teams.{got_threads}
use Rattle.omi_machine_legal.proofs.fork_rules.have_team_threads.Given as goal

abbrev pub invariant-loop-at : goal.invariant-loop-at
invariant-loop-at l =
    (k : ℕ) → k < l.at → slice_get (map (λ (m : Tid × ℕ). m.1) l.team) k ≡ slice_get (l.i ∷ got_threads l.h.asks) k
