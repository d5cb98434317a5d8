use Rattle.std.proofs.Common.{◌≡◌, ◌∷◌, ℕ, map, below_more}
use Rattle.std.specs.Prelude.{slice_get}
use Rattle.omi_model.specs.declared.id.Tid.{Tid}
use Rattle.omi_model.specs.Teams.{got_threads}
use Rattle.omi_machine_legal.proofs.fork_rules.have_team_threads.Goals as goal

pub loop-at-preserved : goal.loop-at-preserved
loop-at-preserved c =
    below_more
    (λ (k : ℕ). slice_get (map (λ (m : Tid × ℕ). m.1) c.args.team.now) k ≡ slice_get (c.args.i ∷ got_threads c.args.h.now.asks) k) _ c.loop-at.invariant
    (c.has_team_thread.ensures.0 c.if-not-has_team_thread.false)
