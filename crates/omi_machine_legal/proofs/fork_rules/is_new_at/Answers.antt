use Rattle.std.proofs.Common.{◌≢◌, ℕ, map, below_more}
use Rattle.std.specs.Prelude.{slice_get}
use Rattle.omi_model.specs.declared.id.Tid.{Tid}
use Rattle.omi_machine_legal.proofs.fork_rules.is_new_at.Goals as goal

pub loop-j-preserved : goal.loop-j-preserved
loop-j-preserved c =
    below_more
    (λ (k : ℕ). slice_get (map (λ (m : Tid × ℕ). m.0) c.args.team.now) k ≢ slice_get (map (λ (m : Tid × ℕ). m.0) c.args.team.now) c.args.at) _ c.loop-j.invariant
    (c.differ.ensures.0 c.if-not-differ.false)
