use Rattle.std.proofs.Common.{ℕ, map, below_more}
use Rattle.omi_model.specs.declared.id.Tid.{Tid}
use Rattle.omi_machine_legal.specs.Decided.{IsNewAt}
use Rattle.omi_machine_legal.proofs.fork_rules.are_new.Goals as goal

pub loop-at-preserved : goal.loop-at-preserved
loop-at-preserved c =
    below_more (λ (k : ℕ). IsNewAt (map (λ (m : Tid × ℕ). m.0) c.args.team.now) k) _ c.loop-at.invariant
    (c.is_new_at.ensures.0 c.if-not-is_new_at.false)
