use Rattle.std.proofs.Common.{ℕ, below_more}
use Rattle.std.specs.Prelude.{slice_get, IfSome}
use Rattle.omi_model.specs.declared.id.Tid.{Tid}
use Rattle.omi_model.specs.Fresh.{IsFresh}
use Rattle.omi_machine.specs.Kept.{state_of}
use Rattle.omi_machine_legal.proofs.fork_rules.are_members_fresh.Goals as goal

pub loop-at-preserved : goal.loop-at-preserved
loop-at-preserved c =
    below_more
    (λ (k : ℕ). IfSome (slice_get c.args.team.now k) (λ (m : Tid × ℕ). IsFresh (state_of c.args.s.now).tasks c.args.i m.0.0)) _ c.loop-at.invariant
    (c.is_member_fresh.ensures.0 c.if-not-is_member_fresh.false)
