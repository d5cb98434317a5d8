use Rattle.std.proofs.Common.{arith, refl}
use Rattle.std.specs.Prelude.{slice_get}
use Rattle.omi_machine.specs.Kept.{slots_of}
use Rattle.omi_machine.proofs.TeamsMade.{kept_still, making_more, some_left}
use Rattle.omi_machine.proofs.new_teams.make_members.Goals as goal

pub returns-in_default : goal.returns-in_default
returns-in_default c task is =
    absurd
    (some_left task c.loop-at.at c.args.team.now c.loop-at.new (slots_of c.loop-at.slots) (slots_of c.args.slots.now) (omega arith) (c.in_default.ensures.none refl) (c.loop-at.invariant.making task is))

pub loop-at-preserved : goal.loop-at-preserved
loop-at-preserved c = record {
  kept = λ k within. kept_still c.loop-at.slots c.make.new.slots c.make.ensures.keeps (slice_get c.args.team.now k) (c.loop-at.invariant.kept k within);
  making = λ task is. making_more task c.loop-at.at c.args.team.now c.get.result c.get.ensures c.loop-at.new c.pop.new.self c.in-Some.t (slots_of c.loop-at.slots) (slots_of c.make.new.slots) (slots_of c.args.slots.now) c.in-Some.ensures.taken c.make.ensures.made (c.loop-at.invariant.making task is);
}
