use Rattle.std.proofs.Common.{◌≡◌}
use Rattle.omi_core.specs.declared.schedule.Schedule.TheVariants.{RoundRobin}
use Rattle.omi_test_rewind.proofs.jump_tests.the_copy_is_made_there.Given as goal

abbrev pub invariant-loop-step : goal.invariant-loop-step
invariant-loop-step g l = l.rewind.how ≡ RoundRobin
