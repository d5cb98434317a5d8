use Rattle.omi_machine.proofs.effects.take_effect.Goals as goal

pub returns-in-Start-clause-done : goal.returns-in-Start-clause-done
returns-in-Start-clause-done c = rw c.in-Start.is (c.start_by.ensures.done c.args.p.now)

pub returns-in-FreeTask-clause-done : goal.returns-in-FreeTask-clause-done
returns-in-FreeTask-clause-done c = rw c.in-FreeTask.is (c.free_by.ensures c.args.p.now)
