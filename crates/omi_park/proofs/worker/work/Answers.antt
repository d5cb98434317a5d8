-- A worker at work: each turn of its loop says how far it is, waits for an even epoch, and makes a step.
use Rattle.std.proofs.Common.{◌≡◌, ◌-◌, true, false, length, sym, ap, ◌∙◌, arith}
use Rattle.omi_script.specs.declared.program.Program.{Program}
use Rattle.omi_step_words.specs.Outcomes.{outcome_of}
use Rattle.omi_seat.specs.declared.known.Known.{Known}
use Rattle.omi_seat.specs.declared.step_log.StepLog.{StepLog}
use Rattle.omi_seat.specs.Stops.{ends_at}
use Rattle.omi_seat.proofs.Logged.{less_room}
use Rattle.omi_park.specs.Acknowledged.{farewell}
use Rattle.omi_park.specs.Plays.{says}
use Rattle.omi_park.proofs.Going.{behind_done, behind_goes, behind_pauses, budget_spent, gone_on, gone_room, gone_work, left_work, not_begun, pauses, same_both, says_worked, stepped_on}
use Rattle.omi_park.proofs.Applied.{may_make, stepped_by}
use Rattle.omi_park.proofs.worker.work.Goals as goal

pub loop-step-init : goal.loop-step-init
loop-step-init g c =
    not_begun c.args.p.now c.args.l.now c.args.words.now.table_id c.args.budget c.args.worker.now
    c.requires.start c.requires.room

pub tell-requires-clause-below : goal.tell-requires-clause-below
tell-requires-clause-below g c =
    let now = c.loop-step.invariant in
    let thread = now.work.log.thread in
    let below = now.work.log.below in
    let threads = ap (λ (q : Program). q.threads) c.requires.table.program in
    omega (arith, thread, below, threads)

pub tell-requires-clause-before : goal.tell-requires-clause-before
tell-requires-clause-before g c =
    let now = c.loop-step.invariant in
    let below = c.loop-step-test.true in
    let most = c.requires.budget in
    (now.part, pauses (omega (arith, below, most)) now)

pub go_on-requires-clause-below : goal.go_on-requires-clause-below
go_on-requires-clause-below g c =
    let now = c.loop-step.invariant in
    let same = ap (λ (k : StepLog). k.thread) c.tell.ensures.same.log in
    let thread = now.work.log.thread in
    let below = now.work.log.below in
    let threads = ap (λ (q : Program). q.threads) c.requires.table.program in
    omega (arith, same, thread, below, threads)

pub go_on-requires-clause-seated : goal.go_on-requires-clause-seated
go_on-requires-clause-seated g c = c.tell.ensures.same.table ∙ c.loop-step.invariant.work.table

pub go_on-requires-clause-before : goal.go_on-requires-clause-before
go_on-requires-clause-before g c =
    let now = c.loop-step.invariant in
    let below = c.loop-step-test.true in
    let most = c.requires.budget in
    let told = c.tell.ensures.told now.part (pauses (omega (arith, below, most)) now) in
    (told.part, told.goes)

pub step-came-requires-clause-seated : goal.step-came-requires-clause-seated
step-came-requires-clause-seated g c =
    c.go_on.ensures.same.table ∙ c.tell.ensures.same.table ∙ c.loop-step.invariant.work.table

pub step-came-requires-clause-may : goal.step-came-requires-clause-may
step-came-requires-clause-may g c =
    let now = c.loop-step.invariant in
    let below = c.loop-step-test.true in
    let most = c.requires.budget in
    let count = now.count in
    let told = c.tell.ensures.told now.part (pauses (omega (arith, below, most)) now) in
    let gone = gone_on told (c.go_on.ensures.gone told.part told.goes) in
    let same = same_both c.tell.ensures.same c.go_on.ensures.same in
    let found : length gone.part.known.found ≡ length now.part.known.found =
    ap (λ (k : Known). length k.found) gone.same in
    let key = c.args.words.now.key in
    let words = c.requires.table.of.count in (
      gone.part.known,
      may_make key.program.value key.layout.value c.args.p.now c.args.l.now gone.part c.go_on.new.worker
          (gone_work now gone same) gone.may (omega (arith, found, count, below, most))
          (less_room 1 (c.args.budget - c.loop-step.step) gone.part.known c.go_on.new.worker.log (omega (arith, below))
          (gone_room now gone same))
          (omega (arith, words)),
    )

pub leave-requires-clause-below : goal.leave-requires-clause-below
leave-requires-clause-below g c =
    let now = c.loop-step.invariant in
    let below = c.loop-step-test.true in
    let most = c.requires.budget in
    let told = c.tell.ensures.told now.part (pauses (omega (arith, below, most)) now) in
    let gone = gone_on told (c.go_on.ensures.gone told.part told.goes) in
    let same = same_both c.tell.ensures.same c.go_on.ensures.same in
    let b = stepped_on now gone same below
    (stepped_by c.step-came.ensures.stepped (gone_work now gone same) c.step-came.ensures.seated)
    c.step-came.ensures.thread c.step-came.ensures.kept in
    let thread = b.work.log.thread in
    let less = b.work.log.below in
    let threads = ap (λ (q : Program). q.threads) c.requires.table.program in
    omega (arith, thread, less, threads)

pub leave-requires-clause-seated : goal.leave-requires-clause-seated
leave-requires-clause-seated g c =
    let now = c.loop-step.invariant in
    let below = c.loop-step-test.true in
    let most = c.requires.budget in
    let told = c.tell.ensures.told now.part (pauses (omega (arith, below, most)) now) in
    let gone = gone_on told (c.go_on.ensures.gone told.part told.goes) in
    let same = same_both c.tell.ensures.same c.go_on.ensures.same in
    let b = stepped_on now gone same below
    (stepped_by c.step-came.ensures.stepped (gone_work now gone same) c.step-came.ensures.seated)
    c.step-came.ensures.thread c.step-came.ensures.kept in
    b.work.table

pub leave-requires-clause-before : goal.leave-requires-clause-before
leave-requires-clause-before g c =
    let now = c.loop-step.invariant in
    let below = c.loop-step-test.true in
    let most = c.requires.budget in
    let told = c.tell.ensures.told now.part (pauses (omega (arith, below, most)) now) in
    let gone = gone_on told (c.go_on.ensures.gone told.part told.goes) in
    let same = same_both c.tell.ensures.same c.go_on.ensures.same in
    let b = stepped_on now gone same below
    (stepped_by c.step-came.ensures.stepped (gone_work now gone same) c.step-came.ensures.seated)
    c.step-came.ensures.thread c.step-came.ensures.kept in
    (b.part, behind_pauses (omega (arith, below, most)) b)

pub returns-then-ends_at-clause-worked : goal.returns-then-ends_at-clause-worked
returns-then-ends_at-clause-worked g c =
    let now = c.loop-step.invariant in
    let below = c.loop-step-test.true in
    let most = c.requires.budget in
    let told = c.tell.ensures.told now.part (pauses (omega (arith, below, most)) now) in
    let gone = gone_on told (c.go_on.ensures.gone told.part told.goes) in
    let same = same_both c.tell.ensures.same c.go_on.ensures.same in
    let b = stepped_on now gone same below
    (stepped_by c.step-came.ensures.stepped (gone_work now gone same) c.step-came.ensures.seated)
    c.step-came.ensures.thread c.step-came.ensures.kept in
    let done : ends_at (outcome_of c.go_on.new.worker.log.actor c.step-came.result) ≡ true =
    sym (c.ends_at.ensures c.go_on.new.worker.log.actor.gathered.team) ∙ c.if-ends_at.true in
    let left = c.leave.ensures.left b.part (behind_pauses (omega (arith, below, most)) b) in (
      says (farewell (length b.part.known.found)) b.part,
      left_work (farewell (length b.part.known.found)) b.work c.leave.ensures.same left,
      says_worked (farewell (length b.part.known.found)) (behind_done below done b),
    )

pub loop-step-preserved : goal.loop-step-preserved
loop-step-preserved g c =
    let now = c.loop-step.invariant in
    let below = c.loop-step-test.true in
    let most = c.requires.budget in
    let told = c.tell.ensures.told now.part (pauses (omega (arith, below, most)) now) in
    let gone = gone_on told (c.go_on.ensures.gone told.part told.goes) in
    let same = same_both c.tell.ensures.same c.go_on.ensures.same in
    let b = stepped_on now gone same below
    (stepped_by c.step-came.ensures.stepped (gone_work now gone same) c.step-came.ensures.seated)
    c.step-came.ensures.thread c.step-came.ensures.kept in
    let not_done : ends_at (outcome_of c.go_on.new.worker.log.actor c.step-came.result) ≡ false =
    sym (c.ends_at.ensures c.go_on.new.worker.log.actor.gathered.team) ∙ c.if-ends_at.false in
    behind_goes not_done b

pub leave-requires-2-clause-below : goal.leave-requires-2-clause-below
leave-requires-2-clause-below g c =
    let now = c.loop-step.invariant in
    let thread = now.work.log.thread in
    let below = now.work.log.below in
    let threads = ap (λ (q : Program). q.threads) c.requires.table.program in
    omega (arith, thread, below, threads)

pub leave-requires-2-clause-before : goal.leave-requires-2-clause-before
leave-requires-2-clause-before g c =
    let now = c.loop-step.invariant in
    let end = c.loop-step-test.false in
    let least = c.loop-step.auto.step-end in
    let most = c.requires.budget in
    (now.part, pauses (omega (arith, end, least, most)) now)

pub returns-clause-worked : goal.returns-clause-worked
returns-clause-worked g c =
    let now = c.loop-step.invariant in
    let end = c.loop-step-test.false in
    let least = c.loop-step.auto.step-end in
    let most = c.requires.budget in
    let left = c.leave-2.ensures.left now.part (pauses (omega (arith, end, least, most)) now) in
    let worked = budget_spent (omega (arith, end, least)) now in (
      says (farewell (length now.part.known.found)) now.part,
      left_work (farewell (length now.part.known.found)) now.work c.leave-2.ensures.same left,
      says_worked (farewell (length now.part.known.found)) worked,
    )
