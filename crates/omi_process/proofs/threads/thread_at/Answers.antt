use Rattle.std.proofs.Common.{◌≡◌, length, inl, inr, sym, ◌∙◌, arith}
use Rattle.omi_process.proofs.AlongNotes.{pid_is, told_thread, no_pid}
use Rattle.omi_process.proofs.threads.thread_at.Goals.{then-pid-eq0-via-then-pid-eq0, then-pid-eq0-via-else-pid-eq0+then-pid}
use Rattle.omi_process.proofs.threads.thread_at.Goals as goal

pub returns-then-pid-eq0-clause-thread : goal.returns-then-pid-eq0-clause-thread
returns-then-pid-eq0-clause-thread g c = λ bytes told at note.
    let four : length c.fill.new.to ≡ 4 = c.in_ok-fill.ensures.length in
    let is = c.number32-pid.ensures
    ∙ pid_is c.args.order bytes c.fill.new.to _ at four (c.in_ok-fill.ensures.bytes bytes told) (omega (arith, note.description)) in
    sym (no_pid c.args.order bytes at c.number32-pid.result is
    (elim c.then-pid-eq0.branch [
      | then-pid-eq0-via-then-pid-eq0 w ↦ inl w.if-pid-eq0.true
      | then-pid-eq0-via-else-pid-eq0+then-pid w ↦ inr (omega (arith, w.if-pid.true))
    ]))

pub returns-clause-thread : goal.returns-clause-thread
returns-clause-thread g c = λ bytes told at note.
    let four : length c.fill.new.to ≡ 4 = c.in_ok-fill.ensures.length in
    let is = c.number32-pid.ensures
    ∙ pid_is c.args.order bytes c.fill.new.to _ at four (c.in_ok-fill.ensures.bytes bytes told) (omega (arith, note.description)) in
    sym (told_thread c.args.order bytes at c.from-2.result (c.from-2.ensures ∙ is)
    (omega (arith, note.size, c.from.ensures, c.if-from-lt-PID_END.false)) (omega (arith, c.from-2.ensures, c.if-pid-eq0.false))
    (omega (arith, c.from-2.ensures, c.if-pid.false)))
