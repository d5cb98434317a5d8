use Rattle.std.proofs.Common.{◌∙◌, ap, sym, ℕ, Some, Option}
use Rattle.omi_model.specs.Freeing.{freed, freeing}
use Rattle.omi_model.specs.State.{State}
use Rattle.omi_model.specs.declared.id.Tid.{Tid}
use Rattle.omi_model.specs.declared.slot.Slot.{Slot}
use Rattle.omi_model.specs.declared.task.Task.{Task}
use Rattle.omi_model.specs.declared.thread.Thread.{Thread}
use Rattle.omi_machine.specs.Kept.{slots_of, state_of}
use Rattle.omi_machine.proofs.StateChanges.{by_current_is}
use Rattle.omi_machine.proofs.freeing.free_task.Goals as goal

pub returns : goal.returns
returns c =
    let s : State = state_of c.args.s.now in
    let i = c.args.i in
    let task = c.args.task in
    let next = c.args.next in
    let k : Tid = c.requires.current.0 in
    let name = ap (λ (h : Thread). h.current) c.thread.ensures ∙ c.requires.current.2.name in
    let tasks =
    c.free_next.ensures
    ∙ ap (λ (o : Option Tid). freeing next o (slots_of c.take_away.new.slots)) name
    ∙ ap (λ (m : ℕ → ℕ → Slot Task). freeing next (Some k) m) c.take_away.ensures in
    by_current_is s i k c.requires.current.1 (freed s task next) c.requires.current.2
    ∙ ap (λ (x : State). Some x) (sym (ap (λ (m : ℕ → ℕ → Slot Task). record s { tasks = m }) tasks))
