use Rattle.std.proofs.Common.{◌∙◌, ap, sym, Option}
use Rattle.omi_model.specs.Freeing.{freeing}
use Rattle.omi_model.specs.declared.id.Tid.{Tid}
use Rattle.omi_model.specs.declared.task.Task.{Task}
use Rattle.omi_machine.specs.Kept.{slots_of}
use Rattle.omi_machine.proofs.StateChanges.{slots_changed}
use Rattle.omi_machine.proofs.freeing.free_next.Goals as goal

pub returns : goal.returns
returns c =
    let t : Task = c.in-Some-take_live.t in
    let took = c.in-Some-take_live.ensures in
    slots_changed c.args.tasks.now c.take_live.new.slots c.put_live.new.slots c.in-Some.k.0 _
    (λ u. record u { frees = c.args.next }) t took.kept took.found took.taken c.put_live.ensures
    ∙ ap (λ (k : Option Tid). freeing c.args.next k (slots_of c.args.tasks.now)) (sym c.in-Some.is)
