use Rattle.std.proofs.Common.{◌≡◌, ap, ◌∙◌}
use Rattle.omi_script.proofs.RuleLemmas.{Rules-from_accepted}
use Rattle.omi_model.specs.declared.region.Region.{Region}
use Rattle.omi_model.specs.declared.task.Task.{Task}
use Rattle.omi_machine.specs.Kept.{slots_of}
use Rattle.omi_model.specs.Opening.{opening_region, opening_task}
use Rattle.omi_model.specs.Put.{first_alone}
use Rattle.omi_machine.proofs.KeptLists.{opening_kept}
use Rattle.omi_machine.proofs.opening_state.opening.Goals as goal

pub returns : goal.returns
returns c =
    let p = c.args.p.now in
    let regions : slots_of {A = Region} c.in_ok-first_slot.field-0 ≡ first_alone (opening_region p) =
    c.in_ok-first_slot.ensures ∙ ap (first_alone {A = Region}) c.in_ok-initial_region.ensures in
    let tasks : slots_of {A = Task} c.in_ok-first_slot-2.field-0 ≡ first_alone (opening_task p) =
    c.in_ok-first_slot-2.ensures ∙ ap (first_alone {A = Task}) c.in_ok-initial_task.ensures in
    opening_kept p c.in_ok-same.field-0 c.new.result c.in_ok-threads.field-0 c.in_ok-first_slot.field-0 c.in_ok-first_slot-2.field-0
    (Rules-from_accepted p).threads.0 c.in_ok-same.ensures c.new.ensures c.in_ok-threads.ensures regions tasks
