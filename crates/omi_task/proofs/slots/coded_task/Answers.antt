use Rattle.std.proofs.Common.{◌/◌, sym, ap, subst, ◌∙◌}
use Rattle.omi_model.specs.declared.id.Id.{Id}
use Rattle.omi_numbers.specs.declared.lives.TheConstants.{CODED_RECORDS}
use Rattle.omi_layout.specs.Field.{tasks}
use Rattle.omi_layout.specs.Place.{IsSlot}
use Rattle.omi_pc.specs.declared.place.Place.{Place}
use Rattle.omi_step_words.specs.Words.{object_in}
use Rattle.omi_task.proofs.CodedRecords.{coded_there}
use Rattle.omi_task.proofs.slots.coded_task.Goals as goal

pub returns-clause-placed : goal.returns-clause-placed
returns-clause-placed c =
    subst (λ (n : Id). IsSlot c.args.l.now.table tasks n.creator n.slot)
    (sym (c.object_in.ensures ∙ ap (λ (x : Place). object_in x (c.args.code / CODED_RECORDS)) c.coded_place.ensures))
    (coded_there c.args.l.now.table c.args.l.now.valid c.args.code)
