use Rattle.std.proofs.Common.{◌≡◌, ◌+◌, ◌∙◌, ap, ℕ}
use Rattle.omi_machine.specs.Kept.{state_of}
use Rattle.omi_model.specs.declared.region.Region.{Region}
use Rattle.omi_model.specs.declared.task.Task.{Task}
use Rattle.omi_machine.proofs.StateChanges.{current_region_changed, one_region}
use Rattle.omi_machine.proofs.barrier_changes.release.Goals as goal

pub returns-clause-done : goal.returns-clause-done
returns-clause-done c =
    let s = c.args.s.now in
    let t : Task = c.in-Some.t.now in
    let r : Region = c.in-Some-take_live.r in
    let seen : Region = c.in-Some.r.now in
    let same : seen ≡ r =
    one_region (state_of s) t.region seen r c.in-Some.ensures.found.1 c.in-Some-take_live.ensures.found in
    let next = c.in-Some-checked_add.ensures.1 ∙ ap (λ (q : Region). q.released + 1) same in
    current_region_changed s c.take_live.new.slots c.put_live.new.slots c.args.i c.in-Some.field-0-0 t _
    (λ t r. record r { released = r.released + 1 }) r _
    c.in-Some.ensures.found.0 c.in-Some-take_live.ensures.kept c.in-Some-take_live.ensures.found c.in-Some-take_live.ensures.taken c.put_live.ensures
    (ap (λ (n : ℕ). record r { released = n }) next)
