use Rattle.std.proofs.Common.{◌≡◌, ◌+◌, ◌∙◌, ap, ℕ, List, slice_set}
use Rattle.std.specs.Prelude.{slice_index}
use Rattle.omi_machine.specs.Kept.{state_of}
use Rattle.omi_model.specs.declared.region.Region.{Region}
use Rattle.omi_model.specs.declared.task.Task.{Task}
use Rattle.omi_machine.proofs.StateChanges.{current_region_changed, one_region}
use Rattle.omi_machine.proofs.barrier_changes.arrive.Goals as goal

pub returns-clause-done : goal.returns-clause-done
returns-clause-done c =
    let s = c.args.s.now in
    let t : Task = c.in-Some.t.now in
    let r : Region = c.in-Some-take_live.r in
    let seen : Region = c.in-Some.r.now in
    let same : seen ≡ r =
    one_region (state_of s) t.region seen r c.in-Some.ensures.found.1 c.in-Some-take_live.ensures.found in
    let next =
    c.in-Some-checked_add.ensures.1
    ∙ ap (λ (n : ℕ). n + 1)
    (c.arrivals_of.ensures ∙ ap (λ (q : Region). slice_index q.arrivals t.number) same) in
    let counted : c.set_count.new.list ≡ slice_set r.arrivals t.number (slice_index r.arrivals t.number + 1) =
    c.set_count.ensures ∙ ap (slice_set r.arrivals t.number) next in
    current_region_changed s c.take_live.new.slots c.put_live.new.slots c.args.i c.in-Some.field-0-0 t _
    (λ t r. record r { arrivals = slice_set r.arrivals t.number (slice_index r.arrivals t.number + 1) }) r _
    c.in-Some.ensures.found.0 c.in-Some-take_live.ensures.kept c.in-Some-take_live.ensures.found c.in-Some-take_live.ensures.taken c.put_live.ensures
    (ap (λ (xs : List ℕ). record r { arrivals = xs }) counted)
