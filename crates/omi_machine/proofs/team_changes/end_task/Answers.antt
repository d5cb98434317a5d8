use Rattle.std.proofs.Common.{◌∙◌, ap, sym, true, Some, None, Bool, List, slice_set}
use Rattle.omi_model.specs.Changes.{with_current}
use Rattle.omi_machine.specs.Kept.{state_of}
use Rattle.omi_model.specs.State.{State}
use Rattle.omi_model.specs.Teams.{task_ended}
use Rattle.omi_model.specs.declared.progress.Progress.TheVariants.{Finished}
use Rattle.omi_model.specs.declared.region.Region.{Region}
use Rattle.omi_model.specs.declared.task.Task.{Task}
use Rattle.omi_machine.proofs.StateChanges.{both_changed, by_current_is}
use Rattle.omi_machine.proofs.team_changes.end_task.Goals as goal

pub returns : goal.returns
returns c =
    let s = c.args.s.now in
    let i = c.args.i in
    let k = c.in-Some.k in
    let t : Task = c.in-Some.t.now in
    let r : Region = c.in-Some-take_live-2.r in
    let took = c.in-Some-take_live.ensures in
    let region_took = c.in-Some-take_live-2.ensures in
    let ended = ap (λ (xs : List Bool). record r { ended = xs }) c.set_ended.ensures in
    let both = both_changed s c.take_live.new.slots c.put_live.new.slots k _ (λ u. record u { progress = Finished }) c.in-Some-take_live.t
    c.take_live-2.new.slots c.put_live-2.new.slots t.region _
    (λ r. record r { ended = slice_set r.ended t.number true }) r _
    took.kept took.found took.taken c.put_live.ensures region_took.kept region_took.found region_took.taken c.put_live-2.ensures ended in
    let whole = c.set_current.ensures ∙ ap (λ (x : State). with_current x i None) both in
    by_current_is (state_of s) i k t (task_ended (state_of s) i) c.in-Some.ensures.found.0
    ∙ ap (λ (x : State). Some x) (sym whole)
