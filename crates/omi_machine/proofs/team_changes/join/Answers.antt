use Rattle.std.proofs.Common.{ℕ, ◌∙◌, ap, sym, refl, true, Some}
use Rattle.omi_model.specs.Changes.{with_current}
use Rattle.omi_model.specs.Freeing.{freeing}
use Rattle.omi_model.specs.Put.{on}
use Rattle.omi_model.specs.declared.freeable.Freeable.TheVariants as freeable
use Rattle.omi_model.specs.declared.slot.Slot.{Slot}
use Rattle.omi_machine.specs.Kept.{slots_of, state_of}
use Rattle.omi_model.specs.State.{State}
use Rattle.omi_model.specs.Teams.{joined}
use Rattle.omi_model.specs.declared.progress.Progress.TheVariants.{Finished}
use Rattle.omi_model.specs.declared.region.Region.{Region}
use Rattle.omi_model.specs.declared.task.Task.{Task}
use Rattle.omi_machine.proofs.StateChanges.{both_changed, by_region_is}
use Rattle.omi_machine.proofs.team_changes.join.Goals as goal

pub returns : goal.returns
returns c =
    let s = c.args.s.now in
    let i = c.args.i in
    let k = c.in-Some.k in
    let t : Task = c.in-Some.t.now in
    let seen : Region = c.in-Some.r.now in
    let r : Region = c.in-Some-take_live-2.r in
    let took = c.in-Some-take_live.ensures in
    let region_took = c.in-Some-take_live-2.ensures in
    let both = both_changed s c.take_live.new.slots c.put_live.new.slots k _ (λ u. record u { progress = Finished }) c.in-Some-take_live.t
    c.take_live-2.new.slots c.put_live-2.new.slots t.region _ (λ n. record n { joined = true }) r _
    took.kept took.found took.taken c.put_live.ensures region_took.kept region_took.found region_took.taken c.put_live-2.ensures refl in
    let next = Some (freeable.Joined t.region 0) in
    let tasks = c.free_next.ensures ∙ ap (λ (x : State). freeing next seen.encountering x.tasks) both in
    let whole =
    c.set_current.ensures
    ∙ ap
    (λ (m : ℕ → ℕ → Slot Task). with_current (record (state_of s) { regions = slots_of c.put_live-2.new.slots; tasks = m }) i seen.encountering) tasks
    ∙ ap
    (λ (x : State). with_current (record (state_of s) { regions = x.regions; tasks = freeing next seen.encountering (on (state_of s).tasks k.0 (λ u. record u { progress = Finished })) }) i seen.encountering) both in
    by_region_is (state_of s) i k t seen
    (joined (state_of s) i) c.in-Some.ensures.found.0 c.in-Some.ensures.found.1
    ∙ ap (λ (x : State). Some x) (sym whole)
