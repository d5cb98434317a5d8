use Rattle.std.proofs.Common.{ℕ, ap, sym, ◌∙◌, Some, List}
use Rattle.omi_model.specs.Changes.{with_current}
use Rattle.omi_model.specs.Put.{made}
use Rattle.omi_model.specs.State.{State}
use Rattle.omi_model.specs.Teams.{forked, member_task, new_region, with_members}
use Rattle.omi_model.specs.declared.id.Tid.{Tid}
use Rattle.omi_model.specs.declared.region.Region.{Region}
use Rattle.omi_model.specs.declared.slot.Slot.{Slot}
use Rattle.omi_model.specs.declared.task.Task.{Task}
use Rattle.omi_machine.specs.Kept.{slots_of, state_of}
use Rattle.omi_machine.proofs.StateChanges.{by_region_is}
use Rattle.omi_machine.proofs.new_teams.fork.Goals as goal

pub returns-clause-done : goal.returns-clause-done
returns-clause-done c =
    let s : State = state_of c.args.s.now in
    let i = c.args.i in
    let p = c.args.p.now in
    let region = c.args.region in
    let team : List (Tid × ℕ) = c.args.team.now in
    let k = c.in-Some.k in
    let t : Task = c.in-Some.t.now in
    let r : Region = c.in-Some.r.now in
    let task : ℕ → ℕ → Task = member_task p region k t r c.args.f in
    let regions =
    c.make.ensures.made
    ∙ ap (λ (m : ℕ → ℕ → Slot Region). made m region.0 c.in_ok-new.new) c.in_ok-keep_slot.ensures.same
    ∙ ap (made (slots_of c.args.s.now.regions) region.0) c.in_ok-new.ensures in
    let tasks =
    c.make_members.ensures task c.in_ok-tasks.ensures
    ∙ ap (with_members task 0 team) c.in_ok-keep_team.ensures.same in
    let new : Region = new_region k t r team c.args.f in
    let whole =
    c.set_current.ensures
    ∙ ap
    (λ (m : ℕ → ℕ → Slot Region). with_current (record s { regions = m; tasks = slots_of c.make_members.new.slots }) i c.first_task.result) regions
    ∙ ap
    (λ (m : ℕ → ℕ → Slot Task). with_current (record s { regions = made s.regions region.0 new; tasks = m }) i c.first_task.result) tasks
    ∙ ap
    (with_current (record s { regions = made s.regions region.0 new; tasks = with_members task 0 team s.tasks }) i) c.first_task.ensures in
    by_region_is s i k t r
    (forked p s i region team c.args.f) c.in-Some.ensures.found.0 c.in-Some.ensures.found.1
    ∙ ap (λ (x : State). Some x) (sym whole)
