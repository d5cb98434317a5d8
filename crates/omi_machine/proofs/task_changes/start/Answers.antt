use Rattle.std.proofs.Common.{◌≡◌, ◌+◌, ◌∙◌, ℕ, List, Result, Ok, Err, ap, refl, sym, Some, true, false}
use Rattle.std.specs.Prelude.{OnErr, OnOk, is_err}
use Rattle.omi_model.specs.Changes.{encounter, with_current}
use Rattle.omi_model.specs.Rows.{working}
use Rattle.omi_model.specs.State.{State}
use Rattle.omi_model.specs.Tasking.{scheduled, started}
use Rattle.omi_model.specs.declared.encounter.Encounter.{Encounter}
use Rattle.omi_model.specs.declared.item.Item.{Item}
use Rattle.omi_model.specs.declared.slot.Slot.{Slot}
use Rattle.omi_model.specs.declared.task.Task.{Task}
use Rattle.omi_machine.specs.Kept.{slots_of, state_of}
use Rattle.omi_machine.specs.KeptSlots.{with_slot}
use Rattle.omi_machine.proofs.ChangesBack.{on_same}
use Rattle.omi_machine.proofs.StateChanges.{by_current_is, slots_changed, task_changed}
use Rattle.omi_machine.proofs.task_changes.start.Goals as goal

-- what holds of a result that is an Err, and of one that isn't
when_err : {T E Q : Type 0} (r : Result T E) → is_err r ≡ true → OnErr r Q → Q
when_err (Ok x) is holds = absurd (cc)
when_err (Err e) is holds = holds

when_ok : {T E Q : Type 0} (r : Result T E) → is_err r ≡ false → OnOk r Q → Q
when_ok (Ok x) is holds = holds
when_ok (Err e) is holds = absurd (cc)

pub returns-then-is_err-clause-refused : goal.returns-then-is_err-clause-refused
returns-then-is_err-clause-refused c =
    let s = c.args.s.now in
    let task = c.args.task in
    let u : Task = c.in-Some-take_live.u in
    let took = c.in-Some-take_live.ensures in
    let same : c.push_working.new.list ≡ u.list =
    when_err c.push_working.result
    (sym c.is_err.ensures.value ∙ c.if-is_err.true) c.push_working.ensures.refused in
    let back =
    c.put_live.ensures
    ∙ ap
    (λ (list : List Item). with_slot c.take_live.new.slots task.0 (record { generations = task.0.generation + 1; live = Some (record u { list = list }) })) same in
    let slots : slots_of c.put_live.new.slots ≡ slots_of s.tasks =
    slots_changed s.tasks c.take_live.new.slots c.put_live.new.slots task.0 _
    (λ t. t) u took.kept took.found took.taken back
    ∙ on_same (slots_of s.tasks) task.0 (λ t. t) u took.found refl in
    ap (λ (m : ℕ → ℕ → Slot Task). record (state_of s) { tasks = m }) slots

pub returns-clause-done : goal.returns-clause-done
returns-clause-done c =
    let s = c.args.s.now in
    let i = c.args.i in
    let task = c.args.task in
    let k = c.in-Some.k in
    let t : Task = c.in-Some.t.now in
    let u : Task = c.in-Some-take_live.u in
    let took = c.in-Some-take_live.ensures in
    let added : c.push_working.new.list ≡ working c.encounter-at.result u.list =
    when_ok c.push_working.result
    (sym c.is_err.ensures.value ∙ c.if-is_err.false) c.push_working.ensures.added in
    let list : c.push_working.new.list ≡ working (encounter (state_of s) i) u.list =
    added ∙ ap (λ (at : Encounter). working at u.list) c.encounter-at.ensures in
    let back =
    c.put_live-2.ensures
    ∙ ap
    (λ (e : ℕ). with_slot c.take_live.new.slots task.0 (record { generations = task.0.generation + 1; live = Some (record (scheduled i k t u) { exit = e; list = c.push_working.new.list }) })) c.exit_below-exit.ensures
    ∙ ap
    (λ (l : List Item). with_slot c.take_live.new.slots task.0 (record { generations = task.0.generation + 1; live = Some (record (scheduled i k t u) { list = l }) })) list in
    let starts =
    task_changed s c.take_live.new.slots c.put_live-2.new.slots task _
    (λ u. record (scheduled i k t u) { list = working (encounter (state_of s) i) u.list }) u took.kept took.found took.taken back in
    let whole = c.set_current.ensures ∙ ap (λ (x : State). with_current x i (Some task)) starts in
    by_current_is (state_of s) i k t (started (state_of s) i task) c.in-Some.ensures.found
    ∙ ap (λ (x : State). Some x) (sym whole)
