-- The barriers ahead of each task.
use Rattle.std.proofs.Common.{◌+◌, ℕ, List, slice_index, ap, ◌∙◌, subst}
use Rattle.omi_script.specs.declared.program.Program.{Program}
use Rattle.omi_model.specs.declared.event.Event.{Event}
use Rattle.omi_model.specs.declared.region.Region.{Region}
use Rattle.omi_model.specs.LawBarriersLeft.{AreBarriersLeft, HasBarriersLeft}
use Rattle.omi_model.specs.Reached.{Reached}
use Rattle.omi_model.specs.State.{State}
use Rattle.omi_model.proofs.BarrierLaw.{placed}
use Rattle.omi_model.proofs.Slots.{some_same}

pub barriers_ahead : (p : Program) (events : List (ℕ × Event)) (s : State) → Reached p events s
    → AreBarriersLeft p s
barriers_ahead p events s reached = record {
  members = λ k t r live im found.
      let (q, found_q, m) = ((placed p events s reached).places k t live).0 im in
      subst (λ (x : Region). HasBarriersLeft p x t) (some_same found_q found) (ap (λ n. slice_index q.arrivals t.number + n) m.ready.barriers ∙ m.barriers);
  others = λ k t live ex. (((placed p events s reached).places k t live).1 ex).barriers;
}
