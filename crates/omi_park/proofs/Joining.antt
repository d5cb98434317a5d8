-- What is kept of the threads that ended, whose parts one seat knows behind that of the inspector.
use Rattle.std.proofs.Common.{◌≡◌, ℕ, List, [], ◌∷◌, slice_get, Some, sym, ap, ◌∙◌, subst}
use Rattle.atomic_table.specs.Seated.{TableId}
use Rattle.omi_script.specs.declared.program.Program.{Program}
use Rattle.omi_layout.specs.declared.layout.Layout.{Layout}
use Rattle.omi_core.specs.declared.thread_run.ThreadRun.{ThreadRun}
use Rattle.omi_core.specs.declared.thread_run.Until.{Until}
use Rattle.omi_seat.specs.Seats.{Seated}
use Rattle.omi_seat.specs.Workers.{AreJoined, IsRunOfKnown}
use Rattle.omi_seat.specs.declared.step_log.Kept.{Kept}
use Rattle.omi_seat.specs.declared.workers.Runner.{Runner}
use Rattle.omi_seat.proofs.Joined.{left_known}
use Rattle.omi_seat.proofs.Seats.{head_is}
use Rattle.omi_park.specs.declared.known.InspectorPart.{InspectorPart}
use Rattle.omi_park.specs.declared.known.Part.{Part}
use Rattle.omi_park.specs.declared.known.Part.TheVariants as part
use Rattle.omi_park.specs.declared.known.WorkerPart.{WorkerPart}
use Rattle.omi_park.specs.Joined.{AreRunsKnown, HaveEnded, IsRunKnown}
use Rattle.omi_park.specs.Work.{HasWorked}

module _ (p : Program) (l : Layout) (id : TableId) (budget : ℕ) (keeps : Kept) (threads : ℕ)
    (all : List (Runner Part)) (ended : HaveEnded p l id budget keeps threads all) (i : InspectorPart)
    (now : List Part) (runs : List ThreadRun)
    (joined : AreJoined threads all (part.Inspector i ∷ []) now runs) where
  each_run : (k : ℕ) (r : ThreadRun) → slice_get runs k ≡ Some r
      → (x : WorkerPart) × (slice_get joined.parts k ≡ Some (part.Worker x)) × IsRunKnown p l budget keeps k x r
  each_run k r got =
      let one = joined.each k r got in
      let end = ended one.place k one.runner one.there one.number in
      let same : one.part ≡ part.Worker end.part =
      head_is one.part (part.Worker end.part) (ap (λ (m : Seated Part). m.0) (sym one.knows ∙ end.work.knows)) in (
        end.part,
        one.taken_in ∙ ap (λ (x : Part). Some x) same,
        record {
          run =
              subst (λ (z : Kept × ℕ). IsRunOfKnown p l z.0 z.1 end.part.known r) (λ j. (end.kept j, end.own j))
              (left_known p l end.part.known one.runner r end.work.log one.left);
          worked = subst (λ (u : Until). HasWorked budget end.part u) (sym one.left.until) end.worked;
        },
      )

  pub runs_known : AreRunsKnown p l budget keeps i now runs
  runs_known =
      record { known = joined.parts; parts_are = joined.now_are; count = joined.many; each = each_run }
