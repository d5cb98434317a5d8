-- What is kept of the threads that ended, whose parts one seat knows.
use Rattle.std.proofs.Common.{◌≡◌, ℕ, List, [], slice_get, Option, Some, sym, ap, ◌∙◌, subst}
use Rattle.atomic_table.specs.Seated.{TableId}
use Rattle.omi_script.specs.declared.program.Program.{Program}
use Rattle.omi_layout.specs.declared.layout.Layout.{Layout}
use Rattle.omi_core.specs.declared.stop.Break.{Break}
use Rattle.omi_core.specs.declared.thread_run.ThreadRun.{ThreadRun}
use Rattle.omi_core.specs.declared.thread_run.Until.{Until}
use Rattle.omi_seat.specs.Seats.{Seated}
use Rattle.omi_seat.specs.Workers.{AreJoined, IsRunOfKnown}
use Rattle.omi_seat.specs.declared.step_log.Kept.{Kept}
use Rattle.omi_seat.specs.declared.workers.Runner.{Runner}
use Rattle.omi_seat.proofs.Joined.{left_known}
use Rattle.omi_seat.proofs.Seats.{head_is}
use Rattle.omi_live.specs.declared.known.Part.{Part}
use Rattle.omi_live.specs.Joined.{AreRunsKnown, HaveEnded, IsRunKnown}
use Rattle.omi_live.specs.Work.{HasWorked}

module _ (p : Program) (l : Layout) (id : TableId) (budget : ℕ) (on : Option Break) (keeps : Kept) (threads : ℕ)
    (all : List (Runner Part)) (ended : HaveEnded p l id budget on keeps threads all) (now : List Part)
    (runs : List ThreadRun) (joined : AreJoined threads all [] now runs) where
  each_run : (i : ℕ) (r : ThreadRun) → slice_get runs i ≡ Some r
      → (x : Part) × (slice_get joined.parts i ≡ Some x) × IsRunKnown p l budget on keeps i x r
  each_run i r got =
      let one = joined.each i r got in
      let end = ended one.place i one.runner one.there one.number in
      let same : one.part ≡ end.part =
      head_is one.part end.part (ap (λ (m : Seated Part). m.0) (sym one.knows ∙ end.work.knows)) in (
        end.part,
        one.taken_in ∙ ap (λ (x : Part). Some x) same,
        record {
          run =
              subst (λ (z : Kept × ℕ). IsRunOfKnown p l z.0 z.1 end.part.known r) (λ k. (end.kept k, end.own k))
              (left_known p l end.part.known one.runner r end.work.log one.left);
          worked = subst (λ (u : Until). HasWorked budget on end.part u) (sym one.left.until) end.worked;
        },
      )

  pub runs_known : AreRunsKnown p l budget on keeps now runs
  runs_known =
      subst (λ (parts : List Part). AreRunsKnown p l budget on keeps parts runs) (sym joined.now_are)
      record { count = joined.many; each = each_run }
