-- A thread at work: each turn of its loop looks, may be told to stop, and makes a step.
use Rattle.std.proofs.Common.{◌≡◌, ℕ, ◌+◌, ◌-◌, ◌||◌, ◌++◌, Bool, true, false, List, [], ◌∷◌, length, refl, sym, ap, ◌∙◌, subst, arith}
use Rattle.std.proofs.lemmas.List.{append-nil}
use Rattle.omi_core.specs.declared.stop.Break.{Break}
use Rattle.std.specs.Prelude.{Option}
use Rattle.omi_live.specs.declared.known.Access.{Access}
use Rattle.omi_live.specs.declared.known.Access.TheVariants as access
use Rattle.omi_live.specs.Accesses.{with_looks}
use Rattle.omi_live.specs.Plays.{looks}
use Rattle.omi_seat.specs.StepLog.{HasRoom}
use Rattle.omi_live.specs.declared.known.Part.{Part}
use Rattle.omi_seat.specs.Known.{steps_known}
use Rattle.omi_step_words.specs.Outcomes.{outcome_of}
use Rattle.omi_seat.specs.Stops.{ends_at, some_stop, stops_at}
use Rattle.omi_seat.specs.declared.worker.Worker.{Worker}
use Rattle.omi_live.proofs.Applied.{may_make, stepped_by}
use Rattle.omi_live.proofs.Going.{behind_done, behind_goes, behind_stops, behind_told, stepped_on, IsWorking, looked_work, may_not_ended, may_went, not_begun, same_room}
use Rattle.omi_seat.proofs.Learnt.{steps_found}
use Rattle.omi_seat.proofs.Logged.{less_room}
use Rattle.omi_live.proofs.worker.work.Goals.{then-stops_at, else-stops_at}
use Rattle.omi_live.proofs.worker.work.Goals as goal

pub loop-step-init : goal.loop-step-init
loop-step-init g c =
    not_begun c.args.p.now c.args.l.now c.args.words.now.table_id c.args.on c.args.budget
    c.args.worker.now c.requires.start c.requires.room

pub returns-then-is_told-clause-worked : goal.returns-then-is_told-clause-worked
returns-then-is_told-clause-worked g c =
    let now = c.loop-step.invariant in
    let raised : Bool = c.is_told.result in
    let looked = c.is_told.ensures.looked now.part now.work.knows in
    let below = c.loop-step-test.true in
    let count : length (steps_known now.part.known) ≡ c.loop-step.step =
    steps_found now.part.known ∙ now.count in
    let so_far : List Access = with_looks c.args.on (steps_known now.part.known) in (
      looks raised now.part,
      looked_work now.work looked c.is_told.ensures.same,
      record {
        reason = (may_not_ended c.args.on now.part now.goes, omega (arith, count, below));
        most = omega (arith, count, below);
        went_on = may_went c.args.on now.part now.goes;
        stopped = λ is.
            ap (λ (b : Bool). now.part.told || b) c.if-is_told.true ∙ was now.part.told;
        did =
            ap (λ (ys : List Access). ys ++ access.Look raised ∷ []) now.did
            ∙ ap (λ (b : Bool). so_far ++ access.Look b ∷ []) c.if-is_told.true;
      },
    )
  where
    was : (t : Bool) → (t || true) ≡ true
    was true = refl
    was false = refl

pub step-came-requires-clause-seated : goal.step-came-requires-clause-seated
step-came-requires-clause-seated g c = c.is_told.ensures.same.table ∙ c.loop-step.invariant.work.table

pub step-came-requires-clause-may : goal.step-came-requires-clause-may
step-came-requires-clause-may g c =
    let now = c.loop-step.invariant in
    let then : Part = looks c.is_told.result now.part in
    let looked = c.is_told.ensures.looked now.part now.work.knows in
    let same = c.is_told.ensures.same in
    let below = c.loop-step-test.true in
    let most = c.requires.budget in
    let count = now.count in
    let left : ℕ = c.args.budget - c.loop-step.step in
    let key = c.args.words.now.key in
    let one : HasRoom 1 now.part.known c.loop-step.worker.log =
    less_room 1 left now.part.known c.loop-step.worker.log (omega (arith, below)) now.room in (
      then.known,
      may_make key.program.value key.layout.value key.on c.args.p.now c.args.l.now then c.is_told.new.worker
          (looked_work now.work looked same) looked.able (omega (arith, count, below, most))
          (same_room 1 now.part.known c.loop-step.worker c.is_told.new.worker same one)
          c.requires.table.count,
    )

pub returns-then-ends_at-clause-worked : goal.returns-then-ends_at-clause-worked
returns-then-ends_at-clause-worked g c =
    let now = c.loop-step.invariant in
    let looked = c.is_told.ensures.looked now.part now.work.knows in
    let below = c.loop-step-test.true in
    let stepped = c.step-came.ensures in
    let b = stepped_on now looked c.is_told.ensures.same c.if-is_told.false below
    (λ x work. stepped_by stepped.stepped work stepped.seated)
    stepped.thread stepped.kept in
    let done : ends_at (outcome_of c.is_told.new.worker.log.actor c.step-came.result) ≡ true =
    sym (c.ends_at.ensures c.is_told.new.worker.log.actor.gathered.team) ∙ c.if-ends_at.true in
    (b.part, b.work, behind_done below done b)

pub tell-requires-clause-seated : goal.tell-requires-clause-seated
tell-requires-clause-seated g c =
    let now = c.loop-step.invariant in
    let looked = c.is_told.ensures.looked now.part now.work.knows in
    let stepped = c.step-came.ensures in
    let b = stepped_on now looked c.is_told.ensures.same c.if-is_told.false c.loop-step-test.true
    (λ x work. stepped_by stepped.stepped work stepped.seated)
    stepped.thread stepped.kept in
    b.work.table

pub tell-requires-clause-stops : goal.tell-requires-clause-stops
tell-requires-clause-stops g c =
    let now = c.loop-step.invariant in
    let looked = c.is_told.ensures.looked now.part now.work.knows in
    let stepped = c.step-came.ensures in
    let b = stepped_on now looked c.is_told.ensures.same c.if-is_told.false c.loop-step-test.true
    (λ x work. stepped_by stepped.stepped work stepped.seated)
    stepped.thread stepped.kept in
    let stops : stops_at c.args.on (outcome_of c.is_told.new.worker.log.actor c.step-came.result) ≡ true =
    sym (c.stops_at.ensures c.is_told.new.worker.log.actor.gathered.team) ∙ c.if-stops_at.true in (
      b.part,
      b.work.knows,
      ap (λ (on : Option Break). some_stop on (steps_known b.part.known)) c.requires.table.stops
          ∙ behind_stops stops b,
    )

pub loop-step-preserved : goal.loop-step-preserved
loop-step-preserved g c =
    let now = c.loop-step.invariant in
    let looked = c.is_told.ensures.looked now.part now.work.knows in
    let stepped = c.step-came.ensures in
    let b = stepped_on now looked c.is_told.ensures.same c.if-is_told.false c.loop-step-test.true
    (λ x work. stepped_by stepped.stepped work stepped.seated)
    stepped.thread stepped.kept in
    let not_done : ends_at (outcome_of c.is_told.new.worker.log.actor c.step-came.result) ≡ false =
    sym (c.ends_at.ensures c.is_told.new.worker.log.actor.gathered.team) ∙ c.if-ends_at.false in
    let Works : Worker Part → Type 0 =
    IsWorking c.args.p.now c.args.l.now c.args.words.now.table_id c.args.on c.args.budget
    (c.loop-step.step + 1) c.args.worker.now.log in
    elim c.if-stops_at.branch [
      | then-stops_at w ↦
          let stops : stops_at c.args.on (outcome_of c.is_told.new.worker.log.actor c.step-came.result) ≡ true =
          sym (c.stops_at.ensures c.is_told.new.worker.log.actor.gathered.team) ∙ w.if-stops_at.true in
          subst Works (sym w.worker-is)
          (behind_told not_done stops b (w.tell.ensures.told b.part b.work.knows) w.tell.ensures.same)
      | else-stops_at w ↦
          let goes : stops_at c.args.on (outcome_of c.is_told.new.worker.log.actor c.step-came.result) ≡ false =
          sym (c.stops_at.ensures c.is_told.new.worker.log.actor.gathered.team) ∙ w.if-stops_at.false in
          subst Works (sym w.worker-is) (behind_goes not_done goes b)
    ]

pub returns-clause-worked : goal.returns-clause-worked
returns-clause-worked g c =
    let now = c.loop-step.invariant in
    let end = c.loop-step-test.false in
    let most = c.loop-step.auto.step-end in
    let count : length (steps_known now.part.known) ≡ c.loop-step.step =
    steps_found now.part.known ∙ now.count in (
      now.part,
      now.work,
      record {
        reason = (may_not_ended c.args.on now.part now.goes, omega (arith, count, end, most));
        most = omega (arith, count, end, most);
        went_on = may_went c.args.on now.part now.goes;
        stopped = λ is. absurd (grind (arith, is));
        did = now.did ∙ sym (append-nil (with_looks c.args.on (steps_known now.part.known)));
      },
    )
