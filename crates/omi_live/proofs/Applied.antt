-- An operation of a thread on the table is allowed, and what it tells.
use Rattle.std.proofs.Common.{◌≡◌, ◌<◌, ◌≤◌, ◌+◌, ℕ, [], ◌∷◌, length, refl, sym, ap, ◌∙◌, subst, arith, Option}
use Rattle.atomic_table.specs.Seated.{TableId}
use Rattle.atomic_table.specs.Table.{Allows}
use Rattle.omi_word.specs.declared.limits.TheConstants.{FIRST_ADDRESS}
use Rattle.omi_word.specs.declared.op.Op.{Op}
use Rattle.omi_word.specs.Memory.{address_of, left_of, place_of}
use Rattle.omi_script.specs.declared.program.Program.{Program}
use Rattle.omi_layout.specs.declared.layout.Layout.{Layout}
use Rattle.omi_layout.specs.Place.{image_words}
use Rattle.omi_actor.specs.Steps.{next_of}
use Rattle.omi_core.specs.declared.stop.Break.{Break}
use Rattle.omi_core.specs.RunSteps.{seats_of}
use Rattle.omi_rep.specs.declared.outcome.Outcome.{Outcome}
use Rattle.omi_seat.specs.declared.limits.TheConstants.{MOST_BUDGET}
use Rattle.omi_seat.specs.Applied.{MayApply, WasTold}
use Rattle.omi_seat.specs.Behind.{CanStep}
use Rattle.omi_seat.specs.Known.{actor_known, claims_known, entry_known}
use Rattle.omi_seat.specs.Seats.{Seated}
use Rattle.omi_seat.specs.StepLog.{HasRoom, IsLogOf}
use Rattle.omi_seat.specs.declared.known.Known.{Known}
use Rattle.omi_seat.specs.Worker.{HasStepped as HasMade, MayStep, TellsSeats}
use Rattle.omi_seat.specs.declared.worker.Worker.{Worker}
use Rattle.omi_live.specs.declared.known.Part.{Part}
use Rattle.omi_live.specs.Plays.{makes, stepped}
use Rattle.omi_live.specs.Running.{Keeps}
use Rattle.omi_live.specs.Work.{HasStepped, IsAtWork}
use Rattle.omi_live.proofs.Operated.{step_allowed}

-- a seat that stands for one thread may make the thread's next operation
pub may_step : (p : Program) (l : Layout) (on : Option Break) (id : TableId) (seat : ℕ) (x : Part) (me : Seated Part) (o : Op)
    → me ≡ (x ∷ [], []) → o ≡ next_of x.known.program x.known.layout.table (actor_known x.known)
    → CanStep x.known.program x.known.layout.table (actor_known x.known) → length x.known.found < MOST_BUDGET
    → id.words ≡ image_words x.known.layout.table + 1 → MayApply (Keeps p l on) id seat me o stepped
may_step p l on id seat x me o knows is_next able few count = record {
  above = subst (λ (q : Op). FIRST_ADDRESS ≤ address_of q) (sym is_next) able.above;
  inside =
      let below = able.inside in
      subst (λ (q : Op). place_of (address_of q) < id.words) (sym is_next) (omega (arith, below, count));
  allows = λ st.
      subst (λ (m : Seated Part). Allows (Keeps p l on) id.slots seat m (place_of (address_of o)) (left_of o) (stepped st m)) (sym knows)
      (step_allowed p l on id.slots seat x st few o is_next);
}

-- what it has learnt
pub record HasFound (x : Part) (n : ℕ) (me : Seated Part) : Type 0 where
  pub knows : me ≡ (makes n x ∷ [], [])
  pub seats : seats_of (entry_known x.known n).outcome ≤ claims_known x.known + 1

pub has_found : (me : Seated Part) (n : ℕ) (after : Seated Part) → WasTold stepped me n after → (x : Part)
    → me ≡ (x ∷ [], []) → HasFound x n after
has_found me n after told x is =
    let here = told.1 x (ap (λ (m : Seated Part). m.0) is) in
    record { knows = here.0; seats = here.1 }

-- ---- a step of a worker

tells_seats : {p : Program} {l : Layout} {id : TableId} {x : Part} {worker : Worker Part}
    → IsAtWork p l id x worker → TellsSeats stepped worker.seat.me x.known
tells_seats {x = x} {worker = worker} work = λ n after told.
    (has_found worker.seat.me n after told x work.knows).seats

pub may_make : (q : Program) (m : Layout) (on : Option Break) (p : Program) (l : Layout) {id : TableId} (x : Part)
    (worker : Worker Part) → IsAtWork p l id x worker
    → CanStep x.known.program x.known.layout.table (actor_known x.known) → length x.known.found < MOST_BUDGET
    → HasRoom 1 x.known worker.log → id.words ≡ image_words l.table + 1
    → MayStep p l (Keeps q m on) id stepped x.known worker
may_make q m on p l {id = id} x worker work able few room count = record {
  log = work.log;
  able = able;
  few = few;
  room = room;
  may =
      may_step q m on id worker.seat.id x worker.seat.me (next_of x.known.program x.known.layout.table (actor_known x.known)) work.knows refl able few
      (count ∙ ap (λ (z : Layout). image_words z.table + 1) (sym work.log.layout));
  seats = tells_seats work;
}

-- what a step leaves of a worker
pub stepped_by : {p : Program} {l : Layout} {id : TableId} {x : Part} {old new : Worker Part} {out : Outcome}
    → ((k : Known) → IsLogOf p l k old.log → TellsSeats stepped old.seat.me k → HasMade p l stepped k old new out)
    → IsAtWork p l id x old → new.seat.table_id ≡ old.seat.table_id → HasStepped p l id x old new out
stepped_by {x = x} {old = old} {new = new} steps work seated =
    let made = steps x.known work.log (tells_seats work) in
    record {
      found = made.found;
      work = record {
        log = made.log;
        table = seated ∙ work.table;
        knows = (has_found old.seat.me made.found new.seat.me made.was_told x work.knows).knows;
      };
      came = made.came;
      room = made.room;
    }
