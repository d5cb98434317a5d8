-- A step of a worker is allowed, and what it leaves.
use Rattle.std.proofs.Common.{◌≡◌, ◌<◌, ◌≤◌, length, refl, ◌∙◌, subst, sym}
use Rattle.atomic_table.specs.Seated.{TableId}
use Rattle.omi_script.specs.declared.program.Program.{Program}
use Rattle.omi_layout.specs.declared.layout.Layout.{Layout}
use Rattle.omi_layout.specs.Place.{image_words}
use Rattle.omi_actor.specs.Steps.{next_of}
use Rattle.omi_rep.specs.declared.outcome.Outcome.{Outcome}
use Rattle.omi_seat.specs.declared.known.Known.{Known}
use Rattle.omi_seat.specs.declared.limits.TheConstants.{MOST_BUDGET}
use Rattle.omi_seat.specs.declared.worker.Worker.{Worker}
use Rattle.omi_seat.specs.Known.{actor_known}
use Rattle.omi_seat.specs.StepLog.{HasRoom, IsLogOf}
use Rattle.omi_seat.specs.Worker.{HasStepped as HasMade, MayStep as MayMake, TellsSeats}
use Rattle.omi_park.specs.declared.known.Part.{Part}
use Rattle.omi_park.specs.declared.known.WorkerPart.{WorkerPart}
use Rattle.omi_park.specs.Plays.{stepped}
use Rattle.omi_park.specs.Running.{Keeps}
use Rattle.omi_park.specs.Work.{HasStepped, IsAtWork, MayStep}
use Rattle.omi_park.proofs.Stepped.{has_found, may_step}

tells_seats : {p : Program} {l : Layout} {id : TableId} {x : WorkerPart} {worker : Worker Part}
    → IsAtWork p l id x worker → TellsSeats stepped worker.seat.me x.known
tells_seats {x = x} {worker = worker} work = λ n after told. (has_found worker.seat.me n after told x work.knows).seats

pub may_make : (q : Program) (m : Layout) (p : Program) (l : Layout) {id : TableId} (x : WorkerPart)
    (worker : Worker Part) → IsAtWork p l id x worker → MayStep x → length x.known.found < MOST_BUDGET
    → HasRoom 1 x.known worker.log → image_words l.table ≤ id.words
    → MayMake p l (Keeps q m) id stepped x.known worker
may_make q m p l {id = id} x worker work may few room count = record {
  log = work.log;
  able = may.able;
  few = few;
  room = room;
  may =
      may_step q m id worker.seat.id x worker.seat.me (next_of x.known.program x.known.layout.table (actor_known x.known)) work.knows refl may few
      (subst (λ (z : Layout). image_words z.table ≤ id.words) (sym work.log.layout) count);
  seats = tells_seats work;
}

-- what a step leaves of a worker
pub stepped_by : {p : Program} {l : Layout} {id : TableId} {x : WorkerPart} {old new : Worker Part} {out : Outcome}
    → ((k : Known) → IsLogOf p l k old.log → TellsSeats stepped old.seat.me k → HasMade p l stepped k old new out)
    → IsAtWork p l id x old → new.seat.table_id ≡ old.seat.table_id → HasStepped p l id x old new out
stepped_by {x = x} {old = old} {new = new} steps work seated =
    let made = steps x.known work.log (tells_seats work) in
    record {
      found = made.found;
      work = record {
        log = made.log;
        table = seated ∙ work.table;
        knows = (has_found old.seat.me made.found new.seat.me made.was_told x work.knows).knows;
      };
      came = made.came;
      room = made.room;
    }
