-- A worker that goes on, step by step, waits for an even epoch before each, and ends.
use Rattle.std.proofs.Common.{◌≡◌, ◌<◌, ◌≤◌, ◌-◌, ◌+◌, ◌++◌, ℕ, false, true, List, [], ◌∷◌, length, Some, None, refl, sym, ap, ◌∙◌, subst, arith}
use Rattle.std.proofs.lemmas.List.{length-append}
use Rattle.atomic_table.specs.Seated.{TableId}
use Rattle.omi_script.specs.declared.program.Program.{Program}
use Rattle.omi_layout.specs.declared.layout.Layout.{Layout}
use Rattle.omi_rep.specs.declared.outcome.Outcome.{Outcome}
use Rattle.omi_core.specs.declared.entry.Entry.{Entry}
use Rattle.omi_core.specs.declared.thread_run.Until.{Until}
use Rattle.omi_core.specs.declared.thread_run.Until.TheVariants as until
use Rattle.omi_seat.specs.declared.limits.TheConstants.{MOST_BUDGET}
use Rattle.omi_seat.specs.declared.known.Known.{Known}
use Rattle.omi_seat.specs.declared.step_log.StepLog.{StepLog}
use Rattle.omi_seat.specs.Known.{entry_known, steps_known}
use Rattle.omi_seat.specs.StepLog.{HasRoom, IsLogOf}
use Rattle.omi_seat.specs.Stops.{GoesOn, WentOn, ends_at, is_ended}
use Rattle.omi_seat.proofs.GoingOn.{ended_by, goes_more, not_ended, went, went_more}
use Rattle.omi_seat.proofs.Learnt.{steps_found, steps_one_more}
use Rattle.omi_seat.proofs.Logged.{less_room}
use Rattle.omi_park.specs.declared.known.Part.{Part}
use Rattle.omi_park.specs.declared.known.WorkerPart.{WorkerPart}
use Rattle.omi_seat.specs.declared.worker.Worker.{Worker}
use Rattle.omi_park.specs.Acknowledged.{HasNotBegun, IsOdd, acknowledgement, running}
use Rattle.omi_park.specs.Plays.{first_worker, loads, makes, says}
use Rattle.omi_park.specs.Work.{HasBegun, HasGoneOn, HasLoaded, HasStepped, HasTold, HasWorked, IsAtWork, IsBefore, IsLoose, IsPausing, IsSameBut, IsSeatOf, IsToGoOn, IsToPark, IsWaiting, IsWith}
use Rattle.omi_list.proofs.Places.{never_some, one_value}
use Rattle.omi_park.proofs.Words.{parked_begun, parked_stays, runs_begun, runs_now, runs_stays}

-- it has loaded no epoch, so it is parked in none
pub loose_before : (x : WorkerPart) → IsBefore x → IsLoose x
loose_before x before = record {
  stays = before.stays;
  runs = λ epoch loaded parked. never_some x.loaded epoch before.loaded loaded;
}

-- it keeps the same of its thread
pub same_with : {x y : WorkerPart} {old new : Worker Part} → IsWith x old → IsSameBut old new → y.known ≡ x.known
    → IsSeatOf y new.seat.me → IsWith y new
same_with {x = x} {y = y} {old = old} {new = new} is same known knows = record {
  knows = knows;
  thread = ap (λ (g : StepLog). g.thread) same.log ∙ is.thread ∙ ap (λ (k : Known). k.thread) (sym known);
  count = ap (λ (g : StepLog). g.steps) same.log ∙ is.count ∙ ap (λ (k : Known). length k.found) (sym known);
  few = subst (λ (k : Known). length k.found ≤ MOST_BUDGET) (sym known) is.few;
}

-- ---- it says that it runs

pub told_now : {x : WorkerPart} {old new : Worker Part} → IsPausing x old → IsSameBut old new
    → IsSeatOf (says (running (length x.known.found)) x) new.seat.me → HasTold x new
told_now {x = x} pausing same knows =
    let word = running (length x.known.found) in
    let runs = runs_now 0 (length x.known.found) pausing.with_it.few in
    record {
      part = says word x;
      same = refl;
      goes = record {
        pausing = record {
          with_it = same_with pausing.with_it same refl knows;
          before = record { stays = runs_stays word runs; loaded = pausing.before.loaded };
          first = λ none. absurd (runs_begun word runs none);
        };
        begun = runs_begun word runs;
      };
    }

-- behind a step it has begun
pub told_before : (x : WorkerPart) (worker : Worker Part) → IsPausing x worker → (length x.known.found ≡ 0 → ⊥)
    → HasTold x worker
told_before x worker pausing some = record {
  part = x;
  same = refl;
  goes = record { pausing = pausing; begun = λ none. some (ap length (pausing.first none)) };
}

-- ---- it waits for an even epoch

-- before it loads the first one
pub waits_first : (x : WorkerPart) (worker : Worker Part) → IsToGoOn x worker → IsWaiting x 0 worker
waits_first x worker goes = record {
  part = x;
  same = refl;
  with_it = goes.pausing.with_it;
  stays = goes.pausing.before.stays;
  begun = goes.begun;
  loaded = λ epoch is. absurd (let none = goes.pausing.before.loaded in cc (none, is));
}

module _ {x : WorkerPart} {parked epoch : ℕ} {old new : Worker Part} (w : IsWaiting x parked old)
    (has : HasLoaded w.part epoch new) (same : IsSameBut old new) where
  with_now : IsWith (loads epoch w.part) new
  with_now = same_with w.with_it same refl has.knows

  -- the epoch is even: its thread may step
  pub waits_over : (IsOdd epoch → ⊥) → HasGoneOn x new
  waits_over even = record {
    part = loads epoch w.part;
    same = w.same;
    knows = has.knows;
    may = record { stays = w.stays; begun = w.begun; epoch = epoch; loaded = refl; even = even; able = has.able };
  }

  -- it is the one in which it parked
  pub waits_still : epoch ≡ parked → IsWaiting x parked new
  waits_still is = record {
    part = loads epoch w.part;
    same = w.same;
    with_it = with_now;
    stays = w.stays;
    begun = w.begun;
    loaded = λ e loaded. sym (one_value (Some epoch) epoch e refl loaded) ∙ is;
  }

  -- it is another one, in which it is to park
  pub is_to_park : IsOdd epoch → (epoch ≡ parked → ⊥) → IsToPark epoch (loads epoch w.part) new
  is_to_park odd other = record {
    with_it = with_now;
    stays = w.stays;
    loaded = refl;
    odd = odd;
    last = has.last;
    runs = λ is_parked. other (w.loaded epoch (has.parked is_parked));
  }

  -- and has parked
  pub waits_on : {after : Worker Part} → IsOdd epoch → IsSameBut new after
      → IsSeatOf (says (acknowledgement epoch (length w.part.known.found)) (loads epoch w.part)) after.seat.me
      → IsWaiting x epoch after
  waits_on odd same_too knows = record {
    part = says (acknowledgement epoch (length w.part.known.found)) (loads epoch w.part);
    same = w.same;
    with_it = same_with with_now same_too refl knows;
    stays = parked_stays epoch (length w.part.known.found) w.with_it.few has.last;
    begun = parked_begun epoch (length w.part.known.found) w.with_it.few odd;
    loaded = λ e loaded. sym (one_value (Some epoch) epoch e refl loaded);
  }

-- ---- between two steps

pub record IsWorking (p : Program) (l : Layout) (id : TableId) (budget made : ℕ) (opened : StepLog) (worker : Worker Part)
    : Type 0 where
  pub part : WorkerPart
  pub work : IsAtWork p l id part worker
  pub own : worker.log.thread ≡ opened.thread
  pub kept : worker.log.kept ≡ opened.kept
  pub count : length part.known.found ≡ made
  pub room : HasRoom (budget - made) part.known worker.log
  pub goes : GoesOn None (steps_known part.known)
  pub before : IsBefore part
  pub first : HasNotBegun part.said → part.known.found ≡ []

pub with_work : {p : Program} {l : Layout} {id : TableId} {x : WorkerPart} {worker : Worker Part}
    → IsAtWork p l id x worker → length x.known.found ≤ MOST_BUDGET → IsWith x worker
with_work work few = record {
  knows = work.knows;
  thread = work.log.thread;
  count = work.log.steps;
  few = few;
}

pub pauses : {p : Program} {l : Layout} {id : TableId} {budget made : ℕ} {opened : StepLog} {worker : Worker Part}
    → made ≤ MOST_BUDGET → (w : IsWorking p l id budget made opened worker) → IsPausing w.part worker
pauses few w = record {
  with_it = with_work w.work (let count = w.count in omega (arith, few, count));
  before = w.before;
  first = w.first;
}

-- what a worker has before its first step
pub not_begun : (p : Program) (l : Layout) (id : TableId) (budget : ℕ) (worker : Worker Part)
    → IsAtWork p l id (first_worker p l worker.log.thread) worker
    → HasRoom budget (first_worker p l worker.log.thread).known worker.log
    → IsWorking p l id budget 0 worker.log worker
not_begun p l id budget worker work room = record {
  part = first_worker p l worker.log.thread;
  work = work;
  own = refl;
  kept = refl;
  count = refl;
  room = less_room (budget - 0) budget (first_worker p l worker.log.thread).known worker.log (omega arith) room;
  goes = tt;
  before = record { stays = λ left. omega (arith, left); loaded = refl };
  first = λ none. refl;
}

-- it said how far it is, and went on
pub gone_on : {x : WorkerPart} {mid new : Worker Part} → (told : HasTold x mid) → HasGoneOn told.part new
    → HasGoneOn x new
gone_on told gone = record {
  part = gone.part;
  same = gone.same ∙ told.same;
  knows = gone.knows;
  may = gone.may;
}

pub same_both : {old mid new : Worker Part} → IsSameBut old mid → IsSameBut mid new → IsSameBut old new
same_both first then = record { table = then.table ∙ first.table; log = then.log ∙ first.log }

-- ---- one more step of its thread

pub record Behind (p : Program) (l : Layout) (id : TableId) (budget made : ℕ) (opened : StepLog) (worker : Worker Part)
    (out : Outcome) : Type 0 where
  pub part : WorkerPart
  pub work : IsAtWork p l id part worker
  pub own : worker.log.thread ≡ opened.thread
  pub kept : worker.log.kept ≡ opened.kept
  pub count : length part.known.found ≡ made + 1
  pub steps_before : List Entry
  pub goes : GoesOn None steps_before
  pub last : Entry
  pub out_is : out ≡ last.outcome
  pub steps : steps_known part.known ≡ steps_before ++ last ∷ []
  pub room : HasRoom (budget - (made + 1)) part.known worker.log
  pub before : IsBefore part
  pub begun : HasBegun part

-- the worker that has gone on is at work as before
pub gone_work : {p : Program} {l : Layout} {id : TableId} {budget made : ℕ} {opened : StepLog} {old new : Worker Part}
    (w : IsWorking p l id budget made opened old) (gone : HasGoneOn w.part new) → IsSameBut old new
    → IsAtWork p l id gone.part new
gone_work {p = p} {l = l} {old = old} w gone same = record {
  log =
      subst (λ (g : StepLog). IsLogOf p l gone.part.known g) (sym same.log)
      (subst (λ k. IsLogOf p l k old.log) (sym gone.same) w.work.log);
  table = same.table ∙ w.work.table;
  knows = gone.knows;
}

pub gone_room : {p : Program} {l : Layout} {id : TableId} {budget made : ℕ} {opened : StepLog} {old new : Worker Part}
    (w : IsWorking p l id budget made opened old) (gone : HasGoneOn w.part new) → IsSameBut old new
    → HasRoom (budget - made) gone.part.known new.log
gone_room {budget = budget} {made = made} {old = old} w gone same =
    subst (λ (g : StepLog). HasRoom (budget - made) gone.part.known g) (sym same.log)
    (subst (λ k. HasRoom (budget - made) k old.log) (sym gone.same) w.room)

pub stepped_on : {p : Program} {l : Layout} {id : TableId} {budget made : ℕ} {opened : StepLog} {old mid new : Worker Part}
    {out : Outcome} (w : IsWorking p l id budget made opened old) (gone : HasGoneOn w.part mid) → IsSameBut old mid
    → made < budget → HasStepped p l id gone.part mid new out → new.log.thread ≡ mid.log.thread
    → new.log.kept ≡ mid.log.kept
    → Behind p l id budget made opened new out
stepped_on {budget = budget} {made = made} {mid = mid} w gone same below stepped own kept = record {
  part = makes stepped.found gone.part;
  work = stepped.work;
  own = own ∙ ap (λ (g : StepLog). g.thread) same.log ∙ w.own;
  kept = kept ∙ ap (λ (g : StepLog). g.kept) same.log ∙ w.kept;
  count =
      length-append gone.part.known.found (stepped.found ∷ [])
      ∙ ap (λ n. n + 1) (ap (λ (k : Known). length k.found) gone.same ∙ w.count);
  steps_before = steps_known gone.part.known;
  goes = subst (λ (k : Known). GoesOn None (steps_known k)) (sym gone.same) w.goes;
  last = entry_known gone.part.known stepped.found;
  out_is = stepped.came;
  steps = steps_one_more gone.part.known stepped.found;
  room =
      stepped.room (budget - (made + 1))
      (subst (λ n. HasRoom n gone.part.known mid.log) (omega (arith, below)) (gone_room w gone same));
  before = record { stays = gone.may.stays; loaded = refl };
  begun = gone.may.begun;
}

-- and is between two steps again
pub behind_pauses : {p : Program} {l : Layout} {id : TableId} {budget made : ℕ} {opened : StepLog} {worker : Worker Part} {out : Outcome}
    → made < MOST_BUDGET → (b : Behind p l id budget made opened worker out) → IsPausing b.part worker
behind_pauses few b = record {
  with_it = with_work b.work (let count = b.count in omega (arith, few, count));
  before = b.before;
  first = λ none. absurd (b.begun none);
}

-- it committed `done`
pub behind_done : {p : Program} {l : Layout} {id : TableId} {budget made : ℕ} {opened : StepLog} {worker : Worker Part} {out : Outcome}
    → made < budget → ends_at out ≡ true → (b : Behind p l id budget made opened worker out)
    → HasWorked budget b.part until.Ended
behind_done {made = made} below done b =
    let count : length (steps_known b.part.known) ≡ made + 1 = steps_found b.part.known ∙ b.count in
    record {
      reason = ap is_ended b.steps ∙ ended_by b.steps_before b.last ∙ ap ends_at (sym b.out_is) ∙ done;
      most = omega (arith, count, below);
      went_on = subst (WentOn None) (sym b.steps) (went_more None b.steps_before b.last b.goes);
      never = λ is. grind (arith, is);
    }

-- or it goes on
pub behind_goes : {p : Program} {l : Layout} {id : TableId} {budget made : ℕ} {opened : StepLog} {worker : Worker Part} {out : Outcome}
    → ends_at out ≡ false → (b : Behind p l id budget made opened worker out)
    → IsWorking p l id budget (made + 1) opened worker
behind_goes not b = record {
  part = b.part;
  work = b.work;
  own = b.own;
  kept = b.kept;
  count = b.count;
  room = b.room;
  goes =
      subst (GoesOn None) (sym b.steps)
      (goes_more None b.steps_before b.last b.goes (ap ends_at (sym b.out_is) ∙ not) refl);
  before = b.before;
  first = λ none. absurd (b.begun none);
}

-- it makes no further step, and leaves
pub left_work : {p : Program} {l : Layout} {id : TableId} {x : WorkerPart} {old new : Worker Part} (word : ℕ)
    → IsAtWork p l id x old → IsSameBut old new → IsSeatOf (says word x) new.seat.me
    → IsAtWork p l id (says word x) new
left_work {p = p} {l = l} {x = x} word work same knows = record {
  log = subst (λ (g : StepLog). IsLogOf p l x.known g) (sym same.log) work.log;
  table = same.table ∙ work.table;
  knows = knows;
}

pub budget_spent : {p : Program} {l : Layout} {id : TableId} {budget made : ℕ} {opened : StepLog} {worker : Worker Part}
    → made ≡ budget → (w : IsWorking p l id budget made opened worker) → HasWorked budget w.part until.Budget
budget_spent {made = made} all w =
    let count : length (steps_known w.part.known) ≡ made = steps_found w.part.known ∙ w.count in
    record {
      reason = (not_ended None (steps_known w.part.known) w.goes, count ∙ all);
      most = omega (arith, count, all);
      went_on = went None (steps_known w.part.known) w.goes;
      never = λ is. grind (arith, is);
    }

-- why it made no further step, whatever it said then
pub says_worked : {budget : ℕ} {x : WorkerPart} {why : Until} (word : ℕ) → HasWorked budget x why
    → HasWorked budget (says word x) why
says_worked word worked = record {
  reason = worked.reason;
  most = worked.most;
  went_on = worked.went_on;
  never = worked.never;
}
