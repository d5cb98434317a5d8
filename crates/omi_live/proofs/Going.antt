-- A thread that goes on, step by step, and how it ends.
use Rattle.std.proofs.Common.{◌≡◌, ◌⊎◌, inl, inr, ◌<◌, ◌-◌, ◌+◌, ◌++◌, ℕ, Bool, true, false, List, [], ◌∷◌, length, Option, refl, sym, ap, ◌∙◌, subst, arith}
use Rattle.std.proofs.lemmas.Bool.{false≢true}
use Rattle.std.proofs.lemmas.List.{append-nil, length-append}
use Rattle.atomic_table.specs.Seated.{TableId}
use Rattle.omi_script.specs.declared.program.Program.{Program}
use Rattle.omi_layout.specs.declared.layout.Layout.{Layout}
use Rattle.omi_rep.specs.declared.outcome.Outcome.{Outcome}
use Rattle.omi_core.specs.declared.entry.Entry.{Entry}
use Rattle.omi_core.specs.declared.stop.Break.{Break}
use Rattle.omi_core.specs.declared.thread_run.Until.TheVariants as until
use Rattle.omi_live.specs.declared.known.Access.{Access}
use Rattle.omi_live.specs.declared.known.Access.TheVariants as access
use Rattle.omi_live.specs.declared.known.Part.{Part}
use Rattle.omi_seat.specs.declared.worker.Worker.{Worker}
use Rattle.omi_live.specs.Plays.{first_part, looks, makes, raises}
use Rattle.omi_live.specs.Accesses.{with_looks}
use Rattle.omi_seat.specs.Known.{entry_known, steps_known}
use Rattle.omi_seat.proofs.Learnt.{steps_found, steps_one_more}
use Rattle.omi_seat.specs.Stops.{GoesOn, WentOn, ends_at, is_ended, some_stop, stops_at}
use Rattle.omi_seat.proofs.GoingOn.{ended_by, goes_more, not_ended, went, went_more}
use Rattle.omi_seat.specs.declared.known.Known.{Known}
use Rattle.omi_seat.specs.declared.step_log.StepLog.{StepLog}
use Rattle.omi_seat.specs.StepLog.{HasRoom, IsLogOf}
use Rattle.omi_seat.proofs.Logged.{less_room}
use Rattle.omi_live.specs.Work.{HasStepped, HasWorked, HasLooked, IsAtWork, IsSameBut}
use Rattle.omi_live.proofs.Accesses.{done_is_no_stop, with_raise, without_raise}
use Rattle.omi_seat.proofs.StopsLast.{stops_last}

-- ---- between two steps

-- the thread goes on, or it committed an event at which the run is to stop, and will be told so
abbrev pub MayGoOn : Option Break → Part → Type 0
MayGoOn on x =
    GoesOn on (steps_known x.known)
    ⊎ ((x.told ≡ true) × (is_ended (steps_known x.known) ≡ false) × WentOn on (steps_known x.known))

pub record IsWorking (p : Program) (l : Layout) (id : TableId) (on : Option Break) (budget made : ℕ)
    (opened : StepLog) (worker : Worker Part) : Type 0 where
  pub part : Part
  pub work : IsAtWork p l id part worker
  pub own : worker.log.thread ≡ opened.thread
  pub kept : worker.log.kept ≡ opened.kept
  pub count : length part.known.found ≡ made
  pub room : HasRoom (budget - made) part.known worker.log
  pub goes : MayGoOn on part
  pub did : part.accesses ≡ with_looks on (steps_known part.known)

pub may_not_ended : (on : Option Break) (x : Part) → MayGoOn on x → is_ended (steps_known x.known) ≡ false
may_not_ended on x (inl goes) = not_ended on (steps_known x.known) goes
may_not_ended on x (inr was) = was.1

pub may_went : (on : Option Break) (x : Part) → MayGoOn on x → WentOn on (steps_known x.known)
may_went on x (inl goes) = went on (steps_known x.known) goes
may_went on x (inr was) = was.2

-- a thread that looked and was not told goes on
pub not_told : (on : Option Break) (x : Part) (raised : Bool) → MayGoOn on x
    → (x.told ≡ true → raised ≡ true) → raised ≡ false → GoesOn on (steps_known x.known)
not_told on x raised (inl goes) told not = goes
not_told on x raised (inr was) told not = absurd (false≢true (sym not ∙ told was.0))

-- ---- a look

-- what a look leaves of a worker
pub looked_work : {p : Program} {l : Layout} {id : TableId} {x : Part} {raised : Bool} {old new : Worker Part}
    → IsAtWork p l id x old → HasLooked x raised new → IsSameBut old new
    → IsAtWork p l id (looks raised x) new
looked_work {p = p} {l = l} {x = x} work looked same = record {
  log = subst (λ (g : StepLog). IsLogOf p l x.known g) (sym same.log) work.log;
  table = same.table ∙ work.table;
  knows = looked.knows;
}

pub same_room : (n : ℕ) (x : Known) (old new : Worker Part) → IsSameBut old new → HasRoom n x old.log
    → HasRoom n x new.log
same_room n x old new same room = subst (λ (g : StepLog). HasRoom n x g) (sym same.log) room

-- ---- one more step of a thread

-- a thread that was not told makes a step
pub record Behind (p : Program) (l : Layout) (id : TableId) (on : Option Break) (budget made : ℕ)
    (opened : StepLog) (worker : Worker Part) (out : Outcome) : Type 0 where
  pub part : Part
  pub work : IsAtWork p l id part worker
  pub own : worker.log.thread ≡ opened.thread
  pub kept : worker.log.kept ≡ opened.kept
  pub count : length part.known.found ≡ made + 1
  pub before : List Entry
  pub goes : GoesOn on before
  pub last : Entry
  pub out_is : out ≡ last.outcome
  pub steps : steps_known part.known ≡ before ++ last ∷ []
  pub past : List Access
  pub so_far : past ≡ with_looks on before
  pub room : HasRoom (budget - (made + 1)) part.known worker.log
  pub did : part.accesses ≡ (past ++ access.Look false ∷ []) ++ access.Step last ∷ []

pub behind_step : {p : Program} {l : Layout} {id : TableId} {on : Option Break} {budget made : ℕ} {opened : StepLog}
    (x : Part) {raised : Bool} {old new : Worker Part} {out : Outcome}
    → length x.known.found ≡ made → GoesOn on (steps_known x.known)
    → x.accesses ≡ with_looks on (steps_known x.known) → raised ≡ false → made < budget
    → HasRoom (budget - made) x.known old.log → HasStepped p l id (looks raised x) old new out
    → new.log.thread ≡ opened.thread → new.log.kept ≡ opened.kept → Behind p l id on budget made opened new out
behind_step {budget = budget} {made = made} x {raised = raised} {old = old} =
    λ count goes so_far not below room stepped own kept. record {
      part = makes stepped.found (looks raised x);
      work = stepped.work;
      own = own;
      kept = kept;
      count = length-append x.known.found (stepped.found ∷ []) ∙ ap (λ n. n + 1) count;
      before = steps_known x.known;
      goes = goes;
      last = entry_known x.known stepped.found;
      out_is = stepped.came;
      steps = steps_one_more x.known stepped.found;
      past = x.accesses;
      so_far = so_far;
      did =
          ap
          (λ (b : Bool). (x.accesses ++ access.Look b ∷ [])
          ++ access.Step (entry_known x.known stepped.found) ∷ []) not;
      room =
          stepped.room (budget - (made + 1))
          (subst (λ n. HasRoom n x.known old.log) (omega (arith, below)) room);
    }

-- it committed `done`
pub behind_done : {p : Program} {l : Layout} {id : TableId} {on : Option Break} {budget made : ℕ} {opened : StepLog}
    {worker : Worker Part} {out : Outcome}
    → made < budget → ends_at out ≡ true → (b : Behind p l id on budget made opened worker out)
    → HasWorked budget on b.part until.Ended
behind_done {on = on} {made = made} below done b =
    let count : length (steps_known b.part.known) ≡ made + 1 = steps_found b.part.known ∙ b.count in
    record {
      reason = ap is_ended b.steps ∙ ended_by b.before b.last ∙ ap ends_at (sym b.out_is) ∙ done;
      most = omega (arith, count, below);
      went_on = subst (WentOn on) (sym b.steps) (went_more on b.before b.last b.goes);
      stopped = λ is. absurd (grind (arith, is));
      did =
          b.did
          ∙ without_raise on b.before b.last b.past b.so_far
          (done_is_no_stop on b.last.outcome (ap ends_at (sym b.out_is) ∙ done))
          ∙ ap (with_looks on) (sym b.steps)
          ∙ sym (append-nil (with_looks on (steps_known b.part.known)));
    }

pub behind_not_ended : {p : Program} {l : Layout} {id : TableId} {on : Option Break} {budget made : ℕ} {opened : StepLog}
    {worker : Worker Part} {out : Outcome}
    → ends_at out ≡ false → (b : Behind p l id on budget made opened worker out)
    → is_ended (steps_known b.part.known) ≡ false
behind_not_ended not b =
    ap is_ended b.steps ∙ ended_by b.before b.last ∙ ap ends_at (sym b.out_is) ∙ not

pub behind_stops : {p : Program} {l : Layout} {id : TableId} {on : Option Break} {budget made : ℕ} {opened : StepLog}
    {worker : Worker Part} {out : Outcome}
    → stops_at on out ≡ true → (b : Behind p l id on budget made opened worker out)
    → some_stop on (steps_known b.part.known) ≡ true
behind_stops {on = on} stops b =
    ap (some_stop on) b.steps ∙ stops_last on b.before b.last (ap (stops_at on) (sym b.out_is) ∙ stops)

-- it is told so
pub behind_told : {p : Program} {l : Layout} {id : TableId} {on : Option Break} {budget made : ℕ} {opened : StepLog}
    {old new : Worker Part} {out : Outcome}
    → ends_at out ≡ false → stops_at on out ≡ true → (b : Behind p l id on budget made opened old out)
    → new.seat.me ≡ (raises b.part ∷ [], []) → IsSameBut old new
    → IsWorking p l id on budget (made + 1) opened new
behind_told {p = p} {l = l} {on = on} {budget = budget} {made = made} {old = old} {new = new} not stops b knows same = record {
  part = raises b.part;
  work = record {
    log = subst (λ (g : StepLog). IsLogOf p l b.part.known g) (sym same.log) b.work.log;
    table = same.table ∙ b.work.table;
    knows = knows;
  };
  own = ap (λ (g : StepLog). g.thread) same.log ∙ b.own;
  kept = ap (λ (g : StepLog). g.kept) same.log ∙ b.kept;
  count = b.count;
  room = same_room (budget - (made + 1)) b.part.known old new same b.room;
  goes = inr (
    refl,
    behind_not_ended not b,
    subst (WentOn on) (sym b.steps) (went_more on b.before b.last b.goes),
  );
  did =
      ap (λ (ys : List Access). ys ++ access.Raise ∷ []) b.did
      ∙ with_raise on b.before b.last b.past b.so_far (ap (stops_at on) (sym b.out_is) ∙ stops)
      ∙ ap (with_looks on) (sym b.steps);
}

-- or it goes on
pub behind_goes : {p : Program} {l : Layout} {id : TableId} {on : Option Break} {budget made : ℕ} {opened : StepLog}
    {worker : Worker Part} {out : Outcome}
    → ends_at out ≡ false → stops_at on out ≡ false → (b : Behind p l id on budget made opened worker out)
    → IsWorking p l id on budget (made + 1) opened worker
behind_goes {on = on} not no_stop b = record {
  part = b.part;
  work = b.work;
  own = b.own;
  kept = b.kept;
  count = b.count;
  room = b.room;
  goes =
      inl (subst (GoesOn on) (sym b.steps)
      (goes_more on b.before b.last b.goes (ap ends_at (sym b.out_is) ∙ not)
      (ap (stops_at on) (sym b.out_is) ∙ no_stop)));
  did =
      b.did
      ∙ without_raise on b.before b.last b.past b.so_far (ap (stops_at on) (sym b.out_is) ∙ no_stop)
      ∙ ap (with_looks on) (sym b.steps);
}

-- what a worker has before its first step
pub not_begun : (p : Program) (l : Layout) (id : TableId) (on : Option Break) (budget : ℕ)
    (worker : Worker Part) → IsAtWork p l id (first_part p l worker.log.thread) worker
    → HasRoom budget (first_part p l worker.log.thread).known worker.log
    → IsWorking p l id on budget 0 worker.log worker
not_begun p l id on budget worker work room = record {
  part = first_part p l worker.log.thread;
  work = work;
  own = refl;
  kept = refl;
  count = refl;
  room = less_room (budget - 0) budget (first_part p l worker.log.thread).known worker.log (omega arith) room;
  goes = inl tt;
  did = refl;
}

-- a worker that looked, was not told and made a step
pub stepped_on : {p : Program} {l : Layout} {id : TableId} {on : Option Break} {budget made : ℕ} {opened : StepLog}
    {first looked next : Worker Part} {raised : Bool} {out : Outcome}
    (now : IsWorking p l id on budget made opened first) → HasLooked now.part raised looked
    → IsSameBut first looked → raised ≡ false → made < budget
    → ((x : Part) → IsAtWork p l id x looked → HasStepped p l id x looked next out)
    → next.log.thread ≡ looked.log.thread → next.log.kept ≡ looked.log.kept
    → Behind p l id on budget made opened next out
stepped_on {on = on} {budget = budget} {made = made} {first = first} {looked = looked} {raised = raised} =
    λ now has same not below steps own kept.
    behind_step now.part now.count (not_told on now.part raised now.goes has.told not) now.did not below
    (same_room (budget - made) now.part.known first looked same now.room)
    (steps (looks raised now.part) (looked_work now.work has same))
    (own ∙ ap (λ (g : StepLog). g.thread) same.log ∙ now.own)
    (kept ∙ ap (λ (g : StepLog). g.kept) same.log ∙ now.kept)
