-- The tasks of a thread are asked about one after the other, each by the link of the one before.
use Rattle.std.proofs.Common.{append_assoc, append-nil, ◌≡◌, ◌∷◌, ◌++◌, List, [], ℕ, ◌-◌, ◌+◌, suc, refl, sym, ap, ◌∙◌, arith, Bool, Option, Some, ◌≤◌, length}
use Rattle.std.proofs.lemmas.List.{length-append, length_push}
use Rattle.std.proofs.lemmas.List.Elements.{All-nil, All-push}
use Rattle.std.specs.Ordering.{nat_cmp}
use Rattle.std.specs.BTreeSet.{contains}
use Rattle.std.proofs.lemmas.Result.{err_from_is_err_and}
use Rattle.omi_layout.specs.Field.{tasks}
use Rattle.omi_layout.specs.Table.{records}
use Rattle.omi_walk.proofs.Steps.{leaves_same, leaves_then}
use Rattle.std.specs.Prelude.{Ok, Err}
use Rattle.omi_calls.specs.Asked.{Asked}
use Rattle.omi_calls.specs.Told.{Told}
use Rattle.omi_session.specs.Opened.{Opened}
use Rattle.omi_walk.specs.declared.met.Met.{Met}
use Rattle.omi_walk.specs.declared.tasks.Link.{Link}
use Rattle.omi_walk.specs.declared.fault.WalkFault.{WalkFault}
use Rattle.omi_walk.specs.declared.fault.WalkFault.TheVariants.{OutOfMemory}
use Rattle.omi_model.specs.declared.view.TaskRow.{TaskRow}
use Rattle.omi_walk.specs.Asking.{Asks, also}
use Rattle.omi_walk.specs.Kept.{IsLive}
use Rattle.omi_walk.specs.Leaves.{Leaves}
use Rattle.omi_walk.proofs.LiveTasks.{rows_after, rows_added}
use Rattle.omi_walk.specs.Walks.{Walks}
use Rattle.omi_walk.specs.AskTasks.{ask_task, ask_chained}
use Rattle.omi_walk.proofs.ChainAsked.{all_asked, ChainGoes, also_met, chain_begin, chain_at, chain_next, chain_stop, chain_none, chain_cycle}
use Rattle.omi_walk.proofs.Goes.{goes_unsaid, walks_ok, walks_err}
use Rattle.omi_walk.proofs.scheduling.task_chain.Goals as goal

-- a task was asked about
walked_chained : {C F : Type 0} (told : C → Told) (asked : C → Asked) (s t : Opened C F) (known : ℕ → Bool)
    (i : ℕ) (k : Met) (link : Link)
    → Walks told asked s t (Ok link) (ask_task s.layout known i k)
    → Walks told asked s t (Ok (link.row, link.next)) (ask_chained s.layout i known k)
unfolding ask_chained
walked_chained told asked s t known i k link walks =
    walks_ok told asked s t (λ (link : Link). (link.row, link.next)) link (link.row, link.next)
    (ask_task s.layout known i k) refl walks

-- the chain of a thread from its first task on, in the session where it began
module _ {C F : Type 0} (told : C → Told) (asked : C → Asked) (s : Opened C F) (thread : ℕ)
    (first : Option Met) where
  abbrev ask_row : List ℕ → (ℕ → Bool) → Met → Asks (TaskRow × Option Met)
  ask_row w = ask_chained w thread

  abbrev count : ℕ
  count = records s.layout tasks

  abbrev TasksGo : Opened C F → List TaskRow → ℕ → (ℕ → Bool) → Option Met → Type 0
  TasksGo t rows left known current =
      ChainGoes told asked s ask_row count first t rows left known current

  module _ (t u : Opened C F) (rows : List TaskRow) (known now : ℕ → Bool) (left next : ℕ)
      (current : Option Met) (k : Met) (is : current ≡ Some k) (one : left ≡ suc next)
      (met : (address : ℕ) → now address ≡ also k.held.addr known address)
      (so : TasksGo t rows left known current) where
    -- the task is the next
    at_task : TasksGo t rows (suc next) known (Some k)
    at_task = chain_at told asked s ask_row count first t rows known left (suc next) current k is one so

    -- its row is added
    row_added : (n : ℕ) (link : Link) → Leaves told n t u
        → Walks told asked t u (Ok link) (ask_task t.layout now thread k)
        → TasksGo u (rows ++ link.row ∷ []) next now link.next
    row_added n link leaves walks =
        chain_next told asked s ask_row count first t u rows known now next k met at_task n
        link.row link.next leaves (walked_chained told asked t u now thread k link walks)

    -- or it is refused
    row_refused : (fault : WalkFault)
        → Walks {A = Link} told asked t u (Err fault) (ask_task t.layout now thread k)
        → Walks {A = List TaskRow} told asked s u (Err fault)
        (all_asked told asked s ask_row count first)
    unfolding ask_chained
    row_refused fault walks =
        chain_stop told asked s ask_row count first t u rows known now next k met at_task fault
        (Err fault)
        (walks_err told asked t u (λ (link : Link). (link.row, link.next)) fault
        (ask_task t.layout now thread k) walks) refl

pub loop-init : goal.loop-init
loop-init g c =
    let s = c.args.s.now in
    let count = c.task_count-end.ensures.value ∙ ap (λ w. records w tasks) (c.layout.ensures) in
    record {
      leaves = leaves_same g.C.Callbacks.told _ c.args.s.now;
      later = omega arith;
      bound = count;
      few = c.task_count-end.ensures.few;
      met = c.requires.met;
      added = [];
      is = sym (append-nil c.args.rows.now);
      live = All-nil _;
      count = omega arith;
      goes =
          chain_begin g.C.Callbacks.told g.C.Callbacks.asked s (λ w. ask_chained w c.args.thread)
          (records s.layout tasks) c.args.first [] (contains nat_cmp c.new-met.result)
          (c.task_count-end.result - 0) refl
          (λ address. rw c.new-met.ensures.empty refl) (omega (arith, count));
    }

pub loop-preserved : goal.loop-preserved
loop-preserved g c =
    let now = c.loop.invariant in
    let row : TaskRow = c.in_ok-link.link.row in
    record {
      leaves =
          leaves_then g.C.Callbacks.told _ _ _ _ _ _ (omega arith) now.leaves
          c.task_row.ensures.leaves;
      later = omega (arith, now.later, c.task_row.ensures.cause.later);
      bound = now.bound;
      few = now.few;
      met = c.in_ok-link.ensures.met;
      added = now.added ++ row ∷ [];
      is =
          c.in_ok-push.ensures.added ∙ ap (λ rows. rows ++ row ∷ []) now.is
          ∙ append_assoc c.args.rows.now now.added (row ∷ []);
      live =
          All-push (λ (row : TaskRow). IsLive g.C.Callbacks.told c.task_row.new.s row.task) now.added row
          (rows_after g.C.Callbacks.told c.loop.s c.task_row.new.s c.task_row.ensures.leaves.stays now.added now.live)
          c.in_ok-link.ensures.live;
      count = let one = length_push now.added row in omega (arith, one, now.count);
      goes =
          row_added g.C.Callbacks.told g.C.Callbacks.asked c.args.s.now c.args.thread c.args.first
          c.loop.s c.task_row.new.s now.added (contains nat_cmp c.loop.met)
          (contains nat_cmp c.insert.new.self) (c.task_count-end.result - c.loop.counter)
          (c.task_count-end.result - (c.loop.counter + 1)) _ c.in-Some.task c.in-Some.is
          (omega (arith, c.loop-test.true))
          (also_met c.loop.met c.insert.new.self c.in-Some.task.held.addr c.in_ok-insert.ensures.updates)
          now.goes _ c.in_ok-link.link c.task_row.ensures.leaves c.in_ok-link.ensures.reads;
    }

-- the rows that were added are those of tasks that live, and few

rows_few : (old added new : List TaskRow) (most : ℕ) → new ≡ old ++ added → length added ≤ most → length new ≤ length old + most
rows_few old added new most is few =
    let both = ap length is ∙ length-append old added in omega (arith, both, few)

pub returns-in_default-clause-live : goal.returns-in_default-clause-live
returns-in_default-clause-live g c before =
    let now = c.loop.invariant in
    rows_added g.C.Callbacks.told c.args.s.now c.loop.s now.leaves.stays c.args.rows.now now.added _ now.is before now.live

pub returns-in_default-clause-few : goal.returns-in_default-clause-few
returns-in_default-clause-few g c =
    let now = c.loop.invariant in
    rows_few c.args.rows.now now.added _ 262144 now.is (omega (arith, now.count, now.few, c.loop-test.true))

pub returns-in-None-clause-live : goal.returns-in-None-clause-live
returns-in-None-clause-live g c before =
    let now = c.loop.invariant in
    rows_added g.C.Callbacks.told c.args.s.now c.loop.s now.leaves.stays c.args.rows.now now.added _ now.is before now.live

pub returns-in-None-clause-few : goal.returns-in-None-clause-few
returns-in-None-clause-few g c =
    let now = c.loop.invariant in
    rows_few c.args.rows.now now.added _ 262144 now.is (omega (arith, now.count, now.few))

-- reads: what was asked

pub returns-in_default-clause-reads : goal.returns-in_default-clause-reads
returns-in_default-clause-reads g c =
    let s = c.args.s.now in
    let now = c.loop.invariant in
    record {
      rows = now.added;
      is = now.is;
      walks =
          chain_none g.C.Callbacks.told g.C.Callbacks.asked s (λ w. ask_chained w c.args.thread)
          (records s.layout tasks) c.args.first c.loop.s now.added (contains nat_cmp c.loop.met)
          (c.task_count-end.result - c.loop.counter) _ c.in_default.is now.goes;
    }

pub returns-in_err-insert-clause-reads : goal.returns-in_err-insert-clause-reads
returns-in_err-insert-clause-reads g c =
    let told = g.C.Callbacks.told in
    let asked = g.C.Callbacks.asked in
    let p = err_from_is_err_and c.from_residual.result c.from_residual.ensures.1 in
    rw (p.1, p.2)
    (goes_unsaid told asked c.args.s.now c.loop.s _ _ (Err OutOfMemory) c.loop.invariant.goes refl)

pub returns-in_err-link-clause-reads : goal.returns-in_err-link-clause-reads
returns-in_err-link-clause-reads g c =
    let residual = c.from_residual-in_err-link in
    let p = err_from_is_err_and residual.result residual.ensures.1 in
    let now = c.loop.invariant in
    rw (p.1, p.2) (row_refused g.C.Callbacks.told g.C.Callbacks.asked c.args.s.now c.args.thread
    c.args.first c.loop.s c.task_row.new.s now.added (contains nat_cmp c.loop.met)
    (contains nat_cmp c.insert.new.self) (c.task_count-end.result - c.loop.counter)
    (c.task_count-end.result - (c.loop.counter + 1)) _ c.in-Some.task c.in-Some.is
    (omega (arith, c.loop-test.true))
    (also_met c.loop.met c.insert.new.self c.in-Some.task.held.addr c.in_ok-insert.ensures.updates)
    now.goes c.in_err-link.field-0.0 c.in_err-link.ensures.reads)

pub returns-in_err-push-clause-reads : goal.returns-in_err-push-clause-reads
returns-in_err-push-clause-reads g c =
    let told = g.C.Callbacks.told in
    let asked = g.C.Callbacks.asked in
    let s = c.args.s.now in
    let residual = c.from_residual-in_err-push in
    let p = err_from_is_err_and residual.result residual.ensures.1 in
    let now = c.loop.invariant in
    rw (p.1, p.2) (goes_unsaid told asked s c.task_row.new.s _ _ (Err OutOfMemory)
    (row_added told asked s c.args.thread c.args.first c.loop.s c.task_row.new.s now.added
    (contains nat_cmp c.loop.met) (contains nat_cmp c.insert.new.self)
    (c.task_count-end.result - c.loop.counter) (c.task_count-end.result - (c.loop.counter + 1)) _
    c.in-Some.task c.in-Some.is (omega (arith, c.loop-test.true))
    (also_met c.loop.met c.insert.new.self c.in-Some.task.held.addr c.in_ok-insert.ensures.updates)
    now.goes _ c.in_ok-link.link c.task_row.ensures.leaves c.in_ok-link.ensures.reads) refl)

pub returns-in-None-clause-reads : goal.returns-in-None-clause-reads
returns-in-None-clause-reads g c =
    let s = c.args.s.now in
    let now = c.loop.invariant in
    record {
      rows = now.added;
      is = now.is;
      walks =
          chain_none g.C.Callbacks.told g.C.Callbacks.asked s (λ w. ask_chained w c.args.thread)
          (records s.layout tasks) c.args.first c.loop.s now.added (contains nat_cmp c.loop.met)
          (c.task_count-end.result - c.loop.counter) _ c.in-None.is now.goes;
    }

pub returns-clause-reads : goal.returns-clause-reads
returns-clause-reads g c =
    let told = g.C.Callbacks.told in
    let asked = g.C.Callbacks.asked in
    let s = c.args.s.now in
    let now = c.loop.invariant in
    let task = c.in-Some-current.task in
    chain_cycle told asked s (λ w. ask_chained w c.args.thread) (records s.layout tasks) c.args.first
    c.loop.s now.added (contains nat_cmp c.loop.met) task
    (chain_at told asked s (λ w. ask_chained w c.args.thread) (records s.layout tasks) c.args.first
    c.loop.s now.added (contains nat_cmp c.loop.met) (c.task_count-end.result - c.loop.counter) 0 _
    task c.in-Some-current.is (omega (arith, c.loop-test.false)) now.goes)
