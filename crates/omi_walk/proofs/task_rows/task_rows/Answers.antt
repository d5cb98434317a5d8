use Rattle.std.proofs.Common.{◌++◌, ◌∷◌, [], List, length, Err, refl, subst, sym, ap, ◌∙◌, arith}
use Rattle.std.proofs.lemmas.List.{flat_map_more, drop_all}
use Rattle.std.proofs.lemmas.List.Elements.{All-nil}
use Rattle.omi_model.specs.declared.view.TaskRow.{TaskRow}
use Rattle.omi_walk.proofs.FoundTasks.{found_at, current_after}
use Rattle.omi_walk.proofs.Steps.{leaves_same, leaves_then}
use Rattle.std.specs.Prelude.{All}
use Rattle.std.specs.List.{flat_map}
use Rattle.omi_walk.specs.declared.found.Found.{Found}
use Rattle.omi_walk.specs.Kept.{IsLive}
use Rattle.omi_walk.specs.AskTasks.{ask_tasks, ask_all_tasks}
use Rattle.omi_walk.proofs.SlotsAsked.{next_found}
use Rattle.omi_walk.proofs.EachAsked.{EachGoes, asks_begin, asks_next, asks_stop, asks_end}
use Rattle.omi_walk.proofs.Goes.{walks_ok, walks_err, walks_as}
use Rattle.omi_walk.proofs.task_rows.task_rows.Goals as goal

pub loop-at-init : goal.loop-at-init
loop-at-init g c = record {
  leaves = leaves_same g.C.Callbacks.told _ c.args.s.now;
  later = omega arith;
  bound = c.len-at-end.ensures;
  live =
      subst (All (λ (row : TaskRow). IsLive g.C.Callbacks.told c.args.s.now row.task)) (sym c.new-rows.ensures)
      (All-nil (λ (row : TaskRow). IsLive g.C.Callbacks.told c.args.s.now row.task));
  few = let none = ap length c.new-rows.ensures in omega (arith, none);
  walked = [];
  walked_is = c.new-rows.ensures;
  goes = asks_begin g.C.Callbacks.told g.C.Callbacks.asked c.args.s.now (0, 0) (λ w k f. ask_tasks w f) c.args.found.now;
}

pub task_chain-requires-clause-met : goal.task_chain-requires-clause-met
task_chain-requires-clause-met g c =
    let told = g.C.Callbacks.told in
    let f = c.get-f.result.now in
    current_after told c.args.s.now c.loop-at.s f.current c.loop-at.invariant.leaves.stays
    (found_at told c.args.s.now c.args.found.now c.loop-at.at f c.get-f.ensures c.requires.found).met

pub loop-at-preserved : goal.loop-at-preserved
loop-at-preserved g c = record {
  leaves = leaves_then g.C.Callbacks.told _ _ _ _ _ _ (omega arith) c.loop-at.invariant.leaves c.task_chain.ensures.leaves;
  later = omega (arith, c.loop-at.invariant.later, c.task_chain.ensures.cause.later);
  bound = c.loop-at.invariant.bound;
  live = c.in_ok-task_chain.ensures.live c.loop-at.invariant.live;
  few = omega (arith, c.loop-at.invariant.few, c.in_ok-task_chain.ensures.few);
  walked = c.loop-at.invariant.walked ++ c.in_ok-task_chain.ensures.reads.rows ∷ [];
  walked_is =
      let rows = c.in_ok-task_chain.ensures.reads.rows in
      c.in_ok-task_chain.ensures.reads.is ∙ ap (λ old. old ++ rows) c.loop-at.invariant.walked_is
      ∙ flat_map_more (λ (r : List TaskRow). r) [] c.loop-at.invariant.walked rows;
  goes =
      asks_next g.C.Callbacks.told g.C.Callbacks.asked c.args.s.now (0, 0)
      (λ w k f. ask_tasks w f) c.args.found.now c.loop-at.s c.task_chain.new.s c.loop-at.invariant.walked _ c.get-f.result.now _ c.in_ok-task_chain.ensures.reads.rows
      (subst (λ left. EachGoes g.C.Callbacks.told g.C.Callbacks.asked c.args.s.now (0, 0) (λ w k f. ask_tasks w f) c.args.found.now c.loop-at.s c.loop-at.invariant.walked left)
      (next_found c.args.found.now c.loop-at.at c.get-f.result.now c.get-f.ensures) c.loop-at.invariant.goes) c.task_chain.ensures.leaves c.in_ok-task_chain.ensures.reads.walks;
}

-- reads: what was asked

pub returns-in_err-task_chain-clause-reads : goal.returns-in_err-task_chain-clause-reads
unfolding ask_all_tasks
returns-in_err-task_chain-clause-reads g c =
    let told = g.C.Callbacks.told in
    let asked = g.C.Callbacks.asked in
    let s = c.args.s.now in
    let f = c.get-f.result.now in
    let so = subst (λ left. EachGoes g.C.Callbacks.told g.C.Callbacks.asked s (0, 0) (λ w k f. ask_tasks w f) c.args.found.now c.loop-at.s c.loop-at.invariant.walked left)
    (next_found c.args.found.now c.loop-at.at f c.get-f.ensures) c.loop-at.invariant.goes in
    walks_as told asked s c.task_chain.new.s c.in_err-task_chain.field-0.0 _ _ c.from_residual.ensures.1
    (walks_err told asked s c.task_chain.new.s (flat_map (λ (rows : List TaskRow). rows)) c.in_err-task_chain.field-0.0 _
    (asks_stop told asked s (0, 0) (λ w k f. ask_tasks w f) c.args.found.now c.loop-at.s c.task_chain.new.s c.loop-at.invariant.walked f _ c.in_err-task_chain.field-0.0 (Err c.in_err-task_chain.field-0.0) so c.in_err-task_chain.ensures.reads refl))

pub returns-clause-reads : goal.returns-clause-reads
unfolding ask_all_tasks
returns-clause-reads g c =
    let told = g.C.Callbacks.told in
    let asked = g.C.Callbacks.asked in
    let s = c.args.s.now in
    walks_ok told asked s c.loop-at.s
    (flat_map (λ (rows : List TaskRow). rows)) c.loop-at.invariant.walked c.loop-at.rows _ c.loop-at.invariant.walked_is
    (asks_end told asked s (0, 0) (λ w k f. ask_tasks w f) c.args.found.now c.loop-at.s c.loop-at.invariant.walked
    (subst (λ (left : List Found). EachGoes g.C.Callbacks.told g.C.Callbacks.asked s (0, 0) (λ w k f. ask_tasks w f) c.args.found.now c.loop-at.s c.loop-at.invariant.walked left)
    (drop_all c.loop-at.at c.args.found.now (omega (arith, c.loop-at.invariant.bound, c.loop-at-test.false))) c.loop-at.invariant.goes))
