use Rattle.std.proofs.Common.{refl}
use Rattle.std.specs.BTreeSet.{contains}
use Rattle.std.specs.FinMap.{get}
use Rattle.std.specs.Ordering.{nat_cmp}
use Rattle.omi_numbers.specs.declared.variables.TheConstants.{IMPLICIT_TASK_VAR}
use Rattle.omi_session.specs.Made.{task_pair}
use Rattle.omi_walk.specs.AskWords.{ask_task_variable, ask_function}
use Rattle.omi_walk.specs.AskRegions.{ask_region_of}
use Rattle.omi_walk.specs.AskTasks.{ask_generating, ask_next, ask_relations}
use Rattle.omi_walk.proofs.Goes.{Left, left_first, left_on, left_stop, left_end}
use Rattle.omi_walk.proofs.tasks.relations_of.Given.{Over}
use Rattle.omi_walk.proofs.tasks.relations_of.Goals.{In_ok-implicit, In_ok-region, In_ok-func, In_ok-generating, In_ok-next}
use Rattle.omi_walk.proofs.tasks.relations_of.Goals as goal

-- reads: what is left to ask behind each inquiry
module _ (g : Over) where
  abbrev asked_implicit : (c : In_ok-implicit g)
      → Left g.C.Callbacks.told g.C.Callbacks.asked c.args.s.now c.task_variable.new.s (ask_relations c.args.s.now.layout (contains nat_cmp c.args.met.now) (get c.args.s.now.handles.held (task_pair c.args.k)))
  unfolding ask_relations
  asked_implicit c =
      left_on (λ w k. ask_task_variable w IMPLICIT_TASK_VAR k) (task_pair c.args.k) _ (left_first _ _ _ (ask_relations c.args.s.now.layout (contains nat_cmp c.args.met.now) (get c.args.s.now.handles.held (task_pair c.args.k)))) refl c.task_variable.ensures.leaves c.in_ok-implicit.ensures.reads

  abbrev asked_region : (c : In_ok-region g)
      → Left g.C.Callbacks.told g.C.Callbacks.asked c.args.s.now c.region_of.new.s (ask_relations c.args.s.now.layout (contains nat_cmp c.args.met.now) (get c.args.s.now.handles.held (task_pair c.args.k)))
  unfolding ask_relations
  asked_region c =
      left_on (λ w k. ask_region_of w k) (task_pair c.args.k) _ (asked_implicit (goal.at.In_ok-region g c).In_ok-implicit) refl c.region_of.ensures.leaves c.in_ok-region.ensures.reads

  abbrev asked_func : (c : In_ok-func g)
      → Left g.C.Callbacks.told g.C.Callbacks.asked c.args.s.now c.function_of.new.s (ask_relations c.args.s.now.layout (contains nat_cmp c.args.met.now) (get c.args.s.now.handles.held (task_pair c.args.k)))
  unfolding ask_relations
  asked_func c =
      left_on (λ w k. ask_function w k) (task_pair c.args.k) _ (asked_region (goal.at.In_ok-func g c).In_ok-region) refl c.function_of.ensures.leaves c.in_ok-func.ensures.reads

  abbrev asked_generating : (c : In_ok-generating g)
      → Left g.C.Callbacks.told g.C.Callbacks.asked c.args.s.now c.related_of.new.s (ask_relations c.args.s.now.layout (contains nat_cmp c.args.met.now) (get c.args.s.now.handles.held (task_pair c.args.k)))
  unfolding ask_relations
  asked_generating c =
      left_on (λ w k. ask_generating w k) (task_pair c.args.k) _ (asked_func (goal.at.In_ok-generating g c).In_ok-func) refl c.related_of.ensures.leaves c.in_ok-generating.ensures.reads

  abbrev asked_next : (c : In_ok-next g)
      → Left g.C.Callbacks.told g.C.Callbacks.asked c.args.s.now c.next_of.new.s (ask_relations c.args.s.now.layout (contains nat_cmp c.args.met.now) (get c.args.s.now.handles.held (task_pair c.args.k)))
  unfolding ask_relations
  asked_next c =
      left_on (λ w k. ask_next w (contains nat_cmp c.args.met.now) k) (task_pair c.args.k) _ (asked_generating (goal.at.In_ok-next g c).In_ok-generating) refl c.next_of.ensures.leaves c.in_ok-next.ensures.reads

pub returns-clause-reads : goal.returns-clause-reads
unfolding ask_relations
returns-clause-reads g c =
    left_end (asked_next g (goal.at.returns-clause-reads g c).In_ok-next) refl (rw (c.task_name.ensures, c.task_name-2.ensures) refl)

pub returns-in_err-implicit-clause-reads : goal.returns-in_err-implicit-clause-reads
unfolding ask_relations
returns-in_err-implicit-clause-reads g c =
    left_stop (λ w k. ask_task_variable w IMPLICIT_TASK_VAR k) (task_pair c.args.k) _ (left_first _ _ _ (ask_relations c.args.s.now.layout (contains nat_cmp c.args.met.now) (get c.args.s.now.handles.held (task_pair c.args.k)))) refl c.in_err-implicit.ensures.reads c.from_residual.ensures.1

pub returns-in_err-region-clause-reads : goal.returns-in_err-region-clause-reads
unfolding ask_relations
returns-in_err-region-clause-reads g c =
    left_stop (λ w k. ask_region_of w k) (task_pair c.args.k) _ (asked_implicit g (goal.at.returns-in_err-region-clause-reads g c).In_ok-implicit) refl c.in_err-region.ensures.reads c.from_residual-in_err-region.ensures.1

pub returns-in_err-func-clause-reads : goal.returns-in_err-func-clause-reads
unfolding ask_relations
returns-in_err-func-clause-reads g c =
    left_stop (λ w k. ask_function w k) (task_pair c.args.k) _ (asked_region g (goal.at.returns-in_err-func-clause-reads g c).In_ok-region) refl c.in_err-func.ensures.reads c.from_residual-in_err-func.ensures.1

pub returns-in_err-generating-clause-reads : goal.returns-in_err-generating-clause-reads
unfolding ask_relations
returns-in_err-generating-clause-reads g c =
    left_stop (λ w k. ask_generating w k) (task_pair c.args.k) _ (asked_func g (goal.at.returns-in_err-generating-clause-reads g c).In_ok-func) refl c.in_err-generating.ensures.reads c.from_residual-in_err-generating.ensures.1

pub returns-in_err-next-clause-reads : goal.returns-in_err-next-clause-reads
unfolding ask_relations
returns-in_err-next-clause-reads g c =
    left_stop (λ w k. ask_next w (contains nat_cmp c.args.met.now) k) (task_pair c.args.k) _ (asked_generating g (goal.at.returns-in_err-next-clause-reads g c).In_ok-generating) refl c.in_err-next.ensures.reads c.from_residual-in_err-next.ensures.1
