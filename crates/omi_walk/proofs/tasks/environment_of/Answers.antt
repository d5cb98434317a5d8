use Rattle.std.proofs.Common.{refl}
use Rattle.std.specs.FinMap.{get}
use Rattle.omi_numbers.specs.declared.variables.TheConstants.{DYN_VAR, RUN_SCHED_VAR, DEFAULT_DEVICE_VAR, FINAL_TASK_VAR}
use Rattle.omi_session.specs.Made.{task_pair}
use Rattle.omi_walk.specs.AskWords.{ask_task_variable, ask_nthreads}
use Rattle.omi_walk.specs.AskTasks.{ask_environment}
use Rattle.omi_walk.proofs.Goes.{Left, left_first, left_on, left_stop, left_end}
use Rattle.omi_walk.proofs.tasks.environment_of.Given.{Over}
use Rattle.omi_walk.proofs.tasks.environment_of.Goals.{In_ok-dyn_var, In_ok-nthreads, In_ok-sched, In_ok-device, In_ok-final_task}
use Rattle.omi_walk.proofs.tasks.environment_of.Goals as goal

-- reads: what is left to ask behind each inquiry
module _ (g : Over) where
  abbrev asked_dyn_var : (c : In_ok-dyn_var g)
      → Left g.C.Callbacks.told g.C.Callbacks.asked c.args.s.now c.task_variable.new.s (ask_environment c.args.s.now.layout (get c.args.s.now.handles.held (task_pair c.args.k)))
  unfolding ask_environment
  asked_dyn_var c =
      left_on (λ w k. ask_task_variable w DYN_VAR k) (task_pair c.args.k) _ (left_first _ _ _ (ask_environment c.args.s.now.layout (get c.args.s.now.handles.held (task_pair c.args.k)))) refl c.task_variable.ensures.leaves c.in_ok-dyn_var.ensures.reads

  abbrev asked_nthreads : (c : In_ok-nthreads g)
      → Left g.C.Callbacks.told g.C.Callbacks.asked c.args.s.now c.nthreads_of.new.s (ask_environment c.args.s.now.layout (get c.args.s.now.handles.held (task_pair c.args.k)))
  unfolding ask_environment
  asked_nthreads c =
      left_on (λ w k. ask_nthreads w k) (task_pair c.args.k) _ (asked_dyn_var (goal.at.In_ok-nthreads g c).In_ok-dyn_var) refl c.nthreads_of.ensures.leaves c.in_ok-nthreads.ensures.reads

  abbrev asked_sched : (c : In_ok-sched g)
      → Left g.C.Callbacks.told g.C.Callbacks.asked c.args.s.now c.task_variable-2.new.s (ask_environment c.args.s.now.layout (get c.args.s.now.handles.held (task_pair c.args.k)))
  unfolding ask_environment
  asked_sched c =
      left_on (λ w k. ask_task_variable w RUN_SCHED_VAR k) (task_pair c.args.k) _ (asked_nthreads (goal.at.In_ok-sched g c).In_ok-nthreads) refl c.task_variable-2.ensures.leaves c.in_ok-sched.ensures.reads

  abbrev asked_device : (c : In_ok-device g)
      → Left g.C.Callbacks.told g.C.Callbacks.asked c.args.s.now c.task_variable-3.new.s (ask_environment c.args.s.now.layout (get c.args.s.now.handles.held (task_pair c.args.k)))
  unfolding ask_environment
  asked_device c =
      left_on (λ w k. ask_task_variable w DEFAULT_DEVICE_VAR k) (task_pair c.args.k) _ (asked_sched (goal.at.In_ok-device g c).In_ok-sched) refl c.task_variable-3.ensures.leaves c.in_ok-device.ensures.reads

  abbrev asked_final_task : (c : In_ok-final_task g)
      → Left g.C.Callbacks.told g.C.Callbacks.asked c.args.s.now c.task_variable-4.new.s (ask_environment c.args.s.now.layout (get c.args.s.now.handles.held (task_pair c.args.k)))
  unfolding ask_environment
  asked_final_task c =
      left_on (λ w k. ask_task_variable w FINAL_TASK_VAR k) (task_pair c.args.k) _ (asked_device (goal.at.In_ok-final_task g c).In_ok-device) refl c.task_variable-4.ensures.leaves c.in_ok-final_task.ensures.reads

pub returns-clause-reads : goal.returns-clause-reads
unfolding ask_environment
returns-clause-reads g c =
    left_end (asked_final_task g (goal.at.returns-clause-reads g c).In_ok-final_task) refl refl

pub returns-in_err-dyn_var-clause-reads : goal.returns-in_err-dyn_var-clause-reads
unfolding ask_environment
returns-in_err-dyn_var-clause-reads g c =
    left_stop (λ w k. ask_task_variable w DYN_VAR k) (task_pair c.args.k) _ (left_first _ _ _ (ask_environment c.args.s.now.layout (get c.args.s.now.handles.held (task_pair c.args.k)))) refl c.in_err-dyn_var.ensures.reads c.from_residual.ensures.1

pub returns-in_err-nthreads-clause-reads : goal.returns-in_err-nthreads-clause-reads
unfolding ask_environment
returns-in_err-nthreads-clause-reads g c =
    left_stop (λ w k. ask_nthreads w k) (task_pair c.args.k) _ (asked_dyn_var g (goal.at.returns-in_err-nthreads-clause-reads g c).In_ok-dyn_var) refl c.in_err-nthreads.ensures.reads c.from_residual-in_err-nthreads.ensures.1

pub returns-in_err-sched-clause-reads : goal.returns-in_err-sched-clause-reads
unfolding ask_environment
returns-in_err-sched-clause-reads g c =
    left_stop (λ w k. ask_task_variable w RUN_SCHED_VAR k) (task_pair c.args.k) _ (asked_nthreads g (goal.at.returns-in_err-sched-clause-reads g c).In_ok-nthreads) refl c.in_err-sched.ensures.reads c.from_residual-in_err-sched.ensures.1

pub returns-in_err-device-clause-reads : goal.returns-in_err-device-clause-reads
unfolding ask_environment
returns-in_err-device-clause-reads g c =
    left_stop (λ w k. ask_task_variable w DEFAULT_DEVICE_VAR k) (task_pair c.args.k) _ (asked_sched g (goal.at.returns-in_err-device-clause-reads g c).In_ok-sched) refl c.in_err-device.ensures.reads c.from_residual-in_err-device.ensures.1

pub returns-in_err-final_task-clause-reads : goal.returns-in_err-final_task-clause-reads
unfolding ask_environment
returns-in_err-final_task-clause-reads g c =
    left_stop (λ w k. ask_task_variable w FINAL_TASK_VAR k) (task_pair c.args.k) _ (asked_device g (goal.at.returns-in_err-final_task-clause-reads g c).In_ok-device) refl c.in_err-final_task.ensures.reads c.from_residual-in_err-final_task.ensures.1
