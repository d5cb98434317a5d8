use Rattle.std.proofs.Common.{refl}
use Rattle.std.specs.FinMap.{get}
use Rattle.omi_session.specs.Made.{thread_pair}
use Rattle.omi_walk.specs.AskThreads.{ask_state, ask_current, ask_number, ask_part}
use Rattle.omi_walk.proofs.Goes.{Left, left_first, left_on, left_stop, left_end}
use Rattle.omi_walk.proofs.threads.part_of.Given.{Over}
use Rattle.omi_walk.proofs.threads.part_of.Goals.{In_ok-state, In_ok-current, In_ok-number}
use Rattle.omi_walk.proofs.threads.part_of.Goals as goal

-- reads: what is left to ask behind each inquiry
module _ (g : Over) where
  abbrev asked_state : (c : In_ok-state g)
      → Left g.C.Callbacks.told g.C.Callbacks.asked c.args.s.now c.state_of.new.s (ask_part c.args.s.now.layout c.args.thread (get c.args.s.now.handles.held (thread_pair c.args.t)))
  unfolding ask_part
  asked_state c =
      left_on (λ w k. ask_state w k) (thread_pair c.args.t) _ (left_first _ _ _ (ask_part c.args.s.now.layout c.args.thread (get c.args.s.now.handles.held (thread_pair c.args.t)))) refl c.state_of.ensures.leaves c.in_ok-state.ensures.reads

  abbrev asked_current : (c : In_ok-current g)
      → Left g.C.Callbacks.told g.C.Callbacks.asked c.args.s.now c.related_of.new.s (ask_part c.args.s.now.layout c.args.thread (get c.args.s.now.handles.held (thread_pair c.args.t)))
  unfolding ask_part
  asked_current c =
      left_on (λ w k. ask_current w k) (thread_pair c.args.t) _ (asked_state (goal.at.In_ok-current g c).In_ok-state) refl c.related_of.ensures.leaves c.in_ok-current.ensures.reads

  abbrev asked_number : (c : In_ok-number g)
      → Left g.C.Callbacks.told g.C.Callbacks.asked c.args.s.now c.number_of.new.s (ask_part c.args.s.now.layout c.args.thread (get c.args.s.now.handles.held (thread_pair c.args.t)))
  unfolding ask_part
  asked_number c =
      left_on (λ w k. ask_number w k) (thread_pair c.args.t) _ (asked_current (goal.at.In_ok-number g c).In_ok-current) refl c.number_of.ensures.leaves c.in_ok-number.ensures.reads

pub returns-clause-reads : goal.returns-clause-reads
unfolding ask_part
returns-clause-reads g c =
    left_end (asked_number g (goal.at.returns-clause-reads g c).In_ok-number) refl (rw c.task_name.ensures refl)

pub returns-in_err-state-clause-reads : goal.returns-in_err-state-clause-reads
unfolding ask_part
returns-in_err-state-clause-reads g c =
    left_stop (λ w k. ask_state w k) (thread_pair c.args.t) _ (left_first _ _ _ (ask_part c.args.s.now.layout c.args.thread (get c.args.s.now.handles.held (thread_pair c.args.t)))) refl c.in_err-state.ensures.reads c.from_residual.ensures.1

pub returns-in_err-current-clause-reads : goal.returns-in_err-current-clause-reads
unfolding ask_part
returns-in_err-current-clause-reads g c =
    left_stop (λ w k. ask_current w k) (thread_pair c.args.t) _ (asked_state g (goal.at.returns-in_err-current-clause-reads g c).In_ok-state) refl c.in_err-current.ensures.reads c.from_residual-in_err-current.ensures.1

pub returns-in_err-number-clause-reads : goal.returns-in_err-number-clause-reads
unfolding ask_part
returns-in_err-number-clause-reads g c =
    left_stop (λ w k. ask_number w k) (thread_pair c.args.t) _ (asked_current g (goal.at.returns-in_err-number-clause-reads g c).In_ok-current) refl c.in_err-number.ensures.reads c.from_residual-in_err-number.ensures.1
