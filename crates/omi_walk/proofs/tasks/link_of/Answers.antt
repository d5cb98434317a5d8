use Rattle.std.proofs.Common.{refl}
use Rattle.std.specs.BTreeSet.{contains}
use Rattle.std.specs.FinMap.{get}
use Rattle.std.specs.Ordering.{nat_cmp}
use Rattle.omi_session.specs.Made.{task_pair}
use Rattle.omi_walk.specs.AskWords.{ask_frames, ask_tool}
use Rattle.omi_walk.specs.AskTasks.{ask_relations, ask_environment, ask_link}
use Rattle.omi_walk.proofs.Goes.{Left, left_first, left_on, left_stop, left_end}
use Rattle.omi_walk.proofs.tasks.link_of.Given.{Over}
use Rattle.omi_walk.proofs.tasks.link_of.Goals.{In_ok-seen, In_ok-exit, In_ok-tool, In_ok-environment}
use Rattle.omi_walk.proofs.tasks.link_of.Goals as goal

-- reads: what is left to ask behind each inquiry
module _ (g : Over) where
  abbrev asked_seen : (c : In_ok-seen g)
      → Left g.C.Callbacks.told g.C.Callbacks.asked c.args.s.now c.relations_of.new.s (ask_link c.args.s.now.layout (contains nat_cmp c.args.met.now) c.args.thread c.args.task (get c.args.s.now.handles.held (task_pair c.args.k)))
  unfolding ask_link
  asked_seen c =
      left_on (λ w k. ask_relations w (contains nat_cmp c.args.met.now) k) (task_pair c.args.k) _ (left_first _ _ _ (ask_link c.args.s.now.layout (contains nat_cmp c.args.met.now) c.args.thread c.args.task (get c.args.s.now.handles.held (task_pair c.args.k)))) refl c.relations_of.ensures.leaves c.in_ok-seen.ensures.reads

  abbrev asked_exit : (c : In_ok-exit g)
      → Left g.C.Callbacks.told g.C.Callbacks.asked c.args.s.now c.frames_of.new.s (ask_link c.args.s.now.layout (contains nat_cmp c.args.met.now) c.args.thread c.args.task (get c.args.s.now.handles.held (task_pair c.args.k)))
  unfolding ask_link
  asked_exit c =
      left_on (λ w k. ask_frames w k) (task_pair c.args.k) _ (asked_seen (goal.at.In_ok-exit g c).In_ok-seen) refl c.frames_of.ensures.leaves c.in_ok-exit.ensures.reads

  abbrev asked_tool : (c : In_ok-tool g)
      → Left g.C.Callbacks.told g.C.Callbacks.asked c.args.s.now c.tool_of.new.s (ask_link c.args.s.now.layout (contains nat_cmp c.args.met.now) c.args.thread c.args.task (get c.args.s.now.handles.held (task_pair c.args.k)))
  unfolding ask_link
  asked_tool c =
      left_on (λ w k. ask_tool w k) (task_pair c.args.k) _ (asked_exit (goal.at.In_ok-tool g c).In_ok-exit) refl c.tool_of.ensures.leaves c.in_ok-tool.ensures.reads

  abbrev asked_environment : (c : In_ok-environment g)
      → Left g.C.Callbacks.told g.C.Callbacks.asked c.args.s.now c.environment_of.new.s (ask_link c.args.s.now.layout (contains nat_cmp c.args.met.now) c.args.thread c.args.task (get c.args.s.now.handles.held (task_pair c.args.k)))
  unfolding ask_link
  asked_environment c =
      left_on (λ w k. ask_environment w k) (task_pair c.args.k) _ (asked_tool (goal.at.In_ok-environment g c).In_ok-tool) refl c.environment_of.ensures.leaves c.in_ok-environment.ensures.reads

pub returns-clause-reads : goal.returns-clause-reads
unfolding ask_link
returns-clause-reads g c =
    left_end (asked_environment g (goal.at.returns-clause-reads g c).In_ok-environment) refl refl

pub returns-in_err-seen-clause-reads : goal.returns-in_err-seen-clause-reads
unfolding ask_link
returns-in_err-seen-clause-reads g c =
    left_stop (λ w k. ask_relations w (contains nat_cmp c.args.met.now) k) (task_pair c.args.k) _ (left_first _ _ _ (ask_link c.args.s.now.layout (contains nat_cmp c.args.met.now) c.args.thread c.args.task (get c.args.s.now.handles.held (task_pair c.args.k)))) refl c.in_err-seen.ensures.reads c.from_residual.ensures.1

pub returns-in_err-exit-clause-reads : goal.returns-in_err-exit-clause-reads
unfolding ask_link
returns-in_err-exit-clause-reads g c =
    left_stop (λ w k. ask_frames w k) (task_pair c.args.k) _ (asked_seen g (goal.at.returns-in_err-exit-clause-reads g c).In_ok-seen) refl c.in_err-exit.ensures.reads c.from_residual-in_err-exit.ensures.1

pub returns-in_err-tool-clause-reads : goal.returns-in_err-tool-clause-reads
unfolding ask_link
returns-in_err-tool-clause-reads g c =
    left_stop (λ w k. ask_tool w k) (task_pair c.args.k) _ (asked_exit g (goal.at.returns-in_err-tool-clause-reads g c).In_ok-exit) refl c.in_err-tool.ensures.reads c.from_residual-in_err-tool.ensures.1

pub returns-in_err-environment-clause-reads : goal.returns-in_err-environment-clause-reads
unfolding ask_link
returns-in_err-environment-clause-reads g c =
    left_stop (λ w k. ask_environment w k) (task_pair c.args.k) _ (asked_tool g (goal.at.returns-in_err-environment-clause-reads g c).In_ok-tool) refl c.in_err-environment.ensures.reads c.from_residual-in_err-environment.ensures.1
