use Rattle.std.proofs.Common.{refl, ap, ◌∙◌}
use Rattle.std.specs.Prelude.{Ok}
use Rattle.omi_layout.specs.Table.{thread_count}
use Rattle.omi_numbers.specs.declared.variables.TheConstants.{DEBUG_VAR, NUM_PROCS_VAR, MAX_ACTIVE_LEVELS_VAR}
use Rattle.omi_walk.specs.AskWords.{ask_version, ask_space, ask_head}
use Rattle.omi_walk.proofs.Goes.{Left, left_first, left_on, left_stop, left_end}
use Rattle.omi_walk.proofs.head.head.Given.{Over}
use Rattle.omi_walk.proofs.head.head.Goals.{In_ok-version, In_ok-debug, In_ok-procs, In_ok-max_active}
use Rattle.omi_walk.proofs.head.head.Goals as goal

-- reads: what is left to ask behind each inquiry
module _ (g : Over) where
  abbrev asked_version : (c : In_ok-version g)
      → Left g.C.Callbacks.told g.C.Callbacks.asked c.args.s.now c.version_of.new.s (ask_head c.args.s.now.layout)
  unfolding ask_head
  asked_version c =
      left_on (λ w k. ask_version w) (0, 0) _ (left_first _ _ _ (ask_head c.args.s.now.layout)) refl c.version_of.ensures.leaves c.in_ok-version.ensures.reads

  abbrev asked_debug : (c : In_ok-debug g)
      → Left g.C.Callbacks.told g.C.Callbacks.asked c.args.s.now c.space_variable.new.s (ask_head c.args.s.now.layout)
  unfolding ask_head
  asked_debug c =
      left_on (λ w k. ask_space w DEBUG_VAR) (0, 0) _ (asked_version (goal.at.In_ok-debug g c).In_ok-version) refl c.space_variable.ensures.leaves c.in_ok-debug.ensures.reads

  abbrev asked_procs : (c : In_ok-procs g)
      → Left g.C.Callbacks.told g.C.Callbacks.asked c.args.s.now c.space_variable-2.new.s (ask_head c.args.s.now.layout)
  unfolding ask_head
  asked_procs c =
      left_on (λ w k. ask_space w NUM_PROCS_VAR) (0, 0) _ (asked_debug (goal.at.In_ok-procs g c).In_ok-debug) refl c.space_variable-2.ensures.leaves c.in_ok-procs.ensures.reads

  abbrev asked_max_active : (c : In_ok-max_active g)
      → Left g.C.Callbacks.told g.C.Callbacks.asked c.args.s.now c.space_variable-3.new.s (ask_head c.args.s.now.layout)
  unfolding ask_head
  asked_max_active c =
      left_on (λ w k. ask_space w MAX_ACTIVE_LEVELS_VAR) (0, 0) _ (asked_procs (goal.at.In_ok-max_active g c).In_ok-procs) refl c.space_variable-3.ensures.leaves c.in_ok-max_active.ensures.reads

pub returns-clause-reads : goal.returns-clause-reads
unfolding ask_head
returns-clause-reads g c =
    left_end (asked_max_active g (goal.at.returns-clause-reads g c).In_ok-max_active) refl
    (ap (λ threads. Ok (record { version = c.in_ok-version.version; threads = threads; debug = c.in_ok-debug.debug; procs = c.in_ok-procs.procs; max_active = c.in_ok-max_active.max_active }))
    (c.threads.ensures ∙ ap thread_count c.layout.ensures ∙ ap thread_count (asked_max_active g (goal.at.returns-clause-reads g c).In_ok-max_active).goes.stays.layout))

pub returns-in_err-version-clause-reads : goal.returns-in_err-version-clause-reads
unfolding ask_head
returns-in_err-version-clause-reads g c =
    left_stop (λ w k. ask_version w) (0, 0) _ (left_first _ _ _ (ask_head c.args.s.now.layout)) refl c.in_err-version.ensures.reads c.from_residual.ensures.1

pub returns-in_err-debug-clause-reads : goal.returns-in_err-debug-clause-reads
unfolding ask_head
returns-in_err-debug-clause-reads g c =
    left_stop (λ w k. ask_space w DEBUG_VAR) (0, 0) _ (asked_version g (goal.at.returns-in_err-debug-clause-reads g c).In_ok-version) refl c.in_err-debug.ensures.reads c.from_residual-in_err-debug.ensures.1

pub returns-in_err-procs-clause-reads : goal.returns-in_err-procs-clause-reads
unfolding ask_head
returns-in_err-procs-clause-reads g c =
    left_stop (λ w k. ask_space w NUM_PROCS_VAR) (0, 0) _ (asked_debug g (goal.at.returns-in_err-procs-clause-reads g c).In_ok-debug) refl c.in_err-procs.ensures.reads c.from_residual-in_err-procs.ensures.1

pub returns-in_err-max_active-clause-reads : goal.returns-in_err-max_active-clause-reads
unfolding ask_head
returns-in_err-max_active-clause-reads g c =
    left_stop (λ w k. ask_space w MAX_ACTIVE_LEVELS_VAR) (0, 0) _ (asked_procs g (goal.at.returns-in_err-max_active-clause-reads g c).In_ok-procs) refl c.in_err-max_active.ensures.reads c.from_residual-in_err-max_active.ensures.1
