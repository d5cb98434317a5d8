use Rattle.std.proofs.Common.{refl, subst}
use Rattle.std.specs.List.{flat_map}
use Rattle.omi_layout.specs.Valid.{IsValid}
use Rattle.omi_walk.specs.Asking.{ask_each}
use Rattle.omi_walk.specs.AskWords.{ask_head}
use Rattle.omi_walk.specs.AskThreads.{ask_threads}
use Rattle.omi_walk.specs.AskRegions.{ask_regions, ask_rows}
use Rattle.omi_walk.specs.AskTasks.{ask_all_tasks}
use Rattle.omi_walk.specs.AskView.{ask_view}
use Rattle.omi_walk.proofs.FoundLooks.{all_after}
use Rattle.omi_walk.proofs.Steps.{stays_then}
use Rattle.omi_walk.proofs.ViewLooks.{looks_of_reads}
use Rattle.omi_walk.proofs.Goes.{Left, left_first, left_on, left_stop, left_end}
use Rattle.omi_walk.proofs.view.view_of.Given.{Over}
use Rattle.omi_walk.proofs.view.view_of.Goals.{In_ok-head, In_ok-rows, In_ok-index, In_ok-regions, In_ok-tasks}
use Rattle.omi_walk.proofs.view.view_of.Goals as goal

pub region_rows-requires-clause-live : goal.region_rows-requires-clause-live
region_rows-requires-clause-live g c = c.in_ok-index.ensures.live

pub task_rows-requires-clause-found : goal.task_rows-requires-clause-found
task_rows-requires-clause-found g c =
    let told = g.C.Callbacks.told in
    all_after told c.thread_rows.new.s c.region_rows.new.s
    (stays_then told c.thread_rows.new.s c.regions_met.new.s c.region_rows.new.s c.regions_met.ensures.leaves.stays c.region_rows.ensures.leaves.stays)
    c.in_ok-rows.field-0.found c.in_ok-rows.ensures.each

-- reads: what is left to ask behind each inquiry
module _ (g : Over) where
  abbrev asked_head : (c : In_ok-head g)
      → Left g.C.Callbacks.told g.C.Callbacks.asked c.args.s.now c.head.new.s (ask_view c.args.s.now.layout c.args.contexts.now)
  unfolding ask_view
  asked_head c =
      left_on (λ w k. ask_head w) (0, 0) _ (left_first _ _ _ (ask_view c.args.s.now.layout c.args.contexts.now)) refl c.head.ensures.leaves c.in_ok-head.ensures.reads

  abbrev asked_rows : (c : In_ok-rows g)
      → Left g.C.Callbacks.told g.C.Callbacks.asked c.args.s.now c.thread_rows.new.s (ask_view c.args.s.now.layout c.args.contexts.now)
  unfolding ask_view
  asked_rows c =
      left_on (λ w k. ask_threads w c.args.contexts.now) (0, 0) _ (asked_head (goal.at.In_ok-rows g c).In_ok-head) refl c.thread_rows.ensures.leaves c.in_ok-rows.ensures.reads

  abbrev asked_index : (c : In_ok-index g)
      → Left g.C.Callbacks.told g.C.Callbacks.asked c.args.s.now c.regions_met.new.s (ask_view c.args.s.now.layout c.args.contexts.now)
  unfolding ask_view
  asked_index c =
      left_on (λ w k. ask_each (ask_regions w) c.in_ok-rows.field-0.found) (0, 0) _ (asked_rows (goal.at.In_ok-index g c).In_ok-rows) refl c.regions_met.ensures.leaves c.in_ok-index.ensures.reads.walks

  abbrev asked_regions : (c : In_ok-regions g)
      → Left g.C.Callbacks.told g.C.Callbacks.asked c.args.s.now c.region_rows.new.s (ask_view c.args.s.now.layout c.args.contexts.now)
  unfolding ask_view
  asked_regions c =
      left_on (λ w k. ask_rows w (flat_map (λ chain. chain) c.in_ok-index.ensures.reads.met)) (0, 0) _ (asked_index (goal.at.In_ok-regions g c).In_ok-index) refl c.region_rows.ensures.leaves (c.in_ok-regions.ensures.reads (flat_map (λ chain. chain) c.in_ok-index.ensures.reads.met) c.in_ok-index.ensures.reads.first c.in_ok-index.ensures.reads.small)

  abbrev asked_tasks : (c : In_ok-tasks g)
      → Left g.C.Callbacks.told g.C.Callbacks.asked c.args.s.now c.task_rows.new.s (ask_view c.args.s.now.layout c.args.contexts.now)
  unfolding ask_view
  asked_tasks c =
      left_on (λ w k. ask_all_tasks w c.in_ok-rows.field-0.found) (0, 0) _ (asked_regions (goal.at.In_ok-tasks g c).In_ok-regions) refl c.task_rows.ensures.leaves c.in_ok-tasks.ensures.reads

pub returns-clause-reads : goal.returns-clause-reads
unfolding ask_view
returns-clause-reads g c =
    left_end (asked_tasks g (goal.at.returns-clause-reads g c).In_ok-tasks) refl refl

pub returns-in_err-head-clause-reads : goal.returns-in_err-head-clause-reads
unfolding ask_view
returns-in_err-head-clause-reads g c =
    left_stop (λ w k. ask_head w) (0, 0) _ (left_first _ _ _ (ask_view c.args.s.now.layout c.args.contexts.now)) refl c.in_err-head.ensures.reads c.from_residual.ensures.1

pub returns-in_err-rows-clause-reads : goal.returns-in_err-rows-clause-reads
unfolding ask_view
returns-in_err-rows-clause-reads g c =
    left_stop (λ w k. ask_threads w c.args.contexts.now) (0, 0) _ (asked_head g (goal.at.returns-in_err-rows-clause-reads g c).In_ok-head) refl c.in_err-rows.ensures.reads c.from_residual-in_err-rows.ensures.1

pub returns-in_err-index-clause-reads : goal.returns-in_err-index-clause-reads
unfolding ask_view
returns-in_err-index-clause-reads g c =
    left_stop (λ w k. ask_each (ask_regions w) c.in_ok-rows.field-0.found) (0, 0) _ (asked_rows g (goal.at.returns-in_err-index-clause-reads g c).In_ok-rows) refl c.in_err-index.ensures.reads c.from_residual-in_err-index.ensures.1

pub returns-in_err-regions-clause-reads : goal.returns-in_err-regions-clause-reads
unfolding ask_view
returns-in_err-regions-clause-reads g c =
    left_stop (λ w k. ask_rows w (flat_map (λ chain. chain) c.in_ok-index.ensures.reads.met)) (0, 0) _ (asked_index g (goal.at.returns-in_err-regions-clause-reads g c).In_ok-index) refl (c.in_err-regions.ensures.reads (flat_map (λ chain. chain) c.in_ok-index.ensures.reads.met) c.in_ok-index.ensures.reads.first c.in_ok-index.ensures.reads.small) c.from_residual-in_err-regions.ensures.1

pub returns-in_err-tasks-clause-reads : goal.returns-in_err-tasks-clause-reads
unfolding ask_view
returns-in_err-tasks-clause-reads g c =
    left_stop (λ w k. ask_all_tasks w c.in_ok-rows.field-0.found) (0, 0) _ (asked_regions g (goal.at.returns-in_err-tasks-clause-reads g c).In_ok-regions) refl c.in_err-tasks.ensures.reads c.from_residual-in_err-tasks.ensures.1

-- look: the answer of these reads is that of the look

pub returns-in_err-head-clause-look : goal.returns-in_err-head-clause-look
returns-in_err-head-clause-look g c =
    looks_of_reads g.C.Callbacks.told g.C.Callbacks.asked c.args.s.now _ c.args.contexts.now _ (subst (λ w. IsValid w) c.layout-layout.ensures c.layout-layout.result.now.valid) (returns-in_err-head-clause-reads g c)

pub returns-in_err-rows-clause-look : goal.returns-in_err-rows-clause-look
returns-in_err-rows-clause-look g c =
    looks_of_reads g.C.Callbacks.told g.C.Callbacks.asked c.args.s.now _ c.args.contexts.now _ (subst (λ w. IsValid w) c.layout-layout.ensures c.layout-layout.result.now.valid) (returns-in_err-rows-clause-reads g c)

pub returns-in_err-index-clause-look : goal.returns-in_err-index-clause-look
returns-in_err-index-clause-look g c =
    looks_of_reads g.C.Callbacks.told g.C.Callbacks.asked c.args.s.now _ c.args.contexts.now _ (subst (λ w. IsValid w) c.layout-layout.ensures c.layout-layout.result.now.valid) (returns-in_err-index-clause-reads g c)

pub returns-in_err-regions-clause-look : goal.returns-in_err-regions-clause-look
returns-in_err-regions-clause-look g c =
    looks_of_reads g.C.Callbacks.told g.C.Callbacks.asked c.args.s.now _ c.args.contexts.now _ (subst (λ w. IsValid w) c.layout-layout.ensures c.layout-layout.result.now.valid) (returns-in_err-regions-clause-reads g c)

pub returns-in_err-tasks-clause-look : goal.returns-in_err-tasks-clause-look
returns-in_err-tasks-clause-look g c =
    looks_of_reads g.C.Callbacks.told g.C.Callbacks.asked c.args.s.now _ c.args.contexts.now _ (subst (λ w. IsValid w) c.layout-layout.ensures c.layout-layout.result.now.valid) (returns-in_err-tasks-clause-reads g c)

pub returns-clause-look : goal.returns-clause-look
returns-clause-look g c =
    looks_of_reads g.C.Callbacks.told g.C.Callbacks.asked c.args.s.now _ c.args.contexts.now _ (subst (λ w. IsValid w) c.layout-layout.ensures c.layout-layout.result.now.valid) (returns-clause-reads g c)
