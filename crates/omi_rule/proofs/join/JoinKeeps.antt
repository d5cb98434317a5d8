-- Each step of a join keeps the rule.
use Rattle.std.proofs.Common.{◌≡◌, ◌≤◌, ◌-◌, ℕ, List, sym, subst}
use Rattle.omi_script.specs.declared.program.Program.{Program}
use Rattle.omi_model.specs.declared.event.Event.{Event}
use Rattle.omi_model.specs.State.{State}
use Rattle.omi_layout.specs.declared.field.Field.TheVariants.{RegionLeft}
use Rattle.omi_layout.specs.Field.{regions}
use Rattle.omi_layout.specs.Memory.{Memory}
use Rattle.omi_layout.specs.Named.{number}
use Rattle.omi_pc.specs.declared.actor.Actor.{Actor}
use Rattle.omi_pc.specs.declared.counter.Counter.TheVariants as counter
use Rattle.omi_pc.specs.declared.team_counter.JoinCounter.{JoinCounter}
use Rattle.omi_pc.specs.declared.team_counter.JoinCounter.TheVariants as join
use Rattle.omi_fork.specs.JoinSteps.{join_moved, join_next, join_outcome}
use Rattle.omi_rule.specs.Steps.{StepKeeps}
use Rattle.omi_rule.proofs.join.MemberLoads.{load_life_keeps, load_member_keeps}
use Rattle.omi_rule.proofs.join.MemberFreed.{free_task_keeps}
use Rattle.omi_rule.proofs.join.RegionFreed.{free_region_keeps}
use Rattle.omi_rule.proofs.Assembly.{Before}
use Rattle.omi_rule.proofs.barrier.AtCounter.{row_is}
use Rattle.omi_rule.proofs.join.Joined.{join_from}
use Rattle.omi_rule.proofs.join.LoadsLeft.{load_left_keeps, none_owes, others_ended}

join_keeps : (p : Program) (w : List ℕ) (m : Memory) (events : List (ℕ × Event)) (s : State) (actors : ℕ → Actor) (i : ℕ)
    → Before p w m events s actors i → (actors i).counter ≡ counter.Join join.Join
    → StepKeeps p w m events s actors i (join_next w (actors i) join.Join)
    (λ old. (join_moved p w (actors i) join.Join old, join_outcome w (actors i) join.Join old))
join_keeps p w m events s actors i before at =
    let (maker, enough) = row_is p w m events s actors i before (counter.Join join.Join) at tt in
    let full =
    subst
    (λ k. (actors i).context.size - 1 ≤ m k regions (actors i).context.region.0.slot (number RegionLeft) 0)
    (sym maker) enough in
    join_from p w m events s actors i before at maker
    (others_ended p w m events s actors i before join.Join at full)
    (none_owes p w m events s actors i before join.Join at full)

pub join_steps_keep : (p : Program) (w : List ℕ) (m : Memory) (events : List (ℕ × Event)) (s : State) (actors : ℕ → Actor) (i : ℕ)
    → Before p w m events s actors i → (c : JoinCounter) → (actors i).counter ≡ counter.Join c
    → StepKeeps p w m events s actors i (join_next w (actors i) c)
    (λ old. (join_moved p w (actors i) c old, join_outcome w (actors i) c old))
join_steps_keep p w m events s actors i before join.LoadLeft at =
    load_left_keeps p w m events s actors i before at
join_steps_keep p w m events s actors i before join.Join at =
    join_keeps p w m events s actors i before at
join_steps_keep p w m events s actors i before (join.LoadMember r size member) at =
    load_member_keeps p w m events s actors i before r size member at
join_steps_keep p w m events s actors i before (join.LoadLife r size member t) at =
    load_life_keeps p w m events s actors i before r size member t at
join_steps_keep p w m events s actors i before (join.FreeTask r size member t) at =
    free_task_keeps p w m events s actors i before r size member t at
join_steps_keep p w m events s actors i before (join.FreeRegion r size) at =
    free_region_keeps p w m events s actors i before r size at
