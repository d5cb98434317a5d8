-- The row of a thread: the implicit task of its member in the current region, on whose slots the thread defers tasks.
use Rattle.std.proofs.Common.{◌≡◌, ℕ, false, List, sym, ap, subst, ◌∙◌}
use Rattle.omi_script.specs.declared.program.Program.{Program}
use Rattle.omi_model.specs.declared.event.Event.{Event}
use Rattle.omi_model.specs.declared.progress.Progress.TheVariants as progress
use Rattle.omi_model.specs.declared.region.Region.{Region}
use Rattle.omi_model.specs.Reached.{Reached}
use Rattle.omi_model.specs.State.{State, region_of}
use Rattle.omi_model.proofs.members.EncounterLaws.{open_around}
use Rattle.omi_model.proofs.NamesLive.{names_live}
use Rattle.omi_model.proofs.Slots.{some_same}
use Rattle.omi_pc.specs.declared.context.Context.{Context}
use Rattle.omi_rule_words.specs.ExplicitKinds.{IsRow}
use Rattle.omi_rule.specs.Chains.{KeepsContext}

begun_over : progress.Begun ≡ progress.Finished → ⊥
begun_over h = cc

-- the region of a task that has begun is not joined
pub is_open : (p : Program) (events : List (ℕ × Event)) (s : State) → Reached p events s
    → (i : ℕ) (c : Context) (o : KeepsContext s i c) → o.region.joined ≡ false
is_open p events s reached i c o =
    let (r, found, unjoined) = open_around p events s reached c.task o.task o.live (λ over. begun_over (sym o.begun ∙ over)) in
    subst (λ (x : Region). x.joined ≡ false) (some_same found (ap (region_of s) o.region_is ∙ o.found)) unjoined

pub own_row : (p : Program) (events : List (ℕ × Event)) (s : State) → Reached p events s
    → (i : ℕ) (c : Context) (o : KeepsContext s i c) → IsRow s i c.row o.task
own_row p events s reached i c o =
    let member =
    ((names_live p events s reached).regions c.region o.region o.found).team (is_open p events s reached i c o) c.number (c.row, i) o.row in
    record { task = member.task; live = member.live; implicit = member.implicit; region = member.region ∙ sym o.region_is; thread = member.thread }
