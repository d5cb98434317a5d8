use Rattle.std.proofs.Common.{ℕ, map, length, sym, subst, ◌<◌, List}
use Rattle.std.proofs.lemmas.Bool.{both_ways}
use Rattle.std.proofs.lemmas.List.{length-map}
use Rattle.omi_model.specs.declared.id.Tid.{Tid}
use Rattle.omi_machine_legal.specs.Decided.{IsNewAt}
use Rattle.omi_model.specs.Fresh.{AreDistinct, IsFresh}
use Rattle.omi_machine.specs.Kept.{state_of}
use Rattle.omi_machine_legal.proofs.NewTeams.{all_by_place, by_place_all, distinct_from_new, new_from_distinct}
use Rattle.omi_machine_legal.proofs.fork_rules.have_new_tasks.Goals as goal

-- the tasks of a team
abbrev tasks : List (Tid × ℕ) → List Tid
tasks team = map (λ (m : Tid × ℕ). m.0) team

distinct : (team : List (Tid × ℕ)) → ((k : ℕ) → k < length team → IsNewAt (tasks team) k)
    → AreDistinct (tasks team)
distinct team new =
    distinct_from_new (tasks team)
    (λ k within. new k (subst (λ (n : ℕ). k < n) (length-map team (λ (m : Tid × ℕ). m.0)) within))

new_at : (team : List (Tid × ℕ)) → AreDistinct (tasks team) → (k : ℕ) → k < length team
    → IsNewAt (tasks team) k
new_at team apart k within =
    new_from_distinct (tasks team) apart k
    (subst (λ (n : ℕ). k < n) (sym (length-map team (λ (m : Tid × ℕ). m.0))) within)

pub returns-then-are_members_fresh : goal.returns-then-are_members_fresh
returns-then-are_members_fresh c = (
  λ new. (
    all_by_place (λ (m : Tid × ℕ). IsFresh (state_of c.args.s.now).tasks c.args.i m.0.0) c.args.team.now (c.are_members_fresh.ensures.0 c.if-are_members_fresh.true),
    distinct c.args.team.now (c.are_new.ensures.0 new),
  ),
  λ both. c.are_new.ensures.1 (new_at c.args.team.now both.1),
)

pub returns-else-are_members_fresh : goal.returns-else-are_members_fresh
returns-else-are_members_fresh c = (
  λ is. absurd (both_ways c.are_members_fresh.result c.if-are_members_fresh.false is),
  λ both. c.are_members_fresh.ensures.1 (by_place_all (λ (m : Tid × ℕ). IsFresh (state_of c.args.s.now).tasks c.args.i m.0.0) c.args.team.now both.0),
)
