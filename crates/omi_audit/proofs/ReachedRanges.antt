-- What is visible in a reached state is in range: regions by their members' tasks, and the numbers of tasks by the teams of their regions.
use Rattle.std.proofs.Common.{◌≡◌, ◌+◌, ℕ, zero, suc, ◌<◌, ◌≤◌, Bool, true, false, List, length, get_or, Option, Some, None, MatchOption, if◌then◌else◌, nat_lt, refl, ap, ◌∙◌, arith}
use Rattle.std.specs.Prelude.{slice_get}
use Rattle.std.proofs.lemmas.Option.{slice_get-get_or, slice_get_within}
use Rattle.omi_script.proofs.RuleLemmas.{Rules-from_accepted}
use Rattle.omi_script.specs.declared.limits.TheConstants.{MAX_DEPTH, MAX_FUNCTIONS, MAX_LEVELS}
use Rattle.omi_script.specs.declared.program.Program.{Program}
use Rattle.omi_model.specs.declared.event.Event.{Event}
use Rattle.omi_model.specs.declared.id.Rid.{Rid}
use Rattle.omi_model.specs.declared.id.Tid.{Tid}
use Rattle.omi_model.specs.declared.progress.Progress.TheVariants.{Deferred}
use Rattle.omi_model.specs.declared.region.Region.{Region}
use Rattle.omi_model.specs.declared.task.Task.{Task}
use Rattle.omi_model.specs.LawLevels.{AreLevelsRight, IsEnclosedIn}
use Rattle.omi_model.specs.Reached.{Reached}
use Rattle.omi_model.specs.State.{State, region_of, task_of}
use Rattle.omi_model.specs.Visible.{IsVisibleRegion, IsVisibleTask}
use Rattle.omi_model.proofs.LevelsCount.{levels_count}
use Rattle.omi_model.proofs.members.EncounterLaws.{encounters}
use Rattle.omi_model.proofs.members.WholeTeams.{live_of}
use Rattle.omi_model.proofs.MembersKnown.{first_at, members_known}
use Rattle.omi_model.proofs.NamesLive.{names_live}
use Rattle.omi_model.proofs.Slots.{some_same}
use Rattle.omi_model.proofs.TaskThreads.{are_manned}
use Rattle.omi_audit.proofs.RangesKept.{InRanges, VariablesIn, in_ranges}

pub record RegionRanges (s : State) (r : Region) : Type 0 where
  pub function : r.function < MAX_FUNCTIONS
  pub some : 1 ≤ length r.team
  pub few : length r.team ≤ s.count
  pub levels : r.levels ≤ MAX_LEVELS
  pub active : r.active ≤ MAX_LEVELS

pub record TaskRanges (s : State) (t : Task) : Type 0 where
  pub number : t.number < s.count
  pub function : t.function < MAX_FUNCTIONS
  pub variables : VariablesIn t.variables

module _ (p : Program) (events : List (ℕ × Event)) (s : State) (reached : Reached p events s) where
  pub ranges : InRanges p s
  ranges = in_ranges p events s reached

  -- no more levels are active than there are
  active_few : (m : ℕ) (r : Region) → r.levels ≡ m → AreLevelsRight s r → r.active ≤ m
  active_few zero r level right = go r.enclosing right
    where
      go : (o : Option Rid) → MatchOption o ((r.levels ≡ 0) × (r.active ≡ 0)) (λ n. (q : Region) × (region_of s n ≡ Some q) × IsEnclosedIn r q)
          → r.active ≤ 0
      go None is = (let none = is.1 in omega (arith, none))
      go (Some n) is = absurd (let deeper = is.2.levels in omega (arith, deeper, level))
  active_few (suc m) r level right =
      go (λ n q found at. active_few m q at (levels_count p events s reached n q found).levels) r.enclosing right
    where
      one : (b : Bool) (q : Region) → q.active ≤ m → r.active ≡ q.active + (if b then 1 else 0) → r.active ≤ suc m
      one true q low is = omega arith
      one false q low is = omega arith

      go : ((n : Rid) (q : Region) → region_of s n ≡ Some q → q.levels ≡ m → q.active ≤ m) → (o : Option Rid)
          → MatchOption o ((r.levels ≡ 0) × (r.active ≡ 0)) (λ n. (q : Region) × (region_of s n ≡ Some q) × IsEnclosedIn r q)
          → r.active ≤ suc m
      go less None is = (let none = is.1 in omega (arith, none))
      go less (Some n) is =
          let deeper = is.2.levels in
          one (nat_lt 1 (length r.team)) is.0 (less n is.0 is.1 (omega (arith, deeper, level))) is.2.active

  pub region_ranges : (n : Rid) (seen : IsVisibleRegion s n) → RegionRanges s seen.region
  region_ranges n seen =
      let r = seen.region in
      let some = ((members_known p events s reached).regions n r seen.live).some in
      let first = first_at r.team some in
      let live = seen.team 0 first.0 some in
      let member = live_of (task_of s (get_or r.team 0 first.0).0) live in
      let at = slice_get-get_or r.team 0 first.0 some in
      let is = ((names_live p events s reached).regions n r seen.live).members 0 (get_or r.team 0 first.0) at member.0 member.1 in
      let own = (ranges.tasks (get_or r.team 0 first.0).0 is.task is.live) in
      let same : own.0 ≡ r = some_same own.2 (ap (region_of s) is.region ∙ seen.live) in
      let low = own.3 in
      let function = own.7 in
      let most = (Rules-from_accepted p).functions in
      let levels : r.levels ≤ MAX_DEPTH = (let level = ap (λ (q : Region). q.levels) same in omega (arith, low, level)) in
      let active = active_few r.levels r refl (levels_count p events s reached n r seen.live).levels in
      record {
        function = (let f = ap (λ (q : Region). q.function) same in omega (arith, function, most, f));
        some = some;
        few = (are_manned p events s reached).regions n r seen.live;
        levels = omega (arith, levels);
        active = omega (arith, active, levels);
      }

  -- a task that isn't deferred has the number of a member of its region
  number_few : (k : Tid) (t : Task) → task_of s k ≡ Some t → (t.progress ≡ Deferred → ⊥) → t.number < s.count
  number_few k t live started = go t.implicit refl
    where
      within : (r : Region) (m : Tid × ℕ) → region_of s t.region ≡ Some r → slice_get r.team t.number ≡ Some m → t.number < s.count
      within r m found at =
          let inside = slice_get_within r.team t.number m at in
          let few = (are_manned p events s reached).regions t.region r found in
          omega (arith, inside, few)

      go : (b : Bool) → t.implicit ≡ b → t.number < s.count
      go true im = (let is = (members_known p events s reached).tasks k t live im in within is.0 (k, t.thread) is.1 is.2)
      go false ex = (let is = ((encounters p events s reached).explicit k t live ex).thread started in within is.0 is.1 is.2 is.3)

  pub task_ranges : (k : Tid) (seen : IsVisibleTask s k) → (seen.task.progress ≡ Deferred → ⊥) → TaskRanges s seen.task
  task_ranges k seen started =
      let own = ranges.tasks k seen.task seen.live in
      let function = own.5 in
      let most = (Rules-from_accepted p).functions in
      record {
        number = number_few k seen.task seen.live started;
        function = omega (arith, function, most);
        variables = own.6;
      }
