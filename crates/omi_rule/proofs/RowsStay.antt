-- The registers of a thread stay right while another thread makes a step: it leaves the records in the making and what the state says.
use Rattle.std.proofs.Common.{◌≡◌, ◌≢◌, ◌+◌, ◌<◌, ◌≤◌, ℕ, zero, suc, inl, inr, Bool, true, List, [], ◌∷◌, length, map, slice_get, take, Option, Some, None, refl, sym, ap, ◌∙◌, subst, arith, eqb-true, ◌==◌}
use Rattle.std.specs.List.{All, Contains}
use Rattle.std.specs.Option.{option_and_then}
use Rattle.std.proofs.lemmas.List.Elements.{All-head, All-tail}
use Rattle.omi_script.specs.declared.program.Program.{Program}
use Rattle.omi_model.specs.declared.id.Rid.{Rid}
use Rattle.omi_model.specs.declared.id.Tid.{Tid}
use Rattle.omi_model.specs.declared.progress.Progress.TheVariants as progress
use Rattle.omi_model.specs.declared.task.Task.{Task}
use Rattle.omi_model.specs.Columns.{tasks_of}
use Rattle.omi_model.specs.LawStays.{IsSameTask}
use Rattle.omi_model.specs.declared.group.Group.{Group}
use Rattle.omi_model.specs.declared.region.Region.{Region}
use Rattle.omi_model.specs.Groups.{AreMembersFinished, innermost_or}
use Rattle.omi_model.specs.State.{State, region_of, task_of}
use Rattle.omi_model.specs.Teams.{AreAsksOver, got_threads}
use Rattle.omi_model.proofs.Slots.{found_live, none_some, some_same}
use Rattle.omi_model.proofs.BarrierOrder.{and_left, and_right}
use Rattle.omi_layout.specs.declared.field.Field.{Field}
use Rattle.omi_layout.specs.declared.field.Field.TheVariants.{RegionLeft, RegionTeam, ThreadAssign}
use Rattle.omi_layout.specs.Field.{regions, tasks, threads}
use Rattle.omi_layout.specs.Memory.{Memory, Rec}
use Rattle.omi_layout.specs.Named.{number}
use Rattle.omi_pc.specs.declared.actor.Actor.{Actor}
use Rattle.omi_pc.specs.declared.counter.Counter.{Counter}
use Rattle.omi_pc.specs.declared.counter.Counter.TheVariants as counter
use Rattle.omi_pc.specs.declared.limits.TheConstants.{START_WORDS, TASK_WORDS, VARIABLE_WORDS}
use Rattle.omi_pc.specs.declared.task_counter.Ancestor.{Ancestor}
use Rattle.omi_pc.specs.declared.task_counter.FinishCounter.{FinishCounter}
use Rattle.omi_pc.specs.declared.task_counter.FinishCounter.TheVariants as finish
use Rattle.omi_pc.specs.declared.task_counter.LookCounter.{LookCounter}
use Rattle.omi_pc.specs.declared.task_counter.LookCounter.TheVariants as look
use Rattle.omi_pc.specs.declared.task_counter.TaskCounter.{TaskCounter}
use Rattle.omi_pc.specs.declared.task_counter.TaskCounter.TheVariants as task
use Rattle.omi_pc.specs.declared.team_counter.BarrierCounter.{BarrierCounter}
use Rattle.omi_pc.specs.declared.team_counter.JoinCounter.{JoinCounter}
use Rattle.omi_pc.specs.declared.team_counter.JoinCounter.TheVariants as join
use Rattle.omi_pc.specs.declared.team_counter.TeamCounter.{TeamCounter}
use Rattle.omi_pc.specs.declared.team_counter.TeamCounter.TheVariants as team
use Rattle.omi_pc.specs.declared.team_counter.WorkerCounter.{WorkerCounter}
use Rattle.omi_pc.specs.declared.team_counter.WorkerCounter.TheVariants as worker
use Rattle.omi_pc.specs.declared.frame.Frame.{Frame}
use Rattle.omi_pc.specs.declared.frame.Wait.{Wait}
use Rattle.omi_pc.specs.declared.frame.Wait.TheVariants as wait
use Rattle.omi_pc.specs.declared.place.Place.{Place}
use Rattle.omi_pc.specs.Fits.{Fits, FitsCounter, FitsJoin, FitsTeam}
use Rattle.omi_rep.specs.Codes.{is_place}
use Rattle.omi_rep.specs.Records.{task_word}
use Rattle.omi_rule_words.specs.Counts.{is_at}
use Rattle.omi_rule_words.specs.ExplicitKinds.{IsRow, slot_of}
use Rattle.omi_rule_words.specs.Groups.{group_of}
use Rattle.omi_rule_words.specs.Owes.{Owed, by_finish, by_task, by_team, owed, owed_at}
use Rattle.omi_rule_words.specs.Threads.{WaitsFor}
use Rattle.omi_rule_words.specs.Words.{HasFinished, IsInTheMaking, KeepsMaking, OwesOnLive}
use Rattle.omi_step_words.specs.declared.plan.Planned.{Planned}
use Rattle.omi_step_words.specs.Members.{member_of}
use Rattle.omi_task.specs.LookSteps.{member_at}
use Rattle.omi_task.specs.Slots.{coded_task}
use Rattle.omi_task.specs.Starts.{start_plan}
use Rattle.omi_rule.specs.Chains.{IsWorkerAhead, KeepsContext, Stands, StandsWith}
use Rattle.omi_rule.specs.LeavesOthers.{IsSameForOthers, LeavesOthers}
use Rattle.omi_rule.specs.Rows.{HasAsked, HasEndedUnder, HasFilled, HasNoMember, HasEnvironment, HasFilledTask, HasLoaded, HasPlace, HasPlaced, HasSize, HasTested, IsInHand, KeepsFinishRow, KeepsTaskRow, MayStartIn, WasMade, HasTeam, IsFilled, IsRowOf, KeepsBarrierRow, KeepsJoinRow, KeepsLookRow, KeepsRow, KeepsTeamRow, KeepsWorkerRow, Knows, KnowsActive, KnowsGroup, KnowsLevels, KnowsVariables, Meets, OfRegion, place_of, IsAbove, IsAncestor, IsGivenBack}
use Rattle.omi_rule.proofs.NamesStay.{NamesStay, lives_there}
use Rattle.omi_rule.proofs.OthersStand.{begun_undeferred, begun_unfinished, of_innermost}
use Rattle.omi_numbers.specs.declared.limits.TheConstants.{OWN_SLOTS}

-- what a step of another thread leaves of a thread's words: its records in the making, its assign word where it is about to clear it,
-- of its regions' words for the members that have left that they don't fall, the empty slots of its implicit tasks, and the place of
-- the deferred task in its hand
pub record Spares (m n : Memory) (s : State) (j : ℕ) (a : Actor) : Type 0 where
  pub regions_same : (slot : ℕ) → (s.regions j slot).live ≡ None → n j regions slot ≡ m j regions slot
  pub tasks_same : (slot : ℕ) → (s.tasks j slot).live ≡ None → n j tasks slot ≡ m j tasks slot
  pub assign_same : (t : Place) → a.counter ≡ counter.Worker (worker.ClearAssign t)
      → n j threads 0 (number ThreadAssign) 0 ≡ m j threads 0 (number ThreadAssign) 0
  pub left_kept : (slot : ℕ) → m j regions slot (number RegionLeft) 0 ≤ n j regions slot (number RegionLeft) 0
  pub slots_kept : (row : Tid) (t : Task) (place : ℕ) → task_of s row ≡ Some t → t.implicit ≡ true
      → t.thread ≡ j → place < OWN_SLOTS → slot_of m row place ≡ 0 → slot_of n row place ≡ 0
  pub hand_same : (k : Tid) (t : Task) (f : Field) (at : ℕ) → j < s.count → (owed a).hand ≡ Some k
      → task_of s k ≡ Some t → t.progress ≡ progress.Deferred → is_place f ≡ true
      → n k.0.creator tasks k.0.slot (number f) at ≡ m k.0.creator tasks k.0.slot (number f) at

-- a thread that has a task has its context
pub context_of : (p : Program) (s : State) (i : ℕ) (a : Actor)
    → ((c : WorkerCounter) → a.counter ≡ counter.Worker c → ⊥) → Stands p s i a → KeepsContext s i a.context
context_of p s i a busy stands = go a.stack refl stands a.counter refl
  where
    go : (fs : List Frame) → a.stack ≡ fs → StandsWith p s i a fs → (c : Counter) → a.counter ≡ c
        → KeepsContext s i a.context
    go (f ∷ fs) is o c e = of_innermost p s i a.context a.stack o.bodies
    go [] is o (counter.Worker c) e = absurd (busy c e)
    go [] is o (counter.Team c) e = absurd (subst (λ x. IsWorkerAhead s x (s.threads i).list) e o.ahead)
    go [] is o (counter.Barrier c) e = absurd (subst (λ x. IsWorkerAhead s x (s.threads i).list) e o.ahead)
    go [] is o (counter.Join c) e = absurd (subst (λ x. IsWorkerAhead s x (s.threads i).list) e o.ahead)
    go [] is o (counter.Task c) e = absurd (subst (λ x. IsWorkerAhead s x (s.threads i).list) e o.ahead)
    go [] is o (counter.Look c) e = absurd (subst (λ x. IsWorkerAhead s x (s.threads i).list) e o.ahead)
    go [] is o (counter.Finish c) e = absurd (subst (λ x. IsWorkerAhead s x (s.threads i).list) e o.ahead)
    go [] is o (counter.Plain c) e = absurd (subst (λ x. IsWorkerAhead s x (s.threads i).list) e o.ahead)

-- of the first members' tasks
pub of_member : (P : Tid → Type 0) (team : List (Tid × ℕ)) (n j : ℕ) → All P (take n (tasks_of team)) → j < n
    → j < length team → P (member_of team j).0
of_member P [] n j all below within = absurd (omega (arith, within))
of_member P (m ∷ ms) zero j all below within = absurd (omega (arith, below))
of_member P (m ∷ ms) (suc n) zero all below within = All-head P m.0 (take n (tasks_of ms)) all
of_member P (m ∷ ms) (suc n) (suc j) all below within =
    of_member P ms n j (All-tail P m.0 (take n (tasks_of ms)) all) (omega (arith, below))
    (omega (arith, within))

-- the words of a start are of a task's place
start_field : (w : List ℕ) (a : Actor) (l : ℕ) → is_place (start_plan w a l).field ≡ true
start_field w a zero = refl
start_field w a (suc zero) = refl
start_field w a (suc (suc zero)) = refl
start_field w a (suc (suc (suc zero))) = refl
start_field w a (suc (suc (suc (suc zero)))) = refl
start_field w a (suc (suc (suc (suc (suc l))))) = refl

-- a name at a place has its creator and its slot
pub at_place : (k : Tid) (q : Place) → is_at k q ≡ true → (k.0.creator ≡ q.creator) × (k.0.slot ≡ q.slot)
at_place k q is = (
  eqb-true k.0.creator q.creator (and_left (k.0.creator == q.creator) (k.0.slot == q.slot) is),
  eqb-true k.0.slot q.slot (and_right (k.0.creator == q.creator) (k.0.slot == q.slot) is),
)

module _ (p : Program) (w : List ℕ) (m n : Memory) (s u : State) (i : ℕ) (leaves : LeavesOthers s u i)
    (names : NamesStay s u) (j : ℕ) (other : j ≢ i) (a : Actor) (spares : Spares m n s j a) where
  -- ---- workers

  waits_stay : (k : Tid) → WaitsFor s j k → WaitsFor u j k
  waits_stay k o = record {
    task = o.task;
    live = leaves.tasks k o.task o.live (λ same. other (sym o.thread ∙ same)) (λ deferred. cc (sym o.progress, deferred))
        (λ over. cc (sym o.progress, over));
    progress = o.progress;
    thread = o.thread;
  }

  meets_stays : (k : Tid) (known : Task → Type 0) → Meets s j k known → Meets u j k known
  unfolding waits_stay
  meets_stays k known (waits, is) = (waits_stay k waits, is)

  -- the region of a task that waits has its size
  size_stays : (k : Tid) (waits : WaitsFor s j k) (r : Rid) (size : ℕ) → waits.task.region ≡ r → HasSize s r size
      → HasSize u r size
  size_stays k waits r size of (region, found, is) =
      let (q, now, same) = leaves.regions k waits.task region waits.live (ap (region_of s) of ∙ found) in
      (q, ap (region_of u) (sym of) ∙ now, ap length same.team ∙ is)

  worker_stays : (c : WorkerCounter) → a.counter ≡ counter.Worker c → KeepsWorkerRow w m s j c
      → KeepsWorkerRow w n u j c
  worker_stays worker.Begin at o = (leaves.threads j other).begun ∙ o
  worker_stays worker.Offer at o = tt
  worker_stays worker.LoadAssign at o = tt
  worker_stays (worker.ClearAssign t) at (k, waits, is, word) =
      (k, waits_stay k waits, is, spares.assign_same t at ∙ word)
  worker_stays (worker.LoadLife t) at (k, waits, is) = (k, waits_stay k waits, is)
  worker_stays (worker.LoadFunction k) at waits = waits_stay k waits
  worker_stays (worker.LoadRegion k f) at o = meets_stays k _ o
  worker_stays (worker.LoadRegionLife k f r) at o = meets_stays k _ o
  worker_stays (worker.LoadSize k f r) at o = meets_stays k _ o
  worker_stays (worker.LoadNumber k f r size) at ((waits, is), has) =
      (meets_stays k _ (waits, is), size_stays k waits r size is.1 has)
  worker_stays (worker.ImplicitBegin k f r size number) at ((waits, is), has) =
      (meets_stays k _ (waits, is), size_stays k waits r size is.1 has)
  worker_stays worker.ImplicitEnd at o = tt
  worker_stays (worker.AddLeft r) at o = tt
  worker_stays worker.IdleState at o = tt

  -- ---- what is gathered

  region_stays : KeepsContext s j a.context → (r : Region) → region_of s a.context.region ≡ Some r
      → (q : Region) × (region_of u a.context.region ≡ Some q) × IsSameForOthers i r q
  region_stays top r found =
      let (q, now, same) = leaves.regions a.context.task top.task r top.live (ap (region_of s) top.region_is ∙ found) in
      (q, ap (region_of u) (sym top.region_is) ∙ now, same)

  levels_stay : KeepsContext s j a.context → KnowsLevels s a → KnowsLevels u a
  levels_stay top (r, found, levels) =
      let (q, now, same) = region_stays top r found in (q, now, same.levels ∙ levels)

  active_stays : KeepsContext s j a.context → KnowsActive s a → KnowsActive u a
  active_stays top (r, found, levels, active) =
      let (q, now, same) = region_stays top r found in (q, now, same.levels ∙ levels, same.active ∙ active)

  variables_stay : KeepsContext s j a.context → (k : ℕ) → KnowsVariables s a k → KnowsVariables u a k
  variables_stay top k (t, live, are) =
      let same : top.task ≡ t = some_same top.live live in
      (t, leaves.tasks a.context.task t live (λ e. other (sym (ap (λ (x : Task). x.thread) (sym same) ∙ top.thread) ∙ e)) (begun_undeferred t (ap (λ (x : Task). x.progress) (sym same) ∙ top.begun)) (begun_unfinished t (ap (λ (x : Task). x.progress) (sym same) ∙ top.begun)), are)

  group_stays : KeepsContext s j a.context → KnowsGroup w s a → KnowsGroup w u a
  group_stays top (t, live, knows) =
      let same : top.task ≡ t = some_same top.live live in
      (t, leaves.tasks a.context.task t live (λ e. other (sym (ap (λ (x : Task). x.thread) (sym same) ∙ top.thread) ∙ e)) (begun_undeferred t (ap (λ (x : Task). x.progress) (sym same) ∙ top.begun)) (begun_unfinished t (ap (λ (x : Task). x.progress) (sym same) ∙ top.begun)), knows)

  knows_stays : KeepsContext s j a.context → Knows s a → Knows u a
  knows_stays top o = record { region = active_stays top o.region; task = variables_stay top VARIABLE_WORDS o.task }

  asked_stays : KeepsContext s j a.context → HasAsked s j a → HasAsked u j a
  asked_stays top o =
      let h = leaves.threads j other in
      record {
        knows = knows_stays top o.knows;
        wanted = o.wanted ∙ sym h.wanted;
        joined = o.joined ∙ ap (λ xs. j ∷ got_threads xs) (sym h.asks);
        asked = ap (λ (xs : List (ℕ × Bool)). map (λ x. x.0) xs) h.asks ∙ o.asked;
        few = subst (λ c. a.gathered.asked ≤ c) (sym leaves.count) o.few;
      }

  over_stays : AreAsksOver s j → AreAsksOver u j
  over_stays (inl full) =
      let h = leaves.threads j other in
      inl (ap (λ xs. suc (length (got_threads xs))) h.asks ∙ full ∙ sym h.wanted)
  over_stays (inr all) =
      let h = leaves.threads j other in
      inr
      (λ v known apart. subst (λ xs. Contains (map (λ x. x.0) xs) v) (sym h.asks) (all v (subst (λ c. v < c) leaves.count known) apart))

  team_got_stays : KeepsContext s j a.context → HasTeam s j a → HasTeam u j a
  team_got_stays top o = record { asks = asked_stays top o.asks; over = over_stays o.over }

  -- ---- records in the making

  region_made : (r : Rid) → IsInTheMaking j (s.regions j) r.0
      → n r.0.creator regions r.0.slot ≡ m r.0.creator regions r.0.slot
  region_made r o =
      subst (λ c. n c regions r.0.slot ≡ m c regions r.0.slot) (sym o.maker)
      (spares.regions_same r.0.slot o.free)

  task_made : (k : Tid) → IsInTheMaking j (s.tasks j) k.0
      → n k.0.creator tasks k.0.slot ≡ m k.0.creator tasks k.0.slot
  task_made k o =
      subst (λ c. n c tasks k.0.slot ≡ m c tasks k.0.slot) (sym o.maker) (spares.tasks_same k.0.slot o.free)

  filled_stays : (x y : Rec) (plan : ℕ → Planned) (k : ℕ) → y ≡ x → IsFilled x plan k → IsFilled y plan k
  filled_stays x y plan k same o = subst (λ (z : Rec). IsFilled z plan k) (sym same) o

  all_filled_stay : (r : Rid) (k : ℕ) → IsInTheMaking j (s.regions j) r.0
      → ((l : ℕ) → l < k → IsInTheMaking j (s.tasks j) (member_of a.gathered.team l).0.0)
      → HasFilled p w m a r k → HasFilled p w n a r k
  all_filled_stay r k is are o = record {
    below = o.below;
    region = filled_stays (m r.0.creator regions r.0.slot) (n r.0.creator regions r.0.slot) _ _ (region_made r is) o.region;
    tasks = λ l below. filled_stays _ _ _ _ (task_made (member_of a.gathered.team l).0 (are l below)) (o.tasks l below);
    tasks_below = o.tasks_below;
    slots = o.slots;
    team = λ l below. ap (λ (x : Rec). x (number RegionTeam) l) (region_made r is) ∙ o.team l below;
  }

  -- what is owed at a counter of a team
  abbrev Owing : TeamCounter → Owed
  Owing c = by_team a.gathered.team c

  team_stays : (c : TeamCounter) → KeepsContext s j a.context → KeepsMaking s j (Owing c) → FitsTeam p a c
      → KeepsTeamRow p w m s j a c → KeepsTeamRow p w n u j a c
  team_stays team.OverheadState top making fits o = tt
  team_stays team.LoadLevels top making fits o = tt
  team_stays team.LoadActive top making fits o = levels_stay top o
  team_stays (team.LoadVariable word) top making fits (active, variables) =
      (active_stays top active, variables_stay top word variables)
  team_stays team.Want top making fits o = knows_stays top o
  team_stays team.Ask top making fits o = asked_stays top o
  team_stays (team.LoadRegionLife slot) top making fits o = team_got_stays top o
  team_stays (team.TakeRegion r) top making fits (o, fresh) =
      (team_got_stays top o, leaves.regions_fresh j r.0 other fresh)
  team_stays (team.FillRegion r word) top making fits (o, below, filled) =
      (team_got_stays top o, below, filled_stays _ _ _ _ (region_made r (making.region r refl)) filled)
  team_stays (team.LoadTaskLife r member slot) top making (got, within) (o, filled) =
      (team_got_stays top o, all_filled_stay r member (making.region r refl) (λ l below. of_member (λ (x : Tid). IsInTheMaking j (s.tasks j) x.0) a.gathered.team member l making.tasks below (omega (arith, below, within))) filled)
  team_stays (team.TakeTask r member t) top making (got, within, mine) (o, filled, fresh, free) =
      (team_got_stays top o, all_filled_stay r member (making.region r refl) (λ l below. of_member (λ (x : Tid). IsInTheMaking j (s.tasks j) x.0) a.gathered.team member l making.tasks below (omega (arith, below, within))) filled, leaves.tasks_fresh j t.0 other fresh, free)
  team_stays (team.FillTask r member t word) top making ((got, within, mine), last) (o, filled, is, below, words) =
      let made : (l : ℕ) → l < member + 1 → IsInTheMaking j (s.tasks j) (member_of a.gathered.team l).0.0 = λ l below. of_member (λ k. IsInTheMaking j (s.tasks j) k.0) a.gathered.team (member + 1) l making.tasks below (omega (arith, below, within)) in (
        team_got_stays top o,
        all_filled_stay r member (making.region r refl) (λ l below. made l (omega (arith, below))) filled,
        is,
        below,
        filled_stays _ _ _ _ (task_made t (subst (λ (k : Tid). IsInTheMaking j (s.tasks j) k.0) is (made member (omega arith)))) words,
      )
  team_stays (team.StoreMember r member t) top making (got, within, mine) (o, filled, is, below, words) =
      let made : (l : ℕ) → l < member + 1 → IsInTheMaking j (s.tasks j) (member_of a.gathered.team l).0.0 = λ l below. of_member (λ k. IsInTheMaking j (s.tasks j) k.0) a.gathered.team (member + 1) l making.tasks below (omega (arith, below, within)) in (
        team_got_stays top o,
        all_filled_stay r member (making.region r refl) (λ l below. made l (omega (arith, below))) filled,
        is,
        below,
        filled_stays _ _ _ _ (task_made t (subst (λ (k : Tid). IsInTheMaking j (s.tasks j) k.0) is (made member (omega arith)))) words,
      )
  team_stays (team.Fork r) top making fits (o, filled) =
      (team_got_stays top o, all_filled_stay r (length a.gathered.team) (making.region r refl) (λ l below. whole (λ k. IsInTheMaking j (s.tasks j) k.0) a.gathered.team l making.tasks below) filled)
    where
      whole : (P : Tid → Type 0) (xs : List (Tid × ℕ)) (l : ℕ) → All P (tasks_of xs) → l < length xs
          → P (member_of xs l).0
      whole P [] l all below = absurd (omega (arith, below))
      whole P (x ∷ xs) zero all below = All-head P x.0 (tasks_of xs) all
      whole P (x ∷ xs) (suc l) all below =
          whole P xs l (All-tail P x.0 (tasks_of xs) all) (omega (arith, below))
  team_stays (team.Assign member) top making fits o = tt

  -- ---- joins

  -- a region that this thread made and joined
  given_stays : (r : Rid) (size : ℕ) (known : List (Tid × ℕ) → Type 0) → r.0.creator ≡ a.thread → a.thread ≡ j
      → IsGivenBack s r size known → IsGivenBack u r size known
  given_stays r size known made mine (region, found, joined, is, knows) =
      let (q, now, same) = leaves.made r region found (λ e. other (sym (made ∙ mine) ∙ e)) in (
        q,
        now,
        (names.stays.alike_regions r region q found now).joined joined,
        ap length same.team ∙ is,
        subst known (sym same.team) knows,
      )

  join_stays : (c : JoinCounter) → a.thread ≡ j → FitsJoin p a c → KeepsJoinRow m s j a c → KeepsJoinRow n u j a c
  join_stays join.LoadLeft mine fits o = tt
  join_stays join.Join mine fits (maker, full) =
      let more = spares.left_kept a.context.region.0.slot in (maker, omega (arith, full, more))
  join_stays (join.LoadMember r size member) mine fits o = given_stays r size _ fits.0.1 mine o
  join_stays (join.LoadLife r size member t) mine fits o = given_stays r size _ fits.0.1 mine o
  join_stays (join.FreeTask r size member t) mine fits o = given_stays r size _ fits.0.1 mine o
  join_stays (join.FreeRegion r size) mine fits o = given_stays r size _ fits.1 mine o

  -- ---- looks at the slots

  row_of_stays : KeepsContext s j a.context → (row : Place) (k : ℕ) → OfRegion s a (IsRowOf row k)
      → OfRegion u a (IsRowOf row k)
  row_of_stays top row k (r, found, o) =
      let (q, now, same) = region_stays top r found in (q, now, subst (λ (xs : List (Tid × ℕ)). (x : Tid × ℕ) × (slice_get xs (member_at k) ≡ Some x) × (place_of x.0.0 ≡ row)) (sym same.team) o)

  made_stays : (code : ℕ) → WasMade w s code → WasMade w u code
  made_stays code o =
      let k : Tid = coded_task w code in let more = names.tasks.grow k.0.creator k.0.slot in omega (arith, o, more)

  may_stays : (v : Wait) (t x : Task) → IsSameTask t x → MayStartIn v a t → MayStartIn v a x
  may_stays (wait.Barrier b) t x same may = tt
  may_stays wait.Taskwait t x same may = same.generating ∙ may
  may_stays wait.Taskyield t x same may = same.generating ∙ may
  may_stays wait.Taskgroup t x same may = same.group ∙ may

  may_stay : (v : Wait) (k : Tid) → k.0.generation < (s.tasks k.0.creator k.0.slot).generations
      → ((t : Task) → task_of s k ≡ Some t → MayStartIn v a t) → (t : Task) → task_of u k ≡ Some t
      → MayStartIn v a t
  may_stay v k made may t live =
      let (x, was) = names.tasks.back k.0 t made live in
      may_stays v x t (names.stays.alike k x t was live) (may x was)

  tested_stays : (v : Wait) (code : ℕ) → HasTested w s a v code → HasTested w u a v code
  tested_stays (wait.Barrier b) code o = tt
  tested_stays wait.Taskwait code (made, may) =
      (made_stays code made, may_stay wait.Taskwait (coded_task w code) made may)
  tested_stays wait.Taskyield code (made, may) =
      (made_stays code made, may_stay wait.Taskyield (coded_task w code) made may)
  tested_stays wait.Taskgroup code (made, may) =
      (made_stays code made, may_stay wait.Taskgroup (coded_task w code) made may)

  abbrev in_the_hand : Counter → Option Tid
  in_the_hand c = (owed_at a.context a.gathered.team c).hand

  -- the deferred task in the hand stays one
  abbrev StaysInHand : Tid → Type 0
  StaysInHand k = (t : Task) × (task_of u k ≡ Some t) × (t.progress ≡ progress.Deferred)

  in_hand_stays : (v : Wait) (k : Tid) (known : Task → Type 0)
      → ((t x : Task) → IsSameTask t x → known t → known x) → StaysInHand k → IsInHand s a v k known
      → IsInHand u a v k known
  in_hand_stays v k known keeps (t, now, deferred) o =
      let same = names.stays.alike k o.task t o.is.live now in
      record {
        task = t;
        is = record { live = now; explicit = same.implicit ∙ o.is.explicit; progress = deferred };
        region = same.region ∙ o.region;
        may = may_stays v o.task t same o.may;
        knows = keeps o.task t same o.knows;
      }

  placed_stays : (v : Wait) (k : Tid) (f : ℕ) (final : Bool) (l : ℕ) → j < s.count → (owed a).hand ≡ Some k
      → StaysInHand k → HasPlaced w m s a v k f final l → HasPlaced w n u a v k f final l
  placed_stays v k f final l known hand now (o, filled) = (
    in_hand_stays v k (λ t. (t.function ≡ f) × (t.is_final ≡ final)) (λ t x same (g, h). (same.function ∙ g, same.is_final ∙ h)) now o,
    λ q below. spares.hand_same k o.task (start_plan w a q).field (start_plan w a q).at known hand o.is.live o.is.progress (start_field w a q) ∙ filled q below,
  )

  -- a group of the current task without an unfinished member gets none
  abbrev pub GroupsStay : Type 0
  GroupsStay = KeepsContext s j a.context → (g : Group) → g.owner ≡ a.context.task → AreMembersFinished s g → AreMembersFinished u g

  no_member_stays : GroupsStay → KeepsContext s j a.context → HasNoMember s a → HasNoMember u a
  no_member_stays stay top (g, innermost, finished) = (g, innermost, stay top g (owner a.context.open_groups innermost) finished)
    where
      owner : (l : ℕ) → innermost_or None a.context.task l ≡ Some g → g.owner ≡ a.context.task
      owner zero is = absurd (cc is)
      owner (suc l) is = ap (λ (h : Group). h.owner) (sym (some_same refl is))

  look_stays : (c : LookCounter) → GroupsStay → KeepsContext s j a.context → a.counter ≡ counter.Look c → j < s.count
      → ((k : Tid) → (owed a).hand ≡ Some k → StaysInHand k) → KeepsLookRow w m s a c → KeepsLookRow w n u a c
  look_stays (look.State v) groups top at known now o = tt
  look_stays (look.LoadRow v k) groups top at known now o = tt
  look_stays (look.LoadSlot v k row) groups top at known now o = row_of_stays top row k o
  look_stays (look.LoadGenerating v k row code) groups top at known now (o, made) =
      (row_of_stays top row k o, made_stays code made)
  look_stays (look.LoadGroup k row code) groups top at known now (o, made) =
      (row_of_stays top row k o, made_stays code made)
  look_stays (look.Take v k row code) groups top at known now (o, tested) =
      (row_of_stays top row k o, tested_stays v code tested)
  look_stays (look.LoadFunction v k code t) groups top at known now o =
      in_hand_stays v t (λ x. Unit {0}) (λ x y same h. tt) (now t (ap in_the_hand at)) o
  look_stays (look.LoadFinal v k code t f) groups top at known now o =
      in_hand_stays v t (λ x. x.function ≡ f) (λ x y same h. same.function ∙ h) (now t (ap in_the_hand at)) o
  look_stays (look.Fill v k code t f final word) groups top at known now o =
      placed_stays v t f final word known (ap in_the_hand at) (now t (ap in_the_hand at)) o
  look_stays (look.Start v k code t f final) groups top at known now o =
      placed_stays v t f final START_WORDS known (ap in_the_hand at) (now t (ap in_the_hand at)) o
  look_stays look.LoadChildren groups top at known now o = tt
  look_stays look.LoadCount groups top at known now o = tt
  look_stays look.GroupEnd groups top at known now o = no_member_stays groups top o
  look_stays (look.Yield k) groups top at known now o = tt

  -- ---- explicit tasks in the making

  place_stays : (t : Task) → IsRow s j a.context.row t → (place : Option ℕ) → HasPlace p m a place
      → HasPlace p n a place
  place_stays t row None o = tt
  place_stays t row (Some place) (defers, within, empty) =
      (defers, within, spares.slots_kept a.context.row row.task place row.live row.implicit row.thread within empty)

  environment_stays : (top : KeepsContext s j a.context) → IsRow s j a.context.row top.task → (place : Option ℕ)
      → HasEnvironment p m s a place → HasEnvironment p n u a place
  environment_stays top row place (o, variables) =
      (place_stays top.task row place o, variables_stay top VARIABLE_WORDS variables)

  loaded_stays : (top : KeepsContext s j a.context) → IsRow s j a.context.row top.task → (place : Option ℕ)
      → HasLoaded p w m s a place → HasLoaded p w n u a place
  loaded_stays top row place (o, group) = (environment_stays top row place o, group_stays top group)

  task_filled_stays : (top : KeepsContext s j a.context) → IsRow s j a.context.row top.task
      → (place : Option ℕ) (t : Tid) (l : ℕ) → All (λ k. IsInTheMaking j (s.tasks j) k.0) (t ∷ [])
      → HasFilledTask p w m s a place t l → HasFilledTask p w n u a place t l
  task_filled_stays top row place t l making (o, below, filled) =
      (loaded_stays top row place o, below, filled_stays _ _ _ _ (task_made t (All-head (λ k. IsInTheMaking j (s.tasks j) k.0) t [] making)) filled)

  task_stays : (c : TaskCounter) (top : KeepsContext s j a.context) → IsRow s j a.context.row top.task
      → KeepsMaking s j (by_task a.context c) → KeepsTaskRow p w m s j a c → KeepsTaskRow p w n u j a c
  task_stays (task.LoadSlot place) top row making o = o
  task_stays (task.LoadVariable place word) top row making (o, variables) =
      (place_stays top.task row place o, variables_stay top word variables)
  task_stays (task.LoadGroup place) top row making o = environment_stays top row place o
  task_stays (task.LoadLife place slot) top row making o = loaded_stays top row place o
  task_stays (task.Take place t) top row making (o, fresh) =
      (loaded_stays top row place o, leaves.tasks_fresh j t.0 other fresh)
  task_stays (task.Fill place t word) top row making o = task_filled_stays top row place t word making.tasks o
  task_stays (task.AddPending place t) top row making o =
      task_filled_stays top row place t TASK_WORDS making.tasks o
  task_stays (task.AddChildren place t) top row making o =
      task_filled_stays top row place t TASK_WORDS making.tasks o
  task_stays (task.AddReferences place t) top row making o =
      task_filled_stays top row place t TASK_WORDS making.tasks o
  task_stays (task.AddCount place t) top row making (o, some) =
      (task_filled_stays top row place t TASK_WORDS making.tasks o, some)
  task_stays (task.Defer place t) top row making o =
      task_filled_stays top row (Some place) t TASK_WORDS making.tasks o
  task_stays (task.StartNow t) top row making o = task_filled_stays top row None t TASK_WORDS making.tasks o

  -- ---- explicit tasks that have finished

  ended_stays : (k : Tid) (known : Tid → Type 0) → HasFinished u k → HasEndedUnder s a k known
      → HasEndedUnder u a k known
  ended_stays k known now o =
      let same = names.stays.alike k o.task now.task o.live now.live in
      record {
        task = now.task;
        live = now.live;
        explicit = now.explicit;
        progress = now.progress;
        region = same.region ∙ o.region;
        generating = o.generating;
        made_by = same.generating ∙ o.made_by;
        knows = o.knows;
      }

  group_of_stays : (k : Tid) (x : Group) → HasFinished u k → group_of s k ≡ Some x → group_of u k ≡ Some x
  group_of_stays k x now is = go (task_of s k) refl is
    where
      go : (o : Option Task) → task_of s k ≡ o → option_and_then (λ (t : Task). t.group) o ≡ Some x → group_of u k ≡ Some x
      go None live of = absurd (none_some refl of)
      go (Some t) live of =
          ap (option_and_then (λ (v : Task). v.group)) now.live
          ∙ (names.stays.alike k t now.task live now.live).group ∙ of

  -- the task that generated one which was given back: a reference of it is owed, so a task lives at its place
  above_stays : (at : Place) (known : Tid → Task → Type 0)
      → ((k : Tid) (x y : Task) → IsSameTask x y → known k x → known k y) → KeepsContext s j a.context
      → (k : Tid) (x : Task) → is_at k at ≡ true → task_of u k ≡ Some x → IsAbove s a at known → IsAbove u a at known
  above_stays at known keeps top k x is later o =
      let (creator, slot) = at_place k at is in
      let here : (u.tasks o.name.0.creator o.name.0.slot).live ≡ Some x =
      subst (λ (q : Place). (u.tasks q.creator q.slot).live ≡ Some x) (sym o.there)
      (subst (λ c. (u.tasks c at.slot).live ≡ Some x) creator
      (subst (λ h. (u.tasks k.0.creator h).live ≡ Some x) slot (found_live k.0.generation (u.tasks k.0.creator k.0.slot) x later))) in
      let (v, now, same) = lives_there s u names o.name o.task o.live x here in
      record {
        name = o.name;
        task = v;
        live = now;
        there = o.there;
        next = λ t live. o.next t (top.live ∙ ap Some (some_same (leaves.tasks a.context.task top.task top.live (λ e. other (sym top.thread ∙ e)) (begun_undeferred top.task top.begun) (begun_unfinished top.task top.begun)) live));
        knows = keeps o.name o.task v same o.knows;
      }

  ancestor_stays : (x : Option Ancestor) (k : Tid) (t v : Task) → IsSameTask t v → IsAncestor w x k t → IsAncestor w x k v
  ancestor_stays None k t v same o = same.implicit ∙ o
  ancestor_stays (Some x) k t v same (explicit, name, word) =
      (same.implicit ∙ explicit, name, ap (task_word w) same.generating ∙ word)

  finish_stays : (c : FinishCounter) → KeepsContext s j a.context → OwesOnLive u (by_finish a.context c)
      → KeepsFinishRow w s a c → KeepsFinishRow w u a c
  finish_stays finish.Finish top owes o = tt
  finish_stays (finish.LoadGenerating v t) top owes o = ended_stays t _ (owes.own t refl).0 o
  finish_stays (finish.SubtractChildren v t at) top owes o = ended_stays t _ (owes.own t refl).0 o
  finish_stays (finish.LoadGroup v t at) top owes o = ended_stays t _ (owes.own t refl).0 o
  finish_stays (finish.SubtractCount v t at group) top owes (o, (x, of, word)) =
      (ended_stays t _ (owes.own t refl).0 o, (x, group_of_stays t x (owes.own t refl).0 of, word))
  finish_stays (finish.SubtractReferences v t at) top owes o = ended_stays t _ (owes.own t refl).0 o
  finish_stays (finish.Free v t at) top owes o = ended_stays t _ (owes.gives t refl).0 o
  finish_stays (finish.LoadImplicit v at) top owes o =
      let (k, is, there) = owes.returned at refl in
      let (x, later, home) = there in
      above_stays at _ (λ q t y same h. tt) top k x is later o
  finish_stays (finish.LoadNext v at) top owes o =
      let (k, is, there) = owes.returned at refl in
      let (x, later, home) = there in
      above_stays at _ (λ q t y same h. same.implicit ∙ h) top k x is later o
  finish_stays (finish.LoadLife v at next) top owes o =
      let (k, is, there) = owes.returned at refl in
      let (x, later, home) = there in
      above_stays at _ (λ q t y same (h, e). (same.implicit ∙ h, ap (task_word w) same.generating ∙ e)) top k x is later o
  finish_stays (finish.SubtractGenerating v at explicit) top owes o =
      let (k, is, there) = owes.returned at refl in
      let (x, later, home) = there in
      above_stays at _ (ancestor_stays explicit) top k x is later o
  finish_stays (finish.SubtractPending v) top owes o = tt

  -- ---- the whole

  pub row_stays : GroupsStay → Fits p a → a.thread ≡ j → Stands p s j a
      → ((top : KeepsContext s j a.context) → IsRow s j a.context.row top.task) → j < s.count
      → ((k : Tid) → (owed a).hand ≡ Some k → StaysInHand k) → OwesOnLive u (owed a) → KeepsMaking s j (owed a)
      → ((c : BarrierCounter) → a.counter ≡ counter.Barrier c → KeepsBarrierRow s a c → KeepsBarrierRow u a c)
      → KeepsRow p w m s j a a.counter → KeepsRow p w n u j a a.counter
  row_stays groups fits mine stands rows known hands owes making barriers o = go a.counter refl o
    where
      go : (c : Counter) → a.counter ≡ c → KeepsRow p w m s j a c → KeepsRow p w n u j a c
      go (counter.Worker c) e x = worker_stays c e x
      go (counter.Team c) e x =
          team_stays c (context_of p s j a (λ d f. absurd (cc (sym e, f))) stands)
          (subst (λ (y : Counter). KeepsMaking s j (owed_at a.context a.gathered.team y)) e making)
          (subst (λ (y : Counter). FitsCounter p a y) e fits.counter) x
      go (counter.Barrier c) e x = barriers c e x
      go (counter.Join c) e x =
          join_stays c mine (subst (λ (y : Counter). FitsCounter p a y) e fits.counter) x
      go (counter.Task c) e x =
          let top = context_of p s j a (λ d f. absurd (cc (sym e, f))) stands in
          task_stays c top (rows top)
          (subst (λ (y : Counter). KeepsMaking s j (owed_at a.context a.gathered.team y)) e making) x
      go (counter.Look c) e x =
          look_stays c groups (context_of p s j a (λ d f. absurd (cc (sym e, f))) stands) e known hands x
      go (counter.Finish c) e x =
          finish_stays c (context_of p s j a (λ d f. absurd (cc (sym e, f))) stands)
          (subst (λ (y : Counter). OwesOnLive u (owed_at a.context a.gathered.team y)) e owes) x
      go (counter.Plain c) e x = tt
