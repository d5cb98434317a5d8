-- A worker meets the task that waits for it: it loads its assign word, clears it, and loads what the records of the task and of its region say.
use Rattle.std.proofs.Common.{◌≡◌, ◌≢◌, ◌<◌, ◌≤◌, ◌==◌, ◌⊎◌, inl, inr, ℕ, Bool, true, false, List, [], length, Some, refl, sym, ap, ◌∙◌, subst, arith, eqb-true, if◌then◌else◌}
use Rattle.std.proofs.lemmas.Bool.Decides.{nat_tests}
use Rattle.omi_word.specs.declared.op.Op.TheVariants as op
use Rattle.omi_script.specs.declared.program.Program.{Program}
use Rattle.omi_script.proofs.RuleLemmas.{Rules-from_accepted}
use Rattle.omi_model.specs.declared.claim.Claim.{Claim}
use Rattle.omi_model.specs.declared.claim.Claim.TheVariants as claim
use Rattle.omi_model.specs.declared.event.Event.{Event}
use Rattle.omi_model.specs.declared.id.Id.{Id}
use Rattle.omi_model.specs.declared.id.Rid.{Rid}
use Rattle.omi_model.specs.declared.id.Tid.{Tid}
use Rattle.omi_model.specs.declared.region.Region.{Region}
use Rattle.omi_model.specs.declared.task.Task.{Task}
use Rattle.omi_model.specs.LawClaims.{IsClaimKept, IsGot, IsMeantFor, WaitsForTeam}
use Rattle.omi_model.specs.State.{State, region_of, task_of}
use Rattle.omi_model.proofs.MembersKnown.{members_known}
use Rattle.omi_model.proofs.NamesLive.{names_live}
use Rattle.std.proofs.lemmas.Option.{slice_get_within}
use Rattle.omi_model.proofs.Slots.{some_same}
use Rattle.omi_model.proofs.TaskThreads.{are_manned}
use Rattle.omi_model.proofs.claims.ClaimLaws.{claims_kept}
use Rattle.omi_layout.specs.declared.field.Field.{Field}
use Rattle.omi_layout.specs.declared.field.Field.TheVariants.{RegionLife, RegionSize, TaskFunction, TaskLife, TaskNumber, TaskRegion, ThreadAssign}
use Rattle.omi_layout.specs.Field.{IsField, kind_of, regions, tasks, threads}
use Rattle.omi_layout.specs.Memory.{Memory, with_word}
use Rattle.omi_layout.specs.Named.{number}
use Rattle.omi_layout.specs.Place.{IsSlot}
use Rattle.omi_layout.specs.Table.{width}
use Rattle.omi_pc.specs.declared.actor.Actor.{Actor}
use Rattle.omi_pc.specs.declared.counter.Counter.TheVariants as counter
use Rattle.omi_pc.specs.declared.place.Place.{Place}
use Rattle.omi_pc.specs.declared.team_counter.WorkerCounter.{WorkerCounter}
use Rattle.omi_pc.specs.declared.team_counter.WorkerCounter.TheVariants as worker
use Rattle.omi_pc.specs.Fits.{FitsWorker, IsAlone}
use Rattle.omi_rep.specs.declared.outcome.Outcome.TheVariants as outcome
use Rattle.omi_rep.specs.Records.{task_address}
use Rattle.omi_rule_words.specs.Owes.{Owed, all_owed, by_worker, nothing}
use Rattle.omi_rule_words.specs.Threads.{KeepsAssign, WaitsFor}
use Rattle.omi_rule_words.proofs.Assigns.{assign_clears_keep}
use Rattle.omi_rule_words.proofs.Forks.{address_some}
use Rattle.omi_step_words.specs.Moving.{to_worker}
use Rattle.omi_step_words.specs.Placed.{IsPlacedCounter, IsPlacedWorker}
use Rattle.omi_step_words.specs.Words.{generation_of, object_in, of_place, of_region, of_task, of_thread, region_place, task_place}
use Rattle.omi_numbers.specs.Addresses.{function_at}
use Rattle.omi_step_words.proofs.ReadBack.{functions_back, generations_back, places_back}
use Rattle.omi_fork.specs.WorkerSteps.{worker_moved, worker_next, worker_outcome}
use Rattle.omi_rule.specs.Chains.{worker_ahead}
use Rattle.omi_rule.specs.Rows.{HasSize, KeepsWorkerRow, place_of}
use Rattle.omi_rule.specs.Steps.{IsOn, KeepsRule, RecordWord, StepKeeps}
use Rattle.omi_rule.specs.Waits.{ForTask}
use Rattle.omi_rule.proofs.OwnWords.{load_on, own_thread, store_on, thread_word}
use Rattle.omi_rule.proofs.Assembly.{Before, load_stays, load_waits, quiet_keeps, spares_own}
use Rattle.omi_rule.proofs.Generations.{generations_below}
use Rattle.omi_rule.proofs.KeptObjects.{region_kept, region_life, region_there, task_kept, task_life, task_there}
use Rattle.omi_rule.proofs.Owing.{owed_after}
use Rattle.omi_rule.proofs.worker.WorkerEvents.{alone_after, fits_worker, owes_now, row_is, stands_alone, worker_list}

-- words of a task's and of a region's record
abbrev pub task_word : Id → Field → RecordWord
task_word k f = record { creator = k.creator; slot = k.slot; field = f; place = 0 }

module _ (p : Program) (w : List ℕ) (m : Memory) (events : List (ℕ × Event)) (s : State) (actors : ℕ → Actor)
    (i : ℕ) (before : Before p w m events s actors i) where
  -- the number of a function fits a byte
  few_functions : (f : ℕ) → f < length p.funcs → f < 256
  few_functions f within = omega (arith, within, (Rules-from_accepted p).functions)

  -- ---- tasks that wait

  meant : (k : Tid) → WaitsFor s i k → IsMeantFor s k i
  meant k o = record { task = o.task; live = o.live; waiting = o.progress; thread = o.thread }

  pub one_waits : (k : Tid) → WaitsFor s i k → (t : Tid) → WaitsFor s i t → t ≡ k
  one_waits k o t x =
      let (team, by, one) = (claims_kept p events s before.rule.reached i).meant k (meant k o) in one t (meant t x)

  -- a worker that waits for a team has no task that waits for it, or one that does
  decided : WaitsForTeam s i → ((k : Tid) → WaitsFor s i k → ⊥) ⊎ ((k : Tid) × WaitsFor s i k)
  decided waits = go (s.threads i).claim refl
    where
      kept : IsClaimKept s i
      kept = claims_kept p events s before.rule.reached i

      waits_of : (k : Tid) → IsMeantFor s k i → WaitsFor s i k
      waits_of k o = record { task = o.task; live = o.live; progress = o.waiting; thread = o.thread }

      go : (c : Claim) → (s.threads i).claim ≡ c
          → ((k : Tid) → WaitsFor s i k → ⊥) ⊎ ((k : Tid) × WaitsFor s i k)
      go claim.Own e = inl (λ k o. let (team, by, one) = kept.meant k (meant k o) in absurd (cc (sym e ∙ by)))
      go claim.Free e = inl (λ k o. let (team, nobody) = kept.free e in nobody k (meant k o))
      go (claim.By c) e = by (kept.waits c waits e)
        where
          by : ((k : Tid) × IsMeantFor s k i) ⊎ IsGot s c i
              → ((k : Tid) → WaitsFor s i k → ⊥) ⊎ ((k : Tid) × WaitsFor s i k)
          by (inl (k, o)) = inr (k, waits_of k o)
          by (inr got) = inl (λ k o. let (team, by, nobody) = kept.got c got in nobody k (meant k o))

  pub implicit_is : (k : Tid) (o : WaitsFor s i k) → o.task.implicit ≡ true
  implicit_is k o =
      (((members_known p events s before.rule.reached).encountered k o.task o.live).waiting o.progress).0

  pub maker_of : (k : Tid) (t : Task) → task_of s k ≡ Some t → k.0.creator < p.threads
  maker_of k t live =
      subst (λ n. k.0.creator < n) (sym before.suits.threads)
      (task_there p w m events s actors before.rule k t live).made_by

  pub region_maker_of : (n : Rid) (r : Region) → region_of s n ≡ Some r → n.0.creator < p.threads
  region_maker_of n r live =
      subst (λ c. n.0.creator < c) (sym before.suits.threads)
      (region_there p w m events s actors before.rule n r live).made_by

  -- ---- a load that leads to another counter

  module _ (c : WorkerCounter) (at : (actors i).counter ≡ counter.Worker c) (alone : (actors i).stack ≡ [])
      (address : ℕ) (x : RecordWord) (d : WorkerCounter) where
    goes_on : FitsWorker p (to_worker d (actors i)) d → IsPlacedWorker w d
        → worker_ahead s d ≡ worker_ahead s c → KeepsWorkerRow w m s i d → by_worker d ≡ by_worker c
        → KeepsRule p w m events s actors i (op.Load address) x (to_worker d (actors i), outcome.Quiet)
    goes_on fits placed list row owes =
        load_stays p w m events s actors i before address x (to_worker d (actors i))
        (owes ∙ sym (owes_now p w m events s actors i before c at))
        (alone_after p w m events s actors i before c at alone m events s d fits placed (stands_alone p w m events s actors i before c at alone).current (worker_list p w m events s actors i before c at alone ∙ sym list) row)

  -- ---- the records of a task and of a region

  task_on : (k : Tid) (t : Task) (f : Field) → task_of s k ≡ Some t → IsField (number f)
      → kind_of (number f) ≡ tasks → 0 < width w (number f)
      → IsOn w (op.Load (of_task w k f)) (task_word k.0 f)
  task_on k t f live field kind within = record {
    there = record { field = field; record_slot = subst (λ q. IsSlot w q k.0.creator k.0.slot) (sym kind) (task_there p w m events s actors before.rule k t live); within = within };
    address = refl;
  }

  region_on : (n : Rid) (r : Region) (f : Field) → region_of s n ≡ Some r → IsField (number f)
      → kind_of (number f) ≡ regions → 0 < width w (number f)
      → IsOn w (op.Load (of_region w n f)) (task_word n.0 f)
  region_on n r f live field kind within = record {
    there = record { field = field; record_slot = subst (λ q. IsSlot w q n.0.creator n.0.slot) (sym kind) (region_there p w m events s actors before.rule n r live); within = within };
    address = refl;
  }

  -- ---- the life word of the task

  pub loads_life : (t : Place) → (actors i).counter ≡ counter.Worker (worker.LoadLife t)
      → StepKeeps p w m events s actors i (worker_next w (actors i) (worker.LoadLife t))
      (λ old. (worker_moved p w (actors i) (worker.LoadLife t) old, worker_outcome w (actors i) (worker.LoadLife t) old))
  loads_life t at = go (row_is p w m events s actors i before (worker.LoadLife t) at)
    where
      go : (k : Tid) × WaitsFor s i k × (place_of k.0 ≡ t)
          → StepKeeps p w m events s actors i (op.Load (of_place w t TaskLife)) (λ old. (to_worker (worker.LoadFunction (record { 0 = object_in t old })) (actors i), outcome.Quiet))
      go (k, o, is) =
          subst (λ (q : Place). StepKeeps p w m events s actors i (op.Load (of_place w q TaskLife)) (λ old. (to_worker (worker.LoadFunction (record { 0 = object_in q old })) (actors i), outcome.Quiet))) is (
            task_word k.0 TaskLife,
            task_on k o.task TaskLife o.live (record { from = omega arith; to = omega arith }) refl (omega arith),
            subst
                (λ (q : Tid). KeepsRule p w m events s actors i (op.Load (of_task w k TaskLife)) (task_word k.0 TaskLife) (to_worker (worker.LoadFunction q) (actors i), outcome.Quiet))
                (sym same)
                (goes_on (worker.LoadLife t) at alone (of_task w k TaskLife) (task_word k.0 TaskLife) (worker.LoadFunction k) (alone, maker_of k o.task o.live) (task_there p w m events s actors before.rule k o.task o.live) refl o refl),
          )
        where
          alone : IsAlone (actors i)
          alone = (fits_worker p w m events s actors i before (worker.LoadLife t) at).0

          same : record { 0 = object_in (place_of k.0) (m k.0.creator tasks k.0.slot (number TaskLife) 0) } ≡ k
          same =
              ap (λ (g : ℕ). record { 0 = record { creator = k.0.creator; slot = k.0.slot; generation = g } })
              (ap generation_of (task_life p w m events s actors before.rule k o.task o.live) ∙ generations_back k.0 ((generations_below p events s before.rule.reached).tasks k o.task o.live))

  -- ---- the assign word

  placed_now : {t : Place} → (actors i).counter ≡ counter.Worker (worker.ClearAssign t)
      → IsSlot w tasks t.creator t.slot
  placed_now at = subst (IsPlacedCounter w (actors i)) at (before.rule.threads i before.known).placed.counter

  pub loads_assign : (actors i).counter ≡ counter.Worker worker.LoadAssign
      → StepKeeps p w m events s actors i (worker_next w (actors i) worker.LoadAssign)
      (λ old. (worker_moved p w (actors i) worker.LoadAssign old, worker_outcome w (actors i) worker.LoadAssign old))
  loads_assign at = (
    thread_word i ThreadAssign,
    load_on p w m events s actors i before ThreadAssign refl,
    go (m i threads 0 (number ThreadAssign) 0 == 0) refl,
  )
    where
      alone : IsAlone (actors i)
      alone = fits_worker p w m events s actors i before worker.LoadAssign at

      waiting : WaitsForTeam s i
      waiting = record { idle = (stands_alone p w m events s actors i before worker.LoadAssign at alone).current; ahead = worker_list p w m events s actors i before worker.LoadAssign at alone }

      assign : KeepsAssign w s (all_owed actors) i (m i threads 0)
      assign = (before.rule.words.made i before.known).assign

      go : (b : Bool) → m i threads 0 (number ThreadAssign) 0 == 0 ≡ b
          → KeepsRule p w m events s actors i (op.Load (of_thread w (actors i).thread ThreadAssign)) (thread_word i ThreadAssign) (
            (if b then actors i else to_worker (worker.ClearAssign (task_place w (m i threads 0 (number ThreadAssign) 0))) (actors i)),
            (if b then outcome.NotReady (of_thread w (actors i).thread ThreadAssign) (m i threads 0 (number ThreadAssign) 0) else outcome.Quiet),
          )
      go true e =
          load_waits p w m events s actors i before (of_thread w (actors i).thread ThreadAssign)
          (thread_word i ThreadAssign) (actors i)
          (ForTask waiting (own_thread p w m events s actors i before ThreadAssign) (eqb-true (m i threads 0 (number ThreadAssign) 0) 0 e)) refl
          (before.rule.threads i before.known)
      go false e = by (decided waiting)
        where
          some : m i threads 0 (number ThreadAssign) 0 ≢ 0
          some = λ zero. grind (arith, nat_tests)

          by : ((k : Tid) → WaitsFor s i k → ⊥) ⊎ ((k : Tid) × WaitsFor s i k)
              → KeepsRule p w m events s actors i (op.Load (of_thread w (actors i).thread ThreadAssign))
              (thread_word i ThreadAssign)
              (to_worker (worker.ClearAssign (task_place w (m i threads 0 (number ThreadAssign) 0))) (actors i), outcome.Quiet)
          by (inl none) = absurd (some (assign.none none))
          by (inr (k, o)) = of_word ((assign.waiting k o).word_is)
            where
              of_word : (m i threads 0 (number ThreadAssign) 0 ≡ 0) ⊎ (m i threads 0 (number ThreadAssign) 0 ≡ task_address w k)
                  → KeepsRule p w m events s actors i (op.Load (of_thread w (actors i).thread ThreadAssign))
                  (thread_word i ThreadAssign)
                  (to_worker (worker.ClearAssign (task_place w (m i threads 0 (number ThreadAssign) 0))) (actors i), outcome.Quiet)
              of_word (inl zero) = absurd (some zero)
              of_word (inr is) =
                  let there : IsSlot w tasks k.0.creator k.0.slot =
                  task_there p w m events s actors before.rule k o.task o.live in
                  let same : task_place w (m i threads 0 (number ThreadAssign) 0) ≡ place_of k.0 =
                  ap (task_place w) is
                  ∙ places_back w tasks k.0.creator k.0.slot before.valid
                  (record { from = omega arith; to = omega arith }) there in
                  subst
                  (λ (q : Place). KeepsRule p w m events s actors i (op.Load (of_thread w (actors i).thread ThreadAssign)) (thread_word i ThreadAssign) (to_worker (worker.ClearAssign q) (actors i), outcome.Quiet))
                  (sym same)
                  (goes_on worker.LoadAssign at alone (of_thread w (actors i).thread ThreadAssign) (thread_word i ThreadAssign) (worker.ClearAssign (place_of k.0)) (alone, maker_of k o.task o.live) there refl (k, o, refl, is) refl)

  pub clears_assign : (t : Place) → (actors i).counter ≡ counter.Worker (worker.ClearAssign t)
      → StepKeeps p w m events s actors i (worker_next w (actors i) (worker.ClearAssign t))
      (λ old. (worker_moved p w (actors i) (worker.ClearAssign t) old, worker_outcome w (actors i) (worker.ClearAssign t) old))
  clears_assign t at = (
    thread_word i ThreadAssign,
    store_on p w m events s actors i before ThreadAssign 0 refl,
    go (row_is p w m events s actors i before (worker.ClearAssign t) at),
  )
    where
      fit : IsAlone (actors i) × (t.creator < p.threads)
      fit = fits_worker p w m events s actors i before (worker.ClearAssign t) at

      owes : all_owed actors i ≡ nothing
      owes = owes_now p w m events s actors i before (worker.ClearAssign t) at

      go : (k : Tid) × WaitsFor s i k × (place_of k.0 ≡ t) × (m i threads 0 (number ThreadAssign) 0 ≡ task_address w k)
          → KeepsRule p w m events s actors i (op.Store (of_thread w (actors i).thread ThreadAssign) 0)
          (thread_word i ThreadAssign) (to_worker (worker.LoadLife t) (actors i), outcome.Quiet)
      go (k, o, is, word) =
          quiet_keeps p w m events s actors i before (op.Store (of_thread w (actors i).thread ThreadAssign) 0)
          (thread_word i ThreadAssign) (to_worker (worker.LoadLife t) (actors i), outcome.Quiet) refl
          (owed_after w (with_word m i threads 0 (number ThreadAssign) 0 0) s actors i (to_worker (worker.LoadLife t) (actors i)) (record (all_owed actors i) { met = true }) (ap (λ (x : Owed). record x { met = true }) (sym owes))
          (assign_clears_keep w m s (all_owed actors) i k before.rule.words before.known word (ap (λ (x : Owed). x.met) owes) o (one_waits k o) (address_some w before.valid k)))
          (λ j other. spares_own m s i threads 0 (number ThreadAssign) 0 0 j (actors j) other (λ kind. absurd (omega (arith, kind))))
          (alone_after p w m events s actors i before (worker.ClearAssign t) at fit.0 (with_word m i threads 0 (number ThreadAssign) 0 0) events s (worker.LoadLife t) fit (placed_now at) (stands_alone p w m events s actors i before (worker.ClearAssign t) at fit.0).current
          (worker_list p w m events s actors i before (worker.ClearAssign t) at fit.0) (k, o, is))

  -- ---- the task's function and region

  pub loads_function : (k : Tid) → (actors i).counter ≡ counter.Worker (worker.LoadFunction k)
      → StepKeeps p w m events s actors i (worker_next w (actors i) (worker.LoadFunction k))
      (λ old. (worker_moved p w (actors i) (worker.LoadFunction k) old, worker_outcome w (actors i) (worker.LoadFunction k) old))
  loads_function k at =
      let o : WaitsFor s i k = row_is p w m events s actors i before (worker.LoadFunction k) at in
      let fit = fits_worker p w m events s actors i before (worker.LoadFunction k) at in
      let known : o.task.function < length p.funcs =
      (before.rule.waiting k o.task o.live o.progress).function in
      let kept = (task_kept p w m events s actors before.rule k o.task o.live).environment in
      let same : function_at (m k.0.creator tasks k.0.slot (number TaskFunction) 0) ≡ o.task.function = ap function_at (kept TaskFunction 0 _ refl refl) ∙ functions_back o.task.function (few_functions o.task.function known) in (
        task_word k.0 TaskFunction,
        task_on k o.task TaskFunction o.live (record { from = omega arith; to = omega arith }) refl (omega arith),
        subst
            (λ f. KeepsRule p w m events s actors i (op.Load (of_task w k TaskFunction)) (task_word k.0 TaskFunction) (to_worker (worker.LoadRegion k f) (actors i), outcome.Quiet))
            (sym same)
            (goes_on (worker.LoadFunction k) at fit.0 (of_task w k TaskFunction) (task_word k.0 TaskFunction) (worker.LoadRegion k o.task.function) (fit, known) (task_there p w m events s actors before.rule k o.task o.live) refl (o, refl) refl),
      )

  pub loads_region : (k : Tid) (f : ℕ) → (actors i).counter ≡ counter.Worker (worker.LoadRegion k f)
      → StepKeeps p w m events s actors i (worker_next w (actors i) (worker.LoadRegion k f))
      (λ old. (worker_moved p w (actors i) (worker.LoadRegion k f) old, worker_outcome w (actors i) (worker.LoadRegion k f) old))
  loads_region k f at = go (row_is p w m events s actors i before (worker.LoadRegion k f) at)
    where
      go : (o : WaitsFor s i k) × (o.task.function ≡ f)
          → StepKeeps p w m events s actors i (op.Load (of_task w k TaskRegion))
          (λ old. (to_worker (worker.LoadRegionLife k f (region_place w old)) (actors i), outcome.Quiet))
      go (o, is) =
          let fit = fits_worker p w m events s actors i before (worker.LoadRegion k f) at in
          let (r, found) = ((names_live p events s before.rule.reached).tasks k o.task o.live).region in
          let there : IsSlot w regions o.task.region.0.creator o.task.region.0.slot =
          region_there p w m events s actors before.rule o.task.region r found in
          let kept = (task_kept p w m events s actors before.rule k o.task o.live).environment in
          let same : region_place w (m k.0.creator tasks k.0.slot (number TaskRegion) 0) ≡ place_of o.task.region.0 =
          ap (region_place w) (kept TaskRegion 0 _ refl refl) ∙ places_back w regions o.task.region.0.creator o.task.region.0.slot before.valid (record { from = omega arith; to = omega arith }) there in (
            task_word k.0 TaskRegion,
            task_on k o.task TaskRegion o.live (record { from = omega arith; to = omega arith }) refl (omega arith),
            subst
                (λ (q : Place). KeepsRule p w m events s actors i (op.Load (of_task w k TaskRegion)) (task_word k.0 TaskRegion) (to_worker (worker.LoadRegionLife k f q) (actors i), outcome.Quiet))
                (sym same)
                (goes_on (worker.LoadRegion k f) at fit.0.0 (of_task w k TaskRegion) (task_word k.0 TaskRegion) (worker.LoadRegionLife k f (place_of o.task.region.0)) (fit, region_maker_of o.task.region r found)
                (task_there p w m events s actors before.rule k o.task o.live, there) refl (o, (is, refl)) refl),
          )

  -- ---- the region

  pub loads_region_life : (k : Tid) (f : ℕ) (t : Place)
      → (actors i).counter ≡ counter.Worker (worker.LoadRegionLife k f t)
      → StepKeeps p w m events s actors i (worker_next w (actors i) (worker.LoadRegionLife k f t))
      (λ old. (worker_moved p w (actors i) (worker.LoadRegionLife k f t) old, worker_outcome w (actors i) (worker.LoadRegionLife k f t) old))
  loads_region_life k f t at = go (row_is p w m events s actors i before (worker.LoadRegionLife k f t) at)
    where
      go : (o : WaitsFor s i k) × ((o.task.function ≡ f) × (place_of o.task.region.0 ≡ t))
          → StepKeeps p w m events s actors i (op.Load (of_place w t RegionLife))
          (λ old. (to_worker (worker.LoadSize k f (record { 0 = object_in t old })) (actors i), outcome.Quiet))
      go (o, (is, place)) =
          let fit = fits_worker p w m events s actors i before (worker.LoadRegionLife k f t) at in
          let (r, found) = ((names_live p events s before.rule.reached).tasks k o.task o.live).region in
          let q : Rid = o.task.region in
          let same : record { 0 = object_in (place_of q.0) (m q.0.creator regions q.0.slot (number RegionLife) 0) } ≡ q =
          ap (λ (g : ℕ). record { 0 = record { creator = q.0.creator; slot = q.0.slot; generation = g } })
          (ap generation_of (region_life p w m events s actors before.rule q r found) ∙ generations_back q.0 ((generations_below p events s before.rule.reached).regions q r found)) in
          subst (λ (z : Place). StepKeeps p w m events s actors i (op.Load (of_place w z RegionLife)) (λ old. (to_worker (worker.LoadSize k f (record { 0 = object_in z old })) (actors i), outcome.Quiet))) place (
            task_word q.0 RegionLife,
            region_on q r RegionLife found (record { from = omega arith; to = omega arith }) refl (omega arith),
            subst
                (λ (z : Rid). KeepsRule p w m events s actors i (op.Load (of_region w q RegionLife)) (task_word q.0 RegionLife) (to_worker (worker.LoadSize k f z) (actors i), outcome.Quiet))
                (sym same)
                (goes_on (worker.LoadRegionLife k f t) at fit.0.0.0 (of_region w q RegionLife) (task_word q.0 RegionLife) (worker.LoadSize k f q) (fit.0, region_maker_of q r found)
                (task_there p w m events s actors before.rule k o.task o.live, region_there p w m events s actors before.rule q r found) refl (o, (is, refl)) refl),
          )

  pub loads_size : (k : Tid) (f : ℕ) (q : Rid) → (actors i).counter ≡ counter.Worker (worker.LoadSize k f q)
      → StepKeeps p w m events s actors i (worker_next w (actors i) (worker.LoadSize k f q))
      (λ old. (worker_moved p w (actors i) (worker.LoadSize k f q) old, worker_outcome w (actors i) (worker.LoadSize k f q) old))
  loads_size k f q at = go (row_is p w m events s actors i before (worker.LoadSize k f q) at)
    where
      go : (o : WaitsFor s i k) × ((o.task.function ≡ f) × (o.task.region ≡ q))
          → StepKeeps p w m events s actors i (op.Load (of_region w q RegionSize))
          (λ old. (to_worker (worker.LoadNumber k f q old) (actors i), outcome.Quiet))
      go (o, (is, same_region)) =
          let fit = fits_worker p w m events s actors i before (worker.LoadSize k f q) at in
          let (r, found') = ((names_live p events s before.rule.reached).tasks k o.task o.live).region in
          let found : region_of s q ≡ Some r =
          subst (λ (z : Rid). region_of s z ≡ Some r) same_region found' in
          let same : m q.0.creator regions q.0.slot (number RegionSize) 0 ≡ length r.team =
          (region_kept p w m events s actors before.rule q r found).codes RegionSize 0 _ refl in
          let few : length r.team ≤ p.threads = subst (λ c. length r.team ≤ c) (before.rule.within.count ∙ sym before.suits.threads) ((are_manned p events s before.rule.reached).regions q r found) in (
            task_word q.0 RegionSize,
            region_on q r RegionSize found (record { from = omega arith; to = omega arith }) refl (omega arith),
            subst
                (λ size. KeepsRule p w m events s actors i (op.Load (of_region w q RegionSize)) (task_word q.0 RegionSize) (to_worker (worker.LoadNumber k f q size) (actors i), outcome.Quiet))
                (sym same)
                (goes_on (worker.LoadSize k f q) at fit.0.0.0 (of_region w q RegionSize) (task_word q.0 RegionSize) (worker.LoadNumber k f q (length r.team)) (fit, few)
                (task_there p w m events s actors before.rule k o.task o.live, region_there p w m events s actors before.rule q r found) refl ((o, (is, same_region)), (r, found, refl)) refl),
          )

  pub loads_number : (k : Tid) (f : ℕ) (q : Rid) (size : ℕ)
      → (actors i).counter ≡ counter.Worker (worker.LoadNumber k f q size)
      → StepKeeps p w m events s actors i (worker_next w (actors i) (worker.LoadNumber k f q size))
      (λ old. (worker_moved p w (actors i) (worker.LoadNumber k f q size) old, worker_outcome w (actors i) (worker.LoadNumber k f q size) old))
  loads_number k f q size at = go (row_is p w m events s actors i before (worker.LoadNumber k f q size) at)
    where
      go : ((o : WaitsFor s i k) × ((o.task.function ≡ f) × (o.task.region ≡ q))) × HasSize s q size
          → StepKeeps p w m events s actors i (op.Load (of_task w k TaskNumber))
          (λ old. (to_worker (worker.ImplicitBegin k f q size old) (actors i), outcome.Quiet))
      go ((o, (is, same_region)), (r, found, sized)) =
          let fit = fits_worker p w m events s actors i before (worker.LoadNumber k f q size) at in
          let known = members_known p events s before.rule.reached in
          let kept =
          (task_kept p w m events s actors before.rule k o.task o.live).place
          (λ explicit _. let implicit = implicit_is k o in cc (sym implicit, explicit)) in
          let (x, live, member) = known.tasks k o.task o.live (implicit_is k o) in
          let one : x ≡ r =
          some_same live (subst (λ (z : Rid). region_of s z ≡ Some r) (sym same_region) found) in
          let inside : o.task.number < size =
          subst (λ n. o.task.number < n) (ap (λ (z : Region). length z.team) one ∙ sized)
          (slice_get_within x.team o.task.number (k, o.task.thread) member) in
          let other : o.task.number ≢ 0 = λ zero. (((known.encountered k o.task o.live).waiting o.progress).1) zero in (
            task_word k.0 TaskNumber,
            task_on k o.task TaskNumber o.live (record { from = omega arith; to = omega arith }) refl (omega arith),
            subst
                (λ n. KeepsRule p w m events s actors i (op.Load (of_task w k TaskNumber)) (task_word k.0 TaskNumber) (to_worker (worker.ImplicitBegin k f q size n) (actors i), outcome.Quiet))
                (sym (kept TaskNumber 0 _ refl refl))
                (goes_on (worker.LoadNumber k f q size) at fit.0.0.0.0 (of_task w k TaskNumber) (task_word k.0 TaskNumber) (worker.ImplicitBegin k f q size o.task.number) (fit, inside, other)
                (task_there p w m events s actors before.rule k o.task o.live, region_there p w m events s actors before.rule q r found) refl ((o, (is, same_region, refl)), (r, found, sized)) refl),
          )
