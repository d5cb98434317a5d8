-- What a thread owes on the count of a region, and on the counts of a task that makes another one: it is in the region, and at work in the task.
use Rattle.std.proofs.Common.{◌≡◌, ◌<◌, ℕ, false, List, Option, Some, None, refl, sym, ap, ◌∙◌}
use Rattle.omi_script.specs.declared.program.Program.{Program}
use Rattle.omi_model.specs.declared.event.Event.{Event}
use Rattle.omi_model.specs.declared.id.Rid.{Rid}
use Rattle.omi_model.specs.declared.id.Tid.{Tid}
use Rattle.omi_model.specs.declared.progress.Progress.TheVariants as progress
use Rattle.omi_model.specs.declared.region.Region.{Region}
use Rattle.omi_model.specs.declared.task.Task.{Task}
use Rattle.omi_model.specs.State.{State, region_of, task_of}
use Rattle.omi_model.proofs.Slots.{some_same}
use Rattle.omi_layout.specs.Memory.{Memory}
use Rattle.omi_pc.specs.declared.actor.Actor.{Actor}
use Rattle.omi_pc.specs.declared.context.Context.{Context}
use Rattle.omi_pc.specs.declared.counter.Counter.{Counter}
use Rattle.omi_pc.specs.declared.counter.Counter.TheVariants as counter
use Rattle.omi_pc.specs.declared.task_counter.FinishCounter.{FinishCounter}
use Rattle.omi_pc.specs.declared.task_counter.FinishCounter.TheVariants as finish
use Rattle.omi_pc.specs.declared.task_counter.LookCounter.{LookCounter}
use Rattle.omi_pc.specs.declared.task_counter.LookCounter.TheVariants as look
use Rattle.omi_pc.specs.declared.task_counter.TaskCounter.{TaskCounter}
use Rattle.omi_pc.specs.declared.task_counter.TaskCounter.TheVariants as task
use Rattle.omi_pc.specs.declared.team_counter.TeamCounter.{TeamCounter}
use Rattle.omi_pc.specs.declared.team_counter.TeamCounter.TheVariants as team
use Rattle.omi_pc.specs.declared.team_counter.WorkerCounter.{WorkerCounter}
use Rattle.omi_pc.specs.declared.team_counter.WorkerCounter.TheVariants as worker
use Rattle.omi_rule_words.specs.Owes.{Owed, by_finish, by_look, by_task, by_team, by_worker, nothing, owed, owed_at}
use Rattle.omi_rule.specs.Chains.{KeepsContext}
use Rattle.omi_rule.specs.Rule.{Rule}
use Rattle.omi_rule.proofs.OwnRow.{is_open}
use Rattle.omi_rule.proofs.OwnTask.{in_task, top}

-- nothing is owed on a count
pub record OwesNoCount (o : Owed) : Type 0 where
  pub pending : o.pending ≡ None
  pub raised : o.raised ≡ None
  pub referred : o.referred ≡ None

-- what is owed on counts in a task with this context
pub record OwesInside (c : Context) (o : Owed) : Type 0 where
  pub pending : (n : Rid) → o.pending ≡ Some n → c.region ≡ n
  pub raised : (k : Tid) → o.raised ≡ Some k → c.task ≡ k
  pub referred : (k : Tid) → o.referred ≡ Some k → c.task ≡ k

none_inside : (c : Context) (o : Owed) → OwesNoCount o → OwesInside c o
none_inside c o none = record {
  pending = λ n is. absurd (cc (none.pending, is));
  raised = λ k is. absurd (cc (none.raised, is));
  referred = λ k is. absurd (cc (none.referred, is));
}

of_worker : (x : WorkerCounter) → OwesNoCount (by_worker x)
of_worker worker.Begin = record { pending = refl; raised = refl; referred = refl }
of_worker worker.Offer = record { pending = refl; raised = refl; referred = refl }
of_worker worker.LoadAssign = record { pending = refl; raised = refl; referred = refl }
of_worker (worker.ClearAssign x) = record { pending = refl; raised = refl; referred = refl }
of_worker (worker.LoadLife x) = record { pending = refl; raised = refl; referred = refl }
of_worker (worker.LoadFunction x) = record { pending = refl; raised = refl; referred = refl }
of_worker (worker.LoadRegion x y) = record { pending = refl; raised = refl; referred = refl }
of_worker (worker.LoadRegionLife x y z) = record { pending = refl; raised = refl; referred = refl }
of_worker (worker.LoadSize x y z) = record { pending = refl; raised = refl; referred = refl }
of_worker (worker.LoadNumber x y z u) = record { pending = refl; raised = refl; referred = refl }
of_worker (worker.ImplicitBegin x y z u v) = record { pending = refl; raised = refl; referred = refl }
of_worker worker.ImplicitEnd = record { pending = refl; raised = refl; referred = refl }
of_worker (worker.AddLeft x) = record { pending = refl; raised = refl; referred = refl }
of_worker worker.IdleState = record { pending = refl; raised = refl; referred = refl }

of_team : (members : List (Tid × ℕ)) (x : TeamCounter) → OwesNoCount (by_team members x)
of_team members team.OverheadState = record { pending = refl; raised = refl; referred = refl }
of_team members team.LoadLevels = record { pending = refl; raised = refl; referred = refl }
of_team members team.LoadActive = record { pending = refl; raised = refl; referred = refl }
of_team members (team.LoadVariable x) = record { pending = refl; raised = refl; referred = refl }
of_team members team.Want = record { pending = refl; raised = refl; referred = refl }
of_team members team.Ask = record { pending = refl; raised = refl; referred = refl }
of_team members (team.LoadRegionLife x) = record { pending = refl; raised = refl; referred = refl }
of_team members (team.TakeRegion x) = record { pending = refl; raised = refl; referred = refl }
of_team members (team.FillRegion x y) = record { pending = refl; raised = refl; referred = refl }
of_team members (team.LoadTaskLife x y z) = record { pending = refl; raised = refl; referred = refl }
of_team members (team.TakeTask x y z) = record { pending = refl; raised = refl; referred = refl }
of_team members (team.FillTask x y z u) = record { pending = refl; raised = refl; referred = refl }
of_team members (team.StoreMember x y z) = record { pending = refl; raised = refl; referred = refl }
of_team members (team.Fork x) = record { pending = refl; raised = refl; referred = refl }
of_team members (team.Assign x) = record { pending = refl; raised = refl; referred = refl }

of_look : (x : LookCounter) → OwesNoCount (by_look x)
of_look (look.State x) = record { pending = refl; raised = refl; referred = refl }
of_look (look.LoadRow x y) = record { pending = refl; raised = refl; referred = refl }
of_look (look.LoadSlot x y z) = record { pending = refl; raised = refl; referred = refl }
of_look (look.LoadGenerating x y z u) = record { pending = refl; raised = refl; referred = refl }
of_look (look.LoadGroup x y z) = record { pending = refl; raised = refl; referred = refl }
of_look (look.Take x y z u) = record { pending = refl; raised = refl; referred = refl }
of_look (look.LoadFunction x y z u) = record { pending = refl; raised = refl; referred = refl }
of_look (look.LoadFinal x y z u v) = record { pending = refl; raised = refl; referred = refl }
of_look (look.Fill x y z u v o q) = record { pending = refl; raised = refl; referred = refl }
of_look (look.Start x y z u v o) = record { pending = refl; raised = refl; referred = refl }
of_look look.LoadChildren = record { pending = refl; raised = refl; referred = refl }
of_look look.LoadCount = record { pending = refl; raised = refl; referred = refl }
of_look look.GroupEnd = record { pending = refl; raised = refl; referred = refl }
of_look (look.Yield x) = record { pending = refl; raised = refl; referred = refl }

of_task : (c : Context) (x : TaskCounter) → OwesInside c (by_task c x)
of_task c (task.LoadSlot x) = record { pending = λ n is. absurd (cc is); raised = λ k is. absurd (cc is); referred = λ k is. absurd (cc is) }
of_task c (task.LoadVariable x y) = record { pending = λ n is. absurd (cc is); raised = λ k is. absurd (cc is); referred = λ k is. absurd (cc is) }
of_task c (task.LoadGroup x) = record { pending = λ n is. absurd (cc is); raised = λ k is. absurd (cc is); referred = λ k is. absurd (cc is) }
of_task c (task.LoadLife x y) = record { pending = λ n is. absurd (cc is); raised = λ k is. absurd (cc is); referred = λ k is. absurd (cc is) }
of_task c (task.Take x y) = record { pending = λ n is. absurd (cc is); raised = λ k is. absurd (cc is); referred = λ k is. absurd (cc is) }
of_task c (task.Fill x y z) = record { pending = λ n is. absurd (cc is); raised = λ k is. absurd (cc is); referred = λ k is. absurd (cc is) }
of_task c (task.AddPending x y) = record { pending = λ n is. absurd (cc is); raised = λ k is. absurd (cc is); referred = λ k is. absurd (cc is) }
of_task c (task.AddChildren x y) = record { pending = λ n is. some_same refl is; raised = λ k is. absurd (cc is); referred = λ k is. absurd (cc is) }
of_task c (task.AddReferences x y) = record { pending = λ n is. some_same refl is; raised = λ k is. some_same refl is; referred = λ k is. absurd (cc is) }
of_task c (task.AddCount x y) = record { pending = λ n is. some_same refl is; raised = λ k is. some_same refl is; referred = λ k is. some_same refl is }
of_task c (task.Defer x y) = record { pending = λ n is. some_same refl is; raised = λ k is. some_same refl is; referred = λ k is. some_same refl is }
of_task c (task.StartNow x) = record { pending = λ n is. some_same refl is; raised = λ k is. some_same refl is; referred = λ k is. some_same refl is }

of_finish : (c : Context) (x : FinishCounter) → OwesInside c (by_finish c x)
of_finish c finish.Finish = record { pending = λ n is. absurd (cc is); raised = λ k is. absurd (cc is); referred = λ k is. absurd (cc is) }
of_finish c (finish.LoadGenerating x y) = record { pending = λ n is. some_same refl is; raised = λ k is. absurd (cc is); referred = λ k is. absurd (cc is) }
of_finish c (finish.SubtractChildren x y z) = record { pending = λ n is. some_same refl is; raised = λ k is. absurd (cc is); referred = λ k is. absurd (cc is) }
of_finish c (finish.LoadGroup x y z) = record { pending = λ n is. some_same refl is; raised = λ k is. absurd (cc is); referred = λ k is. absurd (cc is) }
of_finish c (finish.SubtractCount x y z u) = record { pending = λ n is. some_same refl is; raised = λ k is. absurd (cc is); referred = λ k is. absurd (cc is) }
of_finish c (finish.SubtractReferences x y z) = record { pending = λ n is. some_same refl is; raised = λ k is. absurd (cc is); referred = λ k is. absurd (cc is) }
of_finish c (finish.Free x y z) = record { pending = λ n is. some_same refl is; raised = λ k is. absurd (cc is); referred = λ k is. absurd (cc is) }
of_finish c (finish.LoadImplicit x y) = record { pending = λ n is. some_same refl is; raised = λ k is. absurd (cc is); referred = λ k is. absurd (cc is) }
of_finish c (finish.LoadNext x y) = record { pending = λ n is. some_same refl is; raised = λ k is. absurd (cc is); referred = λ k is. absurd (cc is) }
of_finish c (finish.LoadLife x y z) = record { pending = λ n is. some_same refl is; raised = λ k is. absurd (cc is); referred = λ k is. absurd (cc is) }
of_finish c (finish.SubtractGenerating x y z) = record { pending = λ n is. some_same refl is; raised = λ k is. absurd (cc is); referred = λ k is. absurd (cc is) }
of_finish c (finish.SubtractPending x) = record { pending = λ n is. some_same refl is; raised = λ k is. absurd (cc is); referred = λ k is. absurd (cc is) }

inside : (c : Context) (members : List (Tid × ℕ)) (x : Counter) → OwesInside c (owed_at c members x)
inside c members (counter.Worker x) = none_inside c (by_worker x) (of_worker x)
inside c members (counter.Team x) = none_inside c (by_team members x) (of_team members x)
inside c members (counter.Barrier x) = none_inside c nothing (record { pending = refl; raised = refl; referred = refl })
inside c members (counter.Join x) = none_inside c nothing (record { pending = refl; raised = refl; referred = refl })
inside c members (counter.Task x) = of_task c x
inside c members (counter.Look x) = none_inside c (by_look x) (of_look x)
inside c members (counter.Finish x) = of_finish c x
inside c members (counter.Plain x) = none_inside c nothing (record { pending = refl; raised = refl; referred = refl })

module _ (p : Program) (w : List ℕ) (m : Memory) (events : List (ℕ × Event)) (s : State) (actors : ℕ → Actor)
    (rule : Rule p w m events s actors) (j : ℕ) (known : j < s.count) where
  abbrev a : Actor
  a = actors j

  in_a_task : ((x : WorkerCounter) → a.counter ≡ counter.Worker x → ⊥) → KeepsContext s j a.context
  in_a_task busy = let (f, fs, is, stands) = in_task p s j a busy (rule.threads j known).stands in top p s j a stands

  -- a thread that owes on a count has a task
  at_work : (A : Type 0) (field : Owed → Option A) → ((o : Owed) → OwesNoCount o → field o ≡ None) → (y : A)
      → field (owed a) ≡ Some y → KeepsContext s j a.context
  at_work A field none y is =
      in_a_task
      (λ x at. absurd (cc (none (by_worker x) (of_worker x), ap (λ (c : Counter). field (owed_at a.context a.gathered.team c)) (sym at) ∙ is)))

  -- the region is live, and not joined
  pub pending_open : (n : Rid) → (owed a).pending ≡ Some n
      → (r : Region) × (region_of s n ≡ Some r) × (r.joined ≡ false)
  pending_open n is =
      let o = at_work Rid (λ (o : Owed). o.pending) (λ o none. none.pending) n is in
      let same : a.context.region ≡ n = (inside a.context a.gathered.team a.counter).pending n is in
      (o.region, ap (region_of s) (sym same) ∙ o.found, is_open p events s rule.reached j a.context o)

  -- and the task has begun
  pub raised_begun : (k : Tid) → (owed a).raised ≡ Some k
      → (t : Task) × (task_of s k ≡ Some t) × (t.progress ≡ progress.Begun)
  raised_begun k is =
      let o = at_work Tid (λ (o : Owed). o.raised) (λ o none. none.raised) k is in
      let same : a.context.task ≡ k = (inside a.context a.gathered.team a.counter).raised k is in
      (o.task, ap (task_of s) (sym same) ∙ o.live, o.begun)

  -- and runs on the thread that owes
  pub raised_runs : (k : Tid) → (owed a).raised ≡ Some k → (t : Task) × (task_of s k ≡ Some t) × (t.thread ≡ j)
  raised_runs k is =
      let o = at_work Tid (λ (o : Owed). o.raised) (λ o none. none.raised) k is in
      let same : a.context.task ≡ k = (inside a.context a.gathered.team a.counter).raised k is in
      (o.task, ap (task_of s) (sym same) ∙ o.live, o.thread)

  pub referred_begun : (k : Tid) → (owed a).referred ≡ Some k
      → (t : Task) × (task_of s k ≡ Some t) × (t.progress ≡ progress.Begun)
  referred_begun k is =
      let o = at_work Tid (λ (o : Owed). o.referred) (λ o none. none.referred) k is in
      let same : a.context.task ≡ k = (inside a.context a.gathered.team a.counter).referred k is in
      (o.task, ap (task_of s) (sym same) ∙ o.live, o.begun)
