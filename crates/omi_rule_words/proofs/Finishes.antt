-- An explicit task finishes: its thread owes the lowerings from then on.
use Rattle.std.proofs.Common.{◌≡◌, ◌&&◌, ◌+◌, ◌<◌, Bool, ℕ, not, false, true, List, Option, Some, refl, sym, ap, subst, ◌∙◌, arith}
use Rattle.std.specs.Prelude.{IsSome}
use Rattle.std.specs.Option.{option_and_then, option_map}
use Rattle.std.proofs.lemmas.List.Elements.{All-nil}
use Rattle.omi_model.specs.declared.freeable.Freeable.TheVariants as freeable
use Rattle.omi_model.specs.declared.id.Id.{Id}
use Rattle.omi_model.specs.declared.id.Rid.{Rid}
use Rattle.omi_model.specs.declared.id.Tid.{Tid}
use Rattle.omi_model.specs.declared.progress.Progress.{Progress}
use Rattle.omi_model.specs.declared.progress.Progress.TheVariants as progress
use Rattle.omi_model.specs.declared.task.Task.{Task}
use Rattle.omi_model.specs.Changes.{on_task}
use Rattle.omi_model.specs.LawNames.{AreNamesLive}
use Rattle.omi_model.specs.State.{State, region_of, task_of}
use Rattle.omi_model.specs.Freeing.{freeing}
use Rattle.omi_model.specs.Tasking.{finished}
use Rattle.omi_model.proofs.Slots.{on_same, some_same}
use Rattle.omi_layout.specs.declared.field.Field.TheVariants.{ThreadCurrent}
use Rattle.omi_layout.specs.Field.{tasks, threads}
use Rattle.omi_layout.specs.Memory.{Memory, replace_at, with_word}
use Rattle.omi_layout.specs.Named.{number}
use Rattle.omi_layout.specs.Table.{per_thread}
use Rattle.omi_rep.specs.Records.{task_word}
use Rattle.omi_rep.specs.Shows.{IsWithin}
use Rattle.omi_rule_words.specs.Owes.{Owed, nothing}
use Rattle.omi_rule_words.specs.Counts.{children_owed, generating_of, is_finished, is_region, is_some_task, is_unfinished, one, pending_owed, start_owed, references_owed, gives_owed, own_reference}
use Rattle.omi_rule_words.specs.Threads.{WaitsFor}
use Rattle.omi_rule_words.specs.Words.{HasFinished, IsOwedIn, KeepsWords, OwesOnLive}
use Rattle.omi_rule_words.specs.ExplicitKinds.{FinishesKeep, IsRunning}
use Rattle.omi_rule_words.proofs.Changed.{current_stored}
use Rattle.omi_rule_words.proofs.OtherCounts.{is_own_id, owed_put}
use Rattle.omi_rule_words.proofs.Starts.{other_name}
use Rattle.omi_rule_words.proofs.TaskMoves.{GoesTo, TeamsAlike, generating_same, some_after, task_moved, tasks_recounted}
use Rattle.omi_rule_words.proofs.ListMoves.{freeing_keeps}
use Rattle.omi_rule_words.specs.Groups.{count_owed, is_some_group}

module _ (w : List ℕ) (m : Memory) (s : State) (owes : ℕ → Owed) (i : ℕ) (k : Tid) (t : Task) (h : Tid)
    (keeps : KeepsWords w m s owes) (within : IsWithin w s) (names : AreNamesLive s) (known : i < s.count)
    (owed : owes i ≡ nothing) (running : IsRunning s k t) (made : t.generating ≡ Some h) where
  abbrev g : Task → Task
  g = λ u. record u { progress = progress.Finished }

  abbrev after : State
  after = on_task s k g

  abbrev p : Owed
  p = record nothing { pending = Some t.region; lowered = Some k; uncounted = Some k; own = Some k }

  goes : GoesTo t (g t)
  goes = record {
    explicit = running.explicit;
    implicit = refl;
    region = refl;
    generating = refl;
    group = refl;
    open_groups = refl;
    unmet = λ is. let was = running.progress in absurd (cc);
    unfinished = λ is. let was = running.progress in absurd (cc);
    started = λ is. absurd (cc);
    begun = λ is. absurd (cc);
  }

  -- it was in no slot and in no hand
  undeferred : (u : Task) → task_of s k ≡ Some u → u.progress ≡ progress.Deferred → ⊥
  undeferred u is deferred =
      let was : u.progress ≡ progress.Begun =
      ap (λ (x : Task). x.progress) (some_same is running.live) ∙ running.progress in
      absurd (cc)

  -- it was unfinished, and is not
  was_unfinished : is_unfinished t ≡ true
  was_unfinished =
      ap (λ b. not b && not (is_finished t.progress)) running.explicit
      ∙ ap (λ (x : Progress). not (is_finished x)) running.progress

  now_finished : (b : Bool) → one (is_unfinished (g t) && b) ≡ 0
  now_finished b = ap (λ x. one (not x && false && b)) running.explicit

  maker : k.0.creator < s.count
  maker =
      let at = within.tasks k.0.creator k.0.slot k.0.generation t running.live in let count = within.count in let below = at.maker in omega (arith, count, below)

  slot_below : k.0.slot < per_thread w tasks
  slot_below = (within.tasks k.0.creator k.0.slot k.0.generation t running.live).place

  objects : OwesOnLive after p
  objects = record {
    pending = λ n is.
        let same : t.region ≡ n = cc in
        let (x, live) = (names.tasks k t running.live).region in
        subst (λ (r : Rid). IsSome (region_of s r)) same (subst (λ o. IsSome o) (sym live) refl);
    left = λ n is. absurd (cc);
    raised = λ q is. absurd (cc);
    referred = λ q is. absurd (cc);
    returned = λ at is. absurd (cc);
    gives = λ q is. absurd (cc);
    own = λ q is.
        let same : k ≡ q = cc in
        subst (λ (x : Tid). HasFinished after x × IsOwedIn after p x) same (over, (g t, over.live, refl));
    lowered = λ q is.
        let same : k ≡ q = cc in
        subst (λ (x : Tid). (p.own ≡ Some x) × IsSome (option_and_then (task_of after) (generating_of after x))) same (refl, maker_live);
    assigns = All-nil (λ (q : Tid × ℕ). WaitsFor after q.1 q.0);
  }
    where
      over : HasFinished after k
      over = record { task = g t; live = on_same s.tasks k.0 g ∙ ap (option_map g) running.live; explicit = running.explicit; progress = refl }

      generating_is : generating_of after k ≡ Some h
      generating_is =
          generating_same w s k t g running.live goes k
          ∙ (ap (option_and_then (λ (x : Task). x.generating)) running.live ∙ made)

      maker_live : IsSome (option_and_then (task_of after) (generating_of after k))
      maker_live =
          let (x, live, _) = (names.tasks k t running.live).generating h made in
          subst (λ (o : Option Tid). IsSome (option_and_then (task_of after) o)) (sym generating_is)
          (some_after w s k t g running.live goes h (subst (λ o. IsSome o) (sym live) refl))

  pub task_finishes : KeepsWords w (with_word m i threads 0 (number ThreadCurrent) 0 (task_word w t.scheduling)) (finished s i k t) (replace_at owes i p)
  task_finishes =
      current_stored w m (record after { tasks = freeing (Some (freeable.Finished k)) t.scheduling after.tasks }) (replace_at owes i p) i t.scheduling
      (freeing_keeps w m after (replace_at owes i p) (Some (freeable.Finished k)) t.scheduling
      (task_moved w s k t g running.live goes m owes i p keeps
      (subst (λ (o : Owed). TeamsAlike p o) (sym owed) (record { region = refl; tasks = refl; left = refl; assigns = refl; met = refl }))
      (λ n.
      let change =
      tasks_recounted w s k t g running.live goes maker slot_below
      (λ _ _ x. one (is_unfinished x && is_region n x.region)) in
      let was : one (is_unfinished t && is_region n t.region) ≡ one (is_region n t.region) =
      ap (λ b. one (b && is_region n t.region)) was_unfinished in
      let none = now_finished (is_region n t.region) in
      let owes_more = owed_put s owes i p known (pending_owed n) in
      let before : pending_owed n (owes i) ≡ 0 = ap (pending_owed n) owed in
      omega (arith, change, was, none, owes_more, before))
      (λ q ne.
      let before : references_owed q (owes i) ≡ 0 = ap (references_owed q) owed in
      let other : one (is_some_task q (Some k)) ≡ 0 = ap one (other_name q k ne) in
      omega (arith, before, other))
      (let before : references_owed k (owes i) ≡ 0 = ap (references_owed k) owed in
      let was : own_reference t ≡ 1 = ap one was_unfinished in
      let now : own_reference (g t) ≡ 0 = ap (λ x. one (not x && false)) running.explicit in
      let own : one (is_some_task k (Some k)) ≡ 1 = ap one (is_own_id k.0) in
      omega (arith, before, was, now, own))
      (λ q. sym (ap (gives_owed q) owed)) known
      (λ q.
      let change =
      tasks_recounted w s k t g running.live goes maker slot_below
      (λ _ _ x. one (is_unfinished x && is_some_task q x.generating)) in
      let was : one (is_unfinished t && is_some_task q t.generating) ≡ one (is_some_task q t.generating) =
      ap (λ b. one (b && is_some_task q t.generating)) was_unfinished in
      let none = now_finished (is_some_task q t.generating) in
      let owes_more = owed_put s owes i p known (children_owed s q) in
      let before : children_owed s q (owes i) ≡ 0 = ap (children_owed s q) owed in
      let now : children_owed s q p ≡ 0 + one (is_some_task q t.generating) =
      ap
      (λ (o : Option Task). 0 + one (is_some_task q (option_and_then (λ (x : Task). x.generating) o))) running.live in
      omega (arith, change, was, none, owes_more, before, now))
      (λ c j _ _ row _ _ place _ d _. undeferred d.task d.live d.progress)
      (λ x.
      let change =
      tasks_recounted w s k t g running.live goes maker slot_below
      (λ _ _ y. one (is_unfinished y && is_some_group x y.group)) in
      let was : one (is_unfinished t && is_some_group x t.group) ≡ one (is_some_group x t.group) =
      ap (λ b. one (b && is_some_group x t.group)) was_unfinished in
      let none = now_finished (is_some_group x t.group) in
      let owes_more = owed_put s owes i p known (count_owed s x) in
      let before : count_owed s x (owes i) ≡ 0 = ap (count_owed s x) owed in
      let now : count_owed s x p ≡ 0 + one (is_some_group x t.group) =
      ap (λ (o : Option Task). 0 + one (is_some_group x (option_and_then (λ (y : Task). y.group) o))) running.live in
      omega (arith, change, was, none, owes_more, before, now))
      (λ q none. absurd (cc))
      (λ q is. is)
      (λ o. o.environment)
      (λ o. o.place (λ _ deferred. let begun = running.progress in absurd (cc)))
      objects refl
      (λ q _. sym (ap (start_owed q) owed))
      (λ j q below _ is same.
      let (u, live, deferred) = keeps.deferred.hands j q below is in
      undeferred u (subst (λ (n : Id). task_of s (record { 0 = n }) ≡ Some u) same live) deferred)))
      known

pub finishes_keep : FinishesKeep
finishes_keep =
    λ w m s owes i k g t keeps within names known owed running made. task_finishes w m s owes i k t g keeps within names known owed running made
