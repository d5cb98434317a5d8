-- The thread that each task is scheduled on: that of its scheduling task, which is on its chain of generating tasks or a member of its region.
use Rattle.std.proofs.Common.{◌≡◌, ◌==◌, ◌⊎◌, inl, inr, ℕ, zero, suc, true, false, List, [], ◌∷◌, map, slice_get, Option, Some, None, if◌then◌else◌, refl, sym, ap, ◌∙◌, subst, arith, ne_eqb}
use Rattle.std.specs.List.{Contains}
use Rattle.omi_script.specs.declared.program.Program.{Program}
use Rattle.omi_model.specs.declared.event.Event.{Event}
use Rattle.omi_model.specs.declared.id.Tid.{Tid}
use Rattle.omi_model.specs.declared.item.Item.{Item}
use Rattle.omi_model.specs.declared.progress.Progress.TheVariants.{Begun, Deferred}
use Rattle.omi_model.specs.declared.task.Task.{Task}
use Rattle.omi_model.specs.Changes.{IsCurrent}
use Rattle.omi_model.specs.LawLineage.{HasLineage, IsLineage, IsMemberOn}
use Rattle.omi_model.specs.LawScheduling.{IsUnderOwner}
use Rattle.omi_model.specs.LawStays.{Stays}
use Rattle.omi_model.specs.Opening.{opening}
use Rattle.omi_model.specs.Reached.{Reached, Step}
use Rattle.omi_model.specs.State.{State, task_of}
use Rattle.omi_model.specs.Teams.{got_threads}
use Rattle.omi_model.proofs.claims.AsksOrder.{map_at}
use Rattle.omi_model.proofs.ChainsKept.{current_begun}
use Rattle.omi_model.proofs.EachObject.{EachTask, IsTaskLaw, law_of_lasting, task_step}
use Rattle.omi_model.proofs.GeneratingChains.{OwnersIn, have_line, was}
use Rattle.omi_model.proofs.claims.FirstThread.{have_scheduling}
use Rattle.omi_model.proofs.NeededTasks.{needed_current, needed_scheduling}
use Rattle.omi_model.proofs.OpeningObjects.{each_first_task}
use Rattle.omi_model.proofs.ReachedStates.{over_reached}
use Rattle.omi_model.proofs.SchedulingChains.{scheduling_right}
use Rattle.omi_model.proofs.Slots.{false_true, none_some, some_same}
use Rattle.omi_model.proofs.StaysKept.{stays_step}
use Rattle.omi_model.proofs.Steps.{IsRelisted}

-- ---- a task runs on the thread of its scheduling task

abbrev pub RunsAbove : State → Tid → Task → Type 0
RunsAbove s k t =
    (n : Tid) → t.scheduling ≡ Some n → (v : Task) × (task_of s n ≡ Some v) × (v.progress ≡ Deferred → ⊥) × (v.thread ≡ t.thread)

begun_deferred : Begun ≡ Deferred → ⊥
begun_deferred e = cc

suc_zero : (n : ℕ) → suc n ≡ 0 → ⊥
suc_zero n e = omega (arith, e)

module _ (p : Program) (events : List (ℕ × Event)) (s : State) (reached : Reached p events s) (i : ℕ)
    (e : Event) (next : State) (step : Step p s i e next) where
  stay : Stays s next
  stay = stays_step p s i e next step

  -- the current task runs on the thread of the event
  on_thread_of : (middle : State) → IsRelisted s middle → (k : Tid) (t : Task) → IsCurrent middle i k t
      → (v : Task) × (task_of next k ≡ Some v) × (v.progress ≡ Deferred → ⊥) × (v.thread ≡ i)
  on_thread_of middle before k t is =
      let (v, xs, cur, same) = was p events s reached i e next step middle before k t is in
      let (u, found, kept) = stay.tasks k v cur.live (needed_current p events s reached i k v cur.name cur.live) in
      let runs = current_begun p events s reached i k v cur.name cur.live in
      let un : v.progress ≡ Deferred → ⊥ = λ d. begun_deferred (sym runs.0 ∙ d) in
      (u, found, kept.started un, kept.thread un ∙ runs.1)

  above_step : EachTask (RunsAbove s) s → EachTask (RunsAbove next) next
  above_step all = task_step p (RunsAbove next) s i e next step (λ k t y ys is taken q. q) law
      (λ k t live n is. let (v, found, un, same) = all k t live n is in let (u, found_u, kept) = stay.tasks n v found (needed_scheduling p events s reached k t live n v is found) in (u, found_u, kept.started un, kept.thread un ∙ same))
    where
      law : (middle : State) (y : Item) → IsRelisted s middle → Stays middle next
          → EachTask (RunsAbove next) middle → IsTaskLaw p middle i e y next (RunsAbove next)
      law middle y before later of_tasks = law_of_lasting p middle i e y next (RunsAbove next) (record {
        starts = λ k u j t x is live ex de may of by q n from. above j (on_thread_of middle before j t is) n from;
        members = λ region team f k t r is found may new of by j n at o from. of_number k (on_thread_of middle before k t is) j n team (got_threads (middle.threads i).asks) may.threads at o from;
        deferred = λ task f final seen k t is of fresh n from. absurd (none_some refl from);
        made = λ task f final k t is of fresh by n from. above k (on_thread_of middle before k t is) n from;
      })
        where
          above : (k : Tid)
              → (v : Task) × (task_of next k ≡ Some v) × (v.progress ≡ Deferred → ⊥) × (v.thread ≡ i)
              → (n : Tid) → ◌≡◌ {A = Option Tid} (Some k) (Some n)
              → (v : Task) × (task_of next n ≡ Some v) × (v.progress ≡ Deferred → ⊥) × (v.thread ≡ i)
          above k h n from =
              let same : k ≡ n = some_same refl from in subst (λ (a : Tid). (v : Task) × (task_of next a ≡ Some v) × (v.progress ≡ Deferred → ⊥) × (v.thread ≡ i)) same h

          of_number : (k : Tid)
              → (v : Task) × (task_of next k ≡ Some v) × (v.progress ≡ Deferred → ⊥) × (v.thread ≡ i)
              → (j : ℕ) (m : Tid × ℕ) (team : List (Tid × ℕ)) (got : List ℕ) → map (λ a. a.1) team ≡ i ∷ got
              → slice_get team j ≡ Some m → (n : Tid) → (if j == 0 then Some k else None) ≡ Some n
              → (v : Task) × (task_of next n ≡ Some v) × (v.progress ≡ Deferred → ⊥) × (v.thread ≡ m.1)
          of_number k h zero m team got threads at n from =
              let (v, found, un, mine) = above k h n from in
              let own : i ≡ m.1 =
              some_same {o = slice_get (i ∷ got) 0} refl
              (ap (λ xs. slice_get xs 0) (sym threads) ∙ map_at (λ (a : Tid × ℕ). a.1) team 0 m at) in
              (v, found, un, mine ∙ own)
          of_number k h (suc j) m team got threads at n from =
              absurd (none_some (ap (λ b. if b then Some k else None) (ne_eqb (suc j) 0 (suc_zero j))) from)

pub have_above : (p : Program) (events : List (ℕ × Event)) (s : State) → Reached p events s
    → EachTask (RunsAbove s) s
have_above p events s reached =
    over_reached p (λ u. EachTask (RunsAbove u) u)
    (λ first u first_reached i e next step h. above_step p first u first_reached i e next step h) []
    (opening p) refl events s reached
    (each_first_task p (RunsAbove (opening p)) (λ n from. absurd (none_some refl from)))

pub have_lineage : (p : Program) (events : List (ℕ × Event)) (s : State) → Reached p events s
    → (k : Tid) (t : Task) → task_of s k ≡ Some t → HasLineage s t
have_lineage p events s reached k t live =
    let (gs, chain, owners) = have_line p events s reached k t live in
    record { tasks = gs; chain = chain; owner = owners; scheduling = λ ex un. go gs chain owners ex un ((scheduling_right p events s reached k t live).rightly ex un) }
  where
    head_in : (gs : List Tid) (n : Tid) → IsLineage s t.implicit t.region t.generating gs → t.implicit ≡ false
        → t.generating ≡ Some n → Contains gs n
    head_in [] n im ex is = absurd (false_true (sym ex ∙ im))
    head_in (g ∷ gs) n (explicit, u, met, found, here, started, rest) ex is =
        (0, omega arith, some_same met is)

    go : (gs : List Tid) → IsLineage s t.implicit t.region t.generating gs → OwnersIn t.group gs
        → t.implicit ≡ false → (t.progress ≡ Deferred → ⊥)
        → (t.scheduling ≡ t.generating) ⊎ (IsUnderOwner t ⊎ ((n : Tid) × (v : Task) × (t.scheduling ≡ Some n) × (task_of s n ≡ Some v) × (v.implicit ≡ true) × (v.region ≡ t.region)))
        → (n : Tid) × (t.scheduling ≡ Some n) × (Contains gs n ⊎ IsMemberOn s n t.region t.thread)
    go gs chain owners ex un (inl same) =
        let (n, from) = have_scheduling p events s reached k t live ex un in
        (n, from, inl (head_in gs n chain ex (sym same ∙ from)))
    go gs chain owners ex un (inr (inl (g, member, from))) = (g.owner, from, inl (owners g member))
    go gs chain owners ex un (inr (inr (n, v, from, found, im, region))) =
        let (w, found_w, un_w, thread) = have_above p events s reached k t live n from in
        let one : w ≡ v = some_same found_w found in
        (n, from, inr (record { task = v; live = found; implicit = im; same_region = region; same_thread = ap (λ (x : Task). x.thread) (sym one) ∙ thread }))
