-- The lists of nthreads-var along regions.
use Rattle.std.proofs.Common.{◌≡◌, ◌==◌, ◌+◌, ◌%◌, ◌/◌, ◌≤◌, ◌⊎◌, inl, inr, ℕ, Bool, true, false, not, List, [], ◌∷◌, drop, length, Option, Some, None, if◌then◌else◌, refl, sym, ap, ◌∙◌, subst, arith, eqb-true}
use Rattle.std.proofs.lemmas.List.{drop-drop}
use Rattle.omi_script.proofs.RuleLemmas.{Rules-from_accepted}
use Rattle.omi_script.specs.declared.program.Program.{Program}
use Rattle.omi_model.specs.declared.event.Event.{Event}
use Rattle.omi_model.specs.declared.id.Tid.{Tid}
use Rattle.omi_model.specs.declared.item.Item.{Item}
use Rattle.omi_model.specs.declared.region.Region.{Region}
use Rattle.omi_model.specs.declared.task.Task.{Task}
use Rattle.omi_model.specs.declared.task.Variables.{Variables}
use Rattle.omi_model.specs.LawNthreads.{IsShortenedBy}
use Rattle.omi_model.specs.LawStays.{Stays}
use Rattle.omi_numbers.specs.declared.variables.TheConstants.{DEFAULT_DEVICE_VAR, DYN_VAR, NTHREADS_VAR, RUN_SCHED_VAR}
use Rattle.omi_model.specs.Opening.{opening, opening_region}
use Rattle.omi_model.specs.Reached.{Reached, Step}
use Rattle.omi_model.specs.Settings.{with_head, with_variable}
use Rattle.omi_model.specs.State.{State, region_of}
use Rattle.omi_model.specs.Teams.{shortened}
use Rattle.omi_model.proofs.EachObject.{EachTask, IsTaskLaw, over_events, task_step}
use Rattle.omi_model.proofs.OpeningObjects.{each_first_task}
use Rattle.omi_model.proofs.Slots.{none_some, some_same}
use Rattle.omi_model.proofs.StaysKept.{needed_region, stays_step}
use Rattle.omi_model.proofs.Steps.{IsRelisted}

-- setting a variable sets the list's head, or leaves the list
pub set_nthreads : (icv value : ℕ) (v w : Variables) → with_variable icv value v ≡ Some w
    → (w.nthreads ≡ v.nthreads) ⊎ ((icv ≡ NTHREADS_VAR) × (w.nthreads ≡ with_head value v.nthreads))
set_nthreads icv value v w e = by_dyn (icv == DYN_VAR) e
  where
    list_of : {x : Variables} → ◌≡◌ {A = Option Variables} (Some x) (Some w) → w.nthreads ≡ x.nthreads
    list_of f = ap (λ (x : Variables). x.nthreads) (sym (some_same refl f))

    by_device : (b : Bool) → (if b then Some (record v { device = value }) else None) ≡ Some w
        → (w.nthreads ≡ v.nthreads) ⊎ ((icv ≡ NTHREADS_VAR) × (w.nthreads ≡ with_head value v.nthreads))
    by_device true f = inl (list_of f)
    by_device false f = absurd (none_some refl f)

    by_sched : (b : Bool) → (if b then Some (record v { schedule = record { kind = value % 8; chunk = value / 8 } }) else (if icv == DEFAULT_DEVICE_VAR then Some (record v { device = value }) else None)) ≡ Some w
        → (w.nthreads ≡ v.nthreads) ⊎ ((icv ≡ NTHREADS_VAR) × (w.nthreads ≡ with_head value v.nthreads))
    by_sched true f = inl (list_of f)
    by_sched false f = by_device (icv == DEFAULT_DEVICE_VAR) f

    by_nthreads : (b : Bool) → icv == NTHREADS_VAR ≡ b
        → (if b then Some (record v { nthreads = with_head value v.nthreads })
        else (if icv == RUN_SCHED_VAR then Some (record v { schedule = record { kind = value % 8; chunk = value / 8 } }) else (if icv == DEFAULT_DEVICE_VAR then Some (record v { device = value }) else None))) ≡ Some w
        → (w.nthreads ≡ v.nthreads) ⊎ ((icv ≡ NTHREADS_VAR) × (w.nthreads ≡ with_head value v.nthreads))
    by_nthreads true is f = inr (eqb-true icv NTHREADS_VAR is, list_of f)
    by_nthreads false is f = by_sched (icv == RUN_SCHED_VAR) f

    by_dyn : (b : Bool) → (if b then Some (record v { dynamic = not (value == 0) })
        else (if icv == NTHREADS_VAR then Some (record v { nthreads = with_head value v.nthreads })
        else (if icv == RUN_SCHED_VAR then Some (record v { schedule = record { kind = value % 8; chunk = value / 8 } }) else (if icv == DEFAULT_DEVICE_VAR then Some (record v { device = value }) else None)))) ≡ Some w
        → (w.nthreads ≡ v.nthreads) ⊎ ((icv ≡ NTHREADS_VAR) × (w.nthreads ≡ with_head value v.nthreads))
    by_dyn true f = inl (list_of f)
    by_dyn false f = by_nthreads (icv == NTHREADS_VAR) refl f

rest_of_head : (x : ℕ) (xs : List ℕ) → drop 1 (with_head x xs) ≡ drop 1 xs
rest_of_head x [] = refl
rest_of_head x (y ∷ ys) = refl

length_of_head : (x : ℕ) (xs : List ℕ) → length (with_head x xs) ≡ length xs
length_of_head x [] = refl
length_of_head x (y ∷ ys) = refl

rest_of_shortened : (xs : List ℕ) → drop 1 (shortened xs) ≡ drop 1 (drop 1 xs)
rest_of_shortened [] = refl
rest_of_shortened (x ∷ []) = refl
rest_of_shortened (x ∷ y ∷ ys) = refl

some_of_shortened : (xs : List ℕ) → 1 ≤ length xs → 1 ≤ length (shortened xs)
some_of_shortened [] h = h
some_of_shortened (x ∷ []) h = h
some_of_shortened (x ∷ y ∷ ys) h = omega arith

module _ (p : Program) where
  -- setting a variable keeps what stands behind the head
  set_shortened : (r : Region) (icv value : ℕ) (v w : Variables) → with_variable icv value v ≡ Some w
      → IsShortenedBy p r v → IsShortenedBy p r w
  set_shortened r icv value v w e is = go (set_nthreads icv value v w e)
    where
      go : (w.nthreads ≡ v.nthreads) ⊎ ((icv ≡ NTHREADS_VAR) × (w.nthreads ≡ with_head value v.nthreads))
          → IsShortenedBy p r w
      go (inl same) = record { some = subst (λ (xs : List ℕ). 1 ≤ length xs) (sym same) is.some; rest = ap (drop 1) same ∙ is.rest }
      go (inr (at, same)) = record {
        some = subst (λ (xs : List ℕ). 1 ≤ length xs) (sym same) (subst (λ n. 1 ≤ n) (sym (length_of_head value v.nthreads)) is.some);
        rest = ap (drop 1) same ∙ (rest_of_head value v.nthreads ∙ is.rest);
      }

  -- a member's list, one level deeper
  deeper : (xs : List ℕ) (n : ℕ) → drop 1 xs ≡ drop (n + 1) p.env.nthreads
      → drop 1 (shortened xs) ≡ drop (n + 1 + 1) p.env.nthreads
  deeper xs n e = rest_of_shortened xs ∙ (ap (drop 1) e ∙ drop-drop 1 (n + 1) p.env.nthreads)

  abbrev Shortened : State → Tid → Task → Type 0
  Shortened s k t = (r : Region) × (region_of s t.region ≡ Some r) × IsShortenedBy p r t.variables

  shortened_step : (s : State) (i : ℕ) (e : Event) (next : State) → Step p s i e next
      → EachTask (Shortened s) s → EachTask (Shortened next) next
  shortened_step s i e next step all =
      task_step p (Shortened next) s i e next step (λ k t y ys is taken q. q) law
      (λ k t live.
      let (r, found, is) = all k t live in
      let (q, found_q, same) = (stays_step p s i e next step).regions t.region r found (needed_region s k t live r) in
      (q, found_q, record { some = is.some; rest = is.rest ∙ ap (λ n. drop (n + 1) p.env.nthreads) (sym same.levels) }))
    where
      law : (middle : State) (y : Item) → IsRelisted s middle → Stays middle next
          → EachTask (Shortened next) middle → IsTaskLaw p middle i e y next (Shortened next)
      law middle y before later of_tasks = record {
        frees = λ k t free how q. q;
        shows = λ k t x q. q;
        tools = λ k t x q. q;
        groups = λ k t count is how q. q;
        begins = λ k t waits mine by q. q;
        finishes = λ k t is over q. q;
        sets = λ k t icv value v f at_set (r, found, is). (r, found, set_shortened r icv value t.variables v f is);
        starts = λ k u j t x is live ex de may of by q. q;
        members = λ region team f k t r is found may new of by j m at.
            let (q, found_q, here) = of_tasks k t is.live in
            let (q', found_q', same) = later.regions t.region r found (needed_region middle k t is.live r) in
            let one : q ≡ q' = some_same found_q found_q' in
            let level : q.levels ≡ r.levels = ap (λ (x : Region). x.levels) one ∙ same.levels in
            (_, new, record { some = some_of_shortened t.variables.nthreads here.some; rest = deeper t.variables.nthreads r.levels (here.rest ∙ ap (λ n. drop (n + 1) p.env.nthreads) level) });
        deferred = λ task f final seen k t is of fresh. of_tasks k t is.live;
        made = λ task f final k t is of fresh by. of_tasks k t is.live;
      }

  pub nthreads_shortened : (events : List (ℕ × Event)) (s : State) → Reached p events s
      → EachTask (Shortened s) s
  nthreads_shortened events s reached =
      over_events p (λ u. EachTask (Shortened u) u) (λ u i e next step h. shortened_step u i e next step h)
      (opening p) events s reached
      (each_first_task p (Shortened (opening p)) (opening_region p, refl, record { some = (Rules-from_accepted p).count.0; rest = refl }))
