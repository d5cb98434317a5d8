-- The rows of an object that two states have in common are the same in both.
use Rattle.std.proofs.Common.{◌≡◌, ℕ, zero, suc, ◌<◌, true, List, [], ◌∷◌, length, map, Option, Some, refl, sym, subst, ◌∙◌, arith}
use Rattle.std.specs.Prelude.{slice_get, All}
use Rattle.omi_model.specs.declared.id.Rid.{Rid}
use Rattle.omi_model.specs.declared.id.Tid.{Tid}
use Rattle.omi_model.specs.State.{State, task_of}
use Rattle.omi_model.specs.Views.{region_row, task_row}
use Rattle.omi_model.specs.Visible.{IsVisibleRegion, IsVisibleTask}
use Rattle.omi_model.specs.WellFormed.{IsRegionRight, IsTaskRight, IsMember}
use Rattle.omi_layout.specs.declared.field.Field.{Field}
use Rattle.omi_layout.specs.declared.field.Field.TheVariants.{RegionFunction, RegionEnclosing, RegionSize, RegionLevels, RegionActive, RegionTeam, TaskImplicit, TaskRegion, TaskThread, TaskNumber, TaskGenerating, TaskScheduling, TaskFunction, TaskExit, TaskEnter, TaskDynamic, TaskNthreadsLength, TaskSchedule, TaskDevice, TaskFinal, TaskTool, TaskNthreads}
use Rattle.omi_layout.specs.Field.{regions, tasks}
use Rattle.omi_layout.specs.Named.{number}
use Rattle.omi_layout.specs.Valid.{IsValid}
use Rattle.omi_word.specs.Words.{Words}
use Rattle.omi_rep.specs.Records.{Seen, records_of, task_address}
use Rattle.omi_rep.specs.Codes.{region_code, region_told, task_code, task_told}
use Rattle.omi_rep.specs.Codes.{shown as visible}
use Rattle.omi_rep.specs.Shows.{Shows}
use Rattle.omi_rep.proofs.Codes.{member_code}
use Rattle.omi_rep.proofs.Same.{one_word, same_region, same_task, same_regions, same_tasks, same_thread}

-- two lists of one length whose elements are told by the same words
same_list : {A : Type 0} (told : ℕ → Option ℕ) (code : A → ℕ) (xs ys : List A) → length xs ≡ length ys
    → ((j : ℕ) (x : A) → slice_get xs j ≡ Some x → told j ≡ Some (code x)) → ((j : ℕ) (y : A) → slice_get ys j ≡ Some y → told j ≡ Some (code y))
    → ((j : ℕ) (x y : A) → slice_get xs j ≡ Some x → slice_get ys j ≡ Some y → code x ≡ code y → x ≡ y) → xs ≡ ys
same_list told code [] [] long a b one = refl
same_list told code [] (y ∷ ys) long a b one = absurd (omega (arith, long))
same_list told code (x ∷ xs) [] long a b one = absurd (omega (arith, long))
same_list {A} told code (x ∷ xs) (y ∷ ys) long a b one =
    let words : Some (code x) ≡ Some (code y) = sym (a 0 x refl) ∙ b 0 y refl in
    let codes : code x ≡ code y = cc words in
    let first : x ≡ y = one 0 x y refl refl codes in
    let rest : xs ≡ ys =
    same_list (λ j. told (suc j)) code xs ys (omega (arith, long)) (λ j z is. a (suc j) z is)
    (λ j z is. b (suc j) z is) (λ j z u is was. one (suc j) z u is was) in
    λ i. first i ∷ rest i

-- an element of a list of members keeps what all of them keep
member_at : (P : Tid × ℕ → Type 0) (xs : List (Tid × ℕ)) (j : ℕ) (m : Tid × ℕ) → All P xs
    → slice_get xs j ≡ Some m → P m
member_at P [] j m all is = absurd (cc)
member_at P (x ∷ xs) zero m all is = let same : x ≡ m = cc is in subst P same (all 0 x (omega arith))
member_at P (x ∷ xs) (suc j) m all is =
    member_at P xs j m (λ k d within. all (suc k) d (omega (arith, within))) is

module _ (w : List ℕ) (words : Words) (v : IsValid w) (s t : State) (a : Shows w words s)
    (b : Shows w words t) where
  -- what a visible task's record says in both states
  module _ (k : Tid) (x : IsVisibleTask s k) (y : IsVisibleTask t k) where
    abbrev record_seen : Seen
    record_seen = records_of w words k.0.creator tasks k.0.slot

    -- one word is the code of both
    alike : (f : Field) (u v : ℕ) → visible f ≡ true → task_code w (task_told x.task) f 0 ≡ Some u
        → task_code w (task_told y.task) f 0 ≡ Some v → u ≡ v
    alike f u v is one other =
        one_word record_seen f 0 u v (a.records.tasks k x f 0 u is one) (b.records.tasks k y f 0 v is other)

    right : IsTaskRight s x.task
    right = a.within.well_formed.tasks k x

    right_too : IsTaskRight t y.task
    right_too = b.within.well_formed.tasks k y

    pub same_thread_of : x.task.thread ≡ y.task.thread
    same_thread_of =
        same_thread w v x.task.thread y.task.thread
        (record { made_by = subst (λ n. x.task.thread < n) a.within.count right.begun.known; within = omega arith })
        (record { made_by = subst (λ n. y.task.thread < n) b.within.count right_too.begun.known; within = omega arith })
        (alike TaskThread _ _ refl refl refl)

    pub same_region_of : x.task.region ≡ y.task.region
    same_region_of =
        same_region w words v s t a b x.task.region y.task.region right.region right_too.region
        (alike TaskRegion _ _ refl refl refl)

    pub same_scheduling : x.task.scheduling ≡ y.task.scheduling
    same_scheduling =
        same_tasks w words v s t a b x.task.scheduling y.task.scheduling right.scheduling right_too.scheduling
        (alike TaskScheduling _ _ refl refl refl)

    same_generating : x.task.generating ≡ y.task.generating
    same_generating =
        same_tasks w words v s t a b x.task.generating y.task.generating right.generating right_too.generating
        (alike TaskGenerating _ _ refl refl refl)

    pub same_number : x.task.number ≡ y.task.number
    same_number = alike TaskNumber _ _ refl refl refl

    same_nthreads : x.task.variables.nthreads ≡ y.task.variables.nthreads
    same_nthreads =
        same_list (λ j. record_seen (number TaskNthreads) j)
        (λ n. n) x.task.variables.nthreads y.task.variables.nthreads
        (alike TaskNthreadsLength _ _ refl refl refl) (λ j n is. a.records.tasks k x TaskNthreads j n refl is)
        (λ j n is. b.records.tasks k y TaskNthreads j n refl is) (λ j n m _ _ e. e)

    pub same_task_row : (i : ℕ) → task_row i k x.task ≡ task_row i k y.task
    same_task_row i =
        let implicit = alike TaskImplicit _ _ refl refl refl in
        let function = alike TaskFunction _ _ refl refl refl in
        let exit = alike TaskExit _ _ refl refl refl in
        let enter = alike TaskEnter _ _ refl refl refl in
        let tool = alike TaskTool _ _ refl refl refl in
        let dynamic = alike TaskDynamic _ _ refl refl refl in
        let schedule = alike TaskSchedule _ _ refl refl refl in
        let device = alike TaskDevice _ _ refl refl refl in
        let final = alike TaskFinal _ _ refl refl refl in
        λ p. record {
          task = k;
          thread = i;
          implicit = implicit p;
          region = same_region_of p;
          func = function p;
          generating = same_generating p;
          scheduling = same_scheduling p;
          exit = exit p;
          enter = enter p;
          tool = tool p;
          dyn_var = dynamic p;
          nthreads = same_nthreads p;
          sched = schedule p;
          device = device p;
          final_task = final p;
        }

  -- and a visible region's
  module _ (n : Rid) (x : IsVisibleRegion s n) (y : IsVisibleRegion t n) where
    abbrev region_seen : Seen
    region_seen = records_of w words n.0.creator regions n.0.slot

    region_alike : (f : Field) (u v : ℕ) → visible f ≡ true
        → region_code w (region_told x.region) f 0 ≡ Some u
        → region_code w (region_told y.region) f 0 ≡ Some v → u ≡ v
    region_alike f u v is one other =
        one_word region_seen f 0 u v (a.records.regions n x f 0 u is one)
        (b.records.regions n y f 0 v is other)

    fine : IsRegionRight s x.region
    fine = a.within.well_formed.regions n x

    fine_too : IsRegionRight t y.region
    fine_too = b.within.well_formed.regions n y

    pub same_enclosing : x.region.enclosing ≡ y.region.enclosing
    same_enclosing =
        same_regions w words v s t a b x.region.enclosing y.region.enclosing fine.enclosing fine_too.enclosing
        (region_alike RegionEnclosing _ _ refl refl refl)

    same_size : length x.region.team ≡ length y.region.team
    same_size = region_alike RegionSize _ _ refl refl refl

    same_member : (j : ℕ) (m q : Tid × ℕ) → slice_get x.region.team j ≡ Some m
        → slice_get y.region.team j ≡ Some q → task_address w m.0 ≡ task_address w q.0 → m ≡ q
    same_member j m q is was e =
        let first = member_at (λ (u : Tid × ℕ). IsMember s u.0 u.1) x.region.team j m fine.members is in
        let second = member_at (λ (u : Tid × ℕ). IsMember t u.0 u.1) y.region.team j q fine_too.members was in
        let tasks : m.0 ≡ q.0 = same_task w words v s t a b m.0 q.0 first.visible second.visible e in
        let visible : IsVisibleTask t m.0 = subst (IsVisibleTask t) (sym tasks) second.visible in
        let theirs : visible.task.thread ≡ q.1 =
        second.same visible.task (subst (λ (k : Tid). task_of t k ≡ Some visible.task) tasks visible.live) in
        let threads : m.1 ≡ q.1 =
        sym (first.same first.visible.task first.visible.live)
        ∙ same_thread_of m.0 first.visible visible
        ∙ theirs in
        λ p. (tasks p, threads p)

    same_team : x.region.team ≡ y.region.team
    same_team =
        same_list (λ j. region_seen (number RegionTeam) j)
        (λ m. task_address w m.0) x.region.team y.region.team same_size
        (λ j m is. a.records.regions n x RegionTeam j _ refl (member_code w (region_told x.region) j m is))
        (λ j m is. b.records.regions n y RegionTeam j _ refl (member_code w (region_told y.region) j m is)) same_member

    pub same_region_row : region_row n x.region ≡ region_row n y.region
    same_region_row =
        let function = region_alike RegionFunction _ _ refl refl refl in
        let levels = region_alike RegionLevels _ _ refl refl refl in
        let active = region_alike RegionActive _ _ refl refl refl in
        λ p. record {
          region = n;
          func = function p;
          levels = levels p;
          active = active p;
          size = same_size p;
          enclosing = same_enclosing p;
          members = map (λ m. record { thread = m.1; task = m.0 }) (same_team p);
        }
