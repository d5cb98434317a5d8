-- Stores into the assign word of a thread.
use Rattle.std.proofs.Common.{◌≡◌, ◌≢◌, ◌==◌, ◌&&◌, ◌<◌, ℕ, ◌+◌, Bool, true, false, inl, inr, List, ◌∷◌, Option, refl, sym, ap, subst, ◌∙◌, arith, eqb-true, eq-eqb, ne_eqb}
use mathlib.Core.Path.{fun_ext}
use Rattle.std.specs.Prelude.{All}
use Rattle.std.proofs.lemmas.Bool.Decides.{nat_tests}
use Rattle.std.proofs.lemmas.List.Elements.{All-tail}
use Rattle.omi_model.specs.declared.id.Tid.{Tid}
use Rattle.omi_model.specs.declared.id.Rid.{Rid}
use Rattle.omi_model.specs.State.{State}
use Rattle.omi_layout.specs.declared.field.Field.TheVariants.{RegionLife, TaskLife, ThreadAssign}
use Rattle.omi_layout.specs.Field.{runtime, threads, regions, tasks}
use Rattle.omi_layout.specs.Memory.{Rec, Memory, replace_at, with_word}
use Rattle.omi_layout.specs.Named.{number}
use Rattle.omi_layout.proofs.Puts.{each_put, put_same, put_other, record_read, record_stays, word_read}
use Rattle.omi_rep.specs.Records.{task_address}
use Rattle.omi_rep.specs.Codes.{thread_told}
use Rattle.omi_rule_words.specs.Owes.{Owed}
use Rattle.omi_rule_words.specs.Counts.{assign_owed, assigns_in, has_region_slot, has_slot, is_task, one, sum_of_owed}
use Rattle.omi_rule_words.specs.Threads.{IsAssignedOnce, KeepsAssign, KeepsRuntime, KeepsThread, WaitsFor}
use Rattle.omi_rule_words.specs.Objects.{KeepsDeferred, KeepsLife}
use Rattle.omi_rule_words.specs.Words.{AreApart, IsInTheMaking, KeepsMade, KeepsRegionSlot, KeepsTaskSlot, KeepsWords}
use Rattle.omi_rule_words.specs.Kinds.{AssignClearsKeep, AssignStoresKeep}
use Rattle.omi_rule_words.proofs.StoredCodes.{assign_stored}
use Rattle.omi_rule_words.proofs.OtherOwes.{OwesAlike, owes_alike, deferred_owed, objects_owed, region_owed, task_owed, alike_on_groups}
use Rattle.omi_rule_words.proofs.Sums.{sum_changed, sum_same}
use Rattle.omi_rule_words.specs.Groups.{KeepsGroups}
use Rattle.omi_rule_words.proofs.GroupCounts.{groups_owed}

-- What is kept but for assign words, where the assign word of one thread is stored, and threads owe other assign words or have met
-- other tasks
module _ (w : List ℕ) (m : Memory) (s : State) (owes : ℕ → Owed) (i to word : ℕ) (p : Owed)
    (keeps : KeepsWords w m s owes)
    (alike_own : OwesAlike p (owes i)) (region_same : p.region ≡ (owes i).region)
    (tasks_same : p.tasks ≡ (owes i).tasks) (waits : All (λ x. WaitsFor s x.1 x.0) p.assigns) where
  abbrev other : ℕ → Owed
  other = replace_at owes i p

  abbrev after : Memory
  after = with_word m to threads 0 (number ThreadAssign) 0 word

  alike : (j : ℕ) → OwesAlike (other j) (owes j)
  alike j = each_put (λ k (x : Owed). OwesAlike x (owes k)) owes i p alike_own j (λ _. owes_alike (owes j))

  region_of_all : (j : ℕ) → (other j).region ≡ (owes j).region
  region_of_all j = each_put (λ k (x : Owed). x.region ≡ (owes k).region) owes i p region_same j (λ _. refl)

  tasks_of_all : (j : ℕ) → (other j).tasks ≡ (owes j).tasks
  tasks_of_all j = each_put (λ k (x : Owed). x.tasks ≡ (owes k).tasks) owes i p tasks_same j (λ _. refl)

  stays : (c kind k : ℕ) → (kind ≡ threads → ⊥) → after c kind k ≡ m c kind k
  stays c kind k ne = record_stays m to threads 0 (number ThreadAssign) 0 word c kind k (λ _ same _. ne same)

  thread_kept : (j : ℕ) → KeepsThread w j (m j threads 0) (s.threads j)
      → KeepsThread w j (after j threads 0) (s.threads j)
  thread_kept j o = go (j == to) refl
    where
      go : (b : Bool) → j == to ≡ b → KeepsThread w j (after j threads 0) (s.threads j)
      go true e =
          let is : to ≡ j = sym (eqb-true j to e) in
          subst (λ c. KeepsThread w c (after c threads 0) (s.threads c)) is
          (subst (λ (r : Rec). KeepsThread w to r (s.threads to)) (sym (record_read m to threads 0 (number ThreadAssign) 0 word))
          (let before : KeepsThread w to (m to threads 0) (s.threads to) = subst (λ c. KeepsThread w c (m c threads 0) (s.threads c)) (sym is) o in
          assign_stored w to (m to threads 0) (thread_told (s.threads to)) before word))
      go false e =
          subst (λ (r : Rec). KeepsThread w j r (s.threads j))
          (sym (record_stays m to threads 0 (number ThreadAssign) 0 word j threads 0 (λ same _ _. grind (arith, nat_tests)))) o

  pub assign_changed : ((j : ℕ) → j < s.count → KeepsAssign w s other j (after j threads 0))
      → KeepsWords w after s other
  assign_changed assigned = record {
    runtime_record = subst (λ (r : Rec). KeepsRuntime w r s) (sym (stays 0 runtime 0 (λ kind. absurd (omega (arith, kind))))) keeps.runtime_record;
    made = made;
    deferred = subst (λ (r : ℕ → ℕ → Rec). KeepsDeferred w r s other) (sym same) (deferred_owed w s owes other alike (λ c. m c tasks) keeps.deferred);
    groups =
        subst (λ (r : ℕ → ℕ → Rec). KeepsGroups w r s other) (sym same)
        (groups_owed w (λ c. m c tasks) s owes other (λ j. alike_on_groups (other j) (owes j) (alike j)) keeps.groups);
  }
    where
      same : ◌≡◌ {A = ℕ → ℕ → Rec} (λ c. after c tasks) (λ c. m c tasks)
      same = fun_ext (λ c. fun_ext (λ k. stays c tasks k (λ kind. absurd (omega (arith, kind)))))

      waits_of_all : (j : ℕ) → All (λ x. WaitsFor s x.1 x.0) (owes j).assigns
          → All (λ x. WaitsFor s x.1 x.0) (other j).assigns
      waits_of_all j before =
          each_put
          (λ k (x : Owed). All (λ y. WaitsFor s y.1 y.0) (owes k).assigns → All (λ y. WaitsFor s y.1 y.0) x.assigns) owes i p
          (λ _. waits) j (λ _ given. given) before

      made : (j : ℕ) → j < s.count → KeepsMade w s other j (after j)
      made j known =
          let o = keeps.made j known in
          record {
            thread = thread_kept j o.thread;
            assign = assigned j known;
            regions = λ k within.
                let region = o.regions k within in
                subst (λ (r : Rec). KeepsRegionSlot w s other j k r) (sym (stays j regions k (λ kind. absurd (omega (arith, kind))))) (record {
                  life = subst (λ (q : Option Rid). KeepsLife (m j regions k) RegionLife (s.regions j k) (has_region_slot k q)) (sym (region_of_all j)) region.life;
                  live = λ x is. region_owed w s owes other alike _ (m j regions k) x (region.live x is);
                });
            tasks = λ k within.
                let task = o.tasks k within in
                subst (λ (r : Rec). KeepsTaskSlot w s other j k r) (sym (stays j tasks k (λ kind. absurd (omega (arith, kind))))) (record {
                  life = subst (λ (ks : List Tid). KeepsLife (m j tasks k) TaskLife (s.tasks j k) (has_slot k ks)) (sym (tasks_of_all j)) task.life;
                  live = λ t is. task_owed w s owes other alike _ (m j tasks k) t (task.live t is);
                });
            making = record {
              region = λ n is. o.making.region n (sym (region_of_all j) ∙ is);
              tasks = subst (λ (ks : List Tid). All (λ k. IsInTheMaking j (s.tasks j) k.0) ks) (sym (tasks_of_all j)) o.making.tasks;
              apart = subst (λ (ks : List Tid). AreApart ks) (sym (tasks_of_all j)) o.making.apart;
            };
            objects = objects_owed s (owes j) (other j) (alike j) (waits_of_all j o.objects.assigns) o.objects;
          }

both : {a b : Bool} → a ≡ true → b ≡ true → a && b ≡ true
both {a} {b} x y = ap (λ (c : Bool). c && b) x ∙ y

-- the same task
is_task_same : (k : Tid) → is_task k k ≡ true
is_task_same k = grind (arith, nat_tests)

pub assign_stores_keep : AssignStoresKeep
assign_stores_keep =
    λ w m s owes i to k rest keeps maker known owed waits alone some. kept w m s owes i to k rest keeps maker known owed waits alone some
  where
    kept : (w : List ℕ) (m : Memory) (s : State) (owes : ℕ → Owed) (i to : ℕ) (k : Tid) (rest : List (Tid × ℕ))
        → KeepsWords w m s owes → i < s.count → to < s.count
        → (owes i).assigns ≡ (k, to) ∷ rest → WaitsFor s to k → ((t : Tid) → WaitsFor s to t → t ≡ k) → task_address w k ≢ 0
        → KeepsWords w (with_word m to threads 0 (number ThreadAssign) 0 (task_address w k)) s
        (replace_at owes i (record (owes i) { assigns = rest }))
    kept w m s owes i to k rest keeps maker known owed waits alone some =
        assign_changed w m s owes i to (task_address w k) p keeps alike_own refl refl
        (All-tail (λ x. WaitsFor s x.1 x.0) (k, to) rest (subst (λ (ms : List (Tid × ℕ)). All (λ x. WaitsFor s x.1 x.0) ms) owed (keeps.made i maker).objects.assigns))
        (λ j within. assigned j within (j == to) refl)
      where
        p : Owed
        p = record (owes i) { assigns = rest }

        n : Memory
        n = with_word m to threads 0 (number ThreadAssign) 0 (task_address w k)

        other : ℕ → Owed
        other = replace_at owes i p

        alike_own : OwesAlike p (owes i)
        alike_own = record { pending = refl; raised = refl; lowered = refl; referred = refl; own = refl; returned = refl; gives = refl; left = refl; hand = refl; counted = refl; uncounted = refl }

        met : (j : ℕ) → one (other j).met ≡ one (owes j).met
        met j = each_put (λ c (x : Owed). one x.met ≡ one (owes c).met) owes i p refl j (λ _. refl)

        -- one store less is owed, for this thread and task
        less : (j : ℕ) (t : Tid)
            → sum_of_owed s other (assign_owed j t) + one (to == j && is_task t k) ≡ sum_of_owed s owes (assign_owed j t)
        less j t =
            let change =
            sum_changed s.count i (λ c. assign_owed j t (owes c)) (λ c. assign_owed j t (other c)) maker
            (λ c ne. ap (assign_owed j t) (put_other owes i c p ne)) in
            let before : assign_owed j t (owes i) ≡ one (to == j && is_task t k) + assigns_in j t rest =
            ap (assigns_in j t) owed in
            let now : assign_owed j t (other i) ≡ assigns_in j t rest =
            ap (assign_owed j t) (put_same owes i p) in
            omega (arith, change, before, now)

        assigned : (j : ℕ) → j < s.count → (b : Bool) → j == to ≡ b → KeepsAssign w s other j (n j threads 0)
        assigned j within true e =
            let is : to ≡ j = sym (eqb-true j to e) in
            subst (λ c. KeepsAssign w s other c (n c threads 0)) is (record {
              waiting = λ t there.
                  let same : k ≡ t = sym (alone t there) in
                  subst (λ (q : Tid). IsAssignedOnce w s other to q (n to threads 0 (number ThreadAssign) 0)) same (own (keeps.made to known).assign);
              none = λ nobody. absurd (nobody k waits);
            })
          where
            own : KeepsAssign w s owes to (m to threads 0)
                → IsAssignedOnce w s other to k (n to threads 0 (number ThreadAssign) 0)
            own before =
                let was = (before.waiting k waits).once in
                let stored : n to threads 0 (number ThreadAssign) 0 ≡ task_address w k =
                word_read m to threads 0 (number ThreadAssign) 0 (task_address w k) in
                let test : (n to threads 0 (number ThreadAssign) 0 == task_address w k) ≡ true =
                eq-eqb _ _ stored in
                let counted : one (n to threads 0 (number ThreadAssign) 0 == task_address w k) ≡ 1 =
                ap one test in
                let there : one (to == to && is_task k k) ≡ 1 =
                ap one (both (eq-eqb to to refl) (is_task_same k)) in
                let one_less = less to k in
                let met_same = met to in
                record { word_is = inr stored; once = omega (arith, was, counted, there, one_less, met_same) }
        assigned j within false e =
            subst (λ (r : Rec). KeepsAssign w s other j r) (sym (record_stays m to threads 0 (number ThreadAssign) 0 (task_address w k) j threads 0 (λ same _ _. grind (arith, nat_tests)))) (record {
              waiting = λ t there.
                  let was = (keeps.made j within).assign.waiting t there in
                  let once = was.once in
                  let apart : to == j ≡ false = grind (arith, nat_tests) in
                  let none : one (to == j && is_task t k) ≡ 0 =
                  ap (λ (c : Bool). one (c && is_task t k)) apart in
                  let one_less = less j t in
                  let met_same = met j in
                  record { word_is = was.word_is; once = omega (arith, once, none, one_less, met_same) };
              none = (keeps.made j within).assign.none;
            })

pub assign_clears_keep : AssignClearsKeep
assign_clears_keep =
    λ w m s owes i k keeps known stored unmet waits alone some. kept w m s owes i k keeps known stored unmet waits alone some
  where
    kept : (w : List ℕ) (m : Memory) (s : State) (owes : ℕ → Owed) (i : ℕ) (k : Tid) → KeepsWords w m s owes
        → i < s.count
        → m i threads 0 (number ThreadAssign) 0 ≡ task_address w k → (owes i).met ≡ false → WaitsFor s i k → ((t : Tid) → WaitsFor s i t → t ≡ k) → task_address w k ≢ 0
        → KeepsWords w (with_word m i threads 0 (number ThreadAssign) 0 0) s
        (replace_at owes i (record (owes i) { met = true }))
    kept w m s owes i k keeps known stored unmet waits alone some =
        assign_changed w m s owes i i 0 p keeps alike_own refl refl (keeps.made i known).objects.assigns
        (λ j within. assigned j within (j == i) refl)
      where
        p : Owed
        p = record (owes i) { met = true }

        n : Memory
        n = with_word m i threads 0 (number ThreadAssign) 0 0

        other : ℕ → Owed
        other = replace_at owes i p

        alike_own : OwesAlike p (owes i)
        alike_own = record { pending = refl; raised = refl; lowered = refl; referred = refl; own = refl; returned = refl; gives = refl; left = refl; hand = refl; counted = refl; uncounted = refl }

        same_sum : (j : ℕ) (t : Tid)
            → sum_of_owed s other (assign_owed j t) ≡ sum_of_owed s owes (assign_owed j t)
        same_sum j t =
            sum_same s.count (λ c. assign_owed j t (other c)) (λ c. assign_owed j t (owes c))
            (λ c. each_put (λ d (x : Owed). assign_owed j t x ≡ assign_owed j t (owes d)) owes i p refl c (λ _. refl))

        assigned : (j : ℕ) → j < s.count → (b : Bool) → j == i ≡ b → KeepsAssign w s other j (n j threads 0)
        assigned j within true e =
            let is : i ≡ j = sym (eqb-true j i e) in
            subst (λ c. KeepsAssign w s other c (n c threads 0)) is (record {
              waiting = λ t there.
                  let same : k ≡ t = sym (alone t there) in
                  subst (λ (q : Tid). IsAssignedOnce w s other i q (n i threads 0 (number ThreadAssign) 0)) same own;
              none = λ nobody. absurd (nobody k waits);
            })
          where
            own : IsAssignedOnce w s other i k (n i threads 0 (number ThreadAssign) 0)
            own =
                let was = ((keeps.made i known).assign.waiting k waits).once in
                let now : n i threads 0 (number ThreadAssign) 0 ≡ 0 =
                word_read m i threads 0 (number ThreadAssign) 0 0 in
                let before : one (m i threads 0 (number ThreadAssign) 0 == task_address w k) ≡ 1 =
                ap one (eq-eqb _ _ stored) in
                let after : one (n i threads 0 (number ThreadAssign) 0 == task_address w k) ≡ 0 =
                ap one (ne_eqb _ _ (λ same. some (sym same ∙ now))) in
                let unmet_before : one (owes i).met ≡ 0 = ap one unmet in
                let met_now : one (other i).met ≡ 1 = ap (λ (x : Owed). one x.met) (put_same owes i p) in
                let sum = same_sum i k in
                record { word_is = inl now; once = omega (arith, was, before, after, unmet_before, met_now, sum) }
        assigned j within false e =
            subst (λ (r : Rec). KeepsAssign w s other j r) (sym (record_stays m i threads 0 (number ThreadAssign) 0 0 j threads 0 (λ same _ _. grind (arith, nat_tests)))) (record {
              waiting = λ t there.
                  let was = (keeps.made j within).assign.waiting t there in
                  let once = was.once in
                  let sum = same_sum j t in
                  let met_same : one (other j).met ≡ one (owes j).met =
                  ap (λ (x : Owed). one x.met) (put_other owes i j p (λ is. grind (arith, nat_tests))) in
                  record { word_is = was.word_is; once = omega (arith, once, sum, met_same) };
              none = (keeps.made j within).assign.none;
            })
