-- Words for what is counted are others, and one thread owes otherwise on them: what has to be shown of these words so that all is kept.
use Rattle.std.proofs.Common.{◌≡◌, ◌≢◌, ◌==◌, ◌+◌, ◌-◌, ◌<◌, ◌&&◌, ℕ, Bool, true, false, inl, inr, List, Option, Some, None, refl, sym, ap, subst, ◌∙◌, arith, eqb-true, eq-eqb, if◌then◌else◌}
use Rattle.std.specs.Prelude.{◌⊎◌, All}
use Rattle.omi_rep.specs.Records.{slot_word}
use Rattle.omi_model.specs.declared.id.Id.{Id}
use Rattle.omi_model.specs.declared.id.Rid.{Rid}
use Rattle.omi_model.specs.declared.id.Tid.{Tid}
use Rattle.omi_model.specs.declared.region.Region.{Region}
use Rattle.omi_model.specs.declared.slot.Slot.{Slot}
use Rattle.omi_model.specs.declared.task.Task.{Task}
use Rattle.omi_model.specs.Put.{Slots, found, named}
use Rattle.omi_model.specs.State.{State}
use Rattle.omi_model.proofs.Slots.{id_same}
use Rattle.omi_layout.specs.declared.field.Field.TheVariants.{RegionLeft, RegionLife, RegionPending, TaskChildren, TaskLife, TaskSlots, TaskReferences}
use Rattle.omi_layout.specs.declared.field.Field.{Field}
use Rattle.omi_layout.specs.Field.{runtime, threads, regions, tasks}
use Rattle.omi_layout.specs.Memory.{Memory, Rec, replace_at}
use Rattle.omi_layout.specs.Named.{number}
use Rattle.omi_layout.specs.Table.{per_thread}
use Rattle.omi_layout.proofs.Puts.{each_put, put_other, put_same}
use Rattle.omi_layout.specs.declared.limits.TheConstants.{COUNT_PLACE}
use Rattle.omi_rep.specs.Codes.{region_told, task_told}
use Rattle.omi_rule_words.specs.Owes.{Owed}
use Rattle.omi_rule_words.specs.Counts.{children_owed, has_region_slot, has_slot, is_id, left_owed, pending_owed, start_owed, sum_of_owed, unfinished_in, references_owed, gives_owed, is_explicit, one}
use Rattle.omi_rule_words.specs.Threads.{Has, KeepsAssign, KeepsRuntime, KeepsThread}
use Rattle.omi_rule_words.specs.Objects.{IsDeferredIn, KeepsCounts, KeepsLife, KeepsRegion}
use Rattle.omi_rule_words.specs.Words.{AreApart, IsInTheMaking, KeepsMade, KeepsTask, KeepsWords, OwesOnLive, region_in, task_in}
use Rattle.omi_rule_words.proofs.Fills.{life_same}
use Rattle.omi_rule_words.proofs.OtherOwes.{assign_owed_same}
use Rattle.omi_rule_words.proofs.OtherStates.{slots_as_before}
use Rattle.omi_rule_words.proofs.Sums.{sum_changed, sum_same}
use Rattle.omi_rule_words.proofs.StoredCodes.{region_apart, task_apart}
use Rattle.omi_rule_words.specs.Groups.{KeepsGroups}
use Rattle.omi_numbers.specs.declared.limits.TheConstants.{OWN_SLOTS}

-- ---- names

pub generation_of : {A : Type 0} (g : ℕ) (slot : Slot A) (x : A) → found g slot ≡ Some x
    → slot.generations ≡ g + 1
generation_of {A} g slot x is = go (slot.generations == g + 1) refl is
  where
    go : (b : Bool) → slot.generations == g + 1 ≡ b → (if b then slot.live else None) ≡ Some x
        → slot.generations ≡ g + 1
    go true e _ = eqb-true slot.generations (g + 1) e
    go false e none = absurd (cc)

-- the name of what lives in the slot of a live object
pub name_of_slot : {A : Type 0} (slots : Slots A) (n : Id) (x : A) → named slots n ≡ Some x
    → record { creator = n.creator; slot = n.slot; generation = (slots n.creator n.slot).generations - 1 } ≡ n
name_of_slot slots n x is =
    let count = generation_of n.generation (slots n.creator n.slot) x is in
    id_same
    (record { creator = n.creator; slot = n.slot; generation = (slots n.creator n.slot).generations - 1 }) n refl refl
    (omega (arith, count))

pub is_own_id : (n : Id) → is_id n n ≡ true
is_own_id n =
    ap (λ (b : Bool). b && (n.slot == n.slot && n.generation == n.generation))
    (eq-eqb n.creator n.creator refl)
    ∙ (ap (λ (b : Bool). b && n.generation == n.generation) (eq-eqb n.slot n.slot refl)
    ∙ eq-eqb n.generation n.generation refl)

pub is_other_id : (q n : Id) → (q.creator ≡ n.creator → q.slot ≡ n.slot → ⊥) → is_id q n ≡ false
is_other_id q n apart = go (q.creator == n.creator) refl (q.slot == n.slot) refl
  where
    go : (a : Bool) → q.creator == n.creator ≡ a → (b : Bool) → q.slot == n.slot ≡ b
        → a && (b && q.generation == n.generation) ≡ false
    go true e true f = absurd (apart (eqb-true q.creator n.creator e) (eqb-true q.slot n.slot f))
    go true e false f = refl
    go false e b f = refl

-- ---- what threads owe

-- two threads owe the same, but on words for explicit tasks
pub record MakesAlike (p o : Owed) : Type 0 where
  pub region : p.region ≡ o.region
  pub tasks : p.tasks ≡ o.tasks
  pub left : p.left ≡ o.left
  pub assigns : p.assigns ≡ o.assigns
  pub met : p.met ≡ o.met
  pub hand : p.hand ≡ o.hand

makes_alike : (o : Owed) → MakesAlike o o
makes_alike o = record { region = refl; tasks = refl; left = refl; assigns = refl; met = refl; hand = refl }

-- they owe the same on the counts of a task
pub record OwesAlikeOn (s : State) (k : Tid) (p o : Owed) : Type 0 where
  pub children : children_owed s k p ≡ children_owed s k o
  pub references : references_owed k p ≡ references_owed k o
  pub gives : gives_owed k p ≡ gives_owed k o

-- one thread owes otherwise
pub owed_put : (s : State) (owes : ℕ → Owed) (i : ℕ) (p : Owed) → i < s.count → (f : Owed → ℕ)
    → sum_of_owed s (replace_at owes i p) f + f (owes i) ≡ sum_of_owed s owes f + f p
owed_put s owes i p known f =
    let change =
    sum_changed s.count i (λ j. f (owes j)) (λ j. f (replace_at owes i p j)) known
    (λ j ne. ap f (put_other owes i j p ne)) in
    let own : f (replace_at owes i p i) ≡ f p = ap f (put_same owes i p) in
    omega (arith, change, own)

-- and counts the same by it
pub owed_put_same : (s : State) (owes : ℕ → Owed) (i : ℕ) (p : Owed) → (f : Owed → ℕ) → f p ≡ f (owes i)
    → sum_of_owed s (replace_at owes i p) f ≡ sum_of_owed s owes f
owed_put_same s owes i p f same =
    sum_same s.count (λ j. f (replace_at owes i p j)) (λ j. f (owes j))
    (λ j. each_put (λ k (x : Owed). f x ≡ f (owes k)) owes i p same j (λ _. refl))

module _ (w : List ℕ) (m n : Memory) (s : State) (owes : ℕ → Owed) (i : ℕ) (p : Owed)
    (keeps : KeepsWords w m s owes) (alike_own : MakesAlike p (owes i)) where
  abbrev other : ℕ → Owed
  other = replace_at owes i p

  alike : (j : ℕ) → MakesAlike (other j) (owes j)
  alike j = each_put (λ k (x : Owed). MakesAlike x (owes k)) owes i p alike_own j (λ _. makes_alike (owes j))

  -- the record of a region that has another word for its unfinished explicit tasks
  pub region_counted : (q : Rid) (a b : Rec) (x : Region)
      → ((g : Field) (at : ℕ) → number g ≢ number RegionPending → b (number g) at ≡ a (number g) at)
      →
      (a (number RegionPending) 0 ≡ unfinished_in w s q + sum_of_owed s owes (pending_owed q) → b (number RegionPending) 0 ≡ unfinished_in w s q + sum_of_owed s other (pending_owed q))
      → KeepsRegion w s owes q a x → KeepsRegion w s other q b x
  region_counted q a b x same pending o =
      record {
        codes = λ g at word told. same g at (region_apart w (region_told x) g at word told).0 ∙ o.codes g at word told;
        pending = pending o.pending;
        left =
            let was = o.left in
            let word = same RegionLeft 0 (λ is. omega (arith, is)) in
            let owed =
            owed_put_same s owes i p (left_owed q)
            (ap (λ x. left_owed q (record (owes i) { left = x })) alike_own.left) in
            omega (arith, was, word, owed);
      }

  -- the counts of a task on which the same is owed
  pub counts_same : (k : Tid) (a b : Rec) (t : Task) → b (number TaskChildren) 0 ≡ a (number TaskChildren) 0
      → b (number TaskReferences) 0 ≡ a (number TaskReferences) 0
      → OwesAlikeOn s k p (owes i) → KeepsCounts w s owes k a t → KeepsCounts w s other k b t
  counts_same k a b t children references same o = record {
    children =
        let was = o.children in
        let owed = owed_put_same s owes i p (children_owed s k) same.children in
        omega (arith, was, children, owed);
    references =
        let was = o.references in
        let owed = owed_put_same s owes i p (references_owed k) same.references in
        omega (arith, was, references, owed);
    given = owed_put_same s owes i p (gives_owed k) same.gives
        ∙ (o.given ∙ ap (λ x. one (is_explicit t && x == 0)) (sym references));
  }

  -- the record of a task that counts otherwise
  pub task_counted : (k : Tid) (a b : Rec) (t : Task)
      → ((g : Field) (at : ℕ) → number g ≢ number TaskChildren → number g ≢ number TaskReferences → (number g ≡ number TaskSlots → at < COUNT_PLACE) → b (number g) at ≡ a (number g) at)
      → (KeepsCounts w s owes k a t → KeepsCounts w s other k b t) → KeepsTask w s owes k a t → KeepsTask w s other k b t
  task_counted k a b t same counts o = record {
    environment = λ g at word none told. let apart = task_apart w (task_told t) g at word told in same g at apart.children apart.references apart.counts ∙ o.environment g at word none told;
    place = λ has g at word is told. let apart = task_apart w (task_told t) g at word told in same g at apart.children apart.references apart.counts ∙ o.place has g at word is told;
    counts = counts o.counts;
    slots = λ implicit at within. slot at within (o.slots implicit at within);
  }
    where
      slot : (at : ℕ) → at < OWN_SLOTS
          → Has a TaskSlots at 0 ⊎ ((j : Tid) × IsDeferredIn s t at j × Has a TaskSlots at (slot_word w j))
          → Has b TaskSlots at 0 ⊎ ((j : Tid) × IsDeferredIn s t at j × Has b TaskSlots at (slot_word w j))
      slot at within (inl none) = inl (same TaskSlots at (λ is. omega (arith, is)) (λ is. omega (arith, is)) (λ _. omega (arith, within)) ∙ none)
      slot at within (inr (j, x, is)) = inr (j, x, same TaskSlots at (λ is. omega (arith, is)) (λ is. omega (arith, is)) (λ _. omega (arith, within)) ∙ is)

  -- all is kept, where the words of live regions and tasks are right
  pub other_counts : ((c kind j : ℕ) → (kind ≡ regions → ⊥) → (kind ≡ tasks → ⊥) → n c kind j ≡ m c kind j)
      → ((c j : ℕ) → n c regions j (number RegionLife) 0 ≡ m c regions j (number RegionLife) 0)
      → ((c j : ℕ) → n c tasks j (number TaskLife) 0 ≡ m c tasks j (number TaskLife) 0)
      → ((c j at : ℕ) → at < COUNT_PLACE → n c tasks j (number TaskSlots) at ≡ m c tasks j (number TaskSlots) at)
      → KeepsGroups w (λ c. n c tasks) s other
      → (OwesOnLive s (owes i) → OwesOnLive s p)
      → ((c j : ℕ) → c < s.count → j < per_thread w regions → (x : Region) → (s.regions c j).live ≡ Some x
      → KeepsRegion w s owes (region_in c j (s.regions c j)) (m c regions j) x → KeepsRegion w s other (region_in c j (s.regions c j)) (n c regions j) x)
      → ((c j : ℕ) → c < s.count → j < per_thread w tasks → (t : Task) → (s.tasks c j).live ≡ Some t
      → KeepsTask w s owes (task_in c j (s.tasks c j)) (m c tasks j) t → KeepsTask w s other (task_in c j (s.tasks c j)) (n c tasks j) t)
      → KeepsWords w n s other
  other_counts stays region_lives task_lives slots groups objects regions_are tasks_are = record {
    groups = groups;
    runtime_record = subst (λ (r : Rec). KeepsRuntime w r s) (sym (stays 0 runtime 0 (λ kind. absurd (omega (arith, kind))) (λ kind. absurd (omega (arith, kind))))) keeps.runtime_record;
    made = made;
    deferred = record {
      once = λ k t live deferred.
          let was = keeps.deferred.once k t live deferred in
          let words = slots_as_before w m n s (λ c j at within. slots c j at (omega (arith, within))) (slot_word w k) in
          let owed =
          owed_put_same s owes i p (start_owed k)
          (ap (λ x. start_owed k (record (owes i) { hand = x })) alike_own.hand) in
          omega (arith, was, words, owed);
      hands = λ j k known is. keeps.deferred.hands j k known (sym (alike j).hand ∙ is);
    };
  }
    where
      objects_of : (j : ℕ) → OwesOnLive s (owes j) → OwesOnLive s (other j)
      objects_of j before =
          each_put (λ k (x : Owed). OwesOnLive s (owes k) → OwesOnLive s x) owes i p objects j
          (λ _ given. given) before

      made : (j : ℕ) → j < s.count → KeepsMade w s other j (n j)
      made j known =
          let o = keeps.made j known in
          let thread : n j threads 0 ≡ m j threads 0 =
          stays j threads 0 (λ kind. absurd (omega (arith, kind))) (λ kind. absurd (omega (arith, kind))) in
          record {
            thread = subst (λ (r : Rec). KeepsThread w j r (s.threads j)) (sym thread) o.thread;
            assign = subst (λ (r : Rec). KeepsAssign w s other j r) (sym thread) (assign_owed_same w s owes other (λ k. (alike k).assigns) (λ k. (alike k).met) j (m j threads 0) o.assign);
            regions = λ k within.
                let region = o.regions k within in
                record {
                  life =
                      subst
                      (λ (q : Option Rid). KeepsLife (n j regions k) RegionLife (s.regions j k) (has_region_slot k q))
                      (sym (alike j).region)
                      (life_same (m j regions k) (n j regions k) RegionLife (s.regions j k) (has_region_slot k (owes j).region) (region_lives j k) region.life);
                  live = λ x is. regions_are j k known within x is (region.live x is);
                };
            tasks = λ k within.
                let task = o.tasks k within in
                record {
                  life =
                      subst
                      (λ (ks : List Tid). KeepsLife (n j tasks k) TaskLife (s.tasks j k) (has_slot k ks))
                      (sym (alike j).tasks)
                      (life_same (m j tasks k) (n j tasks k) TaskLife (s.tasks j k) (has_slot k (owes j).tasks) (task_lives j k) task.life);
                  live = λ t is. tasks_are j k known within t is (task.live t is);
                };
            making = record {
              region = λ q is. o.making.region q (sym (alike j).region ∙ is);
              tasks = subst (λ (ks : List Tid). All (λ k. IsInTheMaking j (s.tasks j) k.0) ks) (sym (alike j).tasks) o.making.tasks;
              apart = subst (λ (ks : List Tid). AreApart ks) (sym (alike j).tasks) o.making.apart;
            };
            objects = objects_of j o.objects;
          }
