-- A word of a task for what is counted of its children: what has to be shown where it is stored and its thread owes otherwise.
use Rattle.std.proofs.Common.{◌≡◌, ◌≢◌, ◌+◌, ◌<◌, ◌≤◌, ◌==◌, ◌&&◌, inl, inr, ℕ, List, Some, sym, ap, subst, ◌∙◌, arith}
use Rattle.std.specs.Prelude.{◌⊎◌}
use Rattle.std.proofs.lemmas.Bool.{cases_eq}
use Rattle.omi_model.specs.declared.id.Id.{Id}
use Rattle.omi_model.specs.declared.id.Rid.{Rid}
use Rattle.omi_model.specs.declared.id.Tid.{Tid}
use Rattle.omi_model.specs.declared.task.Task.{Task}
use Rattle.omi_model.specs.State.{State, task_of}
use Rattle.omi_model.proofs.Slots.{found_live, some_same}
use Rattle.omi_layout.specs.declared.field.Field.{Field}
use Rattle.omi_layout.specs.declared.field.Field.TheVariants.{RegionLife, RegionPending, TaskChildren, TaskLife, TaskSlots, TaskReferences}
use Rattle.omi_layout.specs.Field.{regions, tasks}
use Rattle.omi_layout.specs.Memory.{Memory, Rec, replace_at}
use Rattle.omi_layout.specs.Named.{number}
use Rattle.omi_layout.proofs.Puts.{record_stays, word_read, word_stays}
use Rattle.omi_rule_words.specs.Owes.{Owed}
use Rattle.omi_rule_words.specs.Counts.{children_owed, pending_owed, sum_of_owed, references_owed, gives_owed, is_explicit, one}
use Rattle.omi_rule_words.specs.Objects.{KeepsCounts}
use Rattle.omi_rule_words.specs.Words.{KeepsTask, KeepsWords, OwesOnLive, region_in, task_in}
use Rattle.omi_rule_words.specs.CountKinds.{with_task_word, word_of_task}
use Rattle.omi_rule_words.proofs.OtherCounts.{MakesAlike, OwesAlikeOn, counts_same, name_of_slot, other_counts, owed_put, owed_put_same, region_counted, task_counted}
use Rattle.omi_rule_words.proofs.Sums.{part_below}
use Rattle.omi_rule_words.proofs.GroupCounts.{OnGroupsAlike, groups_put}

-- the task of a name, by the slot in which it lives
pub task_name : (s : State) (k : Tid) (t : Task) → task_of s k ≡ Some t
    → task_in k.0.creator k.0.slot (s.tasks k.0.creator k.0.slot) ≡ k
task_name s k t live = ap (λ (q : Id). record { 0 = q }) (name_of_slot s.tasks k.0 t live)

-- a word for what is counted of a task's children
data IsCount : Field → Type 0 where
  Children : IsCount TaskChildren
  References : IsCount TaskReferences

not_count : (g : Field) → number g ≢ number TaskChildren → number g ≢ number TaskReferences → (f : Field)
    → IsCount f → number g ≢ number f
not_count g children references _ Children = children
not_count g children references _ References = references

module _ (w : List ℕ) (m : Memory) (s : State) (owes : ℕ → Owed) (i : ℕ) (p : Owed) (k : Tid) (t : Task)
    (keeps : KeepsWords w m s owes) (known : i < s.count) (alike : MakesAlike p (owes i))
    (on_groups : OnGroupsAlike p (owes i)) (live : task_of s k ≡ Some t)
    (pending : (q : Rid) → pending_owed q p ≡ pending_owed q (owes i))
    (beside : (q : Tid) → (q.0.creator ≡ k.0.creator → q.0.slot ≡ k.0.slot → ⊥) → OwesAlikeOn s q p (owes i))
    (objects : OwesOnLive s (owes i) → OwesOnLive s p) where
  abbrev other : ℕ → Owed
  other = replace_at owes i p

  module _ (count : Field) (is_count : IsCount count) (word : ℕ) where
    abbrev after : Memory
    after = with_task_word m k count word

    stays : (c kind j : ℕ) → (kind ≡ tasks → ⊥) → after c kind j ≡ m c kind j
    stays c kind j ne =
        record_stays m k.0.creator tasks k.0.slot (number count) 0 word c kind j (λ _ is _. ne is)

    others_stay : (g : Field) (at : ℕ) → number g ≢ number count → (c j : ℕ)
        → after c tasks j (number g) at ≡ m c tasks j (number g) at
    others_stay g at ne c j =
        word_stays m k.0.creator tasks k.0.slot (number count) 0 word c tasks j (number g) at
        (λ _ _ _ is _. ne is)

    apart : (c j : ℕ) (x : Task) → KeepsTask w s owes (task_in c j (s.tasks c j)) (m c tasks j) x
        → (c ≡ k.0.creator → j ≡ k.0.slot → ⊥)
        → KeepsTask w s other (task_in c j (s.tasks c j)) (after c tasks j) x
    apart c j x o ne =
        let same : after c tasks j ≡ m c tasks j =
        record_stays m k.0.creator tasks k.0.slot (number count) 0 word c tasks j
        (λ creator _ place. ne creator place) in
        task_counted w m after s owes i p keeps alike (task_in c j (s.tasks c j)) (m c tasks j)
        (after c tasks j) x (λ g at _ _ _. ap (λ (r : Rec). r (number g) at) same)
        (counts_same w m after s owes i p keeps alike (task_in c j (s.tasks c j)) (m c tasks j) (after c tasks j) x (ap (λ (r : Rec). r (number TaskChildren) 0) same)
        (ap (λ (r : Rec). r (number TaskReferences) 0) same) (beside (task_in c j (s.tasks c j)) ne)) o

    task_stored : (KeepsCounts w s owes k (m k.0.creator tasks k.0.slot) t → KeepsCounts w s other k (after k.0.creator tasks k.0.slot) t)
        → KeepsWords w after s other
    task_stored counts =
        other_counts w m after s owes i p keeps alike (λ c kind j _ ne. stays c kind j ne)
        (λ c j. ap (λ (r : Rec). r (number RegionLife) 0) (stays c regions j (λ kind. absurd (omega (arith, kind)))))
        (others_stay TaskLife 0 (not_count TaskLife (λ is. omega (arith, is)) (λ is. omega (arith, is)) count is_count))
        (λ c j at _. slots_stay c j at)
        (groups_put w m after s owes i p keeps on_groups slots_stay)
        objects
        (λ c j within _ x there o.
        let same = stays c regions j (λ kind. absurd (omega (arith, kind))) in
        region_counted w m after s owes i p keeps alike (region_in c j (s.regions c j)) (m c regions j)
        (after c regions j) x (λ g at _. ap (λ (r : Rec). r (number g) at) same)
        (λ was.
        let word_same : after c regions j (number RegionPending) 0 ≡ m c regions j (number RegionPending) 0 =
        ap (λ (r : Rec). r (number RegionPending) 0) same in
        let owed =
        owed_put_same s owes i p (pending_owed (region_in c j (s.regions c j)))
        (pending (region_in c j (s.regions c j))) in
        omega (arith, was, word_same, owed))
        o)
        (λ c j within _ x there o. in_record c j x there o (cases_eq c k.0.creator) (cases_eq j k.0.slot))
      where
        slots_stay : (c j at : ℕ) → after c tasks j (number TaskSlots) at ≡ m c tasks j (number TaskSlots) at
        slots_stay c j at = others_stay TaskSlots at (not_count TaskSlots (λ is. omega (arith, is)) (λ is. omega (arith, is)) count is_count) c j

        own : (x : Task) → (s.tasks k.0.creator k.0.slot).live ≡ Some x
            → KeepsTask w s owes (task_in k.0.creator k.0.slot (s.tasks k.0.creator k.0.slot)) (m k.0.creator tasks k.0.slot) x
            → KeepsTask w s other (task_in k.0.creator k.0.slot (s.tasks k.0.creator k.0.slot))
            (after k.0.creator tasks k.0.slot) x
        own x there o =
            subst (λ (q : Tid). KeepsTask w s other q (after k.0.creator tasks k.0.slot) x)
            (sym (task_name s k t live))
            (task_counted w m after s owes i p keeps alike k (m k.0.creator tasks k.0.slot)
            (after k.0.creator tasks k.0.slot) x (λ g at ne nr _. others_stay g at (not_count g ne nr count is_count) k.0.creator k.0.slot)
            (subst (λ (y : Task). KeepsCounts w s owes k (m k.0.creator tasks k.0.slot) y → KeepsCounts w s other k (after k.0.creator tasks k.0.slot) y) same counts)
            (subst (λ (q : Tid). KeepsTask w s owes q (m k.0.creator tasks k.0.slot) x) (task_name s k t live) o))
          where
            same : t ≡ x
            same = some_same (found_live k.0.generation (s.tasks k.0.creator k.0.slot) t live) there

        in_record : (c j : ℕ) (x : Task) → (s.tasks c j).live ≡ Some x
            → KeepsTask w s owes (task_in c j (s.tasks c j)) (m c tasks j) x
            → (c ≡ k.0.creator) ⊎ (c ≢ k.0.creator) → (j ≡ k.0.slot) ⊎ (j ≢ k.0.slot)
            → KeepsTask w s other (task_in c j (s.tasks c j)) (after c tasks j) x
        in_record c j x there o (inl creator) (inl place) =
            let here : (s.tasks k.0.creator k.0.slot).live ≡ Some x =
            ap (λ d. (s.tasks d k.0.slot).live) (sym creator)
            ∙ ap (λ q. (s.tasks c q).live) (sym place)
            ∙ there in
            subst (λ d. KeepsTask w s other (task_in d j (s.tasks d j)) (after d tasks j) x) (sym creator)
            (subst (λ q. KeepsTask w s other (task_in k.0.creator q (s.tasks k.0.creator q)) (after k.0.creator tasks q) x) (sym place)
            (own x here (subst (λ q. KeepsTask w s owes (task_in k.0.creator q (s.tasks k.0.creator q)) (m k.0.creator tasks q) x) place
            (subst (λ d. KeepsTask w s owes (task_in d j (s.tasks d j)) (m d tasks j) x) creator o))))
        in_record c j x there o (inr ne) b = apart c j x o (λ creator _. ne creator)
        in_record c j x there o (inl a) (inr ne) = apart c j x o (λ _ place. ne place)

  -- the word for unfinished explicit children, to which as much is added as is owed more
  pub children_stored : (word : ℕ) → references_owed k p ≡ references_owed k (owes i)
      → gives_owed k p ≡ gives_owed k (owes i)
      →
      (children_owed s k (owes i) ≤ word_of_task m k TaskChildren → word + children_owed s k (owes i) ≡ word_of_task m k TaskChildren + children_owed s k p)
      → KeepsWords w (with_task_word m k TaskChildren word) s other
  children_stored word same gives here = task_stored TaskChildren Children word (λ o. record {
    children =
        let was = o.children in
        let stored = word_read m k.0.creator tasks k.0.slot (number TaskChildren) 0 word in
        let change = owed_put s owes i p known (children_owed s k) in
        let least : children_owed s k (owes i) ≤ sum_of_owed s owes (children_owed s k) =
        part_below s.count i (λ j. children_owed s k (owes j)) known in
        let now = here (omega (arith, was, least)) in
        omega (arith, was, stored, change, now);
    references =
        let was = o.references in
        let kept = others_stay TaskChildren Children word TaskReferences 0 (λ is. omega (arith, is)) k.0.creator k.0.slot in
        let owed = owed_put_same s owes i p (references_owed k) same in
        omega (arith, was, kept, owed);
    given =
        owed_put_same s owes i p (gives_owed k) gives
        ∙ (o.given
        ∙ ap (λ x. one (is_explicit t && x == 0))
        (sym (others_stay TaskChildren Children word TaskReferences 0 (λ is. omega (arith, is)) k.0.creator k.0.slot)));
  })

  -- and the word for references, where the task is to be given back afterwards if it is explicit and this word is 0
  pub references_stored : (word : ℕ) → children_owed s k p ≡ children_owed s k (owes i)
      → (KeepsCounts w s owes k (m k.0.creator tasks k.0.slot) t → sum_of_owed s other (gives_owed k) ≡ one (is_explicit t && word == 0))
      →
      (references_owed k (owes i) ≤ word_of_task m k TaskReferences → word + references_owed k (owes i) ≡ word_of_task m k TaskReferences + references_owed k p)
      → KeepsWords w (with_task_word m k TaskReferences word) s other
  references_stored word same given here = task_stored TaskReferences References word (λ o. record {
    children =
        let was = o.children in
        let kept = others_stay TaskReferences References word TaskChildren 0 (λ is. omega (arith, is)) k.0.creator k.0.slot in
        let owed = owed_put_same s owes i p (children_owed s k) same in
        omega (arith, was, kept, owed);
    references =
        let was = o.references in
        let stored = word_read m k.0.creator tasks k.0.slot (number TaskReferences) 0 word in
        let change = owed_put s owes i p known (references_owed k) in
        let least : references_owed k (owes i) ≤ sum_of_owed s owes (references_owed k) =
        part_below s.count i (λ j. references_owed k (owes j)) known in
        let now = here (omega (arith, was, least)) in
        omega (arith, was, stored, change, now);
    given =
        given o
        ∙ ap (λ x. one (is_explicit t && x == 0))
        (sym (word_read m k.0.creator tasks k.0.slot (number TaskReferences) 0 word));
  })
