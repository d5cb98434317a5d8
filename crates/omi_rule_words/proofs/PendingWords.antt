-- The word of a region for its unfinished explicit tasks: a raise for a task in the making, and the lowering for one that has finished.
use Rattle.std.proofs.Common.{◌≡◌, ◌≢◌, ◌+◌, ◌<◌, ◌≤◌, ◌^◌, inl, inr, ℕ, List, Option, Some, None, refl, sym, ap, subst, ◌∙◌, arith}
use Rattle.std.specs.Prelude.{◌⊎◌, IsSome}
use Rattle.std.proofs.lemmas.Bool.{cases_eq}
use Rattle.omi_model.specs.declared.limits.TheConstants.{MOST_EVENTS}
use Rattle.omi_model.specs.declared.id.Id.{Id}
use Rattle.omi_model.specs.declared.id.Rid.{Rid}
use Rattle.omi_model.specs.declared.id.Tid.{Tid}
use Rattle.omi_model.specs.declared.region.Region.{Region}
use Rattle.omi_model.specs.State.{State, region_of}
use Rattle.omi_layout.specs.declared.field.Field.TheVariants.{RegionLife, RegionPending, TaskChildren, TaskLife, TaskSlots, TaskReferences}
use Rattle.omi_layout.specs.Field.{regions, tasks}
use Rattle.omi_layout.specs.Memory.{Memory, Rec, replace_at}
use Rattle.omi_layout.specs.Named.{number}
use Rattle.omi_layout.proofs.Puts.{record_stays, word_read, word_stays}
use Rattle.omi_rule_words.specs.Owes.{Owed, nothing}
use Rattle.omi_rule_words.specs.Counts.{is_some_region, one, pending_owed, sum_of_owed}
use Rattle.omi_rule_words.specs.Objects.{KeepsRegion}
use Rattle.omi_rule_words.specs.Words.{KeepsWords, OwesOnLive, region_in, task_in}
use Rattle.omi_rule_words.specs.BarrierKinds.{one_more, with_region_word, word_of_region}
use Rattle.omi_rule_words.specs.CountKinds.{PendingAddsKeep, PendingSubtractsKeep, one_less}
use Rattle.omi_rule_words.proofs.OtherCounts.{MakesAlike, OwesAlikeOn, counts_same, is_other_id, is_own_id, name_of_slot, other_counts, owed_put, owed_put_same, region_counted, task_counted}
use Rattle.omi_rule_words.proofs.OwedTasks.{nothing_on_live}
use Rattle.omi_rule_words.proofs.Sums.{part_below}
use Rattle.omi_rule_words.proofs.GroupCounts.{OnGroupsAlike, groups_put}

module _ (w : List ℕ) (m : Memory) (s : State) (owes : ℕ → Owed) (i : ℕ) (p : Owed) (n : Rid) (word : ℕ)
    (keeps : KeepsWords w m s owes) (known : i < s.count) (alike : MakesAlike p (owes i))
    (on_groups : OnGroupsAlike p (owes i)) where
  abbrev after : Memory
  after = with_region_word m n RegionPending word

  stays : (c kind j : ℕ) → (kind ≡ regions → ⊥) → after c kind j ≡ m c kind j
  stays c kind j ne =
      record_stays m n.0.creator regions n.0.slot (number RegionPending) 0 word c kind j (λ _ is _. ne is)

  -- the word is right where as much is added to it as is owed more, and no less is owed on other regions
  pub pending_stored : (region : Region) → region_of s n ≡ Some region
      → ((k : Tid) → OwesAlikeOn s k p (owes i))
      →
      ((q : Rid) → (q.0.creator ≡ n.0.creator → q.0.slot ≡ n.0.slot → ⊥) → pending_owed q p ≡ pending_owed q (owes i))
      →
      (pending_owed n (owes i) ≤ word_of_region m n RegionPending → word + pending_owed n (owes i) ≡ word_of_region m n RegionPending + pending_owed n p)
      → (OwesOnLive s (owes i) → OwesOnLive s p)
      → KeepsWords w after s (replace_at owes i p)
  pending_stored region live children beside here objects =
      other_counts w m after s owes i p keeps alike (λ c kind j ne _. stays c kind j ne)
      (λ c j. word_stays m n.0.creator regions n.0.slot (number RegionPending) 0 word c regions j (number RegionLife) 0 (λ _ _ _ is _. absurd (omega (arith, is))))
      (λ c j. ap (λ (r : Rec). r (number TaskLife) 0) (stays c tasks j (λ kind. absurd (omega (arith, kind)))))
      (λ c j at _. ap (λ (r : Rec). r (number TaskSlots) at) (stays c tasks j (λ kind. absurd (omega (arith, kind)))))
      (groups_put w m after s owes i p keeps on_groups (λ c j at. ap (λ (r : Rec). r (number TaskSlots) at) (stays c tasks j (λ kind. absurd (omega (arith, kind))))))
      objects
      (λ c j within _ x there o. in_record c j x o (cases_eq c n.0.creator) (cases_eq j n.0.slot))
      (λ c j within _ t there o.
      let same = stays c tasks j (λ kind. absurd (omega (arith, kind))) in
      task_counted w m after s owes i p keeps alike (task_in c j (s.tasks c j)) (m c tasks j)
      (after c tasks j) t (λ g at _ _ _. ap (λ (r : Rec). r (number g) at) same)
      (counts_same w m after s owes i p keeps alike (task_in c j (s.tasks c j)) (m c tasks j) (after c tasks j) t (ap (λ (r : Rec). r (number TaskChildren) 0) same)
      (ap (λ (r : Rec). r (number TaskReferences) 0) same) (children (task_in c j (s.tasks c j)))) o)
    where
      name_is : region_in n.0.creator n.0.slot (s.regions n.0.creator n.0.slot) ≡ n
      name_is = ap (λ (q : Id). record { 0 = q }) (name_of_slot s.regions n.0 region live)

      own : (x : Region) → KeepsRegion w s owes n (m n.0.creator regions n.0.slot) x
          → KeepsRegion w s (replace_at owes i p) n (after n.0.creator regions n.0.slot) x
      own x o =
          region_counted w m after s owes i p keeps alike n (m n.0.creator regions n.0.slot)
          (after n.0.creator regions n.0.slot) x
          (λ g at ne. word_stays m n.0.creator regions n.0.slot (number RegionPending) 0 word n.0.creator regions n.0.slot (number g) at (λ _ _ _ is _. ne is))
          (λ was.
          let stored : after n.0.creator regions n.0.slot (number RegionPending) 0 ≡ word =
          word_read m n.0.creator regions n.0.slot (number RegionPending) 0 word in
          let change = owed_put s owes i p known (pending_owed n) in
          let least : pending_owed n (owes i) ≤ sum_of_owed s owes (pending_owed n) =
          part_below s.count i (λ j. pending_owed n (owes j)) known in
          let now = here (omega (arith, was, least)) in
          omega (arith, was, stored, change, now))
          o

      apart : (c j : ℕ) (x : Region) → KeepsRegion w s owes (region_in c j (s.regions c j)) (m c regions j) x
          → (c ≡ n.0.creator → j ≡ n.0.slot → ⊥)
          → KeepsRegion w s (replace_at owes i p) (region_in c j (s.regions c j)) (after c regions j) x
      apart c j x o ne =
          let same : after c regions j ≡ m c regions j =
          record_stays m n.0.creator regions n.0.slot (number RegionPending) 0 word c regions j
          (λ creator _ place. ne creator place) in
          region_counted w m after s owes i p keeps alike (region_in c j (s.regions c j)) (m c regions j)
          (after c regions j) x (λ g at _. ap (λ (r : Rec). r (number g) at) same)
          (λ was.
          let word_same : after c regions j (number RegionPending) 0 ≡ m c regions j (number RegionPending) 0 =
          ap (λ (r : Rec). r (number RegionPending) 0) same in
          let owed =
          owed_put_same s owes i p (pending_owed (region_in c j (s.regions c j)))
          (beside (region_in c j (s.regions c j)) ne) in
          omega (arith, was, word_same, owed))
          o

      in_record : (c j : ℕ) (x : Region)
          → KeepsRegion w s owes (region_in c j (s.regions c j)) (m c regions j) x
          → (c ≡ n.0.creator) ⊎ (c ≢ n.0.creator) → (j ≡ n.0.slot) ⊎ (j ≢ n.0.slot)
          → KeepsRegion w s (replace_at owes i p) (region_in c j (s.regions c j)) (after c regions j) x
      in_record c j x o (inl creator) (inl place) =
          subst
          (λ d. KeepsRegion w s (replace_at owes i p) (region_in d j (s.regions d j)) (after d regions j) x)
          (sym creator)
          (subst (λ q. KeepsRegion w s (replace_at owes i p) (region_in n.0.creator q (s.regions n.0.creator q)) (after n.0.creator regions q) x) (sym place)
          (subst (λ (q : Rid). KeepsRegion w s (replace_at owes i p) q (after n.0.creator regions n.0.slot) x) (sym name_is)
          (own x (subst (λ (q : Rid). KeepsRegion w s owes q (m n.0.creator regions n.0.slot) x) name_is
          (subst (λ q. KeepsRegion w s owes (region_in n.0.creator q (s.regions n.0.creator q)) (m n.0.creator regions q) x) place
          (subst (λ d. KeepsRegion w s owes (region_in d j (s.regions d j)) (m d regions j) x) creator o))))))
      in_record c j x o (inr ne) b = apart c j x o (λ creator _. ne creator)
      in_record c j x o (inl a) (inr ne) = apart c j x o (λ _ place. ne place)

-- a live object of a name
pub live_of : {A : Type 0} (o : Option A) → IsSome o → (x : A) × (o ≡ Some x)
live_of None is = absurd (cc)
live_of (Some x) is = (x, refl)

pub pending_adds_keep : PendingAddsKeep
pending_adds_keep =
    λ w m s owes i n keeps known none live small. kept w m s owes i n keeps known none live small
  where
    kept : (w : List ℕ) (m : Memory) (s : State) (owes : ℕ → Owed) (i : ℕ) (n : Rid) → KeepsWords w m s owes
        → i < s.count → (owes i).pending ≡ None → IsSome (region_of s n)
        → word_of_region m n RegionPending < MOST_EVENTS
        → KeepsWords w (with_region_word m n RegionPending (one_more (word_of_region m n RegionPending))) s
        (replace_at owes i (record (owes i) { pending = Some n }))
    kept w m s owes i n keeps known none live small =
        let (region, is) = live_of (region_of s n) live in
        pending_stored w m s owes i p n (one_more (word_of_region m n RegionPending)) keeps known
        (record { region = refl; tasks = refl; left = refl; assigns = refl; met = refl; hand = refl })
        (record { counted = refl; uncounted = refl; raised = λ k _ is. is; own = λ k _ is. is })
        region is (λ k. record { children = refl; references = refl; gives = refl })
        (λ q apart.
        let unowed : pending_owed q (owes i) ≡ 0 = ap (λ (o : Option Rid). one (is_some_region q o)) none in
        ap one (is_other_id q.0 n.0 apart) ∙ sym unowed)
        (λ _.
        let before : pending_owed n (owes i) ≡ 0 = ap (λ (o : Option Rid). one (is_some_region n o)) none in
        let now : pending_owed n p ≡ 1 = ap one (is_own_id n.0) in
        omega (arith, before, now, small))
        (λ x. record {
          pending = λ q same. let name : n ≡ q = cc in subst (λ (r : Rid). IsSome (region_of s r)) name live;
          left = x.left;
          raised = x.raised;
          lowered = x.lowered;
          referred = λ k is. let (t, live, region) = x.referred k is in absurd (cc);
          own = λ k is. let (t, live, region) = (x.own k is).1 in absurd (cc);
          returned = λ at is. let (k, there, owed) = x.returned at is in let (t, live, region) = owed in absurd (cc);
          gives = λ k is. let (t, live, region) = (x.gives k is).1 in absurd (cc);
          assigns = x.assigns;
        })
      where
        p : Owed
        p = record (owes i) { pending = Some n }

pub pending_subtracts_keep : PendingSubtractsKeep
pending_subtracts_keep = λ w m s owes i n keeps known owed small. kept w m s owes i n keeps known owed small
  where
    kept : (w : List ℕ) (m : Memory) (s : State) (owes : ℕ → Owed) (i : ℕ) (n : Rid) → KeepsWords w m s owes
        → i < s.count → owes i ≡ record nothing { pending = Some n } → word_of_region m n RegionPending < 2 ^ 64
        → KeepsWords w (with_region_word m n RegionPending (one_less (word_of_region m n RegionPending))) s
        (replace_at owes i nothing)
    kept w m s owes i n keeps known owed small =
        let (region, is) =
        live_of (region_of s n) ((keeps.made i known).objects.pending n (ap (λ (o : Owed). o.pending) owed)) in
        pending_stored w m s owes i nothing n (one_less (word_of_region m n RegionPending)) keeps known
        (subst (λ (o : Owed). MakesAlike nothing o) (sym owed) (record { region = refl; tasks = refl; left = refl; assigns = refl; met = refl; hand = refl }))
        (subst (λ (o : Owed). OnGroupsAlike nothing o) (sym owed) (record { counted = refl; uncounted = refl; raised = λ k none. absurd (cc); own = λ k none. absurd (cc) }))
        region is
        (λ k. subst (λ (o : Owed). OwesAlikeOn s k nothing o) (sym owed) (record { children = refl; references = refl; gives = refl }))
        (λ q apart. sym (ap (pending_owed q) owed ∙ ap one (is_other_id q.0 n.0 apart)))
        (λ least.
        let before : pending_owed n (owes i) ≡ 1 = ap (pending_owed n) owed ∙ ap one (is_own_id n.0) in
        let now : pending_owed n nothing ≡ 0 = refl in
        omega (arith, least, before, now, small))
        (λ _. nothing_on_live s)
