-- An explicit task begins, whose record stands filled, as the raises for it are settled: its region and its generating task count it from then on.
use Rattle.std.proofs.Common.{◌≡◌, ◌≢◌, ◌&&◌, ◌||◌, ◌+◌, ◌<◌, ℕ, true, false, not, inl, inr, List, [], ◌∷◌, Option, Some, None, refl, sym, ap, ap₂, subst, ◌∙◌, arith, eq-eqb, ne_eqb}
use Rattle.std.specs.Prelude.{◌⊎◌, All}
use Rattle.std.proofs.lemmas.List.Elements.{All-head, All-nil, All-weaker}
use Rattle.std.specs.Option.{option_and_then}
use Rattle.omi_model.specs.declared.id.Rid.{Rid}
use Rattle.omi_model.specs.declared.id.Tid.{Tid}
use Rattle.omi_model.specs.declared.progress.Progress.TheVariants as progress
use Rattle.omi_model.specs.declared.slot.Slot.{Slot}
use Rattle.omi_model.specs.declared.task.Task.{Task}
use Rattle.omi_model.specs.LawNames.{AreNamesLive}
use Rattle.omi_model.specs.Put.{Slots, made, named}
use Rattle.omi_model.specs.State.{State, task_of}
use Rattle.omi_model.proofs.Slots.{each_slot, made_beside, made_other, made_same, same_or_not, some_same}
use Rattle.omi_model.specs.declared.group.Group.{Group}
use Rattle.omi_model.specs.Groups.{group_within}
use Rattle.omi_layout.specs.declared.field.Field.TheVariants.{TaskChildren, TaskReferences, TaskSlots}
use Rattle.omi_layout.specs.Field.{regions, tasks, threads}
use Rattle.omi_layout.specs.Memory.{Memory, replace_at}
use Rattle.omi_layout.specs.Table.{per_thread}
use Rattle.omi_layout.proofs.Puts.{each_put}
use Rattle.omi_layout.specs.declared.limits.TheConstants.{COUNT_PLACE}
use Rattle.omi_rule_words.specs.Owes.{Owed, nothing}
use Rattle.omi_rule_words.specs.Counts.{assign_owed, assigns_in, children_owed, has_region_slot, has_slot, is_finished, is_region, is_some_task, is_unfinished, of_live, one, pending_owed, sum_below, sum_of_owed, sum_of_slots, unfinished_children, unfinished_in, is_explicit, live_children, references_owed}
use Rattle.omi_rule_words.specs.Threads.{Has, KeepsAssign, WaitsFor}
use Rattle.omi_rule_words.specs.Objects.{HasPlace, KeepsDeferred, KeepsEnvironment, KeepsPlace}
use Rattle.omi_rule_words.specs.Words.{IsInTheMaking, KeepsMaking, KeepsWords}
use Rattle.omi_rule_words.specs.ExplicitKinds.{OwesNew}
use Rattle.omi_rule_words.proofs.Begun.{Begins, Grows, NewRegion, NewTask, making_same}
use Rattle.omi_rule_words.proofs.Grown.{OwesLess, grown, owes_less, waits_after}
use Rattle.omi_rule_words.proofs.OtherCounts.{owed_put, owed_put_same}
use Rattle.omi_rule_words.proofs.OtherOwes.{owes_alike}
use Rattle.omi_rule_words.proofs.Sums.{sum_changed, sum_same}
use Rattle.omi_rule_words.specs.Groups.{AreOwnersLive, count_owed, is_some_group, unfinished_members}
use Rattle.omi_numbers.specs.declared.limits.TheConstants.{OPEN_GROUPS}

-- an explicit task that goes on, in the region, with the generating task and in the group of its raises
pub record IsMade (k : Tid) (t new : Task) : Type 0 where
  pub explicit : new.implicit ≡ false
  pub region : new.region ≡ t.region
  pub generating : new.generating ≡ Some k
  pub goes : is_finished new.progress ≡ false
  pub unmet : new.progress ≢ progress.NotBegun
  pub group : new.group ≡ group_within k t

-- and the record that stands filled for it
pub record IsFilledAs (w : List ℕ) (r : ℕ → ℕ → ℕ) (new : Task) : Type 0 where
  pub environment : KeepsEnvironment w r new
  pub place : HasPlace new → KeepsPlace w r new
  pub children : Has r TaskChildren 0 0
  pub references : Has r TaskReferences 0 1
  pub groups : (index : ℕ) → index < OPEN_GROUPS → Has r TaskSlots (COUNT_PLACE + index) 0

module _ (w : List ℕ) (m : Memory) (s : State) (owes : ℕ → Owed) (i : ℕ) (task : Tid) (new : Task) (k : Tid)
    (t : Task) (hand : Option Tid)
    (keeps : KeepsWords w m s owes) (names : AreNamesLive s) (owners : AreOwnersLive s)
    (known : i < s.count)
    (owes_new : OwesNew w s owes i task k t) (is_made : IsMade k t new)
    (filled : IsFilledAs w (m i tasks task.0.slot) new) where
  abbrev ts : Slots Task
  ts = made s.tasks task.0 new

  abbrev after : State
  after = record s { regions = s.regions; tasks = ts }

  abbrev given : Owed
  given = record nothing { hand = hand }

  abbrev other : ℕ → Owed
  other = replace_at owes i given

  abbrev before : Owed
  before = record nothing { tasks = task ∷ []; pending = Some t.region; raised = Some k; referred = Some k; counted = Some k }

  owed : owes i ≡ before
  owed = owes_new.owed

  -- it refers to itself
  own_counted : is_unfinished new ≡ true
  own_counted = ap₂ (λ a b. not a && not b) is_made.explicit is_made.goes

  refers : (u : Task) → u ≡ new → is_unfinished u ≡ is_explicit u
  refers u same =
      subst (λ (x : Task). is_unfinished x ≡ is_explicit x) (sym same)
      (own_counted ∙ sym (ap not is_made.explicit))

  making : IsInTheMaking i (s.tasks i) task.0
  making =
      All-head (λ (q : Tid). IsInTheMaking i (s.tasks i) q.0) task []
      (subst (λ (o : Owed). All (λ q. IsInTheMaking i (s.tasks i) q.0) o.tasks) owed (keeps.made i known).making.tasks)

  pub empty : (s.tasks task.0.creator task.0.slot).live ≡ None
  empty = subst (λ c. (s.tasks c task.0.slot).live ≡ None) (sym making.maker) making.free

  pub maker_is : task.0.creator ≡ i
  maker_is = making.maker

  less : (j : ℕ) → OwesLess (other j) (owes j)
  less j =
      each_put (λ c (x : Owed). OwesLess x (owes c)) owes i given
      (subst (λ (o : Owed). OwesLess given o) (sym owed) own) j
      (λ _. owes_less (owes j) (owes j) (owes_alike (owes j)))
    where
      own : OwesLess given before
      own = record {
        pending = λ n is. absurd (cc);
        raised = λ q is. absurd (cc);
        tasks = inr (record { referred = refl; own = refl; returned = refl; gives = refl });
        lowered = refl;
        own = refl;
        gives = refl;
        left = refl;
        counted = λ q is. absurd (cc);
        uncounted = refl;
      }

  -- ---- slots

  abbrev RegionGrows : ℕ → ℕ → Type 0
  RegionGrows c j =
      Grows (has_region_slot j (other c).region ≡ has_region_slot j (owes c).region)
      (NewRegion w (m c regions j) (has_region_slot j (owes c).region)) (s.regions c j) (s.regions c j)

  region_slots : (c j : ℕ) → RegionGrows c j
  region_slots c j =
      inl
      (record {
        same = refl;
        fact = each_put (λ d (o : Owed). has_region_slot j o.region ≡ has_region_slot j
            (owes d).region) owes i given (sym (ap (λ (o : Owed). has_region_slot j o.region) owed)) c (λ _. refl);
      })

  abbrev NewAt : ℕ → ℕ → Task → Type 0
  NewAt c j = NewTask w (m c tasks j) (has_slot j (owes c).tasks) (λ u. u ≡ new)

  abbrev TaskGrows : ℕ → ℕ → Slot Task → Type 0
  TaskGrows c j y = Grows (has_slot j (other c).tasks ≡ has_slot j (owes c).tasks) (NewAt c j) (s.tasks c j) y

  begins : Begins (NewAt i task.0.slot) (s.tasks i task.0.slot) (record { generations = task.0.generation + 1; live = Some new })
  begins = record {
    empty = making.free;
    generations = ap (λ n. n + 1) making.next;
    object = new;
    live = refl;
    new = record {
      taken_is = ap (λ (o : Owed). has_slot task.0.slot o.tasks) owed ∙ ap (λ b. b || false) (eq-eqb task.0.slot task.0.slot refl);
      environment = filled.environment;
      place = filled.place;
      children = filled.children;
      references = filled.references ∙ sym (ap one own_counted);
      slots = λ implicit. let explicit = is_made.explicit in absurd (cc);
      groups = filled.groups;
      kind = refl;
    };
  }

  pub task_slots : (c j : ℕ) → TaskGrows c j (ts c j)
  task_slots =
      each_slot s.tasks task.0 TaskGrows (record { generations = task.0.generation + 1; live = Some new })
      (subst (λ c. TaskGrows c task.0.slot (record { generations = task.0.generation + 1; live = Some new })) (sym making.maker) (inr begins))
      (λ c j beside. inl (record {
        same = refl;
        fact =
            each_put
            (λ d (o : Owed). (d ≡ task.0.creator → j ≡ task.0.slot → ⊥) → has_slot j o.tasks ≡ has_slot j (owes d).tasks) owes i given
            (λ ne. sym (ap (λ (o : Owed). has_slot j o.tasks) owed ∙ ap (λ b. b || false) (ne_eqb task.0.slot j (λ same. ne (sym making.maker) (sym same)))))
            c (λ _ _. refl) beside;
      }))

  -- ---- what is counted

  pub made_counted : (f : ℕ → ℕ → Task → ℕ)
      → sum_of_slots w after f ≡ sum_of_slots w s f + f task.0.creator task.0.slot new
  made_counted f =
      let first =
      sum_changed (per_thread w tasks) task.0.slot (λ j. part s.tasks task.0.creator j)
      (λ j. part ts task.0.creator j) owes_new.made_by.within
      (λ j ne. beside task.0.creator j (λ _ same. ne same)) in
      let second = sum_changed s.count task.0.creator (λ c. sum_below (per_thread w tasks) (λ j. part s.tasks c j)) (λ c. sum_below (per_thread w tasks) (λ j. part ts c j)) maker
      (λ c ne. sum_same (per_thread w tasks) (λ j. part ts c j) (λ j. part s.tasks c j) (λ j. beside c j (λ same _. ne same))) in
      let none : part s.tasks task.0.creator task.0.slot ≡ 0 =
      ap (of_live (f task.0.creator task.0.slot)) empty in
      let here : part ts task.0.creator task.0.slot ≡ f task.0.creator task.0.slot new =
      ap (of_live (f task.0.creator task.0.slot)) live_here in
      omega (arith, first, second, none, here)
    where
      part : Slots Task → ℕ → ℕ → ℕ
      part slots c j = of_live (f c j) (slots c j).live

      maker : task.0.creator < s.count
      maker = let is = making.maker in omega (arith, is, known)

      beside : (c j : ℕ) → (c ≡ task.0.creator → j ≡ task.0.slot → ⊥) → part ts c j ≡ part s.tasks c j
      beside c j apart =
          ap (λ (x : Slot Task). of_live (f c j) x.live) (made_beside s.tasks task.0 new c j apart)

      live_here : (ts task.0.creator task.0.slot).live ≡ Some new
      live_here =
          each_slot s.tasks task.0
          (λ c j (y : Slot Task). c ≡ task.0.creator → j ≡ task.0.slot → y.live ≡ Some new)
          (record { generations = task.0.generation + 1; live = Some new }) (λ _ _. refl)
          (λ c j apart a b. absurd (apart a b)) task.0.creator task.0.slot refl refl

  unfinished : is_unfinished new ≡ true
  unfinished = ap (λ b. not b && not (is_finished new.progress)) is_made.explicit ∙ ap not is_made.goes

  pending_counted : (n : Rid)
      → unfinished_in w after n + sum_of_owed s other (pending_owed n) ≡ unfinished_in w s n + sum_of_owed s owes (pending_owed n)
  pending_counted n =
      let more = made_counted (λ _ _ x. one (is_unfinished x && is_region n x.region)) in
      let here : one (is_unfinished new && is_region n new.region) ≡ one (is_region n t.region) =
      ap (λ b. one (b && is_region n new.region)) unfinished
      ∙ ap (λ (r : Rid). one (is_region n r)) is_made.region in
      let change = owed_put s owes i given known (pending_owed n) in
      let was : pending_owed n (owes i) ≡ one (is_region n t.region) = ap (pending_owed n) owed in
      omega (arith, more, here, change, was)

  children_counted : (q : Tid)
      → unfinished_children w after q + sum_of_owed s other (children_owed s q) ≡ unfinished_children w s q + sum_of_owed s owes (children_owed s q)
  children_counted q =
      let more = made_counted (λ _ _ x. one (is_unfinished x && is_some_task q x.generating)) in
      let here : one (is_unfinished new && is_some_task q new.generating) ≡ one (is_some_task q (Some k)) =
      ap (λ b. one (b && is_some_task q new.generating)) unfinished
      ∙ ap (λ o. one (is_some_task q o)) is_made.generating in
      let change = owed_put s owes i given known (children_owed s q) in
      let was : children_owed s q (owes i) ≡ one (is_some_task q (Some k)) + 0 =
      ap (children_owed s q) owed in
      omega (arith, more, here, change, was)

  references_counted : (q : Tid)
      → live_children w after q + sum_of_owed s other (references_owed q) ≡ live_children w s q + sum_of_owed s owes (references_owed q)
  references_counted q =
      let more = made_counted (λ _ _ x. one (is_explicit x && is_some_task q x.generating)) in
      let here : one (is_explicit new && is_some_task q new.generating) ≡ one (is_some_task q (Some k)) =
      ap (λ b. one (not b && is_some_task q new.generating)) is_made.explicit
      ∙ ap (λ o. one (is_some_task q o)) is_made.generating in
      let change = owed_put s owes i given known (references_owed q) in
      let was : references_owed q (owes i) ≡ one (is_some_task q (Some k)) + 0 = ap (references_owed q) owed in
      omega (arith, more, here, change, was)

  members_counted : (g : Group)
      → unfinished_members w after g + sum_of_owed s other (count_owed s g) ≡ unfinished_members w s g + sum_of_owed s owes (count_owed s g)
  members_counted g =
      let more = made_counted (λ _ _ x. one (is_unfinished x && is_some_group g x.group)) in
      let here : one (is_unfinished new && is_some_group g new.group) ≡ one (is_some_group g (group_within k t)) =
      ap (λ b. one (b && is_some_group g new.group)) unfinished
      ∙ ap (λ o. one (is_some_group g o)) is_made.group in
      let change = owed_put s owes i given known (count_owed s g) in
      let was : count_owed s g (owes i) ≡ one (is_some_group g (group_within k t)) + 0 =
      ap (count_owed s g) owed
      ∙ ap (λ (o : Option Task). one (is_some_group g (option_and_then (group_within k) o)) + 0) owes_new.live in
      omega (arith, more, here, change, was)

  -- ---- what is kept of each thread

  making_kept : (j : ℕ) → j < s.count → KeepsMaking after j (other j)
  making_kept j within =
      each_put (λ c (o : Owed). c < s.count → KeepsMaking after c o) owes i given
      (λ _. record { region = λ n is. absurd (cc); tasks = All-nil (λ q. IsInTheMaking i (ts i) q.0); apart = tt })
      j (λ ne there. beside ne (keeps.made j there).making) within
    where
      beside : j ≢ i → KeepsMaking s j (owes j) → KeepsMaking after j (owes j)
      beside ne x = record {
        region = x.region;
        tasks =
            All-weaker (λ (q : Tid). IsInTheMaking j (s.tasks j) q.0)
            (λ (q : Tid). IsInTheMaking j (ts j) q.0)
            (λ q is. making_same j (s.tasks j) (ts j) q.0 (made_beside s.tasks task.0 new j q.0.slot (λ same _. ne (same ∙ making.maker))) is) (owes j).tasks x.tasks;
        apart = x.apart;
      }

  still : (j : ℕ) (q : Tid) → WaitsFor s j q → WaitsFor after j q
  still = waits_after w m s s.regions ts owes other (λ u. u ≡ new) refers keeps names owners less region_slots task_slots

  -- under a name stands the new task, or what stood there
  pub new_or_old : (q : Tid) (u : Task) → task_of after q ≡ Some u
      → (record { name : q ≡ task; same : u ≡ new }) ⊎ (task_of s q ≡ Some u)
  new_or_old q u is = go (same_or_not q.0 task.0)
    where
      go : (q.0 ≡ task.0) ⊎ (q.0 ≡ task.0 → ⊥)
          → (record { name : q ≡ task; same : u ≡ new }) ⊎ (task_of s q ≡ Some u)
      go (inl same) =
          inl
          (record { name = ap (λ n. record { 0 = n }) same; same = some_same is (ap (λ n. named ts n) same ∙ made_same s.tasks task.0 new) })
      go (inr ne) = inr (made_other s.tasks task.0 new q.0 u ne is)

  waited : (j : ℕ) (q : Tid) → WaitsFor after j q → WaitsFor s j q
  waited j q x = go (new_or_old q x.task x.live)
    where
      go : (record { name : q ≡ task; same : x.task ≡ new }) ⊎ (task_of s q ≡ Some x.task) → WaitsFor s j q
      go (inl is) =
          absurd (is_made.unmet (subst (λ (y : Task). y.progress ≡ progress.NotBegun) is.same x.progress))
      go (inr live) = record { task = x.task; live = live; progress = x.progress; thread = x.thread }

  assigns : (j : ℕ) → j < s.count → All (λ q. WaitsFor after q.1 q.0) (other j).assigns
  assigns j within =
      each_put (λ c (o : Owed). c < s.count → All (λ q. WaitsFor after q.1 q.0) o.assigns) owes i given
      (λ _. All-nil (λ (q : Tid × ℕ). WaitsFor after q.1 q.0))
      j
      (λ _ there. All-weaker (λ (q : Tid × ℕ). WaitsFor s q.1 q.0) (λ (q : Tid × ℕ). WaitsFor after q.1 q.0) (λ q. still q.1 q.0) (owes j).assigns (keeps.made j there).objects.assigns) within

  assigned : (j : ℕ) → j < s.count → KeepsAssign w after other j (m j threads 0)
  assigned j within =
      let o = (keeps.made j within).assign in
      record {
        waiting = λ q waits.
            let was = o.waiting q (waited j q waits) in
            let once = was.once in
            let sum =
            owed_put_same s owes i given (assign_owed j q)
            (sym (ap (λ (x : Owed). assigns_in j q x.assigns) owed)) in
            let met : one (other j).met ≡ one (owes j).met =
            each_put (λ c (x : Owed). one x.met ≡ one (owes c).met) owes i given
            (sym (ap (λ (x : Owed). one x.met) owed)) j (λ _. refl) in
            record { word_is = was.word_is; once = omega (arith, once, sum, met) };
        none = λ nobody. o.none (λ q waits. nobody q (still j q waits));
      }

  pub made_kept : KeepsDeferred w (λ c. m c tasks) after other → KeepsWords w m after other
  made_kept deferred =
      grown w m s s.regions ts owes other
      (λ u. u ≡ new) refers keeps names owners less region_slots task_slots references_counted pending_counted children_counted members_counted making_kept assigns assigned deferred
