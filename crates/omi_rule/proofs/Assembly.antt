-- A step of one thread keeps the rule where it keeps the words and the thread's own part: the other threads' parts stay.
use Rattle.std.proofs.Common.{◌≡◌, ◌≢◌, ◌+◌, ◌==◌, ◌<◌, ℕ, Bool, true, false, List, [], ◌∷◌, ◌++◌, length, Some, None, refl, sym, ◌∙◌, subst, arith, eqb-true, eq-eqb, if◌then◌else◌, ◌≤◌, ◌⊎◌, inl, inr, ap}
use Rattle.std.specs.List.{Contains}
use Rattle.std.proofs.lemmas.List.{append-nil}
use Rattle.std.proofs.lemmas.List.Elements.{Contains-append_left}
use Rattle.omi_model.specs.declared.limits.TheConstants.{MOST_EVENTS}
use Rattle.omi_word.specs.declared.op.Op.{Op}
use Rattle.omi_word.specs.declared.op.Op.TheVariants as op
use Rattle.omi_word.specs.Memory.{address_of}
use Rattle.omi_script.specs.declared.program.Program.{Program}
use Rattle.omi_model.specs.declared.event.Event.{Event}
use Rattle.omi_model.specs.declared.event.Event.TheVariants as event
use Rattle.omi_model.specs.declared.group.Group.{Group}
use Rattle.omi_model.specs.declared.id.Rid.{Rid}
use Rattle.omi_model.specs.declared.id.Tid.{Tid}
use Rattle.omi_model.specs.declared.progress.Progress.TheVariants.{Begun, Deferred}
use Rattle.omi_model.specs.declared.region.Region.{Region}
use Rattle.omi_model.specs.declared.slot.Slot.{Slot}
use Rattle.omi_model.specs.declared.task.Task.{Task}
use Rattle.omi_model.specs.Groups.{AreMembersFinished}
use Rattle.omi_model.specs.LawChains.{IsChain}
use Rattle.omi_model.specs.Opening.{opening}
use Rattle.omi_model.specs.Reached.{Reached, Step}
use Rattle.omi_model.specs.State.{State, region_of, task_of}
use Rattle.omi_model.proofs.ChainsKept.{have_chains}
use Rattle.omi_model.proofs.groups.GroupMembers.{finished_groups_stay}
use Rattle.omi_model.proofs.ReachedWellFormed.{reached_well_formed}
use Rattle.omi_model.proofs.ReachedStates.{leads_on}
use Rattle.omi_model.proofs.Slots.{found_live, id_same, none_some, put_other, some_same}
use Rattle.omi_layout.specs.declared.field.Field.{Field}
use Rattle.omi_layout.specs.declared.field.Field.TheVariants.{RegionLeft, TaskSlots, ThreadAssign}
use Rattle.omi_layout.specs.Field.{kind_of, regions, runtime, tasks, threads}
use Rattle.omi_layout.specs.Memory.{MadeRecords, Memory, Rec, replace_at, with_word}
use Rattle.omi_layout.specs.Named.{number}
use Rattle.omi_layout.specs.Valid.{IsValid}
use Rattle.omi_layout.proofs.Puts.{each_put, record_stays, word_back, word_stays}
use Rattle.omi_pc.specs.declared.actor.Actor.{Actor}
use Rattle.omi_pc.specs.declared.counter.Counter.{Counter}
use Rattle.omi_pc.specs.declared.counter.Counter.TheVariants as counter
use Rattle.omi_pc.specs.declared.counter.PlainCounter.TheVariants as plain
use Rattle.omi_pc.specs.declared.team_counter.BarrierCounter.{BarrierCounter}
use Rattle.omi_rep.specs.declared.outcome.Outcome.{Outcome}
use Rattle.omi_rep.specs.declared.outcome.Outcome.TheVariants as outcome
use Rattle.omi_rep.specs.Shows.{AreWithin, LiveAreNamed}
use Rattle.omi_rep.specs.Suits.{Suits}
use Rattle.omi_rep.specs.Codes.{is_place}
use Rattle.omi_rule_words.specs.ExplicitKinds.{slot_of}
use Rattle.omi_rule_words.specs.Owes.{all_owed, owed}
use Rattle.omi_rule_words.specs.Words.{KeepsWords, OwesOnLive}
use Rattle.omi_rule_words.proofs.Moves.{moves_keep}
use Rattle.omi_rule_words.proofs.Shown.{found_generations}
use Rattle.omi_rule.specs.Commits.{CommitsAt, Compares, FindsEmptySlot}
use Rattle.omi_rule.specs.LeavesOthers.{LeavesOthers}
use Rattle.omi_rule.specs.Rows.{KeepsBarrierRow}
use Rattle.omi_rule.specs.Rule.{AreNewMembers, HasEnded, KeepsThread, Rule}
use Rattle.omi_rule.specs.Steps.{KeepsRule, RecordWord, found_in, left_in}
use Rattle.omi_rule.specs.Waits.{Waits}
use Rattle.omi_rule.proofs.Others.{events_leave_others, same_state}
use Rattle.omi_rule.proofs.NamesStay.{NamesStay, names_same, names_step}
use Rattle.omi_rule.proofs.OthersStand.{begun_undeferred, others_stand}
use Rattle.omi_rule.proofs.OwnRow.{own_row}
use Rattle.omi_rule.proofs.Runs.{stack_runs}
use Rattle.omi_rule.proofs.Named.{all_named}
use Rattle.omi_rule.proofs.NothingNew.{Makes, nothing_new, within_stays}
use Rattle.omi_rule.proofs.RowsStay.{Spares, row_stays}
use Rattle.omi_numbers.specs.declared.limits.TheConstants.{OWN_SLOTS}

-- ---- premises

-- before a step of thread i
pub record Before (p : Program) (w : List ℕ) (m : Memory) (events : List (ℕ × Event)) (s : State) (actors : ℕ → Actor) (i : ℕ) : Type 0 where
  pub valid : IsValid w
  pub suits : Suits p w
  pub rule : Rule p w m events s actors
  pub known : i < s.count
  pub few : length events + 1 < MOST_EVENTS
  -- what barriers say of other threads stays
  pub barriers : (e : Event) (u : State) → Step p s i e u → (j : ℕ) → j < s.count → j ≢ i
      → (c : BarrierCounter) → (actors j).counter ≡ counter.Barrier c → KeepsBarrierRow s (actors j) c
      → KeepsBarrierRow u (actors j) c

-- ---- what a store spares

pub spares_none : (m : Memory) (s : State) (j : ℕ) (a : Actor) → Spares m m s j a
spares_none m s j a = record { regions_same = λ slot e. refl; tasks_same = λ slot e. refl; assign_same = λ t e. refl; left_kept = λ slot. omega arith; slots_kept = λ row t place live im is within empty. empty; hand_same = λ k t f at known is live deferred of. refl }

-- a word of a record that stays does not fall
pub not_less : (x y : Rec) (f at : ℕ) → y ≡ x → x f at ≤ y f at
not_less x y f at same = let word : y f at ≡ x f at = ap (λ (r : Rec). r f at) same in omega (arith, word)

-- what relates the word before a store to the word after it
word_goes : (R : ℕ → ℕ → Type 0) → ((x : ℕ) → R x x) → (m : Memory) (c q s f k v d p t g h : ℕ)
    → R (m c q s f k) v → R (m d p t g h) (with_word m c q s f k v d p t g h)
word_goes R same m c q s f k v d p t g h here =
    each_put (λ i (made : MadeRecords). R (m i p t g h) (made p t g h)) m c _
    (each_put (λ i (slots : ℕ → Rec). R (m c i t g h) (slots t g h)) (m c) q _
    (each_put (λ i (r : Rec). R (m c q i g h) (r g h)) (m c q) s _
    (each_put (λ i (words : ℕ → ℕ). R (m c q s i h) (words h)) (m c q s) f _
    (each_put (λ i x. R (m c q s f i) x) (m c q s f) k v here h (λ ne. same (m c q s f h)))
    g (λ ne. same (m c q s g h)))
    t (λ ne. same (m c q t g h)))
    p (λ ne. same (m c p t g h)))
    d (λ ne. same (m d p t g h))

-- no word falls where one rises, and a word that is 0 stays so where 0 is stored
word_rises : (m : Memory) (c q s f k v d p t g h : ℕ) → m c q s f k ≤ v
    → m d p t g h ≤ with_word m c q s f k v d p t g h
word_rises = word_goes (λ x y. x ≤ y) (λ x. omega arith)

word_clears : (m : Memory) (c q s f k v d p t g h : ℕ) → v ≡ 0 → m d p t g h ≡ 0
    → with_word m c q s f k v d p t g h ≡ 0
word_clears m c q s f k v d p t g h zero =
    word_goes (λ x y. x ≡ 0 → y ≡ 0) (λ x e. e) m c q s f k v d p t g h (λ e. zero)

-- the records of another thread
-- where the record is not that of a live task
pub spares_own : (m : Memory) (s : State) (i kind slot f at v j : ℕ) (a : Actor) → j ≢ i
    → (kind ≡ tasks → (s.tasks i slot).live ≡ None) → Spares m (with_word m i kind slot f at v) s j a
spares_own m s i kind slot f at v j a other free = record {
  regions_same = λ k e. record_stays m i kind slot f at v j regions k (λ c _ _. other c);
  tasks_same = λ k e. record_stays m i kind slot f at v j tasks k (λ c _ _. other c);
  assign_same = λ t e. word_stays m i kind slot f at v j threads 0 (number ThreadAssign) 0 (λ c _ _ _ _. other c);
  left_kept = λ k. not_less (m j regions k) (with_word m i kind slot f at v j regions k) (number RegionLeft) 0 (record_stays m i kind slot f at v j regions k (λ c _ _. other c));
  slots_kept = λ row t place live im is within empty. word_stays m i kind slot f at v row.0.creator tasks row.0.slot (number TaskSlots) place (λ c q h _ _. apart row t live c q h) ∙ empty;
  hand_same = λ k t g h known is live deferred of. word_stays m i kind slot f at v k.0.creator tasks k.0.slot (number g) h (λ c q x _ _. apart k t live c q x);
}
  where
    apart : (k : Tid) (t : Task) → task_of s k ≡ Some t → k.0.creator ≡ i → tasks ≡ kind → k.0.slot ≡ slot → ⊥
    apart k t live c q h =
        none_some
        (subst (λ x. (s.tasks x k.0.slot).live ≡ None) (sym c) (subst (λ x. (s.tasks i x).live ≡ None) (sym h) (free (sym q))))
        (found_live k.0.generation (s.tasks k.0.creator k.0.slot) t live)

pub spares_threads : (m : Memory) (s : State) (i : ℕ) (f : Field) (v j : ℕ) (a : Actor)
    → number f ≢ number ThreadAssign → Spares m (with_word m i threads 0 (number f) 0 v) s j a
spares_threads m s i f v j a apart = record {
  regions_same = λ k e. record_stays m i threads 0 (number f) 0 v j regions k (λ _ kind _. absurd (omega (arith, kind)));
  tasks_same = λ k e. record_stays m i threads 0 (number f) 0 v j tasks k (λ _ kind _. absurd (omega (arith, kind)));
  assign_same = λ t e. word_stays m i threads 0 (number f) 0 v j threads 0 (number ThreadAssign) 0 (λ _ _ _ field _. apart (sym field));
  left_kept = λ k. not_less (m j regions k) (with_word m i threads 0 (number f) 0 v j regions k) (number RegionLeft) 0 (record_stays m i threads 0 (number f) 0 v j regions k (λ _ kind _. absurd (omega (arith, kind))));
  slots_kept = λ row t place live im is within empty. word_stays m i threads 0 (number f) 0 v row.0.creator tasks row.0.slot (number TaskSlots) place (λ _ kind _ _ _. absurd (omega (arith, kind))) ∙ empty;
  hand_same = λ k t g h known is live deferred of. word_stays m i threads 0 (number f) 0 v k.0.creator tasks k.0.slot (number g) h (λ _ kind _ _ _. absurd (omega (arith, kind)));
}

pub spares_runtime : (m : Memory) (s : State) (f : Field) (at v j : ℕ) (a : Actor)
    → Spares m (with_word m 0 runtime 0 (number f) at v) s j a
spares_runtime m s f at v j a = record {
  regions_same = λ k e. record_stays m 0 runtime 0 (number f) at v j regions k (λ _ kind _. absurd (omega (arith, kind)));
  tasks_same = λ k e. record_stays m 0 runtime 0 (number f) at v j tasks k (λ _ kind _. absurd (omega (arith, kind)));
  assign_same = λ t e. word_stays m 0 runtime 0 (number f) at v j threads 0 (number ThreadAssign) 0 (λ _ kind _ _ _. absurd (omega (arith, kind)));
  left_kept = λ k. not_less (m j regions k) (with_word m 0 runtime 0 (number f) at v j regions k) (number RegionLeft) 0 (record_stays m 0 runtime 0 (number f) at v j regions k (λ _ kind _. absurd (omega (arith, kind))));
  slots_kept = λ row t place live im is within empty. word_stays m 0 runtime 0 (number f) at v row.0.creator tasks row.0.slot (number TaskSlots) place (λ _ kind _ _ _. absurd (omega (arith, kind))) ∙ empty;
  hand_same = λ k t g h known is live deferred of. word_stays m 0 runtime 0 (number f) at v k.0.creator tasks k.0.slot (number g) h (λ _ kind _ _ _. absurd (omega (arith, kind)));
}

-- a live object has no record in the making
pub spares_region : (m : Memory) (s : State) (n : Rid) (r : Region) (f : Field) (at v j : ℕ) (a : Actor)
    → region_of s n ≡ Some r
    → (number f ≢ number RegionLeft) ⊎ (m n.0.creator regions n.0.slot (number f) at ≤ v)
    → Spares m (with_word m n.0.creator regions n.0.slot (number f) at v) s j a
spares_region m s n r f at v j a live rises = record {
  regions_same = λ k e. record_stays m n.0.creator regions n.0.slot (number f) at v j regions k
      (λ c _ slot. none_some (subst (λ x. (s.regions x n.0.slot).live ≡ None) c (subst (λ x. (s.regions j x).live ≡ None) slot e)) (found_live n.0.generation (s.regions n.0.creator n.0.slot) r live));
  tasks_same = λ k e. record_stays m n.0.creator regions n.0.slot (number f) at v j tasks k (λ _ kind _. absurd (omega (arith, kind)));
  assign_same = λ t e. word_stays m n.0.creator regions n.0.slot (number f) at v j threads 0 (number ThreadAssign) 0 (λ _ kind _ _ _. absurd (omega (arith, kind)));
  left_kept = λ k. kept k rises;
  slots_kept = λ row t place here im is within empty. word_stays m n.0.creator regions n.0.slot (number f) at v row.0.creator tasks row.0.slot (number TaskSlots) place (λ _ kind _ _ _. absurd (omega (arith, kind))) ∙ empty;
  hand_same = λ k t g h known is here deferred of. word_stays m n.0.creator regions n.0.slot (number f) at v k.0.creator tasks k.0.slot (number g) h (λ _ kind _ _ _. absurd (omega (arith, kind)));
}
  where
    kept : (k : ℕ) → (number f ≢ number RegionLeft) ⊎ (m n.0.creator regions n.0.slot (number f) at ≤ v)
        → m j regions k (number RegionLeft) 0 ≤ with_word m n.0.creator regions n.0.slot (number f) at v j regions k (number RegionLeft) 0
    kept k (inl apart) =
        let same = word_stays m n.0.creator regions n.0.slot (number f) at v j regions k (number RegionLeft) 0 (λ _ _ _ field _. apart (sym field)) in omega (arith, same)
    kept k (inr more) =
        word_rises m n.0.creator regions n.0.slot (number f) at v j regions k (number RegionLeft) 0 more

-- what lives in one slot is one task
pub same_name : (s : State) (k h : Tid) (t x : Task) → task_of s k ≡ Some t → task_of s h ≡ Some x
    → h.0.creator ≡ k.0.creator → h.0.slot ≡ k.0.slot → (h ≡ k) × (x ≡ t)
same_name s k h t x live there c q =
    let one : s.tasks h.0.creator h.0.slot ≡ s.tasks k.0.creator k.0.slot =
    ap (λ d. s.tasks d h.0.slot) c ∙ ap (s.tasks k.0.creator) q in
    let first = found_generations k.0.generation (s.tasks k.0.creator k.0.slot) t live in
    let other = found_generations h.0.generation (s.tasks h.0.creator h.0.slot) x there in
    let alike = ap (λ (y : Slot Task). y.generations) one in (
      ap (λ d. record { 0 = d }) (id_same h.0 k.0 c q (omega (arith, first, other, alike))),
      some_same (sym (ap (λ (y : Slot Task). y.live) one) ∙ found_live h.0.generation (s.tasks h.0.creator h.0.slot) x there) (found_live k.0.generation (s.tasks k.0.creator k.0.slot) t live),
    )

-- a store into a live task's record spares the slots of thread j: it is in no slot, or in a task of another thread, or empties one
abbrev pub SparesSlots : Task → Field → ℕ → ℕ → ℕ → Type 0
SparesSlots t f at v j = ((number f ≡ number TaskSlots → OWN_SLOTS ≤ at)) ⊎ ((t.thread ≢ j) ⊎ (v ≡ 0))

-- and the hand of thread j: it is in no word of a place, or in no deferred task, or the task is not in that hand
abbrev pub SparesHand : State → Tid → Task → Field → ℕ → Actor → Type 0
SparesHand s k t f j a =
    (g : Field) → is_place g ≡ true → number g ≡ number f → t.progress ≡ Deferred → j < s.count → (owed a).hand ≡ Some k → ⊥

pub spares_task : (m : Memory) (s : State) (k : Tid) (t : Task) (f : Field) (at v j : ℕ) (a : Actor)
    → task_of s k ≡ Some t → SparesSlots t f at v j → SparesHand s k t f j a
    → Spares m (with_word m k.0.creator tasks k.0.slot (number f) at v) s j a
spares_task m s k t f at v j a live slots hand = record {
  regions_same = λ h e. record_stays m k.0.creator tasks k.0.slot (number f) at v j regions h (λ _ kind _. absurd (omega (arith, kind)));
  tasks_same = λ h e. record_stays m k.0.creator tasks k.0.slot (number f) at v j tasks h
      (λ c _ slot. none_some (subst (λ x. (s.tasks x k.0.slot).live ≡ None) c (subst (λ x. (s.tasks j x).live ≡ None) slot e)) (found_live k.0.generation (s.tasks k.0.creator k.0.slot) t live));
  assign_same = λ x e. word_stays m k.0.creator tasks k.0.slot (number f) at v j threads 0 (number ThreadAssign) 0 (λ _ kind _ _ _. absurd (omega (arith, kind)));
  left_kept = λ h. not_less (m j regions h) (with_word m k.0.creator tasks k.0.slot (number f) at v j regions h) (number RegionLeft) 0 (record_stays m k.0.creator tasks k.0.slot (number f) at v j regions h (λ _ kind _. absurd (omega (arith, kind))));
  slots_kept = λ row x place there im is within empty. kept row x place there is within empty slots;
  hand_same =
      λ h x g place known is there deferred of. word_stays m k.0.creator tasks k.0.slot (number f) at v h.0.creator tasks h.0.slot (number g) place
      (λ c _ slot field _.
      let (name, same) = same_name s k h t x live there c slot in
      hand g of field (ap (λ (y : Task). y.progress) (sym same) ∙ deferred) known (is ∙ ap Some name));
}
  where
    kept : (row : Tid) (x : Task) (place : ℕ) → task_of s row ≡ Some x → x.thread ≡ j → place < OWN_SLOTS
        → slot_of m row place ≡ 0 → SparesSlots t f at v j
        → slot_of (with_word m k.0.creator tasks k.0.slot (number f) at v) row place ≡ 0
    kept row x place there is within empty (inl behind) =
        word_stays m k.0.creator tasks k.0.slot (number f) at v row.0.creator tasks row.0.slot
        (number TaskSlots) place (λ _ _ _ field same. let least = behind (sym field) in omega (arith, least, same, within))
        ∙ empty
    kept row x place there is within empty (inr (inl other)) =
        word_stays m k.0.creator tasks k.0.slot (number f) at v row.0.creator tasks row.0.slot
        (number TaskSlots) place
        (λ c _ slot _ _. let (name, same) = same_name s k row t x live there c slot in other (ap (λ (y : Task). y.thread) (sym same) ∙ is))
        ∙ empty
    kept row x place there is within empty (inr (inr zero)) =
        word_clears m k.0.creator tasks k.0.slot (number f) at v row.0.creator tasks row.0.slot
        (number TaskSlots) place zero empty

-- a task that has begun on another thread
pub spares_begun : (m : Memory) (s : State) (k : Tid) (t : Task) (f : Field) (at v i j : ℕ) (a : Actor)
    → task_of s k ≡ Some t → t.progress ≡ Begun → t.thread ≡ i → j ≢ i
    → Spares m (with_word m k.0.creator tasks k.0.slot (number f) at v) s j a
spares_begun m s k t f at v i j a live begun runs other =
    spares_task m s k t f at v j a live (inr (inl (λ same. other (sym same ∙ runs))))
    (λ g of field deferred known is. begun_undeferred t begun deferred)

-- ---- other threads

-- the current task of a thread runs there
current_runs : (p : Program) (events : List (ℕ × Event)) (s : State) → Reached p events s → (i : ℕ) (k : Tid) (t : Task)
    → (s.threads i).current ≡ Some k → task_of s k ≡ Some t → t.thread ≡ i
current_runs p events s reached i k t is live = let (ks, chain) = have_chains p events s reached i in go ks chain
  where
    go : (ks : List Tid) → IsChain s i (s.threads i).current ks → t.thread ≡ i
    go [] none = absurd (none_some none is)
    go (n ∷ ns) (u, top, apart, found, thread, begun, chain) =
        ap (λ (x : Task). x.thread) (some_same live (subst (λ (x : Tid). task_of s x ≡ Some u) (some_same top is) found)) ∙ thread

module _ (p : Program) (w : List ℕ) (m n : Memory) (events later : List (ℕ × Event)) (s u : State)
    (actors : ℕ → Actor) (i : ℕ) (rule : Rule p w m events s actors) (leaves : LeavesOthers s u i)
    (names : NamesStay s u) where
  ended_stays : (j : ℕ) (c : Counter) → ((x : ℕ × Event) → Contains events x → Contains later x)
      → HasEnded events j c → HasEnded later j c
  ended_stays j (counter.Plain plain.Ended) more o = more (j, event.Done) o
  ended_stays j (counter.Plain plain.Work) more o = tt
  ended_stays j (counter.Plain plain.Call) more o = tt
  ended_stays j (counter.Plain plain.Skip) more o = tt
  ended_stays j (counter.Plain plain.Return) more o = tt
  ended_stays j (counter.Plain plain.Set) more o = tt
  ended_stays j (counter.Plain plain.Tool) more o = tt
  ended_stays j (counter.Plain plain.Enter) more o = tt
  ended_stays j (counter.Plain plain.Leave) more o = tt
  ended_stays j (counter.Plain plain.WorkState) more o = tt
  ended_stays j (counter.Plain plain.LockState) more o = tt
  ended_stays j (counter.Plain plain.Lock) more o = tt
  ended_stays j (counter.Plain plain.Unlock) more o = tt
  ended_stays j (counter.Plain plain.GroupBegin) more o = tt
  ended_stays j (counter.Plain plain.Done) more o = tt
  ended_stays j (counter.Worker c) more o = tt
  ended_stays j (counter.Team c) more o = tt
  ended_stays j (counter.Barrier c) more o = tt
  ended_stays j (counter.Join c) more o = tt
  ended_stays j (counter.Task c) more o = tt
  ended_stays j (counter.Look c) more o = tt
  ended_stays j (counter.Finish c) more o = tt

  other_thread : ((x : ℕ × Event) → Contains events x → Contains later x) → (j : ℕ) → j < s.count → j ≢ i
      → Spares m n s j (actors j)
      →
      ((k : Tid) → (owed (actors j)).hand ≡ Some k → (t : Task) × (task_of u k ≡ Some t) × (t.progress ≡ Deferred))
      → OwesOnLive u (owed (actors j))
      → ((g : Group) → ((s.threads i).current ≡ Some g.owner → ⊥) → AreMembersFinished s g → AreMembersFinished u g)
      →
      ((c : BarrierCounter) → (actors j).counter ≡ counter.Barrier c → KeepsBarrierRow s (actors j) c → KeepsBarrierRow u (actors j) c)
      → KeepsThread p w n later u j (actors j)
  other_thread more j known other spares hands owes groups barriers =
      let o = rule.threads j known in
      record {
        thread = o.thread;
        fits = o.fits;
        placed = o.placed;
        stands = others_stand p s u i leaves j other (actors j) o.stands;
        runs = stack_runs p s u j names.stays (actors j) o.stands o.runs;
        row = row_stays p w m n s u i leaves names j other (actors j) spares
            (λ top g owner. groups g (λ here. other (sym top.thread ∙ current_runs p events s rule.reached i (actors j).context.task top.task (here ∙ ap Some owner) top.live)))
            o.fits o.thread o.stands (own_row p events s rule.reached j (actors j).context) known hands owes (rule.words.made j known).making barriers o.row;
        ended = ended_stays j (actors j).counter more o.ended;
      }

  -- the own thread has another actor, and the others theirs. What they have in their hands is what the words after the step say
  pub all_threads : (a : Actor) → KeepsWords w n u (all_owed (replace_at actors i a))
      → ((x : ℕ × Event) → Contains events x → Contains later x)
      → ((j : ℕ) → j ≢ i → Spares m n s j (actors j))
      → ((g : Group) → ((s.threads i).current ≡ Some g.owner → ⊥) → AreMembersFinished s g → AreMembersFinished u g)
      →
      ((j : ℕ) → j < s.count → j ≢ i → (c : BarrierCounter) → (actors j).counter ≡ counter.Barrier c → KeepsBarrierRow s (actors j) c → KeepsBarrierRow u (actors j) c)
      → KeepsThread p w n later u i a → (j : ℕ) → j < u.count → KeepsThread p w n later u j (replace_at actors i a j)
  all_threads a words more spares groups barriers own j known = go (j == i) refl
    where
      go : (b : Bool) → j == i ≡ b → KeepsThread p w n later u j (if b then a else actors j)
      go true e = subst (λ (x : ℕ). KeepsThread p w n later u x a) (sym (eqb-true j i e)) own
      go false e =
          let other : j ≢ i = λ same. cc (sym (eq-eqb j i same), e) in
          other_thread more j (subst (λ c. j < c) leaves.count known) other (spares j other)
          (λ k is. words.deferred.hands j k known (ap (λ (x : Actor). (owed x).hand) (put_other actors i j a other) ∙ is))
          (subst (λ (x : Actor). OwesOnLive u (owed x)) (put_other actors i j a other) (words.made j known).objects)
          groups
          (barriers j (subst (λ c. j < c) leaves.count known) other)

-- ---- steps

-- an event that makes no object defers no task, so it is committed at no slot
no_slot : (e : Event) (found : ℕ) → (Makes e → ⊥) → FindsEmptySlot e found
no_slot (event.Defer task) found not = absurd (not tt)
no_slot e found not = tt

module _ (p : Program) (w : List ℕ) (m : Memory) (events : List (ℕ × Event)) (s : State) (actors : ℕ → Actor)
    (i : ℕ) (before : Before p w m events s actors i) where
  abbrev rule : Rule p w m events s actors
  rule = before.rule

  -- no event: the state stays
  quiet_rule : (n : Memory) (a : Actor) → KeepsWords w n s (all_owed (replace_at actors i a))
      → ((j : ℕ) → j ≢ i → Spares m n s j (actors j)) → KeepsThread p w n events s i a
      → Rule p w n (events ++ []) s (replace_at actors i a)
  quiet_rule n a words spares own =
      subst (λ (xs : List (ℕ × Event)). Rule p w n xs s (replace_at actors i a)) (sym (append-nil events))
      (record {
        reached = rule.reached;
        within = rule.within;
        words = words;
        waiting = rule.waiting;
        threads = all_threads p w m n events events s s actors i rule (same_state s i) (names_same s) a words (λ x there. there) spares (λ g other o. o) (λ j known other c at o. o) own;
      })

  pub quiet_keeps : (o : Op) (x : RecordWord) (after : Actor × Outcome) → after.1 ≡ outcome.Quiet
      → KeepsWords w (left_in m o x) s (all_owed (replace_at actors i after.0))
      → ((j : ℕ) → j ≢ i → Spares m (left_in m o x) s j (actors j)) → KeepsThread p w (left_in m o x) events s i after.0 → KeepsRule p w m events s actors i o x after
  quiet_keeps o x (a, out) is words spares own =
      subst (λ (y : Outcome). KeepsRule p w m events s actors i o x (a, y)) (sym is)
      (record { next = s; leads = refl; comes = tt; rule = quiet_rule (left_in m o x) a words spares own })

  pub waits_keep : (o : Op) (x : RecordWord) (after : Actor × Outcome) (address : ℕ)
      → after.1 ≡ outcome.NotReady address (found_in m x) → Waits w s i address (found_in m x) → Compares o
      → address ≡ address_of o
      → KeepsWords w (left_in m o x) s (all_owed (replace_at actors i after.0)) → ((j : ℕ) → j ≢ i → Spares m (left_in m o x) s j (actors j)) → KeepsThread p w (left_in m o x) events s i after.0
      → KeepsRule p w m events s actors i o x after
  waits_keep o x (a, out) address is waits compares there words spares own =
      subst (λ (y : Outcome). KeepsRule p w m events s actors i o x (a, y)) (sym is)
      (record { next = s; leads = (refl, waits); comes = (compares, there, refl); rule = quiet_rule (left_in m o x) a words spares own })

  -- an event: `u` is the next state
  pub event_keeps : (o : Op) (x : RecordWord) (after : Actor × Outcome) (e : Event) (u : State)
      → after.1 ≡ outcome.Event e → Step p s i e u → CommitsAt w s i e o → FindsEmptySlot e (found_in m x)
      → AreWithin w regions u.regions → AreWithin w tasks u.tasks → AreNewMembers p u → KeepsWords w (left_in m o x) u (all_owed (replace_at actors i after.0))
      → ((j : ℕ) → j ≢ i → Spares m (left_in m o x) s j (actors j)) → KeepsThread p w (left_in m o x) (events ++ (i, e) ∷ []) u i after.0 → KeepsRule p w m events s actors i o x after
  event_keeps o x (a, out) e u is step commits finds in_regions in_tasks waiting words spares own =
      let leaves : LeavesOthers s u i = events_leave_others p events s rule.reached i e u step in
      let reached : Reached p (events ++ (i, e) ∷ []) u =
      leads_on p (opening p) events s (i, e) u rule.reached step in
      let named : LiveAreNamed u.regions × LiveAreNamed u.tasks =
      all_named p (events ++ (i, e) ∷ []) u reached in
      subst (λ (y : Outcome). KeepsRule p w m events s actors i o x (a, y)) (sym is)
      (record {
        next = u;
        leads = step;
        comes = (commits, finds);
        rule = record {
          reached = reached;
          within = record {
            well_formed = reached_well_formed p (events ++ (i, e) ∷ []) u reached;
            count = leaves.count ∙ rule.within.count;
            regions = in_regions;
            tasks = in_tasks;
            regions_named = named.0;
            tasks_named = named.1;
          };
          words = words;
          waiting = waiting;
          threads = all_threads p w m (left_in m o x) events (events ++ (i, e) ∷ []) s u actors i rule leaves (names_step p s i e u step) a words (λ y there. Contains-append_left events ((i, e) ∷ []) y there) spares (λ g other. finished_groups_stay p events s i e u rule.reached step g other) (before.barriers e u step) own;
        };
      })

  -- an event that makes no object
  pub plain_event_keeps : (o : Op) (x : RecordWord) (after : Actor × Outcome) (e : Event) (u : State)
      → (Makes e → ⊥) → after.1 ≡ outcome.Event e → Step p s i e u → CommitsAt w s i e o
      → AreNewMembers p u → KeepsWords w (left_in m o x) u (all_owed (replace_at actors i after.0))
      → ((j : ℕ) → j ≢ i → Spares m (left_in m o x) s j (actors j)) → KeepsThread p w (left_in m o x) (events ++ (i, e) ∷ []) u i after.0 → KeepsRule p w m events s actors i o x after
  plain_event_keeps o x after e u not is step commits waiting words spares own =
      let none = nothing_new p s i e u not step in
      event_keeps o x after e u is step commits (no_slot e (found_in m x) not)
      (within_stays w regions s.regions u.regions none.regions rule.within.regions)
      (within_stays w tasks s.tasks u.tasks none.tasks rule.within.tasks) waiting words spares own

  -- a load leaves the memory
  pub of_load : (at : ℕ) (x : RecordWord) → left_in m (op.Load at) x ≡ m
  of_load at x = word_back m x.creator (kind_of (number x.field)) x.slot (number x.field) x.place

  -- a step that leaves the memory, and behind which its thread owes the same
  module _ (o : Op) (x : RecordWord) (b : Actor) (stays : left_in m o x ≡ m) (same : owed b ≡ owed (actors i))
      (own : KeepsThread p w m events s i b) where
    words_stay : KeepsWords w (left_in m o x) s (all_owed (replace_at actors i b))
    words_stay =
        subst (λ (n : Memory). KeepsWords w n s (all_owed (replace_at actors i b))) (sym stays)
        (moves_keep w m s actors i b rule.words same)

    spared : (j : ℕ) → j ≢ i → Spares m (left_in m o x) s j (actors j)
    spared j other =
        subst (λ (n : Memory). Spares m n s j (actors j)) (sym stays) (spares_none m s j (actors j))

    thread_stays : KeepsThread p w (left_in m o x) events s i b
    thread_stays = subst (λ (n : Memory). KeepsThread p w n events s i b) (sym stays) own

    pub quiet_stays : KeepsRule p w m events s actors i o x (b, outcome.Quiet)
    quiet_stays = quiet_keeps o x (b, outcome.Quiet) refl words_stay spared thread_stays

    pub waits_stay : (address : ℕ) → Waits w s i address (found_in m x) → Compares o → address ≡ address_of o
        → KeepsRule p w m events s actors i o x (b, outcome.NotReady address (found_in m x))
    waits_stay address waits compares there =
        waits_keep o x
        (b, outcome.NotReady address (found_in m x)) address refl waits compares there words_stay spared thread_stays

  -- a load that leads on, and one that finds a word on which the thread waits
  pub load_stays : (address : ℕ) (x : RecordWord) (b : Actor) → owed b ≡ owed (actors i)
      → KeepsThread p w m events s i b
      → KeepsRule p w m events s actors i (op.Load address) x (b, outcome.Quiet)
  load_stays address x b same own = quiet_stays (op.Load address) x b (of_load address x) same own

  -- a load behind which its thread owes otherwise
  pub load_settles : (address : ℕ) (x : RecordWord) (b : Actor) → KeepsWords w m s (all_owed (replace_at actors i b))
      → KeepsThread p w m events s i b → KeepsRule p w m events s actors i (op.Load address) x (b, outcome.Quiet)
  load_settles address x b words own =
      let stays = sym (of_load address x) in
      quiet_keeps (op.Load address) x (b, outcome.Quiet) refl
      (subst (λ (n : Memory). KeepsWords w n s (all_owed (replace_at actors i b))) stays words)
      (λ j other. subst (λ (n : Memory). Spares m n s j (actors j)) stays (spares_none m s j (actors j)))
      (subst (λ (n : Memory). KeepsThread p w n events s i b) stays own)

  pub load_waits : (address : ℕ) (x : RecordWord) (b : Actor) → Waits w s i address (found_in m x)
      → owed b ≡ owed (actors i) → KeepsThread p w m events s i b
      → KeepsRule p w m events s actors i (op.Load address) x (b, outcome.NotReady address (found_in m x))
  load_waits address x b waits same own =
      waits_stay (op.Load address) x b (of_load address x) same own address waits tt refl
