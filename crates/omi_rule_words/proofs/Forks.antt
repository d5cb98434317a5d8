-- A thread forks: the region and the members' tasks begin, whose records stand filled.
use Rattle.std.proofs.Common.{◌≡◌, ◌≢◌, ◌==◌, ◌+◌, ◌%◌, ◌<◌, ◌≤◌, nat_le, ℕ, zero, suc, Bool, true, false, inl, inr, List, length, replicate, Some, None, refl, sym, ap, subst, ◌∙◌, arith, eq-eqb, eqb-true, ne_eqb, leb-true, if◌then◌else◌}
use Rattle.std.specs.Prelude.{◌⊎◌, All, IsSome, drop, get_or, slice_get, sum}
use Rattle.std.proofs.lemmas.Bool.Decides.{nat_tests}
use Rattle.std.proofs.lemmas.List.Elements.{All-nil, All-weaker}
use Rattle.std.proofs.lemmas.Option.{slice_get-get_or}
use Rattle.omi_script.specs.declared.program.Program.{Program}
use Rattle.omi_word.specs.declared.limits.TheConstants.{FIRST_ADDRESS}
use Rattle.omi_model.specs.declared.id.Id.{Id}
use Rattle.omi_model.specs.declared.id.Rid.{Rid}
use Rattle.omi_model.specs.declared.id.Tid.{Tid}
use Rattle.omi_model.specs.declared.progress.Progress.TheVariants as progress
use Rattle.omi_model.specs.declared.region.Region.{Region}
use Rattle.omi_model.specs.declared.slot.Slot.{Slot}
use Rattle.omi_model.specs.declared.task.Task.{Task}
use Rattle.omi_model.specs.Columns.{tasks_of}
use Rattle.omi_model.specs.LawNames.{AreNamesLive}
use Rattle.omi_model.specs.Put.{Slots, found, made}
use Rattle.omi_model.specs.State.{State, task_of}
use Rattle.omi_model.specs.Teams.{forked, master_of, member_task, new_region, with_members}
use Rattle.omi_model.proofs.Slots.{each_slot, id_same, made_beside, some_same}
use Rattle.omi_layout.specs.declared.field.Field.TheVariants.{ThreadAssign, ThreadCurrent}
use Rattle.omi_layout.specs.Field.{regions, tasks, threads}
use Rattle.omi_layout.specs.Memory.{Memory, replace_at, with_word}
use Rattle.omi_layout.specs.Named.{number}
use Rattle.omi_layout.specs.Place.{slot_address}
use Rattle.omi_layout.specs.Table.{place}
use Rattle.omi_layout.specs.Valid.{IsValid, is_arena, is_counted, is_placed}
use Rattle.omi_layout.proofs.Arenas.{test_left, test_right}
use Rattle.omi_layout.proofs.Puts.{each_put, put_other, put_same}
use Rattle.omi_rep.specs.Records.{task_address, task_word}
use Rattle.omi_rule_words.specs.Owes.{Owed, nothing}
use Rattle.omi_rule_words.specs.Counts.{assign_owed, assigns_in, count_true, has_region_slot, has_slot, is_task, one, sum_of_owed}
use Rattle.omi_rule_words.specs.Threads.{IsAssignedOnce, KeepsAssign, WaitsFor}
use Rattle.omi_rule_words.specs.Words.{AreApart, IsInTheMaking, KeepsMaking, KeepsWords}
use Rattle.omi_rule_words.specs.TeamKinds.{ForkIsFilled, ForksKeep, HasNoTask}
use Rattle.omi_rule_words.proofs.Changed.{current_stored}
use Rattle.omi_rule_words.proofs.Begun.{Begins, Grows, NewRegion, NewTask, making_same, none_found, some_found}
use Rattle.omi_rule_words.proofs.Grown.{OwesLess, owes_less, waits_after}
use Rattle.omi_rule_words.proofs.GrownMembers.{IsMember, members_grown, refers}
use Rattle.omi_rule_words.proofs.MadeMembers.{IsBeside, IsMadeAt, all_at, apart_behind_first, behind_first, behind_second, each_task, has_member_slot, has_no_slot, made_at, none_in, once_in, one_member}
use Rattle.omi_rule_words.proofs.OtherOwes.{OwesAlike, owes_alike}
use Rattle.omi_rule_words.proofs.Sums.{sum_changed, sum_none_within}
use Rattle.omi_rule_words.specs.Groups.{AreOwnersLive}

-- no record of a task begins at address 0
pub address_some : (w : List ℕ) → IsValid w → (k : Tid) → task_address w k ≢ 0
unfolding slot_address
address_some w v k none =
    let arena : is_arena w tasks ≡ true = v.arenas tasks (record { from = omega arith; to = omega arith }) in
    let placed : is_placed w tasks ≡ true =
    test_left (is_placed w tasks) _ (test_right (is_counted w tasks) _ arena) in
    let above : nat_le FIRST_ADDRESS (place w tasks) ≡ true =
    test_left (nat_le FIRST_ADDRESS (place w tasks)) _ (test_right (place w tasks % 8 == 0) _ placed) in
    let some : FIRST_ADDRESS ≤ place w tasks = leb-true FIRST_ADDRESS (place w tasks) above in
    omega (arith, none, some)

pub no_arrivals : (n : ℕ) → sum (replicate n 0) ≡ 0
no_arrivals zero = refl
no_arrivals (suc n) = no_arrivals n

none_true : (n : ℕ) → count_true (replicate n false) ≡ 0
none_true zero = refl
none_true (suc n) = let rest = none_true n in omega (arith, rest)

none_ended : (n : ℕ) → count_true (drop 1 (replicate n false)) ≡ 0
none_ended zero = refl
none_ended (suc n) = none_true n

is_task_turned : (a b : Tid) → is_task a b ≡ true → is_task b a ≡ true
is_task_turned a b e =
    let creator : a.0.creator ≡ b.0.creator = grind (arith, nat_tests) in
    let slot : a.0.slot ≡ b.0.slot = grind (arith, nat_tests) in
    let generation : a.0.generation ≡ b.0.generation = grind (arith, nat_tests) in
    subst (λ (n : Id). is_task b (record { 0 = n }) ≡ true) (sym (id_same a.0 b.0 creator slot generation))
    (same b)
  where
    same : (k : Tid) → is_task k k ≡ true
    same k = grind (arith, nat_tests)

module _ (p : Program) (w : List ℕ) (m : Memory) (s : State) (owes : ℕ → Owed) (i : ℕ) (region : Rid)
    (team : List (Tid × ℕ)) (f : ℕ) (k : Tid) (t : Task) (r : Region)
    (keeps : KeepsWords w m s owes) (known : i < s.count)
    (owed : owes i ≡ record nothing { region = Some region; tasks = tasks_of team })
    (filled : ForkIsFilled p w (m i) region team f k t r)
    (idle : All (λ x. HasNoTask s owes x.1) (drop 1 team)) (names : AreNamesLive s)
    (owners : AreOwnersLive s) (v : IsValid w) where
  abbrev new : ℕ → ℕ → Task
  new = member_task p region k t r f

  abbrev rs : Slots Region
  rs = made s.regions region.0 (new_region k t r team f)

  abbrev ts : Slots Task
  ts = with_members new 0 team s.tasks

  abbrev after : State
  after = record s { regions = rs; tasks = ts }

  abbrev given : Owed
  given = record nothing { assigns = drop 1 team }

  abbrev other : ℕ → Owed
  other = replace_at owes i given

  alike : (j : ℕ) → OwesAlike (other j) (owes j)
  alike j =
      each_put (λ c (x : Owed). OwesAlike x (owes c)) owes i given
      (subst (λ (o : Owed). OwesAlike given o) (sym owed) own) j (λ _. owes_alike (owes j))
    where
      own : OwesAlike given (record nothing { region = Some region; tasks = tasks_of team })
      own = record { pending = refl; raised = refl; lowered = refl; referred = refl; own = refl; returned = refl; gives = refl; left = refl; hand = refl; counted = refl; uncounted = refl }

  less : (j : ℕ) → OwesLess (other j) (owes j)
  less j = owes_less (other j) (owes j) (alike j)

  -- ---- the records in the making

  region_making : IsInTheMaking i (s.regions i) region.0
  region_making = (keeps.made i known).making.region region (ap (λ (o : Owed). o.region) owed)

  member_making : (j : ℕ) (x : Tid × ℕ) → slice_get team j ≡ Some x → IsInTheMaking i (s.tasks i) x.0.0
  member_making =
      each_task (λ q. IsInTheMaking i (s.tasks i) q.0) team
      (subst (λ (o : Owed). All (λ q. IsInTheMaking i (s.tasks i) q.0) o.tasks) owed (keeps.made i known).making.tasks)

  apart : AreApart (tasks_of team)
  apart = subst (λ (o : Owed). AreApart o.tasks) owed (keeps.made i known).making.apart

  abbrev RegionGrows : ℕ → ℕ → Slot Region → Type 0
  RegionGrows c j y =
      Grows (has_region_slot j (other c).region ≡ has_region_slot j (owes c).region)
      (NewRegion w (m c regions j) (has_region_slot j (owes c).region)) (s.regions c j) y

  region_slots : (c j : ℕ) → RegionGrows c j (rs c j)
  region_slots =
      each_slot s.regions region.0 RegionGrows
      (record { generations = region.0.generation + 1; live = Some (new_region k t r team f) })
      (subst (λ c. RegionGrows c region.0.slot (record { generations = region.0.generation + 1; live = Some (new_region k t r team f) })) (sym region_making.maker) (inr begins))
      (λ c j beside. inl (record { same = refl; fact = stays c j beside }))
    where
      begins : Begins (NewRegion w (m i regions region.0.slot) (has_region_slot region.0.slot (owes i).region))
          (s.regions i region.0.slot) (record { generations = region.0.generation + 1; live = Some (new_region k t r team f) })
      begins = record {
        empty = region_making.free;
        generations = ap (λ n. n + 1) region_making.next;
        object = new_region k t r team f;
        live = refl;
        new = record {
          taken_is = ap (λ (o : Owed). has_region_slot region.0.slot o.region) owed ∙ eq-eqb region.0.slot region.0.slot refl;
          filled = filled.region_record;
          ended = none_ended (length team);
        };
      }

      stays : (c j : ℕ) → (c ≡ region.0.creator → j ≡ region.0.slot → ⊥)
          → has_region_slot j (other c).region ≡ has_region_slot j (owes c).region
      stays c j beside =
          each_put
          (λ d (o : Owed). (d ≡ region.0.creator → j ≡ region.0.slot → ⊥) → has_region_slot j o.region ≡ has_region_slot j (owes d).region) owes i given
          (λ ne. sym (ap (λ (o : Owed). has_region_slot j o.region) owed ∙ ne_eqb region.0.slot j (λ same. ne (sym region_making.maker) (sym same)))) c
          (λ _ _. refl) beside

  abbrev TaskGrows : ℕ → ℕ → Slot Task → Type 0
  TaskGrows c j y =
      Grows (has_slot j (other c).tasks ≡ has_slot j (owes c).tasks)
      (NewTask w (m c tasks j) (has_slot j (owes c).tasks) IsMember) (s.tasks c j) y

  going : (j : ℕ) → (if j == 0 then progress.Begun else progress.NotBegun) ≡ progress.Deferred → ⊥
  going j = go (j == 0)
    where
      go : (b : Bool) → (if b then progress.Begun else progress.NotBegun) ≡ progress.Deferred → ⊥
      go true is = absurd (cc)
      go false is = absurd (cc)

  member_grows : (j : ℕ) (x : Tid × ℕ) → slice_get team j ≡ Some x → (y : Slot Task)
      → y ≡ record { generations = x.0.0.generation + 1; live = Some (new j x.1) } → TaskGrows i x.0.0.slot y
  member_grows j x is y now =
      let making = member_making j x is in
      inr (record {
        empty = making.free;
        generations = ap (λ (z : Slot Task). z.generations) now ∙ ap (λ n. n + 1) making.next;
        object = new j x.1;
        live = ap (λ (z : Slot Task). z.live) now;
        new = record {
          taken_is = ap (λ (o : Owed). has_slot x.0.0.slot o.tasks) owed ∙ has_member_slot team j x is;
          environment = λ g at word _ told. (filled.members j x is).codes g at word told;
          place = λ _ g at word _ told. (filled.members j x is).codes g at word told;
          children = (filled.members j x is).children;
          references = (filled.members j x is).references;
          slots = λ _. (filled.members j x is).slots;
          groups = (filled.members j x is).groups;
          kind = record { implicit = refl; undeferred = going j };
        };
      })

  task_slots : (c j : ℕ) → TaskGrows c j (ts c j)
  task_slots c j = go (made_at new 0 team s.tasks c j)
    where
      go : IsMadeAt new 0 team c j (ts c j) ⊎ IsBeside team c j (s.tasks c j) (ts c j)
          → TaskGrows c j (ts c j)
      go (inl x) =
          let maker : i ≡ c = sym (x.creator ∙ (member_making x.at x.member x.is).maker) in
          let number_is : 0 + x.at ≡ x.at = omega arith in
          subst (λ d. TaskGrows d j (ts c j)) maker
          (subst (λ q. TaskGrows i q (ts c j)) (sym x.slot)
          (member_grows x.at x.member x.is (ts c j) (x.now ∙ ap (λ n. record { generations = x.member.0.0.generation + 1; live = Some (new n x.member.1) }) number_is)))
      go (inr x) = inl (record {
        same = x.same;
        fact = each_put (λ d (o : Owed). c ≡ d → has_slot j o.tasks ≡ has_slot j (owes d).tasks) owes i given
            (λ creator. sym (ap (λ (o : Owed). has_slot j o.tasks) owed ∙ has_no_slot team j (λ a q is slot. x.none a q is (creator ∙ sym (member_making a q is).maker) slot)))
            c (λ _ _. refl) refl;
      })

  -- ---- the members' tasks

  -- what lives under a member's name
  member_live : (j : ℕ) (x : Tid × ℕ) → slice_get team j ≡ Some x → task_of after x.0 ≡ Some (new j x.1)
  member_live j x is = go (made_at new 0 team s.tasks x.0.0.creator x.0.0.slot)
    where
      go : IsMadeAt new 0 team x.0.0.creator x.0.0.slot (ts x.0.0.creator x.0.0.slot) ⊎ IsBeside team x.0.0.creator x.0.0.slot (s.tasks x.0.0.creator x.0.0.slot) (ts x.0.0.creator x.0.0.slot)
          → found x.0.0.generation (ts x.0.0.creator x.0.0.slot) ≡ Some (new j x.1)
      go (inl y) =
          let place : y.at ≡ j = one_member team apart y.at j y.member x y.is is (sym y.slot) in
          let same : y.member ≡ x = some_same (ap (slice_get team) (sym place) ∙ y.is) is in
          let number_is : 0 + y.at ≡ j = omega (arith, place) in
          ap (found x.0.0.generation)
          (y.now ∙ (ap (λ n. record { generations = y.member.0.0.generation + 1; live = Some (new n y.member.1) }) number_is
          ∙ ap (λ (q : Tid × ℕ). record { generations = q.0.0.generation + 1; live = Some (new j q.1) }) same))
          ∙ ap (λ b. if b then Some (new j x.1) else None)
          (eq-eqb (x.0.0.generation + 1) (x.0.0.generation + 1) refl)
      go (inr y) = absurd (y.none j x is refl refl)

  member_waits : (j : ℕ) (x : Tid × ℕ) → slice_get team (suc j) ≡ Some x → WaitsFor after x.1 x.0
  member_waits j x is = record {
    task = new (suc j) x.1;
    live = member_live (suc j) x is;
    progress = ap
        (λ b. if b then progress.Begun else progress.NotBegun) (ne_eqb (suc j) 0 (λ e. absurd (omega (arith, e))));
    thread = refl;
  }

  -- a name in no member's slot was live before
  old_or_new : (q : Tid) (u : Task) → task_of after q ≡ Some u
      → (task_of s q ≡ Some u) ⊎ ((j : ℕ) × (x : Tid × ℕ) × (slice_get team j ≡ Some x) × (x.0 ≡ q) × (u ≡ new j x.1))
  old_or_new q u is = go (made_at new 0 team s.tasks q.0.creator q.0.slot)
    where
      go : IsMadeAt new 0 team q.0.creator q.0.slot (ts q.0.creator q.0.slot) ⊎ IsBeside team q.0.creator q.0.slot (s.tasks q.0.creator q.0.slot) (ts q.0.creator q.0.slot)
          → (task_of s q ≡ Some u) ⊎ ((j : ℕ) × (x : Tid × ℕ) × (slice_get team j ≡ Some x) × (x.0 ≡ q) × (u ≡ new j x.1))
      go (inr y) = inl (sym (ap (found q.0.generation) y.same) ∙ is)
      go (inl y) =
          let there : found q.0.generation (record { generations = y.member.0.0.generation + 1; live = Some (new (0 + y.at) y.member.1) }) ≡ Some u =
          sym (ap (found q.0.generation) y.now) ∙ is in
          let (generation, same) =
          of_generation (y.member.0.0.generation + 1 == q.0.generation + 1) refl there in
          let number_is : 0 + y.at ≡ y.at = omega arith in
          inr
          (y.at, y.member, y.is, ap (λ (n : Id). record { 0 = n }) (id_same y.member.0.0 q.0 (sym y.creator) (sym y.slot) generation), sym same ∙ ap (λ n. new n y.member.1) number_is)
        where
          of_generation : (b : Bool) → (y.member.0.0.generation + 1 == q.0.generation + 1) ≡ b
              → (if b then Some (new (0 + y.at) y.member.1) else None) ≡ Some u
              → (y.member.0.0.generation ≡ q.0.generation) × (new (0 + y.at) y.member.1 ≡ u)
          of_generation true e there =
              (let same : y.member.0.0.generation + 1 ≡ q.0.generation + 1 = eqb-true _ _ e in omega (arith, same), some_same refl there)
          of_generation false e there = absurd (cc)

  -- what was live has no member's name
  no_member : (q : Tid) → IsSome (task_of s q) → (j : ℕ) (x : Tid × ℕ) → slice_get team j ≡ Some x
      → is_task q x.0 ≡ true → ⊥
  no_member q live j x is e =
      let making = member_making j x is in
      let creator : q.0.creator ≡ x.0.0.creator = grind (arith, nat_tests) in
      let slot : x.0.0.slot ≡ q.0.slot = grind (arith, nat_tests) in
      let empty : (s.tasks q.0.creator q.0.slot).live ≡ None =
      subst (λ c. (s.tasks c q.0.slot).live ≡ None) (sym (creator ∙ making.maker))
      (subst (λ h. (s.tasks i h).live ≡ None) slot making.free) in
      none_found q.0.generation (s.tasks q.0.creator q.0.slot) empty live

  -- ---- what is kept of each thread

  making_kept : (j : ℕ) → j < s.count → KeepsMaking after j (other j)
  making_kept j within =
      each_put (λ c (o : Owed). c < s.count → KeepsMaking after c o) owes i given
      (λ _. record { region = λ n is. absurd (cc); tasks = All-nil (λ q. IsInTheMaking i (ts i) q.0); apart = tt })
      j (λ ne there. beside j ne (keeps.made j there).making) within
    where
      beside : (j : ℕ) → j ≢ i → KeepsMaking s j (owes j) → KeepsMaking after j (owes j)
      beside j ne x = record {
        region = λ n is. making_same j (s.regions j) (rs j) n.0 (made_beside s.regions region.0 (new_region k t r team f) j n.0.slot (λ same _. ne (same ∙ region_making.maker))) (x.region n is);
        tasks = All-weaker (λ q. IsInTheMaking j (s.tasks j) q.0) (λ q. IsInTheMaking j (ts j) q.0) (λ q is. making_same j (s.tasks j) (ts j) q.0 (slot_same q.0.slot) is) (owes j).tasks x.tasks;
        apart = x.apart;
      }
        where
          slot_same : (h : ℕ) → ts j h ≡ s.tasks j h
          slot_same h = go (made_at new 0 team s.tasks j h)
            where
              go : IsMadeAt new 0 team j h (ts j h) ⊎ IsBeside team j h (s.tasks j h) (ts j h)
                  → ts j h ≡ s.tasks j h
              go (inl y) = absurd (ne (y.creator ∙ (member_making y.at y.member y.is).maker))
              go (inr y) = y.same

  abbrev still : (j : ℕ) (q : Tid) → WaitsFor s j q → WaitsFor after j q
  still = waits_after w m s rs ts owes other IsMember refers keeps names owners less region_slots task_slots

  assigns : (j : ℕ) → j < s.count → All (λ q. WaitsFor after q.1 q.0) (other j).assigns
  assigns j within =
      each_put (λ c (o : Owed). c < s.count → All (λ q. WaitsFor after q.1 q.0) o.assigns) owes i given
      (λ _ h d inside.
      let x : Tid × ℕ = get_or (drop 1 team) h d in
      member_waits h x (behind_first team h x (slice_get-get_or (drop 1 team) h d inside)))
      j
      (λ _ there. All-weaker (λ (q : Tid × ℕ). WaitsFor s q.1 q.0) (λ (q : Tid × ℕ). WaitsFor after q.1 q.0) (λ q. still q.1 q.0) (owes j).assigns (keeps.made j there).objects.assigns) within

  -- what is owed to a thread's assign word now
  more : (j : ℕ) (q : Tid)
      → sum_of_owed s other (assign_owed j q) ≡ sum_of_owed s owes (assign_owed j q) + assigns_in j q (drop 1 team)
  more j q =
      let change =
      sum_changed s.count i (λ c. assign_owed j q (owes c)) (λ c. assign_owed j q (other c)) known
      (λ c ne. ap (assign_owed j q) (put_other owes i c given ne)) in
      let before : assign_owed j q (owes i) ≡ 0 = ap (assign_owed j q) owed in
      let now : assign_owed j q (other i) ≡ assigns_in j q (drop 1 team) =
      ap (assign_owed j q) (put_same owes i given) in
      omega (arith, change, before, now)

  met_same : (j : ℕ) → one (other j).met ≡ one (owes j).met
  met_same j =
      each_put (λ c (o : Owed). one o.met ≡ one (owes c).met) owes i given
      (sym (ap (λ (o : Owed). one o.met) owed)) j (λ _. refl)

  -- a task that waited is no member's
  assigned_old : (j : ℕ) (q : Tid) (word : ℕ) → WaitsFor s j q → IsAssignedOnce w s owes j q word
      → IsAssignedOnce w after other j q word
  assigned_old j q word waits was =
      let once = was.once in
      let sum = more j q in
      let live : IsSome (task_of s q) = some_found (task_of s q) waits.task waits.live in
      let none : assigns_in j q (drop 1 team) ≡ 0 =
      none_in j q (drop 1 team) (λ h x is. no_member q live (suc h) x (behind_first team h x is)) in
      let met = met_same j in
      record { word_is = was.word_is; once = omega (arith, once, sum, none, met) }

  -- and nobody owed a store of a member's task
  member_unowed : (j h : ℕ) (x : Tid × ℕ) → slice_get team h ≡ Some x
      → sum_of_owed s owes (assign_owed j x.0) ≡ 0
  member_unowed j h x is =
      sum_none_within s.count (λ c. assign_owed j x.0 (owes c))
      (λ c there. none_in j x.0 (owes c).assigns (each c there))
    where
      each : (c : ℕ) → c < s.count → (a : ℕ) (y : Tid × ℕ) → slice_get (owes c).assigns a ≡ Some y
          → is_task x.0 y.0 ≡ true → ⊥
      each c there a y at e =
          let waits =
          all_at (λ (z : Tid × ℕ). WaitsFor s z.1 z.0) (owes c).assigns
          (keeps.made c there).objects.assigns a y at in
          no_member y.0 (some_found (task_of s y.0) waits.task waits.live) h x is (is_task_turned x.0 y.0 e)

  assigned_new : (j : ℕ) → j < s.count → (h : ℕ) (x : Tid × ℕ) → slice_get team (suc h) ≡ Some x → x.1 ≡ j
      → IsAssignedOnce w after other j x.0 (m j threads 0 (number ThreadAssign) 0)
  assigned_new j within h x is thread =
      let behind = behind_second team h x is in
      let free =
      subst (λ c. HasNoTask s owes c) thread
      (all_at (λ (y : Tid × ℕ). HasNoTask s owes y.1) (drop 1 team) idle h x behind) in
      let word : m j threads 0 (number ThreadAssign) 0 ≡ 0 = (keeps.made j within).assign.none free.waits in
      let elsewhere : one (m j threads 0 (number ThreadAssign) 0 == task_address w x.0) ≡ 0 =
      ap one (ne_eqb _ _ (λ same. address_some w v x.0 (sym same ∙ word))) in
      let sum = more j x.0 in
      let before = member_unowed j (suc h) x is in
      let once : assigns_in j x.0 (drop 1 team) ≡ 1 =
      subst (λ c. assigns_in c x.0 (drop 1 team) ≡ 1) thread
      (once_in (drop 1 team) (apart_behind_first team apart) h x behind) in
      let met : one (other j).met ≡ 0 = met_same j ∙ ap one free.met in
      record { word_is = inl word; once = omega (arith, elsewhere, sum, before, once, met) }

  assigned : (j : ℕ) → j < s.count → KeepsAssign w after other j (m j threads 0)
  assigned j within = record {
    waiting = λ q there. go q there (old_or_new q there.task there.live);
    none = λ nobody. (keeps.made j within).assign.none (λ q there. nobody q (still j q there));
  }
    where
      go : (q : Tid) (there : WaitsFor after j q)
          → (task_of s q ≡ Some there.task) ⊎ ((h : ℕ) × (x : Tid × ℕ) × (slice_get team h ≡ Some x) × (x.0 ≡ q) × (there.task ≡ new h x.1))
          → IsAssignedOnce w after other j q (m j threads 0 (number ThreadAssign) 0)
      go q there (inl live) =
          let before : WaitsFor s j q = record { task = there.task; live = live; progress = there.progress; thread = there.thread } in
          assigned_old j q (m j threads 0 (number ThreadAssign) 0) before
          ((keeps.made j within).assign.waiting q before)
      go q there (inr (h, x, is, name, same)) =
          subst (λ (y : Tid). IsAssignedOnce w after other j y (m j threads 0 (number ThreadAssign) 0)) name
          (by_number h is (sym (ap (λ (y : Task). y.thread) same) ∙ there.thread) (sym (ap (λ (y : Task). y.progress) same) ∙ there.progress))
        where
          by_number : (h : ℕ) → slice_get team h ≡ Some x → x.1 ≡ j
              → (if h == 0 then progress.Begun else progress.NotBegun) ≡ progress.NotBegun
              → IsAssignedOnce w after other j x.0 (m j threads 0 (number ThreadAssign) 0)
          by_number zero is thread waits = absurd (cc)
          by_number (suc h) is thread waits = assigned_new j within h x is thread

  task_forks : KeepsWords w (with_word m i threads 0 (number ThreadCurrent) 0 (task_word w (master_of team))) (forked p s i region team f k t r) other
  task_forks =
      current_stored w m after other i (master_of team)
      (members_grown w m s rs ts owes other keeps names owners alike region_slots task_slots making_kept assigns assigned) known

pub forks_keep : ForksKeep
forks_keep =
    λ p w m s owes i region team f k t r keeps known owed filled idle names owners v. task_forks p w m s owes i region team f k t r keeps known owed filled idle names owners v
