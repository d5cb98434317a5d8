-- An implicit task ends, or joins the others: its progress and its region's ends are others.
use Rattle.std.proofs.Common.{◌≡◌, ◌≢◌, ◌==◌, ◌+◌, ◌<◌, ℕ, zero, suc, Bool, true, false, inl, inr, List, [], ◌∷◌, Some, None, refl, sym, ap, subst, ◌∙◌, arith, eq-eqb, if◌then◌else◌}
use Rattle.std.specs.Prelude.{◌⊎◌, All, drop, slice_get, slice_set}
use Rattle.std.specs.Option.{option_map}
use Rattle.std.proofs.lemmas.Bool.Decides.{nat_tests}
use Rattle.std.proofs.lemmas.List.Elements.{All-weaker}
use Rattle.omi_model.specs.declared.id.Id.{Id}
use Rattle.omi_model.specs.declared.id.Rid.{Rid}
use Rattle.omi_model.specs.declared.id.Tid.{Tid}
use Rattle.omi_model.specs.declared.progress.Progress.TheVariants as progress
use Rattle.omi_model.specs.declared.region.Region.{Region}
use Rattle.omi_model.specs.declared.slot.Slot.{Slot}
use Rattle.omi_model.specs.declared.task.Task.{Task}
use Rattle.omi_model.specs.Changes.{on_region, on_task}
use Rattle.omi_model.specs.Put.{changed, named, on}
use Rattle.omi_model.specs.State.{State, region_of, task_of}
use Rattle.omi_model.specs.Teams.{task_ended}
use Rattle.omi_model.proofs.Slots.{each_slot, found_live, id_same, map_some, on_other, on_same, same_or_not, some_same}
use Rattle.omi_layout.specs.declared.field.Field.TheVariants.{ThreadCurrent}
use Rattle.omi_layout.specs.Field.{threads}
use Rattle.omi_layout.specs.Memory.{Memory, replace_at, with_word}
use Rattle.omi_layout.specs.Named.{number}
use Rattle.omi_layout.proofs.Puts.{each_put, put_other, put_same}
use Rattle.omi_rule_words.specs.Owes.{Owed, nothing}
use Rattle.omi_rule_words.specs.Counts.{assign_owed, assigns_in, count_true, ended_members, is_region, left_owed, one, sum_of_owed}
use Rattle.omi_rule_words.specs.Threads.{KeepsAssign, WaitsFor}
use Rattle.omi_rule_words.specs.Words.{KeepsWords, region_in}
use Rattle.omi_rule_words.specs.TeamKinds.{EndsKeep, IsRunningMember}
use Rattle.omi_rule_words.proofs.Changed.{current_stored, on_becomes}
use Rattle.omi_rule_words.proofs.Renewed.{OwesSame, RegionRenews, TaskRenews, owes_same, region_stays, renewed, task_stays}
use Rattle.omi_rule_words.proofs.Shown.{found_generations}
use Rattle.omi_rule_words.proofs.Sums.{sum_changed, sum_same}

-- one member more has ended
more_true : (bs : List Bool) (n : ℕ) → slice_get bs n ≡ Some false
    → count_true (slice_set bs n true) ≡ count_true bs + 1
more_true [] n is = absurd (cc)
more_true (b ∷ bs) zero is =
    let same : b ≡ false = some_same refl is in
    let none : one b ≡ 0 = ap one same in
    omega (arith, none)
more_true (b ∷ bs) (suc n) is = let rest = more_true bs n is in omega (arith, rest)

pub more_ended : (bs : List Bool) (n : ℕ) → n ≢ 0 → slice_get bs n ≡ Some false
    → count_true (drop 1 (slice_set bs n true)) ≡ count_true (drop 1 bs) + 1
more_ended [] n ne is = absurd (cc)
more_ended (b ∷ bs) zero ne is = absurd (ne refl)
more_ended (b ∷ bs) (suc n) ne is = more_true bs n is

-- the same region
pub is_region_same : (n : Rid) → is_region n n ≡ true
is_region_same n = grind (arith, nat_tests)

-- the name of what is found
pub found_name : (s : State) (n : Rid) (r : Region) → region_of s n ≡ Some r
    → region_in n.0.creator n.0.slot (s.regions n.0.creator n.0.slot) ≡ n
found_name s n r live =
    let made = found_generations n.0.generation (s.regions n.0.creator n.0.slot) r live in
    ap (λ (x : Id). record { 0 = x })
    (id_same (region_in n.0.creator n.0.slot (s.regions n.0.creator n.0.slot)).0 n.0 refl refl (omega (arith, made)))

-- what is counted of departures, where one region is changed
module _ (s : State) (owes other : ℕ → Owed) (n : Rid) (r : Region) (f : Region → Region)
    (live : region_of s n ≡ Some r)
    (here : sum_of_owed s other (left_owed n) + ended_members r ≡ sum_of_owed s owes (left_owed n) + ended_members (f r))
    (elsewhere : (q : Rid) → is_region q n ≡ false → sum_of_owed s other (left_owed q) ≡ sum_of_owed s owes (left_owed q)) where
  abbrev IsLeft : ℕ → ℕ → Slot Region → Type 0
  IsLeft c j slot = (x y : Region) → (s.regions c j).live ≡ Some x → slot.live ≡ Some y
      → sum_of_owed s other (left_owed (region_in c j (s.regions c j))) + ended_members x ≡ sum_of_owed s owes (left_owed (region_in c j (s.regions c j))) + ended_members y

  pub left_counted : (c j : ℕ) → IsLeft c j (on s.regions n.0 f c j)
  left_counted = each_slot s.regions n.0 IsLeft (changed n.0.generation f there) at_name beside
    where
      there : Slot Region
      there = s.regions n.0.creator n.0.slot

      at_name : IsLeft n.0.creator n.0.slot (changed n.0.generation f there)
      at_name x y was now =
          let before : x ≡ r = some_same was (found_live n.0.generation there r live) in
          let test : there.generations == n.0.generation + 1 ≡ true =
          eq-eqb _ _ (found_generations n.0.generation there r live) in
          let changed_is : (changed n.0.generation f there).live ≡ option_map f there.live =
          ap
          (λ b. (if b then record { generations = there.generations; live = option_map f there.live } else there).live) test in
          let after : f x ≡ y = some_same (ap (option_map f) was) (sym changed_is ∙ now) in
          let name = found_name s n r live in
          let a : sum_of_owed s other (left_owed (region_in n.0.creator n.0.slot there)) ≡ sum_of_owed s other (left_owed n) =
          ap (λ q. sum_of_owed s other (left_owed q)) name in
          let b : sum_of_owed s owes (left_owed (region_in n.0.creator n.0.slot there)) ≡ sum_of_owed s owes (left_owed n) =
          ap (λ q. sum_of_owed s owes (left_owed q)) name in
          let c : ended_members x ≡ ended_members r = ap ended_members before in
          let d : ended_members y ≡ ended_members (f r) = ap ended_members (sym after ∙ ap f before) in
          let change = here in
          omega (arith, change, a, b, c, d)

      beside : (c j : ℕ) → (c ≡ n.0.creator → j ≡ n.0.slot → ⊥) → IsLeft c j (s.regions c j)
      beside c j apart x y was now =
          let same : ended_members x ≡ ended_members y = ap ended_members (some_same was now) in
          let sum =
          elsewhere (region_in c j (s.regions c j)) (go (is_region (region_in c j (s.regions c j)) n) refl) in
          omega (arith, same, sum)
        where
          go : (b : Bool) → is_region (region_in c j (s.regions c j)) n ≡ b
              → is_region (region_in c j (s.regions c j)) n ≡ false
          go false e = e
          go true e =
              let creator : c ≡ n.0.creator = grind (arith, nat_tests) in
              let slot : j ≡ n.0.slot = grind (arith, nat_tests) in
              absurd (apart creator slot)

module _ (w : List ℕ) (m : Memory) (s : State) (owes other : ℕ → Owed) (k : Tid) (t : Task) (r : Region)
    (f : Region → Region) (keeps : KeepsWords w m s owes) (running : IsRunningMember s k t r)
    (alike : (j : ℕ) → OwesSame (other j) (owes j))
    (assigns_same : (j : ℕ) → (other j).assigns ≡ (owes j).assigns)
    (met_same : (j : ℕ) → (other j).met ≡ (owes j).met)
    (renews : (x : Region) → RegionRenews x (f x)) where
  abbrev finished : Task → Task
  finished u = record u { progress = progress.Finished }

  abbrev after : State
  after = on_region (on_task s k finished) t.region f

  finishes : (u : Task) → task_of s k ≡ Some u → TaskRenews u (finished u)
  finishes u live = subst (λ (x : Task). TaskRenews x (finished x)) (some_same running.live live) (record {
    progress = progress.Finished;
    list = t.list;
    is = refl;
    goes = inr (record { implicit = running.implicit; was = λ deferred. let begun = running.progress in absurd (cc); now = λ deferred. absurd (cc) });
  })

  -- the same tasks wait
  waits_before : (j : ℕ) (q : Tid) → WaitsFor after j q → WaitsFor s j q
  waits_before j q x = go (same_or_not q.0 k.0)
    where
      go : (q.0 ≡ k.0) ⊎ (q.0 ≡ k.0 → ⊥) → WaitsFor s j q
      go (inl same) =
          let (u, was, is) =
          map_some finished (named s.tasks k.0) x.task
          (sym (on_same s.tasks k.0 finished) ∙ (ap (named (on s.tasks k.0 finished)) (sym same) ∙ x.live)) in
          let over : x.task.progress ≡ progress.Finished = ap (λ (y : Task). y.progress) is in
          let waiting = x.progress in
          absurd (cc)
      go (inr ne) = record { task = x.task; live = sym (on_other s.tasks k.0 finished q.0 ne) ∙ x.live; progress = x.progress; thread = x.thread }

  waits_after : (j : ℕ) (q : Tid) → WaitsFor s j q → WaitsFor after j q
  waits_after j q x = go (same_or_not q.0 k.0)
    where
      go : (q.0 ≡ k.0) ⊎ (q.0 ≡ k.0 → ⊥) → WaitsFor after j q
      go (inl same) =
          let one_task : x.task ≡ t = some_same (ap (named s.tasks) (sym same) ∙ x.live) running.live in
          let waiting : t.progress ≡ progress.NotBegun =
          subst (λ (y : Task). y.progress ≡ progress.NotBegun) one_task x.progress in
          let begun = running.progress in
          absurd (cc)
      go (inr ne) = record { task = x.task; live = on_other s.tasks k.0 finished q.0 ne ∙ x.live; progress = x.progress; thread = x.thread }

  assigned : (j : ℕ) → j < s.count → KeepsAssign w after other j (m j threads 0)
  assigned j within =
      let o = (keeps.made j within).assign in
      record {
        waiting = λ q waits.
            let was = o.waiting q (waits_before j q waits) in
            let once = was.once in
            let sum : sum_of_owed s other (assign_owed j q) ≡ sum_of_owed s owes (assign_owed j q)
            = sum_same s.count (λ c. assign_owed j q (other c)) (λ c. assign_owed j q (owes c))
            (λ c. ap (assigns_in j q) (assigns_same c)) in
            let met : one (other j).met ≡ one (owes j).met = ap one (met_same j) in
            record { word_is = was.word_is; once = omega (arith, once, sum, met) };
        none = λ nobody. o.none (λ q waits. nobody q (waits_after j q waits));
      }

  assigns : (j : ℕ) → j < s.count → All (λ q. WaitsFor after q.1 q.0) (other j).assigns
  assigns j within =
      subst (λ (ms : List (Tid × ℕ)). All (λ q. WaitsFor after q.1 q.0) ms) (sym (assigns_same j))
      (All-weaker (λ (q : Tid × ℕ). WaitsFor s q.1 q.0) (λ (q : Tid × ℕ). WaitsFor after q.1 q.0) (λ q. waits_after q.1 q.0) (owes j).assigns (keeps.made j within).objects.assigns)

  -- a region that is not joined, where the changed one is not
  pub still_open : (n : Rid) → (n.0 ≡ t.region.0 → (f r).joined ≡ false)
      → (x : Region) × (region_of s n ≡ Some x) × (x.joined ≡ false)
      → (x : Region) × (region_of after n ≡ Some x) × (x.joined ≡ false)
  still_open n kept (x, live, unjoined) = go (same_or_not n.0 t.region.0)
    where
      go : (n.0 ≡ t.region.0) ⊎ (n.0 ≡ t.region.0 → ⊥)
          → (x : Region) × (region_of after n ≡ Some x) × (x.joined ≡ false)
      go (inl same) =
          (f r, ap (named (on s.regions t.region.0 f)) same ∙ (on_same s.regions t.region.0 f ∙ ap (option_map f) running.region), kept same)
      go (inr ne) = (x, on_other s.regions t.region.0 f n.0 ne ∙ live, unjoined)

  pub finished_kept : (sum_of_owed s other (left_owed t.region) + ended_members r ≡ sum_of_owed s owes (left_owed t.region) + ended_members (f r))
      →
      ((q : Rid) → is_region q t.region ≡ false → sum_of_owed s other (left_owed q) ≡ sum_of_owed s owes (left_owed q))
      →
      ((j : ℕ) → j < s.count → (n : Rid) → (other j).left ≡ Some n → (x : Region) × (region_of after n ≡ Some x) × (x.joined ≡ false))
      → KeepsWords w m after other
  finished_kept here elsewhere left =
      renewed w m m s (on s.regions t.region.0 f) (on s.tasks k.0 finished) owes other keeps
      (on_becomes RegionRenews region_stays s.regions t.region.0 f (λ x live. renews x))
      (on_becomes TaskRenews task_stays s.tasks k.0 finished finishes) alike
      refl (λ c. refl) (λ c j. refl) (λ c j g at _. refl)
      (λ c j x y was now. let counted = left_counted s owes other t.region r f running.region here elsewhere c j x y was now in omega (arith, counted))
      left assigns assigned

module _ (w : List ℕ) (m : Memory) (s : State) (owes : ℕ → Owed) (i : ℕ) (k : Tid) (t : Task) (r : Region)
    (keeps : KeepsWords w m s owes) (known : i < s.count) (owed : owes i ≡ nothing)
    (running : IsRunningMember s k t r) (later : t.number ≢ 0)
    (going : slice_get r.ended t.number ≡ Some false) (unjoined : r.joined ≡ false) where
  abbrev given : Owed
  given = record nothing { left = Some t.region }

  abbrev given_all : ℕ → Owed
  given_all = replace_at owes i given

  abbrev ends : Region → Region
  ends x = record x { ended = slice_set x.ended t.number true }

  alike_all : (j : ℕ) → OwesSame (given_all j) (owes j)
  alike_all j =
      each_put (λ c (x : Owed). OwesSame x (owes c)) owes i given
      (subst (λ (o : Owed). OwesSame given o) (sym owed) own) j (λ _. owes_same (owes j))
    where
      own : OwesSame given nothing
      own = record { region = refl; tasks = refl; pending = refl; raised = refl; lowered = refl; referred = refl; own = refl; returned = refl; gives = refl; hand = refl; counted = refl; uncounted = refl }

  same_assigns : (j : ℕ) → (given_all j).assigns ≡ (owes j).assigns
  same_assigns j =
      each_put (λ c (x : Owed). x.assigns ≡ (owes c).assigns) owes i given
      (sym (ap (λ (o : Owed). o.assigns) owed)) j (λ _. refl)

  same_met : (j : ℕ) → (given_all j).met ≡ (owes j).met
  same_met j =
      each_put (λ c (x : Owed). x.met ≡ (owes c).met) owes i given (sym (ap (λ (o : Owed). o.met) owed)) j
      (λ _. refl)

  -- the departure is owed on this region alone
  departs : (q : Rid)
      → sum_of_owed s given_all (left_owed q) ≡ sum_of_owed s owes (left_owed q) + one (is_region q t.region)
  departs q =
      let change =
      sum_changed s.count i (λ c. left_owed q (owes c)) (λ c. left_owed q (given_all c)) known
      (λ c ne. ap (left_owed q) (put_other owes i c given ne)) in
      let before : left_owed q (owes i) ≡ 0 = ap (left_owed q) owed in
      let now : left_owed q (given_all i) ≡ one (is_region q t.region) =
      ap (left_owed q) (put_same owes i given) in
      omega (arith, change, before, now)

  renews_ends : (x : Region) → RegionRenews x (ends x)
  renews_ends x = record { ended = slice_set x.ended t.number true; joined = x.joined; is = refl }

  abbrev ended : State
  ended = on_region (on_task s k (λ u. record u { progress = progress.Finished })) t.region ends

  -- a region that was not joined still is not
  open_after : (n : Rid) → (x : Region) × (region_of s n ≡ Some x) × (x.joined ≡ false)
      → (x : Region) × (region_of ended n ≡ Some x) × (x.joined ≡ false)
  open_after n =
      still_open w m s owes given_all k t r ends keeps running alike_all same_assigns same_met renews_ends n
      (λ _. unjoined)

  left : (j : ℕ) → j < s.count → (n : Rid) → (given_all j).left ≡ Some n
      → (x : Region) × (region_of ended n ≡ Some x) × (x.joined ≡ false)
  left j within =
      each_put
      (λ c (o : Owed). c < s.count → (n : Rid) → o.left ≡ Some n → (x : Region) × (region_of ended n ≡ Some x) × (x.joined ≡ false)) owes i given
      (λ _ n is.
      let same : t.region ≡ n = cc in
      subst (λ (q : Rid). (x : Region) × (region_of ended q ≡ Some x) × (x.joined ≡ false)) same (open_after t.region (r, running.region, unjoined)))
      j (λ _ there n is. open_after n ((keeps.made j there).objects.left n is)) within

  task_ends : KeepsWords w (with_word m i threads 0 (number ThreadCurrent) 0 0) (task_ended s i k t) given_all
  task_ends =
      current_stored w m ended given_all i None
      (finished_kept w m s owes given_all k t r ends keeps running alike_all same_assigns same_met renews_ends
      (let sum = departs t.region in
      let own : one (is_region t.region t.region) ≡ 1 = ap one (is_region_same t.region) in
      let members = more_ended r.ended t.number later going in
      omega (arith, sum, own, members))
      (λ q ne. let sum = departs q in let none : one (is_region q t.region) ≡ 0 = ap one ne in omega (arith, sum, none))
      left)
      known

pub ends_keep : EndsKeep
ends_keep =
    λ w m s owes i k t r keeps known owed running later going unjoined. task_ends w m s owes i k t r keeps known owed running later going unjoined
