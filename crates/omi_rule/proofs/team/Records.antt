-- What the searches and the fills of records have in common: a free slot, what is owed, and what is asked.
use Rattle.std.proofs.Common.{◌≡◌, ◌⊎◌, inl, inr, ◌+◌, ◌%◌, ◌^◌, ◌==◌, ◌<◌, ◌≤◌, nat_lt, ℕ, Bool, true, false, List, length, map, Option, Some, None, refl, sym, ap, ◌∙◌, subst, arith, eqb-true, ltb-true, if◌then◌else◌}
use Rattle.std.proofs.lemmas.Bool.Decides.{nat_tests}
use Rattle.omi_script.specs.declared.program.Program.{Program}
use Rattle.omi_script.specs.declared.statement.Stmt.{Stmt}
use Rattle.omi_script.specs.declared.statement.Stmt.TheVariants as stmt
use Rattle.omi_model.specs.declared.encounter.Encounter.{Encounter}
use Rattle.omi_model.specs.declared.event.Event.{Event}
use Rattle.omi_model.specs.declared.id.Rid.{Rid}
use Rattle.omi_model.specs.declared.id.Tid.{Tid}
use Rattle.omi_model.specs.Fresh.{IsFresh}
use Rattle.omi_model.specs.LawClaims.{IsForking, asks_next}
use Rattle.omi_model.specs.Put.{Slots}
use Rattle.omi_model.specs.declared.slot.Slot.{Slot}
use Rattle.omi_model.specs.State.{State}
use Rattle.omi_layout.proofs.Arenas.{test_left, test_right}
use Rattle.omi_layout.specs.declared.field.Field.{Field}
use Rattle.omi_layout.specs.declared.field.Field.TheVariants.{RegionTeam}
use Rattle.omi_numbers.specs.Addresses.{exit_frame}
use Rattle.omi_numbers.specs.declared.lives.TheConstants.{LIFE_END}
use Rattle.omi_layout.specs.Field.{regions, tasks}
use Rattle.omi_layout.specs.Memory.{Memory, Rec}
use Rattle.omi_layout.specs.Named.{number}
use Rattle.omi_layout.specs.Table.{per_thread}
use Rattle.omi_pc.specs.declared.actor.Actor.{Actor}
use Rattle.omi_pc.specs.declared.counter.Counter.{Counter}
use Rattle.omi_pc.specs.declared.counter.Counter.TheVariants as counter
use Rattle.omi_pc.specs.declared.frame.Frame.{Frame}
use Rattle.omi_pc.specs.declared.limits.TheConstants.{REGION_WORDS}
use Rattle.omi_pc.specs.declared.team_counter.TeamCounter.{TeamCounter}
use Rattle.omi_pc.specs.Fits.{IsAtParallel, IsParallel}
use Rattle.omi_pc.specs.OpenBodies.{IsAt}
use Rattle.omi_rep.specs.Records.{task_address}
use Rattle.omi_rule_words.specs.Objects.{KeepsLife}
use Rattle.omi_step_words.specs.declared.plan.NewRegion.{NewRegion}
use Rattle.omi_step_words.specs.declared.plan.NewTask.{NewTask}
use Rattle.omi_step_words.specs.Members.{member_of}
use Rattle.omi_step_words.specs.Placed.{HasTask}
use Rattle.omi_step_words.specs.Plan.{region_plan, task_plan}
use Rattle.omi_step_words.specs.Words.{is_free, object_in, plus}
use Rattle.omi_fork.specs.TeamParts.{member_depth, new_member, planned_region, region_function}
use Rattle.omi_step_words.specs.Searches.{next_slot}
use Rattle.omi_rule.specs.Ahead.{IsAhead, forking, team_ahead}
use Rattle.omi_rule.specs.Chains.{encounter_of}
use Rattle.omi_rule.specs.Rows.{HasFilled, HasGeneration, HasTeam}
use Rattle.omi_rule.proofs.Assembly.{Before}
use Rattle.omi_rule.proofs.OwnTask.{is_current, top}
use Rattle.omi_rule.proofs.Settling.{in_work_is}
use Rattle.omi_rule.proofs.team.Within.{going, standing}

-- ---- free slots

-- a slot whose life word is free has no object and no record in the making, and its next object may have this name
pub free_slot : {A : Type 0} (slots : Slots A) (i thread slot : ℕ) (life : Field) (r : Rec) (owing : Bool)
    → thread ≡ i → KeepsLife r life (slots i slot) owing → is_free (r (number life) 0) ≡ true
    → IsFresh slots i (object_in (record { creator = thread; slot = slot }) (r (number life) 0)) × (owing ≡ false)
free_slot {A} slots i thread slot life r owing mine keeps free = go (slots i slot).live refl owing refl
  where
    word : ℕ
    word = r (number life) 0

    even : word % 2 ≡ 0
    even = eqb-true (word % 2) 0 (test_left (word % 2 == 0) (nat_lt word (2 ^ 33)) free)

    low : word < 2 ^ 33
    low = ltb-true word (2 ^ 33) (test_right (word % 2 == 0) (nat_lt word (2 ^ 33)) free)

    go : (o : Option A) → (slots i slot).live ≡ o → (b : Bool) → owing ≡ b
        → IsFresh slots i (object_in (record { creator = thread; slot = slot }) (r (number life) 0)) × (owing ≡ false)
    go (Some x) there b is = let e = keeps.live x there in absurd (omega (arith, e, even))
    go None empty true is = let e = keeps.taken empty is in absurd (omega (arith, e, even))
    go None empty false is =
        let e = keeps.free empty is in
        (record { creator = mine; empty = empty; next = omega (arith, e, low); below = omega (arith, e, low) }, is)

-- a life word that is not free is odd, or that of a slot that has had all its generations
not_free : (word : ℕ) → word % 2 ≡ 0 → is_free word ≡ false → LIFE_END ≤ word
not_free word even taken = grind (arith, nat_tests)

pub taken_slot : {A : Type 0} (slot : Slot A) (life : Field) (r : Rec) (owing : Bool)
    → KeepsLife r life slot owing → slot.generations ≤ 2 ^ 32 → is_free (r (number life) 0) ≡ false
    → (r (number life) 0 % 2 ≡ 1) ⊎ (r (number life) 0 ≡ LIFE_END)
taken_slot {A} slot life r owing keeps few taken = go slot.live refl owing refl
  where
    word : ℕ
    word = r (number life) 0

    go : (o : Option A) → slot.live ≡ o → (b : Bool) → owing ≡ b
        → (r (number life) 0 % 2 ≡ 1) ⊎ (r (number life) 0 ≡ LIFE_END)
    go (Some x) there b is = let e = keeps.live x there in inl (omega (arith, e))
    go None empty true is = let e = keeps.taken empty is in inl (omega (arith, e))
    go None empty false is =
        let e = keeps.free empty is in
        let high = not_free (r (number life) 0) (omega (arith, e)) taken in
        inr (omega (arith, e, few, high))

pub next_within : (w : List ℕ) (kind slot : ℕ) → slot < per_thread w kind
    → next_slot w kind slot < per_thread w kind
next_within w kind slot within = go (nat_lt (slot + 1) (per_thread w kind)) refl
  where
    go : (b : Bool) → nat_lt (slot + 1) (per_thread w kind) ≡ b
        → (if b then slot + 1 else 0) < per_thread w kind
    go true e = ltb-true (slot + 1) (per_thread w kind) e
    go false e = omega (arith, within)

-- ---- forks in the making

pub asks_ahead : (p : Program) (at : Encounter) (fs : List Frame) (s : Stmt) → IsAt p fs s → IsParallel s
    → asks_next (forking p at fs) ≡ true
asks_ahead p at fs (stmt.Parallel f num) is o = ap asks_next (in_work_is p fs (stmt.Parallel f num) _ is)
asks_ahead p at fs s is o = absurd o

module _ (p : Program) (w : List ℕ) (m : Memory) (events : List (ℕ × Event)) (s : State) (actors : ℕ → Actor)
    (i : ℕ) (before : Before p w m events s actors i) (c : TeamCounter)
    (at : (actors i).counter ≡ counter.Team c) where
  pub is_forking : team_ahead p (encounter_of s (actors i).context) (actors i).stack c ≡ forking p (encounter_of s (actors i).context) (actors i).stack
      → IsAtParallel p (actors i) → IsForking s i
  is_forking forks (x, is, parallel) =
      let (f, fs, stack, o) = standing p w m events s actors i before c at in
      let t = (top p s i (actors i) o).task in
      let list : t.list ≡ forking p (encounter_of s (actors i).context) (actors i).stack =
      subst (λ (y : Counter). IsAhead p (encounter_of s (actors i).context) (actors i).stack y t.list) at
      (o.ahead t (top p s i (actors i) o).live)
      ∙ forks in
      record { name = (actors i).context.task; task = t; current = is_current p s i (actors i) o; next = ap asks_next list ∙ asks_ahead p (encounter_of s (actors i).context) (actors i).stack x is parallel }

-- ---- what is asked

-- it is kept at another counter, and with tasks for the members
pub team_goes : (s : State) (i : ℕ) (a : Actor) (d : TeamCounter) (team : List (Tid × ℕ))
    → map (λ m. m.1) team ≡ map (λ m. m.1) a.gathered.team → HasTeam s i a
    → HasTeam s i (going d (record a.gathered { team = team }) a)
team_goes s i a d team same o =
    let x = o.asks in
    record {
      asks = record { knows = record { region = x.knows.region; task = x.knows.task }; wanted = x.wanted; joined = same ∙ x.joined; asked = x.asked; few = x.few };
      over = o.over;
    }

-- the first members' records stay filled: of the region and of their tasks the words that are planned, and the words of the team
pub filled_goes : (p : Program) (w : List ℕ) (m n : Memory) (a : Actor) (r : Rid) (k : ℕ) (d : TeamCounter) (team : List (Tid × ℕ))
    → length team ≡ length a.gathered.team
    → ((j : ℕ) → j < k → member_of team j ≡ member_of a.gathered.team j)
    →
    ((j : ℕ) → j < REGION_WORDS → n r.0.creator regions r.0.slot (number (region_plan w (planned_region p a) j).field) (region_plan w (planned_region p a) j).at ≡ m r.0.creator regions r.0.slot (number (region_plan w (planned_region p a) j).field) (region_plan w (planned_region p a) j).at)
    →
    ((j : ℕ) → j < k → n (member_of a.gathered.team j).0.0.creator tasks (member_of a.gathered.team j).0.0.slot ≡ m (member_of a.gathered.team j).0.0.creator tasks (member_of a.gathered.team j).0.0.slot)
    →
    ((j : ℕ) → j < k → n r.0.creator regions r.0.slot (number RegionTeam) j ≡ m r.0.creator regions r.0.slot (number RegionTeam) j)
    → HasFilled p w m a r k → HasFilled p w n (going d (record a.gathered { team = team }) a) r k
filled_goes p w m n a r k d team size same in_region in_tasks in_team o = record {
  below = o.below;
  region = λ j within.
      subst
      (λ (x : NewRegion). n r.0.creator regions r.0.slot (number (region_plan w x j).field) (region_plan w x j).at ≡ (region_plan w x j).value)
      (sym whole)
      (in_region j within ∙ o.region j within);
  tasks = λ j below. let x = o.tasks j below in (λ word within.
      subst
      (λ (y : Tid × ℕ). n y.0.0.creator tasks y.0.0.slot (number (task_plan w (member y j) word).field) (task_plan w (member y j) word).at ≡ (task_plan w (member y j) word).value)
      (sym (same j below))
      (ap (λ (q : Rec). q (number (task_plan w (new_member p a r j) word).field) (task_plan w (new_member p a r j) word).at) (in_tasks j below) ∙ x word within));
  tasks_below = λ j below. subst (λ (y : Tid × ℕ). HasGeneration y.0.0) (sym (same j below)) (o.tasks_below j below);
  slots = λ j below. subst (λ (y : Tid × ℕ). HasTask w y.0) (sym (same j below)) (o.slots j below);
  team = λ j below. subst (λ (y : Tid × ℕ). n r.0.creator regions r.0.slot (number RegionTeam) j ≡ task_address w y.0) (sym (same j below)) (in_team j below ∙ o.team j below);
}
  where
    whole : planned_region p (going d (record a.gathered { team = team }) a) ≡ planned_region p a
    whole =
        ap
        (λ size. record { enclosing = a.context.region; encountering = a.context.task; function = region_function p a; size = size; levels = plus a.gathered.levels 1; active = plus a.gathered.active (if nat_lt 1 size then 1 else 0) }) size

    member : Tid × ℕ → ℕ → NewTask
    member y j = record (new_member p a r j) { thread = y.1; exit = exit_frame y.1 (member_depth a j) }

-- where no word changed
pub filled_as_before : (p : Program) (w : List ℕ) (m : Memory) (a : Actor) (r : Rid) (k : ℕ) (d : TeamCounter)
    → HasFilled p w m a r k → HasFilled p w m (going d a.gathered a) r k
filled_as_before p w m a r k d o =
    filled_goes p w m m a r k d a.gathered.team refl (λ j below. refl) (λ j below. refl) (λ j below. refl)
    (λ j below. refl) o
