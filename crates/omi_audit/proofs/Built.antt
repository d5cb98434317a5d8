-- The state that the words of the reached records show: each of these records is that of a live object, and no other object lives.
use Rattle.std.proofs.Common.{◌≡◌, ◌⊎◌, inl, inr, ℕ, ◌+◌, ◌&&◌, Bool, true, false, cond, List, [], map, Option, Some, None, refl, sym, ap, ◌∙◌, arith, eqb-true, eq-eqb, ◌%◌}
use Rattle.std.specs.Prelude.{◌==◌}
use Rattle.std.specs.Option.{option_map, option_map_or}
use Rattle.std.specs.List.{range_with_len}
use Rattle.omi_numbers.specs.Addresses.{function_at}
use Rattle.omi_numbers.specs.declared.states.TheConstants.{IDLE}
use Rattle.omi_numbers.specs.Words.{state_of, wait_of}
use Rattle.omi_numbers.specs.declared.limits.TheConstants.{OPEN_GROUPS}
use Rattle.omi_script.specs.Schedules.{kind_in, chunk_in}
use Rattle.omi_layout.specs.declared.field.Field.TheVariants.{RuntimeProcs, RuntimeDebug, RuntimeMaxActive, ThreadLife, ThreadCurrent, ThreadState, RegionFunction, RegionEnclosing, RegionEncountering, RegionSize, RegionLevels, RegionActive, RegionTeam, TaskImplicit, TaskRegion, TaskThread, TaskNumber, TaskGenerating, TaskScheduling, TaskFunction, TaskExit, TaskEnter, TaskDynamic, TaskNthreadsLength, TaskSchedule, TaskDevice, TaskFinal, TaskTool, TaskNthreads, TaskSlots}
use Rattle.omi_layout.specs.Field.{threads, regions, tasks}
use Rattle.omi_layout.specs.Place.{slot_address}
use Rattle.omi_layout.specs.Table.{thread_count, version}
use Rattle.omi_layout.specs.declared.limits.TheConstants.{GROUP_PLACE, GROUP_VERSION, OPEN_PLACE}
use Rattle.omi_model.specs.declared.claim.Claim.TheVariants.{Own}
use Rattle.omi_model.specs.declared.id.Id.{Id}
use Rattle.omi_model.specs.declared.id.Rid.{Rid}
use Rattle.omi_model.specs.declared.id.Tid.{Tid}
use Rattle.omi_model.specs.declared.progress.Progress.TheVariants.{Begun}
use Rattle.omi_model.specs.declared.region.Region.{Region}
use Rattle.omi_model.specs.declared.slot.Slot.{Slot}
use Rattle.omi_model.specs.declared.task.Task.{Task}
use Rattle.omi_model.specs.declared.thread.Thread.{Thread}
use Rattle.omi_model.specs.Put.{Slots, unused, found, named}
use Rattle.omi_model.specs.State.{State}
use Rattle.omi_model.specs.declared.group.Group.{Group}
use Rattle.omi_word.specs.Words.{Words}
use Rattle.omi_rep.specs.Look.{slot_at, live_at}
use Rattle.omi_rep.specs.Records.{runtime_address, thread_address}
use Rattle.omi_audit.specs.Search.{reached}
use Rattle.omi_audit.proofs.FirstOnes.{has}
use Rattle.omi_audit.proofs.Passes.{word_in, lives_at}
use Rattle.omi_audit.specs.Clauses.{led_to}

module _ (w : List ℕ) (words : Words) where
  -- ---- what is named

  -- the live region and the live task at an address
  abbrev pub rid_at : ℕ → Option Rid
  rid_at address = option_map (λ (n : Id). record { 0 = n }) (live_at w words regions address)

  abbrev pub tid_at : ℕ → Option Tid
  tid_at address = option_map (λ (n : Id). record { 0 = n }) (live_at w words tasks address)

  -- where there is one for sure
  abbrev pub id_or : ℕ → ℕ → Id
  id_or kind address =
      option_map_or (λ n. n) (live_at w words kind address) (record { creator = 0; slot = 0; generation = 0 })

  -- the thread at an address
  abbrev pub thread_of : ℕ → ℕ
  thread_of address = option_map_or (λ at. at.0) (slot_at w threads address) 0

  -- a member of a team, by the address of its task
  abbrev pub member_at : ℕ → Tid × ℕ
  member_at address =
      (record { 0 = id_or tasks address }, thread_of (word_in w words address TaskThread 0))

  -- the group that a word stands for: one of the live task to whose record it leads
  abbrev pub group_named : ℕ → Option Group
  group_named word =
      option_map (λ (n : Id). record { owner = record { 0 = n }; index = word % OPEN_GROUPS }) (live_at w words tasks (led_to TaskSlots word))

  -- ---- objects, by the addresses of their records

  abbrev pub region_in : ℕ → Region
  region_in a =
      record {
        enclosing = rid_at (word_in w words a RegionEnclosing 0);
        encountering = tid_at (word_in w words a RegionEncountering 0);
        team = map (λ at. member_at (word_in w words a RegionTeam at)) (range_with_len 0 (word_in w words a RegionSize 0));
        function = function_at (word_in w words a RegionFunction 0);
        levels = word_in w words a RegionLevels 0;
        active = word_in w words a RegionActive 0;
        arrivals = [];
        released = 0;
        ended = [];
        joined = false;
      }

  abbrev pub task_in : ℕ → Task
  task_in a =
      record {
        implicit = word_in w words a TaskImplicit 0 == 1;
        region = record { 0 = id_or regions (word_in w words a TaskRegion 0) };
        thread = thread_of (word_in w words a TaskThread 0);
        number = word_in w words a TaskNumber 0;
        generating = tid_at (word_in w words a TaskGenerating 0);
        scheduling = tid_at (word_in w words a TaskScheduling 0);
        function = function_at (word_in w words a TaskFunction 0);
        exit = word_in w words a TaskExit 0;
        enter = word_in w words a TaskEnter 0;
        variables = record {
          dynamic = word_in w words a TaskDynamic 0 == 1;
          nthreads = map (word_in w words a TaskNthreads) (range_with_len 0 (word_in w words a TaskNthreadsLength 0));
          schedule = record {
            kind = kind_in (word_in w words a TaskSchedule 0);
            chunk = chunk_in (word_in w words a TaskSchedule 0);
          };
          device = word_in w words a TaskDevice 0;
        };
        is_final = word_in w words a TaskFinal 0 == 1;
        tool = word_in w words a TaskTool 0;
        progress = Begun;
        place = 0;
        group = cond (version w == GROUP_VERSION) (group_named (word_in w words a TaskSlots GROUP_PLACE)) None;
        open_groups = cond (version w == GROUP_VERSION) (word_in w words a TaskSlots OPEN_PLACE) 0;
        frees = None;
        list = [];
      }

  -- a thread, by whether it has begun
  abbrev pub thread_by : ℕ → Bool → Thread
  thread_by a begun =
      record {
        begun = begun;
        current = cond begun (tid_at (word_in w words a ThreadCurrent 0)) None;
        state = cond begun (state_of (word_in w words a ThreadState 0)) IDLE;
        wait = cond begun (wait_of (word_in w words a ThreadState 0)) 0;
        claim = Own;
        wanted = 0;
        asks = [];
        list = [];
      }

  abbrev pub thread_in : ℕ → Thread
  thread_in i = let a = thread_address w i in thread_by a (word_in w words a ThreadLife 0 == 1)

  -- ---- slots

  abbrev pub slot_of : {A : Type 0} → A → ℕ → ℕ → Option Id → Slot A
  slot_of x creator slot None = unused
  slot_of x creator slot (Some n) =
      cond (n.creator == creator && n.slot == slot) (record { generations = n.generation + 1; live = Some x }) unused

  -- in a slot lives what is made of its record, where this is reached
  abbrev pub slots_by : {A : Type 0} → ℕ → (ℕ → A) → Slots A
  slots_by kind make creator slot =
      let a = slot_address w kind creator slot in
      slot_of (make a) creator slot (cond (has (reached w words) a) (live_at w words kind a) None)

  -- ---- the state

  abbrev pub built : State
  built =
      record {
        environment = record {
          nthreads = [];
          dynamic = false;
          max_active = 0;
          sched = record { kind = 0; chunk = 0 };
          device = 0;
          debug = word_in w words (runtime_address w) RuntimeDebug 0 == 1;
          procs = word_in w words (runtime_address w) RuntimeProcs 0;
        };
        count = thread_count w;
        max_active = word_in w words (runtime_address w) RuntimeMaxActive 0;
        locks = λ lock. None;
        threads = thread_in;
        regions = slots_by regions region_in;
        tasks = slots_by tasks task_in;
      }

  -- ---- an object lives exactly where a record of its kind is reached

  here_only : {A : Type 0} (x : A) (n : Id) → found n.generation (slot_of x n.creator n.slot (Some n)) ≡ Some x
  here_only {A} x n = go (n.creator == n.creator && n.slot == n.slot) (both (eq-eqb n.creator n.creator refl) (eq-eqb n.slot n.slot refl))
    where
      both : {a b : Bool} → a ≡ true → b ≡ true → (a && b) ≡ true
      both {a} {b} e f = ap (λ c. c && b) e ∙ f

      go : (b : Bool) → b ≡ true
          → found n.generation (cond b (record { generations = n.generation + 1; live = Some x }) unused) ≡ Some x
      go true e = ap (λ c. cond c (Some x) None) (eq-eqb (n.generation + 1) (n.generation + 1) refl)
      go false e = absurd (cc)

  pub lives_here : {A : Type 0} (kind : ℕ) (make : ℕ → A) (a : ℕ) (n : Id) → has (reached w words) a ≡ true
      → live_at w words kind a ≡ Some n → named (slots_by kind make) n ≡ Some (make a)
  lives_here {A} kind make a n among live =
      let there = (lives_at w words kind a n live).there in
      ap (λ b. found n.generation (slot_of (make b) n.creator n.slot (cond (has (reached w words) b) (live_at w words kind b) None))) (sym there)
      ∙ ap (λ t. found n.generation (slot_of (make a) n.creator n.slot (cond t (live_at w words kind a) None))) among
      ∙ ap (λ o. found n.generation (slot_of (make a) n.creator n.slot o)) live
      ∙ here_only (make a) n

  -- an object that lives in a slot
  pub record IsBuilt {A : Type 0} (kind : ℕ) (make : ℕ → A) (creator slot g : ℕ) (x : A) : Type 0 where
    pub among : has (reached w words) (slot_address w kind creator slot) ≡ true
    pub live : live_at w words kind (slot_address w kind creator slot) ≡ Some (record { creator = creator; slot = slot; generation = g })
    pub is : make (slot_address w kind creator slot) ≡ x

  module _ {A : Type 0} (kind : ℕ) (make : ℕ → A) (creator slot g : ℕ) (x : A) where
    -- the address of the slot's record
    abbrev slot_here : ℕ
    slot_here = slot_address w kind creator slot

    nothing : found {A = A} g unused ≡ Some x → ⊥
    nothing e = never (0 == g + 1) e
      where
        never : (b : Bool) → cond {A = Option A} b None None ≡ Some x → ⊥
        never true e = cc
        never false e = cc

    of_generation : (n : Id) → live_at w words kind slot_here ≡ Some n → (n.creator == creator) ≡ true → (n.slot == slot) ≡ true
        → (c : Bool) → (n.generation + 1 == g + 1) ≡ c → cond c (Some (make slot_here)) None ≡ Some x
        → has (reached w words) slot_here ≡ true → IsBuilt kind make creator slot g x
    of_generation n live first second false e is among = absurd (cc)
    of_generation n live first second true e is among =
        let g_same : n.generation ≡ g = (let plus = eqb-true (n.generation + 1) (g + 1) e in omega (arith, plus)) in
        record {
          among = among;
          live = live ∙ ap (λ (m : Id). Some m) (λ k. record { creator = eqb-true n.creator creator first k; slot = eqb-true n.slot slot second k; generation = g_same k });
          is = (let same : make slot_here ≡ x = cc in same);
        }

    of_slot : (n : Id) → live_at w words kind slot_here ≡ Some n → (b c : Bool) → (n.creator == creator) ≡ b → (n.slot == slot) ≡ c
        → found g (cond (b && c) (record { generations = n.generation + 1; live = Some (make slot_here) }) unused) ≡ Some x
        → has (reached w words) slot_here ≡ true → IsBuilt kind make creator slot g x
    of_slot n live true true e f is among = of_generation n live e f (n.generation + 1 == g + 1) refl is among
    of_slot n live true false e f is among = absurd (nothing is)
    of_slot n live false c e f is among = absurd (nothing is)

    of_live : (o : Option Id) → live_at w words kind slot_here ≡ o → found g (slot_of (make slot_here) creator slot o) ≡ Some x
        → has (reached w words) slot_here ≡ true → IsBuilt kind make creator slot g x
    of_live None live is among = absurd (nothing is)
    of_live (Some n) live is among = of_slot n live (n.creator == creator) (n.slot == slot) refl refl is among

    pub built_only : found g (slots_by kind make creator slot) ≡ Some x → IsBuilt kind make creator slot g x
    built_only is = go (has (reached w words) slot_here) refl is
      where
        go : (b : Bool) → has (reached w words) slot_here ≡ b
            → found g (slot_of (make slot_here) creator slot (cond b (live_at w words kind slot_here) None)) ≡ Some x
            → IsBuilt kind make creator slot g x
        go true among is = of_live (live_at w words kind slot_here) refl is among
        go false among is = absurd (nothing is)

  -- an object has a generation, and a slot without one has had none
  pub slot_kinds : {A : Type 0} (kind : ℕ) (make : ℕ → A) (creator slot : ℕ)
      → ((g : ℕ) × (x : A) × (slots_by kind make creator slot ≡ record { generations = g + 1; live = Some x }))
      ⊎ (slots_by kind make creator slot ≡ unused)
  slot_kinds {A} kind make creator slot = go (cond (has (reached w words) (slot_address w kind creator slot)) (live_at w words kind (slot_address w kind creator slot)) None)
    where
      at : (x : A) (n : Id) (b : Bool)
          → ((g : ℕ) × (y : A) × (cond b (record { generations = n.generation + 1; live = Some x }) unused ≡ record { generations = g + 1; live = Some y }))
          ⊎ (cond b (record { generations = n.generation + 1; live = Some x }) unused ≡ unused)
      at x n true = inl (n.generation, x, refl)
      at x n false = inr refl

      go : (o : Option Id)
          → ((g : ℕ) × (x : A) × (slot_of (make (slot_address w kind creator slot)) creator slot o ≡ record { generations = g + 1; live = Some x }))
          ⊎ (slot_of (make (slot_address w kind creator slot)) creator slot o ≡ unused)
      go None = inr refl
      go (Some n) = at (make (slot_address w kind creator slot)) n (n.creator == creator && n.slot == slot)
