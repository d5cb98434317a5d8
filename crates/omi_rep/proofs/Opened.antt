-- The opening words of a program show its opening state, in which nothing lives but the initial region and the initial task.
use Rattle.std.proofs.Common.{◌≡◌, ◌==◌, ◌<◌, ℕ, ◌+◌, ◌*◌, ◌&&◌, Bool, true, false, cond, List, [], ◌∷◌, Some, None, refl, sym, ap, subst, ◌∙◌, arith, lit≤, lit<, eqb-true, if◌then◌else◌}
use Rattle.std.specs.Prelude.{Contains, IsSome}
use Rattle.std.proofs.lemmas.Bool.Decides.{nat_tests}
use Rattle.std.proofs.lemmas.List.Elements.{All-from_recursion}
use Rattle.omi_numbers.specs.States.{state_numbers}
use Rattle.omi_script.specs.declared.program.Program.{Program}
use Rattle.omi_script.proofs.RuleLemmas.{Rules-from_accepted}
use Rattle.omi_model.specs.declared.id.Rid.{Rid}
use Rattle.omi_model.specs.declared.id.Tid.{Tid}
use Rattle.omi_model.specs.declared.region.Region.{Region}
use Rattle.omi_model.specs.declared.task.Task.{Task}
use Rattle.omi_model.specs.Opening.{initial_region, initial_task, initial_thread, opening, opening_region, opening_task, waiting_worker}
use Rattle.omi_model.specs.Put.{first_alone, found, unused}
use Rattle.omi_model.specs.State.{State, task_of}
use Rattle.omi_model.specs.Visible.{IsVisibleRegion, IsVisibleTask}
use Rattle.omi_model.specs.WellFormed.{HasBegun, IsMember, IsRegionRight, IsTaskRight, IsWellFormed}
use Rattle.omi_layout.specs.declared.field.Field.{Field}
use Rattle.omi_layout.specs.declared.field.Field.TheVariants.{RegionLife, TaskLife}
use Rattle.omi_layout.specs.Field.{runtime, threads, regions, tasks, kind_of}
use Rattle.omi_layout.specs.Memory.{memory_of, word_address}
use Rattle.omi_layout.specs.Named.{number}
use Rattle.omi_layout.specs.OpeningWords.{AreOpening}
use Rattle.omi_layout.specs.Place.{IsSlot}
use Rattle.omi_layout.specs.Table.{thread_count}
use Rattle.omi_layout.specs.Valid.{IsValid}
use Rattle.omi_layout.proofs.Arenas.{some_threads, some_regions, some_tasks}
use Rattle.omi_layout.proofs.Numbers.{numbered_field}
use Rattle.omi_layout.proofs.Stored.{mapped}
use Rattle.omi_layout.proofs.Tables.{tables_give}
use Rattle.omi_word.specs.Words.{Words, words_of}
use Rattle.omi_rep.specs.Codes.{region_code, region_told, runtime_told, shown, shown_unbegun, task_code, task_told, thread_code, thread_told}
use Rattle.omi_rep.specs.Opened.{OpeningIsShown}
use Rattle.omi_rep.specs.Records.{records_of}
use Rattle.omi_rep.specs.Shows.{AreGroupsWithin, CodesStand, IsWithin, LiveAreNamed, RecordsShow, Shows, ShowsSlot, Stands}
use Rattle.omi_rep.proofs.Codes.{codes_stand, region_coded, runtime_coded, task_coded, thread_coded, wide}
use Rattle.omi_rep.proofs.OpenedCodes.{region_opened, runtime_opened, task_opened, thread_opened}

-- the object that is alone is the one that is found
record Alone {A : Type 0} (x y : A) (c k g : ℕ) : Type 0 where
  pub creator : c ≡ 0
  pub place : k ≡ 0
  pub generation : g ≡ 0
  pub same : x ≡ y

alone_found : {A : Type 0} (x y : A) (c k g : ℕ) → found g (first_alone x c k) ≡ Some y → Alone x y c k g
alone_found x y c k g is = go (c == 0 && k == 0) refl (1 == g + 1) refl (0 == g + 1) refl is
  where
    go : (b : Bool) → (c == 0 && k == 0) ≡ b → (d : Bool) → 1 == g + 1 ≡ d → (u : Bool) → 0 == g + 1 ≡ u
        → (if (if b then record { generations = 1; live = Some x } else unused).generations == g + 1 then (if b then record { generations = 1; live = Some x } else unused).live else None) ≡ Some y → Alone x y c k g
    go true e true f u h i = record {
      creator = grind (arith, nat_tests);
      place = grind (arith, nat_tests);
      generation = grind (arith, nat_tests);
      same = let some : Some x ≡ Some y = sym (ap (λ t. cond t (Some x) None) f) ∙ i in cc;
    }
    go true e false f u h i =
        let none : None ≡ Some y = sym (ap (λ t. cond t (Some x) None) f) ∙ i in absurd (cc)
    go false e d f true h i = absurd (let wrong : 0 ≡ g + 1 = eqb-true 0 (g + 1) h in omega (arith, wrong))
    go false e d f false h i =
        let none : None ≡ Some y = sym (ap (λ t. cond t None None) h) ∙ i in absurd (cc)

-- a slot that is empty where one object is alone has had none
alone_free : {A : Type 0} (x : A) (c k : ℕ) → (first_alone x c k).live ≡ None
    → (first_alone x c k).generations ≡ 0
alone_free {A} x c k = go (c == 0 && k == 0)
  where
    go : (b : Bool) → (if b then record { generations = 1; live = Some x } else unused).live ≡ None
        → (if b then record { generations = 1; live = Some x } else unused).generations ≡ 0
    go true is = absurd (cc)
    go false is = refl

-- the one object has a name
alone_named : {A : Type 0} (x : A) → LiveAreNamed (first_alone x)
alone_named {A} x c k y = go (c == 0 && k == 0)
  where
    go : (b : Bool) → (if b then record { generations = 1; live = Some x } else unused).live ≡ Some y
        → (g : ℕ) × (found g (if b then record { generations = 1; live = Some x } else unused) ≡ Some y)
    go true is = (0, is)
    go false is = absurd (cc)

module _ (p : Program) (w words : List ℕ) (v : IsValid w) (suits : p.threads ≡ thread_count w)
    (opens : AreOpening p w words) where
  abbrev g : Words
  g = words_of words

  abbrev s : State
  s = opening p

  some : 0 < p.threads
  some = omega (arith, suits, some_threads w v)

  -- the initial region and the initial task are visible, and all is right with them
  region_seen : IsVisibleRegion s initial_region
  region_seen = record { region = opening_region p; live = refl; team = All-from_recursion (λ (m : Tid × ℕ). IsSome (task_of s m.0)) ((initial_task, 0) ∷ []) (refl, tt) }

  task_seen : IsVisibleTask s initial_task
  task_seen = record { task = opening_task p; live = refl; shown = region_seen }

  begun : HasBegun s 0
  begun = record { known = some; begun = refl }

  region_right : IsRegionRight s (opening_region p)
  region_right = record {
    enclosing = λ n is. absurd (cc);
    encountering = λ k is. absurd (cc);
    members = All-from_recursion (λ (m : Tid × ℕ). IsMember s m.0 m.1) ((initial_task, 0) ∷ [])
        (record { visible = task_seen; same = λ t is. let one : opening_task p ≡ t = cc in ap (λ (u : Task). u.thread) (sym one); begun = begun }, tt);
    some = lit≤ tt;
    few = omega (arith, some);
    ends = (0, refl);
  }

  task_right : IsTaskRight s (opening_task p)
  task_right = record {
    region = region_seen;
    generating = λ k is. absurd (cc);
    scheduling = λ k is. absurd (cc);
    owner = λ g none. absurd (cc);
    begun = begun;
    ends = (0, refl);
    variables = record { some = (Rules-from_accepted p).count.0; few = (Rules-from_accepted p).count.1; kind_from = (Rules-from_accepted p).schedule.0; kind_to = (Rules-from_accepted p).schedule.1 };
  }

  well_formed : IsWellFormed s
  well_formed = record {
    currents = λ i k within is. current i k (i == 0) refl is;
    states = λ i within. listed (i == 0);
    regions = λ n seen. subst (λ (r : Region). IsRegionRight s r) (alone_found (opening_region p) seen.region n.0.creator n.0.slot n.0.generation seen.live).same region_right;
    tasks = λ k seen. subst (λ (t : Task). IsTaskRight s t) (alone_found (opening_task p) seen.task k.0.creator k.0.slot k.0.generation seen.live).same task_right;
  }
    where
      current : (i : ℕ) (k : Tid) (b : Bool) → i == 0 ≡ b
          → (if b then initial_thread else waiting_worker).current ≡ Some k → IsVisibleTask s k
      current i k true e is =
          let same : initial_task ≡ k = cc in subst (λ (q : Tid). IsVisibleTask s q) same task_seen
      current i k false e is = absurd (cc)

      listed : (b : Bool) → Contains state_numbers (if b then initial_thread else waiting_worker).state
      listed true = (0, lit< tt, refl)
      listed false = (7, lit< tt, refl)

  -- ---- the records

  slot_0 : IsSlot w regions 0 0 × IsSlot w tasks 0 0
  slot_0 =
      (record { made_by = some_threads w v; within = some_regions w v }, record { made_by = some_threads w v; within = some_tasks w v })

  threads_shown : (fields : Field → Bool) (i : ℕ) → i < s.count
      → CodesStand fields (thread_code w i (thread_told (s.threads i))) (records_of w g i threads 0)
  threads_shown fields i within =
      let there : i < thread_count w = omega (arith, suits, within) in
      codes_stand w words v opens.count fields _ threads i 0
      (record { made_by = there; within = omega arith }) (thread_coded w v i (thread_told (s.threads i)))
      (thread_opened p w i (memory_of w words i threads 0) (opens.made i there).thread)

  region_shown : CodesStand shown (region_code w (region_told (opening_region p))) (records_of w g 0 regions 0)
  region_shown =
      codes_stand w words v opens.count shown _ regions 0 0 slot_0.0
      (region_coded w v (region_told (opening_region p)) (omega (arith, suits, some)))
      (region_opened p w (memory_of w words 0 regions 0) ((opens.made 0 (some_threads w v)).region refl))

  task_shown : CodesStand shown (task_code w (task_told (opening_task p))) (records_of w g 0 tasks 0)
  task_shown =
      codes_stand w words v opens.count shown _ tasks 0 0 slot_0.1
      (task_coded w v (task_told (opening_task p)) (Rules-from_accepted p).count.1)
      (task_opened p w (memory_of w words 0 tasks 0) ((opens.made 0 (some_threads w v)).task refl))

  -- the life word of the one object of a kind
  life_stands : (f : Field) (kind : ℕ) → kind_of (number f) ≡ kind → IsSlot w kind 0 0
      → memory_of w words 0 (kind_of (number f)) 0 (number f) 0 ≡ 1
      → Stands (records_of w g 0 (kind_of (number f)) 0) f 0 1
  unfolding word_address
  life_stands f kind is slot e =
      mapped w v words 0 0 (number f) 0 (omega (arith, opens.count))
      (record { field = numbered_field f; record_slot = subst (λ q. IsSlot w q 0 0) (sym is) slot; within = wide w v (number f) })
      ∙ ap Some e

  slots_shown : {A : Type 0} (kind : ℕ) (life : Field) (x : A) (c k : ℕ)
      → Stands (records_of w g 0 kind 0) life 0 1
      → ShowsSlot (records_of w g c kind k) life (first_alone x c k)
  slots_shown {A} kind life x c k stands = record {
    live = λ e y is. alive y e (alone_found x y c k e is);
    free = λ word is there. omega (arith, alone_free x c k is);
  }
    where
      alive : (y : A) (e : ℕ) → Alone x y c k e → Stands (records_of w g c kind k) life 0 (2 * e + 1)
      alive y e at =
          subst (λ (d : ℕ). Stands (records_of w g d kind k) life 0 (2 * e + 1)) (sym at.creator)
          (subst (λ (j : ℕ). Stands (records_of w g 0 kind j) life 0 (2 * e + 1)) (sym at.place)
          (subst (λ (n : ℕ). Stands (records_of w g 0 kind 0) life 0 (2 * n + 1)) (sym at.generation) stands))

  within : IsWithin w s
  within = record {
    well_formed = well_formed;
    count = suits;
    regions = λ c k e x is. let at = alone_found (opening_region p) x c k e is in record { maker = omega (arith, at.creator, some_threads w v); place = omega (arith, at.place, some_regions w v) };
    tasks = λ c k e x is. let at = alone_found (opening_task p) x c k e is in record { maker = omega (arith, at.creator, some_threads w v); place = omega (arith, at.place, some_tasks w v) };
    regions_named = alone_named (opening_region p);
    tasks_named = alone_named (opening_task p);
  }

  records_shown : RecordsShow w (records_of w g) s
  records_shown = record {
    globals =
        codes_stand w words v opens.count shown _ runtime 0 0
        (record { made_by = omega arith; within = omega arith }) (runtime_coded w v (runtime_told s))
        (runtime_opened p w (memory_of w words 0 runtime 0) opens.runtime_record);
    lives = threads_shown shown_unbegun;
    threads = λ i known _. threads_shown shown i known;
    region_lives = λ c k _ _. slots_shown regions RegionLife (opening_region p) c k (life_stands RegionLife regions refl slot_0.0 (((opens.made 0 (some_threads w v)).region refl).words RegionLife 0));
    task_lives = λ c k _ _. slots_shown tasks TaskLife (opening_task p) c k (life_stands TaskLife tasks refl slot_0.1 (((opens.made 0 (some_threads w v)).task refl).words TaskLife 0));
    regions = λ n seen. region_in n seen.region (alone_found (opening_region p) seen.region n.0.creator n.0.slot n.0.generation seen.live);
    tasks = λ k seen. task_in k seen.task (alone_found (opening_task p) seen.task k.0.creator k.0.slot k.0.generation seen.live);
  }
    where
      region_in : (n : Rid) (r : Region) → Alone (opening_region p) r n.0.creator n.0.slot n.0.generation
          → CodesStand shown (region_code w (region_told r)) (records_of w g n.0.creator regions n.0.slot)
      region_in n r at =
          subst
          (λ (d : ℕ). CodesStand shown (region_code w (region_told r)) (records_of w g d regions n.0.slot))
          (sym at.creator)
          (subst (λ (j : ℕ). CodesStand shown (region_code w (region_told r)) (records_of w g 0 regions j)) (sym at.place)
          (subst (λ (q : Region). CodesStand shown (region_code w (region_told q)) (records_of w g 0 regions 0)) at.same region_shown))

      task_in : (k : Tid) (t : Task) → Alone (opening_task p) t k.0.creator k.0.slot k.0.generation
          → CodesStand shown (task_code w (task_told t)) (records_of w g k.0.creator tasks k.0.slot)
      task_in k t at =
          subst (λ (d : ℕ). CodesStand shown (task_code w (task_told t)) (records_of w g d tasks k.0.slot))
          (sym at.creator)
          (subst (λ (j : ℕ). CodesStand shown (task_code w (task_told t)) (records_of w g 0 tasks j)) (sym at.place)
          (subst (λ (q : Task). CodesStand shown (task_code w (task_told q)) (records_of w g 0 tasks 0)) at.same task_shown))

  -- the initial task is in no group and has none open
  ungrouped : AreGroupsWithin w s
  ungrouped old k t live =
      let same = (alone_found (opening_task p) t k.0.creator k.0.slot k.0.generation live).same in
      record { member = ap (λ (u : Task). u.group) (sym same); open_groups = ap (λ (u : Task). u.open_groups) (sym same) }

  opened : Shows w g s
  opened = record { layout = tables_give w words v opens.tables; within = within; groups = ungrouped; records = records_shown }

pub opening_shown : OpeningIsShown
opening_shown = λ p w words v suits opens. opened p w words v suits opens
