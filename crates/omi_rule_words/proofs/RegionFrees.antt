-- A region is given back, on which no thread owes: its record has the life word of a free one.
use Rattle.std.proofs.Common.{◌≡◌, ◌≢◌, ◌==◌, ◌<◌, ℕ, Bool, true, false, inl, inr, List, Option, Some, None, refl, sym, ap, subst, ◌∙◌, arith, eqb-true}
use Rattle.std.specs.Prelude.{◌⊎◌}
use Rattle.std.proofs.lemmas.List.Elements.{All-weaker}
use mathlib.Core.Path.{fun_ext}
use Rattle.omi_model.specs.declared.id.Id.{Id}
use Rattle.omi_model.specs.declared.id.Rid.{Rid}
use Rattle.omi_model.specs.declared.id.Tid.{Tid}
use Rattle.omi_model.specs.declared.region.Region.{Region}
use Rattle.omi_model.specs.declared.slot.Slot.{Slot}
use Rattle.omi_model.specs.declared.task.Task.{Task}
use Rattle.omi_model.specs.Freeing.{region_freed}
use Rattle.omi_model.specs.State.{State, region_of}
use Rattle.omi_model.proofs.Slots.{gone_generations, gone_other}
use Rattle.omi_layout.specs.declared.field.Field.TheVariants.{RegionLife, TaskSlots}
use Rattle.omi_layout.specs.Field.{regions, runtime, tasks, threads}
use Rattle.omi_layout.specs.Memory.{Memory, Rec}
use Rattle.omi_layout.specs.Named.{number}
use Rattle.omi_layout.proofs.Puts.{record_stays, word_read}
use Rattle.omi_rep.specs.Records.{slot_word}
use Rattle.omi_rule_words.specs.Owes.{Owed}
use Rattle.omi_rule_words.specs.Counts.{has_region_slot}
use Rattle.omi_rule_words.specs.Threads.{Has, KeepsAssign, KeepsRuntime, KeepsThread, WaitsFor}
use Rattle.omi_rule_words.specs.Objects.{IsDeferredIn, KeepsCounts, KeepsDeferred, KeepsLife, KeepsRegion}
use Rattle.omi_rule_words.specs.Words.{HasFinished, IsInTheMaking, KeepsMade, KeepsRegionSlot, KeepsTaskSlot, KeepsWords, OwesOnLive, region_in}
use Rattle.omi_rule_words.specs.FreeKinds.{RegionFreesKeep, emptied_life, with_region_emptied}
use Rattle.omi_rule_words.proofs.Begun.{some_found}
use Rattle.omi_rule_words.proofs.CountedRegions.{region_counted}
use Rattle.omi_rule_words.proofs.EachPlace.{each_place}
use Rattle.omi_rule_words.proofs.GoneSlots as slots
use Rattle.omi_rule_words.proofs.PendingWords.{live_of}
use Rattle.omi_rule_words.specs.Groups.{KeepsGroups}

module _ (w : List ℕ) (m : Memory) (s : State) (owes : ℕ → Owed) (n : Rid) (old : Region)
    (keeps : KeepsWords w m s owes) (live : region_of s n ≡ Some old)
    (unpending : (j : ℕ) → j < s.count → (owes j).pending ≢ Some n)
    (unleft : (j : ℕ) → j < s.count → (owes j).left ≢ Some n) where
  abbrev after : State
  after = region_freed s n

  abbrev emptied_memory : Memory
  emptied_memory = with_region_emptied m n

  abbrev there : Slot Region
  there = s.regions n.0.creator n.0.slot

  live_there : there.live ≡ Some old
  live_there = slots.live_there s.regions n.0 old live

  -- ---- the slots of all regions

  slot_here : after.regions n.0.creator n.0.slot ≡ record { generations = there.generations; live = None }
  slot_here = slots.slot_here s.regions n.0 old live

  slot_beside : (c j : ℕ) → (c ≡ n.0.creator → j ≡ n.0.slot → ⊥) → after.regions c j ≡ s.regions c j
  slot_beside = slots.slot_beside s.regions n.0 old live

  -- another region lives on
  region_after : (q : Rid) (x : Region) → q ≢ n → region_of s q ≡ Some x → region_of after q ≡ Some x
  region_after q x ne is =
      gone_other s.regions n.0 q.0 x (λ same. ne (ap (λ (y : Id). record { 0 = y }) same)) is

  -- ---- what is kept

  region_kept : (q : Rid) (r : Rec) (x : Region) → KeepsRegion w s owes q r x → KeepsRegion w after owes q r x
  region_kept q r x o = region_counted w s after owes owes q r x refl refl o

  counts_kept : {k : Tid} {r : Rec} {t : Task} → KeepsCounts w s owes k r t → KeepsCounts w after owes k r t
  counts_kept o = record { children = o.children; references = o.references; given = o.given }

  task_slot_kept : (c j : ℕ) (r : Rec) → KeepsTaskSlot w s owes c j r → KeepsTaskSlot w after owes c j r
  task_slot_kept c j r o = record {
    life = o.life;
    live = λ t is.
        let task = o.live t is in
        record {
          environment = task.environment;
          place = task.place;
          counts = counts_kept task.counts;
          slots = λ implicit at below. slot t at (task.slots implicit at below);
        };
  }
    where
      slot : (t : Task) (at : ℕ)
          → Has r TaskSlots at 0 ⊎ ((q : Tid) × IsDeferredIn s t at q × Has r TaskSlots at (slot_word w q))
          → Has r TaskSlots at 0 ⊎ ((q : Tid) × IsDeferredIn after t at q × Has r TaskSlots at (slot_word w q))
      slot t at (inl none) = inl none
      slot t at (inr (q, d, word)) =
          let deferred : IsDeferredIn after t at q = record {
            task = d.task;
            live = d.live;
            progress = d.progress;
            region = d.region;
            place_is = d.place_is;
            maker = d.maker;
          } in
          inr (q, deferred, word)

  -- the same tasks wait, and the same are deferred
  waits_after : (i : ℕ) (q : Tid) → WaitsFor s i q → WaitsFor after i q
  waits_after i q x = record { task = x.task; live = x.live; progress = x.progress; thread = x.thread }

  waits_before : (i : ℕ) (q : Tid) → WaitsFor after i q → WaitsFor s i q
  waits_before i q x = record { task = x.task; live = x.live; progress = x.progress; thread = x.thread }

  assign_kept : (j : ℕ) (r : Rec) → KeepsAssign w s owes j r → KeepsAssign w after owes j r
  assign_kept j r o = record {
    waiting = λ q waits. let was = o.waiting q
        (waits_before j q waits) in record { word_is = was.word_is; once = was.once };
    none = λ nobody. o.none (λ q waits. nobody q (waits_after j q waits));
  }

  slot_kept : (c j : ℕ) → KeepsRegionSlot w s owes c j (m c regions j)
      → ((x : Region) → (s.regions c j).live ≡ Some x → has_region_slot j (owes c).region ≡ false)
      → KeepsRegionSlot w after owes c j (emptied_memory c regions j)
  slot_kept =
      each_place
      (λ c j. KeepsRegionSlot w s owes c j (m c regions j)
      → ((x : Region) → (s.regions c j).live ≡ Some x → has_region_slot j (owes c).region ≡ false)
      → KeepsRegionSlot w after owes c j (emptied_memory c regions j)) n.0.creator n.0.slot
      (λ o unmade. record {
        life =
            subst
            (λ (x : Slot Region).
            KeepsLife (emptied_memory n.0.creator regions n.0.slot) RegionLife x
            (has_region_slot n.0.slot (owes n.0.creator).region))
            (sym slot_here)
            (record {
              live = λ x is. absurd (cc);
              taken = λ _ taken. let none = unmade old live_there in absurd (cc);
              free = λ _ _.
                  let word = word_read m n.0.creator regions n.0.slot (number RegionLife) 0 (emptied_life n.0) in
                  let made = slots.generations_there s.regions n.0 old live in
                  omega (arith, word, made);
            });
        live = λ x is.
            let none : (after.regions n.0.creator n.0.slot).live ≡ None =
            ap (λ (y : Slot Region). y.live) slot_here in
            absurd (cc);
      })
      (λ c j apart o unmade. subst (λ (r : Rec). KeepsRegionSlot w after owes c j r)
      (sym (record_stays m n.0.creator regions n.0.slot (number RegionLife) 0 (emptied_life n.0) c regions j
      (λ creator _ slot. apart creator slot)))
      (record {
        life =
            subst
            (λ (x : Slot Region). KeepsLife (m c regions j) RegionLife x (has_region_slot j (owes c).region))
            (sym (slot_beside c j apart)) o.life;
        live = λ x is.
            let was : (s.regions c j).live ≡ Some x =
            sym (ap (λ (y : Slot Region). y.live) (slot_beside c j apart)) ∙ is in
            subst (λ (y : Slot Region). KeepsRegion w after owes (region_in c j y) (m c regions j) x)
            (sym (slot_beside c j apart)) (region_kept (region_in c j (s.regions c j)) (m c regions j) x
            (o.live x was));
      }))

  stays : (c kind j : ℕ) → (kind ≡ regions → ⊥) → emptied_memory c kind j ≡ m c kind j
  stays c kind j ne =
      record_stays m n.0.creator regions n.0.slot (number RegionLife) 0 (emptied_life n.0) c kind j
      (λ _ is _. ne is)

  -- a region in the making has no slot in which one lives
  unmade : (c j : ℕ) → c < s.count → (x : Region) → (s.regions c j).live ≡ Some x
      → has_region_slot j (owes c).region ≡ false
  unmade c j known x some = go (owes c).region (keeps.made c known).making.region
    where
      go : (o : Option Rid) → ((q : Rid) → o ≡ Some q → IsInTheMaking c (s.regions c) q.0)
          → has_region_slot j o ≡ false
      go None making = refl
      go (Some q) making = test (q.0.slot == j) refl
        where
          test : (b : Bool) → q.0.slot == j ≡ b → b ≡ false
          test false e = refl
          test true e =
              let empty_there : (s.regions c j).live ≡ None =
              subst (λ y. (s.regions c y).live ≡ None) (eqb-true q.0.slot j e) (making q refl).free in
              absurd (cc)

  finished_after : {k : Tid} → HasFinished s k → HasFinished after k
  finished_after x = record { task = x.task; live = x.live; explicit = x.explicit; progress = x.progress }

  objects_kept : (j : ℕ) → j < s.count → OwesOnLive s (owes j) → OwesOnLive after (owes j)
  objects_kept j known x = record {
    pending = λ q is.
        let (y, there) = live_of (region_of s q) (x.pending q is) in
        some_found (region_of after q) y (region_after q y (λ same. unpending j known (is ∙ ap Some same)) there);
    left = λ q is.
        let (y, there, unjoined) = x.left q is in
        (y, region_after q y (λ same. unleft j known (is ∙ ap Some same)) there, unjoined);
    raised = x.raised;
    lowered = x.lowered;
    referred = x.referred;
    own = λ q is. let (over, owed) = x.own q is in (finished_after over, owed);
    returned = x.returned;
    gives = λ q is. let (over, owed) = x.gives q is in (finished_after over, owed);
    assigns =
        All-weaker (λ (q : Tid × ℕ). WaitsFor s q.1 q.0) (λ (q : Tid × ℕ). WaitsFor after q.1 q.0)
        (λ q waits. waits_after q.1 q.0 waits) (owes j).assigns x.assigns;
  }

  pub region_frees : KeepsWords w emptied_memory after owes
  region_frees = record {
    runtime_record =
        subst (λ (r : Rec). KeepsRuntime w r after)
        (sym (stays 0 runtime 0 (λ kind. absurd (omega (arith, kind))))) keeps.runtime_record;
    made = made;
    deferred =
        subst (λ (r : ℕ → ℕ → Rec). KeepsDeferred w r after owes) (sym tasks_same)
        (record { once = keeps.deferred.once; hands = keeps.deferred.hands });
    groups =
        subst (λ (r : ℕ → ℕ → Rec). KeepsGroups w r after owes) (sym tasks_same)
        (record { counts = keeps.groups.counts; counted = keeps.groups.counted; uncounted = keeps.groups.uncounted });
  }
    where
      tasks_same : ◌≡◌ {A = ℕ → ℕ → Rec} (λ c. emptied_memory c tasks) (λ c. m c tasks)
      tasks_same = fun_ext (λ c. fun_ext (λ j. stays c tasks j (λ kind. absurd (omega (arith, kind)))))

      made : (j : ℕ) → j < s.count → KeepsMade w after owes j (emptied_memory j)
      made j known =
          let o = keeps.made j known in
          let thread : emptied_memory j threads 0 ≡ m j threads 0 =
          stays j threads 0 (λ kind. absurd (omega (arith, kind))) in
          record {
            thread = subst (λ (r : Rec). KeepsThread w j r (s.threads j)) (sym thread) o.thread;
            assign = subst (λ (r : Rec). KeepsAssign w after owes j r) (sym thread)
                (assign_kept j (m j threads 0) o.assign);
            regions = λ k below. slot_kept j k (o.regions k below) (unmade j k known);
            tasks = λ k below.
                subst (λ (r : Rec). KeepsTaskSlot w after owes j k r)
                (sym (stays j tasks k (λ kind. absurd (omega (arith, kind)))))
                (task_slot_kept j k (m j tasks k) (o.tasks k below));
            making = record {
              region = λ q is.
                  let x = o.making.region q is in
                  record {
                    maker = x.maker;
                    free = slots.empty_after s.regions n.0 old live j q.0.slot x.free;
                    next = x.next ∙ sym (gone_generations s.regions n.0 j q.0.slot);
                  };
              tasks = o.making.tasks;
              apart = o.making.apart;
            };
            objects = objects_kept j known o.objects;
          }

pub region_frees_keep : RegionFreesKeep
region_frees_keep =
    λ w m s owes n member keeps may unpending unleft.
    region_frees w m s owes n may.old keeps may.ended.live unpending unleft
