-- Stores into the record of a live region that goes on as what it is: arrivals and releases.
use Rattle.std.proofs.Common.{◌≡◌, ◌≢◌, ◌+◌, ◌<◌, ℕ, zero, suc, List, length, Some, refl, sym, ap, subst, ◌∙◌, arith}
use Rattle.std.specs.Prelude.{slice_index, slice_set, sum}
use Rattle.std.proofs.lemmas.List.Sums.{sum_by-set}
use Rattle.omi_model.specs.declared.limits.TheConstants.{MOST_EVENTS}
use Rattle.omi_model.specs.declared.id.Rid.{Rid}
use Rattle.omi_model.specs.declared.region.Region.{Region}
use Rattle.omi_model.specs.declared.slot.Slot.{Slot}
use Rattle.omi_model.specs.declared.task.Task.{Task}
use Rattle.omi_model.specs.Barriers.{arrived, released}
use Rattle.omi_model.specs.Changes.{on_region}
use Rattle.omi_model.specs.Put.{changed}
use Rattle.omi_model.specs.State.{State, region_of}
use Rattle.omi_model.proofs.Slots.{each_slot, found_live}
use Rattle.omi_layout.specs.declared.field.Field.{Field}
use Rattle.omi_layout.specs.declared.field.Field.TheVariants.{RegionArrived, RegionLeft, RegionLife, RegionPending, RegionReleased, TaskLife, TaskSlots, ThreadAssign}
use Rattle.omi_layout.specs.Field.{runtime, threads, regions, tasks}
use Rattle.omi_layout.specs.Memory.{Memory, Rec, with_word}
use Rattle.omi_layout.specs.Named.{number}
use Rattle.omi_layout.specs.Table.{per_thread}
use Rattle.omi_layout.proofs.Puts.{record_stays, word_read, word_stays}
use Rattle.omi_rep.specs.Codes.{HasCodes, region_code, region_told}
use Rattle.omi_rep.proofs.Codes.{same_word}
use Rattle.omi_rule_words.specs.Owes.{Owed}
use Rattle.omi_rule_words.specs.Threads.{KeepsRuntime, KeepsThread}
use Rattle.omi_rule_words.specs.Objects.{KeepsRegion}
use Rattle.omi_rule_words.specs.Words.{KeepsTask, KeepsWords, region_in, task_in}
use Rattle.omi_rule_words.specs.TaskKinds.{IsSameTask}
use Rattle.omi_rule_words.specs.BarrierKinds.{ArrivesKeep, ReleasesKeep, one_more, with_region_word, word_of_region}
use Rattle.omi_rule_words.proofs.Alike.{IsSameRegion, on_alike, same_region, same_task, slots_same}
use Rattle.omi_rule_words.proofs.OtherStates.{other_states}
use Rattle.omi_rule_words.proofs.TaskStores.{changed_live}

module _ (w : List ℕ) (m : Memory) (s : State) (owes : ℕ → Owed) (name : Rid) (r : Region) (f : Field)
    (at word : ℕ) (keeps : KeepsWords w m s owes) (live : region_of s name ≡ Some r) where
  abbrev creator : ℕ
  creator = name.0.creator

  abbrev place : ℕ
  place = name.0.slot

  abbrev n : Memory
  n = with_word m creator regions place (number f) at word

  stays : (c kind j : ℕ) → (kind ≡ regions → ⊥) → n c kind j ≡ m c kind j
  stays c kind j ne = record_stays m creator regions place (number f) at word c kind j (λ _ is _. ne is)

  -- the other words of the record
  pub others_stay : (g : Field) (p : ℕ) → number g ≢ number f
      → n creator regions place (number g) p ≡ m creator regions place (number g) p
  others_stay g p ne =
      word_stays m creator regions place (number f) at word creator regions place (number g) p
      (λ _ _ _ is _. ne is)

  pub region_stored : (g : Region → Region) → IsSameRegion r (g r) → number f ≢ number RegionLife
      →
      (place < per_thread w regions → (q : Rid) → KeepsRegion w s owes q (m creator regions place) r → KeepsRegion w s owes q (n creator regions place) (g r))
      → KeepsWords w n (on_region s name g) owes
  region_stored g same field is =
      other_states w s (on_region s name g) owes refl
      (on_alike IsSameRegion same_region s.regions name.0 g (λ x there. let region : r ≡ x = cc in subst (λ (v : Region). IsSameRegion v (g v)) region same))
      (slots_same IsSameTask same_task s.tasks) m n keeps
      (λ i. ap (λ (x : Rec). x (number ThreadAssign) 0) (stays i threads 0 (λ kind. absurd (omega (arith, kind)))))
      (λ i j. word_stays m creator regions place (number f) at word i regions j (number RegionLife) 0 (λ _ _ _ is _. field (sym is)))
      (λ i j. ap (λ (x : Rec). x (number TaskLife) 0) (stays i tasks j (λ kind. absurd (omega (arith, kind)))))
      (λ i j p. ap (λ (x : Rec). x (number TaskSlots) p) (stays i tasks j (λ kind. absurd (omega (arith, kind)))))
      (subst (λ (x : Rec). KeepsRuntime w x (on_region s name g)) (sym (stays 0 runtime 0 (λ kind. absurd (omega (arith, kind))))) keeps.runtime_record)
      (λ i known. subst (λ (x : Rec). KeepsThread w i x (s.threads i)) (sym (stays i threads 0 (λ kind. absurd (omega (arith, kind))))) (keeps.made i known).thread)
      (λ i j known within. each_slot s.regions name.0 (λ c slot (y : Slot Region). c < s.count
      → slot < per_thread w regions → (v : Region) → y.live ≡ Some v → KeepsRegion w s owes (region_in c slot (s.regions c slot)) (n c regions slot) v)
      (changed name.0.generation g (s.regions creator place)) here beside i j known within)
      (λ i j known within t there. subst (λ (x : Rec). KeepsTask w s owes (task_in i j (s.tasks i j)) x t)
      (sym (stays i tasks j (λ kind. absurd (omega (arith, kind))))) (((keeps.made i known).tasks j within).live t there))
    where
      beside : (c slot : ℕ) → (c ≡ creator → slot ≡ place → ⊥) → c < s.count → slot < per_thread w regions
          → (v : Region) → (s.regions c slot).live ≡ Some v
          → KeepsRegion w s owes (region_in c slot (s.regions c slot)) (n c regions slot) v
      beside c slot apart known within v there =
          subst (λ (x : Rec). KeepsRegion w s owes (region_in c slot (s.regions c slot)) x v)
          (sym (record_stays m creator regions place (number f) at word c regions slot (λ same _ slot_same. apart same slot_same)))
          (((keeps.made c known).regions slot within).live v there)

      here : creator < s.count → place < per_thread w regions → (v : Region)
          → (changed name.0.generation g (s.regions creator place)).live ≡ Some v
          → KeepsRegion w s owes (region_in creator place (s.regions creator place))
          (n creator regions place) v
      here known within v there =
          subst
          (λ (x : Region). KeepsRegion w s owes (region_in creator place (s.regions creator place)) (n creator regions place) x)
          (sym (changed_live name.0.generation g (s.regions creator place) r v live there))
          (is within (region_in creator place (s.regions creator place)) (((keeps.made creator known).regions place within).live r (found_live name.0.generation (s.regions creator place) r live)))

pub arrives_keep : ArrivesKeep
arrives_keep = λ w m s owes t r keeps live member small. kept w m s owes t r keeps live member small
  where
    kept : (w : List ℕ) (m : Memory) (s : State) (owes : ℕ → Owed) (t : Task) (r : Region)
        → KeepsWords w m s owes → region_of s t.region ≡ Some r → t.number < length r.arrivals
        → sum r.arrivals < MOST_EVENTS
        → KeepsWords w
        (with_region_word m t.region RegionArrived (one_more (word_of_region m t.region RegionArrived)))
        (arrived s t) owes
    kept w m s owes t r keeps live member small =
        region_stored w m s owes t.region r RegionArrived 0 word keeps live
        (λ x. record x { arrivals = slice_set x.arrivals t.number (slice_index x.arrivals t.number + 1) })
        (record { team = refl; joined = refl }) (λ same. omega (arith, same))
        (λ within q o. record {
          codes = codes o;
          pending = other RegionPending 0 (λ same. omega (arith, same)) ∙ o.pending;
          left = let was = o.left in let same = other RegionLeft 0 (λ same. omega (arith, same)) in omega (arith, was, same);
        })
      where
        word : ℕ
        word = one_more (word_of_region m t.region RegionArrived)

        other : (g : Field) (p : ℕ) → number g ≢ number RegionArrived
            → with_region_word m t.region RegionArrived word t.region.0.creator regions t.region.0.slot (number g) p ≡ m t.region.0.creator regions t.region.0.slot (number g) p
        other = others_stay w m s owes t.region r RegionArrived 0 word keeps live

        arrived_word : word_of_region m t.region RegionArrived ≡ sum r.arrivals
            → word_of_region (with_region_word m t.region RegionArrived word) t.region RegionArrived ≡ sum (slice_set r.arrivals t.number (slice_index r.arrivals t.number + 1))
        arrived_word was =
            let stored : word_of_region (with_region_word m t.region RegionArrived word) t.region RegionArrived ≡ word =
            word_read m t.region.0.creator regions t.region.0.slot (number RegionArrived) 0 word in
            let one_more_arrived : sum (slice_set r.arrivals t.number (slice_index r.arrivals t.number + 1)) + slice_index r.arrivals t.number ≡ sum r.arrivals + (slice_index r.arrivals t.number + 1)
            = sum_by-set (λ x. x) r.arrivals t.number (slice_index r.arrivals t.number + 1) 0 member in
            omega (arith, was, stored, one_more_arrived, small)

        codes : {q : Rid} → KeepsRegion w s owes q (m t.region.0.creator regions t.region.0.slot) r
            → HasCodes
            (region_code w (region_told (record r { arrivals = slice_set r.arrivals t.number (slice_index r.arrivals t.number + 1) })))
            (with_region_word m t.region RegionArrived word t.region.0.creator regions t.region.0.slot)
        codes o RegionArrived zero x is = arrived_word (o.codes RegionArrived 0 _ refl) ∙ same_word _ _ is
        codes o RegionArrived (suc p) x is = absurd (cc)
        codes o g p x is = other g p (λ same. absurd (omega (arith, same))) ∙ o.codes g p x is

pub releases_keep : ReleasesKeep
releases_keep = λ w m s owes t r keeps live. kept w m s owes t r keeps live
  where
    kept : (w : List ℕ) (m : Memory) (s : State) (owes : ℕ → Owed) (t : Task) (r : Region)
        → KeepsWords w m s owes → region_of s t.region ≡ Some r
        → KeepsWords w (with_region_word m t.region RegionReleased (r.released + 1)) (released s t) owes
    kept w m s owes t r keeps live =
        region_stored w m s owes t.region r RegionReleased 0 (r.released + 1) keeps live
        (λ x. record x { released = x.released + 1 })
        (record { team = refl; joined = refl }) (λ same. omega (arith, same))
        (λ within q o. record {
          codes = codes o;
          pending = other RegionPending 0 (λ same. omega (arith, same)) ∙ o.pending;
          left = let was = o.left in let same = other RegionLeft 0 (λ same. omega (arith, same)) in omega (arith, was, same);
        })
      where
        other : (g : Field) (p : ℕ) → number g ≢ number RegionReleased
            → with_region_word m t.region RegionReleased (r.released + 1) t.region.0.creator regions t.region.0.slot (number g) p ≡ m t.region.0.creator regions t.region.0.slot (number g) p
        other = others_stay w m s owes t.region r RegionReleased 0 (r.released + 1) keeps live

        codes : {q : Rid} → KeepsRegion w s owes q (m t.region.0.creator regions t.region.0.slot) r
            → HasCodes (region_code w (region_told (record r { released = r.released + 1 })))
            (with_region_word m t.region RegionReleased (r.released + 1) t.region.0.creator regions t.region.0.slot)
        codes o RegionReleased zero x is =
            word_read m t.region.0.creator regions t.region.0.slot (number RegionReleased) 0 (r.released + 1)
            ∙ same_word _ _ is
        codes o RegionReleased (suc p) x is = absurd (cc)
        codes o g p x is = other g p (λ same. absurd (omega (arith, same))) ∙ o.codes g p x is
