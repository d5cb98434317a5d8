-- Over words that show a state, the records of its threads that have begun and of its visible regions and tasks are those of live objects.
use Rattle.std.proofs.Common.{◌≡◌, ◌==◌, ℕ, ◌+◌, ◌*◌, ◌%◌, ◌^◌, ◌<◌, ◌&&◌, Bool, true, List, Some, refl, ap, ◌∙◌, arith, nat_lt}
use Rattle.std.specs.Prelude.{is_some}
use Rattle.std.proofs.lemmas.Bool.Decides.{nat_tests}
use Rattle.omi_word.specs.Words.{Words}
use Rattle.omi_layout.specs.declared.field.Field.TheVariants.{ThreadLife}
use Rattle.omi_layout.specs.Field.{threads, regions, tasks}
use Rattle.omi_layout.specs.Named.{number}
use Rattle.omi_layout.specs.Valid.{IsValid}
use Rattle.omi_model.specs.declared.id.Rid.{Rid}
use Rattle.omi_model.specs.declared.id.Tid.{Tid}
use Rattle.omi_numbers.specs.Words.{flag}
use Rattle.omi_model.specs.State.{State}
use Rattle.omi_model.specs.Visible.{IsVisibleRegion, IsVisibleTask}
use Rattle.omi_model.specs.WellFormed.{HasBegun}
use Rattle.omi_rep.specs.Look.{life_of, slot_at, is_live}
use Rattle.omi_rep.specs.Records.{record_at, thread_address, region_address, task_address}
use Rattle.omi_rep.specs.Shows.{Shows}
use Rattle.omi_rep.proofs.Same.{region_slot, task_slot, region_life, task_life}
use Rattle.omi_rep.specs.ShownLooks.{AreNames}
use Rattle.omi_rep.proofs.Slots.{slot_begins}

-- the record of a live object of a kind begins at this address, with this life word
pub record Lives (w : List ℕ) (memory : Words) (kind address life : ℕ) : Type 0 where
  pub place : is_some (slot_at w kind address) ≡ true
  pub word : record_at w memory address (number (life_of kind)) 0 ≡ Some life
  pub live : is_live kind life ≡ true

-- the life word of a generation of 32 bits is one of a live record
generation_lives : (g : ℕ) → g < 2 ^ 32 → (2 * g + 1) % 2 == 1 && nat_lt (2 * g + 1) (2 ^ 33) ≡ true
generation_lives g low =
    let odd : (2 * g + 1) % 2 ≡ 1 = omega arith in
    let small : 2 * g + 1 < 2 ^ 33 = omega (arith, low) in
    grind (arith, nat_tests)

module _ (w : List ℕ) (memory : Words) (s : State) (valid : IsValid w) (shows : Shows w memory s) where
  pub thread_lives : (i : ℕ) → HasBegun s i → Lives w memory threads (thread_address w i) 1
  thread_lives i is = record {
    place = slot_begins w threads i 0 (record { made_by = omega (arith, is.known, shows.within.count); within = omega arith });
    word = shows.records.lives i is.known ThreadLife 0 _ refl refl ∙ ap (λ (b : Bool). Some (flag b)) is.begun;
    live = refl;
  }

  pub region_lives : AreNames s → (n : Rid) → IsVisibleRegion s n
      → Lives w memory regions (region_address w n) (2 * n.0.generation + 1)
  region_lives names n seen = record {
    place = slot_begins w regions n.0.creator n.0.slot (region_slot w memory valid s shows n seen);
    word = region_life w memory valid s shows n seen;
    live = generation_lives n.0.generation (names.regions n seen);
  }

  pub task_lives : AreNames s → (k : Tid) → IsVisibleTask s k
      → Lives w memory tasks (task_address w k) (2 * k.0.generation + 1)
  task_lives names k seen = record {
    place = slot_begins w tasks k.0.creator k.0.slot (task_slot w memory valid s shows k seen);
    word = task_life w memory valid s shows k seen;
    live = generation_lives k.0.generation (names.tasks k seen);
  }
