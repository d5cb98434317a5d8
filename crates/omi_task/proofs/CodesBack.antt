-- The code of a task tells the task.
use Rattle.std.proofs.Common.{◌≡◌, ℕ, ◌+◌, ◌*◌, ◌/◌, ◌%◌, ◌^◌, ◌<◌, nat_lt, true, List, refl, ap, ap₂, ◌∙◌, arith, if◌then◌else◌}
use Rattle.std.proofs.lemmas.Bool.Decides.{nat_tests}
use Rattle.std.proofs.lemmas.Nat.{div-mul-add, mod-mul-add}
use Rattle.omi_rep.specs.Records.{slot_word}
use Rattle.omi_model.specs.declared.id.Tid.{Tid}
use Rattle.omi_layout.specs.Field.{tasks}
use Rattle.omi_layout.specs.Table.{makers, per_thread}
use Rattle.omi_layout.specs.Valid.{IsValid}
use Rattle.omi_layout.proofs.Arenas.{index_few, tasks_of_valid, threads_of_valid}
use Rattle.omi_pc.specs.declared.place.Place.{Place}
use Rattle.omi_step_words.specs.Placed.{HasTask}
use Rattle.omi_step_words.specs.Words.{initial_place, generation_of, slot_by, used_word}
use Rattle.omi_step_words.proofs.ReadBack.{generations_back}
use Rattle.omi_task.specs.SlotLaws.{CodesAreNotZero, CodesAreReadBack}
use Rattle.omi_task.specs.Slots.{coded_place}

module _ (w : List ℕ) (k : Tid) (valid : IsValid w) (there : HasTask w k) where
  abbrev index : ℕ
  index = k.0.creator * per_thread w tasks + k.0.slot

  abbrev code : ℕ
  code = slot_word w k

  abbrev at : Place
  at = record { creator = k.0.creator; slot = k.0.slot }

  index_low : index < 2 ^ 24
  index_low =
      let few = index_few w tasks k.0.creator k.0.slot (omega arith) (threads_of_valid w valid) (tasks_of_valid w valid) there in omega (arith, few)

  rest : code % 2 ^ 24 ≡ index
  rest = mod-mul-add (used_word k.0) (2 ^ 24) index index_low

  pub life : code / 2 ^ 24 ≡ used_word k.0
  life = div-mul-add (used_word k.0) (2 ^ 24) index index_low

  by_index : slot_by w tasks index ≡ at
  by_index =
      ap₂ {C = Place} (λ a b. record { creator = a; slot = b })
      (div-mul-add k.0.creator (per_thread w tasks) k.0.slot there.within)
      (mod-mul-add k.0.creator (per_thread w tasks) k.0.slot there.within)

  chosen : (x : Place) → x ≡ at → (if nat_lt x.creator (makers w tasks) then x else initial_place) ≡ at
  chosen x same =
      let maker = there.made_by in
      let inside : nat_lt k.0.creator (makers w tasks) ≡ true = grind (arith, nat_tests, maker) in
      rw same (rw inside refl)

  pub place_back : coded_place w code ≡ at
  place_back = chosen (slot_by w tasks (code % 2 ^ 24)) (ap (slot_by w tasks) rest ∙ by_index)

pub codes_back : CodesAreReadBack
codes_back w k valid there low =
    ap₂ (λ (q : Place) (g : ℕ). record { 0 = record { creator = q.creator; slot = q.slot; generation = g } })
    (place_back w k valid there) (ap generation_of (life w k valid there) ∙ generations_back k.0 low)

pub codes_some : CodesAreNotZero
codes_some w k = omega arith
