-- What a look makes of tasks in words that have each word of the records, as an image does: the look never fails.
use Rattle.std.proofs.Common.{◌≡◌, ◌≤◌, ◌+◌, ◌*◌, ◌==◌, ◌++◌, ℕ, Bool, true, false, cond, List, [], ◌∷◌, length, Some, Ok, refl, ap, ◌∙◌}
use Rattle.std.specs.Prelude.{All}
use Rattle.std.proofs.lemmas.List.Elements.{All-head, All-tail}
use Rattle.omi_layout.specs.Field.{tasks}
use Rattle.omi_layout.specs.Memory.{word_address}
use Rattle.omi_layout.specs.Named.{number}
use Rattle.omi_layout.specs.Place.{IsSlot, image_words}
use Rattle.omi_layout.proofs.Numbers.{numbered_field}
use Rattle.omi_layout.proofs.Stored.{mapped as mapped_word}
use Rattle.omi_layout.specs.Valid.{IsValid}
use Rattle.omi_layout.specs.declared.field.Field.TheVariants.{TaskFunction, TaskLife}
use Rattle.omi_model.specs.declared.id.Tid.{Tid}
use Rattle.omi_rep.specs.Look.{Look, and_then, id_address, look_word, mapped}
use Rattle.omi_rep.specs.Records.{record_at}
use Rattle.omi_rep.proofs.Codes.{wide}
use Rattle.omi_rep.proofs.shown.ReadWords.{word_looked}
use Rattle.omi_commands.specs.Fates.{HasRecords, fate_line, is_current, look_fates}
use Rattle.omi_commands.proofs.FateLines.{fates_on}
use Rattle.omi_word.specs.Words.{Words, words_of}

-- each word of the records is in an image that has the words of the layout
pub image_records : (w words : List ℕ) → IsValid w → image_words w ≤ length words → HasRecords w (words_of words)
image_records w words valid long = λ creator slot f at is.
    (_, mapped_word w valid words creator slot f at long is)

module _ (w : List ℕ) (words : Words) (valid : IsValid w) (records : HasRecords w words) (k : Tid)
    (slot : IsSlot w tasks k.0.creator k.0.slot) where
  -- a word of the task's record
  pub life : (x : ℕ) × (record_at w words (id_address w tasks k.0) (number TaskLife) 0 ≡ Some x)
  unfolding word_address
  life =
      records k.0.creator k.0.slot (number TaskLife) 0
      (record { field = numbered_field TaskLife; record_slot = slot; within = wide w valid (number TaskLife) })

  pub function : (x : ℕ) × (record_at w words (id_address w tasks k.0) (number TaskFunction) 0 ≡ Some x)
  unfolding word_address
  function =
      records k.0.creator k.0.slot (number TaskFunction) 0
      (record { field = numbered_field TaskFunction; record_slot = slot; within = wide w valid (number TaskFunction) })

  -- what is looked up, by the life word
  pub by_life : Bool → Look Bool
  by_life b =
      cond b (mapped (λ (x : ℕ). true) (look_word w words (id_address w tasks k.0) TaskFunction 0)) (Ok false)

  pub found_at : (x : ℕ) → record_at w words (id_address w tasks k.0) (number TaskLife) 0 ≡ Some x
      → is_current w words k ≡ by_life (x == 2 * k.0.generation + 1)
  unfolding and_then by_life
  found_at x is =
      ap (λ (l : Look ℕ). and_then l (λ life. by_life (life == 2 * k.0.generation + 1)))
      (word_looked w words (id_address w tasks k.0) TaskLife 0 x is)

  pub told_current : by_life true ≡ Ok true
  unfolding and_then by_life
  told_current =
      ap (mapped (λ (x : ℕ). true))
      (word_looked w words (id_address w tasks k.0) TaskFunction 0 function.0 function.1)

  pub told_stale : by_life false ≡ Ok false
  unfolding by_life
  told_stale = refl

  decided : (b : Bool) → (c : Bool) × (by_life b ≡ Ok c)
  decided true = (true, told_current)
  decided false = (false, told_stale)

  pub fate_known : (b : Bool) × (is_current w words k ≡ Ok b)
  fate_known =
      let (b, is) = decided (life.0 == 2 * k.0.generation + 1) in (b, found_at life.0 life.1 ∙ is)

-- and so of all of them
pub fates_known : (w : List ℕ) (words : Words) → IsValid w → HasRecords w words → (ks : List Tid)
    → All (λ k. IsSlot w tasks k.0.creator k.0.slot) ks → (text : List ℕ) × (look_fates w words ks ≡ Ok text)
unfolding and_then
fates_known w words valid records [] slots = ([], refl)
fates_known w words valid records (k ∷ ks) slots =
    let P : Tid → Type 0 = λ x. IsSlot w tasks x.0.creator x.0.slot in
    let (b, is) = fate_known w words valid records k (All-head P k ks slots) in
    let (rest, are) = fates_known w words valid records ks (All-tail P k ks slots) in (
      fate_line k b ++ rest,
      fates_on w words k ks
          ∙ ap
          (λ (l : Look Bool). and_then l (λ current. mapped (λ more. fate_line k current ++ more) (look_fates w words ks))) is
          ∙ ap (mapped (λ more. fate_line k b ++ more)) are,
    )
