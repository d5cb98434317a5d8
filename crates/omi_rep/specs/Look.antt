-- A plain look at the words of any memory, which may have holes: at one word, at the live object to which a word points, and at one after the other. The first refusal in the order of the reads decides.
use Rattle.std.specs.Prelude.{◌==◌, ◌&&◌, ℕ, ◌/◌, ◌%◌, Bool, nat_lt, List, [], ◌∷◌, map, find, Option, Some, None, Result, Ok, Err, if◌then◌else◌}
use Rattle.std.specs.Option.{option_map_or, option_and_then, ok_or}
use Rattle.std.specs.List.{range_with_len, flat_map, list_any}
use Rattle.omi_numbers.specs.declared.lives.TheConstants.{LIFE_END}
use Rattle.omi_model.specs.declared.id.Id.{Id}
use Rattle.omi_layout.specs.declared.field.Field.{Field}
use Rattle.omi_layout.specs.declared.field.Field.TheVariants.{ThreadLife, RegionLife, TaskLife}
use Rattle.omi_layout.specs.Field.{threads, regions}
use Rattle.omi_layout.specs.Named.{number}
use Rattle.omi_layout.specs.Table.{makers, per_thread}
use Rattle.omi_layout.specs.Place.{slot_address}
use Rattle.omi_word.specs.Words.{Words}
use Rattle.omi_rep.specs.declared.fault.LookFault.{LookFault}
use Rattle.omi_rep.specs.declared.fault.LookFault.TheVariants.{Damaged, Cycle}
use Rattle.omi_rep.specs.Records.{record_at}

-- what a look gives, or the first refusal
abbrev pub Look : Type 0 → Type 0
Look A = Result A LookFault

-- a look, and then another at what it gave
unfoldable pub and_then : {A B : Type 0} → Look A → (A → Look B) → Look B
and_then (Ok x) more = more x
and_then (Err fault) more = Err fault

-- what a look gives, changed
abbrev pub mapped : {A B : Type 0} → (A → B) → Look A → Look B
mapped f look = and_then look (λ x. Ok (f x))

-- a look at each element in order
abbrev pub each : {A B : Type 0} → (A → Look B) → List A → Look (List B)
each look [] = Ok []
each look (x ∷ xs) = and_then (look x) (λ y. mapped (λ ys. y ∷ ys) (each look xs))

-- a look at what is there, if anything is
abbrev pub optional : {A B : Type 0} → (A → Look B) → Option A → Look (Option B)
optional look None = Ok None
optional look (Some x) = mapped (λ y. Some y) (look x)

-- the field that has the life word of a kind of record
abbrev pub life_of : ℕ → Field
life_of kind = if kind == threads then ThreadLife else (if kind == regions then RegionLife else TaskLife)

-- the slots of a kind, in the order of creator and slot
abbrev pub slot_list : List ℕ → ℕ → List (ℕ × ℕ)
slot_list w kind =
    flat_map (λ creator. map (λ slot. (creator, slot)) (range_with_len 0 (per_thread w kind)))
    (range_with_len 0 (makers w kind))

-- the slot of a kind whose record begins at an address
abbrev pub slot_at : List ℕ → ℕ → ℕ → Option (ℕ × ℕ)
slot_at w kind address =
    find (λ at. slot_address w kind at.0 at.1 == address) (slot_list w kind)

-- the life word of a live record: odd and below `LIFE_END`, and 1 for a thread
abbrev pub is_live : ℕ → ℕ → Bool
is_live kind life = if kind == threads then life == 1 else life % 2 == 1 && nat_lt life LIFE_END

-- the address of the record of an object
abbrev pub id_address : List ℕ → ℕ → Id → ℕ
id_address w kind n = slot_address w kind n.creator n.slot

-- the address is among these
abbrev pub was_met : List ℕ → ℕ → Bool
was_met addresses address = list_any (λ met. met == address) addresses

module _ (w : List ℕ) (words : Words) where
  -- a word of the record at an address
  abbrev pub look_word : ℕ → Field → ℕ → Look ℕ
  look_word address f at =
      ok_or (record_at w words address (number f) at)
      (Damaged address (number f))

  -- the live object of a kind whose record begins at an address. Its life word tells its generation
  abbrev pub live_at : ℕ → ℕ → Option Id
  live_at kind address =
      option_and_then (λ at. option_and_then
      (λ life. if is_live kind life
      then Some (record { creator = at.0; slot = at.1; generation = life / 2 }) else None)
      (record_at w words address (number (life_of kind)) 0))
      (slot_at w kind address)

  -- the live object of a kind to which an address that a field holds leads
  abbrev pub lead : ℕ → Field → ℕ → Look Id
  lead kind f pointer =
      ok_or (live_at kind pointer) (Damaged pointer (number f))

  -- the live object of a kind to which a word points
  abbrev pub look_object : ℕ → ℕ → Field → ℕ → Look Id
  look_object kind address f at = and_then (look_word address f at) (lead kind f)

  -- the same of a word that may be 0 for none
  abbrev pub look_optional : ℕ → ℕ → Field → ℕ → Look (Option Id)
  look_optional kind address f at =
      and_then (look_word address f at)
      (λ pointer. if pointer == 0 then Ok None
      else mapped (λ n. Some n) (lead kind f pointer))

  -- the next object of a chain, whose addresses so far are `met`: an address that was met before is refused
  abbrev pub look_onward : ℕ → List ℕ → ℕ → Field → Look (Option Id)
  look_onward kind met address f =
      and_then (look_optional kind address f 0) (λ next.
      option_map_or (λ n. if was_met met (id_address w kind n)
      then Err (Cycle (id_address w kind n)) else Ok (Some n)) next (Ok None))
