-- The regions of the threads that were found, by the slots of their records.
use Rattle.std.specs.Prelude.{◌≡◌, ℕ, List, map, Option, IfSome, Result, Ok, Err}
use Rattle.std.specs.BTreeMap.{BTreeMap, get}
use Rattle.std.specs.List.{All, flat_map, filter_map, range_with_len}
use Rattle.std.specs.Ordering.{nat_cmp}
use Rattle.omi_calls.specs.Told.{Told}
use Rattle.omi_handle.specs.declared.handle.Kind.TheVariants.{Region}
use Rattle.omi_layout.specs.Field.{regions}
use Rattle.omi_layout.specs.Table.{per_thread}
use Rattle.omi_model.specs.declared.id.Id.{Id}
use Rattle.omi_rep.specs.Look.{each}
use Rattle.omi_rep.specs.LookView.{look_regions}
use Rattle.omi_session.specs.Opened.{Opened}
use Rattle.omi_walk.specs.declared.fault.WalkFault.{WalkFault}
use Rattle.omi_walk.specs.declared.met.Met.{Met}
use Rattle.omi_walk.specs.Gives.{Looks}
use Rattle.omi_walk.specs.Index.{slot_key, HasFirst, AreSmall}
use Rattle.omi_walk.specs.Objects.{IsMet, name_in}

-- the regions that the told words have for these threads were met, and of each slot the first is in the index
pub record Indexed {C F : Type 0} (told : C → Told) (s t : Opened C F) (threads : List ℕ)
    (index : BTreeMap ℕ Met) : Type 0 where
  pub met : List Met
  pub chains : List (List Id)
  pub gives : Looks told s (Ok chains) (λ w memory. each (look_regions w memory) threads)
  pub names : map (λ m. m.name) met ≡ flat_map (λ ids. ids) chains
  pub first : HasFirst index met
  pub small : AreSmall met
  pub live : All (IsMet told t Region) met

-- an index of these regions, or the look at them is refused
abbrev pub Indexes : {C F : Type 0} → (C → Told) → Opened C F → Opened C F → List ℕ
    → Result (BTreeMap ℕ Met) WalkFault → Type 0
Indexes told s t threads (Ok index) = Indexed told s t threads index
Indexes told s t threads (Err fault) =
    Looks {A = List (List Id)} told s (Err fault) (λ w memory. each (look_regions w memory) threads)

-- each region of an index lives
abbrev pub AreLive : {C F : Type 0} → (C → Told) → Opened C F → BTreeMap ℕ Met → Type 0
AreLive told s index = (key : ℕ) → IfSome (get nat_cmp index key) (IsMet told s Region)

-- the region that an index has in a slot, and its name
abbrev pub met_in_slot : BTreeMap ℕ Met → ℕ × ℕ → Option Met
met_in_slot index at = get nat_cmp index (slot_key at.0 at.1)

abbrev pub in_slot : BTreeMap ℕ Met → ℕ × ℕ → Option Id
in_slot index at = name_in (get nat_cmp index (slot_key at.0 at.1))

-- the slots of a thread, and the regions that an index has in them
abbrev pub own_slots : List ℕ → ℕ → List (ℕ × ℕ)
own_slots w creator = map (λ slot. (creator, slot)) (range_with_len 0 (per_thread w regions))

abbrev pub in_own_slots : BTreeMap ℕ Met → List ℕ → ℕ → List Id
in_own_slots index w creator = filter_map (in_slot index) (own_slots w creator)
