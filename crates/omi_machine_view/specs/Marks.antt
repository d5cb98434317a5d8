-- Which slots a walk has met: for each slot of each creator a place, with the name of the object that was met there. The places stand in the order of creators and slots.
use Rattle.std.specs.Prelude.{◌≡◌, ℕ, zero, suc, ◌+◌, ◌*◌, ◌<◌, List, [], ◌∷◌, slice_get, Option, Some, None, ◌⊎◌, ⊤}
use Rattle.omi_model.specs.declared.id.Id.{Id}
use Rattle.omi_model.specs.Put.{Slots, named}

-- there is a place for the slot of a name, where there are so many creators of so many slots each
pub record HasPlace (creators width : ℕ) (n : Id) : Type 0 where
  pub creator : n.creator < creators
  pub slot : n.slot < width

-- the place of the slot of a name
abbrev pub place_of : ℕ → Id → ℕ
place_of width n = n.creator * width + n.slot

-- what stands at each place is a name of that place
pub record IsPlaced (creators width place : ℕ) (n : Id) : Type 0 where
  pub has : HasPlace creators width n
  pub there : place_of width n ≡ place

abbrev pub ArePlaced : ℕ → ℕ → List (Option Id) → Type 0
ArePlaced creators width met = (place : ℕ) (n : Id) → slice_get met place ≡ Some (Some n)
    → IsPlaced creators width place n

-- an object was met
abbrev pub WasMet : List (Option Id) → Id → Type 0
WasMet met n = (place : ℕ) × (slice_get met place ≡ Some (Some n))

-- an object was met in the slot of a name
abbrev pub IsMetSlot : List (Option Id) → Id → Type 0
IsMetSlot met n = (m : Id) × WasMet met m × (m.creator ≡ n.creator) × (m.slot ≡ n.slot)

-- the places at which nothing was met
abbrev pub unmet : List (Option Id) → ℕ
unmet [] = 0
unmet (None ∷ places) = suc (unmet places)
unmet (Some n ∷ places) = unmet places

-- each live object has a place
abbrev pub HavePlaces : {A : Type 0} → ℕ → ℕ → Slots A → Type 0
HavePlaces {A} creators width slots = (n : Id) (x : A) → named slots n ≡ Some x
    → HasPlace creators width n

-- A walk stops: there is nothing further on, or what is there is not live, or its slot was met.
abbrev pub Stops : {A : Type 0} → Slots A → List (Option Id) → Option Id → Type 0
Stops slots met None = ⊤
Stops slots met (Some n) = (named slots n ≡ None) ⊎ IsMetSlot met n
