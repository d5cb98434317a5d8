-- What has been done to a table of handles since it was new, and what must be held then.
use Rattle.std.specs.Prelude.{◌≡◌, ◌≢◌, ◌⊎◌, ℕ, ◌+◌, List, [], ◌∷◌}
use Rattle.std.specs.FinMap.{empty, insert, remove}
use Rattle.omi_handle.specs.declared.handle.Held.{Held}
use Rattle.omi_handle.specs.Ledger.{Ledger}

pub data Deed : Type 0 where
  -- a call of `make` gave this pair
  Made : ℕ × ℕ → Held → Deed
  -- a call of `release` named this pair
  Released : ℕ × ℕ → Deed

-- what the clauses of `make` and `release` say of one deed
abbrev pub Does : Ledger → Deed → Ledger → Type 0
Does old (Made pair h) new =
    (pair.1 ≡ old.made) × (new.made ≡ old.made + 1) × (new.held ≡ insert old.held pair h)
Does old (Released pair) new = (new.made ≡ old.made) × (new.held ≡ remove old.held pair)

-- a new table stands at this ledger after these deeds, of which the latest is first
abbrev pub StandsAt : List Deed → Ledger → Type 0
StandsAt [] ledger = (ledger.held ≡ empty) × (ledger.made ≡ 0)
StandsAt (latest ∷ before) ledger = (old : Ledger) × StandsAt before old × Does old latest ledger

-- the pairs that were given, the latest first
abbrev pub given : List Deed → List (ℕ × ℕ)
given [] = []
given (Made pair h ∷ before) = pair ∷ given before
given (Released pair ∷ before) = given before

-- the pair was given for h, and was not released since
abbrev pub IsUnreleased : List Deed → ℕ × ℕ → Held → Type 0
IsUnreleased [] pair h = ⊥
IsUnreleased (Made other g ∷ before) pair h =
    ((other ≡ pair) × (g ≡ h)) ⊎ IsUnreleased before pair h
IsUnreleased (Released other ∷ before) pair h = (other ≢ pair) × IsUnreleased before pair h
