-- A line that a command prints whole, or not at all.
use Rattle.std.specs.Prelude.{◌≡◌, ◌⊎◌, ℕ, List, Option, Some, None}
use Rattle.omi_outside.specs.Outside.{put_on, Rose}

-- a sink's count of faults rose, or its count of puts that were refused for want of memory
abbrev pub IsCounted : ℕ → ℕ → ℕ → ℕ → Type 0
IsCounted faults faults_now wants wants_now = Rose faults faults_now ⊎ Rose wants wants_now

-- A line is put whole; or it isn't put at all, and the sink counted why. None is a refusal that prints nothing.
abbrev pub IsSaid : Option (List ℕ) → Type 0 → Option (List ℕ) → Option (List ℕ) → Type 0
IsSaid None counted old new = new ≡ old
IsSaid (Some line) counted old new = (new ≡ put_on old line) ⊎ ((new ≡ old) × counted)
