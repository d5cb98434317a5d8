-- The acknowledgement words: what a worker stores while it runs, when it parks and when it leaves, and what such a word says.
use Rattle.std.specs.Prelude.{◌≡◌, ◌⊎◌, ◌==◌, ◌||◌, ℕ, ◌+◌, ◌*◌, ◌/◌, ◌%◌, Bool}
use Rattle.omi_park.specs.declared.limits.TheConstants.{HALF, LEFT, RUNS}

-- what a worker stores that runs behind so many steps, one that parks in an epoch behind so many, and one that leaves behind so many
abbrev pub running : ℕ → ℕ
running steps = RUNS + steps

abbrev pub acknowledgement : ℕ → ℕ → ℕ
acknowledgement epoch steps = epoch * HALF + steps

abbrev pub farewell : ℕ → ℕ
farewell steps = LEFT + steps

-- an epoch in which the workers are called to stop
abbrev pub IsOdd : ℕ → Type 0
IsOdd epoch = epoch % 2 ≡ 1

-- the word is 0: its worker has not begun, and has made no step
abbrev pub HasNotBegun : ℕ → Type 0
HasNotBegun word = word ≡ 0

-- Its top bit is not set, and the one below it is: its worker runs, and has made as many steps as the lower half says, or more
abbrev pub IsRunning : ℕ → Type 0
IsRunning word = word / RUNS ≡ 1

-- The word's upper half is this odd epoch: its worker is parked, behind as many steps as the lower half says. Only that worker's load of
-- another epoch ends this
abbrev pub IsParkedIn : ℕ → ℕ → Type 0
IsParkedIn epoch word = IsOdd epoch × (word / HALF ≡ epoch)

-- its top bit is set: its worker has left, behind as many steps as the lower half says, for good
abbrev pub HasLeft : ℕ → Type 0
HasLeft word = word / LEFT ≡ 1

-- the worker is parked in this epoch, or has left: the word stays while the epoch does
abbrev pub Stays : ℕ → ℕ → Type 0
Stays epoch word = HasLeft word ⊎ IsParkedIn epoch word

-- the worker makes no step in this epoch: it is parked in it, has left, or has not begun, so that it loads the epoch before its first step
abbrev pub IsStill : ℕ → ℕ → Type 0
IsStill epoch word = HasNotBegun word ⊎ Stays epoch word

-- how many steps the word says
abbrev pub steps_said : ℕ → ℕ
steps_said word = word % HALF

-- whether the word says so, in an odd epoch
abbrev pub is_still : ℕ → ℕ → Bool
is_still epoch word = word == 0 || (word / LEFT == 1 || word / HALF == epoch)
