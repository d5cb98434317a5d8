-- How values stand in words.
use Rattle.std.specs.Prelude.{ℕ, ◌+◌, ◌*◌, ◌/◌, ◌%◌, Bool, true, false}
use Rattle.omi_numbers.specs.declared.words.TheConstants.{FIRST_NATIVE, WAIT_PLACE}

-- a flag
abbrev pub flag : Bool → ℕ
flag true = 1
flag false = 0

-- the native id of a thread
abbrev pub native_id : ℕ → ℕ
native_id thread = FIRST_NATIVE + thread

-- a state and its wait id
abbrev pub state_word : ℕ → ℕ → ℕ
state_word state wait = state + WAIT_PLACE * wait

-- the state and the wait id in such a word
abbrev pub state_of : ℕ → ℕ
state_of word = word % WAIT_PLACE

abbrev pub wait_of : ℕ → ℕ
wait_of word = word / WAIT_PLACE
