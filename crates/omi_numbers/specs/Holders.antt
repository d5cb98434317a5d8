-- Who has claimed a thread and who holds a lock, as words, and the wait id of a lock.
use Rattle.std.specs.Prelude.{ℕ, ◌+◌}

-- the claim word of a thread that this thread has claimed
abbrev pub claimed_word : ℕ → ℕ
claimed_word thread = 2 + thread

-- the word of a lock that this thread holds
abbrev pub holder_word : ℕ → ℕ
holder_word thread = thread + 1

-- the wait id of a thread that waits for a lock
abbrev pub lock_wait : ℕ → ℕ
lock_wait lock = lock + 1
