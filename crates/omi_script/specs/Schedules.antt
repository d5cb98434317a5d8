-- A schedule as one word.
use Rattle.std.specs.Prelude.{ℕ, ◌+◌, ◌*◌, ◌/◌, ◌%◌}
use Rattle.omi_numbers.specs.declared.words.TheConstants.{CHUNK_PLACE}
use Rattle.omi_script.specs.declared.statement.Sched.{Sched}

-- the word of a schedule: its chunk, and behind it its kind
abbrev pub schedule_word : Sched → ℕ
schedule_word s = s.chunk * CHUNK_PLACE + s.kind

-- the kind and the chunk in such a word
abbrev pub kind_in : ℕ → ℕ
kind_in word = word % CHUNK_PLACE

abbrev pub chunk_in : ℕ → ℕ
chunk_in word = word / CHUNK_PLACE
