-- The layout table: its version; place, size and counts of the arenas; then the offset of each field by number. Places are byte addresses, sizes and offsets are in words.
use Rattle.std.specs.Prelude.{ℕ, ◌==◌, ◌+◌, ◌*◌, List, slice_index, if◌then◌else◌}
use Rattle.omi_numbers.specs.declared.limits.TheConstants.{OWN_SLOTS}
use Rattle.omi_script.specs.declared.limits.TheConstants.{MAX_LOCK, MAX_SIZES}
use Rattle.omi_layout.specs.declared.limits.TheConstants.{GROUP_VERSION, GROUP_WORDS}
use Rattle.omi_layout.specs.Field.{runtime, threads, regions, tasks, locks, team, nth, slots}

abbrev pub version : List ℕ → ℕ
version w = slice_index w 0

-- where in the table the place of an arena stands. Its size stands right behind
abbrev pub place_index : ℕ → ℕ
place_index p =
    if p == runtime then 1
    else (if p == threads then 3
    else (if p == regions then 6
    else 9))

-- the byte address at which an arena begins
abbrev pub place : List ℕ → ℕ → ℕ
place w p = slice_index w (place_index p)

-- the words of one of its records
abbrev pub size : List ℕ → ℕ → ℕ
size w p = slice_index w (place_index p + 1)

abbrev pub thread_count : List ℕ → ℕ
thread_count w = slice_index w 5

-- how many records a thread has there
abbrev pub per_thread : List ℕ → ℕ → ℕ
per_thread w p =
    if p == regions then slice_index w 8
    else (if p == tasks then slice_index w 11
    else 1)

-- how many threads have records there: of the runtime record there is one alone, which counts as thread 0's
abbrev pub makers : List ℕ → ℕ → ℕ
makers w p = if p == runtime then 1 else thread_count w

-- the records of an arena
abbrev pub records : List ℕ → ℕ → ℕ
records w p = if p == runtime then 1 else thread_count w * per_thread w p

-- the words of an arena
abbrev pub extent : List ℕ → ℕ → ℕ
extent w p = records w p * size w p

-- where in the table the offset of a field stands
abbrev pub offset_index : ℕ → ℕ
offset_index f = 11 + f

-- the words in front of a field in its record
abbrev pub offset : List ℕ → ℕ → ℕ
offset w f = slice_index w (offset_index f)

-- the words of the last field: the slots, and from version 2 on the words for groups behind them
abbrev pub slot_words : ℕ → ℕ
slot_words v = if v == GROUP_VERSION then OWN_SLOTS + GROUP_WORDS else OWN_SLOTS

-- the words of a field: the locks, a member of the team for each thread, the elements of nthreads-var and the slots
abbrev pub width : List ℕ → ℕ → ℕ
width w f =
    if f == locks then MAX_LOCK + 1
    else (if f == team then thread_count w
    else (if f == nth then MAX_SIZES
    else (if f == slots then slot_words (version w)
    else 1)))
