-- Which thread makes each step of a run: the threads in turn, threads by pseudo-random numbers, or the threads of a list.
use Rattle.std.specs.Prelude.{◌<◌, ◌≤◌, ◌≡◌, ℕ, zero, suc, ◌+◌, ◌*◌, ◌/◌, ◌%◌, ◌^◌, nat_lt, if◌then◌else◌, List, [], ◌∷◌, ◌++◌, length, slice_index}
use Rattle.std.specs.List.{All}
use Rattle.omi_core.specs.declared.schedule.Schedule.{Schedule}
use Rattle.omi_core.specs.declared.schedule.Schedule.TheVariants as schedule
use Rattle.omi_core.specs.declared.schedule.TheConstants.{FACTOR, SUMMAND}

-- ---- pseudo-random numbers

abbrev pub next_number : ℕ → ℕ
next_number x = (x * FACTOR + SUMMAND) % 2 ^ 64

-- the number that is drawn for a step, counted from 0. One is drawn before each step
abbrev pub drawn_at : ℕ → ℕ → ℕ
drawn_at seed zero = next_number seed
drawn_at seed (suc step) = next_number (drawn_at seed step)

-- ---- threads

-- the thread that makes a step of a run, counted from 0, where there are so many threads
abbrev pub thread_at : Schedule → ℕ → ℕ → ℕ
thread_at schedule.RoundRobin threads step = step % threads
thread_at (schedule.Seed seed) threads step = drawn_at seed step / 2 ^ 33 % threads
thread_at (schedule.List list) threads step = slice_index list step

-- the threads that make the first steps of a run, in order
abbrev pub threads_by : Schedule → ℕ → ℕ → List ℕ
threads_by how threads zero = []
threads_by how threads (suc steps) = threads_by how threads steps ++ thread_at how threads steps ∷ []

-- a list names a thread for each of so many steps
abbrev pub IsListed : Schedule → ℕ → ℕ → Type 0
IsListed (schedule.List list) threads steps = All (λ i. i < threads) list × (steps ≤ length list)
IsListed how threads steps = Unit {0}

-- ---- what the code draws: the thread in turn, or a pseudo-random number

abbrev pub first_draw : Schedule → ℕ
first_draw (schedule.Seed seed) = next_number seed
first_draw how = 0

abbrev pub next_draw : Schedule → ℕ → ℕ → ℕ
next_draw schedule.RoundRobin threads draw = if nat_lt (draw + 1) threads then draw + 1 else 0
next_draw (schedule.Seed seed) threads draw = next_number draw
next_draw (schedule.List list) threads draw = 0

-- this was drawn for a step
abbrev pub IsDrawn : Schedule → ℕ → ℕ → ℕ → Type 0
IsDrawn schedule.RoundRobin threads step draw = draw ≡ step % threads
IsDrawn (schedule.Seed seed) threads step draw = draw ≡ drawn_at seed step
IsDrawn (schedule.List list) threads step draw = Unit {0}
