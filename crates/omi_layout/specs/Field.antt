-- The fields of the records: field 1 to 6 are the runtime record's, 7 to 12 a thread's, 13 to 24 a region's, and from 25 on a task's.
use Rattle.std.specs.Prelude.{ℕ, ◌≤◌, nat_lt, if◌then◌else◌}
use Rattle.omi_layout.specs.declared.field.Field.TheVariants.{RuntimeLocks, RegionTeam, TaskNthreads, TaskSlots}
use Rattle.omi_layout.specs.declared.limits.TheConstants.{FIELDS}
use Rattle.omi_layout.specs.Named.{number}

-- the kinds of records. The arena of a kind has the same number
abbrev pub runtime : ℕ
runtime = 1

abbrev pub threads : ℕ
threads = 2

abbrev pub regions : ℕ
regions = 3

abbrev pub tasks : ℕ
tasks = 4

-- the fields that have more than one word
abbrev pub locks : ℕ
locks = number RuntimeLocks

abbrev pub team : ℕ
team = number RegionTeam

abbrev pub nth : ℕ
nth = number TaskNthreads

abbrev pub slots : ℕ
slots = number TaskSlots

-- a field's number
pub record IsField (f : ℕ) : Type 0 where
  pub from : 1 ≤ f
  pub to : f ≤ FIELDS

-- the number of a kind of record
pub record IsKind (p : ℕ) : Type 0 where
  pub from : 1 ≤ p
  pub to : p ≤ 4

-- the kind of record that a field belongs to
abbrev pub kind_of : ℕ → ℕ
kind_of f =
    if nat_lt f 7 then runtime
    else (if nat_lt f 13 then threads
    else (if nat_lt f 25 then regions
    else tasks))
