-- The families of layouts, in either version: in each record the fields stand in their order turned by some fields, with a gap in front and maybe one behind; the arenas stand one right after the other behind the tables, in one order or the other.
use Rattle.std.specs.Prelude.{◌≡◌, ◌==◌, ℕ, ◌+◌, ◌-◌, ◌*◌, ◌%◌, List, length, nat_le, if◌then◌else◌}
use Rattle.omi_script.specs.declared.limits.TheConstants.{MAX_LOCK, MAX_SIZES}
use Rattle.omi_word.specs.Memory.{address_at}
use Rattle.omi_layout.specs.declared.limits.TheConstants.{FIELDS, FRONT_WORDS, GROUP_VERSION, TABLE_WORDS, FAMILY_REGIONS, FAMILY_TASKS}
use Rattle.omi_layout.specs.Field.{IsField, IsKind, kind_of, runtime, threads, regions, tasks, nth, slots}
use Rattle.omi_layout.specs.Table.{version, place, size, thread_count, per_thread, offset, slot_words}

-- the first field of a record
abbrev pub first_field : ℕ → ℕ
first_field p =
    if p == runtime then 1
    else (if p == threads then 7
    else (if p == regions then 13
    else 25))

-- how many fields a record has
abbrev pub field_count : ℕ → ℕ
field_count p =
    if p == runtime then 6
    else (if p == threads then 6
    else (if p == regions then 12
    else (FIELDS + 1) - first_field tasks))

-- the words of all fields of a record, by the version of the table
abbrev pub field_words : ℕ → ℕ → ℕ → ℕ
field_words v t p =
    if p == runtime then 5 + (MAX_LOCK + 1)
    else (if p == threads then 6
    else (if p == regions then 11 + t
    else (nth - first_field tasks) + (MAX_SIZES + slot_words v)))

-- the words of the fields in front of a field in the listed order: of these only nthreads-var, right in front of the slots, has more than one
abbrev pub words_before : ℕ → ℕ
words_before f = if f == slots then (nth - first_field tasks) + MAX_SIZES else f - first_field (kind_of f)

-- the field that stands first in its record in family `k`
abbrev pub turned_first : ℕ → ℕ → ℕ
turned_first k p = first_field p + k % field_count p

-- the words of family `k` in front of a field: the gap, and the fields from the first one on; the fields listed before that one stand behind all others
abbrev pub family_offset : ℕ → ℕ → ℕ → ℕ → ℕ
family_offset v k t f =
    let first = turned_first k (kind_of f) in
    k % 3 + (if nat_le first f then words_before f - words_before first
    else (field_words v t (kind_of f) - words_before first) + words_before f)

-- the words of a record
abbrev pub family_size : ℕ → ℕ → ℕ → ℕ → ℕ
family_size v k t p = (k % 3 + field_words v t p) + k % 2

-- the records of a thread
abbrev pub family_count : ℕ → ℕ → ℕ
family_count t p =
    if p == runtime then 1
    else (if p == threads then t
    else (if p == regions then t * FAMILY_REGIONS
    else t * FAMILY_TASKS))

-- the words of an arena
abbrev pub family_extent : ℕ → ℕ → ℕ → ℕ → ℕ
family_extent v k t p = family_count t p * family_size v k t p

-- the words of the arenas of lower number
abbrev pub extents_before : ℕ → ℕ → ℕ → ℕ → ℕ
extents_before v k t p =
    if p == runtime then 0
    else (if p == threads then family_extent v k t 1
    else (if p == regions then family_extent v k t 1 + family_extent v k t 2
    else (family_extent v k t 1 + family_extent v k t 2) + family_extent v k t 3))

-- the words of the arenas of greater number
abbrev pub extents_behind : ℕ → ℕ → ℕ → ℕ → ℕ
extents_behind v k t p =
    if p == runtime then (family_extent v k t 4 + family_extent v k t 3) + family_extent v k t 2
    else (if p == threads then family_extent v k t 4 + family_extent v k t 3
    else (if p == regions then family_extent v k t 4
    else 0))

-- where an arena begins: even families have runtime, threads, regions and tasks in this order, odd ones in the opposite order
abbrev pub family_place : ℕ → ℕ → ℕ → ℕ → ℕ
family_place v k t p =
    address_at (FRONT_WORDS + (if k % 2 == 0 then extents_before v k t p else extents_behind v k t p))

-- a table of this version is that of family `k` with this many threads
pub record IsFamilyOf (v k t : ℕ) (w : List ℕ) : Type 0 where
  pub words : length w ≡ TABLE_WORDS
  pub known : version w ≡ v
  pub threads : thread_count w ≡ t
  pub regions : per_thread w regions ≡ FAMILY_REGIONS
  pub tasks : per_thread w tasks ≡ FAMILY_TASKS
  pub places : (p : ℕ) → IsKind p → place w p ≡ family_place v k t p
  pub sizes : (p : ℕ) → IsKind p → size w p ≡ family_size v k t p
  pub offsets : (f : ℕ) → IsField f → offset w f ≡ family_offset v k t f

-- so is one of the version with words for groups
abbrev pub IsFamily : ℕ → ℕ → List ℕ → Type 0
IsFamily k t w = IsFamilyOf GROUP_VERSION k t w
