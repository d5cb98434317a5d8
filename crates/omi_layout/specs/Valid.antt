-- Valid layouts, and the refusals of a table that is none: each at its least field or arena.
use Rattle.std.specs.Prelude.{◌≡◌, ◌==◌, ℕ, ◌+◌, ◌*◌, ◌%◌, ◌<◌, ◌&&◌, ◌||◌, Bool, true, false, not, nat_lt, nat_le, List, length, if◌then◌else◌}
use Rattle.omi_word.specs.declared.limits.TheConstants.{FIRST_ADDRESS}
use Rattle.omi_layout.specs.declared.limits.TheConstants.{TABLE_WORDS, FIRST_VERSION, GROUP_VERSION, MOST_RECORD_WORDS, MOST_THREADS, MOST_REGIONS, MOST_TASKS, LAST_END}
use Rattle.omi_layout.specs.declared.fault.LayoutFault.{LayoutFault}
use Rattle.omi_layout.specs.declared.fault.LayoutFault.TheVariants.{Version, Overlap, OutOfRecord, BadArena}
use Rattle.omi_layout.specs.Field.{IsField, IsKind, kind_of, runtime, threads, regions}
use Rattle.omi_layout.specs.Table.{version, place, size, thread_count, per_thread, extent, offset, width, place_index, offset_index}

-- a version of the layout table
abbrev pub is_known : ℕ → Bool
is_known v = v == FIRST_VERSION || v == GROUP_VERSION

-- the field ends inside its record, and the record isn't too large
abbrev pub is_inside : List ℕ → ℕ → Bool
is_inside w f =
    nat_le (size w (kind_of f)) MOST_RECORD_WORDS
    && nat_le (offset w f + width w f) (size w (kind_of f))

-- two ranges, each by its beginning and its length, have something in common
abbrev pub shares : ℕ → ℕ → ℕ → ℕ → Bool
shares a m b n = (nat_lt 0 m && nat_lt 0 n) && (nat_lt a (b + n) && nat_lt b (a + m))

-- two fields of one record share a word
abbrev pub overlap : List ℕ → ℕ → ℕ → Bool
overlap w f g = kind_of f == kind_of g && shares (offset w f) (width w f) (offset w g) (width w g)

-- a number lies between two others or is one of them
abbrev pub is_between : ℕ → ℕ → ℕ → Bool
is_between low n high = nat_le low n && nat_le n high

-- the count of an arena is in range
abbrev pub is_counted : List ℕ → ℕ → Bool
is_counted w p =
    if p == runtime then true else
    (if p == threads then is_between 1 (thread_count w) MOST_THREADS else
    (if p == regions then is_between 1 (per_thread w p) MOST_REGIONS else
    is_between 1 (per_thread w p) MOST_TASKS))

-- the arena begins at a word, and lies between the first address and the last
abbrev pub is_placed : List ℕ → ℕ → Bool
is_placed w p =
    place w p % 8 == 0
    && (nat_le FIRST_ADDRESS (place w p) && nat_le (place w p + 8 * extent w p) LAST_END)

-- two arenas share a word
abbrev pub arenas_share : List ℕ → ℕ → ℕ → Bool
arenas_share w q p = shares (place w q) (8 * extent w q) (place w p) (8 * extent w p)

-- an arena shares a word with one of lower number
abbrev pub is_taken : List ℕ → ℕ → ℕ → Bool
is_taken w q p = nat_lt q p && arenas_share w q p

-- the arena is in order
abbrev pub is_arena : List ℕ → ℕ → Bool
is_arena w p =
    is_counted w p
    && (is_placed w p
    && (not (is_taken w 1 p) && (not (is_taken w 2 p) && not (is_taken w 3 p))))

-- each field ends inside its record
abbrev pub AllInside : List ℕ → Type 0
AllInside w = (f : ℕ) → IsField f → is_inside w f ≡ true

-- a field overlaps no field of greater number
abbrev pub IsApart : List ℕ → ℕ → Type 0
IsApart w f = (g : ℕ) → IsField g → f < g → overlap w f g ≡ false

-- no two fields overlap
abbrev pub AllApart : List ℕ → Type 0
AllApart w = (f : ℕ) → IsField f → IsApart w f

-- a layout table that is valid
pub record IsValid (w : List ℕ) : Type 0 where
  pub words : length w ≡ TABLE_WORDS
  pub known : is_known (version w) ≡ true
  pub inside : AllInside w
  pub apart : AllApart w
  pub arenas : (p : ℕ) → IsKind p → is_arena w p ≡ true

-- field `f` is the least that doesn't end inside its record
pub record IsOutOfRecord (w : List ℕ) (f : ℕ) : Type 0 where
  pub known : is_known (version w) ≡ true
  pub is : IsField f
  pub out : is_inside w f ≡ false
  pub least : (g : ℕ) → IsField g → g < f → is_inside w g ≡ true

-- `f` is the least field that overlaps a later one, and `g` the least of these
pub record IsOverlap (w : List ℕ) (f g : ℕ) : Type 0 where
  pub known : is_known (version w) ≡ true
  pub inside : AllInside w
  pub first : IsField f
  pub second : IsField g
  pub order : f < g
  pub overlaps : overlap w f g ≡ true
  pub least : (h : ℕ) → IsField h → h < f → IsApart w h
  pub least_other : (h : ℕ) → f < h → h < g → overlap w f h ≡ false

-- arena `p` is the least that isn't in order
pub record IsBadArena (w : List ℕ) (p : ℕ) : Type 0 where
  pub known : is_known (version w) ≡ true
  pub inside : AllInside w
  pub apart : AllApart w
  pub is : IsKind p
  pub bad : is_arena w p ≡ false
  pub least : (q : ℕ) → IsKind q → q < p → is_arena w q ≡ true

-- a table is refused by this fault
abbrev pub RefusesTable : List ℕ → LayoutFault → Type 0
RefusesTable w (Version v) = record { is : v ≡ version w; unknown : is_known (version w) ≡ false }
RefusesTable w (OutOfRecord f) = IsOutOfRecord w f
RefusesTable w (Overlap f g) = IsOverlap w f g
RefusesTable w (BadArena p) = IsBadArena w p

-- the word of the table that a fault names
abbrev pub word_named : LayoutFault → ℕ
word_named (Version v) = 0
word_named (OutOfRecord f) = offset_index f
word_named (Overlap f g) = offset_index g
word_named (BadArena p) = place_index p
