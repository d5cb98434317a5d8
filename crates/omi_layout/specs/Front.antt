-- The words in front of the records: the symbol table, the entry point words and the layout table, as a layout is published.
use Rattle.std.specs.Prelude.{◌≡◌, ℕ, ◌+◌, ◌-◌, ◌<◌, ◌≤◌, List, [], ◌∷◌, ◌++◌, length, take, drop, replicate, codes, slice_index}
use Rattle.std.specs.Int.{from_le_bytes, w64}
use Rattle.omi_word.specs.Memory.{address_at}
use Rattle.omi_layout.specs.declared.limits.TheConstants.{TABLE_PLACE, TABLE_WORDS, FRONT_WORDS}

-- a name in four words, its bytes from the low end of each word on, filled with zeros
abbrev pub name_words : List ℕ → List ℕ
name_words name =
    let bytes = name ++ replicate (32 - length name) 0 in
    from_le_bytes w64 (take 8 bytes) ∷ from_le_bytes w64 (take 8 (drop 8 bytes))
    ∷ from_le_bytes w64 (take 8 (drop 16 bytes)) ∷ from_le_bytes w64 (drop 24 bytes) ∷ []

-- an entry of the symbol table
abbrev pub symbol : List ℕ → ℕ → List ℕ
symbol name address = name_words name ++ address ∷ []

-- the count of symbols, then the symbols. The first seven names are those of OpenMP 5.0. The breakpoints' addresses are mapped nowhere
abbrev pub symbol_table : List ℕ
symbol_table =
    8 ∷ symbol (codes "ompd_dll_locations") (address_at 41)
    ++ symbol (codes "ompd_bp_parallel_begin") 0x8000
    ++ symbol (codes "ompd_bp_parallel_end") 0x8010
    ++ symbol (codes "ompd_bp_task_begin") 0x8020 ++ symbol (codes "ompd_bp_task_end") 0x8030
    ++ symbol (codes "ompd_bp_thread_begin") 0x8040
    ++ symbol (codes "ompd_bp_thread_end") 0x8050
    ++ symbol (codes "omi_layout") (address_at TABLE_PLACE)

-- the address of an empty list of library locations, and that list: the library is built into the inspector
abbrev pub entry_point : List ℕ
entry_point = address_at 42 ∷ 0 ∷ []

-- the words in front of the layout table
abbrev pub front : List ℕ
front = symbol_table ++ entry_point

-- words are written from a place on, and all others stay
pub record IsWritten (first : ℕ) (words old new : List ℕ) : Type 0 where
  pub count : length new ≡ length old
  pub inside : (i : ℕ) → i < length words → slice_index new (first + i) ≡ slice_index words i
  pub below : (i : ℕ) → i < first → slice_index new i ≡ slice_index old i
  pub behind : (i : ℕ) → first + length words ≤ i → slice_index new i ≡ slice_index old i

-- a layout is published: its table can be read back behind the symbols and the entry point words, and all words behind these stay
pub record IsPublished (table old new : List ℕ) : Type 0 where
  pub count : length new ≡ length old
  pub symbols : (i : ℕ) → i < TABLE_PLACE → slice_index new i ≡ slice_index front i
  pub read_back : (i : ℕ) → i < TABLE_WORDS
      → slice_index new (TABLE_PLACE + i) ≡ slice_index table i
  pub others : (i : ℕ) → FRONT_WORDS ≤ i → slice_index new i ≡ slice_index old i
