-- When a session opens over the words of a target, and why it doesn't.
use Rattle.std.specs.Prelude.{◌≡◌, ◌≢◌, ◌⊎◌, ◌↔◌, ℕ, zero, suc, ◌<◌, List, [], ◌∷◌, ◌++◌, length, Option, Some, None, Result, Ok, Err, IsSome, codes}
use Rattle.std.specs.Option.{ok_or}
use Rattle.omi_calls.specs.Asked.{Asked, Symbol, asked_after}
use Rattle.omi_calls.specs.Kept.{Kept}
use Rattle.omi_calls.specs.Memory.{usual_sizes}
use Rattle.omi_calls.specs.Told.{Told}
use Rattle.omi_layout.specs.declared.fault.LayoutFault.{LayoutFault}
use Rattle.omi_layout.specs.declared.fault.LayoutFault.TheVariants.{Version, Overlap, OutOfRecord, BadArena}
use Rattle.omi_layout.specs.declared.reading.LayoutError.{LayoutError}
use Rattle.omi_layout.specs.declared.reading.LayoutError.TheVariants.{NoSymbol, Unmapped, Refused}
use Rattle.omi_layout.specs.declared.limits.TheConstants.{TABLE_WORDS}
use Rattle.omi_word.specs.SymbolTable.{symbol_in}
use Rattle.omi_word.specs.Words.{Words}
use Rattle.omi_layout.specs.Given.{GivesLayout}
use Rattle.omi_layout.specs.NoLayout.{GivesNone, table_address}
use Rattle.omi_layout.specs.Valid.{IsValid}
use Rattle.omi_session.specs.declared.rc.Rc.{Rc}
use Rattle.omi_session.specs.declared.rc.Rc.TheVariants.{Error, Incompatible, CallbackError}
use Rattle.omi_session.specs.Reads.{Reads, Answer, Read, Ran, after}
use Rattle.omi_session.specs.Tells.{Tells}

-- the code for a layout table with this fault, which names the word at an address
abbrev pub fault_code : ℕ → LayoutFault → Rc
fault_code addr (Version v) = Incompatible
fault_code addr (Overlap f g) = Error addr 0
fault_code addr (OutOfRecord f) = Error addr 0
fault_code addr (BadArena p) = Error addr 0

-- the code for words that give no layout: there is no symbol, a word of the table isn't mapped, or the table is refused
abbrev pub cause_code : LayoutError → Rc
cause_code NoSymbol = Incompatible
cause_code (Unmapped addr) = Error addr 0
cause_code (Refused addr fault) = fault_code addr fault

-- the words give no layout, and this code says why
pub record IsCause (memory : Words) (rc : Rc) : Type 0 where
  pub error : LayoutError
  pub gives_none : GivesNone memory error
  pub is : rc ≡ cause_code error

-- the words give no layout, and this code says why, unless a callback failed
abbrev pub Refuses : Words → Rc → Type 0
Refuses memory rc = rc ≢ CallbackError → IsCause memory rc

-- the words give another layout than this one, which is valid
pub record IsOther (before : List ℕ) (memory : Words) : Type 0 where
  pub layout : List ℕ
  pub valid : IsValid layout
  pub gives : GivesLayout memory layout
  pub differs : layout ≢ before

-- a session with this layout doesn't go on over the words: they give none, or another
abbrev pub RefusesOver : List ℕ → Words → Rc → Type 0
RefusesOver before memory rc = rc ≢ CallbackError
    → IsCause memory rc ⊎ record { other : IsOther before memory; is : rc ≡ Incompatible }

-- the codes with which opening is refused
abbrev pub IsRefusal : Rc → Type 0
IsRefusal Incompatible = Unit {0}
IsRefusal (Error addr field) = field ≡ 0
IsRefusal CallbackError = Unit {0}
IsRefusal _ = ⊥

-- of the table at this address, this is the first word that isn't mapped
pub record IsHole (memory : Words) (address addr : ℕ) : Type 0 where
  pub at : ℕ
  pub within : at < TABLE_WORDS
  pub is : addr ≡ table_address address at
  pub none : memory addr ≡ None
  pub before : (j : ℕ) → j < at → IsSome (memory (table_address address j))

-- why the words of the table at this address weren't read
abbrev pub StopsAt : Words → ℕ → Rc → Type 0
StopsAt memory address (Error addr field) = IsHole memory address addr × (field ≡ 0)
StopsAt memory address CallbackError = Unit {0}
StopsAt memory address _ = ⊥

-- the next n words of the table at this address, behind these: in rising order, and the first that isn't mapped ends them
unfoldable pub words_behind : ℕ → ℕ → List ℕ → Reads (List ℕ)
words_behind address zero words = Answer (Ok words)
words_behind address (suc n) words =
    Read (table_address address (length words)) (λ found.
    after (ok_or found (Error (table_address address (length words)) 0)) (λ word.
    words_behind address n (words ++ (word ∷ []))))

-- all of them, where there is a table
abbrev pub table_words : Option ℕ → Reads (List ℕ)
table_words None = Answer (Err Incompatible)
table_words (Some address) = words_behind address TABLE_WORDS []

module _ (told : Told) (memory : Words) (before now : Asked) where
  -- the symbol was looked up, and then the words of the table were read at its address
  abbrev pub RanOpening : Result (List ℕ) Rc → Type 0
  RanOpening found =
      ((now ≡ asked_after (Symbol (codes "omi_layout")) before) × (found ≡ Err CallbackError))
      ⊎ Ran told memory CallbackError (table_words (symbol_in memory (codes "omi_layout")))
      (asked_after (Symbol (codes "omi_layout")) before) now found

  -- so it was in a call that failed exactly where one of these did
  pub record IsOpening (Failed : Type 0) : Type 0 where
    pub found : Result (List ℕ) Rc
    pub ran : RanOpening found
    pub failed : Failed ↔ (found ≡ Err CallbackError)

-- what a call that opens asks for: nothing where the sizes of the basic types are others, and else the symbol and the words of its table
pub record Opens {C F : Type 0} (told : C → Told) (asked : C → Asked) (old new : Kept C F) (Failed : Type 0) : Type 0 where
  pub others : (told old.calls).sizes ≢ usual_sizes → asked new.calls ≡ asked old.calls
  pub usual : (memory : Words) → Tells (told old.calls) memory → (told old.calls).sizes ≡ usual_sizes
      → IsOpening (told old.calls) memory (asked old.calls) (asked new.calls) Failed
