-- Why a layout isn't given, as a return code.
use Rattle.std.proofs.Common.{◌≡◌, ℕ, ◌<◌, List, Some, refl, ap, arith}
use Rattle.std.proofs.lemmas.Bool.Decides.{nat_tests}
use Rattle.std.specs.Prelude.{codes}
use Rattle.omi_layout.specs.declared.fault.LayoutFault.{LayoutFault}
use Rattle.omi_layout.specs.declared.fault.LayoutFault.TheVariants.{Version, Overlap, OutOfRecord, BadArena}
use Rattle.omi_layout.specs.declared.reading.LayoutError.TheVariants.{Unmapped}
use Rattle.omi_layout.specs.declared.limits.TheConstants.{TABLE_WORDS}
use Rattle.omi_word.specs.Words.{Words}
use Rattle.omi_word.specs.SymbolTable.{symbol_in}
use Rattle.omi_layout.specs.Valid.{word_named}
use Rattle.omi_layout.specs.Valid as valid
use Rattle.omi_session.specs.declared.rc.Rc.{Rc}
use Rattle.omi_session.specs.declared.rc.Rc.TheVariants.{Error, CallbackError}
use Rattle.omi_session.specs.Opening.{Refuses, StopsAt}

-- the word that a fault names is one of the table
pub named_within : (w : List ℕ) (fault : LayoutFault) → valid.RefusesTable w fault → word_named fault < TABLE_WORDS
named_within w (Version v) r = omega arith
named_within w (OutOfRecord f) r = omega (arith, r.is.to)
named_within w (Overlap f g) r = omega (arith, r.second.to)
named_within w (BadArena p) r = grind (arith, nat_tests)

-- a table whose words weren't read gives no layout
pub stopped : (memory : Words) (address : ℕ) → symbol_in memory (codes "omi_layout") ≡ Some address
    → (rc : Rc) → StopsAt memory address rc → Refuses memory rc
stopped memory address symbol (Error addr field) h = λ ne. record {
  error = Unmapped addr;
  gives_none = record { address = address; symbol = symbol; at = h.0.at; within = h.0.within; is = h.0.is; none = h.0.none; before = h.0.before };
  is = ap (Error addr) h.1;
}
stopped memory address symbol CallbackError h = λ ne. absurd (ne refl)
stopped memory address symbol rc h = absurd h
