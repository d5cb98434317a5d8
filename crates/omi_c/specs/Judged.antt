-- What is answered for the words of a layout table.
use Rattle.std.specs.Prelude.{◌≡◌, ◌≢◌, ◌⊎◌, ℕ, List, length}
use Rattle.omi_layout.specs.declared.fault.LayoutFault.{LayoutFault}
use Rattle.omi_layout.specs.declared.limits.TheConstants.{TABLE_WORDS}
use Rattle.omi_layout.specs.Valid.{IsValid, RefusesTable, word_named}
use Rattle.omi_session.specs.declared.rc.Rc.TheVariants.{Incompatible}
use Rattle.omi_session.specs.Rc.{code_of}
use Rattle.omi_session.specs.Opening.{fault_code}
use Rattle.omi_c.specs.declared.answers.Refusal.{Refusal}
use Rattle.omi_c.specs.declared.answers.TheConstants.{OK}
use Rattle.omi_c.specs.declared.judged.Judged.{Judged}

-- why the words of a table are no layout
pub data TableFault : Type 0 where
  -- there are too few or too many
  WrongLength : TableFault
  Refused : LayoutFault → TableFault

abbrev pub IsFaultOf : List ℕ → TableFault → Type 0
IsFaultOf w WrongLength = length w ≢ TABLE_WORDS
IsFaultOf w (Refused fault) = RefusesTable w fault

abbrev pub table_refusal : TableFault → Refusal
table_refusal WrongLength = record { code = code_of Incompatible; place = 0 }
table_refusal (Refused fault) = record { code = code_of (fault_code 0 fault); place = word_named fault }

-- the refusal says why they are none
pub record IsRefusedFor (w : List ℕ) (refusal : Refusal) : Type 0 where
  pub fault : TableFault
  pub is : IsFaultOf w fault
  pub gives : refusal ≡ table_refusal fault

abbrev pub refusal_in : Judged → Refusal
refusal_in table = record { code = table.code; place = table.place }

-- they are a layout, and the table has them
pub record IsLayout (w : List ℕ) (table : Judged) : Type 0 where
  pub valid : IsValid w
  pub code : table.code ≡ OK
  pub place : table.place ≡ 0
  pub words : table.words ≡ w

-- the words of a table were judged
abbrev pub IsJudged : List ℕ → Judged → Type 0
IsJudged w table = IsLayout w table ⊎ IsRefusedFor w (refusal_in table)
