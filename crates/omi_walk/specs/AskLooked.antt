-- The walk is the plain look at the words: what its reads answer is what the look gives, with the same refusal.
use Rattle.std.specs.Prelude.{◌≡◌, ℕ, List, Result, Ok, Err}
use Rattle.omi_layout.specs.Valid.{IsValid}
use Rattle.omi_word.specs.Words.{Words}
use Rattle.omi_rep.specs.declared.fault.LookFault.{LookFault}
use Rattle.omi_rep.specs.declared.fault.LookFault.TheVariants as plain
use Rattle.omi_rep.specs.Look.{Look}
use Rattle.omi_rep.specs.LookView.{look_view}
use Rattle.omi_session.specs.Reads.{answer_on}
use Rattle.omi_walk.specs.declared.fault.WalkFault.{WalkFault}
use Rattle.omi_walk.specs.declared.fault.WalkFault.TheVariants.{Damaged, Cycle}
use Rattle.omi_walk.specs.AskView.{ask_view}

-- a fault of a look, as one of a walk
abbrev pub as_fault : LookFault → WalkFault
as_fault (plain.Damaged addr field) = Damaged addr field
as_fault (plain.Cycle addr) = Cycle addr

abbrev pub as_walked : {A : Type 0} → Look A → Result A WalkFault
as_walked (Ok x) = Ok x
as_walked (Err fault) = Err (as_fault fault)

-- over any words, in a valid layout, for any contexts
abbrev pub WalkIsLooked : Type 0
WalkIsLooked = (w : List ℕ) (memory : Words) (contexts : List ℕ) → IsValid w
    → answer_on memory (ask_view w contexts) ≡ as_walked (look_view w memory contexts)
