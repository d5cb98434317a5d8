-- Words that are asked for in their order, and how a part of an audit ends behind them.
use Rattle.std.specs.Prelude.{◌≡◌, ◌⊎◌, ℕ, List, [], ◌∷◌, Result, Ok, Err}
use Rattle.omi_word.specs.Words.{Words}
use Rattle.omi_calls.specs.Asked.{Asked}
use Rattle.omi_calls.specs.Told.{Told}
use Rattle.omi_session.specs.Reads.{ReadsOr, Answer, Read, Ran, RanSome}
use Rattle.omi_audit.specs.declared.stop.Stop.{Stop}
use Rattle.omi_audit.specs.declared.stop.Stop.TheVariants.{Fails, Fault}
use Rattle.omi_audit.specs.declared.verdict.AuditFault.{AuditFault}
use Rattle.omi_audit.specs.declared.verdict.AuditFault.TheVariants.{Callback, OutOfMemory}

-- the words at these addresses are read, whatever they are, and then this is answered
abbrev pub in_order : {A : Type 0} → List ℕ → A → ReadsOr AuditFault A
in_order [] answer = Answer (Ok answer)
in_order (addr ∷ more) answer = Read addr (λ word. in_order more answer)

abbrev pub read_all : List ℕ → ReadsOr AuditFault (Unit {0})
read_all list = in_order list tt

-- a call asks for these words in their order and for no other, and answers this: for all of them, or up to the one whose read failed. Where memory
-- ran out, it asked for the first of them, or for all
abbrev pub AsksInOrder : {A : Type 0} → Told → Words → List ℕ → A → Asked → Asked → Result A AuditFault → Type 0
AsksInOrder told memory list answer before now result =
    Ran told memory Callback (in_order list answer) before now result
    ⊎ ((result ≡ Err OutOfMemory) × RanSome told memory (in_order list answer) before now)

-- the same of a part of the audit, which says of its end no more than whether it was a fault
abbrev pub AsksOnly : Told → Words → List ℕ → Asked → Asked → Result (Unit {0}) AuditFault → Type 0
AsksOnly told memory list before now result = AsksInOrder told memory list tt before now result

-- how a part of the audit ended: a clause that fails is no fault
abbrev pub stopped_by : Stop → Result (Unit {0}) AuditFault
stopped_by (Fails addr field clause) = Ok tt
stopped_by (Fault fault) = Err fault

abbrev pub ended : {A : Type 0} → Result A Stop → Result (Unit {0}) AuditFault
ended (Ok x) = Ok tt
ended (Err stop) = stopped_by stop
