-- What an audit promises: what its verdict is, which records are reached, that Yes gives a state that the words show, and that a state which a
-- workload can reach is never refused.
use Rattle.std.specs.Prelude.{◌≡◌, ◌↔◌, ℕ, ◌++◌, List, Contains, Result, IfOk}
use Rattle.std.specs.List.{flat_map}
use Rattle.omi_script.specs.declared.program.Program.{Program}
use Rattle.omi_model.specs.declared.event.Event.{Event}
use Rattle.omi_model.specs.Reached.{Reached}
use Rattle.omi_model.specs.State.{State}
use Rattle.omi_word.specs.Words.{Words}
use Rattle.omi_layout.specs.Given.{GivesLayout}
use Rattle.omi_layout.specs.Valid.{IsValid}
use Rattle.omi_calls.specs.Asked.{Asked}
use Rattle.omi_calls.specs.Told.{Told}
use Rattle.omi_rep.specs.ShownLooks.{AreNames}
use Rattle.omi_rep.specs.Shows.{Shows}
use Rattle.omi_session.specs.Opened.{Opened}
use Rattle.omi_session.specs.Tells.{Tells}
use Rattle.omi_audit.specs.declared.verdict.AuditFault.{AuditFault}
use Rattle.omi_audit.specs.declared.verdict.Verdict.{Verdict}
use Rattle.omi_audit.specs.declared.verdict.Verdict.TheVariants.{Yes, No}
use Rattle.omi_audit.specs.InOrder.{AsksInOrder}
use Rattle.omi_audit.specs.Listed.{asked_words}
use Rattle.omi_audit.specs.Verdicts.{verdict}
use Rattle.omi_audit.specs.Search.{first_ones, current_tasks, named_by, reached}

-- ---- the verdict

-- this holds of the verdict, where there is one, over the words that the callbacks tell
abbrev pub OverTold : {C F : Type 0} → (C → Told) → Opened C F → Result Verdict AuditFault
    → (Words → Verdict → Type 0) → Type 0
OverTold told s result Holds = (memory : Words) → Tells (told s.table.calls) memory
    → IfOk result (Holds memory)

-- the audit asks for these words and for no other, in their order, and answers the verdict, over the words that the callbacks tell: for all of them, or up
-- to the one whose read failed. Where memory ran out, it asked for the first of them, or for all
abbrev pub ReadsInOrder : {C F : Type 0} → (C → Told) → (C → Asked) → Opened C F → Opened C F
    → Result Verdict AuditFault → Type 0
ReadsInOrder told asked old new result = (memory : Words) → Tells (told old.table.calls) memory
    → AsksInOrder (told old.table.calls) memory (asked_words old.layout memory) (verdict old.layout memory)
    (asked old.table.calls) (asked new.table.calls) result

-- ---- the records that are reached

-- the least set that has the current task of each thread that has begun, and with a record those that it names
pub data IsReached (w : List ℕ) (words : Words) : ℕ → Type 0 where
  Current : (address : ℕ) → Contains (current_tasks w words) address → IsReached w words address
  Named : (by address : ℕ) → IsReached w words by → Contains (named_by w words by) address
      → IsReached w words address

-- the search meets these and no others
abbrev pub SearchIsWhole : Type 0
SearchIsWhole = (w : List ℕ) (words : Words) (address : ℕ) → IsValid w
    → Contains (reached w words) address ↔ IsReached w words address

-- and meets them breadth-first: those that the threads name, and then those that each of these records names in its turn, each where it comes first
abbrev pub SearchIsBreadthFirst : Type 0
SearchIsBreadthFirst = (w : List ℕ) (words : Words) → IsValid w
    → reached w words ≡ first_ones (current_tasks w words ++ flat_map (named_by w words) (reached w words))

-- ---- states

-- the words show a state, which is well-formed
pub record ShowSome (w : List ℕ) (words : Words) : Type 0 where
  pub state : State
  pub names : AreNames state
  pub shows : Shows w words state

-- the words show a state that a workload reaches
pub record ShowReached (w : List ℕ) (words : Words) : Type 0 where
  pub program : Program
  pub events : List (ℕ × Event)
  pub state : State
  pub reached : Reached program events state
  pub shows : Shows w words state

-- where the verdict on words that give this layout is Yes, they show a state
abbrev pub GivesState : List ℕ → Words → Verdict → Type 0
GivesState w words (Yes records) = GivesLayout words w → ShowSome w words
GivesState w words (No addr field clause) = Unit {0}

-- where the words show a state that a workload reaches, the verdict is Yes
abbrev pub RefusesNoReached : List ℕ → Words → Verdict → Type 0
RefusesNoReached w words (Yes records) = Unit {0}
RefusesNoReached w words (No addr field clause) = ShowReached w words → ⊥

-- so it is of the verdict on any words
abbrev pub VerdictsGiveStates : Type 0
VerdictsGiveStates = (w : List ℕ) (words : Words) → IsValid w → GivesState w words (verdict w words)

abbrev pub VerdictsRefuseNoReached : Type 0
VerdictsRefuseNoReached = (w : List ℕ) (words : Words) → IsValid w
    → RefusesNoReached w words (verdict w words)
