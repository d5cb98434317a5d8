-- How the reads of a walk are made of those of its inquiries.
use Rattle.std.specs.Prelude.{◌==◌, ◌||◌, ℕ, zero, suc, Bool, false, List, [], ◌∷◌, Option, Some, None, Result, Ok, Err}
use Rattle.std.specs.Option.{option_map, option_map_or}
use Rattle.omi_handle.specs.declared.handle.Held.{Held}
use Rattle.omi_model.specs.declared.id.Id.{Id}
use Rattle.omi_session.specs.declared.rc.Rc.{Rc}
use Rattle.omi_session.specs.Handles.{name_of}
use Rattle.omi_session.specs.Reads.{ReadsOr, Reads, Answer, Read, then_reads}
use Rattle.omi_walk.specs.declared.fault.WalkFault.{WalkFault}
use Rattle.omi_walk.specs.declared.fault.WalkFault.TheVariants.{Cycle}
use Rattle.omi_walk.specs.declared.met.Met.{Met}
use Rattle.omi_walk.specs.Fault.{fault_of, member_fault, absent, untracked}

-- the reads of a walk, which is refused by a fault
abbrev pub Asks : Type 0 → Type 0
Asks A = ReadsOr WalkFault A

-- the same reads with another answer
unfoldable pub answering : {D E A B : Type 0} → (Result A D → Result B E) → ReadsOr D A
    → ReadsOr E B
answering change (Answer result) = Answer (change result)
answering change (Read addr more) = Read addr (λ word. answering change (more word))

-- what reads answer, changed
unfoldable pub with_answer : {E A B : Type 0} → (A → B) → ReadsOr E A → ReadsOr E B
with_answer f reads = then_reads reads (λ x. Answer (Ok (f x)))

-- reads for each element in order
unfoldable pub ask_each : {E A B : Type 0} → (A → ReadsOr E B) → List A → ReadsOr E (List B)
ask_each ask [] = Answer (Ok [])
ask_each ask (x ∷ xs) =
    then_reads (ask x) (λ y. with_answer (λ ys. y ∷ ys) (ask_each ask xs))

-- the answer of an inquiry for an object of which there may be none, and for a state, where the target may keep none
abbrev pub maybe_absent : {A : Type 0} → Option Held → Result A Rc → Result (Option A) WalkFault
maybe_absent found (Ok x) = Ok (Some x)
maybe_absent found (Err rc) = absent found rc

abbrev pub maybe_untracked : {A : Type 0} → Option Held → Result A Rc
    → Result (Option A) WalkFault
maybe_untracked found (Ok x) = Ok (Some x)
maybe_untracked found (Err rc) = untracked found rc

-- and of one for a member of a region
abbrev pub of_member : {A : Type 0} → Option Held → Result A Rc → Result A WalkFault
of_member found (Ok x) = Ok x
of_member found (Err rc) = Err (member_fault found rc)

-- an object that was met, by its name in a layout. Each object that an inquiry finds has one
abbrev pub met : List ℕ → Held → Met
met w h = record {
  name = option_map_or (λ (n : Id). n) (name_of w h) (record { creator = 0; slot = 0; generation = 0 });
  held = h;
}

-- what an inquiry finds, and what it may find
unfoldable pub ask_object : List ℕ → (Result Held Rc → Result Held WalkFault) → Reads Held
    → Asks Met
ask_object w change reads = with_answer (met w) (answering change reads)

unfoldable pub ask_maybe : List ℕ → Option Held → Reads Held → Asks (Option Met)
ask_maybe w found reads = with_answer (option_map (met w)) (answering (maybe_absent found) reads)

-- an address more was met, and none was
abbrev pub also : ℕ → (ℕ → Bool) → ℕ → Bool
also address known other = address == other || known other

abbrev pub none_met : ℕ → Bool
none_met address = false

-- the chain from one object on. What is asked of each gives its row and the next object. `known` are the addresses before it. No address
-- comes twice, so `n`, the number of records, is enough
unfoldable pub ask_chain : {A : Type 0} → ((ℕ → Bool) → Met → Asks (A × Option Met)) → ℕ
    → (ℕ → Bool) → Option Met → Asks (List A)
ask_chain ask n known None = Answer (Ok [])
ask_chain ask zero known (Some m) = Answer (Err (Cycle m.held.addr))
ask_chain ask (suc n) known (Some m) =
    then_reads (ask (also m.held.addr known) m) (λ found.
    with_answer (λ more. found.0 ∷ more)
    (ask_chain ask n (also m.held.addr known) found.1))
