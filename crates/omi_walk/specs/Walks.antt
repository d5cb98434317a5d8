-- What a call of a walk answers and reads.
use Rattle.std.specs.Prelude.{◌≡◌, ◌≢◌, ◌⊎◌, ◌++◌, ℕ, List, Result, Ok, Err}
use Rattle.std.specs.BTreeMap.{BTreeMap}
use Rattle.std.specs.List.{flat_map}
use Rattle.omi_word.specs.Words.{Words}
use Rattle.omi_calls.specs.Asked.{Asked}
use Rattle.omi_calls.specs.Told.{Told}
use Rattle.omi_session.specs.Opened.{Opened}
use Rattle.omi_session.specs.Reads.{ReadsOr, Ran, RanSome, answer_on}
use Rattle.omi_session.specs.Tells.{Tells}
use Rattle.omi_walk.specs.declared.fault.WalkFault.{WalkFault}
use Rattle.omi_walk.specs.declared.fault.WalkFault.TheVariants.{Callback, OutOfMemory}
use Rattle.omi_walk.specs.declared.met.Met.{Met}
use Rattle.omi_walk.specs.Index.{HasFirst, AreSmall}

-- a result is the answer of these reads on the words that are told, unless a callback failed or memory ran out
abbrev pub IsWalked : {A : Type 0} → Told → Result A WalkFault → ReadsOr WalkFault A → Type 0
IsWalked told result reads = (memory : Words) → Tells told memory → result ≢ Err Callback
    → result ≢ Err OutOfMemory → result ≡ answer_on memory reads

-- these reads were made over a memory, or memory ran out after some of them
abbrev pub RanInRoom : {A : Type 0} → Told → Words → ReadsOr WalkFault A → Asked → Asked → Result A WalkFault → Type 0
RanInRoom told memory reads before now result =
    Ran told memory Callback reads before now result
    ⊎ ((result ≡ Err OutOfMemory) × RanSome told memory reads before now)

-- a call of a session is these reads on the words that are told: its result, what it asks for, and the read that fails, if one does
pub record Walks {A C F : Type 0} (told : C → Told) (asked : C → Asked) (old new : Opened C F)
    (result : Result A WalkFault) (reads : ReadsOr WalkFault A) : Type 0 where
  pub ran : (memory : Words) → Tells (told old.table.calls) memory
      → RanInRoom (told old.table.calls) memory reads (asked old.table.calls) (asked new.table.calls) result

-- the rows that these reads answer were added to those before
abbrev pub WalksRows : {A C F : Type 0} → (C → Told) → (C → Asked) → Opened C F → Opened C F
    → Result (Unit {0}) WalkFault → List A → List A → ReadsOr WalkFault (List A) → Type 0
WalksRows {A} told asked old new (Ok done) before after reads =
    record {
      rows : List A;
      is : after ≡ before ++ rows;
      walks : Walks told asked old new (Ok rows) reads;
    }
WalksRows {A} told asked old new (Err fault) before after reads =
    Walks {A = List A} told asked old new (Err fault) reads

-- the first of those objects in each slot that these reads answer is in an index
abbrev pub WalksIndex : {C F : Type 0} → (C → Told) → (C → Asked) → Opened C F → Opened C F
    → Result (BTreeMap ℕ Met) WalkFault → ReadsOr WalkFault (List (List Met)) → Type 0
WalksIndex told asked old new (Ok index) reads =
    record {
      met : List (List Met);
      walks : Walks told asked old new (Ok met) reads;
      first : HasFirst index (flat_map (λ chain. chain) met);
      small : AreSmall (flat_map (λ chain. chain) met);
    }
WalksIndex told asked old new (Err fault) reads =
    Walks {A = List (List Met)} told asked old new (Err fault) reads
