-- What is listed of the words of a process.
use Rattle.std.specs.Prelude.{◌≡◌, ◌≤◌, ◌⊎◌, ℕ, List, length, Option, Some, None, Result, Ok, Err, ⊤}
use Rattle.omi_calls.specs.Told.{Told}
use Rattle.omi_process.specs.Contexts.{AreContexts}
use Rattle.omi_process.specs.declared.listed.Listed.{Listed}
use Rattle.omi_process.specs.declared.listed.Listed.TheVariants.{Contexts, Threads}
use Rattle.omi_ps.specs.Recorded.{look_recorded}
use Rattle.omi_ps.specs.declared.listing.Listing.{Listing}
use Rattle.omi_rep.specs.Look.{Look, mapped}
use Rattle.omi_rep.specs.LookView.{look_view}
use Rattle.omi_rep.specs.declared.fault.LookFault.{LookFault}
use Rattle.omi_rep.specs.declared.fault.LookFault.TheVariants as plain
use Rattle.omi_session.specs.Opened.{Opened}
use Rattle.omi_session.specs.Tells.{Tells}
use Rattle.omi_walk.specs.declared.fault.WalkFault.{WalkFault}
use Rattle.omi_walk.specs.declared.fault.WalkFault.TheVariants.{Damaged, Cycle, Callback, OutOfMemory}
use Rattle.omi_word.specs.Words.{Words}

module _ (w : List ℕ) (words : Words) where
  -- the report of contexts, and how many other threads the process has, where that is known
  abbrev pub look_listing : List ℕ → Option ℕ → Look Listing
  look_listing contexts others =
      mapped (λ view. record { view = view; others = others }) (look_view w words contexts)

  -- Of the threads that the kernel or a debugger wrote, the contexts are those whose ids are in the records of threads that have begun.
  pub record IsListedAmong (ids : List ℕ) (look : Look Listing) : Type 0 where
    pub recorded : List ℕ
    pub contexts : List ℕ
    pub others : ℕ
    pub read : look_recorded w words ≡ Ok recorded
    pub are : AreContexts (Threads ids) recorded contexts others
    pub is : look ≡ look_listing contexts (Some others)

  -- or a word of these records has a fault
  abbrev pub IsUnread : Look Listing → Type 0
  IsUnread look = (fault : LookFault) × (look_recorded w words ≡ Err fault) × (look ≡ Err fault)

  -- The ids of a note of ours are the contexts, and no other thread is known of.
  abbrev pub IsListing : Listed → Look Listing → Type 0
  IsListing (Contexts ids) look = look ≡ look_listing ids None
  IsListing (Threads ids) look = IsUnread look ⊎ IsListedAmong ids look

-- a note of ours lists 64 ids at most
abbrev pub AreFew : Listed → Type 0
AreFew (Contexts ids) = length ids ≤ 64
AreFew (Threads ids) = ⊤

-- the result is a look of which this holds, unless a callback failed or memory ran out
abbrev pub GivesSome : {A : Type 0} → Result A WalkFault → (Look A → Type 0) → Type 0
GivesSome (Ok x) holds = holds (Ok x)
GivesSome (Err (Damaged addr field)) holds = holds (Err (plain.Damaged addr field))
GivesSome (Err (Cycle addr)) holds = holds (Err (plain.Cycle addr))
GivesSome (Err Callback) holds = ⊤
GivesSome (Err OutOfMemory) holds = ⊤

-- where the callbacks of a session tell their words, the result is what is listed of them, in the session's layout
unfoldable pub Lists : {C F : Type 0} → (C → Told) → Opened C F → Result Listing WalkFault
    → Listed → Type 0
Lists told s result listed = (memory : Words) → Tells (told s.table.calls) memory
    → GivesSome result (IsListing s.layout memory listed)
