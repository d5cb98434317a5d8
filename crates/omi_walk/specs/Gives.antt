-- What a walk answers: what a plain look at the told words gives, or its first refusal.
use Rattle.std.specs.Prelude.{◌≡◌, ℕ, List, Result, Ok, Err}
use Rattle.omi_word.specs.Words.{Words}
use Rattle.omi_calls.specs.Told.{Told}
use Rattle.omi_rep.specs.Look.{Look}
use Rattle.omi_rep.specs.declared.fault.LookFault.TheVariants as plain
use Rattle.omi_session.specs.Opened.{Opened}
use Rattle.omi_session.specs.Tells.{Tells}
use Rattle.omi_walk.specs.declared.fault.WalkFault.{WalkFault}
use Rattle.omi_walk.specs.declared.fault.WalkFault.TheVariants.{Damaged, Cycle, Callback, OutOfMemory}

-- the result is what a look gives, unless a callback failed or memory ran out
abbrev pub Gives : {A : Type 0} → Result A WalkFault → Look A → Type 0
Gives (Ok x) look = look ≡ Ok x
Gives (Err (Damaged addr field)) look = look ≡ Err (plain.Damaged addr field)
Gives (Err (Cycle addr)) look = look ≡ Err (plain.Cycle addr)
Gives (Err Callback) look = Unit {0}
Gives (Err OutOfMemory) look = Unit {0}

-- where the callbacks of a session tell their words, the result is what this look at them gives, in the session's layout
unfoldable pub Looks : {A C F : Type 0} → (C → Told) → Opened C F → Result A WalkFault
    → (List ℕ → Words → Look A) → Type 0
Looks told s result look = (memory : Words) → Tells (told s.table.calls) memory
    → Gives result (look s.layout memory)
