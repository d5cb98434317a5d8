-- The line of a context: its thread with the state of it, or none.
use Rattle.std.specs.Prelude.{ℕ, List, [], ◌∷◌, codes, Option, Some, None}
use Rattle.std.specs.Fmt.{decimal}
use Rattle.omi_model.specs.declared.view.ThreadRow.{ThreadRow}
use Rattle.omi_model.specs.declared.view.ThreadPart.{ThreadPart}
use Rattle.omi_text.specs.Ids.{task_id}
use Rattle.omi_text.specs.Lines.{line, named_value, or_none}
use Rattle.omi_text.specs.Names.{state_text}

-- a thread's state, or that states are not kept
abbrev pub shown_state : Option (ℕ × ℕ) → List ℕ
shown_state None = codes "untracked"
shown_state (Some s) = state_text s.0

-- the wait id that goes with a state, 0 where states are not kept
abbrev pub shown_wait : Option (ℕ × ℕ) → List ℕ
shown_wait None = codes "0"
shown_wait (Some s) = decimal s.1

-- thread I native N state NAME wait W thread-num-var=V current K
unfoldable pub thread_line : ℕ → ThreadPart → List ℕ
thread_line native t = line
    (codes "thread" ∷ decimal t.thread
    ∷ codes "native" ∷ decimal native
    ∷ codes "state" ∷ shown_state t.state
    ∷ codes "wait" ∷ shown_wait t.state
    ∷ named_value (codes "thread-num-var") (or_none decimal t.number)
    ∷ codes "current" ∷ or_none task_id t.current
    ∷ [])

-- native N none, where no thread that has begun has the id
unfoldable pub native_line : ℕ → List ℕ
native_line native = line (codes "native" ∷ decimal native ∷ codes "none" ∷ [])

abbrev pub found_line : ℕ → Option ThreadPart → List ℕ
found_line native None = native_line native
found_line native (Some t) = thread_line native t

abbrev pub context_line : ThreadRow → List ℕ
context_line row = found_line row.native row.found
