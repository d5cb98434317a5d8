-- What a thread makes by itself of the words that its steps find, one after another: its operations, its actor and its events follow
-- from these words alone.
use Rattle.std.specs.Prelude.{◌≡◌, ℕ, List, [], ◌∷◌, map}
use Rattle.omi_script.specs.declared.program.Program.{Program}
use Rattle.omi_pc.specs.declared.actor.Actor.{Actor}
use Rattle.omi_pc.specs.Opening.{opening_actor}
use Rattle.omi_actor.specs.Steps.{next_of, resumed_at}
use Rattle.omi_core.specs.declared.entry.Entry.{Entry}

-- the step of an actor that finds this word, and the actor behind it
abbrev pub entry_at : Program → List ℕ → Actor → ℕ → Entry
entry_at p w a found =
    record {
      op = next_of p w a;
      old = found;
      outcome = (resumed_at p w a a.counter found).1;
    }

abbrev pub actor_after : Program → List ℕ → Actor → ℕ → Actor
actor_after p w a found = (resumed_at p w a a.counter found).0

-- the steps from an actor on that find these words, and the actor behind them
abbrev pub entries_from : Program → List ℕ → Actor → List ℕ → List Entry
entries_from p w a [] = []
entries_from p w a (n ∷ ns) = entry_at p w a n ∷ entries_from p w (actor_after p w a n) ns

abbrev pub actor_behind : Program → List ℕ → Actor → List ℕ → Actor
actor_behind p w a [] = a
actor_behind p w a (n ∷ ns) = actor_behind p w (actor_after p w a n) ns

-- ---- the steps of a thread

-- the words that steps found
abbrev pub found_by : List Entry → List ℕ
found_by es = map (λ e. e.old) es

-- each step of this thread makes the operation that the thread makes next, behind those before it, and what came of it follows from the
-- word that it found
abbrev pub MakeNext : Program → List ℕ → ℕ → List Entry → Type 0
MakeNext p w thread es = es ≡ entries_from p w (opening_actor p thread) (found_by es)
