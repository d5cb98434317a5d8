-- What follows of a thread from the words that its steps found, and a thread of a run that made these steps.
use Rattle.std.specs.Prelude.{◌≡◌, ◌<◌, ℕ, ◌++◌, List, [], ◌∷◌, map}
use Rattle.omi_script.specs.declared.program.Program.{Program}
use Rattle.omi_layout.specs.declared.layout.Layout.{Layout}
use Rattle.omi_pc.specs.declared.actor.Actor.{Actor}
use Rattle.omi_pc.specs.Opening.{opening_actor}
use Rattle.omi_core.specs.declared.entry.Entry.{Entry}
use Rattle.omi_core.specs.Found.{actor_behind, entries_from, entry_at}
use Rattle.omi_core.specs.Runs.{actors_in}
use Rattle.omi_core.specs.Steps.{steps_of}
use Rattle.omi_seat.specs.declared.known.Known.{Known}
use Rattle.omi_seat.specs.Claims.{claims_from}

-- its steps, and its actor and its claims behind them
abbrev pub steps_known : Known → List Entry
steps_known x =
    entries_from x.program x.layout.table (opening_actor x.program x.thread) x.found

abbrev pub actor_known : Known → Actor
actor_known x =
    actor_behind x.program x.layout.table (opening_actor x.program x.thread) x.found

abbrev pub claims_known : Known → ℕ
claims_known x = claims_from 0 (steps_known x)

-- the step that finds this word
abbrev pub entry_known : Known → ℕ → Entry
entry_known x n = entry_at x.program x.layout.table (actor_known x) n

-- the steps of one thread, as a list of steps by threads
abbrev pub own_steps : ℕ → List Entry → List (ℕ × Entry)
own_steps thread es = map (λ e. (thread, e)) es

-- a thread before its first step
abbrev pub untouched : Program → Layout → ℕ → Known
untouched p l thread = record { program = p; layout = l; thread = thread; found = [] }

-- one more step found this word
abbrev pub finds : ℕ → Known → Known
finds n x = record x { found = x.found ++ n ∷ [] }

-- a thread of this program in this layout made, among these steps of all, those that are known of it, and has the actor behind them
pub record IsKnown (p : Program) (l : Layout) (entries : List (ℕ × Entry)) (actors : List Actor)
    (x : Known) : Type 0 where
  pub program : x.program ≡ p
  pub layout : x.layout ≡ l
  pub thread : x.thread < p.threads
  pub steps : steps_of x.thread entries ≡ steps_known x
  pub actor : actors_in actors x.thread ≡ actor_known x
