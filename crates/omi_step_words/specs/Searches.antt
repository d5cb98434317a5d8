-- The search of a thread for a record that is free: it begins at slot 0 of the thread's own and goes round.
use Rattle.std.specs.Prelude.{ℕ, ◌+◌, nat_lt, List, if◌then◌else◌}
use Rattle.omi_layout.specs.declared.field.Field.{Field}
use Rattle.omi_layout.specs.Table.{per_thread}
use Rattle.omi_rep.specs.declared.outcome.Outcome.{Outcome}
use Rattle.omi_rep.specs.declared.outcome.Outcome.TheVariants as outcome
use Rattle.omi_pc.specs.declared.actor.Actor.{Actor}
use Rattle.omi_pc.specs.declared.place.Place.{Place}
use Rattle.omi_step_words.specs.Words.{is_free, of_place}

-- a slot of this thread
abbrev pub own_place : Actor → ℕ → Place
own_place a slot = record { creator = a.thread; slot = slot }

-- the slot that is looked at next: the first one again behind the last
abbrev pub next_slot : List ℕ → ℕ → ℕ → ℕ
next_slot w kind slot = if nat_lt (slot + 1) (per_thread w kind) then slot + 1 else 0

-- a search goes on where the record is not free
abbrev pub search_outcome : List ℕ → Actor → Field → ℕ → ℕ → Outcome
search_outcome w a life slot old =
    if is_free old then outcome.Quiet
    else outcome.NotReady (of_place w (own_place a slot) life) old
