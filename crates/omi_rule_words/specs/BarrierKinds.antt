-- Kinds of steps at a barrier: a member arrives, and member 0 releases the barrier.
use Rattle.std.specs.Prelude.{◌≡◌, ℕ, ◌+◌, ◌%◌, ◌^◌, ◌<◌, List, length, sum, Some}
use Rattle.omi_model.specs.declared.limits.TheConstants.{MOST_EVENTS}
use Rattle.omi_model.specs.declared.id.Rid.{Rid}
use Rattle.omi_model.specs.declared.region.Region.{Region}
use Rattle.omi_model.specs.declared.task.Task.{Task}
use Rattle.omi_model.specs.Barriers.{arrived, released}
use Rattle.omi_model.specs.State.{State, region_of}
use Rattle.omi_layout.specs.declared.field.Field.{Field}
use Rattle.omi_layout.specs.declared.field.Field.TheVariants.{RegionArrived, RegionReleased}
use Rattle.omi_layout.specs.Field.{regions}
use Rattle.omi_layout.specs.Memory.{Memory, with_word}
use Rattle.omi_layout.specs.Named.{number}
use Rattle.omi_rule_words.specs.Owes.{Owed}
use Rattle.omi_rule_words.specs.Words.{KeepsWords}

-- the word that the addition of 1 leaves
abbrev pub one_more : ℕ → ℕ
one_more word = (word + 1) % 2 ^ 64

-- the first word of a field in the record of a region, and the memory with this word replaced
abbrev pub word_of_region : Memory → Rid → Field → ℕ
word_of_region m n f = m n.0.creator regions n.0.slot (number f) 0

abbrev pub with_region_word : Memory → Rid → Field → ℕ → Memory
with_region_word m n f word = with_word m n.0.creator regions n.0.slot (number f) 0 word

-- A member arrives: 1 is added to the word for the arrivals of all members
abbrev pub ArrivesKeep : Type 0
ArrivesKeep = (w : List ℕ) (m : Memory) (s : State) (owes : ℕ → Owed) (t : Task) (r : Region)
    → KeepsWords w m s owes → region_of s t.region ≡ Some r → t.number < length r.arrivals
    → sum r.arrivals < MOST_EVENTS
    → KeepsWords w
    (with_region_word m t.region RegionArrived (one_more (word_of_region m t.region RegionArrived)))
    (arrived s t) owes

-- Member 0 releases the barrier: the number of released barriers is stored
abbrev pub ReleasesKeep : Type 0
ReleasesKeep = (w : List ℕ) (m : Memory) (s : State) (owes : ℕ → Owed) (t : Task) (r : Region)
    → KeepsWords w m s owes → region_of s t.region ≡ Some r
    → KeepsWords w (with_region_word m t.region RegionReleased (r.released + 1)) (released s t) owes
