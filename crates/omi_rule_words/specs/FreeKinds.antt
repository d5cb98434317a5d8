-- Kinds of steps that give records back: references are lowered, a task that lost its last one is given back, and so are the records of
-- a region that is joined.
use Rattle.std.specs.Prelude.{◌≡◌, ◌≢◌, ℕ, ◌+◌, ◌*◌, ◌^◌, ◌<◌, ◌==◌, ◌&&◌, false, true, List, Option, Some, None, if◌then◌else◌}
use Rattle.omi_model.specs.declared.freeable.Freeable.{Freeable}
use Rattle.omi_model.specs.declared.id.Id.{Id}
use Rattle.omi_model.specs.declared.id.Rid.{Rid}
use Rattle.omi_model.specs.declared.id.Tid.{Tid}
use Rattle.omi_model.specs.declared.progress.Progress.TheVariants.{Deferred}
use Rattle.omi_model.specs.declared.region.Region.{Region}
use Rattle.omi_model.specs.declared.task.Task.{Task}
use Rattle.omi_model.specs.Barriers.{HasNoExplicit}
use Rattle.omi_model.specs.Freeing.{HasNoChild, IsSpent, MayFreeMember, MayFreeRegion, freed, region_freed}
use Rattle.omi_model.specs.LawNames.{AreNamesLive}
use Rattle.omi_model.specs.State.{State, region_of, task_of}
use Rattle.omi_layout.specs.declared.field.Field.TheVariants.{RegionLife, RegionPending, TaskLife, TaskReferences}
use Rattle.omi_layout.specs.Field.{regions, tasks}
use Rattle.omi_layout.specs.Memory.{Memory, replace_at, with_word}
use Rattle.omi_layout.specs.Named.{number}
use Rattle.omi_pc.specs.declared.place.Place.{Place}
use Rattle.omi_rep.specs.Shows.{IsWithin}
use Rattle.omi_rule_words.specs.Owes.{Owed, nothing}
use Rattle.omi_rule_words.specs.Counts.{is_at, is_explicit}
use Rattle.omi_rule_words.specs.Words.{KeepsWords}
use Rattle.omi_rule_words.specs.BarrierKinds.{word_of_region}
use Rattle.omi_rule_words.specs.CountKinds.{one_less, with_task_word, word_of_task}

-- ---- references are lowered

-- an explicit task is to be given back where its last reference was lowered
abbrev pub given_at : Tid → Task → ℕ → Option Tid
given_at k t word = if is_explicit t && word == 1 then Some k else None

-- 1 is subtracted from a finished task's own word for references
abbrev pub OwnSubtractsKeep : Type 0
OwnSubtractsKeep = (w : List ℕ) (m : Memory) (s : State) (owes : ℕ → Owed) (i : ℕ) (n : Rid) (k : Tid)
    (t : Task) → KeepsWords w m s owes → i < s.count
    → owes i ≡ record nothing { pending = Some n; own = Some k } → task_of s k ≡ Some t
    → word_of_task m k TaskReferences < 2 ^ 64
    → KeepsWords w
    (with_task_word m k TaskReferences (one_less (word_of_task m k TaskReferences))) s
    (replace_at owes i
    (record nothing { pending = Some n; gives = given_at k t (word_of_task m k TaskReferences) }))

-- 1 is subtracted from the word for references of the task that generated one which was given back
abbrev pub ReturnedSubtractsKeep : Type 0
ReturnedSubtractsKeep = (w : List ℕ) (m : Memory) (s : State) (owes : ℕ → Owed) (i : ℕ) (n : Rid)
    (at : Place) (k : Tid) (t : Task) → KeepsWords w m s owes → IsWithin w s → i < s.count
    → owes i ≡ record nothing { pending = Some n; returned = Some at } → task_of s k ≡ Some t
    → is_at k at ≡ true → word_of_task m k TaskReferences < 2 ^ 64
    → KeepsWords w
    (with_task_word m k TaskReferences (one_less (word_of_task m k TaskReferences))) s
    (replace_at owes i
    (record nothing { pending = Some n; gives = given_at k t (word_of_task m k TaskReferences) }))

-- ---- records are given back

-- the life word of a record that is given back
abbrev pub emptied_life : Id → ℕ
emptied_life n = 2 * n.generation + 2

abbrev pub with_task_emptied : Memory → Tid → Memory
with_task_emptied m k =
    with_word m k.0.creator tasks k.0.slot (number TaskLife) 0 (emptied_life k.0)

abbrev pub with_region_emptied : Memory → Rid → Memory
with_region_emptied m n =
    with_word m n.0.creator regions n.0.slot (number RegionLife) 0 (emptied_life n.0)

-- A thread that is to give an explicit task back does so, which another task of the region generated: it owes a reference of that one
-- from then on. No thread has raised a word of the task for one in the making
abbrev pub TaskFreesKeep : Type 0
TaskFreesKeep = (w : List ℕ) (m : Memory) (s : State) (owes : ℕ → Owed) (i : ℕ) (n : Rid) (task g : Tid)
    (old above : Task) (at : Place) (next : Option Freeable) (k : Tid) (t : Task)
    → KeepsWords w m s owes → IsWithin w s → AreNamesLive s → i < s.count
    → owes i ≡ record nothing { pending = Some n; gives = Some task }
    → IsSpent s task old → old.implicit ≡ false → old.generating ≡ Some g
    → task_of s g ≡ Some above → above.region ≡ old.region → is_at g at ≡ true
    → ((j : ℕ) → j < s.count → (owes j).raised ≢ Some task)
    → task_of s k ≡ Some t → k ≢ task
    → KeepsWords w (with_task_emptied m task) (freed s task next k t)
    (replace_at owes i (record nothing { pending = Some n; returned = Some at }))

-- no thread owes on a task
pub record IsOwedNothing (s : State) (owes : ℕ → Owed) (k : Tid) : Type 0 where
  pub raised : (j : ℕ) → j < s.count → (owes j).raised ≢ Some k
  pub referred : (j : ℕ) → j < s.count → (owes j).referred ≢ Some k
  pub returned : (j : ℕ) (p : Place) → j < s.count → (owes j).returned ≡ Some p → is_at k p ≡ false

-- no implicit task is deferred
abbrev pub AreImplicitUndeferred : State → Type 0
AreImplicitUndeferred s =
    (k : Tid) (t : Task) → task_of s k ≡ Some t → t.implicit ≡ true → t.progress ≡ Deferred → ⊥

-- The task of a member is given back, of a region that is over
abbrev pub MemberFreesKeep : Type 0
MemberFreesKeep = (w : List ℕ) (m : Memory) (s : State) (owes : ℕ → Owed) (task : Tid) (n : Rid)
    (member : ℕ) (next : Option Freeable) (k : Tid) (t : Task)
    → KeepsWords w m s owes → IsWithin w s → AreImplicitUndeferred s
    → MayFreeMember s task n member → IsOwedNothing s owes task
    → KeepsWords w (with_task_emptied m task) (freed s task next k t) owes

-- and so is the region, on whose words no thread owes
abbrev pub RegionFreesKeep : Type 0
RegionFreesKeep = (w : List ℕ) (m : Memory) (s : State) (owes : ℕ → Owed) (n : Rid) (member : ℕ)
    → KeepsWords w m s owes → MayFreeRegion s n n member
    → ((j : ℕ) → j < s.count → (owes j).pending ≢ Some n)
    → ((j : ℕ) → j < s.count → (owes j).left ≢ Some n)
    → KeepsWords w (with_region_emptied m n) (region_freed s n) owes

-- ---- what is gone where a word is 0

-- no explicit child of a task lives that a thread is to give back
abbrev pub GivenHaveNoChild : Type 0
GivenHaveNoChild = (w : List ℕ) (m : Memory) (s : State) (owes : ℕ → Owed) (i : ℕ) (k : Tid)
    → KeepsWords w m s owes → IsWithin w s → i < s.count → (owes i).gives ≡ Some k → HasNoChild s k

-- an explicit task stands in the region of the task that generated it, and runs a smaller function
abbrev pub DescendsInRegion : State → Type 0
DescendsInRegion s = (k g : Tid) (t u : Task) → task_of s k ≡ Some t → t.implicit ≡ false
    → t.generating ≡ Some g → task_of s g ≡ Some u → (t.region ≡ u.region) × (t.function < u.function)

-- Where a region's word for unfinished explicit tasks is 0, no explicit task of the region lives: one of the smallest function would
-- have no reference, so a thread would owe to give it back, and on the region
abbrev pub AllTasksGone : Type 0
AllTasksGone = (w : List ℕ) (m : Memory) (s : State) (owes : ℕ → Owed) (n : Rid) (r : Region)
    → KeepsWords w m s owes → IsWithin w s → DescendsInRegion s → region_of s n ≡ Some r
    → word_of_region m n RegionPending ≡ 0 → HasNoExplicit s n
