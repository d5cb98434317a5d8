-- The contexts of a report: of the native ids that the core of a process lists, those of threads of OpenMP.
use Rattle.std.specs.Prelude.{◌≡◌, ℕ, ◌==◌, ◌&&◌, Bool, not, List, length}
use Rattle.std.specs.List.{list_any}
use Rattle.std.specs.List.Sorted.{IsStrictlyIncreasing}
use Rattle.omi_process.specs.declared.listed.Listed.{Listed}
use Rattle.omi_process.specs.declared.listed.Listed.TheVariants.{Contexts, Threads}

-- an id is among these
abbrev pub has : List ℕ → ℕ → Bool
has ids id = list_any (λ other. other == id) ids

-- these are just the ids that pass a test. They rise, so each stands there once
pub record AreThose (test : ℕ → Bool) (ids : List ℕ) : Type 0 where
  pub rise : IsStrictlyIncreasing ids
  pub each : (id : ℕ) → has ids id ≡ test id

-- A note of ours lists threads of OpenMP, and no others. Of the threads that the kernel or a debugger wrote, those are of OpenMP whose ids are
-- recorded: the record of a thread that has begun has the id. The others are counted, each id once.
abbrev pub AreContexts : Listed → List ℕ → List ℕ → ℕ → Type 0
AreContexts (Contexts ids) recorded contexts others = (contexts ≡ ids) × (others ≡ 0)
AreContexts (Threads ids) recorded contexts others =
    AreThose (λ id. has ids id && has recorded id) contexts
    × ((rest : List ℕ) × AreThose (λ id. has ids id && not (has recorded id)) rest × (others ≡ length rest))
