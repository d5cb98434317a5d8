-- What is seen of the outside at one time: what files and an output tell, and their counts.
use Rattle.std.specs.Prelude.{ℕ, List, Option}
use Rattle.omi_outside.specs.Outside.{Told}

-- files: what is told of each name, and how many reads and writes failed
pub record SeenFiles : Type 0 where
  pub told : List ℕ → Told
  pub reads : ℕ
  pub writes : ℕ

-- an output: what was put, how many puts failed, and how many were refused for want of memory
pub record SeenOutput : Type 0 where
  pub told : Option (List ℕ)
  pub faults : ℕ
  pub wants : ℕ

abbrev pub files_seen : (List ℕ → Told) → ℕ → ℕ → SeenFiles
files_seen told reads writes = record { told = told; reads = reads; writes = writes }

abbrev pub output_seen : Option (List ℕ) → ℕ → ℕ → SeenOutput
output_seen told faults wants = record { told = told; faults = faults; wants = wants }
