-- What the layers of a top call say alike: what a verb gave, how a call ends, and what a whole call leaves of the outside and for what cause
-- each status comes, by what is seen before and behind.
use Rattle.std.specs.Prelude.{◌≡◌, ◌⊎◌, ◌≤◌, ◌∷◌, ◌++◌, [], codes, ℕ, List, Some, Result, Ok, Err, IfErr, IsErrAnd, IsErrOf}
use Rattle.std.specs.Global.{Vec}
use Rattle.omi_outside.specs.Outside.{HasCause, IsPutCut, Rose, put_on}
use Rattle.omi_outside.specs.declared.status.Status.{Status}
use Rattle.omi_outside.specs.declared.status.Status.TheVariants as status
use Rattle.omi_frame.specs.Left.{IsAnswered, IsLeft}
use Rattle.omi_frame.specs.Refusal.{IsReadFault, Named, refusal_line, status_of}
use Rattle.omi_frame.specs.Said.{IsCounted, IsSaid}
use Rattle.omi_frame.specs.Seen.{SeenFiles, SeenOutput}
use Rattle.omi_frame.specs.Statuses.{IsOfCore, IsPrinting}
use Rattle.omi_frame.specs.Verb.{Verb, Writes, WritesOne, written_name}
use Rattle.omi_frame.specs.declared.refusal.Refusal.{Refusal}
use Rattle.omi_frame.specs.declared.refusal.Refusal.TheVariants as refusal

-- a sink counted between two times why a line isn't put
abbrev pub HasCounted : SeenOutput → SeenOutput → Type 0
HasCounted out out_now = IsCounted out.faults out_now.faults out.wants out_now.wants

-- ---- how a call ends

-- a text was put, whole or in part
pub record IsPrinted (text : List ℕ) (s : Status) (out out_now : SeenOutput) : Type 0 where
  pub status_is : IsPrinting s
  pub success : s ≡ status.Success → out_now.told ≡ put_on out.told text
  pub cut : (s ≡ status.Success) ⊎ IsPutCut text out.told out_now.told
  pub faults : HasCause out.faults out_now.faults (s ≡ status.WriteFault)
  pub wants : HasCause out.wants out_now.wants (s ≡ status.OutOfMemory)

-- the line of a refusal was said
pub record IsToldOf (names : Named) (r : Refusal) (s : Status) (out out_now : SeenOutput) : Type 0 where
  pub status_is : s ≡ status_of r
  pub line : IsSaid (refusal_line names r) (HasCounted out out_now) out.told out_now.told
  pub faults : out.faults ≤ out_now.faults
  pub wants : out.wants ≤ out_now.wants

-- the text of an answer was put, or the line of a refusal said, with this status
abbrev pub IsEnded : Named → Result (Vec ℕ) Refusal → Status → SeenOutput → SeenOutput → Type 0
IsEnded names (Ok text) s out out_now = IsPrinted text.items s out out_now
IsEnded names (Err r) s out out_now = IsToldOf names r s out out_now

-- a call that gave this may end with this status
abbrev pub MayEndWith : Result (Vec ℕ) Refusal → Status → Type 0
MayEndWith (Ok text) s = IsPrinting s
MayEndWith (Err r) s = s ≡ status_of r

-- ---- what a verb gave: its answer where the files that it reads are told, the causes of a fault, what it may refuse, and what stays

pub record Performed (v : Verb) (result : Result (Vec ℕ) Refusal) (files files_now dest dest_now : SeenFiles) : Type 0 where
  pub answer : v.are_told files.told
      → IsAnswered v files.told result (dest.told (written_name v)) (dest_now.told (written_name v))
  pub read : HasCause files.reads files_now.reads (IsErrAnd result IsReadFault)
  pub write : HasCause dest.writes dest_now.writes (IsErrOf result refusal.WriteFault)
  pub written : IsErrOf result refusal.WriteFault → WritesOne v
  pub usage : IsErrOf result refusal.Usage → v.refuses_words
  pub of_core : IfErr result (λ r. IsOfCore (status_of r) → v.refuses_core (status_of r))
  pub unwritten : (s : Status) → MayEndWith result s → v.wrote_nothing s → dest_now.told ≡ dest.told
  pub others : (other : List ℕ) → (Writes v other → ⊥) → dest_now.told other ≡ dest.told other

-- ---- what a call left, and the cause of its status

-- What holds of every call of a program, whatever its words are. A line that isn't put is counted by the sink; memory ran out before anything
-- was put, or the sink counted a put for which there was none; and no count falls. A write of a file may have failed where W holds.
pub record Causes (W : Type 0) (s : Status) (files files_now dest dest_now : SeenFiles) (out out_now : SeenOutput) : Type 0 where
  pub usage_line : s ≡ status.Usage
      → IsSaid (Some (codes "usage" ++ 10 ∷ [])) (HasCounted out out_now) out.told out_now.told
  pub read_fault : s ≡ status.ReadFault → Rose files.reads files_now.reads
  pub write_fault : s ≡ status.WriteFault
      → (W × Rose dest.writes dest_now.writes) ⊎ Rose out.faults out_now.faults
  pub out_of_memory : s ≡ status.OutOfMemory → (out_now.told ≡ out.told) ⊎ Rose out.wants out_now.wants
  pub reads : files.reads ≤ files_now.reads
  pub writes : dest.writes ≤ dest_now.writes
  pub faults : out.faults ≤ out_now.faults
  pub wants : out.wants ≤ out_now.wants

-- what a call of a verb leaves of the file that it writes and of the output, where the files that it reads are told
abbrev pub Leaves : Verb → Status → SeenFiles → SeenFiles → SeenFiles → SeenOutput → SeenOutput → Type 0
Leaves v s files dest dest_now out out_now = v.are_told files.told
    → IsLeft v files.told s (dest.told (written_name v)) (dest_now.told (written_name v))
    (HasCounted out out_now) out.told out_now.told

-- all of this of a call of a verb, and what it may refuse and what stays
pub record Concluded (v : Verb) (s : Status) (files files_now dest dest_now : SeenFiles) (out out_now : SeenOutput) : Type 0 where
  pub of_core : IsOfCore s → v.refuses_core s
  pub usage : s ≡ status.Usage → v.refuses_words
  pub causes : Causes (WritesOne v) s files files_now dest dest_now out out_now
  pub left : Leaves v s files dest dest_now out out_now
  pub unwritten : v.wrote_nothing s → dest_now.told ≡ dest.told
  pub others : (other : List ℕ) → (Writes v other → ⊥) → dest_now.told other ≡ dest.told other
