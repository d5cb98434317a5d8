-- The parts of inquiries are plain looks at the words: they give what the look gives, and are refused where it is.
use Rattle.std.specs.Prelude.{◌≡◌, ℕ, List, Option, Some, None, Result, Ok, Err}
use Rattle.omi_handle.specs.declared.handle.Kind.{Kind}
use Rattle.omi_handle.specs.declared.handle.Held.{Held}
use Rattle.omi_model.specs.declared.id.Id.{Id}
use Rattle.omi_layout.specs.declared.field.Field.{Field}
use Rattle.omi_word.specs.Words.{Words}
use Rattle.omi_rep.specs.declared.fault.LookFault.{LookFault}
use Rattle.omi_rep.specs.declared.fault.LookFault.TheVariants.{Damaged, Cycle}
use Rattle.omi_rep.specs.Look.{Look, look_word, look_object, look_optional}
use Rattle.omi_rep.specs.Look as look
use Rattle.omi_session.specs.declared.rc.Rc.{Rc}
use Rattle.omi_session.specs.declared.rc.Rc.TheVariants.{Unavailable, Error}
use Rattle.omi_session.specs.Named.{record_kind}
use Rattle.omi_session.specs.Reads.{answer_on}
use Rattle.omi_session.specs.Inquiry.{word_of, lead, follow, follow_some}
use Rattle.omi_session.specs.Handles.{name_of}

-- a code is that of the fault of a look
abbrev pub IsFault : Rc → LookFault → Type 0
IsFault rc (Damaged addr field) = rc ≡ Error addr field
IsFault rc (Cycle addr) = ⊥

-- an answer is what a look gives, where a value of the one and of the other are the same
abbrev pub IsLook : {A B : Type 0} → (A → B → Type 0) → Result A Rc → Look B → Type 0
IsLook same (Ok x) (Ok y) = same x y
IsLook same (Ok x) (Err fault) = ⊥
IsLook same (Err rc) (Ok y) = ⊥
IsLook same (Err rc) (Err fault) = IsFault rc fault

-- the object of what is held has this name
abbrev pub IsOf : List ℕ → Held → Id → Type 0
IsOf w h n = name_of w h ≡ Some n

-- the same of a look that may give none: then the answer is Unavailable
abbrev pub IsOptional : List ℕ → Result Held Rc → Look (Option Id) → Type 0
IsOptional w (Ok h) (Ok (Some n)) = IsOf w h n
IsOptional w (Ok h) (Ok None) = ⊥
IsOptional w (Ok h) (Err fault) = ⊥
IsOptional w (Err rc) (Ok (Some n)) = ⊥
IsOptional w (Err rc) (Ok None) = rc ≡ Unavailable
IsOptional w (Err rc) (Err fault) = IsFault rc fault

-- the word of a field
abbrev pub WordIsLooked : Type 0
WordIsLooked = (w : List ℕ) (memory : Words) (address : ℕ) (f : Field) (at : ℕ)
    → IsLook {A = ℕ} {B = ℕ} (λ x y. x ≡ y) (answer_on memory (word_of w address f at))
    (look_word w memory address f at)

-- the object to which an address leads
abbrev pub LeadIsLooked : Type 0
LeadIsLooked = (w : List ℕ) (memory : Words) (kind : Kind) (f : Field) (pointer : ℕ)
    → IsLook (IsOf w) (answer_on memory (lead w kind f pointer))
    (look.lead w memory (record_kind kind) f pointer)

-- the object to which a word points
abbrev pub ObjectIsLooked : Type 0
ObjectIsLooked = (w : List ℕ) (memory : Words) (kind : Kind) (address : ℕ) (f : Field) (at : ℕ)
    → IsLook (IsOf w) (answer_on memory (follow w kind address f at))
    (look_object w memory (record_kind kind) address f at)

-- and one that there may be
abbrev pub OptionalIsLooked : Type 0
OptionalIsLooked = (w : List ℕ) (memory : Words) (kind : Kind) (address : ℕ) (f : Field)
    → IsOptional w (answer_on memory (follow_some w kind address f))
    (look_optional w memory (record_kind kind) address f 0)
