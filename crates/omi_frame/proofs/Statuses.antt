-- What a status says of the answer to a command, and so where each refusal's status comes.
use Rattle.std.proofs.Common.{◌≡◌, ◌⊎◌, inl, inr, ℕ, List, Option, Some, None, Ok, Err, sym, ◌∙◌, subst}
use Rattle.std.specs.Prelude.{Result, ⊤}
use Rattle.omi_outside.specs.Outside.{Told}
use Rattle.omi_outside.specs.declared.status.Status.{Status}
use Rattle.omi_outside.specs.declared.status.Status.TheVariants as status
use Rattle.omi_frame.specs.declared.refusal.Refusal.{Refusal}
use Rattle.omi_frame.specs.Left.{IsLeft, IsPartlyDone}
use Rattle.omi_frame.specs.Verb.{Answer, Gives, Verb}
use Rattle.omi_frame.specs.Statuses.{IsDoneOrFailed, IsFaultStatus, ComesWhere}
use Rattle.omi_frame.specs.Refusal.{status_of}

-- an answer writes a core or says a text
abbrev pub DoesMore : Answer → Type 0
DoesMore (Gives None (Err r)) = ⊥
DoesMore answer = ⊤

-- the command had such an answer: its text is put, or the core or the output failed
abbrev pub IsDoneStatus : Status → Type 0
IsDoneStatus status.Success = ⊤
IsDoneStatus status.WriteFault = ⊤
IsDoneStatus other = ⊥

-- there is such an answer, or the command was to write its file
abbrev pub DidMore : Verb → (List ℕ → Told) → Type 0
DidMore v told = ((answer : Answer) × DoesMore answer × v.answers told answer)
    ⊎ ((bytes : List ℕ) × v.is_to_write told bytes)

-- an answer says a refusal with this status
abbrev pub SaysWith : (Answer → Type 0) → Status → Type 0
SaysWith P s = (r : Refusal) × (status_of r ≡ s) × (core : Option (List ℕ)) × P (Gives core (Err r))

-- what is written is more than a refusal, and so is a text
pub written_more : (bytes : List ℕ) (says : Result (List ℕ) Refusal) → DoesMore (Gives (Some bytes) says)
written_more bytes (Ok text) = tt
written_more bytes (Err r) = tt

text_more : (core : Option (List ℕ)) (text : List ℕ) → DoesMore (Gives core (Ok text))
text_more None text = tt
text_more (Some core) text = tt

-- one content is told of a name
pub one_content : (x : Told) (a b : Option (List ℕ)) → x ≡ Some a → x ≡ Some b → a ≡ b
one_content x a b first second = cc

module _ (v : Verb) (told : List ℕ → Told) (old new : Told) (counted : Type 0)
    (out after : Option (List ℕ)) where
  partly_more : IsPartlyDone v told old new out after → DidMore v told
  partly_more (inl ((bytes, is, cut), same)) = inr (bytes, is)
  partly_more (inr (core, text, is, held, cut)) = inl (Gives core (Ok text), text_more core text, is)

  -- a fault, a refusal, or more
  pub kind : (s : Status) → IsLeft v told s old new counted out after
      → IsFaultStatus s ⊎ (SaysWith (λ (answer : Answer). v.answers told answer) s ⊎ (DidMore v told × IsDoneStatus s))
  kind status.Success (core, text, is, held, put) =
      inr (inr (inl (Gives core (Ok text), text_more core text, is), tt))
  kind status.Usage (r, is, core, answer, held, said) = inr (inl (r, is, core, answer))
  kind status.NoFile (r, is, core, answer, held, said) = inr (inl (r, is, core, answer))
  kind status.ReadFault left = inl tt
  kind status.WriteFault left = inr (inr (partly_more left, tt))
  kind status.Script (r, is, core, answer, held, said) = inr (inl (r, is, core, answer))
  kind status.Core (r, is, core, answer, held, said) = inr (inl (r, is, core, answer))
  kind status.Damaged (r, is, core, answer, held, said) = inr (inl (r, is, core, answer))
  kind status.Incompatible (r, is, core, answer, held, said) = inr (inl (r, is, core, answer))
  kind status.OutOfMemory left = inl tt

  -- a command of which no answer is a refusal ends well, or the outside fails
  pub never_refused : ((core : Option (List ℕ)) (r : Refusal) → v.answers told (Gives core (Err r)) → ⊥)
      → (s : Status) → IsLeft v told s old new counted out after → IsDoneOrFailed s
  never_refused none status.Success left = tt
  never_refused none status.ReadFault left = tt
  never_refused none status.WriteFault left = tt
  never_refused none status.OutOfMemory left = tt
  never_refused none status.Usage (r, is, core, answer, held, said) = absurd (none core r answer)
  never_refused none status.NoFile (r, is, core, answer, held, said) = absurd (none core r answer)
  never_refused none status.Script (r, is, core, answer, held, said) = absurd (none core r answer)
  never_refused none status.Core (r, is, core, answer, held, said) = absurd (none core r answer)
  never_refused none status.Damaged (r, is, core, answer, held, said) = absurd (none core r answer)
  never_refused none status.Incompatible (r, is, core, answer, held, said) = absurd (none core r answer)

  -- The status of a refusal comes exactly where a fact holds, where R is what the command's refusals say and M what its other
  -- answers say: a refusal with this status says the fact, and where the fact holds, each refusal has this status and there is no other answer.
  pub comes_where : (R : Refusal → Type 0) (M : Type 0)
      → ((core : Option (List ℕ)) (r : Refusal) → v.answers told (Gives core (Err r)) → R r)
      → (DidMore v told → M)
      → (refused s : Status) (fact : Type 0) → (IsFaultStatus refused → ⊥) → (IsDoneStatus refused → ⊥)
      → ((r : Refusal) → R r → status_of r ≡ refused → fact) → (fact → (r : Refusal) → R r → status_of r ≡ refused) → (fact → M → ⊥)
      → IsLeft v told s old new counted out after → ComesWhere refused s fact
  comes_where R M refusals others refused s fact no_fault no_text says all none left = (from, to)
    where
      from : s ≡ refused → fact
      from is =
          elim (kind refused (subst (λ (x : Status). IsLeft v told x old new counted out after) is left)) [
            | inl fault ↦ absurd (no_fault fault)
            | inr (inl (r, same, core, answer)) ↦ says r (refusals core r answer) same
            | inr (inr gives) ↦ absurd (no_text gives.1)
          ]

      to : fact → (s ≡ refused) ⊎ IsFaultStatus s
      to holds =
          elim (kind s left) [
            | inl fault ↦ inr fault
            | inr (inl (r, same, core, answer)) ↦ inl (sym same ∙ all holds r (refusals core r answer))
            | inr (inr (more, done)) ↦ absurd (none holds (others more))
          ]
