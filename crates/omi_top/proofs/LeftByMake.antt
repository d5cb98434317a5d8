-- What the clauses of the top call say of `make`, from what it leaves.
use Rattle.std.proofs.Common.{◌≡◌, inl, inr, ℕ, List, Option, Some, None, Err, subst}
use Rattle.omi_outside.specs.Outside.{Told, holding, put_on}
use Rattle.omi_outside.specs.declared.status.Status.{Status}
use Rattle.omi_outside.specs.declared.status.Status.TheVariants as status
use Rattle.omi_script.specs.Grammar.{Grammar}
use Rattle.omi_script.specs.declared.program.Program.{Program}
use Rattle.omi_frame.specs.Verb.{Gives}
use Rattle.omi_frame.specs.Left.{IsLeft, IsRefused}
use Rattle.omi_top.specs.Command.{Make}
use Rattle.omi_top.specs.Make.{IsMade, make_text}
use Rattle.omi_frame.specs.declared.refusal.Refusal.{Refusal}
use Rattle.omi_top.specs.CommandVerbs.{AreTold, verb_of}
use Rattle.omi_top.specs.verbs.Make.{IsMakeAnswer, IsWritingStatus, MakePromise}

-- it is refused nothing
never_refused : (n : ℕ) (written : Option (List ℕ)) (r : Refusal) → IsMakeAnswer n (Gives written (Err r)) → ⊥
never_refused n None r is = is
never_refused n (Some bytes) r is = is

module _ (n : ℕ) (script : List ℕ) (told : List ℕ → Told) (old new : Told) (counted : Type 0)
    (out after : Option (List ℕ)) where
  no_refusal : {C : Type 0} (s : Status) → IsRefused (verb_of (Make n script)) told s old new counted out after → C
  no_refusal s (r, same, written, is, held, said) = absurd (never_refused n written r is)

  pub writing : (s : Status) → IsLeft (verb_of (Make n script)) told s old new counted out after → IsWritingStatus s
  writing status.Success left = tt
  writing status.WriteFault left = tt
  writing status.OutOfMemory left = tt
  writing status.ReadFault (read, inl (reads, same), said) = reads
  writing status.ReadFault (read, inr (reads, written), said) = reads
  writing status.Usage left = no_refusal status.Usage left
  writing status.NoFile left = no_refusal status.NoFile left
  writing status.Script left = no_refusal status.Script left
  writing status.Core left = no_refusal status.Core left
  writing status.Damaged left = no_refusal status.Damaged left
  writing status.Incompatible left = no_refusal status.Incompatible left

  -- what success leaves
  pub success : (s : Status) → s ≡ status.Success → IsLeft (verb_of (Make n script)) told s old new counted out after
      → (p : Program) × (line : List ℕ) × Grammar (make_text n) p × IsMade n p line × (new ≡ holding old (make_text n)) × (after ≡ put_on out line)
  success s done left =
      go (subst (λ (x : Status). IsLeft (verb_of (Make n script)) told x old new counted out after) done left)
    where
      go : IsLeft (verb_of (Make n script)) told status.Success old new counted out after
          → (p : Program) × (line : List ℕ) × Grammar (make_text n) p × IsMade n p line × (new ≡ holding old (make_text n)) × (after ≡ put_on out line)
      go (None, line, answer, held, put) = absurd answer
      go (Some text, line, (is, (p, grammar, made)), held, put) =
          (p, line, subst (λ (x : List ℕ). Grammar x p) is grammar, made, subst (λ (x : List ℕ). new ≡ holding old x) is held, put)

  -- what is left keeps the promise
  pub kept : (s : Status) → (AreTold (Make n script) told → IsLeft (verb_of (Make n script)) told s old new counted out after)
      → MakePromise n script s old new out after
  kept s left = record {
    accepts = writing s (left tt);
    success = λ done. success s done (left tt);
  }
