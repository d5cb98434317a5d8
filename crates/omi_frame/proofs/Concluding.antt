-- What a call of a verb leaves, by what the verb gave and how the call ended.
use Rattle.std.proofs.Common.{◌≡◌, ◌⊎◌, ◌≤◌, ◌∷◌, ◌++◌, [], inl, inr, ℕ, Bool, true, false, List, Option, Some, Ok, Err, refl, sym, ◌∙◌, subst, arith}
use Rattle.std.specs.Prelude.{Result, codes}
use Rattle.std.specs.Global.{Vec}
use Rattle.omi_outside.specs.Outside.{Told, IsPutCut, put_on}
use Rattle.omi_outside.specs.declared.status.Status.{Status}
use Rattle.omi_outside.specs.declared.status.Status.TheVariants as status
use Rattle.omi_frame.specs.Concluded.{Causes, Concluded, HasCounted, IsEnded, Performed}
use Rattle.omi_frame.specs.Left.{IsAnswered, IsLeft}
use Rattle.omi_frame.specs.Refusal.{refusal_line, status_of}
use Rattle.omi_frame.specs.Said.{IsSaid}
use Rattle.omi_frame.specs.Seen.{SeenFiles, SeenOutput}
use Rattle.omi_frame.specs.Statuses.{IsPrinting}
use Rattle.omi_frame.specs.Verb.{Gives, Verb}
use Rattle.omi_frame.specs.declared.refusal.Refusal.{Refusal}
use Rattle.omi_frame.specs.declared.refusal.Refusal.TheVariants as refusal
use Rattle.omi_frame.proofs.Elsewhere.{never_printing, of_read, of_usage, of_write, printing_not_of_core, unsaid}

-- a fault of the outside, or want of memory
abbrev pub is_fault : Refusal → Bool
is_fault (refusal.ReadFault read) = true
is_fault refusal.WriteFault = true
is_fault refusal.OutOfMemory = true
is_fault r = false

-- no answer of a verb says such a fault
abbrev pub IsProper : Verb → Type 0
IsProper v = (told : List ℕ → Told) (written : Option (List ℕ)) (r : Refusal) → is_fault r ≡ true
    → v.answers told (Gives written (Err r)) → ⊥

module _ (v : Verb) (told : List ℕ → Told) (old new : Told) (counted : Type 0) (out after : Option (List ℕ)) where
  -- after a text and an end of its printing
  pub ok_left : (text : Vec ℕ) (s : Status) → IsAnswered v told (Ok text) old new → IsPrinting s
      → (s ≡ status.Success → after ≡ put_on out text.items)
      → (s ≡ status.Success) ⊎ IsPutCut text.items out after
      → IsLeft v told s old new counted out after
  ok_left text s (written, is, held) (inl e) put partly =
      subst (λ (x : Status). IsLeft v told x old new counted out after) (sym e)
      (written, text.items, is, held, put e)
  ok_left text s (written, is, held) (inr (inl e)) put (inl done) =
      let wrong : status.WriteFault ≡ status.Success = sym e ∙ done in absurd (cc)
  ok_left text s (written, is, held) (inr (inl e)) put (inr cut) =
      subst (λ (x : Status). IsLeft v told x old new counted out after) (sym e)
      (inr (written, text.items, is, held, cut))
  ok_left text s (written, is, held) (inr (inr e)) put (inl done) =
      let wrong : status.OutOfMemory ≡ status.Success = sym e ∙ done in absurd (cc)
  ok_left text s (written, is, held) (inr (inr e)) put (inr cut) =
      subst (λ (x : Status). IsLeft v told x old new counted out after) (sym e)
      (inr (inr (written, text.items, is, held, cut)))

  -- after a refusal
  pub err_left : IsProper v → (r : Refusal) → IsAnswered v told (Err r) old new
      → IsSaid (refusal_line v.names r) counted out after
      → IsLeft v told (status_of r) old new counted out after
  err_left proper refusal.Usage (inl (written, is, held)) said = (refusal.Usage, refl, written, is, held, said)
  err_left proper refusal.Usage (inr (inl (early, same))) said = absurd early
  err_left proper refusal.Usage (inr (inr (inl (late, half)))) said = absurd late
  err_left proper refusal.Usage (inr (inr (inr (behind, whole)))) said = absurd behind
  err_left proper (refusal.NoFile read) (inl (written, is, held)) said = (refusal.NoFile read, refl, written, is, held, said)
  err_left proper (refusal.NoFile read) (inr (inl (early, same))) said = absurd early
  err_left proper (refusal.NoFile read) (inr (inr (inl (late, half)))) said = absurd late
  err_left proper (refusal.NoFile read) (inr (inr (inr (behind, whole)))) said = absurd behind
  err_left proper (refusal.Script f) (inl (written, is, held)) said = (refusal.Script f, refl, written, is, held, said)
  err_left proper (refusal.Script f) (inr (inl (early, same))) said = absurd early
  err_left proper (refusal.Script f) (inr (inr (inl (late, half)))) said = absurd late
  err_left proper (refusal.Script f) (inr (inr (inr (behind, whole)))) said = absurd behind
  err_left proper (refusal.Core at why) (inl (written, is, held)) said = (refusal.Core at why, refl, written, is, held, said)
  err_left proper (refusal.Core at why) (inr (inl (early, same))) said = absurd early
  err_left proper (refusal.Core at why) (inr (inr (inl (late, half)))) said = absurd late
  err_left proper (refusal.Core at why) (inr (inr (inr (behind, whole)))) said = absurd behind
  err_left proper (refusal.Elf at why) (inl (written, is, held)) said = (refusal.Elf at why, refl, written, is, held, said)
  err_left proper (refusal.Elf at why) (inr (inl (early, same))) said = absurd early
  err_left proper (refusal.Elf at why) (inr (inr (inl (late, half)))) said = absurd late
  err_left proper (refusal.Elf at why) (inr (inr (inr (behind, whole)))) said = absurd behind
  err_left proper (refusal.Damaged addr field) (inl (written, is, held)) said = (refusal.Damaged addr field, refl, written, is, held, said)
  err_left proper (refusal.Damaged addr field) (inr (inl (early, same))) said = absurd early
  err_left proper (refusal.Damaged addr field) (inr (inr (inl (late, half)))) said = absurd late
  err_left proper (refusal.Damaged addr field) (inr (inr (inr (behind, whole)))) said = absurd behind
  err_left proper (refusal.Cycle addr) (inl (written, is, held)) said = (refusal.Cycle addr, refl, written, is, held, said)
  err_left proper (refusal.Cycle addr) (inr (inl (early, same))) said = absurd early
  err_left proper (refusal.Cycle addr) (inr (inr (inl (late, half)))) said = absurd late
  err_left proper (refusal.Cycle addr) (inr (inr (inr (behind, whole)))) said = absurd behind
  err_left proper refusal.Incompatible (inl (written, is, held)) said = (refusal.Incompatible, refl, written, is, held, said)
  err_left proper refusal.Incompatible (inr (inl (early, same))) said = absurd early
  err_left proper refusal.Incompatible (inr (inr (inl (late, half)))) said = absurd late
  err_left proper refusal.Incompatible (inr (inr (inr (behind, whole)))) said = absurd behind
  err_left proper (refusal.ReadFault read) (inl (written, is, held)) said =
      absurd (proper told written (refusal.ReadFault read) refl is)
  err_left proper (refusal.ReadFault read) (inr (inl (early, same))) said = (read, inl (early, same), said)
  err_left proper (refusal.ReadFault read) (inr (inr (inl (late, half)))) said = absurd late
  err_left proper (refusal.ReadFault read) (inr (inr (inr (behind, whole)))) said = (read, inr (behind, whole), said)
  err_left proper refusal.WriteFault (inl (written, is, held)) said =
      absurd (proper told written refusal.WriteFault refl is)
  err_left proper refusal.WriteFault (inr (inl (early, same))) said = absurd early
  err_left proper refusal.WriteFault (inr (inr (inl (late, half)))) said = inl (half, said)
  err_left proper refusal.WriteFault (inr (inr (inr (behind, whole)))) said = absurd behind
  err_left proper refusal.OutOfMemory (inl (written, is, held)) said =
      absurd (proper told written refusal.OutOfMemory refl is)
  err_left proper refusal.OutOfMemory (inr (inl (early, same))) said = inl (inl same, said)
  err_left proper refusal.OutOfMemory (inr (inr (inl (late, half)))) said = inr (inl (half, said))
  err_left proper refusal.OutOfMemory (inr (inr (inr (behind, whole)))) said = inl (inr (behind, whole), said)

module _ (v : Verb) (proper : IsProper v) (files files_now dest dest_now : SeenFiles) (out out_now : SeenOutput) where
  pub concluded : (answer : Result (Vec ℕ) Refusal) (s : Status) → Performed v answer files files_now dest dest_now
      → IsEnded v.names answer s out out_now → Concluded v s files files_now dest dest_now out out_now
  concluded (Ok text) s performed ended = record {
    of_core = λ is. absurd (printing_not_of_core s ended.status_is is);
    usage = λ is. absurd (never_printing s status.Usage ended.status_is refl is);
    causes = record {
      usage_line = λ is. absurd (never_printing s status.Usage ended.status_is refl is);
      read_fault = λ is. absurd (never_printing s status.ReadFault ended.status_is refl is);
      write_fault = λ is. inr (ended.faults.failed is);
      out_of_memory = λ is. inr (ended.wants.failed is);
      reads = performed.read.later;
      writes = performed.write.later;
      faults = ended.faults.later;
      wants = ended.wants.later;
    };
    left = λ told. ok_left v files.told _ _ (HasCounted out out_now) out.told out_now.told text s (performed.answer told) ended.status_is ended.success ended.cut;
    unwritten = performed.unwritten s ended.status_is;
    others = performed.others;
  }
  concluded (Err r) s performed ended =
      subst (λ (x : Status). Concluded v x files files_now dest dest_now out out_now) (sym ended.status_is)
      (record {
        of_core = performed.of_core;
        usage = λ is. performed.usage (of_usage r is);
        causes = record {
          usage_line = λ is. usage_line_of r (HasCounted out out_now) out.told out_now.told is ended.line;
          read_fault = λ is. performed.read.failed (of_read r is);
          write_fault = λ is. inl (performed.written (of_write r is), performed.write.failed (of_write r is));
          out_of_memory = λ is. inl (unsaid v.names r (HasCounted out out_now) out.told out_now.told ended.line is);
          reads = performed.read.later;
          writes = performed.write.later;
          faults = ended.faults;
          wants = ended.wants;
        };
        left = λ told. err_left v files.told _ _ (HasCounted out out_now) out.told out_now.told proper r (performed.answer told) ended.line;
        unwritten = performed.unwritten (status_of r) refl;
        others = performed.others;
      })
    where
      usage_line_of : (x : Refusal) (counted : Type 0) (old new : Option (List ℕ)) → status_of x ≡ status.Usage
          → IsSaid (refusal_line v.names x) counted old new → IsSaid (refusal_line v.names refusal.Usage) counted old new
      usage_line_of refusal.Usage counted old new is said = said
      usage_line_of x counted old new is said = absurd (cc)

-- ---- what a call left that did nothing but end

module _ (files dest : SeenFiles) (out : SeenOutput) where
  -- the words were refused
  pub words_causes : (W : Type 0) (out_now : SeenOutput)
      → IsSaid (Some (codes "usage" ++ 10 ∷ [])) (HasCounted out out_now) out.told out_now.told
      → out.faults ≤ out_now.faults → out.wants ≤ out_now.wants
      → Causes W status.Usage files files dest dest out out_now
  words_causes W out_now said faults wants = record {
    usage_line = λ is. said;
    read_fault = λ is. absurd (cc);
    write_fault = λ is. absurd (cc);
    out_of_memory = λ is. absurd (cc);
    reads = omega arith;
    writes = omega arith;
    faults = faults;
    wants = wants;
  }
