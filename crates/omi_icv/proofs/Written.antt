-- What a call leaves that makes a text, by what its reads answer.
use Rattle.std.proofs.Common.{◌≡◌, ◌≢◌, refl, sym, subst, ◌∙◌}
use Rattle.std.specs.Prelude.{Result, Ok, Err, IsOk}
use Rattle.omi_calls.specs.Asked.{Asked}
use Rattle.omi_calls.specs.Told.{Told}
use Rattle.omi_session.specs.declared.rc.Rc.{Rc}
use Rattle.omi_session.specs.declared.rc.Rc.TheVariants.{NoMem, CallbackError}
use Rattle.omi_session.specs.Opened.{Opened}
use Rattle.omi_session.specs.Reads.{Reads, answer_on, Answers}
use Rattle.omi_session.proofs.Asked.{ran_is}
use Rattle.omi_icv.specs.Written.{IsTextOf, IsWritten, IsWrittenOf, Written}

refused_as : (A : Type 0) (rc : Rc) → rc ≢ NoMem → IsTextOf {A = A} (Err rc) (Err rc)
refused_as A NoMem free = absurd (free refl)
refused_as A rc free = refl

-- a text is what the reads answer, unless a callback failed
text_written : {A : Type 0} (r found answer : Result A Rc) → IsTextOf r found → (found ≢ Err CallbackError → found ≡ answer)
    → IsWritten r answer
text_written (Ok text) found answer is same = sym (same (λ e. (let there = is in cc))) ∙ is
text_written {A} (Err NoMem) found answer is same =
    subst (λ (o : Result A Rc). IsOk o) (same (λ e. (let clash = subst (λ (o : Result A Rc). IsOk o) e is in cc))) is
text_written (Err CallbackError) found answer is same = tt
text_written (Err rc) found answer is same = sym (same (λ e. (let there = is in cc))) ∙ is

pub written_is : {A C F : Type 0} {told : C → Told} {asked : C → Asked} {s t : Opened C F} {r : Result A Rc} {reads : Reads A}
    → Written told asked s t r reads → IsWrittenOf (told s.table.calls) r reads
written_is {told = told} {asked = asked} {s = s} {t = t} {r = r} {reads = reads} written = λ memory tells.
    let by = written.ran memory tells in
    text_written r by.found (answer_on memory reads) by.text (λ ne.
    ran_is (told s.table.calls) memory CallbackError reads (asked s.table.calls) (asked t.table.calls) by.found by.ran ne)

module _ {A C F : Type 0} (told : C → Told) (asked : C → Asked) (s t : Opened C F) where
  -- the reads were refused
  pub written_refused : (rc : Rc) (reads : Reads A) → rc ≢ NoMem → Answers told asked s t (Err rc) reads
      → Written told asked s t (Err rc) reads
  written_refused rc reads free answers = record {
    ran = λ memory tells. record { found = Err rc; ran = answers.ran memory tells; text = refused_as A rc free };
  }

  -- the text was made
  pub written_text : (x : A) (reads : Reads A) → Answers told asked s t (Ok x) reads
      → Written told asked s t (Ok x) reads
  written_text x reads answers = record {
    ran = λ memory tells. record { found = Ok x; ran = answers.ran memory tells; text = refl };
  }

  -- memory ran out for it
  pub written_full : (x : A) (reads : Reads A) → Answers told asked s t (Ok x) reads
      → Written told asked s t (Err NoMem) reads
  written_full x reads answers = record {
    ran = λ memory tells. record { found = Ok x; ran = answers.ran memory tells; text = refl };
  }
