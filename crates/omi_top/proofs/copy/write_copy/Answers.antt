use Rattle.std.proofs.Common.{ℕ, Some, Ok, Err, arith, refl, ap, sym, string_bytes}
use Rattle.std.specs.Prelude.{⊤}
use Rattle.std.specs.Global.{Vec}
use Rattle.std.proofs.lemmas.Result.{err_from_is_err_and}
use Rattle.omi_frame.proofs.Elsewhere.{never_usage as write_no_usage, write_not_read, write_not_of_core, write_failed}
use Rattle.omi_top.proofs.Copying.{done_answered, never_usage, never_write, no_memory, only_bytes, partly_answered, refused_answered}
use Rattle.omi_top.proofs.Stopping.{never_unwritten}
use Rattle.omi_frame.specs.Refusal.{refusal_of_write}
use Rattle.omi_top.proofs.Causes.{unwritten_of}
use Rattle.omi_top.proofs.copy.write_copy.Goals as goal

-- ---- the core is refused

pub returns-in_err-image-clause-performed : goal.returns-in_err-image-clause-performed
returns-in_err-image-clause-performed g c =
    let p = err_from_is_err_and c.from_residual.result c.from_residual.ensures.1 in
    rw (p.1, p.2)
    (record {
      answer =
          λ (content, is).
          refused_answered (g.C.Copying.copies c.args.copying) c.args.core.now c.args.copy.now (g.F.Files.told c.args.files.now) content is c.in_err-image.field-0.0 _ (c.in_err-image.ensures.refused content is);
      read = c.in_err-image.ensures.cause;
      write = record { later = omega arith; failed = λ is. absurd (never_write c.in_err-image.field-0.0 c.in_err-image.ensures.kind is) };
      written = λ is. absurd (never_write c.in_err-image.field-0.0 c.in_err-image.ensures.kind is);
      usage = λ is. absurd (never_usage c.in_err-image.field-0.0 c.in_err-image.ensures.kind is);
      of_core = only_bytes c.in_err-image.field-0.0 c.in_err-image.ensures.kind;
      unwritten = λ s ends is. refl;
      others = λ other not. refl;
    })

-- ---- memory runs out

pub returns-in_err-made-clause-performed : goal.returns-in_err-made-clause-performed
returns-in_err-made-clause-performed g c =
    let p = err_from_is_err_and c.from_residual-in_err-made.result c.from_residual-in_err-made.ensures.1 in
    rw (p.1, p.2)
    (record {
      answer =
          λ told.
          no_memory (g.C.Copying.copies c.args.copying) c.args.core.now c.args.copy.now (g.F.Files.told c.args.files.now) _;
      read = record { later = c.in_ok-image.ensures.cause.later; failed = λ is. absurd is };
      write = record { later = omega arith; failed = λ is. absurd (cc) };
      written = λ is. absurd (cc);
      usage = λ is. absurd (cc);
      of_core = λ is. absurd is;
      unwritten = λ s ends is. refl;
      others = λ other not. refl;
    })

-- ---- the copy can't be written

pub returns-in_err-write_whole-clause-performed : goal.returns-in_err-write_whole-clause-performed
returns-in_err-write_whole-clause-performed g c =
    let p = err_from_is_err_and c.from_residual-in_err-write_whole.result c.from_residual-in_err-write_whole.ensures.1 in
    rw (p.1, p.2)
    (record {
      answer =
          λ (content, is).
          partly_answered (g.C.Copying.copies c.args.copying) c.args.core.now c.args.copy.now (g.F.Files.told c.args.files.now) content is c.in_ok-image.image (c.in_ok-image.ensures.core content is) c.in_ok-made.made.bytes.items
          (string_bytes c.in_ok-made.made.line) c.in_ok-made.ensures
          c.in_err-write_whole.field-0.0 _ _
          (rw (← c.deref.ensures.value) c.in_err-write_whole.ensures.cut);
      read = record { later = c.in_ok-image.ensures.cause.later; failed = λ is. absurd (write_not_read c.in_err-write_whole.field-0.0 is) };
      write =
          record {
            later = c.in_err-write_whole.ensures.cause.later;
            failed = λ is. c.in_err-write_whole.ensures.cause.failed (ap Err (write_failed c.in_err-write_whole.field-0.0 is));
          };
      written = λ is. (c.args.copy.now, refl);
      usage = λ is. absurd (write_no_usage c.in_err-write_whole.field-0.0 is);
      of_core = λ is. absurd (write_not_of_core c.in_err-write_whole.field-0.0 is);
      unwritten =
          unwritten_of ⊤ (Err (refusal_of_write c.in_err-write_whole.field-0.0)) (λ is. absurd (never_unwritten ⊤ c.in_err-write_whole.field-0.0 is));
      others = λ other not. c.in_err-write_whole.ensures.others other (λ same. not (ap Some (sym same)));
    })

pub returns-in_err-write_whole-clause-apart : goal.returns-in_err-write_whole-clause-apart
returns-in_err-write_whole-clause-apart g c = record { files_told = c.in_ok-image.ensures.same; files_writes = c.in_ok-image.ensures.writes; dest_reads = c.in_err-write_whole.ensures.reads }

-- ---- all is written

pub returns-clause-performed : goal.returns-clause-performed
returns-clause-performed g c = record {
  answer =
      λ (content, is).
      done_answered (g.C.Copying.copies c.args.copying) c.args.core.now c.args.copy.now (g.F.Files.told c.args.files.now) content is c.in_ok-image.image (c.in_ok-image.ensures.core content is) c.in_ok-made.made.bytes.items
      (string_bytes c.in_ok-made.made.line) c.in_ok-made.ensures
      c.into_bytes.result _ _ (ap (λ (v : Vec ℕ). v.items) c.into_bytes.ensures.value)
      (rw (← c.deref.ensures.value) c.in_ok-write_whole.ensures.written);
  read = record { later = c.in_ok-image.ensures.cause.later; failed = λ is. absurd is };
  write = record { later = c.in_ok-write_whole.ensures.cause.later; failed = λ is. cc };
  written = λ is. absurd (cc);
  usage = λ is. absurd (cc);
  of_core = tt;
  unwritten = unwritten_of ⊤ (Ok c.into_bytes.result) tt;
  others = λ other not. c.in_ok-write_whole.ensures.others other (λ same. not (ap Some (sym same)));
}
