use Rattle.std.proofs.Common.{ℕ, Some, Ok, Err, arith, refl, ap, sym, subst, string_bytes}
use Rattle.std.specs.Global.{Vec}
use Rattle.std.specs.Prelude.{⊤}
use Rattle.std.proofs.lemmas.Result.{err_from_is_err_and}
use Rattle.omi_corefile.specs.Spelling.{core_bytes}
use Rattle.omi_frame.specs.declared.refusal.Refusal.TheVariants as refusal
use Rattle.omi_frame.proofs.Elsewhere.{never_elsewhere, never_usage, write_not_read, never_of_core, write_not_of_core, write_failed}
use Rattle.omi_frame.specs.Refusal.{refusal_of_write}
use Rattle.omi_top.proofs.Causes.{unwritten_of}
use Rattle.omi_top.proofs.Stopping.{refused_answered, partly_answered, done_answered, never_unwritten}
use Rattle.omi_top.specs.verbs.Stop.{IsStopped}
use Rattle.omi_top.proofs.stop.stop.Goals as goal

-- ---- the script is refused

pub returns-in_err-p-clause-performed : goal.returns-in_err-p-clause-performed
returns-in_err-p-clause-performed g c =
    let p = err_from_is_err_and c.from_residual.result c.from_residual.ensures.1 in
    rw (p.1, p.2)
    (record {
      answer =
          λ (content, told).
          refused_answered c.args.plan c.args.script.now c.args.core.now (g.F.Files.told c.args.files.now) content told c.in_err-p.field-0.0 _ (c.in_err-p.ensures.refused content told);
      read = c.in_err-p.ensures.cause;
      write = record { later = omega arith; failed = λ is. absurd (never_elsewhere c.in_err-p.field-0.0 refusal.WriteFault c.in_err-p.ensures.kind refl is) };
      written = λ is. absurd (never_elsewhere c.in_err-p.field-0.0 refusal.WriteFault c.in_err-p.ensures.kind refl is);
      usage = λ is. absurd (never_elsewhere c.in_err-p.field-0.0 refusal.Usage c.in_err-p.ensures.kind refl is);
      of_core = never_of_core c.in_err-p.field-0.0 c.in_err-p.ensures.kind;
      unwritten = λ s ends is. refl;
      others = λ other not. refl;
    })

-- ---- the core can't be written

pub returns-in_err-write_core-clause-performed : goal.returns-in_err-write_core-clause-performed
returns-in_err-write_core-clause-performed g c =
    let p = err_from_is_err_and c.from_residual-in_err-write_core.result c.from_residual-in_err-write_core.ensures.1 in
    rw (p.1, p.2)
    (record {
      answer =
          λ (content, told).
          partly_answered c.args.plan c.args.script.now c.args.core.now
          (g.F.Files.told c.args.files.now) content told c.in_ok-p.p (c.in_ok-p.ensures.program content told)
          (core_bytes c.in_ok-image.contexts c.in_ok-image.image) (string_bytes c.in_ok-image.text) c.in_err-write_core.field-0.0 _ _ c.in_ok-image.ensures.run c.in_err-write_core.ensures.cut;
      read = record { later = c.in_ok-p.ensures.cause.later; failed = λ is. absurd (write_not_read c.in_err-write_core.field-0.0 is) };
      write =
          record {
            later = c.in_err-write_core.ensures.cause.later;
            failed = λ is. c.in_err-write_core.ensures.cause.failed (ap Err (write_failed c.in_err-write_core.field-0.0 is));
          };
      written = λ is. (c.args.core.now, refl);
      usage = λ is. absurd (never_usage c.in_err-write_core.field-0.0 is);
      of_core = write_not_of_core c.in_err-write_core.field-0.0;
      unwritten =
          unwritten_of ⊤ (Err (refusal_of_write c.in_err-write_core.field-0.0))
          (λ is. absurd (never_unwritten ⊤ c.in_err-write_core.field-0.0 is));
      others = λ other not. c.in_err-write_core.ensures.others other (λ is. not (ap Some (sym is)));
    })

pub returns-in_err-write_core-clause-apart : goal.returns-in_err-write_core-clause-apart
returns-in_err-write_core-clause-apart g c = record { files_told = c.in_ok-p.ensures.same; files_writes = c.in_ok-p.ensures.writes; dest_reads = c.in_err-write_core.ensures.reads }

-- ---- all is written

pub returns-clause-performed : goal.returns-clause-performed
returns-clause-performed g c = record {
  answer =
      λ (content, told).
      done_answered c.args.plan c.args.script.now c.args.core.now
      (g.F.Files.told c.args.files.now) content told c.in_ok-p.p (c.in_ok-p.ensures.program content told)
      (core_bytes c.in_ok-image.contexts c.in_ok-image.image) c.into_bytes.result _ _
      (subst (λ (v : Vec ℕ). IsStopped c.in_ok-p.p c.args.plan (core_bytes c.in_ok-image.contexts c.in_ok-image.image) v.items) (sym c.into_bytes.ensures.value) c.in_ok-image.ensures.run)
      c.in_ok-write_core.ensures.written;
  read = record { later = c.in_ok-p.ensures.cause.later; failed = λ is. absurd is };
  write = record { later = c.in_ok-write_core.ensures.cause.later; failed = λ is. cc };
  written = λ is. absurd (cc);
  usage = λ is. absurd (cc);
  of_core = tt;
  unwritten = unwritten_of ⊤ (Ok c.into_bytes.result) tt;
  others = λ other not. c.in_ok-write_core.ensures.others other (λ is. not (ap Some (sym is)));
}
