use Rattle.std.proofs.Common.{[], ℕ, None, Some, Ok, Err, ap, sym, arith, inl, refl}
use Rattle.std.specs.Prelude.{Result, IfErr, ⊤}
use Rattle.std.specs.Global.{Vec}
use Rattle.omi_frame.specs.Statuses.{IsOfCore}
use Rattle.omi_frame.specs.Refusal.{status_of}
use Rattle.omi_frame.specs.declared.refusal.Refusal.{Refusal}
use Rattle.omi_top.proofs.Causes.{late_not_core, late_not_read, late_not_usage_of, late_writes, unwritten_of}
use Rattle.omi_top.proofs.top.perform.Goals as goal

-- the command looks at a core's words, and may refuse them
looks : {C : Type 0} (r : Result (Vec ℕ) Refusal) → ((x : Refusal) → IsOfCore (status_of x) → C)
    → IfErr r (λ x. IsOfCore (status_of x) → C)
looks (Ok text) one = tt
looks (Err x) one = one x

pub returns-in-Stop-clause-performed : goal.returns-in-Stop-clause-performed
returns-in-Stop-clause-performed g c = rw c.in-Stop.is c.stop.ensures.performed

pub returns-in-Make-clause-performed : goal.returns-in-Make-clause-performed
returns-in-Make-clause-performed g c =
    rw c.in-Make.is
    (record {
      answer = λ told. c.make.ensures.answer (g.F.Files.told c.args.files.now);
      read = record { later = omega arith; failed = λ is. absurd (late_not_read c.make.result c.make.ensures.late is) };
      write = c.make.ensures.write;
      written = λ is. (c.in-Make.script.now, refl);
      usage = λ is. absurd (late_not_usage_of c.make.result c.make.ensures.late is);
      of_core = late_not_core _ c.make.result c.make.ensures.late;
      unwritten = late_writes ⊤ c.make.result c.make.ensures.late;
      others = λ other not. c.make.ensures.others other (λ is. not (ap Some (sym is)));
    })

pub returns-in-Show-clause-performed : goal.returns-in-Show-clause-performed
returns-in-Show-clause-performed g c =
    rw c.in-Show.is
    (record {
      answer = λ told. c.show.ensures.answer (g.W.Files.told c.args.dest.now []) told;
      read = c.show.ensures.read;
      write = record { later = omega arith; failed = λ is. absurd (c.show.ensures.write is) };
      written = λ is. absurd (c.show.ensures.write is);
      usage = λ is. absurd (c.show.ensures.usage is);
      of_core = looks c.show.result (λ x of_core. tt);
      unwritten = λ s ends is. refl;
      others = λ other not. refl;
    })

pub returns-in-Run-clause-performed : goal.returns-in-Run-clause-performed
returns-in-Run-clause-performed g c =
    let run = c.run_and_show.ensures in
    rw c.in-Run.is
    (record {
      answer = run.answer;
      read = run.read;
      write = run.write;
      written = λ is. (c.in-Run.core.now, refl);
      usage = λ is. absurd (run.usage is);
      of_core = looks c.run_and_show.result (λ x of_core. tt);
      unwritten = unwritten_of ⊥ c.run_and_show.result run.unwritten;
      others = run.others;
    })

pub returns-in-Recode-clause-performed : goal.returns-in-Recode-clause-performed
returns-in-Recode-clause-performed g c = rw c.in-Recode.is c.recode.ensures.performed

pub returns-in-Elf-clause-performed : goal.returns-in-Elf-clause-performed
returns-in-Elf-clause-performed g c = rw c.in-Elf.is c.elf.ensures.performed

pub returns-in-Audit-clause-performed : goal.returns-in-Audit-clause-performed
returns-in-Audit-clause-performed g c =
    rw c.in-Audit.is
    (record {
      answer = λ told. c.audit.ensures.answer (g.W.Files.told c.args.dest.now []) told;
      read = c.audit.ensures.read;
      write = record { later = omega arith; failed = λ is. absurd (c.audit.ensures.write is) };
      written = λ is. absurd (c.audit.ensures.write is);
      usage = λ is. absurd (c.audit.ensures.usage is);
      of_core = looks c.audit.result (λ x of_core. tt);
      unwritten = λ s ends is. refl;
      others = λ other not. refl;
    })

pub returns-in-Follow-clause-performed : goal.returns-in-Follow-clause-performed
returns-in-Follow-clause-performed g c =
    rw c.in-Follow.is
    (record {
      answer = λ told. c.follow.ensures.answer (g.W.Files.told c.args.dest.now []) told;
      read = c.follow.ensures.read;
      write = record { later = omega arith; failed = λ is. absurd (c.follow.ensures.write is) };
      written = λ is. absurd (c.follow.ensures.write is);
      usage = λ is. absurd (c.follow.ensures.usage is);
      of_core = looks c.follow.result (λ x of_core. tt);
      unwritten = λ s ends is. refl;
      others = λ other not. refl;
    })

pub returns-in-Faulty-clause-performed : goal.returns-in-Faulty-clause-performed
returns-in-Faulty-clause-performed g c =
    rw c.in-Faulty.is
    (record {
      answer = λ told. inl (None, refl, refl);
      read = record { later = omega arith; failed = λ is. absurd is };
      write = record { later = omega arith; failed = λ is. absurd (cc) };
      written = λ is. absurd (cc);
      usage = λ is. tt;
      of_core = λ is. absurd is;
      unwritten = λ s ends is. refl;
      others = λ other not. refl;
    })
