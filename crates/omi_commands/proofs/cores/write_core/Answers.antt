use Rattle.std.proofs.Common.{rules, ◌∙◌, List, ℕ, ap, refl, arith, subst, sym}
use Rattle.std.proofs.lemmas.Result.{err_from_is_err_and}
use Rattle.omi_outside.specs.Outside.{Told, IsCut, extended}
use Rattle.omi_corefile.specs.Spelling.{core_bytes}
use Rattle.omi_commands.proofs.CorePieces.{IsUnderWay, begins, goes_on, cut, ends}
use Rattle.omi_commands.proofs.cores.write_core.Goals as goal

pub loop-at-init : goal.loop-at-init
loop-at-init g c = record {
  way =
      begins c.args.contexts.now c.args.image.now (g.F.Files.told c.args.files.now c.args.name.now)
      (g.F.Files.told c.create.new.self c.args.name.now) c.put_front.new.out.items c.requires.few c.in_ok-create.ensures.made
      (rw (c.in_ok-put_front.ensures, c.in_ok-piece.ensures.items, c.len.ensures.value) refl);
  others = search rules;
  later = omega arith;
  reads = search rules;
}

pub returns-in_err-at-clause-cut : goal.returns-in_err-at-clause-cut
returns-in_err-at-clause-cut g c =
    let p = err_from_is_err_and c.from_residual-in_err-at.result c.from_residual-in_err-at.ensures.1 in
    rw p.1
    (cut c.args.contexts.now c.args.image.now (g.F.Files.told c.args.files.now c.args.name.now)
    (g.F.Files.told c.loop-at.files c.args.name.now) c.loop-at.piece.items c.loop-at.at c.loop-at.invariant.way
    (omega (arith, c.len-in-loop-at.ensures.value, c.loop-at-test.true)))

pub returns-in_err-append-clause-cut : goal.returns-in_err-append-clause-cut
returns-in_err-append-clause-cut g c =
    let p = err_from_is_err_and c.from_residual-in_err-append.result c.from_residual-in_err-append.ensures.1 in
    rw p.1
    (subst (λ (told : List ℕ → Told). IsCut (g.F.Files.told c.args.files.now c.args.name.now) (told c.args.name.now) (core_bytes c.args.contexts.now c.args.image.now))
    (sym c.in_err-append.ensures.refused)
    (cut c.args.contexts.now c.args.image.now (g.F.Files.told c.args.files.now c.args.name.now)
    (g.F.Files.told c.loop-at.files c.args.name.now) c.loop-at.piece.items c.loop-at.at c.loop-at.invariant.way
    (omega (arith, c.len-in-loop-at.ensures.value, c.loop-at-test.true))))

pub loop-at-preserved : goal.loop-at-preserved
loop-at-preserved g c = record {
  way =
      subst (λ (items : List ℕ). IsUnderWay c.args.contexts.now c.args.image.now (g.F.Files.told c.args.files.now c.args.name.now) (g.F.Files.told c.append.new.self c.args.name.now) items c.in_ok-at.at)
      (sym c.clear.ensures.items)
      (goes_on c.args.contexts.now c.args.image.now (g.F.Files.told c.args.files.now c.args.name.now)
      (g.F.Files.told c.loop-at.files c.args.name.now) c.loop-at.piece.items c.put_image.new.out.items c.loop-at.at c.in_ok-at.at c.loop-at.invariant.way
      (omega (arith, c.len-in-loop-at.ensures.value, c.loop-at-test.true))
      (omega (arith, c.in_ok-at.ensures.0, c.len-in-loop-at-2.ensures, c.loop-at.piece.ok))
      c.in_ok-at.ensures.1 (g.F.Files.told c.append.new.self c.args.name.now)
      (c.in_ok-append.ensures.added ∙ ap (λ (l : List ℕ). extended (g.F.Files.told c.loop-at.files c.args.name.now) l) c.deref.ensures.value));
  others = search rules;
  later = omega arith;
  reads = search rules;
}

pub returns-clause-written : goal.returns-clause-written
returns-clause-written g c =
    ends c.args.contexts.now c.args.image.now (g.F.Files.told c.args.files.now c.args.name.now)
    (g.F.Files.told c.loop-at.files c.args.name.now) c.loop-at.piece.items c.loop-at.at c.loop-at.invariant.way c.requires.some
    (omega (arith, c.len-in-loop-at.ensures.value, c.loop-at-test.false))
