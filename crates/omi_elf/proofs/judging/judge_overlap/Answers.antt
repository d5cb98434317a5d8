use Rattle.std.proofs.Common.{arith, refl, ◌∷◌, sym, ◌∙◌}
use Rattle.std.proofs.lemmas.List.Elements.{All-get_or, All-same, All-head, All-tail}
use Rattle.omi_elf.specs.Found.{IsBounded}
use Rattle.omi_elf.proofs.NoteSegments.{no_header}
use Rattle.omi_elf.proofs.Neighbours.{no_overlap}
use Rattle.omi_elf.proofs.judging.judge_overlap.Goals as goal

pub loop-h-init : goal.loop-h-init
loop-h-init c =
    let all = All-same IsBounded (c.in-Some.first.now ∷ c.in-Some.others.now) c.args.sorted.now (sym c.in-Some.ensures.cases.0) c.requires in
    record {
      sought = rw c.in-Some.ensures.cases.0 refl;
      bounded = All-head IsBounded c.in-Some.first.now c.in-Some.others.now all;
      others = All-tail IsBounded c.in-Some.first.now c.in-Some.others.now all;
    }

pub loop-h-preserved : goal.loop-h-preserved
loop-h-preserved c = record {
  sought = no_overlap c.loop-h.before c.in-Some.others.now c.loop-h.h-index c.loop-h-test.true (omega (arith, c.end_of-end.ensures, c.if-h-end.false)) ∙ c.loop-h.invariant.sought;
  bounded = All-get_or IsBounded c.in-Some.others.now c.loop-h.h-index no_header c.loop-h-test.true c.loop-h.invariant.others;
  others = c.loop-h.invariant.others;
}
