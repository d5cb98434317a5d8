use Rattle.std.proofs.Common.{arith, refl, ◌∷◌, sym, ◌∙◌}
use Rattle.std.proofs.lemmas.List.Elements.{All-get_or, All-same, All-head, All-tail}
use Rattle.omi_elf.specs.Found.{IsBounded}
use Rattle.omi_elf.proofs.NoteSegments.{no_header}
use Rattle.omi_elf.proofs.Neighbours.{counts_apart, counts_touching}
use Rattle.omi_elf.proofs.judging.count_apart.Goals as goal
use Rattle.omi_elf.proofs.judging.count_apart.Goals.{then-end_of-h, else-end_of-h}

pub loop-h-init : goal.loop-h-init
loop-h-init c =
    let all = All-same IsBounded (c.in-Some.first.now ∷ c.in-Some.others.now) c.args.sorted.now (sym c.in-Some.ensures.cases.0) c.requires in
    record {
      counted = rw c.in-Some.ensures.cases.0 refl;
      few = omega arith;
      bounded = All-head IsBounded c.in-Some.first.now c.in-Some.others.now all;
      others = All-tail IsBounded c.in-Some.first.now c.in-Some.others.now all;
    }

pub loop-h-preserved : goal.loop-h-preserved
loop-h-preserved c =
    let next = All-get_or IsBounded c.in-Some.others.now c.loop-h.h-index no_header c.loop-h-test.true c.loop-h.invariant.others in
    elim c.if-end_of-h.branch [
      | then-end_of-h w ↦ record {
        counted = rw w.count-is (counts_apart c.loop-h.count c.loop-h.before c.in-Some.others.now c.loop-h.h-index _ c.loop-h-test.true
            (λ e. w.if-end_of-h.true (c.end_of.ensures ∙ e)) c.loop-h.invariant.counted);
        few = omega (arith, w.count-is, c.loop-h.invariant.few);
        bounded = next;
        others = c.loop-h.invariant.others;
      }
      | else-end_of-h w ↦ record {
        counted = rw w.count-is (counts_touching c.loop-h.count c.loop-h.before c.in-Some.others.now c.loop-h.h-index _ c.loop-h-test.true
            (sym c.end_of.ensures ∙ w.if-end_of-h.false) c.loop-h.invariant.counted);
        few = omega (arith, w.count-is, c.loop-h.invariant.few);
        bounded = next;
        others = c.loop-h.invariant.others;
      }
    ]
