use Rattle.std.proofs.Common.{◌≡◌, true, arith, sym, ◌∙◌}
use Rattle.omi_layout.specs.Valid.{is_arena}
use Rattle.omi_layout.proofs.Arenas.{next_below}
use Rattle.omi_layout.proofs.judging.judge_arenas.Goals as goal

pub loop-p-preserved : goal.loop-p-preserved
loop-p-preserved c q is =
    next_below (λ p. is_arena c.args.w.now p ≡ true) c.loop-p.p q (c.loop-p.invariant q is)
    (sym c.is_arena.ensures ∙ c.if-not-is_arena.false)

pub returns : goal.returns
returns c = record {
  words = c.told-w;
  known = c.requires.known;
  inside = c.requires.inside;
  apart = c.requires.apart;
  arenas = λ p is. c.loop-p.invariant p is (omega (arith, is.to));
}
