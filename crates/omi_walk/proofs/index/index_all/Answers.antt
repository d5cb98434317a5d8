use Rattle.std.proofs.Common.{◌<◌, ◌++◌, ◌∷◌, [], take, subst, sym, append-nil, arith}
use Rattle.std.proofs.lemmas.List.{take_all}
use Rattle.std.proofs.lemmas.List.Elements.{All-append, All-cons, All-nil}
use Rattle.omi_walk.specs.declared.met.Met.{Met}
use Rattle.omi_walk.specs.Index.{HasFirst, AreSmall}
use Rattle.omi_walk.proofs.Indexed.{one_further}
use Rattle.omi_walk.proofs.index.index_all.Goals as goal

pub loop-i-init : goal.loop-i-init
loop-i-init c = record {
  bound = c.len-i-end.ensures;
  first = λ before has. subst (HasFirst c.args.index.now) (sym (append-nil before)) has;
  small = All-nil (λ m. m.name.slot < 65536);
}

pub loop-i-preserved : goal.loop-i-preserved
loop-i-preserved c = record {
  bound = c.loop-i.invariant.bound;
  first = λ before has. subst (HasFirst c.index_one.new.index)
      (one_further before c.args.met.now c.loop-i.i _ c.get.ensures)
      (c.in_ok-index_one.ensures.first (before ++ take c.loop-i.i c.args.met.now) (c.loop-i.invariant.first before has));
  small =
      let m = c.get.result.now in
      let is_small : Met → Type 0 = λ m. m.name.slot < 65536 in
      subst AreSmall (one_further [] c.args.met.now c.loop-i.i m c.get.ensures)
      (All-append is_small (take c.loop-i.i c.args.met.now) (m ∷ []) c.loop-i.invariant.small (All-cons is_small m [] c.index_one.ensures.small (All-nil is_small)));
}

pub returns-clause-first : goal.returns-clause-first
returns-clause-first c = λ before has.
    subst (λ met. HasFirst c.loop-i.index (before ++ met))
    (take_all c.loop-i.i c.args.met.now (omega (arith, c.loop-i-test.false, c.loop-i.invariant.bound)))
    (c.loop-i.invariant.first before has)

pub returns-clause-small : goal.returns-clause-small
returns-clause-small c =
    subst AreSmall
    (take_all c.loop-i.i c.args.met.now (omega (arith, c.loop-i-test.false, c.loop-i.invariant.bound))) c.loop-i.invariant.small
