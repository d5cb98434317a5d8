use Rattle.std.proofs.Common.{◌≡◌, [], ◌∷◌, length, ap, ◌∙◌, arith}
use Rattle.std.proofs.lemmas.List.{length-append}
use Rattle.omi_pc.specs.Opening.{opening_actor}
use Rattle.omi_core.proofs.Opened.{one_more_actor}
use Rattle.omi_core.proofs.opening.opening_actors.Goals as goal

pub returns : goal.returns
returns c =
    let all : c.loop-thread.thread ≡ c.args.p.now.threads = let a = c.loop-thread-test.false in let b = c.loop-thread.auto.thread-end in omega (arith, a, b) in
    record {
      count = c.loop-thread.invariant.count ∙ all;
      each = λ j below. c.loop-thread.invariant.each j (let known = below in omega (arith, known, all));
    }

pub loop-thread-preserved : goal.loop-thread-preserved
loop-thread-preserved c = record {
  count =
      let added =
      ap length c.in_ok-push.ensures.items
      ∙ length-append c.loop-thread.actors.items (c.in_ok-opening.field-0 ∷ []) in
      let before = c.loop-thread.invariant.count in
      omega (arith, added, before);
  each = one_more_actor (opening_actor c.args.p.now) c.loop-thread.actors.items c.push.new.self.items c.in_ok-opening.field-0 c.loop-thread.thread c.in_ok-push.ensures.items c.in_ok-opening.ensures c.loop-thread.invariant.count c.loop-thread.invariant.each;
}
