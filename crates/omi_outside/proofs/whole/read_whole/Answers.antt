use Rattle.std.proofs.Common.{rules, ◌≡◌, List, ℕ, arith, ap, ◌∙◌, Some, Option, sym}
use Rattle.omi_outside.proofs.Pieces.{read_all, read_more, still_told}
use Rattle.omi_outside.proofs.whole.read_whole.Goals as goal

pub loop-at-preserved : goal.loop-at-preserved
loop-at-preserved g c = record {
  so_far = λ bytes told.
      let now : g.F.Files.told c.loop-at.files c.args.name.now ≡ Some (Some bytes) =
      still_told _ _ c.args.name.now _ c.loop-at.invariant.same told in
      read_more bytes _ _ c.read_at.new.to _ c.loop-at.at c.in_ok-count.count c.in_ok-count.ensures.count.1
      c.in_ok-extend_from_slice.ensures.items (c.loop-at.invariant.so_far bytes told) (c.in_ok-count.ensures.bytes bytes now).1;
  same = search rules;
  later = omega arith;
  writes = search rules;
  length = search rules;
  within = search rules;
}

pub returns-clause-bytes : goal.returns-clause-bytes
returns-clause-bytes g c = λ content told.
    read_all content _ c.in-Some.size c.args.most c.min-wanted.result c.loop-at.at
    (sym c.in-Some.is ∙ c.in_ok-size.ensures.length content told) (search rules) (omega arith)
    (λ bytes is. c.loop-at.invariant.so_far bytes (told ∙ ap (λ (x : Option (List ℕ)). Some x) is))
