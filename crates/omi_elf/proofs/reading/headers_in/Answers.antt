use Rattle.std.proofs.Common.{◌*◌, sym, ◌∙◌, arith}
use Rattle.std.proofs.lemmas.Grind.{common_steps}
use Rattle.omi_elf.proofs.Tables.{headers_from-none, headers_from-more}
use Rattle.omi_elf.proofs.Within.{piece_behind}
use Rattle.omi_elf.proofs.reading.headers_in.Goals as goal

pub loop-index-init : goal.loop-index-init
loop-index-init c = record {
  so_far = λ bytes is. c.new-headers.ensures.items ∙ sym (headers_from-none c.args.order bytes c.args.at);
  count = search (arith, c.new-headers.ensures.items);
}

pub loop-index-preserved : goal.loop-index-preserved
loop-index-preserved c = record {
  so_far = λ bytes is.
      let behind = piece_behind bytes c.args.table.now c.args.at (56 * c.loop-index.index) is (omega arith) in
      let one = c.program_header.ensures bytes behind in
      let more = headers_from-more c.args.order bytes c.args.at c.loop-index.index in
      let so_far = c.loop-index.invariant.so_far bytes is in
      grind (arith, common_steps, more, so_far, one);
  count = grind (arith, common_steps, c.loop-index.invariant.count);
}
