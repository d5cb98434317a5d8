use Rattle.std.proofs.Common.{◌+◌, ◌*◌, ◌%◌, ◌^◌, Some, sym, ap, ◌∙◌, arith}
use Rattle.omi_layout.proofs.ReadTables.{table_read}
use Rattle.omi_layout.proofs.layout.Layout.read.Goals as goal

pub returns-in-Ok : goal.returns-in-Ok
returns-in-Ok g c = record {
  address = c.in-Some.address;
  symbol = sym c.in-Some.ensures;
  table = table_read (g.M.WordMemory.words c.args.memory.now) c.in-Some.address c.loop-at.table c.loop-at.invariant.words (λ j h. c.loop-at.invariant.read j (omega arith)) ∙ ap Some (sym c.in-Ok.ensures);
}

pub returns-in-Err : goal.returns-in-Err
returns-in-Err g c = record {
  address = c.in-Some.address;
  symbol = sym c.in-Some.ensures;
  table = c.loop-at.table;
  read = table_read (g.M.WordMemory.words c.args.memory.now) c.in-Some.address c.loop-at.table c.loop-at.invariant.words (λ j h. c.loop-at.invariant.read j (omega arith));
  refused = c.in-Err.ensures;
  is = ap (λ n. (c.in-Some.address + 8 * n) % 2 ^ 64) c.table_word.ensures;
}
