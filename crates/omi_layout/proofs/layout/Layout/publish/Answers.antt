use Rattle.std.proofs.Common.{◌≡◌, ℕ, ◌+◌, ap, ◌∙◌, arith}
use Rattle.std.specs.Prelude.{slice_index}
use Rattle.omi_layout.specs.Given.{HasTables}
use Rattle.omi_layout.proofs.Tables.{tables_give}
use Rattle.omi_layout.proofs.Frame.{front_fits}
use Rattle.omi_layout.proofs.layout.Layout.publish.Goals as goal

behind_none : (i : ℕ) → i ≡ 0 + i
behind_none i = omega arith

pub returns : goal.returns
returns c =
    let w = c.args.self.now.table in
    let words = c.args.self.now.valid.words in
    let room = front_fits w c.args.self.now.valid _ c.requires in
    let has : HasTables w c.write-2.new.image = record {
      long = omega (arith, c.write-2.ensures.count, c.write.ensures.count, room);
      symbols = λ i h. c.write-2.ensures.below i h ∙ ap (λ j. slice_index c.write.new.image j) (behind_none i) ∙ c.write.ensures.inside i h;
      table = λ i h. c.write-2.ensures.inside i (omega (arith, words, h));
    } in
    record {
      published = record {
        count = c.write-2.ensures.count ∙ c.write.ensures.count;
        symbols = has.symbols;
        read_back = has.table;
        others = λ i h. c.write-2.ensures.behind i (omega (arith, words, h)) ∙ c.write.ensures.behind i (omega (arith, h));
      };
      gives = tables_give w c.write-2.new.image c.args.self.now.valid has;
    }
