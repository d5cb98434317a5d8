use Rattle.std.proofs.Common.{◌≡◌, ◌∷◌, ◌++◌, get_or, arith}
use Rattle.std.proofs.lemmas.Grind.{common_steps}
use Rattle.std.proofs.lemmas.Option.{slice_get-get_or}
use Rattle.omi_text.proofs.Rows.{flat_map_further}
use Rattle.omi_icv.specs.Spellings.{number_text}
use Rattle.omi_icv.proofs.spelling.push_others.Goals as goal

pub loop-at-preserved : goal.loop-at-preserved
loop-at-preserved c =
    let told : c.push_number.new.text ≡ c.loop-at.text ++ 44 ∷ number_text c.args.spelling (get_or c.args.numbers.now c.loop-at.at 0) =
    grind (arith, common_steps, c.push_str.ensures, c.push_number.ensures.text) in
    record {
      told = flat_map_further (λ number. 44 ∷ number_text c.args.spelling number)
          c.loop-at.text c.args.numbers.now c.loop-at.at
          (get_or c.args.numbers.now c.loop-at.at 0) _ _
          (slice_get-get_or c.args.numbers.now c.loop-at.at 0 c.loop-at-test.true) told c.loop-at.invariant.told;
      short = grind (arith, common_steps, c.push_str.ensures, c.push_number.ensures.short, c.loop-at.invariant.short);
    }
