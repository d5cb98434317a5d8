use Rattle.std.proofs.Common.{◌∙◌}
use Rattle.omi_word.proofs.Symbols.{told_name}
use Rattle.omi_word.proofs.symbol_table.has_name.Goals as goal

pub returns : goal.returns
returns c =
    told_name c.args.words.now c.args.name.now c.to_le_bytes.result c.to_le_bytes-2.result c.to_le_bytes-3.result c.to_le_bytes-4.result
    c.as_flattened.result.now c.copy_from_slice.new.self c.as_slice.result.now c.eq.result c.told-words
    c.to_le_bytes.ensures c.to_le_bytes-2.ensures c.to_le_bytes-3.ensures c.to_le_bytes-4.ensures
    c.as_flattened.ensures.value
    (c.copy_from_slice.ensures.after ∙ c.as_bytes.ensures.value) c.as_slice.ensures c.eq.ensures
