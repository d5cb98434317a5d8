use Rattle.omi_layout.proofs.Frame.{are_apart, are_inside, slots_apart, addresses_apart, none_is_null}
use Rattle.omi_layout.proofs.laws.words_apart.Goals as goal

pub returns : goal.returns
returns c =
    let w = c.args.layout.now.table in
    let v = c.args.layout.now.valid in
    record { apart = are_apart w v; inside = are_inside w v; slots = slots_apart w; addresses = addresses_apart w v; not_null = none_is_null w v }
