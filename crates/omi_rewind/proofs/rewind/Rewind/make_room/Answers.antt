use Rattle.std.proofs.Common.{[], length, slice_index_or}
use Rattle.omi_rewind.proofs.Stays.{roomier}
use Rattle.omi_rewind.proofs.rewind.Rewind.make_room.Goals as goal

pub invariant_of-self : goal.invariant_of-self
invariant_of-self c =
    roomier
    (record { run = c.self.inside.core; how = c.self.inside.how; first = slice_index_or c.self.inside.copies.items 0 []; at = c.self.inside.at; copies = length c.self.inside.copies.items })
    c.reserve.new.self _ _ _ _ c.self.invariant c.reserve.ensures.run

pub invariant_of-self-in_err-reserve : goal.invariant_of-self-in_err-reserve
invariant_of-self-in_err-reserve c =
    roomier
    (record { run = c.self.inside.core; how = c.self.inside.how; first = slice_index_or c.self.inside.copies.items 0 []; at = c.self.inside.at; copies = length c.self.inside.copies.items })
    c.reserve.new.self _ _ _ _ c.self.invariant c.reserve.ensures.run
