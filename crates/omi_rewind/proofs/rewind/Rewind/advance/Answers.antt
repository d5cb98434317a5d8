use Rattle.omi_rewind.proofs.Stays.{later_same, later_two}
use Rattle.omi_rewind.proofs.rewind.Rewind.advance.Goals as goal

pub returns-in_err-keep_copy-clause-later : goal.returns-in_err-keep_copy-clause-later
returns-in_err-keep_copy-clause-later c =
    later_same c.args.self.now c.keep_copy.new.self c.keep_copy.ensures.same

pub returns-in_err-make_room-clause-later : goal.returns-in_err-make_room-clause-later
returns-in_err-make_room-clause-later c =
    later_two c.args.self.now c.keep_copy.new.self c.make_room.new.self
    (later_same c.args.self.now c.keep_copy.new.self c.keep_copy.ensures.same)
    (later_same c.keep_copy.new.self c.make_room.new.self c.make_room.ensures.same)
