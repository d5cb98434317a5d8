use Rattle.std.proofs.Common.{sym, arith}
use Rattle.omi_layout.proofs.Arenas.{positive, some_tasks}
use Rattle.omi_step_words.proofs.Places.{found_place, no_place}
use Rattle.omi_step_words.proofs.words.task_place.Goals as goal

pub returns-in-Some : goal.returns-in-Some
returns-in-Some c =
    let w = c.args.l.now.table in
    let some = positive w c.args.l.now.valid.inside 4 (record { from = omega arith; to = omega arith }) in
    sym
    (found_place w 4 c.args.address c.in-Some.creator c.in-Some.slot some c.in-Some.ensures.is.0 c.in-Some.ensures.is.1)

pub returns-in-None : goal.returns-in-None
returns-in-None c =
    let w = c.args.l.now.table in
    sym (no_place w 4 c.args.address (some_tasks w c.args.l.now.valid) c.in-None.ensures)
