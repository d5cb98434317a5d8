use Rattle.std.proofs.Common.{Ok, Err, ap, sym, ◌∙◌, arith}
use Rattle.std.proofs.lemmas.Result.{err_from_is_err_and}
use Rattle.omi_elf.specs.Found.{place_found}
use Rattle.omi_process.proofs.Rows.{gathered_as, ids_listed, ids_none, ids_pass, ids_refused}
use Rattle.omi_process.proofs.contents.listed.Goals as goal

pub returns-in_err-add_threads-clause-row : goal.returns-in_err-add_threads-clause-row
returns-in_err-add_threads-clause-row g c = λ bytes told.
    let none = c.requires.note bytes told ∙ ap place_found c.in_default.is in
    let p = err_from_is_err_and c.from_residual-in_err-add_threads.result c.from_residual-in_err-add_threads.ensures.1 in
    rw (p.1, p.2)
    (ids_refused bytes none c.in_err-add_threads.field-0.0 c.add_threads.new.ids
    (gathered_as bytes c.args.order c.args.headers.now c.new-ids.result (Err c.in_err-add_threads.field-0.0) c.add_threads.new.ids (c.requires.order bytes told) (c.requires.headers bytes told) c.new-ids.ensures
    (c.in_err-add_threads.ensures.gathered bytes told)))

pub returns-then-len-eq0-clause-row : goal.returns-then-len-eq0-clause-row
returns-then-len-eq0-clause-row g c = λ bytes told.
    let none = c.requires.note bytes told ∙ ap place_found c.in_default.is in
    ids_none bytes none c.add_threads.new.ids
    (gathered_as bytes c.args.order c.args.headers.now c.new-ids.result (Ok tt) c.add_threads.new.ids (c.requires.order bytes told) (c.requires.headers bytes told) c.new-ids.ensures
    (c.in_ok-add_threads.ensures.gathered bytes told))
    (sym c.len.ensures ∙ c.if-len-eq0.true)

pub returns-clause-row : goal.returns-clause-row
returns-clause-row g c = λ bytes told.
    let none = c.requires.note bytes told ∙ ap place_found c.in_default.is in
    ids_pass bytes none c.add_threads.new.ids
    (gathered_as bytes c.args.order c.args.headers.now c.new-ids.result (Ok tt) c.add_threads.new.ids (c.requires.order bytes told) (c.requires.headers bytes told) c.new-ids.ensures
    (c.in_ok-add_threads.ensures.gathered bytes told))
    (omega (arith, c.len.ensures, c.if-len-eq0.false))

pub returns-clause-ids : goal.returns-clause-ids
returns-clause-ids g c = λ bytes told.
    let none = c.requires.note bytes told ∙ ap place_found c.in_default.is in
    ids_listed bytes none c.add_threads.new.ids
    (gathered_as bytes c.args.order c.args.headers.now c.new-ids.result (Ok tt) c.add_threads.new.ids (c.requires.order bytes told) (c.requires.headers bytes told) c.new-ids.ensures
    (c.in_ok-add_threads.ensures.gathered bytes told))
