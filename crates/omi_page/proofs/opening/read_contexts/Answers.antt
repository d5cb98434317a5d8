use Rattle.std.proofs.Common.{Some, ◌+◌, ◌*◌, arith, length-take}
use Rattle.std.proofs.lemmas.Result.{err_from_is_err_and}
use Rattle.omi_corefile.specs.Refusals.{contexts_at}
use Rattle.omi_page.proofs.FrontsOfFiles.{front_value, front_fault, local_contexts}
use Rattle.omi_page.proofs.Taking.{contexts_count, contexts_took}
use Rattle.omi_page.proofs.opening.read_contexts.Goals as goal

pub returns-in_err-ids-clause-read : goal.returns-in_err-ids-clause-read
returns-in_err-ids-clause-read g c = λ bytes told.
    let p = err_from_is_err_and c.from_residual-in_err-ids.result c.from_residual-in_err-ids.ensures.1 in
    rw (p.1, p.2) (front_fault (8 * c.args.count) (λ len. contexts_at len c.args.count) _ (local_contexts c.args.count) bytes c.front.new.to c.args.len 16 c.in_ok-read.read (16 + c.in_ok-read.read) c.in_err-ids.field-0.0
    (record { length_is = c.requires.len (Some bytes) told; within = c.requires.within; counted = omega (arith, c.in_ok-read.ensures.count); ends = omega arith; is = c.in_ok-read.ensures.bytes bytes told })
    c.in_err-ids.ensures)

pub returns-clause-read : goal.returns-clause-read
returns-clause-read g c = λ bytes told.
    front_value (8 * c.args.count) (λ len. contexts_at len c.args.count) _
    (local_contexts c.args.count) bytes c.front.new.to _ c.args.len 16 c.in_ok-read.read
    (16 + c.in_ok-read.read) _
    (record { length_is = c.requires.len (Some bytes) told; within = c.requires.within; counted = omega (arith, c.in_ok-read.ensures.count); ends = omega arith; is = c.in_ok-read.ensures.bytes bytes told })
    c.in_ok-ids.ensures

pub returns-clause-long : goal.returns-clause-long
returns-clause-long g c =
    let took = contexts_took (16 + c.in_ok-read.read) 0 c.args.count _ _ c.in_ok-ids.ensures in
    omega (arith, took.long, c.in_ok-read.ensures.count, length-take c.in_ok-read.read c.front.new.to)

pub returns-clause-few : goal.returns-clause-few
returns-clause-few g c =
    let same = contexts_count (16 + c.in_ok-read.read) 0 c.args.count _ _ c.in_ok-ids.ensures in omega (arith, same, c.requires.few)
