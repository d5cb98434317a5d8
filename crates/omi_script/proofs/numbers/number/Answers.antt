use Rattle.std.proofs.Common.{arith}
use Rattle.omi_script.proofs.CanonicalNumbers.{number_written, number_none}
use Rattle.omi_script.proofs.numbers.number.Goals as goal

pub returns-clause-written : goal.returns-clause-written
returns-clause-written c =
    number_written c.args.least c.args.most c.args.word.now c.number_in.result
    (omega (arith, c.ranges.most.fits)) c.number_in.ensures

pub returns-clause-none : goal.returns-clause-none
returns-clause-none c =
    number_none c.args.least c.args.most c.args.word.now c.number_in.result
    (omega (arith, c.ranges.most.fits)) c.number_in.ensures
