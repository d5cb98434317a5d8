use Rattle.omi_page.proofs.Taking.{bounds_of}
use Rattle.omi_page.proofs.opening.bounds.Goals as goal

pub returns-clause-read : goal.returns-clause-read
returns-clause-read c =
    (bounds_of c.args.len c.args.least c.args.room c.args.bytes.now _ _ c.in_ok-start.start c.in_ok-count.count c.in_ok-start.ensures.read c.in_ok-count.ensures.read).are

pub returns-clause-long : goal.returns-clause-long
returns-clause-long c =
    (bounds_of c.args.len c.args.least c.args.room c.args.bytes.now _ _ c.in_ok-start.start c.in_ok-count.count c.in_ok-start.ensures.read c.in_ok-count.ensures.read).long
