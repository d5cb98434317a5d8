use Rattle.std.proofs.Common.{Ok, subst, [], None, Some, ap, sym}
use Rattle.omi_walk.specs.Walks.{Walks}
use Rattle.omi_walk.specs.AskRegions.{ask_region_of, ask_outwards, ask_regions_of}
use Rattle.omi_walk.proofs.Goes.{goes_begin, goes_on, goes_stop, goes_last, goes_end}
use Rattle.omi_walk.proofs.regions_met.regions_of.Goals as goal

-- reads: what was asked

pub returns-in_default-clause-reads : goal.returns-in_default-clause-reads
unfolding ask_regions_of
returns-in_default-clause-reads g c =
    let told = g.C.Callbacks.told in
    let asked = g.C.Callbacks.asked in
    let s = c.args.s.now in
    subst (λ o. Walks told asked s s (Ok c.new.result) (ask_regions_of s.layout o)) (sym c.in_default.is)
    (goes_end told asked s s (ask_regions_of s.layout None) (Ok c.new.result) (Ok []) (ap Ok c.new.ensures) (goes_begin told asked s (ask_regions_of s.layout None)))

pub returns-in_err-first-clause-reads : goal.returns-in_err-first-clause-reads
unfolding ask_regions_of
returns-in_err-first-clause-reads g c =
    let told = g.C.Callbacks.told in
    let asked = g.C.Callbacks.asked in
    let s = c.args.s.now in
    let task = c.in-Some.task in
    let all = ask_regions_of s.layout (Some task) in
    subst (λ o. Walks told asked s c.innermost.new.s c.from_residual.result (ask_regions_of s.layout o))
    (sym c.in-Some.is)
    (goes_stop told asked s s c.innermost.new.s (0, 0) all (λ w k. ask_region_of w (Some task.held)) _ (goes_begin told asked s all) c.in_err-first.field-0.0 c.from_residual.result c.in_err-first.ensures.reads c.from_residual.ensures.1)

pub returns-clause-reads : goal.returns-clause-reads
unfolding ask_regions_of
returns-clause-reads g c =
    let told = g.C.Callbacks.told in
    let asked = g.C.Callbacks.asked in
    let s = c.args.s.now in
    let task = c.in-Some.task in
    let all = ask_regions_of s.layout (Some task) in
    let so1 =
    goes_on told asked s s c.innermost.new.s (0, 0) all (λ w k. ask_region_of w (Some task.held)) _
    (goes_begin told asked s all) _ c.in_ok-first.first c.innermost.ensures.leaves c.in_ok-first.ensures.reads in
    subst (λ o. Walks told asked s c.enclosing.new.s c.enclosing.result (ask_regions_of s.layout o))
    (sym c.in-Some.is)
    (goes_last told asked s c.innermost.new.s c.enclosing.new.s (0, 0) all (λ w k. ask_outwards w c.in_ok-first.first) c.enclosing.result so1 c.enclosing.ensures.reads)
