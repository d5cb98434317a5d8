use Rattle.std.proofs.Common.{◌≡◌, length, ap, subst, arith}
use Rattle.omi_park.specs.Inspecting.{HasInspected}
use Rattle.omi_park.specs.Plays.{first_inspector}
use Rattle.omi_park.proofs.threads.inspected.Goals as goal

pub inspect-requires-clause-between : goal.inspect-requires-clause-between
inspect-requires-clause-between g c κs held = (first_inspector, c.requires.between)

pub returns : goal.returns
returns g c =
    let none : 0 ≡ length c.args.inspector.stops.items = ap length c.requires.between.stops in
    let long = c.args.inspector.stops.ok.0 in
    subst (λ n. HasInspected c.args.words.now.table_id n c.inspect.new.self) (omega (arith, none, long))
    c.inspect.ensures
