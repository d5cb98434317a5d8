use Rattle.std.proofs.Common.{subst, sym, rules}
use Rattle.std.specs.Prelude.{IfSome}
use Rattle.omi_session.specs.Named.{IsNamed}
use Rattle.omi_session.proofs.Slots.{named_low}
use Rattle.omi_session.proofs.objects.live_handle_of.Goals as goal

pub returns-in-Some-clause-named : goal.returns-in-Some-clause-named
returns-in-Some-clause-named c =
    let w = c.args.layout.now.table in
    let named = subst (λ found. IfSome found (IsNamed w)) c.in-Some.is c.requires in
    let there = subst (IsNamed w) (sym c.in-Some.held-is) named in
    record { named = there; is = search rules; low = named_low w _ c.args.layout.now.valid there }
