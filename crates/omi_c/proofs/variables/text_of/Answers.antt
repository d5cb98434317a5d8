use Rattle.std.proofs.Common.{refl}
use Rattle.omi_icv.specs.Icvs as icvs
use Rattle.omi_c.proofs.Scoped.{in_scope, no_scope}
use Rattle.omi_c.proofs.variables.text_of.Goals as goal

pub returns-in_default : goal.returns-in_default
returns-in_default g c =
    no_scope c.args.s.now.layout c.args.object c.args.scope (λ held of. icvs.icv_string_from_scope c.args.s.now.layout held of c.args.icv)
    c.args.s.now _ _ c.scope_numbered.result c.scope_numbered.ensures c.in_default.is refl refl

pub returns : goal.returns
returns g c =
    in_scope c.args.s.now.layout c.args.object c.args.scope (λ held of. icvs.icv_string_from_scope c.args.s.now.layout held of c.args.icv)
    c.args.s.now _ _ c.scope_numbered.result c.scope_numbered.ensures c.in-Some.scope c.in-Some.is
    c.held_for-found.result c.held_for-found.ensures.value c.icv_text_of.ensures.answer
