use Rattle.std.proofs.Common.{◌≡◌, ◌∙◌, subst, ℕ, List, Ok, Err}
use Rattle.std.specs.Prelude.{IfOk, Result}
use Rattle.std.specs.Global.{Vec}
use Rattle.omi_corefile.specs.Spelling.{Core, HoldsImage, spelling, core_bytes}
use Rattle.omi_corefile.specs.declared.core_image.CoreImage.{CoreImage}
use Rattle.omi_corefile.proofs.Lengths.{one_segment, segments_of_some}
use Rattle.omi_corefile.proofs.encoding.core_bytes_of.Goals as goal

pub returns-clause-value : goal.returns-clause-value
returns-clause-value c = λ some.
    let same : spelling c.in_ok-core.core ≡ core_bytes c.args.contexts.now c.args.image.now =
    rw (c.in_ok-core.ensures.order, c.in_ok-core.ensures.contexts, c.in_ok-core.ensures.segments)
    (one_segment c.args.contexts.now c.args.image.now some) in
    subst (λ fields. IfOk c.encode.result (λ bytes. bytes.items ≡ fields)) same c.encode.ensures

pub returns-clause-core : goal.returns-clause-core
returns-clause-core c = λ some.
    let holds : HoldsImage c.args.contexts.now c.args.image.now c.in_ok-core.core = record {
      order = c.in_ok-core.ensures.order;
      contexts_are = c.in_ok-core.ensures.contexts;
      segments = c.in_ok-core.ensures.segments ∙ segments_of_some c.args.image.now some;
    } in
    holding c.args.contexts.now c.args.image.now c.encode.result c.in_ok-core.core holds c.encode.ensures
  where
    holding : {E : Type 0} (contexts words : List ℕ) (r : Result (Vec ℕ) E) (d : CoreImage)
        → HoldsImage contexts words d → IfOk r (λ bytes. Core bytes.items d)
        → IfOk r (λ bytes. (x : CoreImage) × Core bytes.items x × HoldsImage contexts words x)
    holding contexts words (Ok bytes) d holds is = (d, is, holds)
    holding contexts words (Err e) d holds is = tt
