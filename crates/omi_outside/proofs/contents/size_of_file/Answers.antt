use Rattle.std.proofs.Common.{◌≡◌, Some, sym, ap, ◌∙◌, subst}
use Rattle.std.specs.Option.{option_map}
use Rattle.omi_outside.specs.Memory.{content_of}
use Rattle.omi_outside.specs.Outside.{AreBytes}
use Rattle.omi_outside.proofs.contents.size_of_file.Goals as goal

pub returns-in-Some-clause-are_bytes : goal.returns-in-Some-clause-are_bytes
returns-in-Some-clause-are_bytes c = λ bytes is.
    let found = c.in-Some.ensures in
    let there : content_of c.args.held.now c.args.name.now ≡ Some c.in-Some.bytes.now.items =
    sym (ap (λ o. option_map (λ v. v.items) o) found.value) in
    let both : Some c.in-Some.bytes.now.items ≡ Some bytes = sym there ∙ is in
    let same : c.as_slice.result.now ≡ bytes = c.as_slice.ensures.value ∙ cc in
    subst AreBytes same c.byte_count.ensures.are_bytes
