use Rattle.std.proofs.Common.{◌≡◌, ◌++◌, ◌∙◌, ap}
use Rattle.omi_script.specs.Canonical.{list_text}
use Rattle.omi_script.proofs.printer.push_sizes.Goals as goal

pub returns : goal.returns
returns c =
    let value : c.deref.result.now ≡ list_text c.args.list.now =
    c.deref.ensures.value
    ∙ c.in_ok-push_list.ensures
    ∙ ap (λ xs. xs ++ list_text c.as_slice.result.now) c.new-sizes.ensures.items
    ∙ ap list_text c.as_slice.ensures in
    rw value at c.push_env.ensures
