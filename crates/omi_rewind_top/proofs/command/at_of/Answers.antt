use Rattle.std.proofs.Common.{◌∙◌, ap, sym, ℕ}
use Rattle.std.specs.Global.{Vec}
use Rattle.std.specs.Option.{option_map}
use Rattle.omi_rewind_top.proofs.Parts.{all_steps}
use Rattle.omi_rewind_top.proofs.command.at_of.Goals as goal

pub returns-clause-possible : goal.returns-clause-possible
returns-clause-possible c =
    all_steps c.text_of.result.now c.in-Some.steps.items
    (sym c.in_ok-steps.ensures ∙ ap (option_map (λ (v : Vec ℕ). v.items)) c.in-Some.is)
