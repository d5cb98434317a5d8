use Rattle.std.proofs.Common.{arith, ◌≡◌, List, ℕ}
use Rattle.std.proofs.lemmas.Map.Text.{text_keys}
use Rattle.omi_outside.specs.Memory.{told_by}
use Rattle.omi_outside.proofs.Refusals.{on_err}
use Rattle.omi_outside.proofs.contents.extend.Goals as goal

pub returns-in-Some-clause-others : goal.returns-in-Some-clause-others
returns-in-Some-clause-others c = λ other ne. grind (arith, text_keys)

pub returns-in-Some-clause-refused : goal.returns-in-Some-clause-refused
returns-in-Some-clause-refused c = on_err c.extend_from_slice.result _ (λ e is.
    let same : (other : List ℕ) → told_by (c.get_mut.follows.lender c.extend_from_slice.new.self) other ≡ told_by c.args.held.now other =
    λ other. grind (arith, text_keys) in
    λ i other. same other i)
