use Rattle.std.proofs.Common.{ℕ, List, length, ◌≤◌, sym, subst, arith}
use Rattle.omi_frame.proofs.FieldNames.{no_name, short}
use Rattle.omi_frame.proofs.refusal_line.field_text.Goals as goal

pub returns-then-field-le-FIELDS-clause-short : goal.returns-then-field-le-FIELDS-clause-short
returns-then-field-le-FIELDS-clause-short c =
    subst (λ (name : List ℕ). length name ≤ 32) (sym c.field_name.ensures) (short c.args.field)

pub returns-else-field-le-FIELDS-clause-name : goal.returns-else-field-le-FIELDS-clause-name
returns-else-field-le-FIELDS-clause-name c = sym (no_name c.args.field (omega arith))
