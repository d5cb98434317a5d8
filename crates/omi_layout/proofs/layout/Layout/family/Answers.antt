use Rattle.omi_layout.proofs.Families.{family_valid, family_fits, family_small}
use Rattle.omi_layout.proofs.layout.Layout.family.Goals as goal

pub invariant_of-result : goal.invariant_of-result
invariant_of-result c = record { valid = family_valid c.args.k c.args.threads c.family_table-table.result c.requires.some c.requires.most c.family_table-table.ensures }

pub returns-clause-fits : goal.returns-clause-fits
returns-clause-fits c =
    family_fits c.args.k c.args.threads c.family_table-table.result c.requires.some c.requires.most c.family_table-table.ensures

pub returns-clause-small : goal.returns-clause-small
returns-clause-small c =
    family_small c.args.k c.args.threads c.family_table-table.result c.requires.some c.requires.most c.family_table-table.ensures
