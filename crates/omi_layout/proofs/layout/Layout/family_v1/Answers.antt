use Rattle.std.proofs.Common.{refl}
use Rattle.omi_layout.specs.declared.limits.TheConstants.{FIRST_VERSION}
use Rattle.omi_layout.proofs.Families.{fits_of, small_of, valid_of}
use Rattle.omi_layout.proofs.layout.Layout.family_v1.Goals as goal

pub invariant_of-result : goal.invariant_of-result
invariant_of-result c = record { valid = valid_of FIRST_VERSION c.args.k c.args.threads c.family_table-table.result refl c.requires.some c.requires.most c.family_table-table.ensures }

pub returns-clause-fits : goal.returns-clause-fits
returns-clause-fits c =
    fits_of FIRST_VERSION c.args.k c.args.threads c.family_table-table.result refl c.requires.some c.requires.most c.family_table-table.ensures

pub returns-clause-small : goal.returns-clause-small
returns-clause-small c =
    small_of FIRST_VERSION c.args.k c.args.threads c.family_table-table.result refl c.requires.some c.requires.most c.family_table-table.ensures
