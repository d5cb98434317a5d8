-- An option is that of its name.
use Rattle.std.proofs.Common.{◌≡◌, refl}
use Rattle.omi_usage.specs.Form.{name_of, option_of}
use Rattle.omi_usage.specs.declared.complaint.LineOption.{LineOption}
use Rattle.omi_usage.specs.declared.complaint.LineOption.TheVariants as option

pub named_again : (o : LineOption) → option_of (name_of o) ≡ o
named_again option.Seed = refl
named_again option.Break = refl
named_again option.Count = refl
named_again option.Layout = refl
