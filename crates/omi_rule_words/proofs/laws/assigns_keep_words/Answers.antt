use Rattle.omi_rule_words.proofs.Assigns.{assign_clears_keep, assign_stores_keep}
use Rattle.omi_rule_words.proofs.laws.assigns_keep_words.Goals as goal

pub returns : goal.returns
returns c = record { stored = assign_stores_keep; cleared = assign_clears_keep }
