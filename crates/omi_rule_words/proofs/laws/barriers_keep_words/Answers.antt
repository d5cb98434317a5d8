use Rattle.omi_rule_words.proofs.RegionStores.{arrives_keep, releases_keep}
use Rattle.omi_rule_words.proofs.laws.barriers_keep_words.Goals as goal

pub returns : goal.returns
returns c = record { arrived = arrives_keep; released = releases_keep }
