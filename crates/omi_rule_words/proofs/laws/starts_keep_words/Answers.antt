use Rattle.omi_rule_words.proofs.PlaceStores.{place_stores_keep}
use Rattle.omi_rule_words.proofs.SlotStores.{slot_takes_keep}
use Rattle.omi_rule_words.proofs.Starts.{starts_alone_keep, starts_keep}
use Rattle.omi_rule_words.proofs.laws.starts_keep_words.Goals as goal

pub returns : goal.returns
returns c = record { taken = slot_takes_keep; placed = place_stores_keep; started = starts_keep; started_alone = starts_alone_keep }
