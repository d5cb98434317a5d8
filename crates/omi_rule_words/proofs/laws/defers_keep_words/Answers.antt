use Rattle.omi_rule_words.proofs.Defers.{defers_keep, starts_now_keep}
use Rattle.omi_rule_words.proofs.laws.defers_keep_words.Goals as goal

pub returns : goal.returns
returns c = record { deferred = defers_keep; started_now = starts_now_keep }
