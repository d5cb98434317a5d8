use Rattle.omi_rule_words.proofs.ThreadStores.{thread_changes_keep, thread_stores_keep}
use Rattle.omi_rule_words.proofs.laws.thread_stores_keep_words.Goals as goal

pub returns : goal.returns
returns c = record { stored = thread_stores_keep; changed = thread_changes_keep }
