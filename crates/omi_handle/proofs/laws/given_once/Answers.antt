use Rattle.omi_handle.proofs.Histories.{once, kept, released}
use Rattle.omi_handle.proofs.laws.given_once.Goals as goal

pub returns-clause-once : goal.returns-clause-once
returns-clause-once c = once

pub returns-clause-kept : goal.returns-clause-kept
returns-clause-kept c = kept

pub returns-clause-released : goal.returns-clause-released
returns-clause-released c = released
