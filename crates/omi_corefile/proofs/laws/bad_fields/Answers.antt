use Rattle.omi_corefile.proofs.BadFieldLaws.{bad_magic, bad_version, bad_order, bad_context_count, bad_segment_count, bad_id, bad_start, touching, no_words, too_large}
use Rattle.omi_corefile.proofs.laws.bad_fields.Goals as goal

pub returns-clause-magic : goal.returns-clause-magic
returns-clause-magic c = bad_magic

pub returns-clause-version : goal.returns-clause-version
returns-clause-version c = bad_version

pub returns-clause-order : goal.returns-clause-order
returns-clause-order c = bad_order

pub returns-clause-context_count : goal.returns-clause-context_count
returns-clause-context_count c = bad_context_count

pub returns-clause-segment_count : goal.returns-clause-segment_count
returns-clause-segment_count c = bad_segment_count

pub returns-clause-id : goal.returns-clause-id
returns-clause-id c = bad_id

pub returns-clause-start : goal.returns-clause-start
returns-clause-start c = bad_start

pub returns-clause-touching : goal.returns-clause-touching
returns-clause-touching c = touching

pub returns-clause-no_words : goal.returns-clause-no_words
returns-clause-no_words c = no_words

pub returns-clause-too_large : goal.returns-clause-too_large
returns-clause-too_large c = too_large
