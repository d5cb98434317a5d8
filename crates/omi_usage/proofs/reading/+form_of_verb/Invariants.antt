use Rattle.std.proofs.Common.{length}
use Rattle.omi_usage.proofs.reading.+form_of_verb.Given as goal

abbrev pub decreases-form_of_verb : goal.decreases-form_of_verb
decreases-form_of_verb l = length l.forms.now
