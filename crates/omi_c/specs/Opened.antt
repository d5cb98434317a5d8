-- A session over known words as it is opened, and why none is.
use Rattle.std.specs.Prelude.{◌≡◌, ◌≢◌, List, None}
use Rattle.omi_session.specs.Opened.{Opened}
use Rattle.omi_c.specs.declared.answers.TheConstants.{OK}
use Rattle.omi_c.specs.declared.calls.KnownCalls.{KnownCalls}
use Rattle.omi_c.specs.declared.causes.Cause.{Cause}
use Rattle.omi_c.specs.declared.causes.Cause.TheVariants.{NoLayout}
use Rattle.omi_c.specs.declared.judged.Judged.{Judged}
use Rattle.omi_c.specs.declared.known.Known.{Known}
use Rattle.omi_c.specs.Known.{told_by_known}
use Rattle.omi_c.specs.Calls.{told_of, missed_of}
use Rattle.omi_c.specs.Judged.{refusal_in}

-- no word was missed yet
pub record IsOpenedOver {H : Type 0} (table : Judged) (known : List Known) (s : Opened KnownCalls H) : Type 0 where
  pub judged : table.code ≡ OK
  pub layout : s.layout ≡ table.words
  pub told : told_of s.table.calls ≡ told_by_known known
  pub missed : missed_of s.table.calls ≡ None

-- the table was refused, and the cause is that
pub record IsNoLayout (table : Judged) (cause : Cause) : Type 0 where
  pub is : table.code ≢ OK
  pub gives : cause ≡ NoLayout (refusal_in table)
