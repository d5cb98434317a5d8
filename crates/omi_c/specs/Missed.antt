-- What is replied by the word that was missed, if one was, and by what the library answered.
use Rattle.std.specs.Prelude.{ℕ, Option, Some, None, Result, Err}
use Rattle.omi_session.specs.declared.rc.Rc.{Rc}
use Rattle.omi_c.specs.declared.causes.Cause.TheVariants.{Needs}
use Rattle.omi_c.specs.Replies.{Reply, replied}

abbrev pub reply_by : {A : Type 0} → Option ℕ → Result A Rc → Reply A
reply_by (Some addr) result = Err (Needs addr)
reply_by None result = replied result
