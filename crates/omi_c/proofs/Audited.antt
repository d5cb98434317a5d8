-- The verdict in the layout of a table, and none where the table was refused.
use Rattle.std.proofs.Common.{◌≡◌, cond, Ok, Err, sym, ap, ◌∙◌}
use Rattle.std.specs.Prelude.{IsErrAnd}
use Rattle.std.proofs.lemmas.Bool.{eq-eqb, ne_eqb}
use Rattle.omi_audit.specs.declared.verdict.Verdict.{Verdict}
use Rattle.omi_audit.specs.Verdicts.{verdict}
use Rattle.omi_word.specs.Words.{Words}
use Rattle.omi_c.specs.declared.answers.TheConstants.{OK}
use Rattle.omi_c.specs.declared.causes.Cause.{Cause}
use Rattle.omi_c.specs.declared.causes.Cause.TheVariants.{NoLayout}
use Rattle.omi_c.specs.declared.judged.Judged.{Judged}
use Rattle.omi_c.specs.Audit.{verdict_in}
use Rattle.omi_c.specs.Judged.{refusal_in}
use Rattle.omi_c.specs.Opened.{IsNoLayout}
use Rattle.omi_c.specs.Replies.{Reply}

module _ (table : Judged) (memory : Words) where
  pub verdict_given : (v : Verdict) → table.code ≡ OK → v ≡ verdict table.words memory → Ok v ≡ verdict_in table memory
  verdict_given v judged is =
      ap Ok is
      ∙ sym (ap (λ b. cond b (Ok (verdict table.words memory)) (Err (NoLayout (refusal_in table)))) (eq-eqb table.code OK judged))

  pub verdict_refused : (reply : Reply Verdict) (cause : Cause) → IsErrAnd reply (λ why. why ≡ cause) → IsNoLayout table cause
      → reply ≡ verdict_in table memory
  verdict_refused (Ok v) cause is none = absurd is
  verdict_refused (Err why) cause is none =
      ap Err (is ∙ none.gives)
      ∙ sym (ap (λ b. cond b (Ok (verdict table.words memory)) (Err (NoLayout (refusal_in table)))) (ne_eqb table.code OK none.is))
