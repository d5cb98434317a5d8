-- The inquiries for control variables, by the words that they read. The life word of a handle's object is judged before the pair of scope and number.
use Rattle.std.specs.Prelude.{ℕ, List, Ok}
use Rattle.omi_session.specs.Reads.{Reads, Answer, then_reads}
use Rattle.omi_icv.specs.declared.scoped.Scoped.{Scoped}
use Rattle.omi_icv.specs.declared.icv_text.Value.{Value}
use Rattle.omi_icv.specs.Scopes.{scope_of}
use Rattle.omi_icv.specs.Records.{Handles, record_of}
use Rattle.omi_icv.specs.Spellings.{value_text}
use Rattle.omi_icv.specs.Table.{variable_in}
use Rattle.omi_icv.specs.Values.{number_in, numbers_in}

module _ (w : List ℕ) where
  -- a variable as one number
  unfoldable pub icv_from_scope : Handles → Scoped → ℕ → Reads ℕ
  icv_from_scope held of icv =
      then_reads (record_of w held of) (λ address.
      then_reads (Answer (variable_in (scope_of of) icv)) (λ variable.
      number_in w variable.source address))

  -- all its numbers, and how they are spelled
  unfoldable pub icv_value : Handles → Scoped → ℕ → Reads Value
  icv_value held of icv =
      then_reads (record_of w held of) (λ address.
      then_reads (Answer (variable_in (scope_of of) icv)) (λ variable.
      then_reads (numbers_in w variable.source address) (λ numbers.
      Answer (Ok (record { spelling = variable.spelling; numbers = numbers })))))

  -- a variable as a text
  unfoldable pub icv_string_from_scope : Handles → Scoped → ℕ → Reads (List ℕ)
  icv_string_from_scope held of icv =
      then_reads (icv_value held of icv)
      (λ value. Answer (Ok (value_text value.spelling value.numbers)))
