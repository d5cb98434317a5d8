-- The value of a control variable, by the words of the record of what is asked about: as one number, and as all its numbers.
use Rattle.std.specs.Prelude.{ℕ, zero, suc, ◌==◌, ◌&&◌, nat_le, List, [], ◌∷◌, ◌++◌, Ok, Err, if◌then◌else◌}
use Rattle.omi_script.specs.declared.limits.TheConstants.{MAX_SIZES}
use Rattle.omi_handle.specs.declared.handle.Kind.TheVariants as kind
use Rattle.omi_layout.specs.declared.field.Field.TheVariants.{ThreadCurrent, TaskNumber, TaskNthreadsLength, TaskNthreads}
use Rattle.omi_layout.specs.Named.{number}
use Rattle.omi_session.specs.declared.rc.Rc.TheVariants.{Error, Incomplete}
use Rattle.omi_session.specs.Reads.{Reads, Answer, then_reads}
use Rattle.omi_session.specs.Inquiry.{word_of, follow_some, team_size}
use Rattle.omi_icv.specs.declared.variable.Source.{Source}
use Rattle.omi_icv.specs.declared.variable.Source.TheVariants.{Word, TeamSize, Elements, MemberNumber}

-- one number, as the only one of a list
unfoldable pub alone : Reads ℕ → Reads (List ℕ)
alone reads = then_reads reads (λ number. Answer (Ok (number ∷ [])))

module _ (w : List ℕ) where
  -- the number of elements of nthreads-var of a task, which is from 1 to `MAX_SIZES`
  unfoldable pub list_length : ℕ → Reads ℕ
  list_length address =
      then_reads (word_of w address TaskNthreadsLength 0)
      (λ count. Answer (if nat_le 1 count && nat_le count MAX_SIZES then Ok count
      else Err (Error address (number TaskNthreadsLength))))

  -- its only element, or that there are more, with the first
  unfoldable pub only_element : ℕ → Reads ℕ
  only_element address =
      then_reads (list_length address) (λ count.
      then_reads (word_of w address TaskNthreads 0) (λ first.
      Answer (if count == 1 then Ok first else Err (Incomplete first))))

  -- so many elements: those before the last of them, and then this
  unfoldable pub first_elements : ℕ → ℕ → Reads (List ℕ)
  first_elements address zero = Answer (Ok [])
  first_elements address (suc at) =
      then_reads (first_elements address at) (λ before.
      then_reads (word_of w address TaskNthreads at) (λ element.
      Answer (Ok (before ++ element ∷ []))))

  -- all its elements
  unfoldable pub elements : ℕ → Reads (List ℕ)
  elements address = then_reads (list_length address) (first_elements address)

  -- the number in its team of a thread's current task
  unfoldable pub member_number : ℕ → Reads ℕ
  member_number address =
      then_reads (follow_some w kind.Task address ThreadCurrent)
      (λ task. word_of w task.addr TaskNumber 0)

  -- the value as one number
  abbrev pub number_in : Source → ℕ → Reads ℕ
  number_in (Word field) address = word_of w address field 0
  number_in TeamSize address = team_size w address
  number_in Elements address = only_element address
  number_in MemberNumber address = member_number address

  -- the value as all its numbers
  abbrev pub numbers_in : Source → ℕ → Reads (List ℕ)
  numbers_in (Word field) address = alone (number_in (Word field) address)
  numbers_in TeamSize address = alone (number_in TeamSize address)
  numbers_in Elements address = elements address
  numbers_in MemberNumber address = alone (number_in MemberNumber address)
