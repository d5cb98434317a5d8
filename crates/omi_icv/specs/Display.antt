-- The inquiry for the variables of the address space, by the words that it reads: each by name and value.
use Rattle.std.specs.Prelude.{ℕ, List, [], ◌∷◌, Ok}
use Rattle.std.specs.Fmt.{decimal}
use Rattle.omi_layout.specs.declared.field.Field.TheVariants.{RuntimeDebug, RuntimeProcs, RuntimeMaxActive}
use Rattle.omi_numbers.specs.declared.variables.TheConstants.{MAX_ACTIVE_LEVELS_VAR, DEBUG_VAR, NUM_PROCS_VAR}
use Rattle.omi_numbers.specs.Variables.{name_of}
use Rattle.omi_rep.specs.Records.{runtime_address}
use Rattle.omi_session.specs.Reads.{Reads, Answer, then_reads}
use Rattle.omi_session.specs.Inquiry.{word_of}
use Rattle.omi_text.specs.Head.{debug_text}
use Rattle.omi_text.specs.Lines.{named_value}
use Rattle.omi_icv.specs.declared.display.SpaceWords.{SpaceWords}

-- the texts of the variables
abbrev pub display_texts : SpaceWords → List (List ℕ)
display_texts words =
    named_value (name_of DEBUG_VAR) (debug_text words.debug)
    ∷ named_value (name_of NUM_PROCS_VAR) (decimal words.procs)
    ∷ named_value (name_of MAX_ACTIVE_LEVELS_VAR) (decimal words.max_active)
    ∷ []

module _ (w : List ℕ) where
  -- the words of the variables, in the order in which they are displayed
  unfoldable pub space_words : Reads SpaceWords
  space_words =
      then_reads (word_of w (runtime_address w) RuntimeDebug 0) (λ debug.
      then_reads (word_of w (runtime_address w) RuntimeProcs 0) (λ procs.
      then_reads (word_of w (runtime_address w) RuntimeMaxActive 0) (λ max_active.
      Answer (Ok (record { debug = debug; procs = procs; max_active = max_active })))))

  unfoldable pub display : Reads (List (List ℕ))
  display = then_reads space_words (λ words. Answer (Ok (display_texts words)))
