-- Which words an audit asks for, in their order: at each place that is judged its own word, and behind it the life word of the record to which that
-- word leads, unless that is a thread's or was met before. Behind a place at which a clause fails nothing is asked for.
use Rattle.std.specs.Prelude.{◌==◌, ◌||◌, ℕ, List, [], ◌∷◌, ◌++◌, is_some, nat_eq, if◌then◌else◌}
use Rattle.std.specs.Option.{option_map_or}
use Rattle.std.specs.List.{list_any, flat_map, range_with_len}
use Rattle.indexmap.specs.IndexSet.{insert_all}
use Rattle.omi_layout.specs.declared.field.Field.{Field}
use Rattle.omi_layout.specs.Field.{threads}
use Rattle.omi_layout.specs.Table.{thread_count}
use Rattle.omi_rep.specs.Look.{life_of, slot_at}
use Rattle.omi_session.specs.Inquiry.{place_of}
use Rattle.omi_word.specs.Words.{Words}
use Rattle.omi_audit.specs.declared.verdict.Verdict.{Verdict}
use Rattle.omi_audit.specs.Clauses.{leads_to, led_to}
use Rattle.omi_audit.specs.Search.{Place, named_at, named_by, word_at, runtime_places, thread_places, record_places, current_tasks, first_ones, reached}
use Rattle.omi_audit.specs.Verdicts.{refused_at}

-- what is asked for behind something, where nothing was refused there
abbrev pub behind : List Verdict → List ℕ → List ℕ
behind [] list = list
behind (refusal ∷ more) list = []

-- what is asked for at each of these, one after the other: at each by those that are met, to which it adds those that it names
abbrev pub asked_each : {X : Type 0} → (List ℕ → X → List ℕ) → (X → List ℕ) → (X → List Verdict) → List ℕ → List X → List ℕ
asked_each ask names refused met [] = []
asked_each ask names refused met (x ∷ more) =
    ask met x ++ behind (refused x) (asked_each ask names refused (insert_all nat_eq met (names x)) more)

module _ (w : List ℕ) where
  -- the address of the life word of a record, where one of the kind begins at this address
  abbrev pub life_word : ℕ → ℕ → List ℕ
  life_word kind address =
      if is_some (slot_at w kind address) then place_of w address (life_of kind) 0 ∷ [] else []

  -- none where the record is known: it was met, or it is a thread's
  abbrev pub asked_of_record : List ℕ → ℕ → ℕ → List ℕ
  asked_of_record met kind address =
      if kind == threads || list_any (λ one. address == one) met then [] else life_word kind address

  -- of the record to which a word in a field leads, if it leads to one
  abbrev pub asked_of_word : List ℕ → Field → ℕ → ℕ → List ℕ
  asked_of_word met f at word =
      option_map_or (λ kind. asked_of_record met kind (led_to f word)) (leads_to f at) []

  module _ (words : Words) where
    -- at a place
    abbrev pub asked_at : List ℕ → Place → List ℕ
    asked_at met p =
        place_of w p.address p.field p.at
        ∷ option_map_or (asked_of_word met p.field p.at) (word_at w words p) []

    -- at these places, one after the other. `i` is the thread whose record has them
    abbrev pub asked_among : ℕ → List ℕ → List Place → List ℕ
    asked_among i met places = asked_each asked_at (named_at w words) (refused_at w words i) met places

    -- at those of a thread, and at those of the record of a region or a task
    abbrev pub asked_of_thread : List ℕ → ℕ → List ℕ
    asked_of_thread met i = asked_among i met (thread_places w words i)

    abbrev pub asked_in_record : List ℕ → ℕ → List ℕ
    asked_in_record met address = asked_among 0 met (record_places w words address)

    -- at those of these threads, and of these records
    abbrev pub asked_of_threads : List ℕ → List ℕ → List ℕ
    asked_of_threads met some =
        asked_each asked_of_thread (λ i. flat_map (named_at w words) (thread_places w words i))
        (λ i. flat_map (refused_at w words i) (thread_places w words i)) met some

    abbrev pub asked_in_records : List ℕ → List ℕ → List ℕ
    asked_in_records met some =
        asked_each asked_in_record (named_by w words)
        (λ address. flat_map (refused_at w words 0) (record_places w words address)) met some

    -- all: in the runtime record, in those of the threads, and in those that are reached
    abbrev pub asked_words : List ℕ
    asked_words =
        asked_among 0 [] (runtime_places w words)
        ++ behind (flat_map (refused_at w words 0) (runtime_places w words))
        (asked_of_threads [] (range_with_len 0 (thread_count w))
        ++ behind (flat_map (λ i. flat_map (refused_at w words i) (thread_places w words i)) (range_with_len 0 (thread_count w)))
        (asked_in_records (first_ones (current_tasks w words)) (reached w words)))
