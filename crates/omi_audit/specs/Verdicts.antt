-- The verdict on a memory: the first word at which a clause fails, or Yes.
use Rattle.std.specs.Prelude.{ℕ, zero, suc, ◌+◌, ◌*◌, ◌++◌, List, [], ◌∷◌, map, slice_get, length, Option, Some, None, if◌then◌else◌}
use Rattle.std.specs.Option.{option_map_or, option_and_then}
use Rattle.std.specs.List.{range_with_len, flat_map}
use Rattle.omi_layout.specs.declared.field.Field.{Field}
use Rattle.omi_layout.specs.declared.field.Field.TheVariants.{RegionEnclosing, TaskScheduling}
use Rattle.omi_layout.specs.Named.{number}
use Rattle.omi_layout.specs.Table.{thread_count, offset}
use Rattle.omi_word.specs.Words.{Words}
use Rattle.omi_rep.specs.Look.{was_met}
use Rattle.omi_audit.specs.declared.verdict.Verdict.{Verdict}
use Rattle.omi_audit.specs.declared.verdict.Verdict.TheVariants.{Yes, No}
use Rattle.omi_audit.specs.Clauses.{failing}
use Rattle.omi_audit.specs.Search.{Place, word_at, runtime_places, thread_places, is_region, record_places, named_at, all_records, reached}

module _ (w : List ℕ) (words : Words) where
  -- the clauses that fail at a place: clause 1 where the word isn't mapped. `i` is the thread whose record has it
  abbrev pub failing_at : ℕ → Place → List ℕ
  failing_at i p = option_map_or (failing w words i p.field p.at) (word_at w words p) (1 ∷ [])

  -- the refusals at a word name its address, its field and the clause
  abbrev pub refused_at : ℕ → Place → List Verdict
  refused_at i p =
      map (λ clause. No (p.address + 8 * (offset w (number p.field) + p.at)) (number p.field) clause)
      (failing_at i p)

  -- ---- chains

  -- the field that a chain follows: a task's scheduling task, a region's enclosing region
  abbrev pub chain_field : ℕ → Field
  chain_field address = if is_region w words address then RegionEnclosing else TaskScheduling

  -- clauses 7 and 8: a chain of scheduling tasks, and one of enclosing regions, ends
  abbrev pub chain_clause : ℕ → ℕ
  chain_clause address = if is_region w words address then 8 else 7

  -- the next record of a chain
  abbrev pub next_in_chain : ℕ → Option ℕ
  next_in_chain address =
      slice_get (named_at w words (record { address = address; field = chain_field address; at = 0 })) 0

  -- the first of the next n records of a chain that was met on it before
  abbrev pub met_again : ℕ → List ℕ → ℕ → Option ℕ
  met_again zero met address = None
  met_again (suc n) met address =
      if was_met met address then Some address
      else option_and_then (met_again n (address ∷ met)) (next_in_chain address)

  -- the refusal of a chain that doesn't end names the first record that it meets a second time
  abbrev pub refused_chain : ℕ → List Verdict
  refused_chain address =
      option_map_or
      (λ again. No again (number (chain_field address)) (chain_clause address) ∷ [])
      (met_again (suc (all_records w words)) [] address) []

  -- ---- the verdict

  -- all refusals in their order: the runtime record, the threads, the records as the search meets them, and then the chains from these records
  abbrev pub refusals : List Verdict
  refusals =
      flat_map (refused_at 0) (runtime_places w words)
      ++ flat_map (λ i. flat_map (refused_at i) (thread_places w words i)) (range_with_len 0 (thread_count w))
      ++ flat_map (λ address. flat_map (refused_at 0) (record_places w words address)) (reached w words)
      ++ flat_map refused_chain (reached w words)

  -- the first refusal, or Yes with the number of records
  abbrev pub verdict : Verdict
  verdict = option_map_or (λ no. no) (slice_get refusals 0) (Yes (length (reached w words)))
