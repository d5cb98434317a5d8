-- What the verdict on any words gives: Yes a state that they show, and No that they show none that a workload reaches.
use Rattle.std.proofs.Common.{◌≡◌, ◌++◌, ℕ, suc, ◌+◌, ◌*◌, List, [], ◌∷◌, Option, Some, None, length, map, refl, subst, sym, ◌∙◌}
use Rattle.std.specs.Prelude.{⊤, slice_get}
use Rattle.std.specs.List.{flat_map, range_with_len}
use Rattle.std.specs.Option.{option_map_or}
use Rattle.omi_layout.specs.Given.{GivesLayout}
use Rattle.omi_layout.specs.Named.{number}
use Rattle.omi_layout.specs.Table.{offset, thread_count}
use Rattle.omi_layout.specs.Valid.{IsValid}
use Rattle.omi_word.specs.Words.{Words}
use Rattle.omi_audit.specs.declared.verdict.Verdict.{Verdict}
use Rattle.omi_audit.specs.declared.verdict.Verdict.TheVariants.{Yes, No}
use Rattle.omi_audit.specs.Promise.{GivesState, RefusesNoReached, ShowReached, ShowSome}
use Rattle.omi_audit.specs.Search.{Place, all_records, reached, record_places, runtime_places, thread_places}
use Rattle.omi_audit.specs.Verdicts.{chain_clause, chain_field, failing_at, met_again, refusals, refused_at, refused_chain, verdict}
use Rattle.omi_audit.proofs.JudgedAll.{of_chains, of_records, of_runtime, of_threads}
use Rattle.omi_audit.proofs.BuiltRight.{clear_parts}
use Rattle.omi_audit.proofs.BuiltShows.{clear_shows}
use Rattle.omi_audit.proofs.ReachedClear.{reached_clear}

-- ---- each refusal is a No

abbrev IsNo : Verdict → Type 0
IsNo (No addr field clause) = ⊤
IsNo (Yes records) = ⊥

abbrev AreNo : List Verdict → Type 0
AreNo [] = ⊤
AreNo (v ∷ vs) = IsNo v × AreNo vs

both_no : (xs ys : List Verdict) → AreNo xs → AreNo ys → AreNo (xs ++ ys)
both_no [] ys first more = more
both_no (x ∷ xs) ys (is, first) more = (is, both_no xs ys first more)

each_no : {A : Type 0} (f : A → List Verdict) → ((x : A) → AreNo (f x)) → (xs : List A)
    → AreNo (flat_map f xs)
each_no f each [] = tt
each_no f each (x ∷ xs) = both_no (f x) (flat_map f xs) (each x) (each_no f each xs)

made_no : (f : ℕ → Verdict) → ((clause : ℕ) → IsNo (f clause)) → (clauses : List ℕ) → AreNo (map f clauses)
made_no f each [] = tt
made_no f each (c ∷ cs) = (each c, made_no f each cs)

maybe_no : (f : ℕ → Verdict) → ((address : ℕ) → IsNo (f address)) → (met : Option ℕ)
    → AreNo (option_map_or (λ address. f address ∷ []) met [])
maybe_no f each None = tt
maybe_no f each (Some address) = (each address, tt)

module _ (w : List ℕ) (words : Words) where
  word_no : (i : ℕ) (p : Place) → AreNo (refused_at w words i p)
  word_no i p =
      made_no (λ clause. No (p.address + 8 * (offset w (number p.field) + p.at)) (number p.field) clause)
      (λ clause. tt) (failing_at w words i p)

  chain_no : (address : ℕ) → AreNo (refused_chain w words address)
  chain_no address =
      maybe_no (λ again. No again (number (chain_field w words address)) (chain_clause w words address))
      (λ again. tt) (met_again w words (suc (all_records w words)) [] address)

  all_no : AreNo (refusals w words)
  all_no =
      both_no (of_runtime w words ++ of_threads w words ++ of_records w words) (of_chains w words)
      (both_no (of_runtime w words ++ of_threads w words) (of_records w words)
      (both_no (of_runtime w words) (of_threads w words)
      (each_no (refused_at w words 0) (word_no 0) (runtime_places w words))
      (each_no (λ i. flat_map (refused_at w words i) (thread_places w words i))
      (λ i. each_no (refused_at w words i) (word_no i) (thread_places w words i)) (range_with_len 0 (thread_count w))))
      (each_no (λ address. flat_map (refused_at w words 0) (record_places w words address))
      (λ address. each_no (refused_at w words 0) (word_no 0) (record_places w words address)) (reached w words)))
      (each_no (refused_chain w words) chain_no (reached w words))

  -- ---- the verdict

  -- a fact on the verdict: where nothing is refused, and where something is
  by_refusals : (P : Verdict → Type 0) → (refusals w words ≡ [] → P (Yes (length (reached w words))))
      → ((addr field clause : ℕ) (more : List Verdict) → refusals w words ≡ No addr field clause ∷ more → P (No addr field clause))
      → P (verdict w words)
  by_refusals P none some = go (refusals w words) refl all_no
    where
      go : (found : List Verdict) → refusals w words ≡ found → AreNo found
          → P (option_map_or (λ v. v) (slice_get found 0) (Yes (length (reached w words))))
      go [] is all = none is
      go (Yes records ∷ more) is all = absurd all.0
      go (No addr field clause ∷ more) is all = some addr field clause more is

  pub gives_state : IsValid w → GivesState w words (verdict w words)
  gives_state valid =
      by_refusals (GivesState w words) (λ none. clear_shows w words valid (clear_parts w words none))
      (λ addr field clause more refused. tt)

  pub refuses_no_reached : IsValid w → RefusesNoReached w words (verdict w words)
  refuses_no_reached valid =
      by_refusals (RefusesNoReached w words) (λ none. tt)
      (λ addr field clause more refused shown.
      let none = reached_clear w words valid shown.program shown.events shown.state shown.reached shown.shows in
      let clash : [] ≡ No addr field clause ∷ more = sym none ∙ refused in
      cc)

  -- where it is Yes, the words show a state
  pub yes_shows : IsValid w → (records : ℕ) → verdict w words ≡ Yes records → GivesLayout words w
      → ShowSome w words
  yes_shows valid records is = subst (GivesState w words) is (gives_state valid)

  -- where it is No, they show no state that a workload reaches
  pub reached_yes : IsValid w → (addr field clause : ℕ) → verdict w words ≡ No addr field clause
      → ShowReached w words → ⊥
  reached_yes valid addr field clause is = subst (RefusesNoReached w words) is (refuses_no_reached valid)
