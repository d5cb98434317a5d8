-- The records that are met are judged in their turn: they are the first of those that the search reaches, and at its end all of them.
use Rattle.std.proofs.Common.{◌≡◌, inl, inr, ℕ, zero, suc, ◌<◌, ◌≤◌, List, [], ◌∷◌, ◌++◌, map, take, length, Some, refl, sym, ap, subst, ◌∙◌, arith}
use Rattle.std.specs.Prelude.{nat_eq, slice_get}
use Rattle.std.specs.List.{flat_map, range_with_len}
use Rattle.std.proofs.Math.Seq.{take-length}
use Rattle.std.proofs.lemmas.List.{append-nil, map-append, take-append-le}
use Rattle.std.proofs.lemmas.Option.{slice_get_within, slice_get_cases}
use Rattle.omi_word.specs.Words.{Words}
use Rattle.omi_audit.specs.declared.search.Search.{Search}
use Rattle.omi_audit.specs.declared.stop.Stop.{Stop}
use Rattle.indexmap.specs.IndexSet.{insert_all}
use Rattle.omi_audit.specs.Search.{named_by, current_tasks, record_places, all_records, reached}
use Rattle.omi_audit.specs.Judged.{Knows, Starts, IsFine, IsFirst, IsRecord, IsSearched, has_begun, link_of, refused_record}
use Rattle.omi_audit.proofs.FirstOnes.{with_all, Begins, begins_then, with_all_begins, with_all_then}
use Rattle.omi_audit.proofs.JudgedPlaces.{refused_next, refused_first}
use Rattle.omi_audit.proofs.JudgedRecords.{still_knows_grown}
use Rattle.omi_audit.proofs.Reaches.{record_addresses, lives_within, places_live, current_live, met_in_rounds, all_long}
use Rattle.omi_audit.proofs.Rounds.{take_one, IsGoing, going_first, going_next, going_begins, going_done, round_later, few_met}

pub front_at : {A : Type 0} (xs ys : List A) (k : ℕ) (x : A) → slice_get xs k ≡ Some x → slice_get (xs ++ ys) k ≡ Some x
front_at [] ys k x is = absurd (cc)
front_at (y ∷ xs) ys zero x is = is
front_at (y ∷ xs) ys (suc k) x is = front_at xs ys k x is

pub past_end : (xs : List ℕ) (k : ℕ) → ((x : ℕ) → slice_get xs k ≡ Some x → ⊥) → length xs ≤ k
past_end xs k none = elim (slice_get_cases xs k).1 [
  | inl there ↦ absurd (none there.0 there.2)
  | inr past ↦ past.0
]

pub begins_take : {xs ys : List ℕ} (k : ℕ) → k ≤ length xs → Begins xs ys → take k ys ≡ take k xs
begins_take {xs} {ys} k within b = ap (take k) b.is ∙ take-append-le k xs b.rest within

module _ (w : List ℕ) (words : Words) where
  -- the first k records that were met were judged
  pub record IsJudging (k : ℕ) (s : Search) : Type 0 where
    pub going : IsGoing (current_tasks w words) (named_by w words) k s.met.keys
    pub none : flat_map (refused_record w words) (take k s.met.keys) ≡ []
    pub links : s.links.items ≡ map (link_of w words) (take k s.met.keys)
    pub knows : Knows w words s

  pub judging_first : (s : Search) → Starts w words s → Knows w words s → IsJudging 0 s
  judging_first s starts knows = record {
    going = subst (IsGoing (current_tasks w words) (named_by w words) 0) (sym starts.met) (going_first (current_tasks w words) (named_by w words));
    none = refl;
    links = starts.links;
    knows = knows;
  }

  -- what was met is what began the search and what the records that were judged name
  pub judging_met : (k : ℕ) (s t : Search) → Starts w words s → IsJudging k t
      → t.met.keys ≡ insert_all nat_eq s.met.keys (flat_map (named_by w words) (take k t.met.keys))
  judging_met k s t starts j =
      let X = flat_map (named_by w words) (take k t.met.keys) in
      j.going.is ∙ with_all_then [] (current_tasks w words) X ∙ ap (λ l. with_all l X) (sym starts.met)

  pub few : (k : ℕ) (s : Search) → IsJudging k s → length s.met.keys ≤ all_records w words
  few k s j =
      let most =
      few_met (current_tasks w words) (named_by w words) (record_addresses w)
      (λ a is. lives_within w words a (current_live w words a is))
      (λ by a is. lives_within w words a (places_live w words (record_places w words by) a is)) (take k s.met.keys) in
      let long = all_long w words in
      let same = ap length j.going.is in
      omega (arith, most, long, same)

  -- what was met is reached, in the same order
  pub met_begins : (k : ℕ) (s : Search) → k < all_records w words → IsJudging k s → Begins s.met.keys (reached w words)
  met_begins k s within j =
      subst (Begins s.met.keys) (sym (met_in_rounds w words (all_records w words)))
      (begins_then (going_begins (current_tasks w words) (named_by w words) j.going)
      (round_later (current_tasks w words) (named_by w words) (suc k) (all_records w words) (omega (arith, within))))

  pub judging_next : (k : ℕ) (s t : Search) (x : ℕ) → slice_get s.met.keys k ≡ Some x → IsJudging k s
      → IsFine (refused_record w words x) (IsRecord w words x s t) → IsJudging (suc k) t
  judging_next k s t x at j fine =
      let grown = fine.known in
      let past : k < length s.met.keys = slice_get_within s.met.keys k x at in
      let more : take (suc k) t.met.keys ≡ take (suc k) s.met.keys =
      ap (take (suc k)) grown.met ∙ begins_take (suc k) (omega (arith, past)) (with_all_begins s.met.keys (named_by w words x)) in
      record {
        going = subst (IsGoing (current_tasks w words) (named_by w words) (suc k)) (sym grown.met) (going_next (current_tasks w words) (named_by w words) x j.going at);
        none = ap (flat_map (refused_record w words)) more ∙ refused_next (refused_record w words) s.met.keys k x at j.none ∙ fine.none;
        links = grown.links ∙ ap (λ l. l ++ link_of w words x ∷ []) j.links
            ∙ sym (ap (map (link_of w words)) (more ∙ take_one s.met.keys k x at) ∙ map-append (link_of w words) (take k s.met.keys) (x ∷ []));
        knows = still_knows_grown w words s t (named_by w words x) (link_of w words x ∷ []) [] (places_live w words (record_places w words x)) j.knows grown
            (subst (λ l. l ≡ map (has_begun w words) (range_with_len 0 (length l))) (sym (grown.begun ∙ append-nil s.begun.items)) j.knows.begun);
      }

  pub judging_stops : (k : ℕ) (s : Search) (x : ℕ) (stop : Stop) → k < all_records w words → slice_get s.met.keys k ≡ Some x → IsJudging k s
      → IsFirst (refused_record w words x) stop → IsFirst (flat_map (refused_record w words) (reached w words)) stop
  judging_stops k s x stop within at j first =
      let begins = met_begins k s within j in
      let past : k < length s.met.keys = slice_get_within s.met.keys k x at in
      refused_first (refused_record w words) (reached w words) k x (ap (λ l. slice_get l k) begins.is ∙ front_at s.met.keys begins.rest k x at) stop
      (ap (flat_map (refused_record w words)) (begins_take k (omega (arith, past)) begins) ∙ j.none) first

  -- all were
  pub judging_done : (k : ℕ) (s : Search) → length s.met.keys ≤ k → IsJudging k s
      → IsFine (flat_map (refused_record w words) (reached w words)) (IsSearched w words s)
  judging_done k s all j =
      let end : k ≡ length s.met.keys = (let low = j.going.within in omega (arith, all, low)) in
      let whole : take k s.met.keys ≡ s.met.keys = ap (λ n. take n s.met.keys) end ∙ take-length s.met.keys in
      let same : reached w words ≡ s.met.keys =
      met_in_rounds w words (all_records w words)
      ∙ going_done (current_tasks w words) (named_by w words) s.met.keys (subst (λ n. IsGoing (current_tasks w words) (named_by w words) n s.met.keys) end j.going)
      (all_records w words) (few k s j) in
      record {
        none = ap (flat_map (refused_record w words)) (same ∙ sym whole) ∙ j.none;
        known = record {
          met = sym same;
          links = j.links ∙ ap (map (link_of w words)) (whole ∙ sym same);
        };
      }

  pub judging_all : (k : ℕ) (s : Search) → all_records w words ≤ k → IsJudging k s
      → IsFine (flat_map (refused_record w words) (reached w words)) (IsSearched w words s)
  judging_all k s past j = let most = few k s j in judging_done k s (omega (arith, most, past)) j
