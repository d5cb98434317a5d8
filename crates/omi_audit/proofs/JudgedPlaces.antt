-- Words that are judged one after the other: as long as no clause fails nothing is refused, and the first that fails is the first refusal of all.
use Rattle.std.proofs.Common.{◌≡◌, ℕ, suc, ◌<◌, List, [], ◌∷◌, ◌++◌, take, drop, length, Some, refl, sym, ap, subst, ◌∙◌, arith}
use Rattle.std.specs.Prelude.{Result, slice_get}
use Rattle.std.specs.Result.{IsErrAnd}
use Rattle.std.specs.Option.{option_map, option_map_or}
use Rattle.std.specs.List.{flat_map}
use Rattle.std.proofs.lemmas.Grind.{flat_map-append}
use Rattle.std.proofs.lemmas.List.{append-nil, take-append-drop}
use Rattle.std.proofs.lemmas.List.FromFn.{length-map-range_with_len, get_or-map-range_with_len}
use Rattle.std.proofs.lemmas.List.Sums.{fold-append}
use Rattle.std.proofs.lemmas.Option.{slice_get-get_or, slice_get-map}
use Rattle.std.proofs.lemmas.Result.{err_from_is_err_and}
use Rattle.omi_layout.specs.declared.field.Field.{Field}
use Rattle.omi_word.specs.Words.{Words}
use Rattle.omi_audit.specs.declared.search.Search.{Search}
use Rattle.omi_audit.specs.declared.stop.Stop.{Stop}
use Rattle.omi_audit.specs.declared.stop.Stop.TheVariants.{Fails, Fault}
use Rattle.omi_audit.specs.declared.verdict.Verdict.{Verdict}
use Rattle.omi_audit.specs.declared.judging.Found.{Found}
use Rattle.omi_audit.specs.Found.{next_with, count_with}
use Rattle.omi_audit.specs.Search.{Place, places_of, elements_of, word_at, number_in, named_at}
use Rattle.omi_audit.specs.Verdicts.{refused_at}
use Rattle.omi_audit.specs.Judged.{place_at, said_by, refused_among, Meets, MeetsNamed, IsFine, IsFirst, IsJudged, Judges}
use Rattle.omi_audit.proofs.NamedWords.{meets_none, meets_then}
use Rattle.omi_audit.proofs.Rounds.{take_one}

-- the first of some is the first of more
pub first_more : (stop : Stop) (l rest : List Verdict) → IsFirst l stop → IsFirst (l ++ rest) stop
first_more (Fails addr field clause) [] rest is = absurd (cc)
first_more (Fails addr field clause) (x ∷ xs) rest is = is
first_more (Fault fault) l rest is = tt

-- what stopped a part of the code stops it all
pub judges_stop : {A : Type 0} (l : List Verdict) (Known : A → Type 0) (r : Result A Stop) (stop : Stop)
    → IsErrAnd r (λ other. other ≡ stop) → IsFirst l stop → Judges l Known r
judges_stop l Known r stop is first =
    let stopped = err_from_is_err_and {Q = λ other. other ≡ stop} r is in
    rw (stopped.1, stopped.2) first

-- what is refused of some things in their order
module _ {A : Type 0} (refused : A → List Verdict) (xs : List A) (k : ℕ) (x : A) (at : slice_get xs k ≡ Some x) where
  pub refused_next : flat_map refused (take k xs) ≡ [] → flat_map refused (take (suc k) xs) ≡ refused x
  refused_next none =
      ap (flat_map refused) (take_one xs k x at)
      ∙ flat_map-append refused (take k xs) (x ∷ [])
      ∙ ap (λ l. l ++ (refused x ++ [])) none
      ∙ append-nil (refused x)

  pub refused_first : (stop : Stop) → flat_map refused (take k xs) ≡ [] → IsFirst (refused x) stop
      → IsFirst (flat_map refused xs) stop
  refused_first stop none first =
      let whole : flat_map refused xs ≡ refused x ++ flat_map refused (drop (suc k) xs) =
      ap (flat_map refused) (sym (take-append-drop (suc k) xs))
      ∙ flat_map-append refused (take (suc k) xs) (drop (suc k) xs)
      ∙ ap (λ l. l ++ flat_map refused (drop (suc k) xs)) (refused_next none) in
      subst (λ l. IsFirst l stop) (sym whole) (first_more stop (refused x) (flat_map refused (drop (suc k) xs)) first)

-- what some things name in their order
pub named_next : {A B : Type 0} (names : A → List B) (xs : List A) (k : ℕ) (x : A) → slice_get xs k ≡ Some x
    → flat_map names (take (suc k) xs) ≡ flat_map names (take k xs) ++ names x
named_next names xs k x at =
    ap (flat_map names) (take_one xs k x at)
    ∙ flat_map-append names (take k xs) (x ∷ [])
    ∙ ap (λ l. flat_map names (take k xs) ++ l) (append-nil (names x))

-- the k-th element of a field
pub element_at : (address : ℕ) (f : Field) (n k : ℕ) → k < n
    → slice_get (elements_of address f n) k ≡ Some (place_at address f k)
element_at address f n k within =
    let long : length (elements_of address f n) ≡ n = length-map-range_with_len (place_at address f) 0 n in
    slice_get-get_or (elements_of address f n) k (place_at address f 0) (omega (arith, long, within))
    ∙ ap (λ (p : Place). Some p) (get_or-map-range_with_len (place_at address f) 0 n k k (place_at address f 0) within (omega arith))

module _ (w : List ℕ) (words : Words) (i : ℕ) where
  -- no clause fails at these places, and what they name is met
  abbrev pub AreFine : List Place → Search → Search → Type 0
  AreFine places a b = IsFine (refused_among w words i places) (MeetsNamed w words places a b)

  pub fine_start : (s : Search) → AreFine [] s s
  fine_start s = record { none = refl; known = meets_none w words s [] refl }

  module _ (places : List Place) (k : ℕ) (p : Place) (at : slice_get places k ≡ Some p) where
    pub fine_next : (a b c : Search) (found : ℕ) → AreFine (take k places) a b
        → IsFine (refused_at w words i p) (IsJudged w words p b c found) → AreFine (take (suc k) places) a c
    fine_next a b c found before now = record {
      none = refused_next (refused_at w words i) places k p at before.none ∙ now.none;
      known = subst (λ l. Meets w words l a c) (sym (named_next (named_at w words) places k p at))
          (meets_then w words a b c (flat_map (named_at w words) (take k places)) (named_at w words p) before.known now.known.meets);
    }

    pub fine_stop : (stop : Stop) → refused_among w words i (take k places) ≡ []
        → IsFirst (refused_at w words i p) stop → IsFirst (refused_among w words i places) stop
    fine_stop stop none first = refused_first (refused_at w words i) places k p at stop none first

-- ---- the fields of a record

-- what these fields of a record say is found
pub record AreSaid (w : List ℕ) (words : Words) (address : ℕ) (fields : List Field) (found : Found) : Type 0 where
  pub next : found.next ≡ said_by w words next_with address fields
  pub count : found.count ≡ said_by w words count_with address fields

module _ (w : List ℕ) (words : Words) (address : ℕ) (fields : List Field) (k : ℕ) (f : Field)
    (at : slice_get fields k ≡ Some f) where
  -- the first word of the k-th field
  pub field_place : slice_get (places_of address fields) k ≡ Some (place_at address f 0)
  field_place =
      slice_get-map (λ g. place_at address g 0) fields k ∙ ap (option_map (λ g. place_at address g 0)) at

  -- what it says is what the word there says
  said_more : (say : ℕ → Field → ℕ → ℕ) (found : ℕ) → word_at w words (place_at address f 0) ≡ Some found
      → said_by w words say address (take (suc k) fields) ≡ say (said_by w words say address (take k fields)) f found
  said_more say found word =
      ap (said_by w words say address) (take_one fields k f at)
      ∙ fold-append (λ said g. say said g (number_in w words address g)) 0 (take k fields) (f ∷ [])
      ∙ ap (λ o. say (said_by w words say address (take k fields)) f (option_map_or (λ one. one) o 0)) word

  pub said_next : (before now : Found) (found : ℕ) → word_at w words (place_at address f 0) ≡ Some found
      → AreSaid w words address (take k fields) before
      → now.next ≡ next_with before.next f found → now.count ≡ count_with before.count f found
      → AreSaid w words address (take (suc k) fields) now
  said_next before now found word said next count = record {
    next = next ∙ ap (λ x. next_with x f found) said.next ∙ sym (said_more next_with found word);
    count = count ∙ ap (λ x. count_with x f found) said.count ∙ sym (said_more count_with found word);
  }
