-- Records are judged word by word: what their fields name and then what the elements behind them name is met, and the first refusal is the first.
use Rattle.std.proofs.Common.{◌≡◌, inl, inr, ℕ, zero, suc, ◌+◌, ◌<◌, ◌≤◌, Bool, true, cond, List, [], ◌∷◌, ◌++◌, map, take, length, Some, refl, sym, ap, subst, ◌∙◌, arith, append_assoc}
use Rattle.std.specs.Prelude.{◌==◌, Result, nat_eq, slice_get}
use Rattle.std.specs.Option.{option_map_or}
use Rattle.std.specs.List.{flat_map, range_with_len}
use Rattle.indexmap.specs.IndexSet.{insert_all}
use Rattle.std.proofs.lemmas.Grind.{flat_map-append}
use Rattle.std.proofs.lemmas.List.{append-nil, map-append}
use Rattle.std.proofs.lemmas.List.FromFn.{length-range_with_len, get_or-range_with_len, length-map-range_with_len}
use Rattle.std.proofs.lemmas.Option.{slice_get-get_or}
use Rattle.omi_calls.specs.Told.{Told}
use Rattle.omi_layout.specs.declared.field.Field.{Field}
use Rattle.omi_layout.specs.declared.field.Field.TheVariants.{ThreadLife, ThreadNative, ThreadCurrent, ThreadState, RegionEnclosing, TaskScheduling}
use Rattle.omi_word.specs.Words.{Words}
use Rattle.omi_rep.specs.Records.{thread_address}
use Rattle.omi_session.specs.Opened.{Opened, StaysWhole}
use Rattle.omi_session.proofs.Told.{stays_then}
use Rattle.omi_audit.specs.declared.judging.Found.{Found}
use Rattle.omi_audit.specs.declared.search.Search.{Search}
use Rattle.omi_audit.specs.declared.stop.Stop.{Stop}
use Rattle.omi_audit.specs.Found.{count_with}
use Rattle.omi_audit.specs.Search.{Place, places_of, elements_of, word_at, number_in, named_at, is_region, thread_places, region_places, task_places, record_places}
use Rattle.omi_audit.specs.Verdicts.{refused_at, chain_field}
use Rattle.omi_audit.specs.Judged.{OverKept, all_places, place_at, said_by, has_begun, lives, refused_among, refused_thread, refused_record, named_by_thread, Grows, Knows, Meets, MeetsNamed, Judges, IsFine, IsFirst, IsFound, IsJudged, IsLinked, IsThread, AreThreads, IsRecord}
use Rattle.omi_audit.proofs.FirstOnes.{has, or_cases, has_with_all, with_all_then}
use Rattle.omi_audit.proofs.Reaches.{each_named, places_live}
use Rattle.omi_audit.proofs.Rounds.{take_one}
use Rattle.omi_audit.proofs.JudgedPlaces.{AreFine, first_more, refused_next, named_next}
use Rattle.omi_audit.proofs.KeptOn.{kept_on}
use Rattle.omi_audit.proofs.NamedWords.{meets_then, still_knows_named}

-- ---- words behind others

module _ (w : List ℕ) (words : Words) (i : ℕ) where
  module _ (xs ys : List Place) where
    refused_both : refused_among w words i (xs ++ ys) ≡ refused_among w words i xs ++ refused_among w words i ys
    refused_both = flat_map-append (refused_at w words i) xs ys

    pub fine_then : (a b c : Search) → AreFine w words i xs a b → AreFine w words i ys b c
        → AreFine w words i (xs ++ ys) a c
    fine_then a b c first second = record {
      none = refused_both ∙ ap (λ l. l ++ refused_among w words i ys) first.none ∙ second.none;
      known = subst (λ l. Meets w words l a c) (sym (flat_map-append (named_at w words) xs ys))
          (meets_then w words a b c (flat_map (named_at w words) xs) (flat_map (named_at w words) ys) first.known second.known);
    }

    pub stops_first : (stop : Stop) → IsFirst (refused_among w words i xs) stop
        → IsFirst (refused_among w words i (xs ++ ys)) stop
    stops_first stop first =
        subst (λ l. IsFirst l stop) (sym refused_both)
        (first_more stop (refused_among w words i xs) (refused_among w words i ys) first)

    pub stops_then : (stop : Stop) → refused_among w words i xs ≡ [] → IsFirst (refused_among w words i ys) stop
        → IsFirst (refused_among w words i (xs ++ ys)) stop
    stops_then stop none first =
        subst (λ l. IsFirst l stop) (sym (refused_both ∙ ap (λ l. l ++ refused_among w words i ys) none)) first

  -- one word
  module _ (p : Place) where
    pub one_fine : (a b : Search) (found : ℕ) → IsFine (refused_at w words i p) (IsJudged w words p a b found)
        → AreFine w words i (p ∷ []) a b
    one_fine a b found fine = record {
      none = append-nil (refused_at w words i p) ∙ fine.none;
      known = subst (λ l. Meets w words l a b) (sym (append-nil (named_at w words p))) fine.known.meets;
    }

    pub one_stops : (stop : Stop) → IsFirst (refused_at w words i p) stop → IsFirst (refused_among w words i (p ∷ [])) stop
    one_stops stop first = subst (λ l. IsFirst l stop) (sym (append-nil (refused_at w words i p))) first

-- the fields of a record, and the elements behind them
module _ (w : List ℕ) (words : Words) (address : ℕ) (fields : List Field) (last : Field) where
  pub whole_fine : (a b c : Search) (found : Found)
      → IsFine (refused_among w words 0 (places_of address fields)) (IsFound w words address fields a b found)
      → AreFine w words 0 (elements_of address last found.count) b c → AreFine w words 0 (all_places w words address fields last) a c
  whole_fine a b c found front behind =
      fine_then w words 0 (places_of address fields) (elements_of address last (said_by w words count_with address fields)) a b c
      (record { none = front.none; known = front.known.meets })
      (subst (λ n. AreFine w words 0 (elements_of address last n) b c) front.known.count behind)

  pub whole_stops : (a b : Search) (found : Found) (stop : Stop)
      → IsFine (refused_among w words 0 (places_of address fields)) (IsFound w words address fields a b found)
      → IsFirst (refused_among w words 0 (elements_of address last found.count)) stop
      → IsFirst (refused_among w words 0 (all_places w words address fields last)) stop
  whole_stops a b found stop front behind =
      stops_then w words 0 (places_of address fields) (elements_of address last (said_by w words count_with address fields)) stop front.none
      (subst (λ n. IsFirst (refused_among w words 0 (elements_of address last n)) stop) front.known.count behind)

-- the same of calls that judge them one after the other
module _ {C F : Type 0} (told : C → Told) (s t : Opened C F) (stays : StaysWhole told s t) (a b c : Search)
    (address : ℕ) (fields : List Field) (last : Field) (found : Found)
    (front : OverKept told s a (λ m. IsFine (refused_among s.layout m 0 (places_of address fields)) (IsFound s.layout m address fields a b found))) where
  pub behind_fine : OverKept told t b (λ m. IsFine (refused_among t.layout m 0 (elements_of address last found.count)) (MeetsNamed t.layout m (elements_of address last found.count) b c))
      → OverKept told s a (λ m. AreFine s.layout m 0 (all_places s.layout m address fields last) a c)
  behind_fine behind memory tells known =
      let fine = front memory tells known in
      whole_fine s.layout memory address fields last a b c found fine
      (kept_on told s t b (λ l m. IsFine (refused_among l m 0 (elements_of address last found.count)) (MeetsNamed l m (elements_of address last found.count) b c))
      stays behind memory tells (still_knows_named s.layout memory a b (places_of address fields) known fine.known.meets))

  pub behind_stops : (stop : Stop) → OverKept told t b (λ m. IsFirst (refused_among t.layout m 0 (elements_of address last found.count)) stop)
      → OverKept told s a (λ m. IsFirst (refused_among s.layout m 0 (all_places s.layout m address fields last)) stop)
  behind_stops stop behind memory tells known =
      let fine = front memory tells known in
      whole_stops s.layout memory address fields last a b found stop fine
      (kept_on told s t b (λ l m. IsFirst (refused_among l m 0 (elements_of address last found.count)) stop)
      stays behind memory tells (still_knows_named s.layout memory a b (places_of address fields) known fine.known.meets))

-- calls that judge words one after the other
module _ {C F : Type 0} (told : C → Told) (s t : Opened C F) (stays : StaysWhole told s t) (a b c : Search)
    (xs ys : List ℕ → Words → List Place) (first : OverKept told s a (λ m. AreFine s.layout m 0 (xs s.layout m) a b)) where
  pub knows_then : OverKept told s a (λ m. Knows s.layout m b)
  knows_then memory tells known =
      still_knows_named s.layout memory a b (xs s.layout memory) known (first memory tells known).known

  pub fine_both : OverKept told t b (λ m. AreFine t.layout m 0 (ys t.layout m) b c)
      → OverKept told s a (λ m. AreFine s.layout m 0 (xs s.layout m ++ ys s.layout m) a c)
  fine_both second memory tells known =
      fine_then s.layout memory 0 (xs s.layout memory) (ys s.layout memory) a b c (first memory tells known)
      (kept_on told s t b (λ l m. AreFine l m 0 (ys l m) b c) stays second memory tells (knows_then memory tells known))

  pub stops_both : (stop : Stop) → OverKept told t b (λ m. IsFirst (refused_among t.layout m 0 (ys t.layout m)) stop)
      → OverKept told s a (λ m. IsFirst (refused_among s.layout m 0 (xs s.layout m ++ ys s.layout m)) stop)
  stops_both stop second memory tells known =
      stops_then s.layout memory 0 (xs s.layout memory) (ys s.layout memory) stop (first memory tells known).none
      (kept_on told s t b (λ l m. IsFirst (refused_among l m 0 (ys l m)) stop) stays second memory tells (knows_then memory tells known))

-- ---- what is kept

pub grows_then : {a b c : Search} {xs ys : List ℕ} {ms ns : List ℕ} {fs gs : List Bool} → Grows xs ms fs a b → Grows ys ns gs b c
    → Grows (xs ++ ys) (ms ++ ns) (fs ++ gs) a c
grows_then {a} {b} {c} {xs} {ys} {ms} {ns} {fs} {gs} first second = record {
  met = second.met ∙ ap (λ l. insert_all nat_eq l ys) first.met ∙ sym (with_all_then a.met.keys xs ys);
  links = second.links ∙ ap (λ l. l ++ ns) first.links ∙ append_assoc a.links.items ms ns;
  begun = second.begun ∙ ap (λ l. l ++ gs) first.begun ∙ append_assoc a.begun.items fs gs;
}

pub grows_none : (s : Search) → Grows [] [] [] s s
grows_none s = record {
  met = refl;
  links = sym (append-nil s.links.items);
  begun = sym (append-nil s.begun.items);
}

module _ (w : List ℕ) (words : Words) where
  -- what is known stays known
  pub still_knows_grown : (a b : Search) (named following : List ℕ) (started : List Bool)
      → ((x : ℕ) → has named x ≡ true → lives w words x ≡ true) → Knows w words a → Grows named following started a b
      → b.begun.items ≡ map (has_begun w words) (range_with_len 0 (length b.begun.items)) → Knows w words b
  still_knows_grown a b named following started live known grows begun = record {
    met = λ x is. elim (or_cases (has a.met.keys x) (has named x) (sym (has_with_all a.met.keys named x) ∙ ap (λ l. has l x) (sym grows.met) ∙ is)) [
      | inl before ↦ known.met x before
      | inr now ↦ live x now
    ];
    begun = begun;
  }

-- ---- a region or a task

-- what is judged of a region's record is judged of the record, and so of a task's
module _ (w : List ℕ) (words : Words) (address : ℕ) (a b : Search) (r : Result ℕ Stop) where
  abbrev as_kind : Bool → Type 0
  as_kind region =
      Judges (refused_among w words 0 (cond region (region_places w words address) (task_places w words address)))
      (IsLinked w words address (cond region RegionEnclosing TaskScheduling) (cond region (region_places w words address) (task_places w words address)) a b) r

  pub judged_kind : (region : Bool) → is_region w words address ≡ region → as_kind region
      → Judges (refused_record w words address) (IsLinked w words address (chain_field w words address) (record_places w words address) a b) r
  judged_kind region is judged = subst as_kind (sym is) judged

-- and then the next one of its chain is kept
module _ (w : List ℕ) (words : Words) (address : ℕ) where
  pub record_fine : (a b c : Search) (next : ℕ)
      → IsFine (refused_record w words address) (IsLinked w words address (chain_field w words address) (record_places w words address) a b next)
      → c.met.keys ≡ b.met.keys → c.links.items ≡ b.links.items ++ next ∷ [] → c.begun.items ≡ b.begun.items
      → IsFine (refused_record w words address) (IsRecord w words address a c)
  record_fine a b c next fine met links begun =
      let meets = fine.known.meets in
      record {
        none = fine.none;
        known = record {
          met = met ∙ meets.met;
          links = links ∙ ap (λ l. l ++ next ∷ []) meets.links ∙ ap (λ n. a.links.items ++ n ∷ []) fine.known.next;
          begun = begun ∙ meets.begun ∙ sym (append-nil a.begun.items);
        };
      }

-- ---- threads

-- a thread's first words, and those that are judged where it has begun
abbrev pub first_places : ℕ → List Place
first_places a = places_of a (ThreadLife ∷ ThreadNative ∷ [])

abbrev pub begun_places : ℕ → Bool → List Place
begun_places a begun = cond begun (places_of a (ThreadCurrent ∷ ThreadState ∷ [])) []

module _ (w : List ℕ) (words : Words) (i a : ℕ) where
  pub first_fine : (s t u : Search) (life native : ℕ)
      → IsFine (refused_at w words i (place_at a ThreadLife 0)) (IsJudged w words (place_at a ThreadLife 0) s t life)
      → IsFine (refused_at w words i (place_at a ThreadNative 0)) (IsJudged w words (place_at a ThreadNative 0) t u native)
      → AreFine w words i (first_places a) s u
  first_fine s t u life native first second =
      fine_then w words i (place_at a ThreadLife 0 ∷ []) (place_at a ThreadNative 0 ∷ []) s t u
      (one_fine w words i (place_at a ThreadLife 0) s t life first) (one_fine w words i (place_at a ThreadNative 0) t u native second)

module _ (w : List ℕ) (words : Words) (i a : ℕ) (there : a ≡ thread_address w i) where
  pub begun_by : (life : ℕ) → word_at w words (place_at a ThreadLife 0) ≡ Some life → has_begun w words i ≡ (life == 1)
  begun_by life word =
      ap (λ x. number_in w words x ThreadLife == 1) (sym there)
      ∙ ap (λ o. option_map_or (λ one. one) o 0 == 1) word

  pub places_by : (begun : Bool) → has_begun w words i ≡ begun → thread_places w words i ≡ (first_places a) ++ begun_places a begun
  places_by begun is =
      ap (λ x. places_of x (ThreadLife ∷ ThreadNative ∷ []) ++ cond (has_begun w words i) (places_of x (ThreadCurrent ∷ ThreadState ∷ [])) []) (sym there)
      ∙ ap (λ b. (first_places a) ++ begun_places a b) is

  -- no clause fails in the thread's record, and it is kept whether the thread has begun
  pub thread_fine : (s u v x : Search) (life : ℕ) (begun : Bool) → word_at w words (place_at a ThreadLife 0) ≡ Some life
      → (life == 1) ≡ begun → AreFine w words i (first_places a) s u → AreFine w words i (begun_places a begun) u v
      → x.met.keys ≡ v.met.keys → x.links.items ≡ v.links.items → x.begun.items ≡ v.begun.items ++ begun ∷ []
      → IsFine (refused_thread w words i) (IsThread w words i s x)
  thread_fine s u v x life begun word is first second met links kept =
      let all = fine_then w words i (first_places a) (begun_places a begun) s u v first second in
      let has = begun_by life word ∙ is in
      let places = places_by begun has in
      record {
        none = ap (refused_among w words i) places ∙ all.none;
        known = record {
          met = met ∙ all.known.met ∙ ap (λ l. insert_all nat_eq s.met.keys (flat_map (named_at w words) l)) (sym places);
          links = links ∙ all.known.links ∙ sym (append-nil s.links.items);
          begun = kept ∙ ap (λ l. l ++ begun ∷ []) all.known.begun ∙ ap (λ b. s.begun.items ++ b ∷ []) (sym has);
        };
      }

  -- a clause fails there
  pub thread_stops : (life : ℕ) (begun : Bool) (stop : Stop) → word_at w words (place_at a ThreadLife 0) ≡ Some life
      → (life == 1) ≡ begun → IsFirst (refused_among w words i ((first_places a) ++ begun_places a begun)) stop
      → IsFirst (refused_thread w words i) stop
  thread_stops life begun stop word is first =
      subst (λ l. IsFirst (refused_among w words i l) stop) (sym (places_by begun (begun_by life word ∙ is))) first

  -- the first words of it
  pub first_stops : (begun : Bool) (stop : Stop) → has_begun w words i ≡ begun → IsFirst (refused_among w words i (first_places a)) stop
      → IsFirst (refused_thread w words i) stop
  first_stops begun stop is first =
      subst (λ l. IsFirst (refused_among w words i l) stop) (sym (places_by begun is))
      (stops_first w words i (first_places a) (begun_places a begun) stop first)

-- the same of calls that judge its words one after the other
module _ {C F : Type 0} (told : C → Told) (s t : Opened C F) (first : StaysWhole told s t) (i a : ℕ) (k l : Search) (life : ℕ)
    (lived : OverKept told s k (λ m. IsFine (refused_at s.layout m i (place_at a ThreadLife 0)) (IsJudged s.layout m (place_at a ThreadLife 0) k l life))) where
  pub after_life : (Q : List ℕ → Words → Type 0) → OverKept told t l (Q t.layout) → OverKept told s k (Q s.layout)
  after_life Q holds memory tells known =
      kept_on told s t l Q first holds memory tells
      (still_knows_named s.layout memory k l (place_at a ThreadLife 0 ∷ []) known
      (one_fine s.layout memory i (place_at a ThreadLife 0) k l life (lived memory tells known)).known)

  module _ (u : Opened C F) (second : StaysWhole told t u) (m : Search) (native : ℕ)
      (named : OverKept told t l (λ o. IsFine (refused_at t.layout o i (place_at a ThreadNative 0)) (IsJudged t.layout o (place_at a ThreadNative 0) l m native))) where
    pub both_fine : OverKept told s k (λ o. AreFine s.layout o i (first_places a) k m)
    both_fine memory tells known =
        first_fine s.layout memory i a k l m life native (lived memory tells known)
        (after_life (λ w o. IsFine (refused_at w o i (place_at a ThreadNative 0)) (IsJudged w o (place_at a ThreadNative 0) l m native)) named memory tells known)

    pub after_both : (Q : List ℕ → Words → Type 0) → OverKept told u m (Q u.layout) → OverKept told s k (Q s.layout)
    after_both Q holds memory tells known =
        kept_on told s u m Q (stays_then told s t u first second) holds memory tells
        (still_knows_named s.layout memory k m (first_places a) known (both_fine memory tells known).known)

-- all threads
pub take_range : (a n k : ℕ) → k ≤ n → take k (range_with_len a n) ≡ range_with_len a k
take_range a n zero low = refl
take_range a zero (suc k) low = absurd (omega arith)
take_range a (suc n) (suc k) low = ap (λ l. a ∷ l) (take_range (a + 1) n k (omega arith))

pub range_at : (n k : ℕ) → k < n → slice_get (range_with_len 0 n) k ≡ Some k
range_at n k within =
    slice_get-get_or (range_with_len 0 n) k 0 (let long = length-range_with_len 0 n in omega (arith, long, within))
    ∙ ap (λ (x : ℕ). Some x) (get_or-range_with_len 0 n k 0 within ∙ (let e : 0 + k ≡ k = omega arith in e))

module _ (w : List ℕ) (words : Words) where
  pub threads_next : (n k : ℕ) (a b c : Search) → k < n
      → IsFine (flat_map (refused_thread w words) (take k (range_with_len 0 n))) (AreThreads w words (take k (range_with_len 0 n)) a b)
      → IsFine (refused_thread w words k) (IsThread w words k b c)
      → IsFine (flat_map (refused_thread w words) (take (suc k) (range_with_len 0 n))) (AreThreads w words (take (suc k) (range_with_len 0 n)) a c)
  threads_next n k a b c within before now =
      let at = range_at n k within in
      let both = grows_then before.known now.known in
      record {
        none = refused_next (refused_thread w words) (range_with_len 0 n) k k at before.none ∙ now.none;
        known = record {
          met = both.met ∙ ap (insert_all nat_eq a.met.keys) (sym (named_next (named_by_thread w words) (range_with_len 0 n) k k at));
          links = both.links;
          begun = both.begun ∙ ap (λ l. a.begun.items ++ l)
              (sym (ap (map (has_begun w words)) (take_one (range_with_len 0 n) k k at) ∙ map-append (has_begun w words) (take k (range_with_len 0 n)) (k ∷ [])));
        };
      }

  threads_live : (some : List ℕ) (x : ℕ) → has (flat_map (named_by_thread w words) some) x ≡ true → lives w words x ≡ true
  threads_live some x is =
      each_named (λ y. lives w words y ≡ true) (named_by_thread w words)
      (λ i y is. places_live w words (thread_places w words i) y is) some x is

  pub knows_threads : (n k : ℕ) (a b : Search) → k ≤ n → length a.begun.items ≡ 0 → Knows w words a
      → AreThreads w words (take k (range_with_len 0 n)) a b → Knows w words b
  knows_threads n k a b low none known threads =
      let some = take_range 0 n k low in
      let begun : b.begun.items ≡ map (has_begun w words) (range_with_len 0 k) =
      threads.begun ∙ ap (λ l. l ++ map (has_begun w words) (take k (range_with_len 0 n))) (empty a.begun.items none) ∙ ap (map (has_begun w words)) some in
      let long : length b.begun.items ≡ k = ap length begun ∙ length-map-range_with_len (has_begun w words) 0 k in
      still_knows_grown w words a b (flat_map (named_by_thread w words) (take k (range_with_len 0 n))) [] (map (has_begun w words) (take k (range_with_len 0 n)))
      (threads_live (take k (range_with_len 0 n))) known threads
      (begun ∙ ap (λ m. map (has_begun w words) (range_with_len 0 m)) (sym long))
    where
      empty : (l : List Bool) → length l ≡ 0 → l ≡ []
      empty [] is = refl
      empty (x ∷ xs) is = absurd (omega arith)
