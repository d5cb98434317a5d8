-- The parts of an audit in their order: what the first of them that stops refuses is the first refusal of all.
use Rattle.std.proofs.Common.{◌≡◌, ℕ, List, [], ◌++◌, map, take, length, sym, ap, subst, ◌∙◌, arith}
use Rattle.std.specs.Prelude.{nat_eq}
use Rattle.std.specs.List.{flat_map, range_with_len}
use Rattle.indexmap.specs.IndexSet.{insert_all}
use Rattle.std.proofs.Math.Seq.{take-length}
use Rattle.std.proofs.lemmas.List.{append-nil}
use Rattle.std.proofs.lemmas.List.FromFn.{length-range_with_len}
use Rattle.omi_calls.specs.Told.{Told}
use Rattle.omi_layout.specs.Table.{thread_count}
use Rattle.omi_session.specs.Opened.{Opened, StaysWhole}
use Rattle.omi_session.specs.Tells.{Tells}
use Rattle.omi_session.proofs.Told.{stays_then}
use Rattle.omi_word.specs.Words.{Words}
use Rattle.omi_audit.specs.declared.search.Search.{Search}
use Rattle.omi_audit.specs.declared.stop.Stop.{Stop}
use Rattle.omi_audit.specs.declared.verdict.Verdict.{Verdict}
use Rattle.omi_audit.specs.Search.{runtime_places, current_tasks, reached}
use Rattle.omi_audit.specs.Verdicts.{refusals, refused_chain}
use Rattle.omi_audit.specs.Judged.{OverKept, Knows, MeetsNamed, Starts, AreThreads, IsFine, IsFirst, has_begun, refused_among, refused_thread, refused_record, IsSearched}
use Rattle.omi_audit.proofs.FirstOnes.{has}
use Rattle.omi_audit.proofs.KeptOn.{kept_on}
use Rattle.omi_audit.proofs.JudgedPlaces.{first_more}
use Rattle.omi_audit.proofs.JudgedRecords.{knows_threads}
use Rattle.omi_audit.proofs.NamedWords.{still_knows}

pub then_first : (l m : List Verdict) (stop : Stop) → l ≡ [] → IsFirst m stop → IsFirst (l ++ m) stop
then_first l m stop none first = subst (λ k. IsFirst (k ++ m) stop) (sym none) first

both_none : (l m : List Verdict) → l ≡ [] → m ≡ [] → l ++ m ≡ []
both_none l m first second = ap (λ k. k ++ m) first ∙ second

-- the refusals in their order
module _ (w : List ℕ) (words : Words) where
  abbrev pub of_runtime : List Verdict
  of_runtime = refused_among w words 0 (runtime_places w words)

  abbrev pub of_threads : List Verdict
  of_threads = flat_map (refused_thread w words) (range_with_len 0 (thread_count w))

  abbrev pub of_records : List Verdict
  of_records = flat_map (refused_record w words) (reached w words)

  abbrev pub of_chains : List Verdict
  of_chains = flat_map (refused_chain w words) (reached w words)

  module _ (stop : Stop) where
    -- what stops at the threads stops it all, and so what does at the records
    on_threads : IsFirst (of_runtime ++ of_threads) stop → IsFirst (refusals w words) stop
    on_threads first =
        first_more stop (of_runtime ++ of_threads ++ of_records) of_chains
        (first_more stop (of_runtime ++ of_threads) of_records first)

    pub runtime_stops : IsFirst of_runtime stop → IsFirst (refusals w words) stop
    runtime_stops first = on_threads (first_more stop of_runtime of_threads first)

    pub threads_stop : of_runtime ≡ [] → IsFirst of_threads stop → IsFirst (refusals w words) stop
    threads_stop none first = on_threads (then_first of_runtime of_threads stop none first)

    pub records_stop : of_runtime ≡ [] → of_threads ≡ [] → IsFirst of_records stop → IsFirst (refusals w words) stop
    records_stop none clear first =
        first_more stop (of_runtime ++ of_threads ++ of_records) of_chains
        (then_first (of_runtime ++ of_threads) of_records stop (both_none of_runtime of_threads none clear) first)

    pub chains_stop : of_runtime ≡ [] → of_threads ≡ [] → of_records ≡ [] → IsFirst of_chains stop → IsFirst (refusals w words) stop
    chains_stop none clear fine first =
        then_first (of_runtime ++ of_threads ++ of_records) of_chains stop
        (both_none (of_runtime ++ of_threads) of_records (both_none of_runtime of_threads none clear) fine) first

  pub none_refused : of_runtime ≡ [] → of_threads ≡ [] → of_records ≡ [] → of_chains ≡ [] → refusals w words ≡ []
  none_refused none clear fine ends =
      both_none (of_runtime ++ of_threads ++ of_records) of_chains
      (both_none (of_runtime ++ of_threads) of_records (both_none of_runtime of_threads none clear) fine) ends

-- a search that has met nothing
pub record IsNew (k : Search) : Type 0 where
  pub met : k.met.keys ≡ []
  pub links : k.links.items ≡ []
  pub begun : k.begun.items ≡ []

pub knows_new : (w : List ℕ) (words : Words) (k : Search) → IsNew k → Knows w words k
knows_new w words k new = record {
  met = λ x is. absurd (let none = ap (λ l. has l x) (sym new.met) ∙ is in cc);
  begun = new.begun ∙ ap (λ l. map (has_begun w words) (range_with_len 0 (length l))) (sym new.begun);
}

module _ {C F : Type 0} (told : C → Told) (s t : Opened C F) (first : StaysWhole told s t) (k l : Search) (new : IsNew k)
    (runtime : OverKept told s k (λ m. IsFine (refused_among s.layout m 0 (runtime_places s.layout m)) (MeetsNamed s.layout m [] k l))) where
  knows_runtime : (m : Words) → Tells (told s.table.calls) m → Knows s.layout m l
  knows_runtime m tells =
      still_knows s.layout m k l [] (λ x is. absurd (cc)) (knows_new s.layout m k new) (runtime m tells (knows_new s.layout m k new)).known

  pub after_runtime : (Q : List ℕ → Words → Type 0) → OverKept told t l (Q t.layout) → (m : Words) → Tells (told s.table.calls) m → Q s.layout m
  after_runtime Q holds m tells = kept_on told s t l Q first holds m tells (knows_runtime m tells)

  module _ (u : Opened C F) (second : StaysWhole told t u) (n : Search)
      (threads : OverKept told t l (λ m. IsFine (flat_map (refused_thread t.layout m) (range_with_len 0 (thread_count t.layout)))
      (AreThreads t.layout m (range_with_len 0 (thread_count t.layout)) l n))) where
    pub threads_fine : (m : Words) → Tells (told s.table.calls) m
        → IsFine (flat_map (refused_thread s.layout m) (range_with_len 0 (thread_count s.layout))) (AreThreads s.layout m (range_with_len 0 (thread_count s.layout)) l n)
    threads_fine =
        after_runtime (λ w m. IsFine (flat_map (refused_thread w m) (range_with_len 0 (thread_count w))) (AreThreads w m (range_with_len 0 (thread_count w)) l n)) threads

    knows_all : (m : Words) → Tells (told s.table.calls) m → Knows s.layout m n
    knows_all m tells =
        let c = thread_count s.layout in
        let long = length-range_with_len 0 c in
        let whole : take c (range_with_len 0 c) ≡ range_with_len 0 c =
        ap (λ j. take j (range_with_len 0 c)) (sym long) ∙ take-length (range_with_len 0 c) in
        let fine = runtime m tells (knows_new s.layout m k new) in
        knows_threads s.layout m c c l n (omega arith) (ap length (fine.known.begun ∙ new.begun)) (knows_runtime m tells)
        (subst (λ some. AreThreads s.layout m some l n) (sym whole) (threads_fine m tells).known)

    pub starts : (m : Words) → Tells (told s.table.calls) m → Starts s.layout m n
    starts m tells =
        let fine = runtime m tells (knows_new s.layout m k new) in
        let all = threads_fine m tells in
        record {
          met = all.known.met ∙ ap (λ j. insert_all nat_eq j (current_tasks s.layout m)) (fine.known.met ∙ new.met);
          links = all.known.links ∙ append-nil l.links.items ∙ fine.known.links ∙ new.links;
        }

    pub after_threads : (Q : List ℕ → Words → Type 0) → OverKept told u n (Q u.layout) → (m : Words) → Tells (told s.table.calls) m → Q s.layout m
    after_threads Q holds m tells = kept_on told s u n Q (stays_then told s t u first second) holds m tells (knows_all m tells)

    pub records_fine : (o : Search)
        → OverKept told u n (λ m. Starts u.layout m n → IsFine (of_records u.layout m) (IsSearched u.layout m o))
        → (m : Words) → Tells (told s.table.calls) m → IsFine (of_records s.layout m) (IsSearched s.layout m o)
    records_fine o met m tells =
        after_threads (λ w a. Starts w a n → IsFine (of_records w a) (IsSearched w a o)) met m tells (starts m tells)
