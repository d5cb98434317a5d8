-- What an audit asks for in all: the words of the runtime record, then those of the threads and then those of the records that are reached.
use Rattle.std.proofs.Common.{◌∙◌, ℕ, List, [], ◌++◌, subst}
use Rattle.std.specs.Prelude.{Result, Ok}
use Rattle.std.specs.List.{flat_map, range_with_len}
use Rattle.omi_calls.specs.Asked.{Asked}
use Rattle.omi_calls.specs.Told.{Told}
use Rattle.omi_layout.specs.Table.{thread_count}
use Rattle.omi_session.specs.Opened.{Opened, StaysWhole}
use Rattle.omi_session.specs.Tells.{Tells}
use Rattle.omi_word.specs.Words.{Words}
use Rattle.omi_audit.specs.declared.search.Search.{Search}
use Rattle.omi_audit.specs.declared.stop.Stop.{Stop}
use Rattle.omi_audit.specs.declared.verdict.AuditFault.{AuditFault}
use Rattle.omi_audit.specs.InOrder.{AsksOnly, stopped_by}
use Rattle.omi_audit.specs.Listed.{asked_among, asked_in_records, asked_of_threads, asked_words, behind}
use Rattle.omi_audit.specs.Search.{runtime_places, current_tasks, first_ones, reached}
use Rattle.omi_audit.specs.Judged.{AsksFor, AsksWords, OverKept, AreThreads, IsFine, IsFirst, MeetsNamed, Starts, refused_among, refused_thread}
use Rattle.omi_audit.proofs.Asking.{asks_all, asks_told, behind_on, behind_stop}
use Rattle.omi_audit.proofs.JudgedAll.{IsNew, knows_new, of_runtime, of_threads, after_runtime, after_threads, starts, threads_fine}

-- the words in their order
module _ (w : List ℕ) (words : Words) where
  abbrev at_runtime : List ℕ
  at_runtime = asked_among w words 0 [] (runtime_places w words)

  abbrev at_threads : List ℕ
  at_threads = asked_of_threads w words [] (range_with_len 0 (thread_count w))

  abbrev at_records : List ℕ
  at_records = asked_in_records w words (first_ones (current_tasks w words)) (reached w words)

  abbrev behind_runtime : List ℕ
  behind_runtime = at_threads ++ behind (of_threads w words) at_records

module _ {C F : Type 0} (told : C → Told) (asked : C → Asked) (s t : Opened C F) (k l : Search) (new : IsNew k) where
  at_first : (r : Result (Unit {0}) AuditFault) → AsksFor told asked s t k 0 (runtime_places s.layout) r
      → (m : Words) → Tells (told s.table.calls) m
      → AsksOnly (told s.table.calls) m (at_runtime s.layout m) (asked s.table.calls) (asked t.table.calls) r
  at_first r asks m tells =
      subst (λ met. AsksOnly (told s.table.calls) m (asked_among s.layout m 0 met (runtime_places s.layout m)) (asked s.table.calls) (asked t.table.calls) r) new.met
      (asks m tells (knows_new s.layout m k new))

  -- the audit stopped at the runtime record
  pub runtime_ask : (stop : Stop) → OverKept told s k (λ m. IsFirst (refused_among s.layout m 0 (runtime_places s.layout m)) stop)
      → AsksFor told asked s t k 0 (runtime_places s.layout) (stopped_by stop)
      → (m : Words) → Tells (told s.table.calls) m
      → AsksOnly (told s.table.calls) m (asked_words s.layout m) (asked s.table.calls) (asked t.table.calls) (stopped_by stop)
  runtime_ask stop first asks m tells =
      behind_stop (told s.table.calls) m (of_runtime s.layout m) (at_runtime s.layout m) (behind_runtime s.layout m) (asked s.table.calls) (asked t.table.calls) stop
      (first m tells (knows_new s.layout m k new)) (at_first (stopped_by stop) asks m tells)

  module _ (first : StaysWhole told s t)
      (runtime : OverKept told s k (λ m. IsFine (refused_among s.layout m 0 (runtime_places s.layout m)) (MeetsNamed s.layout m [] k l)))
      (asks : AsksFor told asked s t k 0 (runtime_places s.layout) (Ok tt)) (u : Opened C F) where
    -- or behind it
    on_from : (v : Opened C F) (r : Result (Unit {0}) AuditFault) (m : Words) → Tells (told s.table.calls) m
        → AsksOnly (told s.table.calls) m (behind_runtime s.layout m) (asked t.table.calls) (asked v.table.calls) r
        → AsksOnly (told s.table.calls) m (asked_words s.layout m) (asked s.table.calls) (asked v.table.calls) r
    on_from v r m tells =
        behind_on (told s.table.calls) m (of_runtime s.layout m) (at_runtime s.layout m) (behind_runtime s.layout m)
        (asked s.table.calls) (asked t.table.calls) (asked v.table.calls) r (runtime m tells (knows_new s.layout m k new)).none
        (asks_all (told s.table.calls) m (at_runtime s.layout m) (asked s.table.calls) (asked t.table.calls) (at_first (Ok tt) asks m tells))

    at_second : (r : Result (Unit {0}) AuditFault)
        → AsksWords told asked t u l (λ m. asked_of_threads t.layout m l.met.keys (range_with_len 0 (thread_count t.layout))) r
        → (m : Words) → Tells (told s.table.calls) m
        → AsksOnly (told s.table.calls) m (at_threads s.layout m) (asked t.table.calls) (asked u.table.calls) r
    at_second r second m tells =
        subst
        (λ met. AsksOnly (told s.table.calls) m (asked_of_threads s.layout m met (range_with_len 0 (thread_count s.layout))) (asked t.table.calls) (asked u.table.calls) r)
        ((runtime m tells (knows_new s.layout m k new)).known.met ∙ new.met)
        (after_runtime told s t first k l new runtime
        (λ w o. AsksOnly (told s.table.calls) o (asked_of_threads w o l.met.keys (range_with_len 0 (thread_count w))) (asked t.table.calls) (asked u.table.calls) r)
        (asks_told told s t l (λ o. asked_of_threads t.layout o l.met.keys (range_with_len 0 (thread_count t.layout))) (asked t.table.calls) (asked u.table.calls) r first second)
        m tells)

    -- it stopped at the threads
    pub threads_ask : (stop : Stop) → OverKept told t l (λ m. IsFirst (of_threads t.layout m) stop)
        → AsksWords told asked t u l (λ m. asked_of_threads t.layout m l.met.keys (range_with_len 0 (thread_count t.layout))) (stopped_by stop)
        → (m : Words) → Tells (told s.table.calls) m
        → AsksOnly (told s.table.calls) m (asked_words s.layout m) (asked s.table.calls) (asked u.table.calls) (stopped_by stop)
    threads_ask stop refused second m tells =
        on_from u (stopped_by stop) m tells
        (behind_stop (told s.table.calls) m (of_threads s.layout m) (at_threads s.layout m) (at_records s.layout m) (asked t.table.calls) (asked u.table.calls) stop
        (after_runtime told s t first k l new runtime (λ w o. IsFirst (of_threads w o) stop) refused m tells) (at_second (stopped_by stop) second m tells))

    -- and it came to the records
    module _ (second : StaysWhole told t u) (n : Search)
        (threads : OverKept told t l (λ m. IsFine (flat_map (refused_thread t.layout m) (range_with_len 0 (thread_count t.layout)))
        (AreThreads t.layout m (range_with_len 0 (thread_count t.layout)) l n)))
        (asks_threads : AsksWords told asked t u l (λ m. asked_of_threads t.layout m l.met.keys (range_with_len 0 (thread_count t.layout))) (Ok tt))
        (v : Opened C F) where
      pub records_ask : (r : Result (Unit {0}) AuditFault)
          → OverKept told u n (λ m. Starts u.layout m n
          → AsksOnly (told u.table.calls) m (asked_in_records u.layout m n.met.keys (reached u.layout m)) (asked u.table.calls) (asked v.table.calls) r)
          → (m : Words) → Tells (told s.table.calls) m
          → AsksOnly (told s.table.calls) m (asked_words s.layout m) (asked s.table.calls) (asked v.table.calls) r
      records_ask r third m tells =
          let start = starts told s t first k l new runtime u second n threads m tells in
          on_from v r m tells
          (behind_on (told s.table.calls) m (of_threads s.layout m) (at_threads s.layout m) (at_records s.layout m)
          (asked t.table.calls) (asked u.table.calls) (asked v.table.calls) r (threads_fine told s t first k l new runtime u second n threads m tells).none
          (asks_all (told s.table.calls) m (at_threads s.layout m) (asked t.table.calls) (asked u.table.calls) (at_second (Ok tt) asks_threads m tells))
          (subst
          (λ met. AsksOnly (told s.table.calls) m (asked_in_records s.layout m met (reached s.layout m)) (asked u.table.calls) (asked v.table.calls) r) start.met
          (after_threads told s t first k l new runtime u second n threads
          (λ w o. Starts w o n → AsksOnly (told s.table.calls) o (asked_in_records w o n.met.keys (reached w o)) (asked u.table.calls) (asked v.table.calls) r)
          (λ o tells known begins. subst
          (λ q. AsksOnly q o (asked_in_records u.layout o n.met.keys (reached u.layout o)) (asked u.table.calls) (asked v.table.calls) r)
          (second.table.same ∙ first.table.same) (third o tells known begins))
          m tells start)))
