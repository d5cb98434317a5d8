-- What is asked for at the places of a record: at those of its fields, and then at those of the elements behind them.
use Rattle.std.proofs.Common.{◌≡◌, ℕ, Bool, List, ◌++◌, sym, subst}
use Rattle.std.specs.Prelude.{Result, Ok}
use Rattle.omi_calls.specs.Asked.{Asked}
use Rattle.omi_calls.specs.Told.{Told}
use Rattle.omi_layout.specs.declared.field.Field.{Field}
use Rattle.omi_word.specs.Words.{Words}
use Rattle.omi_rep.specs.Records.{thread_address}
use Rattle.omi_session.specs.Opened.{Opened, StaysWhole}
use Rattle.omi_audit.specs.declared.judging.Found.{Found}
use Rattle.omi_audit.specs.declared.search.Search.{Search}
use Rattle.omi_audit.specs.declared.stop.Stop.{Stop}
use Rattle.omi_audit.specs.declared.verdict.AuditFault.{AuditFault}
use Rattle.omi_audit.specs.InOrder.{AsksOnly, stopped_by}
use Rattle.omi_audit.specs.Listed.{asked_among, asked_at}
use Rattle.omi_audit.specs.Search.{Place, places_of, elements_of, named_at, thread_places}
use Rattle.omi_audit.specs.Verdicts.{refused_at}
use Rattle.omi_audit.specs.Judged.{AsksFor, OverKept, all_places, has_begun, refused_among, IsFine, IsFirst, IsFound}
use Rattle.omi_audit.proofs.Asking.{asks_all, asks_kept, each_on, each_stop}
use Rattle.omi_audit.proofs.JudgedPlaces.{AreFine}
use Rattle.omi_audit.proofs.JudgedRecords.{begun_places, first_places, places_by}
use Rattle.omi_audit.proofs.NamedWords.{still_knows_named}

-- words that are judged one after the other
module _ {C F : Type 0} (told : C → Told) (asked : C → Asked) (s t : Opened C F) (a b : Search) (i : ℕ) (xs ys : List ℕ → Words → List Place) where
  pub asks_both : (u : Opened C F) (r : Result (Unit {0}) AuditFault) → StaysWhole told s t
      → OverKept told s a (λ m. AreFine s.layout m i (xs s.layout m) a b)
      → AsksFor told asked s t a i (xs s.layout) (Ok tt) → AsksFor told asked t u b i (ys t.layout) r
      → AsksFor told asked s u a i (λ m. xs s.layout m ++ ys s.layout m) r
  asks_both u r stays first asks behind memory tells known =
      let w = s.layout in
      let fine = first memory tells known in
      each_on (asked_at w memory) (named_at w memory) (refused_at w memory i) (told s.table.calls) memory a.met.keys b.met.keys
      (asked s.table.calls) (asked t.table.calls) (asked u.table.calls) r (xs w memory) (ys w memory) fine.none fine.known.met
      (asks_all (told s.table.calls) memory (asked_among w memory i a.met.keys (xs w memory)) (asked s.table.calls) (asked t.table.calls) (asks memory tells known))
      (asks_kept told s t b (λ l m. asked_among l m i b.met.keys (ys l m)) (asked t.table.calls) (asked u.table.calls) r stays behind memory tells
      (still_knows_named w memory a b (xs w memory) known fine.known))

  -- what stopped the first stopped all
  pub asks_stop : (stop : Stop) → OverKept told s a (λ m. IsFirst (refused_among s.layout m i (xs s.layout m)) stop)
      → AsksFor told asked s t a i (xs s.layout) (stopped_by stop)
      → AsksFor told asked s t a i (λ m. xs s.layout m ++ ys s.layout m) (stopped_by stop)
  asks_stop stop first asks memory tells known =
      let w = s.layout in
      each_stop (asked_at w memory) (named_at w memory) (refused_at w memory i) (told s.table.calls) memory a.met.keys (xs w memory) (ys w memory)
      (asked s.table.calls) (asked t.table.calls) stop (first memory tells known) (asks memory tells known)

-- the fields of a record, and the elements behind them
module _ {C F : Type 0} (told : C → Told) (asked : C → Asked) (s t u : Opened C F) (stays : StaysWhole told s t) (a b : Search)
    (address : ℕ) (fields : List Field) (last : Field) (found : Found)
    (front : OverKept told s a (λ m. IsFine (refused_among s.layout m 0 (places_of address fields)) (IsFound s.layout m address fields a b found)))
    (asks : AsksFor told asked s t a 0 (λ m. places_of address fields) (Ok tt)) where
  pub behind_asks : (r : Result (Unit {0}) AuditFault) → AsksFor told asked t u b 0 (λ m. elements_of address last found.count) r
      → AsksFor told asked s u a 0 (λ m. all_places s.layout m address fields last) r
  behind_asks r behind memory tells known =
      let fine = front memory tells known in
      subst
      (λ n. AsksOnly (told s.table.calls) memory (asked_among s.layout memory 0 a.met.keys (places_of address fields ++ elements_of address last n)) (asked s.table.calls) (asked u.table.calls) r)
      fine.known.count
      (asks_both told asked s t a b 0 (λ w m. places_of address fields) (λ w m. elements_of address last found.count) u r stays
      (λ m tells known. let here = front m tells known in record { none = here.none; known = here.known.meets }) asks behind memory tells known)

-- the words of a thread, by whether it has begun
pub thread_asks : (w : List ℕ) (memory : Words) (i a : ℕ) → a ≡ thread_address w i → (begun : Bool) → has_begun w memory i ≡ begun
    → (told : Told) (met : List ℕ) (s t : Asked) (r : Result (Unit {0}) AuditFault)
    → AsksOnly told memory (asked_among w memory i met (first_places a ++ begun_places a begun)) s t r
    → AsksOnly told memory (asked_among w memory i met (thread_places w memory i)) s t r
thread_asks w memory i a there begun is told met s t r asks =
    subst (λ l. AsksOnly told memory (asked_among w memory i met l) s t r) (sym (places_by w memory i a there begun is)) asks
