-- What a part of the audit finds over the words that are told: that no clause fails at these words and what is known then, or the first refusal.
use Rattle.std.specs.Prelude.{◌≡◌, ◌≢◌, ◌<◌, ◌≤◌, ◌==◌, ◌||◌, ◌++◌, ℕ, zero, suc, Bool, true, false, List, [], ◌∷◌, fold, map, filter, length, slice_get, slice_index, Option, Some, None, Result, Ok, Err, is_some, if◌then◌else◌}
use Rattle.std.specs.Option.{option_map_or, option_map}
use Rattle.std.specs.List.{range_with_len, list_any, flat_map}
use Rattle.indexmap.specs.IndexSet.{insert_all}
use Rattle.std.specs.Prelude.{nat_eq}
use Rattle.omi_layout.specs.declared.field.Field.{Field}
use Rattle.omi_layout.specs.declared.field.Field.TheVariants.{ThreadLife}
use Rattle.omi_layout.specs.Field.{threads, regions, tasks}
use Rattle.omi_layout.specs.Table.{thread_count}
use Rattle.omi_layout.specs.Valid.{IsValid}
use Rattle.omi_word.specs.Words.{Words}
use Rattle.omi_calls.specs.Asked.{Asked}
use Rattle.omi_calls.specs.Told.{Told}
use Rattle.omi_rep.specs.Look.{live_at}
use Rattle.omi_rep.specs.Records.{thread_address}
use Rattle.omi_session.specs.Opened.{Opened}
use Rattle.omi_session.specs.Tells.{Tells}
use Rattle.omi_audit.specs.declared.judging.Found.{Found}
use Rattle.omi_audit.specs.declared.search.Search.{Search}
use Rattle.omi_audit.specs.declared.stop.Stop.{Stop}
use Rattle.omi_audit.specs.declared.stop.Stop.TheVariants.{Fails, Fault}
use Rattle.omi_audit.specs.declared.verdict.AuditFault.{AuditFault}
use Rattle.omi_audit.specs.declared.verdict.Verdict.{Verdict}
use Rattle.omi_audit.specs.declared.verdict.Verdict.TheVariants.{Yes, No}
use Rattle.omi_audit.specs.Clauses.{leads_to, led_to, failing}
use Rattle.omi_audit.specs.Found.{next_with, count_with}
use Rattle.omi_audit.specs.InOrder.{AsksOnly}
use Rattle.omi_audit.specs.Listed.{asked_among}
use Rattle.omi_audit.specs.Search.{Place, places_of, elements_of, word_at, number_in, named_at, thread_places, record_places, named_by, first_ones, current_tasks, reached}
use Rattle.omi_audit.specs.Verdicts.{chain_field, next_in_chain, refused_at}

-- ---- the first refusal

-- what stopped an audit is the first of these refusals, or a fault
abbrev pub IsFirst : List Verdict → Stop → Type 0
IsFirst refusals (Fails addr field clause) = slice_get refusals 0 ≡ Some (No addr field clause)
IsFirst refusals (Fault fault) = Unit {0}

-- there is no refusal, and this is known then
pub record IsFine (refusals : List Verdict) (Known : Type 0) : Type 0 where
  pub none : refusals ≡ []
  pub known : Known

-- one of the two
abbrev pub Judges : {A : Type 0} → List Verdict → (A → Type 0) → Result A Stop → Type 0
Judges refusals Known (Ok x) = IsFine refusals (Known x)
Judges refusals Known (Err stop) = IsFirst refusals stop

-- an audit's answer
abbrev pub answer : Result ℕ Stop → Result Verdict AuditFault
answer (Ok records) = Ok (Yes records)
answer (Err (Fails addr field clause)) = Ok (No addr field clause)
answer (Err (Fault fault)) = Err fault

-- an audit stopped for a fault
abbrev pub IsFault : Stop → Type 0
IsFault (Fails addr field clause) = ⊥
IsFault (Fault fault) = Unit {0}

-- a place of a field of the record at an address
abbrev pub place_at : ℕ → Field → ℕ → Place
place_at address f at = record { address = address; field = f; at = at }

-- ---- what is kept

-- all threads were judged
abbrev pub KnowsThreads : List ℕ → Search → Type 0
KnowsThreads w s = length s.begun.items ≡ thread_count w

-- one of these fields leads to a thread
abbrev pub name_threads : List Field → Bool
name_threads = list_any (λ f. option_map_or (λ kind. kind == threads) (leads_to f 0) false)

-- these are met, and this is kept of chains and of threads besides
pub record Grows (named next : List ℕ) (started : List Bool) (old new : Search) : Type 0 where
  pub met : new.met.keys ≡ insert_all nat_eq old.met.keys named
  pub links : new.links.items ≡ old.links.items ++ next
  pub begun : new.begun.items ≡ old.begun.items ++ started

module _ (w : List ℕ) (words : Words) where
  -- the live record of a region or a task begins at an address
  abbrev pub lives : ℕ → Bool
  lives address =
      is_some (live_at w words regions address) || is_some (live_at w words tasks address)

  -- a thread's life word is 1
  abbrev pub has_begun : ℕ → Bool
  has_begun i = number_in w words (thread_address w i) ThreadLife == 1

  -- what was met lives, and of each thread that was judged it is known whether it has begun
  pub record Knows (s : Search) : Type 0 where
    pub met : (address : ℕ) → list_any (λ one. address == one) s.met.keys ≡ true → lives address ≡ true
    pub begun : s.begun.items ≡ map has_begun (range_with_len 0 (length s.begun.items))

  -- these are met besides
  pub record Meets (named : List ℕ) (old new : Search) : Type 0 where
    pub met : new.met.keys ≡ insert_all nat_eq old.met.keys named
    pub links : new.links.items ≡ old.links.items
    pub begun : new.begun.items ≡ old.begun.items

  -- what a word names that leads to a kind of record, and one in a field
  abbrev pub named_of : ℕ → ℕ → List ℕ
  named_of kind word =
      if kind == threads then [] else filter (λ one. is_some (live_at w words kind one)) (word ∷ [])

  abbrev pub named_by_word : Field → ℕ → ℕ → List ℕ
  named_by_word f at word = option_map_or (λ kind. named_of kind (led_to f word)) (leads_to f at) []

  -- whether a live record of a kind is at the address that a word holds. It is met there
  pub record IsLed (kind word : ℕ) (old new : Search) (led : Bool) : Type 0 where
    pub is : led ≡ is_some (live_at w words kind word)
    pub meets : Meets (named_of kind word) old new

  -- the first clause that fails at a word, if one does. Else what it names is met
  pub record IsFailing (i : ℕ) (f : Field) (at word : ℕ) (old new : Search) (failed : Option ℕ)
      : Type 0 where
    pub is : failed ≡ slice_get (failing w words i f at word) 0
    pub meets : failed ≡ None → Meets (named_by_word f at word) old new

  -- the word that was found at a place. What it names is met
  pub record IsJudged (p : Place) (old new : Search) (found : ℕ) : Type 0 where
    pub word : word_at w words p ≡ Some found
    pub meets : Meets (named_at w words p) old new

  -- what the words at these places name is met
  abbrev pub MeetsNamed : List Place → Search → Search → Type 0
  MeetsNamed places = Meets (flat_map (named_at w words) places)

  -- what these fields of a record say, from the first to the last
  abbrev pub said_by : (ℕ → Field → ℕ → ℕ) → ℕ → List Field → ℕ
  said_by say address fields =
      fold (λ said f. say said f (number_in w words address f)) 0 fields

  -- their first words, and then as many elements of another field as they say
  abbrev pub all_places : ℕ → List Field → Field → List Place
  all_places address fields last =
      places_of address fields ++ elements_of address last (said_by count_with address fields)

  -- what they say of what is behind them. What they name is met
  pub record IsFound (address : ℕ) (fields : List Field) (old new : Search) (found : Found) : Type 0 where
    pub next : found.next ≡ said_by next_with address fields
    pub count : found.count ≡ said_by count_with address fields
    pub meets : MeetsNamed (places_of address fields) old new

  -- what the field that a chain follows holds
  abbrev pub link_of : ℕ → ℕ
  link_of address = number_in w words address (chain_field w words address)

  -- these words of a record were judged, and this is what the field that its chain follows holds
  pub record IsLinked (address : ℕ) (chain : Field) (places : List Place) (old new : Search) (led : ℕ) : Type 0 where
    pub next : led ≡ number_in w words address chain
    pub meets : MeetsNamed places old new

  -- a record was judged
  abbrev pub IsRecord : ℕ → Search → Search → Type 0
  IsRecord address = Grows (named_by w words address) (link_of address ∷ []) []

  -- a thread was
  abbrev pub named_by_thread : ℕ → List ℕ
  named_by_thread i = flat_map (named_at w words) (thread_places w words i)

  abbrev pub IsThread : ℕ → Search → Search → Type 0
  IsThread i = Grows (named_by_thread i) [] (has_begun i ∷ [])

  -- these threads were
  abbrev pub AreThreads : List ℕ → Search → Search → Type 0
  AreThreads some = Grows (flat_map named_by_thread some) [] (map has_begun some)

  -- the records that are reached were met and judged
  pub record IsSearched (s : Search) : Type 0 where
    pub met : s.met.keys ≡ reached w words
    pub links : s.links.items ≡ map link_of (reached w words)

  -- the refusals at these places
  abbrev pub refused_among : ℕ → List Place → List Verdict
  refused_among i places = flat_map (refused_at w words i) places

  -- the refusals at a thread's words, and at those of a record
  abbrev pub refused_thread : ℕ → List Verdict
  refused_thread i = refused_among i (thread_places w words i)

  abbrev pub refused_record : ℕ → List Verdict
  refused_record address = refused_among 0 (record_places w words address)

  -- no clause fails in the records that are reached
  abbrev pub AreClear : Type 0
  AreClear = flat_map refused_record (reached w words) ≡ []

  -- a chain ends behind so many more records
  abbrev pub EndsIn : ℕ → ℕ → Type 0
  EndsIn zero address = next_in_chain w words address ≡ None
  EndsIn (suc n) address = (next : ℕ) × (next_in_chain w words address ≡ Some next) × EndsIn n next

  -- each record that a walk came to has a chain that ends. The walks are counted up to this one
  pub record HasWalked (most : ℕ) (s : Search) (walks : List ℕ) : Type 0 where
    pub few : (k : ℕ) → slice_index walks k ≤ most
    pub ends : (k : ℕ) → k < length s.met.keys → slice_index walks k ≢ 0
        → (n : ℕ) × EndsIn n (slice_index s.met.keys k)

  -- the search begins with the current tasks
  pub record Starts (s : Search) : Type 0 where
    pub met : s.met.keys ≡ first_ones (current_tasks w words)
    pub links : s.links.items ≡ []

-- the place among the records that were met of the next one of a chain, over all words that were searched so and in which no clause fails
abbrev pub TellsNext : Search → ℕ → Option ℕ → Type 0
TellsNext s at next = (w : List ℕ) (words : Words) → IsValid w → IsSearched w words s → AreClear w words
    → at < length s.met.keys
    → next_in_chain w words (slice_index s.met.keys at) ≡ option_map (slice_index s.met.keys) next

-- this holds over the words that are told, where what is kept is right
abbrev pub OverKept : {C F : Type 0} → (C → Told) → Opened C F → Search → (Words → Type 0) → Type 0
OverKept told s kept Holds = (memory : Words) → Tells (told s.table.calls) memory
    → Knows s.layout memory kept → Holds memory

-- these words are asked for in their order over the words that are told, where what is kept is right
abbrev pub AsksWords : {C F : Type 0} → (C → Told) → (C → Asked) → Opened C F → Opened C F → Search
    → (Words → List ℕ) → Result (Unit {0}) AuditFault → Type 0
AsksWords told asked s t old list result = OverKept told s old (λ words.
    AsksOnly (told s.table.calls) words (list words) (asked s.table.calls) (asked t.table.calls) result)

-- those at these places of the record of thread i
abbrev pub AsksFor : {C F : Type 0} → (C → Told) → (C → Asked) → Opened C F → Opened C F → Search → ℕ
    → (Words → List Place) → Result (Unit {0}) AuditFault → Type 0
AsksFor told asked s t old i places result =
    AsksWords told asked s t old (λ words. asked_among s.layout words i old.met.keys (places words)) result
