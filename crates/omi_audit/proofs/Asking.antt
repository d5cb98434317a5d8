-- What parts of an audit ask for, one after the other: the words of the first and behind them those of the second, and no more behind a refusal.
use Rattle.std.proofs.Common.{◌≡◌, ◌≢◌, inl, inr, ℕ, suc, Bool, true, false, cond, List, [], ◌∷◌, ◌++◌, take, drop, Option, Some, None, refl, sym, ap, subst, ◌∙◌, append_assoc}
use Rattle.std.specs.Prelude.{◌==◌, ◌||◌, Result, Ok, Err, nat_eq, slice_get, is_some}
use Rattle.std.specs.Option.{option_and_then, option_map_or, ok_or}
use Rattle.std.specs.Result.{IsErrAnd}
use Rattle.std.specs.List.{flat_map, list_any}
use Rattle.indexmap.specs.IndexSet.{insert_all}
use Rattle.std.proofs.lemmas.List.{append-nil, take-append-drop}
use Rattle.std.proofs.lemmas.Result.{err_from_is_err_and}
use Rattle.omi_calls.specs.Asked.{Asked, Word, MayAnswer, asked_after}
use Rattle.omi_calls.specs.Told.{Told}
use Rattle.omi_handle.specs.declared.handle.Kind.{Kind}
use Rattle.omi_handle.specs.declared.handle.Held.{Held}
use Rattle.omi_layout.specs.declared.field.Field.{Field}
use Rattle.omi_layout.specs.Field.{threads}
use Rattle.omi_layout.specs.Named.{number}
use Rattle.omi_rep.specs.Look.{life_of, slot_at}
use Rattle.omi_session.specs.declared.rc.Rc.{Rc}
use Rattle.omi_session.specs.declared.rc.Rc.TheVariants.{CallbackError, Error}
use Rattle.omi_session.specs.Inquiry.{lead, object, place_of, word_of}
use Rattle.omi_session.specs.Named.{record_kind}
use Rattle.omi_session.specs.Opened.{Opened, StaysWhole}
use Rattle.omi_session.specs.Reads.{Answer, Read, Ran, RanSome}
use Rattle.omi_session.specs.Tells.{Tells}
use Rattle.omi_word.specs.Words.{Words}
use Rattle.omi_audit.specs.declared.search.Search.{Search}
use Rattle.omi_audit.specs.declared.stop.Stop.{Stop}
use Rattle.omi_audit.specs.declared.stop.Stop.TheVariants.{Fails, Fault}
use Rattle.omi_audit.specs.declared.verdict.AuditFault.{AuditFault}
use Rattle.omi_audit.specs.declared.verdict.AuditFault.TheVariants.{Callback, OutOfMemory}
use Rattle.omi_audit.specs.declared.verdict.Verdict.{Verdict}
use Rattle.omi_audit.specs.declared.verdict.Verdict.TheVariants.{No}
use Rattle.omi_audit.specs.InOrder.{AsksInOrder, AsksOnly, ended, in_order, read_all, stopped_by}
use Rattle.omi_audit.specs.Listed.{asked_among, asked_at, asked_each, asked_of_record, asked_of_word, behind, life_word}
use Rattle.omi_audit.specs.Search.{Place, word_at, named_at}
use Rattle.omi_audit.specs.Verdicts.{refused_at}
use Rattle.omi_audit.specs.Judged.{IsFirst, Knows, OverKept}
use Rattle.omi_audit.proofs.FirstOnes.{Begins, begins_same, with_all_then}
use Rattle.omi_audit.proofs.JudgedPlaces.{refused_next}
use Rattle.omi_audit.proofs.KeptOn.{kept_on}
use Rattle.omi_audit.proofs.Rounds.{take_one}

-- ---- how a part ended

pub ended_by : {A : Type 0} (r : Result A Stop) (stop : Stop) → IsErrAnd r (λ other. other ≡ stop) → ended r ≡ stopped_by stop
ended_by r stop is =
    let stopped = err_from_is_err_and {Q = λ other. other ≡ stop} r is in
    ap ended stopped.1 ∙ ap stopped_by stopped.2

-- ---- lists of words

module _ (told : Told) (memory : Words) where
  -- all of these words were asked for, and each was answered
  abbrev pub AsksAll : List ℕ → Asked → Asked → Type 0
  AsksAll list before now = Ran told memory Callback (read_all list) before now (Ok tt)

  some_none : (list : List ℕ) (s : Asked) → RanSome told memory (read_all list) s s
  some_none [] s = refl
  some_none (addr ∷ more) s = inl refl

  all_some : (list : List ℕ) (s t : Asked) → AsksAll list s t → RanSome told memory (read_all list) s t
  all_some [] s t all = all.0
  all_some (addr ∷ more) s t (inl failed) = absurd (let is = failed.2 in cc)
  all_some (addr ∷ more) s t (inr goes) = inr (goes.0, all_some more (asked_after (Word addr) s) t goes.1)

  -- no read failed, and there was memory
  pub asks_all : (list : List ℕ) (s t : Asked) → AsksOnly told memory list s t (Ok tt) → AsksAll list s t
  asks_all list s t (inl ran) = ran
  asks_all list s t (inr out) = absurd (let is = out.0 in cc)

  -- memory ran out behind all of them
  pub asks_out : (list : List ℕ) (s t : Asked) (r : Result (Unit {0}) AuditFault) → r ≡ Err OutOfMemory → AsksAll list s t → AsksOnly told memory list s t r
  asks_out list s t r is all = inr (is, all_some list s t all)

  one_more : (addr : ℕ) (list : List ℕ) (s t : Asked) (r : Result (Unit {0}) AuditFault) → MayAnswer told addr
      → AsksOnly told memory list (asked_after (Word addr) s) t r → AsksOnly told memory (addr ∷ list) s t r
  one_more addr list s t r answered (inl ran) = inl (inr (answered, ran))
  one_more addr list s t r answered (inr out) = inr (out.0, inr (answered, out.1))

  -- and then others
  pub asks_then : (xs ys : List ℕ) (s t u : Asked) (r : Result (Unit {0}) AuditFault) → AsksAll xs s t → AsksOnly told memory ys t u r
      → AsksOnly told memory (xs ++ ys) s u r
  asks_then [] ys s t u r first second = subst (λ m. AsksOnly told memory ys m u r) first.0 second
  asks_then (addr ∷ xs) ys s t u r (inl failed) second = absurd (let is = failed.2 in cc)
  asks_then (addr ∷ xs) ys s t u r (inr goes) second =
      one_more addr (xs ++ ys) s u r goes.0 (asks_then xs ys (asked_after (Word addr) s) t u r goes.1 second)

  -- those that were asked for up to a fault are the first of more
  some_front : (xs ys : List ℕ) (s t : Asked) → RanSome told memory (read_all xs) s t → RanSome told memory (read_all (xs ++ ys)) s t
  some_front [] ys s t some = subst (λ m. RanSome told memory (read_all ys) s m) (sym some) (some_none ys s)
  some_front (addr ∷ xs) ys s t (inl none) = inl none
  some_front (addr ∷ xs) ys s t (inr goes) = inr (goes.0, some_front xs ys (asked_after (Word addr) s) t goes.1)

  failed_front : (xs ys : List ℕ) (s t : Asked) (fault : AuditFault) → Ran told memory Callback (read_all xs) s t (Err fault)
      → Ran told memory Callback (read_all (xs ++ ys)) s t (Err fault)
  failed_front [] ys s t fault ran = absurd (let is = ran.1 in cc)
  failed_front (addr ∷ xs) ys s t fault (inl failed) = inl failed
  failed_front (addr ∷ xs) ys s t fault (inr goes) = inr (goes.0, failed_front xs ys (asked_after (Word addr) s) t fault goes.1)

  pub asks_front : (xs ys : List ℕ) (s t : Asked) (fault : AuditFault) → AsksOnly told memory xs s t (Err fault) → AsksOnly told memory (xs ++ ys) s t (Err fault)
  asks_front xs ys s t fault (inl ran) = inl (failed_front xs ys s t fault ran)
  asks_front xs ys s t fault (inr out) = inr (out.0, some_front xs ys s t out.1)

  -- what is answered behind these words, or that nothing is
  all_answered : {A : Type 0} (x : A) (list : List ℕ) (s t : Asked) → AsksAll list s t → Ran told memory Callback (in_order list x) s t (Ok x)
  all_answered x [] s t all = (all.0, refl)
  all_answered x (addr ∷ more) s t (inl failed) = absurd (let is = failed.2 in cc)
  all_answered x (addr ∷ more) s t (inr goes) = inr (goes.0, all_answered x more (asked_after (Word addr) s) t goes.1)

  failed_answered : {A : Type 0} (x : A) (list : List ℕ) (s t : Asked) (fault : AuditFault) → Ran told memory Callback (read_all list) s t (Err fault)
      → Ran told memory Callback (in_order list x) s t (Err fault)
  failed_answered x [] s t fault ran = absurd (let is = ran.1 in cc)
  failed_answered x (addr ∷ more) s t fault (inl failed) =
      let same : fault ≡ Callback = (let is = failed.2 in cc) in inl (failed.0, failed.1, ap Err same)
  failed_answered x (addr ∷ more) s t fault (inr goes) = inr (goes.0, failed_answered x more (asked_after (Word addr) s) t fault goes.1)

  some_answered : {A : Type 0} (x : A) (list : List ℕ) (s t : Asked) → RanSome told memory (read_all list) s t → RanSome told memory (in_order list x) s t
  some_answered x [] s t some = some
  some_answered x (addr ∷ more) s t (inl none) = inl none
  some_answered x (addr ∷ more) s t (inr goes) = inr (goes.0, some_answered x more (asked_after (Word addr) s) t goes.1)

  pub asks_answer : {A : Type 0} (x : A) (list : List ℕ) (s t : Asked) → AsksOnly told memory list s t (Ok tt) → AsksInOrder told memory list x s t (Ok x)
  asks_answer x list s t asks = inl (all_answered x list s t (asks_all list s t asks))

  pub asks_fault : {A : Type 0} (x : A) (list : List ℕ) (s t : Asked) (fault : AuditFault) → AsksOnly told memory list s t (Err fault)
      → AsksInOrder told memory list x s t (Err fault)
  asks_fault x list s t fault (inl ran) = inl (failed_answered x list s t fault ran)
  asks_fault x list s t fault (inr out) =
      let same : fault ≡ OutOfMemory = (let is = out.0 in cc) in inr (ap Err same, some_answered x list s t out.1)

  -- a part that reads nothing stopped behind all of them
  pub asks_behind : (list : List ℕ) (s t : Asked) (stop : Stop) → stop ≢ Fault Callback → AsksAll list s t → AsksOnly told memory list s t (stopped_by stop)
  asks_behind list s t (Fails addr field clause) ne all = inl all
  asks_behind list s t (Fault Callback) ne all = absurd (ne refl)
  asks_behind list s t (Fault OutOfMemory) ne all = asks_out list s t (Err OutOfMemory) refl all

  -- ---- parts of which the first may be refused

  pub behind_on : (refused : List Verdict) (xs ys : List ℕ) (s t u : Asked) (r : Result (Unit {0}) AuditFault) → refused ≡ []
      → AsksAll xs s t → AsksOnly told memory ys t u r → AsksOnly told memory (xs ++ behind refused ys) s u r
  behind_on refused xs ys s t u r none first second =
      subst (λ l. AsksOnly told memory (xs ++ behind l ys) s u r) (sym none) (asks_then xs ys s t u r first second)

  pub behind_stop : (refused : List Verdict) (xs ys : List ℕ) (s t : Asked) (stop : Stop) → IsFirst refused stop
      → AsksOnly told memory xs s t (stopped_by stop) → AsksOnly told memory (xs ++ behind refused ys) s t (stopped_by stop)
  behind_stop [] xs ys s t (Fails addr field clause) first asks = absurd (cc)
  behind_stop (refusal ∷ more) xs ys s t (Fails addr field clause) first asks =
      subst (λ l. AsksOnly told memory l s t (Ok tt)) (sym (append-nil xs)) asks
  behind_stop refused xs ys s t (Fault fault) first asks = asks_front xs (behind refused ys) s t fault asks

-- ---- what is asked for at each of some things

none_both : (l m : List Verdict) → l ++ m ≡ [] → (l ≡ []) × (m ≡ [])
none_both [] m is = (refl, is)
none_both (x ∷ l) m is = absurd (cc)

module _ {X : Type 0} (ask : List ℕ → X → List ℕ) (names : X → List ℕ) (refused : X → List Verdict) where
  abbrev pub each : List ℕ → List X → List ℕ
  each met xs = asked_each ask names refused met xs

  -- nothing is refused at the first
  each_then : (met : List ℕ) (xs ys : List X) → flat_map refused xs ≡ []
      → each met (xs ++ ys) ≡ each met xs ++ each (insert_all nat_eq met (flat_map names xs)) ys
  each_then met [] ys none = refl
  each_then met (x ∷ xs) ys none =
      let both = none_both (refused x) (flat_map refused xs) none in
      let next = insert_all nat_eq met (names x) in
      let last = insert_all nat_eq met (names x ++ flat_map names xs) in
      ap (λ l. ask met x ++ behind l (each next (xs ++ ys))) both.0
      ∙ ap (λ l. ask met x ++ l) (each_then next xs ys both.1)
      ∙ ap (λ m. ask met x ++ (each next xs ++ each m ys)) (sym (with_all_then met (names x) (flat_map names xs)))
      ∙ sym (append_assoc (ask met x) (each next xs) (each last ys))
      ∙ ap (λ l. (ask met x ++ behind l (each next xs)) ++ each last ys) (sym both.0)

  pub each_one : (met : List ℕ) (x : X) → each met (x ∷ []) ≡ ask met x
  each_one met x = go (refused x)
    where
      go : (l : List Verdict) → ask met x ++ behind l [] ≡ ask met x
      go [] = append-nil (ask met x)
      go (refusal ∷ more) = append-nil (ask met x)

  -- something is
  each_refused : (met : List ℕ) (xs ys : List X) (refusal : Verdict) → slice_get (flat_map refused xs) 0 ≡ Some refusal
      → each met (xs ++ ys) ≡ each met xs
  each_refused met [] ys refusal is = absurd (cc)
  each_refused met (x ∷ xs) ys refusal is =
      go (refused x) is (each_refused (insert_all nat_eq met (names x)) xs ys refusal)
    where
      go : (l : List Verdict) → slice_get (l ++ flat_map refused xs) 0 ≡ Some refusal
          → (slice_get (flat_map refused xs) 0 ≡ Some refusal
          → each (insert_all nat_eq met (names x)) (xs ++ ys) ≡ each (insert_all nat_eq met (names x)) xs)
          → ask met x ++ behind l (each (insert_all nat_eq met (names x)) (xs ++ ys))
          ≡ ask met x ++ behind l (each (insert_all nat_eq met (names x)) xs)
      go [] first rest = ap (λ l. ask met x ++ l) (rest first)
      go (y ∷ more) first rest = refl

  each_begins : (met : List ℕ) (xs ys : List X) → Begins (each met xs) (each met (xs ++ ys))
  each_begins met [] ys = record { rest = each met ys; is = refl }
  each_begins met (x ∷ xs) ys = go (refused x) (each_begins (insert_all nat_eq met (names x)) xs ys)
    where
      go : (l : List Verdict) → Begins (each (insert_all nat_eq met (names x)) xs) (each (insert_all nat_eq met (names x)) (xs ++ ys))
          → Begins (ask met x ++ behind l (each (insert_all nat_eq met (names x)) xs))
          (ask met x ++ behind l (each (insert_all nat_eq met (names x)) (xs ++ ys)))
      go [] b = record {
        rest = b.rest;
        is = ap (λ l. ask met x ++ l) b.is ∙ sym (append_assoc (ask met x) (each (insert_all nat_eq met (names x)) xs) b.rest);
      }
      go (y ∷ more) b = begins_same (ask met x ++ [])

  module _ (told : Told) (memory : Words) (met : List ℕ) where
    -- a part that stopped among the first stopped among all
    pub each_stop : (xs ys : List X) (s t : Asked) (stop : Stop) → IsFirst (flat_map refused xs) stop
        → AsksOnly told memory (each met xs) s t (stopped_by stop) → AsksOnly told memory (each met (xs ++ ys)) s t (stopped_by stop)
    each_stop xs ys s t (Fails addr field clause) first asks =
        subst (λ l. AsksOnly told memory l s t (Ok tt)) (sym (each_refused met xs ys (No addr field clause) first)) asks
    each_stop xs ys s t (Fault fault) first asks =
        let b = each_begins met xs ys in
        subst (λ l. AsksOnly told memory l s t (Err fault)) (sym b.is) (asks_front told memory (each met xs) b.rest s t fault asks)

    module _ (after : List ℕ) (s t u : Asked) (r : Result (Unit {0}) AuditFault) where
      -- a part that didn't goes on
      pub each_on : (xs ys : List X) → flat_map refused xs ≡ [] → after ≡ insert_all nat_eq met (flat_map names xs)
          → AsksAll told memory (each met xs) s t → AsksOnly told memory (each after ys) t u r → AsksOnly told memory (each met (xs ++ ys)) s u r
      each_on xs ys none is first second =
          subst (λ l. AsksOnly told memory l s u r) (sym (each_then met xs ys none))
          (asks_then told memory (each met xs) (each (insert_all nat_eq met (flat_map names xs)) ys) s t u r first
          (subst (λ m. AsksOnly told memory (each m ys) t u r) is second))

      -- the next one of some
      pub each_next : (xs : List X) (k : ℕ) (x : X) → slice_get xs k ≡ Some x → flat_map refused (take k xs) ≡ []
          → after ≡ insert_all nat_eq met (flat_map names (take k xs)) → AsksAll told memory (each met (take k xs)) s t
          → AsksOnly told memory (ask after x) t u r → AsksOnly told memory (each met (take (suc k) xs)) s u r
      each_next xs k x at none is first second =
          subst (λ l. AsksOnly told memory (each met l) s u r) (sym (take_one xs k x at))
          (each_on (take k xs) (x ∷ []) none is first (subst (λ l. AsksOnly told memory l t u r) (sym (each_one after x)) second))

    -- and the one at which a part stopped
    pub each_stops : (after : List ℕ) (s t u : Asked) (xs : List X) (k : ℕ) (x : X) (stop : Stop) → slice_get xs k ≡ Some x
        → flat_map refused (take k xs) ≡ [] → after ≡ insert_all nat_eq met (flat_map names (take k xs))
        → AsksAll told memory (each met (take k xs)) s t → IsFirst (refused x) stop
        → AsksOnly told memory (ask after x) t u (stopped_by stop) → AsksOnly told memory (each met xs) s u (stopped_by stop)
    each_stops after s t u xs k x stop at none is first refusal second =
        subst (λ l. AsksOnly told memory (each met l) s u (stopped_by stop)) (take-append-drop (suc k) xs)
        (each_stop (take (suc k) xs) (drop (suc k) xs) s u stop
        (subst (λ l. IsFirst l stop) (sym (refused_next refused xs k x at none)) refusal)
        (each_next after s t u (stopped_by stop) xs k x at none is first second))

-- ---- a word, and a pointer

-- how a look at a pointer ends
abbrev pub looked : {A : Type 0} → Result A Rc → Result (Unit {0}) AuditFault
looked (Err CallbackError) = Err Callback
looked _ = Ok tt

pub looked_failed : (A : Type 0) (rc : Rc) → rc ≡ CallbackError → ◌≡◌ {A = Result (Unit {0}) AuditFault} (looked {A = A} (Err rc)) (Err Callback)
looked_failed A rc is = ap (λ c. looked {A = A} (Err c)) is

pub looked_other : (A : Type 0) (rc : Rc) → rc ≢ CallbackError → ◌≡◌ {A = Result (Unit {0}) AuditFault} (looked {A = A} (Err rc)) (Ok tt)
looked_other A CallbackError ne = absurd (ne refl)
looked_other A rc ne = refl

looked_or : {A : Type 0} (o : Option A) (addr field : ℕ) → ◌≡◌ {A = Result (Unit {0}) AuditFault} (looked (ok_or o (Error addr field))) (Ok tt)
looked_or None addr field = refl
looked_or (Some x) addr field = refl

module _ (w : List ℕ) (told : Told) (memory : Words) (s t : Asked) where
  -- the word of a field
  pub word_asks : (address : ℕ) (f : Field) (at : ℕ) (r : Result ℕ Rc) → Ran told memory CallbackError (word_of w address f at) s t r
      → Ran told memory Callback (read_all (place_of w address f at ∷ [])) s t (looked r)
  unfolding word_of
  word_asks address f at r (inl failed) = inl (failed.0, failed.1, ap looked failed.2)
  word_asks address f at r (inr goes) =
      inr (goes.0, (goes.1.0, ap looked goes.1.1 ∙ looked_or (memory (place_of w address f at)) address (number f)))

  -- the life word of the record to which a pointer leads
  pub lead_asks : (kind : Kind) (f : Field) (pointer : ℕ) (r : Result Held Rc) → Ran told memory CallbackError (lead w kind f pointer) s t r
      → Ran told memory Callback (read_all (life_word w (record_kind kind) pointer)) s t (looked r)
  unfolding lead
  lead_asks kind f pointer r ran = go (is_some (slot_at w (record_kind kind) pointer)) ran
    where
      go : (b : Bool)
          → Ran told memory CallbackError (cond b (Read (place_of w pointer (life_of (record_kind kind)) 0) (λ life. Answer (ok_or (option_and_then (object kind pointer) life) (Error pointer (number f))))) (Answer (Err (Error pointer (number f))))) s t r
          → Ran told memory Callback (read_all (cond b (place_of w pointer (life_of (record_kind kind)) 0 ∷ []) [])) s t (looked r)
      go true (inl failed) = inl (failed.0, failed.1, ap looked failed.2)
      go true (inr goes) =
          inr (goes.0, (goes.1.0, ap looked goes.1.1 ∙ looked_or (option_and_then (object kind pointer) (memory (place_of w pointer (life_of (record_kind kind)) 0))) pointer (number f)))
      go false ran = (ran.0, ap looked ran.1)

-- of a record that isn't known
pub asked_new : (w : List ℕ) (kind address : ℕ) (met : List ℕ) → (kind == threads) ≡ false
    → (is_some (slot_at w kind address) ≡ true → list_any (λ one. address == one) met ≡ false)
    → asked_of_record w met kind address ≡ life_word w kind address
asked_new w kind address met other new =
    go (kind == threads) (list_any (λ one. address == one) met) (is_some (slot_at w kind address)) other new
  where
    go : (a b c : Bool) → a ≡ false → (c ≡ true → b ≡ false)
        → cond (a || b) [] (cond c (place_of w address (life_of kind) 0 ∷ []) []) ≡ cond c (place_of w address (life_of kind) 0 ∷ []) []
    go true b c is new = absurd (cc)
    go false true true is new = absurd (let clash = new refl in cc)
    go false true false is new = refl
    go false false c is new = refl

-- at one place
module _ (w : List ℕ) (words : Words) (i : ℕ) (met : List ℕ) (p : Place) where
  pub place_unmapped : word_at w words p ≡ None → asked_among w words i met (p ∷ []) ≡ place_of w p.address p.field p.at ∷ []
  place_unmapped none =
      each_one (asked_at w words) (named_at w words) (refused_at w words i) met p
      ∙ ap (λ o. place_of w p.address p.field p.at ∷ option_map_or (asked_of_word w met p.field p.at) o []) none

  pub place_found : (found : ℕ) → word_at w words p ≡ Some found
      → asked_among w words i met (p ∷ []) ≡ place_of w p.address p.field p.at ∷ asked_of_word w met p.field p.at found
  place_found found some =
      each_one (asked_at w words) (named_at w words) (refused_at w words i) met p
      ∙ ap (λ o. place_of w p.address p.field p.at ∷ option_map_or (asked_of_word w met p.field p.at) o []) some

  -- no more was asked for than the word
  pub place_front : (told : Told) (s t : Asked) (fault : AuditFault) → AsksOnly told words (place_of w p.address p.field p.at ∷ []) s t (Err fault)
      → AsksOnly told words (asked_among w words i met (p ∷ [])) s t (Err fault)
  place_front told s t fault asks =
      subst (λ l. AsksOnly told words l s t (Err fault)) (sym (each_one (asked_at w words) (named_at w words) (refused_at w words i) met p))
      (asks_front told words (place_of w p.address p.field p.at ∷ []) (option_map_or (asked_of_word w met p.field p.at) (word_at w words p) []) s t fault asks)

-- of places one after the other
module _ (w : List ℕ) (words : Words) (i : ℕ) (told : Told) (met after : List ℕ) (s t u : Asked) where
  pub places_next : (r : Result (Unit {0}) AuditFault) (places : List Place) (k : ℕ) (p : Place) → slice_get places k ≡ Some p
      → flat_map (refused_at w words i) (take k places) ≡ [] → after ≡ insert_all nat_eq met (flat_map (named_at w words) (take k places))
      → AsksAll told words (asked_among w words i met (take k places)) s t → AsksOnly told words (asked_among w words i after (p ∷ [])) t u r
      → AsksOnly told words (asked_among w words i met (take (suc k) places)) s u r
  places_next r places k p at none is first second =
      each_next (asked_at w words) (named_at w words) (refused_at w words i) told words met after s t u r places k p at none is first
      (subst (λ l. AsksOnly told words l t u r) (each_one (asked_at w words) (named_at w words) (refused_at w words i) after p) second)

  pub places_stop : (places : List Place) (k : ℕ) (p : Place) (stop : Stop) → slice_get places k ≡ Some p
      → flat_map (refused_at w words i) (take k places) ≡ [] → after ≡ insert_all nat_eq met (flat_map (named_at w words) (take k places))
      → AsksAll told words (asked_among w words i met (take k places)) s t → IsFirst (refused_at w words i p) stop
      → AsksOnly told words (asked_among w words i after (p ∷ [])) t u (stopped_by stop)
      → AsksOnly told words (asked_among w words i met places) s u (stopped_by stop)
  places_stop places k p stop at none is first refusal second =
      each_stops (asked_at w words) (named_at w words) (refused_at w words i) told words met after s t u places k p stop at none is first refusal
      (subst (λ l. AsksOnly told words l t u (stopped_by stop)) (each_one (asked_at w words) (named_at w words) (refused_at w words i) after p) second)

-- ---- in a session

-- what a call asks for by what an earlier state of the session tells
pub asks_told : {C F : Type 0} (told : C → Told) (s t : Opened C F) (kept : Search) (list : Words → List ℕ) (before now : Asked) (r : Result (Unit {0}) AuditFault)
    → StaysWhole told s t → OverKept told t kept (λ m. AsksOnly (told t.table.calls) m (list m) before now r)
    → OverKept told t kept (λ m. AsksOnly (told s.table.calls) m (list m) before now r)
asks_told told s t kept list before now r stays holds m tells known =
    subst (λ o. AsksOnly o m (list m) before now r) stays.table.same (holds m tells known)

pub asks_kept : {C F : Type 0} (told : C → Told) (s t : Opened C F) (kept : Search) (list : List ℕ → Words → List ℕ) (before now : Asked) (r : Result (Unit {0}) AuditFault)
    → StaysWhole told s t → OverKept told t kept (λ m. AsksOnly (told t.table.calls) m (list t.layout m) before now r)
    → (memory : Words) → Tells (told s.table.calls) memory → Knows s.layout memory kept
    → AsksOnly (told s.table.calls) memory (list s.layout memory) before now r
asks_kept told s t kept list before now r stays holds =
    kept_on told s t kept (λ l m. AsksOnly (told s.table.calls) m (list l m) before now r) stays
    (asks_told told s t kept (list t.layout) before now r stays holds)
