use Rattle.std.proofs.Common.{◌≡◌, ◌≢◌, ℕ, suc, ◌+◌, ◌-◌, ◌<◌, ◌≤◌, List, [], ◌∷◌, ◌++◌, length, take, Option, Some, None, sym, ap, subst, refl, ◌∙◌, arith, below_more, rules, get_or-set_other, get_or-set_same}
use Rattle.std.specs.Prelude.{Result, Ok, Err, slice_index, slice_set, is_err, IsSome}
use Rattle.std.proofs.lemmas.Grind.{common_steps}
use Rattle.std.proofs.lemmas.List.{length-take-le, take_more_set, take_all}
use Rattle.omi_word.specs.Words.{Words}
use Rattle.omi_calls.specs.Asked.{Asked, Word, MayFail, MayAnswer, AsksWord, asked_after, missed_after}
use Rattle.omi_calls.specs.Told.{Told}
use Rattle.omi_layout.specs.declared.limits.TheConstants.{TABLE_WORDS}
use Rattle.omi_layout.specs.NoLayout.{table_address}
use Rattle.omi_layout.proofs.ReadTables.{table_read}
use Rattle.omi_session.specs.declared.rc.Rc.{Rc}
use Rattle.omi_session.specs.declared.rc.Rc.TheVariants.{CallbackError, Error}
use Rattle.omi_session.specs.Opening.{words_behind}
use Rattle.omi_session.specs.Reads.{Ran}
use Rattle.omi_session.proofs.Asked.{worked}
use Rattle.omi_session.proofs.OpeningReads.{read_on, read_none, read_failed, read_all}
use Rattle.omi_session.proofs.Told.{as_told, keeps_then}
use Rattle.omi_session.proofs.opening.read_table.Goals as goal

some_is : (o : Option ℕ) (x : ℕ) → o ≡ Some x → IsSome o
some_is (Some y) x e = search rules
some_is None x e = absurd (cc)

-- a word more was read
next_read : (memory : Words) (address at word : ℕ) (table : List ℕ) → length table ≡ TABLE_WORDS → at < TABLE_WORDS
    → ((j : ℕ) → j < at → memory (table_address address j) ≡ Some (slice_index table j))
    → Some word ≡ memory (table_address address at)
    → (j : ℕ) → j < at + 1 → memory (table_address address j) ≡ Some (slice_index (slice_set table at word) j)
next_read memory address at word table long within before is =
    below_more (λ j. memory (table_address address j) ≡ Some (slice_index (slice_set table at word) j)) at
    (λ j h. let other : j ≢ at = omega arith in rw get_or-set_other (before j h))
    (let lt : at < length table = omega arith in rw get_or-set_same (sym is))

-- a word was asked for by callbacks that tell the same
asks_as : {told now : Told} {address : ℕ} {before after : Asked} {Failed : Type 0} → now ≡ told
    → AsksWord now address before after Failed → AsksWord told address before after Failed
asks_as {address = address} {before = before} {after = after} {Failed = Failed} same asks =
    subst (λ n. AsksWord n address before after Failed) same asks

-- the reads that are left behind so many words of the table
module _ (told : Told) (memory : Words) (address : ℕ) (words : List ℕ) (long : length words ≡ TABLE_WORDS)
    (before now : Asked) where
  abbrev place : ℕ → ℕ
  place k = table_address address k

  abbrev next : ℕ → Asked
  next k = asked_after (Word (place k)) before

  -- so many are left behind these words, and were read from there on
  abbrev Left : ℕ → List ℕ → Asked → Result (List ℕ) Rc → Type 0
  Left n ws from r = Ran told memory CallbackError (words_behind address n ws) from now r

  module _ (at : ℕ) (within : at < TABLE_WORDS) where
    there : length (take at words) ≡ at
    there = length-take-le at words (omega (arith, long))

    left : TABLE_WORDS - at ≡ suc (TABLE_WORDS - (at + 1))
    left = omega arith

    pub left_on : (word : ℕ) (r : Result (List ℕ) Rc) → MayAnswer told (place at) → Some word ≡ memory (place at)
        → Left (TABLE_WORDS - (at + 1)) (take (at + 1) (slice_set words at word)) (next at) r
        → Left (TABLE_WORDS - at) (take at words) before r
    left_on word r may is ran =
        let more : take (at + 1) (slice_set words at word) ≡ take at words ++ (word ∷ []) =
        take_more_set words at word (omega (arith, long)) in
        let first = subst (λ ws. Left (TABLE_WORDS - (at + 1)) ws (next at) r) more ran in
        subst (λ n. Left n (take at words) before r) (sym left)
        (read_on told memory address (TABLE_WORDS - (at + 1)) (take at words) before now word r
        (subst (λ k. MayAnswer told (place k)) (sym there) may)
        (subst (λ k. Some word ≡ memory (place k)) (sym there) is)
        (subst (λ k. Left (TABLE_WORDS - (at + 1)) (take at words ++ (word ∷ [])) (next k) r) (sym there) first))

    pub left_none : MayAnswer told (place at) → None ≡ memory (place at) → now ≡ next at
        → Left (TABLE_WORDS - at) (take at words) before (Err (Error (place at) 0))
    left_none may is asks =
        subst (λ n. Left n (take at words) before (Err (Error (place at) 0))) (sym left)
        (subst (λ k. MayAnswer told (place k) → None ≡ memory (place k) → now ≡ next k
        → Left (suc (TABLE_WORDS - (at + 1))) (take at words) before (Err (Error (place k) 0)))
        there (read_none told memory address (TABLE_WORDS - (at + 1)) (take at words) before now) may is asks)

    pub left_failed : MayFail told (place at) → now ≡ missed_after (place at) before
        → Left (TABLE_WORDS - at) (take at words) before (Err CallbackError)
    left_failed may misses =
        subst (λ n. Left n (take at words) before (Err CallbackError)) (sym left)
        (read_failed told memory address (TABLE_WORDS - (at + 1)) (take at words) before now
        (subst (λ k. MayFail told (place k)) (sym there) may)
        (subst (λ k. now ≡ missed_after (place k) before) (sym there) misses))

-- none is left behind the whole table
left_all : (told : Told) (memory : Words) (address at : ℕ) (words : List ℕ) (now : Asked) → length words ≡ TABLE_WORDS
    → TABLE_WORDS ≤ at
    → Ran told memory CallbackError (words_behind address (TABLE_WORDS - at) (take at words)) now now (Ok words)
left_all told memory address at words now long past =
    let end : TABLE_WORDS - at ≡ 0 = omega arith in
    let all : take at words ≡ words = take_all at words (omega (arith, long)) in
    subst (λ n. Ran told memory CallbackError (words_behind address n (take at words)) now now (Ok words)) (sym end)
    (subst (λ ws. Ran told memory CallbackError (words_behind address 0 ws) now now (Ok words)) (sym all)
    (read_all told memory address words now))

pub returns-in_default-found-clause-words : goal.returns-in_default-found-clause-words
returns-in_default-found-clause-words g c = λ memory t.
    let found : c.in-Ok.found ≡ memory (table_address c.args.address c.loop-at.at) =
    as_told _ (g.C.Callbacks.told c.loop-at.table.calls) memory c.loop-at.invariant.same.same t
    (λ m. c.in-Ok.found ≡ m (table_address c.args.address c.loop-at.at)) c.in-Ok.ensures.word in
    let none : c.in-Ok.found ≡ None = c.in_default-found.is in (
      record {
        at = c.loop-at.at;
        within = omega arith;
        is = refl;
        none = sym found ∙ none;
        before = λ j h. some_is _ _ (c.loop-at.invariant.read memory t j h);
      },
      refl,
    )

pub returns-in_default-found-clause-reads : goal.returns-in_default-found-clause-reads
returns-in_default-found-clause-reads g c = λ memory t.
    let here = (asks_as c.loop-at.invariant.same.same c.word.ensures.asked).answered (worked c.in-Ok.is) in
    let found : c.in-Ok.found ≡ memory (table_address c.args.address c.loop-at.at) =
    as_told _ (g.C.Callbacks.told c.loop-at.table.calls) memory c.loop-at.invariant.same.same t
    (λ m. c.in-Ok.found ≡ m (table_address c.args.address c.loop-at.at)) c.in-Ok.ensures.word in
    c.loop-at.invariant.reads memory t _ _
    (left_none (g.C.Callbacks.told c.args.table.now.calls) memory c.args.address c.loop-at.words c.loop-at.invariant.words
    (g.C.Callbacks.asked c.loop-at.table.calls) _ c.loop-at.at (omega arith)
    here.0 (sym c.in_default-found.is ∙ found) here.1)

pub returns-in_default-clause-reads : goal.returns-in_default-clause-reads
returns-in_default-clause-reads g c = λ memory t.
    let here = (asks_as c.loop-at.invariant.same.same c.word.ensures.asked).failed (ap is_err c.in_default.is) in
    c.loop-at.invariant.reads memory t _ _
    (left_failed (g.C.Callbacks.told c.args.table.now.calls) memory c.args.address c.loop-at.words c.loop-at.invariant.words
    (g.C.Callbacks.asked c.loop-at.table.calls) _ c.loop-at.at (omega arith) here.0 here.1)

pub loop-at-preserved : goal.loop-at-preserved
loop-at-preserved g c =
    let told = g.C.Callbacks.told c.args.table.now.calls in
    let found : (memory : Words) (t : _) → Some c.in-Some.word ≡ memory (table_address c.args.address c.loop-at.at) =
    λ memory t. sym c.in-Some.is
    ∙ as_told _ (g.C.Callbacks.told c.loop-at.table.calls) memory c.loop-at.invariant.same.same t
    (λ m. c.in-Ok.found ≡ m (table_address c.args.address c.loop-at.at)) c.in-Ok.ensures.word in
    let here = (asks_as c.loop-at.invariant.same.same c.word.ensures.asked).answered (worked c.in-Ok.is) in
    record {
      words = grind (arith, common_steps, c.loop-at.invariant.words);
      same = keeps_then _ _ _ _ c.loop-at.invariant.same
          (record { same = c.word.ensures.same; order = c.word.ensures.order; to_host = c.word.ensures.to_host });
      later = omega (arith, c.loop-at.invariant.later, c.word.ensures.cause.later);
      reads = λ memory t now r ran.
          c.loop-at.invariant.reads memory t now r
          (left_on told memory c.args.address c.loop-at.words c.loop-at.invariant.words
          (g.C.Callbacks.asked c.loop-at.table.calls) now c.loop-at.at (omega arith) c.in-Some.word r here.0 (found memory t)
          (subst (λ a. Ran told memory CallbackError
          (words_behind c.args.address (TABLE_WORDS - (c.loop-at.at + 1))
          (take (c.loop-at.at + 1) (slice_set c.loop-at.words c.loop-at.at c.in-Some.word))) a now r) here.1 ran));
      read = λ memory t.
          next_read memory c.args.address c.loop-at.at c.in-Some.word c.loop-at.words c.loop-at.invariant.words (omega arith)
          (c.loop-at.invariant.read memory t) (found memory t);
    }

pub returns-clause-words : goal.returns-clause-words
returns-clause-words g c = λ memory t.
    table_read memory c.args.address c.loop-at.words c.loop-at.invariant.words
    (λ j h. c.loop-at.invariant.read memory t j (omega arith))

pub returns-clause-reads : goal.returns-clause-reads
returns-clause-reads g c = λ memory t.
    c.loop-at.invariant.reads memory t _ _
    (left_all (g.C.Callbacks.told c.args.table.now.calls) memory c.args.address c.loop-at.at c.loop-at.words
    (g.C.Callbacks.asked c.loop-at.table.calls) c.loop-at.invariant.words (omega arith))
