-- An inquiry over known words of a memory: it comes to the answer there, or needs one more word.
use Rattle.std.proofs.Common.{◌≡◌, ◌⊎◌, inl, inr, ℕ, zero, suc, ◌+◌, ◌≤◌, ◌<◌, ◌==◌, ◌%◌, ◌&&◌, Bool, true, false, cond, List, [], ◌∷◌, ◌++◌, length, Option, Some, None, Result, Ok, Err, refl, sym, ap, subst, ◌∙◌, arith}
use Rattle.std.specs.Prelude.{not, is_some}
use Rattle.std.proofs.lemmas.Bool.{eqb-true, eq-eqb}
use Rattle.omi_word.specs.Words.{Words}
use Rattle.omi_session.specs.declared.rc.Rc.{Rc}
use Rattle.omi_session.specs.Reads.{Reads, Answer, Read, answer_on, addresses_on}
use Rattle.omi_c.specs.declared.known.Known.{Known}
use Rattle.omi_c.specs.Known.{is_unknown, known_at, known_or, word_at, word_known}
use Rattle.omi_c.specs.declared.causes.Cause.TheVariants.{Needs}
use Rattle.omi_c.specs.Replies.{asked_on, replied}
use Rattle.omi_c.specs.AskedAgain.{Has, HoldsOnEach, ComesToAnswer, known_of, known_with, known_after}

-- what is known stays known where more is
still_there : (known more : List Known) (addr : ℕ) → is_some (known_at known addr) ≡ true
    → is_some (known_at (known ++ more) addr) ≡ true
still_there [] more addr is = absurd cc
still_there (k ∷ known) more addr is = by_test (k.addr == addr) (still_there known more addr) is
  where
    by_test : (here : Bool) → (is_some (known_at known addr) ≡ true → is_some (known_at (known ++ more) addr) ≡ true)
        → is_some (cond here (Some k) (known_at known addr)) ≡ true
        → is_some (cond here (Some k) (known_at (known ++ more) addr)) ≡ true
    by_test true rest is = refl
    by_test false rest is = rest is

still_known : (known more : List Known) (addr : ℕ) → is_unknown known addr ≡ false → is_unknown (known ++ more) addr ≡ false
still_known known more addr =
    by_test (addr % 8 == 0) (is_some (known_at known addr)) (is_some (known_at (known ++ more) addr)) (still_there known more addr)
  where
    by_test : (aligned there then : Bool) → (there ≡ true → then ≡ true) → aligned && not there ≡ false → aligned && not then ≡ false
    by_test false there then stays is = refl
    by_test true true then stays is = ap not (stays refl)
    by_test true false then stays is = absurd cc

-- the last one is known too
last_there : (known : List Known) (k : Known) (addr : ℕ) → k.addr ≡ addr → is_some (known_at (known ++ k ∷ []) addr) ≡ true
last_there [] k addr is = ap (λ here. is_some (cond here (Some k) None)) (eq-eqb k.addr addr is)
last_there (j ∷ known) k addr is = by_test (j.addr == addr) (last_there known k addr is)
  where
    by_test : (here : Bool) → is_some (known_at (known ++ k ∷ []) addr) ≡ true
        → is_some (cond here (Some j) (known_at (known ++ k ∷ []) addr)) ≡ true
    by_test true rest = refl
    by_test false rest = rest

last_known : (known : List Known) (k : Known) (addr : ℕ) → k.addr ≡ addr → is_unknown (known ++ k ∷ []) addr ≡ false
last_known known k addr is = by_test (addr % 8 == 0) (is_some (known_at (known ++ k ∷ []) addr)) (last_there known k addr is)
  where
    by_test : (aligned there : Bool) → there ≡ true → aligned && not there ≡ false
    by_test false there is = refl
    by_test true there is = ap not is

-- what is known with the last one is known without it, or is the last one
known_or_last : (known : List Known) (last : Known) (addr : ℕ) (k : Known) → known_at (known ++ last ∷ []) addr ≡ Some k
    → (known_at known addr ≡ Some k) ⊎ ((last.addr ≡ addr) × (k ≡ last))
known_or_last [] last addr k is = by_test (last.addr == addr) refl is
  where
    by_test : (here : Bool) → last.addr == addr ≡ here → (let found : Option Known = cond here (Some last) None in found ≡ Some k)
        → (let none : Option Known = None in none ≡ Some k) ⊎ ((last.addr ≡ addr) × (k ≡ last))
    by_test true here is = inr (eqb-true last.addr addr here, cc)
    by_test false here is = absurd cc
known_or_last (j ∷ known) last addr k is = by_test (j.addr == addr) (known_or_last known last addr k) is
  where
    by_test : (here : Bool)
        → (known_at (known ++ last ∷ []) addr ≡ Some k → (known_at known addr ≡ Some k) ⊎ ((last.addr ≡ addr) × (k ≡ last)))
        → cond here (Some j) (known_at (known ++ last ∷ []) addr) ≡ Some k
        → (cond here (Some j) (known_at known addr) ≡ Some k) ⊎ ((last.addr ≡ addr) × (k ≡ last))
    by_test true rest is = inl is
    by_test false rest is = rest is

known_there : (addr : ℕ) (word : Option ℕ) → (known_of addr word).addr ≡ addr
known_there addr (Some word) = refl
known_there addr None = refl

known_word : (addr : ℕ) (word : Option ℕ) → word_known (known_of addr word) ≡ word
known_word addr (Some word) = refl
known_word addr None = refl

abbrev bit : Bool → ℕ
bit b = cond b 1 0

-- how many of these addresses have no known word
abbrev unknown_among : List Known → List ℕ → ℕ
unknown_among known [] = 0
unknown_among known (addr ∷ more) = bit (is_unknown known addr) + unknown_among known more

no_more : (known more : List Known) (addresses : List ℕ) → unknown_among (known ++ more) addresses ≤ unknown_among known addresses
no_more known more [] = omega arith
no_more known more (addr ∷ addresses) =
    let one = by_test (is_unknown known addr) (is_unknown (known ++ more) addr) (still_known known more addr) in
    let rest = no_more known more addresses in
    omega (arith, one, rest)
  where
    by_test : (unknown then : Bool) → (unknown ≡ false → then ≡ false) → bit then ≤ bit unknown
    by_test false then stays = subst (λ b. bit b ≤ 0) (sym (stays refl)) (omega arith)
    by_test true true stays = omega arith
    by_test true false stays = omega arith

all_unknown : (known : List Known) (addresses : List ℕ) → unknown_among known addresses ≤ length addresses
all_unknown known [] = omega arith
all_unknown known (addr ∷ addresses) =
    let one = by_test (is_unknown known addr) in let rest = all_unknown known addresses in omega (arith, one, rest)
  where
    by_test : (unknown : Bool) → bit unknown ≤ 1
    by_test true = omega arith
    by_test false = omega arith

module _ (memory : Words) where
  -- a memory has the word that it has
  has_more : (known : List Known) (addr : ℕ) → Has known memory → Has (known ++ known_of addr (memory addr) ∷ []) memory
  has_more known addr has = record {
    words = λ other k aligned there. by_place other k aligned (known_or_last known (known_of addr (memory addr)) other k there);
    aligned = has.aligned;
  }
    where
      by_place : (other : ℕ) (k : Known) → other % 8 ≡ 0
          → (known_at known other ≡ Some k) ⊎ (((known_of addr (memory addr)).addr ≡ other) × (k ≡ known_of addr (memory addr)))
          → memory other ≡ word_known k
      by_place other k aligned (inl there) = has.words other k aligned there
      by_place other k aligned (inr last) =
          ap memory (sym last.0 ∙ known_there addr (memory addr)) ∙ sym (known_word addr (memory addr)) ∙ ap word_known (sym last.1)

  -- a known word is that of the memory
  word_is : (known : List Known) → Has known memory → (addr : ℕ) → is_unknown known addr ≡ false → word_at known addr ≡ memory addr
  word_is known has addr = by_test (addr % 8 == 0) (known_at known addr) refl refl
    where
      by_test : (aligned : Bool) (found : Option Known) → addr % 8 == 0 ≡ aligned → known_at known addr ≡ found
          → aligned && not (is_some found) ≡ false → cond aligned (known_or found None) None ≡ memory addr
      by_test true (Some k) aligned there is = sym (has.words addr k (eqb-true (addr % 8) 0 aligned) there)
      by_test true None aligned there is = absurd cc
      by_test false found aligned there is = sym (has.aligned addr (λ zero. (let e = eq-eqb (addr % 8) 0 zero in let clash = sym aligned ∙ e in cc)))

  module _ {A : Type 0} (known : List Known) (has : Has known memory) where
    -- each word is known, and this is the answer; or one is needed, and fewer are where it is known
    abbrev Comes : Reads A → Type 0
    Comes reads =
        ((unknown_among known (addresses_on memory reads) ≡ 0) × (asked_on known reads ≡ replied (answer_on memory reads)))
        ⊎ record {
          addr : ℕ;
          needs : asked_on known reads ≡ Err (Needs addr);
          fewer : (more : List Known) → is_unknown (known ++ more) addr ≡ false
              → unknown_among (known ++ more) (addresses_on memory reads) < unknown_among known (addresses_on memory reads);
        }

    comes_on : (addr : ℕ) (more : Option ℕ → Reads A) → is_unknown known addr ≡ false → Comes (more (memory addr)) → Comes (Read addr more)
    comes_on addr more is comes = go comes
      where
        here : asked_on known (Read addr more) ≡ asked_on known (more (memory addr))
        here =
            ap (λ b. cond b (Err (Needs addr)) (asked_on known (more (word_at known addr)))) is
            ∙ ap (λ word. asked_on known (more word)) (word_is known has addr is)

        go : Comes (more (memory addr)) → Comes (Read addr more)
        go (inl all) = inl ((let none = all.0 in let one = ap bit is in omega (arith, none, one)), here ∙ all.1)
        go (inr one) = inr (record {
          addr = one.addr;
          needs = here ∙ one.needs;
          fewer = λ new there. (let rest = one.fewer new there in
              let before = ap bit is in
              let then = ap bit (still_known known new addr is) in
              omega (arith, rest, before, then));
        })

    comes_first : (addr : ℕ) (more : Option ℕ → Reads A) → is_unknown known addr ≡ true → Comes (Read addr more)
    comes_first addr more is = inr (record {
      addr = addr;
      needs = ap (λ b. cond b (Err (Needs addr)) (asked_on known (more (word_at known addr)))) is;
      fewer = λ new there. (let rest = no_more known new (addresses_on memory (more (memory addr))) in
          let before = ap bit is in
          let then = ap bit there in
          omega (arith, rest, before, then));
    })

    comes : (reads : Reads A) → Comes reads
    comes (Answer answer) = inl (refl, refl)
    comes (Read addr more) = by_test (is_unknown known addr) refl (comes (more (memory addr)))
      where
        by_test : (unknown : Bool) → is_unknown known addr ≡ unknown → Comes (more (memory addr)) → Comes (Read addr more)
        by_test true is rest = comes_first addr more is
        by_test false is rest = comes_on addr more is rest

  same_result : {A : Type 0} (a b : Result A Rc) → replied a ≡ replied b → a ≡ b
  same_result (Ok x) (Ok y) is = cc
  same_result (Ok x) (Err rc) is = absurd cc
  same_result (Err rc) (Ok y) is = absurd cc
  same_result (Err rc) (Err other) is = cc

  no_needs : {A : Type 0} (result : Result A Rc) (addr : ℕ) → replied result ≡ Err (Needs addr) → ⊥
  no_needs (Ok x) addr is = cc
  no_needs (Err rc) addr is = cc

  pub holds : {A : Type 0} (known : List Known) (reads : Reads A) (result : Result A Rc) → Has known memory
      → asked_on known reads ≡ replied result → answer_on memory reads ≡ result
  holds known reads result has is = go (comes known has reads)
    where
      go : Comes known has reads → answer_on memory reads ≡ result
      go (inl all) = same_result (answer_on memory reads) result (sym all.1 ∙ is)
      go (inr one) = absurd (no_needs result one.addr (sym is ∙ one.needs))

  -- nothing is learnt from an answer
  known_stays : {A : Type 0} (known : List Known) (result : Result A Rc) → known_with memory known (replied result) ≡ known
  known_stays known (Ok x) = refl
  known_stays known (Err rc) = refl

  comes_to : {A : Type 0} (n : ℕ) (known : List Known) (reads : Reads A) → Has known memory
      → unknown_among known (addresses_on memory reads) ≤ n
      → asked_on (known_after memory reads n known) reads ≡ replied (answer_on memory reads)
  comes_to zero known reads has few = go (comes known has reads)
    where
      go : Comes known has reads → asked_on known reads ≡ replied (answer_on memory reads)
      go (inl all) = all.1
      go (inr one) = absurd (let less = one.fewer (known_of one.addr (memory one.addr) ∷ []) (last_known known (known_of one.addr (memory one.addr)) one.addr (known_there one.addr (memory one.addr))) in omega (arith, less, few))
  comes_to (suc n) known reads has few = go (comes known has reads) (λ more now_has now_few. comes_to n more reads now_has now_few)
    where
      go : Comes known has reads
          → ((more : List Known) → Has more memory → unknown_among more (addresses_on memory reads) ≤ n
          → asked_on (known_after memory reads n more) reads ≡ replied (answer_on memory reads))
          → asked_on (known_after memory reads n (known_with memory known (asked_on known reads))) reads ≡ replied (answer_on memory reads)
      go (inl all) rest =
          ap (λ k. asked_on (known_after memory reads n k) reads) (ap (known_with memory known) all.1 ∙ known_stays known (answer_on memory reads))
          ∙ rest known has (let none = all.0 in omega (arith, none))
      go (inr one) rest =
          ap (λ k. asked_on (known_after memory reads n k) reads) (ap (known_with memory known) one.needs)
          ∙ rest (known ++ known_of one.addr (memory one.addr) ∷ []) (has_more known one.addr has)
          (let less = one.fewer (known_of one.addr (memory one.addr) ∷ []) (last_known known (known_of one.addr (memory one.addr)) one.addr (known_there one.addr (memory one.addr))) in
          omega (arith, less, few))

pub holds_on_each : {A : Type 0} → HoldsOnEach A
holds_on_each memory known reads result = holds memory known reads result

pub comes_to_answer : {A : Type 0} → ComesToAnswer A
comes_to_answer memory known reads has =
    comes_to memory (length (addresses_on memory reads)) known reads has (all_unknown known (addresses_on memory reads))
