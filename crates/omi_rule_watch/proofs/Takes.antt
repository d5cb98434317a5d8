-- A step takes an own record only where the search has found it: a load takes none, nor does an operation on another word than a life
-- word, nor a store that gives a record back.
use Rattle.std.proofs.Common.{◌≡◌, ◌%◌, ◌==◌, ◌&&◌, ℕ, Bool, true, false, List, Some, refl, sym, ap, ◌∙◌, arith, eq-eqb, eqb-true}
use Rattle.std.specs.Prelude.{not}
use Rattle.omi_word.specs.declared.op.Op.{Op}
use Rattle.omi_word.specs.declared.op.Op.TheVariants as op
use Rattle.omi_word.specs.Memory.{left_of}
use Rattle.omi_model.specs.declared.id.Id.{Id}
use Rattle.omi_layout.specs.declared.field.Field.{Field}
use Rattle.omi_layout.specs.declared.field.Field.TheVariants.{RegionLife, TaskLife}
use Rattle.omi_layout.specs.Named.{number}
use Rattle.omi_layout.specs.Valid.{IsValid}
use Rattle.omi_step_words.specs.Words.{unused_word, used_word}
use Rattle.omi_rule.specs.Steps.{IsOn, RecordWord}
use Rattle.omi_rule_watch.specs.Demands.{TakesFound, takes_record}
use Rattle.omi_rule_watch.specs.Watch.{Search, is_own, takes}
use Rattle.omi_rule_watch.specs.WatchLaws.{IsSameWord}
use Rattle.omi_rule_watch.proofs.SameWords.{words_one}
use Rattle.omi_rule_watch.proofs.Standing.{same_number, word_of}

-- what a step takes was found: a region, and a task
abbrev pub IsFound : ℕ → RecordWord → Op → ℕ → Search → Type 0
IsFound i x o found h =
    TakesFound RegionLife i x o found h.region × TakesFound TaskLife i x o found h.task

and_none : (b c : Bool) → b && (c && false) ≡ false
and_none true true = refl
and_none true false = refl
and_none false c = refl

and_false : (b c : Bool) → b && (false && c) ≡ false
and_false true c = refl
and_false false c = refl

-- other numbers
pub other_number : (n k : ℕ) → (n ≡ k → ⊥) → n == k ≡ false
other_number n k apart = go (n == k) refl
  where
    go : (b : Bool) → n == k ≡ b → b ≡ false
    go true e = absurd (apart (eqb-true n k e))
    go false e = refl

none_taken : (i : ℕ) (x : RecordWord) (o : Op) (found : ℕ) (h : Search)
    → takes_record RegionLife i x o found ≡ false → takes_record TaskLife i x o found ≡ false
    → IsFound i x o found h
none_taken i x o found h no_region no_task =
    (λ is. absurd (cc (sym no_region, is)), λ is. absurd (cc (sym no_task, is)))

-- a load changes no word
load_changes : (life : Field) (i : ℕ) (x : RecordWord) (address found : ℕ)
    → takes_record life i x (op.Load address) found ≡ false
load_changes life i x address found =
    ap (λ b. is_own life i x && (found % 2 == 1 && not b)) (same_number found)
    ∙ and_none (is_own life i x) (found % 2 == 1)

pub loads_none : (i : ℕ) (x : RecordWord) (address found : ℕ) (h : Search)
    → IsFound i x (op.Load address) found h
loads_none i x address found h =
    none_taken i x (op.Load address) found h
    (load_changes RegionLife i x address found) (load_changes TaskLife i x address found)

-- the life word of a record that is given back is even
even_word : (n : Id) → unused_word n % 2 == 1 ≡ false
even_word n = other_number (unused_word n % 2) 1 (λ is. absurd (omega (arith, is)))

frees_one : (life : Field) (i : ℕ) (x : RecordWord) (address : ℕ) (n : Id) (found : ℕ)
    → takes_record life i x (op.Store address (unused_word n)) found ≡ false
frees_one life i x address n found =
    ap (λ b. is_own life i x && (b && not (unused_word n == found))) (even_word n)
    ∙ and_false (is_own life i x) (not (unused_word n == found))

pub frees_none : (i : ℕ) (x : RecordWord) (address : ℕ) (n : Id) (found : ℕ) (h : Search)
    → IsFound i x (op.Store address (unused_word n)) found h
frees_none i x address n found h =
    none_taken i x (op.Store address (unused_word n)) found h
    (frees_one RegionLife i x address n found) (frees_one TaskLife i x address n found)

module _ (w : List ℕ) (valid : IsValid w) (i : ℕ) (o : Op) (x y : RecordWord) (on : IsOn w o x)
    (there : IsOn w o y) (found : ℕ) where
  same : IsSameWord x y
  same = words_one w o x y valid on there

  -- the word is no life word of this kind
  other_word : (life : Field) → number y.field == number life ≡ false
      → takes_record life i x o found ≡ false
  other_word life other =
      ap (λ k. (k == number life && x.creator == i) && (left_of o found % 2 == 1 && not (left_of o found == found))) same.field
      ∙ ap (λ b. (b && x.creator == i) && (left_of o found % 2 == 1 && not (left_of o found == found))) other

  pub misses : (h : Search) → number y.field == number RegionLife ≡ false
      → number y.field == number TaskLife ≡ false → IsFound i x o found h
  misses h no_region no_task =
      none_taken i x o found h (other_word RegionLife no_region) (other_word TaskLife no_task)

all_true : (a b c d : Bool) → a ≡ true → b ≡ true → c ≡ true → d ≡ true → a && ((b && c) && d) ≡ true
all_true a b c d one two three four =
    ap (λ (e : Bool). e && ((b && c) && d)) one
    ∙ ap (λ (e : Bool). (e && c) && d) two ∙ ap (λ (e : Bool). e && d) three ∙ four

-- the odd life word of the object that was found is stored
module _ (w : List ℕ) (valid : IsValid w) (i : ℕ) (address : ℕ) (n : Id) (maker : n.creator ≡ i)
    (found : ℕ) (h : Search) (x : RecordWord) (on : IsOn w (op.Store address (used_word n)) x) where
  abbrev o : Op
  o = op.Store address (used_word n)

  abbrev life_of : Field → RecordWord
  life_of life = word_of n.creator n.slot life

  found_one : (life : Field) → IsOn w o (life_of life) → takes life i x o n ≡ true
  found_one life there =
      let same = words_one w o x (life_of life) valid on there in
      all_true (used_word n == used_word n) (number x.field == number life) (x.creator == i) (x.slot == n.slot)
      (same_number (used_word n)) (eq-eqb (number x.field) (number life) same.field)
      (eq-eqb x.creator i (same.creator ∙ maker)) (eq-eqb x.slot n.slot same.slot)

  -- and no record of the other kind
  takes_other : {A : Type 0} (life other : Field) → IsOn w o (life_of life) → number life == number other ≡ false
      → takes_record other i x o found ≡ true → A
  takes_other life other there apart takes =
      absurd (cc (sym (other_word w valid i o x (life_of life) on there found other apart), takes))

  pub takes_region : IsOn w o (life_of RegionLife) → h.region ≡ Some n → IsFound i x o found h
  takes_region there is =
      (λ takes. (n, is, found_one RegionLife there), takes_other RegionLife TaskLife there refl)

  pub takes_task : IsOn w o (life_of TaskLife) → h.task ≡ Some n → IsFound i x o found h
  takes_task there is =
      (takes_other TaskLife RegionLife there refl, λ takes. (n, is, found_one TaskLife there))
