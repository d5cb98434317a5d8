-- Over words that show a state, the values of control variables are the state's.
use Rattle.std.proofs.Common.{◌≡◌, ◌==◌, ◌+◌, ◌*◌, ◌/◌, ◌%◌, ◌&&◌, ◌≤◌, ◌<◌, ℕ, zero, suc, Bool, true, false, cond, List, [], ◌∷◌, ◌++◌, length, take, Some, refl, sym, ap, ◌∙◌, arith}
use Rattle.std.specs.Prelude.{Result, Ok, Err, nat_le, slice_get, codes}
use Rattle.std.specs.Fmt.{decimal}
use Rattle.std.proofs.Math.Seq.{take-suc, take-length}
use Rattle.std.proofs.lemmas.Bool.Decides.{nat_tests}
use Rattle.std.proofs.lemmas.Option.{get_or_from_slice_get}
use Rattle.omi_word.specs.Words.{Words}
use Rattle.omi_layout.specs.declared.field.Field.{Field}
use Rattle.omi_layout.specs.declared.field.Field.TheVariants.{TaskNthreadsLength, TaskNthreads}
use Rattle.omi_layout.specs.Named.{number}
use Rattle.omi_numbers.specs.Words.{flag}
use Rattle.omi_rep.specs.Records.{record_at}
use Rattle.omi_script.specs.declared.statement.Sched.{Sched}
use Rattle.omi_session.specs.declared.rc.Rc.{Rc}
use Rattle.omi_session.specs.declared.rc.Rc.TheVariants.{Error, Incomplete, Unsupported}
use Rattle.omi_session.specs.Reads.{Answer, answer_on, after, then_reads}
use Rattle.omi_session.specs.Inquiry.{word_of}
use Rattle.omi_session.proofs.ShownParts.{then_answered, then_refused, word_told}
use Rattle.omi_session.proofs.ShownAnswers.{element_there}
use Rattle.omi_text.specs.Head.{debug_text}
use Rattle.omi_text.specs.Names.{kind_text}
use Rattle.omi_text.specs.Numbers.{decimals}
use Rattle.omi_text.specs.Tasks.{schedule_text}
use Rattle.omi_icv.specs.declared.icv_text.Value.{Value}
use Rattle.omi_icv.specs.declared.scoped.Scope.{Scope}
use Rattle.omi_icv.specs.declared.variable.Source.TheVariants.{Word, Elements}
use Rattle.omi_icv.specs.declared.variable.Spelling.{Spelling}
use Rattle.omi_icv.specs.declared.variable.Spelling.TheVariants.{Decimal}
use Rattle.omi_icv.specs.declared.variable.Variable.{Variable}
use Rattle.omi_icv.specs.Spellings.{number_text, value_text}
use Rattle.omi_icv.specs.Values.{alone, list_length, only_element, first_elements, elements, number_in, numbers_in}
use Rattle.omi_icv.specs.StateValues.{Content, only_of, as_number, as_text}

-- the text of a value that was read
abbrev pub text_read : Result Value Rc → Result (List ℕ) Rc
text_read (Ok value) = Ok (value_text value.spelling value.numbers)
text_read (Err rc) = Err rc

-- a flag is spelled as it is, and a schedule by its kind and its chunk
pub switch_text : (on : Bool) → debug_text (flag on) ≡ cond on (codes "enabled") (codes "disabled")
switch_text true = refl
switch_text false = refl

pub schedule_spelled : (s : Sched) → 1 ≤ s.kind → s.kind ≤ 4
    → schedule_text (s.chunk * 8 + s.kind) ≡ kind_text s.kind ++ 44 ∷ decimal s.chunk
unfolding schedule_text
schedule_spelled s from to =
    let kind : (s.chunk * 8 + s.kind) % 8 ≡ s.kind = omega (arith, to) in
    let chunk : (s.chunk * 8 + s.kind) / 8 ≡ s.chunk = omega (arith, to) in
    λ i. kind_text (kind i) ++ 44 ∷ decimal (chunk i)

list_spelled : (ns : List ℕ) → value_text Decimal ns ≡ decimals ns
unfolding value_text decimals
list_spelled ns = refl

alone_spelled : (spelling : Spelling) (n : ℕ) → value_text spelling (n ∷ []) ≡ number_text spelling n
unfolding value_text
alone_spelled spelling n = refl

-- the only element of a list, or that there are more
only_told : (ns : List ℕ) (first : ℕ) → slice_get ns 0 ≡ Some first
    → cond (length ns == 1) (Ok first) (Err (Incomplete first)) ≡ only_of ns
only_told [] first is = absurd (cc)
only_told (n ∷ []) first is = let same : n ≡ first = cc in ap Ok (sym same)
only_told (n ∷ m ∷ more) first is =
    let same : n ≡ first = cc in
    let several : length (n ∷ m ∷ more) == 1 ≡ false = grind (arith, nat_tests) in
    rw several (ap (λ x. Err (Incomplete x)) (sym same))

module _ (w : List ℕ) (memory : Words) (address : ℕ) where
  -- what is read of a variable is the state's value of it, as a number and as a text
  pub record Agrees (variable : Result Variable Rc) (value : Result Content Rc) : Type 0 where
    pub number : answer_on memory (after variable (λ v. number_in w v.source address)) ≡ as_number value
    pub text : text_read (answer_on memory (after variable (λ v.
        then_reads (numbers_in w v.source address) (λ numbers. Answer (Ok (record { spelling = v.spelling; numbers = numbers })))))) ≡ as_text value

  -- what is asked about has no such variable
  pub unsupported_agrees : Agrees (Err Unsupported) (Err Unsupported)
  unsupported_agrees = record { number = refl; text = refl }

  -- a value that is one number
  pub number_agrees : (v : Variable) (n : ℕ) (text : List ℕ)
      → numbers_in w v.source address ≡ alone (number_in w v.source address)
      → answer_on memory (number_in w v.source address) ≡ Ok n → number_text v.spelling n ≡ text
      → Agrees (Ok v) (Ok (record { numbers = n ∷ []; text = text }))
  unfolding alone
  number_agrees v n text plain is spelled =
      let read : answer_on memory (numbers_in w v.source address) ≡ Ok (n ∷ []) =
      ap (answer_on memory) plain ∙ then_answered memory (number_in w v.source address) _ n is in
      record {
        number = is;
        text = ap text_read (then_answered memory (numbers_in w v.source address) _ (n ∷ []) read) ∙ ap Ok (alone_spelled v.spelling n ∙ spelled);
      }

  -- and that is none
  pub refusal_agrees : (v : Variable) (rc : Rc)
      → numbers_in w v.source address ≡ alone (number_in w v.source address)
      → answer_on memory (number_in w v.source address) ≡ Err rc → Agrees (Ok v) (Err rc)
  unfolding alone
  refusal_agrees v rc plain is =
      let read : answer_on memory (numbers_in w v.source address) ≡ Err rc =
      ap (answer_on memory) plain ∙ then_refused memory (number_in w v.source address) _ rc is in
      record {
        number = is;
        text = ap text_read (then_refused memory (numbers_in w v.source address) _ rc read);
      }

  -- a word of the record
  pub word_agrees : (scope : Scope) (field : Field) (spelling : Spelling) (n : ℕ) (text : List ℕ)
      → record_at w memory address (number field) 0 ≡ Some n → number_text spelling n ≡ text
      → Agrees (Ok (record { scope = scope; source = Word field; spelling = spelling }))
      (Ok (record { numbers = n ∷ []; text = text }))
  word_agrees scope field spelling n text stands spelled =
      number_agrees (record { scope = scope; source = Word field; spelling = spelling }) n text refl
      (word_told w memory address field 0 n stands) spelled

  module _ (ns : List ℕ) (some : 1 ≤ length ns) (few : length ns ≤ 4)
      (count : record_at w memory address (number TaskNthreadsLength) 0 ≡ Some (length ns))
      (each : (j n : ℕ) → slice_get ns j ≡ Some n → record_at w memory address (number TaskNthreads) j ≡ Some n) where
    -- the elements of nthreads-var
    length_told : answer_on memory (list_length w address) ≡ Ok (length ns)
    unfolding list_length
    length_told =
        let test : nat_le 1 (length ns) && nat_le (length ns) 4 ≡ true =
        grind (arith, nat_tests, some, few) in
        then_answered memory (word_of w address TaskNthreadsLength 0) _ (length ns)
        (word_told w memory address TaskNthreadsLength 0 (length ns) count)
        ∙ ap (λ (b : Bool). cond b (Ok (length ns)) (Err (Error address (number TaskNthreadsLength)))) test

    only_element_told : answer_on memory (only_element w address) ≡ only_of ns
    unfolding only_element
    only_element_told =
        let first = element_there ns 0 (omega (arith, some)) in
        then_answered memory (list_length w address) _ (length ns) length_told
        ∙ then_answered memory (word_of w address TaskNthreads 0) _ first.0
        (word_told w memory address TaskNthreads 0 first.0 (each 0 first.0 first.1))
        ∙ only_told ns first.0 first.1

    first_told : (n : ℕ) → n ≤ length ns → answer_on memory (first_elements w address n) ≡ Ok (take n ns)
    unfolding first_elements
    first_told zero within = refl
    first_told (suc n) within =
        let low : n < length ns = omega (arith, within) in
        let next = element_there ns n low in
        then_answered memory (first_elements w address n) _ (take n ns) (first_told n (omega (arith, within)))
        ∙ then_answered memory (word_of w address TaskNthreads n) _ next.0
        (word_told w memory address TaskNthreads n next.0 (each n next.0 next.1))
        ∙ ap Ok
        (ap (λ x. take n ns ++ x ∷ []) (sym (get_or_from_slice_get ns n next.0 0 next.1)) ∙ sym (take-suc ns n 0 low))

    elements_told : answer_on memory (elements w address) ≡ Ok ns
    unfolding elements
    elements_told =
        then_answered memory (list_length w address) (first_elements w address) (length ns) length_told
        ∙ first_told (length ns) (omega arith) ∙ ap Ok (take-length ns)

    pub elements_agree : (scope : Scope)
        → Agrees (Ok (record { scope = scope; source = Elements; spelling = Decimal })) (Ok (record { numbers = ns; text = decimals ns }))
    elements_agree scope = record {
      number = only_element_told;
      text = ap text_read (then_answered memory (elements w address) _ ns elements_told) ∙ ap Ok (list_spelled ns);
    }
