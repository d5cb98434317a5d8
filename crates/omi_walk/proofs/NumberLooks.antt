-- What the inquiry for the elements of nthreads-var answers is a plain look at them.
use Rattle.std.proofs.Common.{◌≡◌, ◌+◌, zero, suc, arith, ℕ, List, [], ◌∷◌, ◌++◌, refl, sym, ap, subst, ◌∙◌}
use Rattle.std.specs.Prelude.{Result, Ok, Err}
use Rattle.std.specs.FinMap.{get}
use Rattle.std.specs.List.{range_with_len}
use Rattle.omi_word.specs.Words.{Words}
use Rattle.omi_calls.specs.Told.{Told}
use Rattle.omi_handle.specs.declared.handle.Kind.TheVariants.{Task}
use Rattle.omi_handle.specs.declared.handle.TaskHandle.{TaskHandle}
use Rattle.omi_icv.specs.declared.icv_text.Value.{Value}
use Rattle.omi_icv.specs.declared.scoped.Scoped.TheVariants as scoped
use Rattle.omi_icv.specs.declared.variable.Source.TheVariants.{Elements}
use Rattle.omi_icv.specs.declared.variable.Variable.{Variable}
use Rattle.omi_icv.specs.Icvs.{icv_value}
use Rattle.omi_icv.specs.Records.{record_of}
use Rattle.omi_icv.specs.Scopes.{scope_of}
use Rattle.omi_icv.specs.Table.{variable_in}
use Rattle.omi_icv.specs.Values.{list_length, first_elements, elements, numbers_in}
use Rattle.omi_layout.specs.declared.field.Field.TheVariants.{TaskNthreadsLength, TaskNthreads}
use Rattle.omi_model.specs.declared.id.Id.{Id}
use Rattle.omi_rep.specs.Look.{Look, and_then, mapped, each, look_word}
use Rattle.omi_rep.specs.LookView.{look_within, look_nthreads}
use Rattle.omi_session.specs.declared.rc.Rc.{Rc}
use Rattle.omi_session.specs.Inquiry.{word_of}
use Rattle.omi_session.specs.Looked.{IsLook}
use Rattle.omi_session.specs.Made.{task_pair}
use Rattle.omi_session.specs.Opened.{Opened}
use Rattle.omi_session.specs.Reads.{Reads, Answer, answer_on, after, then_reads}
use Rattle.omi_session.specs.Tells.{Tells}
use Rattle.omi_session.proofs.Asked.{answer_then}
use Rattle.omi_session.proofs.LookedLaws.{word_is_looked}
use Rattle.omi_session.proofs.ShownParts.{then_answered}
use Rattle.omi_walk.specs.Objects.{Stands}
use Rattle.omi_walk.proofs.Looked.{stands_at}
use Rattle.omi_walk.proofs.MemberLooks.{within_looked}
use Rattle.omi_walk.proofs.WordLooks.{record_answers}

-- the numbers of a value
abbrev pub numbers_of : Result Value Rc → Result (List ℕ) Rc
numbers_of (Ok v) = Ok v.numbers
numbers_of (Err rc) = Err rc

abbrev Alike : Result (List ℕ) Rc → Look (List ℕ) → Type 0
Alike a l = IsLook {A = List ℕ} {B = List ℕ} (λ x y. x ≡ y) a l

range_snoc : (a n : ℕ) → range_with_len a (suc n) ≡ range_with_len a n ++ (a + n) ∷ []
range_snoc a zero = ap (λ k. k ∷ []) (omega arith)
range_snoc a (suc n) =
    ap (λ ks. a ∷ ks) (range_snoc (a + 1) n ∙ ap (λ k. range_with_len (a + 1) n ++ k ∷ []) (omega arith))

each_snoc : {A B : Type 0} (look : A → Look B) (xs : List A) (x : A)
    → each look (xs ++ x ∷ []) ≡ and_then (each look xs) (λ ys. mapped (λ y. ys ++ y ∷ []) (look x))
unfolding and_then
each_snoc {A} {B} look [] x = go (look x)
  where
    go : (l : Look B)
        → and_then l (λ y. and_then (Ok []) (λ ys. Ok (y ∷ ys))) ≡ and_then (Ok []) (λ ys. mapped (λ y. ys ++ y ∷ []) l)
    go (Ok y) = refl
    go (Err fault) = refl
each_snoc {A} {B} look (z ∷ zs) x =
    ap (λ l. and_then (look z) (λ y. mapped (λ ys. y ∷ ys) l)) (each_snoc look zs x) ∙ first (look z)
  where
    last : (y : B) (ls : Look (List B)) (l : Look B)
        → mapped (λ ys. y ∷ ys) (and_then ls (λ ys. mapped (λ v. ys ++ v ∷ []) l)) ≡ and_then (mapped (λ ys. y ∷ ys) ls) (λ ys. mapped (λ v. ys ++ v ∷ []) l)
    last y (Ok ys) (Ok v) = refl
    last y (Ok ys) (Err fault) = refl
    last y (Err fault) l = refl

    first : (l : Look B)
        → and_then l (λ y. mapped (λ ys. y ∷ ys) (and_then (each look zs) (λ ys. mapped (λ v. ys ++ v ∷ []) (look x))))
        ≡ and_then (and_then l (λ y. mapped (λ ys. y ∷ ys) (each look zs)))
        (λ ys. mapped (λ v. ys ++ v ∷ []) (look x))
    first (Ok y) = last y (each look zs) (look x)
    first (Err fault) = refl

module _ (w : List ℕ) (memory : Words) (address : ℕ) where
  pub first_elements_looked : (n : ℕ)
      → Alike (answer_on memory (first_elements w address n)) (each (look_word w memory address TaskNthreads) (range_with_len 0 n))
  unfolding first_elements and_then
  first_elements_looked zero = refl
  first_elements_looked (suc n) =
      subst
      (λ (a : Result (List ℕ) Rc). Alike a (each (look_word w memory address TaskNthreads) (range_with_len 0 (suc n))))
      (sym (answer_then memory (first_elements w address n) next))
      (subst (λ l. Alike (answer_on memory (after (answer_on memory (first_elements w address n)) next)) l)
      (sym (ap (each (look_word w memory address TaskNthreads)) (range_snoc 0 n ∙ ap (λ k. range_with_len 0 n ++ k ∷ []) (let same : 0 + n ≡ n = omega arith in same))
      ∙ each_snoc (look_word w memory address TaskNthreads) (range_with_len 0 n) n))
      (before (answer_on memory (first_elements w address n)) (each (look_word w memory address TaskNthreads) (range_with_len 0 n)) (first_elements_looked n)))
    where
      next : List ℕ → Reads (List ℕ)
      next ys = then_reads (word_of w address TaskNthreads n) (λ element. Answer (Ok (ys ++ element ∷ [])))

      last : (xs ys : List ℕ) → xs ≡ ys → (a : Result ℕ Rc) (l : Look ℕ)
          → IsLook {A = ℕ} {B = ℕ} (λ x y. x ≡ y) a l
          → Alike (answer_on memory (after a (λ element. Answer (Ok (xs ++ element ∷ [])))))
          (mapped (λ y. ys ++ y ∷ []) l)
      last xs ys same (Ok x) (Ok y) one = λ i. same i ++ one i ∷ []
      last xs ys same (Ok x) (Err fault) one = absurd one
      last xs ys same (Err rc) (Ok y) one = absurd one
      last xs ys same (Err rc) (Err fault) one = one

      before : (a : Result (List ℕ) Rc) (l : Look (List ℕ)) → Alike a l
          → Alike (answer_on memory (after a next))
          (and_then l (λ ys. mapped (λ y. ys ++ y ∷ []) (look_word w memory address TaskNthreads n)))
      before (Ok xs) (Ok ys) same =
          subst
          (λ (a : Result (List ℕ) Rc). Alike a (mapped (λ y. ys ++ y ∷ []) (look_word w memory address TaskNthreads n)))
          (sym (answer_then memory (word_of w address TaskNthreads n) (λ element. Answer (Ok (xs ++ element ∷ [])))))
          (last xs ys same (answer_on memory (word_of w address TaskNthreads n)) (look_word w memory address TaskNthreads n) (word_is_looked w memory address TaskNthreads n))
      before (Ok xs) (Err fault) same = absurd same
      before (Err rc) (Ok ys) same = absurd same
      before (Err rc) (Err fault) same = same

  pub elements_looked : Alike (answer_on memory (elements w address)) (and_then (look_within w memory address TaskNthreadsLength 1 4) (λ length. each (look_word w memory address TaskNthreads) (range_with_len 0 length)))
  unfolding elements list_length and_then
  elements_looked =
      subst
      (λ (a : Result (List ℕ) Rc). Alike a (and_then (look_within w memory address TaskNthreadsLength 1 4) (λ length. each (look_word w memory address TaskNthreads) (range_with_len 0 length))))
      (sym (answer_then memory (list_length w address) (first_elements w address)))
      (go (answer_on memory (list_length w address)) (look_within w memory address TaskNthreadsLength 1 4) (within_looked w memory address TaskNthreadsLength 1 4))
    where
      go : (a : Result ℕ Rc) (l : Look ℕ) → IsLook {A = ℕ} {B = ℕ} (λ x y. x ≡ y) a l
          → Alike (answer_on memory (after a (first_elements w address)))
          (and_then l (λ length. each (look_word w memory address TaskNthreads) (range_with_len 0 length)))
      go (Ok x) (Ok y) same =
          subst
          (λ z. Alike (answer_on memory (first_elements w address x)) (each (look_word w memory address TaskNthreads) (range_with_len 0 z))) same
          (first_elements_looked x)
      go (Ok x) (Err fault) same = absurd same
      go (Err rc) (Ok y) same = absurd same
      go (Err rc) (Err fault) same = same

module _ {C F : Type 0} (told : C → Told) (s : Opened C F) (n : Id) (memory : Words)
    (t : Tells (told s.table.calls) memory) where
  pub nthreads_looked : (k : TaskHandle) (icv : ℕ) (v : Variable) → Stands told s Task (task_pair k) n
      → variable_in (scope_of (scoped.Task k)) icv ≡ Ok v → v.source ≡ Elements
      → Alike (numbers_of (answer_on memory (icv_value s.layout (get s.handles.held) (scoped.Task k) icv)))
      (look_nthreads s.layout memory n)
  unfolding icv_value
  nthreads_looked k icv v st is source =
      subst (λ (a : Result Value Rc). Alike (numbers_of a) (look_nthreads s.layout memory n))
      (sym (then_answered memory (record_of s.layout (get s.handles.held) (scoped.Task k)) (λ address. then_reads (Answer (variable_in (scope_of (scoped.Task k)) icv)) (λ variable. valued variable address)) st.object.addr (record_answers told s Task (task_pair k) n st memory t)
      ∙ then_answered memory (Answer (variable_in (scope_of (scoped.Task k)) icv))
      (λ variable. valued variable st.object.addr) v is
      ∙ answer_then memory (numbers_in s.layout v.source st.object.addr) (made v)
      ∙ ap (λ source. answer_on memory (after (answer_on memory (numbers_in s.layout source st.object.addr)) (made v))) source))
      (go (answer_on memory (elements s.layout st.object.addr)) (look_nthreads s.layout memory n)
      (subst (λ a. Alike (answer_on memory (elements s.layout st.object.addr)) (and_then (look_within s.layout memory a TaskNthreadsLength 1 4) (λ length. each (look_word s.layout memory a TaskNthreads) (range_with_len 0 length))))
      (stands_at told s Task (task_pair k) n st) (elements_looked s.layout memory st.object.addr)))
    where
      made : Variable → List ℕ → Reads Value
      made variable numbers = Answer (Ok (record { spelling = variable.spelling; numbers = numbers }))

      valued : Variable → ℕ → Reads Value
      valued variable address = then_reads (numbers_in s.layout variable.source address) (made variable)

      go : (a : Result (List ℕ) Rc) (l : Look (List ℕ)) → Alike a l
          → Alike (numbers_of (answer_on memory (after a (made v)))) l
      go (Ok xs) (Ok ys) same = same
      go (Ok xs) (Err fault) same = absurd same
      go (Err rc) (Ok ys) same = absurd same
      go (Err rc) (Err fault) same = same
