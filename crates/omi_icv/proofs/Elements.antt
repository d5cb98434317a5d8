-- The elements of nthreads-var, one after the other.
use Rattle.std.proofs.Common.{◌≡◌, ℕ, zero, suc, ◌+◌, ◌-◌, ◌<◌, List, [], ◌∷◌, ◌++◌, subst, arith, refl}
use Rattle.std.specs.Prelude.{Ok, Err}
use Rattle.omi_calls.specs.Asked.{Asked}
use Rattle.omi_calls.specs.Told.{Told}
use Rattle.omi_layout.specs.declared.field.Field.TheVariants.{TaskNthreads}
use Rattle.omi_session.specs.declared.rc.Rc.{Rc}
use Rattle.omi_session.specs.Opened.{Opened}
use Rattle.omi_session.specs.Reads.{Answers}
use Rattle.omi_session.specs.Inquiry.{word_of}
use Rattle.omi_session.proofs.Asked.{asked_then, asked_refused, asked_answer}
use Rattle.omi_icv.specs.Values.{first_elements}

module _ {C F : Type 0} (told : C → Told) (asked : C → Asked) (s t u : Opened C F) (w : List ℕ)
    (address : ℕ) where
  -- one more was read
  pub one_more : (at : ℕ) (before : List ℕ) (element : ℕ) → told t.table.calls ≡ told s.table.calls
      → told u.table.calls ≡ told t.table.calls
      → Answers told asked s t (Ok before) (first_elements w address at) → Answers told asked t u (Ok element) (word_of w address TaskNthreads at)
      → Answers told asked s u (Ok (before ++ element ∷ [])) (first_elements w address (at + 1))
  unfolding first_elements
  one_more at before element same then first next =
      let one : suc at ≡ at + 1 = omega arith in
      subst (λ n. Answers told asked s u (Ok (before ++ element ∷ [])) (first_elements w address n)) one
      (asked_then t _ before same first
      (asked_then u _ element then next (asked_answer refl)))

  -- a refusal ends them
  refused_from : (rc : Rc) (at more : ℕ) → Answers told asked s u (Err rc) (first_elements w address at)
      → Answers told asked s u (Err rc) (first_elements w address (more + at))
  unfolding first_elements
  refused_from rc at zero first =
      let none : at ≡ 0 + at = omega arith in subst (λ n. Answers told asked s u (Err rc) (first_elements w address n)) none first
  refused_from rc at (suc more) first =
      let one : suc (more + at) ≡ suc more + at = omega arith in
      subst (λ n. Answers told asked s u (Err rc) (first_elements w address n)) one
      (asked_refused _ (refused_from rc at more first))

  pub refused_there : (at count : ℕ) (before : List ℕ) (rc : Rc) → told t.table.calls ≡ told s.table.calls
      → at < count
      → Answers told asked s t (Ok before) (first_elements w address at) → Answers told asked t u (Err rc) (word_of w address TaskNthreads at)
      → Answers told asked s u (Err rc) (first_elements w address count)
  unfolding first_elements
  refused_there at count before rc same below first next =
      let read : Answers told asked s u (Err rc) (first_elements w address (suc at)) =
      asked_then t _ before same first (asked_refused _ next) in
      let rest : (count - suc at) + suc at ≡ count = omega (arith, below) in
      subst (λ n. Answers told asked s u (Err rc) (first_elements w address n)) rest
      (refused_from rc (suc at) (count - suc at) read)
