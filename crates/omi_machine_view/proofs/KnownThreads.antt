-- The threads of contexts are threads of the state, and chains one after the other.
use Rattle.std.proofs.Common.{◌≡◌, ◌==◌, ◌⊎◌, inl, inr, ℕ, zero, suc, ◌+◌, ◌-◌, ◌<◌, ◌≤◌, ◌&&◌, Bool, true, false, nat_lt, nat_le, List, [], ◌∷◌, ◌++◌, length, take, Option, Some, None, if◌then◌else◌, refl, sym, ap, subst, ◌∙◌, arith, append_assoc}
use Rattle.std.specs.Prelude.{Contains, slice_get}
use Rattle.std.specs.List.{filter_map, cons_option}
use Rattle.std.proofs.lemmas.List.{append-nil}
use Rattle.std.proofs.lemmas.Bool.Decides.{nat_tests}
use Rattle.std.proofs.lemmas.Option.{slice_get_within, get_or_from_slice_get}
use Rattle.omi_numbers.specs.declared.words.TheConstants.{FIRST_NATIVE}
use Rattle.omi_model.specs.declared.view.TaskRow.{TaskRow}
use Rattle.omi_model.specs.State.{State}
use Rattle.omi_model.specs.Views.{AreChains, IsChain, thread_with}
use Rattle.omi_machine_view.specs.Chains.{IsChainAdded}

-- an element at a place is one of the list
pub element : (xs : List ℕ) (at x : ℕ) → slice_get xs at ≡ Some x → Contains xs x
element xs at x is = (at, slice_get_within xs at x is, get_or_from_slice_get xs at x x is)

some_same : {A : Type 0} (x y : A) → Some x ≡ Some y → x ≡ y
some_same x y e = cc e

-- what is found of a context is a thread of the state
with_known : (s : State) (native i : ℕ) → thread_with s native ≡ Some i → i < s.count
with_known s native i is =
    go (nat_le FIRST_NATIVE native) (nat_lt (native - FIRST_NATIVE) s.count)
    (s.threads (native - FIRST_NATIVE)).begun refl is
  where
    go : (a b c : Bool) → nat_lt (native - FIRST_NATIVE) s.count ≡ b
        → (if a && b && c then Some (native - FIRST_NATIVE) else None) ≡ Some i → i < s.count
    go true true true e f =
        let same : native - FIRST_NATIVE ≡ i = some_same (native - FIRST_NATIVE) i f in grind (arith, nat_tests)
    go true true false e f = absurd (cc f)
    go true false c e f = absurd (cc f)
    go false b c e f = absurd (cc f)

pub threads_known : (s : State) (contexts : List ℕ) (i : ℕ) → Contains (filter_map (thread_with s) contexts) i
    → i < s.count
threads_known s [] i (k, within, is) = absurd (omega (arith, within))
threads_known s (native ∷ contexts) i among =
    go (λ is. threads_known s contexts i is) (thread_with s native) refl among
  where
    go : (Contains (filter_map (thread_with s) contexts) i → i < s.count) → (o : Option ℕ)
        → thread_with s native ≡ o → Contains (cons_option o (filter_map (thread_with s) contexts)) i
        → i < s.count
    go rest None e is = rest is
    go rest (Some j) e (zero, within, is) = subst (λ n. n < s.count) is (with_known s native j e)
    go rest (Some j) e (suc k, within, is) = rest (k, omega (arith, within), is)

-- one chain more
pub chains_more : (s : State) (threads : List ℕ) (i : ℕ) (old new : List TaskRow) → AreChains s threads old
    → IsChainAdded s i old new → AreChains s (threads ++ i ∷ []) new
chains_more s [] i old new none (chain, made, is) =
    (chain, [], made ∙ ap (λ rows. rows ++ chain) none ∙ sym (append-nil chain), is, refl)
chains_more s (j ∷ threads) i old new (first, rest, was, is, more) (chain, made, last) =
    (first, rest ++ chain, made ∙ ap (λ rows. rows ++ chain) was ∙ append_assoc first rest chain, is, chains_more s threads i rest (rest ++ chain) more (chain, refl, last))
