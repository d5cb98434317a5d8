-- A chain of objects that are asked about one after the other.
use Rattle.std.proofs.Common.{append-nil, ◌≡◌, ◌==◌, ◌||◌, ℕ, zero, suc, Bool, true, false, cond, List, [], ◌∷◌, ◌++◌, Option, Some, None, refl, sym, ap, subst, ◌∙◌}
use Rattle.std.specs.Cmp.{unsigned_ties}
use Rattle.std.specs.Ordering.{nat_cmp}
use Rattle.std.specs.BTreeSet.{BTreeSet, contains, Updates}
use Rattle.std.specs.Prelude.{Result, Ok, Err, IsErrAnd}
use Rattle.omi_calls.specs.Asked.{Asked}
use Rattle.omi_calls.specs.Told.{Told}
use Rattle.omi_session.specs.Opened.{Opened}
use Rattle.omi_session.specs.Reads.{then_reads}
use Rattle.omi_walk.specs.declared.fault.WalkFault.{WalkFault}
use Rattle.omi_walk.specs.declared.fault.WalkFault.TheVariants.{Cycle}
use Rattle.omi_walk.specs.declared.met.Met.{Met}
use Rattle.omi_walk.specs.Asking.{Asks, with_answer, ask_chain, also, none_met}
use Rattle.omi_walk.specs.Leaves.{Leaves}
use Rattle.omi_walk.specs.Walks.{Walks}
use Rattle.omi_walk.proofs.Goes.{Goes, goes_begin, goes_same, goes_on, goes_stop, goes_end}
use Rattle.omi_walk.proofs.EachAsked.{with_nothing, with_before}

-- an address more is in a set
pub also_met : (old new : BTreeSet ℕ) (key : ℕ) → Updates nat_cmp old new key true → (address : ℕ)
    → contains nat_cmp new address ≡ also key (contains nat_cmp old) address
also_met old new key updates address =
    updates.0 address
    ∙ ap (λ (b : Bool). cond b true (contains nat_cmp old address)) (sym (unsigned_ties key address))
    ∙ go (key == address)
  where
    go : (b : Bool) → cond b true (contains nat_cmp old address) ≡ (b || contains nat_cmp old address)
    go true = refl
    go false = refl

module _ {A C F : Type 0} (told : C → Told) (asked : C → Asked) (s : Opened C F)
    (ask : List ℕ → (ℕ → Bool) → Met → Asks (A × Option Met)) (count : ℕ) (first : Option Met) where
  abbrev pub all_asked : Asks (List A)
  all_asked = ask_chain (ask s.layout) count none_met first

  -- the rows so far, and the chain that is left
  abbrev pub ChainGoes : Opened C F → List A → ℕ → (ℕ → Bool) → Option Met → Type 0
  ChainGoes t rows left known current =
      Goes told asked s t all_asked
      (with_answer (λ more. rows ++ more) (ask_chain (ask s.layout) left known current))

  pub chain_begin : (rows : List A) (known : ℕ → Bool) (n : ℕ) → rows ≡ []
      → ((address : ℕ) → known address ≡ false) → n ≡ count → ChainGoes s rows n known first
  chain_begin rows known n none empty all =
      goes_same told asked s s all_asked all_asked
      (with_answer (λ more. rows ++ more) (ask_chain (ask s.layout) n known first))
      (sym (with_nothing all_asked)
      ∙ (λ i. with_answer (λ more. sym none i ++ more)
      (ask_chain (ask s.layout) (sym all i) (λ address. sym (empty address) i) first)))
      (goes_begin told asked s all_asked)

  -- the next object is known, and how many are left
  pub chain_at : (t : Opened C F) (rows : List A) (known : ℕ → Bool) (left next : ℕ)
      (current : Option Met) (m : Met) → current ≡ Some m → left ≡ next
      → ChainGoes t rows left known current → ChainGoes t rows next known (Some m)
  chain_at t rows known left next current m is same so =
      subst (λ n. ChainGoes t rows n known (Some m)) same
      (subst (λ o. ChainGoes t rows left known o) is so)

  module _ (t u : Opened C F) (rows : List A) (known now : ℕ → Bool) (left : ℕ) (m : Met)
      (same : (address : ℕ) → now address ≡ also m.held.addr known address)
      (so : ChainGoes t rows (suc left) known (Some m)) where
    -- the next one is asked about
    abbrev onward : A × Option Met → Asks (List A)
    onward found =
        with_answer (λ more. (rows ++ found.0 ∷ []) ++ more)
        (ask_chain (ask s.layout) left now found.1)

    asked_next : Goes told asked s t all_asked (then_reads (ask s.layout now m) onward)
    unfolding ask_chain
    asked_next =
        goes_same told asked s t all_asked _ _
        (with_before rows (ask s.layout (also m.held.addr known) m) (λ found. found.0)
        (λ found. ask_chain (ask s.layout) left (also m.held.addr known) found.1)
        ∙ (λ i. then_reads (ask s.layout (λ address. sym (same address) i) m) (λ found.
        with_answer (λ more. (rows ++ found.0 ∷ []) ++ more)
        (ask_chain (ask s.layout) left (λ address. sym (same address) i) found.1)))) so

    pub chain_next : (n : ℕ) (row : A) (next : Option Met) → Leaves told n t u
        → Walks told asked t u (Ok (row, next)) (ask t.layout now m)
        → ChainGoes u (rows ++ row ∷ []) left now next
    chain_next n row next leaves walks =
        goes_on told asked s t u (0, 0) all_asked (λ w k. ask w now m) onward asked_next n
        (row, next) leaves walks

    pub chain_stop : (fault : WalkFault) (r : Result (List A) WalkFault)
        → Walks told asked t u (Err fault) (ask t.layout now m) → IsErrAnd r (λ why. why ≡ fault)
        → Walks told asked s u r all_asked
    chain_stop fault r walks is =
        goes_stop told asked s t u (0, 0) all_asked (λ w k. ask w now m) onward asked_next fault r walks is

  module _ (t : Opened C F) (rows : List A) (known : ℕ → Bool) where
    pub chain_end : (left : ℕ) → ChainGoes t rows left known None → Walks told asked s t (Ok rows) all_asked
    unfolding ask_chain with_answer then_reads
    chain_end zero so =
        goes_end told asked s t all_asked (Ok rows) (Ok (rows ++ [])) (ap Ok (sym (append-nil rows))) so
    chain_end (suc left) so =
        goes_end told asked s t all_asked (Ok rows) (Ok (rows ++ [])) (ap Ok (sym (append-nil rows))) so

    -- no object is left
    pub chain_none : (left : ℕ) (current : Option Met) → current ≡ None
        → ChainGoes t rows left known current → Walks told asked s t (Ok rows) all_asked
    chain_none left current is so =
        chain_end left (subst (λ o. ChainGoes t rows left known o) is so)

    pub chain_cycle : (m : Met) → ChainGoes t rows zero known (Some m)
        → Walks told asked s t (Err (Cycle m.held.addr)) all_asked
    unfolding ask_chain with_answer then_reads
    chain_cycle m so =
        goes_end told asked s t all_asked (Err (Cycle m.held.addr)) (Err (Cycle m.held.addr)) refl so
