-- What the reads of a walk answer is what a look at the whole report gives; and the regions that are indexed live.
use Rattle.std.proofs.Common.{◌≡◌, ◌==◌, ℕ, Bool, true, false, cond, List, [], ◌∷◌, find, Some, sym, ap, subst, ◌∙◌}
use Rattle.std.specs.Prelude.{◌≢◌, Result, Ok, Err, IfSome}
use Rattle.std.specs.BTreeMap.{BTreeMap}
use Rattle.std.specs.List.{All}
use Rattle.std.proofs.lemmas.List.Elements.{All-head, All-tail}
use Rattle.omi_calls.specs.Asked.{Asked}
use Rattle.omi_calls.specs.Told.{Told}
use Rattle.omi_handle.specs.declared.handle.Kind.TheVariants.{Region}
use Rattle.omi_model.specs.declared.view.View.{View}
use Rattle.omi_rep.specs.Look.{Look}
use Rattle.omi_rep.specs.LookView.{look_view}
use Rattle.omi_session.specs.Opened.{Opened}
use Rattle.omi_walk.specs.declared.fault.WalkFault.{WalkFault}
use Rattle.omi_walk.specs.declared.met.Met.{Met}
use Rattle.omi_walk.specs.Gives.{Looks, Gives}
use Rattle.omi_walk.specs.Index.{key_of, HasFirst}
use Rattle.omi_walk.specs.Objects.{IsMet}
use Rattle.omi_walk.specs.Regions.{AreLive}
use Rattle.omi_layout.specs.Valid.{IsValid}
use Rattle.omi_rep.specs.declared.fault.LookFault.TheVariants as plain
use Rattle.omi_walk.specs.declared.fault.WalkFault.TheVariants.{Damaged, Cycle, Callback, OutOfMemory}
use Rattle.omi_walk.specs.AskLooked.{as_walked}
use Rattle.omi_walk.specs.AskView.{ask_view}
use Rattle.omi_walk.specs.Walks.{Walks}
use Rattle.omi_walk.proofs.Goes.{walks_is}
use Rattle.omi_walk.proofs.AskedView.{looked_view}

-- what holds of all holds of the one that is found
found_of : {A : Type 0} (P : A → Type 0) (p : A → Bool) (xs : List A) → All P xs → IfSome (find p xs) P
found_of P p [] all = tt
found_of P p (x ∷ xs) all = go (p x) (All-head P x xs all) (found_of P p xs (All-tail P x xs all))
  where
    go : (b : Bool) → P x → IfSome (find p xs) P → IfSome (cond b (Some x) (find p xs)) P
    go true here rest = here
    go false here rest = rest

-- each region that an index has of regions that live, lives
pub index_lives : {C F : Type 0} (told : C → Told) (s : Opened C F) (index : BTreeMap ℕ Met) (met : List Met)
    → HasFirst index met → All (IsMet told s Region) met → AreLive told s index
index_lives told s index met first live key =
    subst (λ o. IfSome o (IsMet told s Region)) (sym (first key))
    (found_of (IsMet told s Region) (λ m. key_of m == key) met live)

-- ---- what the walk's reads answer is what a look gives

gives_of : {A : Type 0} (r : Result A WalkFault) (l : Look A)
    → (r ≢ Err Callback → r ≢ Err OutOfMemory → r ≡ as_walked l) → Gives r l
gives_of {A} (Ok x) l is = go l (is (λ e. cc) (λ e. cc))
  where
    go : (l : Look A) → Ok x ≡ as_walked l → l ≡ Ok x
    go (Ok y) e = let same : x ≡ y = cc in ap Ok (sym same)
    go (Err fault) e = absurd (cc)
gives_of (Err Callback) l is = tt
gives_of (Err OutOfMemory) l is = tt
gives_of {A} (Err (Damaged addr field)) l is = go l (is (λ e. cc) (λ e. cc))
  where
    go : (l : Look A) → Err (Damaged addr field) ≡ as_walked l → l ≡ Err (plain.Damaged addr field)
    go (Ok y) e = absurd (cc)
    go (Err (plain.Damaged a f)) e =
        let same : Damaged addr field ≡ Damaged a f = cc in let one : a ≡ addr = cc in let other : f ≡ field = cc in λ i. Err (plain.Damaged (one i) (other i))
    go (Err (plain.Cycle a)) e = absurd (cc)
gives_of {A} (Err (Cycle addr)) l is = go l (is (λ e. cc) (λ e. cc))
  where
    go : (l : Look A) → Err (Cycle addr) ≡ as_walked l → l ≡ Err (plain.Cycle addr)
    go (Ok y) e = absurd (cc)
    go (Err (plain.Damaged a f)) e = absurd (cc)
    go (Err (plain.Cycle a)) e =
        let same : Cycle addr ≡ Cycle a = cc in let one : a ≡ addr = cc in ap (λ a. Err (plain.Cycle a)) one

pub looks_of_reads : {C F : Type 0} (told : C → Told) (asked : C → Asked) (s t : Opened C F) (contexts : List ℕ) (r : Result View WalkFault)
    → IsValid s.layout
    → Walks told asked s t r (ask_view s.layout contexts) → Looks told s r (λ w memory. look_view w memory contexts)
unfolding Looks
looks_of_reads told asked s t contexts r valid walks = λ memory tells.
    gives_of r (look_view s.layout memory contexts)
    (λ ne no. walks_is told asked walks memory tells ne no ∙ looked_view s.layout memory contexts valid)
