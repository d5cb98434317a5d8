-- What is asked of one element after the other.
use Rattle.std.proofs.Common.{append_assoc, append-nil, ◌≡◌, ℕ, List, [], ◌∷◌, ◌++◌, Option, refl, sym, ap, ◌∙◌}
use Rattle.std.specs.FinMap.{get}
use Rattle.std.specs.Prelude.{Result, Ok, Err, IsErrAnd}
use Rattle.omi_calls.specs.Asked.{Asked}
use Rattle.omi_calls.specs.Told.{Told}
use Rattle.omi_handle.specs.declared.handle.Held.{Held}
use Rattle.omi_session.specs.Opened.{Opened}
use Rattle.omi_session.specs.Reads.{ReadsOr, Answer, Read, then_reads}
use Rattle.omi_walk.specs.declared.fault.WalkFault.{WalkFault}
use Rattle.omi_walk.specs.Asking.{Asks, with_answer, ask_each}
use Rattle.omi_walk.specs.Leaves.{Leaves}
use Rattle.omi_walk.specs.Walks.{Walks}
use Rattle.omi_walk.proofs.Goes.{Goes, goes_begin, goes_same, goes_on, goes_stop, goes_end}

-- ---- reads and then others

pub then_assoc : {E A B D : Type 0} (reads : ReadsOr E A) (more : A → ReadsOr E B) (last : B → ReadsOr E D)
    → then_reads (then_reads reads more) last ≡ then_reads reads (λ x. then_reads (more x) last)
unfolding then_reads
then_assoc (Answer (Ok x)) more last = refl
then_assoc (Answer (Err e)) more last = refl
then_assoc (Read addr next) more last = λ i. Read addr (λ word. then_assoc (next word) more last i)

-- an answer that is not changed
pub with_nothing : {E A : Type 0} (reads : ReadsOr E A) → with_answer (λ x. x) reads ≡ reads
unfolding then_reads with_answer
with_nothing (Answer (Ok x)) = refl
with_nothing (Answer (Err e)) = refl
with_nothing (Read addr next) = λ i. Read addr (λ word. with_nothing (next word) i)

-- what was answered stands before what follows
pub with_before : {E A B : Type 0} (ys : List B) (reads : ReadsOr E A) (one : A → B) (rest : A → ReadsOr E (List B))
    → with_answer (λ more. ys ++ more) (then_reads reads (λ x. with_answer (λ more. one x ∷ more) (rest x)))
    ≡ then_reads reads (λ x. with_answer (λ more. (ys ++ one x ∷ []) ++ more) (rest x))
unfolding with_answer then_reads
with_before {E} {A} {B} ys reads one rest =
    then_assoc reads (λ x. with_answer (λ more. one x ∷ more) (rest x)) (λ more. Answer (Ok (ys ++ more)))
    ∙ (λ i. then_reads reads (λ x. behind x i))
  where
    behind : (x : A)
        → then_reads (then_reads (rest x) (λ more. Answer (Ok (one x ∷ more)))) (λ more. Answer (Ok (ys ++ more))) ≡ then_reads (rest x) (λ more. Answer (Ok ((ys ++ one x ∷ []) ++ more)))
    behind x =
        then_assoc (rest x) (λ more. Answer (Ok (one x ∷ more))) (λ more. Answer (Ok (ys ++ more)))
        ∙ (λ i. then_reads (rest x) (λ more. Answer (Ok (sym (append_assoc ys (one x ∷ []) more) i))))

-- the same of several that were answered at once
pub with_parts : {E A B : Type 0} (ask : A → ReadsOr E B) (ys : List B) (xs left : List A)
    → with_answer (λ more. ys ++ more) (ask_each ask (xs ++ left)) ≡ then_reads (ask_each ask xs) (λ zs. with_answer (λ more. (ys ++ zs) ++ more) (ask_each ask left))
unfolding with_answer then_reads ask_each
with_parts ask ys [] left =
    λ i. then_reads (ask_each ask left) (λ more. Answer (Ok (sym (append-nil ys) i ++ more)))
with_parts {E} {A} {B} ask ys (x ∷ xs) left =
    with_before ys (ask x) (λ y. y) (λ y. ask_each ask (xs ++ left))
    ∙
    (λ i. then_reads (ask x) (λ y. (with_parts ask (ys ++ y ∷ []) xs left ∙ (λ j. then_reads (ask_each ask xs) (λ zs. regrouped y zs j)) ∙ sym (then_assoc (ask_each ask xs) (λ zs. Answer (Ok (y ∷ zs))) last)) i))
    ∙ sym (then_assoc (ask x) (λ y. with_answer (λ zs. y ∷ zs) (ask_each ask xs)) last)
  where
    last : List B → ReadsOr E (List B)
    last zs = with_answer (λ more. (ys ++ zs) ++ more) (ask_each ask left)

    regrouped : (y : B) (zs : List B)
        → with_answer (λ more. ((ys ++ y ∷ []) ++ zs) ++ more) (ask_each ask left) ≡ last (y ∷ zs)
    regrouped y zs = λ i. with_answer (λ more. append_assoc ys (y ∷ []) zs i ++ more) (ask_each ask left)

-- ---- in a session

module _ {X Y C F : Type 0} (told : C → Told) (asked : C → Asked) (s : Opened C F) (pair : ℕ × ℕ)
    (ask : List ℕ → Option Held → X → Asks Y) (all : List X) where
  -- what is asked of these in the session where it began
  abbrev pub ask_here : X → Asks Y
  ask_here = ask s.layout (get s.handles.held pair)

  -- these were answered, and those are left
  abbrev pub EachGoes : Opened C F → List Y → List X → Type 0
  EachGoes t ys left =
      Goes told asked s t (ask_each ask_here all) (with_answer (λ more. ys ++ more) (ask_each ask_here left))

  pub asks_begin : EachGoes s [] all
  asks_begin =
      goes_same told asked s s (ask_each ask_here all) (ask_each ask_here all)
      (with_answer (λ more. more) (ask_each ask_here all)) (sym (with_nothing (ask_each ask_here all)))
      (goes_begin told asked s (ask_each ask_here all))

  module _ (t u : Opened C F) (ys : List Y) where
    -- the next is asked
    next : (x : X) (left : List X) → EachGoes t ys (x ∷ left)
        → Goes told asked s t (ask_each ask_here all)
        (then_reads (ask_here x) (λ y. with_answer (λ more. (ys ++ y ∷ []) ++ more) (ask_each ask_here left)))
    unfolding ask_each
    next x left so =
        goes_same told asked s t (ask_each ask_here all) _ _
        (with_before ys (ask_here x) (λ y. y) (λ y. ask_each ask_here left)) so

    pub asks_next : (n : ℕ) (x : X) (left : List X) (y : Y) → EachGoes t ys (x ∷ left) → Leaves told n t u
        → Walks told asked t u (Ok y) (ask t.layout (get t.handles.held pair) x)
        → EachGoes u (ys ++ y ∷ []) left
    asks_next n x left y so leaves walks =
        goes_on told asked s t u pair (ask_each ask_here all) (λ w k. ask w k x)
        (λ y. with_answer (λ more. (ys ++ y ∷ []) ++ more) (ask_each ask_here left))
        (next x left so) n y leaves walks

    pub asks_stop : (x : X) (left : List X) (fault : WalkFault) (r : Result (List Y) WalkFault)
        → EachGoes t ys (x ∷ left)
        → Walks told asked t u (Err fault) (ask t.layout (get t.handles.held pair) x)
        → IsErrAnd r (λ why. why ≡ fault) → Walks told asked s u r (ask_each ask_here all)
    asks_stop x left fault r so walks is =
        goes_stop told asked s t u pair (ask_each ask_here all) (λ w k. ask w k x)
        (λ y. with_answer (λ more. (ys ++ y ∷ []) ++ more) (ask_each ask_here left))
        (next x left so) fault r walks is

    -- several are asked at once
    pub asks_part : (n : ℕ) (xs left : List X) (zs : List Y) → EachGoes t ys (xs ++ left) → Leaves told n t u
        → Walks told asked t u (Ok zs) (ask_each (ask t.layout (get t.handles.held pair)) xs) → EachGoes u (ys ++ zs) left
    asks_part n xs left zs so leaves walks =
        goes_on told asked s t u pair (ask_each ask_here all) (λ w k. ask_each (ask w k) xs)
        (λ zs. with_answer (λ more. (ys ++ zs) ++ more) (ask_each ask_here left))
        (goes_same told asked s t (ask_each ask_here all) _ _ (with_parts ask_here ys xs left) so) n zs leaves walks

    pub part_stop : (xs left : List X) (fault : WalkFault) (r : Result (List Y) WalkFault)
        → EachGoes t ys (xs ++ left)
        → Walks told asked t u (Err fault) (ask_each (ask t.layout (get t.handles.held pair)) xs)
        → IsErrAnd r (λ why. why ≡ fault) → Walks told asked s u r (ask_each ask_here all)
    part_stop xs left fault r so walks is =
        goes_stop told asked s t u pair (ask_each ask_here all) (λ w k. ask_each (ask w k) xs)
        (λ zs. with_answer (λ more. (ys ++ zs) ++ more) (ask_each ask_here left))
        (goes_same told asked s t (ask_each ask_here all) _ _ (with_parts ask_here ys xs left) so) fault r walks is

  pub asks_end : (t : Opened C F) (ys : List Y) → EachGoes t ys []
      → Walks told asked s t (Ok ys) (ask_each ask_here all)
  unfolding ask_each with_answer then_reads
  asks_end t ys so =
      goes_end told asked s t (ask_each ask_here all) (Ok ys) (Ok (ys ++ [])) (ap Ok (sym (append-nil ys))) so
