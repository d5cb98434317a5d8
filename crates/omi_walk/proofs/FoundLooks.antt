-- The threads that were found for the rows so far, and the elements of a list that are left.
use Rattle.std.proofs.Common.{◌≡◌, ◌≤◌, ◌<◌, ◌+◌, ℕ, suc, List, [], ◌∷◌, ◌++◌, Option, Some, None, drop, get_or, length, ap, ◌∙◌, arith}
use Rattle.std.proofs.Math.Seq.{drop-cons}
use Rattle.std.proofs.lemmas.List.{length-append}
use Rattle.std.proofs.lemmas.List.Elements.{All-nil, All-cons, All-append, All-weaker}
use Rattle.std.specs.List.{All}
use Rattle.std.specs.Prelude.{IfSome}
use Rattle.omi_calls.specs.Told.{Told}
use Rattle.omi_handle.specs.declared.handle.Kind.TheVariants.{Task}
use Rattle.omi_model.specs.declared.view.ThreadPart.{ThreadPart}
use Rattle.omi_session.specs.Opened.{Opened, Stays}
use Rattle.omi_walk.specs.declared.found.Found.{Found}
use Rattle.omi_walk.specs.declared.met.Met.{Met}
use Rattle.omi_walk.specs.FoundThreads.{IsFound}
use Rattle.omi_walk.specs.Objects.{IsMet}
use Rattle.omi_walk.specs.SeenThreads.{found_in}
use Rattle.omi_walk.proofs.Steps.{met_after}

-- a row adds at most one thread
count_in : (o : Option ThreadPart) (current : Option Met) → length (found_in o current) ≤ 1
count_in None current = omega arith
count_in (Some part) current = omega arith

pub found_few : (found : List Found) (o : Option ThreadPart) (current : Option Met) (most : ℕ)
    → length found ≤ most → length (found ++ found_in o current) ≤ most + 1
found_few found o current most few =
    let both = length-append found (found_in o current) in
    let one = count_in o current in
    omega (arith, both, one, few)

module _ {C F : Type 0} (told : C → Told) (s t : Opened C F) (stays : Stays told s t) where
  -- what was found is found in a later session
  pub found_after : (f : Found) → IsFound told s f → IsFound told t f
  found_after f is = record {
    met = go f.current is.met;
  }
    where
      go : (o : Option Met) → IfSome o (IsMet told s Task) → IfSome o (IsMet told t Task)
      go None met = met
      go (Some m) met = met_after told s t Task m stays met

  pub all_after : (found : List Found) → All (IsFound told s) found → All (IsFound told t) found
  all_after found all = All-weaker (IsFound told s) (IsFound told t) found_after found all

  found_one : (o : Option ThreadPart) (current : Option Met) → IfSome current (IsMet told t Task)
      → All (IsFound told t) (found_in o current)
  found_one None current met = All-nil (IsFound told t)
  found_one (Some part) current met =
      All-cons (IsFound told t) (record { thread = part.thread; current = current }) [] (record { met = met })
      (All-nil (IsFound told t))

  -- so are they all, with the thread of one row more
  pub found_all : (found : List Found) (o : Option ThreadPart) (current : Option Met)
      → All (IsFound told s) found → IfSome current (IsMet told t Task)
      → All (IsFound told t) (found ++ found_in o current)
  found_all found o current all met =
      All-append (IsFound told t) found (found_in o current) (all_after found all) (found_one o current met)

-- the elements that are left begin with the next
pub next_left : (xs : List ℕ) (i : ℕ) → i < length xs → drop i xs ≡ get_or xs i 0 ∷ drop (i + 1) xs
next_left xs i below =
    drop-cons xs i 0 below
    ∙ ap (λ n. get_or xs i 0 ∷ drop n xs) (let one : suc i ≡ i + 1 = omega arith in one)
