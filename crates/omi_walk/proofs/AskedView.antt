-- The walk is the plain look at the words.
use Rattle.std.proofs.Common.{◌≡◌, ◌==◌, ◌&&◌, ℕ, Bool, true, false, cond, List, [], ◌∷◌, ◌++◌, Option, Some, None, map, refl, sym, ap, subst}
use Rattle.std.specs.List.{flat_map, filter_map, cons_option}
use Rattle.std.specs.Prelude.{Result, Ok, Err}
use Rattle.omi_word.specs.Words.{Words}
use Rattle.omi_handle.specs.declared.handle.Kind.TheVariants.{Region}
use Rattle.omi_layout.specs.Field.{regions}
use Rattle.omi_layout.specs.Valid.{IsValid}
use Rattle.omi_model.specs.declared.id.Id.{Id}
use Rattle.omi_model.specs.declared.view.TaskRow.{TaskRow}
use Rattle.omi_rep.specs.Look.{Look, each, slot_list}
use Rattle.omi_rep.specs.LookView.{look_head, look_thread, look_regions, look_region, look_tasks, look_view, met_in, found_threads}
use Rattle.omi_session.specs.Reads.{answer_on}
use Rattle.omi_walk.specs.declared.found.Found.{Found}
use Rattle.omi_walk.specs.declared.met.Met.{Met}
use Rattle.omi_walk.specs.Asking.{ask_each}
use Rattle.omi_walk.specs.AskWords.{ask_head}
use Rattle.omi_walk.specs.AskThreads.{ask_threads}
use Rattle.omi_walk.specs.AskRegions.{first_in, ask_row, ask_region, ask_regions, ask_rows}
use Rattle.omi_walk.specs.AskTasks.{ask_tasks, ask_all_tasks}
use Rattle.omi_walk.specs.AskLooked.{as_walked, WalkIsLooked}
use Rattle.omi_walk.specs.AskView.{ask_view}
use Rattle.omi_walk.specs.declared.fault.WalkFault.{WalkFault}
use Rattle.omi_walk.proofs.AskedLooks.{Alike, Same, AllAlike, IsObject, MaybeObject, alike_then, alike_on, alike_with, alike_each}
use Rattle.omi_walk.proofs.AskedChains.{FoundIs, alike_regions, alike_tasks}
use Rattle.omi_walk.proofs.AskedRows.{all_same, alike_row}
use Rattle.omi_walk.proofs.AskedThreads.{AreFound, ThreadsAs, alike_threads}
use Rattle.omi_walk.proofs.AskedWords.{alike_head}

-- lists of lists
all_flat : {A B : Type 0} (R : A → B → Type 0) (xss : List (List A)) (yss : List (List B))
    → AllAlike (AllAlike R) xss yss → AllAlike R (flat_map (λ xs. xs) xss) (flat_map (λ ys. ys) yss)
all_flat R [] [] all = tt
all_flat R [] (ys ∷ yss) all = absurd all
all_flat R (xs ∷ xss) [] all = absurd all
all_flat {A} {B} R (xs ∷ xss) (ys ∷ yss) all = go (all_flat R xss yss all.1) xs ys all.0
  where
    go : AllAlike R (flat_map (λ xs. xs) xss) (flat_map (λ ys. ys) yss) → (xs : List A) (ys : List B)
        → AllAlike R xs ys → AllAlike R (xs ++ flat_map (λ xs. xs) xss) (ys ++ flat_map (λ ys. ys) yss)
    go rest [] [] both = rest
    go rest [] (y ∷ ys) both = absurd both
    go rest (x ∷ xs) [] both = absurd both
    go rest (x ∷ xs) (y ∷ ys) both = (both.0, go rest xs ys both.1)

module _ (w : List ℕ) (memory : Words) where
  -- the first region that was met in a slot is the one of the look
  first_alike : (at : ℕ × ℕ) (met : List Met) (names : List Id)
      → AllAlike (IsObject w memory Region) met names
      → MaybeObject w memory Region (first_in met at) (met_in w memory names at)
  first_alike at [] [] all = tt
  first_alike at [] (n ∷ names) all = absurd all
  first_alike at (m ∷ met) [] all = absurd all
  first_alike at (m ∷ met) (n ∷ names) all =
      subst
      (λ name. MaybeObject w memory Region (cond (name.creator == at.0 && name.slot == at.1) (Some m) (first_in met at)) (cond (n.creator == at.0 && n.slot == at.1) (Some n) (met_in w memory names at)))
      (sym all.0.name)
      (go (n.creator == at.0 && n.slot == at.1) (first_alike at met names all.1))
    where
      go : (b : Bool) → MaybeObject w memory Region (first_in met at) (met_in w memory names at)
          → MaybeObject w memory Region (cond b (Some m) (first_in met at))
          (cond b (Some n) (met_in w memory names at))
      go true rest = all.0
      go false rest = rest

  slots_alike : (met : List Met) (names : List Id) → AllAlike (IsObject w memory Region) met names
      → (slots : List (ℕ × ℕ))
      → AllAlike (IsObject w memory Region) (filter_map (first_in met) slots)
      (filter_map (met_in w memory names) slots)
  slots_alike met names all [] = tt
  slots_alike met names all (at ∷ slots) =
      go _ _ (first_in met at) (met_in w memory names at) (first_alike at met names all)
      (slots_alike met names all slots)
    where
      go : (xs : List Met) (ys : List Id) (o : Option Met) (n : Option Id) → MaybeObject w memory Region o n
          → AllAlike (IsObject w memory Region) xs ys
          → AllAlike (IsObject w memory Region) (cons_option o xs) (cons_option n ys)
      go xs ys None None is rest = rest
      go xs ys None (Some n) is rest = absurd is
      go xs ys (Some m) None is rest = absurd is
      go xs ys (Some m) (Some n) is rest = (is, rest)

  region_alike : (m : Met) (n : Id) → IsObject w memory Region m n
      → Alike Same (answer_on memory (ask_region w m)) (look_region w memory n)
  region_alike m n is =
      subst (λ k. Alike Same (answer_on memory (ask_row w k (Some m.held))) (look_region w memory n))
      (sym is.name) (alike_row w memory m.held n is.lives)

  -- what was found, by the threads
  pairs : (found : List Found) → AreFound w memory found
      → AllAlike (λ f i. FoundIs w memory f × (f.thread ≡ i)) found (map (λ (f : Found). f.thread) found)
  pairs [] all = tt
  pairs (f ∷ found) all = ((all.0, refl), pairs found all.1)

  pub alike_view : IsValid w → (contexts : List ℕ)
      → Alike Same (answer_on memory (ask_view w contexts)) (look_view w memory contexts)
  unfolding ask_view ask_all_tasks
  alike_view valid contexts =
      alike_on Same memory (ask_head w) _ (look_head w memory) _ (alike_head w memory)
      (λ head e f. alike_then (ThreadsAs w memory) Same memory (ask_threads w contexts) _ (each (look_thread w memory) contexts) _ (alike_threads w memory valid contexts)
      (λ seen rows e f is.
      let pairing =
      subst (AllAlike (λ f i. FoundIs w memory f × (f.thread ≡ i)) seen.found) is.threads
      (pairs seen.found is.found) in
      alike_then (AllAlike (AllAlike (IsObject w memory Region))) Same memory
      (ask_each (ask_regions w) seen.found) _ (each (look_regions w memory) (found_threads w memory rows)) _
      (alike_each (λ f i. FoundIs w memory f × (f.thread ≡ i)) (AllAlike (IsObject w memory Region)) memory (ask_regions w) (look_regions w memory)
      (λ f i both. subst (λ i. Alike (AllAlike (IsObject w memory Region)) (answer_on memory (ask_regions w f)) (look_regions w memory i)) both.1 (alike_regions w memory f both.0)) seen.found (found_threads w memory rows) pairing)
      (λ met names e f all. alike_then (AllAlike Same) Same memory (ask_rows w (flat_map (λ chain. chain) met)) _ (each (look_region w memory) (filter_map (met_in w memory (flat_map (λ ids. ids) names)) (slot_list w regions))) _
      (alike_each (IsObject w memory Region) Same memory (ask_region w) (look_region w memory) region_alike _ _
      (slots_alike (flat_map (λ chain. chain) met) (flat_map (λ ids. ids) names) (all_flat (IsObject w memory Region) met names all) (slot_list w regions)))
      (λ regions those e f same. alike_then (λ (rows : List TaskRow) (chains : List (List TaskRow)). rows ≡ flat_map (λ rows. rows) chains) Same memory (ask_all_tasks w seen.found) _
      (each (look_tasks w memory) (found_threads w memory rows)) _
      (alike_with (AllAlike Same) (λ (rows : List TaskRow) (chains : List (List TaskRow)). rows ≡ flat_map (λ rows. rows) chains) memory (ask_each (ask_tasks w) seen.found) (flat_map (λ (rows : List TaskRow). rows))
      (each (look_tasks w memory) (found_threads w memory rows))
      (alike_each (λ f i. FoundIs w memory f × (f.thread ≡ i)) Same memory (ask_tasks w) (look_tasks w memory)
      (λ f i both. subst (λ i. Alike Same (answer_on memory (ask_tasks w f)) (look_tasks w memory i)) both.1 (alike_tasks w memory f both.0)) seen.found (found_threads w memory rows) pairing)
      (λ chains others e f same. ap (flat_map (λ (rows : List TaskRow). rows)) (all_same chains others same)))
      (λ tasks chains e f flat. λ j. record { head = head; threads = is.rows_are j; regions = all_same regions those same j; tasks = flat j })))))

-- an answer that is alike is the look's
as_looked : {A : Type 0} (a : Result A WalkFault) (l : Look A) → Alike Same a l → a ≡ as_walked l
as_looked (Ok x) (Ok y) same = ap Ok same
as_looked (Ok x) (Err fault) same = absurd same
as_looked (Err why) (Ok y) same = absurd same
as_looked (Err why) (Err fault) same = ap Err same

pub looked_view : WalkIsLooked
looked_view w memory contexts valid = as_looked _ _ (alike_view w memory valid contexts)
