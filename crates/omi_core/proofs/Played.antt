-- Steps that are each the one that its thread makes next are those that the threads make by themselves from the first words on: one list
-- for one order of the threads.
use Rattle.std.proofs.Common.{◌≡◌, ◌≢◌, ◌==◌, ◌++◌, ◌+◌, ℕ, zero, suc, Bool, true, false, List, [], ◌∷◌, slice_index_or, refl, sym, ap, ◌∙◌, subst, arith, eqb-true, eq-eqb, if◌then◌else◌}
use Rattle.std.proofs.lemmas.Bool.Decides.{nat_tests}
use Rattle.std.proofs.lemmas.List.{append_assoc, append-nil}
use Rattle.omi_word.specs.declared.op.Op.{Op}
use Rattle.omi_word.specs.Memory.{address_of, words_after, word_at}
use Rattle.omi_script.specs.declared.program.Program.{Program}
use Rattle.omi_model.specs.declared.event.Event.{Event}
use Rattle.omi_model.specs.State.{State}
use Rattle.omi_layout.specs.Memory.{replace_at}
use Rattle.omi_pc.specs.declared.actor.Actor.{Actor}
use Rattle.omi_actor.specs.Steps.{next_of}
use Rattle.omi_rule.specs.Steps.{committed}
use Rattle.omi_core.specs.declared.entry.Entry.{Entry}
use Rattle.omi_core.specs.declared.schedule.Schedule.{Schedule}
use Rattle.omi_core.specs.Found.{actor_after, entries_from, entry_at, found_by}
use Rattle.omi_core.specs.Schedules.{thread_at, threads_by}
use Rattle.omi_core.specs.Steps.{Steps, Watches, steps_of, threads_of_steps}

-- ---- what threads make by themselves

-- the next step of an actor over these words
abbrev pub next_entry : Program → List ℕ → List ℕ → Actor → Entry
next_entry p w words a = entry_at p w a (word_at words (address_of (next_of p w a)))

-- the steps that these actors make from these words on, in this order of the threads
abbrev pub played : Program → List ℕ → List ℕ → (ℕ → Actor) → List ℕ → List (ℕ × Entry)
played p w words actors [] = []
played p w words actors (i ∷ is) =
    (i, next_entry p w words (actors i))
    ∷ played p w (words_after words (next_of p w (actors i)))
    (replace_at actors i (actor_after p w (actors i) (word_at words (address_of (next_of p w (actors i)))))) is

-- the words that steps leave
abbrev pub left_by : List ℕ → List (ℕ × Entry) → List ℕ
left_by words [] = words
left_by words (x ∷ xs) = left_by (words_after words x.1.op) xs

-- the part of each thread follows from its actor
abbrev pub Goes : Program → List ℕ → (ℕ → Actor) → List (ℕ × Entry) → Type 0
Goes p w actors xs = (i : ℕ) → steps_of i xs ≡ entries_from p w (actors i) (found_by (steps_of i xs))

-- ---- one step

own_first : (i : ℕ) (e : Entry) (xs : List (ℕ × Entry)) → steps_of i ((i, e) ∷ xs) ≡ e ∷ steps_of i xs
own_first i e xs = by (i == i) refl
  where
    by : (b : Bool) → i == i ≡ b → (if b then e ∷ steps_of i xs else steps_of i xs) ≡ e ∷ steps_of i xs
    by true is = refl
    by false is = absurd (grind (arith, nat_tests))

other_first : (i j : ℕ) (e : Entry) (xs : List (ℕ × Entry)) → i ≢ j → steps_of j ((i, e) ∷ xs) ≡ steps_of j xs
other_first i j e xs other = by (i == j) refl
  where
    by : (b : Bool) → i == j ≡ b → (if b then e ∷ steps_of j xs else steps_of j xs) ≡ steps_of j xs
    by true is = absurd (other (eqb-true i j is))
    by false is = refl

abbrev rest_of : List Entry → List Entry
rest_of [] = []
rest_of (e ∷ es) = es

module _ (p : Program) (w : List ℕ) (actors : ℕ → Actor) (i : ℕ) (e : Entry) (xs : List (ℕ × Entry))
    (goes : Goes p w actors ((i, e) ∷ xs)) where
  parts : e ∷ steps_of i xs ≡ entry_at p w (actors i) e.old ∷ entries_from p w (actor_after p w (actors i) e.old) (found_by (steps_of i xs))
  parts = subst (λ es. es ≡ entries_from p w (actors i) (found_by es)) (own_first i e xs) (goes i)

  first_goes : e ≡ entry_at p w (actors i) e.old
  first_goes = ap (λ es. slice_index_or es 0 e) parts

  rest_goes : Goes p w (replace_at actors i (actor_after p w (actors i) e.old)) xs
  rest_goes j = go (j == i) refl
    where
      go : (b : Bool) → j == i ≡ b
          → steps_of j xs ≡ entries_from p w (if b then actor_after p w (actors i) e.old else actors j) (found_by (steps_of j xs))
      go true is =
          subst
          (λ k. steps_of k xs ≡ entries_from p w (actor_after p w (actors i) e.old) (found_by (steps_of k xs)))
          (sym (eqb-true j i is)) (ap rest_of parts)
      go false is =
          subst (λ es. es ≡ entries_from p w (actors j) (found_by es))
          (other_first i j e xs (λ same. let yes : j == i ≡ true = eq-eqb j i (sym same) in cc (is, yes)))
          (goes j)

-- ---- all steps

pub are_played : (p : Program) (w words : List ℕ) (past : List (ℕ × Event)) (s : State) (watches : Watches) (xs : List (ℕ × Entry)) (last : List ℕ) (t : State) (later : Watches) (actors : ℕ → Actor)
    → Steps p w words past s watches xs last t later → Goes p w actors xs → xs ≡ played p w words actors (threads_of_steps xs)
are_played p w words past s watches [] last t later actors steps goes = refl
are_played p w words past s watches ((i, e) ∷ xs) last t later actors (next, watch, one, seen, rest) goes =
    let is = first_goes p w actors i e xs goes in
    let op : e.op ≡ next_of p w (actors i) = ap (λ (x : Entry). x.op) is in
    let old : e.old ≡ word_at words (address_of (next_of p w (actors i))) =
    one.found ∙ ap (λ (o : Op). word_at words (address_of o)) op in
    let behind = are_played p w (words_after words e.op) (past ++ committed i e.outcome) next (replace_at watches i watch) xs last t later
    (replace_at actors i (actor_after p w (actors i) e.old)) rest (rest_goes p w actors i e xs goes) in
    ap (λ (x : Entry). (i, x) ∷ xs) (is ∙ ap (entry_at p w (actors i)) old)
    ∙ ap (λ ys. (i, next_entry p w words (actors i)) ∷ ys)
    (behind
    ∙ ap
    (λ (o : Op). played p w (words_after words o) (replace_at actors i (actor_after p w (actors i) e.old)) (threads_of_steps xs)) op
    ∙ ap (λ n. played p w (words_after words (next_of p w (actors i))) (replace_at actors i (actor_after p w (actors i) n)) (threads_of_steps xs)) old)

pub are_left : (p : Program) (w words : List ℕ) (past : List (ℕ × Event)) (s : State) (watches : Watches) (xs : List (ℕ × Entry)) (last : List ℕ) (t : State) (later : Watches)
    → Steps p w words past s watches xs last t later → last ≡ left_by words xs
are_left p w words past s watches [] last t later steps = steps.0
are_left p w words past s watches ((i, e) ∷ xs) last t later (next, watch, one, seen, rest) =
    are_left p w (words_after words e.op) (past ++ committed i e.outcome) next
    (replace_at watches i watch) xs last t later rest

-- ---- fewer threads make a front of the steps

pub front_played : (p : Program) (w words : List ℕ) (actors : ℕ → Actor) (is js : List ℕ)
    → (zs : List (ℕ × Entry)) × (played p w words actors (is ++ js) ≡ played p w words actors is ++ zs)
front_played p w words actors [] js = (played p w words actors js, refl)
front_played p w words actors (i ∷ is) js =
    let (zs, same) =
    front_played p w (words_after words (next_of p w (actors i)))
    (replace_at actors i (actor_after p w (actors i) (word_at words (address_of (next_of p w (actors i)))))) is js in
    (zs, ap (λ ys. (i, next_entry p w words (actors i)) ∷ ys) same)

pub front_of_threads : (how : Schedule) (threads n m : ℕ)
    → (js : List ℕ) × (threads_by how threads (n + m) ≡ threads_by how threads n ++ js)
front_of_threads how threads n zero =
    let all : n + 0 ≡ n = omega arith in ([], ap (threads_by how threads) all ∙ sym (append-nil (threads_by how threads n)))
front_of_threads how threads n (suc m) =
    let (js, same) = front_of_threads how threads n m in
    let next : n + suc m ≡ suc (n + m) = omega arith in (
      js ++ thread_at how threads (n + m) ∷ [],
      ap (threads_by how threads) next ∙ ap (λ ys. ys ++ thread_at how threads (n + m) ∷ []) same ∙ append_assoc (threads_by how threads n) js (thread_at how threads (n + m) ∷ []),
    )
