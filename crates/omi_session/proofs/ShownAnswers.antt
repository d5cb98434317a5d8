-- Over words that show a state, the parts of inquiries answer what the state does.
use Rattle.std.proofs.Common.{◌≡◌, ◌≢◌, ℕ, zero, suc, ◌+◌, ◌*◌, ◌<◌, ◌≤◌, ◌&&◌, Bool, true, false, cond, List, [], ◌∷◌, length, Option, Some, None, refl, sym, ap, subst, ◌∙◌, arith, nat_lt}
use Rattle.std.specs.Prelude.{Result, Ok, Err, nat_le, slice_get, All}
use Rattle.std.specs.Option.{option_map, ok_or}
use Rattle.std.proofs.lemmas.Bool.Decides.{nat_tests}
use Rattle.omi_calls.specs.Asked.{Asked}
use Rattle.omi_calls.specs.Told.{Told}
use Rattle.omi_handle.specs.declared.handle.Kind.TheVariants as kind
use Rattle.omi_handle.specs.declared.handle.Held.{Held}
use Rattle.omi_handle.specs.Ledger.{Ledger}
use Rattle.omi_layout.specs.declared.field.Field.{Field}
use Rattle.omi_layout.specs.declared.field.Field.TheVariants.{ThreadCurrent, RegionSize, RegionTeam, TaskRegion, TaskThread}
use Rattle.omi_layout.specs.Named.{number}
use Rattle.omi_layout.specs.Table.{thread_count}
use Rattle.omi_layout.proofs.Frame.{none_is_null, kind_3, kind_4}
use Rattle.omi_model.specs.declared.id.Rid.{Rid}
use Rattle.omi_model.specs.declared.id.Tid.{Tid}
use Rattle.omi_model.specs.State.{State}
use Rattle.omi_model.specs.Visible.{IsVisibleRegion, IsVisibleTask}
use Rattle.omi_model.specs.WellFormed.{IsMember}
use Rattle.omi_rep.specs.Codes.{region_told}
use Rattle.omi_rep.specs.Records.{record_at, region_word, task_word, thread_address, region_address, task_address}
use Rattle.omi_session.specs.declared.rc.Rc.{Rc}
use Rattle.omi_session.specs.declared.rc.Rc.TheVariants.{Unavailable, BadInput, Error, NoMem}
use Rattle.omi_session.specs.Inquiry.{word_of, object_of, follow, follow_some, current_task, team_size, member}
use Rattle.omi_session.specs.Opened.{Opened}
use Rattle.omi_session.specs.Reads.{Reads, Answer, Answers, answer_on, IsAnswer}
use Rattle.omi_session.specs.Made.{IsMade, IsHanded}
use Rattle.omi_session.specs.Answers.{task_of_thread, task_of_member}
use Rattle.omi_session.specs.Shown.{ShowsTold, HoldsThread, HoldsRegion, HoldsTask, IsGiven, held_thread, held_region, held_task, as_held}
use Rattle.omi_session.proofs.Asked.{answers_is}
use Rattle.omi_session.proofs.Handed.{handed_is}
use Rattle.omi_rep.proofs.Codes.{member_code}
use Rattle.omi_rep.proofs.LiveObjects.{thread_lives, region_lives, task_lives}
use Rattle.omi_session.proofs.ShownParts.{then_answered, word_told, object_told, follow_told, optional_told}

-- what a list has at a place
pub element_there : {A : Type 0} (xs : List A) (i : ℕ) → i < length xs → (x : A) × (slice_get xs i ≡ Some x)
element_there [] i low = absurd (omega (arith, low))
element_there (x ∷ xs) zero low = (x, refl)
element_there (x ∷ xs) (suc i) low = element_there xs i (omega (arith, low))

pub element_none : {A : Type 0} (xs : List A) (i : ℕ) → length xs ≤ i → slice_get xs i ≡ None
element_none [] i past = refl
element_none (x ∷ xs) zero past = absurd (omega (arith, past))
element_none (x ∷ xs) (suc i) past = element_none xs i (omega (arith, past))

pub element_of_all : {A : Type 0} (P : A → Type 0) (xs : List A) (i : ℕ) (x : A) → All P xs
    → slice_get xs i ≡ Some x → P x
element_of_all P [] i x all is = absurd (cc)
element_of_all P (y ∷ ys) zero x all is = let same : y ≡ x = cc in subst P same (all 0 y (omega arith))
element_of_all P (y ∷ ys) (suc i) x all is =
    element_of_all P ys i x (λ j z within. all (suc j) z (omega (arith, within))) is

-- a call that finds an object by these reads and hands it out gives the object that the state names
pub given_handle : {C F : Type 0} {told : C → Told} {asked : C → Asked} {old new : Opened C F} {w : List ℕ} {s : State}
    {found : Result Held Rc} {reads : Reads Held} {answer : Result Held Rc} (before after : Ledger) (result : Result (ℕ × ℕ) Rc)
    → found ≢ Err NoMem → Answers told asked old new found reads → IsHanded before after found result
    → (shown : ShowsTold (told old.table.calls) w s) → answer_on shown.memory reads ≡ answer → IsMade after result answer
given_handle {told = told} {old = old} {found = found} {reads = reads} before after result free answers handed shown is =
    subst (IsMade after result) is
    (handed_is (told old.table.calls) before after found result reads free (answers_is answers) handed shown.memory shown.tells)

module _ (told : Told) (w : List ℕ) (s : State) (shown : ShowsTold told w s) where
  -- a value is the state's
  pub given_value : {A : Type 0} (result : Result A Rc) (reads : Reads A) (answer : Result A Rc)
      → IsAnswer told result reads → answer_on shown.memory reads ≡ answer → IsGiven result answer
  given_value result reads answer answers is = λ ne. answers shown.memory shown.tells ne ∙ is

  -- the objects of handles
  pub thread_object : (found : Option Held) (t : HoldsThread w s found)
      → answer_on shown.memory (object_of w kind.Thread found) ≡ Ok (held_thread w t.thread)
  thread_object found t =
      object_told w shown.memory kind.Thread 1 (thread_address w t.thread) found t.is
      (thread_lives w shown.memory s shown.valid shown.shows t.thread t.begun)

  pub region_object : (found : Option Held) (r : HoldsRegion w s found)
      → answer_on shown.memory (object_of w kind.Region found) ≡ Ok (held_region w r.name)
  region_object found r =
      object_told w shown.memory kind.Region (2 * r.name.0.generation + 1)
      (region_address w r.name) found r.is
      (region_lives w shown.memory s shown.valid shown.shows shown.names r.name r.seen)

  pub task_object : (found : Option Held) (t : HoldsTask w s found)
      → answer_on shown.memory (object_of w kind.Task found) ≡ Ok (held_task w t.name)
  task_object found t =
      object_told w shown.memory kind.Task (2 * t.name.0.generation + 1) (task_address w t.name) found t.is
      (task_lives w shown.memory s shown.valid shown.shows shown.names t.name t.seen)

  -- the region or the task that a word names, where it may name none
  pub some_region : (address : ℕ) (f : Field) (named : Option Rid)
      → ((n : Rid) → named ≡ Some n → IsVisibleRegion s n)
      → record_at w shown.memory address (number f) 0 ≡ Some (region_word w named)
      → answer_on shown.memory (follow_some w kind.Region address f) ≡ as_held (held_region w) (ok_or named Unavailable)
  some_region address f named seen stands =
      optional_told w shown.memory kind.Region (region_address w)
      (λ n. 2 * n.0.generation + 1) address f named
      (λ n. none_is_null w shown.valid 3 n.0.creator n.0.slot kind_3)
      (λ n is. region_lives w shown.memory s shown.valid shown.shows shown.names n (seen n is)) stands

  pub some_task : (address : ℕ) (f : Field) (named : Option Tid)
      → ((k : Tid) → named ≡ Some k → IsVisibleTask s k)
      → record_at w shown.memory address (number f) 0 ≡ Some (task_word w named)
      → answer_on shown.memory (follow_some w kind.Task address f) ≡ as_held (held_task w) (ok_or named Unavailable)
  some_task address f named seen stands =
      optional_told w shown.memory kind.Task (task_address w) (λ k. 2 * k.0.generation + 1) address f named
      (λ k. none_is_null w shown.valid 4 k.0.creator k.0.slot kind_4)
      (λ k is. task_lives w shown.memory s shown.valid shown.shows shown.names k (seen k is)) stands

  -- the region of a visible task, and its thread
  pub task_region : (k : Tid) (seen : IsVisibleTask s k)
      → answer_on shown.memory (follow w kind.Region (task_address w k) TaskRegion 0) ≡ Ok (held_region w seen.task.region)
  task_region k seen =
      follow_told w shown.memory kind.Region (2 * seen.task.region.0.generation + 1)
      (task_address w k) TaskRegion 0 (region_address w seen.task.region)
      (shown.shows.records.tasks k seen TaskRegion 0 _ refl refl)
      (region_lives w shown.memory s shown.valid shown.shows shown.names seen.task.region (shown.shows.within.well_formed.tasks k seen).region)

  pub task_thread : (k : Tid) (seen : IsVisibleTask s k)
      → answer_on shown.memory (follow w kind.Thread (task_address w k) TaskThread 0) ≡ Ok (held_thread w seen.task.thread)
  task_thread k seen =
      follow_told w shown.memory kind.Thread 1 (task_address w k) TaskThread 0
      (thread_address w seen.task.thread)
      (shown.shows.records.tasks k seen TaskThread 0 _ refl refl)
      (thread_lives w shown.memory s shown.valid shown.shows seen.task.thread (shown.shows.within.well_formed.tasks k seen).begun)

  -- the current task of a thread
  pub thread_task : (found : Option Held) (t : HoldsThread w s found)
      → answer_on shown.memory (current_task w found) ≡ as_held (held_task w) (task_of_thread s t.thread)
  unfolding current_task
  thread_task found t =
      then_answered shown.memory (object_of w kind.Thread found) _ (held_thread w t.thread)
      (thread_object found t)
      ∙ some_task (thread_address w t.thread) ThreadCurrent (s.threads t.thread).current
      (λ k is. shown.shows.within.well_formed.currents t.thread k t.begun.known is)
      (shown.shows.records.threads t.thread t.begun.known t.begun.begun ThreadCurrent 0 _ refl refl)

  -- the number of members of a visible region
  pub size_told : (n : Rid) (seen : IsVisibleRegion s n)
      → answer_on shown.memory (team_size w (region_address w n)) ≡ Ok (length seen.region.team)
  unfolding team_size
  size_told n seen =
      let right = shown.shows.within.well_formed.regions n seen in
      let test : nat_le 1 (length seen.region.team) && nat_le (length seen.region.team) (thread_count w) ≡ true =
      grind (arith, nat_tests, right.some, right.few, shown.shows.within.count) in
      then_answered shown.memory (word_of w (region_address w n) RegionSize 0) _ (length seen.region.team)
      (word_told w shown.memory (region_address w n) RegionSize 0 (length seen.region.team) (shown.shows.records.regions n seen RegionSize 0 _ refl refl))
      ∙ ap
      (λ (b : Bool). cond b (Ok (length seen.region.team)) (Err (Error (region_address w n) (number RegionSize)))) test

  -- a member of a visible region
  pub known_member : (n : Rid) (seen : IsVisibleRegion s n) (num : ℕ) (m : Tid × ℕ)
      → slice_get seen.region.team num ≡ Some m → IsMember s m.0 m.1
  known_member n seen num m is =
      element_of_all (λ (u : Tid × ℕ). IsMember s u.0 u.1) seen.region.team num m
      (shown.shows.within.well_formed.regions n seen).members is

  -- the task of a member of a region
  pub region_member : (found : Option Held) (r : HoldsRegion w s found) (num : ℕ)
      → answer_on shown.memory (member w found num) ≡ as_held (held_task w) (task_of_member r.seen.region num)
  unfolding member
  region_member found r num =
      then_answered shown.memory (object_of w kind.Region found) _ (held_region w r.name)
      (region_object found r)
      ∙ then_answered shown.memory (team_size w (region_address w r.name)) _ (length r.seen.region.team)
      (size_told r.name r.seen)
      ∙ go (nat_lt num (length r.seen.region.team)) refl
    where
      there : (m : Tid × ℕ) → slice_get r.seen.region.team num ≡ Some m
          → answer_on shown.memory (follow w kind.Task (region_address w r.name) RegionTeam num) ≡ Ok (held_task w m.0)
      there m is =
          follow_told w shown.memory kind.Task (2 * m.0.0.generation + 1)
          (region_address w r.name) RegionTeam num (task_address w m.0)
          (shown.shows.records.regions r.name r.seen RegionTeam num _ refl (member_code w (region_told r.seen.region) num m is))
          (task_lives w shown.memory s shown.valid shown.shows shown.names m.0 (known_member r.name r.seen num m is).visible)

      go : (b : Bool) → nat_lt num (length r.seen.region.team) ≡ b
          → answer_on shown.memory (cond b (follow w kind.Task (region_address w r.name) RegionTeam num) (Answer (Err BadInput))) ≡ as_held (held_task w) (task_of_member r.seen.region num)
      go true e =
          let low : num < length r.seen.region.team = grind (arith, nat_tests) in
          let m = element_there r.seen.region.team num low in
          there m.0 m.1
          ∙ sym
          (ap (λ (o : Option (Tid × ℕ)). as_held (held_task w) (ok_or (option_map (λ u. u.0) o) BadInput)) m.1)
      go false e =
          let past : length r.seen.region.team ≤ num = grind (arith, nat_tests) in
          sym
          (ap (λ (o : Option (Tid × ℕ)). as_held (held_task w) (ok_or (option_map (λ u. u.0) o) BadInput)) (element_none r.seen.region.team num past))
