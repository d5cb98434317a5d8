-- The tasks of a new team: made ready, and begun one by one.
use Rattle.std.proofs.Common.{◌≡◌, ◌<◌, ◌+◌, ◌-◌, ℕ, suc, List, [], ◌∷◌, ◌++◌, length, drop, Option, Some, None, sym, ap, subst, ◌∙◌, refl, arith, below_more, length-append, length-drop}
use Rattle.std.specs.Prelude.{IfSome, reverse, slice_get}
use Rattle.std.proofs.lemmas.List.{reverse-append, reverse-reverse}
use Rattle.omi_model.specs.declared.id.Id.{Id}
use Rattle.omi_model.specs.declared.id.Tid.{Tid}
use Rattle.omi_model.specs.declared.slot.Slot.{Slot}
use Rattle.omi_model.specs.declared.task.Task.{Task}
use Rattle.omi_model.specs.Put.{Slots, made}
use Rattle.omi_model.specs.Teams.{with_members}
use Rattle.omi_machine.specs.KeptSlots.{IsKept}
use Rattle.omi_machine.specs.NewMembers.{tasks_back}
use Rattle.omi_machine.proofs.KeptLists.{from_place}

-- a slot that is kept stays kept
pub kept_still : (slots after : List (List (Slot Task))) → ((n : Id) → IsKept slots n → IsKept after n)
    → (o : Option (Tid × ℕ))
    → IfSome o (λ (m : Tid × ℕ). IsKept slots m.0.0) → IfSome o (λ (m : Tid × ℕ). IsKept after m.0.0)
kept_still slots after keeps None holds = tt
kept_still slots after keeps (Some m) holds = keeps m.0.0 holds

-- the slots of the members so far are kept
pub kept_so_far : (slots after : List (List (Slot Task))) (team : List (Tid × ℕ)) (at : ℕ) (m : Tid × ℕ)
    → slice_get team at ≡ Some m → ((n : Id) → IsKept slots n → IsKept after n) → IsKept after m.0.0
    → ((k : ℕ) → k < at → IfSome (slice_get team k) (λ (m : Tid × ℕ). IsKept slots m.0.0)) → (k : ℕ) → k < at + 1 → IfSome (slice_get team k) (λ (m : Tid × ℕ). IsKept after m.0.0)
kept_so_far slots after team at m is keeps here below =
    below_more (λ (k : ℕ). IfSome (slice_get team k) (λ (m : Tid × ℕ). IsKept after m.0.0)) at
    (λ k within. kept_still slots after keeps (slice_get team k) (below k within))
    (subst (λ (o : Option (Tid × ℕ)). IfSome o (λ (m : Tid × ℕ). IsKept after m.0.0)) (sym is) here)

-- one more task made ready, in front of those of the later members
pub ready_more : (task : ℕ → ℕ → Task) (team : List (Tid × ℕ)) (done : ℕ) (m : Tid × ℕ) (now : List Task) (t : Task)
    → done < length team → slice_get team (length team - 1 - done) ≡ Some m
    → now ≡ tasks_back task (length team - done) (drop (length team - done) team) → t ≡ task (length team - 1 - done) m.1
    → now ++ t ∷ [] ≡ tasks_back task (length team - (done + 1)) (drop (length team - (done + 1)) team)
ready_more task team done m now t within is so_far new =
    let at : suc (length team - 1 - done) ≡ length team - done = omega arith in
    let plus : (length team - 1 - done) + 1 ≡ length team - done = omega arith in
    let next : length team - 1 - done ≡ length team - (done + 1) = omega arith in
    let from : drop (length team - 1 - done) team ≡ m ∷ drop (length team - done) team =
    from_place team (length team - 1 - done) m is ∙ ap (λ (n : ℕ). m ∷ drop n team) at in
    ap (λ (ts : List Task). ts ++ t ∷ []) so_far
    ∙ ap (λ (u : Task). tasks_back task (length team - done) (drop (length team - done) team) ++ u ∷ []) new
    ∙ ap
    (λ (n : ℕ). tasks_back task n (drop (length team - done) team) ++ task (length team - 1 - done) m.1 ∷ [])
    (sym plus)
    ∙ ap (tasks_back task (length team - 1 - done)) (sym from)
    ∙ ap (λ (n : ℕ). tasks_back task n (drop n team)) next

-- the tasks that have not begun yet, and the slots in which the others have
pub record IsMaking (task : ℕ → ℕ → Task) (at : ℕ) (new : List Task) (team : List (Tid × ℕ)) (slots start : Slots Task) : Type 0 where
  pub left : new ≡ tasks_back task at (drop at team)
  pub begun : with_members task at (drop at team) slots ≡ with_members task 0 team start

-- two lists with one element more at their ends
same_front : {A : Type 0} (xs ys : List A) (x y : A) → xs ++ x ∷ [] ≡ ys ++ y ∷ [] → (xs ≡ ys) × (x ≡ y)
same_front {A} xs ys x y e =
    let back : x ∷ reverse xs ≡ y ∷ reverse ys =
    sym (reverse-append xs (x ∷ [])) ∙ ap (λ (zs : List A). reverse zs) e ∙ reverse-append ys (y ∷ []) in
    let fronts : reverse xs ≡ reverse ys = cc back in
    let lasts : x ≡ y = cc back in
    (sym (reverse-reverse xs) ∙ ap (λ (zs : List A). reverse zs) fronts ∙ reverse-reverse ys, lasts)

module _ (task : ℕ → ℕ → Task) (at : ℕ) (team : List (Tid × ℕ)) (m : Tid × ℕ)
    (is : slice_get team at ≡ Some m) where
  from_here : drop at team ≡ m ∷ drop (at + 1) team
  from_here =
      let next : suc at ≡ at + 1 = omega arith in from_place team at m is ∙ ap (λ (n : ℕ). m ∷ drop n team) next

  pub making_more : (new left : List Task) (t : Task) (slots after start : Slots Task) → new ≡ left ++ t ∷ []
      → after ≡ made slots m.0.0 t
      → IsMaking task at new team slots start → IsMaking task (at + 1) left team after start
  making_more new left t slots after start took makes making =
      let parts =
      same_front left (tasks_back task (at + 1) (drop (at + 1) team)) t (task at m.1)
      (sym took ∙ making.left ∙ ap (tasks_back task at) from_here) in
      record {
        left = parts.0;
        begun =
            ap (with_members task (at + 1) (drop (at + 1) team)) (makes ∙ ap (made slots m.0.0) parts.1)
            ∙ ap (λ (ms : List (Tid × ℕ)). with_members task at ms slots) (sym from_here)
            ∙ making.begun;
      }

length-tasks_back : (task : ℕ → ℕ → Task) (at : ℕ) (team : List (Tid × ℕ))
    → length (tasks_back task at team) ≡ length team
length-tasks_back task at [] = refl
length-tasks_back task at (m ∷ team) =
    length-append (tasks_back task (at + 1) team) (task at m.1 ∷ [])
    ∙ ap (λ (n : ℕ). n + 1) (length-tasks_back task (at + 1) team)
    ∙ omega arith

-- a task is left as long as a member is
pub some_left : (task : ℕ → ℕ → Task) (at : ℕ) (team : List (Tid × ℕ)) (new : List Task) (slots start : Slots Task)
    → at < length team → new ≡ [] → IsMaking task at new team slots start → ⊥
some_left task at team new slots start within none making =
    omega
    (arith, within, ap (λ (ts : List Task). length ts) none, ap (λ (ts : List Task). length ts) making.left, length-tasks_back task at (drop at team), length-drop at team)
