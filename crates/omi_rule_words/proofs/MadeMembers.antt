-- The tasks of the members of a new team: where they begin, and that each is owed to one assign word.
use Rattle.std.proofs.Common.{◌≡◌, ◌≢◌, ◌==◌, ◌&&◌, ◌||◌, ◌+◌, ℕ, zero, suc, Bool, true, false, inl, inr, List, [], ◌∷◌, Some, refl, sym, ap, subst, ◌∙◌, arith, eq-eqb, ne_eqb}
use Rattle.std.specs.Prelude.{◌⊎◌, All, drop, slice_get}
use Rattle.std.proofs.lemmas.Bool.{cases_eq}
use Rattle.std.proofs.lemmas.Bool.Decides.{nat_tests}
use Rattle.std.proofs.lemmas.List.Elements.{All-head, All-tail}
use Rattle.std.proofs.lemmas.Option.{get_or_from_slice_get, slice_get_within}
use Rattle.omi_model.specs.declared.id.Id.{Id}
use Rattle.omi_model.specs.declared.id.Tid.{Tid}
use Rattle.omi_model.specs.declared.slot.Slot.{Slot}
use Rattle.omi_model.specs.declared.task.Task.{Task}
use Rattle.omi_model.specs.Columns.{tasks_of}
use Rattle.omi_model.specs.Put.{Slots, made}
use Rattle.omi_model.specs.Teams.{with_members}
use Rattle.omi_model.proofs.Slots.{each_slot, made_beside, some_same}
use Rattle.omi_rule_words.specs.Counts.{assigns_in, has_slot, is_task, one}
use Rattle.omi_rule_words.specs.Words.{AreApart}

-- ---- elements of lists

pub all_at : {A : Type 0} (P : A → Type 0) (xs : List A) → All P xs → (j : ℕ) (x : A)
    → slice_get xs j ≡ Some x → P x
all_at P xs all j x is = subst P (get_or_from_slice_get xs j x x is) (all j x (slice_get_within xs j x is))

pub behind_first : {A : Type 0} (xs : List A) (j : ℕ) (x : A) → slice_get (drop 1 xs) j ≡ Some x
    → slice_get xs (suc j) ≡ Some x
behind_first [] j x is = is
behind_first (y ∷ ys) j x is = is

pub behind_second : {A : Type 0} (xs : List A) (j : ℕ) (x : A) → slice_get xs (suc j) ≡ Some x
    → slice_get (drop 1 xs) j ≡ Some x
behind_second [] j x is = absurd (cc)
behind_second (y ∷ ys) j x is = is

pub each_task : (P : Tid → Type 0) (ms : List (Tid × ℕ)) → All P (tasks_of ms) → (j : ℕ) (m : Tid × ℕ)
    → slice_get ms j ≡ Some m → P m.0
each_task P [] all j m is = absurd (cc)
each_task P (x ∷ xs) all zero m is =
    let same : x ≡ m = some_same refl is in subst (λ (y : Tid × ℕ). P y.0) same (All-head P x.0 (tasks_of xs) all)
each_task P (x ∷ xs) all (suc j) m is = each_task P xs (All-tail P x.0 (tasks_of xs) all) j m is

-- ---- slots of members

pub has_member_slot : (ms : List (Tid × ℕ)) (j : ℕ) (m : Tid × ℕ) → slice_get ms j ≡ Some m
    → has_slot m.0.0.slot (tasks_of ms) ≡ true
has_member_slot [] j m is = absurd (cc)
has_member_slot (x ∷ xs) zero m is =
    let same : x ≡ m = some_same refl is in
    ap (λ b. b || has_slot m.0.0.slot (tasks_of xs))
    (eq-eqb x.0.0.slot m.0.0.slot (ap (λ (y : Tid × ℕ). y.0.0.slot) same))
has_member_slot (x ∷ xs) (suc j) m is = go (x.0.0.slot == m.0.0.slot) (has_member_slot xs j m is)
  where
    go : (b : Bool) → has_slot m.0.0.slot (tasks_of xs) ≡ true → b || has_slot m.0.0.slot (tasks_of xs) ≡ true
    go true there = refl
    go false there = there

pub has_no_slot : (ms : List (Tid × ℕ)) (k : ℕ)
    → ((j : ℕ) (m : Tid × ℕ) → slice_get ms j ≡ Some m → k ≡ m.0.0.slot → ⊥)
    → has_slot k (tasks_of ms) ≡ false
has_no_slot [] k none = refl
has_no_slot (x ∷ xs) k none =
    ap (λ b. b || has_slot k (tasks_of xs)) (ne_eqb x.0.0.slot k (λ same. none 0 x refl (sym same)))
    ∙ has_no_slot xs k (λ j m is. none (suc j) m is)

neither : (a b : Bool) → a || b ≡ false → (a ≡ false) × (b ≡ false)
neither true b e = absurd (cc)
neither false b e = (refl, e)

clash : {b : Bool} → b ≡ true → b ≡ false → ⊥
clash p q = cc

-- members whose tasks have one slot are one
pub one_member : (ms : List (Tid × ℕ)) → AreApart (tasks_of ms) → (a b : ℕ) (x y : Tid × ℕ)
    → slice_get ms a ≡ Some x → slice_get ms b ≡ Some y → x.0.0.slot ≡ y.0.0.slot → a ≡ b
one_member [] apart a b x y first second same = absurd (cc)
one_member (m ∷ ms) apart zero zero x y first second same = refl
one_member (m ∷ ms) (out, rest) zero (suc b) x y first second same =
    let is : m ≡ x = some_same refl first in
    absurd
    (clash (has_member_slot ms b y second) (subst (λ k. has_slot k (tasks_of ms) ≡ false) (ap (λ (z : Tid × ℕ). z.0.0.slot) is ∙ same) out))
one_member (m ∷ ms) (out, rest) (suc a) zero x y first second same =
    let is : m ≡ y = some_same refl second in
    absurd
    (clash (has_member_slot ms a x first) (subst (λ k. has_slot k (tasks_of ms) ≡ false) (ap (λ (z : Tid × ℕ). z.0.0.slot) is ∙ sym same) out))
one_member (m ∷ ms) (out, rest) (suc a) (suc b) x y first second same =
    ap suc (one_member ms rest a b x y first second same)

pub apart_behind_first : (ms : List (Tid × ℕ)) → AreApart (tasks_of ms) → AreApart (tasks_of (drop 1 ms))
apart_behind_first [] apart = tt
apart_behind_first (m ∷ ms) (out, rest) = rest

-- ---- what is owed to an assign word

-- a task that is no member's
pub none_in : (i : ℕ) (k : Tid) (ms : List (Tid × ℕ))
    → ((j : ℕ) (m : Tid × ℕ) → slice_get ms j ≡ Some m → is_task k m.0 ≡ true → ⊥) → assigns_in i k ms ≡ 0
none_in i k [] none = refl
none_in i k (x ∷ xs) none =
    let rest = none_in i k xs (λ j m is. none (suc j) m is) in
    let here : one (x.1 == i && is_task k x.0) ≡ 0 = go (x.1 == i) (is_task k x.0) (none 0 x refl) in
    omega (arith, rest, here)
  where
    go : (a b : Bool) → (b ≡ true → ⊥) → one (a && b) ≡ 0
    go true true ne = absurd (ne refl)
    go true false ne = refl
    go false b ne = refl

no_slot_in : (i : ℕ) (k : Tid) (ms : List (Tid × ℕ)) → has_slot k.0.slot (tasks_of ms) ≡ false
    → assigns_in i k ms ≡ 0
no_slot_in i k ms out =
    none_in i k ms
    (λ j m is same. clash (has_member_slot ms j m is) (subst (λ q. has_slot q (tasks_of ms) ≡ false) (slot_same m same) out))
  where
    slot_same : (m : Tid × ℕ) → is_task k m.0 ≡ true → k.0.slot ≡ m.0.0.slot
    slot_same m e = grind (arith, nat_tests)

-- a member's task is owed to the word of its thread once
pub once_in : (ms : List (Tid × ℕ)) → AreApart (tasks_of ms) → (j : ℕ) (m : Tid × ℕ) → slice_get ms j ≡ Some m
    → assigns_in m.1 m.0 ms ≡ 1
once_in [] apart j m is = absurd (cc)
once_in (x ∷ xs) (out, rest) zero m is =
    let same : x ≡ m = some_same refl is in
    let others : assigns_in m.1 m.0 xs ≡ 0 =
    no_slot_in m.1 m.0 xs (subst (λ (y : Tid × ℕ). has_slot y.0.0.slot (tasks_of xs) ≡ false) same out) in
    let here : one (x.1 == m.1 && is_task m.0 x.0) ≡ 1 =
    subst (λ (y : Tid × ℕ). one (y.1 == m.1 && is_task m.0 y.0) ≡ 1) (sym same) (own m) in
    omega (arith, others, here)
  where
    own : (m : Tid × ℕ) → one (m.1 == m.1 && is_task m.0 m.0) ≡ 1
    own m =
        let a : m.1 == m.1 ≡ true = eq-eqb m.1 m.1 refl in
        let b : is_task m.0 m.0 ≡ true = grind (arith, nat_tests) in
        ap (λ c. one (c && is_task m.0 m.0)) a ∙ ap one b
once_in (x ∷ xs) (out, rest) (suc j) m is =
    let others = once_in xs rest j m is in
    let here : one (x.1 == m.1 && is_task m.0 x.0) ≡ 0 =
    go (x.1 == m.1) (is_task m.0 x.0)
    (λ e. clash (has_member_slot xs j m is) (subst (λ q. has_slot q (tasks_of xs) ≡ false) (slot_same e) out)) in
    omega (arith, others, here)
  where
    slot_same : is_task m.0 x.0 ≡ true → x.0.0.slot ≡ m.0.0.slot
    slot_same e = grind (arith, nat_tests)

    go : (a b : Bool) → (b ≡ true → ⊥) → one (a && b) ≡ 0
    go true true ne = absurd (ne refl)
    go true false ne = refl
    go false b ne = refl

-- ---- the slots of all tasks, once members have begun

made_here : (slots : Slots Task) (k : Id) (x : Task) (c j : ℕ) → c ≡ k.creator → j ≡ k.slot
    → made slots k x c j ≡ record { generations = k.generation + 1; live = Some x }
made_here slots k x =
    each_slot slots k
    (λ c j (y : Slot Task). c ≡ k.creator → j ≡ k.slot → y ≡ record { generations = k.generation + 1; live = Some x })
    (record { generations = k.generation + 1; live = Some x })
    (λ _ _. refl) (λ c j apart a b. absurd (apart a b))

-- a member's task began in this slot, and this is the slot now; the numbers begin with this one
pub record IsMadeAt (task : ℕ → ℕ → Task) (number : ℕ) (ms : List (Tid × ℕ)) (c k : ℕ) (y : Slot Task) : Type 0 where
  pub at : ℕ
  pub member : Tid × ℕ
  pub is : slice_get ms at ≡ Some member
  pub creator : c ≡ member.0.0.creator
  pub slot : k ≡ member.0.0.slot
  pub now : y ≡ record { generations = member.0.0.generation + 1; live = Some (task (number + at) member.1) }

-- none did, and the slot is as it was
pub record IsBeside (ms : List (Tid × ℕ)) (c k : ℕ) (x y : Slot Task) : Type 0 where
  pub same : y ≡ x
  pub none : (j : ℕ) (m : Tid × ℕ) → slice_get ms j ≡ Some m → c ≡ m.0.0.creator → k ≡ m.0.0.slot → ⊥

pub made_at : (task : ℕ → ℕ → Task) (number : ℕ) (ms : List (Tid × ℕ)) (slots : Slots Task) (c k : ℕ)
    → IsMadeAt task number ms c k (with_members task number ms slots c k) ⊎ IsBeside ms c k (slots c k) (with_members task number ms slots c k)
made_at task number [] slots c k = inr (record { same = refl; none = λ j m is. absurd (cc) })
made_at task number (m ∷ ms) slots c k =
    go (made_at task (number + 1) ms (made slots m.0.0 (task number m.1)) c k) (cases_eq c m.0.0.creator)
    (cases_eq k m.0.0.slot)
  where
    y : Slot Task
    y = with_members task (number + 1) ms (made slots m.0.0 (task number m.1)) c k

    beside : (c ≡ m.0.0.creator → k ≡ m.0.0.slot → ⊥)
        → IsBeside ms c k (made slots m.0.0 (task number m.1) c k) y → IsBeside (m ∷ ms) c k (slots c k) y
    beside apart rest = record { same = rest.same ∙ made_beside slots m.0.0 (task number m.1) c k apart; none = none }
      where
        none : (j : ℕ) (q : Tid × ℕ) → slice_get (m ∷ ms) j ≡ Some q → c ≡ q.0.0.creator → k ≡ q.0.0.slot → ⊥
        none zero q is a b =
            let same : m ≡ q = some_same refl is in
            apart (a ∙ sym (ap (λ (z : Tid × ℕ). z.0.0.creator) same))
            (b ∙ sym (ap (λ (z : Tid × ℕ). z.0.0.slot) same))
        none (suc j) q is a b = rest.none j q is a b

    go : IsMadeAt task (number + 1) ms c k y ⊎ IsBeside ms c k (made slots m.0.0 (task number m.1) c k) y
        → (c ≡ m.0.0.creator) ⊎ (c ≢ m.0.0.creator) → (k ≡ m.0.0.slot) ⊎ (k ≢ m.0.0.slot)
        → IsMadeAt task number (m ∷ ms) c k y ⊎ IsBeside (m ∷ ms) c k (slots c k) y
    go (inl x) _ _ =
        let later : number + 1 + x.at ≡ number + suc x.at = omega arith in
        inl (record {
          at = suc x.at;
          member = x.member;
          is = x.is;
          creator = x.creator;
          slot = x.slot;
          now = x.now ∙ ap (λ n. record { generations = x.member.0.0.generation + 1; live = Some (task n x.member.1) }) later;
        })
    go (inr rest) (inl a) (inl b) =
        let first : number ≡ number + 0 = omega arith in
        inl (record {
          at = 0;
          member = m;
          is = refl;
          creator = a;
          slot = b;
          now = rest.same ∙ (made_here slots m.0.0 (task number m.1) c k a b ∙ ap (λ n. record { generations = m.0.0.generation + 1; live = Some (task n m.1) }) first);
        })
    go (inr rest) (inl a) (inr ne) = inr (beside (λ _ same. ne same) rest)
    go (inr rest) (inr ne) _ = inr (beside (λ same _. ne same) rest)
