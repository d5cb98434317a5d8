-- Slots in which objects begin, whose records stand filled.
use Rattle.std.proofs.Common.{◌≡◌, ◌==◌, ◌+◌, ◌&&◌, ◌<◌, ℕ, Bool, true, false, inl, inr, List, Option, Some, None, refl, sym, ap, subst, ◌∙◌, arith, if◌then◌else◌}
use Rattle.std.specs.Prelude.{◌⊎◌, IsSome}
use Rattle.std.proofs.lemmas.Bool.Decides.{nat_tests}
use Rattle.omi_model.specs.declared.id.Id.{Id}
use Rattle.omi_model.specs.declared.region.Region.{Region}
use Rattle.omi_model.specs.declared.slot.Slot.{Slot}
use Rattle.omi_model.specs.declared.task.Task.{Task}
use Rattle.omi_model.specs.Put.{found}
use Rattle.omi_model.proofs.Slots.{some_same}
use Rattle.omi_numbers.specs.declared.limits.TheConstants.{OPEN_GROUPS, OWN_SLOTS}
use Rattle.omi_layout.specs.declared.limits.TheConstants.{COUNT_PLACE}
use Rattle.omi_layout.specs.declared.field.Field.{Field}
use Rattle.omi_layout.specs.declared.field.Field.TheVariants.{TaskChildren, TaskSlots, TaskReferences}
use Rattle.omi_layout.specs.Memory.{Rec}
use Rattle.omi_rule_words.specs.Counts.{ended_members, one, own_reference}
use Rattle.omi_rule_words.specs.Threads.{Has}
use Rattle.omi_rule_words.specs.Objects.{HasPlace, KeepsEnvironment, KeepsPlace, KeepsLife}
use Rattle.omi_rule_words.specs.Words.{IsInTheMaking}
use Rattle.omi_rule_words.specs.TeamKinds.{RegionIsFilled}

-- ---- slots in which an object begins

-- a slot had no object and has a new one
pub record Begins {A : Type 0} (New : A → Type 0) (x y : Slot A) : Type 0 where
  pub empty : x.live ≡ None
  pub generations : y.generations ≡ x.generations + 1
  pub object : A
  pub live : y.live ≡ Some object
  pub new : New object

-- a slot is as it was, with a fact, or a new object begins
abbrev pub Grows : {A : Type 0} → Type 0 → (A → Type 0) → Slot A → Slot A → Type 0
Grows Stays New x y = (record { same : y ≡ x; fact : Stays }) ⊎ Begins New x y

-- an object that has begun, under a name
pub record IsNew {A : Type 0} (New : A → Type 0) (g : ℕ) (x : Slot A) (v : A) : Type 0 where
  pub empty : x.live ≡ None
  pub next : x.generations ≡ g
  pub new : New v

-- nothing is found in an empty slot
pub none_found : {A : Type 0} (g : ℕ) (x : Slot A) → x.live ≡ None → IsSome (found g x) → ⊥
none_found {A} g x empty is = go (x.generations == g + 1) x.live empty is
  where
    go : (b : Bool) (o : Option A) → o ≡ None → IsSome (if b then o else None) → ⊥
    go true (Some z) e is = absurd (cc)
    go true None e is = absurd (cc)
    go false o e is = absurd (cc)

pub some_found : {A : Type 0} (o : Option A) (u : A) → o ≡ Some u → IsSome o
some_found o u is = subst (λ p. IsSome p) (sym is) refl

-- where something is found, something is live
found_there : {A : Type 0} (g : ℕ) (x : Slot A) (u : A) → x.live ≡ None → found g x ≡ Some u → ⊥
found_there g x u empty is = none_found g x empty (some_found (found g x) u is)

module _ {A : Type 0} (Stays : Type 0) (New : A → Type 0) (x y : Slot A) where
  pub found_stays : Grows Stays New x y → (g : ℕ) (u : A) → found g x ≡ Some u → found g y ≡ Some u
  found_stays (inl stays) g u is = ap (found g) stays.same ∙ is
  found_stays (inr begins) g u is = absurd (found_there g x u begins.empty is)

  pub found_was : Grows Stays New x y → (g : ℕ) (v : A) → found g y ≡ Some v
      → (found g x ≡ Some v) ⊎ IsNew New g x v
  found_was (inl stays) g v is = inl (sym (ap (found g) stays.same) ∙ is)
  found_was (inr begins) g v is = inr (go (y.generations == g + 1) refl is)
    where
      go : (b : Bool) → y.generations == g + 1 ≡ b → (if b then y.live else None) ≡ Some v → IsNew New g x v
      go true e there =
          let more = begins.generations in
          let same : begins.object ≡ v = some_same begins.live there in
          record { empty = begins.empty; next = (let at : y.generations ≡ g + 1 = grind (arith, nat_tests) in omega (arith, more, at)); new = subst New same begins.new }
      go false e there = absurd (cc)

  pub some_stays : Grows Stays New x y → (g : ℕ) → IsSome (found g x) → IsSome (found g y)
  some_stays (inl stays) g is = subst (λ (z : Slot A). IsSome (found g z)) (sym stays.same) is
  some_stays (inr begins) g is = absurd (none_found g x begins.empty is)

-- a slot that is as it was has no other record in the making
pub making_same : {A : Type 0} (i : ℕ) (was now : ℕ → Slot A) (n : Id) → now n.slot ≡ was n.slot
    → IsInTheMaking i was n → IsInTheMaking i now n
making_same i was now n same is = record { maker = is.maker; free = ap (λ x. x.live) same ∙ is.free; next = is.next ∙ sym (ap (λ x. x.generations) same) }

-- ---- new objects

-- a record that was taken is filled for this region, which is new
pub record NewRegion (w : List ℕ) (r : Rec) (taken : Bool) (x : Region) : Type 0 where
  pub taken_is : taken ≡ true
  pub filled : RegionIsFilled w r x
  pub ended : ended_members x ≡ 0

-- a record that was taken is filled for this task, which is new and of this kind. It has a place on a thread unless it is deferred
pub record NewTask (w : List ℕ) (r : Rec) (taken : Bool) (Kind : Task → Type 0) (t : Task) : Type 0 where
  pub taken_is : taken ≡ true
  pub environment : KeepsEnvironment w r t
  pub place : HasPlace t → KeepsPlace w r t
  pub children : Has r TaskChildren 0 0
  pub references : Has r TaskReferences 0 (own_reference t)
  pub slots : t.implicit ≡ true → (place : ℕ) → place < OWN_SLOTS → Has r TaskSlots place 0
  pub groups : (index : ℕ) → index < OPEN_GROUPS → Has r TaskSlots (COUNT_PLACE + index) 0
  pub kind : Kind t

pub one_none : (b c : Bool) → c ≡ false → one (b && c) ≡ 0
one_none b c none = ap (λ x. one (b && x)) none ∙ go b
  where
    go : (b : Bool) → one (b && false) ≡ 0
    go true = refl
    go false = refl

-- the life word of a record that was taken
pub begun_life : {A : Type 0} (r : Rec) (f : Field) (x y : Slot A) (New : A → Type 0) (before now : Bool)
    → Begins New x y → before ≡ true → KeepsLife r f x before → KeepsLife r f y now
begun_life r f x y New before now begins taken o = record {
  live = λ u is. let was = o.taken begins.empty taken in let more = begins.generations in omega (arith, was, more);
  taken = λ none _. let some = begins.live in absurd (cc);
  free = λ none _. let some = begins.live in absurd (cc);
}
