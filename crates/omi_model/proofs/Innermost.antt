-- The innermost open group of a task.
use Rattle.std.proofs.Common.{◌≡◌, ◌-◌, ◌⊎◌, inl, inr, ℕ, zero, suc, Option, Some, None, refl, sym, ap, arith}
use Rattle.omi_model.specs.declared.group.Group.{Group}
use Rattle.omi_model.specs.declared.id.Tid.{Tid}
use Rattle.omi_model.specs.declared.task.Task.{Task}
use Rattle.omi_model.specs.Groups.{innermost, innermost_or}
use Rattle.omi_model.proofs.Slots.{none_some, some_same}

-- a task without an open group has none, and another one that with one index less than it has open
pub innermost_none : (other : Option Group) (k : Tid) (n : ℕ) → n ≡ 0 → innermost_or other k n ≡ other
innermost_none other k n is = ap (innermost_or other k) is

pub innermost_some : (other : Option Group) (k : Tid) (n : ℕ) → (n ≡ 0 → ⊥)
    → innermost_or other k n ≡ Some (record { owner = k; index = n - 1 })
innermost_some other k zero some = absurd (some refl)
innermost_some other k (suc n) some =
    let one_less : n ≡ suc n - 1 = omega arith in
    ap (λ (m : ℕ). Some (record { owner = k; index = m })) one_less

-- where a group is innermost, it is so whatever another task's group is
pub innermost_of : (other : Option Group) (k : Tid) (n : ℕ) (g : Group) → innermost_or None k n ≡ Some g
    → innermost_or other k n ≡ Some g
innermost_of other k zero g is = absurd (none_some refl is)
innermost_of other k (suc n) g is = is

-- the innermost open group of a task is one of its own, else it is the other one
pub innermost_cases : (other : Option Group) (k : Tid) (n : ℕ) (g : Group) → innermost_or other k n ≡ Some g
    → (other ≡ Some g) ⊎ ((g.owner ≡ k) × (suc g.index ≡ n))
innermost_cases other k zero g is = inl is
innermost_cases other k (suc n) g is =
    let same : record { owner = k; index = n } ≡ g = some_same refl is in
    inr (ap (λ (x : Group). x.owner) (sym same), ap (λ (x : Group). suc x.index) (sym same))

-- the innermost open group of a task is its own
pub innermost_own : (k : Tid) (t : Task) (g : Group) → innermost k t ≡ Some g
    → (g.owner ≡ k) × (suc g.index ≡ t.open_groups)
innermost_own k t g is = go (innermost_cases None k t.open_groups g is)
  where
    go : (◌≡◌ {A = Option Group} None (Some g)) ⊎ ((g.owner ≡ k) × (suc g.index ≡ t.open_groups))
        → (g.owner ≡ k) × (suc g.index ≡ t.open_groups)
    go (inl none) = absurd (none_some refl none)
    go (inr own) = own
