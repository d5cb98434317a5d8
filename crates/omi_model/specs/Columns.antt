-- A team is kept as a column of tasks and a column of threads, of MOST_MEMBERS places each.
use Rattle.std.specs.Prelude.{◌≡◌, ℕ, zero, suc, ◌-◌, ◌≤◌, List, [], ◌∷◌, ◌++◌, length, drop, replicate}
use Rattle.omi_model.specs.declared.limits.TheConstants.{MOST_MEMBERS}
use Rattle.omi_model.specs.declared.id.Tid.{Tid}

-- the members at two columns
abbrev pub members : List Tid → List ℕ → List (Tid × ℕ)
members [] ys = []
members (x ∷ xs) [] = []
members (x ∷ xs) (y ∷ ys) = (x, y) ∷ members xs ys

abbrev pub tasks_of : List (Tid × ℕ) → List Tid
tasks_of [] = []
tasks_of (m ∷ ms) = m.0 ∷ tasks_of ms

abbrev pub threads_of : List (Tid × ℕ) → List ℕ
threads_of [] = []
threads_of (m ∷ ms) = m.1 ∷ threads_of ms

-- the task that fills the places past the length
abbrev pub no_task : Tid
no_task = record { 0 = record { creator = 0; slot = 0; generation = 0 } }

-- filled up to all places
abbrev pub padded : {A : Type 0} → A → List A → List A
padded filler xs = xs ++ replicate (MOST_MEMBERS - length xs) filler

-- a column of all places of which the first `len` are used
pub record IsColumn {A : Type 0} (filler : A) (len : ℕ) (xs : List A) : Type 0 where
  pub whole : length xs ≡ MOST_MEMBERS
  pub rest : drop len xs ≡ replicate (MOST_MEMBERS - len) filler

-- two columns of which the first `len` places are used
pub record AreColumns (len : ℕ) (xs : List Tid) (ys : List ℕ) : Type 0 where
  pub limit : len ≤ MOST_MEMBERS
  pub tasks : IsColumn no_task len xs
  pub threads : IsColumn 0 len ys

-- the members with another task at a place
abbrev pub with_task : Tid → ℕ → List (Tid × ℕ) → List (Tid × ℕ)
with_task task at [] = []
with_task task zero (m ∷ ms) = (task, m.1) ∷ ms
with_task task (suc at) (m ∷ ms) = m ∷ with_task task at ms
