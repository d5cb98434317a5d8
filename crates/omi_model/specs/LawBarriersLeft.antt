-- Barriers ahead: a member's arrivals and the barriers that are left in its to-do list are together the barriers of its region's function and the one at the end; an explicit task has none ahead.
use Rattle.std.specs.Prelude.{◌≡◌, ℕ, zero, suc, ◌+◌, ◌*◌, List, [], ◌∷◌, true, false, slice_index, Some}
use Rattle.omi_script.specs.Bodies.{body_of}
use Rattle.omi_script.specs.declared.program.Program.{Program}
use Rattle.omi_script.specs.declared.statement.Stmt.{Stmt}
use Rattle.omi_script.specs.declared.statement.Stmt.TheVariants as stmt
use Rattle.omi_model.specs.declared.event.Event.{Event}
use Rattle.omi_model.specs.declared.id.Tid.{Tid}
use Rattle.omi_model.specs.declared.item.Item.{Item}
use Rattle.omi_model.specs.declared.item.Item.TheVariants as item
use Rattle.omi_model.specs.declared.region.Region.{Region}
use Rattle.omi_model.specs.declared.task.Task.{Task}
use Rattle.omi_model.specs.Reached.{Reached}
use Rattle.omi_model.specs.State.{State, region_of, task_of}

-- the barriers of a statement, where those of each function are given
abbrev pub stmt_barriers : (ℕ → ℕ) → Stmt → ℕ
stmt_barriers b stmt.Barrier = 1
stmt_barriers b (stmt.Call f) = b f
stmt_barriers b (stmt.Repeat n f) = n * b f
stmt_barriers b _ = 0

abbrev pub body_barriers : (ℕ → ℕ) → List Stmt → ℕ
body_barriers b [] = 0
body_barriers b (s ∷ ss) = stmt_barriers b s + body_barriers b ss

abbrev pub item_barriers : (ℕ → ℕ) → Item → ℕ
item_barriers b (item.Do s) = stmt_barriers b s
item_barriers b item.Arrive = 1
item_barriers b _ = 0

-- the barriers that are left in a list
abbrev pub left : (ℕ → ℕ) → List Item → ℕ
left b [] = 0
left b (x ∷ xs) = item_barriers b x + left b xs

-- the barriers that one pass through a function meets, in calls up to this depth
abbrev pub barriers_to : Program → ℕ → ℕ → ℕ
barriers_to p zero f = 0
barriers_to p (suc n) f = body_barriers (barriers_to p n) (body_of p.funcs f)

unfoldable pub barriers_of : Program → ℕ → ℕ
barriers_of p f = barriers_to p (suc f) f

-- a member has as many barriers ahead as are left of its region's
abbrev pub HasBarriersLeft : Program → Region → Task → Type 0
HasBarriersLeft p r t =
    slice_index r.arrivals t.number + left (barriers_of p) t.list ≡ barriers_of p r.function + 1

-- in every reached state
pub record AreBarriersLeft (p : Program) (s : State) : Type 0 where
  pub members : (k : Tid) (t : Task) (r : Region) → task_of s k ≡ Some t → t.implicit ≡ true
      → region_of s t.region ≡ Some r → HasBarriersLeft p r t
  pub others : (k : Tid) (t : Task) → task_of s k ≡ Some t → t.implicit ≡ false
      → left (barriers_of p) t.list ≡ 0

abbrev pub BarriersAreLeft : Type 0
BarriersAreLeft = (p : Program) (events : List (ℕ × Event)) (s : State) → Reached p events s
    → AreBarriersLeft p s
