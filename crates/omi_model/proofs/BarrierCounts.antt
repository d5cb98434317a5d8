-- The barriers that each function of a program meets: their number is met by its statements, and `task`, `only`, `critical` and `taskgroup` name functions with none.
use Rattle.std.proofs.Common.{◌≡◌, ◌==◌, ℕ, zero, suc, ◌*◌, ◌<◌, ◌≤◌, ◌||◌, ◌⊎◌, inl, inr, Bool, true, false, List, [], ◌∷◌, length, slice_get, Option, Some, refl, sym, ap, ◌∙◌, arith, eq-eqb}
use Rattle.std.specs.List.{list_any}
use Rattle.std.specs.Option.{option_map_or}
use Rattle.std.proofs.lemmas.Bool.{cases_lt}
use Rattle.std.proofs.lemmas.Option.{slice_get_past}
use Rattle.omi_script.proofs.RuleLemmas.{Rules-from_accepted}
use Rattle.omi_script.specs.Bodies.{HasStatement, body_of, named_by}
use Rattle.omi_script.specs.Reach.{Reach, reaches, reaches_barrier}
use Rattle.omi_script.specs.Rules.{HasNoBarrier, Rules}
use Rattle.omi_script.specs.declared.function.Func.{Func}
use Rattle.omi_script.specs.declared.program.Program.{Program}
use Rattle.omi_script.specs.declared.statement.Stmt.{Stmt}
use Rattle.omi_script.specs.declared.statement.Stmt.TheVariants as stmt
pub use Rattle.omi_model.specs.LawBarriersLeft.{barriers_to, barriers_of}
use Rattle.omi_model.proofs.BarrierOrder.{IsCounted, body_barriers, both, fair_body, fair_stmt, stmt_barriers}
use Rattle.omi_model.proofs.Slots.{false_true}

-- a statement meets the same barriers where the functions that it names do
same_stmt : (b c : ℕ → ℕ) (s : Stmt) → ((g : ℕ) → named_by s ≡ Some g → b g ≡ c g)
    → stmt_barriers b s ≡ stmt_barriers c s
same_stmt b c stmt.Barrier e = refl
same_stmt b c (stmt.Call f) e = e f refl
same_stmt b c (stmt.Repeat n f) e = ap (λ x. n * x) (e f refl)
same_stmt b c s e = refl

same_body : (b c : ℕ → ℕ) (ss : List Stmt)
    → ((k : ℕ) (s : Stmt) → slice_get ss k ≡ Some s → stmt_barriers b s ≡ stmt_barriers c s)
    → body_barriers b ss ≡ body_barriers c ss
same_body b c [] each = refl
same_body b c (s ∷ ss) each = omega (arith, each 0 s refl, same_body b c ss (λ k x at. each (suc k) x at))

module _ (p : Program) where
  rules : Rules p
  rules = Rules-from_accepted p

  -- a depth that is enough gives what a greater one gives
  enough : (n m f : ℕ) → f < n → f < m → barriers_to p n f ≡ barriers_to p m f
  enough zero m f h k = absurd (omega arith)
  enough (suc n) zero f h k = absurd (omega arith)
  enough (suc n) (suc m) f h k =
      same_body (barriers_to p n) (barriers_to p m) (body_of p.funcs f)
      (λ j s at. same_stmt (barriers_to p n) (barriers_to p m) s (λ g e. let above : g < f = rules.above f g s (j, at) e in enough n m g (omega arith) (omega arith)))

  -- ---- functions that reach no barrier

  any_false : (test : Stmt → Bool) (ss : List Stmt) → list_any test ss ≡ false → (k : ℕ) (s : Stmt)
      → slice_get ss k ≡ Some s → test s ≡ false
  any_false test [] none k s at = absurd (cc at)
  any_false test (x ∷ xs) none zero s at = go (test x) refl none
    where
      same : x ≡ s
      same = cc

      go : (b : Bool) → test x ≡ b → (b || list_any test xs) ≡ false → test s ≡ false
      go true e h = absurd (false_true (sym h))
      go false e h = ap test (sym same) ∙ e
  any_false test (x ∷ xs) none (suc k) s at = any_false test xs (go (test x) none) k s at
    where
      go : (b : Bool) → (b || list_any test xs) ≡ false → list_any test xs ≡ false
      go true h = absurd (false_true (sym h))
      go false h = h

  no_stmt : (b : ℕ → ℕ) (s : Stmt) → reaches_barrier (reaches [] p.funcs) s ≡ false
      → ((g : ℕ) → named_by s ≡ Some g → HasNoBarrier p.funcs g → b g ≡ 0) → stmt_barriers b s ≡ 0
  no_stmt b stmt.Barrier none each = absurd (false_true (sym none))
  no_stmt b (stmt.Call f) none each = each f refl none
  no_stmt b (stmt.Repeat n f) none each = ap (λ x. n * x) (each f refl none) ∙ grind arith
  no_stmt b s none each = refl

  no_body : (b : ℕ → ℕ) (ss : List Stmt)
      → ((k : ℕ) (s : Stmt) → slice_get ss k ≡ Some s → stmt_barriers b s ≡ 0) → body_barriers b ss ≡ 0
  no_body b [] each = refl
  no_body b (s ∷ ss) each = omega (arith, each 0 s refl, no_body b ss (λ k x at. each (suc k) x at))

  no_barrier : (n f : ℕ) → HasNoBarrier p.funcs f → barriers_to p n f ≡ 0
  no_barrier zero f none = refl
  no_barrier (suc n) f none = go (cases_lt f (length p.funcs)) (λ j s at e g named has. no_barrier n g has)
    where
      go : (f < length p.funcs) ⊎ (length p.funcs ≤ f)
          → ((j : ℕ) (s : Stmt) → slice_get (body_of p.funcs f) j ≡ Some s → reaches_barrier (reaches [] p.funcs) s ≡ false → (g : ℕ) → named_by s ≡ Some g → HasNoBarrier p.funcs g → barriers_to p n g ≡ 0)
          → body_barriers (barriers_to p n) (body_of p.funcs f) ≡ 0
      go (inr past) shorter =
          ap (λ (o : Option Func). body_barriers (barriers_to p n) (option_map_or (λ g. g.body) o []))
          (slice_get_past p.funcs f past)
      go (inl within) shorter =
          let none_here : list_any (reaches_barrier (reaches [] p.funcs)) (body_of p.funcs f) ≡ false =
          ap (λ (x : Reach). x.barrier) (sym (rules.reach f within)) ∙ none in
          no_body (barriers_to p n) (body_of p.funcs f)
          (λ j s at. let e = any_false (reaches_barrier (reaches [] p.funcs)) (body_of p.funcs f) none_here j s at in no_stmt (barriers_to p n) s e (shorter j s at e))

  none_of : (f : ℕ) → HasNoBarrier p.funcs f → barriers_of p f == 0 ≡ true
  unfolding barriers_of
  none_of f none = eq-eqb (barriers_to p (suc f) f) 0 (no_barrier (suc f) f none)

  fair_by_place : (ss : List Stmt)
      → ((k : ℕ) (s : Stmt) → slice_get ss k ≡ Some s → fair_stmt (barriers_of p) s ≡ true)
      → fair_body (barriers_of p) ss ≡ true
  fair_by_place [] each = refl
  fair_by_place (s ∷ ss) each =
      both (fair_stmt (barriers_of p) s) (fair_body (barriers_of p) ss) (each 0 s refl)
      (fair_by_place ss (λ k x at. each (suc k) x at))

  fair_at : (f : ℕ) (s : Stmt) → HasStatement p.funcs f s → fair_stmt (barriers_of p) s ≡ true
  fair_at f (stmt.Only m g) at = none_of g (rules.no_barrier_in_only f m g at)
  fair_at f (stmt.Critical k g) at = none_of g (rules.no_barrier_in_critical f k g at)
  fair_at f (stmt.Taskgroup g) at = none_of g (rules.no_barrier_in_group f g at)
  fair_at f (stmt.Task g undeferred final) at = none_of g (rules.no_barrier_in_task f g undeferred final at)
  fair_at f s at = refl

  bodies_counted : (f : ℕ) → body_barriers (barriers_of p) (body_of p.funcs f) ≡ barriers_of p f
  unfolding barriers_of
  bodies_counted f =
      same_body (barriers_of p) (barriers_to p f) (body_of p.funcs f)
      (λ j s at. same_stmt (barriers_of p) (barriers_to p f) s (λ g e. let above : g < f = rules.above f g s (j, at) e in enough (suc g) f g (omega arith) above))

  pub counted : IsCounted p (barriers_of p)
  counted = record { bodies = bodies_counted; fair = λ f. fair_by_place (body_of p.funcs f) (λ k s at. fair_at f s (k, at)) }
