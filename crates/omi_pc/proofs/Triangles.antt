-- The sum 1 + 2 + .. + n, and how many bodies go down from a number.
use Rattle.std.proofs.Common.{◌≡◌, ℕ, zero, suc, ◌+◌, ◌<◌, ◌≤◌, Bool, true, false, cond, List, [], ◌∷◌, length, ap, ⊎_elim, arith}
use Rattle.std.proofs.lemmas.Bool.{cases_lt}
use Rattle.omi_pc.specs.declared.frame.Frame.{Frame}
use Rattle.omi_pc.specs.Stacks.{BeginsBelow, GoDown, function_of, opens_task, task_function}

abbrev pub triangle : ℕ → ℕ
triangle zero = 0
triangle (suc n) = triangle n + suc n

-- a smaller number has a smaller triangle, by one row
pub triangle_below : (m n : ℕ) → m < n → triangle m + m + 1 ≤ triangle n
triangle_below m zero below = absurd (omega arith)
triangle_below m (suc n) below =
    ⊎_elim
    (λ (less : m < n). let more : triangle m + m + 1 ≤ triangle n = triangle_below m n less in omega arith)
    (λ (least : n ≤ m). let same : m ≡ n = omega arith in let row : triangle m ≡ triangle n = ap triangle same in omega arith)
    (cases_lt m n)

-- one body more: of a smaller function than the task below, or than the body outside it
one_more : (b : Bool) (x task outer count n : ℕ) → x < cond b task outer → count + outer + triangle task ≤ n
    → count + 1 + x + triangle (cond b x task) ≤ n
one_more true x task outer count n below fits =
    let row : triangle x + x + 1 ≤ triangle task = triangle_below x task below in omega arith
one_more false x task outer count n below fits = omega arith

-- the outermost body
one_body : (b : Bool) (x n : ℕ) → x < n → 1 + x + triangle (cond b x 0) ≤ triangle n
one_body true x n below = let row : triangle x + x + 1 ≤ triangle n = triangle_below x n below in omega arith
one_body false x n below = let row : triangle x + x + 1 ≤ triangle n = triangle_below x n below in omega arith

-- the bodies that go down from a number, with those that could still be opened on top of them, are at most its triangle
pub few_go_down : (n : ℕ) (fs : List Frame) → GoDown fs → BeginsBelow n fs
    → length fs + function_of fs + triangle (task_function fs) ≤ triangle n
few_go_down n [] down begins = omega arith
few_go_down n (f ∷ []) down begins = one_body (opens_task f.opened) f.function n begins
few_go_down n (f ∷ g ∷ gs) down begins =
    let rest = few_go_down n (g ∷ gs) down.1 begins in
    let more =
    one_more (opens_task f.opened) f.function (task_function (g ∷ gs)) g.function (length (g ∷ gs))
    (triangle n) down.0 rest in
    omega arith
