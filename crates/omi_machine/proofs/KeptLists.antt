-- Lists that are kept, and the functions that they mean.
use Rattle.std.proofs.Common.{◌≡◌, ◌≤◌, ◌<◌, ◌==◌, ◌-◌, ◌+◌, ℕ, zero, suc, Bool, List, [], ◌∷◌, ◌++◌, length, drop, take, replicate, Option, Some, None, if◌then◌else◌, refl, sym, ap, ◌∙◌, arith}
use mathlib.Core.Path.{fun_ext}
use Rattle.std.specs.Prelude.{slice_get, unwrap_or}
use Rattle.std.proofs.Math.Dec.{eqb-suc-zero}
use Rattle.std.proofs.Math.Seq.{drop-cons}
use Rattle.std.proofs.lemmas.List.{length-replicate}
use Rattle.std.proofs.lemmas.Option.{slice_get_within, get_or_from_slice_get}
use Rattle.omi_script.specs.declared.env.Env.{Env}
use Rattle.omi_script.specs.declared.program.Program.{Program}
use Rattle.omi_script.specs.declared.statement.Stmt.{Stmt}
use Rattle.omi_model.specs.declared.item.Item.{Item}
use Rattle.omi_model.specs.declared.item.Item.TheVariants as item
use Rattle.omi_model.specs.declared.region.Region.{Region}
use Rattle.omi_model.specs.declared.slot.Slot.{Slot}
use Rattle.omi_model.specs.declared.task.Task.{Task}
use Rattle.omi_model.specs.declared.thread.Thread.{Thread}
use Rattle.omi_machine.specs.Kept.{slots_of, state_of}
use Rattle.omi_model.specs.Opening.{initial_thread, waiting_worker, opening_region, opening_task, opening}
use Rattle.omi_model.specs.Put.{first_alone}
use Rattle.omi_model.specs.Rows.{body_items}
use Rattle.omi_model.specs.Settings.{with_head}

-- a list from a place on, where the element there is known
pub from_place : {A : Type 0} (xs : List A) (k : ℕ) (x : A) → slice_get xs k ≡ Some x
    → drop k xs ≡ x ∷ drop (suc k) xs
from_place {A} xs k x is =
    drop-cons xs k x (slice_get_within xs k x is)
    ∙ ap (λ (y : A). y ∷ drop (suc k) xs) (get_or_from_slice_get xs k x x is)

-- one more statement of a body in front
pub body_more : (body : List Stmt) (k : ℕ) (s : Stmt) (now old : List Item) → k < length body
    → slice_get body (length body - 1 - k) ≡ Some s
    → now ≡ body_items (drop (length body - k) body) old → item.Do s ∷ now ≡ body_items (drop (length body - (k + 1)) body) old
body_more body k s now old within is so_far =
    let at : suc (length body - 1 - k) ≡ length body - k = omega arith in
    let next : length body - 1 - k ≡ length body - (k + 1) = omega arith in
    let from : drop (length body - (k + 1)) body ≡ s ∷ drop (length body - k) body =
    ap (λ (n : ℕ). drop n body) (sym next)
    ∙ from_place body (length body - 1 - k) s is
    ∙ ap (λ (n : ℕ). s ∷ drop n body) at in
    ap (λ (xs : List Item). item.Do s ∷ xs) so_far ∙ sym (ap (λ (ss : List Stmt). body_items ss old) from)

-- the elements by number, and one past the last
abbrev pub by_number : {A : Type 0} → List A → A → ℕ → A
by_number xs w = λ i. unwrap_or (slice_get xs i) w

-- every element of a list is the default
all_default : {A : Type 0} (n i : ℕ) (w : A) → unwrap_or (slice_get (replicate n w) i) w ≡ w
all_default zero i w = refl
all_default (suc n) zero w = refl
all_default (suc n) (suc i) w = all_default n i w

-- one element before those that are the default
first_then : {A : Type 0} (n : ℕ) (a w : A) → by_number (a ∷ replicate n w) w ≡ (λ i. if i == 0 then a else w)
first_then {A} n a w = fun_ext go
  where
    go : (i : ℕ) → unwrap_or (slice_get (a ∷ replicate n w) i) w ≡ (if i == 0 then a else w)
    go zero = refl
    go (suc i) = all_default n i w ∙ sym (ap (λ (b : Bool). if b then a else w) (eqb-suc-zero i))

-- the state of what is kept at the opening
module _ (p : Program) (env : Env) (locks : List (Option ℕ)) (threads : List Thread)
    (regions : List (List (Slot Region))) (tasks : List (List (Slot Task))) where
  pub opening_kept : 1 ≤ p.threads → env ≡ p.env → locks ≡ []
      → threads ≡ initial_thread ∷ replicate (p.threads - 1) waiting_worker
      → slots_of regions ≡ first_alone (opening_region p) → slots_of tasks ≡ first_alone (opening_task p)
      → state_of (record { environment = env; max_active = p.env.max_active; locks = locks; threads = threads; regions = regions; tasks = tasks }) ≡ opening p
  opening_kept some same free all r t =
      let count : length threads ≡ p.threads =
      ap length all ∙ ap suc (length-replicate (p.threads - 1) waiting_worker) ∙ omega arith in
      let each =
      ap (λ (hs : List Thread). by_number hs waiting_worker) all
      ∙ first_then (p.threads - 1) initial_thread waiting_worker in
      λ j. record { environment = same j; count = count j; max_active = p.env.max_active; locks = by_number (free j) None; threads = each j; regions = r j; tasks = t j }

-- one element more of a list that is taken
pub take_one_more : {A : Type 0} (xs : List A) (k : ℕ) (y : A) → slice_get xs k ≡ Some y
    → take k xs ++ y ∷ [] ≡ take (suc k) xs
take_one_more [] k y is = absurd (cc)
take_one_more (x ∷ xs) zero y is =
    let same : Some x ≡ Some y = is in let one : x ≡ y = cc same in ap (λ z. z ∷ []) (sym one)
take_one_more (x ∷ xs) (suc k) y is = ap (λ zs. x ∷ zs) (take_one_more xs k y is)

-- behind the head a list with another head is the same
behind_head : (x k y : ℕ) (list : List ℕ) → 1 ≤ k → slice_get list k ≡ Some y
    → slice_get (with_head x list) k ≡ Some y
behind_head x k y [] some is = absurd (cc)
behind_head x zero y (z ∷ zs) some is = absurd (omega (arith, some))
behind_head x (suc k) y (z ∷ zs) some is = is

pub head_more : (x k y : ℕ) (list now : List ℕ) → 1 ≤ k → slice_get list k ≡ Some y
    → now ≡ take k (with_head x list) → now ++ y ∷ [] ≡ take (k + 1) (with_head x list)
head_more x k y list now some is so_far =
    let next : suc k ≡ k + 1 = omega arith in
    ap (λ (zs : List ℕ). zs ++ y ∷ []) so_far
    ∙ take_one_more (with_head x list) k y (behind_head x k y list some is)
    ∙ ap (λ (n : ℕ). take n (with_head x list)) next

-- one element more of a list without its first
pub rest_more : (xs now : List ℕ) (k y : ℕ) → 1 ≤ k → slice_get xs k ≡ Some y → now ≡ drop 1 (take k xs)
    → now ++ y ∷ [] ≡ drop 1 (take (k + 1) xs)
rest_more xs now k y some is so_far =
    let next : suc k ≡ k + 1 = omega arith in
    ap (λ (zs : List ℕ). zs ++ y ∷ []) so_far ∙ go xs k some is ∙ ap (λ (n : ℕ). drop 1 (take n xs)) next
  where
    go : (xs : List ℕ) (k : ℕ) → 1 ≤ k → slice_get xs k ≡ Some y
        → drop 1 (take k xs) ++ y ∷ [] ≡ drop 1 (take (suc k) xs)
    go [] k some is = absurd (cc)
    go (x ∷ xs) zero some is = absurd (omega (arith, some))
    go (x ∷ xs) (suc k) some is = take_one_more xs k y is
