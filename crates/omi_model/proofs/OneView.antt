-- A state has at most one view.
use Rattle.std.proofs.Common.{◌≡◌, ℕ, zero, suc, List, [], ◌∷◌, ◌++◌, map, Option, Some, None, refl, sym, ap, ap₂, subst, ◌∙◌, arith}
use Rattle.std.specs.Prelude.{Contains}
use Rattle.std.specs.List.{filter_map}
use Rattle.omi_model.specs.declared.id.Rid.{Rid}
use Rattle.omi_model.specs.declared.id.Tid.{Tid}
use Rattle.omi_model.specs.declared.view.View.{View}
use Rattle.omi_model.specs.declared.view.RegionRow.{RegionRow}
use Rattle.omi_model.specs.declared.view.TaskRow.{TaskRow}
use Rattle.omi_model.specs.State.{State, region_of}
use Rattle.omi_model.specs.declared.task.Task.{Task}
use Rattle.omi_model.specs.Views.{AreRegions, IsChain, AreChains, IsViewOf, region_row, task_row, thread_with}
use Rattle.omi_model.proofs.InOrder.{AreAmong, same_rows}

-- a row whose region stands among the regions of rows
row_with : (n : Rid) (rows : List RegionRow) → Contains (map (λ row. row.region) rows) n
    → (row : RegionRow) × Contains rows row × (row.region ≡ n)
row_with n [] (k, within, is) = absurd (omega (arith, within))
row_with n (row ∷ rows) (zero, within, is) = (row, (0, omega arith, refl), is)
row_with n (row ∷ rows) (suc k, within, is) =
    let (found, (at, inside, there), same) = row_with n rows (k, omega (arith, within), is) in
    (found, (suc at, omega (arith, inside), there), same)

rows_among : (s : State) (threads : List ℕ) (xs ys : List RegionRow) → AreRegions s threads xs
    → AreRegions s threads ys → AreAmong xs ys
rows_among s threads xs ys a b row is =
    let (reported, r, live, made) = a.each row is in
    let (other, inside, same) = row_with row.region ys (b.all row.region reported) in
    let (again, q, alive, built) = b.each other inside in
    let region : Some r ≡ Some q = sym live ∙ ap (region_of s) (sym same) ∙ alive in
    let one : r ≡ q = cc region in
    let equal : other ≡ row = built ∙ ap₂ region_row same (sym one) ∙ sym made in
    subst (Contains ys) equal inside

regions_unique : (s : State) (threads : List ℕ) (xs ys : List RegionRow) → AreRegions s threads xs
    → AreRegions s threads ys → xs ≡ ys
regions_unique s threads xs ys a b =
    same_rows xs ys a.in_order b.in_order (rows_among s threads xs ys a b) (rows_among s threads ys xs b a)

chain_unique : (s : State) (i : ℕ) (from : Option Tid) (xs ys : List TaskRow) → IsChain s i from xs
    → IsChain s i from ys → xs ≡ ys
chain_unique s i None [] [] a b = refl
chain_unique s i None [] (y ∷ ys) a b = absurd b
chain_unique s i None (x ∷ xs) ys a b = absurd a
chain_unique s i (Some k) [] ys a b = absurd a
chain_unique s i (Some k) (x ∷ xs) [] a b = absurd b
chain_unique s i (Some k) (x ∷ xs) (y ∷ ys) (t, live, made, rest) (u, alive, built, others) =
    let task : Some t ≡ Some u = sym live ∙ alive in
    let same : t ≡ u = cc task in
    let first : x ≡ y = made ∙ ap (task_row i k) same ∙ sym built in
    let later : xs ≡ ys =
    chain_unique s i t.scheduling xs ys rest
    (subst (λ (v : Task). IsChain s i v.scheduling ys) (sym same) others) in
    λ j. first j ∷ later j

chains_unique : (s : State) (threads : List ℕ) (xs ys : List TaskRow) → AreChains s threads xs
    → AreChains s threads ys → xs ≡ ys
chains_unique s [] xs ys a b = a ∙ sym b
chains_unique s (i ∷ threads) xs ys (chain, rest, made, is, more) (other, behind, built, was, others) =
    made
    ∙ ap₂ (λ (c d : List TaskRow). c ++ d) (chain_unique s i (s.threads i).current chain other is was)
    (chains_unique s threads rest behind more others)
    ∙ sym built

pub view_unique : (s : State) (contexts : List ℕ) (v w : View) → IsViewOf s contexts v → IsViewOf s contexts w
    → v ≡ w
view_unique s contexts v w a b =
    let threads : List ℕ = filter_map (thread_with s) contexts in
    let head = a.head ∙ sym b.head in
    let rows = a.threads ∙ sym b.threads in
    let regions = regions_unique s threads v.regions w.regions a.regions b.regions in
    let tasks = chains_unique s threads v.tasks w.tasks a.tasks b.tasks in
    λ i. record { head = head i; threads = rows i; regions = regions i; tasks = tasks i }
