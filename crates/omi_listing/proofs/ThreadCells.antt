-- Each row of the table of threads has eight cells.
use Rattle.std.proofs.Common.{◌≤◌, ℕ, List, Option, Some, None, length, arith}
use Rattle.std.specs.Prelude.{All}
use Rattle.std.proofs.lemmas.List.Elements.{All-cons, All-map}
use Rattle.omi_model.specs.declared.view.ThreadPart.{ThreadPart}
use Rattle.omi_model.specs.declared.view.View.{View}
use Rattle.omi_listing.specs.Threads.{cells_of, context_cells, threads_table}

eight_cells : (view : View) (native : ℕ) (found : Option ThreadPart) → length (cells_of view native found) ≤ 8
eight_cells view native None = omega arith
eight_cells view native (Some t) = omega arith

pub eight : (view : View) → All (λ row. length row ≤ 8) (threads_table view)
eight view =
    let few : List (List ℕ) → Type 0 = λ row. length row ≤ 8 in
    All-cons few _ _ (omega arith) (All-map few (context_cells view) view.threads (λ k d within. eight_cells view _ _))
