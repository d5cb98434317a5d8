-- Bytes that are read in pieces.
use Rattle.std.proofs.Common.{◌≡◌, ℕ, ◌+◌, ◌≤◌, List, ◌++◌, length, take, drop, sym, ap, ◌∙◌, take-add}
use Rattle.std.proofs.Math.Seq.{take-append-add}
use Rattle.std.proofs.lemmas.List.{take-append-le, length-take-le, drop-drop}

-- one piece more was read
pub read_on : (bytes old piece rest : List ℕ) (at done count : ℕ) → done ≤ length old → count ≤ length piece
    → take done old ≡ take done (drop at bytes) → take count piece ≡ take count (drop (at + done) bytes)
    → take (done + count) (take done old ++ (piece ++ rest)) ≡ take (done + count) (drop at bytes)
read_on bytes old piece rest at done count within fits so_far read =
    let front : length (take done old) ≡ done = length-take-le done old within in
    ap (λ n. take (n + count) (take done old ++ (piece ++ rest))) (sym front)
    ∙ take-append-add (take done old) (piece ++ rest) count
    ∙ ap (λ (l : List ℕ). take done old ++ l)
    (take-append-le count piece rest fits ∙ read ∙ ap (take count) (sym (drop-drop done at bytes)))
    ∙ ap (λ (l : List ℕ). l ++ take count (drop done (drop at bytes))) so_far
    ∙ sym (take-add done count (drop at bytes))
