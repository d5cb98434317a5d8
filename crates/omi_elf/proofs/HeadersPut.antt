-- One more segment, as the program headers of segments are written.
use Rattle.std.proofs.Common.{◌≡◌, ℕ, ◌+◌, ◌*◌, List, ◌∷◌, ◌++◌, length, drop, Some, sym, ap, ◌∙◌, append_assoc}
use Rattle.std.specs.Prelude.{slice_get}
use Rattle.std.proofs.lemmas.List.{drop_more}
use Rattle.std.proofs.lemmas.Option.{slice_get_within, get_or_from_slice_get}
use Rattle.omi_corefile.specs.declared.segment.Segment.{Segment}
use Rattle.omi_elf.specs.declared.limits.TheConstants.{LOAD_SEGMENT}
use Rattle.omi_elf.specs.Spelling.{header_bytes, segment_headers}

pub headers_further : (order place : ℕ) (out : List ℕ) (ss : List Segment) (i : ℕ) (s : Segment) (all : List ℕ)
    → slice_get ss i ≡ Some s → out ++ segment_headers order place (drop i ss) ≡ all
    → (out ++ header_bytes order LOAD_SEGMENT place s.start (8 * length s.words))
    ++ segment_headers order (place + 8 * length s.words) (drop (i + 1) ss) ≡ all
headers_further order place out ss i s all h e =
    let more : drop i ss ≡ s ∷ drop (i + 1) ss =
    drop_more ss i s (slice_get_within ss i s h) ∙ ap (λ (t : Segment). t ∷ drop (i + 1) ss) (get_or_from_slice_get ss i s s h) in
    append_assoc out (header_bytes order LOAD_SEGMENT place s.start (8 * length s.words)) (segment_headers order (place + 8 * length s.words) (drop (i + 1) ss))
    ∙ ap (λ (xs : List Segment). out ++ segment_headers order place xs) (sym more) ∙ e
