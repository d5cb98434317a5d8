-- The two header lines of a report.
use Rattle.std.specs.Prelude.{ℕ, ◌==◌, List, [], ◌∷◌, ◌++◌, codes, if◌then◌else◌}
use Rattle.std.specs.Fmt.{decimal}
use Rattle.omi_model.specs.declared.view.HeadRow.{HeadRow}
use Rattle.omi_text.specs.Lines.{line, named_value}

-- debug-var: whether states are kept
abbrev pub debug_text : ℕ → List ℕ
debug_text debug = if debug == 0 then codes "disabled" else codes "enabled"

-- ompd VERSION threads T debug D
abbrev pub version_line : HeadRow → List ℕ
version_line head = line
    (codes "ompd" ∷ decimal head.version ∷ codes "threads" ∷ decimal head.threads ∷ codes "debug"
    ∷ debug_text head.debug ∷ [])

-- icv num-procs-var=P max-active-levels-var=M
abbrev pub space_line : HeadRow → List ℕ
space_line head = line
    (codes "icv"
    ∷ named_value (codes "num-procs-var") (decimal head.procs)
    ∷ named_value (codes "max-active-levels-var") (decimal head.max_active)
    ∷ [])

abbrev pub head_lines : HeadRow → List ℕ
head_lines head = version_line head ++ space_line head
