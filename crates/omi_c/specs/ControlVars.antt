-- A control variable of the address space by name and value, by its place from 0 on.
use Rattle.std.specs.Prelude.{ℕ, List, slice_get}
use Rattle.std.specs.Option.{ok_or}
use Rattle.omi_icv.specs.Display.{display_texts, space_words}
use Rattle.omi_session.specs.declared.rc.Rc.TheVariants.{BadInput}
use Rattle.omi_session.specs.Reads.{Reads, Answer, then_reads}

unfoldable pub control_var : List ℕ → ℕ → Reads (List ℕ)
control_var w place =
    then_reads (space_words w)
    (λ words. Answer (ok_or (slice_get (display_texts words) place) BadInput))
