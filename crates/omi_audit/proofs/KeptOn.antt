-- What holds over the words that are told and what is kept holds over those of an earlier state of the session, which a call left whole.
use Rattle.std.proofs.Common.{ℕ, List, sym, subst}
use Rattle.omi_word.specs.Words.{Words}
use Rattle.omi_calls.specs.Told.{Told}
use Rattle.omi_session.specs.Opened.{Opened, StaysWhole}
use Rattle.omi_session.specs.Tells.{Tells}
use Rattle.omi_session.proofs.Told.{still_tells}
use Rattle.omi_audit.specs.declared.search.Search.{Search}
use Rattle.omi_audit.specs.Judged.{Knows, OverKept}

pub kept_on : {C F : Type 0} (told : C → Told) (s t : Opened C F) (kept : Search) (P : List ℕ → Words → Type 0)
    → StaysWhole told s t → OverKept told t kept (P t.layout)
    → (memory : Words) → Tells (told s.table.calls) memory → Knows s.layout memory kept
    → P s.layout memory
kept_on told s t kept P stays holds memory tells known =
    subst (λ l. P l memory) stays.layout
    (holds memory (still_tells (told s.table.calls) (told t.table.calls) memory stays.table.same tells)
    (subst (λ l. Knows l memory kept) (sym stays.layout) known))
