-- What is told stays told, and a failure in any part of a call is one of the call.
use Rattle.std.proofs.Common.{◌≡◌, ℕ, Some, sym, ap, subst, ◌∙◌}
use Rattle.omi_word.specs.Words.{Words}
use Rattle.omi_calls.specs.Told.{Told, aligned_word_at}
use Rattle.omi_calls.specs.Kept.{Kept}
use Rattle.omi_session.specs.Opened.{Opened, StaysWhole}
use Rattle.omi_session.specs.Tells.{Tells, KeepsTold}

-- what holds of the told words holds of the memory that they are
pub as_told : (told now : Told) (memory : Words) → now ≡ told → Tells told memory → (P : Words → Type 0)
    → ((words rest : Words) (order : ℕ) → now.words rest ≡ Some words → now.order ≡ Some order → P (aligned_word_at words)) → P memory
as_told told now memory same t P holds =
    subst P (sym t.is)
    (holds t.words t.rest t.order (ap (λ x. x.words t.rest) same ∙ t.words_told) (ap (λ x. x.order) same ∙ t.order_told))

-- callbacks that tell the same tell the same memory
pub still_tells : (told now : Told) (memory : Words) → now ≡ told → Tells told memory → Tells now memory
still_tells told now memory same t = record {
  order = t.order;
  order_told = ap (λ x. x.order) same ∙ t.order_told;
  words = t.words;
  rest = t.rest;
  words_told = ap (λ x. x.words t.rest) same ∙ t.words_told;
  is = t.is;
}

pub keeps_then : {C F : Type 0} (told : C → Told) (a b c : Kept C F) → KeepsTold told a b → KeepsTold told b c
    → KeepsTold told a c
keeps_then told a b c first second = record {
  same = second.same ∙ first.same;
  order = second.order ∙ first.order;
  to_host = second.to_host ∙ first.to_host;
}

pub stays_then : {C F : Type 0} (told : C → Told) (a b c : Opened C F) → StaysWhole told a b
    → StaysWhole told b c → StaysWhole told a c
stays_then told a b c first second = record {
  table = keeps_then told a.table b.table c.table first.table second.table;
  layout = second.layout ∙ first.layout;
  handles = second.handles ∙ first.handles;
}
