-- What contracts see of a table of handles: which pairs of key and serial are held, and of what
-- each was made.
use Rattle.std.specs.Prelude.{ℕ, refl}
use Rattle.std.specs.declared.cmp.Ordering.{Ordering}
use Rattle.std.specs.Ordering.{nat_cmp, on, then_cmp}
use Rattle.std.specs.FinMap.{FinMap, code}
use Rattle.std.specs.Coded.{Coded, code_by, coded×, coded_ℕ}
use Rattle.omi_handle.specs.declared.handle.Held.{Held}
use Rattle.omi_handle.specs.contracts.handle.Held.{the_row}

-- pairs of key and serial, by key and then by serial
abbrev pub pair_cmp : ℕ × ℕ → ℕ × ℕ → Ordering
pair_cmp = then_cmp (on (λ pair. pair.0) nat_cmp) (on (λ pair. pair.1) nat_cmp)

pub record Ledger : Type 0 where
  -- what is held under each pair
  pub held : FinMap pair_cmp Held
  -- how many handles were made so far
  pub made : ℕ
  -- so many more can be made with no memory
  pub room : ℕ

-- a ledger is stored as the tuple of its fields
abbrev pub ledger_code : Coded Ledger
ledger_code =
    code_by
    (FinMap pair_cmp Held × (ℕ × ℕ))
    (coded× (code (coded× coded_ℕ coded_ℕ) the_row.coded) (coded× coded_ℕ coded_ℕ))
    (λ l. (l.held, (l.made, l.room)))
    (λ p. record { held = p.0; made = p.1.0; room = p.1.1 })
    (λ _. refl)
