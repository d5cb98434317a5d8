use Rattle.std.proofs.Common.{◌≡◌, ◌-◌, ◌+◌}
use Rattle.omi_corefile.specs.Limits.{least_after}
use Rattle.omi_corefile.specs.Refusals.{row_at, id_at, contexts_at}
use Rattle.omi_corefile.proofs.Rows.{with_front}
use Rattle.omi_corefile.proofs.decoding.contexts.Given as goal

abbrev pub invariant-loop : goal.invariant-loop
invariant-loop l =
    with_front l.contexts (row_at (id_at l.len) (λ least id. id + 1) (l.count - l.counter) (least_after l.before) l.rest) ≡ contexts_at l.len l.count l.bytes
