use Rattle.std.proofs.Common.{◌≡◌, ℕ, true, refl, sym, subst, arith}
use Rattle.std.specs.Prelude.{is_some}
use Rattle.omi_layout.specs.Field.{threads}
use Rattle.omi_rep.specs.Look.{slot_at}
use Rattle.omi_rep.proofs.Slots.{slot_begins}
use Rattle.omi_ask.proofs.threads.begun.Goals as goal

pub returns-clause-named : goal.returns-clause-named
returns-clause-named c = record {
  named = record {
    place =
        subst (λ (a : ℕ). is_some (slot_at c.args.layout.now.table threads a) ≡ true)
        (sym c.thread_at.ensures.address)
        (slot_begins c.args.layout.now.table threads c.args.i 0 (record { made_by = c.requires; within = omega arith }));
    live = refl;
  };
  is = refl;
  low = c.thread_at.ensures.low;
}
