use Rattle.std.proofs.Common.{◌≡◌, ◌-◌, ◌++◌, ℕ, List, [], vec_len}
use Rattle.omi_layout.specs.declared.layout.Layout.{Layout}
use Rattle.omi_seat.specs.Seats.{all_below}
use Rattle.omi_seat.specs.Workers.{AreToBegin, IsToSplit}
use Rattle.omi_seat.proofs.workers.workers_at.Given as goal

-- so many threads have their workers, and the seat stands for the others
abbrev pub invariant-loop-made : goal.invariant-loop-made
invariant-loop-made g l = record {
  seated : l.seat.table_id ≡ l.words.table_id;
  knows : (part : ℕ → _) (rest : List _) → IsToSplit (g.P.TableRule.holds l.words.key) l.p.threads part rest l.fn.seat.me
      → l.seat.me ≡ (all_below part (l.p.threads - l.made) ++ rest, []);
  count : vec_len l.workers ≡ l.made;
  begin : (m : Layout) (part : ℕ → _) (rest : List _) → IsToSplit (g.P.TableRule.holds l.words.key) l.p.threads part rest l.fn.seat.me
      → AreToBegin l.p m l.words.table_id l.budget l.kept part l.p.threads l.workers.items;
}
