use Rattle.std.proofs.Common.{◌≡◌, ℕ, ◌<◌, length}
use Rattle.std.specs.Prelude.{slice_index}
use Rattle.omi_layout.specs.declared.limits.TheConstants.{TABLE_WORDS}
use Rattle.omi_layout.specs.Field.{IsField}
use Rattle.omi_layout.specs.Table.{offset}
use Rattle.omi_layout.specs.Family.{family_offset}
use Rattle.omi_layout.proofs.family.family_table.Given as goal

abbrev pub invariant-loop-f : goal.invariant-loop-f
invariant-loop-f l = record {
  words : length l.table ≡ TABLE_WORDS;
  head : (i : ℕ) → i < 12 → slice_index l.table i ≡ slice_index l.initial.table i;
  offsets : (g : ℕ) → IsField g → g < l.f → offset l.table g ≡ family_offset l.version l.k l.threads g;
}
