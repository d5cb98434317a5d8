use Rattle.std.proofs.Common.{◌≡◌, length, arith, ap, rules}
use Rattle.std.specs.Prelude.{filter}
use Rattle.std.proofs.lemmas.List.Sorted.{length_permutation}
use Rattle.omi_elf.proofs.SegmentRows.{filter_shorter}
use Rattle.omi_process.specs.Words.{is_looked_at}
use Rattle.omi_process.proofs.segments.looked_at.Goals as goal

pub returns-clause-few : goal.returns-clause-few
returns-clause-few c =
    let kept : c.in_ok-kept.kept.items ≡ filter is_looked_at c.args.headers.now = search rules in
    omega (arith, length_permutation _ _ c.in_ok-sort_by_start.ensures.same, ap length kept, filter_shorter is_looked_at c.args.headers.now)
