use Rattle.std.proofs.Common.{◌≡◌}
use Rattle.std.specs.FinMap.{remove}
use Rattle.teams.proofs.lines.push_regions.Given as goal

-- all handles are given back once the one of this region is
abbrev pub invariant-loop : goal.invariant-loop
invariant-loop g l = record {
  back : remove l.s.handles.held (l.region.key, l.region.serial)
      ≡ remove l.fn.s.handles.held (l.fn.innermost.key, l.fn.innermost.serial);
}
