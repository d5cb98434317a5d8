use Rattle.std.proofs.Common.{◌≡◌, ℕ, ◌<◌, false}
use Rattle.omi_layout.specs.Valid.{overlap}
use Rattle.omi_layout.proofs.judging.first_overlap.Given as goal

abbrev pub invariant-loop-g : goal.invariant-loop-g
invariant-loop-g l = (h : ℕ) → l.f < h → h < l.g → overlap l.w l.f h ≡ false
