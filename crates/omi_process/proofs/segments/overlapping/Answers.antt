use Rattle.std.proofs.Common.{◌≡◌, true, ◌∷◌, refl, sym}
use Rattle.std.proofs.lemmas.List.Elements.{All-same, All-tail}
use Rattle.omi_process.specs.Words.{is_looked_at}
use Rattle.omi_process.proofs.segments.overlapping.Goals as goal

pub loop-h-init : goal.loop-h-init
loop-h-init c =
    let all = All-same (λ h. is_looked_at h ≡ true) (c.in-Some.first.now ∷ c.in-Some.others.now) c.args.segments.now (sym c.in-Some.ensures.cases.0) c.requires in
    record {
      sought = rw c.in-Some.ensures.cases.0 refl;
      looked = All-tail (λ h. is_looked_at h ≡ true) c.in-Some.first.now c.in-Some.others.now all;
    }
