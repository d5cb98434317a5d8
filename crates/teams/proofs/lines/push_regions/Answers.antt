use Rattle.std.proofs.Common.{ℕ, Ok, ap, subst, ◌∙◌}
use Rattle.std.specs.FinMap.{remove}
use Rattle.omi.specs.Chains.{MakesStep, as_step}
use Rattle.omi_handle.specs.declared.handle.Kind.TheVariants.{Region}
use Rattle.omi_handle.specs.declared.handle.RegionHandle.{RegionHandle}
use Rattle.teams.proofs.GivenBack.{given_back}
use Rattle.teams.proofs.lines.push_regions.Goals as goal

pub loop-preserved : goal.loop-preserved
loop-preserved g c =
    let made =
    subst (λ o. MakesStep Region c.push_region.new.s.handles c.enclosing.new.s.handles (as_step (λ (r : RegionHandle). (r.key, r.serial)) (Ok o)))
    c.in-Some.is c.in_ok-outer.ensures.handles in
    let region : ℕ × ℕ = (c.loop.region.key, c.loop.region.serial) in
    let next : ℕ × ℕ = (c.in-Some.next.key, c.in-Some.next.serial) in
    record {
      back = ap (λ held. remove held next) (c.in_ok-rel_parallel_handle.ensures.removed ∙ ap (λ held. remove held region) made.adds.added)
          ∙ given_back c.push_region.new.s.handles.held region next made.object made.adds.unheld
          ∙ ap (λ handles. remove handles.held region) c.push_region.ensures
          ∙ c.loop.invariant.back;
    }
