use Rattle.std.proofs.Common.{◌≡◌, ◌∙◌, slice_index_or, refl, sym, ap}
use Rattle.omi_pc.specs.declared.actor.Actor.{Actor}
use Rattle.omi_pc.specs.Fits.{Fits}
use Rattle.omi_step_words.specs.Placed.{HasGroupWords, IsPlaced}
use Rattle.omi_actor.specs.Steps.{resumed_at}
use Rattle.omi_core.specs.Runs.{actors_in}
use Rattle.omi_core.proofs.RecordedRuns.{actor_there, fits_now, groups_now, placed_now, stepped_on, word_found}
use Rattle.omi_core.proofs.machine.Machine.step.Given.{Over}
use Rattle.omi_core.proofs.machine.Machine.step.Goals.{Start}
use Rattle.omi_core.proofs.machine.Machine.step.Goals as goal

-- the thread's actor, as it is read from the list
module _ (g : Over) (c : Start g) (b : Actor)
    (read : b ≡ slice_index_or c.args.self.now.actors.items c.args.i b) where
  here : b ≡ actors_in c.args.self.now.actors.items c.args.i
  here = read ∙ actor_there c.args.self.now c.args.steps c.requires.at.0 c.requires.at.1 c.args.i c.requires.thread b

  fits : Fits c.args.self.now.program b
  fits = fits_now c.args.self.now c.args.steps c.requires.at.0 c.requires.at.1 c.args.i c.requires.thread c.requires.below b here

  placed : IsPlaced c.args.self.now.layout.table b
  placed = placed_now c.args.self.now c.args.steps c.requires.at.0 c.requires.at.1 c.args.i c.requires.thread c.requires.below b here

  groups : HasGroupWords c.args.self.now.layout.table
  groups = groups_now c.args.self.now c.args.steps c.requires.at.0 c.requires.at.1 c.args.i c.requires.thread c.requires.below b here

pub next-op-requires-clause-fits : goal.next-op-requires-clause-fits
next-op-requires-clause-fits g c =
    fits g (goal.at.next-op-requires-clause-fits g c).Start c.index-actor.result.now c.index-actor.ensures

pub next-op-requires-clause-placed : goal.next-op-requires-clause-placed
next-op-requires-clause-placed g c =
    placed g (goal.at.next-op-requires-clause-placed g c).Start c.index-actor.result.now c.index-actor.ensures

pub next-op-requires-clause-groups : goal.next-op-requires-clause-groups
next-op-requires-clause-groups g c =
    groups g (goal.at.next-op-requires-clause-groups g c).Start c.index-actor.result.now c.index-actor.ensures

pub apply-found-requires : goal.apply-found-requires
apply-found-requires g c =
    let b = c.index-actor.result.now in
    word_found c.args.self.now c.args.steps c.requires.at.0 c.requires.at.1 c.args.i c.requires.thread c.requires.below b
    (here g (goal.at.apply-found-requires g c).Start b c.index-actor.ensures) c.next-op.result c.next-op.ensures

pub outcome-came-requires-clause-fits : goal.outcome-came-requires-clause-fits
outcome-came-requires-clause-fits g c =
    fits g (goal.at.outcome-came-requires-clause-fits g c).Start c.index-actor.result.now c.index-actor.ensures

pub outcome-came-requires-clause-placed : goal.outcome-came-requires-clause-placed
outcome-came-requires-clause-placed g c =
    placed g (goal.at.outcome-came-requires-clause-placed g c).Start c.index-actor.result.now c.index-actor.ensures

pub outcome-came-requires-clause-groups : goal.outcome-came-requires-clause-groups
outcome-came-requires-clause-groups g c =
    groups g (goal.at.outcome-came-requires-clause-groups g c).Start c.index-actor.result.now c.index-actor.ensures

pub advance-requires-clause-fits : goal.advance-requires-clause-fits
advance-requires-clause-fits g c =
    fits g (goal.at.advance-requires-clause-fits g c).Start c.index_mut.result.now c.index_mut.ensures.value

pub advance-requires-clause-placed : goal.advance-requires-clause-placed
advance-requires-clause-placed g c =
    placed g (goal.at.advance-requires-clause-placed g c).Start c.index_mut.result.now c.index_mut.ensures.value

pub returns : goal.returns
returns g c a at told =
    let start = (goal.at.returns g c).Start in
    let m = c.args.self.now in
    let before = c.index-actor.result.now in
    let read = here g start before c.index-actor.ensures in
    let same : c.index_mut.result.now ≡ before = here g start c.index_mut.result.now c.index_mut.ensures.value ∙ sym read in
    let moved = c.advance.ensures ∙ ap (λ (b : Actor). (resumed_at m.program m.layout.table b b.counter c.apply-found.result.old).0) same in
    stepped_on m c.args.steps a at c.args.i c.requires.thread c.requires.below before read c.next-op.result c.next-op.ensures
    c.apply-found.result.old c.apply-found.ensures.old c.advance.new.a moved c.outcome-came.result c.outcome-came.ensures
    _ refl refl c.apply-found.ensures.after refl _ (c.in_ok-record_outcome.ensures.told a.events.items told)
