use Rattle.std.proofs.Common.{◌∙◌, ℕ, List, ap, length, subst, sym}
use Rattle.std.specs.Prelude.{IsTrue}
use Rattle.omi_layout.specs.Place.{fits}
use Rattle.omi_word.specs.Memory.{IsWordOf, address_of, words_after}
use Rattle.omi_rewind.specs.Tests.{holds}
use Rattle.omi_rewind.proofs.Searched.{count_at, nowhere_next}
use Rattle.omi_rewind.proofs.rewind.Rewind.first_made.Goals as goal

pub holds-requires : goal.holds-requires
holds-requires g c =
    subst (λ n. IsTrue (fits c.args.q.now.table n))
    (sym (ap (λ (ws : List ℕ). length ws) c.loop-step.invariant.0 ∙ count_at c.args.self.now c.loop-step.step c.args.self.now.at))
    c.requires.fits

pub apply-requires : goal.apply-requires
apply-requires g c =
    subst (λ ws. IsWordOf ws (address_of c.op_at.result)) (sym c.loop-step.invariant.0) (c.op_at.ensures.inside c.loop-step.step)

pub loop-step-preserved : goal.loop-step-preserved
loop-step-preserved g c = (
  c.apply.ensures.after ∙ ap (λ ws. words_after ws c.op_at.result) c.loop-step.invariant.0 ∙ sym c.op_at.ensures.after,
  nowhere_next c.args.q.now.test c.args.q.now.table c.args.self.now c.loop-step.step c.loop-step.invariant.1
      (ap (holds c.args.q.now.test c.args.q.now.table) (sym c.loop-step.invariant.0) ∙ sym c.holds.ensures ∙ c.if-holds.false),
)

pub holds-requires-2 : goal.holds-requires-2
holds-requires-2 g c =
    subst (λ n. IsTrue (fits c.args.q.now.table n))
    (sym (ap (λ (ws : List ℕ). length ws) c.loop-step.invariant.0 ∙ count_at c.args.self.now c.loop-step.step c.args.self.now.at))
    c.requires.fits
