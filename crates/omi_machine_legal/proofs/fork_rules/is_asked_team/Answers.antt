use Rattle.std.proofs.Common.{◌≡◌, ◌∷◌, ℕ, map, sym, subst}
use Rattle.std.proofs.lemmas.Bool.{both_ways}
use Rattle.omi_model.specs.declared.id.Tid.{Tid}
use Rattle.omi_model.specs.declared.thread.Thread.{Thread}
use Rattle.omi_machine_legal.specs.Decided.{AreAsksOverOf}
use Rattle.omi_machine.specs.Kept.{state_of}
use Rattle.omi_model.specs.Teams.{got_threads}
use Rattle.omi_machine_legal.proofs.fork_rules.is_asked_team.Goals as goal

pub returns-then-are_asks_over : goal.returns-then-are_asks_over
returns-then-are_asks_over c =
    let AreThreads : Thread → Type 0 =
    λ h. map (λ (m : Tid × ℕ). m.1) c.args.team.now ≡ c.args.i ∷ got_threads h.asks in
    let over : AreAsksOverOf c.thread-h.result.now c.args.i c.count.result =
    c.are_asks_over.ensures.0 c.if-are_asks_over.true in
    let here : AreAsksOverOf ((state_of c.args.s.now).threads c.args.i) c.args.i c.count.result = subst (λ (h : Thread). AreAsksOverOf h c.args.i c.count.result) c.thread-h.ensures over in (
      λ is. (subst (λ (n : ℕ). AreAsksOverOf ((state_of c.args.s.now).threads c.args.i) c.args.i n) c.count.ensures here, subst AreThreads c.thread-h.ensures (c.are_team_threads.ensures.0 is)),
      λ both. c.are_team_threads.ensures.1 (subst AreThreads (sym c.thread-h.ensures) both.1),
    )

pub returns-else-are_asks_over : goal.returns-else-are_asks_over
returns-else-are_asks_over c = (
  λ is. absurd (both_ways c.are_asks_over.result c.if-are_asks_over.false is),
  λ both. c.are_asks_over.ensures.1 (subst (λ (h : Thread). AreAsksOverOf h c.args.i c.count.result) (sym c.thread-h.ensures) (subst (λ (n : ℕ). AreAsksOverOf ((state_of c.args.s.now).threads c.args.i) c.args.i n) (sym c.count.ensures) both.0)),
)
