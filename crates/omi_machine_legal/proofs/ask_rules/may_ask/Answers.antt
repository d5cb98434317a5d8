use Rattle.std.proofs.Common.{suc, ◌<◌, length, sym, subst, arith}
use Rattle.std.proofs.lemmas.Bool.{both_ways}
use Rattle.omi_machine_legal.specs.Decided.{IsAnswer, IsNext}
use Rattle.omi_machine.specs.Kept.{state_of}
use Rattle.omi_model.specs.State.{State}
use Rattle.omi_model.specs.Teams.{got_threads}
use Rattle.omi_model.specs.declared.thread.Thread.{Thread}
use Rattle.omi_machine_legal.proofs.ask_rules.may_ask.Goals as goal

-- a team of a thread is smaller than wanted
abbrev IsSmaller : Thread → Type 0
IsSmaller h = suc (length (got_threads h.asks)) < h.wanted

pub returns-then-is_next : goal.returns-then-is_next
returns-then-is_next c =
    let s : State = state_of c.args.s.now in
    let next : IsNext (s.threads c.args.i) c.args.i c.args.w =
    subst (λ (h : Thread). IsNext h c.args.i c.args.w) c.thread-h.ensures
    (c.is_next.ensures.0 c.if-is_next.true) in
    let answer : IsAnswer (s.threads c.args.w) c.args.got = subst (λ (h : Thread). IsAnswer h c.args.got) c.thread.ensures (c.is_answer.ensures.0 c.if-not-is_answer.false) in (
      λ small. record {
        known = omega arith;
        other = next.other;
        new = next.new;
        least = next.least;
        smaller = subst IsSmaller c.thread-h.ensures (c.is_smaller.ensures.0 small);
        joins = answer.joins;
        busy = answer.busy;
      },
      λ may. c.is_smaller.ensures.1 (subst IsSmaller (sym c.thread-h.ensures) may.smaller),
    )

pub returns-else-is_next : goal.returns-else-is_next
returns-else-is_next c = (
  λ is. absurd (both_ways c.is_next.result c.if-is_next.false is),
  λ may. c.is_next.ensures.1 (subst (λ (h : Thread). IsNext h c.args.i c.args.w) (sym c.thread-h.ensures) (record { other = may.other; new = may.new; least = may.least })),
)
