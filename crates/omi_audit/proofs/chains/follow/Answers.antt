use Rattle.std.proofs.Common.{◌≡◌, ◌<◌, ◌+◌, ◌∙◌, ℕ, List, Option, Some, None, length, get_or, IfSome, sym, ap, subst, arith}
use Rattle.std.specs.Prelude.{slice_index}
use Rattle.std.proofs.lemmas.Grind.{get_or_default_zero}
use Rattle.std.proofs.lemmas.Option.{get_or_from_slice_get}
use Rattle.std.proofs.Math.ListN.{length-set}
use Rattle.omi_layout.specs.Named.{number}
use Rattle.omi_audit.specs.declared.stop.Stop.TheVariants.{Fails}
use Rattle.omi_audit.specs.Verdicts.{chain_field, chain_clause}
use Rattle.omi_audit.proofs.Chained.{option_none}
use Rattle.omi_audit.proofs.Followed.{IsFollowed, followed_first, followed_next, followed_again, followed_end, followed_joins}
use Rattle.omi_audit.proofs.chains.follow.Goals as goal

-- the element that was read
read_at : (xs : List ℕ) (k n : ℕ) → n ≡ get_or xs k n → k < length xs → slice_index xs k ≡ n
read_at xs k n is within = sym (is ∙ get_or_default_zero xs k n within)

-- the current place is one of those that were met
current_met : (current : Option ℕ) (at n : ℕ) → IfSome current (λ k. k < n) → current ≡ Some at → at < n
current_met current at n met is = subst (λ o. IfSome o (λ k. k < n)) is met

pub loop-current-init : goal.loop-current-init
loop-current-init c = record {
  met = c.requires.met;
  all = c.requires.all;
  judged = λ memory searched clear walked. followed_first c.args.layout.now.table memory c.args.search.now c.args.start c.args.walks.now.items c.requires.all;
}

pub loop-current-preserved : goal.loop-current-preserved
loop-current-preserved c =
    let before = c.loop-current.invariant in
    let w = c.args.layout.now.table in
    let k = c.args.search.now in
    let walks = c.loop-current.walks.items in
    let at = c.in-Some.at in
    let met : at < length k.met.keys = current_met c.loop-current.current at (length k.met.keys) before.met c.in-Some.is in
    let all = before.all in
    let none : slice_index walks at ≡ 0 = read_at walks at c.index-first.result.now c.index-first.ensures (omega (arith, met, all)) ∙ c.if-first-ne0.false in
    record {
      met = c.next_in_chain-current.ensures.met;
      all = length-set walks at (c.args.start + 1) ∙ all;
      judged = λ memory searched clear walked.
          followed_next w memory k c.args.start c.args.walks.now.items c.args.layout.now.valid searched.met walked walks all at c.next_in_chain-current.result
          (subst (IsFollowed w memory k c.args.start c.args.walks.now.items walks) c.in-Some.is (before.judged memory searched clear walked)) met none
          (c.next_in_chain-current.ensures.next w memory c.args.layout.now.valid searched clear met);
    }

pub returns-then-first-walk-clause-judged : goal.returns-then-first-walk-clause-judged
returns-then-first-walk-clause-judged c = λ memory searched clear walked.
    let before = c.loop-current.invariant in
    let w = c.args.layout.now.table in
    let k = c.args.search.now in
    let walks = c.loop-current.walks.items in
    let at = c.in-Some.at in
    let met : at < length k.met.keys = current_met c.loop-current.current at (length k.met.keys) before.met c.in-Some.is in
    let all = before.all in
    let place = get_or_from_slice_get k.met.keys at c.index.result.now 0 c.index.ensures in
    followed_again w memory k c.args.start c.args.walks.now.items c.args.layout.now.valid searched.met walked walks all at c.comes_back.result
    (subst (IsFollowed w memory k c.args.start c.args.walks.now.items walks) c.in-Some.is (before.judged memory searched clear walked))
    (read_at walks at c.index-first.result.now c.index-first.ensures (omega (arith, met, all)) ∙ c.if-first-walk.true)
    (c.comes_back.ensures.fails memory ∙ ap (λ a. Fails a (number (chain_field w memory a)) (chain_clause w memory a)) (sym place))

pub returns-then-first-ne0-clause-judged : goal.returns-then-first-ne0-clause-judged
returns-then-first-ne0-clause-judged c = λ memory searched clear walked.
    let before = c.loop-current.invariant in
    let w = c.args.layout.now.table in
    let k = c.args.search.now in
    let walks = c.loop-current.walks.items in
    let at = c.in-Some.at in
    let met : at < length k.met.keys = current_met c.loop-current.current at (length k.met.keys) before.met c.in-Some.is in
    let all = before.all in
    let first = read_at walks at c.index-first.result.now c.index-first.ensures (omega (arith, met, all)) in
    followed_joins w memory k c.args.start c.args.walks.now.items c.args.layout.now.valid searched.met walked walks all at
    (subst (IsFollowed w memory k c.args.start c.args.walks.now.items walks) c.in-Some.is (before.judged memory searched clear walked)) met
    (λ e. c.if-first-walk.false (sym first ∙ e)) (λ e. c.if-first-ne0.true (sym first ∙ e))

pub returns-clause-judged : goal.returns-clause-judged
returns-clause-judged c = λ memory searched clear walked.
    let before = c.loop-current.invariant in
    let w = c.args.layout.now.table in
    let k = c.args.search.now in
    let walks = c.loop-current.walks.items in
    followed_end w memory k c.args.start c.args.walks.now.items c.args.layout.now.valid searched.met walked walks before.all None
    (subst (IsFollowed w memory k c.args.start c.args.walks.now.items walks) (option_none c.loop-current.current c.in_default.not-Some) (before.judged memory searched clear walked)) tt
