use Rattle.std.proofs.Common.{◌≡◌, ◌-◌, ◌<◌, ℕ, List, refl, subst, arith}
use Rattle.std.specs.List.{range_with_len}
use Rattle.omi_session.specs.Made.{region_pair}
use Rattle.omi_walk.proofs.Steps.{leaves_same, next_range, leaves_then, no_more}
use Rattle.omi_walk.proofs.EachAsked.{EachGoes, asks_begin, asks_next, asks_stop, asks_end}
use Rattle.omi_walk.proofs.Goes.{goes_unsaid}
use Rattle.omi_walk.specs.AskRegions.{ask_member}
use Rattle.omi_walk.proofs.members.members.Goals as goal

pub loop-num-init : goal.loop-num-init
loop-num-init g c = record {
  leaves = leaves_same g.C.Callbacks.told _ c.args.s.now;
  later = omega arith;
  bound = refl;
  goes =
      let all : c.args.size - 0 ≡ c.args.size = omega arith in
      rw (c.new-rows.ensures, all) (asks_begin g.C.Callbacks.told g.C.Callbacks.asked c.args.s.now (region_pair c.args.r) (λ w k num. ask_member w k num) (range_with_len 0 c.args.size));
}

pub loop-num-preserved : goal.loop-num-preserved
loop-num-preserved g c = record {
  leaves = leaves_then g.C.Callbacks.told _ _ _ _ _ _ (omega arith) c.loop-num.invariant.leaves c.member.ensures.leaves;
  later = omega (arith, c.loop-num.invariant.later, c.member.ensures.cause.later);
  bound = c.loop-num.invariant.bound;
  goes =
      let pair = region_pair c.args.r in
      let below : c.loop-num.num < c.args.size =
      omega (arith, c.loop-num.invariant.bound, c.loop-num-test.true) in
      let so = subst (λ left. EachGoes g.C.Callbacks.told g.C.Callbacks.asked c.args.s.now pair (λ w k num. ask_member w k num) (range_with_len 0 c.args.size) c.loop-num.s c.loop-num.rows left)
      (next_range c.loop-num.num c.args.size below) c.loop-num.invariant.goes in
      rw c.in_ok-push.ensures.added (asks_next g.C.Callbacks.told g.C.Callbacks.asked c.args.s.now pair (λ w k num. ask_member w k num) (range_with_len 0 c.args.size) c.loop-num.s c.member.new.s c.loop-num.rows
      _ c.loop-num.num _ c.in_ok-row.row so c.member.ensures.leaves c.in_ok-row.ensures.reads);
}

-- reads: what was asked

pub returns-in_err-row-clause-reads : goal.returns-in_err-row-clause-reads
returns-in_err-row-clause-reads g c =
    let told = g.C.Callbacks.told in
    let asked = g.C.Callbacks.asked in
    let s = c.args.s.now in
    let pair = region_pair c.args.r in
    let so = subst (λ left. EachGoes told asked s pair (λ w k num. ask_member w k num) (range_with_len 0 c.args.size) c.loop-num.s c.loop-num.rows left)
    (next_range c.loop-num.num c.args.size (omega (arith, c.loop-num.invariant.bound, c.loop-num-test.true))) c.loop-num.invariant.goes in
    asks_stop told asked s pair (λ w k num. ask_member w k num)
    (range_with_len 0 c.args.size) c.loop-num.s c.member.new.s c.loop-num.rows c.loop-num.num _ c.in_err-row.field-0.0 _ so c.in_err-row.ensures.reads c.from_residual.ensures.1

pub returns-in_err-push-clause-reads : goal.returns-in_err-push-clause-reads
returns-in_err-push-clause-reads g c =
    let told = g.C.Callbacks.told in
    let asked = g.C.Callbacks.asked in
    let s = c.args.s.now in
    let pair = region_pair c.args.r in
    let so = subst (λ left. EachGoes told asked s pair (λ w k num. ask_member w k num) (range_with_len 0 c.args.size) c.loop-num.s c.loop-num.rows left)
    (next_range c.loop-num.num c.args.size (omega (arith, c.loop-num.invariant.bound, c.loop-num-test.true))) c.loop-num.invariant.goes in
    goes_unsaid told asked s c.member.new.s _ _ _
    (asks_next told asked s pair (λ w k num. ask_member w k num) (range_with_len 0 c.args.size) c.loop-num.s c.member.new.s c.loop-num.rows _ c.loop-num.num _ c.in_ok-row.row so c.member.ensures.leaves c.in_ok-row.ensures.reads)
    c.from_residual-in_err-push.ensures.1

pub returns-clause-reads : goal.returns-clause-reads
returns-clause-reads g c =
    let told = g.C.Callbacks.told in
    let asked = g.C.Callbacks.asked in
    let s = c.args.s.now in
    let pair = region_pair c.args.r in
    asks_end told asked s pair (λ w k num. ask_member w k num)
    (range_with_len 0 c.args.size) c.loop-num.s c.loop-num.rows
    (subst (λ (left : List ℕ). EachGoes told asked s pair (λ w k num. ask_member w k num) (range_with_len 0 c.args.size) c.loop-num.s c.loop-num.rows left)
    (no_more c.loop-num.num c.args.size (omega (arith, c.loop-num.invariant.bound, c.loop-num-test.false))) c.loop-num.invariant.goes)
