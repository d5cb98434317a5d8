use Rattle.std.proofs.Common.{◌≡◌, ◌<◌, ◌+◌, ◌∙◌, ℕ, zero, suc, Some, take, length, slice_index, refl, sym, ap, arith, rules}
use Rattle.std.specs.Prelude.{slice_get, replicate}
use Rattle.std.specs.List.{flat_map}
use Rattle.std.proofs.Math.Seq.{take-length}
use Rattle.std.proofs.lemmas.Option.{slice_get-get_or}
use Rattle.omi_audit.specs.Search.{reached}
use Rattle.omi_audit.specs.Verdicts.{refused_chain}
use Rattle.omi_audit.proofs.JudgedPlaces.{refused_next, refused_first, judges_stop}
use Rattle.omi_audit.proofs.chains.judge_chains.Goals as goal

zeros : (n k : ℕ) → slice_index (replicate n 0) k ≡ 0
zeros zero zero = refl
zeros zero (suc k) = refl
zeros (suc n) zero = refl
zeros (suc n) (suc k) = zeros n k

pub loop-start-init : goal.loop-start-init
loop-start-init c =
    let none : (k : ℕ) → slice_index c.in_ok-walks.walks.items k ≡ 0 =
    λ k. ap (λ l. slice_index l k) (c.in_ok-walks.ensures.items_if_clones_equal (λ y e. e)) ∙ zeros c.len-count.result k in
    record {
      all = search rules;
      judged = λ memory searched clear. record {
        none = refl;
        known = record {
          few = λ k. (let z = none k in omega (arith, z));
          ends = λ k within some. absurd (some (none k));
        };
      };
    }

pub loop-start-preserved : goal.loop-start-preserved
loop-start-preserved c = record {
  all = c.in_ok-follow.ensures.all;
  judged = λ memory searched clear.
      let w = c.args.layout.now.table in
      let keys = c.args.search.now.met.keys in
      let k = c.loop-start.start in
      let a = slice_index keys k in
      let within : k < length keys = omega arith in
      let at : slice_get keys k ≡ Some a = slice_get-get_or keys k 0 within in
      let before = c.loop-start.invariant.judged memory searched clear in
      let now = c.in_ok-follow.ensures.judged memory searched clear before.known in
      let one : suc k ≡ k + 1 = omega arith in
      record {
        none = ap (λ n. flat_map (refused_chain w memory) (take n keys)) (sym one) ∙ refused_next (refused_chain w memory) keys k a at before.none ∙ now.none;
        known = now.known;
      };
}

pub returns-clause-judged : goal.returns-clause-judged
returns-clause-judged c = λ memory searched clear.
    let w = c.args.layout.now.table in
    let keys = c.args.search.now.met.keys in
    let end : c.loop-start.start ≡ length keys = omega arith in
    record {
      none = ap (flat_map (refused_chain w memory)) (sym searched.met ∙ sym (ap (λ n. take n keys) end ∙ take-length keys))
          ∙ (c.loop-start.invariant.judged memory searched clear).none;
      known = tt;
    }

pub returns-in_err-follow-clause-judged : goal.returns-in_err-follow-clause-judged
returns-in_err-follow-clause-judged c = λ memory searched clear.
    let w = c.args.layout.now.table in
    let keys = c.args.search.now.met.keys in
    let k = c.loop-start.start in
    let a = slice_index keys k in
    let within : k < length keys = omega arith in
    let at : slice_get keys k ≡ Some a = slice_get-get_or keys k 0 within in
    let stop = c.in_err-follow.field-0.0 in
    let before = c.loop-start.invariant.judged memory searched clear in
    let first = c.in_err-follow.ensures.judged memory searched clear before.known in
    judges_stop (flat_map (refused_chain w memory) (reached w memory)) (λ _. Unit {0}) c.from_residual-in_err-follow.result stop c.from_residual-in_err-follow.ensures.1
    (refused_first (refused_chain w memory) (reached w memory) k a (ap (λ l. slice_get l k) (sym searched.met) ∙ at) stop
    (ap (λ l. flat_map (refused_chain w memory) (take k l)) (sym searched.met) ∙ before.none) first)
