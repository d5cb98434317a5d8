use Rattle.std.proofs.Common.{◌≡◌, ◌+◌, ◌-◌, ◌*◌, sym, ap, ◌∙◌, subst, arith}
use Rattle.omi_calls.specs.Told.{aligned_word_at}
use Rattle.omi_word.proofs.Symbols.{Reads, unmapped_table, reads_more, not_mapped, looked_up}
use Rattle.omi_page.proofs.Borrowing.{stays_then}
use Rattle.omi_page.proofs.pages.Pages.symbol.Goals as goal

pub returns-in_default-2-clause-symbol : goal.returns-in_default-2-clause-symbol
returns-in_default-2-clause-symbol g c = λ words rest told.
    let now = ap (λ t. t.words rest) c.loop-left.invariant.same ∙ told in
    not_mapped (aligned_word_at words) c.args.name.now c.in-Some.count
    (sym (c.in_ok-count.ensures.word words rest told) ∙ c.in-Some.is) c.if-count-gt-MOST_SYMBOLS.false
    (unmapped_table (aligned_word_at words) 65544 (65544 + 40 * (c.loop-left.left - 1)) (c.loop-left.left - 1) c.in-Some.count (omega arith) (omega arith) (sym (c.in_ok-words.ensures.words words rest now) ∙ c.in_default-2.is))

pub loop-left-preserved : goal.loop-left-preserved
loop-left-preserved g c = record {
  within = omega arith;
  read = λ words rest told.
      let now = ap (λ t. t.words rest) c.loop-left.invariant.same ∙ told in
      reads_more (aligned_word_at words) c.args.name.now c.in-Some-2.words
      (65544 + 40 * (c.loop-left.left - 1)) (65544 + 40 * c.loop-left.left)
      (c.in-Some.count - c.loop-left.left) (c.in-Some.count - (c.loop-left.left - 1)) c.loop-left.found _
      (sym (c.in_ok-words.ensures.words words rest now) ∙ c.in-Some-2.is) (omega arith) (omega arith) (c.loop-left.invariant.read words rest told) c.found_with-found.ensures;
  same = c.in_ok-words.ensures.same ∙ c.loop-left.invariant.same;
  stays = stays_then _ _ _ c.loop-left.invariant.stays c.in_ok-words.ensures.stays;
  later = omega arith;
}

pub returns-clause-symbol : goal.returns-clause-symbol
returns-clause-symbol g c = λ words rest told.
    let first : 65544 + 40 * c.loop-left.left ≡ 65544 = omega arith in
    let all : c.in-Some.count - c.loop-left.left ≡ c.in-Some.count = omega arith in
    looked_up (aligned_word_at words) c.args.name.now c.in-Some.count c.loop-left.found
    (sym (c.in_ok-count.ensures.word words rest told) ∙ c.in-Some.is) c.if-count-gt-MOST_SYMBOLS.false
    (subst (λ n. Reads (aligned_word_at words) c.args.name.now 65544 n c.loop-left.found) all
    (subst (λ at. Reads (aligned_word_at words) c.args.name.now at (c.in-Some.count - c.loop-left.left) c.loop-left.found) first (c.loop-left.invariant.read words rest told)))
