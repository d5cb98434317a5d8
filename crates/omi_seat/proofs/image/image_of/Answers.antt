use Rattle.std.proofs.Common.{◌≡◌, ℕ, List, length, slice_index, slice_set, sym, ap, ◌∙◌, arith}
use Rattle.std.proofs.lemmas.List.{length-set}
use Rattle.std.specs.Mem.Slots.{slots_items}
use Rattle.omi_word.proofs.Addresses.{place-address}
use Rattle.omi_seat.proofs.Lists.{copied, front_is, word_is}
use Rattle.omi_seat.proofs.image.image_of.Goals as goal

pub loop-at-preserved : goal.loop-at-preserved
loop-at-preserved c =
    let now = c.loop-at.invariant in
    let below = c.loop-at-test.true in
    let count = c.len-count.ensures in
    let long = now.long in
    let there : c.apply.new.self ≡ slice_set c.loop-at.image c.loop-at.at c.word.result =
    c.apply.ensures.after ∙ ap (λ k. slice_set c.loop-at.image k c.word.result) (place-address c.loop-at.at) in
    record {
      long = ap length there ∙ length-set c.loop-at.image c.loop-at.at c.word.result ∙ long;
      same = λ k within. ap (λ (ws : List ℕ). slice_index ws k) there
          ∙ copied c.loop-at.image (slots_items c.args.closed.now.words) c.loop-at.at c.word.result (omega (arith, below, count, long)) (sym (word_is (slots_items c.args.closed.now.words) c.loop-at.at c.word.result c.word.ensures)) now.same k within;
    }

pub returns : goal.returns
returns c words others is as_long =
    let now = c.loop-at.invariant in
    let end = c.loop-at-test.false in
    let most = c.loop-at.auto.at-end in
    let count = c.len-count.ensures in
    let long = now.long in
    front_is c.loop-at.image words others (slots_items c.args.closed.now.words) is (as_long ∙ sym long)
    (λ k below. now.same k (omega (arith, below, end, count, long)))
