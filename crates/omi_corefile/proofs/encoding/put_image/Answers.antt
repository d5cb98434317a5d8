use Rattle.std.proofs.Common.{◌≡◌, ◌+◌, ◌*◌, ℕ, Option, length, subst, ap, ◌∙◌, arith}
use Rattle.std.specs.Prelude.{◌<◌, IfSome, slice_index}
use Rattle.omi_word.specs.declared.limits.TheConstants.{FIRST_ADDRESS}
use Rattle.omi_word.specs.Memory.{place_of, word_at}
use Rattle.omi_corefile.specs.ByteOrder.{word_bytes}
use Rattle.omi_corefile.proofs.Lists.{flat_map_part_further}
use Rattle.omi_corefile.proofs.encoding.put_image.Goals as goal

pub loop-at-preserved : goal.loop-at-preserved
loop-at-preserved c =
    let inside : c.loop-at.at < length c.args.image.now = omega arith in
    let place : place_of (FIRST_ADDRESS + 8 * c.loop-at.at) ≡ c.loop-at.at = omega arith in
    let read : c.unwrap-word.result ≡ word_at c.args.image.now (FIRST_ADDRESS + 8 * c.loop-at.at) =
    subst (λ (r : Option ℕ). IfSome r (λ (w : ℕ). w ≡ word_at c.args.image.now (FIRST_ADDRESS + 8 * c.loop-at.at))) c.unwrap-word.ensures c.get.ensures.value in
    let word : c.unwrap-word.result ≡ slice_index c.args.image.now c.loop-at.at =
    read ∙ ap (λ (k : ℕ). slice_index c.args.image.now k) place in
    record {
      within = omega arith;
      so_far =
          rw (c.in_ok-extend_from_slice.ensures.items, c.loop-at.invariant.so_far, c.word_bytes.ensures.bytes, word)
          (flat_map_part_further (word_bytes 0) c.args.out.now.items c.args.image.now c.args.from c.loop-at.at c.loop-at.invariant.within inside);
    }
