use Rattle.std.proofs.Common.{◌≡◌, Ok, length, ap, ◌∙◌, arith}
use Rattle.std.proofs.lemmas.Result.{err_from_is_err_and}
use Rattle.std.proofs.lemmas.List.Elements.{All-same}
use Rattle.omi_corefile.specs.declared.core_image.CoreImage.{CoreImage}
use Rattle.omi_elf.specs.ElfParts.{segments_in}
use Rattle.omi_elf.specs.Found.{FitsIn}
use Rattle.omi_elf.specs.Gathered.{gathered}
use Rattle.omi_elf.proofs.FileLaws.{limits_kept, word_spelled, spelled_word, core_read, error_at_core}
use Rattle.omi_elf.proofs.decoding.decode_elf.Goals as goal

pub returns-in_err-order-clause-accepts : goal.returns-in_err-order-clause-accepts
returns-in_err-order-clause-accepts c = λ core is_core.
    let p = err_from_is_err_and c.from_residual.result c.from_residual.ensures.1 in
    rw (p.1, p.2)
    (error_at_core c.in_err-order.field-0.0 c.args.bytes.now core _ c.in_err-order.ensures.rows is_core)

pub gathered-requires-clause-readable : goal.gathered-requires-clause-readable
gathered-requires-clause-readable c =
    let fit = All-same (FitsIn (length c.args.bytes.now)) c.deref.result.now c.in_ok-order.field-0.segments.items c.deref.ensures.value c.in_ok-order.ensures.fit in
    λ k d lt. record { within = (fit k d lt).within }

pub gathered-requires-clause-bounded : goal.gathered-requires-clause-bounded
gathered-requires-clause-bounded c =
    let fit = All-same (FitsIn (length c.args.bytes.now)) c.deref.result.now c.in_ok-order.field-0.segments.items c.deref.ensures.value c.in_ok-order.ensures.fit in
    λ k d lt. let h = fit k d lt in record { few = omega (arith, h.few); low = h.low }

pub invariant_of-result : goal.invariant_of-result
invariant_of-result c =
    let bytes = c.args.bytes.now in
    let segments : c.in_ok-segments.segments ≡ segments_in bytes =
    c.in_ok-segments.ensures ∙ (λ i. gathered (c.in_ok-order.ensures.order i) bytes ((c.deref.ensures.value ∙ c.in_ok-order.ensures.segments) i)) in
    record {
      limits = rw (c.in_ok-order.ensures.order, c.in_ok-order.ensures.contexts, segments)
          (limits_kept bytes (λ k. omega (arith, c.type_inv.bytes k)) c.in_ok-order.ensures.rows);
    }

pub returns-clause-core : goal.returns-clause-core
returns-clause-core c =
    let bytes = c.args.bytes.now in
    let segments : c.in_ok-segments.segments ≡ segments_in bytes =
    c.in_ok-segments.ensures ∙ (λ i. gathered (c.in_ok-order.ensures.order i) bytes ((c.deref.ensures.value ∙ c.in_ok-order.ensures.segments) i)) in
    record {
      faultless = c.in_ok-order.ensures.rows;
      order = c.in_ok-order.ensures.order;
      contexts_are = c.in_ok-order.ensures.contexts;
      words = λ a w. rw segments (word_spelled bytes a w, spelled_word bytes a w);
    }

pub returns-clause-accepts : goal.returns-clause-accepts
returns-clause-accepts c = λ core is_core.
    let bytes = c.args.bytes.now in
    let segments : c.in_ok-segments.segments ≡ segments_in bytes =
    c.in_ok-segments.ensures ∙ (λ i. gathered (c.in_ok-order.ensures.order i) bytes ((c.deref.ensures.value ∙ c.in_ok-order.ensures.segments) i)) in
    ap (λ (x : CoreImage). Ok x)
    (core_read bytes core _ _ _ _ (λ k. omega (arith, c.type_inv.bytes k)) is_core c.in_ok-order.ensures.order c.in_ok-order.ensures.contexts segments)
