use Rattle.std.proofs.Common.{◌≡◌, leb, true, false, rules, sym, ap, subst, ◌∙◌, arith}
use Rattle.std.specs.Prelude.{slice_get}
use Rattle.std.proofs.lemmas.Bool.{leb-true, leb-false}
use Rattle.std.proofs.lemmas.List.Sorted.{IsPartitionPoint-from_clause, IsPartitionedBy-leb}
use Rattle.std.proofs.lemmas.Option.{get_or_from_slice_get, slice_get_within}
use Rattle.omi_page.specs.Bounds.{AreInOrder}
use Rattle.omi_page.specs.declared.span.Span.{Span}
use Rattle.omi_page.proofs.InOrder.{rising}
use Rattle.omi_page.proofs.loading.started.Goals as goal

pub returns-clause-before : goal.returns-clause-before
returns-clause-before c =
    let parted = IsPartitionedBy-leb (λ (s : Span). s.start) _ c.args.addr (rising _ (subst AreInOrder (sym c.as_slice.ensures) c.requires)) in
    let point = IsPartitionPoint-from_clause (λ (s : Span). leb s.start c.args.addr) _ _ c.partition_point.ensures.partitioned parted (λ a r q k. search rules) in
    λ k s lt is.
    let here = get_or_from_slice_get _ k s s (ap (λ l. slice_get l k) c.as_slice.ensures ∙ is) in
    leb-true s.start c.args.addr (subst (λ (y : Span). leb y.start c.args.addr ≡ true) here (point.0 k s (omega arith) lt))

pub returns-clause-behind : goal.returns-clause-behind
returns-clause-behind c =
    let parted = IsPartitionedBy-leb (λ (s : Span). s.start) _ c.args.addr (rising _ (subst AreInOrder (sym c.as_slice.ensures) c.requires)) in
    let point = IsPartitionPoint-from_clause (λ (s : Span). leb s.start c.args.addr) _ _ c.partition_point.ensures.partitioned parted (λ a r q k. search rules) in
    λ k s le is.
    let there = ap (λ l. slice_get l k) c.as_slice.ensures ∙ is in
    let here = get_or_from_slice_get _ k s s there in
    leb-false s.start c.args.addr (subst (λ (y : Span). leb y.start c.args.addr ≡ false) here (point.1 k s le (slice_get_within _ k s there)))
