use Rattle.std.proofs.Common.{◌≡◌, suc, drop, rules, ◌+◌, ◌-◌, ◌*◌, arith, refl, sym, ap, ◌∙◌}
use Rattle.std.proofs.lemmas.Bool.{ltb-false}
use Rattle.omi_read.specs.Holding.{Holds}
use Rattle.omi_page.specs.Spans.{place_in}
use Rattle.omi_page.proofs.InOrder.{none_below, none_from, none_to}
use Rattle.omi_page.proofs.Placing.{page_more}
use Rattle.omi_page.proofs.loading.load.Goals as goal

pub loop-left-preserved : goal.loop-left-preserved
loop-left-preserved g c = record {
  so_far = λ bytes told offset at aligned within there.
      let now : Holds (g.F.Files.told c.loop-left.files c.args.name.now) bytes =
      ap (λ t. t c.args.name.now) c.loop-left.invariant.same ∙ told in
      page_more c.args.spans.now (c.loop-left.left - 1) c.loop-left.left c.get-in-loop-left.result.now
      (c.args.page * 4096 + offset) at offset c.load_part.new.buffer c.loop-left.buffer bytes
      (omega arith) c.get-in-loop-left.ensures
      (λ p here. c.in_ok-load_part.ensures.here bytes now offset p aligned within here)
      (λ none. c.in_ok-load_part.ensures.others offset aligned within none)
      (λ p later. c.loop-left.invariant.so_far bytes told offset p aligned within later) there;
  long = search rules;
  within = omega arith;
  same = search rules;
  later = omega arith;
  writes = search rules;
}

pub loop-left-init : goal.loop-left-init
loop-left-init g c = record {
  so_far = λ bytes told offset at aligned within there.
      let none = none_from c.args.spans.now c.started-left.result (c.args.page * 4096 + offset)
      (λ k s le is. none_below s (c.args.page * 4096 + offset) (omega (arith, c.started-left.ensures.behind k s le is, within))) in
      absurd (let both = sym none ∙ there in cc);
  long = refl;
  within = c.started-left.ensures.few;
  same = refl;
  later = omega arith;
  writes = refl;
}

pub returns-else-ends_behind-clause-page : goal.returns-else-ends_behind-clause-page
returns-else-ends_behind-clause-page g c = λ bytes told offset at aligned within there.
    let spans = c.args.spans.now in
    let addr = c.args.page * 4096 + offset in
    let here : 4096 * c.args.page + offset ≡ addr = omega arith in
    let next : suc (c.loop-left.left - 1) ≡ c.loop-left.left = omega (arith, c.loop-left-test.true) in
    let ended = ltb-false (c.args.page * 4096) (c.get.result.now.start + 8 * c.get.result.now.count) (sym c.ends_behind.ensures ∙ c.if-ends_behind.false) in
    let later = none_to spans (c.loop-left.left - 1) c.get.result.now addr c.requires.ordered c.get.ensures (omega (arith, ended)) in
    c.loop-left.invariant.so_far bytes told offset at aligned within
    (ap (λ k. place_in (drop k spans) addr) (sym next) ∙ sym later ∙ ap (place_in spans) (sym here) ∙ there)
