use Rattle.std.proofs.Common.{◌≡◌, ◌<◌, length, sym, ap, ◌∙◌, arith, eqb-true}
use Rattle.std.specs.Prelude.{◌==◌, slice_index}
use Rattle.std.proofs.lemmas.Grind.{get_or_default_zero}
use Rattle.std.proofs.lemmas.List.{length-map}
use Rattle.std.proofs.lemmas.List.Quantifiers.{position-Some}
use Rattle.omi_audit.specs.Judged.{link_of}
use Rattle.omi_audit.specs.Search.{reached}
use Rattle.omi_audit.proofs.Chained.{next_index, link_at}
use Rattle.omi_audit.proofs.FirstOnes.{has}
use Rattle.omi_audit.proofs.chains.next_in_chain.Goals as goal

pub returns-clause-next : goal.returns-clause-next
returns-clause-next c = λ w words valid searched clear within.
    let keys = c.args.search.now.met.keys in
    let next = c.in_ok-next.field-0.now in
    let a = slice_index keys c.args.at in
    let long : length c.deref.result.now ≡ length keys =
    ap length (c.deref.ensures.value ∙ searched.links) ∙ length-map (reached w words) (link_of w words) ∙ ap length (sym searched.met) in
    let inside : c.args.at < length c.deref.result.now = omega (arith, long, within) in
    let link : next ≡ link_of w words a =
    c.in_ok-next.ensures.lookup.1 ∙ get_or_default_zero c.deref.result.now c.args.at next inside
    ∙ ap (λ l. slice_index l c.args.at) c.deref.ensures.value
    ∙ ap (λ l. slice_index l c.args.at) searched.links ∙ link_at w words keys c.args.at searched.met within in
    next_index w words valid keys c.args.at c.get_index_of.result searched.met clear within
    (c.get_index_of.ensures.found ∙ ap (has keys) link)
    (λ k is. (let there = position-Some (λ x. next == x) keys k 0 (sym c.get_index_of.ensures.index ∙ is) in sym (eqb-true next (slice_index keys k) there.1) ∙ link))
