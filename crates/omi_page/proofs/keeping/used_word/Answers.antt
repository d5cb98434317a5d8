use Rattle.std.proofs.Common.{Contains, ap, ◌∙◌, arith, length, nat_eq, subst, sym}
use Rattle.lru.proofs.CallerLemmas.{Contains-promoted}
use Rattle.omi_page.specs.Spans.{eight_at}
use Rattle.omi_page.proofs.KeptPages.{looked_up}
use Rattle.omi_page.proofs.keeping.used_word.Goals as goal

pub returns-in_err-items-clause-others : goal.returns-in_err-items-clause-others
returns-in_err-items-clause-others c = λ other items contained.
    Contains-promoted (nat_eq c.args.page) c.args.kept.now.entries (other, items)
    (subst (λ k. Contains k.entries (other, items)) c.get.follows.holds-at-none contained)

pub word_of-requires : goal.word_of-requires
word_of-requires c =
    let found =
    looked_up c.args.kept.now.entries c.args.page c.in_ok-items.items.now (sym c.in_ok-items.ensures.value) in
    let long = c.requires.long c.args.page c.in_ok-items.items.now found in
    omega (arith, long, ap length c.deref.ensures.value, c.requires.within)

pub returns-clause-word : goal.returns-clause-word
returns-clause-word c = (
  c.in_ok-items.items.now,
  looked_up c.args.kept.now.entries c.args.page c.in_ok-items.items.now (sym c.in_ok-items.ensures.value),
  c.word_of.ensures ∙ ap (λ items. eight_at items c.args.offset) c.deref.ensures.value,
)

pub returns-clause-others : goal.returns-clause-others
returns-clause-others c = λ other items contained.
    Contains-promoted (nat_eq c.args.page) c.args.kept.now.entries (other, items)
    (subst (λ k. Contains k.entries (other, items)) c.get.follows.holds-at-none contained)

pub returns-in_err-items-clause-places : goal.returns-in_err-items-clause-places
returns-in_err-items-clause-places c = ap (λ k. k.cap) c.get.follows.holds-at-none

pub returns-clause-places : goal.returns-clause-places
returns-clause-places c = ap (λ k. k.cap) c.get.follows.holds-at-none
