use Rattle.std.proofs.Common.{ap, ◌∙◌}
use Rattle.omi_page.proofs.Symbols.{five_are}
use Rattle.omi_page.proofs.pages.Pages.five_words.Goals as goal

pub returns-clause-words : goal.returns-clause-words
returns-clause-words g c = λ words rest told.
    let second = ap (λ t. t.words rest) c.in_ok-first.ensures.same ∙ told in
    let third = ap (λ t. t.words rest) c.in_ok-second.ensures.same ∙ second in
    let fourth = ap (λ t. t.words rest) c.in_ok-third.ensures.same ∙ third in
    let fifth = ap (λ t. t.words rest) c.in_ok-fourth.ensures.same ∙ fourth in
    c.all_of.ensures
    ∙ five_are words c.args.at c.in_ok-first.first c.in_ok-second.second c.in_ok-third.third c.in_ok-fourth.fourth c.in_ok-fifth.fifth
    (c.in_ok-first.ensures.word words rest told) (c.in_ok-second.ensures.word words rest second)
    (c.in_ok-third.ensures.word words rest third) (c.in_ok-fourth.ensures.word words rest fourth)
    (c.in_ok-fifth.ensures.word words rest fifth)
