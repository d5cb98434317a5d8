use Rattle.omi_corefile.proofs.ImageCores.{image_core}
use Rattle.omi_corefile.proofs.making.image_makes_a_core.Goals as goal

pub returns : goal.returns
returns c = λ some.
    image_core c.args.contexts.now c.args.image.now c.requires.rising c.requires.count c.numbers_fit.ensures c.words_fit.ensures.fit c.words_fit.ensures.few some
