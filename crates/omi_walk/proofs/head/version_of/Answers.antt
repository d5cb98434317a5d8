use Rattle.omi_layout.specs.declared.field.Field.TheVariants.{RuntimeVersion}
use Rattle.omi_rep.specs.Records.{runtime_address}
use Rattle.omi_session.specs.Inquiry.{word_of}
use Rattle.std.proofs.Common.{None, refl}
use Rattle.omi_walk.specs.Fault.{walked}
use Rattle.omi_walk.proofs.Goes.{of_answers}
use Rattle.omi_walk.specs.AskWords.{ask_version}
use Rattle.omi_walk.proofs.head.version_of.Goals as goal

-- reads: what was asked

pub returns-clause-reads : goal.returns-clause-reads
unfolding ask_version
returns-clause-reads g c =
    of_answers g.C.Callbacks.told g.C.Callbacks.asked c.args.s.now _ c.get_omp_version-answer.result _
    (walked None) (word_of c.args.s.now.layout (runtime_address c.args.s.now.layout) RuntimeVersion 0)
    refl c.walked_from.ensures c.get_omp_version-answer.ensures.answer
