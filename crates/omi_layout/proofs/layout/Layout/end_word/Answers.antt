use Rattle.omi_layout.proofs.Arenas.{few_of_valid, small}
use Rattle.omi_layout.proofs.layout.Layout.end_word.Goals as goal

pub extent-requires-clause-few : goal.extent-requires-clause-few
extent-requires-clause-few c = few_of_valid c.args.self.now.table c.args.self.now.valid c.args.p c.requires

pub extent-requires-clause-small : goal.extent-requires-clause-small
extent-requires-clause-small c = small c.args.self.now.table c.args.self.now.valid.inside c.args.p c.requires
