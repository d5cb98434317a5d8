use Rattle.omi_rewind.proofs.Stays.{image_kept, on_err_any}
use Rattle.omi_rewind.proofs.rewind.Rewind.to.Goals as goal

pub returns-in_err-make_until-clause-image : goal.returns-in_err-make_until-clause-image
returns-in_err-make_until-clause-image c =
    on_err_any _ _
    (image_kept c.args.self.now c.make_until.new.self c.make_until.ensures.later c.make_until.ensures.at c.made-made.ensures.run.within)

pub returns-in_err-image-clause-image : goal.returns-in_err-image-clause-image
returns-in_err-image-clause-image c =
    on_err_any _ _
    (image_kept c.args.self.now c.make_until.new.self c.make_until.ensures.later c.make_until.ensures.at c.made-made.ensures.run.within)
