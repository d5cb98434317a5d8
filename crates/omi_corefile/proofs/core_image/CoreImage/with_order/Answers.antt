use Rattle.omi_corefile.proofs.FileLaws.{within_again}
use Rattle.omi_corefile.proofs.core_image.CoreImage.with_order.Goals as goal

pub invariant_of-result : goal.invariant_of-result
invariant_of-result c = record { limits = within_again c.args.self c.args.order c.requires }
