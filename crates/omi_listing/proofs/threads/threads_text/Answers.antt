use Rattle.omi_listing.proofs.ThreadCells.{eight}
use Rattle.omi_listing.proofs.threads.threads_text.Goals as goal

pub table_text-requires : goal.table_text-requires
table_text-requires c = rw (c.in_ok-table.ensures) (eight c.args.view.now)
