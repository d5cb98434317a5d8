use Rattle.omi_audit.proofs.Reaches.{search_is_whole, search_is_breadth_first}
use Rattle.omi_audit.proofs.laws.search_reaches.Goals as goal

pub returns : goal.returns
returns c = record { whole = search_is_whole; breadth_first = search_is_breadth_first }
