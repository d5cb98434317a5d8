-- The current record is one that was met, and the walk came to no place twice. Each turn leaves fewer records that no walk came to.
use Rattle.std.proofs.Common.{◌≡◌, ◌<◌, length, IfSome}
use Rattle.std.specs.Prelude.{sum_by}
use Rattle.indexmap.specs.IndexSet.{index_set_len}
use Rattle.omi_word.specs.Words.{Words}
use Rattle.omi_audit.specs.Judged.{IsSearched, AreClear, HasWalked}
use Rattle.omi_audit.proofs.Followed.{IsFollowed, unwalked}
use Rattle.omi_audit.proofs.chains.follow.Given as goal

abbrev pub invariant-loop-current : goal.invariant-loop-current
invariant-loop-current l =
    record {
      met : IfSome l.current (λ at. at < index_set_len l.search.met);
      all : length l.walks.items ≡ index_set_len l.search.met;
      judged : (memory : Words) → IsSearched l.layout.table memory l.search → AreClear l.layout.table memory
          → HasWalked l.layout.table memory l.start l.search l.initial.walks.items
          → IsFollowed l.layout.table memory l.search l.start l.initial.walks.items l.walks.items l.current;
    }

abbrev pub decreases-loop-current : goal.decreases-loop-current
decreases-loop-current l = sum_by unwalked l.walks.items
