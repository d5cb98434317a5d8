-- The chains so far end, and so do those of all records that a walk came to.
use Rattle.std.proofs.Common.{◌≡◌, take, length}
use Rattle.std.specs.List.{flat_map}
use Rattle.indexmap.specs.IndexSet.{index_set_len}
use Rattle.omi_word.specs.Words.{Words}
use Rattle.omi_audit.specs.Judged.{IsFine, IsSearched, AreClear, HasWalked}
use Rattle.omi_audit.specs.Verdicts.{refused_chain}
use Rattle.omi_audit.proofs.chains.judge_chains.Given as goal

abbrev pub invariant-loop-start : goal.invariant-loop-start
invariant-loop-start l =
    record {
      all : length l.walks.items ≡ index_set_len l.search.met;
      judged : (memory : Words) → IsSearched l.layout.table memory l.search → AreClear l.layout.table memory
          → IsFine (flat_map (refused_chain l.layout.table memory) (take l.start l.search.met.keys))
          (HasWalked l.layout.table memory l.start l.search l.walks.items);
    }
