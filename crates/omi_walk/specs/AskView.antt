-- The whole walk, as what it asks: the header, the row of each context, the regions of the threads that were found in the order of
-- names, and the chain of each of these threads.
use Rattle.std.specs.Prelude.{ℕ, List, Ok}
use Rattle.std.specs.List.{flat_map}
use Rattle.omi_model.specs.declared.view.View.{View}
use Rattle.omi_session.specs.Reads.{Answer, then_reads}
use Rattle.omi_walk.specs.Asking.{Asks, ask_each}
use Rattle.omi_walk.specs.AskWords.{ask_head}
use Rattle.omi_walk.specs.AskThreads.{ask_threads}
use Rattle.omi_walk.specs.AskRegions.{ask_regions, ask_rows}
use Rattle.omi_walk.specs.AskTasks.{ask_all_tasks}

unfoldable pub ask_view : List ℕ → List ℕ → Asks View
ask_view w contexts =
    then_reads (ask_head w) (λ head.
    then_reads (ask_threads w contexts) (λ seen.
    then_reads (ask_each (ask_regions w) seen.found) (λ met.
    then_reads (ask_rows w (flat_map (λ chain. chain) met)) (λ regions.
    then_reads (ask_all_tasks w seen.found) (λ tasks.
    Answer (Ok (record {
      head = head;
      threads = seen.rows;
      regions = regions;
      tasks = tasks;
    })))))))
