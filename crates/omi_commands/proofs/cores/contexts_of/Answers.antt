use Rattle.std.proofs.Common.{◌++◌, ◌∷◌, [], ℕ, List, ap, ◌∙◌}
use Rattle.omi_commands.specs.Cores.{thread_ids}
use Rattle.omi_commands.proofs.ThreadIds.{one_more}
use Rattle.omi_commands.proofs.cores.contexts_of.Goals as goal

pub loop-thread-preserved : goal.loop-thread-preserved
loop-thread-preserved c =
    c.in_ok-push.ensures.added
    ∙ ap (λ (ids : List ℕ). ids ++ c.native_id.result ∷ []) c.loop-thread.invariant
    ∙ ap (λ n. thread_ids c.loop-thread.thread ++ n ∷ []) c.native_id.ensures
    ∙ one_more c.loop-thread.thread
