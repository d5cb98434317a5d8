-- A task in the hand stays there while the thread goes on from counter to counter, and no other thread has it.
use Rattle.std.proofs.Common.{◌≡◌, ◌≢◌, ◌<◌, ℕ, List, Some, ap, ◌∙◌, arith}
use Rattle.omi_script.specs.declared.program.Program.{Program}
use Rattle.omi_model.specs.declared.event.Event.{Event}
use Rattle.omi_model.specs.declared.id.Tid.{Tid}
use Rattle.omi_model.specs.declared.task.Task.{Task}
use Rattle.omi_model.specs.State.{State}
use Rattle.omi_layout.specs.Memory.{Memory}
use Rattle.omi_pc.specs.declared.actor.Actor.{Actor}
use Rattle.omi_pc.specs.declared.counter.Counter.{Counter}
use Rattle.omi_pc.specs.declared.frame.Wait.{Wait}
use Rattle.omi_pc.specs.declared.frame.Wait.TheVariants as wait
use Rattle.omi_rule_words.specs.Counts.{is_some_task, one, start_owed}
use Rattle.omi_rule_words.specs.ExplicitKinds.{IsDeferred}
use Rattle.omi_rule_words.specs.Owes.{all_owed, owed}
use Rattle.omi_rule_words.proofs.OtherCounts.{is_own_id}
use Rattle.omi_rule_words.proofs.Sums.{parts_below}
use Rattle.omi_rule.specs.Rows.{IsInHand, MayStartIn}
use Rattle.omi_rule.specs.Rule.{Rule}
use Rattle.omi_rule.proofs.barrier.AtCounter.{at_counter}

still_may : (a : Actor) (x : Counter) (v : Wait) (t : Task) → MayStartIn v a t
    → MayStartIn v (at_counter x a) t
still_may a x (wait.Barrier b) t may = tt
still_may a x wait.Taskwait t may = may
still_may a x wait.Taskyield t may = may
still_may a x wait.Taskgroup t may = may

-- at another counter more may be known of it
pub hand_at : (s : State) (a : Actor) (x : Counter) (v : Wait) (k : Tid) (known more : Task → Type 0) (o : IsInHand s a v k known)
    → more o.task → IsInHand s (at_counter x a) v k more
hand_at s a x v k known more o is = record { task = o.task; is = o.is; region = o.region; may = still_may a x v o.task o.may; knows = is }

-- a deferred task is in one hand
pub one_hand : (p : Program) (w : List ℕ) (m : Memory) (events : List (ℕ × Event)) (s : State) (actors : ℕ → Actor)
    → Rule p w m events s actors → (i j : ℕ) → i < s.count → j < s.count → j ≢ i → (k : Tid) (t : Task)
    → IsDeferred s k t
    → (owed (actors i)).hand ≡ Some k → (owed (actors j)).hand ≡ Some k → ⊥
one_hand p w m events s actors rule i j known there other k t is mine its =
    let once = rule.words.deferred.once k t is.live is.progress in
    let parts = parts_below s.count i j (λ x. start_owed k (all_owed actors x)) known there other in
    let first : start_owed k (all_owed actors i) ≡ 1 =
    ap (λ o. one (is_some_task k o)) mine ∙ ap one (is_own_id k.0) in
    let second : start_owed k (all_owed actors j) ≡ 1 =
    ap (λ o. one (is_some_task k o)) its ∙ ap one (is_own_id k.0) in
    omega (arith, once, parts, first, second)
