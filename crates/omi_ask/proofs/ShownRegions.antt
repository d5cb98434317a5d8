-- Over words that show a state, the inquiries that find a region answer what the state does.
use Rattle.std.proofs.Common.{◌≡◌, ℕ, List, Option, Some, None, refl, sym, ap, ◌∙◌}
use Rattle.std.specs.Option.{option_map, option_and_then, ok_or}
use Rattle.omi_calls.specs.Told.{Told}
use Rattle.omi_handle.specs.declared.handle.Kind.TheVariants as kind
use Rattle.omi_handle.specs.declared.handle.Held.{Held}
use Rattle.omi_layout.specs.declared.field.Field.TheVariants.{RegionEnclosing, TaskRegion}
use Rattle.omi_model.specs.declared.id.Tid.{Tid}
use Rattle.omi_model.specs.declared.task.Task.{Task}
use Rattle.omi_model.specs.State.{State, task_of}
use Rattle.omi_model.specs.Visible.{IsVisibleTask}
use Rattle.omi_rep.specs.Records.{region_address}
use Rattle.omi_session.specs.declared.rc.Rc.TheVariants.{Unavailable}
use Rattle.omi_session.specs.Inquiry.{object_of, follow, current_task}
use Rattle.omi_session.specs.Reads.{answer_on, then_reads}
use Rattle.omi_session.specs.Answers as answer
use Rattle.omi_session.specs.Shown.{ShowsTold, HoldsThread, HoldsRegion, HoldsTask, held_region, held_task, as_held}
use Rattle.omi_session.proofs.ShownParts.{then_answered, then_refused}
use Rattle.omi_session.proofs.ShownAnswers.{region_object, task_object, some_region, task_region, thread_task}
use Rattle.omi_ask.specs.Regions.{current_region, enclosing_region, region_of_task}

module _ (told : Told) (w : List ℕ) (s : State) (shown : ShowsTold told w s) (found : Option Held) where
  pub region_of_task_told : (t : HoldsTask w s found)
      → answer_on shown.memory (region_of_task w found) ≡ as_held (held_region w) (answer.region_of_task t.seen.task)
  unfolding region_of_task
  region_of_task_told t =
      then_answered shown.memory (object_of w kind.Task found) _ (held_task w t.name)
      (task_object told w s shown found t)
      ∙ task_region told w s shown t.name t.seen

  pub enclosing_told : (r : HoldsRegion w s found)
      → answer_on shown.memory (enclosing_region w found) ≡ as_held (held_region w) (answer.enclosing_region r.seen.region)
  unfolding enclosing_region
  enclosing_told r =
      then_answered shown.memory (object_of w kind.Region found) _ (held_region w r.name)
      (region_object told w s shown found r)
      ∙ some_region told w s shown (region_address w r.name) RegionEnclosing r.seen.region.enclosing
      (shown.shows.within.well_formed.regions r.name r.seen).enclosing
      (shown.shows.records.regions r.name r.seen RegionEnclosing 0 _ refl refl)

  -- the region of a thread's current task, where it has one
  pub current_region_told : (t : HoldsThread w s found)
      → answer_on shown.memory (current_region w found) ≡ as_held (held_region w) (answer.region_of_thread s t.thread)
  unfolding current_region
  current_region_told t = go (s.threads t.thread).current refl
    where
      go : (o : Option Tid) → (s.threads t.thread).current ≡ o
          → answer_on shown.memory
          (then_reads (current_task w found) (λ task. follow w kind.Region task.addr TaskRegion 0))
          ≡ as_held (held_region w) (answer.region_of_thread s t.thread)
      go None e =
          then_refused shown.memory (current_task w found) _ Unavailable
          (thread_task told w s shown found t ∙ ap (λ (x : Option Tid). as_held (held_task w) (ok_or x Unavailable)) e)
          ∙ sym
          (ap (λ (x : Option Tid). as_held (held_region w) (ok_or (option_map (λ (y : Task). y.region) (option_and_then (task_of s) x)) Unavailable)) e)
      go (Some k) e =
          let seen : IsVisibleTask s k = shown.shows.within.well_formed.currents t.thread k t.begun.known e in
          then_answered shown.memory (current_task w found) _ (held_task w k)
          (thread_task told w s shown found t ∙ ap (λ (x : Option Tid). as_held (held_task w) (ok_or x Unavailable)) e)
          ∙ task_region told w s shown k seen
          ∙ sym (ap (λ (x : Option Tid). as_held (held_region w) (ok_or (option_map (λ (y : Task). y.region) (option_and_then (task_of s) x)) Unavailable)) e
          ∙ ap (λ (x : Option Task). as_held (held_region w) (ok_or (option_map (λ (y : Task). y.region) x) Unavailable)) seen.live)
