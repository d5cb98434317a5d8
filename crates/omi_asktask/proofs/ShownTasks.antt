-- Over words that show a state, the inquiries about a visible task answer what the state does.
use Rattle.std.proofs.Common.{◌≡◌, ℕ, List, Option, refl, ◌∙◌}
use Rattle.omi_calls.specs.Told.{Told}
use Rattle.omi_handle.specs.declared.handle.Kind.TheVariants.{Task}
use Rattle.omi_handle.specs.declared.handle.Held.{Held}
use Rattle.omi_layout.specs.declared.field.Field.TheVariants.{TaskGenerating, TaskScheduling, TaskFunction, TaskExit, TaskEnter}
use Rattle.omi_model.specs.State.{State}
use Rattle.omi_rep.specs.Records.{task_address}
use Rattle.omi_session.specs.Inquiry.{object_of, word_of}
use Rattle.omi_session.specs.Reads.{answer_on}
use Rattle.omi_session.specs.Answers as answer
use Rattle.omi_session.specs.Shown.{ShowsTold, HoldsTask, held_task, as_held}
use Rattle.omi_session.proofs.ShownParts.{then_answered, word_told}
use Rattle.omi_session.proofs.ShownAnswers.{task_object, some_task}
use Rattle.omi_asktask.specs.Tasks.{generating_task, scheduling_task}
use Rattle.omi_asktask.specs.TaskWords.{function, frames}
use Rattle.omi_asktask.specs.FramesOf.{frames_of_task}

module _ (told : Told) (w : List ℕ) (s : State) (shown : ShowsTold told w s) (found : Option Held)
    (t : HoldsTask w s found) where
  pub generating_told : answer_on shown.memory (generating_task w found) ≡ as_held (held_task w) (answer.generating_task t.seen.task)
  unfolding generating_task
  generating_told =
      then_answered shown.memory (object_of w Task found) _ (held_task w t.name)
      (task_object told w s shown found t)
      ∙ some_task told w s shown (task_address w t.name) TaskGenerating t.seen.task.generating
      (shown.shows.within.well_formed.tasks t.name t.seen).generating
      (shown.shows.records.tasks t.name t.seen TaskGenerating 0 _ refl refl)

  pub scheduling_told : answer_on shown.memory (scheduling_task w found) ≡ as_held (held_task w) (answer.scheduling_task t.seen.task)
  unfolding scheduling_task
  scheduling_told =
      then_answered shown.memory (object_of w Task found) _ (held_task w t.name)
      (task_object told w s shown found t)
      ∙ some_task told w s shown (task_address w t.name) TaskScheduling t.seen.task.scheduling
      (shown.shows.within.well_formed.tasks t.name t.seen).scheduling
      (shown.shows.records.tasks t.name t.seen TaskScheduling 0 _ refl refl)

  pub function_told : answer_on shown.memory (function w found) ≡ answer.function_of_task t.seen.task
  unfolding function
  function_told =
      then_answered shown.memory (object_of w Task found) _ (held_task w t.name)
      (task_object told w s shown found t)
      ∙ word_told w shown.memory (task_address w t.name) TaskFunction 0 _
      (shown.shows.records.tasks t.name t.seen TaskFunction 0 _ refl refl)

  pub frames_told : answer_on shown.memory (frames w found) ≡ frames_of_task t.seen.task
  unfolding frames
  frames_told =
      then_answered shown.memory (object_of w Task found) _ (held_task w t.name)
      (task_object told w s shown found t)
      ∙ then_answered shown.memory (word_of w (task_address w t.name) TaskExit 0) _ t.seen.task.exit
      (word_told w shown.memory (task_address w t.name) TaskExit 0 t.seen.task.exit (shown.shows.records.tasks t.name t.seen TaskExit 0 _ refl refl))
      ∙ then_answered shown.memory (word_of w (task_address w t.name) TaskEnter 0) _ t.seen.task.enter
      (word_told w shown.memory (task_address w t.name) TaskEnter 0 t.seen.task.enter (shown.shows.records.tasks t.name t.seen TaskEnter 0 _ refl refl))
