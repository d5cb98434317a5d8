-- The thread of an explicit task that has finished loads the task that made it.
use Rattle.std.proofs.Common.{◌≡◌, ◌<◌, ℕ, List, Option, refl, sym, ap, ◌∙◌, subst}
use Rattle.omi_script.specs.declared.program.Program.{Program}
use Rattle.omi_model.specs.declared.event.Event.{Event}
use Rattle.omi_model.specs.declared.id.Tid.{Tid}
use Rattle.omi_model.specs.State.{State}
use Rattle.omi_layout.specs.declared.field.Field.TheVariants.{TaskGenerating}
use Rattle.omi_layout.specs.Field.{tasks}
use Rattle.omi_layout.specs.Memory.{IsRecordWord, Memory}
use Rattle.omi_layout.specs.Named.{number}
use Rattle.omi_layout.proofs.Numbers.{numbered_field}
use Rattle.omi_pc.specs.declared.actor.Actor.{Actor}
use Rattle.omi_pc.specs.declared.counter.Counter.{Counter}
use Rattle.omi_pc.specs.declared.counter.Counter.TheVariants as counter
use Rattle.omi_pc.specs.declared.frame.Wait.{Wait}
use Rattle.omi_pc.specs.declared.place.Place.{Place}
use Rattle.omi_pc.specs.declared.task_counter.FinishCounter.TheVariants as finish
use Rattle.omi_pc.specs.Fits.{IsBack}
use Rattle.omi_rep.specs.Records.{task_word}
use Rattle.omi_step_words.specs.Placed.{HasTask, HasTaskPlace}
use Rattle.omi_step_words.specs.Words.{of_task, task_place}
use Rattle.omi_task.specs.FinishSteps.{finish_moved, finish_next, finish_outcome}
use Rattle.omi_rule.specs.Rows.{HasEndedUnder, place_of}
use Rattle.omi_rule.specs.Steps.{RecordWord, StepKeeps}
use Rattle.omi_rule.proofs.Assembly.{Before}
use Rattle.omi_rule.proofs.KeptObjects.{task_kept}
use Rattle.omi_rule.proofs.barrier.AtCounter.{GoesTo, ahead_is, fits_counter, load_quiet, placed_counter, row_is, wide, front_is}
use Rattle.omi_rule.proofs.finish.Makers.{maker_read, maker_there}

module _ (p : Program) (w : List ℕ) (m : Memory) (events : List (ℕ × Event)) (s : State) (actors : ℕ → Actor)
    (i : ℕ) (before : Before p w m events s actors i) (v : Option Wait) (t : Tid)
    (at : (actors i).counter ≡ counter.Finish (finish.LoadGenerating v t)) where
  abbrev a : Actor
  a = actors i

  abbrev standing : Counter
  standing = counter.Finish (finish.LoadGenerating v t)

  abbrev on_generating : RecordWord
  on_generating = record { creator = t.0.creator; slot = t.0.slot; field = TaskGenerating; place = 0 }

  abbrev word : ℕ
  word = m t.0.creator tasks t.0.slot (number TaskGenerating) 0

  ended : HasEndedUnder s a t (λ g. Unit {0})
  ended = row_is p w m events s actors i before standing at tt

  has_task : HasTask w t
  has_task = placed_counter p w m events s actors i before standing at tt

  fits : IsBack p a v × (t.0.creator < p.threads)
  fits = fits_counter p w m events s actors i before standing at tt

  read_back : task_place w word ≡ place_of ended.generating.0
  read_back =
      ap (task_place w)
      ((task_kept p w m events s actors before.rule t ended.task ended.live).environment TaskGenerating 0 (task_word w ended.task.generating) refl refl)
      ∙ maker_read p w m events s actors i before t ended.task ended.live ended.generating ended.made_by

  has_maker : HasTask w ended.generating
  has_maker = maker_there p w m events s actors i before t ended.task ended.live ended.generating ended.made_by

  there : IsRecordWord w t.0.creator t.0.slot (number TaskGenerating) 0
  there = record { field = numbered_field TaskGenerating; record_slot = has_task; within = wide p w m events s actors i before standing at tt (number TaskGenerating) }

  goes : GoesTo p w m events s actors i before standing at tt (counter.Finish (finish.SubtractChildren v t (task_place w word)))
  goes = record {
    fits = (fits.0, fits.1, subst (λ (q : Place). q.creator < p.threads) (sym read_back) (subst (λ k. ended.generating.0.creator < k) (sym before.suits.threads) has_maker.made_by));
    placed = (has_task, subst (λ (q : Place). HasTaskPlace w q) (sym read_back) has_maker);
    ahead = ahead_is p w m events s actors i before standing at tt;
    front = front_is p w m events s actors i before standing at tt;
    owes = refl;
    row = record { task = ended.task; live = ended.live; explicit = ended.explicit; progress = ended.progress; region = ended.region; generating = ended.generating; made_by = ended.made_by; knows = sym read_back };
    ended = tt;
  }

  pub load_generating_keeps : StepKeeps p w m events s actors i (finish_next w (actors i) (finish.LoadGenerating v t)) (λ old. (finish_moved p w (actors i) (finish.LoadGenerating v t) old, finish_outcome (actors i) (finish.LoadGenerating v t)))
  load_generating_keeps = (
    on_generating,
    record { there = there; address = refl },
    load_quiet p w m events s actors i before standing at tt (of_task w t TaskGenerating) on_generating (counter.Finish (finish.SubtractChildren v t (task_place w word))) goes,
  )
