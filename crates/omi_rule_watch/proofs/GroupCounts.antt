-- The counts of groups are no life words: the group of a task that is made, and that of one that has finished, is one whose owner lives.
use Rattle.std.proofs.Common.{◌≡◌, ◌+◌, ◌<◌, ℕ, List, Option, Some, sym, ap, ap₂, ◌∙◌, arith}
use Rattle.std.specs.Option.{option_and_then}
use Rattle.omi_script.specs.declared.program.Program.{Program}
use Rattle.omi_model.specs.declared.event.Event.{Event}
use Rattle.omi_model.specs.declared.group.Group.{Group}
use Rattle.omi_model.specs.declared.id.Tid.{Tid}
use Rattle.omi_model.specs.declared.task.Task.{Task}
use Rattle.omi_model.specs.Groups.{group_within}
use Rattle.omi_model.specs.State.{State, task_of}
use Rattle.omi_model.proofs.groups.GroupLaws.{groups_right}
use Rattle.omi_model.proofs.Slots.{some_same}
use Rattle.omi_layout.specs.declared.field.Field.TheVariants.{TaskSlots}
use Rattle.omi_layout.specs.declared.limits.TheConstants.{COUNT_PLACE}
use Rattle.omi_layout.specs.Memory.{Memory, word_address}
use Rattle.omi_layout.specs.Named.{number}
use Rattle.omi_layout.proofs.Numbers.{numbered_field}
use Rattle.omi_layout.proofs.SlotWords.{group_word_within}
use Rattle.omi_numbers.specs.declared.limits.TheConstants.{OPEN_GROUPS}
use Rattle.omi_pc.specs.declared.actor.Actor.{Actor}
use Rattle.omi_pc.specs.declared.counter.Counter.TheVariants as counter
use Rattle.omi_pc.specs.declared.frame.Wait.{Wait}
use Rattle.omi_pc.specs.declared.limits.TheConstants.{TASK_WORDS}
use Rattle.omi_pc.specs.declared.place.Place.{Place}
use Rattle.omi_pc.specs.declared.task_counter.FinishCounter.TheVariants as finish
use Rattle.omi_pc.specs.declared.task_counter.TaskCounter.TheVariants as task
use Rattle.omi_rep.specs.Records.{group_word}
use Rattle.omi_rule_words.specs.Groups.{group_of}
use Rattle.omi_rule_words.proofs.PendingWords.{live_of}
use Rattle.omi_step_words.specs.Words.{of_group_count}
use Rattle.omi_task.specs.FinishSteps.{finish_next}
use Rattle.omi_task.specs.Groups.{new_group}
use Rattle.omi_task.specs.MakingSteps.{making_next}
use Rattle.omi_rule.specs.Rows.{HasEndedUnder, HasFilledTask, place_of}
use Rattle.omi_rule.specs.Steps.{IsOn, RecordWord}
use Rattle.omi_rule.proofs.Assembly.{Before}
use Rattle.omi_rule.proofs.Groups.{index_read, new_group_is, owner_read, some_group, within_lives}
use Rattle.omi_rule.proofs.KeptObjects.{task_there}
use Rattle.omi_rule.proofs.barrier.AtCounter.{row_is}
use Rattle.omi_rule.proofs.task.Within.{context, row}

-- the word for the count of a group
abbrev pub count_word : Group → RecordWord
count_word g =
    record { creator = g.owner.0.creator; slot = g.owner.0.slot; field = TaskSlots; place = COUNT_PLACE + g.index }

module _ (p : Program) (w : List ℕ) (m : Memory) (events : List (ℕ × Event)) (s : State) (actors : ℕ → Actor)
    (i : ℕ) (before : Before p w m events s actors i) where
  -- the count that a word for a group names, where the group's owner lives
  count_at : (g : Group) (owner : Task) (word : ℕ) → task_of s g.owner ≡ Some owner → g.index < OPEN_GROUPS
      → word ≡ group_word w (Some g)
      → of_group_count w word ≡ word_address w g.owner.0.creator g.owner.0.slot (number TaskSlots) (COUNT_PLACE + g.index)
  count_at g owner word live few is =
      let there = task_there p w m events s actors before.rule g.owner owner live in
      ap (of_group_count w) is
      ∙ ap₂ (λ (o : Place) n. word_address w o.creator o.slot (number TaskSlots) (COUNT_PLACE + n))
      (owner_read w before.valid g there few) (index_read w before.valid g there few)

  -- the count of a new task's group
  module _ (place : Option ℕ) (t : Tid) (at : (actors i).counter ≡ counter.Task (task.AddCount place t)) where
    abbrev k : Tid
    k = (actors i).context.task

    filled : HasFilledTask p w m s (actors i) place t TASK_WORDS
    filled = (row p w m events s actors i before (task.AddCount place t) at).0

    group_is : new_group w (actors i) ≡ group_word w (group_within k (context p w m events s actors i before (task.AddCount place t) at).task)
    group_is =
        let here = context p w m events s actors i before (task.AddCount place t) at in
        let (v, live, knows) = filled.0.1 in
        new_group_is w (actors i) here.task here.groups
        (λ none. knows none ∙ ap (λ (x : Task). group_word w x.group) (some_same live here.live))

    pub count_raised : (g : Group) × IsOn w (making_next p w (actors i) (task.AddCount place t)) (count_word g)
    count_raised =
        let here = context p w m events s actors i before (task.AddCount place t) at in
        let (g, within) = some_group w _ _ group_is (row p w m events s actors i before (task.AddCount place t) at).1 in
        let lives = within_lives p events s before.rule.reached k here.task here.live g within in
        let (owner, live) = live_of (task_of s g.owner) lives.0 in (
          g,
          record {
            there = record {
              field = numbered_field TaskSlots;
              record_slot = task_there p w m events s actors before.rule g.owner owner live;
              within = group_word_within w (COUNT_PLACE + g.index) before.suits.groups (let few = lives.1 in omega (arith, few));
            };
            address = count_at g owner (new_group w (actors i)) live lives.1 (group_is ∙ ap (group_word w) within);
          },
        )

  -- and of the group of a task that has finished
  module _ (v : Option Wait) (t : Tid) (place : Place) (word : ℕ)
      (at : (actors i).counter ≡ counter.Finish (finish.SubtractCount v t place word)) where
    ended : HasEndedUnder s (actors i) t (λ g. place_of g.0 ≡ place) × ((x : Group) × (group_of s t ≡ Some x) × (group_word w (Some x) ≡ word))
    ended = row_is p w m events s actors i before (counter.Finish (finish.SubtractCount v t place word)) at tt

    pub count_lowered : (g : Group) × IsOn w (finish_next w (actors i) (finish.SubtractCount v t place word)) (count_word g)
    count_lowered =
        let (g, grouped, named) = ended.1 in
        let member =
        (groups_right p events s before.rule.reached t ended.0.task ended.0.live).member g
        (sym (ap (option_and_then (λ (x : Task). x.group)) ended.0.live) ∙ grouped) in (
          g,
          record {
            there = record {
              field = numbered_field TaskSlots;
              record_slot = task_there p w m events s actors before.rule g.owner member.owner member.live;
              within = group_word_within w (COUNT_PLACE + g.index) before.suits.groups (let few = member.index in omega (arith, few));
            };
            address = count_at g member.owner word member.live member.index (sym named);
          },
        )
