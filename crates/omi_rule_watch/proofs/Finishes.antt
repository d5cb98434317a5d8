-- The steps of the end of an explicit task, and those that give the records of tasks back: the look behind them has not begun.
use Rattle.std.proofs.Common.{◌≡◌, ◌==◌, ◌&&◌, ℕ, Bool, true, false, List, Option, Some, None, refl, if◌then◌else◌, ◌/◌, ◌%◌, ◌≤◌, arith}
use Rattle.std.specs.Option.{option_map_or}
use Rattle.std.proofs.lemmas.Bool.Decides.{nat_tests}
use Rattle.omi_script.specs.declared.program.Program.{Program}
use Rattle.omi_model.specs.declared.event.Event.{Event}
use Rattle.omi_model.specs.State.{State}
use Rattle.omi_model.specs.declared.id.Tid.{Tid}
use Rattle.omi_layout.specs.declared.field.Field.{Field}
use Rattle.omi_layout.specs.declared.field.Field.TheVariants.{RegionLife, TaskGenerating, TaskImplicit, TaskLife, TaskSlots}
use Rattle.omi_layout.specs.Field.{kind_of, tasks}
use Rattle.omi_layout.specs.Memory.{IsRecordWord, Memory}
use Rattle.omi_layout.specs.Named.{number}
use Rattle.omi_layout.specs.declared.limits.TheConstants.{GROUP_PLACE}
use Rattle.omi_layout.proofs.Numbers.{numbered_field}
use Rattle.omi_layout.proofs.SlotWords.{group_word_within}
use Rattle.omi_pc.specs.declared.actor.Actor.{Actor}
use Rattle.omi_pc.specs.declared.counter.Counter.TheVariants as counter
use Rattle.omi_pc.specs.declared.frame.Wait.{Wait}
use Rattle.omi_pc.specs.declared.frame.Wait.TheVariants as wait
use Rattle.omi_pc.specs.declared.place.Place.{Place}
use Rattle.omi_pc.specs.declared.task_counter.Ancestor.{Ancestor}
use Rattle.omi_pc.specs.declared.task_counter.FinishCounter.{FinishCounter}
use Rattle.omi_pc.specs.declared.task_counter.FinishCounter.TheVariants as finish
use Rattle.omi_pc.specs.declared.task_counter.LookCounter.TheVariants as look
use Rattle.omi_rep.specs.declared.outcome.Outcome.TheVariants as outcome
use Rattle.omi_rep.specs.Records.{task_word}
use Rattle.omi_step_words.specs.Placed.{HasTaskPlace, IsPlacedFinish}
use Rattle.omi_step_words.specs.Words.{is_free, task_place}
use Rattle.omi_task.specs.FinishSteps.{behind_finish, behind_references, finish_moved, finish_next, finish_outcome}
use Rattle.omi_rule.specs.Rows.{IsAbove, place_of}
use Rattle.omi_rule.specs.Steps.{IsOn, RecordWord, found_in}
use Rattle.omi_rule.proofs.Assembly.{Before}
use Rattle.omi_rule.proofs.barrier.AtCounter.{placed_counter, row_is}
use Rattle.omi_rule_watch.specs.Given.{Has, IsFinishGivenBy, IsLookGiven, IsSearchGiven}
use Rattle.omi_rule_watch.specs.Watch.{SlotLook, Watch, finds, is_load, is_own, is_slot, no_look, current_member_task}
use Rattle.omi_rule_watch.proofs.Cases.{one_of}
use Rattle.omi_rule_watch.proofs.Parts.{IsCalm, KeepsParts, PartsKeep, calm_at, event_parts, look_stays, quiet_parts}
use Rattle.omi_rule_watch.proofs.Resting.{IsFresh, seeks_none}
use Rattle.omi_rule_watch.proofs.Standing.{life_taken, record_word, some_word, word_of}
use Rattle.omi_rule_watch.proofs.Workers.{not_found}
use Rattle.omi_numbers.specs.declared.limits.TheConstants.{OWN_SLOTS}

-- ---- the next counter

-- one of two counters at which the look has not begun
begins_two : (b : Bool) (x y : FinishCounter) (l : SlotLook) → IsFinishGivenBy x l → IsFinishGivenBy y l
    → IsFinishGivenBy (if b then x else y) l
begins_two b x y l one other = one_of (λ (c : FinishCounter). IsFinishGivenBy c l) b x y one other

begins_behind : (w : List ℕ) (v : Option Wait) (explicit : Option Ancestor) (old : ℕ) (l : SlotLook) → Has l 0 None
    → IsFinishGivenBy (behind_references w v explicit old) l
begins_behind w v None old l has = has
begins_behind w v (Some x) old l has =
    begins_two (old == 1) (finish.Free v x.task (task_place w x.generating)) (finish.SubtractPending v) l has has

-- the wait goes on, with a new look
back_fresh : (p : Program) (v : Option Wait) → IsFresh (behind_finish p v)
back_fresh p None = seeks_none refl refl (λ a. refl)
back_fresh p (Some wait.Taskyield) = seeks_none refl refl (λ a. refl)
back_fresh p (Some wait.Taskwait) = seeks_none refl refl (λ a. refl)
back_fresh p (Some wait.Taskgroup) = seeks_none refl refl (λ a. refl)
back_fresh p (Some (wait.Barrier b)) = seeks_none refl refl (λ a. refl)

looks_again : (b : Actor) (l : SlotLook) → Has l 0 None → (v : Wait) (d : Bool)
    → IsLookGiven b (counter.Look (if d then look.State v else look.LoadRow v 0)) l
looks_again b l has v true = tt
looks_again b l has v false = has

back_given : (p : Program) (b : Actor) (l : SlotLook) → Has l 0 None → (v : Option Wait)
    → IsLookGiven b (behind_finish p v) l
back_given p b l has None = tt
back_given p b l has (Some wait.Taskyield) = tt
back_given p b l has (Some wait.Taskwait) = looks_again b l has wait.Taskwait p.env.debug
back_given p b l has (Some (wait.Barrier k)) = looks_again b l has (wait.Barrier k) p.env.debug
back_given p b l has (Some wait.Taskgroup) = looks_again b l has wait.Taskgroup p.env.debug

-- a word behind the slots of a record is none of them
no_own_slot : (s : State) (i creator slot place k : ℕ) → OWN_SLOTS ≤ place
    → is_slot s i k (record { creator = creator; slot = slot; field = TaskSlots; place = place }) ≡ false
no_own_slot s i creator slot place k behind = go (place == k % OWN_SLOTS) refl
  where
    go : (b : Bool) → place == k % OWN_SLOTS ≡ b
        → b && option_map_or (λ (t : Tid). creator == t.0.creator && slot == t.0.slot) (current_member_task s i (k / OWN_SLOTS)) false ≡ false
    go true e = absurd (grind (arith, nat_tests, e, behind))
    go false e = refl

module _ (p : Program) (w : List ℕ) (m : Memory) (events : List (ℕ × Event)) (s : State) (actors : ℕ → Actor)
    (i : ℕ) (before : Before p w m events s actors i) (h : Watch) where
  abbrev a : Actor
  a = actors i

  -- the step at this counter keeps its parts
  abbrev Keeps : FinishCounter → Type 0
  Keeps c = PartsKeep w m s i (finish_next w a c) (λ old. (finish_moved p w a c old, finish_outcome a c)) h

  -- ---- any step

  module _ (c : FinishCounter) (at : (actors i).counter ≡ counter.Finish c)
      (given : IsSearchGiven (actors i) (counter.Finish c) h.search) where
    calm : IsCalm h.search
    calm = calm_at a (counter.Finish c) h.search refl refl refl given

    placed : IsPlacedFinish w c
    placed = placed_counter p w m events s actors i before (counter.Finish c) at tt

    some : (x : RecordWord) × IsOn w (finish_next w (actors i) c) x
    some = some_word p w m events s actors i before (counter.Finish c) at

    -- an event, behind which a look may begin
    event_to : (e : Event) (b : Actor) → IsFresh b.counter
        → ((l : SlotLook) → Has l 0 None → IsLookGiven b b.counter l)
        → (x : RecordWord) × IsOn w (finish_next w a c) x × KeepsParts w m s i (finish_next w a c) x (b, outcome.Event e) h
    event_to e b fresh begins =
        let (x, on) = some in
        (x, on, event_parts w m s i (finish_next w a c) x b h calm e fresh (begins no_look (record { looked = refl; seen = refl })))

    -- a quiet step that loads no slot and finds no free record
    quiet_to : Has h.look 0 None → (x : RecordWord) (b : Actor)
        → finds RegionLife i x (finish_next w a c) (found_in m x) outcome.Quiet ≡ false
        → finds TaskLife i x (finish_next w a c) (found_in m x) outcome.Quiet ≡ false
        → ((k : ℕ) → is_load (finish_next w a c) && is_slot s i k x ≡ false)
        → IsFresh b.counter
        → ((l : SlotLook) → Has l 0 None → IsLookGiven b b.counter l)
        → KeepsParts w m s i (finish_next w a c) x (b, outcome.Quiet) h
    quiet_to has x b none_region none_task no_slot fresh begins =
        quiet_parts w m s i (finish_next w a c) x b h calm none_region none_task fresh
        (begins _ (look_stays w s i x (finish_next w a c) (found_in m x) 0 h.look has no_slot))

  -- the first word of a field of a task's record
  task_word_there : (q : Place) (f : Field) → kind_of (number f) ≡ tasks → HasTaskPlace w q
      → IsRecordWord w q.creator q.slot (number f) 0
  task_word_there q f kind placed = record_word p w m events s actors i before tasks q.creator q.slot f kind placed

  -- the group of the finished task
  module _ (v : Option Wait) (t : Tid) (q : Place)
      (at : (actors i).counter ≡ counter.Finish (finish.LoadGroup v t q))
      (given : IsSearchGiven (actors i) (counter.Finish (finish.LoadGroup v t q)) h.search)
      (has : Has h.look 0 None) where
    abbrev on_group : RecordWord
    on_group = record { creator = t.0.creator; slot = t.0.slot; field = TaskSlots; place = GROUP_PLACE }

    loads_group : Keeps (finish.LoadGroup v t q)
    loads_group = (
      on_group,
      record {
        there = record {
          field = numbered_field TaskSlots;
          record_slot = (placed (finish.LoadGroup v t q) at given).0;
          within = group_word_within w GROUP_PLACE before.suits.groups (omega arith);
        };
        address = refl;
      },
      quiet_to (finish.LoadGroup v t q) at given has on_group _ refl refl (λ k. no_own_slot s i t.0.creator t.0.slot GROUP_PLACE k (omega arith))
          (seeks_none refl refl (λ a. refl))
          (λ l begins. begins_two (found_in m on_group == 0) (finish.SubtractReferences v t q)
          (finish.SubtractCount v t q (found_in m on_group)) l begins begins),
    )

  -- ---- the life word of a task above

  module _ (v : Option Wait) (q : Place) (next : ℕ) (at : (actors i).counter ≡ counter.Finish (finish.LoadLife v q next))
      (given : IsSearchGiven (actors i) (counter.Finish (finish.LoadLife v q next)) h.search)
      (has : Has h.look 0 None) where
    abbrev on_life : RecordWord
    on_life = word_of q.creator q.slot TaskLife

    -- the task above lives
    taken : is_free (found_in m on_life) ≡ false
    taken = go (row_is p w m events s actors i before (counter.Finish (finish.LoadLife v q next)) at tt)
      where
        go : IsAbove s a q (λ k g. (g.implicit ≡ false) × (task_word w g.generating ≡ next)) → is_free (found_in m on_life) ≡ false
        go above = life_taken p w m events s actors i before above.name above.task q above.live above.there

    loads_life : Keeps (finish.LoadLife v q next)
    loads_life = (
      on_life,
      record { there = task_word_there q TaskLife refl (placed (finish.LoadLife v q next) at given); address = refl },
      quiet_to (finish.LoadLife v q next) at given has on_life _ refl
          (not_found (is_own TaskLife i on_life) (is_free (found_in m on_life)) taken) (λ k. refl) (seeks_none refl refl (λ a. refl)) (λ l begins. begins),
    )

  -- ---- all of them

  pub finish_parts : (c : FinishCounter) (at : (actors i).counter ≡ counter.Finish c)
      → IsSearchGiven (actors i) (counter.Finish c) h.search
      → IsLookGiven (actors i) (counter.Finish c) h.look
      → PartsKeep w m s i (finish_next w (actors i) c)
      (λ old. (finish_moved p w (actors i) c old, finish_outcome (actors i) c)) h
  finish_parts finish.Finish at given has =
      event_to finish.Finish at given _ _ (seeks_none refl refl (λ a. refl)) (λ l begins. begins)
  finish_parts (finish.LoadGenerating v t) at given has =
      let x = word_of t.0.creator t.0.slot TaskGenerating in (
        x,
        record { there = task_word_there (place_of t.0) TaskGenerating refl (placed (finish.LoadGenerating v t) at given); address = refl },
        quiet_to (finish.LoadGenerating v t) at given has x _ refl refl (λ k. refl) (seeks_none refl refl (λ a. refl)) (λ l begins. begins),
      )
  finish_parts (finish.SubtractChildren v t generating) at given has =
      let (x, on) = some (finish.SubtractChildren v t generating) at given in
      (x, on, quiet_to (finish.SubtractChildren v t generating) at given has x _ refl refl (λ k. refl) (seeks_none refl refl (λ a. refl)) (λ l begins. begins))
  finish_parts (finish.LoadGroup v t generating) at given has = loads_group v t generating at given has
  finish_parts (finish.SubtractCount v t generating group) at given has =
      let (x, on) = some (finish.SubtractCount v t generating group) at given in
      (x, on, quiet_to (finish.SubtractCount v t generating group) at given has x _ refl refl (λ k. refl) (seeks_none refl refl (λ a. refl)) (λ l begins. begins))
  finish_parts (finish.SubtractReferences v t generating) at given has =
      let (x, on) = some (finish.SubtractReferences v t generating) at given in (
        x,
        on,
        quiet_to (finish.SubtractReferences v t generating) at given has x _ refl refl (λ k. refl) (seeks_none refl refl (λ a. refl))
            (λ l begins. begins_two (found_in m x == 1) (finish.Free v t generating) (finish.SubtractPending v) l begins begins),
      )
  finish_parts (finish.Free v t generating) at given has =
      event_to (finish.Free v t generating) at given _ _ (seeks_none refl refl (λ a. refl)) (λ l begins. begins)
  finish_parts (finish.LoadImplicit v generating) at given has =
      let x = word_of generating.creator generating.slot TaskImplicit in (
        x,
        record { there = task_word_there generating TaskImplicit refl (placed (finish.LoadImplicit v generating) at given); address = refl },
        quiet_to (finish.LoadImplicit v generating) at given has x _ refl refl (λ k. refl) (seeks_none refl refl (λ a. refl))
            (λ l begins. begins_two (found_in m x == 0) (finish.LoadNext v generating)
            (finish.SubtractGenerating v generating None) l begins begins),
      )
  finish_parts (finish.LoadNext v generating) at given has =
      let x = word_of generating.creator generating.slot TaskGenerating in (
        x,
        record { there = task_word_there generating TaskGenerating refl (placed (finish.LoadNext v generating) at given); address = refl },
        quiet_to (finish.LoadNext v generating) at given has x _ refl refl (λ k. refl) (seeks_none refl refl (λ a. refl)) (λ l begins. begins),
      )
  finish_parts (finish.LoadLife v generating next) at given has = loads_life v generating next at given has
  finish_parts (finish.SubtractGenerating v generating explicit) at given has =
      let (x, on) = some (finish.SubtractGenerating v generating explicit) at given in (
        x,
        on,
        quiet_to (finish.SubtractGenerating v generating explicit) at given has x _ refl refl (λ k. refl) (seeks_none refl refl (λ a. refl))
            (begins_behind w v explicit (found_in m x)),
      )
  finish_parts (finish.SubtractPending v) at given has =
      let (x, on) = some (finish.SubtractPending v) at given in
      let fresh = back_fresh p v in (
        x,
        on,
        quiet_to (finish.SubtractPending v) at given has x (record a { counter = behind_finish p v }) refl refl
            (λ k. refl) fresh (λ l begins. back_given p (record a { counter = behind_finish p v }) l begins v),
      )
