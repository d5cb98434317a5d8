-- At the end of a taskgroup region a task that is found in a slot is tested: the thread loads its group.
use Rattle.std.proofs.Common.{◌≡◌, ◌≢◌, ◌+◌, ◌-◌, ◌==◌, ◌<◌, ℕ, suc, Bool, true, false, List, Some, None, refl, sym, ap, ◌∙◌, arith, eqb-true, if◌then◌else◌}
use Rattle.std.proofs.Common.{lt-ltb}
use Rattle.omi_word.specs.declared.op.Op.TheVariants as op
use Rattle.omi_script.specs.declared.program.Program.{Program}
use Rattle.omi_model.specs.declared.event.Event.{Event}
use Rattle.omi_model.specs.declared.id.Tid.{Tid}
use Rattle.omi_model.specs.declared.task.Task.{Task}
use Rattle.omi_model.specs.Groups.{innermost_or}
use Rattle.omi_model.specs.State.{State, task_of}
use Rattle.omi_model.proofs.groups.GroupLaws.{groups_right}
use Rattle.omi_layout.specs.declared.field.Field.TheVariants.{TaskSlots}
use Rattle.omi_layout.specs.declared.limits.TheConstants.{GROUP_PLACE}
use Rattle.omi_layout.specs.Field.{tasks}
use Rattle.omi_layout.specs.Memory.{Memory}
use Rattle.omi_layout.specs.Named.{number}
use Rattle.omi_layout.specs.Table.{width}
use Rattle.omi_layout.specs.Valid.{IsValid}
use Rattle.omi_layout.proofs.Numbers.{numbered_field}
use Rattle.omi_layout.proofs.SlotWords.{group_word_within}
use Rattle.omi_numbers.specs.declared.limits.TheConstants.{OPEN_GROUPS}
use Rattle.omi_pc.specs.declared.actor.Actor.{Actor}
use Rattle.omi_pc.specs.declared.counter.Counter.{Counter}
use Rattle.omi_pc.specs.declared.counter.Counter.TheVariants as counter
use Rattle.omi_pc.specs.declared.frame.Wait.TheVariants as wait
use Rattle.omi_pc.specs.declared.place.Place.{Place}
use Rattle.omi_pc.specs.declared.task_counter.LookCounter.TheVariants as look
use Rattle.omi_pc.specs.Fits.{LooksAt}
use Rattle.omi_rep.specs.declared.outcome.Outcome.TheVariants as outcome
use Rattle.omi_rep.specs.Codes.{group_code, task_told}
use Rattle.omi_rep.specs.Records.{group_word, task_address}
use Rattle.omi_rule_words.specs.Groups.{group_at}
use Rattle.omi_step_words.specs.Moving.{to_look}
use Rattle.omi_step_words.specs.Placed.{HasTaskPlace}
use Rattle.omi_step_words.specs.Words.{of_groups}
use Rattle.omi_task.specs.Groups.{innermost_word}
use Rattle.omi_task.specs.LookSteps.{look_moved, look_next, look_outcome, looking_on, next_look}
use Rattle.omi_task.specs.Slots.{coded_task}
use Rattle.omi_task.proofs.CodedRecords.{coded_there}
use Rattle.omi_rule.specs.Ahead as Ahead
use Rattle.omi_rule.specs.Chains.{KeepsContext}
use Rattle.omi_rule.specs.Rows.{HasTested, IsRowOf, OfRegion, WasMade}
use Rattle.omi_rule.specs.Rule.{Rule}
use Rattle.omi_rule.specs.Steps.{KeepsRule, RecordWord, StepKeeps}
use Rattle.omi_rule.proofs.Assembly.{Before, same_name}
use Rattle.omi_rule.proofs.barrier.AtCounter.{ahead_is, fits_counter, front_is, here, load_quiet, placed_counter, row_is, sees}
use Rattle.omi_rule.proofs.Groups.{one_open, some_group, words_same, words_some}
use Rattle.omi_rule.proofs.KeptObjects.{task_kept, task_there}
use Rattle.omi_rule.proofs.look.LooksOn.{goes_next}

module _ (p : Program) (w : List ℕ) (m : Memory) (events : List (ℕ × Event)) (s : State) (actors : ℕ → Actor)
    (rule : Rule p w m events s actors) where
  -- the word of a live task tells its group
  pub group_told : (valid : IsValid w) → GROUP_PLACE < width w (number TaskSlots) → (k o : Tid) (t u : Task) (l : ℕ)
      → task_of s k ≡ Some t → task_of s o ≡ Some u → l < OPEN_GROUPS
      → m k.0.creator tasks k.0.slot (number TaskSlots) GROUP_PLACE ≡ group_word w (Some (group_at o l))
      → t.group ≡ Some (group_at o l)
  group_told valid inside k o t u l live there few word =
      let stands : m k.0.creator tasks k.0.slot (number TaskSlots) GROUP_PLACE ≡ group_word w t.group =
      (task_kept p w m events s actors rule k t live).environment TaskSlots GROUP_PLACE (group_word w t.group) refl
      (ap (λ (b : Bool). if b then group_code w (task_told t) GROUP_PLACE else None) (lt-ltb GROUP_PLACE (width w (number TaskSlots)) inside)) in
      let own = task_there p w m events s actors rule o u there in
      let (g, is) = some_group w t.group (group_word w (Some (group_at o l))) (sym word ∙ stands) (words_some w valid o l) in
      let member = (groups_right p events s rule.reached k t live).member g is in
      let (index, place) =
      words_same w valid g (group_at o l)
      (task_there p w m events s actors rule g.owner member.owner member.live)
      member.index own few (ap (group_word w) (sym is) ∙ sym stands ∙ word) in
      let name =
      (same_name s o g.owner u member.owner there member.live (ap (λ (q : Place). q.creator) place) (ap (λ (q : Place). q.slot) place)).0 in
      is ∙ ap (λ (n : Tid). Some (group_at n g.index)) name ∙ ap (λ x. Some (group_at o x)) index

module _ (p : Program) (w : List ℕ) (m : Memory) (events : List (ℕ × Event)) (s : State) (actors : ℕ → Actor)
    (i : ℕ) (before : Before p w m events s actors i) (n : ℕ) (row : Place) (code : ℕ)
    (at : (actors i).counter ≡ counter.Look (look.LoadGroup n row code)) where
  abbrev a : Actor
  a = actors i

  abbrev standing : Counter
  standing = counter.Look (look.LoadGroup n row code)

  abbrev k : Tid
  k = coded_task w code

  abbrev on_group : RecordWord
  on_group = record { creator = k.0.creator; slot = k.0.slot; field = TaskSlots; place = GROUP_PLACE }

  abbrev word : ℕ
  word = m k.0.creator tasks k.0.slot (number TaskSlots) GROUP_PLACE

  abbrev mine : KeepsContext s i (actors i).context
  mine = here p w m events s actors i before standing at tt

  fits : LooksAt p a wait.Taskgroup n row × (code ≢ 0)
  fits = fits_counter p w m events s actors i before standing at tt

  has_row : HasTaskPlace w row
  has_row = placed_counter p w m events s actors i before standing at tt

  found_row : OfRegion s a (IsRowOf row n) × WasMade w s code
  found_row = row_is p w m events s actors i before standing at tt

  list_is : mine.task.list ≡ Ahead.waiting p (sees p w m events s actors i before standing at tt) a.stack wait.Taskgroup
  list_is = ahead_is p w m events s actors i before standing at tt

  inside : GROUP_PLACE < width w (number TaskSlots)
  inside = group_word_within w GROUP_PLACE before.suits.groups (omega arith)

  -- a task that passes is one of the innermost open group, where it lives
  tested : word ≡ innermost_word w a → HasTested w s a wait.Taskgroup code
  tested same =
      let (l, some) = one_open p events s before.rule.reached a.context.task mine.task mine.live _ _ list_is in
      let open_is : a.context.open_groups ≡ suc l = sym mine.groups ∙ some in
      let index : suc l - 1 ≡ l = omega arith in
      let most = (groups_right p events s before.rule.reached a.context.task mine.task mine.live).few in (
        found_row.1,
        λ t live. group_told p w m events s actors before.rule before.valid inside k a.context.task t mine.task l live mine.live (omega (arith, some, most))
            (same ∙ ap (λ x. task_address w a.context.task + (x - 1)) open_is ∙ ap (λ x. task_address w a.context.task + x) index)
            ∙ sym (ap (innermost_or None a.context.task) open_is),
      )

  by_group : (d : Bool) → word == innermost_word w a ≡ d
      → KeepsRule p w m events s actors i (op.Load (of_groups w k GROUP_PLACE)) on_group
      (if d then to_look (look.Take wait.Taskgroup n row code) a else looking_on wait.Taskgroup n row a, outcome.Quiet)
  by_group true same =
      load_quiet p w m events s actors i before standing at tt (of_groups w k GROUP_PLACE) on_group
      (counter.Look (look.Take wait.Taskgroup n row code))
      (record { fits = fits; placed = has_row; ahead = list_is; front = front_is p w m events s actors i before standing at tt; owes = refl; row = (found_row.0, tested (eqb-true word (innermost_word w a) same)); ended = tt })
  by_group false other =
      load_quiet p w m events s actors i before standing at tt (of_groups w k GROUP_PLACE) on_group
      (next_look a wait.Taskgroup (n + 1) row)
      (goes_next p w m events s actors i before standing at tt refl wait.Taskgroup n row fits.0 has_row found_row.0 list_is)

  pub load_group_keeps : StepKeeps p w m events s actors i (look_next w (actors i) (look.LoadGroup n row code)) (λ old. (look_moved p w (actors i) (look.LoadGroup n row code) old, look_outcome w (actors i) (look.LoadGroup n row code) old))
  load_group_keeps = (
    on_group,
    record { there = record { field = numbered_field TaskSlots; record_slot = coded_there w before.valid code; within = inside }; address = refl },
    by_group (word == innermost_word w a) refl,
  )
