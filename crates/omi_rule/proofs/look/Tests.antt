-- Where only children of the current task may start, a task that is found in a slot is tested: the thread loads the task that made it.
use Rattle.std.proofs.Common.{◌≡◌, ◌≢◌, ◌+◌, ◌==◌, ℕ, Bool, true, false, List, Option, Some, None, refl, sym, ap, ◌∙◌, arith, eqb-true, if◌then◌else◌}
use Rattle.omi_word.specs.declared.op.Op.TheVariants as op
use Rattle.omi_script.specs.declared.program.Program.{Program}
use Rattle.omi_model.specs.declared.event.Event.{Event}
use Rattle.omi_model.specs.declared.id.Tid.{Tid}
use Rattle.omi_model.specs.declared.task.Task.{Task}
use Rattle.omi_model.specs.State.{State, task_of}
use Rattle.omi_model.proofs.NamesLive.{names_live}
use Rattle.omi_layout.specs.declared.field.Field.TheVariants.{TaskGenerating}
use Rattle.omi_layout.specs.Field.{tasks}
use Rattle.omi_layout.specs.Memory.{Memory}
use Rattle.omi_layout.specs.Named.{number}
use Rattle.omi_layout.specs.Valid.{IsValid}
use Rattle.omi_layout.proofs.Numbers.{numbered_field}
use Rattle.omi_pc.specs.declared.actor.Actor.{Actor}
use Rattle.omi_pc.specs.declared.counter.Counter.{Counter}
use Rattle.omi_pc.specs.declared.counter.Counter.TheVariants as counter
use Rattle.omi_pc.specs.declared.frame.Wait.{Wait}
use Rattle.omi_pc.specs.declared.frame.Wait.TheVariants as wait
use Rattle.omi_pc.specs.declared.place.Place.{Place}
use Rattle.omi_pc.specs.declared.task_counter.LookCounter.TheVariants as look
use Rattle.omi_pc.specs.Fits.{LooksAt, TestsChildren}
use Rattle.omi_rep.specs.declared.outcome.Outcome.TheVariants as outcome
use Rattle.omi_rep.specs.Records.{task_address, task_word}
use Rattle.omi_rule_words.proofs.Forks.{address_some}
use Rattle.omi_step_words.specs.Moving.{to_look}
use Rattle.omi_step_words.specs.Placed.{HasTaskPlace}
use Rattle.omi_step_words.specs.Words.{of_task, task_place}
use Rattle.omi_step_words.proofs.ReadBack.{places_back}
use Rattle.omi_task.specs.LookSteps.{look_moved, look_next, look_outcome, looking_on, next_look}
use Rattle.omi_task.specs.Slots.{coded_task}
use Rattle.omi_task.proofs.CodedRecords.{coded_there}
use Rattle.omi_rule.specs.Ahead as Ahead
use Rattle.omi_rule.specs.Rows.{HasTested, IsRowOf, OfRegion, WasMade, place_of}
use Rattle.omi_rule.specs.Rule.{Rule}
use Rattle.omi_rule.specs.Steps.{KeepsRule, RecordWord, StepKeeps}
use Rattle.omi_rule.proofs.Assembly.{Before, same_name}
use Rattle.omi_rule.proofs.KeptObjects.{task_kept, task_there}
use Rattle.omi_rule.proofs.barrier.AtCounter.{GoesTo, ahead_is, fits_counter, here, load_quiet, placed_counter, row_is, sees, wide, front_is}
use Rattle.omi_rule.proofs.look.LooksOn.{goes_next}

module _ (p : Program) (w : List ℕ) (m : Memory) (events : List (ℕ × Event)) (s : State) (actors : ℕ → Actor)
    (rule : Rule p w m events s actors) where
  -- the word of a live task tells the task that made it
  pub maker_told : (valid : IsValid w) (k g : Tid) (t u : Task) → task_of s k ≡ Some t → task_of s g ≡ Some u
      → m k.0.creator tasks k.0.slot (number TaskGenerating) 0 ≡ task_address w g → t.generating ≡ Some g
  maker_told valid k g t u live there word = by t.generating refl
    where
      stands : m k.0.creator tasks k.0.slot (number TaskGenerating) 0 ≡ task_word w t.generating
      stands = (task_kept p w m events s actors rule k t live).environment TaskGenerating 0 _ refl refl

      by : (o : Option Tid) → t.generating ≡ o → t.generating ≡ Some g
      by None e = absurd (address_some w valid g (sym word ∙ stands ∙ ap (task_word w) e))
      by (Some h) e =
          let (x, made, started) = ((names_live p events s rule.reached).tasks k t live).generating h e in
          let one : task_address w h ≡ task_address w g = ap (task_word w) (sym e) ∙ sym stands ∙ word in
          let first : task_place w (task_address w h) ≡ place_of h.0 =
          places_back w tasks h.0.creator h.0.slot valid (record { from = omega arith; to = omega arith })
          (task_there p w m events s actors rule h x made) in
          let second : task_place w (task_address w g) ≡ place_of g.0 =
          places_back w tasks g.0.creator g.0.slot valid (record { from = omega arith; to = omega arith })
          (task_there p w m events s actors rule g u there) in
          let place : place_of h.0 ≡ place_of g.0 = sym first ∙ ap (task_place w) one ∙ second in
          let name =
          (same_name s g h u x there made (ap (λ (q : Place). q.creator) place) (ap (λ (q : Place). q.slot) place)).0 in
          e ∙ ap (λ (n : Tid). Some n) name

module _ (p : Program) (w : List ℕ) (m : Memory) (events : List (ℕ × Event)) (s : State) (actors : ℕ → Actor)
    (i : ℕ) (before : Before p w m events s actors i) (v : Wait) (n : ℕ) (row : Place) (code : ℕ)
    (at : (actors i).counter ≡ counter.Look (look.LoadGenerating v n row code)) where
  abbrev a : Actor
  a = actors i

  abbrev standing : Counter
  standing = counter.Look (look.LoadGenerating v n row code)

  abbrev k : Tid
  k = coded_task w code

  abbrev on_generating : RecordWord
  on_generating = record { creator = k.0.creator; slot = k.0.slot; field = TaskGenerating; place = 0 }

  abbrev word : ℕ
  word = m k.0.creator tasks k.0.slot (number TaskGenerating) 0

  abbrev Goes : Counter → Type 0
  Goes to = GoesTo p w m events s actors i before standing at tt to

  fits : LooksAt p a v n row × (code ≢ 0) × TestsChildren v
  fits = fits_counter p w m events s actors i before standing at tt

  has_row : HasTaskPlace w row
  has_row = placed_counter p w m events s actors i before standing at tt

  found_row : OfRegion s a (IsRowOf row n) × WasMade w s code
  found_row = row_is p w m events s actors i before standing at tt

  list_is : (here p w m events s actors i before standing at tt).task.list ≡ Ahead.waiting p (sees p w m events s actors i before standing at tt) a.stack v
  list_is = ahead_is p w m events s actors i before standing at tt

  -- a task that passes is a child of the current one, where it lives
  tested : word ≡ task_address w a.context.task → (x : Wait) → TestsChildren x → HasTested w s a x code
  tested same (wait.Barrier b) tests = absurd tests
  tested same wait.Taskgroup tests = absurd tests
  tested same wait.Taskwait tests =
      (found_row.1, λ t live. let o = here p w m events s actors i before standing at tt in maker_told p w m events s actors before.rule before.valid k a.context.task t o.task live o.live same)
  tested same wait.Taskyield tests =
      (found_row.1, λ t live. let o = here p w m events s actors i before standing at tt in maker_told p w m events s actors before.rule before.valid k a.context.task t o.task live o.live same)

  by_maker : (d : Bool) → word == task_address w a.context.task ≡ d
      → KeepsRule p w m events s actors i (op.Load (of_task w k TaskGenerating)) on_generating
      (if d then to_look (look.Take v n row code) a else looking_on v n row a, outcome.Quiet)
  by_maker true same =
      load_quiet p w m events s actors i before standing at tt (of_task w k TaskGenerating) on_generating
      (counter.Look (look.Take v n row code))
      (record { fits = (fits.0, fits.1); placed = has_row; ahead = list_is; front = front_is p w m events s actors i before standing at tt; owes = refl; row = (found_row.0, tested (eqb-true word (task_address w a.context.task) same) v fits.2); ended = tt })
  by_maker false other =
      load_quiet p w m events s actors i before standing at tt (of_task w k TaskGenerating) on_generating
      (next_look a v (n + 1) row)
      (goes_next p w m events s actors i before standing at tt refl v n row fits.0 has_row found_row.0 list_is)

  pub load_maker_keeps : StepKeeps p w m events s actors i (look_next w (actors i) (look.LoadGenerating v n row code)) (λ old. (look_moved p w (actors i) (look.LoadGenerating v n row code) old, look_outcome w (actors i) (look.LoadGenerating v n row code) old))
  load_maker_keeps = (
    on_generating,
    record { there = record { field = numbered_field TaskGenerating; record_slot = coded_there w before.valid code; within = wide p w m events s actors i before standing at tt (number TaskGenerating) }; address = refl },
    by_maker (word == task_address w a.context.task) refl,
  )
