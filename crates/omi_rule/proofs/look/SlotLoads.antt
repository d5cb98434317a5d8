-- A thread in a wait looks at a slot: where it finds a task it goes on to test or to take it, and else it looks on.
use Rattle.std.proofs.Common.{◌≡◌, ◌≢◌, ◌+◌, ◌%◌, ◌<◌, ◌==◌, ◌⊎◌, inl, inr, ℕ, Bool, true, false, List, Some, refl, sym, ap, subst, arith, ◌∙◌, eq-eqb, if◌then◌else◌}
use Rattle.omi_rep.specs.Records.{slot_word}
use Rattle.omi_word.specs.declared.op.Op.TheVariants as op
use Rattle.omi_script.specs.declared.program.Program.{Program}
use Rattle.omi_model.specs.declared.event.Event.{Event}
use Rattle.omi_model.specs.declared.id.Tid.{Tid}
use Rattle.omi_model.specs.declared.region.Region.{Region}
use Rattle.omi_model.specs.declared.task.Task.{Task}
use Rattle.omi_model.specs.Reached.{Reached}
use Rattle.omi_model.specs.State.{State, task_of}
use Rattle.omi_layout.specs.declared.field.Field.TheVariants.{TaskSlots}
use Rattle.omi_layout.specs.Field.{tasks}
use Rattle.omi_layout.specs.Memory.{IsRecordWord, Memory}
use Rattle.omi_layout.specs.Named.{number}
use Rattle.omi_layout.proofs.Numbers.{numbered_field}
use Rattle.omi_layout.proofs.SlotWords.{slot_within}
use Rattle.omi_pc.specs.declared.actor.Actor.{Actor}
use Rattle.omi_pc.specs.declared.counter.Counter.{Counter}
use Rattle.omi_pc.specs.declared.counter.Counter.TheVariants as counter
use Rattle.omi_pc.specs.declared.frame.Wait.{Wait}
use Rattle.omi_pc.specs.declared.frame.Wait.TheVariants as wait
use Rattle.omi_numbers.specs.declared.limits.TheConstants.{OWN_SLOTS}
use Rattle.omi_pc.specs.declared.place.Place.{Place}
use Rattle.omi_pc.specs.declared.task_counter.LookCounter.TheVariants as look
use Rattle.omi_pc.specs.Fits.{LooksAt}
use Rattle.omi_rep.specs.declared.outcome.Outcome.TheVariants as outcome
use Rattle.omi_step_words.specs.Moving.{to_look}
use Rattle.omi_step_words.specs.Placed.{HasTaskPlace}
use Rattle.omi_task.specs.LookSteps.{behind_code, look_moved, look_next, look_outcome, looking_on, member_at, next_look, of_slot}
use Rattle.omi_rule.specs.Ahead as Ahead
use Rattle.omi_rule.specs.Chains.{KeepsContext}
use Rattle.omi_rule.specs.Rows.{IsRowOf, OfRegion, WasMade, place_of}
use Rattle.omi_rule.specs.Steps.{KeepsRule, RecordWord, StepKeeps}
use Rattle.omi_rule.proofs.Assembly.{Before}
use Rattle.omi_rule.proofs.barrier.AtCounter.{GoesTo, ahead_is, fits_counter, here, load_quiet, placed_counter, row_is, sees, front_is}
use Rattle.omi_model.proofs.NamesLive.{names_live}
use Rattle.omi_model.proofs.Slots.{some_same}
use Rattle.omi_rule.proofs.OwnRow.{is_open}
use Rattle.omi_layout.specs.Valid.{IsValid}
use Rattle.omi_rule_words.specs.Objects.{IsDeferredIn}
use Rattle.omi_rule_words.proofs.Shown.{found_generations}
use Rattle.omi_task.specs.Slots.{coded_task}
use Rattle.omi_task.proofs.CodesBack.{codes_back}
use Rattle.omi_rule.specs.Rule.{Rule}
use Rattle.omi_rule.proofs.Generations.{generations_below}
use Rattle.omi_rule.proofs.KeptObjects.{task_kept, task_there}
use Rattle.omi_rule.proofs.look.LooksOn.{goes_next}

-- the task of a member, by its place
pub record IsRowTask (s : State) (a : Actor) (row : Place) : Type 0 where
  pub name : Tid
  pub place : place_of name.0 ≡ row
  pub task : Task
  pub live : task_of s name ≡ Some task
  pub implicit : task.implicit ≡ true
  pub region : task.region ≡ a.context.region

pub row_task : (p : Program) (events : List (ℕ × Event)) (s : State) (a : Actor) (row : Place) (n : ℕ)
    → Reached p events s → (i : ℕ) → KeepsContext s i a.context → OfRegion s a (IsRowOf row n) → IsRowTask s a row
row_task p events s a row n reached i known (r, found, (x, there, is)) =
    let unjoined : r.joined ≡ false = subst (λ (q : Region). q.joined ≡ false) (some_same known.found found) (is_open p events s reached i a.context known) in
    let o = ((names_live p events s reached).regions a.context.region r found).team unjoined (member_at n) x there in
    record { name = x.0; place = is; task = o.task; live = o.live; implicit = o.implicit; region = o.region }

-- a code in a slot is that of a deferred task
pub record IsCoded (w : List ℕ) (s : State) (a : Actor) (row : Task) (place code : ℕ) : Type 0 where
  pub name : Tid
  pub there : IsDeferredIn s row place name
  pub is : code ≡ slot_word w name

module _ (p : Program) (w : List ℕ) (m : Memory) (events : List (ℕ × Event)) (s : State) (actors : ℕ → Actor)
    (rule : Rule p w m events s actors) (valid : IsValid w) where
  -- a word of a row that is not 0 is such a code
  pub code_there : (a : Actor) (row : Place) (o : IsRowTask s a row) (place : ℕ)
      → place < OWN_SLOTS
      → m o.name.0.creator tasks o.name.0.slot (number TaskSlots) place ≢ 0
      → IsCoded w s a o.task place (m o.name.0.creator tasks o.name.0.slot (number TaskSlots) place)
  code_there a row o place within some =
      by ((task_kept p w m events s actors rule o.name o.task o.live).slots o.implicit place within)
    where
      by : (m o.name.0.creator tasks o.name.0.slot (number TaskSlots) place ≡ 0) ⊎ ((k : Tid) × IsDeferredIn s o.task place k × (m o.name.0.creator tasks o.name.0.slot (number TaskSlots) place ≡ slot_word w k))
          → IsCoded w s a o.task place (m o.name.0.creator tasks o.name.0.slot (number TaskSlots) place)
      by (inl none) = absurd (some none)
      by (inr (k, there, is)) = record { name = k; there = there; is = is }

  -- and is read back
  pub code_back : (k : Tid) (t : Task) → task_of s k ≡ Some t → coded_task w (slot_word w k) ≡ k
  code_back k t live =
      codes_back w k valid (task_there p w m events s actors rule k t live)
      ((generations_below p events s rule.reached).tasks k t live)

  pub made_by_code : (code : ℕ) (k : Tid) (t : Task) → code ≡ slot_word w k → task_of s k ≡ Some t
      → WasMade w s code
  made_by_code code k t is live =
      let back : coded_task w code ≡ k = ap (coded_task w) is ∙ code_back k t live in
      subst (λ (h : Tid). h.0.generation < (s.tasks h.0.creator h.0.slot).generations) (sym back)
      (let made = found_generations k.0.generation (s.tasks k.0.creator k.0.slot) t live in omega (arith, made))

module _ (p : Program) (w : List ℕ) (m : Memory) (events : List (ℕ × Event)) (s : State) (actors : ℕ → Actor)
    (i : ℕ) (before : Before p w m events s actors i) (v : Wait) (n : ℕ) (row : Place)
    (at : (actors i).counter ≡ counter.Look (look.LoadSlot v n row)) where
  abbrev a : Actor
  a = actors i

  abbrev standing : Counter
  standing = counter.Look (look.LoadSlot v n row)

  abbrev on_slot : RecordWord
  on_slot = record { creator = row.creator; slot = row.slot; field = TaskSlots; place = n % OWN_SLOTS }

  abbrev code : ℕ
  code = m row.creator tasks row.slot (number TaskSlots) (n % OWN_SLOTS)

  abbrev Goes : Counter → Type 0
  Goes to = GoesTo p w m events s actors i before standing at tt to

  fits : LooksAt p a v n row
  fits = fits_counter p w m events s actors i before standing at tt

  has_row : HasTaskPlace w row
  has_row = placed_counter p w m events s actors i before standing at tt

  row_of : OfRegion s a (IsRowOf row n)
  row_of = row_is p w m events s actors i before standing at tt

  list_is : (here p w m events s actors i before standing at tt).task.list ≡ Ahead.waiting p (sees p w m events s actors i before standing at tt) a.stack v
  list_is = ahead_is p w m events s actors i before standing at tt

  slot_there : IsRecordWord w row.creator row.slot (number TaskSlots) (n % OWN_SLOTS)
  slot_there = record { field = numbered_field TaskSlots; record_slot = has_row; within = slot_within w (n % OWN_SLOTS) (omega arith) }

  was_made : code ≢ 0 → WasMade w s code
  was_made some =
      let o = row_task p events s a row n before.rule.reached i (here p w m events s actors i before standing at tt) row_of in
      let same : m o.name.0.creator tasks o.name.0.slot (number TaskSlots) (n % OWN_SLOTS) ≡ code =
      ap (λ (q : Place). m q.creator tasks q.slot (number TaskSlots) (n % OWN_SLOTS)) o.place in
      let coded =
      code_there p w m events s actors before.rule before.valid a row o (n % OWN_SLOTS) (omega arith)
      (λ none. some (sym same ∙ none)) in
      made_by_code p w m events s actors before.rule before.valid code coded.name coded.there.task
      (sym same ∙ coded.is) coded.there.live

  -- a task is found. Where only children may start it is tested
  finds : (x : Wait) → LooksAt p a x n row
      → (here p w m events s actors i before standing at tt).task.list ≡ Ahead.waiting p (sees p w m events s actors i before standing at tt) a.stack x
      → code ≢ 0 → Goes (counter.Look (behind_code x n row code))
  finds (wait.Barrier b) at_slot is some = record { fits = (at_slot, some); placed = has_row; ahead = is; front = front_is p w m events s actors i before standing at tt; owes = refl; row = (row_of, tt); ended = tt }
  finds wait.Taskwait at_slot is some = record { fits = (at_slot, some, tt); placed = has_row; ahead = is; front = front_is p w m events s actors i before standing at tt; owes = refl; row = (row_of, was_made some); ended = tt }
  finds wait.Taskyield at_slot is some = record { fits = (at_slot, some, tt); placed = has_row; ahead = is; front = front_is p w m events s actors i before standing at tt; owes = refl; row = (row_of, was_made some); ended = tt }
  finds wait.Taskgroup at_slot is some = record { fits = (at_slot, some); placed = has_row; ahead = is; front = front_is p w m events s actors i before standing at tt; owes = refl; row = (row_of, was_made some); ended = tt }

  by_slot : (d : Bool) → code == 0 ≡ d
      → KeepsRule p w m events s actors i (op.Load (of_slot w row n)) on_slot (if d then looking_on v n row a else to_look (behind_code v n row code) a, outcome.Quiet)
  by_slot true none =
      load_quiet p w m events s actors i before standing at tt (of_slot w row n) on_slot
      (next_look a v (n + 1) row)
      (goes_next p w m events s actors i before standing at tt refl v n row fits has_row row_of list_is)
  by_slot false some =
      load_quiet p w m events s actors i before standing at tt (of_slot w row n) on_slot
      (counter.Look (behind_code v n row code)) (finds v fits list_is (λ e. cc (sym some, eq-eqb code 0 e)))

  pub load_slot_keeps : StepKeeps p w m events s actors i (look_next w (actors i) (look.LoadSlot v n row)) (λ old. (look_moved p w (actors i) (look.LoadSlot v n row) old, look_outcome w (actors i) (look.LoadSlot v n row) old))
  load_slot_keeps = (on_slot, record { there = slot_there; address = refl }, by_slot (code == 0) refl)
