-- A thread gives an explicit task back that has lost its last reference.
use Rattle.std.proofs.Common.{◌≡◌, ◌≢◌, ◌<◌, inl, ℕ, List, [], ◌∷◌, ◌++◌, Option, Some, refl, sym, ap, ◌∙◌, subst, arith, true}
use Rattle.std.specs.Option.{option_and_then, option_map}
use Rattle.omi_word.specs.declared.op.Op.TheVariants as op
use Rattle.omi_script.specs.declared.program.Program.{Program}
use Rattle.omi_model.specs.declared.encounter.Encounter.{Encounter}
use Rattle.omi_model.specs.declared.event.Event.{Event}
use Rattle.omi_model.specs.declared.event.Event.TheVariants as event
use Rattle.omi_model.specs.declared.freeable.Freeable.{Freeable}
use Rattle.omi_model.specs.declared.freeable.Freeable.TheVariants as freeable
use Rattle.omi_model.specs.declared.id.Id.{Id}
use Rattle.omi_model.specs.declared.id.Tid.{Tid}
use Rattle.omi_model.specs.declared.item.Item.{Item}
use Rattle.omi_model.specs.declared.item.Item.TheVariants as item
use Rattle.omi_model.specs.declared.progress.Progress.TheVariants.{Begun}
use Rattle.omi_model.specs.declared.task.Task.{Task}
use Rattle.omi_model.specs.Freeing.{IsSpent, freed}
use Rattle.omi_model.specs.Freeing as Freeing
use Rattle.omi_model.specs.LawNames.{AreNamesLive}
use Rattle.omi_model.specs.Put.{gone}
use Rattle.omi_model.specs.Reached.{Step}
use Rattle.omi_model.specs.Rules.{Rule}
use Rattle.omi_model.specs.State.{State, task_of}
use Rattle.omi_model.proofs.NamesLive.{names_live}
use Rattle.omi_model.proofs.Slots.{gone_other, on_other, some_same, found_live}
use Rattle.omi_model.proofs.StaysKept.{stays_step}
use Rattle.omi_model.proofs.Steps.{IsRelisted, at_current, is_relisted, relisted, rule_moved}
use Rattle.omi_model.proofs.freeing.FreeingLaws.{finished_freed}
use Rattle.omi_layout.specs.declared.field.Field.TheVariants.{TaskLife}
use Rattle.omi_layout.specs.Memory.{Memory, replace_at, IsRecordWord}
use Rattle.omi_layout.specs.Named.{number}
use Rattle.omi_layout.proofs.Numbers.{numbered_field}
use Rattle.omi_pc.specs.declared.actor.Actor.{Actor}
use Rattle.omi_pc.specs.declared.counter.Counter.{Counter}
use Rattle.omi_pc.specs.declared.counter.Counter.TheVariants as counter
use Rattle.omi_pc.specs.declared.frame.Wait.{Wait}
use Rattle.omi_pc.specs.declared.place.Place.{Place}
use Rattle.omi_pc.specs.declared.task_counter.FinishCounter.TheVariants as finish
use Rattle.omi_pc.specs.Fits.{HasFinished}
use Rattle.omi_rep.specs.declared.outcome.Outcome.TheVariants as outcome
use Rattle.omi_rep.specs.Shows.{IsWithin}
use Rattle.omi_rule_words.specs.Counts.{is_at}
use Rattle.omi_rule_words.specs.FreeKinds.{with_task_emptied}
use Rattle.omi_rule_words.specs.Owes.{Owed, all_owed, nothing, owed}
use Rattle.omi_rule_words.specs.Words.{KeepsWords}
use Rattle.omi_rule_words.proofs.ListedNames.{names_stay_live}
use Rattle.omi_rule_words.proofs.StoredCodes.{place_apart}
use Rattle.omi_rule_words.proofs.TaskFrees.{task_frees_keep}
use Rattle.omi_rule_words.proofs.TasksGone.{given_have_no_child}
use Rattle.omi_step_words.specs.Placed.{HasTask, HasTaskPlace}
use Rattle.omi_step_words.specs.Words.{of_task, unused_word}
use Rattle.omi_task.specs.FinishSteps.{finish_moved, finish_next, finish_outcome}
use Rattle.omi_rule.specs.Chains.{IsPassable, KeepsContext}
use Rattle.omi_rule.specs.Rows.{HasEndedUnder, IsAbove, place_of}
use Rattle.omi_rule.specs.Rule.{KeepsThread}
use Rattle.omi_rule.specs.Steps.{RecordWord, StepKeeps, KeepsRule}
use Rattle.omi_rule.proofs.Assembly.{Before, plain_event_keeps, spares_task}
use Rattle.omi_rule.proofs.Descends.{descends_in_region}
use Rattle.omi_rule.proofs.GivesBack.{current, current_middle, gives, goes_back, in_middle, middle, middle_tasks, middle_words, none_waits}
use Rattle.omi_rule.proofs.OwedInside.{raised_begun}
use Rattle.omi_rule.proofs.Owing.{owed_after}
use Rattle.omi_rule.proofs.RelistedState.{within_relisted}
use Rattle.omi_rule.proofs.WaitingFronts.{freeing_front}
use Rattle.omi_rule.proofs.barrier.AtCounter.{ahead_is, at_counter, fits_counter, front_is, here, owes_now, placed_counter, row_is, sees, wide}
use Rattle.omi_rule.proofs.finish.Makers.{at_own_place, maker_live}
use Rattle.omi_rule.proofs.join.BodiesUnder.{LeavesUnder, freeing_later, task_kept}
use Rattle.omi_rule.proofs.RowsStay.{Spares}

module _ (p : Program) (w : List ℕ) (m : Memory) (events : List (ℕ × Event)) (s : State) (actors : ℕ → Actor)
    (i : ℕ) (before : Before p w m events s actors i) (v : Option Wait) (t : Tid) (place : Place)
    (at : (actors i).counter ≡ counter.Finish (finish.Free v t place)) where
  abbrev a : Actor
  a = actors i

  abbrev standing : Counter
  standing = counter.Finish (finish.Free v t place)

  abbrev mine : KeepsContext s i (actors i).context
  mine = here p w m events s actors i before standing at tt

  abbrev At : Encounter
  At = sees p w m events s actors i before standing at tt

  abbrev k : Tid
  k = a.context.task

  ended : HasEndedUnder s a t (λ g. place_of g.0 ≡ place)
  ended = row_is p w m events s actors i before standing at tt

  abbrev g : Tid
  g = ended.generating

  fits : HasFinished p a v t place
  fits = fits_counter p w m events s actors i before standing at tt

  placed : HasTask w t × HasTaskPlace w place
  placed = placed_counter p w m events s actors i before standing at tt

  owes : owed a ≡ record nothing { pending = Some a.context.region; gives = Some t }
  owes = owes_now p w m events s actors i before standing at tt

  -- a task that has begun is not the one that has finished
  begun_apart : (n : Tid) (x : Task) → task_of s n ≡ Some x → x.progress ≡ Begun → n ≡ t → ⊥
  begun_apart n x live begun same =
      let one : x ≡ ended.task = some_same live (ap (task_of s) same ∙ ended.live) in
      let over : x.progress ≡ ended.task.progress = ap (λ (y : Task). y.progress) one in
      cc (sym begun, over, ended.progress)

  -- and so neither is the current one
  apart : k ≡ t → ⊥
  apart = begun_apart k mine.task mine.live mine.begun

  -- ---- the event

  -- no task that it generated lives: the thread owes to give it back
  spent : IsSpent s t ended.task
  spent =
      finished_freed p events s before.rule.reached t ended.task ended.live ended.explicit ended.progress
      (given_have_no_child w m s (all_owed actors) i t before.rule.words before.rule.within before.known (ap (λ (o : Owed). o.gives) owes))

  abbrev it : Item
  it = item.Frees (freeable.Finished t)

  rule : Rule s i (event.FreeTask t) it
  rule = (k, mine.task, current p w m events s actors i before standing at tt, record { next_is = refl; old = ended.task; spent = spent; explicit = ended.explicit })

  front : mine.task.frees ≡ Some (freeable.Finished t)
  front = front_is p w m events s actors i before standing at tt

  -- it stands in front of the list
  -- the state in which nothing stands in front of the list
  abbrev listed : State
  listed = middle p w m events s actors i before standing at tt

  abbrev own_task : Task
  own_task = relisted mine.task.list mine.task

  abbrev above : Option Freeable
  above = Freeing.above listed t

  abbrev next : State
  next = freed listed t above k own_task

  step : Step p s i (event.FreeTask t) next
  step =
      gives p w m events s actors i before standing at tt (freeable.Finished t) front (event.FreeTask t) next refl refl rule
      (at_current listed i k own_task (freed listed t above) (current_middle p w m events s actors i before standing at tt))

  -- ---- tasks of the state whose list has moved on, and of the next one

  later_task : (n : Tid) → (n.0 ≡ t.0 → ⊥) → (x : Task) → task_of s n ≡ Some x
      → (free : Option Freeable) × (task_of next n ≡ Some (record x { frees = free }))
  later_task n other x live =
      let (free, there) = middle_tasks p w m events s actors i before standing at tt n x live in
      freeing_later (gone listed.tasks t.0) above (Some k) n (record x { frees = free })
      (gone_other listed.tasks t.0 n.0 (record x { frees = free }) other there)

  name_apart : k.0 ≡ t.0 → ⊥
  name_apart same = apart (ap (λ (n : Id). record { 0 = n }) same)

  live_listed : task_of listed t ≡ Some ended.task
  live_listed = on_other s.tasks k.0 (relisted mine.task.list) t.0 (λ same. name_apart (sym same)) ∙ ended.live

  -- next is the task that generated it
  above_is : above ≡ Some (freeable.Finished g)
  above_is =
      ap (λ (o : Option Task). option_map freeable.Finished (option_and_then (λ (x : Task). x.generating) o)) live_listed
      ∙ ap (option_map freeable.Finished) ended.made_by

  -- ---- words

  abbrev to : Counter
  to = counter.Finish (finish.LoadImplicit v place)

  abbrev returns : Owed
  returns = record nothing { pending = Some a.context.region; returned = Some place }

  names : AreNamesLive listed
  names =
      in_middle p w m events s actors i before standing at tt AreNamesLive
      (names_stay_live s i mine.task.list (names_live p events s before.rule.reached))

  within : IsWithin w listed
  within = within_relisted s k mine.task.list w before.rule.within

  maker : (u : Task) × (task_of listed g ≡ Some u)
  maker = let (u, live, started) = (names.tasks t ended.task live_listed).generating g ended.made_by in (u, live)

  same_region : maker.0.region ≡ ended.task.region
  same_region =
      let (u, xs, live, same) = (in_middle p w m events s actors i before standing at tt (IsRelisted s) (is_relisted s i mine.task.list)).tasks g maker.0 maker.1 in
      ap (λ (x : Task). x.region) same
      ∙ sym (descends_in_region p events s before.rule.reached t g ended.task u ended.live ended.explicit ended.made_by live).0

  spent_listed : IsSpent listed t ended.task
  spent_listed =
      let (n, x, is, may) =
      in_middle p w m events s actors i before standing at tt (λ (z : State). Rule z i (event.FreeTask t) it)
      (rule_moved s i (event.FreeTask t) it mine.task.list rule) in
      subst (IsSpent listed t) (some_same may.spent.live live_listed) may.spent

  -- no thread has raised a word of it for a task in the making
  unraised : (j : ℕ) → j < s.count → (all_owed actors j).raised ≢ Some t
  unraised j known is =
      let (x, live, begun) = raised_begun p w m events s actors before.rule j known t is in
      begun_apart t x live begun refl

  words : KeepsWords w (with_task_emptied m t) next (replace_at (all_owed actors) i returns)
  words =
      task_frees_keep w m listed (all_owed actors) i a.context.region t g ended.task maker.0 place above k own_task
      (middle_words p w m events s actors i before standing at tt) within names before.known owes spent_listed
      ended.explicit ended.made_by maker.1 same_region (subst (λ (q : Place). is_at g q ≡ true) ended.knows (at_own_place g))
      unraised (current_middle p w m events s actors i before standing at tt).live apart

  -- ---- the thread

  abbrev b : Actor
  b = at_counter to a

  leaves : LeavesUnder s next t
  leaves = record { environment = refl; others = later_task; regions = λ n x live r found. (r, found, refl, refl, refl) }

  own_later : (x : Task) → task_of next k ≡ Some x → x.list ≡ mine.task.list
  own_later x live =
      let (free, there) = task_kept p s next i t leaves a.context apart mine.task mine.live in
      ap (λ (y : Task). y.list) (some_same live there)

  own_front : (x : Task) → task_of next k ≡ Some x → x.frees ≡ Some (freeable.Finished g)
  own_front x live = freeing_front above (gone listed.tasks t.0) (Some k) k refl x live ∙ above_is

  -- no task generated itself
  maker_apart : g.0 ≡ t.0 → ⊥
  maker_apart same =
      spent.childless t.0.creator t.0.slot ended.task
      (found_live t.0.generation (s.tasks t.0.creator t.0.slot) ended.task ended.live)
      (ended.made_by ∙ ap (λ (n : Id). Some (record { 0 = n })) same)

  -- the task that generated it lives on
  row : IsAbove next b place (λ n x. Unit {0})
  row =
      let (u, found) = maker_live p w m events s actors i before t ended.task ended.live g ended.made_by in
      let (free, there) = later_task g maker_apart u found in
      record { name = g; task = record u { frees = free }; live = there; there = ended.knows; next = own_front; knows = tt }

  thread : KeepsThread p w (with_task_emptied m t) (events ++ (i, event.FreeTask t) ∷ []) next i b
  thread =
      goes_back p w m events s actors i before standing at tt next t leaves
      (λ c o. begun_apart c.task o.task o.live o.begun) refl (stays_step p s i (event.FreeTask t) next step)
      (with_task_emptied m t) (events ++ (i, event.FreeTask t) ∷ []) to
      (λ x live. (own_later x live, subst IsPassable (sym (own_front x live)) tt))
      (fits.0, fits.2) placed.1 (ahead_is p w m events s actors i before standing at tt) row tt

  -- ---- the step

  abbrev on_life : RecordWord
  on_life = record { creator = t.0.creator; slot = t.0.slot; field = TaskLife; place = 0 }

  life_there : IsRecordWord w t.0.creator t.0.slot (number TaskLife) 0
  life_there = record {
    field = numbered_field TaskLife;
    record_slot = placed.0;
    within = wide p w m events s actors i before standing at tt (number TaskLife);
  }

  -- the other threads name no word that is stored
  spared : (j : ℕ) → j ≢ i → Spares m (with_task_emptied m t) s j (actors j)
  spared j other =
      spares_task m s t ended.task TaskLife 0 (unused_word t.0) j (actors j) ended.live (inl (λ same. omega (arith, same)))
      (λ f of field deferred known is. place_apart f TaskLife of refl field)

  kept : KeepsRule p w m events s actors i (op.Store (of_task w t TaskLife) (unused_word t.0)) on_life (b, outcome.Event (event.FreeTask t))
  kept =
      plain_event_keeps p w m events s actors i before (op.Store (of_task w t TaskLife) (unused_word t.0)) on_life
      (b, outcome.Event (event.FreeTask t)) (event.FreeTask t) next (λ no_object. no_object) refl step (unused_word t.0, refl)
      (none_waits p w m events s actors i before standing at tt (freeable.Finished t) front (event.FreeTask t) next refl step)
      (owed_after w (with_task_emptied m t) next actors i b returns refl words) spared thread

  pub free_keeps : StepKeeps p w m events s actors i (finish_next w (actors i) (finish.Free v t place))
      (λ old. (finish_moved p w (actors i) (finish.Free v t place) old, finish_outcome (actors i) (finish.Free v t place)))
  free_keeps = (on_life, record { there = life_there; address = refl }, kept)
