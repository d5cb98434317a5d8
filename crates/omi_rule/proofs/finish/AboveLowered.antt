-- A task loses the reference of one that it generated and that was given back; where it is explicit and that was the last one, the thread
-- is to give it back.
use Rattle.std.proofs.Common.{◌≡◌, ◌<◌, ◌^◌, ◌==◌, ℕ, Bool, true, false, inl, List, Option, Some, None, refl, sym, ap, ◌∙◌, subst, arith, if◌then◌else◌, ◌≢◌}
use Rattle.omi_word.specs.declared.op.Op.TheVariants as op
use Rattle.omi_word.specs.declared.op.Op.{Op}
use Rattle.omi_script.specs.declared.program.Program.{Program}
use Rattle.omi_model.specs.declared.event.Event.{Event}
use Rattle.omi_model.specs.declared.freeable.Freeable.TheVariants as freeable
use Rattle.omi_model.specs.declared.id.Tid.{Tid}
use Rattle.omi_model.specs.declared.task.Task.{Task}
use Rattle.omi_model.specs.State.{State}
use Rattle.omi_model.proofs.Slots.{put_same, some_same}
use Rattle.omi_layout.specs.declared.field.Field.TheVariants.{TaskReferences}
use Rattle.omi_layout.specs.Memory.{Memory, replace_at, IsRecordWord}
use Rattle.omi_layout.specs.Named.{number}
use Rattle.omi_layout.proofs.Numbers.{numbered_field}
use Rattle.omi_layout.specs.Table.{thread_count}
use Rattle.omi_pc.specs.declared.actor.Actor.{Actor}
use Rattle.omi_pc.specs.declared.counter.Counter.{Counter}
use Rattle.omi_pc.specs.declared.counter.Counter.TheVariants as counter
use Rattle.omi_pc.specs.declared.place.Place.{Place}
use Rattle.omi_pc.specs.declared.frame.Wait.{Wait}
use Rattle.omi_pc.specs.declared.task_counter.Ancestor.{Ancestor}
use Rattle.omi_pc.specs.declared.task_counter.FinishCounter.TheVariants as finish
use Rattle.omi_pc.specs.Fits.{Lowers}
use Rattle.omi_rep.specs.declared.outcome.Outcome.TheVariants as outcome
use Rattle.omi_rule_words.specs.CountKinds.{one_less, with_task_word, word_of_task}
use Rattle.omi_rule_words.specs.Counts.{is_at}
use Rattle.omi_rule_words.specs.FreeKinds.{given_at}
use Rattle.omi_rule_words.specs.Owes.{Owed, all_owed, nothing, owed}
use Rattle.omi_rule_words.specs.Words.{HasFinished, IsOwedIn, KeepsWords}
use Rattle.omi_rule_words.proofs.ReferenceCounts.{returned_subtracts_keep}
use Rattle.omi_rule_words.proofs.StoredCodes.{place_apart}
use Rattle.omi_step_words.specs.Placed.{HasAncestor, HasTask, HasTaskPlace}
use Rattle.omi_step_words.specs.Words.{of_place, task_place}
use Rattle.omi_task.specs.FinishSteps.{behind_references, finish_moved, finish_next, finish_outcome}
use Rattle.omi_rule.specs.Rows.{HasEndedUnder, IsAbove, IsAncestor, place_of}
use Rattle.omi_rule.specs.Steps.{KeepsRule, RecordWord, StepKeeps, found_in}
use Rattle.omi_rule.proofs.Assembly.{Before, quiet_keeps, spares_task}
use Rattle.omi_rule.proofs.CountsFew.{references_few}
use Rattle.omi_rule.proofs.Descends.{made_by_larger}
use Rattle.omi_rule.proofs.KeptObjects.{task_kept}
use Rattle.omi_rule.proofs.Owing.{owed_after}
use Rattle.omi_rule.proofs.barrier.AtCounter.{StandsAt, ahead_is, at_counter, fits_counter, front_is, here, owes_now, placed_counter, row_is, thread_with, wide}
use Rattle.omi_rule.proofs.finish.GivenTasks.{given_explicit, given_implicit}
use Rattle.omi_rule.proofs.finish.Makers.{at_own_place, maker_read, maker_there}
use Rattle.omi_rule.proofs.RowsStay.{Spares}

module _ (p : Program) (w : List ℕ) (m : Memory) (events : List (ℕ × Event)) (s : State) (actors : ℕ → Actor)
    (i : ℕ) (before : Before p w m events s actors i) (v : Option Wait) (place : Place) (explicit : Option Ancestor)
    (at : (actors i).counter ≡ counter.Finish (finish.SubtractGenerating v place explicit)) where
  abbrev a : Actor
  a = actors i

  abbrev standing : Counter
  standing = counter.Finish (finish.SubtractGenerating v place explicit)

  abbrev on_references : Place → RecordWord
  on_references q = record { creator = q.creator; slot = q.slot; field = TaskReferences; place = 0 }

  abbrev subtracts : Place → Op
  subtracts q = op.Sub (of_place w q TaskReferences) 1

  above : IsAbove s a place (IsAncestor w explicit)
  above = row_is p w m events s actors i before standing at tt

  fits : Lowers p a v place
  fits = fits_counter p w m events s actors i before standing at tt

  placed : HasTaskPlace w place × HasAncestor w explicit
  placed = placed_counter p w m events s actors i before standing at tt

  abbrev k : Tid
  k = above.name

  abbrev t : Task
  t = above.task

  abbrev word : ℕ
  word = word_of_task m k TaskReferences

  abbrev n : Memory
  n = with_task_word m k TaskReferences (one_less word)

  -- the word counts references, which are few
  few : word < 2 ^ 64
  few =
      let count = (task_kept p w m events s actors before.rule k t above.live).counts.references in
      let most = references_few w s before.valid before.rule.within.count (all_owed actors) k t in
      omega (arith, count, most)

  -- ---- what the thread owes then

  abbrev owing : Option Tid → Owed
  owing given = record nothing { pending = Some a.context.region; gives = given }

  abbrev owed_then : ℕ → Owed
  owed_then = replace_at (all_owed actors) i (owing (given_at k t word))

  words : KeepsWords w n s owed_then
  words =
      returned_subtracts_keep w m s (all_owed actors) i a.context.region place k t before.rule.words before.rule.within before.known
      (owes_now p w m events s actors i before standing at tt) above.live
      (subst (λ (q : Place). is_at k q ≡ true) above.there (at_own_place k)) few

  abbrev Goes : Counter → Type 0
  Goes to =
      KeepsRule p w m events s actors i (subtracts (place_of k.0)) (on_references (place_of k.0)) (at_counter to a, outcome.Quiet)

  -- the other threads name no word that is stored
  spared : (j : ℕ) → j ≢ i → Spares m n s j (actors j)
  spared j other =
      spares_task m s k t TaskReferences 0 (one_less word) j (actors j) above.live (inl (λ same. omega (arith, same)))
      (λ f of field deferred known is. place_apart f TaskReferences of refl field)

  -- the step leads to a counter
  leads : (to : Counter) → owed (at_counter to a) ≡ owing (given_at k t word)
      → StandsAt p w m events s actors i before standing at tt n to → Goes to
  leads to owes stands_at =
      quiet_keeps p w m events s actors i before (subtracts (place_of k.0)) (on_references (place_of k.0)) (at_counter to a, outcome.Quiet) refl
      (owed_after w n s actors i (at_counter to a) (owing (given_at k t word)) owes words)
      spared
      (thread_with p w m events s actors i before standing at tt n to stands_at)

  -- the record of the task stays
  stays : given_at k t word ≡ None → Goes (counter.Finish (finish.SubtractPending v))
  stays none =
      leads (counter.Finish (finish.SubtractPending v)) (ap owing (sym none))
      (record {
        fits = fits.0;
        placed = tt;
        ahead = ahead_is p w m events s actors i before standing at tt;
        front = front_is p w m events s actors i before standing at tt;
        row = tt;
        ended = tt;
      })

  -- ---- the task is to be given back

  module _ (x : Ancestor) (known : IsAncestor w (Some x) k t) (given : given_at k t word ≡ Some k) where
    -- it has finished
    owes_it : HasFinished s k × IsOwedIn s (owing (given_at k t word)) k
    owes_it =
        let objects = (words.made i before.known).objects in
        subst (λ (o : Owed). HasFinished s k × IsOwedIn s o k) (put_same (all_owed actors) i (owing (given_at k t word)))
        (objects.gives k (ap (λ (o : Owed). o.gives) (put_same (all_owed actors) i (owing (given_at k t word))) ∙ given))

    -- in the region of the current task
    in_region : t.region ≡ a.context.region
    in_region =
        let (u, live, pending) = owes_it.1 in
        let same : Some u.region ≡ Some a.context.region = sym pending in
        ap (λ (y : Task). y.region) (some_same above.live live) ∙ some_same refl same

    -- another task generated it, whose place is read back from the word
    maker : (g : Tid) × (t.generating ≡ Some g)
    maker = let (g, u, by, there, less) = made_by_larger p events s before.rule.reached k t above.live known.0 in (g, by)

    abbrev above_it : Place
    above_it = task_place w x.generating

    maker_at : place_of maker.0.0 ≡ above_it
    maker_at =
        sym (maker_read p w m events s actors i before k t above.live maker.0 maker.1) ∙ ap (task_place w) known.2

    abbrev to : Counter
    to = counter.Finish (finish.Free v x.task above_it)

    -- so all is known of it that the thread has to know
    ended : HasEndedUnder s (at_counter to a) k (λ g. place_of g.0 ≡ above_it)
    ended = record {
      task = t;
      live = above.live;
      explicit = known.0;
      progress = ap (λ (y : Task). y.progress) (some_same above.live owes_it.0.live) ∙ owes_it.0.progress;
      region = in_region;
      generating = maker.0;
      made_by = maker.1;
      knows = maker_at;
    }

    has_maker : HasTaskPlace w above_it
    has_maker =
        subst (λ (q : Place). HasTaskPlace w q) maker_at (maker_there p w m events s actors i before k t above.live maker.0 maker.1)

    has_task : HasTask w x.task
    has_task = subst (λ (y : Tid). HasTask w y) (sym known.1) (subst (λ (q : Place). HasTaskPlace w q) (sym above.there) placed.0)

    frees : Goes to
    frees =
        leads to (ap owing (ap Some known.1 ∙ sym given))
        (record {
          fits = (fits.0, below has_task.made_by, below has_maker.made_by);
          placed = (has_task, has_maker);
          ahead = ahead_is p w m events s actors i before standing at tt;
          front =
              above.next (here p w m events s actors i before standing at tt).task (here p w m events s actors i before standing at tt).live
              ∙ ap (λ (y : Tid). Some (freeable.Finished y)) (sym known.1);
          row = subst (λ (y : Tid). HasEndedUnder s (at_counter to a) y (λ g. place_of g.0 ≡ above_it)) (sym known.1) ended;
          ended = tt;
        })
      where
        below : {c : ℕ} → c < thread_count w → c < p.threads
        below {c} known = subst (λ y. c < y) (sym before.suits.threads) known

  -- ---- the step

  -- an explicit task is given back where this was its last reference
  by_last : (x : Ancestor) → IsAncestor w (Some x) k t → (b : Bool) → word == 1 ≡ b
      → Goes (counter.Finish (if b then finish.Free v x.task (task_place w x.generating) else finish.SubtractPending v))
  by_last x known true e = frees x known (given_explicit k t word true known.0 e)
  by_last x known false e = stays (given_explicit k t word false known.0 e)

  -- and an implicit one is not
  by_kind : (o : Option Ancestor) → IsAncestor w o k t → Goes (counter.Finish (behind_references w v o word))
  by_kind None implicit = stays (given_implicit k t word implicit)
  by_kind (Some x) known = by_last x known (word == 1) refl

  references_there : IsRecordWord w place.creator place.slot (number TaskReferences) 0
  references_there = record {
    field = numbered_field TaskReferences;
    record_slot = placed.0;
    within = wide p w m events s actors i before standing at tt (number TaskReferences);
  }

  -- of the record at a place
  abbrev KeepsAt : Place → Type 0
  KeepsAt q =
      KeepsRule p w m events s actors i (subtracts q) (on_references q)
      (at_counter (counter.Finish (behind_references w v explicit (found_in m (on_references q)))) a, outcome.Quiet)

  pub subtract_generating_keeps : StepKeeps p w m events s actors i (finish_next w (actors i) (finish.SubtractGenerating v place explicit))
      (λ old. (finish_moved p w (actors i) (finish.SubtractGenerating v place explicit) old, finish_outcome (actors i) (finish.SubtractGenerating v place explicit)))
  subtract_generating_keeps = (
    on_references place,
    record { there = references_there; address = refl },
    subst KeepsAt above.there (by_kind explicit above.knows),
  )
