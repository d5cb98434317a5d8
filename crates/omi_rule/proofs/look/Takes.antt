-- A thread in a wait takes a task from the slot in which it was found. Where another thread was first it looks on.
use Rattle.std.proofs.Common.{◌≡◌, ◌≢◌, ◌+◌, ◌==◌, ◌%◌, inr, ℕ, Bool, true, false, List, Some, refl, sym, ap, ◌∙◌, subst, arith, eq-eqb, eqb-true, ◌<◌, if◌then◌else◌}
use Rattle.omi_rep.specs.Records.{slot_word}
use Rattle.omi_word.specs.declared.op.Op.TheVariants as op
use Rattle.omi_script.specs.declared.program.Program.{Program}
use Rattle.omi_model.specs.declared.event.Event.{Event}
use Rattle.omi_model.specs.declared.id.Tid.{Tid}
use Rattle.omi_model.specs.State.{State}
use Rattle.omi_model.proofs.ReleaseAmong.{undeferred}
use Rattle.omi_layout.specs.declared.field.Field.TheVariants.{TaskSlots}
use Rattle.omi_layout.specs.Field.{tasks}
use Rattle.omi_layout.specs.Memory.{Memory, replace_at, with_word}
use Rattle.omi_layout.specs.Named.{number}
use Rattle.omi_layout.proofs.Numbers.{numbered_field}
use Rattle.omi_layout.proofs.SlotWords.{slot_within}
use Rattle.omi_layout.proofs.Puts.{word_back}
use Rattle.omi_pc.specs.declared.actor.Actor.{Actor}
use Rattle.omi_pc.specs.declared.counter.Counter.{Counter}
use Rattle.omi_pc.specs.declared.counter.Counter.TheVariants as counter
use Rattle.omi_pc.specs.declared.frame.Wait.{Wait}
use Rattle.omi_pc.specs.declared.frame.Wait.TheVariants as wait
use Rattle.omi_numbers.specs.declared.limits.TheConstants.{OWN_SLOTS}
use Rattle.omi_pc.specs.declared.place.Place.{Place}
use Rattle.omi_pc.specs.declared.task_counter.LookCounter.TheVariants as look
use Rattle.omi_pc.specs.Fits.{LooksAt}
use Rattle.omi_rep.specs.declared.outcome.Outcome.TheVariants as outcome
use Rattle.omi_rule_words.proofs.StoredCodes.{place_apart}
use Rattle.omi_rule_words.specs.ExplicitKinds.{with_slot}
use Rattle.omi_rule_words.specs.Objects.{IsDeferredIn}
use Rattle.omi_rule_words.specs.Owes.{all_owed, nothing}
use Rattle.omi_rule_words.specs.Words.{KeepsWords}
use Rattle.omi_rule_words.proofs.SlotStores.{slot_takes_keep}
use Rattle.omi_step_words.specs.Moving.{to_look}
use Rattle.omi_step_words.specs.Placed.{HasTask, HasTaskPlace}
use Rattle.omi_task.specs.LookSteps.{look_moved, look_next, look_outcome, looking_on, next_look, of_slot}
use Rattle.omi_task.specs.Slots.{coded_task}
use Rattle.omi_rule.specs.Ahead as Ahead
use Rattle.omi_rule.specs.Rows.{HasTested, IsInHand, IsRowOf, MayStartIn, OfRegion}
use Rattle.omi_rule.specs.Rule.{KeepsThread}
use Rattle.omi_rule.specs.Steps.{KeepsRule, RecordWord, StepKeeps, left_in}
use Rattle.omi_rule.proofs.Assembly.{Before, quiet_keeps, spares_task}
use Rattle.omi_rule.proofs.KeptObjects.{task_there}
use Rattle.omi_rule.proofs.Owing.{owed_after}
use Rattle.omi_rule.proofs.RowsStay.{Spares}
use Rattle.omi_rule.proofs.barrier.AtCounter.{StandsAt, ahead_is, at_counter, fits_counter, here, owes_now, placed_counter, row_is, same_quiet, sees, thread_with, front_is}
use Rattle.omi_rule.proofs.look.InHand.{hand_at}
use Rattle.omi_rule.proofs.look.LooksOn.{goes_next}
use Rattle.omi_rule.proofs.look.SlotLoads.{IsCoded, IsRowTask, code_back, code_there, row_task}

module _ (p : Program) (w : List ℕ) (m : Memory) (events : List (ℕ × Event)) (s : State) (actors : ℕ → Actor)
    (i : ℕ) (before : Before p w m events s actors i) (v : Wait) (n : ℕ) (row : Place) (code : ℕ)
    (at : (actors i).counter ≡ counter.Look (look.Take v n row code)) where
  abbrev a : Actor
  a = actors i

  abbrev standing : Counter
  standing = counter.Look (look.Take v n row code)

  abbrev place : ℕ
  place = n % OWN_SLOTS

  abbrev on_slot : RecordWord
  on_slot = record { creator = row.creator; slot = row.slot; field = TaskSlots; place = n % OWN_SLOTS }

  abbrev found : ℕ
  found = m row.creator tasks row.slot (number TaskSlots) (n % OWN_SLOTS)

  abbrev k : Tid
  k = coded_task w code

  fits : LooksAt p a v n row × (code ≢ 0)
  fits = fits_counter p w m events s actors i before standing at tt

  has_row : HasTaskPlace w row
  has_row = placed_counter p w m events s actors i before standing at tt

  found_row : OfRegion s a (IsRowOf row n) × HasTested w s a v code
  found_row = row_is p w m events s actors i before standing at tt

  list_is : (here p w m events s actors i before standing at tt).task.list ≡ Ahead.waiting p (sees p w m events s actors i before standing at tt) a.stack v
  list_is = ahead_is p w m events s actors i before standing at tt

  -- ---- the exchange has succeeded

  module _ (same : found ≡ code) where
    o : IsRowTask s a row
    o = row_task p events s a row n before.rule.reached i (here p w m events s actors i before standing at tt) found_row.0

    found_there : m o.name.0.creator tasks o.name.0.slot (number TaskSlots) (n % OWN_SLOTS) ≡ code
    found_there =
        ap (λ (q : Place). m q.creator tasks q.slot (number TaskSlots) (n % OWN_SLOTS)) o.place ∙ same

    coded : IsCoded w s a o.task (n % OWN_SLOTS) (m o.name.0.creator tasks o.name.0.slot (number TaskSlots) (n % OWN_SLOTS))
    coded =
        code_there p w m events s actors before.rule before.valid a row o (n % OWN_SLOTS) (omega arith)
        (λ none. fits.1 (sym found_there ∙ none))

    named : coded.name ≡ k
    named =
        sym
        (code_back p w m events s actors before.rule before.valid coded.name coded.there.task coded.there.live)
        ∙ ap (coded_task w) (sym coded.is ∙ found_there)

    deferred : IsDeferredIn s o.task (n % OWN_SLOTS) k
    deferred = subst (IsDeferredIn s o.task (n % OWN_SLOTS)) named coded.there

    explicit : deferred.task.implicit ≡ false
    explicit = by deferred.task.implicit refl
      where
        by : (b : Bool) → deferred.task.implicit ≡ b → deferred.task.implicit ≡ false
        by true im =
            absurd
            (undeferred p events s before.rule.reached k deferred.task deferred.live im deferred.progress)
        by false ex = ex

    may_start : (x : Wait) → HasTested w s a x code → MayStartIn x a deferred.task
    may_start (wait.Barrier b) tested = tt
    may_start wait.Taskwait tested = tested.1 deferred.task deferred.live
    may_start wait.Taskyield tested = tested.1 deferred.task deferred.live
    may_start wait.Taskgroup tested = tested.1 deferred.task deferred.live

    in_hand : IsInHand s a v k (λ u. Unit {0})
    in_hand = record { task = deferred.task; is = record { live = deferred.live; explicit = explicit; progress = deferred.progress }; region = deferred.region ∙ o.region; may = may_start v found_row.1; knows = tt }

    has_task : HasTask w k
    has_task = task_there p w m events s actors before.rule k deferred.task deferred.live

    abbrev to : Counter
    to = counter.Look (look.LoadFunction v n code k)

    abbrev taken : Memory
    taken = with_slot m o.name (n % OWN_SLOTS) 0

    left_is : left_in m (op.Cas (of_slot w row n) code 0) on_slot ≡ taken
    left_is =
        ap
        (λ (b : Bool). with_word m row.creator tasks row.slot (number TaskSlots) (n % OWN_SLOTS) (if b then 0 else found))
        (eq-eqb found code same)
        ∙ ap (λ (q : Place). with_word m q.creator tasks q.slot (number TaskSlots) (n % OWN_SLOTS) 0)
        (sym o.place)

    words : KeepsWords w taken s (all_owed (replace_at actors i (at_counter to a)))
    words =
        owed_after w taken s actors i (at_counter to a) (record nothing { hand = Some k }) refl
        (slot_takes_keep w m s (all_owed actors) i o.name o.task (n % OWN_SLOTS) k before.rule.words before.rule.within before.valid before.known (owes_now p w m events s actors i before standing at tt) o.live o.implicit (omega arith) deferred (coded.is ∙ ap (slot_word w) named))

    stands_at : StandsAt p w m events s actors i before standing at tt taken to
    stands_at = record { fits = (fits.0.0, subst (λ c. k.0.creator < c) (sym before.suits.threads) has_task.made_by); placed = has_task; ahead = list_is; front = front_is p w m events s actors i before standing at tt; row = hand_at s a to v k (λ u. Unit {0}) (λ u. Unit {0}) in_hand tt; ended = tt }

    takes : KeepsRule p w m events s actors i (op.Cas (of_slot w row n) code 0) on_slot (at_counter to a, outcome.Quiet)
    takes =
        quiet_keeps p w m events s actors i before (op.Cas (of_slot w row n) code 0) on_slot
        (at_counter to a, outcome.Quiet) refl
        (subst (λ (h : Memory). KeepsWords w h s (all_owed (replace_at actors i (at_counter to a)))) (sym left_is) words)
        (λ j other. subst (λ (h : Memory). Spares m h s j (actors j)) (sym left_is)
        (spares_task m s o.name o.task TaskSlots (n % OWN_SLOTS) 0 j (actors j) o.live (inr (inr refl)) (λ g of field _ _ _. place_apart g TaskSlots of refl field)))
        (subst (λ (h : Memory). KeepsThread p w h events s i (at_counter to a)) (sym left_is) (thread_with p w m events s actors i before standing at tt taken to stands_at))

  by_exchange : (d : Bool) → found == code ≡ d
      → KeepsRule p w m events s actors i (op.Cas (of_slot w row n) code 0) on_slot (if d then to_look (look.LoadFunction v n code k) a else looking_on v n row a, outcome.Quiet)
  by_exchange true same = takes (eqb-true found code same)
  by_exchange false other =
      same_quiet p w m events s actors i before standing at tt (op.Cas (of_slot w row n) code 0) on_slot
      (next_look a v (n + 1) row)
      (ap (λ (b : Bool). with_word m row.creator tasks row.slot (number TaskSlots) (n % OWN_SLOTS) (if b then 0 else found)) other ∙ word_back m row.creator tasks row.slot (number TaskSlots) (n % OWN_SLOTS))
      (goes_next p w m events s actors i before standing at tt refl v n row fits.0 has_row found_row.0 list_is)

  pub take_keeps : StepKeeps p w m events s actors i (look_next w (actors i) (look.Take v n row code)) (λ old. (look_moved p w (actors i) (look.Take v n row code) old, look_outcome w (actors i) (look.Take v n row code) old))
  take_keeps = (
    on_slot,
    record {
      there = record { field = numbered_field TaskSlots; record_slot = has_row; within = slot_within w (n % OWN_SLOTS) (omega arith) };
      address = refl;
    },
    by_exchange (found == code) refl,
  )
