-- The words of a task's place on the thread are stored into the record of a task in the hand.
use Rattle.std.proofs.Common.{◌≡◌, ◌≢◌, ◌+◌, ◌<◌, nat_lt, inl, ℕ, zero, suc, Bool, true, false, List, Some, refl, sym, ap, ◌∙◌, subst, arith, ltb-true, ltb-false, if◌then◌else◌}
use Rattle.omi_script.specs.declared.program.Program.{Program}
use Rattle.omi_model.specs.declared.event.Event.{Event}
use Rattle.omi_model.specs.declared.id.Tid.{Tid}
use Rattle.omi_model.specs.declared.task.Task.{Task}
use Rattle.omi_model.specs.State.{State}
use Rattle.omi_layout.specs.declared.field.Field.TheVariants.{TaskSlots}
use Rattle.omi_layout.specs.Field.{kind_of, tasks}
use Rattle.omi_layout.specs.Memory.{Memory, replace_at, with_word}
use Rattle.omi_layout.specs.Named.{number}
use Rattle.omi_layout.specs.Place.{IsSlot}
use Rattle.omi_layout.specs.Table.{width}
use Rattle.omi_layout.proofs.Numbers.{numbered_field}
use Rattle.omi_layout.proofs.Puts.{word_read, word_stays}
use Rattle.omi_pc.specs.declared.actor.Actor.{Actor}
use Rattle.omi_pc.specs.declared.counter.Counter.{Counter}
use Rattle.omi_pc.specs.declared.counter.Counter.TheVariants as counter
use Rattle.omi_pc.specs.declared.frame.Wait.{Wait}
use Rattle.omi_pc.specs.declared.limits.TheConstants.{START_WORDS}
use Rattle.omi_pc.specs.declared.task_counter.LookCounter.TheVariants as look
use Rattle.omi_pc.specs.Fits.{HasLoaded}
use Rattle.omi_rep.specs.declared.outcome.Outcome.TheVariants as outcome
use Rattle.omi_rep.specs.Codes.{is_place}
use Rattle.omi_rule_words.proofs.StoredCodes.{place_apart}
use Rattle.omi_rule_words.specs.Owes.{Owed, all_owed, nothing, owed}
use Rattle.omi_rule_words.specs.Words.{KeepsWords}
use Rattle.omi_rule_words.proofs.Moves.{moves_keep}
use Rattle.omi_rule_words.proofs.PlaceStores.{place_stores_keep}
use Rattle.omi_step_words.specs.declared.plan.Planned.{Planned}
use Rattle.omi_step_words.specs.Placed.{HasTask}
use Rattle.omi_step_words.specs.Plan.{filling}
use Rattle.omi_step_words.specs.PlanLaws.{rank}
use Rattle.omi_task.specs.LookSteps.{look_moved, look_next, look_outcome}
use Rattle.omi_task.specs.Starts.{start_plan}
use Rattle.omi_rule.specs.Rows.{HasPlaced, IsFilled}
use Rattle.omi_rule.specs.Rule.{KeepsThread}
use Rattle.omi_rule.specs.Steps.{KeepsRule, RecordWord, StepKeeps, left_in}
use Rattle.omi_rule.proofs.Assembly.{Before, quiet_keeps, spares_task}
use Rattle.omi_rule.proofs.RowsStay.{Spares}
use Rattle.omi_rule.proofs.barrier.AtCounter.{StandsAt, ahead_is, at_counter, fits_counter, owes_now, placed_counter, row_is, thread_with, wide, front_is}
use Rattle.omi_rule.proofs.look.InHand.{hand_at, one_hand}
use Rattle.omi_rule.proofs.team.Plans.{fill_next}

-- a word of a place on a thread
record IsPlaceWord (x : Planned) : Type 0 where
  field : is_place x.field ≡ true
  first : x.at ≡ 0
  kind : kind_of (number x.field) ≡ tasks

place_word : (w : List ℕ) (a : Actor) (word : ℕ) → word < START_WORDS → IsPlaceWord (start_plan w a word)
place_word w a zero below = record { field = refl; first = refl; kind = refl }
place_word w a (suc zero) below = record { field = refl; first = refl; kind = refl }
place_word w a (suc (suc zero)) below = record { field = refl; first = refl; kind = refl }
place_word w a (suc (suc (suc zero))) below = record { field = refl; first = refl; kind = refl }
place_word w a (suc (suc (suc (suc zero)))) below = record { field = refl; first = refl; kind = refl }
place_word w a (suc (suc (suc (suc (suc k))))) below = absurd (omega (arith, below))

-- their fields rise
place_rises : (w : List ℕ) (a : Actor) (j k : ℕ) → j < k → k < START_WORDS
    → rank (start_plan w a j) < rank (start_plan w a k)
place_rises w a j zero less below = absurd (omega (arith, less))
place_rises w a zero (suc zero) less below = omega arith
place_rises w a (suc j) (suc zero) less below = absurd (omega (arith, less))
place_rises w a zero (suc (suc zero)) less below = omega arith
place_rises w a (suc zero) (suc (suc zero)) less below = omega arith
place_rises w a (suc (suc j)) (suc (suc zero)) less below = absurd (omega (arith, less))
place_rises w a zero (suc (suc (suc zero))) less below = omega arith
place_rises w a (suc zero) (suc (suc (suc zero))) less below = omega arith
place_rises w a (suc (suc zero)) (suc (suc (suc zero))) less below = omega arith
place_rises w a (suc (suc (suc j))) (suc (suc (suc zero))) less below = absurd (omega (arith, less))
place_rises w a zero (suc (suc (suc (suc zero)))) less below = omega arith
place_rises w a (suc zero) (suc (suc (suc (suc zero)))) less below = omega arith
place_rises w a (suc (suc zero)) (suc (suc (suc (suc zero)))) less below = omega arith
place_rises w a (suc (suc (suc zero))) (suc (suc (suc (suc zero)))) less below = omega arith
place_rises w a (suc (suc (suc (suc j)))) (suc (suc (suc (suc zero)))) less below =
    absurd (omega (arith, less))
place_rises w a j (suc (suc (suc (suc (suc k))))) less below = absurd (omega (arith, below))

module _ (p : Program) (w : List ℕ) (m : Memory) (events : List (ℕ × Event)) (s : State) (actors : ℕ → Actor)
    (i : ℕ) (before : Before p w m events s actors i) (v : Wait) (n code : ℕ) (t : Tid) (f : ℕ) (final : Bool)
    (word : ℕ) (at : (actors i).counter ≡ counter.Look (look.Fill v n code t f final word)) where
  abbrev a : Actor
  a = actors i

  abbrev standing : Counter
  standing = counter.Look (look.Fill v n code t f final word)

  abbrev Word : Planned
  Word = start_plan w (actors i) word

  abbrev on_word : RecordWord
  on_word = record { creator = t.0.creator; slot = t.0.slot; field = (start_plan w (actors i) word).field; place = (start_plan w (actors i) word).at }

  abbrev after_store : Memory
  after_store =
      with_word m t.0.creator tasks t.0.slot (number (start_plan w (actors i) word).field)
      (start_plan w (actors i) word).at (start_plan w (actors i) word).value

  abbrev Known : Task → Type 0
  Known u = (u.function ≡ f) × (u.is_final ≡ final)

  fits : HasLoaded p a v n t f × (word < START_WORDS)
  fits = fits_counter p w m events s actors i before standing at tt

  has_task : HasTask w t
  has_task = placed_counter p w m events s actors i before standing at tt

  hand : HasPlaced w m s a v t f final word
  hand = row_is p w m events s actors i before standing at tt

  is_word : IsPlaceWord Word
  is_word = place_word w a word fits.1

  owes : owed a ≡ record nothing { hand = Some t }
  owes = owes_now p w m events s actors i before standing at tt

  left_is : left_in m (filling w t.0 Word) on_word ≡ after_store
  left_is =
      ap (λ kind. with_word m t.0.creator kind t.0.slot (number Word.field) Word.at Word.value) is_word.kind

  filled : IsFilled (after_store t.0.creator tasks t.0.slot) (start_plan w a) (word + 1)
  filled =
      fill_next (m t.0.creator tasks t.0.slot) (after_store t.0.creator tasks t.0.slot)
      (start_plan w a) word START_WORDS
      (word_read m t.0.creator tasks t.0.slot (number Word.field) Word.at Word.value)
      (λ g k apart. word_stays m t.0.creator tasks t.0.slot (number Word.field) Word.at Word.value t.0.creator tasks t.0.slot g k (λ _ _ _ field place. apart field place))
      (place_rises w a) fits.1 hand.1

  spares : (j : ℕ) → j ≢ i → Spares m after_store s j (actors j)
  spares j other =
      spares_task m s t hand.0.task Word.field Word.at Word.value j (actors j) hand.0.is.live
      (inl (λ same. absurd (place_apart Word.field TaskSlots is_word.field refl same)))
      (λ g of same deferred known its. one_hand p w m events s actors before.rule i j before.known known other t hand.0.task hand.0.is (ap (λ (o : Owed). o.hand) owes) its)

  abbrev Goes : Counter → Type 0
  Goes to =
      KeepsRule p w m events s actors i (filling w t.0 (start_plan w (actors i) word)) on_word
      (at_counter to a, outcome.Quiet)

  leads : (to : Counter) → owed (at_counter to a) ≡ record nothing { hand = Some t }
      → StandsAt p w m events s actors i before standing at tt after_store to → Goes to
  leads to same stands =
      quiet_keeps p w m events s actors i before (filling w t.0 Word) on_word
      (at_counter to a, outcome.Quiet) refl
      (subst (λ (h : Memory). KeepsWords w h s (all_owed (replace_at actors i (at_counter to a)))) (sym left_is)
      (moves_keep w after_store s actors i (at_counter to a) (place_stores_keep w m s (all_owed actors) t hand.0.task Word.field Word.at Word.value before.rule.words hand.0.is is_word.field) (same ∙ sym owes)))
      (λ j other. subst (λ (h : Memory). Spares m h s j (actors j)) (sym left_is) (spares j other))
      (subst (λ (h : Memory). KeepsThread p w h events s i (at_counter to a)) (sym left_is) (thread_with p w m events s actors i before standing at tt after_store to stands))

  by_count : (d : Bool) → nat_lt (word + 1) START_WORDS ≡ d
      → Goes (counter.Look (if d then look.Fill v n code t f final (word + 1) else look.Start v n code t f final))
  by_count true more =
      leads (counter.Look (look.Fill v n code t f final (word + 1))) refl
      (record { fits = (fits.0, ltb-true (word + 1) START_WORDS more); placed = has_task; ahead = ahead_is p w m events s actors i before standing at tt; front = front_is p w m events s actors i before standing at tt; row = (hand_at s a (counter.Look (look.Fill v n code t f final (word + 1))) v t Known Known hand.0 hand.0.knows, filled); ended = tt })
  by_count false none =
      let whole : word + 1 ≡ START_WORDS =
      (let below = fits.1 in let over = ltb-false (word + 1) START_WORDS none in omega (arith, below, over)) in
      leads (counter.Look (look.Start v n code t f final)) refl
      (record { fits = fits.0; placed = has_task; ahead = ahead_is p w m events s actors i before standing at tt; front = front_is p w m events s actors i before standing at tt; row = (hand_at s a (counter.Look (look.Start v n code t f final)) v t Known Known hand.0 hand.0.knows, subst (IsFilled (after_store t.0.creator tasks t.0.slot) (start_plan w a)) whole filled); ended = tt })

  pub fill_keeps : StepKeeps p w m events s actors i (look_next w (actors i) (look.Fill v n code t f final word)) (λ old. (look_moved p w (actors i) (look.Fill v n code t f final word) old, look_outcome w (actors i) (look.Fill v n code t f final word) old))
  fill_keeps = (
    on_word,
    record {
      there = record {
        field = numbered_field Word.field;
        record_slot = subst (λ kind. IsSlot w kind t.0.creator t.0.slot) (sym is_word.kind) has_task;
        within = subst (λ k. k < width w (number Word.field)) (sym is_word.first) (wide p w m events s actors i before standing at tt (number Word.field));
      };
      address = refl;
    },
    by_count (nat_lt (word + 1) START_WORDS) refl,
  )
