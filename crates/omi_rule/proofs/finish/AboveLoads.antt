-- Behind a task that was given back, its thread loads what the task is that generated it: its kind, and where it is explicit, its own
-- generating task and its life word.
use Rattle.std.proofs.Common.{◌≡◌, ◌==◌, ℕ, Bool, true, false, List, Option, Some, None, refl, sym, ap, ◌∙◌, subst, if◌then◌else◌, ◌<◌, ◌^◌}
use Rattle.omi_script.specs.declared.program.Program.{Program}
use Rattle.omi_numbers.specs.Words.{flag}
use Rattle.omi_model.specs.declared.event.Event.{Event}
use Rattle.omi_model.specs.declared.id.Id.{Id}
use Rattle.omi_model.specs.declared.id.Tid.{Tid}
use Rattle.omi_model.specs.declared.task.Task.{Task}
use Rattle.omi_model.specs.State.{State}
use Rattle.omi_layout.specs.declared.field.Field.{Field}
use Rattle.omi_layout.specs.declared.field.Field.TheVariants.{TaskGenerating, TaskImplicit, TaskLife}
use Rattle.omi_layout.specs.Field.{kind_of, tasks}
use Rattle.omi_layout.specs.Memory.{IsRecordWord, Memory}
use Rattle.omi_layout.specs.Named.{number}
use Rattle.omi_layout.proofs.Numbers.{numbered_field}
use Rattle.omi_layout.specs.Place.{IsSlot}
use Rattle.omi_pc.specs.declared.actor.Actor.{Actor}
use Rattle.omi_pc.specs.declared.counter.Counter.{Counter}
use Rattle.omi_pc.specs.declared.counter.Counter.TheVariants as counter
use Rattle.omi_pc.specs.declared.place.Place.{Place}
use Rattle.omi_pc.specs.declared.frame.Wait.{Wait}
use Rattle.omi_pc.specs.declared.task_counter.FinishCounter.TheVariants as finish
use Rattle.omi_pc.specs.Fits.{Lowers}
use Rattle.omi_rep.specs.Codes.{is_place, task_code, task_told}
use Rattle.omi_rep.specs.Records.{task_word}
use Rattle.omi_step_words.specs.Placed.{HasTaskPlace}
use Rattle.omi_step_words.specs.Words.{generation_of, object_in, of_place}
use Rattle.omi_step_words.proofs.ReadBack.{generations_back}
use Rattle.omi_task.specs.FinishSteps.{finish_moved, finish_next, finish_outcome, ancestor_at}
use Rattle.omi_rule.specs.Rows.{IsAbove, IsAncestor}
use Rattle.omi_rule.specs.Steps.{RecordWord, StepKeeps}
use Rattle.omi_rule.proofs.Assembly.{Before}
use Rattle.omi_rule.proofs.Generations.{generations_below}
use Rattle.omi_rule.proofs.KeptObjects.{task_kept, task_life}
use Rattle.omi_rule.proofs.barrier.AtCounter.{GoesTo, IsOfMember, ahead_is, at_counter, fits_counter, front_is, load_quiet, placed_counter, row_is, wide}

-- a word of the record at a place
abbrev on_place : Place → Field → RecordWord
on_place q f = record { creator = q.creator; slot = q.slot; field = f; place = 0 }

-- ---- a task above

module _ (p : Program) (w : List ℕ) (m : Memory) (events : List (ℕ × Event)) (s : State) (actors : ℕ → Actor)
    (i : ℕ) (before : Before p w m events s actors i) (place : Place) (known : Tid → Task → Type 0)
    (above : IsAbove s (actors i) place known) where
  abbrev word_at : Field → ℕ
  word_at f = m place.creator tasks place.slot (number f) 0

  -- a word of its record is its code
  code_at : (f : Field) (code : ℕ) → is_place f ≡ false → task_code w (task_told above.task) f 0 ≡ Some code
      → word_at f ≡ code
  code_at f code plain is =
      subst (λ (q : Place). m q.creator tasks q.slot (number f) 0 ≡ code) above.there
      ((task_kept p w m events s actors before.rule above.name above.task above.live).environment f 0 code plain is)

  -- its life word tells its name
  life_at : object_in place (word_at TaskLife) ≡ above.name.0
  life_at =
      subst (λ (q : Place). object_in q (m q.creator tasks q.slot (number TaskLife) 0) ≡ above.name.0) above.there
      (ap (λ g. record { creator = above.name.0.creator; slot = above.name.0.slot; generation = g })
      (ap generation_of (task_life p w m events s actors before.rule above.name above.task above.live) ∙ generations_back above.name.0 below))
    where
      below : above.name.0.generation < 2 ^ 32
      below = (generations_below p events s before.rule.reached).tasks above.name above.task above.live

  -- the thread at another counter, of which more is known
  above_with : (to : Counter) (more : Tid → Task → Type 0) → more above.name above.task
      → IsAbove s (at_counter to (actors i)) place more
  above_with to more knows =
      record { name = above.name; task = above.task; live = above.live; there = above.there; next = above.next; knows = knows }

-- ---- steps

module _ (p : Program) (w : List ℕ) (m : Memory) (events : List (ℕ × Event)) (s : State) (actors : ℕ → Actor)
    (i : ℕ) (before : Before p w m events s actors i) (v : Option Wait) (place : Place) where
  abbrev a : Actor
  a = actors i

  there : (x : Counter) (at : a.counter ≡ x) (of : IsOfMember x) (f : Field) → kind_of (number f) ≡ tasks
      → HasTaskPlace w place → IsRecordWord w place.creator place.slot (number f) 0
  there x at of f kind placed =
      record {
        field = numbered_field f;
        record_slot = subst (λ q. IsSlot w q place.creator place.slot) (sym kind) placed;
        within = wide p w m events s actors i before x at of (number f);
      }

  module _ (at : a.counter ≡ counter.Finish (finish.LoadImplicit v place)) where
    abbrev at_kind : Counter
    at_kind = counter.Finish (finish.LoadImplicit v place)

    above_some : IsAbove s a place (λ k g. Unit {0})
    above_some = row_is p w m events s actors i before at_kind at tt

    fits : Lowers p a v place
    fits = fits_counter p w m events s actors i before at_kind at tt

    placed : HasTaskPlace w place
    placed = placed_counter p w m events s actors i before at_kind at tt

    abbrev kind_word : ℕ
    kind_word = word_at p w m events s actors i before place (λ k g. Unit {0}) above_some TaskImplicit

    abbrev next_by : Bool → Counter
    next_by zero = counter.Finish (if zero then finish.LoadNext v place else finish.SubtractGenerating v place None)

    abbrev Goes : Counter → Type 0
    Goes to = GoesTo p w m events s actors i before at_kind at tt to

    -- the word tells whether the task is implicit
    kind_is : kind_word ≡ flag above_some.task.implicit
    kind_is =
        code_at p w m events s actors i before place (λ k g. Unit {0}) above_some TaskImplicit (flag above_some.task.implicit) refl refl

    by_kind : (b : Bool) → above_some.task.implicit ≡ b → Goes (next_by (kind_word == 0))
    by_kind true e =
        subst (λ (zero : Bool). Goes (next_by zero)) (sym (ap (λ n. n == 0) (kind_is ∙ ap flag e)))
        (record {
          fits = fits;
          placed = (placed, tt);
          ahead = ahead_is p w m events s actors i before at_kind at tt;
          front = front_is p w m events s actors i before at_kind at tt;
          owes = refl;
          row = above_with p w m events s actors i before place (λ k g. Unit {0}) above_some (next_by false) (λ k g. g.implicit ≡ true) e;
          ended = tt;
        })
    by_kind false e =
        subst (λ (zero : Bool). Goes (next_by zero)) (sym (ap (λ n. n == 0) (kind_is ∙ ap flag e)))
        (record {
          fits = fits;
          placed = placed;
          ahead = ahead_is p w m events s actors i before at_kind at tt;
          front = front_is p w m events s actors i before at_kind at tt;
          owes = refl;
          row = above_with p w m events s actors i before place (λ k g. Unit {0}) above_some (next_by true) (λ k g. g.implicit ≡ false) e;
          ended = tt;
        })

    pub load_implicit_keeps : StepKeeps p w m events s actors i (finish_next w (actors i) (finish.LoadImplicit v place))
        (λ old. (finish_moved p w (actors i) (finish.LoadImplicit v place) old, finish_outcome (actors i) (finish.LoadImplicit v place)))
    load_implicit_keeps = (
      on_place place TaskImplicit,
      record { there = there at_kind at tt TaskImplicit refl placed; address = refl },
      load_quiet p w m events s actors i before at_kind at tt (of_place w place TaskImplicit) (on_place place TaskImplicit)
          (next_by (kind_word == 0)) (by_kind above_some.task.implicit refl),
    )

  module _ (at : a.counter ≡ counter.Finish (finish.LoadNext v place)) where
    abbrev at_next : Counter
    at_next = counter.Finish (finish.LoadNext v place)

    abbrev Explicit : Tid → Task → Type 0
    Explicit k g = g.implicit ≡ false

    above_explicit : IsAbove s a place Explicit
    above_explicit = row_is p w m events s actors i before at_next at tt

    placed_next : HasTaskPlace w place
    placed_next = placed_counter p w m events s actors i before at_next at tt

    abbrev next_word : ℕ
    next_word = word_at p w m events s actors i before place Explicit above_explicit TaskGenerating

    abbrev to_life : Counter
    to_life = counter.Finish (finish.LoadLife v place next_word)

    -- the word names its generating task
    next_is : next_word ≡ task_word w above_explicit.task.generating
    next_is =
        code_at p w m events s actors i before place Explicit above_explicit TaskGenerating (task_word w above_explicit.task.generating)
        refl refl

    goes_to_life : GoesTo p w m events s actors i before at_next at tt to_life
    goes_to_life = record {
      fits = fits_counter p w m events s actors i before at_next at tt;
      placed = placed_next;
      ahead = ahead_is p w m events s actors i before at_next at tt;
      front = front_is p w m events s actors i before at_next at tt;
      owes = refl;
      row = above_with p w m events s actors i before place Explicit above_explicit to_life
          (λ k g. (g.implicit ≡ false) × (task_word w g.generating ≡ next_word)) (above_explicit.knows, sym next_is);
      ended = tt;
    }

    pub load_next_keeps : StepKeeps p w m events s actors i (finish_next w (actors i) (finish.LoadNext v place))
        (λ old. (finish_moved p w (actors i) (finish.LoadNext v place) old, finish_outcome (actors i) (finish.LoadNext v place)))
    load_next_keeps = (
      on_place place TaskGenerating,
      record { there = there at_next at tt TaskGenerating refl placed_next; address = refl },
      load_quiet p w m events s actors i before at_next at tt (of_place w place TaskGenerating) (on_place place TaskGenerating) to_life goes_to_life,
    )

  module _ (next : ℕ) (at : a.counter ≡ counter.Finish (finish.LoadLife v place next)) where
    abbrev at_life : Counter
    at_life = counter.Finish (finish.LoadLife v place next)

    abbrev Names : Tid → Task → Type 0
    Names k g = (g.implicit ≡ false) × (task_word w g.generating ≡ next)

    above_named : IsAbove s a place Names
    above_named = row_is p w m events s actors i before at_life at tt

    placed_life : HasTaskPlace w place
    placed_life = placed_counter p w m events s actors i before at_life at tt

    abbrev life_word : ℕ
    life_word = word_at p w m events s actors i before place Names above_named TaskLife

    abbrev to_subtract : Counter
    to_subtract = counter.Finish (finish.SubtractGenerating v place (Some (ancestor_at place life_word next)))

    -- the word tells the name of the task
    name_is : record { 0 = object_in place life_word } ≡ above_named.name
    name_is = ap (λ (n : Id). record { 0 = n }) (life_at p w m events s actors i before place Names above_named)

    goes_to_subtract : GoesTo p w m events s actors i before at_life at tt to_subtract
    goes_to_subtract = record {
      fits = fits_counter p w m events s actors i before at_life at tt;
      placed = (placed_life, placed_life);
      ahead = ahead_is p w m events s actors i before at_life at tt;
      front = front_is p w m events s actors i before at_life at tt;
      owes = refl;
      row = above_with p w m events s actors i before place Names above_named to_subtract
          (IsAncestor w (Some (ancestor_at place life_word next))) (above_named.knows.0, name_is, above_named.knows.1);
      ended = tt;
    }

    pub load_life_keeps : StepKeeps p w m events s actors i (finish_next w (actors i) (finish.LoadLife v place next))
        (λ old. (finish_moved p w (actors i) (finish.LoadLife v place next) old, finish_outcome (actors i) (finish.LoadLife v place next)))
    load_life_keeps = (
      on_place place TaskLife,
      record { there = there at_life at tt TaskLife refl placed_life; address = refl },
      load_quiet p w m events s actors i before at_life at tt (of_place w place TaskLife) (on_place place TaskLife) to_subtract goes_to_subtract,
    )
