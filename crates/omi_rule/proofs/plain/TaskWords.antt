-- An event of a thread at a plain counter that stores a word of its current task: the frames, the variables and the tool word.
use Rattle.std.proofs.Common.{◌≡◌, ◌<◌, ℕ, List, [], ◌∷◌, ◌++◌, Option, Some, refl, sym, ap, ◌∙◌, subst, arith}
use Rattle.std.specs.Option.{option_map}
use Rattle.omi_word.specs.declared.op.Op.TheVariants as op
use Rattle.omi_script.specs.declared.program.Program.{Program}
use Rattle.omi_model.specs.declared.encounter.Encounter.{Encounter}
use Rattle.omi_model.specs.declared.event.Event.{Event}
use Rattle.omi_model.specs.declared.id.Id.{Id}
use Rattle.omi_model.specs.declared.id.Tid.{Tid}
use Rattle.omi_model.specs.declared.item.Item.{Item}
use Rattle.omi_model.specs.declared.item.Item.TheVariants as item
use Rattle.omi_model.specs.declared.task.Task.{Task}
use Rattle.omi_model.specs.Changes.{IsCurrent, on_task}
use Rattle.omi_model.specs.Lists.{stays, take_item}
use Rattle.omi_model.specs.Put.{on}
use Rattle.omi_model.specs.Rules.{Rule, effect}
use Rattle.omi_model.specs.State.{State, task_of}
use Rattle.omi_model.proofs.Slots.{found_live, id_same, on_other, on_same, some_same}
use Rattle.omi_model.proofs.Steps.{current_moved, relisted}
use Rattle.omi_layout.specs.declared.field.Field.{Field}
use Rattle.omi_layout.specs.Field.{kind_of, tasks}
use Rattle.omi_layout.specs.Memory.{Memory, with_word, with_word_in}
use Rattle.omi_layout.specs.Named.{number}
use Rattle.omi_layout.specs.Place.{IsSlot}
use Rattle.omi_layout.specs.Table.{per_thread, thread_count, width}
use Rattle.omi_layout.proofs.Numbers.{numbered_field}
use Rattle.omi_pc.specs.declared.actor.Actor.{Actor}
use Rattle.omi_pc.specs.declared.counter.Counter.TheVariants as counter
use Rattle.omi_pc.specs.declared.counter.PlainCounter.{PlainCounter}
use Rattle.omi_rep.specs.declared.outcome.Outcome.{Outcome}
use Rattle.omi_rep.specs.declared.outcome.Outcome.TheVariants as outcome
use Rattle.omi_rep.specs.Codes.{HasCodes, task_code, task_told}
use Rattle.omi_rep.proofs.Codes as codes
use Rattle.omi_rule_words.proofs.StoredCodes.{all_codes}
use Rattle.omi_rule.proofs.OthersStand.{begun_undeferred}
use Rattle.omi_rule_words.specs.Owes.{all_owed}
use Rattle.omi_rule_words.specs.TaskKinds.{IsOfTask, IsSameTask}
use Rattle.omi_rule_words.specs.Words.{KeepsTask, KeepsWords, task_in}
use Rattle.omi_rule_words.proofs.ListMoves.{list_moves_keep}
use Rattle.omi_rule_words.proofs.Shown.{found_generations}
use Rattle.omi_rule_words.proofs.TaskStores.{task_stores_keep}
use Rattle.omi_step_words.specs.Words.{of_task}
use Rattle.omi_rule.specs.Ahead.{plain_ahead}
use Rattle.omi_rule.specs.Chains.{KeepsContext, IsPassable}
use Rattle.omi_rule.specs.Commits.{CommitsAt}
use Rattle.omi_rule.specs.Rule.{HasEnded}
use Rattle.omi_rule.specs.Steps.{IsOn, KeepsRule, RecordWord, left_in}
use Rattle.omi_rule.proofs.Assembly.{Before, spares_begun}
use Rattle.omi_rule.proofs.NothingNew.{Makes}
use Rattle.omi_rule.proofs.Own.{ChangesTask, IsAlike}
use Rattle.omi_rule.proofs.OwnTask.{is_current, list_moved, top}
use Rattle.omi_rule.proofs.RowsStay.{Spares}
use Rattle.omi_rule.proofs.plain.OwnEvents.{GoesOn, own_event, steps}
use Rattle.omi_rule.proofs.plain.Loads.{here, sees}

module _ (p : Program) (w : List ℕ) (m : Memory) (events : List (ℕ × Event)) (s : State) (actors : ℕ → Actor)
    (i : ℕ) (before : Before p w m events s actors i) (c : PlainCounter)
    (at_counter : (actors i).counter ≡ counter.Plain c) where
  abbrev pub own_task : KeepsContext s i (actors i).context
  own_task = top p s i (actors i) (here p w m events s actors i before c at_counter)

  abbrev pub k : Tid
  k = (actors i).context.task

  abbrev pub at : Encounter
  at = sees p w m events s actors i before c at_counter

  pub now_current : IsCurrent s i k own_task.task
  now_current = is_current p s i (actors i) (here p w m events s actors i before c at_counter)

  -- ---- its record

  own_place : record { maker : k.0.creator < thread_count w; place : k.0.slot < per_thread w tasks }
  own_place = before.rule.within.tasks k.0.creator k.0.slot k.0.generation own_task.task own_task.live

  wide : (f : ℕ) → 0 < width w f
  wide f = codes.wide w before.valid f

  abbrev pub task_word_at : Field → RecordWord
  task_word_at f = record { creator = k.0.creator; slot = k.0.slot; field = f; place = 0 }

  pub task_on : (f : Field) (word : ℕ) → kind_of (number f) ≡ tasks
      → IsOn w (op.Store (of_task w k f) word) (task_word_at f)
  task_on f word kind = record {
    there = record {
      field = numbered_field f;
      record_slot = subst (λ q. IsSlot w q k.0.creator k.0.slot) (sym kind) (record { made_by = own_place.maker; within = own_place.place });
      within = wide (number f);
    };
    address = refl;
  }

  known_maker : k.0.creator < s.count
  known_maker = subst (λ n. k.0.creator < n) (sym before.rule.within.count) own_place.maker

  own_name : task_in k.0.creator k.0.slot (s.tasks k.0.creator k.0.slot) ≡ k
  own_name =
      let made =
      found_generations k.0.generation (s.tasks k.0.creator k.0.slot) own_task.task own_task.live in
      ap (λ (n : Id). record { 0 = n })
      (id_same (task_in k.0.creator k.0.slot (s.tasks k.0.creator k.0.slot)).0 k.0 refl refl (omega (arith, made)))

  own_words : KeepsTask w s (all_owed actors) (task_in k.0.creator k.0.slot (s.tasks k.0.creator k.0.slot)) (m k.0.creator tasks k.0.slot) own_task.task
  own_words =
      ((before.rule.words.made k.0.creator known_maker).tasks k.0.slot own_place.place).live own_task.task
      (found_live k.0.generation (s.tasks k.0.creator k.0.slot) own_task.task own_task.live)

  pub has_codes : HasCodes (task_code w (task_told own_task.task)) (m k.0.creator tasks k.0.slot)
  has_codes =
      all_codes w (m k.0.creator tasks k.0.slot) own_task.task own_words.environment
      (own_words.place (λ _ deferred. begun_undeferred own_task.task own_task.begun deferred))

  -- ---- the list moves on

  abbrev pub middle : List Item → State
  middle zs = on_task s k (relisted zs)

  pub middle_current : (zs : List Item) → IsCurrent (middle zs) i k (relisted zs own_task.task)
  middle_current zs =
      let o = here p w m events s actors i before c at_counter in
      current_moved s i k o.current zs k own_task.task (is_current p s i (actors i) o)

  pub middle_words : (zs : List Item) → KeepsWords w m (middle zs) (all_owed actors)
  middle_words zs =
      subst (λ (z : State). KeepsWords w m z (all_owed actors))
      (list_moved p s i (actors i) (here p w m events s actors i before c at_counter) zs)
      (list_moves_keep w m s (all_owed actors) i zs before.rule.words before.known)

  -- ---- the task is another

  pub twice : (zs : List Item) (g : Task → Task) (t : Task) → task_of s k ≡ Some t
      → task_of (on_task (middle zs) k g) k ≡ Some (g (relisted zs t))
  twice zs g t live =
      on_same (on s.tasks k.0 (relisted zs)) k.0 g
      ∙ ap (λ (x : Option Task). option_map g x)
      (on_same s.tasks k.0 (relisted zs) ∙ ap (λ (x : Option Task). option_map (relisted zs) x) live)

  changes_task : (zs : List Item) (g : Task → Task) → ((v : Task) → IsAlike v (g (relisted zs v)))
      → ChangesTask s (on_task (middle zs) k g) i k
  changes_task zs g alike = record {
    environment = refl;
    current = refl;
    own = λ t live. (g (relisted zs t), twice zs g t live, alike t);
    others = λ n ne. on_other (on s.tasks k.0 (relisted zs)) k.0 g n.0 ne ∙ on_other s.tasks k.0 (relisted zs) n.0 ne;
    regions = λ n r live. (r, live, refl, refl, refl);
  }

  pub task_event : (zs : List Item) (f : Field) (word : ℕ) (g : Task → Task) → kind_of (number f) ≡ tasks
      → IsOfTask f → ((v : Task) → IsAlike v (g (relisted zs v))) → ((v : Task) → ((g v).list ≡ v.list) × ((g v).frees ≡ v.frees))
      → IsSameTask (relisted zs own_task.task) (g (relisted zs own_task.task))
      → HasCodes (task_code w (task_told (g (relisted zs own_task.task))))
      (with_word_in (m k.0.creator tasks k.0.slot) (number f) 0 word)
      → (b : Actor) (out : Outcome) (e : Event) (y : Item) → out ≡ outcome.Event e → (Makes e → ⊥) → ((n : ℕ) → y ≡ item.Fork n → ⊥)
      → take_item p at e (plain_ahead p at (actors i).stack c) ≡ Some (y, zs) → Rule s i e y → stays at e y zs ≡ zs → effect p (middle zs) i e y ≡ Some (on_task (middle zs) k g)
      → CommitsAt w s i e (op.Store (of_task w k f) word) → GoesOn p w i at (actors i) b zs → HasEnded (events ++ (i, e) ∷ []) i b.counter
      → KeepsRule p w m events s actors i (op.Store (of_task w k f) word) (task_word_at f) (b, out)
  task_event zs f word g kind of alike list same codes b out e y is not none taken rule stay done commits goes ended =
      let u : State = on_task (middle zs) k g in
      let stored : left_in m (op.Store (of_task w k f) word) (task_word_at f) ≡ with_word m k.0.creator tasks k.0.slot (number f) 0 word =
      ap (λ q. with_word m k.0.creator q k.0.slot (number f) 0 word) kind in
      own_event p w m events s actors i before c at_counter (op.Store (of_task w k f) word)
      (task_word_at f) b out e y zs u is not none taken
      (steps p w m events s actors i before c at_counter e y zs u taken rule stay done) commits
      (subst (λ (n : Memory). KeepsWords w n u (all_owed actors)) (sym stored)
      (task_stores_keep w m (middle zs) (all_owed actors) k (relisted zs own_task.task) g f 0 word (middle_words zs) (middle_current zs).live same of codes))
      (λ j other. subst (λ (n : Memory). Spares m n s j (actors j)) (sym stored) (spares_begun m s k own_task.task f 0 word i j (actors j) own_task.live own_task.begun own_task.thread other))
      (changes_task zs g alike)
      (λ t live.
      let same = some_same live (twice zs g own_task.task own_task.live) in
      let (list_is, frees_is) = list (relisted zs own_task.task) in
      (ap (λ (x : Task). x.list) same ∙ list_is, subst IsPassable (sym (ap (λ (x : Task). x.frees) same ∙ frees_is)) tt)) goes ended
