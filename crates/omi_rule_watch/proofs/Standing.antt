-- Before a step of a thread: the word of a record that its operation is on.
use Rattle.std.proofs.Common.{◌≡◌, ◌<◌, ◌*◌, ◌+◌, ◌%◌, ◌^◌, ◌==◌, ◌&&◌, nat_lt, ℕ, Bool, true, false, List, Some, refl, sym, ap, ◌∙◌, subst, arith, eq-eqb}
use Rattle.std.proofs.lemmas.Bool.Decides.{nat_tests}
use Rattle.omi_script.specs.declared.program.Program.{Program}
use Rattle.omi_model.specs.declared.event.Event.{Event}
use Rattle.omi_model.specs.declared.id.Id.{Id}
use Rattle.omi_model.specs.declared.id.Tid.{Tid}
use Rattle.omi_model.specs.declared.task.Task.{Task}
use Rattle.omi_model.specs.State.{State, task_of}
use Rattle.omi_layout.specs.declared.field.Field.{Field}
use Rattle.omi_layout.specs.declared.field.Field.TheVariants.{TaskLife}
use Rattle.omi_layout.specs.Field.{kind_of, tasks, threads}
use Rattle.omi_layout.specs.Memory.{IsRecordWord, Memory}
use Rattle.omi_layout.specs.Named.{number}
use Rattle.omi_layout.specs.Place.{IsSlot}
use Rattle.omi_layout.specs.Table.{thread_count, width}
use Rattle.omi_layout.proofs.Numbers.{numbered_field}
use Rattle.omi_rep.proofs.Codes as codes
use Rattle.omi_pc.specs.declared.actor.Actor.{Actor}
use Rattle.omi_pc.specs.declared.counter.Counter.{Counter}
use Rattle.omi_pc.specs.declared.place.Place.{Place}
use Rattle.omi_step_words.specs.Words.{is_free, used_word}
use Rattle.omi_actor.specs.Steps.{next_at}
use Rattle.omi_rule.specs.Rows.{place_of}
use Rattle.omi_rule.specs.Rule.{KeepsThread}
use Rattle.omi_rule.specs.Steps.{IsOn, RecordWord}
use Rattle.omi_rule.proofs.Assembly.{Before}
use Rattle.omi_rule.proofs.KeptObjects.{task_life}
use Rattle.omi_rule.proofs.StepsKept.{steps_keep}

-- a record in use is not free
pub used_taken : (n : Id) → is_free (used_word n) ≡ false
used_taken n = go ((2 * n.generation + 1) % 2 == 0) refl
  where
    go : (b : Bool) → (2 * n.generation + 1) % 2 == 0 ≡ b → b && nat_lt (used_word n) (2 ^ 33) ≡ false
    go true e = absurd (grind (arith, nat_tests))
    go false e = refl

-- a number is itself
pub same_number : (n : ℕ) → n == n ≡ true
same_number n = eq-eqb n n refl

-- the first word of a field of a record
abbrev pub word_of : ℕ → ℕ → Field → RecordWord
word_of creator slot f = record { creator = creator; slot = slot; field = f; place = 0 }

module _ (p : Program) (w : List ℕ) (m : Memory) (events : List (ℕ × Event)) (s : State) (actors : ℕ → Actor)
    (i : ℕ) (before : Before p w m events s actors i) where
  pub own : KeepsThread p w m events s i (actors i)
  own = before.rule.threads i before.known

  wide : (f : ℕ) → 0 < width w f
  wide f = codes.wide w before.valid f

  pub record_word : (kind creator slot : ℕ) (f : Field) → kind_of (number f) ≡ kind
      → IsSlot w kind creator slot → IsRecordWord w creator slot (number f) 0
  record_word kind creator slot f is there = record { field = numbered_field f; record_slot = subst (λ q. IsSlot w q creator slot) (sym is) there; within = wide (number f) }

  pub own_maker : (actors i).thread < thread_count w
  own_maker = subst (λ n. (actors i).thread < n) before.suits.threads own.fits.thread

  -- a word of the thread's own record
  pub thread_word : (f : Field) → kind_of (number f) ≡ threads
      → IsRecordWord w (actors i).thread 0 (number f) 0
  thread_word f is =
      let maker = own_maker in record_word threads (actors i).thread 0 f is (record { made_by = omega (arith, maker); within = omega arith })

  -- the life word of a live task is not free
  pub life_taken : (k : Tid) (t : Task) (q : Place) → task_of s k ≡ Some t → place_of k.0 ≡ q
      → is_free (m q.creator tasks q.slot (number TaskLife) 0) ≡ false
  life_taken k t q live is =
      ap is_free
      (ap (λ (q : Place). m q.creator tasks q.slot (number TaskLife) 0) (sym is) ∙ task_life p w m events s actors before.rule k t live)
      ∙ used_taken k.0

  -- whatever word it is
  pub some_word : (c : Counter) → (actors i).counter ≡ c
      → (x : RecordWord) × IsOn w (next_at p w (actors i) c) x
  some_word c at =
      subst (λ (d : Counter). (x : RecordWord) × IsOn w (next_at p w (actors i) d) x) at
      (let keeps = steps_keep p w m events s actors i before.valid before.suits before.rule before.known before.few in (keeps.0, keeps.1))
