-- The words in a thread's own record: that they are words of the layout, and that the thread's operations are on them.
use Rattle.std.proofs.Common.{◌≡◌, ◌<◌, ℕ, List, sym, ap, subst, arith}
use Rattle.omi_word.specs.declared.op.Op.TheVariants as op
use Rattle.omi_script.specs.declared.program.Program.{Program}
use Rattle.omi_model.specs.declared.event.Event.{Event}
use Rattle.omi_model.specs.State.{State}
use Rattle.omi_layout.specs.declared.field.Field.{Field}
use Rattle.omi_layout.specs.Field.{kind_of, threads}
use Rattle.omi_layout.specs.Memory.{IsRecordWord, Memory}
use Rattle.omi_layout.specs.Named.{number}
use Rattle.omi_layout.specs.Place.{IsSlot}
use Rattle.omi_layout.specs.Table.{thread_count, width}
use Rattle.omi_layout.proofs.Numbers.{numbered_field}
use Rattle.omi_rep.proofs.Codes as codes
use Rattle.omi_pc.specs.declared.actor.Actor.{Actor}
use Rattle.omi_step_words.specs.Words.{of_thread}
use Rattle.omi_rule.specs.Steps.{IsOn, RecordWord}
use Rattle.omi_rule.proofs.Assembly.{Before}

-- the word of a field in the record of thread i
abbrev pub thread_word : ℕ → Field → RecordWord
thread_word i f = record { creator = i; slot = 0; field = f; place = 0 }

module _ (p : Program) (w : List ℕ) (m : Memory) (events : List (ℕ × Event)) (s : State) (actors : ℕ → Actor)
    (i : ℕ) (before : Before p w m events s actors i) where
  known_thread : i < thread_count w
  known_thread = subst (λ n. i < n) before.rule.within.count before.known

  wide : (f : ℕ) → 0 < width w f
  wide f = codes.wide w before.valid f

  -- an actor's thread is i
  pub own_thread : (f : Field) → of_thread w (actors i).thread f ≡ of_thread w i f
  own_thread f = ap (λ j. of_thread w j f) (before.rule.threads i before.known).thread

  pub thread_there : (f : Field) → kind_of (number f) ≡ threads → IsRecordWord w i 0 (number f) 0
  thread_there f kind = record { field = numbered_field f; record_slot = subst (λ q. IsSlot w q i 0) (sym kind) (record { made_by = known_thread; within = omega arith }); within = wide (number f) }

  pub load_on : (f : Field) → kind_of (number f) ≡ threads
      → IsOn w (op.Load (of_thread w (actors i).thread f)) (thread_word i f)
  load_on f kind = record { there = thread_there f kind; address = own_thread f }

  pub store_on : (f : Field) (v : ℕ) → kind_of (number f) ≡ threads
      → IsOn w (op.Store (of_thread w (actors i).thread f) v) (thread_word i f)
  store_on f v kind = record { there = thread_there f kind; address = own_thread f }
