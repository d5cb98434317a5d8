-- What a walk asks about threads: the row of each context, and the current task of its thread.
use Rattle.std.specs.Prelude.{ℕ, List, map, Option, Some, None, Ok}
use Rattle.std.specs.Option.{option_map}
use Rattle.std.specs.List.{flat_map}
use Rattle.omi_handle.specs.declared.handle.Held.{Held}
use Rattle.omi_numbers.specs.declared.variables.TheConstants.{THREAD_NUM_VAR}
use Rattle.omi_session.specs.Reads.{Answer, then_reads}
use Rattle.omi_ask.specs.Threads.{thread_with}
use Rattle.omi_icv.specs.declared.scoped.Scoped.TheVariants.{Thread}
use Rattle.omi_icv.specs.Icvs.{icv_from_scope}
use Rattle.omi_icv.specs.StateWords.{state}
use Rattle.omi_session.specs.Inquiry.{current_task}
use Rattle.omi_walk.specs.declared.met.Met.{Met}
use Rattle.omi_walk.specs.declared.threads.SeenPart.{SeenPart}
use Rattle.omi_walk.specs.declared.threads.SeenThread.{SeenThread}
use Rattle.omi_walk.specs.declared.thread_rows.SeenThreads.{SeenThreads}
use Rattle.omi_walk.specs.Asking.{Asks, answering, with_answer, ask_each, ask_maybe, maybe_absent, maybe_untracked}
use Rattle.omi_walk.specs.Objects.{name_in}
use Rattle.omi_walk.specs.SeenThreads.{found_in}

-- the rows of contexts, and the threads that were found for them
abbrev pub all_seen : List SeenThread → SeenThreads
all_seen seen = record {
  rows = map (λ s. s.row) seen;
  found = flat_map (λ s. found_in s.row.found s.current) seen;
}

module _ (w : List ℕ) where
  -- the thread that has begun and has a native id, where there is one
  abbrev pub ask_thread_with : ℕ → Asks (Option Met)
  ask_thread_with native = ask_maybe w None (thread_with w 0 native)

  -- the state of a thread, where states are kept
  unfoldable pub ask_state : Option Held → Asks (Option (ℕ × ℕ))
  ask_state t = answering (maybe_untracked t) (state w t)

  -- its current task, where it has one
  abbrev pub ask_current : Option Held → Asks (Option Met)
  ask_current t = ask_maybe w t (current_task w t)

  -- and its number in the team of this task
  unfoldable pub ask_number : Option Held → Asks (Option ℕ)
  ask_number t =
      answering (maybe_absent t)
      (icv_from_scope w (λ _. t) (Thread (record { key = 0; serial = 0 })) THREAD_NUM_VAR)

  -- what is seen of the thread of this number
  unfoldable pub ask_part : ℕ → Option Held → Asks SeenPart
  ask_part i t =
      then_reads (ask_state t) (λ state.
      then_reads (ask_current t) (λ current.
      then_reads (ask_number t) (λ number.
      Answer (Ok (record {
        part = record {
          thread = i;
          state = state;
          number = number;
          current = option_map (λ n. record { 0 = n }) (name_in current);
        };
        current = current;
      })))))

  -- the row of a context by its thread, if one was found
  unfoldable pub ask_found : ℕ → Option Met → Asks SeenThread
  ask_found native None =
      Answer (Ok (record { row = record { native = native; found = None }; current = None }))
  ask_found native (Some t) =
      with_answer (λ (seen : SeenPart). record {
        row = record { native = native; found = Some seen.part };
        current = seen.current;
      }) (ask_part t.name.creator (Some t.held))

  unfoldable pub ask_thread : ℕ → Asks SeenThread
  ask_thread native = then_reads (ask_thread_with native) (ask_found native)

  -- the rows of contexts in their order
  unfoldable pub ask_threads : List ℕ → Asks SeenThreads
  ask_threads contexts = with_answer all_seen (ask_each ask_thread contexts)
