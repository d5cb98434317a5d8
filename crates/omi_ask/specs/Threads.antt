-- The inquiries that find a thread, by the words that they read.
use Rattle.std.specs.Prelude.{◌==◌, ℕ, Bool, false, List, [], ◌∷◌, Option, Ok, Err, if◌then◌else◌}
use Rattle.std.specs.List.{range_with_len}
use Rattle.omi_handle.specs.declared.handle.Kind.TheVariants.{Thread}
use Rattle.omi_handle.specs.declared.handle.Held.{Held}
use Rattle.omi_layout.specs.declared.field.Field.TheVariants.{ThreadLife, ThreadNative, TaskThread}
use Rattle.omi_layout.specs.Table.{thread_count}
use Rattle.omi_rep.specs.Records.{thread_address}
use Rattle.omi_session.specs.declared.rc.Rc.TheVariants.{Unavailable, Unsupported}
use Rattle.omi_session.specs.Reads.{Reads, Answer, then_reads}
use Rattle.omi_session.specs.Inquiry.{live_handle, unchanged, word_of, follow, member}

module _ (w : List ℕ) where
  -- the object of thread number `i`, once it has begun
  abbrev pub begun : ℕ → Held
  begun i = record { kind = Thread; addr = thread_address w i; life = 1 }

  -- whether a thread has begun and has this native id
  unfoldable pub has_id : ℕ → ℕ → Reads Bool
  has_id native i =
      then_reads (word_of w (thread_address w i) ThreadLife 0) (λ life.
      if life == 1
      then then_reads (word_of w (thread_address w i) ThreadNative 0)
      (λ id. Answer (Ok (id == native)))
      else Answer (Ok false))

  -- the first of these threads that has begun and has this native id
  unfoldable pub first_with : ℕ → List ℕ → Reads Held
  first_with native [] = Answer (Err Unavailable)
  first_with native (i ∷ more) =
      then_reads (has_id native i)
      (λ is. if is then Answer (Ok (begun i)) else first_with native more)

  -- the thread with a native id of a kind. Kind 0 is the only one
  unfoldable pub thread_with : ℕ → ℕ → Reads Held
  thread_with kind native =
      if kind == 0 then first_with native (range_with_len 0 (thread_count w))
      else Answer (Err Unsupported)

  -- the native id of a thread
  unfoldable pub native_id : ℕ → Option Held → Reads ℕ
  native_id kind t =
      then_reads (Answer (live_handle Thread t)) (λ thread.
      if kind == 0
      then then_reads (unchanged w thread) (λ thread. word_of w thread.addr ThreadNative 0)
      else Answer (Err Unsupported))

  -- the thread of a member of a region
  unfoldable pub thread_of_member : Option Held → ℕ → Reads Held
  thread_of_member r num =
      then_reads (member w r num) (λ task. follow w Thread task.addr TaskThread 0)
