-- Over words that show a state, the inquiries that find a thread, and the one for its native id, answer what the state does.
use Rattle.std.proofs.Common.{◌≡◌, ◌==◌, ℕ, zero, suc, ◌+◌, ◌-◌, ◌<◌, ◌&&◌, Bool, true, false, cond, List, Option, Some, None, refl, sym, ap, ◌∙◌, arith, nat_lt, eqb-true}
use Rattle.std.specs.Prelude.{Ok, Err, nat_le, slice_get}
use Rattle.std.specs.Option.{option_map, ok_or}
use Rattle.std.specs.List.{range_with_len}
use Rattle.std.proofs.lemmas.Bool.Decides.{nat_tests}
use Rattle.omi_calls.specs.Told.{Told}
use Rattle.omi_handle.specs.declared.handle.Kind.TheVariants as kind
use Rattle.omi_handle.specs.declared.handle.Held.{Held}
use Rattle.omi_layout.specs.declared.field.Field.TheVariants.{ThreadLife, ThreadNative, TaskThread}
use Rattle.omi_layout.specs.Table.{thread_count}
use Rattle.omi_model.specs.declared.id.Tid.{Tid}
use Rattle.omi_numbers.specs.Words.{flag}
use Rattle.omi_model.specs.State.{State}
use Rattle.omi_model.specs.Views as view
use Rattle.omi_rep.specs.Records.{thread_address}
use Rattle.omi_session.specs.declared.rc.Rc.TheVariants.{Unavailable, BadInput, Unsupported}
use Rattle.omi_session.specs.Inquiry.{live_handle, unchanged, word_of, follow, member}
use Rattle.omi_session.specs.Reads.{Answer, answer_on, then_reads}
use Rattle.omi_session.specs.Answers as answer
use Rattle.omi_session.specs.Shown.{ShowsTold, HoldsThread, HoldsRegion, held_thread, held_task, as_held}
use Rattle.omi_rep.proofs.LiveObjects.{thread_lives}
use Rattle.omi_session.proofs.ShownParts.{then_answered, then_refused, word_told, handle_told, unchanged_told}
use Rattle.omi_session.proofs.ShownAnswers.{region_member, known_member, task_thread}
use Rattle.omi_ask.specs.Threads.{begun, has_id, first_with, thread_with, native_id, thread_of_member}

and_false : (b : Bool) → b && false ≡ false
and_false true = refl
and_false false = refl

-- the thread with a native id, where it is none of the first `a` threads
abbrev thread_from : State → ℕ → ℕ → Option ℕ
thread_from s native a =
    cond ((nat_le (1000 + a) native && nat_lt (native - 1000) s.count) && (s.threads (native - 1000)).begun)
    (Some (native - 1000)) None

-- it is the next one
from_here : (s : State) (native a : ℕ) → a < s.count → (s.threads a).begun ≡ true → 1000 + a ≡ native
    → thread_from s native a ≡ Some a
from_here s native a known begun same =
    let at : native - 1000 ≡ a = omega (arith, same) in
    let reached : nat_le (1000 + a) native ≡ true = grind (arith, nat_tests) in
    let low : nat_lt (native - 1000) s.count ≡ true = grind (arith, nat_tests) in
    let is : (s.threads (native - 1000)).begun ≡ true = ap (λ i. (s.threads i).begun) at ∙ begun in
    λ k. cond ((reached k && low k) && is k) (Some (at k)) None

-- or it is not
not_here : (s : State) (native a : ℕ) → (s.threads a).begun && 1000 + a == native ≡ false
    → thread_from s native a ≡ thread_from s native (a + 1)
not_here s native a other = go (1000 + a == native) refl
  where
    never : (s.threads a).begun && true ≡ false → (s.threads a).begun ≡ false
    never e = unit (s.threads a).begun e
      where
        unit : (b : Bool) → b && true ≡ false → b ≡ false
        unit true e = e
        unit false e = e

    go : (b : Bool) → 1000 + a == native ≡ b → thread_from s native a ≡ thread_from s native (a + 1)
    go true e =
        let same : 1000 + a ≡ native = eqb-true (1000 + a) native e in
        let at : native - 1000 ≡ a = omega (arith, same) in
        let past : nat_le (1000 + (a + 1)) native ≡ false = grind (arith, nat_tests) in
        let idle : (s.threads (native - 1000)).begun ≡ false =
        ap (λ i. (s.threads i).begun) at ∙ never (ap (λ b. (s.threads a).begun && b) (sym e) ∙ other) in
        ap
        (λ b. cond ((nat_le (1000 + a) native && nat_lt (native - 1000) s.count) && b) (Some (native - 1000)) None) idle
        ∙ ap (λ b. cond b (Some (native - 1000)) None)
        (and_false (nat_le (1000 + a) native && nat_lt (native - 1000) s.count))
        ∙ sym
        (ap (λ b. cond ((b && nat_lt (native - 1000) s.count) && (s.threads (native - 1000)).begun) (Some (native - 1000)) None) past)
    go false e =
        let tests : nat_le (1000 + a) native ≡ nat_le (1000 + (a + 1)) native = grind (arith, nat_tests) in
        ap
        (λ b. cond ((b && nat_lt (native - 1000) s.count) && (s.threads (native - 1000)).begun) (Some (native - 1000)) None) tests

-- there is none behind the last one
none_behind : (s : State) (native a : ℕ) → a ≡ s.count → thread_from s native a ≡ None
none_behind s native a past = go (nat_le (1000 + a) native) refl
  where
    go : (b : Bool) → nat_le (1000 + a) native ≡ b → thread_from s native a ≡ None
    go true e =
        let low : nat_lt (native - 1000) s.count ≡ false = grind (arith, nat_tests) in
        λ k. cond ((e k && low k) && (s.threads (native - 1000)).begun) (Some (native - 1000)) None
    go false e =
        ap
        (λ b. cond ((b && nat_lt (native - 1000) s.count) && (s.threads (native - 1000)).begun) (Some (native - 1000)) None) e

module _ (told : Told) (w : List ℕ) (s : State) (shown : ShowsTold told w s) where
  -- whether a thread has begun and has the id
  has_id_told : (native i : ℕ) → i < s.count
      → answer_on shown.memory (has_id w native i) ≡ Ok ((s.threads i).begun && 1000 + i == native)
  unfolding has_id
  has_id_told native i known =
      then_answered shown.memory (word_of w (thread_address w i) ThreadLife 0) _ (flag (s.threads i).begun)
      (word_told w shown.memory (thread_address w i) ThreadLife 0 _ (shown.shows.records.lives i known ThreadLife 0 _ refl refl))
      ∙ go (s.threads i).begun
    where
      go : (b : Bool)
          → answer_on shown.memory (cond (flag b == 1) (then_reads (word_of w (thread_address w i) ThreadNative 0) (λ id. Answer (Ok (id == native)))) (Answer (Ok false)))
          ≡ Ok (b && 1000 + i == native)
      go true =
          then_answered shown.memory (word_of w (thread_address w i) ThreadNative 0)
          (λ id. Answer (Ok (id == native))) (1000 + i)
          (word_told w shown.memory (thread_address w i) ThreadNative 0 _ (shown.shows.records.lives i known ThreadNative 0 _ refl refl))
      go false = refl

  -- the first thread from one on that has begun and has the id
  first_told : (native n a : ℕ) → a + n ≡ s.count
      → answer_on shown.memory (first_with w native (range_with_len a n)) ≡ as_held (held_thread w) (ok_or (thread_from s native a) Unavailable)
  unfolding first_with
  first_told native zero a all =
      let past : a ≡ s.count = omega (arith, all) in
      sym (ap (λ (o : Option ℕ). as_held (held_thread w) (ok_or o Unavailable)) (none_behind s native a past))
  first_told native (suc n) a all =
      then_answered shown.memory (has_id w native a) _ ((s.threads a).begun && 1000 + a == native)
      (has_id_told native a (omega (arith, all)))
      ∙ go ((s.threads a).begun && 1000 + a == native) refl (first_told native n (a + 1) (omega (arith, all)))
    where
      go : (b : Bool) → (s.threads a).begun && 1000 + a == native ≡ b
          → answer_on shown.memory (first_with w native (range_with_len (a + 1) n)) ≡ as_held (held_thread w) (ok_or (thread_from s native (a + 1)) Unavailable)
          → answer_on shown.memory (cond b (Answer (Ok (begun w a))) (first_with w native (range_with_len (a + 1) n))) ≡ as_held (held_thread w) (ok_or (thread_from s native a) Unavailable)
      go true e more =
          let known : a < s.count = omega (arith, all) in
          let both = test_parts (s.threads a).begun (1000 + a == native) e in
          sym
          (ap (λ (o : Option ℕ). as_held (held_thread w) (ok_or o Unavailable)) (from_here s native a known both.0 (eqb-true (1000 + a) native both.1)))
        where
          test_parts : (x y : Bool) → x && y ≡ true → (x ≡ true) × (y ≡ true)
          test_parts true y e = (refl, e)
          test_parts false y e = absurd (cc)
      go false e more =
          more
          ∙ sym (ap (λ (o : Option ℕ). as_held (held_thread w) (ok_or o Unavailable)) (not_here s native a e))

  -- the thread with a native id of a kind
  pub thread_with_told : (kind native : ℕ)
      → answer_on shown.memory (thread_with w kind native) ≡ as_held (held_thread w) (answer.thread_with s kind native)
  unfolding thread_with
  thread_with_told kind native = go (kind == 0)
    where
      go : (b : Bool)
          → answer_on shown.memory (cond b (first_with w native (range_with_len 0 (thread_count w))) (Answer (Err Unsupported)))
          ≡ as_held (held_thread w) (cond b (ok_or (view.thread_with s native) Unavailable) (Err Unsupported))
      go true = first_told native (thread_count w) 0 (omega (arith, shown.shows.within.count))
      go false = refl

  -- the native id of a thread
  pub native_id_told : (id_kind : ℕ) (found : Option Held) (t : HoldsThread w s found)
      → answer_on shown.memory (native_id w id_kind found) ≡ answer.id_of_thread id_kind t.thread
  unfolding native_id
  native_id_told id_kind found t =
      then_answered shown.memory (Answer (live_handle kind.Thread found)) _ (held_thread w t.thread)
      (handle_told w shown.memory kind.Thread 1 (thread_address w t.thread) found t.is)
      ∙ go (id_kind == 0)
    where
      go : (b : Bool)
          → answer_on shown.memory (cond b (then_reads (unchanged w (held_thread w t.thread)) (λ thread. word_of w thread.addr ThreadNative 0)) (Answer (Err Unsupported)))
          ≡ cond b (Ok (1000 + t.thread)) (Err Unsupported)
      go true =
          then_answered shown.memory (unchanged w (held_thread w t.thread)) _ (held_thread w t.thread)
          (unchanged_told w shown.memory kind.Thread 1 (thread_address w t.thread) (thread_lives w shown.memory s shown.valid shown.shows t.thread t.begun))
          ∙ word_told w shown.memory (thread_address w t.thread) ThreadNative 0 _
          (shown.shows.records.lives t.thread t.begun.known ThreadNative 0 _ refl refl)
      go false = refl

  -- the thread of a member of a region
  pub thread_of_member_told : (found : Option Held) (r : HoldsRegion w s found) (num : ℕ)
      → answer_on shown.memory (thread_of_member w found num) ≡ as_held (held_thread w) (answer.thread_of_member r.seen.region num)
  unfolding thread_of_member
  thread_of_member_told found r num = go (slice_get r.seen.region.team num) refl
    where
      task : (o : Option (Tid × ℕ)) → slice_get r.seen.region.team num ≡ o
          → answer_on shown.memory (member w found num) ≡ as_held (held_task w) (ok_or (option_map (λ m. m.0) o) BadInput)
      task o e =
          region_member told w s shown found r num
          ∙ ap (λ (x : Option (Tid × ℕ)). as_held (held_task w) (ok_or (option_map (λ m. m.0) x) BadInput)) e

      as_answered : (o : Option (Tid × ℕ)) → slice_get r.seen.region.team num ≡ o
          → as_held (held_thread w) (ok_or (option_map (λ m. m.1) o) BadInput) ≡ as_held (held_thread w) (answer.thread_of_member r.seen.region num)
      as_answered o e =
          sym
          (ap (λ (x : Option (Tid × ℕ)). as_held (held_thread w) (ok_or (option_map (λ m. m.1) x) BadInput)) e)

      go : (o : Option (Tid × ℕ)) → slice_get r.seen.region.team num ≡ o
          → answer_on shown.memory (then_reads (member w found num) (λ task. follow w kind.Thread task.addr TaskThread 0)) ≡ as_held (held_thread w) (answer.thread_of_member r.seen.region num)
      go None e = then_refused shown.memory (member w found num) _ BadInput (task None e) ∙ as_answered None e
      go (Some m) e =
          let known = known_member told w s shown r.name r.seen num m e in
          then_answered shown.memory (member w found num) _ (held_task w m.0) (task (Some m) e)
          ∙ task_thread told w s shown m.0 known.visible
          ∙ ap (λ i. Ok (held_thread w i)) (known.same known.visible.task known.visible.live)
          ∙ as_answered (Some m) e
