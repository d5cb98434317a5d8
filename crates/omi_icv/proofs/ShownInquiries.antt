-- Over words that show a state, the inquiries for control variables, states and tool words answer what the state does.
use Rattle.std.proofs.Common.{◌≡◌, ◌==◌, ◌%◌, ◌/◌, ◌<◌, ℕ, Bool, true, false, cond, List, ◌∷◌, [], Option, refl, ap, subst, ◌∙◌, arith}
use Rattle.std.specs.Prelude.{Result, Ok, Err}
use Rattle.std.specs.Fmt.{decimal}
use Rattle.omi_word.specs.Words.{Words}
use Rattle.omi_calls.specs.Told.{Told}
use Rattle.omi_numbers.specs.declared.words.TheConstants.{WAIT_PLACE}
use Rattle.omi_handle.specs.declared.handle.Kind.TheVariants as kind
use Rattle.omi_handle.specs.declared.handle.Held.{Held}
use Rattle.omi_numbers.specs.Words.{state_word, flag}
use Rattle.omi_numbers.specs.declared.variables.TheConstants.{MAX_ACTIVE_LEVELS_VAR, DEBUG_VAR, NUM_PROCS_VAR}
use Rattle.omi_numbers.specs.Variables.{name_of}
use Rattle.omi_layout.specs.declared.field.Field.TheVariants.{RuntimeDebug, RuntimeProcs, RuntimeMaxActive, ThreadState, TaskTool}
use Rattle.omi_model.specs.State.{State}
use Rattle.omi_rep.specs.Records.{runtime_address, thread_address, region_address, task_address}
use Rattle.omi_rep.proofs.SameReport.{small_state}
use Rattle.omi_session.specs.declared.rc.Rc.{Rc}
use Rattle.omi_session.specs.declared.rc.Rc.TheVariants.{NeedsStateTracking}
use Rattle.omi_session.specs.Inquiry.{object_of, word_of}
use Rattle.omi_session.specs.Made.{thread_pair, region_pair, task_pair}
use Rattle.omi_session.specs.Reads.{Reads, Answer, answer_on, after, then_reads, IsAnswer}
use Rattle.omi_session.specs.Shown.{ShowsTold, HoldsThread, HoldsRegion, HoldsTask, IsGiven, held_thread, held_region, held_task}
use Rattle.omi_session.proofs.Asked.{answer_then}
use Rattle.omi_session.proofs.ShownParts.{then_answered, word_told}
use Rattle.omi_session.proofs.ShownAnswers.{given_value, thread_object, region_object, task_object}
use Rattle.omi_text.specs.Lines.{named_value}
use Rattle.omi_icv.specs.declared.icv_text.Value.{Value}
use Rattle.omi_icv.specs.declared.scoped.Scoped.{Scoped}
use Rattle.omi_icv.specs.declared.scoped.Scoped.TheVariants.{Space, Thread, Parallel, Task}
use Rattle.omi_icv.specs.Display.{display_texts, space_words, display}
use Rattle.omi_icv.specs.Icvs.{icv_from_scope, icv_value, icv_string_from_scope}
use Rattle.omi_icv.specs.Records.{Handles, record_of_handle, record_of}
use Rattle.omi_icv.specs.Scopes.{scope_of}
use Rattle.omi_icv.specs.Spellings.{value_text}
use Rattle.omi_icv.specs.StateValues.{Content, as_number, as_text, value_in, values_of, number_of, text_of, state_of_thread, tool_of, display_of}
use Rattle.omi_icv.specs.StateWords.{state, tool_data}
use Rattle.omi_icv.specs.Subjects.{Subject, OfScoped}
use Rattle.omi_icv.specs.Table.{variable_in}
use Rattle.omi_icv.specs.Written.{IsWritten, IsWrittenOf}
use Rattle.omi_icv.proofs.Shown.{Agrees, text_read, switch_text}
use Rattle.omi_icv.proofs.ShownVariables.{space_agrees, thread_agrees, region_agrees, task_agrees}

-- a value that was read is spelled
spelled : (memory : Words) (value : Result Value Rc)
    → answer_on memory (after value (λ v. Answer (Ok (value_text v.spelling v.numbers)))) ≡ text_read value
spelled memory (Ok value) = refl
spelled memory (Err rc) = refl

-- what is read of a variable behind the record of what is asked about
module _ (w : List ℕ) (memory : Words) (held : Handles) (of : Scoped) (icv address : ℕ)
    (value : Result Content Rc)
    (there : answer_on memory (record_of w held of) ≡ Ok address)
    (agrees : Agrees w memory address (variable_in (scope_of of) icv) value) where
  number_read : answer_on memory (icv_from_scope w held of icv) ≡ as_number value
  unfolding icv_from_scope
  number_read =
      then_answered memory (record_of w held of) _ address there
      ∙ answer_then memory (Answer (variable_in (scope_of of) icv)) _
      ∙ agrees.number

  string_read : answer_on memory (icv_string_from_scope w held of icv) ≡ as_text value
  unfolding icv_string_from_scope icv_value
  string_read =
      answer_then memory (icv_value w held of icv) _
      ∙ spelled memory (answer_on memory (icv_value w held of icv))
      ∙ ap text_read (then_answered memory (record_of w held of) _ address there
      ∙ answer_then memory (Answer (variable_in (scope_of of) icv)) _)
      ∙ agrees.text

module _ (told : Told) (w : List ℕ) where
  -- what a call gives whose reads answer as the state does
  written_given : {A : Type 0} (s : State) (shown : ShowsTold told w s) (result : Result A Rc)
      (reads : Reads A) (answer : Result A Rc) → IsWrittenOf told result reads
      → answer_on shown.memory reads ≡ answer → IsWritten result answer
  written_given s shown result reads answer written is =
      subst (IsWritten result) is (written shown.memory shown.tells)

  -- the variables of the address space
  display_told : (s : State) (shown : ShowsTold told w s)
      → answer_on shown.memory (display w) ≡ Ok (display_of s)
  unfolding display space_words
  display_told s shown =
      let globals = shown.shows.records.globals in
      answer_then shown.memory (space_words w) _
      ∙ ap (λ r. answer_on shown.memory (after r (λ words. Answer (Ok (display_texts words)))))
      (then_answered shown.memory (word_of w (runtime_address w) RuntimeDebug 0) _
      (flag s.environment.debug)
      (word_told w shown.memory (runtime_address w) RuntimeDebug 0 _
      (globals RuntimeDebug 0 _ refl refl))
      ∙ then_answered shown.memory (word_of w (runtime_address w) RuntimeProcs 0) _
      s.environment.procs
      (word_told w shown.memory (runtime_address w) RuntimeProcs 0 _
      (globals RuntimeProcs 0 _ refl refl))
      ∙ then_answered shown.memory (word_of w (runtime_address w) RuntimeMaxActive 0) _ s.max_active
      (word_told w shown.memory (runtime_address w) RuntimeMaxActive 0 _
      (globals RuntimeMaxActive 0 _ refl refl)))
      ∙ ap
      (λ debug. Ok (named_value (name_of DEBUG_VAR) debug
      ∷ named_value (name_of NUM_PROCS_VAR) (decimal s.environment.procs)
      ∷ named_value (name_of MAX_ACTIVE_LEVELS_VAR) (decimal s.max_active) ∷ []))
      (switch_text s.environment.debug)

  pub display_given : (s : State) (shown : ShowsTold told w s) (result : Result (List (List ℕ)) Rc)
      → IsWrittenOf told result (display w) → IsWritten result (Ok (display_of s))
  display_given s shown result written =
      written_given s shown result (display w) _ written (display_told s shown)

module _ (told : Told) (w : List ℕ) (held : Handles) where
  module _ (s : State) (shown : ShowsTold told w s) where
    -- the records of the objects of handles
    thread_record : (found : Option Held) (h : HoldsThread w s found)
        → answer_on shown.memory (record_of_handle w kind.Thread found) ≡ Ok (thread_address w h.thread)
    unfolding record_of_handle
    thread_record found h =
        then_answered shown.memory (object_of w kind.Thread found) _ (held_thread w h.thread)
        (thread_object told w s shown found h)

    region_record : (found : Option Held) (h : HoldsRegion w s found)
        → answer_on shown.memory (record_of_handle w kind.Region found) ≡ Ok (region_address w h.name)
    unfolding record_of_handle
    region_record found h =
        then_answered shown.memory (object_of w kind.Region found) _ (held_region w h.name)
        (region_object told w s shown found h)

    task_record : (found : Option Held) (h : HoldsTask w s found)
        → answer_on shown.memory (record_of_handle w kind.Task found) ≡ Ok (task_address w h.name)
    unfolding record_of_handle
    task_record found h =
        then_answered shown.memory (object_of w kind.Task found) _ (held_task w h.name)
        (task_object told w s shown found h)

    -- the state of a thread
    state_of_word : (state wait : ℕ) → state < WAIT_PLACE
        → (let word = state_word state wait in
        ◌≡◌ {A = ℕ × ℕ} (word % WAIT_PLACE, word / WAIT_PLACE) (state, wait))
    state_of_word x y small =
        let low : state_word x y % WAIT_PLACE ≡ x = omega (arith, small) in
        let rest : state_word x y / WAIT_PLACE ≡ y = omega (arith, small) in
        λ i. (low i, rest i)

    pub state_told : (found : Option Held) (h : HoldsThread w s found)
        → answer_on shown.memory (state w found) ≡ state_of_thread s h.thread
    unfolding state
    state_told found h =
        let debug = shown.shows.records.globals RuntimeDebug 0 _ refl refl in
        then_answered shown.memory (object_of w kind.Thread found) _ (held_thread w h.thread)
        (thread_object told w s shown found h)
        ∙ then_answered shown.memory (word_of w (runtime_address w) RuntimeDebug 0) _
        (flag s.environment.debug)
        (word_told w shown.memory (runtime_address w) RuntimeDebug 0 _ debug)
        ∙ go s.environment.debug
      where
        kept : ℕ → Reads (ℕ × ℕ)
        kept word = Answer (Ok (word % WAIT_PLACE, word / WAIT_PLACE))

        -- the words of the thread, as the state has them
        life : ℕ
        life = (s.threads h.thread).state

        wait : ℕ
        wait = (s.threads h.thread).wait

        go : (b : Bool)
            → answer_on {A = ℕ × ℕ} shown.memory (cond (flag b == 0) (Answer (Err NeedsStateTracking))
            (then_reads (word_of w (thread_address w h.thread) ThreadState 0) kept))
            ≡ cond b (Ok (life, wait)) (Err NeedsStateTracking)
        go true =
            let word =
            shown.shows.records.threads h.thread h.begun.known h.begun.begun ThreadState 0 _ refl refl in
            let small = small_state _ (shown.shows.within.well_formed.states h.thread h.begun.known) in
            then_answered shown.memory (word_of w (thread_address w h.thread) ThreadState 0) kept
            (state_word life wait)
            (word_told w shown.memory (thread_address w h.thread) ThreadState 0 _ word)
            ∙ ap Ok (state_of_word life wait small)
        go false = refl

  -- what a call gives whose reads are those of the state
  pub state_given : (found : Option Held) (result : Result (ℕ × ℕ) Rc)
      → IsAnswer told result (state w found) → (s : State) (shown : ShowsTold told w s)
      (h : HoldsThread w s found) → IsGiven result (state_of_thread s h.thread)
  state_given found result answers s shown h =
      given_value told w s shown result (state w found) _ answers (state_told s shown found h)

  -- the record of what is asked about is found, and a variable read there agrees with its content in the state
  ReadsContent : Scoped → ℕ → State → Subject → Type 0
  ReadsContent of icv s subject = (shown : ShowsTold told w s)
      → (address : ℕ) × (answer_on shown.memory (record_of w held of) ≡ Ok address)
      × Agrees w shown.memory address (variable_in (scope_of of) icv)
      (value_in (values_of s subject) icv)

  content_read : (of : Scoped) (icv : ℕ) → OfScoped told w held of (ReadsContent of icv)
  unfolding ReadsContent
  content_read Space icv = λ s _ shown. (runtime_address w, refl, space_agrees w s told shown icv)
  content_read (Thread t) icv =
      λ s _ h shown. (
        thread_address w h.thread,
        thread_record s shown (held (thread_pair t)) h,
        thread_agrees w s told shown h.thread h.begun icv,
      )
  content_read (Parallel r) icv =
      λ s _ h shown. (
        region_address w h.name,
        region_record s shown (held (region_pair r)) h,
        region_agrees w s told shown h.name h.seen icv,
      )
  content_read (Task k) icv =
      λ s _ h shown. (
        task_address w h.name,
        task_record s shown (held (task_pair k)) h,
        task_agrees w s told shown h.name h.seen icv,
      )

  -- what follows from a fact of each subject holds of it too
  of_scoped : (of : Scoped) (P Q : State → Subject → Type 0) → OfScoped told w held of P
      → ((s : State) (subject : Subject) → ShowsTold told w s → P s subject → Q s subject)
      → OfScoped told w held of Q
  of_scoped Space P Q holds then = λ s shown. then s _ shown (holds s shown)
  of_scoped (Thread t) P Q holds then = λ s shown h. then s _ shown (holds s shown h)
  of_scoped (Parallel r) P Q holds then = λ s shown h. then s _ shown (holds s shown h)
  of_scoped (Task k) P Q holds then = λ s shown h. then s _ shown (holds s shown h)

  -- a variable as a number
  pub number_given : (of : Scoped) (icv : ℕ) (result : Result ℕ Rc)
      → IsAnswer told result (icv_from_scope w held of icv)
      → OfScoped told w held of (λ s subject. IsGiven result (number_of s subject icv))
  unfolding ReadsContent
  number_given of icv result answers = of_scoped of _ _ (content_read of icv) (λ s subject shown read.
      let (address, there, agrees) = read shown in
      given_value told w s shown result (icv_from_scope w held of icv) _ answers
      (number_read w shown.memory held of icv address _ there agrees))

  -- and as a text
  pub text_given : (of : Scoped) (icv : ℕ) (result : Result (List ℕ) Rc)
      → IsWrittenOf told result (icv_string_from_scope w held of icv)
      → OfScoped told w held of (λ s subject. IsWritten result (text_of s subject icv))
  unfolding ReadsContent
  text_given of icv result written = of_scoped of _ _ (content_read of icv) (λ s subject shown read.
      let (address, there, agrees) = read shown in
      written_given told w s shown result (icv_string_from_scope w held of icv) _ written
      (string_read w shown.memory held of icv address _ there agrees))

  -- the tool word
  pub tool_given : (of : Scoped) (result : Result ℕ Rc) → IsAnswer told result (tool_data w held of)
      → OfScoped told w held of (λ s subject. IsGiven result (tool_of subject))
  unfolding tool_data
  tool_given Space result answers = λ s shown.
      given_value told w s shown result (tool_data w held Space) _ answers
      (then_answered shown.memory (record_of w held Space) _ (runtime_address w) refl)
  tool_given (Thread t) result answers = λ s shown h.
      given_value told w s shown result (tool_data w held (Thread t)) _ answers
      (then_answered shown.memory (record_of w held (Thread t)) _ (thread_address w h.thread)
      (thread_record s shown (held (thread_pair t)) h))
  tool_given (Parallel r) result answers = λ s shown h.
      given_value told w s shown result (tool_data w held (Parallel r)) _ answers
      (then_answered shown.memory (record_of w held (Parallel r)) _ (region_address w h.name)
      (region_record s shown (held (region_pair r)) h))
  tool_given (Task k) result answers = λ s shown h.
      given_value told w s shown result (tool_data w held (Task k)) _ answers
      (then_answered shown.memory (record_of w held (Task k)) _ (task_address w h.name)
      (task_record s shown (held (task_pair k)) h)
      ∙ word_told w shown.memory (task_address w h.name) TaskTool 0 _
      (shown.shows.records.tasks h.name h.seen TaskTool 0 _ refl refl))
