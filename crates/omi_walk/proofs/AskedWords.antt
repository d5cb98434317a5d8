-- What a walk asks about an object itself is a plain look at its record.
use Rattle.std.proofs.Common.{◌≡◌, ℕ, List, Some, None, refl, sym, ap, subst, ◌∙◌}
use Rattle.std.specs.Prelude.{Result, Ok}
use Rattle.omi_word.specs.Words.{Words}
use Rattle.omi_handle.specs.declared.handle.Kind.{Kind}
use Rattle.omi_handle.specs.declared.handle.Kind.TheVariants.{Region, Task}
use Rattle.omi_handle.specs.declared.handle.Held.{Held}
use Rattle.omi_asktask.specs.TaskWords.{function}
use Rattle.omi_icv.specs.declared.scoped.Scoped.{Scoped}
use Rattle.omi_icv.specs.declared.scoped.Scoped.TheVariants as scoped
use Rattle.omi_icv.specs.declared.variable.Source.TheVariants.{Word}
use Rattle.omi_icv.specs.declared.variable.Variable.{Variable}
use Rattle.omi_icv.specs.Icvs.{icv_from_scope}
use Rattle.omi_icv.specs.Records.{record_of, record_of_handle}
use Rattle.omi_icv.specs.Scopes.{scope_of}
use Rattle.omi_icv.specs.StateWords.{tool_data, tool_word}
use Rattle.omi_icv.specs.Table.{variable_in}
use Rattle.omi_icv.specs.Values.{number_in}
use Rattle.omi_layout.specs.declared.field.Field.{Field}
use Rattle.omi_layout.specs.declared.field.Field.TheVariants.{RuntimeVersion, RuntimeDebug, RuntimeProcs, RuntimeMaxActive, RegionFunction, RegionSize, TaskFunction, TaskTool}
use Rattle.omi_layout.specs.Table.{thread_count}
use Rattle.omi_model.specs.declared.id.Id.{Id}
use Rattle.omi_numbers.specs.declared.variables.TheConstants.{TEAM_SIZE_VAR, DEBUG_VAR, NUM_PROCS_VAR, MAX_ACTIVE_LEVELS_VAR}
use Rattle.omi_rep.specs.Look.{Look, id_address, look_word}
use Rattle.omi_rep.specs.LookView.{look_within, look_head, read_runtime, read_region, read_task}
use Rattle.omi_rep.specs.Records.{runtime_address}
use Rattle.omi_session.specs.declared.rc.Rc.{Rc}
use Rattle.omi_session.specs.Inquiry.{word_of, team_size}
use Rattle.omi_session.specs.Named.{record_kind}
use Rattle.omi_session.specs.Reads.{Answer, answer_on, then_reads}
use Rattle.omi_session.proofs.LookedLaws.{word_is_looked}
use Rattle.omi_session.proofs.ShownParts.{then_answered}
use Rattle.omi_walk.specs.Asking.{answering}
use Rattle.omi_walk.specs.AskWords.{ask_space, ask_region_variable, ask_task_variable, ask_function, ask_tool, ask_entry, ask_version, ask_head}
use Rattle.omi_walk.specs.Fault.{walked}
use Rattle.omi_walk.specs.Parts.{look_size}
use Rattle.omi_walk.proofs.AskedLooks.{Alike, Same, Lives, alike_walked, alike_on, after_object, word_looked}
use Rattle.omi_walk.proofs.MemberLooks.{size_looked}
use Rattle.omi_walk.proofs.Looked.{ValueIs}
use Rattle.omi_walk.proofs.WordLooks.{variable_answers}

module _ (w : List ℕ) (memory : Words) (kind : Kind) (h : Held) (n : Id) (st : Lives w memory kind h n) where
  pub record_answers : answer_on memory (record_of_handle w kind (Some h)) ≡ Ok h.addr
  unfolding record_of_handle
  record_answers = after_object w memory kind h n st (λ o. Answer (Ok o.addr))

  -- a variable of the object, by where its value stands
  pub alike_variable : (of : Scoped) (icv : ℕ) (v : Variable) (l : Look ℕ)
      → record_of w (λ _. Some h) of ≡ record_of_handle w kind (Some h) → variable_in (scope_of of) icv ≡ Ok v
      → ValueIs (answer_on memory (number_in w v.source h.addr)) l → Alike Same (answer_on memory (answering (walked (Some h)) (icv_from_scope w (λ _. Some h) of icv))) l
  alike_variable of icv v l of_handle is looked =
      alike_walked memory (Some h) (icv_from_scope w (λ _. Some h) of icv) l
      (subst (λ (a : Result ℕ Rc). ValueIs a l) (sym (variable_answers w memory (λ _. Some h) of icv h.addr v (ap (answer_on memory) of_handle ∙ record_answers) is)) looked)

  -- one that is a word of its record
  pub alike_word_variable : (of : Scoped) (icv : ℕ) (v : Variable) (f : Field)
      → record_of w (λ _. Some h) of ≡ record_of_handle w kind (Some h) → variable_in (scope_of of) icv ≡ Ok v
      → v.source ≡ Word f
      → Alike Same (answer_on memory (answering (walked (Some h)) (icv_from_scope w (λ _. Some h) of icv)))
      (look_word w memory (id_address w (record_kind kind) n) f 0)
  alike_word_variable of icv v f of_handle is source =
      alike_variable of icv v (look_word w memory (id_address w (record_kind kind) n) f 0) of_handle is
      (subst (λ source. ValueIs (answer_on memory (number_in w source h.addr)) (look_word w memory (id_address w (record_kind kind) n) f 0)) (sym source) (word_looked w memory kind h n st f 0))

module _ (w : List ℕ) (memory : Words) (h : Held) (n : Id) where
  pub alike_task_variable : (icv : ℕ) (v : Variable) (f : Field) → Lives w memory Task h n
      → variable_in (scope_of (scoped.Task (record { key = 0; serial = 0 }))) icv ≡ Ok v → v.source ≡ Word f
      → Alike Same (answer_on memory (ask_task_variable w icv (Some h))) (read_task w memory n f)
  unfolding ask_task_variable
  alike_task_variable icv v f st is source =
      alike_word_variable w memory Task h n st
      (scoped.Task (record { key = 0; serial = 0 })) icv v f refl is source

  pub alike_region_variable : (icv : ℕ) (v : Variable) (f : Field) → Lives w memory Region h n
      → variable_in (scope_of (scoped.Parallel (record { key = 0; serial = 0 }))) icv ≡ Ok v
      → v.source ≡ Word f
      → Alike Same (answer_on memory (ask_region_variable w icv (Some h))) (read_region w memory n f)
  unfolding ask_region_variable
  alike_region_variable icv v f st is source =
      alike_word_variable w memory Region h n st
      (scoped.Parallel (record { key = 0; serial = 0 })) icv v f refl is source

  pub alike_size : Lives w memory Region h n
      → Alike Same (answer_on memory (ask_region_variable w TEAM_SIZE_VAR (Some h))) (look_size w memory n)
  unfolding ask_region_variable
  alike_size st =
      alike_variable w memory Region h n st (scoped.Parallel (record { key = 0; serial = 0 })) TEAM_SIZE_VAR _
      (look_size w memory n) refl refl
      (subst (λ a. ValueIs (answer_on memory (team_size w h.addr)) (look_within w memory a RegionSize 1 (thread_count w))) st.at (size_looked w memory h.addr))

  pub alike_function : Lives w memory Task h n
      → Alike Same (answer_on memory (ask_function w (Some h))) (read_task w memory n TaskFunction)
  unfolding ask_function function
  alike_function st =
      alike_walked memory (Some h) (function w (Some h)) (read_task w memory n TaskFunction)
      (subst (λ (a : Result ℕ Rc). ValueIs a (read_task w memory n TaskFunction)) (sym (after_object w memory Task h n st (λ o. word_of w o.addr TaskFunction 0))) (word_looked w memory Task h n st TaskFunction 0))

  pub alike_tool : Lives w memory Task h n
      → Alike Same (answer_on memory (ask_tool w (Some h))) (read_task w memory n TaskTool)
  unfolding ask_tool tool_data
  alike_tool st =
      alike_walked memory (Some h) (tool_data w (λ _. Some h) (scoped.Task (record { key = 0; serial = 0 })))
      (read_task w memory n TaskTool)
      (subst (λ (a : Result ℕ Rc). ValueIs a (read_task w memory n TaskTool))
      (sym (then_answered memory (record_of_handle w Task (Some h)) (tool_word w (scoped.Task (record { key = 0; serial = 0 }))) h.addr (record_answers w memory Task h n st)))
      (word_looked w memory Task h n st TaskTool 0))

  pub alike_entry : Lives w memory Region h n
      → Alike Same (answer_on memory (ask_entry w (Some h))) (read_region w memory n RegionFunction)
  unfolding ask_entry then_reads
  alike_entry st =
      alike_walked memory (Some h) (word_of w h.addr RegionFunction 0) (read_region w memory n RegionFunction)
      (word_looked w memory Region h n st RegionFunction 0)

-- ---- the header

module _ (w : List ℕ) (memory : Words) where
  alike_space : (icv : ℕ) (v : Variable) (f : Field) → variable_in (scope_of scoped.Space) icv ≡ Ok v
      → v.source ≡ Word f
      → Alike Same (answer_on memory (ask_space w icv)) (read_runtime w memory f)
  unfolding ask_space
  alike_space icv v f is source =
      alike_walked memory None (icv_from_scope w (λ _. None) scoped.Space icv) (read_runtime w memory f)
      (subst (λ (a : Result ℕ Rc). ValueIs a (read_runtime w memory f))
      (sym (variable_answers w memory (λ _. None) scoped.Space icv (runtime_address w) v refl is ∙ ap (λ source. answer_on memory (number_in w source (runtime_address w))) source))
      (word_is_looked w memory (runtime_address w) f 0))

  pub alike_head : Alike Same (answer_on memory (ask_head w)) (look_head w memory)
  unfolding ask_head ask_version
  alike_head =
      alike_on Same memory (ask_version w) _ (read_runtime w memory RuntimeVersion) _
      (alike_walked memory None (word_of w (runtime_address w) RuntimeVersion 0) (read_runtime w memory RuntimeVersion) (word_is_looked w memory (runtime_address w) RuntimeVersion 0))
      (λ version e f. alike_on Same memory (ask_space w DEBUG_VAR) _ (read_runtime w memory RuntimeDebug) _ (alike_space DEBUG_VAR _ RuntimeDebug refl refl)
      (λ debug e f. alike_on Same memory (ask_space w NUM_PROCS_VAR) _ (read_runtime w memory RuntimeProcs) _ (alike_space NUM_PROCS_VAR _ RuntimeProcs refl refl)
      (λ procs e f. alike_on Same memory (ask_space w MAX_ACTIVE_LEVELS_VAR) _ (read_runtime w memory RuntimeMaxActive) _ (alike_space MAX_ACTIVE_LEVELS_VAR _ RuntimeMaxActive refl refl)
      (λ max_active e f. refl))))
