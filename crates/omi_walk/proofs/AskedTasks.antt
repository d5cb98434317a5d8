-- What a walk asks about a task is a plain look at its record.
use Rattle.std.proofs.Common.{◌≡◌, ◌==◌, ◌||◌, ℕ, Bool, true, false, cond, List, ◌∷◌, Option, Some, None, refl, sym, ap, subst, ◌∙◌}
use Rattle.std.specs.List.{range_with_len}
use Rattle.std.specs.Option.{option_map, option_map_or}
use Rattle.std.specs.Prelude.{Result, Ok, Err}
use Rattle.omi_word.specs.Words.{Words}
use Rattle.omi_handle.specs.declared.handle.Kind.{Kind}
use Rattle.omi_handle.specs.declared.handle.Kind.TheVariants.{Region, Task}
use Rattle.omi_handle.specs.declared.handle.Held.{Held}
use Rattle.omi_asktask.specs.declared.words.Frames.{Frames}
use Rattle.omi_asktask.specs.TaskWords.{frames}
use Rattle.omi_asktask.specs.Tasks.{generating_task, scheduling_task}
use Rattle.omi_ask.specs.Regions.{region_of_task}
use Rattle.omi_icv.specs.declared.icv_text.Value.{Value}
use Rattle.omi_icv.specs.declared.scoped.Scoped.{Scoped}
use Rattle.omi_icv.specs.declared.scoped.Scoped.TheVariants as scoped
use Rattle.omi_icv.specs.declared.variable.Source.TheVariants.{Word}
use Rattle.omi_icv.specs.declared.variable.Variable.{Variable}
use Rattle.omi_icv.specs.declared.variable.Spelling.TheVariants.{Decimal}
use Rattle.omi_icv.specs.Icvs.{icv_value}
use Rattle.omi_icv.specs.Records.{record_of}
use Rattle.omi_icv.specs.Scopes.{scope_of}
use Rattle.omi_icv.specs.Table.{variable_in}
use Rattle.omi_icv.specs.Values.{elements}
use Rattle.omi_layout.specs.declared.field.Field.{Field}
use Rattle.omi_layout.specs.declared.field.Field.TheVariants.{TaskImplicit, TaskRegion, TaskFunction, TaskGenerating, TaskScheduling, TaskDynamic, TaskSchedule, TaskDevice, TaskFinal, TaskTool, TaskNthreadsLength, TaskNthreads}
use Rattle.omi_layout.specs.Field.{regions, tasks}
use Rattle.omi_model.specs.declared.id.Id.{Id}
use Rattle.omi_model.specs.declared.id.Tid.{Tid}
use Rattle.omi_model.specs.declared.view.TaskRow.{TaskRow}
use Rattle.omi_numbers.specs.declared.variables.TheConstants.{DYN_VAR, NTHREADS_VAR, RUN_SCHED_VAR, DEFAULT_DEVICE_VAR, FINAL_TASK_VAR, IMPLICIT_TASK_VAR}
use Rattle.omi_rep.specs.declared.fault.LookFault.TheVariants as look
use Rattle.omi_rep.specs.Look.{Look, and_then, each, id_address, was_met, look_word, look_object, look_optional, look_onward}
use Rattle.omi_rep.specs.LookView.{look_within, look_nthreads, look_task, read_task}
use Rattle.omi_session.specs.declared.rc.Rc.{Rc}
use Rattle.omi_session.specs.Named.{record_kind}
use Rattle.omi_session.specs.Reads.{Reads, Answer, answer_on, after, then_reads}
use Rattle.omi_session.proofs.Asked.{answer_then}
use Rattle.omi_session.proofs.ShownParts.{then_answered}
use Rattle.omi_walk.specs.declared.fault.WalkFault.{WalkFault}
use Rattle.omi_walk.specs.declared.fault.WalkFault.TheVariants.{Cycle}
use Rattle.omi_walk.specs.declared.met.Met.{Met}
use Rattle.omi_walk.specs.declared.tasks.Link.{Link}
use Rattle.omi_walk.specs.declared.tasks.Relations.{Relations}
use Rattle.omi_walk.specs.declared.tasks.SeenRelations.{SeenRelations}
use Rattle.omi_walk.specs.Asking.{Asks, answering, with_answer, also}
use Rattle.omi_walk.specs.AskWords.{ask_task_variable, ask_nthreads, ask_function, ask_frames, ask_tool}
use Rattle.omi_walk.specs.AskRegions.{ask_region_of}
use Rattle.omi_walk.specs.AskTasks.{ask_generating, ask_scheduling, ask_next, ask_relations, ask_environment, ask_link}
use Rattle.omi_walk.specs.Chains.{unmet}
use Rattle.omi_walk.specs.Fault.{walked}
use Rattle.omi_walk.specs.Parts.{look_frames}
use Rattle.omi_walk.specs.Tasks.{look_relations, look_environment}
use Rattle.omi_walk.proofs.AskedLooks.{Alike, Same, Lives, IsObject, MaybeObject, fault_is, alike_then, alike_on, alike_follow, alike_follow_some, object_answers}
use Rattle.omi_walk.proofs.AskedRows.{name_same}
use Rattle.omi_walk.proofs.Looked.{ValueIs}
use Rattle.omi_walk.proofs.WordLooks.{as_places, frames_there}
use Rattle.omi_walk.proofs.AskedWords.{record_answers, alike_task_variable, alike_function, alike_tool}
use Rattle.omi_walk.proofs.Goes.{answer_answering}
use Rattle.omi_walk.proofs.NumberLooks.{elements_looked}
use Rattle.omi_walk.proofs.TaskChained.{named_back}
use Rattle.omi_walk.proofs.TaskLooks.{parts_of_task}

-- ---- what must not have been met

module _ (w : List ℕ) (memory : Words) (kind : Kind) (known : ℕ → Bool) (before : List ℕ)
    (same : (address : ℕ) → known address ≡ was_met before address) where
  -- the look goes on to this object, unless its address was met
  abbrev onward_at : ℕ → Id → Look (Option Id)
  onward_at address n = cond (was_met before address) (Err (look.Cycle address)) (Ok (Some n))

  abbrev onward_to : Id → Look (Option Id)
  onward_to n = onward_at (id_address w (record_kind kind) n) n

  pub alike_onward : (reads : Asks (Option Met)) (l : Look (Option Id))
      → Alike (MaybeObject w memory kind) (answer_on memory reads) l
      → Alike (MaybeObject w memory kind)
      (answer_on memory (then_reads reads (λ next. Answer (unmet known next))))
      (and_then l (λ next. option_map_or onward_to next (Ok None)))
  alike_onward reads l first =
      alike_then (MaybeObject w memory kind) (MaybeObject w memory kind) memory reads _ l _ first
      (λ o n e f r. go o n r)
    where
      go : (o : Option Met) (n : Option Id) → MaybeObject w memory kind o n
          → Alike (MaybeObject w memory kind) (unmet known o) (option_map_or onward_to n (Ok None))
      go None None r = tt
      go None (Some n) r = absurd r
      go (Some m) None r = absurd r
      go (Some m) (Some n) r =
          subst
          (λ a. Alike (MaybeObject w memory kind) (walk_unless (known m.held.addr)) (onward_at a n))
          r.lives.at
          (subst
          (λ met. Alike (MaybeObject w memory kind) (walk_unless met) (onward_at m.held.addr n))
          (sym (same m.held.addr)) (test (was_met before m.held.addr)))
        where
          walk_unless : Bool → Result (Option Met) WalkFault
          walk_unless met = cond met (Err (Cycle m.held.addr)) (Ok (Some m))

          test : (met : Bool) → Alike (MaybeObject w memory kind) (walk_unless met)
              (cond met (Err (look.Cycle m.held.addr)) (Ok (Some n)))
          test true = refl
          test false = r

-- an address more was met
pub also_met_before : (known : ℕ → Bool) (before : List ℕ) (a b : ℕ) → a ≡ b
    → ((address : ℕ) → known address ≡ was_met before address) → (address : ℕ)
    → also a known address ≡ was_met (b ∷ before) address
also_met_before known before a b is same address = λ i. (is i == address) || same address i

-- ---- words of a task

-- the relations of a task, and its row, each with its scheduling task
abbrev pub RelationsAs : List ℕ → Words → SeenRelations → Relations → Type 0
RelationsAs w memory seen relations =
    (seen.relations ≡ relations)
    × MaybeObject w memory Task seen.next (option_map (λ (t : Tid). t.0) relations.scheduling)

abbrev pub LinkAs : List ℕ → Words → Link → TaskRow → Type 0
LinkAs w memory link row =
    (link.row ≡ row)
    × MaybeObject w memory Task link.next (option_map (λ (t : Tid). t.0) row.scheduling)

module _ (w : List ℕ) (memory : Words) (h : Held) (k : Id) (st : Lives w memory Task h k) where
  pub alike_frames : Alike Same (answer_on memory (ask_frames w (Some h))) (look_frames w memory k)
  unfolding ask_frames with_answer
  alike_frames =
      subst (λ (a : Result (ℕ × ℕ) WalkFault). Alike Same a (look_frames w memory k)) (sym asked)
      (go (answer_on memory (frames w (Some h))) (look_frames w memory k)
      (frames_there w memory (Some h) h k (object_answers w memory Task h k st) st.at))
    where
      last : Frames → Asks (ℕ × ℕ)
      last f = Answer (Ok (f.exit, f.enter))

      asked : answer_on memory (then_reads (answering (walked (Some h)) (frames w (Some h))) last)
          ≡ answer_on memory (after (walked (Some h) (answer_on memory (frames w (Some h)))) last)
      asked =
          answer_then memory (answering (walked (Some h)) (frames w (Some h))) last
          ∙ ap (λ a. answer_on memory (after a last))
          (answer_answering memory (walked (Some h)) (frames w (Some h)))

      go : (a : Result Frames Rc) (l : Look (ℕ × ℕ)) → ValueIs (as_places a) l
          → Alike Same (answer_on memory (after (walked (Some h) a) last)) l
      go (Ok f) (Ok at) same = same
      go (Ok f) (Err fault) same = absurd same
      go (Err rc) (Ok at) same = absurd same
      go (Err rc) (Err fault) same = fault_is (Some h) rc fault same

  pub alike_nthreads : Alike Same (answer_on memory (ask_nthreads w (Some h))) (look_nthreads w memory k)
  unfolding ask_nthreads icv_value with_answer then_reads
  alike_nthreads =
      subst (λ (a : Result (List ℕ) WalkFault). Alike Same a (look_nthreads w memory k)) (sym asked)
      (subst (λ a. Alike Same (answer_on memory (after (walked (Some h) read) last)) (look_list a))
      st.at (go (answer_on memory (elements w h.addr)) (look_list h.addr)
      (elements_looked w memory h.addr)))
    where
      this_task : Scoped
      this_task = scoped.Task (record { key = 0; serial = 0 })

      inquiry : Reads Value
      inquiry = icv_value w (λ _. Some h) this_task NTHREADS_VAR

      last : Value → Asks (List ℕ)
      last v = Answer (Ok v.numbers)

      made : List ℕ → Reads Value
      made numbers = Answer (Ok (record { spelling = Decimal; numbers = numbers }))

      valued : ℕ → Reads Value
      valued address = then_reads (elements w address) made

      -- what the inquiry answers
      read : Result Value Rc
      read = answer_on memory (after (answer_on memory (elements w h.addr)) made)

      -- the look at the list of the record at an address
      look_list : ℕ → Look (List ℕ)
      look_list a =
          and_then (look_within w memory a TaskNthreadsLength 1 4)
          (λ length. each (look_word w memory a TaskNthreads) (range_with_len 0 length))

      answers : answer_on memory inquiry ≡ read
      answers =
          then_answered memory (record_of w (λ _. Some h) this_task) valued h.addr
          (record_answers w memory Task h k st)
          ∙ answer_then memory (elements w h.addr) made

      asked : answer_on memory (then_reads (answering (walked (Some h)) inquiry) last)
          ≡ answer_on memory (after (walked (Some h) read) last)
      asked =
          answer_then memory (answering (walked (Some h)) inquiry) last
          ∙ ap (λ a. answer_on memory (after a last))
          (answer_answering memory (walked (Some h)) inquiry ∙ ap (walked (Some h)) answers)

      go : (a : Result (List ℕ) Rc) (l : Look (List ℕ)) → ValueIs a l
          → Alike Same (answer_on memory (after (walked (Some h) (answer_on memory (after a made))) last)) l
      go (Ok xs) (Ok ys) same = same
      go (Ok xs) (Err fault) same = absurd same
      go (Err rc) (Ok ys) same = absurd same
      go (Err rc) (Err fault) same = fault_is (Some h) rc fault same

  -- a variable of the task, and then the rest
  variable_then : {B E : Type 0} (R : B → E → Type 0) (icv : ℕ) (v : Variable) (f : Field)
      (more : ℕ → Asks B) (next : ℕ → Look E)
      → variable_in (scope_of (scoped.Task (record { key = 0; serial = 0 }))) icv ≡ Ok v
      → v.source ≡ Word f
      → ((x : ℕ) → Alike R (answer_on memory (more x)) (next x))
      → Alike R (answer_on memory (then_reads (ask_task_variable w icv (Some h)) more))
      (and_then (read_task w memory k f) next)
  variable_then R icv v f more next is source rest =
      alike_on R memory (ask_task_variable w icv (Some h)) more (read_task w memory k f) next
      (alike_task_variable w memory h k icv v f st is source) (λ x e f. rest x)

  pub alike_environment : Alike Same (answer_on memory (ask_environment w (Some h)))
      (look_environment w memory k)
  unfolding ask_environment
  alike_environment =
      variable_then Same DYN_VAR _ TaskDynamic _ _ refl refl (λ dyn_var.
      alike_on Same memory (ask_nthreads w (Some h)) _ (look_nthreads w memory k) _ alike_nthreads
      (λ nthreads e f.
      variable_then Same RUN_SCHED_VAR _ TaskSchedule _ _ refl refl (λ sched.
      variable_then Same DEFAULT_DEVICE_VAR _ TaskDevice _ _ refl refl (λ device.
      variable_then Same FINAL_TASK_VAR _ TaskFinal _ _ refl refl (λ final_task. refl)))))

  pub alike_region_of : Alike (IsObject w memory Region) (answer_on memory (ask_region_of w (Some h)))
      (look_object w memory regions (id_address w tasks k) TaskRegion 0)
  unfolding region_of_task
  alike_region_of =
      alike_follow w memory Task h k st Region TaskRegion 0 (region_of_task w (Some h)) refl

  alike_generating : Alike (MaybeObject w memory Task) (answer_on memory (ask_generating w (Some h)))
      (look_optional w memory tasks (id_address w tasks k) TaskGenerating 0)
  unfolding generating_task
  alike_generating =
      alike_follow_some w memory Task h k st Task TaskGenerating (generating_task w (Some h)) refl

  alike_scheduling : Alike (MaybeObject w memory Task) (answer_on memory (ask_scheduling w (Some h)))
      (look_optional w memory tasks (id_address w tasks k) TaskScheduling 0)
  unfolding scheduling_task
  alike_scheduling =
      alike_follow_some w memory Task h k st Task TaskScheduling (scheduling_task w (Some h)) refl

  module _ (known : ℕ → Bool) (before : List ℕ)
      (same : (address : ℕ) → known address ≡ was_met before address) where
    alike_next : Alike (MaybeObject w memory Task) (answer_on memory (ask_next w known (Some h)))
        (look_onward w memory tasks before (id_address w tasks k) TaskScheduling)
    unfolding ask_next
    alike_next =
        alike_onward w memory Task known before same (ask_scheduling w (Some h)) _ alike_scheduling

    pub alike_relations : Alike (RelationsAs w memory)
        (answer_on memory (ask_relations w known (Some h))) (look_relations w memory before k)
    unfolding ask_relations
    alike_relations =
        let address : ℕ = id_address w tasks k in
        let Related : SeenRelations → Relations → Type 0 = RelationsAs w memory in
        let MaybeTask : Option Met → Option Id → Type 0 = MaybeObject w memory Task in
        variable_then Related IMPLICIT_TASK_VAR _ TaskImplicit _ _ refl refl (λ implicit.
        alike_then (IsObject w memory Region) Related memory (ask_region_of w (Some h)) _
        (look_object w memory regions address TaskRegion 0) _ alike_region_of (λ region r e f is.
        alike_on Related memory (ask_function w (Some h)) _ (read_task w memory k TaskFunction) _
        (alike_function w memory h k st) (λ func e f.
        alike_then MaybeTask Related memory (ask_generating w (Some h)) _
        (look_optional w memory tasks address TaskGenerating 0) _ alike_generating
        (λ generating g e f from.
        alike_then MaybeTask Related memory (ask_next w known (Some h)) _
        (look_onward w memory tasks before address TaskScheduling) _ alike_next (λ next s e f to. (
          (λ j. record {
            implicit = implicit;
            region = record { 0 = is.name j };
            func = func;
            generating = option_map (λ (n : Id). record { 0 = n }) (name_same w memory Task generating g from j);
            scheduling = option_map (λ (n : Id). record { 0 = n }) (name_same w memory Task next s to j);
          }),
          subst (MaybeObject w memory Task next) (sym (named_back s)) to,
        ))))))

    pub alike_link : (i : ℕ)
        → Alike (LinkAs w memory) (answer_on memory (ask_link w known i k (Some h)))
        (look_task w memory before i k)
    unfolding ask_link
    alike_link i =
        subst (Alike (LinkAs w memory) (answer_on memory (ask_link w known i k (Some h))))
        (parts_of_task w memory before i k)
        (alike_then (RelationsAs w memory) (LinkAs w memory) memory (ask_relations w known (Some h)) _
        (look_relations w memory before k) _ alike_relations (λ seen relations e f r.
        alike_on (LinkAs w memory) memory (ask_frames w (Some h)) _ (look_frames w memory k) _
        alike_frames (λ frames e f.
        alike_on (LinkAs w memory) memory (ask_tool w (Some h)) _ (read_task w memory k TaskTool) _
        (alike_tool w memory h k st) (λ tool e f.
        alike_on (LinkAs w memory) memory (ask_environment w (Some h)) _
        (look_environment w memory k) _ alike_environment (λ environment e f. (
          (λ j. record {
            task = record { 0 = k };
            thread = i;
            implicit = (r.0 j).implicit;
            region = (r.0 j).region;
            func = (r.0 j).func;
            generating = (r.0 j).generating;
            scheduling = (r.0 j).scheduling;
            exit = frames.0;
            enter = frames.1;
            tool = tool;
            dyn_var = environment.dyn_var;
            nthreads = environment.nthreads;
            sched = environment.sched;
            device = environment.device;
            final_task = environment.final_task;
          }),
          r.1,
        ))))))
