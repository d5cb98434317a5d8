-- The line of an event: the number of its step, its thread, and the event.
use Rattle.std.specs.Prelude.{ℕ, ◌==◌, ◌||◌, Bool, true, false, List, [], ◌∷◌, ◌++◌, length, map, codes, if◌then◌else◌, unwrap_or}
use Rattle.std.specs.Fmt.{decimal}
use Rattle.omi_numbers.specs.Variables.{variables}
use Rattle.omi_model.specs.declared.event.Event.{Event}
use Rattle.omi_model.specs.declared.event.Event.TheVariants as event
use Rattle.omi_model.specs.declared.id.Tid.{Tid}
use Rattle.omi_numbers.specs.declared.variables.TheConstants.{DYN_VAR, NTHREADS_VAR, RUN_SCHED_VAR, DEFAULT_DEVICE_VAR, MAX_ACTIVE_LEVELS_VAR}
use Rattle.omi_numbers.specs.Names.{name_in}
use Rattle.omi_text.specs.Ids.{region_id, task_id}
use Rattle.omi_text.specs.Lines.{line}
use Rattle.omi_text.specs.Names.{state_text}
use Rattle.omi_text.specs.Tasks.{schedule_text}

-- the internal control variables that an event may set
abbrev pub is_settable : ℕ → Bool
is_settable icv =
    icv == DYN_VAR || icv == NTHREADS_VAR || icv == RUN_SCHED_VAR || icv == DEFAULT_DEVICE_VAR
    || icv == MAX_ACTIVE_LEVELS_VAR

-- such a variable by its name, and any other by its number
unfoldable pub variable_text : ℕ → List ℕ
variable_text icv =
    if is_settable icv then unwrap_or (name_in variables icv) (decimal icv) else decimal icv

-- the word of a variable, as a report prints it: a schedule as kind and chunk, every other in decimal
unfoldable pub value_text : ℕ → ℕ → List ℕ
value_text icv value = if icv == RUN_SCHED_VAR then schedule_text value else decimal value

-- whether an asked thread joined
abbrev pub joined_word : Bool → List ℕ
joined_word true = codes "got"
joined_word false = codes "busy"

-- a member: K@I
unfoldable pub member_word : Tid × ℕ → List ℕ
member_word m = task_id m.0 ++ 64 ∷ decimal m.1

-- the words of an event
abbrev pub event_words : Event → List (List ℕ)
event_words event.Begin = codes "begin" ∷ []
event_words event.Offer = codes "offer" ∷ []
event_words (event.Want n) = codes "want" ∷ decimal n ∷ []
event_words (event.Ask w got) = codes "ask" ∷ decimal w ∷ joined_word got ∷ []
event_words (event.Fork region team) =
    codes "fork" ∷ region_id region ∷ codes "size" ∷ decimal (length team) ∷ codes "team"
    ∷ map member_word team
event_words (event.ImplicitBegin task) = codes "implicit_begin" ∷ task_id task ∷ []
event_words (event.State state wait) = codes "state" ∷ state_text state ∷ decimal wait ∷ []
event_words event.Enter = codes "enter" ∷ []
event_words event.Leave = codes "leave" ∷ []
event_words event.Arrive = codes "arrive" ∷ []
event_words event.Release = codes "release" ∷ []
event_words event.Pass = codes "pass" ∷ []
event_words (event.ImplicitEnd task) = codes "implicit_end" ∷ task_id task ∷ []
event_words (event.Join region) = codes "join" ∷ region_id region ∷ []
event_words (event.FreeTask task) = codes "free" ∷ task_id task ∷ []
event_words (event.FreeRegion region) = codes "free" ∷ region_id region ∷ []
event_words (event.Seen j) = codes "seen" ∷ decimal j ∷ []
event_words (event.Defer task) = codes "defer" ∷ task_id task ∷ []
event_words (event.StartNow task) = codes "start_now" ∷ task_id task ∷ []
event_words (event.Start task) = codes "start" ∷ task_id task ∷ []
event_words (event.Finish task) = codes "finish" ∷ task_id task ∷ []
event_words event.WaitDone = codes "wait_done" ∷ []
event_words event.GroupBegin = codes "group_begin" ∷ []
event_words event.GroupEnd = codes "group_end" ∷ []
event_words event.Yield = codes "yield" ∷ []
event_words (event.Set icv value) = codes "set" ∷ variable_text icv ∷ value_text icv value ∷ []
event_words (event.SetTool x) = codes "tool" ∷ decimal x ∷ []
event_words (event.Lock k) = codes "lock" ∷ decimal k ∷ []
event_words (event.Unlock k) = codes "unlock" ∷ decimal k ∷ []
event_words event.Work = codes "work" ∷ []
event_words (event.Call f) = codes "call" ∷ decimal f ∷ []
event_words event.Skip = codes "skip" ∷ []
event_words event.Ret = codes "ret" ∷ []
event_words event.Done = codes "done" ∷ []

-- STEP tTHREAD EVENT
abbrev pub event_line : ℕ → ℕ → Event → List ℕ
event_line step thread e = decimal step ++ 32 ∷ 116 ∷ decimal thread ++ 32 ∷ line (event_words e)
