-- What `follow` puts of two stops of one run: a task of the first is stale exactly where an event between them gave it back.
use Rattle.std.specs.Prelude.{◌≡◌, ◌≤◌, ℕ, Bool, false, not, List, length, drop, Option, ⊤}
use Rattle.std.specs.List.{flat_map, list_any}
use Rattle.omi_core.specs.declared.entry.Entry.{Entry}
use Rattle.omi_core.specs.Runs.{events_in}
use Rattle.omi_core.specs.Steps.{events_behind}
use Rattle.omi_corefile.specs.declared.core_image.CoreImage.{CoreImage}
use Rattle.omi_layout.specs.Valid.{IsValid}
use Rattle.omi_model.specs.Reached.{Leads, Reached}
use Rattle.omi_model.specs.State.{State}
use Rattle.omi_model.specs.Views.{IsViewOf}
use Rattle.omi_model.specs.declared.event.Event.{Event}
use Rattle.omi_model.specs.declared.event.Event.TheVariants as event
use Rattle.omi_model.specs.declared.id.Tid.{Tid}
use Rattle.omi_model.specs.declared.view.View.{View}
use Rattle.omi_outside.specs.Outside.{put_on}
use Rattle.omi_outside.specs.declared.status.Status.{Status}
use Rattle.omi_outside.specs.declared.status.Status.TheVariants as status
use Rattle.omi_rep.specs.Shows.{Shows}
use Rattle.omi_rule_words.specs.Counts.{is_task}
use Rattle.omi_script.specs.declared.program.Program.{Program}
use Rattle.omi_walk.specs.Kept.{task_names}
use Rattle.omi_top.specs.verbs.Stop.{IsStopped}
use Rattle.omi_top.specs.Cores.{words_of_core}
use Rattle.omi_commands.specs.Fates.{HasRecords, fate_line}
use Rattle.omi_top.specs.declared.plan.Plan.{Plan}

-- one of these events gives a task back
abbrev pub gives_back : Tid → ℕ × Event → Bool
gives_back k (i, event.FreeTask task) = is_task k task
gives_back k (i, e) = false

abbrev pub is_given_back : List (ℕ × Event) → Tid → Bool
is_given_back events k = list_any (gives_back k) events

-- the lines on tasks: each is stale where one of these events gave it back, and else current
abbrev pub fates_after : List (ℕ × Event) → List Tid → List ℕ
fates_after events ks = flat_map (λ k. fate_line k (not (is_given_back events k))) ks

-- The words of two cores show, in one layout, the state that some events of a program reach and the one to which more events lead from
-- it. The second has each word of the records
pub record AreStops (core later : CoreImage) : Type 0 where
  pub w : List ℕ
  pub valid : IsValid w
  pub program : Program
  pub events : List (ℕ × Event)
  pub state : State
  pub reached : Reached program events state
  pub between : List (ℕ × Event)
  pub next : State
  pub leads : Leads program state between next
  pub shows : Shows w (words_of_core core) state
  pub shows_next : Shows w (words_of_core later) next
  pub records : HasRecords w (words_of_core later)

-- Two stops of one run: the plans have one layout and one order of the threads, and the second run has as many steps as the first, or
-- more
pub record AreOfOneRun {p : Program} {plan later : Plan} {core text second more : List ℕ}
    (a : IsStopped p plan core text) (b : IsStopped p later second more) : Type 0 where
  pub layout : plan.layout ≡ later.layout
  pub seed : plan.seed ≡ later.seed
  pub steps : length a.entries ≤ length b.entries

-- the events of a run's steps behind those of its first steps
abbrev pub events_between : List (ℕ × Entry) → List (ℕ × Entry) → List (ℕ × Event)
events_between first all = events_in (events_behind (length first) (drop (length first) all))

-- what `follow` makes of two such cores: it puts the lines on the tasks of the first state's report, unless a file or the output fails or
-- memory runs out
abbrev pub IsFollowedFrom : State → List (ℕ × Event) → List ℕ → Status → Option (List ℕ)
    → Option (List ℕ) → Type 0
IsFollowedFrom s between contexts status.Success out after = (v : View) × IsViewOf s contexts v
    × (after ≡ put_on out (fates_after between (task_names v)))
IsFollowedFrom s between contexts status.ReadFault out after = ⊤
IsFollowedFrom s between contexts status.WriteFault out after = ⊤
IsFollowedFrom s between contexts status.OutOfMemory out after = ⊤
IsFollowedFrom s between contexts other out after = ⊥
