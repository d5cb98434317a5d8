-- A run by a schedule over whatever makes its steps, step by step.
use Rattle.std.proofs.Common.{◌≡◌, ◌<◌, ◌≤◌, ◌+◌, ℕ, List, Some, None, refl, sym, ap, ◌∙◌, subst, length}
use Rattle.std.specs.Prelude.{IfSome, Result, MatchResult, Ok, Err}
use Rattle.std.specs.declared.alloc.AllocError.{AllocError}
use Rattle.omi_run_lists.specs.declared.made.Made.{Made}
use Rattle.omi_script.specs.declared.program.Program.{Program}
use Rattle.omi_script.proofs.RuleLemmas.{Rules-from_accepted}
use Rattle.omi_core.specs.declared.entry.Entry.{Entry}
use Rattle.omi_core.specs.declared.schedule.Schedule.{Schedule}
use Rattle.omi_core.specs.declared.stepper.Judged.{Judged}
use Rattle.omi_core.specs.declared.stop.End.{End}
use Rattle.omi_core.specs.declared.stop.End.TheVariants as end
use Rattle.omi_core.specs.declared.stop.Stop.{Stop}
use Rattle.omi_core.specs.Ends.{IsBelow, IsEnded}
use Rattle.omi_core.specs.RunSteps.{IsStep}
use Rattle.omi_core.specs.Runs.{IsSameRun, Run}
use Rattle.omi_core.specs.ScheduledRuns.{Adds, IsRunBy}
use Rattle.omi_core.specs.Schedules.{IsListed, first_draw, next_draw, thread_at}
use Rattle.omi_core.specs.StepsOf.{IsJudged, IsRunOn}
use Rattle.omi_core.proofs.ScheduledSteps.{SoFar, all_made, begins, ended, fewer, one_more, refused, thread_known}

module _ (old : Run) (how : Schedule) (stop : Stop) where
  -- so many steps of a run were made, and the run that they lead to stands so
  pub record IsUnder (stands : Run → Type 0) (n met draw : ℕ) : Type 0 where
    pub new : Run
    pub so_far : SoFar old how stop n met draw new
    pub now : stands new

  pub before_all : (stands : Run → Type 0) → IfSome stop.on (λ on. 1 ≤ on.1) → stands old → (draw : ℕ)
      → draw ≡ first_draw how → IsUnder stands 0 0 draw
  before_all stands some now draw drawn = record {
    new = old;
    so_far = subst (λ d. SoFar old how stop 0 0 d old) (sym drawn) (begins old how stop some);
    now = now;
  }

  module _ (stands : Run → Type 0) (n met draw : ℕ) (u : IsUnder stands n met draw) where
    -- the thread of the next step is one of the run's
    pub thread_there : IsListed how old.program.threads stop.steps → n < stop.steps → (i threads : ℕ) → threads ≡ old.program.threads
        → i ≡ thread_at how threads n → i < u.new.program.threads
    thread_there listed below i threads same is =
        let some = (Rules-from_accepted old.program).threads.0 in
        subst (λ (p : Program). i < p.threads) (sym u.so_far.added.program)
        (subst (λ k. k < old.program.threads)
        (sym (is ∙ ap (λ k. thread_at how k n) same))
        (thread_known how old.program.threads n stop.steps some listed below))

    pub too_few : IsBelow stop.on met
    too_few = fewer old how stop n met draw u.new u.so_far

    module _ (below : n < stop.steps) (i threads : ℕ) (same : threads ≡ old.program.threads)
        (thread : i ≡ thread_at how threads n) (later : Run → Type 0) (judged : Judged)
        (j : IsJudged u.new i stop.on met later judged) where
      thread_is : i ≡ thread_at how old.program.threads n
      thread_is = thread ∙ ap (λ k. thread_at how k n) same

      pub goes_on : judged.end ≡ None → (drawn : ℕ) → drawn ≡ next_draw how threads draw
          → IsUnder later (n + 1) judged.met drawn
      goes_on none drawn drawn_is =
          let draws : next_draw how old.program.threads draw ≡ drawn =
          sym (drawn_is ∙ ap (λ k. next_draw how k draw) same) in
          record {
            new = j.next;
            so_far =
                subst (λ k. SoFar old how stop (n + 1) judged.met k j.next) draws
                (subst (λ k. SoFar old how stop (n + 1) k (next_draw how old.program.threads draw) j.next) (sym j.met_is)
                (one_more old how stop n met draw u.new j.next i j.entry u.so_far below j.step thread_is (sym j.end_is ∙ none)));
            now = j.stands_behind;
          }

      pub ends : (left : Run → Type 0) (why : End) → judged.end ≡ Some why → IsRunOn old how stop (Ok why) later left
      ends left why is = record {
        new = j.next;
        run = ended old how stop n met draw u.new j.next i j.entry why u.so_far below j.step thread_is (sym j.end_is ∙ is);
        behind = j.stands_behind;
      }

    pub ends_with_all : (left : Run → Type 0) → n ≡ stop.steps → IsRunOn old how stop (Ok end.Steps) stands left
    ends_with_all left all = record {
      new = u.new;
      run = all_made old how stop n met draw u.new u.so_far all;
      behind = u.now;
    }

    pub wants : (later left : Run → Type 0) (why : AllocError) → left u.new → IsRunOn old how stop (Err why) later left
    wants later left why is = record {
      new = u.new;
      run = refused old how stop n met draw u.new why u.so_far;
      behind = is;
    }

-- ---- other room

pub same_again : (a b c : Run) → IsSameRun a b → IsSameRun b c → IsSameRun a c
same_again a b c first second = record {
  program = second.program ∙ first.program;
  table = second.table ∙ first.table;
  words = second.words ∙ first.words;
  actors = second.actors ∙ first.actors;
  events = second.events ∙ first.events;
  made = second.made ∙ first.made;
}

pub same_itself : (a : Run) → IsSameRun a a
same_itself a = record {
  program = refl;
  table = refl;
  words = refl;
  actors = refl;
  events = refl;
  made = refl;
}

-- a step of a run is one of the same run with other room
pub step_of_same : (a b c : Run) (i : ℕ) (e : Entry) → IsSameRun a b → IsStep b i e c → IsStep a i e c
step_of_same a b c i e same step =
    rw (sym same.program, sym same.table, sym same.words, sym same.actors, sym same.events, sym same.made) (record {
      op = step.op;
      found = step.found;
      outcome = step.outcome;
      actors = step.actors;
      words = step.words;
      made = step.made;
      events = step.events;
      program = step.program;
      table = step.table;
    })

module _ (a b c : Run) (how : Schedule) (stop : Stop) (same : IsSameRun b c) where
  abbrev added_to_same : Adds a how stop b → Adds a how stop c
  added_to_same added = record {
    program = same.program ∙ added.program;
    table = same.table ∙ added.table;
    made = added.made;
    made_are = same.made ∙ added.made_are;
    threads = added.threads;
    within = added.within;
    events = added.events;
    events_are = same.events ∙ added.events_are;
  }

  -- a run leads to the same run with other room
  pub run_to_same : (result : Result End AllocError) → IsRunBy a how stop result b → IsRunBy a how stop result c
  run_to_same (Ok why) run = (
    added_to_same run.0,
    subst (λ (ms : List Made). IsEnded stop (length run.0.made) (length ms) run.0.events why) (sym same.made) run.1,
  )
  run_to_same (Err none) run = (added_to_same run.0, run.1)

-- a run that ends as it is left
pub ends_same : (result : Result End AllocError) (P : Type 0) → MatchResult result (λ why. P) (λ none. P) → P
ends_same (Ok why) P is = is
ends_same (Err none) P is = is
