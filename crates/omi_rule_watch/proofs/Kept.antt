-- Each step keeps the watch, by the family of its counter.
use Rattle.std.proofs.Common.{◌≡◌, inl, ℕ, zero, suc, List, [], ◌∷◌, refl, sym, arith}
use Rattle.omi_script.specs.declared.program.Program.{Program}
use Rattle.omi_model.specs.declared.event.Event.{Event}
use Rattle.omi_model.specs.State.{State}
use Rattle.omi_layout.specs.Memory.{Memory}
use Rattle.omi_pc.specs.declared.actor.Actor.{Actor}
use Rattle.omi_pc.specs.declared.counter.Counter.{Counter}
use Rattle.omi_pc.specs.declared.counter.Counter.TheVariants as counter
use Rattle.omi_pc.specs.declared.frame.Opened.TheVariants.{Main}
use Rattle.omi_pc.specs.declared.team_counter.WorkerCounter.TheVariants as worker
use Rattle.omi_pc.specs.Frames.{at_start}
use Rattle.omi_pc.specs.Opening.{opening_actor, waiting_actor}
use Rattle.omi_actor.specs.Steps.{next_at, resumed_at}
use Rattle.omi_rule.specs.Steps.{found_in}
use Rattle.omi_rule.proofs.Assembly.{Before}
use Rattle.omi_rule.proofs.barrier.RowsOfBarriers.{barrier_rows_stay}
use Rattle.omi_rule_watch.specs.Given.{IsLookGiven, IsSearchGiven}
use Rattle.omi_rule_watch.specs.Watch.{Watch, opening_watch}
use Rattle.omi_rule_watch.specs.WatchLaws.{IsQuietKept, OpeningsGiveWatch, StepsKeepWatch}
use Rattle.omi_rule_watch.proofs.Barriers.{barrier_parts}
use Rattle.omi_rule_watch.proofs.Finishes.{finish_parts}
use Rattle.omi_rule_watch.proofs.Joins.{join_parts}
use Rattle.omi_rule_watch.proofs.Making.{making_parts, plain_parts}
use Rattle.omi_rule_watch.proofs.Parts.{PartsKeep}
use Rattle.omi_rule_watch.proofs.Quiets.{quiet_steps_few}
use Rattle.omi_rule_watch.proofs.Resting.{Rests, rests_settled, rests_worker}
use Rattle.omi_rule_watch.proofs.TakingSteps.{taken_at}
use Rattle.omi_rule_watch.proofs.Teams.{team_parts}
use Rattle.omi_rule_watch.proofs.Waits.{look_parts}
use Rattle.omi_rule_watch.proofs.Workers.{worker_parts}

-- ---- a step

module _ (p : Program) (w : List ℕ) (m : Memory) (events : List (ℕ × Event)) (s : State) (actors : ℕ → Actor)
    (i : ℕ) (before : Before p w m events s actors i) (h : Watch) where
  parts : (c : Counter) → (actors i).counter ≡ c → IsSearchGiven (actors i) c h.search
      → IsLookGiven (actors i) c h.look
      → PartsKeep w m s i (next_at p w (actors i) c) (λ old. resumed_at p w (actors i) c old) h
  parts (counter.Worker c) at search look = worker_parts p w m events s actors i before h c at search
  parts (counter.Team c) at search look = team_parts p w m events s actors i before h c at search
  parts (counter.Barrier c) at search look =
      barrier_parts p w m events s actors i before h c at search look
  parts (counter.Join c) at search look = join_parts p w m events s actors i before h c at search
  parts (counter.Task c) at search look = making_parts p w m events s actors i before h c at search
  parts (counter.Look c) at search look = look_parts p w m events s actors i before h c at search look
  parts (counter.Finish c) at search look =
      finish_parts p w m events s actors i before h c at search look
  parts (counter.Plain c) at search look = plain_parts p w m events s actors i before h c at search

pub watch_kept : StepsKeepWatch
watch_kept = λ p w m events s actors i valid suits rule known few h given.
    let before : Before p w m events s actors i =
    record {
      valid = valid;
      suits = suits;
      rule = rule;
      known = known;
      few = few;
      barriers = λ e u step j there other c at row. barrier_rows_stay p w m events s actors rule i known e u step j there other c at row;
    } in
    let (x, on, keeps) =
    parts p w m events s actors i before h (actors i).counter refl given.search given.look in
    let quiet : IsQuietKept p (resumed_at p w (actors i) (actors i).counter (found_in m x)) h.quiet = quiet_steps_few p w (actors i)
    (found_in m x) h.quiet (rule.threads i known).fits given.quiet in
    let (region, task) =
    taken_at p w m events s actors i before h.search (actors i).counter refl given.search x on in (
      x,
      on,
      record {
        meets = record { quiet = quiet.few; search = record { order = keeps.meets_order; region = region; task = task }; look = keeps.meets_look };
        given = record { quiet = quiet.given; search = keeps.search; look = keeps.look };
      },
    )

-- ---- the first

opening_rests : (p : Program) (i : ℕ) → Rests (opening_actor p i).counter
opening_rests p zero =
    rests_settled p (record (waiting_actor 0) { stack = at_start p.main Main ∷ [] })
    (λ none. rests_worker worker.Begin)
opening_rests p (suc i) = rests_worker worker.Begin

pub openings_given : OpeningsGiveWatch
openings_given = λ p i.
    let rests = opening_rests p i in
    record {
      quiet = omega arith;
      search = record { expected = inl (refl, rests.fresh.first (opening_actor p i)); region = sym rests.fresh.region; task = sym rests.fresh.task };
      look = rests.look (opening_actor p i) opening_watch.look;
    }
