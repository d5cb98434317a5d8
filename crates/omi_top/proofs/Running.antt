-- A run that was made is a run of the definition.
use Rattle.std.proofs.Common.{◌≡◌, ◌≤◌, ◌<◌, ◌++◌, ℕ, List, [], ◌∷◌, length, map, refl, sym, ◌∙◌, ap, subst, arith}
use Rattle.omi_script.specs.declared.program.Program.{Program}
use Rattle.omi_word.specs.Words.{words_of}
use Rattle.omi_model.specs.declared.event.Event.{Event}
use Rattle.omi_model.specs.Reached.{Reached}
use Rattle.omi_model.specs.State.{State}
use Rattle.omi_rep.specs.Shows.{Shows}
use Rattle.omi_run_lists.specs.declared.made.Made.{Made}
use Rattle.omi_core.specs.declared.entry.Entry.{Entry}
use Rattle.omi_core.specs.declared.stop.End.{End}
use Rattle.omi_core.specs.Ends.{IsEnded}
use Rattle.omi_core.specs.Found.{MakeNext}
use Rattle.omi_core.specs.Histories.{Counts}
use Rattle.omi_core.specs.Runs.{Run, events_in}
use Rattle.omi_core.specs.Schedules.{threads_by}
use Rattle.omi_core.specs.Steps.{AreStepsOf, events_behind, made_of_steps, steps_of, threads_of_steps}
use Rattle.omi_core.proofs.History.{made_length}
use Rattle.omi_top.specs.declared.plan.Plan.{Plan}
use Rattle.omi_top.specs.Ran.{IsRanBy}
use Rattle.omi_top.specs.Run.{IsRun, thread_schedule}

kept_threads : (xs : List (ℕ × Entry)) → map (λ (m : Made). m.thread) (made_of_steps xs) ≡ threads_of_steps xs
kept_threads [] = refl
kept_threads (x ∷ xs) = ap (λ ns. x.0 ∷ ns) (kept_threads xs)

-- its steps, and what is told of them
pub record MadeRun (w : List ℕ) (p : Program) (plan : Plan) (tells : List (ℕ × ℕ × Event) → Type 0) (words : List ℕ) (steps : ℕ) (why : End) : Type 0 where
  pub entries : List (ℕ × Entry)
  pub state : State
  pub run : IsRun w p plan entries why words state
  pub told : tells (events_behind 0 entries)
  pub many : steps ≡ length entries
  pub some : 0 < length words

pub made_run : (p : Program) (plan : Plan) (tells : List (ℕ × ℕ × Event) → Type 0) (words : List ℕ) (steps : ℕ) (why : End) (by : IsRanBy p plan tells words steps why)
    → MadeRun by.w p plan tells words steps why
made_run p plan tells words steps why by =
    let r = by.recorded in
    let last : Run = r.last in
    let (xs, s, h) = r.history in
    let (added, ends) = r.run in
    let program : last.program ≡ p = added.program ∙ r.opens.program in
    let table : last.table ≡ by.w = added.table ∙ r.opens.table in
    let all : last.made.items ≡ added.made =
    added.made_are ∙ ap (λ (ms : List Made). ms ++ added.made) r.opens.made in
    let many : length added.made ≡ length xs = ap length (sym all ∙ h.made_by.made) ∙ made_length xs in
    let events : added.events ≡ events_behind 0 xs =
    sym (added.events_are ∙ ap (λ (es : List (ℕ × ℕ × Event)). es ++ added.events) r.opens.events)
    ∙ h.made_by.events in
    let steps_now : AreStepsOf p by.w xs last.words s =
    subst (λ (q : Program). AreStepsOf q by.w xs last.words s) program
    (subst (λ t. AreStepsOf last.program t xs last.words s) table h.made_by.steps) in
    let reached : Reached p (events_in (events_behind 0 xs)) s =
    subst (λ (es : List (ℕ × ℕ × Event)). Reached p (events_in es) s) h.made_by.events
    (subst (λ (q : Program). Reached q (events_in last.events.items) s) program h.reached) in
    let long = h.tables.long in
    record {
      entries = xs;
      state = s;
      run = record {
        steps = subst (λ (ws : List ℕ). AreStepsOf p by.w xs ws s) (sym r.words_are) steps_now;
        follow = λ i. subst (λ (q : Program). MakeNext q by.w i (steps_of i xs)) program (subst (λ t. MakeNext last.program t i (steps_of i xs)) table (h.follow i));
        threads =
            sym (kept_threads xs)
            ∙ ap (map (λ (m : Made). m.thread)) (sym (sym all ∙ h.made_by.made))
            ∙ added.threads
            ∙ ap
            (λ (q : Program). threads_by (thread_schedule plan.seed) q.threads (length added.made)) r.opens.program
            ∙ ap (threads_by (thread_schedule plan.seed) p.threads) many;
        few = subst (λ n. n ≤ plan.stop.steps) many added.within;
        ended =
            subst (λ (es : List (ℕ × ℕ × Event)). IsEnded plan.stop (length xs) (length xs) es why) events
            (subst (λ n. IsEnded plan.stop n (length xs) added.events why) many
            (subst (λ n. IsEnded plan.stop (length added.made) n added.events why) (ap length all ∙ many) ends));
        reached = reached;
        shows = subst (λ (ws : List ℕ). Shows by.w (words_of ws) s) (sym r.words_are) (subst (λ t. Shows t (words_of last.words) s) table h.shows);
        counts = subst (λ (ws : List ℕ). Counts by.w ws s) (sym r.words_are) (subst (λ t. Counts t last.words s) table h.counts);
      };
      told = subst tells h.made_by.events r.told;
      many = r.steps_are ∙ ap length all ∙ many;
      some = subst (λ (ws : List ℕ). 0 < length ws) (sym r.words_are) (omega (arith, long));
    }
