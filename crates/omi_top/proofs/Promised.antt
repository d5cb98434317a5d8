-- What `run` puts where it reads back the core that it left, as the promise alone.
use Rattle.std.proofs.Common.{◌≡◌, ◌+◌, ◌++◌, ◌∷◌, inl, inr, ℕ, List, [], Option, ap, refl, subst}
use Rattle.omi_outside.specs.Outside.{put_on}
use Rattle.omi_outside.specs.declared.status.Status.{Status}
use Rattle.omi_outside.specs.declared.status.Status.TheVariants as status
use Rattle.omi_model.specs.declared.event.Event.{Event}
use Rattle.omi_rep.specs.declared.outcome.Outcome.{Outcome}
use Rattle.omi_rep.specs.declared.outcome.Outcome.TheVariants as outcome
use Rattle.omi_core.specs.declared.entry.Entry.{Entry}
use Rattle.omi_core.specs.RunSteps.{event_of}
use Rattle.omi_core.specs.Steps.{events_behind, threads_of_steps}
use Rattle.omi_text.specs.Report.{report}
use Rattle.omi_top.specs.declared.plan.Plan.{Plan}
use Rattle.omi_top.specs.Promise.{ComeInTurns, IsPromised}
use Rattle.omi_top.specs.verbs.Run.{IsRunShown}

-- the events of steps come in the turns of their threads, where those of all steps but the first do
turn_and_later : (step thread : ℕ) (turns : List ℕ) (later : List (ℕ × ℕ × Event)) (o : Outcome)
    → ComeInTurns (step + 1) turns later → ComeInTurns step (thread ∷ turns) (event_of step thread o ++ later)
turn_and_later step thread turns later (outcome.Event e) rest = inr (e, later, refl, rest)
turn_and_later step thread turns later outcome.Quiet rest = inl rest
turn_and_later step thread turns later (outcome.NotReady addr word) rest = inl rest
turn_and_later step thread turns later outcome.Ended rest = inl rest

in_turns : (steps : ℕ) (xs : List (ℕ × Entry)) → ComeInTurns (steps + 1) (threads_of_steps xs) (events_behind steps xs)
in_turns steps [] = refl
in_turns steps (x ∷ xs) =
    turn_and_later (steps + 1) x.0 (threads_of_steps xs) (events_behind (steps + 1) xs) x.1.outcome (in_turns (steps + 1) xs)

pub promised : (script : List ℕ) (plan : Plan) (core : List ℕ) (result : Status) (out after : Option (List ℕ))
    → result ≡ status.Success → IsRunShown script plan core result out after
    → (put : List ℕ) × IsPromised script plan put × (after ≡ put_on out put)
promised script plan core result out after done shown =
    let (p, lines, grammar, run, v, of_state, put) = subst (λ r. IsRunShown script plan core r out after) done shown in (
      lines ++ report v,
      record {
        program = p;
        written = grammar;
        events = events_behind 0 run.entries;
        state = run.state;
        reached = run.run.reached;
        steps = _;
        end = run.end;
        few = run.run.few;
        ended = run.run.ended;
        turns = subst (λ turns. ComeInTurns 1 turns (events_behind 0 run.entries)) run.run.threads (in_turns 0 run.entries);
        view = v;
        of_state = of_state;
        is = ap (λ text. text ++ report v) run.text_is;
      },
      put,
    )
