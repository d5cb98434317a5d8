-- The exits of `stop`: what each result is an answer to.
use Rattle.std.proofs.Common.{◌≡◌, ◌⊎◌, ◌<◌, inl, inr, ℕ, List, length, Option, Some, None, Ok, Err, refl, sym, ◌∙◌, ap, subst}
use Rattle.std.specs.Global.{Vec}
use Rattle.omi_outside.specs.Outside.{Told, holding, IsCut}
use Rattle.omi_outside.specs.declared.files.Refused.{Refused as RefusedWrite}
use Rattle.omi_outside.specs.declared.files.Refused.TheVariants as refused
use Rattle.omi_script.specs.declared.program.Program.{Program}
use Rattle.omi_corefile.specs.Spelling.{core_bytes}
use Rattle.omi_model.specs.declared.event.Event.{Event}
use Rattle.omi_core.specs.Steps.{events_behind}
use Rattle.omi_frame.specs.Verb.{Gives}
use Rattle.omi_frame.specs.Left.{IsAnswered, IsEarly}
use Rattle.omi_frame.specs.Scripts.{IsProgramIn, IsScriptRefusal}
use Rattle.omi_top.specs.Command.{Stop as StopCommand}
use Rattle.omi_top.specs.Kinds.{IsUnwrittenBy}
use Rattle.omi_top.specs.CommandVerbs.{IsAnswer, verb_of}
use Rattle.omi_top.specs.verbs.Stop.{IsStopped}
use Rattle.omi_commands.specs.Cores.{IsCoreOf, thread_ids}
use Rattle.omi_top.specs.Lines.{run_text}
use Rattle.omi_core.specs.declared.stop.End.{End}
use Rattle.omi_top.specs.Ran.{IsRanBy}
use Rattle.omi_top.proofs.Running.{made_run}
use Rattle.omi_top.specs.declared.plan.Plan.{Plan}
use Rattle.omi_frame.specs.Refusal.{refusal_of_write, status_of, IsUnread}
use Rattle.omi_frame.proofs.Elsewhere.{late}
use Rattle.omi_frame.specs.declared.refusal.Input.TheVariants as input
use Rattle.omi_frame.specs.declared.refusal.Refusal.{Refusal}

module _ (plan : Plan) (script core : List ℕ) (told : List ℕ → Told) (content : Option (List ℕ))
    (is : told script ≡ Some content) where
  -- there is no program: the script is refused, can't be read, or memory ran out
  pub refused_answered : (r : Refusal) (old : Told) → IsScriptRefusal content r ⊎ IsUnread input.Script r
      → IsAnswered (verb_of (StopCommand plan script core)) told (Err r) old old
  refused_answered r old (inl refuses) = inl (None, (content, is, refuses), refl)
  refused_answered r old (inr (inl failed)) =
      inr (inl (subst (λ (x : Refusal). IsEarly (verb_of (StopCommand plan script core)) x) (sym failed) tt, refl))
  refused_answered r old (inr (inr memory)) =
      inr (inl (subst (λ (x : Refusal). IsEarly (verb_of (StopCommand plan script core)) x) (sym memory) tt, refl))

  module _ (p : Program) (holds : IsProgramIn content p) where
    -- the answer of a program's run
    run_answer : (written text : List ℕ) → IsStopped p plan written text
        → IsAnswer (StopCommand plan script core) told (Gives (Some written) (Ok text))
    run_answer written text stopped = go content is holds
      where
        go : (c : Option (List ℕ)) → told script ≡ Some c → IsProgramIn c p
            → IsAnswer (StopCommand plan script core) told (Gives (Some written) (Ok text))
        go None is nothing = absurd nothing
        go (Some bytes) is grammar = (Some bytes, is, (p, grammar, stopped))

    -- the core is partly written
    pub partly_answered : (written text : List ℕ) (r : RefusedWrite) (old new : Told)
        → IsStopped p plan written text → IsCut old new written
        → IsAnswered (verb_of (StopCommand plan script core)) told (Err (refusal_of_write r)) old new
    partly_answered written text r old new stopped cut =
        inr (inr (inl (late r, (written, (Ok text, run_answer written text stopped), cut))))

    -- the core is written, and the text is handed up
    pub done_answered : (written : List ℕ) (text : Vec ℕ) (old new : Told)
        → IsStopped p plan written text.items → new ≡ holding old written
        → IsAnswered (verb_of (StopCommand plan script core)) told (Ok text) old new
    done_answered written text old new stopped held =
        (Some written, run_answer written text.items stopped, held)

-- ---- a run that was made

-- with its core and its text
pub made_stopped : (p : Program) (plan : Plan) (tells : List (ℕ × ℕ × Event) → Type 0) (words : List ℕ) (steps : ℕ) (why : End) (core text : List ℕ)
    → IsRanBy p plan tells words steps why
    → (0 < length words → core ≡ core_bytes (thread_ids p.threads) words) → (0 < length words → IsCoreOf (thread_ids p.threads) core words)
    → ((es : List (ℕ × ℕ × Event)) → tells es → text ≡ run_text es steps why) → IsStopped p plan core text
made_stopped p plan tells words steps why core text by bytes image lines =
    let made = made_run p plan tells words steps why by in
    record {
      w = by.w;
      valid = by.valid;
      family = by.family;
      entries = made.entries;
      end = why;
      words = words;
      state = made.state;
      run = made.run;
      core_is = bytes made.some;
      core_of = image made.some;
      text_is = lines (events_behind 0 made.entries) made.told ∙ ap (λ n. run_text (events_behind 0 made.entries) n why) made.many;
    }

-- a refused write is no refusal after which nothing was written
pub never_unwritten : (last : Type 0) (r : RefusedWrite)
    → IsUnwrittenBy last (status_of (refusal_of_write r)) → ⊥
never_unwritten last refused.Failed unwritten = unwritten
never_unwritten last refused.OutOfMemory unwritten = unwritten
