-- The exits of `make`: what each result is an answer to.
use Rattle.std.proofs.Common.{◌≡◌, inl, inr, ℕ, List, Some, Ok, Err, refl, sym, subst}
use Rattle.std.specs.Global.{Vec}
use Rattle.omi_outside.specs.Outside.{Told, holding, IsCut}
use Rattle.omi_outside.specs.declared.files.Refused.{Refused as RefusedWrite}
use Rattle.omi_script.specs.Grammar.{Grammar}
use Rattle.omi_script.specs.declared.program.Program.{Program}
use Rattle.omi_model.specs.declared.event.Event.{Event}
use Rattle.omi_core.specs.declared.stop.Break.TheVariants.{TaskBegin}
use Rattle.omi_core.specs.Ends.{count_of}
use Rattle.omi_frame.specs.Verb.{Gives}
use Rattle.omi_frame.specs.Left.{IsAnswered}
use Rattle.omi_top.specs.Command.{Make}
use Rattle.omi_top.specs.CommandVerbs.{IsAnswer, verb_of}
use Rattle.omi_top.specs.Make.{IsMade, made_line, make_plan, make_text}
use Rattle.omi_core.specs.declared.stop.End.{End}
use Rattle.omi_core.specs.Steps.{events_behind}
use Rattle.omi_top.specs.Ran.{IsRanBy}
use Rattle.omi_frame.specs.Refusal.{refusal_of_write}
use Rattle.omi_frame.specs.declared.refusal.Refusal.TheVariants as refusal
use Rattle.omi_top.proofs.Running.{made_run}
use Rattle.omi_frame.proofs.Elsewhere.{late}

-- a run that was made, and its line
pub made : (n : ℕ) (p : Program) (tells : List (ℕ × ℕ × Event) → Type 0) (words : List ℕ) (steps : ℕ) (why : End) (line : List ℕ)
    → IsRanBy p make_plan tells words steps why
    → ((es : List (ℕ × ℕ × Event)) → tells es → line ≡ made_line n (count_of TaskBegin es) why) → IsMade n p line
made n p tells words steps why line by is =
    let run = made_run p make_plan tells words steps why by in
    record {
      w = by.w;
      family = by.family;
      entries = run.entries;
      end = why;
      words = words;
      state = run.state;
      run = run.run;
      line_is = is (events_behind 0 run.entries) run.told;
    }

module _ (n : ℕ) (script : List ℕ) (told : List ℕ → Told) where
  -- memory ran out before anything was written
  pub no_memory : (old : Told) → IsAnswered (verb_of (Make n script)) told (Err refusal.OutOfMemory) old old
  no_memory old = inr (inl (tt, refl))

  module _ (text line : List ℕ) (is : text ≡ make_text n)
      (tells : (p : Program) × Grammar text p × IsMade n p line) where
    answer : IsAnswer (Make n script) told (Gives (Some text) (Ok line))
    answer = (is, tells)

    -- the text is partly written
    pub partly_answered : (r : RefusedWrite) (old new : Told) → IsCut old new text
        → IsAnswered (verb_of (Make n script)) told (Err (refusal_of_write r)) old new
    partly_answered r old new cut = inr (inr (inl (late r, (text, (Ok line, answer), cut))))

    -- the text is written, and the line is handed up
    pub done_answered : (v : Vec ℕ) (old new : Told) → v.items ≡ line → new ≡ holding old text
        → IsAnswered (verb_of (Make n script)) told (Ok v) old new
    done_answered v old new same held =
        (Some text, subst (λ (x : List ℕ). IsAnswer (Make n script) told (Gives (Some text) (Ok x))) (sym same) answer, held)
