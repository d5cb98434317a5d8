-- The exits of `run`: what each result is an answer to.
use Rattle.std.proofs.Common.{◌≡◌, ◌++◌, inl, inr, refl, ℕ, List, Option, Some, None, Ok, Err}
use Rattle.std.specs.Global.{Vec}
use Rattle.std.specs.Prelude.{Result}
use Rattle.omi_outside.specs.Outside.{Told}
use Rattle.omi_frame.specs.Verb.{Gives}
use Rattle.omi_frame.specs.Left.{IsAnswered, IsBehind, IsEarly, IsWritten}
use Rattle.omi_top.specs.Command.{Run, Show, Stop}
use Rattle.omi_top.specs.CommandVerbs.{IsUnwritten, verb_of}
use Rattle.omi_top.specs.verbs.Show.{IsShowAnswer}
use Rattle.omi_top.specs.verbs.Stop.{IsStopAnswer}
use Rattle.omi_top.specs.declared.plan.Plan.{Plan}
use Rattle.omi_outside.specs.declared.status.Status.{Status}
use Rattle.omi_outside.specs.declared.status.Status.TheVariants as status
use Rattle.omi_frame.specs.Refusal.{status_of}
use Rattle.omi_frame.specs.declared.refusal.Input.TheVariants as input
use Rattle.omi_frame.specs.declared.refusal.Refusal.{Refusal}
use Rattle.omi_frame.specs.declared.refusal.Refusal.TheVariants as refusal

-- a fault before `show` reads is one behind the core that was written
read_back : (plan : Plan) (script core : List ℕ) (r : Refusal) → IsEarly (verb_of (Show core)) r
    → IsBehind (verb_of (Run plan script core)) r
read_back plan script core (refusal.ReadFault input.Script) is = is
read_back plan script core (refusal.ReadFault input.Core) is = tt
read_back plan script core refusal.OutOfMemory is = tt
read_back plan script core r is = is

show_never_behind : (core : List ℕ) (r : Refusal) → IsBehind (verb_of (Show core)) r → ⊥
show_never_behind core refusal.OutOfMemory is = is
show_never_behind core r is = is

-- what `show` is refused for stands behind the core that was written: it refuses no words and no script
pub shows_last : (plan : Plan) (script core : List ℕ) (r : Refusal) → (let ended : Refusal → Result (Vec ℕ) Refusal = λ x. Err x in ended r ≡ ended refusal.Usage → ⊥)
    → (status_of r ≡ status.Script → ⊥) → IsUnwritten (Run plan script core) (status_of r) → ⊥
shows_last plan script core refusal.Usage words text is = words refl
shows_last plan script core (refusal.Script fault) words text is = text refl
shows_last plan script core r words text is = is

-- where `run` wrote nothing, `stop` did not
pub run_unwritten : (plan : Plan) (script core : List ℕ) (s : Status) → IsUnwritten (Run plan script core) s
    → IsUnwritten (Stop plan script core) s
run_unwritten plan script core status.Success is = is
run_unwritten plan script core status.WriteFault is = is
run_unwritten plan script core status.OutOfMemory is = is
run_unwritten plan script core status.Usage is = tt
run_unwritten plan script core status.NoFile is = tt
run_unwritten plan script core status.ReadFault is = tt
run_unwritten plan script core status.Script is = tt
run_unwritten plan script core status.Core is = tt
run_unwritten plan script core status.Damaged is = tt
run_unwritten plan script core status.Incompatible is = tt

-- `show` writes nothing
show_writes_none : (content : Option (List ℕ)) (bytes : List ℕ) (says : Result (List ℕ) Refusal)
    → IsShowAnswer content (Gives (Some bytes) says) → ⊥
show_writes_none None bytes (Ok text) is = is
show_writes_none None bytes (Err r) is = is
show_writes_none (Some core) bytes (Ok text) is = is
show_writes_none (Some core) bytes (Err r) is = is

module _ (plan : Plan) (script core : List ℕ) (told : List ℕ → Told) (content : Option (List ℕ))
    (is : told core ≡ Some content) where
  -- the core that `stop` wrote
  module _ (lines : Vec ℕ) (old new : Told) where
    pub written_by_stop : IsAnswered (verb_of (Stop plan script core)) told (Ok lines) old new
        → IsWritten (verb_of (Run plan script core)) told old new
    written_by_stop (Some written, answer, held) = (written, (Ok lines.items, answer), held)
    written_by_stop (None, (text, here, answer), held) = absurd (go text answer)
      where
        go : (t : Option (List ℕ)) → IsStopAnswer plan t (Gives None (Ok lines.items)) → ⊥
        go None said = said
        go (Some bytes) said = said

    -- memory runs out behind it
    pub no_memory : IsAnswered (verb_of (Stop plan script core)) told (Ok lines) old new
        → IsAnswered (verb_of (Run plan script core)) told (Err refusal.OutOfMemory) old new
    no_memory stopped = inr (inr (inr (tt, written_by_stop stopped)))

    -- `show` is refused, or fails
    pub show_failed : (r : Refusal) (before after : Told)
        → IsAnswered (verb_of (Stop plan script core)) told (Ok lines) old new
        → IsAnswered (verb_of (Show core)) told (Err r) before after
        → IsAnswered (verb_of (Run plan script core)) told (Err r) old new
    show_failed r before after (Some written, (text, here, answer), held) (inl (None, (found, there, said), same)) =
        inl (Some written, (text, here, found, there, (lines.items, answer, said)), held)
    show_failed r before after stopped (inl (Some bytes, (found, there, said), same)) =
        absurd (show_writes_none found bytes (Err r) said)
    show_failed r before after stopped (inr (inl (first, same))) =
        inr (inr (inr (read_back plan script core r first, written_by_stop stopped)))
    show_failed r before after stopped (inr (inr (inl (late, (bytes, (says, (found, there, said)), cut))))) =
        absurd (show_writes_none found bytes says said)
    show_failed r before after stopped (inr (inr (inr (behind, whole)))) =
        absurd (show_never_behind core r behind)
    show_failed r before after (None, (text, here, answer), held) (inl (None, (found, there, said), same)) =
        absurd (go text answer)
      where
        go : (t : Option (List ℕ)) → IsStopAnswer plan t (Gives None (Ok lines.items)) → ⊥
        go None said = said
        go (Some bytes) said = said

    -- the report is put behind the lines
    pub shown_behind : (report text : Vec ℕ) (before after : Told) → text.items ≡ lines.items ++ report.items
        → IsAnswered (verb_of (Stop plan script core)) told (Ok lines) old new
        → IsAnswered (verb_of (Show core)) told (Ok report) before after
        → IsAnswered (verb_of (Run plan script core)) told (Ok text) old new
    shown_behind report text before after joined (Some written, (script_text, here, answer), held) (None, (found, there, said), same) =
        (Some written, (script_text, here, found, there, (lines.items, answer, (report.items, said, joined))), held)
    shown_behind report text before after joined stopped (Some bytes, (found, there, said), same) =
        absurd (show_writes_none found bytes (Ok report.items) said)
    shown_behind report text before after joined (None, (script_text, here, answer), held) (None, (found, there, said), same) =
        absurd (go script_text answer)
      where
        go : (t : Option (List ℕ)) → IsStopAnswer plan t (Gives None (Ok lines.items)) → ⊥
        go None said = said
        go (Some bytes) said = said
