-- What a command's verb gave, by the text of its program; and that no program is both lacking and served.
use Rattle.std.proofs.Common.{◌≡◌, ◌⊎◌, ◌<◌, ◌≤◌, inl, inr, ℕ, List, Option, Some, None, Ok, Err, refl, sym, subst, arith}
use Rattle.std.specs.Prelude.{IfErr, IfOk, Result}
use Rattle.std.specs.Global.{Vec}
use Rattle.omi_script.specs.declared.program.Program.{Program}
use Rattle.omi_frame.specs.Concluded.{Performed}
use Rattle.omi_frame.specs.Scripts.{IsProgramIn}
use Rattle.omi_frame.specs.Seen.{SeenFiles}
use Rattle.omi_frame.specs.declared.refusal.Refusal.{Refusal}
use Rattle.omi_frame.specs.declared.refusal.Refusal.TheVariants as refusal
use Rattle.omi_frame.proofs.OfScript.{lacking_performed, memory_performed, said_performed}
use Rattle.omi_rewind_top.specs.Answer.{IsRewindText, LacksThread, MayLackThread, rewind_of, rewind_verb}
use Rattle.omi_rewind_top.specs.Command.{RewindCommand, GoTo, FindState, script_of}

pub lacks_text : (command : RewindCommand) (p : Program) (written : Option (List ℕ)) (text : List ℕ)
    → (written ≡ None) × IsRewindText command p text → LacksThread command p → ⊥
lacks_text (GoTo steps script) p written text (none, printed) lacks = lacks
lacks_text (FindState thread state last script) p written text (none, is) lacks =
    let has : thread < p.threads = is.0 in omega (arith, has, lacks)

may_lack : (command : RewindCommand) (p : Program) → LacksThread command p → MayLackThread (Some command)
may_lack (GoTo steps script) p lacks = lacks
may_lack (FindState thread state last script) p lacks = tt

-- by what is made of the program
pub text_performed : (command : RewindCommand) (files files_now : SeenFiles) → files.reads ≤ files_now.reads
    → files_now.told ≡ files.told → files.writes ≤ files_now.writes → (p : Program)
    → ((content : Option (List ℕ)) → files.told (script_of command) ≡ Some content → IsProgramIn content p)
    → (result : Result (Vec ℕ) Refusal) → IfOk result (λ text. IsRewindText command p text.items)
    → IfErr result (λ r. (r ≡ refusal.OutOfMemory) ⊎ ((r ≡ refusal.Usage) × LacksThread command p))
    → Performed (rewind_verb command) result files files_now files files_now
text_performed command files files_now reads same writes p holds (Ok text) printed none =
    said_performed (rewind_of command) files files_now files files_now reads p holds text (refl, printed) same writes
text_performed command files files_now reads same writes p holds (Err r) none (inl memory) =
    subst (λ (x : Refusal). Performed (rewind_verb command) (Err x) files files_now files files_now) (sym memory)
    (memory_performed (rewind_of command) files files_now files files_now reads p holds same writes)
text_performed command files files_now reads same writes p holds (Err r) none (inr (usage, lacks)) =
    subst (λ (x : Refusal). Performed (rewind_verb command) (Err x) files files_now files files_now) (sym usage)
    (lacking_performed (rewind_of command) files files_now files files_now reads p holds lacks (may_lack command p lacks) same writes)
