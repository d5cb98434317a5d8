-- What a command does, as a verb of its script, which it reads alone.
use Rattle.std.specs.Prelude.{◌≡◌, ◌≤◌, ◌<◌, ℕ, List, Option, Some, None, ⊤}
use Rattle.omi_rewind.specs.declared.test.Test.TheVariants.{State}
use Rattle.omi_script.specs.declared.program.Program.{Program}
use Rattle.omi_frame.specs.OfScript.{IsLacking, ScriptVerb, of_script}
use Rattle.omi_frame.specs.Verb.{Verb}
use Rattle.omi_rewind_top.specs.Command.{RewindCommand, GoTo, FindState, script_of}
use Rattle.omi_rewind_top.specs.Turns.{IsAtText, IsWhenText}

-- what a command prints of a program that has its thread
abbrev pub IsRewindText : RewindCommand → Program → List ℕ → Type 0
IsRewindText (GoTo steps script) p text = IsAtText p steps text
IsRewindText (FindState thread state last script) p text =
    (thread < p.threads) × IsWhenText p (State thread state) last text

-- a program has no thread of the command's number
abbrev pub LacksThread : RewindCommand → Program → Type 0
LacksThread (GoTo steps script) p = ⊥
LacksThread (FindState thread state last script) p = p.threads ≤ thread

-- the words may be refused for this: the command names a thread, or there is no command
abbrev pub MayLackThread : Option RewindCommand → Type 0
MayLackThread None = ⊤
MayLackThread (Some (GoTo steps script)) = ⊥
MayLackThread (Some (FindState thread state last script)) = ⊤

-- the verb of a command, which writes no file
abbrev pub rewind_of : RewindCommand → ScriptVerb
rewind_of command = record {
  script = script_of command;
  writes = None;
  gives = λ p written text. (written ≡ None) × IsRewindText command p text;
  lacks = LacksThread command;
  may_lack = MayLackThread (Some command);
}

abbrev pub rewind_verb : RewindCommand → Verb
rewind_verb command = of_script (rewind_of command)

-- a script's file holds a program that has no such thread
abbrev pub IsThreadless : RewindCommand → Option (List ℕ) → Type 0
IsThreadless command content = IsLacking (rewind_of command) content
