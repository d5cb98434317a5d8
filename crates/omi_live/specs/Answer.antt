-- What a command does, as a verb of its script, which it reads alone.
use Rattle.std.specs.Prelude.{◌≡◌, ℕ, List, Some}
use Rattle.omi_frame.specs.OfScript.{ScriptVerb, of_script}
use Rattle.omi_frame.specs.Verb.{Verb}
use Rattle.omi_live.specs.Command.{LiveCommand}
use Rattle.omi_live.specs.Run.{IsLiveRun}

-- the verb of a command: it writes the core and says the text of a run of the program
abbrev pub live_of : LiveCommand → ScriptVerb
live_of command = record {
  script = command.script;
  writes = Some command.core;
  gives = λ p written text. (core : List ℕ) × (written ≡ Some core) × IsLiveRun p command.plan core text;
  lacks = λ p. ⊥;
  may_lack = ⊥;
}

abbrev pub live_verb : LiveCommand → Verb
live_verb command = of_script (live_of command)
