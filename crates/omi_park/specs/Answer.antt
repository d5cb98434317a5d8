-- What a command does, as a verb of its script, which it reads alone.
use Rattle.std.specs.Prelude.{◌≡◌, None}
use Rattle.omi_frame.specs.OfScript.{ScriptVerb, of_script}
use Rattle.omi_frame.specs.Verb.{Verb}
use Rattle.omi_park.specs.Command.{ParkCommand}
use Rattle.omi_park.specs.Shown.{IsParkRun}

-- the verb of a command: it writes no file and says the text of a run of the program
abbrev pub park_of : ParkCommand → ScriptVerb
park_of command = record {
  script = command.script;
  writes = None;
  gives = λ p written text. (written ≡ None) × IsParkRun p command.plan text;
  lacks = λ p. ⊥;
  may_lack = ⊥;
}

abbrev pub park_verb : ParkCommand → Verb
park_verb command = of_script (park_of command)
