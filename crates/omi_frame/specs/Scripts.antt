-- What a command makes of the script that it reads.
use Rattle.std.specs.Prelude.{◌≡◌, ℕ, List, Option, Some, None, ⊤}
use Rattle.omi_script.specs.Grammar.{Grammar, Refused}
use Rattle.omi_script.specs.declared.fault.ScriptFault.{ScriptFault}
use Rattle.omi_script.specs.declared.program.Program.{Program}
use Rattle.omi_frame.specs.declared.refusal.Input.TheVariants as input
use Rattle.omi_frame.specs.declared.refusal.Refusal.{Refusal}
use Rattle.omi_frame.specs.declared.refusal.Refusal.TheVariants as refusal

-- a script's file holds this program
abbrev pub IsProgramIn : Option (List ℕ) → Program → Type 0
IsProgramIn None p = ⊥
IsProgramIn (Some bytes) p = Grammar bytes p

-- it holds a program
abbrev pub HoldsProgram : Option (List ℕ) → Type 0
HoldsProgram content = (p : Program) × IsProgramIn content p

-- why a script is refused, by the content of its file: there is none, or the grammar refuses its text
abbrev pub IsScriptRefusal : Option (List ℕ) → Refusal → Type 0
IsScriptRefusal None r = r ≡ refusal.NoFile input.Script
IsScriptRefusal (Some bytes) r =
    (fault : ScriptFault) × Refused bytes fault × (r ≡ refusal.Script fault)

-- what the reading of a script can be refused for
abbrev pub IsOfScript : Refusal → Type 0
IsOfScript (refusal.NoFile input.Script) = ⊤
IsOfScript (refusal.ReadFault input.Script) = ⊤
IsOfScript (refusal.Script fault) = ⊤
IsOfScript refusal.OutOfMemory = ⊤
IsOfScript r = ⊥
