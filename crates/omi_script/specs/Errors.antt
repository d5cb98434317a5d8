-- What an error says, where it is a fault of the text.
use Rattle.omi_script.specs.declared.fault.ScriptFault.{ScriptFault}
use Rattle.std.specs.Prelude.{ℕ}
use Rattle.omi_script.specs.declared.fault.LineError.{LineError}
use Rattle.omi_script.specs.declared.fault.LineError.TheVariants as line_error
use Rattle.omi_script.specs.declared.fault.ScriptError.{ScriptError}
use Rattle.omi_script.specs.declared.fault.ScriptError.TheVariants.{Fault, OutOfMemory}

-- a fact of the fault, where the error is one. Want of memory says nothing
abbrev pub IfFault : (ScriptFault → Type 0) → ScriptError → Type 0
IfFault P (Fault fault) = P fault
IfFault P OutOfMemory = Unit {0}

-- the error of the line with a number
abbrev pub error_at : ℕ → LineError → ScriptError
error_at line (line_error.Fault why) = Fault (record { line = line; why = why })
error_at line line_error.OutOfMemory = OutOfMemory
