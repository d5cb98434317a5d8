-- The control variables of this profile by number: scope, where the value stands, and how it is spelled. omi_numbers has their names.
use Rattle.std.specs.Prelude.{ℕ, ◌==◌, List, [], ◌∷◌, find, Option, Some, None, Result, if◌then◌else◌}
use Rattle.std.specs.Option.{option_and_then, ok_or}
use Rattle.omi_layout.specs.declared.field.Field.TheVariants.{RuntimeProcs, RuntimeDebug, RuntimeMaxActive, RegionLevels, RegionActive, TaskImplicit, TaskDynamic, TaskSchedule, TaskDevice, TaskFinal}
use Rattle.omi_numbers.specs.declared.variables.TheConstants.{DYN_VAR, NTHREADS_VAR, RUN_SCHED_VAR, DEFAULT_DEVICE_VAR, MAX_ACTIVE_LEVELS_VAR, FINAL_TASK_VAR, IMPLICIT_TASK_VAR, DEBUG_VAR, NUM_PROCS_VAR, LEVELS_VAR, ACTIVE_LEVELS_VAR, TEAM_SIZE_VAR, THREAD_NUM_VAR}
use Rattle.omi_session.specs.declared.rc.Rc.{Rc}
use Rattle.omi_session.specs.declared.rc.Rc.TheVariants.{Unsupported}
use Rattle.omi_icv.specs.declared.scoped.Scope.{Scope}
use Rattle.omi_icv.specs.declared.scoped.Scope.TheVariants.{AddressSpace, Thread, Parallel, Task}
use Rattle.omi_icv.specs.declared.variable.Source.{Source}
use Rattle.omi_icv.specs.declared.variable.Source.TheVariants.{Word, TeamSize, Elements, MemberNumber}
use Rattle.omi_icv.specs.declared.variable.Spelling.{Spelling}
use Rattle.omi_icv.specs.declared.variable.Spelling.TheVariants.{Decimal, Schedule, Switch}
use Rattle.omi_icv.specs.declared.variable.Variable.{Variable}
use Rattle.omi_icv.specs.Scopes.{scope_number}

-- a row of the table
pub record Row : Type 0 where
  pub number : ℕ
  pub variable : Variable

abbrev pub row : ℕ → Scope → Source → Spelling → Row
row number scope source spelling = record {
  number = number;
  variable = record { scope = scope; source = source; spelling = spelling };
}

-- the variables, in the order of enumeration
abbrev pub variables : List Row
variables =
    row DYN_VAR Task (Word TaskDynamic) Decimal
    ∷ row NTHREADS_VAR Task Elements Decimal
    ∷ row RUN_SCHED_VAR Task (Word TaskSchedule) Schedule
    ∷ row DEFAULT_DEVICE_VAR Task (Word TaskDevice) Decimal
    ∷ row FINAL_TASK_VAR Task (Word TaskFinal) Decimal
    ∷ row IMPLICIT_TASK_VAR Task (Word TaskImplicit) Decimal
    ∷ row MAX_ACTIVE_LEVELS_VAR AddressSpace (Word RuntimeMaxActive) Decimal
    ∷ row DEBUG_VAR AddressSpace (Word RuntimeDebug) Switch
    ∷ row NUM_PROCS_VAR AddressSpace (Word RuntimeProcs) Decimal
    ∷ row LEVELS_VAR Parallel (Word RegionLevels) Decimal
    ∷ row ACTIVE_LEVELS_VAR Parallel (Word RegionActive) Decimal
    ∷ row TEAM_SIZE_VAR Parallel TeamSize Decimal
    ∷ row THREAD_NUM_VAR Thread MemberNumber Decimal
    ∷ []

-- the row of a number
abbrev pub row_of : ℕ → Option Row
row_of icv = find (λ row. icv == row.number) variables

-- the variable of a row, where it has this scope
abbrev pub in_scope : Scope → Row → Option Variable
in_scope scope row =
    if scope_number row.variable.scope == scope_number scope then Some row.variable else None

-- the variable with a number, which has to have this scope
abbrev pub variable_in : Scope → ℕ → Result Variable Rc
variable_in scope icv = ok_or (option_and_then (in_scope scope) (row_of icv)) Unsupported
