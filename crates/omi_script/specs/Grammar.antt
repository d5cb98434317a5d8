-- The workload language: which texts are which programs, and which are refused, at which line and
-- why.
use Rattle.std.specs.Prelude.{◌≡◌, ℕ, true, false, List, [], ◌∷◌, position, codes, Some, unwrap_or}
use Rattle.omi_numbers.specs.declared.schedules.TheConstants.{STATIC}
use Rattle.omi_script.specs.ParserState.{is_called}
use Rattle.omi_script.specs.Verdict.{Accepts, Refuses, verdict}
use Rattle.omi_script.specs.declared.env.Env.{Env}
use Rattle.omi_script.specs.declared.fault.ScriptFault.{ScriptFault}
use Rattle.omi_script.specs.declared.head.Head.{Head}
use Rattle.omi_script.specs.declared.parser.ParserState.{ParserState}
use Rattle.omi_script.specs.declared.program.Program.{Program}

-- the number of threads, 1 by default
abbrev pub threads_of : Head → ℕ
threads_of h = unwrap_or h.threads 1

-- the head of a program, with the default of each line that is not there. By default nthreads-var
-- has the number of threads as its one element
abbrev pub env_of : Head → Env
env_of h =
    record {
      nthreads = unwrap_or h.nthreads (threads_of h ∷ []);
      dynamic = unwrap_or h.dynamic false;
      max_active = unwrap_or h.max_active 8;
      sched = unwrap_or h.sched (record { kind = STATIC; chunk = 0 });
      device = unwrap_or h.device 0;
      debug = unwrap_or h.debug true;
      procs = unwrap_or h.procs 4;
    }

-- the program of the lines that lead to a state
pub record IsProgramOf (state : ParserState) (p : Program) : Type 0 where
  pub threads : p.threads ≡ threads_of state.head
  pub env : p.env ≡ env_of state.head
  pub funcs : p.funcs ≡ state.closed
  pub main : Some p.main ≡ position (is_called (codes "main")) state.closed

-- the text is the program
pub record Grammar (bytes : List ℕ) (p : Program) : Type 0 where
  pub state : ParserState
  pub says : verdict bytes ≡ Accepts state
  pub program : IsProgramOf state p

-- the text is no program: this is its first faulty line, counted from 1, and the least fault of
-- that line
pub record Refused (bytes : List ℕ) (fault : ScriptFault) : Type 0 where
  pub says : verdict bytes ≡ Refuses fault

-- two programs have equal fields
pub record AreEqual (p q : Program) : Type 0 where
  pub threads : p.threads ≡ q.threads
  pub env : p.env ≡ q.env
  pub funcs : p.funcs ≡ q.funcs
  pub main : p.main ≡ q.main
