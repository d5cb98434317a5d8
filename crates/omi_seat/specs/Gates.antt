-- A gate at which threads wait for each other at the start.
use Rattle.std.specs.Prelude.{ℕ}
use Rattle.omi_seat.specs.declared.start_gate.StartGate.{StartGate}

-- for how many turns a thread waits there at most
abbrev pub turns_of : StartGate → ℕ
turns_of gate = gate.turns
