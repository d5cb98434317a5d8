-- The flag of a frame.
use Rattle.std.specs.Prelude.{ℕ, ◌==◌, if◌then◌else◌}

-- application (0x01) and frame pointer (0x20), and 0 where there is no frame
abbrev pub flag_of : ℕ → ℕ
flag_of frame = if frame == 0 then 0 else 33
