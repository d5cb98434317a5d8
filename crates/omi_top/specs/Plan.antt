-- What a run of `stop` is to be, by the word STEPS and the options of its line.
use Rattle.std.specs.Prelude.{ℕ, List, Option, Some, None, option_map, option_and_then}
use Rattle.omi_line.specs.Number.{number_between}
use Rattle.omi_line.specs.declared.line.Line.{Line}
use Rattle.omi_core.specs.declared.stop.Break.{Break}
use Rattle.omi_top.specs.declared.limits.TheConstants.{MOST_STEPS, MOST_SEED, MOST_COUNT}
use Rattle.omi_commands.specs.Options.{break_named, layout_of}
use Rattle.omi_top.specs.declared.plan.Plan.{Plan}

-- Each of the following is None where the option is refused.

-- `--seed N`, with N 0 to 2^64 - 1, or no seed
abbrev pub seed_of : Option (List ℕ) → Option (Option ℕ)
seed_of None = Some None
seed_of (Some seed) = option_map Some (number_between seed 0 MOST_SEED)

-- `--break NAME` with `--count K`, K 1 to 1,000,000, or neither
abbrev pub break_of : Option (List ℕ) → Option (List ℕ) → Option (Option (Break × ℕ))
break_of None None = Some None
break_of (Some name) (Some count) =
    option_and_then (λ k. option_map (λ n. Some (k, n)) (number_between count 1 MOST_COUNT))
    (break_named name)
break_of (Some name) None = None
break_of None (Some count) = None

-- the plan of a layout, a seed, a number of steps, and an event at which to stop
abbrev pub plan_with : ℕ → Option ℕ → ℕ → Option (Break × ℕ) → Plan
plan_with layout seed n on =
    record { layout = layout; seed = seed; stop = record { steps = n; on = on } }

-- the run that a line asks for, with STEPS 0 to 1,000,000, where no part of it is refused
abbrev pub plan_of : List ℕ → Line → Option Plan
plan_of steps line =
    option_and_then (λ layout. option_and_then (λ seed. option_and_then
    (λ n. option_map (plan_with layout seed n)
    (break_of line.on line.count)) (number_between steps 0 MOST_STEPS)) (seed_of line.seed))
    (layout_of line.layout)
