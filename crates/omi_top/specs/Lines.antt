-- What a run prints: a line for each event, and the end line.
use Rattle.std.specs.Prelude.{ℕ, List, [], ◌∷◌, ◌++◌, length, codes}
use Rattle.std.specs.Fmt.{decimal}
use Rattle.omi_model.specs.declared.event.Event.{Event}
use Rattle.omi_commands.specs.EventLines.{event_lines}
use Rattle.omi_core.specs.declared.stop.End.{End}
use Rattle.omi_core.specs.declared.stop.End.TheVariants as end

-- why a run ended
abbrev pub end_word : End → List ℕ
end_word end.Steps = codes "steps"
end_word end.Break = codes "break"
end_word end.Done = codes "done"

-- the end line: how many steps and events there were, and why they ended
abbrev pub end_line : ℕ → ℕ → End → List ℕ
end_line steps events why =
    codes "end steps " ++ (decimal steps ++ (codes " events " ++ (decimal events
    ++ (codes " by " ++ (end_word why ++ 10 ∷ [])))))

-- all that a run of so many steps prints
abbrev pub run_text : List (ℕ × ℕ × Event) → ℕ → End → List ℕ
run_text es steps why = event_lines es ++ end_line steps (length es) why
