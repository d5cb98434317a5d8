use Rattle.std.proofs.Common.{◌≡◌, ◌∷◌, ◌++◌, drop, string_bytes}
use Rattle.std.specs.List.{flat_map}
use Rattle.omi_text.specs.Events.{member_word}
use Rattle.omi_text.proofs.events.push_team.Given as goal

-- the members so far, and those that are left
abbrev pub invariant-loop-at : goal.invariant-loop-at
invariant-loop-at l =
    string_bytes l.text ++ flat_map (λ m. 32 ∷ member_word m) (drop l.at l.team) ≡ string_bytes l.fn.text ++ flat_map (λ m. 32 ∷ member_word m) l.team
