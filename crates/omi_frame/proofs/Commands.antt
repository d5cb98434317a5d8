-- The command that a request stands for is the one that the words ask for.
use Rattle.std.proofs.Common.{◌≡◌, Option, Some, None, ap, subst}
use Rattle.omi_outside.specs.declared.status.Status.{Status}
use Rattle.omi_frame.specs.Concluded.{Leaves}
use Rattle.omi_frame.specs.Seen.{SeenFiles, SeenOutput}
use Rattle.omi_frame.specs.Verb.{Verb}

or : {C : Type 0} → C → Option C → C
or other None = other
or other (Some command) = command

pub one_command : {C : Type 0} (a b : C) → (let some : C → Option C = λ x. Some x in some a ≡ some b) → a ≡ b
unfolding or
one_command a b same = ap (or a) same

-- what a request leaves is what its command leaves
pub leaves_as : {C : Type 0} (verb : C → Verb) (s : Status) (files dest dest_now : SeenFiles) (out out_now : SeenOutput) (request command : C)
    → request ≡ command → Leaves (verb request) s files dest dest_now out out_now → Leaves (verb command) s files dest dest_now out out_now
leaves_as {C} verb s files dest dest_now out out_now request command same left =
    subst (λ (c : C). Leaves (verb c) s files dest dest_now out out_now) same left
