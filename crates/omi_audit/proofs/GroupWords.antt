-- The word for a group leads to the record of the group's owner, which begins at a multiple of 8.
use Rattle.std.proofs.Common.{◌≡◌, ◌<◌, ℕ, List, Some, arith}
use Rattle.omi_numbers.specs.declared.limits.TheConstants.{OPEN_GROUPS}
use Rattle.omi_layout.specs.declared.field.Field.TheVariants.{TaskSlots}
use Rattle.omi_layout.specs.Field.{tasks}
use Rattle.omi_layout.specs.Place.{slot_address}
use Rattle.omi_layout.specs.Valid.{IsValid}
use Rattle.omi_layout.proofs.Frame.{aligned}
use Rattle.omi_model.specs.declared.group.Group.{Group}
use Rattle.omi_rep.specs.Records.{group_word, task_address}
use Rattle.omi_audit.specs.Clauses.{led_to}

pub owner_led : (w : List ℕ) → IsValid w → (g : Group) → g.index < OPEN_GROUPS
    → led_to TaskSlots (group_word w (Some g)) ≡ task_address w g.owner
unfolding slot_address
owner_led w valid g few =
    let even = aligned w valid tasks (record { from = omega arith; to = omega arith }) in omega (arith, even, few)
