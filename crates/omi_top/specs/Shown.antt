-- Why there is no report of a core.
use Rattle.std.specs.Prelude.{◌≡◌, ◌⊎◌, Result, Ok, Err}
use Rattle.omi_corefile.specs.declared.core_image.CoreImage.{CoreImage}
use Rattle.omi_model.specs.declared.view.View.{View}
use Rattle.omi_rep.specs.declared.fault.LookFault.{LookFault}
use Rattle.omi_top.specs.Cores.{IsLooked}
use Rattle.omi_top.specs.Questions.{IsLayoutRefusal}
use Rattle.omi_commands.specs.Inquiries.{refusal_of_look, refusal_of_walk}
use Rattle.omi_frame.specs.Refusal.{IsUnread}
use Rattle.omi_frame.specs.declared.refusal.Input.TheVariants as input
use Rattle.omi_frame.specs.declared.refusal.Refusal.{Refusal}
use Rattle.omi_walk.specs.declared.fault.WalkFault.{WalkFault}

abbrev pub handed_on : Result View WalkFault → Result View Refusal
handed_on (Ok v) = Ok v
handed_on (Err fault) = Err (refusal_of_walk fault)

-- the core's words give no layout, or a look at them has a fault, and this is the refusal
abbrev pub IsRefusedCore : CoreImage → Refusal → Type 0
IsRefusedCore core r =
    IsLayoutRefusal core r ⊎ ((fault : LookFault) × IsLooked core (Err fault) × (r ≡ refusal_of_look fault))

-- the view of a core's words, or why there is none: the words, a read that failed, or want of memory
abbrev pub IsViewed : CoreImage → Result View Refusal → Type 0
IsViewed core (Ok v) = IsLooked core (Ok v)
IsViewed core (Err r) = IsRefusedCore core r ⊎ IsUnread input.Core r
