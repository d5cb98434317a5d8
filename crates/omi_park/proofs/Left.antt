-- What success leaves.
use Rattle.std.proofs.Common.{◌≡◌, ℕ, List, Some}
use Rattle.omi_outside.specs.Outside.{put_on}
use Rattle.omi_outside.specs.declared.status.Status.{Status}
use Rattle.omi_outside.specs.declared.status.Status.TheVariants as status
use Rattle.omi_script.specs.Grammar.{Grammar}
use Rattle.omi_script.specs.declared.program.Program.{Program}
use Rattle.omi_frame.specs.Concluded.{Leaves}
use Rattle.omi_frame.specs.Seen.{SeenFiles, SeenOutput}
use Rattle.omi_frame.proofs.OfScript.{success as success_of}
use Rattle.omi_park.specs.Answer.{park_of, park_verb}
use Rattle.omi_park.specs.Command.{ParkCommand}
use Rattle.omi_park.specs.Shown.{IsParkRun}

module _ (s : Status) (files files_now : SeenFiles) (out out_now : SeenOutput) where
  pub success : (command : ParkCommand) (bytes : List ℕ) → files.told command.script ≡ Some (Some bytes) → s ≡ status.Success
      → Leaves (park_verb command) s files files files_now out out_now
      → (p : Program) × (text : List ℕ) × Grammar bytes p × IsParkRun p command.plan text × (out_now.told ≡ put_on out.told text)
  success command bytes told done left =
      let (written, text, (p, grammar, (none, run)), held, put) =
      success_of (park_of command) files.told (Some bytes) told _ _ _ out.told out_now.told s done (left (Some bytes, told)) in
      (p, text, grammar, run, put)
