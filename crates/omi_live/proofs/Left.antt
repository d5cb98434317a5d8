-- What success leaves.
use Rattle.std.proofs.Common.{◌≡◌, ℕ, List, Option, Some, subst}
use Rattle.omi_outside.specs.Outside.{holding, put_on}
use Rattle.omi_outside.specs.declared.status.Status.{Status}
use Rattle.omi_outside.specs.declared.status.Status.TheVariants as status
use Rattle.omi_script.specs.Grammar.{Grammar}
use Rattle.omi_script.specs.declared.program.Program.{Program}
use Rattle.omi_frame.specs.Concluded.{Leaves}
use Rattle.omi_frame.specs.Left.{Holds}
use Rattle.omi_frame.specs.Seen.{SeenFiles, SeenOutput}
use Rattle.omi_frame.proofs.OfScript.{success as success_of}
use Rattle.omi_live.specs.Answer.{live_of, live_verb}
use Rattle.omi_live.specs.Command.{LiveCommand}
use Rattle.omi_live.specs.Run.{IsLiveRun}

module _ (s : Status) (files files_now : SeenFiles) (out out_now : SeenOutput) where
  pub success : (command : LiveCommand) (bytes : List ℕ) → files.told command.script ≡ Some (Some bytes) → s ≡ status.Success
      → Leaves (live_verb command) s files files files_now out out_now
      → (p : Program) × (core : List ℕ) × (text : List ℕ) × Grammar bytes p × IsLiveRun p command.plan core text
      × (files_now.told command.core ≡ holding (files.told command.core) core) × (out_now.told ≡ put_on out.told text)
  success command bytes told done left =
      let (written, text, (p, grammar, (core, is, run)), held, put) =
      success_of (live_of command) files.told (Some bytes) told (files.told command.core) (files_now.told command.core) _ out.told out_now.told s done (left (Some bytes, told)) in
      (p, core, text, grammar, run, subst (λ (w : Option (List ℕ)). Holds w (files.told command.core) (files_now.told command.core)) is held, put)
