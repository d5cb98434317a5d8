-- What success leaves, for each command.
use Rattle.std.proofs.Common.{◌≡◌, ℕ, List, Some}
use Rattle.omi_outside.specs.Outside.{put_on}
use Rattle.omi_outside.specs.declared.status.Status.{Status}
use Rattle.omi_outside.specs.declared.status.Status.TheVariants as status
use Rattle.omi_rewind.specs.declared.test.Test.TheVariants.{State}
use Rattle.omi_script.specs.Grammar.{Grammar}
use Rattle.omi_script.specs.declared.program.Program.{Program}
use Rattle.omi_frame.specs.Concluded.{Leaves}
use Rattle.omi_frame.specs.Seen.{SeenFiles, SeenOutput}
use Rattle.omi_frame.proofs.OfScript.{success}
use Rattle.omi_rewind_top.specs.Answer.{IsRewindText, rewind_of, rewind_verb}
use Rattle.omi_rewind_top.specs.Command.{RewindCommand, GoTo, FindState, script_of}
use Rattle.omi_rewind_top.specs.Turns.{IsAtText, IsWhenText}

module _ (s : Status) (files files_now : SeenFiles) (out out_now : SeenOutput) where
  -- what success leaves
  printed : (command : RewindCommand) (bytes : List ℕ) → files.told (script_of command) ≡ Some (Some bytes) → s ≡ status.Success
      → Leaves (rewind_verb command) s files files files_now out out_now
      → (p : Program) × (text : List ℕ) × Grammar bytes p × IsRewindText command p text × (out_now.told ≡ put_on out.told text)
  printed command bytes told done left =
      let (written, text, (p, grammar, (none, is)), held, put) =
      success (rewind_of command) files.told (Some bytes) told _ _ _ out.told out_now.told s done (left (Some bytes, told)) in
      (p, text, grammar, is, put)

  pub success_at : (steps script bytes : List ℕ) → files.told script ≡ Some (Some bytes) → s ≡ status.Success
      → Leaves (rewind_verb (GoTo steps script)) s files files files_now out out_now
      → (p : Program) × (text : List ℕ) × Grammar bytes p × IsAtText p steps text × (out_now.told ≡ put_on out.told text)
  success_at steps script bytes told done left = printed (GoTo steps script) bytes told done left

  pub success_when : (thread state last : ℕ) (script bytes : List ℕ) → files.told script ≡ Some (Some bytes) → s ≡ status.Success
      → Leaves (rewind_verb (FindState thread state last script)) s files files files_now out out_now
      → (p : Program) × (text : List ℕ) × Grammar bytes p × IsWhenText p (State thread state) last text × (out_now.told ≡ put_on out.told text)
  success_when thread state last script bytes told done left =
      let (p, text, grammar, is, put) = printed (FindState thread state last script) bytes told done left in
      (p, text, grammar, is.1, put)
