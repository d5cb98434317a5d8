use Rattle.std.proofs.Common.{◌≡◌, ◌∙◌, Some, ap}
use Rattle.std.specs.Prelude.{option_and_then}
use Rattle.omi_frame.specs.Concluded.{Leaves}
use Rattle.omi_frame.specs.Seen.{SeenFiles, SeenOutput, files_seen, output_seen}
use Rattle.omi_frame.proofs.Commands.{leaves_as, one_command}
use Rattle.omi_frame.proofs.OfScript.{no_file, script_refused}
use Rattle.omi_live.specs.Answer.{live_of, live_verb}
use Rattle.omi_live.specs.Asked.{asked}
use Rattle.omi_live.specs.Command.{LiveCommand, live_command_by, live_command_in}
use Rattle.omi_live.proofs.Left.{success}
use Rattle.omi_live.proofs.top.live_top.Given as given
use Rattle.omi_live.proofs.top.live_top.Goals as goal
use Rattle.omi_live.proofs.top.live_top.Goals.{Joined-line}

-- what is seen before the call and behind it
abbrev files : (g : given.Over) → Joined-line g → SeenFiles
files g c = files_seen (g.F.Files.told c.args.files.now) (g.F.Files.reads c.args.files.now) (g.F.Files.writes c.args.files.now)

abbrev files_now : (g : given.Over) → Joined-line g → SeenFiles
files_now g c = files_seen (g.F.Files.told c.carry_out.new.files) (g.F.Files.reads c.carry_out.new.files) (g.F.Files.writes c.carry_out.new.files)

abbrev out : (g : given.Over) → Joined-line g → SeenOutput
out g c = output_seen (g.K.Sink.told c.args.out.now) (g.K.Sink.faults c.args.out.now) (g.K.Sink.wants c.args.out.now)

abbrev out_now : (g : given.Over) → Joined-line g → SeenOutput
out_now g c = output_seen (g.K.Sink.told c.carry_out.new.out) (g.K.Sink.faults c.carry_out.new.out) (g.K.Sink.wants c.carry_out.new.out)

-- what the call leaves, by the words' command
left_by : (g : given.Over) (c : Joined-line g) (command : LiveCommand) → live_command_in c.args.words.now ≡ Some command
    → Leaves (live_verb command) c.carry_out.result (files g c) (files g c) (files_now g c) (out g c) (out_now g c)
left_by g c command is =
    leaves_as live_verb c.carry_out.result (files g c) (files g c) (files_now g c) (out g c) (out_now g c) (asked c.in-Some.request) command
    (one_command (asked c.in-Some.request) command
    (c.in-Some.ensures.asked ∙ ap (option_and_then live_command_by) c.in-Ok.ensures.line ∙ is))
    c.carry_out.ensures.left

pub returns-in-Some-clause-no_file : goal.returns-in-Some-clause-no_file
returns-in-Some-clause-no_file g c command content is told =
    no_file (live_of command) (files g c).told content told _ _ _ _ _ c.carry_out.result (left_by g c command is (content, told))

pub returns-in-Some-clause-script : goal.returns-in-Some-clause-script
returns-in-Some-clause-script g c command bytes is told =
    script_refused (live_of command) (files g c).told bytes told _ _ _ _ _ c.carry_out.result (left_by g c command is (Some bytes, told))

pub returns-in-Some-clause-success : goal.returns-in-Some-clause-success
returns-in-Some-clause-success g c command bytes is told done =
    success c.carry_out.result (files g c) (files_now g c) (out g c) (out_now g c) command bytes told done (left_by g c command is)

pub returns-in-Some-clause-left : goal.returns-in-Some-clause-left
returns-in-Some-clause-left g c command is = left_by g c command is
