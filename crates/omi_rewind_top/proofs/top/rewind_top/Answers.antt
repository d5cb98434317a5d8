use Rattle.std.proofs.Common.{◌≡◌, ◌∙◌, Some, ap, sym}
use Rattle.std.specs.Prelude.{option_and_then}
use Rattle.std.specs.Option.{option_map}
use Rattle.omi_frame.specs.Concluded.{Leaves}
use Rattle.omi_frame.specs.Seen.{SeenFiles, SeenOutput, files_seen, output_seen}
use Rattle.omi_frame.proofs.Commands.{leaves_as, one_command}
use Rattle.omi_frame.proofs.OfScript.{lacking, no_file, script_refused}
use Rattle.omi_rewind_top.specs.Answer.{rewind_of, rewind_verb}
use Rattle.omi_rewind_top.specs.Asked.{asked}
use Rattle.omi_rewind_top.specs.Command.{RewindCommand, GoTo, FindState, command_by, rewind_command_in}
use Rattle.omi_rewind_top.proofs.Left.{success_at, success_when}
use Rattle.omi_rewind_top.proofs.Performing.{lacks_text}
use Rattle.omi_rewind_top.proofs.top.rewind_top.Given as given
use Rattle.omi_rewind_top.proofs.top.rewind_top.Goals as goal
use Rattle.omi_rewind_top.proofs.top.rewind_top.Goals.{Joined-line-6}

-- what is seen before the call and behind it
abbrev files : (g : given.Over) → Joined-line-6 g → SeenFiles
files g c = files_seen (g.F.Files.told c.args.files.now) (g.F.Files.reads c.args.files.now) (g.F.Files.writes c.args.files.now)

abbrev files_now : (g : given.Over) → Joined-line-6 g → SeenFiles
files_now g c = files_seen (g.F.Files.told c.carry_out.new.files) (g.F.Files.reads c.carry_out.new.files) (g.F.Files.writes c.carry_out.new.files)

abbrev out : (g : given.Over) → Joined-line-6 g → SeenOutput
out g c = output_seen (g.K.Sink.told c.args.out.now) (g.K.Sink.faults c.args.out.now) (g.K.Sink.wants c.args.out.now)

abbrev out_now : (g : given.Over) → Joined-line-6 g → SeenOutput
out_now g c = output_seen (g.K.Sink.told c.carry_out.new.out) (g.K.Sink.faults c.carry_out.new.out) (g.K.Sink.wants c.carry_out.new.out)

-- what the call leaves, by the words' command
left_by : (g : given.Over) (c : Joined-line-6 g) (command : RewindCommand) → rewind_command_in c.args.words.now ≡ Some command
    → Leaves (rewind_verb command) c.carry_out.result (files g c) (files g c) (files_now g c) (out g c) (out_now g c)
left_by g c command is =
    leaves_as rewind_verb c.carry_out.result (files g c) (files g c) (files_now g c) (out g c) (out_now g c) (asked c.in-Some.request) command
    (one_command (asked c.in-Some.request) command
    (ap (option_map asked) (sym c.in-Some.is) ∙ c.in-Ok-request_of.ensures.asked ∙ ap (option_and_then command_by) c.in-Ok.ensures.line ∙ is))
    c.carry_out.ensures.concluded.left

pub returns-in-Some-clause-no_file : goal.returns-in-Some-clause-no_file
returns-in-Some-clause-no_file g c command content is told =
    no_file (rewind_of command) (files g c).told content told _ _ _ _ _ c.carry_out.result (left_by g c command is (content, told))

pub returns-in-Some-clause-script : goal.returns-in-Some-clause-script
returns-in-Some-clause-script g c command bytes is told =
    script_refused (rewind_of command) (files g c).told bytes told _ _ _ _ _ c.carry_out.result (left_by g c command is (Some bytes, told))

pub returns-in-Some-clause-thread : goal.returns-in-Some-clause-thread
returns-in-Some-clause-thread g c command content is told =
    lacking (rewind_of command) (files g c).told content told _ _ _ _ _ (lacks_text command) c.carry_out.result (left_by g c command is (content, told))

pub returns-in-Some-clause-at : goal.returns-in-Some-clause-at
returns-in-Some-clause-at g c steps script bytes is told done =
    success_at c.carry_out.result (files g c) (files_now g c) (out g c) (out_now g c) steps script bytes told done (left_by g c (GoTo steps script) is)

pub returns-in-Some-clause-first : goal.returns-in-Some-clause-first
returns-in-Some-clause-first g c thread state last script bytes is told done =
    success_when c.carry_out.result (files g c) (files_now g c) (out g c) (out_now g c) thread state last script bytes told done (left_by g c (FindState thread state last script) is)
