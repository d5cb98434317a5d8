use Rattle.std.proofs.Common.{◌≡◌, ◌∙◌, ℕ, List, ap, refl, subst}
use Rattle.omi_frame.specs.Concluded.{Leaves}
use Rattle.omi_frame.specs.Seen.{SeenFiles, SeenOutput, files_seen, output_seen}
use Rattle.omi_frame.specs.Statuses.{IsOfCore}
use Rattle.omi_frame.specs.Verb.{Writes}
use Rattle.omi_frame.proofs.Commands.{leaves_as}
use Rattle.omi_top.specs.Asked.{asked}
use Rattle.omi_top.specs.Command.{Command, Faulty, command_by, command_in}
use Rattle.omi_top.specs.CommandVerbs.{IsUnwritten, Promises, RefusesCore, verb_of}
use Rattle.omi_top.proofs.EachCommand.{kept}
use Rattle.omi_top.proofs.Promised.{promised}
use Rattle.omi_top.proofs.top.run_top.Given as given
use Rattle.omi_top.proofs.top.run_top.Goals as goal
use Rattle.omi_top.proofs.top.run_top.Goals.{Joined-line}

-- the request is the words' command
asked_is : (g : given.Over) (c : Joined-line g) → asked c.request_of.result ≡ command_in c.args.words.now
asked_is g c = c.request_of.ensures.asked ∙ ap command_by c.in-Ok.ensures.line

-- what is seen before the call and behind it
abbrev seen_files : (g : given.Over) → Joined-line g → SeenFiles
seen_files g c = files_seen (g.F.Files.told c.args.files.now) (g.F.Files.reads c.args.files.now) (g.F.Files.writes c.args.files.now)

abbrev dest : (g : given.Over) → Joined-line g → SeenFiles
dest g c = files_seen (g.W.Files.told c.args.dest.now) (g.W.Files.reads c.args.dest.now) (g.W.Files.writes c.args.dest.now)

abbrev dest_now : (g : given.Over) → Joined-line g → SeenFiles
dest_now g c = files_seen (g.W.Files.told c.carry_out.new.dest) (g.W.Files.reads c.carry_out.new.dest) (g.W.Files.writes c.carry_out.new.dest)

abbrev out : (g : given.Over) → Joined-line g → SeenOutput
out g c = output_seen (g.K.Sink.told c.args.out.now) (g.K.Sink.faults c.args.out.now) (g.K.Sink.wants c.args.out.now)

abbrev out_now : (g : given.Over) → Joined-line g → SeenOutput
out_now g c = output_seen (g.K.Sink.told c.carry_out.new.out) (g.K.Sink.faults c.carry_out.new.out) (g.K.Sink.wants c.carry_out.new.out)

-- what the call leaves, by its command
left_of : (g : given.Over) (c : Joined-line g) (command : Command) → asked c.request_of.result ≡ command
    → Leaves (verb_of command) c.carry_out.result (seen_files g c) (dest g c) (dest_now g c) (out g c) (out_now g c)
left_of g c command is =
    leaves_as verb_of c.carry_out.result (seen_files g c) (dest g c) (dest_now g c) (out g c) (out_now g c)
    (asked c.request_of.result) command is c.carry_out.ensures.concluded.left

-- ---- what the command promises

pub returns-in-Ok-clause-promises : goal.returns-in-Ok-clause-promises
returns-in-Ok-clause-promises g c =
    kept (command_in c.args.words.now) c.carry_out.result (seen_files g c) (dest g c) (dest_now g c) (out g c) (out_now g c)
    (left_of g c (command_in c.args.words.now) (asked_is g c))

pub returns-in-Ok-clause-promise : goal.returns-in-Ok-clause-promise
returns-in-Ok-clause-promise g c plan script core text bytes command is back same done =
    let promised_of =
    subst
    (λ k. Promises k c.carry_out.result (seen_files g c).told (dest g c).told (dest_now g c).told (out g c).told (out_now g c).told)
    command (returns-in-Ok-clause-promises g c) in
    promised text plan bytes c.carry_out.result (out g c).told (out_now g c).told done
    (promised_of.shown text bytes is back same)

pub returns-in-Ok-clause-left : goal.returns-in-Ok-clause-left
returns-in-Ok-clause-left g c = left_of g c (command_in c.args.words.now) (asked_is g c)

-- ---- the causes, of the words' command

-- what is said of the request is said of the words' command
of_words : (g : given.Over) (c : Joined-line g) (P : Command → Type 0) → P (asked c.request_of.result)
    → P (command_in c.args.words.now)
of_words g c P is = subst P (asked_is g c) is

pub returns-in-Ok-clause-of_core : goal.returns-in-Ok-clause-of_core
returns-in-Ok-clause-of_core g c =
    of_words g c (λ k. IsOfCore c.carry_out.result → RefusesCore k c.carry_out.result) c.carry_out.ensures.concluded.of_core

-- words are refused where they are no command
refused_words : (command : Command) → (verb_of command).refuses_words → command ≡ Faulty
refused_words Faulty is = refl
refused_words command is = absurd is

pub returns-in-Ok-clause-usage : goal.returns-in-Ok-clause-usage
returns-in-Ok-clause-usage g c is =
    of_words g c (λ k. k ≡ Faulty) (refused_words (asked c.request_of.result) (c.carry_out.ensures.concluded.usage is))

pub returns-in-Ok-clause-unwritten : goal.returns-in-Ok-clause-unwritten
returns-in-Ok-clause-unwritten g c =
    of_words g c
    (λ k. IsUnwritten k c.carry_out.result → g.W.Files.told c.carry_out.new.dest ≡ g.W.Files.told c.args.dest.now) c.carry_out.ensures.concluded.unwritten

pub returns-in-Ok-clause-others : goal.returns-in-Ok-clause-others
returns-in-Ok-clause-others g c =
    of_words g c
    (λ k. (other : List ℕ) → (Writes (verb_of k) other → ⊥) → g.W.Files.told c.carry_out.new.dest other ≡ g.W.Files.told c.args.dest.now other) c.carry_out.ensures.concluded.others
