use Rattle.std.proofs.Common.{None, refl, subst}
use Rattle.omi_frame.specs.Concluded.{IsEnded}
use Rattle.omi_frame.specs.Refusal.{Named}
use Rattle.omi_frame.specs.Seen.{SeenFiles, SeenOutput, files_seen, output_seen}
use Rattle.omi_frame.specs.declared.refusal.Refusal.TheVariants as refusal
use Rattle.omi_frame.proofs.Concluding.{concluded, words_causes}
use Rattle.omi_frame.specs.Verb.{WritesOne}
use Rattle.omi_top.specs.Asked.{asked}
use Rattle.omi_top.specs.Command.{Faulty}
use Rattle.omi_top.specs.CommandVerbs.{verb_of}
use Rattle.omi_top.proofs.EachCommand.{proper}
use Rattle.omi_top.proofs.top.carry_out.Goals as goal

pub returns-in-Faulty-clause-concluded : goal.returns-in-Faulty-clause-concluded
returns-in-Faulty-clause-concluded g c =
    let files : SeenFiles = files_seen (g.F.Files.told c.args.files.now) (g.F.Files.reads c.args.files.now) (g.F.Files.writes c.args.files.now) in
    let dest : SeenFiles = files_seen (g.W.Files.told c.args.dest.now) (g.W.Files.reads c.args.dest.now) (g.W.Files.writes c.args.dest.now) in
    let out : SeenOutput = output_seen (g.K.Sink.told c.args.out.now) (g.K.Sink.faults c.args.out.now) (g.K.Sink.wants c.args.out.now) in
    let out_now : SeenOutput = output_seen (g.K.Sink.told c.refuse_words.new.out) (g.K.Sink.faults c.refuse_words.new.out) (g.K.Sink.wants c.refuse_words.new.out) in
    rw (c.in-Faulty.is, c.refuse_words.ensures.status)
    (record {
      of_core = λ is. absurd is;
      usage = λ is. tt;
      causes = words_causes files dest out (WritesOne (verb_of Faulty)) out_now c.refuse_words.ensures.line c.refuse_words.ensures.faults c.refuse_words.ensures.wants;
      left = λ told. (refusal.Usage, refl, None, refl, refl, c.refuse_words.ensures.line);
      unwritten = λ is. refl;
      others = λ other not. refl;
    })

pub returns-clause-concluded : goal.returns-clause-concluded
returns-clause-concluded g c =
    let files : SeenFiles = files_seen (g.F.Files.told c.args.files.now) (g.F.Files.reads c.args.files.now) (g.F.Files.writes c.args.files.now) in
    let files_now : SeenFiles = files_seen (g.F.Files.told c.perform-answer.new.files) (g.F.Files.reads c.perform-answer.new.files) (g.F.Files.writes c.perform-answer.new.files) in
    let dest : SeenFiles = files_seen (g.W.Files.told c.args.dest.now) (g.W.Files.reads c.args.dest.now) (g.W.Files.writes c.args.dest.now) in
    let dest_now : SeenFiles = files_seen (g.W.Files.told c.perform-answer.new.dest) (g.W.Files.reads c.perform-answer.new.dest) (g.W.Files.writes c.perform-answer.new.dest) in
    let out : SeenOutput = output_seen (g.K.Sink.told c.args.out.now) (g.K.Sink.faults c.args.out.now) (g.K.Sink.wants c.args.out.now) in
    let out_now : SeenOutput = output_seen (g.K.Sink.told c.end_with.new.out) (g.K.Sink.faults c.end_with.new.out) (g.K.Sink.wants c.end_with.new.out) in
    concluded (verb_of (asked c.args.request)) (proper (asked c.args.request)) files files_now dest dest_now out out_now c.perform-answer.result c.end_with.result
    c.perform-answer.ensures.performed
    (subst (λ (n : Named). IsEnded n c.perform-answer.result c.end_with.result out out_now) c.names_of-names.ensures c.end_with.ensures)
