use Rattle.std.proofs.Common.{subst}
use Rattle.omi_frame.specs.Concluded.{IsEnded}
use Rattle.omi_frame.specs.Refusal.{Named}
use Rattle.omi_frame.specs.Seen.{SeenFiles, SeenOutput, files_seen, output_seen}
use Rattle.omi_frame.proofs.Concluding.{concluded}
use Rattle.omi_frame.proofs.OfScript.{proper}
use Rattle.omi_park.specs.Answer.{park_of, park_verb}
use Rattle.omi_park.specs.Asked.{asked}
use Rattle.omi_park.proofs.top.carry_out.Goals as goal

pub returns-clause-concluded : goal.returns-clause-concluded
returns-clause-concluded g c =
    let files : SeenFiles = files_seen (g.F.Files.told c.args.files.now) (g.F.Files.reads c.args.files.now) (g.F.Files.writes c.args.files.now) in
    let files_now : SeenFiles = files_seen (g.F.Files.told c.perform-answer.new.files) (g.F.Files.reads c.perform-answer.new.files) (g.F.Files.writes c.perform-answer.new.files) in
    let out : SeenOutput = output_seen (g.K.Sink.told c.args.out.now) (g.K.Sink.faults c.args.out.now) (g.K.Sink.wants c.args.out.now) in
    let out_now : SeenOutput = output_seen (g.K.Sink.told c.end_with.new.out) (g.K.Sink.faults c.end_with.new.out) (g.K.Sink.wants c.end_with.new.out) in
    concluded (park_verb (asked c.args.request)) (proper (park_of (asked c.args.request))) files files_now files files_now out out_now c.perform-answer.result c.end_with.result
    c.perform-answer.ensures.performed
    (subst (λ (n : Named). IsEnded n c.perform-answer.result c.end_with.result out out_now) c.names-names.ensures c.end_with.ensures)
