use Rattle.std.proofs.Common.{◌++◌, ◌∙◌, ℕ, List, length, ap, sym, subst, arith, string_bytes}
use Rattle.std.specs.Prelude.{IsTrue}
use Rattle.omi_corefile.specs.Limits.{rises_from}
use Rattle.omi_corefile.specs.Spelling.{core_bytes}
use Rattle.omi_script.proofs.RuleLemmas.{Rules-from_accepted}
use Rattle.omi_commands.specs.EventLines.{AreLinesOf, event_lines}
use Rattle.omi_commands.proofs.CoreFiles.{core_of_ids}
use Rattle.omi_commands.proofs.ThreadIds.{count, rising}
use Rattle.omi_commands.specs.Cores.{thread_ids}
use Rattle.omi_top.specs.Lines.{end_line}
use Rattle.omi_top.proofs.Running.{made_run}
use Rattle.omi_top.proofs.Stopping.{made_stopped}
use Rattle.omi_top.proofs.stop.stopped.Goals as goal

pub run_of-requires-clause-nothing : goal.run_of-requires-clause-nothing
run_of-requires-clause-nothing c = record { text_is = c.new.ensures.text; count_is = c.new.ensures.count }

pub image_makes_a_core-requires-clause-rising : goal.image_makes_a_core-requires-clause-rising
image_makes_a_core-requires-clause-rising c =
    subst (λ (ids : List ℕ). IsTrue (rises_from 0 ids)) (sym c.in_ok-contexts.ensures) (rising c.args.p.threads)

pub image_makes_a_core-requires-clause-count : goal.image_makes_a_core-requires-clause-count
image_makes_a_core-requires-clause-count c =
    let few = (Rules-from_accepted c.args.p).threads.1 in
    let many = ap (λ (ids : List ℕ). length ids) c.in_ok-contexts.ensures ∙ count c.args.p.threads in
    omega (arith, few, many)

pub returns-clause-run : goal.returns-clause-run
returns-clause-run c =
    let ran = c.in_ok-ran.ran in
    let lines = ran.recorder in
    let ids : List ℕ = thread_ids c.args.p.threads in
    made_stopped c.args.p c.args.plan (λ items. AreLinesOf (string_bytes lines.text) lines.count items)
    ran.image ran.steps ran.why (core_bytes c.in_ok-contexts.contexts ran.image) (string_bytes c.in_ok-text.text) c.in_ok-ran.ensures
    (λ some. ap (λ (ns : List ℕ). core_bytes ns ran.image) c.in_ok-contexts.ensures)
    (λ some. core_of_ids ids c.in_ok-contexts.contexts ran.image c.in_ok-contexts.ensures (c.image_makes_a_core.ensures some))
    (λ es are.
    c.in_ok-text.ensures
    ∙ ap (λ (text : List ℕ). text ++ end_line ran.steps lines.count ran.why) are.text_is
    ∙ ap (λ n. event_lines es ++ end_line ran.steps n ran.why) are.count_is)

pub returns-clause-some : goal.returns-clause-some
returns-clause-some c =
    let ran = c.in_ok-ran.ran in
    (made_run c.args.p c.args.plan (λ items. AreLinesOf (string_bytes ran.recorder.text) ran.recorder.count items) ran.image ran.steps ran.why c.in_ok-ran.ensures).some

pub returns-clause-few : goal.returns-clause-few
returns-clause-few c =
    let few = (Rules-from_accepted c.args.p).threads.1 in
    let many = ap (λ (ids : List ℕ). length ids) c.in_ok-contexts.ensures ∙ count c.args.p.threads in
    omega (arith, few, many)
