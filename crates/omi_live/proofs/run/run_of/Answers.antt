use Rattle.std.proofs.Common.{◌≡◌, ◌<◌, ◌++◌, ◌∙◌, ℕ, List, length, refl, ap, sym, subst, arith}
use Rattle.std.specs.Prelude.{IsTrue}
use Rattle.omi_corefile.specs.Limits.{rises_from}
use Rattle.omi_corefile.specs.Spelling.{core_bytes}
use Rattle.omi_script.proofs.RuleLemmas.{Rules-from_accepted}
use Rattle.omi_core.specs.Runs.{events_in}
use Rattle.omi_core.specs.Steps.{events_behind}
use Rattle.omi_commands.proofs.CoreFiles.{core_of_ids}
use Rattle.omi_commands.proofs.ThreadIds.{count, rising}
use Rattle.omi_commands.specs.Cores.{thread_ids}
use Rattle.omi_commands.specs.EventLines.{event_lines}
use Rattle.omi_commands.specs.RunLines.{live_end_line, run_lines, runs_lines, steps_line}
use Rattle.omi_seat.proofs.Joined.{told_alike}
use Rattle.omi_live.proofs.run.run_of.Goals as goal

pub image_makes_a_core-requires-clause-rising : goal.image_makes_a_core-requires-clause-rising
image_makes_a_core-requires-clause-rising g c =
    subst (λ (ids : List ℕ). IsTrue (rises_from 0 ids)) (sym c.in_ok-contexts.ensures) (rising c.args.p.now.threads)

pub image_makes_a_core-requires-clause-count : goal.image_makes_a_core-requires-clause-count
image_makes_a_core-requires-clause-count g c =
    let few = (Rules-from_accepted c.args.p.now).threads.1 in
    let many = ap (λ (ids : List ℕ). length ids) c.in_ok-contexts.ensures ∙ count c.args.p.now.threads in
    omega (arith, few, many)

pub returns-clause-run : goal.returns-clause-run
returns-clause-run g c =
    let live = c.in_ok-end.ensures.live in
    let long = live.tables.long in
    let some : 0 < length c.in_ok-end.end.image = omega (arith, long) in
    record {
      layout = c.family-layout.result;
      family = c.family-layout.ensures.family;
      words = c.in_ok-end.end.image;
      runs = c.in_ok-end.ensures.whole;
      live = live;
      core_is = ap (λ (ids : List ℕ). core_bytes ids c.in_ok-end.end.image) c.in_ok-contexts.ensures;
      core_of = record {
        w = c.family-layout.result.table;
        valid = c.family-layout.result.valid;
        words = c.in_ok-end.end.image;
        core_of = core_of_ids (thread_ids c.args.p.now.threads) c.in_ok-contexts.contexts c.in_ok-end.end.image c.in_ok-contexts.ensures (c.image_makes_a_core.ensures some);
        events = events_in (events_behind 0 live.entries);
        reached = live.reached;
        shows = live.shows;
      };
      text_is = c.in_ok-text.ensures ∙ (λ k. lines_are k ++ live_end_line c.args.plan.budget);
      report = λ t ids v u shows view other. sym (c.words_fix_the_report.ensures c.family-layout.result.table _ live.state t ids v u c.family-layout.result.valid live.shows shows view other);
    }
  where
    lines_are : runs_lines 0 c.in_ok-end.end.runs ≡ runs_lines 0 c.in_ok-end.ensures.whole
    lines_are =
        told_alike run_lines runs_lines (λ thread. refl) (λ thread r rs. refl)
        (λ thread w r steps events k. steps_line thread (steps k) ++ event_lines (events k).items) 0
        c.in_ok-end.ensures.whole c.in_ok-end.end.runs c.in_ok-end.ensures.are

pub returns-clause-some : goal.returns-clause-some
returns-clause-some g c =
    let long = c.in_ok-end.ensures.live.tables.long in
    omega (arith, long)

pub returns-clause-few : goal.returns-clause-few
returns-clause-few g c =
    let few = (Rules-from_accepted c.args.p.now).threads.1 in
    let many = ap (λ (ids : List ℕ). length ids) c.in_ok-contexts.ensures ∙ count c.args.p.now.threads in
    omega (arith, few, many)
