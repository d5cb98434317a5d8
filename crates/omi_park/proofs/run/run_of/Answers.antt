use Rattle.std.proofs.Common.{◌≡◌, ◌++◌, ℕ, List, [], refl, ap, arith}
use Rattle.omi_script.proofs.RuleLemmas.{Rules-from_accepted}
use Rattle.omi_commands.specs.EventLines.{event_lines}
use Rattle.omi_commands.specs.RunLines.{live_end_line, run_lines, runs_lines, steps_line}
use Rattle.omi_seat.proofs.Joined.{told_alike}
use Rattle.omi_park.proofs.Showing.{are_copies, stops_shown}
use Rattle.omi_park.proofs.run.run_of.Goals as goal

pub stops_text-requires-clause-few : goal.stops_text-requires-clause-few
stops_text-requires-clause-few g c =
    let few = (Rules-from_accepted c.args.p.now).threads.1 in omega (arith, few)

pub stops_text-requires-clause-copies : goal.stops_text-requires-clause-copies
stops_text-requires-clause-copies g c =
    let parked = c.in_ok-end.ensures.parked.parked in
    (c.family-layout.result.table, are_copies c.args.p.now c.family-layout.result parked.entries 0 c.in_ok-end.end.stops parked.are)

pub returns : goal.returns
returns g c =
    let parked = c.in_ok-end.ensures.parked.parked in
    let table = c.family-layout.result.table in
    let (last, looked) =
    c.in_ok-text.ensures table (are_copies c.args.p.now c.family-layout.result parked.entries 0 c.in_ok-end.end.stops parked.are) in
    record {
      layout = c.family-layout.result;
      family = c.family-layout.ensures.family;
      words = c.in_ok-end.end.image;
      runs = c.in_ok-end.ensures.parked.whole;
      stops = c.in_ok-end.end.stops;
      parked = parked;
      many = c.in_ok-end.ensures.stops;
      above = c.in_ok-text.text.items;
      shown = stops_shown c.args.p.now c.family-layout.result parked.entries c.in_ok-end.ensures.parked.whole (λ i r got. (parked.each i r got).events) 0 1 [] last c.in_ok-end.end.stops c.in_ok-text.text.items parked.are looked;
      is =
          rw (c.in_ok-extend_from_slice.ensures.items, c.as_bytes.ensures.value, c.in_ok-runs.ensures)
          (ap (λ (ns : List ℕ). c.in_ok-text.text.items ++ ns) (λ k. lines_are k ++ live_end_line c.args.plan.budget));
    }
  where
    lines_are : runs_lines 0 c.in_ok-end.end.runs ≡ runs_lines 0 c.in_ok-end.ensures.parked.whole
    lines_are =
        told_alike run_lines runs_lines (λ thread. refl) (λ thread r rs. refl)
        (λ thread w r steps events k. steps_line thread (steps k) ++ event_lines (events k).items) 0
        c.in_ok-end.ensures.parked.whole c.in_ok-end.end.runs c.in_ok-end.ensures.parked.are
