-- An event is added without being made whole: its row stands for it, with its team behind all others.
use Rattle.std.proofs.Common.{◌≡◌, ◌≤◌, ◌++◌, length, ap, sym, ◌∙◌, arith, length-append}
use Rattle.omi_model.specs.declared.event.Event.{Event}
use Rattle.omi_run_lists.specs.Compact.{with_team}
use Rattle.omi_run_lists.specs.Events.{team_in}
use Rattle.omi_run_lists.specs.Rows.{team_at}
use Rattle.omi_run_lists.proofs.Seated.{item_added, seated_more, team_behind}
use Rattle.omi_run_lists.proofs.event_list.EventList.push_compact.Goals as goal

-- The rows before stay seated, and the new one has its team behind all others.
pub invariant_of-self : goal.invariant_of-self
invariant_of-self c =
    let ms = c.self.inside.members.items in
    let team = team_in (with_team c.args.team.now c.args.event) in
    let le : length ms ≤ length (ms ++ team) = omega (arith, length-append ms team) in
    let first : length ms ≡ c.len-first.result = omega (arith, c.self.inside.members.ok.0) in
    let size : c.seat-size.result ≡ length team = c.seat-size.ensures.size in
    rw (c.push_reserved.ensures.items, c.seat-size.ensures.items)
    (seated_more (length ms) (length (ms ++ team)) c.self.inside.rows.items _ le c.self.invariant record {
      limit = c.seat-size.ensures.limit;
      within = omega (arith, length-append ms team, first, size);
    })

-- The rows before stand for their events, and the new one for this event.
pub returns-clause-added : goal.returns-clause-added
returns-clause-added c =
    let ms = c.self.inside.members.items in
    let whole = with_team c.args.team.now c.args.event in
    let team = team_in whole in
    let first : length ms ≡ c.len-first.result = omega (arith, c.self.inside.members.ok.0) in
    let back : with_team (team_at (ms ++ team) c.len-first.result c.seat-size.result) c.args.event ≡ whole =
    (λ k. with_team (team_at (ms ++ team) (sym first k) (c.seat-size.ensures.size k)) c.args.event)
    ∙ team_behind ms c.args.team.now c.args.event in
    rw (c.push_reserved.ensures.items, c.seat-size.ensures.items, ← c.self.view_is)
    (item_added ms team c.self.inside.rows.items _ (c.args.step, c.args.thread, whole) c.self.invariant
    (ap (λ (e : Event). (c.args.step, c.args.thread, e)) back))
