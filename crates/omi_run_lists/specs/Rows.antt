-- How a list of events is kept: a row for each event, and beside the rows the members of all teams, in one list. No public
-- clause cites this.
use Rattle.std.specs.Prelude.{ℕ, ◌+◌, ◌-◌, ◌≤◌, List, length, map, take, drop, All, vec_len, vec_capacity}
use Rattle.omi_model.specs.declared.limits.TheConstants.{MOST_MEMBERS}
use Rattle.omi_model.specs.declared.id.Tid.{Tid}
use Rattle.omi_model.specs.declared.event.Event.{Event}
use Rattle.omi_run_lists.specs.declared.row.EventRow.{EventRow}
use Rattle.omi_run_lists.specs.declared.event_list.EventList.TheInside.{Inside}
use Rattle.omi_run_lists.specs.Compact.{with_team}
use Rattle.omi_run_lists.specs.Events.{Events}

-- the team of this size whose first member stands at this place
abbrev pub team_at : List (Tid × ℕ) → ℕ → ℕ → List (Tid × ℕ)
team_at ms first size = take size (drop first ms)

-- what a row stands for: step, thread, event
abbrev pub item_in : List (Tid × ℕ) → EventRow → ℕ × ℕ × Event
item_in ms row = (row.step, row.thread, with_team (team_at ms row.first row.size) row.event)

-- The team of a row has as many members as a team may have, all among the first `n`.
pub record IsSeated (n : ℕ) (row : EventRow) : Type 0 where
  pub limit : row.size ≤ MOST_MEMBERS
  pub within : row.first + row.size ≤ n

-- what contracts see of rows and members
abbrev pub events_of : Inside → Events
events_of a = record {
  items = map (item_in a.members.items) a.rows.items;
  spare = vec_capacity a.rows - vec_len a.rows;
  seats = vec_capacity a.members - vec_len a.members;
}

abbrev pub AreSeated : Inside → Type 0
AreSeated a = All (IsSeated (length a.members.items)) a.rows.items
