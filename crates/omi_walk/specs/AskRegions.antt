-- What a walk asks about regions: those of each thread that was found, and the row of each of them.
use Rattle.std.specs.Prelude.{◌==◌, ◌&&◌, ℕ, Bool, List, [], find, Option, Some, None, Ok}
use Rattle.std.specs.Option.{option_map}
use Rattle.std.specs.List.{range_with_len, flat_map, filter_map}
use Rattle.omi_handle.specs.declared.handle.Held.{Held}
use Rattle.omi_layout.specs.Field.{regions}
use Rattle.omi_layout.specs.Table.{records}
use Rattle.omi_model.specs.declared.id.Id.{Id}
use Rattle.omi_model.specs.declared.view.MemberRow.{MemberRow}
use Rattle.omi_model.specs.declared.view.RegionRow.{RegionRow}
use Rattle.omi_numbers.specs.declared.variables.TheConstants.{LEVELS_VAR, ACTIVE_LEVELS_VAR, TEAM_SIZE_VAR}
use Rattle.omi_rep.specs.Look.{slot_list}
use Rattle.omi_session.specs.Inquiry.{member}
use Rattle.omi_session.specs.Reads.{Answer, then_reads}
use Rattle.omi_ask.specs.Regions.{enclosing_region, region_of_task}
use Rattle.omi_ask.specs.Threads.{thread_of_member}
use Rattle.omi_walk.specs.declared.found.Found.{Found}
use Rattle.omi_walk.specs.declared.met.Met.{Met}
use Rattle.omi_walk.specs.Asking.{Asks, with_answer, ask_each, ask_chain, ask_object, ask_maybe, of_member, none_met}
use Rattle.omi_walk.specs.AskWords.{ask_entry, ask_region_variable}
use Rattle.omi_walk.specs.Chains.{unmet}
use Rattle.omi_walk.specs.Fault.{walked}
use Rattle.omi_walk.specs.Objects.{name_in}

-- the first region that was met in a slot
abbrev pub first_in : List Met → ℕ × ℕ → Option Met
first_in met at = find (λ m. m.name.creator == at.0 && m.name.slot == at.1) met

module _ (w : List ℕ) where
  -- the region of a task, and the one that encloses a region, if there is one
  abbrev pub ask_region_of : Option Held → Asks Met
  ask_region_of k = ask_object w (walked k) (region_of_task w k)

  abbrev pub ask_enclosing : Option Held → Asks (Option Met)
  ask_enclosing r = ask_maybe w r (enclosing_region w r)

  -- the enclosing region must not have been met before
  unfoldable pub ask_outward : (ℕ → Bool) → Option Held → Asks (Option Met)
  ask_outward known r = then_reads (ask_enclosing r) (λ next. Answer (unmet known next))

  -- a region, and the one that encloses it
  unfoldable pub ask_enclosed : (ℕ → Bool) → Met → Asks (Met × Option Met)
  ask_enclosed known r = with_answer (λ next. (r, next)) (ask_outward known (Some r.held))

  -- the regions from one on, each enclosed by the next
  abbrev pub ask_outwards : Met → Asks (List Met)
  ask_outwards first = ask_chain ask_enclosed (records w regions) none_met (Some first)

  -- the regions of a thread by its current task: that of this task, and those which enclose it
  unfoldable pub ask_regions_of : Option Met → Asks (List Met)
  ask_regions_of None = Answer (Ok [])
  ask_regions_of (Some task) = then_reads (ask_region_of (Some task.held)) ask_outwards

  abbrev pub ask_regions : Found → Asks (List Met)
  ask_regions f = ask_regions_of f.current

  -- the task and the thread of a member of a region
  abbrev pub ask_member_task : ℕ → Option Held → Asks Met
  ask_member_task num r = ask_object w (of_member r) (member w r num)

  abbrev pub ask_member_thread : ℕ → Option Held → Asks Met
  ask_member_thread num r = ask_object w (of_member r) (thread_of_member w r num)

  unfoldable pub ask_member : Option Held → ℕ → Asks MemberRow
  ask_member r num =
      then_reads (ask_member_task num r) (λ task.
      then_reads (ask_member_thread num r) (λ thread.
      Answer (Ok (record { thread = thread.name.creator; task = record { 0 = task.name } }))))

  -- the row of the region of this name
  unfoldable pub ask_row : Id → Option Held → Asks RegionRow
  ask_row n r =
      then_reads (ask_entry w r) (λ func.
      then_reads (ask_region_variable w LEVELS_VAR r) (λ levels.
      then_reads (ask_region_variable w ACTIVE_LEVELS_VAR r) (λ active.
      then_reads (ask_region_variable w TEAM_SIZE_VAR r) (λ size.
      then_reads (ask_enclosing r) (λ enclosing.
      then_reads (ask_each (ask_member r) (range_with_len 0 size)) (λ members.
      Answer (Ok (record {
        region = record { 0 = n };
        func = func;
        levels = levels;
        active = active;
        size = size;
        enclosing = option_map (λ n. record { 0 = n }) (name_in enclosing);
        members = members;
      }))))))))

  abbrev pub ask_region : Met → Asks RegionRow
  ask_region r = ask_row r.name (Some r.held)

  -- the rows of regions that were met, in the order of their slots: of those in one slot the first
  abbrev pub ask_rows : List Met → Asks (List RegionRow)
  ask_rows met = ask_each ask_region (filter_map (first_in met) (slot_list w regions))
