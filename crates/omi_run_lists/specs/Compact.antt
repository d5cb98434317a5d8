-- An event without the members of its team.
use Rattle.std.specs.Prelude.{ℕ, List}
use Rattle.omi_model.specs.declared.id.Tid.{Tid}
use Rattle.omi_model.specs.declared.event.Event.{Event}
use Rattle.omi_model.specs.declared.event.Event.TheVariants as event
use Rattle.omi_run_lists.specs.declared.compact.CompactEvent.{CompactEvent}
use Rattle.omi_run_lists.specs.declared.compact.CompactEvent.TheVariants as compact

-- the event with the members of a team, which a fork takes and every other event leaves
abbrev pub with_team : List (Tid × ℕ) → CompactEvent → Event
with_team team compact.Begin = event.Begin
with_team team compact.Offer = event.Offer
with_team team (compact.Want n) = event.Want n
with_team team (compact.Ask w got) = event.Ask w got
with_team team (compact.Fork region) = event.Fork region team
with_team team (compact.ImplicitBegin task) = event.ImplicitBegin task
with_team team (compact.State state wait) = event.State state wait
with_team team compact.Enter = event.Enter
with_team team compact.Leave = event.Leave
with_team team compact.Arrive = event.Arrive
with_team team compact.Release = event.Release
with_team team compact.Pass = event.Pass
with_team team (compact.ImplicitEnd task) = event.ImplicitEnd task
with_team team (compact.Join region) = event.Join region
with_team team (compact.FreeTask task) = event.FreeTask task
with_team team (compact.FreeRegion region) = event.FreeRegion region
with_team team (compact.Seen j) = event.Seen j
with_team team (compact.Defer task) = event.Defer task
with_team team (compact.StartNow task) = event.StartNow task
with_team team (compact.Start task) = event.Start task
with_team team (compact.Finish task) = event.Finish task
with_team team compact.WaitDone = event.WaitDone
with_team team compact.GroupBegin = event.GroupBegin
with_team team compact.GroupEnd = event.GroupEnd
with_team team compact.Yield = event.Yield
with_team team (compact.Set icv value) = event.Set icv value
with_team team (compact.SetTool x) = event.SetTool x
with_team team (compact.Lock k) = event.Lock k
with_team team (compact.Unlock k) = event.Unlock k
with_team team compact.Work = event.Work
with_team team (compact.Call f) = event.Call f
with_team team compact.Skip = event.Skip
with_team team compact.Ret = event.Ret
with_team team compact.Done = event.Done
