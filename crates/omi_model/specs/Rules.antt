-- The event rules: when an event of a thread is legal besides its place in the to-do list, and the state after it. What an event changes stands in the file of its concern; all else stays.
use Rattle.std.specs.Prelude.{◌≡◌, ◌<◌, ◌+◌, ℕ, List, Option, Some, None, ⊤}
use Rattle.std.specs.Option.{option_and_then}
use Rattle.omi_script.specs.declared.program.Program.{Program}
use Rattle.omi_model.specs.declared.event.Event.{Event}
use Rattle.omi_model.specs.declared.event.Event.TheVariants as event
use Rattle.omi_model.specs.declared.freeable.Freeable.TheVariants as freeable
use Rattle.omi_model.specs.declared.item.Item.{Item}
use Rattle.omi_model.specs.declared.item.Item.TheVariants as item
use Rattle.omi_model.specs.Barriers.{MayArrive, arrived, MayRelease, released, MayPass}
use Rattle.omi_model.specs.Changes.{OfCurrent, OfCurrentRegion, ahead_of, by_current, by_region, with_list, encounter}
use Rattle.omi_model.specs.Freeing.{MayFree, MayFreeMember, MayFreeRegion, above, freed, region_freed}
use Rattle.omi_model.specs.Fresh.{IsFresh}
use Rattle.omi_model.specs.Groups.{MayBeginGroup, MayEndGroup, group_begun, group_ended}
use Rattle.omi_model.specs.Lists.{take_item, stays}
use Rattle.omi_model.specs.Settings.{with_state, entered, left, with_set, with_tool, with_lock}
use Rattle.omi_model.specs.State.{State}
use Rattle.omi_model.specs.Tasking.{IsTaken, deferred, started_now, MayStart, started, started_alone, MayFinish, finished, AreChildrenFinished}
use Rattle.omi_model.specs.Teams.{MayBegin, begun, MayOffer, offered, wanted_size, wanting, MayAsk, asked, MayFork, forked, MayBeginTask, task_begun, MayEnd, task_ended, MayJoin, joined}

-- What has to hold for an event of a thread that takes an item.
abbrev pub Rule : State → ℕ → Event → Item → Type 0
Rule s i event.Begin x = MayBegin (s.threads i)
Rule s i event.Offer x = MayOffer (s.threads i)
Rule s i (event.Want n) (item.Want num) = OfCurrentRegion s i (λ k t r. n ≡ wanted_size s t r num)
Rule s i (event.Want n) x = ⊥
Rule s i (event.Ask w got) x = MayAsk s i w got
Rule s i (event.Fork region team) x = OfCurrentRegion s i (λ k t r. MayFork s i region team)
Rule s i (event.ImplicitBegin task) x = MayBeginTask s i task
Rule s i (event.State state wait) x = ⊤
Rule s i event.Enter x = OfCurrent s i (λ k t. ⊤)
Rule s i event.Leave x = OfCurrent s i (λ k t. ⊤)
Rule s i event.Arrive x = OfCurrentRegion s i (λ k t r. MayArrive t)
Rule s i event.Release x = OfCurrentRegion s i (λ k t r. MayRelease s t r)
Rule s i event.Pass x = OfCurrentRegion s i (λ k t r. MayPass t r)
Rule s i (event.ImplicitEnd task) x = OfCurrentRegion s i (λ k t r. MayEnd task k t)
Rule s i (event.Join region) x = OfCurrentRegion s i (λ k t r. MayJoin region t r)
Rule s i (event.FreeTask task) (item.Frees (freeable.Finished next)) =
    OfCurrent s i (λ k t. MayFree s task next)
Rule s i (event.FreeTask task) (item.Frees (freeable.Joined n number)) =
    OfCurrent s i (λ k t. MayFreeMember s task n number)
Rule s i (event.FreeTask task) x = ⊥
Rule s i (event.FreeRegion region) (item.Frees (freeable.Joined n number)) =
    OfCurrent s i (λ k t. MayFreeRegion s region n number)
Rule s i (event.FreeRegion region) x = ⊥
Rule s i (event.Seen j) x = OfCurrent s i (λ k t. IsTaken s i t.region j)
Rule s i (event.Defer task) x = OfCurrent s i (λ k t. IsFresh s.tasks i task.0)
Rule s i (event.StartNow task) x = OfCurrent s i (λ k t. IsFresh s.tasks i task.0)
Rule s i (event.Start task) x = OfCurrent s i (MayStart s task x)
Rule s i (event.Finish task) x = OfCurrent s i (MayFinish task)
Rule s i event.WaitDone x = OfCurrent s i (λ k t. AreChildrenFinished s k)
Rule s i event.GroupBegin x = OfCurrent s i (λ k t. MayBeginGroup t)
Rule s i event.GroupEnd x = OfCurrent s i (MayEndGroup s)
Rule s i event.Yield x = ⊤
Rule s i (event.Set icv value) x = OfCurrent s i (λ k t. ⊤)
Rule s i (event.SetTool y) x = OfCurrent s i (λ k t. ⊤)
Rule s i (event.Lock k) x = s.locks k ≡ None
Rule s i (event.Unlock k) x = s.locks k ≡ Some i
Rule s i event.Work x = ⊤
Rule s i (event.Call f) x = ⊤
Rule s i event.Skip x = ⊤
Rule s i event.Ret x = ⊤
Rule s i event.Done x = i ≡ 0

-- What an event of a thread makes of a state in which the list has moved on. An event that takes no item of its kind makes none.
abbrev pub effect : Program → State → ℕ → Event → Item → Option State
effect p s i event.Begin x = Some (begun s i)
effect p s i event.Offer x = Some (offered s i)
effect p s i (event.Want n) x = Some (wanting s i n)
effect p s i (event.Ask w got) x = Some (asked s i w got)
effect p s i (event.Fork region team) (item.Fork f) = by_region s i (forked p s i region team f)
effect p s i (event.Fork region team) x = None
effect p s i (event.ImplicitBegin task) x = Some (task_begun s i task)
effect p s i (event.State state wait) x = Some (with_state s i state wait)
effect p s i event.Enter x = by_current s i (entered s)
effect p s i event.Leave x = by_current s i (left s)
effect p s i event.Arrive x = by_current s i (λ k t. arrived s t)
effect p s i event.Release x = by_current s i (λ k t. released s t)
effect p s i event.Pass x = Some s
effect p s i (event.ImplicitEnd task) x = by_current s i (task_ended s i)
effect p s i (event.Join region) x = by_region s i (joined s i)
effect p s i (event.FreeTask task) (item.Frees (freeable.Finished next)) =
    by_current s i (freed s task (above s task))
effect p s i (event.FreeTask task) (item.Frees (freeable.Joined n number)) =
    by_current s i (freed s task (Some (freeable.Joined n (number + 1))))
effect p s i (event.FreeTask task) x = None
effect p s i (event.FreeRegion region) (item.Frees (freeable.Joined n number)) =
    Some (region_freed s region)
effect p s i (event.FreeRegion region) x = None
effect p s i (event.Seen j) x = Some s
effect p s i (event.Defer task) (item.Defer seen f final) =
    by_current s i (deferred p s task f final seen)
effect p s i (event.Defer task) x = None
effect p s i (event.StartNow task) (item.Defer seen f final) =
    by_current s i (started_now p s i task f final)
effect p s i (event.StartNow task) (item.StartNow f final) =
    by_current s i (started_now p s i task f final)
effect p s i (event.StartNow task) x = None
effect p s i (event.Start task) (item.Tasks state) = by_current s i (started s i task)
effect p s i (event.Start task) item.OneTask = by_current s i (started_alone s i task)
effect p s i (event.Start task) x = None
effect p s i (event.Finish task) x = by_current s i (finished s i)
effect p s i event.WaitDone x = Some s
effect p s i event.GroupBegin x = by_current s i (group_begun s)
effect p s i event.GroupEnd x = by_current s i (group_ended s)
effect p s i event.Yield x = Some s
effect p s i (event.Set icv value) x = with_set s i icv value
effect p s i (event.SetTool y) x = by_current s i (λ k t. with_tool s y k)
effect p s i (event.Lock k) x = Some (with_lock s k (Some i))
effect p s i (event.Unlock k) x = Some (with_lock s k None)
effect p s i event.Work x = Some s
effect p s i (event.Call f) x = Some s
effect p s i event.Skip x = Some s
effect p s i event.Ret x = Some s
effect p s i event.Done x = Some s

-- the item that an event of a thread takes, and what stands behind it
abbrev pub taken_by : Program → State → ℕ → Event → Option (Item × List Item)
taken_by p s i e = take_item p (encounter s i) e (ahead_of s i)

-- An event of a thread is legal: it is one of the program's threads, its list allows the event, and the event's rule holds.
pub record Legal (p : Program) (s : State) (i : ℕ) (e : Event) : Type 0 where
  pub known : i < s.count
  pub item : Item
  pub behind : List Item
  pub taken : taken_by p s i e ≡ Some (item, behind)
  pub rule : Rule s i e item

-- the state after an event: first the list moves on, and then the event has its effect
abbrev pub moved : Program → State → ℕ → Event → Item × List Item → Option State
moved p s i e x = effect p (with_list s i (stays (encounter s i) e x.0 x.1)) i e x.0

-- the state after an event of a thread, which each legal event has
abbrev pub after : Program → State → ℕ → Event → Option State
after p s i e = option_and_then (moved p s i e) (taken_by p s i e)
