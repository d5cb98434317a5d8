-- To-do lists: which item of a list an event takes, and what stands in the item's place afterwards.
use Rattle.std.specs.Prelude.{◌+◌, ◌==◌, ◌&&◌, Bool, true, false, nat_lt, List, [], ◌∷◌, Option, Some, None, if◌then◌else◌}
use Rattle.omi_numbers.specs.declared.limits.TheConstants.{OWN_SLOTS}
use Rattle.omi_script.specs.declared.program.Program.{Program}
use Rattle.omi_model.specs.declared.item.Item.{Item}
use Rattle.omi_model.specs.declared.item.Item.TheVariants as item
use Rattle.omi_model.specs.declared.event.Event.{Event}
use Rattle.omi_model.specs.declared.event.Event.TheVariants as event
use Rattle.omi_model.specs.declared.freeable.Freeable.TheVariants as freeable
use Rattle.omi_numbers.specs.declared.states.TheConstants.{IDLE}
use Rattle.omi_model.specs.declared.encounter.Encounter.{Encounter}
use Rattle.omi_model.specs.Rows.{shown, first_of, behind}

-- the head of a list and what stands behind it, once a statement is replaced by its row
abbrev pub opened : Program → Encounter → Item → List Item → Item × List Item
opened p at (item.Do s) rest = (first_of at s, behind p at s rest)
opened p at x rest = (x, rest)

-- An item that may be passed over: one that stands for any number of events. A task that has finished may stay, until its place in
-- front of the list is another's; a region that is joined is given back before all else.
abbrev pub may_drop : Item → Bool
may_drop item.Asks = true
may_drop (item.Tasks state) = true
may_drop item.OneTask = true
may_drop (item.Frees (freeable.Finished task)) = true
may_drop x = false

-- the event is this item's. Slots for deferred tasks are looked at in the order 0 to 3.
abbrev pub fits : Event → Item → Bool
fits event.Begin item.Begin = true
fits event.Offer item.Offer = true
fits (event.Want n) (item.Want num) = true
fits (event.Ask w got) item.Asks = true
fits (event.Fork region team) (item.Fork f) = true
fits (event.ImplicitBegin task) item.Serve = true
fits (event.State state wait) (item.State s w) = state == s && wait == w
fits event.Enter item.Enter = true
fits event.Leave item.Leave = true
fits event.Arrive item.Arrive = true
fits event.Release item.Release = true
fits event.Pass item.Pass = true
fits (event.ImplicitEnd task) item.ImplicitEnd = true
fits (event.Join region) item.Join = true
fits (event.Seen j) (item.Defer seen f final) = j == seen && nat_lt seen OWN_SLOTS
fits (event.Defer task) (item.Defer seen f final) = nat_lt seen OWN_SLOTS
fits (event.StartNow task) (item.Defer seen f final) = seen == OWN_SLOTS
fits (event.StartNow task) (item.StartNow f final) = true
fits (event.Start task) (item.Tasks state) = true
fits (event.Start task) item.OneTask = true
fits (event.Finish task) item.Finish = true
fits (event.FreeTask task) (item.Frees next) = true
fits (event.FreeRegion region) (item.Frees (freeable.Joined n number)) = true
fits event.WaitDone item.WaitDone = true
fits event.GroupBegin item.GroupBegin = true
fits event.GroupEnd item.GroupEnd = true
fits event.Yield item.Yield = true
fits (event.Set icv value) (item.Set v x) = icv == v && value == x
fits (event.SetTool x) (item.SetTool y) = x == y
fits (event.Lock k) (item.Lock l) = k == l
fits (event.Unlock k) (item.Unlock l) = k == l
fits event.Work item.Work = true
fits (event.Call f) (item.Call g) = f == g
fits event.Skip item.Skip = true
fits event.Ret item.Ret = true
fits event.Done item.Done = true
fits e x = false

-- the event's item and what stands behind it, where that item is the head but for items that may be passed over
abbrev pub take_item : Program → Encounter → Event → List Item → Option (Item × List Item)
take_item p at e [] = None
take_item p at e (x ∷ xs) =
    let head = opened p at x xs in
    if fits e head.0 then Some head else (if may_drop x then take_item p at e xs else None)

-- What stands in the place of an event's item afterwards: any number of asks, starts and teams stay possible, a slot that was seen is passed over, and every other item is gone.
abbrev pub stays : Encounter → Event → Item → List Item → List Item
stays at e item.Asks rest = item.Asks ∷ rest
stays at e item.Serve rest = shown at IDLE 0 (item.Offer ∷ item.Serve ∷ rest)
stays at e (item.Tasks state) rest = shown at state 0 (item.Tasks state ∷ rest)
stays at (event.Seen j) (item.Defer seen f final) rest = item.Defer (seen + 1) f final ∷ rest
stays at e x rest = rest
