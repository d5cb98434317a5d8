-- What the change of an event that takes an item needs of the state in which its list has moved on.
use Rattle.std.specs.Prelude.{◌≡◌, ◌<◌, ℕ, length, Some, IsSome, ⊤}
use Rattle.omi_model.specs.declared.event.Event.{Event}
use Rattle.omi_model.specs.declared.event.Event.TheVariants as event
use Rattle.omi_model.specs.declared.freeable.Freeable.TheVariants as freeable
use Rattle.omi_model.specs.declared.id.Rid.{Rid}
use Rattle.omi_model.specs.declared.item.Item.{Item}
use Rattle.omi_model.specs.declared.item.Item.TheVariants as item
use Rattle.omi_model.specs.declared.region.Region.{Region}
use Rattle.omi_model.specs.Changes.{OfCurrent, OfCurrentRegion}
use Rattle.omi_model.specs.Groups.{MayBeginGroup}
use Rattle.omi_model.specs.State.{State, region_of, task_of}

-- a thread has a current task that is live, and one whose region is live
abbrev pub HasCurrent : State → ℕ → Type 0
HasCurrent s i = OfCurrent s i (λ k t. ⊤)

abbrev pub HasRegion : State → ℕ → Type 0
HasRegion s i = OfCurrentRegion s i (λ k t r. ⊤)

-- a live region has a member of this number, and one of the number that an item has next to give back
abbrev pub HasMember : State → Rid → ℕ → Type 0
HasMember s n number = (r : Region) × (region_of s n ≡ Some r) × (number < length r.team)

abbrev pub HasNextMember : State → Item → Type 0
HasNextMember s x = (n : Rid) (number : ℕ) → x ≡ item.Frees (freeable.Joined n number) → HasMember s n number

-- what is looked up to make the change of an event, and that a region is given back by its item
abbrev pub Needs : State → ℕ → Event → Item → Type 0
Needs s i (event.Ask w got) x = w < s.count
Needs s i (event.Fork region team) x = HasRegion s i
Needs s i (event.ImplicitBegin task) x = IsSome (task_of s task)
Needs s i event.Enter x = HasCurrent s i
Needs s i event.Leave x = HasCurrent s i
Needs s i event.Arrive x = HasRegion s i
Needs s i event.Release x = HasRegion s i
Needs s i (event.ImplicitEnd task) x = HasRegion s i
Needs s i (event.Join region) x = HasRegion s i
Needs s i (event.Defer task) x = HasCurrent s i
Needs s i (event.StartNow task) x = HasCurrent s i
Needs s i (event.Start task) x = HasCurrent s i × IsSome (task_of s task)
Needs s i (event.Finish task) x = HasCurrent s i
Needs s i (event.FreeTask task) x = HasCurrent s i × HasNextMember s x
Needs s i (event.FreeRegion region) (item.Frees (freeable.Joined n number)) = ⊤
Needs s i (event.FreeRegion region) x = ⊥
Needs s i event.GroupBegin x = OfCurrent s i (λ k t. MayBeginGroup t)
Needs s i event.GroupEnd x = HasCurrent s i
Needs s i (event.Set icv value) x = HasCurrent s i
Needs s i (event.SetTool y) x = HasCurrent s i
Needs s i e x = ⊤
