-- What stands in front of the list of the current task, and in front of those that are not current.
use Rattle.std.proofs.Common.{◌≡◌, ◌≢◌, inl, inr, ℕ, true, List, Option, Some, refl, sym, ap, ◌∙◌, subst}
use Rattle.std.proofs.lemmas.Option.{get_or_from_slice_get, slice_get_within}
use Rattle.omi_script.specs.declared.program.Program.{Program}
use Rattle.omi_model.specs.declared.event.Event.{Event}
use Rattle.omi_model.specs.declared.freeable.Freeable.{Freeable}
use Rattle.omi_model.specs.declared.freeable.Freeable.TheVariants as freeable
use Rattle.omi_model.specs.declared.id.Rid.{Rid}
use Rattle.omi_model.specs.declared.id.Tid.{Tid}
use Rattle.omi_model.specs.declared.item.Item.TheVariants as item
use Rattle.omi_model.specs.declared.task.Task.{Task}
use Rattle.omi_model.specs.Changes.{IsCurrent, encounter, in_front}
use Rattle.omi_model.specs.Fresh.{IsFresh}
use Rattle.omi_model.specs.LawStays.{is_free}
use Rattle.omi_model.specs.Lists.{stays, take_item}
use Rattle.omi_model.specs.Reached.{Reached, Step}
use Rattle.omi_model.specs.State.{State, task_of}
use Rattle.omi_model.proofs.Chains.{top_of}
use Rattle.omi_model.proofs.ChainsKept.{current_begun, have_chains}
use Rattle.omi_model.proofs.EachObject.{EachTask, IsFreeing, IsGoingOn, IsTaskLaw, ahead_of_current, task_step_from}
use Rattle.omi_model.proofs.FreesLists.{front_taken, no_frees}
use Rattle.omi_model.proofs.ListLaws.{takes_joined}
use Rattle.omi_model.proofs.MembersKnown.{first_scheduled, members_known}
use Rattle.omi_model.proofs.OpenNames.{open_names}
use Rattle.omi_model.proofs.Slots.{found_live, none_some, some_same}
use Rattle.omi_model.proofs.StaysKept.{fresh_empty, list_keeps}
use Rattle.omi_model.proofs.Steps.{IsMove, IsRelisted, is_relisted, move_of, moved_on}

-- a task of this name has this in front of its list
abbrev HasFront : Tid → Option Freeable → Tid → Task → Type 0
HasFront k front a u = a ≡ k → u.frees ≡ front

module _ (p : Program) (events : List (ℕ × Event)) (s : State) (reached : Reached p events s) (i : ℕ)
    (e : Event) (next : State) (step : Step p s i e next) where
  abbrev m : IsMove p s i e next
  m = move_of p s i e next step

  abbrev middle : State
  middle = moved_on s i e m.item m.behind

  before : IsRelisted s middle
  before = is_relisted s i (stays (encounter s i) e m.item m.behind)

  -- what is given back stood in front of the current task's list
  pub item_front : (k : Tid) (t : Task) → IsCurrent s i k t → (f : Freeable) → m.item ≡ item.Frees f → t.frees ≡ Some f
  item_front k t is =
      front_taken p (encounter s i) e t.frees t.list m.item m.behind (no_frees p events s reached k t is.live)
      (ap (take_item p (encounter s i) e) (sym (ahead_of_current s i k t is)) ∙ m.taken)

  -- and a joined region that stands there is given back
  pub front_item : (k : Tid) (t : Task) → IsCurrent s i k t → (n : Rid) (number : ℕ)
      → t.frees ≡ Some (freeable.Joined n number)
      → (is_free e ≡ true) × (m.item ≡ item.Frees (freeable.Joined n number))
  front_item k t is n number front =
      takes_joined p (encounter s i) e n number t.list (m.item, m.behind)
      (ap (λ f. take_item p (encounter s i) e (in_front f t.list)) (sym front)
      ∙ (ap (take_item p (encounter s i) e) (sym (ahead_of_current s i k t is)) ∙ m.taken))

  -- a task that goes on where another one ends, or that is current, runs on the thread of the event
  freeing_here : (k : Tid) (free : Option Freeable) → IsFreeing middle i e m.item k free
      → (t : Task) × (task_of s k ≡ Some t) × (t.thread ≡ i)
  freeing_here k free (inr (f, task, of, frees, name, behind)) =
      let current : (s.threads i).current ≡ Some k = sym (before.currents i) ∙ name in
      let (t, live, un) = (open_names p events s reached).currents i k current in
      (t, live, (current_begun p events s reached i k t current live).1)
  freeing_here k free (inl (j, u, is, over, from, next_is)) =
      let (v, xs, live, same) = before.tasks j u is.live in
      let name : (s.threads i).current ≡ Some j = sym (before.currents i) ∙ is.name in
      let (ks, chain) = have_chains p events s reached i in
      let (ns, v', list, apart, live', mine, begun, rest) = top_of s i (s.threads i).current ks j name chain in
      let below : v'.scheduling ≡ Some k =
      ap (λ (x : Task). x.scheduling) (some_same live' live) ∙ (ap (λ (x : Task). x.scheduling) (sym same) ∙ goes_on from) in
      let (ms, w, list_k, apart_k, live_k, mine_k, begun_k, rest_k) = top_of s i v'.scheduling ns k below rest in
      (w, live_k, mine_k)
    where
      goes_on : IsGoingOn middle u k → u.scheduling ≡ Some k
      goes_on (inl from) = from
      goes_on (inr (r, found, im, first, from)) =
          first_scheduled s middle (members_known p events s reached) before j u r is.live im first found ∙ from

  -- a fresh name is that of no live task
  fresh_apart : (k a : Tid) (t : Task) → task_of s k ≡ Some t → IsFresh middle.tasks i a.0 → a ≡ k → ⊥
  fresh_apart k a t live fresh same =
      let (v, found, alike) = list_keeps s i (stays (encounter s i) e m.item m.behind) k t live in
      none_some (fresh_empty middle.tasks i a.0 fresh)
      (found_live a.0.generation (middle.tasks a.0.creator a.0.slot) v (ap (task_of middle) same ∙ found))

  -- what stands in front of the list of a task on another thread stays
  pub front_stays : (k : Tid) (t : Task) → task_of s k ≡ Some t → t.thread ≢ i → (v : Task) → task_of next k ≡ Some v
      → v.frees ≡ t.frees
  front_stays k t live elsewhere v found =
      task_step_from p (λ a u. task_of s a ≡ Some u) (HasFront k t.frees) s i e next m
      (λ a u is taken was same. absurd (here a u is.live (current_begun p events s reached i a u is.name is.live).1 same))
      (λ a u ne live_u was same. ap (λ (x : Task). x.frees) (some_same (ap (task_of s) (sym same) ∙ live_u) live)) law
      (λ a u live_u. live_u) k v found refl
    where
      here : (a : Tid) (u : Task) → task_of s a ≡ Some u → u.thread ≡ i → a ≡ k → ⊥
      here a u live_u mine same =
          elsewhere (ap (λ (x : Task). x.thread) (some_same live (ap (task_of s) (sym same) ∙ live_u)) ∙ mine)

      law : EachTask (HasFront k t.frees) middle → IsTaskLaw p middle i e m.item next (HasFront k t.frees)
      law of_tasks = record {
        frees = λ a u free how q same. let (w, live_w, mine) = freeing_here a free how in absurd (here a w live_w mine same);
        shows = λ a u x q. q;
        tools = λ a u x q. q;
        groups = λ a u count is how q. q;
        sets = λ a u icv value x f at_set q. q;
        begins = λ a u waits mine by q. q;
        finishes = λ a u is over q. q;
        starts = λ a u j x y is live_u ex de may of by q. q;
        members = λ region team f j x r is found_r may new of by o d at same.
            absurd (fresh_apart k d.0 t live (subst (λ (x : Tid × ℕ). IsFresh middle.tasks i x.0.0) (get_or_from_slice_get team o d d at) (may.tasks_new o d (slice_get_within team o d at))) same);
        deferred = λ task f final seen j x is of fresh same. absurd (fresh_apart k task t live fresh same);
        made = λ task f final j x is of fresh by same. absurd (fresh_apart k task t live fresh same);
      }
