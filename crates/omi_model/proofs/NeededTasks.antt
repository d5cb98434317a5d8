-- Tasks that no event takes away: the current tasks, those that a live task names, and those that encountered a region that is not joined.
use Rattle.std.proofs.Common.{◌≡◌, ◌⊎◌, inl, inr, ℕ, false, List, slice_get, Some, sym, ap, ◌∙◌}
use Rattle.omi_script.specs.declared.program.Program.{Program}
use Rattle.omi_model.specs.declared.event.Event.{Event}
use Rattle.omi_model.specs.declared.id.Rid.{Rid}
use Rattle.omi_model.specs.declared.id.Tid.{Tid}
use Rattle.omi_model.specs.declared.region.Region.{Region}
use Rattle.omi_model.specs.declared.task.Task.{Task}
use Rattle.omi_model.specs.LawNames.{IsMemberTask}
use Rattle.omi_model.specs.LawStays.{IsNeeded}
use Rattle.omi_model.specs.Reached.{Reached}
use Rattle.omi_model.specs.State.{State, region_of, task_of}
use Rattle.omi_model.proofs.ChainsKept.{current_begun}
use Rattle.omi_model.proofs.GeneratingChains.{generated_on, have_line}
use Rattle.omi_model.proofs.MembersKnown.{first_at, members_known}
use Rattle.omi_model.proofs.ScheduledFrom.{IsLiveImplicit, IsOwnedBy, scheduled_from}
use Rattle.omi_model.proofs.Slots.{some_same}
use Rattle.omi_model.proofs.StaysKept.{needed_begun, needed_generating}

module _ (p : Program) (events : List (ℕ × Event)) (s : State) (reached : Reached p events s) where
  pub needed_current : (i : ℕ) (k : Tid) (t : Task) → (s.threads i).current ≡ Some k → task_of s k ≡ Some t
      → IsNeeded s k t
  needed_current i k t name live = needed_begun s k t (current_begun p events s reached i k t name live).0

  pub needed_scheduling : (k : Tid) (t : Task) → task_of s k ≡ Some t → (n : Tid) (v : Task)
      → t.scheduling ≡ Some n → task_of s n ≡ Some v → IsNeeded s n v
  needed_scheduling k t live n v is found = go (scheduled_from p events s reached k t live n is)
    where
      go : (t.generating ≡ Some n) ⊎ (IsOwnedBy t n ⊎ ((t.implicit ≡ false) × IsLiveImplicit s n t.region))
          → IsNeeded s n v
      go (inl by) = needed_generating s k t live n v by
      go (inr (inl (g, member, own))) =
          let (gs, chain, owners) = have_line p events s reached k t live in
          let (m, w, found_w, by) = generated_on s k t live gs chain g.owner (owners g member) in
          needed_generating s m w found_w n v (by ∙ ap (λ (x : Tid). Some x) own)
      go (inr (inr (ex, (w, found_w, im, region)))) =
          let one : v ≡ w = some_same found found_w in
          let here : t.region ≡ v.region = sym region ∙ ap (λ (x : Task). x.region) (sym one) in
          inl (ap (λ (x : Task). x.implicit) one ∙ im, inr (inl (k, t, live, ex, here)))

  -- the task that encountered a region that is not joined: member 0 was made by it
  pub needed_encountering : (n : Rid) (r : Region) → region_of s n ≡ Some r
      → ((j : ℕ) (m : Tid × ℕ) → slice_get r.team j ≡ Some m → IsMemberTask s n j m)
      → (k : Tid) (t : Task) → r.encountering ≡ Some k → IsNeeded s k t
  needed_encountering n r found team k t is =
      let some = ((members_known p events s reached).regions n r found).some in
      let (a, at) = first_at r.team some in
      go a (team 0 a at)
    where
      go : (a : Tid × ℕ) → IsMemberTask s n 0 a → IsNeeded s k t
      go a member =
          let met = (members_known p events s reached).encountered a.0 member.task member.live in
          let by = met.generating member.implicit r (ap (region_of s) member.region ∙ found) in
          needed_generating s a.0 member.task member.live k t (by ∙ is)
