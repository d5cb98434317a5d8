-- A to-do list moves on: each name of the state is live as before.
use Rattle.std.proofs.Common.{ℕ, List, sym, ap, subst, ◌∙◌}
use Rattle.omi_model.specs.declared.item.Item.{Item}
use Rattle.omi_model.specs.declared.task.Task.{Task}
use Rattle.omi_model.specs.Changes.{with_list}
use Rattle.omi_model.specs.LawNames.{AreNamesLive, IsLiveRegion, IsLiveTask, IsMemberTask}
use Rattle.omi_model.specs.LawStays.{Stays}
use Rattle.omi_model.specs.declared.id.Rid.{Rid}
use Rattle.omi_model.specs.declared.id.Tid.{Tid}
use Rattle.omi_model.specs.State.{State}
use Rattle.omi_model.proofs.NamesLive.{member_alike}
use Rattle.omi_model.proofs.StaysKept.{list_keeps, stays_list}
use Rattle.omi_model.proofs.Steps.{IsRelisted, is_relisted}

pub names_stay_live : (s : State) (i : ℕ) (list : List Item) → AreNamesLive s
    → AreNamesLive (with_list s i list)
names_stay_live s i list o = record {
  currents = λ j k is. still k (o.currents j k (sym (moved.currents j) ∙ is));
  tasks = λ k t is.
      let (u, items, was, same) = moved.tasks k t is in
      let x = o.tasks k u was in
      record {
        region = subst (λ (n : Rid). IsLiveRegion after n) (sym (ap (λ (y : Task). y.region) same)) (lives u.region x.region);
        generating = λ q made. still q (x.generating q (sym (ap (λ (y : Task). y.generating) same) ∙ made));
        scheduling = λ q made. still q (x.scheduling q (sym (ap (λ (y : Task). y.scheduling) same) ∙ made));
      };
  regions = λ n r is.
      let x = o.regions n r (sym (moved.regions n) ∙ is) in
      record {
        enclosing = λ q outer. lives q (x.enclosing q outer);
        encountering = λ q made. still q (x.encountering q made);
        team = λ unjoined j m at. member n j m (x.team unjoined j m at);
        members = λ j m at t live. let (u, items, was, same) = moved.tasks m.0 t live in member n j m (x.members j m at u was);
      };
}
  where
    after : State
    after = with_list s i list

    stays : Stays s (with_list s i list)
    stays = stays_list s i list

    still : (k : Tid) → IsLiveTask s k → IsLiveTask after k
    still k (t, live, un) = let (v, found, same) = list_keeps s i list k t live in (v, found, same.started un)

    moved : IsRelisted s (with_list s i list)
    moved = is_relisted s i list

    lives : (n : Rid) → IsLiveRegion s n → IsLiveRegion after n
    lives n (r, live) = (r, moved.regions n ∙ live)

    member : (n : Rid) (j : ℕ) (m : Tid × ℕ) → IsMemberTask s n j m → IsMemberTask after n j m
    member n j m is =
        let (v, found, same) = list_keeps s i list m.0 is.task is.live in member_alike s after stays n j m is v found
