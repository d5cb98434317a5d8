-- The groups that each task has open, and its to-do list, over every event.
use Rattle.std.proofs.Common.{◌≡◌, ◌+◌, ◌⊎◌, inl, inr, ℕ, true, false, List, [], ◌∷◌, Option, Some, None, refl, sym, ap, ◌∙◌, subst}
use Rattle.omi_script.specs.declared.program.Program.{Program}
use Rattle.omi_model.specs.declared.event.Event.{Event}
use Rattle.omi_model.specs.declared.id.Id.{Id}
use Rattle.omi_model.specs.declared.id.Tid.{Tid}
use Rattle.omi_model.specs.declared.task.Task.{Task}
use Rattle.omi_model.specs.Changes.{IsCurrent, ahead_of, encounter, in_front}
use Rattle.omi_model.specs.LawGroups.{GroupsNest}
use Rattle.omi_model.specs.Lists.{fits, stays, take_item}
use Rattle.omi_model.specs.Opening.{opening}
use Rattle.omi_model.specs.Reached.{Reached, Step}
use Rattle.omi_model.specs.State.{State}
use Rattle.omi_model.proofs.EachObject.{EachTask, IsTaskLaw, task_step_from}
use Rattle.omi_model.proofs.groups.GroupLists.{count_behind, main_nests, member_nests, start_nests, stays_nests, take_nests, task_nests}
use Rattle.omi_model.proofs.groups.OpenCounts.{before, m, middle, new_member, new_name, own_count}
use Rattle.omi_model.proofs.ListLaws.{by_taken, take_fits}
use Rattle.omi_model.proofs.OpenNames.{open_names}
use Rattle.omi_model.proofs.OpeningObjects.{each_first_task}
use Rattle.omi_model.proofs.ReachedStates.{over_reached}
use Rattle.omi_model.proofs.Slots.{none_some, same_or_not, some_same}
use Rattle.omi_model.proofs.Steps.{IsMove, relisted}

abbrev pub Nests : Program → Tid → Task → Type 0
Nests p k t = GroupsNest p t.open_groups t.list

module _ (p : Program) (events : List (ℕ × Event)) (s : State) (reached : Reached p events s) (i : ℕ)
    (e : Event) (next : State) (step : Step p s i e next) where
  abbrev move : IsMove p s i e next
  move = m p s i e next step

  -- behind the event the current task's list nests at its new number, every other one at its own
  abbrev NestsBehind : Tid → Task → Type 0
  NestsBehind k v =
      (((s.threads i).current ≡ Some k → ⊥) → GroupsNest p v.open_groups v.list)
      × ((t : Task) → IsCurrent s i k t → GroupsNest p (count_behind e t.open_groups) v.list)

  item_fits : fits e move.item ≡ true
  item_fits = take_fits p (encounter s i) e (ahead_of s i) move.item move.behind move.taken

  moved : (k : Tid) (t : Task) → IsCurrent s i k t
      → take_item p (encounter s i) e (in_front t.frees t.list) ≡ Some (move.item, move.behind) → Nests p k t
      → NestsBehind k (relisted (stays (encounter s i) e move.item move.behind) t)
  moved k t is taken nests =
      let ahead : GroupsNest p t.open_groups (move.item ∷ move.behind) =
      by_taken p (encounter s i) e t.frees t.list move.item move.behind (λ f y ys. GroupsNest p t.open_groups (y ∷ ys)) taken
      (λ from. take_nests p t.open_groups (encounter s i) e t.list move.item move.behind from nests) (λ f n. nests) in (
        λ apart. absurd (apart is.name),
        λ u is_u. subst (λ (x : Task). GroupsNest p (count_behind e x.open_groups) (stays (encounter s i) e move.item move.behind))
            (some_same is.live is_u.live) (stays_nests p t.open_groups (encounter s i) e move.item move.behind item_fits ahead),
      )

  behind : EachTask (Nests p) s → EachTask NestsBehind next
  behind all =
      task_step_from p (Nests p) NestsBehind s i e next move moved
      (λ k t apart live q. (λ other. q, λ u is_u. absurd (apart is_u.name))) law all
    where
      law : EachTask NestsBehind (middle p s i e next step)
          → IsTaskLaw p (middle p s i e next step) i e move.item next NestsBehind
      law of_tasks = record {
        frees = λ k t free how q. q;
        shows = λ k t x q. q;
        tools = λ k t x q. q;
        groups = λ k t count is how q. (λ apart. absurd (apart (sym ((before p s i e next step).currents i) ∙ is.name)), q.1);
        sets = λ k t icv value v f at_set q. q;
        begins = λ k t waits mine by q. q;
        finishes = λ k t is over q. q;
        starts = λ k u j t x is live ex de may of by q. (
          λ apart. start_nests p u.open_groups x (encounter (middle p s i e next step) i) u.list (q.0 apart),
          λ w is_w. start_nests p (count_behind e w.open_groups) x (encounter (middle p s i e next step) i) u.list (q.1 w is_w),
        );
        members = λ region team f k t r is found may new of by j a at. (
          λ apart. member_nests p (record { debug = p.env.debug; number = j; level = r.levels + 1; is_final = false }) f,
          λ u is_u. absurd (new_member p s i e next step region team may j a at u is_u.live),
        );
        deferred = λ task f final seen k t is of fresh. (λ apart. task_nests p f, λ u is_u. absurd (new_name p s i e next step task fresh u is_u.live));
        made = λ task f final k t is of fresh by. (λ apart. task_nests p f, λ u is_u. absurd (new_name p s i e next step task fresh u is_u.live));
      }

  nests_step : EachTask (Nests p) s → EachTask (Nests p) next
  nests_step all k v live = go (s.threads i).current refl
    where
      other : ((s.threads i).current ≡ Some k → ⊥) → Nests p k v
      other apart = (behind all k v live).0 apart

      current : (s.threads i).current ≡ Some k → Nests p k v
      current name =
          let (t, found, un) = (open_names p events s reached).currents i k name in
          let is : IsCurrent s i k t = record { name = name; live = found } in
          subst (λ n. GroupsNest p n v.list) (sym (own_count p s i e next step k t is v live)) ((behind all k v live).1 t is)

      go : (o : Option Tid) → (s.threads i).current ≡ o → Nests p k v
      go None none = other (λ name. none_some none name)
      go (Some c) name = by_name (same_or_not c.0 k.0)
        where
          by_name : (c.0 ≡ k.0) ⊎ (c.0 ≡ k.0 → ⊥) → Nests p k v
          by_name (inl same) = current (name ∙ ap (λ (a : Id). Some (record { 0 = a })) same)
          by_name (inr apart) = other (λ h. apart (ap (λ (a : Tid). a.0) (some_same name h)))

pub groups_nested : (p : Program) (events : List (ℕ × Event)) (s : State) → Reached p events s → EachTask (Nests p) s
groups_nested p events s reached =
    over_reached p (EachTask (Nests p))
    (λ first u first_reached i e next step h. nests_step p first u first_reached i e next step h) []
    (opening p) refl events s reached
    (each_first_task p (Nests p) (main_nests p (record { debug = p.env.debug; number = 0; level = 0; is_final = false })))
