-- A region that is joined is given back before the task that encountered it goes on.
use Rattle.std.proofs.Common.{◌≡◌, ◌≢◌, ◌⊎◌, inl, inr, ◌+◌, ◌<◌, ◌≤◌, ℕ, Bool, true, false, List, [], length, slice_get, Option, Some, None, refl, sym, ap, ◌∙◌, subst, arith, if◌then◌else◌, eq-eqb}
use Rattle.std.specs.Option.{option_map}
use Rattle.std.specs.Prelude.{IsSome}
use Rattle.std.proofs.lemmas.Bool.{cases_eq}
use Rattle.omi_script.specs.declared.program.Program.{Program}
use Rattle.omi_model.specs.declared.event.Event.{Event}
use Rattle.omi_model.specs.declared.event.Event.TheVariants as event
use Rattle.omi_model.specs.declared.freeable.Freeable.{Freeable}
use Rattle.omi_model.specs.declared.freeable.Freeable.TheVariants as freeable
use Rattle.omi_model.specs.declared.id.Id.{Id}
use Rattle.omi_model.specs.declared.id.Rid.{Rid}
use Rattle.omi_model.specs.declared.id.Tid.{Tid}
use Rattle.omi_model.specs.declared.item.Item.{Item}
use Rattle.omi_model.specs.declared.item.Item.TheVariants as item
use Rattle.omi_model.specs.declared.progress.Progress.TheVariants.{Begun}
use Rattle.omi_model.specs.declared.region.Region.{Region}
use Rattle.omi_model.specs.declared.task.Task.{Task}
use Rattle.omi_model.specs.declared.thread.Thread.{Thread}
use Rattle.omi_model.specs.Changes.{IsCurrent, OfCurrent, encounter}
use Rattle.omi_model.specs.Freeing.{MayFree, MayFreeMember, freeing}
use Rattle.omi_model.specs.Freeing as freeing_rules
use Rattle.omi_model.specs.LawFreeing.{AreRegionsFreed, IsBeingFreed, IsJoinedOf}
use Rattle.omi_model.specs.LawMembers.{AreMembersKnown}
use Rattle.omi_model.specs.LawNames.{IsMemberTask}
use Rattle.omi_model.specs.LawStays.{Stays, is_free}
use Rattle.omi_model.specs.Lists.{stays}
use Rattle.omi_model.specs.Opening.{opening}
use Rattle.omi_model.specs.Put.{Slots, gone, named, on}
use Rattle.omi_model.specs.Reached.{Reached, Step}
use Rattle.omi_model.specs.Rules.{Rule, effect}
use Rattle.omi_model.specs.State.{State, region_of, task_of}
use Rattle.omi_model.specs.Teams.{joined}
use Rattle.omi_model.proofs.BarrierSteps.{current_after}
use Rattle.omi_model.proofs.ChainsKept.{current_begun, current_kept}
use Rattle.omi_model.proofs.EachObject.{EachTask, IsFreeing, IsGoingOn, IsTaskLaw, task_step_from}
use Rattle.omi_model.proofs.MembersKnown.{first_scheduled, members_known}
use Rattle.omi_model.proofs.NamesKept.{tasks_kept}
use Rattle.omi_model.proofs.OpenNames.{member_alike, member_stays, open_names}
use Rattle.omi_model.proofs.OpeningObjects.{each_first_region, each_first_task}
use Rattle.omi_model.proofs.ReachedStates.{over_reached}
use Rattle.omi_model.proofs.SlotEffects.{same_current}
use Rattle.omi_model.proofs.Slots.{false_true, map_some, none_some, on_same, put_same, same_or_not, some_same}
use Rattle.omi_model.proofs.StaysKept.{needed_begun, stays_step}
use Rattle.omi_model.proofs.Steps.{IsMove, IsRelisted, at_current, at_region, is_relisted, move_of, moved_on, relisted, relisted_to}
use Rattle.omi_model.proofs.TeamsMade.{names_made}
use Rattle.omi_model.proofs.claims.FirstThread.{encountered}
use Rattle.omi_model.proofs.freeing.Fronts.{front_item, front_stays, item_front}
use Rattle.omi_model.proofs.freeing.WhatStays.{SparesRegion, SparesTask, region_gone, region_rule, region_stays, task_gone, task_rule, task_stays}
use Rattle.omi_model.proofs.members.BegunChains.{scheduling_begun}
use Rattle.omi_model.proofs.members.EndSteps.{EndsBy, region_ended, was_there}
use Rattle.omi_model.proofs.members.Encounters.{are_made}

-- what stands as joined in front of a task's list is a region that the task encountered
abbrev Front : State → Tid → Task → Type 0
Front s k t = (n : Rid) (number : ℕ) → t.frees ≡ Some (freeable.Joined n number) → IsJoinedOf s n k

some_of : {A : Type 0} (o : Option A) → IsSome o → (x : A) × (o ≡ Some x)
some_of None is = absurd (false_true is)
some_of (Some x) is = (x, refl)

-- what may be given back next stands in front of the list of the task of this name
freeing_front : (slots : Slots Task) (x : Option Freeable) (o : Option Tid) (k : Tid) (v : Task) → o ≡ Some k
    → named (freeing x o slots) k.0 ≡ Some v → v.frees ≡ x
freeing_front slots x None k v is found = absurd (none_some refl is)
freeing_front slots x (Some a) k v is found =
    let same : a ≡ k = some_same refl is in
    let here : named (on slots k.0 (λ u. record u { frees = x })) k.0 ≡ Some v =
    subst (λ (b : Tid). named (on slots b.0 (λ u. record u { frees = x })) k.0 ≡ Some v) same found in
    let (u, was, made) =
    map_some (λ (u : Task). record u { frees = x }) (named slots k.0) v (sym (on_same slots k.0 (λ u. record u { frees = x })) ∙ here) in
    ap (λ (u : Task). u.frees) made

module _ (p : Program) (events : List (ℕ × Event)) (s : State) (reached : Reached p events s) (i : ℕ)
    (e : Event) (next : State) (step : Step p s i e next) (all : AreRegionsFreed s) where
  abbrev m : IsMove p s i e next
  m = move_of p s i e next step

  abbrev middle : State
  middle = moved_on s i e m.item m.behind

  before : IsRelisted s middle
  before = is_relisted s i (stays (encounter s i) e m.item m.behind)

  stay : Stays s next
  stay = stays_step p s i e next step

  front_here : (k : Tid) (t : Task) → IsCurrent s i k t → (f : Freeable) → m.item ≡ item.Frees f → t.frees ≡ Some f
  front_here = item_front p events s reached i e next step

  -- ---- what the event gives back

  -- the region of an event that gives one back was encountered by the current task
  region_here : (region : Rid) → e ≡ event.FreeRegion region
      → (k : Tid) × ((s.threads i).current ≡ Some k) × IsJoinedOf s region k
  region_here region of =
      let (n, number, item_is, (k, t, is, may)) =
      region_rule s i region m.item (subst (λ (x : Event). Rule s i x m.item) of m.rule) in
      let front = front_here k t is (freeable.Joined n number) item_is in
      (k, is.name, subst (λ (a : Rid). IsJoinedOf s a k) (sym may.same) (all.front k t n number is.live front))

  -- a region that another task encountered stays
  joined_left : (n : Rid) (k : Tid) → IsJoinedOf s n k → SparesRegion e n → IsJoinedOf next n k
  joined_left n k is not =
      let (q, found) = region_stays p s i e next step n is.region is.live not in
      let same = stay.alike_regions n is.region q is.live found in
      record { region = q; live = found; joined = same.joined is.joined; encountering = same.encountering ∙ is.encountering }

  other_spared : (n : Rid) (k : Tid) → IsJoinedOf s n k → ((s.threads i).current ≡ Some k → ⊥) → SparesRegion e n
  other_spared n k is ne region of same =
      let (k0, name, has) = region_here region of in
      let one : has.region ≡ is.region = some_same has.live (ap (region_of s) (sym same) ∙ is.live) in
      let by : k0 ≡ k =
      some_same has.encountering (ap (λ (r : Region). r.encountering) one ∙ is.encountering) in
      ne (name ∙ ap (λ (a : Tid). Some a) by)

  frees_task : (region : Rid) (task : Tid) → e ≡ event.FreeTask task → e ≡ event.FreeRegion region → ⊥
  frees_task region task a b = let same : event.FreeTask task ≡ event.FreeRegion region = sym a ∙ b in cc

  -- the event joins the region of its task
  joined_now : (j : Tid) (t : Task) → IsCurrent middle i j t → e ≡ event.Join t.region → (k : Tid) → IsGoingOn middle t k
      → IsJoinedOf next t.region k
  joined_now j t is of k from =
      let (v, xs, live, same) = before.tasks j t is.live in
      let current : IsCurrent s i j v = record { name = sym (before.currents i) ∙ is.name; live = live } in
      let (j0, t0, r, is0, found0, may) = subst (λ (x : Event). Rule s i x m.item) of m.rule in
      let one : t0 ≡ v = same_current s i j0 j t0 v is0 current in
      let here : v.region ≡ t.region = ap (λ (x : Task). x.region) (sym same) in
      let found : region_of s t.region ≡ Some r =
      ap (region_of s) (sym (ap (λ (x : Task). x.region) one ∙ here)) ∙ found0 in
      let (q, found_q) =
      region_stays p s i e next step t.region r found (λ region free same. join_free t.region region (sym of ∙ free)) in
      let ended = subst (λ (x : Event). EndsBy s i x t.region r q) of (region_ended p s i e next m t.region r q found found_q) in
      let im : t.implicit ≡ true = ap (λ (x : Task). x.implicit) (same ∙ ap (relisted_to xs) (sym one)) ∙ may.implicit in
      let first : t.number ≡ 0 = ap (λ (x : Task). x.number) (same ∙ ap (relisted_to xs) (sym one)) ∙ may.first in
      let found_now : region_of middle t.region ≡ Some r = before.regions t.region ∙ found in
      record {
        region = q;
        live = found_q;
        joined = (ended j v current).0 here;
        encountering = (stay.alike_regions t.region r q found found_q).encountering ∙ met r im first found_now from;
      }
    where
      join_free : (n region : Rid) → event.Join n ≡ event.FreeRegion region → ⊥
      join_free n region h = cc

      met : (r : Region) → t.implicit ≡ true → t.number ≡ 0 → region_of middle t.region ≡ Some r
          → IsGoingOn middle t k → r.encountering ≡ Some k
      met r im first found (inl from) =
          sym (first_scheduled s middle (members_known p events s reached) before j t r is.live im first found) ∙ from
      met r im first found (inr (r0, found0, im0, first0, from)) =
          ap (λ (x : Region). x.encountering) (some_same found found0) ∙ from

  front_freed : (k : Tid) (t : Task) (free : Option Freeable) → IsFreeing middle i e m.item k free
      → Front next k (record t { frees = free })
  front_freed k t free (inl (j, u, is, over, from, inl (of, free_is))) n number h =
      let same : Some (freeable.Joined u.region 0) ≡ Some (freeable.Joined n number) = sym free_is ∙ h in
      let region : u.region ≡ n = cc in
      subst (λ (a : Rid). IsJoinedOf next a k) region (joined_now j u is of k from)
  front_freed k t free (inl (j, u, is, over, from, inr free_is)) n number h =
      absurd (let same : Some (freeable.Finished j) ≡ Some (freeable.Joined n number) = sym free_is ∙ h in cc)
  front_freed k t free (inr (freeable.Finished a, task, item_is, of, name, (o, free_is))) n number h = absurd (none o (sym free_is ∙ h))
    where
      none : (o : Option Tid) → option_map freeable.Finished o ≡ Some (freeable.Joined n number) → ⊥
      none None same = none_some refl same
      none (Some a) same = cc
  front_freed k t free (inr (freeable.Joined a b, task, item_is, of, name, free_is)) n number h =
      let same : Some (freeable.Joined a (b + 1)) ≡ Some (freeable.Joined n number) = sym free_is ∙ h in
      let region : a ≡ n = cc in
      let current : (s.threads i).current ≡ Some k = sym (before.currents i) ∙ name in
      let (v, live, un) = (open_names p events s reached).currents i k current in
      let front = front_here k v (record { name = current; live = live }) (freeable.Joined a b) item_is in
      joined_left n k (subst (λ (c : Rid). IsJoinedOf s c k) region (all.front k v a b live front))
      (λ freed is_free. absurd (frees_task freed task of is_free))

  front_next : EachTask (Front next) next
  front_next = task_step_from p (Front s) (Front next) s i e next m
      (λ k t is taken q n number h. absurd (none_some refl h))
      (λ k t ne live q n number h. let is = q n number h in joined_left n k is (other_spared n k is ne)) law
      (λ k t live n number. all.front k t n number live)
    where
      law : EachTask (Front next) middle → IsTaskLaw p middle i e m.item next (Front next)
      law of_tasks = record {
        frees = λ k t free how q. front_freed k t free how;
        shows = λ k t x q. q;
        tools = λ k t x q. q;
        groups = λ k t count is how q. q;
        sets = λ k t icv value v f at_set q. q;
        begins = λ k t waits mine by q. q;
        finishes = λ k t is over q. q;
        starts = λ k u j t x is live ex de may of by q. q;
        members = λ region team f k t r is found may new of by j d at n number h. absurd (none_some refl h);
        deferred = λ task f final seen k t is of fresh n number h. absurd (none_some refl h);
        made = λ task f final k t is of fresh by n number h. absurd (none_some refl h);
      }

  -- ---- regions that are being given back

  -- the thread that made such a region runs the task that encountered it
  on_creator : (n : Rid) (r : Region) (k : Tid) (number : ℕ) → IsBeingFreed s n r k number
      → (s.threads i).current ≡ Some k → n.0.creator ≡ i
  on_creator n r k number freed name =
      let live = freed.current.live in
      sym (current_begun p events s reached n.0.creator k freed.task freed.current.name live).1
      ∙ (current_begun p events s reached i k freed.task name live).1

  -- a member's task that is gone stays gone
  still_gone : (n : Rid) (r : Region) → region_of s n ≡ Some r → (j : ℕ) (d : Tid × ℕ) → slice_get r.team j ≡ Some d
      → task_of s d.0 ≡ None → task_of next d.0 ≡ None
  still_gone n r found j d at none = go (task_of next d.0) refl
    where
      go : (o : Option Task) → task_of next d.0 ≡ o → task_of next d.0 ≡ None
      go None is = is
      go (Some v) is =
          let made = (names_made p events s reached n r found).team j d at in
          let (t, was) = (tasks_kept p s i e next step).back d.0.0 v made is in
          absurd (none_some none was)

  member_left : (n : Rid) (j : ℕ) (d : Tid × ℕ) → IsMemberTask s n j d → SparesTask e d.0 → IsMemberTask next n j d
  member_left n j d is not =
      let (v, found) = task_stays p s i e next step d.0 is.task is.live not in
      member_alike s next stay n j d is v found

  -- a member is given back by the task that encountered its region
  member_spared : (n : Rid) (k : Tid) → IsJoinedOf s n k → ((s.threads i).current ≡ Some k → ⊥) → (j : ℕ) (d : Tid × ℕ)
      → IsMemberTask s n j d → SparesTask e d.0
  member_spared n k has ne j d is task of same =
      go (task_rule s i task m.item (subst (λ (x : Event). Rule s i x m.item) of m.rule))
    where
      here : task_of s task ≡ Some is.task
      here = ap (task_of s) (sym same) ∙ is.live

      go : ((a : Tid) × (m.item ≡ item.Frees (freeable.Finished a)) × OfCurrent s i (λ k t. MayFree s task a))
          ⊎ ((a : Rid) × (number : ℕ) × (m.item ≡ item.Frees (freeable.Joined a number)) × OfCurrent s i (λ k t. MayFreeMember s task a number))
          → ⊥
      go (inl (a, item_is, (k0, t0, is0, may))) =
          false_true (sym may.explicit ∙ (ap (λ (x : Task). x.implicit) (some_same may.spent.live here) ∙ is.implicit))
      go (inr (a, number, item_is, (k0, t0, is0, may))) =
          let region : a ≡ n =
          sym may.mine ∙ (ap (λ (x : Task). x.region) (some_same may.spent.live here) ∙ is.region) in
          let front = front_here k0 t0 is0 (freeable.Joined a number) item_is in
          let by = subst (λ (c : Rid). IsJoinedOf s c k0) region (all.front k0 t0 a number is0.live front) in
          let one : by.region ≡ has.region = some_same by.live has.live in
          let same_task : k0 ≡ k =
          some_same by.encountering (ap (λ (r : Region). r.encountering) one ∙ has.encountering) in
          ne (is0.name ∙ ap (λ (c : Tid). Some c) same_task)

  -- another thread leaves such a region as it is
  not_mine : (n : Rid) (r q : Region) (k : Tid) (number : ℕ) → region_of s n ≡ Some r → q.team ≡ r.team
      → IsBeingFreed s n r k number → IsJoinedOf s n k → n.0.creator ≢ i → IsBeingFreed next n q k number
  not_mine n r q k number found team freed has ne =
      let runs = current_begun p events s reached n.0.creator k freed.task freed.current.name freed.current.live in
      let (v, found_v, same) = stay.tasks k freed.task freed.current.live (needed_begun s k freed.task runs.0) in
      record {
        task = v;
        current = record { name = current_kept p s i e next step n.0.creator ne ∙ freed.current.name; live = found_v };
        next = front_stays p events s reached i e next step k freed.task freed.current.live (λ h. ne (sym runs.1 ∙ h)) v found_v
            ∙ freed.next;
        few = subst (λ (xs : List (Tid × ℕ)). number ≤ length xs) (sym team) freed.few;
        gone = λ j d at less. still_gone n r found j d (at_old j d at) (freed.gone j d (at_old j d at) less);
        there = λ j d at more.
            let is = freed.there j d (at_old j d at) more in
            member_left n j d is (member_spared n k has (λ name. ne (on_creator n r k number freed name)) j d is);
      }
    where
      at_old : (j : ℕ) (d : Tid × ℕ) → slice_get q.team j ≡ Some d → slice_get r.team j ≡ Some d
      at_old j d at = ap (λ (xs : List (Tid × ℕ)). slice_get xs j) (sym team) ∙ at

  -- the rule of the event where this may be given back
  member_rule : (n : Rid) (number : ℕ) (task : Tid) → e ≡ event.FreeTask task
      → m.item ≡ item.Frees (freeable.Joined n number) → MayFreeMember s task n number
  member_rule n number task of item_is =
      let (k, t, is, may) =
      subst (λ (y : Item). Rule s i (event.FreeTask task) y) item_is (subst (λ (x : Event). Rule s i x m.item) of m.rule) in
      may

  abbrev zs : List Item
  zs = stays (encounter s i) e m.item m.behind

  -- the next member's task is given back
  member_freed : (n : Rid) (r q : Region) (k : Tid) (number : ℕ) (task : Tid) → region_of s n ≡ Some r → q.team ≡ r.team
      → IsBeingFreed s n r k number → n.0.creator ≡ i → e ≡ event.FreeTask task
      → m.item ≡ item.Frees (freeable.Joined n number) → IsBeingFreed next n q k (number + 1)
  member_freed n r q k number task found team freed creator of item_is =
      let runs = current_begun p events s reached n.0.creator k freed.task freed.current.name freed.current.live in
      let (v, found_v, alike) = stay.tasks k freed.task freed.current.live (needed_begun s k freed.task runs.0) in
      let (x, was, is) =
      map_some (λ (u : Task). record u { frees = more }) (named (gone middle.tasks task.0) k.0) v
      (sym (on_same (gone middle.tasks task.0) k.0 (λ (u : Task). record u { frees = more })) ∙ (ap (λ (u : State). task_of u k) same ∙ found_v)) in
      record {
        task = v;
        current = record {
          name = subst (λ c. (next.threads c).current ≡ Some k) (sym creator)
              (subst (λ (u : State). (u.threads i).current ≡ Some k) same (before.currents i ∙ current.name));
          live = found_v;
        };
        next = ap (λ (u : Task). u.frees) is;
        few = omega (arith, subst (λ (xs : List (Tid × ℕ)). number < length xs) (sym team) known);
        gone = λ j d at less. gone_next j d (at_old j d at) (cases_eq j number) less;
        there = λ j d at less. there_next j d (at_old j d at) (freed.there j d (at_old j d at) (omega (arith, less))) less;
      }
    where
      more : Option Freeable
      more = Some (freeable.Joined n (number + 1))

      may : MayFreeMember s task n number
      may = member_rule n number task of item_is

      current : IsCurrent s i k freed.task
      current = subst (λ c. IsCurrent s c k freed.task) creator freed.current

      same : freeing_rules.freed middle task more k (relisted zs freed.task) ≡ next
      same =
          some_same
          (at_current middle i k (relisted zs freed.task) (freeing_rules.freed middle task more) (current_after s i zs k freed.task current))
          (subst (λ (y : Item). effect p middle i (event.FreeTask task) y ≡ Some next) item_is
          (subst (λ (x : Event). effect p middle i x m.item ≡ Some next) of m.effect_is))

      one : may.region ≡ r
      one = some_same may.ended.live found

      known : number < length r.team
      known = subst (λ (x : Region). number < length x.team) one may.known

      at_old : (j : ℕ) (d : Tid × ℕ) → slice_get q.team j ≡ Some d → slice_get r.team j ≡ Some d
      at_old j d at = ap (λ (xs : List (Tid × ℕ)). slice_get xs j) (sym team) ∙ at

      at_number : slice_get r.team number ≡ Some (task, may.old.thread)
      at_number =
          let (r0, found0, at) = (members_known p events s reached).tasks task may.old may.spent.live may.implicit in
          let here : r0 ≡ r = some_same found0 (ap (region_of s) may.mine ∙ found) in
          subst (λ j. slice_get r.team j ≡ Some (task, may.old.thread)) may.number_is
          (subst (λ (x : Region). slice_get x.team may.old.number ≡ Some (task, may.old.thread)) here at)

      gone_now : (o : Option Task) → task_of next task ≡ o → task_of next task ≡ None
      gone_now None is = is
      gone_now (Some v) is =
          absurd
          (task_gone middle task more k (relisted zs freed.task) v (ap (λ (u : State). task_of u task) same ∙ is))

      gone_next : (j : ℕ) (d : Tid × ℕ) → slice_get r.team j ≡ Some d → (j ≡ number) ⊎ (j ≢ number) → j < number + 1
          → task_of next d.0 ≡ None
      gone_next j d at (inl is) less =
          let here : d.0 ≡ task =
          ap (λ (x : Tid × ℕ). x.0) (some_same (ap (slice_get r.team) (sym is) ∙ at) at_number) in
          ap (task_of next) here ∙ gone_now (task_of next task) refl
      gone_next j d at (inr ne) less =
          still_gone n r found j d at (freed.gone j d at (omega (arith, ne, less)))

      there_next : (j : ℕ) (d : Tid × ℕ) → slice_get r.team j ≡ Some d → IsMemberTask s n j d → number + 1 ≤ j
          → IsMemberTask next n j d
      there_next j d at is less = member_left n j d is (λ other of_other same_name. not other of_other same_name)
        where
          not : (other : Tid) → e ≡ event.FreeTask other → d.0 ≡ other → ⊥
          not other of_other same_name =
              let frees : event.FreeTask other ≡ event.FreeTask task = sym of_other ∙ of in
              let task_is : other ≡ task = cc in
              let old : may.old ≡ is.task =
              some_same may.spent.live (ap (task_of s) (sym (same_name ∙ task_is)) ∙ is.live) in
              let here : number ≡ j = sym may.number_is ∙ (ap (λ (x : Task). x.number) old ∙ is.number) in
              omega (arith, here, less)

  -- the region is given back
  not_freed : (n : Rid) (number : ℕ) (region : Rid) (q : Region) → e ≡ event.FreeRegion region
      → m.item ≡ item.Frees (freeable.Joined n number) → region_of next n ≡ Some q → ⊥
  not_freed n number region q of item_is found =
      let (a, b, is, (k, t, current, may)) =
      region_rule s i region m.item (subst (λ (x : Event). Rule s i x m.item) of m.rule) in
      let both : item.Frees (freeable.Joined a b) ≡ item.Frees (freeable.Joined n number) = sym is ∙ item_is in
      let here : a ≡ n = cc in
      region_gone p middle i region m.item next (subst (λ (x : Event). Rule middle i x m.item) of m.rule_moved)
      (subst (λ (x : Event). effect p middle i x m.item ≡ Some next) of m.effect_is) q
      (ap (region_of next) (may.same ∙ here) ∙ found)

  -- ---- a region that is joined now

  record Joins (n : Rid) : Type 0 where
    pub name : Tid
    pub task : Task
    pub current : IsCurrent s i name task
    pub mine : task.region ≡ n
    pub by : e ≡ event.Join n
    pub implicit : task.implicit ≡ true
    pub first : task.number ≡ 0

  joins_here : (n : Rid) (r q : Region) → region_of s n ≡ Some r → region_of next n ≡ Some q → r.joined ≡ false
      → q.joined ≡ true → Joins n
  joins_here n r q found found_q open_before joined_after = of_event e m.item m.rule refl (region_ended p s i e next m n r q found found_q)
    where
      unjoined : q.joined ≡ r.joined → ⊥
      unjoined same = false_true (sym open_before ∙ (sym same ∙ joined_after))

      of_event : (g : Event) (y : Item) → Rule s i g y → e ≡ g → EndsBy s i g n r q → Joins n
      of_event (event.ImplicitEnd task) y (k, t, r0, is, found0, may) of end = absurd (unjoined (end k t is).2)
      of_event (event.Join region) y (k, t, r0, is, found0, may) of end = go (same_or_not t.region.0 n.0)
        where
          go : (t.region.0 ≡ n.0) ⊎ (t.region.0 ≡ n.0 → ⊥) → Joins n
          go (inl same) =
              let at : t.region ≡ n = ap (λ (a : Id). record { 0 = a }) same in
              record {
                name = k;
                task = t;
                current = is;
                mine = at;
                by = of ∙ ap (λ (a : Rid). event.Join a) (may.mine ∙ at);
                implicit = may.implicit;
                first = may.first;
              }
          go (inr other) = absurd (unjoined ((end k t is).1 (λ h. other (ap (λ (a : Rid). a.0) h))))
      of_event g y rule of end = absurd (unjoined end.1)

  freed_first : (n : Rid) (r q : Region) → region_of s n ≡ Some r → region_of next n ≡ Some q → r.joined ≡ false
      → Joins n → q.team ≡ r.team → q.encountering ≡ r.encountering
      → (k : Tid) × (number : ℕ) × (q.encountering ≡ Some k) × IsBeingFreed next n q k number
  freed_first n r q found found_q unjoined is team encountering = (k, 0, encountering ∙ met, freed)
    where
      known : AreMembersKnown s
      known = members_known p events s reached

      found_here : region_of s is.task.region ≡ Some r
      found_here = ap (region_of s) is.mine ∙ found

      runs : (is.task.progress ≡ Begun) × (is.task.thread ≡ i)
      runs = current_begun p events s reached i is.name is.task is.current.name is.current.live

      creator : n.0.creator ≡ i
      creator =
          let (r0, found0, at) = known.tasks is.name is.task is.current.live is.implicit in
          let one : r0 ≡ r = some_same found0 found_here in
          let at0 : slice_get r.team 0 ≡ Some (is.name, is.task.thread) =
          subst (λ j. slice_get r.team j ≡ Some (is.name, is.task.thread)) is.first
          (subst (λ (x : Region). slice_get x.team is.task.number ≡ Some (is.name, is.task.thread)) one at) in
          sym (((are_made p events s reached).named n r found).first (is.name, is.task.thread) at0) ∙ runs.1

      has_met : (k : Tid) × (r.encountering ≡ Some k)
      has_met =
          some_of r.encountering
          (encountered p events s reached i e next step is.name is.task r is.current is.implicit found_here n is.by)

      k : Tid
      k = has_met.0

      met : r.encountering ≡ Some k
      met = has_met.1

      below : (u : Task) × (task_of s k ≡ Some u) × (u.progress ≡ Begun)
      below =
          scheduling_begun p events s reached is.name is.task is.current.live runs.0 k
          ((known.encountered is.name is.task is.current.live).scheduling is.implicit r found_here
          ∙ (ap (λ b. if b then r.encountering else None) (eq-eqb is.task.number 0 is.first) ∙ met))

      same : joined middle i is.name (relisted zs is.task) r ≡ next
      same =
          some_same
          (at_region middle i is.name (relisted zs is.task) r (joined middle i)
          (current_after s i zs is.name is.task is.current) (before.regions is.task.region ∙ found_here))
          (subst (λ (x : Event). effect p middle i x m.item ≡ Some next) is.by m.effect_is)

      freed : IsBeingFreed next n q k 0
      freed =
          let (v, found_v, alike) = stay.tasks k below.0 below.1 (needed_begun s k below.0 below.2) in
          let name : (next.threads i).current ≡ Some k =
          subst (λ (u : State). (u.threads i).current ≡ Some k) same
          (ap (λ (h : Thread). h.current) (put_same middle.threads i (record (middle.threads i) { current = r.encountering })) ∙ met) in
          let front : v.frees ≡ Some (freeable.Joined is.task.region 0) =
          freeing_front _ (Some (freeable.Joined is.task.region 0)) r.encountering k v met
          (ap (λ (u : State). task_of u k) same ∙ found_v) in
          record {
            task = v;
            current = record { name = subst (λ c. (next.threads c).current ≡ Some k) (sym creator) name; live = found_v };
            next = front ∙ ap (λ (a : Rid). Some (freeable.Joined a 0)) is.mine;
            few = omega arith;
            gone = λ j d at less. absurd (omega (arith, less));
            there = λ j d at more.
                let at_old : slice_get r.team j ≡ Some d = ap (λ (xs : List (Tid × ℕ)). slice_get xs j) (sym team) ∙ at in
                member_stays s next stay n j d r found unjoined
                (((open_names p events s reached).regions n r found).team unjoined j d at_old);
          }

  -- ---- the next state

  joined_next : (n : Rid) (q : Region) → region_of next n ≡ Some q → q.joined ≡ true
      → (k : Tid) × (number : ℕ) × (q.encountering ≡ Some k) × IsBeingFreed next n q k number
  joined_next n q found_q joined_q =
      let (r, found) = was_there p s i e next step n q found_q joined_q in
      let alike = stay.alike_regions n r q found found_q in
      go r found alike.team alike.encountering r.joined refl
    where
      mine : (r : Region) (k : Tid) (number : ℕ) → region_of s n ≡ Some r → q.team ≡ r.team → n.0.creator ≡ i
          → q.encountering ≡ Some k → IsBeingFreed s n r k number → (g : Event) → e ≡ g → is_free g ≡ true
          → m.item ≡ item.Frees (freeable.Joined n number)
          → (a : Tid) × (b : ℕ) × (q.encountering ≡ Some a) × IsBeingFreed next n q a b
      mine r k number found team creator met freed (event.FreeTask task) of free item_is =
          (k, number + 1, met, member_freed n r q k number task found team freed creator of item_is)
      mine r k number found team creator met freed (event.FreeRegion region) of free item_is =
          absurd (not_freed n number region q of item_is found_q)
      mine r k number found team creator met freed g of free item_is = absurd (false_true free)

      go : (r : Region) → region_of s n ≡ Some r → q.team ≡ r.team → q.encountering ≡ r.encountering → (b : Bool)
          → r.joined ≡ b → (k : Tid) × (number : ℕ) × (q.encountering ≡ Some k) × IsBeingFreed next n q k number
      go r found team encountering false is =
          freed_first n r q found found_q is (joins_here n r q found found_q is joined_q) team encountering
      go r found team encountering true is =
          let (k, number, met, freed) = all.joined n r found is in
          by_thread k number (encountering ∙ met) freed
          (record { region = r; live = found; joined = is; encountering = met }) (cases_eq n.0.creator i)
        where
          by_thread : (k : Tid) (number : ℕ) → q.encountering ≡ Some k → IsBeingFreed s n r k number → IsJoinedOf s n k
              → (n.0.creator ≡ i) ⊎ (n.0.creator ≢ i)
              → (a : Tid) × (b : ℕ) × (q.encountering ≡ Some a) × IsBeingFreed next n q a b
          by_thread k number met freed has (inr ne) =
              (k, number, met, not_mine n r q k number found team freed has ne)
          by_thread k number met freed has (inl creator) =
              let current = subst (λ c. IsCurrent s c k freed.task) creator freed.current in
              let (free, item_is) =
              front_item p events s reached i e next step k freed.task current n number freed.next in
              mine r k number found team creator met freed e refl free item_is

  pub freed_step : AreRegionsFreed next
  freed_step = record { joined = joined_next; front = λ k t n number live. front_next k t live n number }

pub regions_freed : (p : Program) (events : List (ℕ × Event)) (s : State) → Reached p events s → AreRegionsFreed s
regions_freed p events s reached =
    over_reached p AreRegionsFreed
    (λ first u first_reached i e next step h. freed_step p first u first_reached i e next step h) []
    (opening p) refl events s reached
    (record {
      joined = each_first_region p
          (λ n r. r.joined ≡ true → (k : Tid) × (number : ℕ) × (r.encountering ≡ Some k) × IsBeingFreed (opening p) n r k number)
          (λ joined. absurd (false_true joined));
      front = λ k t n number live. each_first_task p (Front (opening p)) (λ a b h. absurd (none_some refl h)) k t live n number;
    })
