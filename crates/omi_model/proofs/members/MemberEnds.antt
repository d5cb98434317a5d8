-- A member has ended, or joined the others, exactly where its task is finished.
use Rattle.std.proofs.Common.{◌≡◌, ◌≢◌, ◌==◌, ◌<◌, ℕ, ◌⊎◌, inl, inr, Bool, true, false, List, [], length, get_or, replicate, slice_get, Option, Some, None, if◌then◌else◌, refl, sym, ap, ◌∙◌, subst, arith, eq-eqb, ne_eqb}
use Rattle.std.proofs.lemmas.List.{get_or-replicate, get_or-set_other, get_or-set_same}
use Rattle.std.proofs.lemmas.Option.{slice_get_within}
use Rattle.omi_script.specs.declared.program.Program.{Program}
use Rattle.omi_model.specs.declared.event.Event.{Event}
use Rattle.omi_model.specs.declared.event.Event.TheVariants as event
use Rattle.omi_model.specs.declared.freeable.Freeable.{Freeable}
use Rattle.omi_model.specs.declared.freeable.Freeable.TheVariants as freeable
use Rattle.omi_model.specs.declared.id.Rid.{Rid}
use Rattle.omi_model.specs.declared.id.Id.{Id}
use Rattle.omi_model.specs.declared.id.Tid.{Tid}
use Rattle.omi_model.specs.declared.item.Item.{Item}
use Rattle.omi_model.specs.declared.progress.Progress.{Progress}
use Rattle.omi_model.specs.declared.progress.Progress.TheVariants.{Begun, Deferred, Finished, NotBegun}
use Rattle.omi_model.specs.declared.region.Region.{Region}
use Rattle.omi_model.specs.declared.task.Task.{Task}
use Rattle.omi_model.specs.Changes.{IsCurrent, encounter, on_task}
use Rattle.omi_model.specs.Lists.{stays}
use Rattle.omi_model.specs.Opening.{initial_region, opening}
use Rattle.omi_model.specs.Reached.{Reached, Step}
use Rattle.omi_model.specs.Rules.{Rule, effect}
use Rattle.omi_model.specs.State.{State, region_of, task_of}
use Rattle.omi_model.specs.Freeing.{freeing}
use Rattle.omi_model.specs.Tasking.{finished}
use Rattle.omi_model.specs.Teams.{joined, task_ended}
use Rattle.omi_model.proofs.BarrierSteps.{current_after}
use Rattle.omi_model.proofs.EachObject.{EachTask, IsTaskLaw, is_end, task_step_from}
use Rattle.omi_model.proofs.members.EndSteps.{EndsBy, IsAsOpen, region_ended}
use Rattle.omi_model.proofs.MembersKnown.{members_known}
use Rattle.omi_model.proofs.OpenNames.{open_names}
use Rattle.omi_model.proofs.OpeningObjects.{each_first_task}
use Rattle.omi_model.proofs.ReachedStates.{over_reached}
use Rattle.omi_model.proofs.Slots.{false_true, map_some, none_some, on_same, same_or_not, some_same, each_on}
use Rattle.omi_model.proofs.Steps.{IsMove, IsRelisted, at_current, at_region, is_relisted, move_of, moved_on, relisted}
use Rattle.omi_model.specs.Put.{Slots, named, on}

-- the end of a member, or of member 0 the join
abbrev pub ended_of : Region → ℕ → Bool
ended_of r n = if n == 0 then r.joined else get_or r.ended n false

abbrev pub is_finished : Progress → Bool
is_finished Finished = true
is_finished progress = false

pub finished_is : (q : Progress) → is_finished q ≡ true → q ≡ Finished
finished_is Finished e = refl
finished_is Begun e = absurd (false_true e)
finished_is NotBegun e = absurd (false_true e)
finished_is Deferred e = absurd (false_true e)

unfinished : (b : Bool) → is_finished (if b then Begun else NotBegun) ≡ false
unfinished true = refl
unfinished false = refl

-- the end of an implicit task's member in its region
abbrev pub EndsAsFinished : State → Tid → Task → Type 0
EndsAsFinished s k t =
    t.implicit ≡ true → (r : Region) → region_of s t.region ≡ Some r → ended_of r t.number ≡ is_finished t.progress

-- the ends in two regions
ended_same : (r q : Region) (n : ℕ) → q.joined ≡ r.joined → get_or q.ended n false ≡ get_or r.ended n false
    → ended_of q n ≡ ended_of r n
ended_same r q n joined ended = go (n == 0)
  where
    go : (b : Bool)
        → (if b then q.joined else get_or q.ended n false) ≡ (if b then r.joined else get_or r.ended n false)
    go true = joined
    go false = ended

ended_other : (r q : Region) (n : ℕ) → n ≢ 0 → q.ended ≡ r.ended → ended_of q n ≡ ended_of r n
ended_other r q n ne ended =
    ap (λ b. if b then q.joined else get_or q.ended n false) (ne_eqb n 0 ne)
    ∙
    (ap (λ xs. get_or xs n false) ended ∙ sym (ap (λ b. if b then r.joined else get_or r.ended n false) (ne_eqb n 0 ne)))

module _ (p : Program) (events : List (ℕ × Event)) (s : State) (reached : Reached p events s) (i : ℕ)
    (e : Event) (next : State) (step : Step p s i e next) (all : EachTask (EndsAsFinished s) s) where
  abbrev m : IsMove p s i e next
  m = move_of p s i e next step

  abbrev middle : State
  middle = moved_on s i e m.item m.behind

  before : IsRelisted s middle
  before = is_relisted s i (stays (encounter s i) e m.item m.behind)

  -- the task finishes now
  abbrev IsOver : Tid → Type 0
  IsOver k = ((s.threads i).current ≡ Some k) × (is_end e ≡ true)

  record EndsNow (k : Tid) (t : Task) : Type 0 where
    pub over : IsOver k → t.implicit ≡ true → (q : Region) → region_of next t.region ≡ Some q
        → ended_of q t.number ≡ true
    pub still : (IsOver k → ⊥) → EndsAsFinished next k t

  -- the region in the state before
  was : (k : Tid) (t : Task) → task_of s k ≡ Some t → t.implicit ≡ true → (q : Region)
      → region_of next t.region ≡ Some q
      → (r : Region) × (region_of s t.region ≡ Some r) × EndsBy s i e t.region r q × (slice_get r.team t.number ≡ Some (k, t.thread))
  was k t live im q found_q =
      let known = members_known p events s reached in
      let (r, found, at) = known.tasks k t live im in
      (r, found, region_ended p s i e next m t.region r q found found_q, at)

  -- another member of the region has another number
  apart : (k0 : Tid) (t0 : Task) → IsCurrent s i k0 t0 → t0.implicit ≡ true
      → (k : Tid) (t : Task) (r : Region) → ((s.threads i).current ≡ Some k → ⊥)
      → region_of s t.region ≡ Some r → slice_get r.team t.number ≡ Some (k, t.thread) → t0.region ≡ t.region
      → t.number ≢ t0.number
  apart k0 t0 is0 im0 k t r ne found at region number =
      let (r0, found0, at0) = (members_known p events s reached).tasks k0 t0 is0.live im0 in
      let one : r0 ≡ r = some_same found0 (ap (region_of s) region ∙ found) in
      let same : k0 ≡ k =
      ap (λ (m : Tid × ℕ). m.0)
      (some_same at0 (ap (λ n. slice_get r0.team n) (sym number) ∙ (ap (λ (x : Region). slice_get x.team t.number) one ∙ at))) in
      ne (is0.name ∙ ap (λ (a : Tid). Some a) same)

  -- the current task ends
  own_over : (k : Tid) (t : Task) → IsCurrent s i k t → t.implicit ≡ true → (of : Event) (y : Item)
      → is_end of ≡ true → Rule s i of y → (r q : Region) → region_of s t.region ≡ Some r
      → t.number < length r.ended → EndsBy s i of t.region r q → ended_of q t.number ≡ true
  own_over k t is im (event.ImplicitEnd task) y over (k0, t0, r0, is0, found0, may) r q found within change =
      let same : t0 ≡ t = some_same is0.live (ap (task_of s) (some_same is0.name is.name) ∙ is.live) in
      let other : t.number ≢ 0 = λ z. may.other (ap (λ (x : Task). x.number) same ∙ z) in
      ap (λ b. if b then q.joined else get_or q.ended t.number false) (ne_eqb t.number 0 other)
      ∙
      (ap (λ xs. get_or xs t.number false) ((change k t is).0 refl) ∙ get_or-set_same r.ended t.number true false within)
  own_over k t is im (event.Join region) y over (k0, t0, r0, is0, found0, may) r q found within change =
      let same : t0 ≡ t = some_same is0.live (ap (task_of s) (some_same is0.name is.name) ∙ is.live) in
      let first : t.number ≡ 0 = ap (λ (x : Task). x.number) (sym same) ∙ may.first in
      ap (λ b. if b then q.joined else get_or q.ended t.number false) (eq-eqb t.number 0 first)
      ∙ (change k t is).0 refl
  own_over k t is im (event.Finish task) y over (k0, t0, is0, may) r q found within change =
      let same : t0 ≡ t = some_same is0.live (ap (task_of s) (some_same is0.name is.name) ∙ is.live) in
      absurd (false_true (sym may.explicit ∙ (ap (λ (x : Task). x.implicit) same ∙ im)))
  own_over k t is im of y over rule r q found within change = absurd (false_true over)

  -- an event that ends no task leaves each end
  open_same : (of : Event) → is_end of ≡ false → (n : Rid) (r q : Region) → EndsBy s i of n r q → IsAsOpen r q
  open_same (event.ImplicitEnd task) none n r q change = absurd (false_true (sym none))
  open_same (event.Join region) none n r q change = absurd (false_true (sym none))
  open_same of none n r q change = change

  -- the members that the event is not by
  other_same : (of : Event) (y : Item) → Rule s i of y → (k : Tid) (t : Task) (r q : Region)
      → ((s.threads i).current ≡ Some k → ⊥) → task_of s k ≡ Some t → region_of s t.region ≡ Some r
      → slice_get r.team t.number ≡ Some (k, t.thread) → EndsBy s i of t.region r q
      → ended_of q t.number ≡ ended_of r t.number
  other_same (event.ImplicitEnd task) y (k0, t0, r0, is0, found0, may) k t r q ne live found at change =
      go (same_or_not t0.region.0 t.region.0)
    where
      go : (t0.region.0 ≡ t.region.0) ⊎ (t0.region.0 ≡ t.region.0 → ⊥)
          → ended_of q t.number ≡ ended_of r t.number
      go (inl same) =
          let region : t0.region ≡ t.region = ap (λ (a : Id). record { 0 = a }) same in
          ended_same r q t.number (change k0 t0 is0).2
          (ap (λ xs. get_or xs t.number false) ((change k0 t0 is0).0 region) ∙ get_or-set_other r.ended t0.number t.number true false (apart k0 t0 is0 may.implicit k t r ne found at region))
      go (inr other) =
          ended_same r q t.number (change k0 t0 is0).2
          (ap (λ xs. get_or xs t.number false) ((change k0 t0 is0).1 (λ h. other (ap (λ (a : Rid). a.0) h))))
  other_same (event.Join region) y (k0, t0, r0, is0, found0, may) k t r q ne live found at change =
      go (same_or_not t0.region.0 t.region.0)
    where
      go : (t0.region.0 ≡ t.region.0) ⊎ (t0.region.0 ≡ t.region.0 → ⊥)
          → ended_of q t.number ≡ ended_of r t.number
      go (inl same) =
          let region : t0.region ≡ t.region = ap (λ (a : Id). record { 0 = a }) same in
          ended_other r q t.number
          (λ z. apart k0 t0 is0 may.implicit k t r ne found at region (z ∙ sym may.first))
          (change k0 t0 is0).2
      go (inr other) =
          ended_same r q t.number ((change k0 t0 is0).1 (λ h. other (ap (λ (a : Rid). a.0) h)))
          (ap (λ xs. get_or xs t.number false) (change k0 t0 is0).2)
  other_same of y rule k t r q ne live found at change =
      ended_same r q t.number change.1 (ap (λ xs. get_or xs t.number false) change.0)

  own_now : (k : Tid) (t : Task) → IsCurrent s i k t → EndsNow k t
  own_now k t is = record { over = over; still = λ not. still not (is_end e) refl }
    where
      over : IsOver k → t.implicit ≡ true → (q : Region) → region_of next t.region ≡ Some q
          → ended_of q t.number ≡ true
      over (name, ends) im q found_q =
          let (r, found, change, at) = was k t is.live im q found_q in
          let sizes = (members_known p events s reached).regions t.region r found in
          own_over k t is im e m.item ends m.rule r q found
          (omega (arith, slice_get_within r.team t.number (k, t.thread) at, sizes.ended)) change

      still : (IsOver k → ⊥) → (b : Bool) → is_end e ≡ b → EndsAsFinished next k t
      still not true ends = absurd (not (is.name, ends))
      still not false ends = λ im q found_q.
          let (r, found, change, at) = was k t is.live im q found_q in
          let same = open_same e ends t.region r q change in
          ended_same r q t.number same.1 (ap (λ xs. get_or xs t.number false) same.0)
          ∙ all k t is.live im r found

  other_now : (k : Tid) (t : Task) → ((s.threads i).current ≡ Some k → ⊥) → task_of s k ≡ Some t → EndsNow k t
  other_now k t ne live = record {
    over = λ (name, ends). absurd (ne name);
    still = λ not im q found_q.
        let (r, found, change, at) = was k t live im q found_q in
        other_same e m.item m.rule k t r q ne live found at change ∙ all k t live im r found;
  }

  ends_now : EachTask EndsNow next
  ends_now =
      task_step_from p (EndsAsFinished s) EndsNow s i e next m
      (λ k t is taken q. let h = own_now k t is in record { over = h.over; still = h.still })
      (λ k t ne live q. other_now k t ne live) law all
    where
      explicit : (k : Tid) (t : Task) → t.implicit ≡ false → EndsNow k t
      explicit k t ex = record { over = λ h im. absurd (false_true (sym ex ∙ im)); still = λ not im. absurd (false_true (sym ex ∙ im)) }

      waits : (t : Task) → t.progress ≡ NotBegun → is_finished t.progress ≡ false
      waits t w = ap is_finished w

      law : EachTask EndsNow middle → IsTaskLaw p middle i e m.item next EndsNow
      law of_tasks = record {
        frees = λ k t free how q. record { over = q.over; still = q.still };
        shows = λ k t x q. record { over = q.over; still = q.still };
        tools = λ k t x q. record { over = q.over; still = q.still };
        groups = λ k t count is how q. record { over = q.over; still = q.still };
        sets = λ k t icv value v f at_set q. record { over = q.over; still = q.still };
        begins = λ k t w mine by q. record { over = q.over; still = λ not im r found. q.still not im r found ∙ waits t w };
        finishes = λ k t is over q. record { over = q.over; still = λ not im r found. absurd (not (sym (before.currents i) ∙ is.name, over)) };
        starts = λ k u j t x is live ex de may of by q. explicit k _ ex;
        members = λ region team f k t r is found may new of by j n at. record {
          over = λ (name, ends). absurd (false_true (subst (λ (x : Event). is_end x ≡ true) by ends));
          still = λ not im q found_q. subst (λ (x : Region). ended_of x j ≡ is_finished (if j == 0 then Begun else NotBegun)) (some_same new found_q) (fresh (length team) j (slice_get_within team j n at) ∙ sym (unfinished (j == 0)));
        };
        deferred = λ task f final seen k t is of fresh. explicit task _ refl;
        made = λ task f final k t is of fresh by. explicit task _ refl;
      }
        where
          fresh : (len j : ℕ) → j < len
              → (if j == 0 then false else get_or (replicate len false) j false) ≡ false
          fresh len j within = go (j == 0)
            where
              go : (b : Bool) → (if b then false else get_or (replicate len false) j false) ≡ false
              go true = refl
              go false = get_or-replicate len j false false within

  finished_here : (k : Tid) (t : Task) → task_of middle k ≡ Some t → (v : Task)
      → task_of (on_task middle k (λ u. record u { progress = Finished })) k ≡ Some v → v.progress ≡ Finished
  finished_here k t live v found =
      let (u, was', is) =
      map_some (λ (x : Task). record x { progress = Finished }) (task_of middle k) v
      (sym (on_same middle.tasks k.0 (λ (x : Task). record x { progress = Finished })) ∙ found) in
      ap (λ (x : Task). x.progress) is

  -- which task may be given back next leaves the progress of a task
  freeing_was : (slots : Slots Task) (x : Option Freeable) (o : Option Tid) (k : Tid) (v : Task)
      → named (freeing x o slots) k.0 ≡ Some v → (u : Task) × (named slots k.0 ≡ Some u) × (v.progress ≡ u.progress)
  freeing_was slots x None k v found = (v, found, refl)
  freeing_was slots x (Some n) k v found =
      each_on (λ m y. (u : Task) × (named slots m ≡ Some u) × (y.progress ≡ u.progress)) slots n.0
      (λ u. record u { frees = x }) (λ m y e. (y, e, refl)) (λ y e h. h) k.0 v found

  -- a task that ends is finished
  pub over_finished : (of : Event) (y : Item) → is_end of ≡ true → Rule middle i of y → (k : Tid) (t : Task)
      → IsCurrent middle i k t → effect p middle i of y ≡ Some next → (v : Task) → task_of next k ≡ Some v
      → v.progress ≡ Finished
  over_finished (event.ImplicitEnd task) y over rule k t is made v found =
      let same : task_ended middle i k t ≡ next =
      some_same (at_current middle i k t (task_ended middle i) is) made in
      finished_here k t is.live v (ap (λ (u : State). task_of u k) same ∙ found)
  over_finished (event.Join region) y over (k0, t0, r0, is0, found0, may) k t is made v found =
      let one : t0 ≡ t = some_same is0.live (ap (task_of middle) (some_same is0.name is.name) ∙ is.live) in
      let same : joined middle i k t r0 ≡ next =
      some_same
      (at_region middle i k t r0 (joined middle i) is (ap (λ (x : Task). region_of middle x.region) (sym one) ∙ found0)) made in
      let (u, found_u, alike) =
      freeing_was (on middle.tasks k.0 (λ (x : Task). record x { progress = Finished }))
      (Some (freeable.Joined t.region 0)) r0.encountering k v
      (ap (λ (u : State). task_of u k) same ∙ found) in
      alike ∙ finished_here k t is.live u found_u
  over_finished (event.Finish task) y over rule k t is made v found =
      let same : finished middle i k t ≡ next =
      some_same (at_current middle i k t (finished middle i) is) made in
      let (u, found_u, alike) =
      freeing_was (on middle.tasks k.0 (λ (x : Task). record x { progress = Finished })) (Some (freeable.Finished k)) t.scheduling k v
      (ap (λ (u : State). task_of u k) same ∙ found) in
      alike ∙ finished_here k t is.live u found_u
  over_finished of y over rule k t is made v found = absurd (false_true over)

  pub ends_step : EachTask (EndsAsFinished next) next
  ends_step k t live im q found = go (s.threads i).current refl (is_end e) refl
    where
      h : EndsNow k t
      h = ends_now k t live

      of_name : (n : Tid) → (s.threads i).current ≡ Some n → is_end e ≡ true → (n.0 ≡ k.0) ⊎ (n.0 ≡ k.0 → ⊥)
          → ended_of q t.number ≡ is_finished t.progress
      of_name n name over (inr other) =
          h.still (λ (name', over'). other (ap (λ (a : Tid). a.0) (some_same name name'))) im q found
      of_name n name over (inl same) =
          let current : (s.threads i).current ≡ Some k =
          name ∙ ap (λ (a : Id). Some (record { 0 = a })) same in
          let (v, live_v, un) = (open_names p events s reached).currents i k current in
          let is : IsCurrent middle i k (relisted (stays (encounter s i) e m.item m.behind) v) =
          current_after s i (stays (encounter s i) e m.item m.behind) k v
          (record { name = current; live = live_v }) in
          h.over (current, over) im q found
          ∙ sym (ap is_finished (over_finished e m.item over m.rule_moved k _ is m.effect_is t live))

      go : (o : Option Tid) → (s.threads i).current ≡ o → (b : Bool) → is_end e ≡ b
          → ended_of q t.number ≡ is_finished t.progress
      go None none b over = h.still (λ (name, over'). none_some none name) im q found
      go (Some n) name false over = h.still (λ (name', over'). false_true (sym over ∙ over')) im q found
      go (Some n) name true over = of_name n name over (same_or_not n.0 k.0)

pub ends_as_finished : (p : Program) (events : List (ℕ × Event)) (s : State) → Reached p events s
    → EachTask (EndsAsFinished s) s
ends_as_finished p events s reached =
    over_reached p (λ u. EachTask (EndsAsFinished u) u)
    (λ first u first_reached i e next step h. ends_step p first u first_reached i e next step h) []
    (opening p) refl events s reached
    (each_first_task p (EndsAsFinished (opening p)) (λ im r found. ap (λ (x : Region). x.joined) (sym (some_same {o = region_of (opening p) initial_region} refl found))))
