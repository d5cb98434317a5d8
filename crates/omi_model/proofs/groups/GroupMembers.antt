-- Members of groups over every event: an unfinished task is a member of an open group, and no other task comes to a group but by its owner and its members.
use Rattle.std.proofs.Common.{◌≡◌, ◌<◌, ◌≤◌, ◌-◌, ◌⊎◌, inl, inr, ℕ, suc, true, false, List, [], ◌∷◌, ◌++◌, Option, Some, None, refl, sym, ap, ◌∙◌, subst, arith}
use Rattle.omi_numbers.specs.declared.limits.TheConstants.{OPEN_GROUPS}
use Rattle.omi_script.specs.declared.program.Program.{Program}
use Rattle.omi_model.specs.declared.event.Event.{Event}
use Rattle.omi_model.specs.declared.event.Event.TheVariants as event
use Rattle.omi_model.specs.declared.group.Group.{Group}
use Rattle.omi_model.specs.declared.id.Id.{Id}
use Rattle.omi_model.specs.declared.id.Tid.{Tid}
use Rattle.omi_model.specs.declared.item.Item.{Item}
use Rattle.omi_model.specs.declared.item.Item.TheVariants as item
use Rattle.omi_model.specs.declared.progress.Progress.{Progress}
use Rattle.omi_model.specs.declared.progress.Progress.TheVariants.{Begun, Deferred, Finished, NotBegun}
use Rattle.omi_model.specs.declared.task.Task.{Task}
use Rattle.omi_model.specs.Changes.{IsCurrent, ahead_of, encounter}
use Rattle.omi_model.specs.Groups.{AreMembersFinished, MayEndGroup, group_within}
use Rattle.omi_model.specs.LawStays.{Stays}
use Rattle.omi_model.specs.Lists.{fits}
use Rattle.omi_model.specs.Opening.{opening}
use Rattle.omi_model.specs.Reached.{Reached, Step}
use Rattle.omi_model.specs.Rules.{Rule}
use Rattle.omi_model.specs.State.{State, task_of}
use Rattle.omi_model.proofs.ChainsKept.{current_begun}
use Rattle.omi_model.proofs.EachObject.{ChangesGroups, EachTask, IsTaskLaw, law_of_lasting, task_step, task_step_from}
use Rattle.omi_model.proofs.freeing.SlotNames.{task_named}
use Rattle.omi_model.proofs.GeneratingChains.{explicit_on, generated_on, have_line, was}
use Rattle.omi_model.proofs.Innermost.{innermost_cases, innermost_own}
use Rattle.omi_model.proofs.groups.GroupLists.{count_behind, count_same, is_group, other_event}
use Rattle.omi_model.proofs.groups.OpenCounts.{before, m, middle, own_count, same_count}
use Rattle.omi_model.proofs.ListLaws.{take_fits}
use Rattle.omi_model.proofs.OpeningObjects.{each_first_task}
use Rattle.omi_model.proofs.ReachedStates.{leads_on, over_reached}
use Rattle.omi_model.proofs.Slots.{false_true, found_live, none_some, same_or_not, some_same}
use Rattle.omi_model.proofs.StaysKept.{needed_begun, needed_generating, stays_step}
use Rattle.omi_model.proofs.Steps.{IsMove, IsRelisted}

-- ---- how many, and which

-- at most `OPEN_GROUPS`, and only where the task may run
abbrev FewGroups : Tid → Task → Type 0
FewGroups k t = t.open_groups ≤ OPEN_GROUPS

abbrev IsWaiting : Progress → Type 0
IsWaiting q = (q ≡ Deferred) ⊎ (q ≡ NotBegun)

abbrev NoneWaiting : Tid → Task → Type 0
NoneWaiting k t = IsWaiting t.progress → t.open_groups ≡ 0

abbrev LowIndex : Tid → Task → Type 0
LowIndex k t = (g : Group) → t.group ≡ Some g → g.index < OPEN_GROUPS

begun_waits_not : (q : Progress) → q ≡ Begun → IsWaiting q → ⊥
begun_waits_not q a (inl b) = cc
begun_waits_not q a (inr b) = cc

finished_waits_not : IsWaiting Finished → ⊥
finished_waits_not (inl b) = cc
finished_waits_not (inr b) = cc

begun_not_finished : (q : Progress) → q ≡ Begun → q ≡ Finished → ⊥
begun_not_finished q a b = cc

waits_not_finished : (q : Progress) → q ≡ NotBegun → q ≡ Finished → ⊥
waits_not_finished q a b = cc

deferred_not_finished : (q : Progress) → q ≡ Deferred → q ≡ Finished → ⊥
deferred_not_finished q a b = cc

begun_itself : IsWaiting Begun → ⊥
begun_itself waits = begun_waits_not Begun refl waits

few_behind : (s : State) (e : Event) (k : Tid) (t : Task) (n : ℕ) → ChangesGroups s e k t n → t.open_groups ≤ OPEN_GROUPS
    → n ≤ OPEN_GROUPS
few_behind s e k t n (inl (is, may, to)) few = omega (arith, may, to)
few_behind s e k t n (inr (is, may, to)) few = omega (arith, few, to)

pub record AreFew (s : State) : Type 0 where
  pub few : EachTask FewGroups s
  pub waiting : EachTask NoneWaiting s
  pub index : EachTask LowIndex s

module _ (p : Program) (events : List (ℕ × Event)) (s : State) (reached : Reached p events s) (i : ℕ)
    (e : Event) (next : State) (step : Step p s i e next) (all : AreFew s) where
  few_step : EachTask FewGroups next
  few_step = task_step p FewGroups s i e next step (λ k t y ys is taken q. q) law all.few
    where
      law : (middle : State) (y : Item) → IsRelisted s middle → Stays middle next → EachTask FewGroups middle
          → IsTaskLaw p middle i e y next FewGroups
      law middle y before later of_tasks = record {
        frees = λ k t free how q. q;
        shows = λ k t x q. q;
        tools = λ k t x q. q;
        groups = λ k t count is how q. few_behind middle e k t count how q;
        sets = λ k t icv value v f at_set q. q;
        begins = λ k t waits mine by q. q;
        finishes = λ k t is over q. q;
        starts = λ k u j t x is live ex de may of by q. q;
        members = λ region team f k t r is found may new of by j a at. omega arith;
        deferred = λ task f final seen k t is of fresh. omega arith;
        made = λ task f final k t is of fresh by. omega arith;
      }

  -- the current task has begun
  runs : (middle : State) → IsRelisted s middle → (k : Tid) (t : Task) → IsCurrent middle i k t → t.progress ≡ Begun
  runs middle before k t is =
      let (v, xs, cur, same) = was p events s reached i e next step middle before k t is in
      ap (λ (x : Task). x.progress) same ∙ (current_begun p events s reached i k v cur.name cur.live).0

  waiting_step : EachTask NoneWaiting next
  waiting_step = task_step p NoneWaiting s i e next step (λ k t y ys is taken q. q) law all.waiting
    where
      law : (middle : State) (y : Item) → IsRelisted s middle → Stays middle next → EachTask NoneWaiting middle
          → IsTaskLaw p middle i e y next NoneWaiting
      law middle y before later of_tasks = record {
        frees = λ k t free how q. q;
        shows = λ k t x q. q;
        tools = λ k t x q. q;
        groups = λ k t count is how q waits. absurd (begun_waits_not t.progress (runs middle before k t is) waits);
        sets = λ k t icv value v f at_set q. q;
        begins = λ k t waits mine by q waits_on. absurd (begun_itself waits_on);
        finishes = λ k t is over q waits. absurd (finished_waits_not waits);
        starts = λ k u j t x is live ex de may of by q waits. absurd (begun_itself waits);
        members = λ region team f k t r is found may new of by j a at waits. refl;
        deferred = λ task f final seen k t is of fresh waits. refl;
        made = λ task f final k t is of fresh by waits. refl;
      }

  index_step : EachTask LowIndex next
  index_step = task_step p LowIndex s i e next step (λ k t y ys is taken q. q) law all.index
    where
      within : (middle : State) → IsRelisted s middle → EachTask LowIndex middle → (k : Tid) (t : Task)
          → IsCurrent middle i k t → (g : Group) → group_within k t ≡ Some g → g.index < OPEN_GROUPS
      within middle before of_tasks k t is g has = go (innermost_cases t.group k t.open_groups g has)
        where
          go : (t.group ≡ Some g) ⊎ ((g.owner ≡ k) × (suc g.index ≡ t.open_groups)) → g.index < OPEN_GROUPS
          go (inl own) = of_tasks k t is.live g own
          go (inr (owner, more)) =
              let (v, xs, found, same) = before.tasks k t is.live in
              let few = all.few k v found in
              let count : t.open_groups ≡ v.open_groups = ap (λ (x : Task). x.open_groups) same in
              omega (arith, few, count, more)

      law : (middle : State) (y : Item) → IsRelisted s middle → Stays middle next → EachTask LowIndex middle
          → IsTaskLaw p middle i e y next LowIndex
      law middle y before later of_tasks = law_of_lasting p middle i e y next LowIndex (record {
        starts = λ k u j t x is live ex de may of by q. q;
        members = λ region team f k t r is found may new of by j a at g none. absurd (none_some refl none);
        deferred = λ task f final seen k t is of fresh g has. within middle before of_tasks k t is g has;
        made = λ task f final k t is of fresh by g has. within middle before of_tasks k t is g has;
      })

pub are_few : (p : Program) (events : List (ℕ × Event)) (s : State) → Reached p events s → AreFew s
are_few p events s reached =
    over_reached p AreFew
    (λ first u first_reached i e next step h. record {
      few = few_step p first u first_reached i e next step h;
      waiting = waiting_step p first u first_reached i e next step h;
      index = index_step p first u first_reached i e next step h;
    }) []
    (opening p) refl events s reached
    (record {
      few = each_first_task p FewGroups (omega arith);
      waiting = each_first_task p NoneWaiting (λ waits. refl);
      index = each_first_task p LowIndex (λ g none. absurd (none_some refl none));
    })

-- ---- the group of an unfinished task is open

abbrev pub HasOpenGroup : State → Tid → Task → Type 0
HasOpenGroup s k t =
    (g : Group) → t.group ≡ Some g → (t.progress ≡ Finished → ⊥)
    → (o : Task) × (task_of s g.owner ≡ Some o) × (g.index < o.open_groups)

-- where a group ends, an unfinished task is of another one, which stays open
stays_open : (s : State) (k : Tid) (t : Task) → MayEndGroup s k t → (c j : ℕ) (u : Task) → (s.tasks c j).live ≡ Some u
    → u.implicit ≡ false → (u.progress ≡ Finished → ⊥) → (g : Group) → u.group ≡ Some g → g.owner ≡ k
    → g.index < t.open_groups → g.index < t.open_groups - 1
stays_open s k t may c j u live ex unfinished g member own below =
    let (owner, more) = innermost_own k t may.group may.innermost_is in
    go (λ same. unfinished (may.finished c j u live ex (member ∙ ap (λ (x : Group). Some x) (same_group g may.group (own ∙ sym owner) same)))) more
  where
    same_group : (a b : Group) → a.owner ≡ b.owner → a.index ≡ b.index → a ≡ b
    same_group a b x y =
        ap (λ (k : Tid). record { owner = k; index = a.index }) x
        ∙ ap (λ (n : ℕ). record { owner = b.owner; index = n }) y

    go : (g.index ≡ may.group.index → ⊥) → suc may.group.index ≡ t.open_groups → g.index < t.open_groups - 1
    go apart more = omega (arith, below, more, apart)

module _ (p : Program) (events : List (ℕ × Event)) (s : State) (reached : Reached p events s) (i : ℕ)
    (e : Event) (next : State) (step : Step p s i e next) where
  stay : Stays s next
  stay = stays_step p s i e next step

  abbrev move : IsMove p s i e next
  move = m p s i e next step

  item_fits : fits e move.item ≡ true
  item_fits = take_fits p (encounter s i) e (ahead_of s i) move.item move.behind move.taken

  -- a task with a group is explicit
  has_group_explicit : (k : Tid) (t : Task) → task_of s k ≡ Some t → (g : Group) → t.group ≡ Some g → t.implicit ≡ false
  has_group_explicit k t live g member =
      let (gs, chain, owners) = have_line p events s reached k t live in
      explicit_on s t.implicit t.region t.generating gs chain g.owner (owners g member)

  -- an owner keeps the groups of unfinished tasks open
  kept_open : (k : Tid) (t : Task) → task_of s k ≡ Some t → (t.progress ≡ Finished → ⊥) → (g : Group)
      → t.group ≡ Some g → (o : Task) → task_of s g.owner ≡ Some o → g.index < o.open_groups
      → (w : Task) × (task_of next g.owner ≡ Some w) × (g.index < w.open_groups)
  kept_open k t live runs g member o found below =
      let (gs, chain, owners) = have_line p events s reached k t live in
      let (c, v, found_c, by) = generated_on s k t live gs chain g.owner (owners g member) in
      let (w, later, same) = stay.tasks g.owner o found (needed_generating s c v found_c g.owner o by) in
      (w, later, go (s.threads i).current refl w later)
    where
      behind_count : (f : Event) (x : Item) → Rule s i f x → IsCurrent s i g.owner o
          → g.index < count_behind f o.open_groups
      behind_count event.GroupBegin x rule is = omega (arith, below)
      behind_count event.GroupEnd x (j, u, is_u, may) is =
          let own : g.owner ≡ j = some_same is.name is_u.name in
          let one : o ≡ u = some_same is.live (ap (task_of s) own ∙ is_u.live) in
          let count : o.open_groups ≡ u.open_groups = ap (λ (y : Task). y.open_groups) one in
          let open_here : g.index < u.open_groups = omega (arith, below, count) in
          let less = stays_open s j u may k.0.creator k.0.slot t (found_live k.0.generation (s.tasks k.0.creator k.0.slot) t live)
          (has_group_explicit k t live g member) runs g member own open_here in
          omega (arith, less, count)
      behind_count f x rule is = below

      by_owner : (s.threads i).current ≡ Some g.owner → (w : Task) → task_of next g.owner ≡ Some w
          → g.index < w.open_groups
      by_owner name w later =
          let is : IsCurrent s i g.owner o = record { name = name; live = found } in
          let less = behind_count e move.item move.rule is in
          let count : w.open_groups ≡ count_behind e o.open_groups = own_count p s i e next step g.owner o is w later in
          omega (arith, less, count)

      by_other : ((s.threads i).current ≡ Some g.owner → ⊥) → (w : Task) → task_of next g.owner ≡ Some w
          → g.index < w.open_groups
      by_other apart w later =
          let count : w.open_groups ≡ o.open_groups =
          same_count p s i e next step g.owner w later (λ name group. apart name) o found in
          omega (arith, below, count)

      go : (c : Option Tid) → (s.threads i).current ≡ c → (w : Task) → task_of next g.owner ≡ Some w
          → g.index < w.open_groups
      go None none = by_other (λ name. none_some none name)
      go (Some c) name = by_name (same_or_not c.0 g.owner.0)
        where
          by_name : (c.0 ≡ g.owner.0) ⊎ (c.0 ≡ g.owner.0 → ⊥) → (w : Task) → task_of next g.owner ≡ Some w
              → g.index < w.open_groups
          by_name (inl same) = by_owner (name ∙ ap (λ (a : Id). Some (record { 0 = a })) same)
          by_name (inr apart) = by_other (λ h. apart (ap (λ (a : Tid). a.0) (some_same name h)))

  -- the current task, as it was
  current_was : (between : State) → IsRelisted s between → (k : Tid) (t : Task) → IsCurrent between i k t
      → (v : Task) × IsCurrent s i k v × (v.progress ≡ Begun) × (t.group ≡ v.group) × (t.progress ≡ v.progress)
      × (t.open_groups ≡ v.open_groups)
  current_was between lists k t is =
      let (v, xs, cur, same) = was p events s reached i e next step between lists k t is in
      let begun = (current_begun p events s reached i k v cur.name cur.live).0 in
      (v, cur, begun, ap (λ (x : Task). x.group) same, ap (λ (x : Task). x.progress) same, ap (λ (x : Task). x.open_groups) same)

  open_step : EachTask (HasOpenGroup s) s → EachTask (HasOpenGroup next) next
  open_step all =
      task_step_from p (HasOpenGroup next) (HasOpenGroup next) s i e next move (λ k t is taken q. q)
      (λ k t apart live q. q) law
      (λ k t live g member runs. let (o, found, below) = all k t live g member runs in kept_open k t live runs g member o found below)
    where
      within : EachTask (HasOpenGroup next) (middle p s i e next step) → is_group e ≡ false → (k : Tid) (t : Task)
          → IsCurrent (middle p s i e next step) i k t → (g : Group) → group_within k t ≡ Some g
          → (o : Task) × (task_of next g.owner ≡ Some o) × (g.index < o.open_groups)
      within of_tasks other k t is g has = go (innermost_cases t.group k t.open_groups g has)
        where
          go : (t.group ≡ Some g) ⊎ ((g.owner ≡ k) × (suc g.index ≡ t.open_groups))
              → (o : Task) × (task_of next g.owner ≡ Some o) × (g.index < o.open_groups)
          go (inl own) =
              let (v, cur, begun, group, progress, count) = current_was (middle p s i e next step) (before p s i e next step) k t is in
              of_tasks k t is.live g own (begun_not_finished t.progress (progress ∙ begun))
          go (inr (owner, more)) =
              let (v, cur, begun, group, progress, count) = current_was (middle p s i e next step) (before p s i e next step) k t is in
              let (w, found, same) = stay.tasks k v cur.live (needed_begun s k v begun) in
              let now : w.open_groups ≡ v.open_groups =
              own_count p s i e next step k v cur w found ∙ count_same e v.open_groups other in
              (w, ap (task_of next) owner ∙ found, omega (arith, now, count, more))

      law : EachTask (HasOpenGroup next) (middle p s i e next step)
          → IsTaskLaw p (middle p s i e next step) i e move.item next (HasOpenGroup next)
      law of_tasks = record {
        frees = λ k t free how q. q;
        shows = λ k t x q. q;
        tools = λ k t x q. q;
        groups = λ k t count is how q. q;
        sets = λ k t icv value v f at_set q. q;
        begins = λ k t waits mine by q g member runs. q g member (waits_not_finished t.progress waits);
        finishes = λ k t is over q g member runs. absurd (runs refl);
        starts = λ k u j t x is live ex de may of by q g member runs. q g member (deferred_not_finished u.progress de);
        members = λ region team f k t r is found may new of by j a at g none. absurd (none_some refl none);
        deferred = λ task f final seen k t is of fresh g has runs. within of_tasks
            (other_event e (item.Defer seen f final) (subst (λ (y : Item). fits e y ≡ true) of item_fits) refl) k t is g has;
        made = λ task f final k t is of fresh by g has runs. within of_tasks (ap is_group by) k t is g has;
      }

  -- a group without an unfinished task gets none but by its owner
  finished_stay : (g : Group) → ((s.threads i).current ≡ Some g.owner → ⊥) → AreMembersFinished s g
      → AreMembersFinished next g
  finished_stay g apart finished c n u live =
      let after_reached = leads_on p (opening p) events s (i, e) next reached step in
      let (k, found) = task_named p (events ++ (i, e) ∷ []) next after_reached c n u live in
      over k u found
    where
      over : EachTask (λ k t. t.implicit ≡ false → t.group ≡ Some g → t.progress ≡ Finished) next
      over =
          task_step p (λ k t. t.implicit ≡ false → t.group ≡ Some g → t.progress ≡ Finished) s i e next step
          (λ k t y ys is taken q. q) law
          (λ k t found ex member. finished k.0.creator k.0.slot t (found_live k.0.generation (s.tasks k.0.creator k.0.slot) t found) ex member)
        where
          within : (between : State) → IsRelisted s between
              → EachTask (λ k t. t.implicit ≡ false → t.group ≡ Some g → t.progress ≡ Finished) between
              → (k : Tid) (t : Task) → IsCurrent between i k t → group_within k t ≡ Some g → ⊥
          within between lists of_tasks k t is has = go (innermost_cases t.group k t.open_groups g has)
            where
              go : (t.group ≡ Some g) ⊎ ((g.owner ≡ k) × (suc g.index ≡ t.open_groups)) → ⊥
              go (inr (owner, more)) =
                  let (v, cur, begun, group, progress, count) = current_was between lists k t is in
                  apart (cur.name ∙ ap (λ (x : Tid). Some x) (sym owner))
              go (inl own) =
                  let (v, cur, begun, group, progress, count) = current_was between lists k t is in
                  let member : v.group ≡ Some g = sym group ∙ own in
                  begun_not_finished v.progress begun
                  (finished k.0.creator k.0.slot v (found_live k.0.generation (s.tasks k.0.creator k.0.slot) v cur.live)
                  (has_group_explicit k v cur.live g member) member)

          law : (between : State) (y : Item) → IsRelisted s between → Stays between next
              → EachTask (λ k t. t.implicit ≡ false → t.group ≡ Some g → t.progress ≡ Finished) between
              → IsTaskLaw p between i e y next (λ k t. t.implicit ≡ false → t.group ≡ Some g → t.progress ≡ Finished)
          law between y lists later of_tasks = record {
            frees = λ k t free how q. q;
            shows = λ k t x q. q;
            tools = λ k t x q. q;
            groups = λ k t count is how q. q;
            sets = λ k t icv value v f at_set q. q;
            begins = λ k t waits mine by q ex member. absurd (waits_not_finished t.progress waits (q ex member));
            finishes = λ k t is over q ex member. refl;
            starts = λ k u j t x is live ex de may of by q ex' member. absurd (deferred_not_finished u.progress de (q ex' member));
            members = λ region team f k t r is found may new of by j a at ex. absurd (false_true (sym ex));
            deferred = λ task f final seen k t is of fresh ex has. absurd (within between lists of_tasks k t is has);
            made = λ task f final k t is of fresh by ex has. absurd (within between lists of_tasks k t is has);
          }

pub open_groups : (p : Program) (events : List (ℕ × Event)) (s : State) → Reached p events s
    → EachTask (HasOpenGroup s) s
open_groups p events s reached =
    over_reached p (λ u. EachTask (HasOpenGroup u) u)
    (λ first u first_reached i e next step h. open_step p first u first_reached i e next step h) []
    (opening p) refl events s reached
    (each_first_task p (HasOpenGroup (opening p)) (λ g none. absurd (none_some refl none)))

pub finished_groups_stay : (p : Program) (events : List (ℕ × Event)) (s : State) (i : ℕ) (e : Event) (next : State)
    → Reached p events s → Step p s i e next → (g : Group) → ((s.threads i).current ≡ Some g.owner → ⊥)
    → AreMembersFinished s g → AreMembersFinished next g
finished_groups_stay p events s i e next reached step = finished_stay p events s reached i e next step
