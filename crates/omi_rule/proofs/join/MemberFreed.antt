-- Behind a join the thread gives the task of the next member back.
use Rattle.std.proofs.Common.{◌≡◌, ◌<◌, ◌+◌, ℕ, Bool, true, false, List, [], ◌∷◌, ◌++◌, length, Option, Some, inl, refl, sym, ap, ◌∙◌, subst, arith, if◌then◌else◌, nat_lt, ltb-true}
use Rattle.std.proofs.lemmas.Bool.Decides.{nat_tests}
use Rattle.omi_word.specs.declared.op.Op.TheVariants as op
use Rattle.omi_script.specs.declared.program.Program.{Program}
use Rattle.omi_model.specs.declared.event.Event.{Event}
use Rattle.omi_model.specs.declared.event.Event.TheVariants as event
use Rattle.omi_model.specs.declared.freeable.Freeable.{Freeable}
use Rattle.omi_model.specs.declared.freeable.Freeable.TheVariants as freeable
use Rattle.omi_model.specs.declared.id.Rid.{Rid}
use Rattle.omi_model.specs.declared.id.Tid.{Tid}
use Rattle.omi_model.specs.declared.item.Item.TheVariants as item
use Rattle.omi_model.specs.declared.progress.Progress.TheVariants.{Begun}
use Rattle.omi_model.specs.declared.region.Region.{Region}
use Rattle.omi_model.specs.declared.task.Task.{Task}
use Rattle.omi_model.specs.Freeing.{MayFreeMember, freed}
use Rattle.omi_model.specs.Put.{gone}
use Rattle.omi_model.specs.Reached.{Step}
use Rattle.omi_model.specs.Rules.{Rule}
use Rattle.omi_model.specs.State.{State, region_of, task_of}
use Rattle.omi_model.proofs.MembersKnown.{members_known}
use Rattle.omi_model.proofs.NamesLive.{names_live}
use Rattle.omi_model.proofs.Slots.{gone_other, some_same}
use Rattle.omi_model.proofs.StaysKept.{stays_step}
use Rattle.omi_model.proofs.Steps.{at_current, relisted, rule_moved}
use Rattle.omi_layout.specs.declared.field.Field.TheVariants.{TaskLife}
use Rattle.omi_layout.specs.Memory.{Memory}
use Rattle.omi_layout.specs.Named.{number}
use Rattle.omi_layout.proofs.Numbers.{numbered_field}
use Rattle.omi_pc.specs.declared.actor.Actor.{Actor}
use Rattle.omi_pc.specs.declared.counter.Counter.{Counter}
use Rattle.omi_pc.specs.declared.counter.Counter.TheVariants as counter
use Rattle.omi_pc.specs.declared.place.Place.{Place}
use Rattle.omi_pc.specs.declared.team_counter.JoinCounter.{JoinCounter}
use Rattle.omi_pc.specs.declared.team_counter.JoinCounter.TheVariants as join
use Rattle.omi_pc.specs.Fits.{IsJoined, FitsCounter}
use Rattle.omi_rep.specs.declared.outcome.Outcome.TheVariants as outcome
use Rattle.omi_rule_words.specs.FreeKinds.{IsOwedNothing, with_task_emptied, AreImplicitUndeferred}
use Rattle.omi_rule_words.specs.Owes.{all_owed, owed}
use Rattle.omi_rule_words.specs.Words.{KeepsWords}
use Rattle.omi_rule_words.proofs.MemberFrees.{member_frees_keep}
use Rattle.omi_rule_words.proofs.Moves.{moves_keep}
use Rattle.omi_rule_words.proofs.Undeferred.{members_undeferred, undeferred_stay}
use Rattle.omi_rule_words.specs.Counts.{is_at}
use Rattle.omi_step_words.specs.Placed.{HasRegion, HasTask, IsPlacedCounter}
use Rattle.omi_step_words.specs.Words.{of_task, unused_word}
use Rattle.omi_fork.specs.JoinSteps.{join_moved, join_next, join_outcome}
use Rattle.omi_rule.specs.Chains.{KeepsContext, IsFront}
use Rattle.omi_rule.specs.Rows.{IsGivenBack, IsMemberOf, KeepsRow}
use Rattle.omi_rule.specs.Steps.{KeepsRule, RecordWord, StepKeeps}
use Rattle.omi_rule.proofs.Assembly.{Before, plain_event_keeps, same_name, spares_task}
use Rattle.omi_rule.proofs.GivesBack.{current, current_middle, gives, goes_back, in_middle, middle, middle_tasks, middle_words, mine, none_waits}
use Rattle.omi_rule.proofs.OwedInside.{pending_open, raised_begun, referred_begun}
use Rattle.omi_rule.proofs.RelistedState.{within_relisted}
use Rattle.omi_rule.proofs.barrier.AtCounter.{ahead_is, at_counter, fits_counter, front_is, here, owes_now, sees, placed_counter, row_is, wide}
use Rattle.omi_rule.proofs.join.BodiesUnder.{LeavesUnder, freeing_later, task_kept}
use Rattle.omi_rule.proofs.join.NextMember.{may_free, next, next_there}
use Rattle.omi_rule.proofs.RowsStay.{at_place}
use Rattle.omi_rule.specs.Ahead.{IsAhead}
use Rattle.omi_rule.proofs.WaitingFronts.{freeing_front}

module _ (p : Program) (w : List ℕ) (m : Memory) (events : List (ℕ × Event)) (s : State) (actors : ℕ → Actor)
    (i : ℕ) (before : Before p w m events s actors i) (r : Rid) (size member : ℕ) (t : Tid)
    (at : (actors i).counter ≡ counter.Join (join.FreeTask r size member t)) where
  abbrev a : Actor
  a = actors i

  abbrev standing : Counter
  standing = counter.Join (join.FreeTask r size member t)

  given : IsGivenBack s r size (IsMemberOf member (λ k. k ≡ t))
  given = row_is p w m events s actors i before standing at tt

  fits : IsJoined p a r size × (member < size) × (t.0.creator ≡ a.thread)
  fits = fits_counter p w m events s actors i before standing at tt

  placed : HasRegion w r × HasTask w t
  placed = placed_counter p w m events s actors i before standing at tt

  front : (mine p w m events s actors i before standing at tt).frees ≡ Some (freeable.Joined r member)
  front = front_is p w m events s actors i before standing at tt

  abbrev here_now : KeepsContext s i (actors i).context
  here_now = here p w m events s actors i before standing at tt

  abbrev k : Tid
  k = a.context.task

  abbrev own_task : Task
  own_task = mine p w m events s actors i before standing at tt

  -- ---- the event

  may : MayFreeMember s t r member
  may = go given
    where
      go : IsGivenBack s r size (IsMemberOf member (λ k. k ≡ t)) → MayFreeMember s t r member
      go (region, found, joined, same, (x, of_team, is)) =
          let less = fits.1 in
          let below : member < length region.team = omega (arith, same, less) in
          let one : next p w m events s actors i before standing at tt r member front region found below ≡ x =
          some_same (next_there p w m events s actors i before standing at tt r member front region found below) of_team in
          subst (λ (n : Tid). MayFreeMember s n r member) (ap (λ (y : Tid × ℕ). y.0) one ∙ is)
          (may_free p w m events s actors i before standing at tt r member front region found below)

  abbrev old : Task
  old = may.old

  -- a task that has begun is not the one that is given back
  begun_apart : (n : Tid) (x : Task) → task_of s n ≡ Some x → x.progress ≡ Begun → n ≡ t → ⊥
  begun_apart n x live begun same =
      let one : x ≡ old = some_same live (ap (task_of s) same ∙ may.spent.live) in
      let over : x.progress ≡ old.progress = ap (λ (y : Task). y.progress) one in
      cc (sym begun, over, may.spent.over)

  abbrev between : State
  between = middle p w m events s actors i before standing at tt

  abbrev behind : Option Freeable
  behind = Some (freeable.Joined r (member + 1))

  abbrev listed_task : Task
  listed_task = relisted own_task.list own_task

  abbrev u : State
  u = freed between t behind k listed_task

  rule : Rule s i (event.FreeTask t) (item.Frees (freeable.Joined r member))
  rule = (k, own_task, current p w m events s actors i before standing at tt, may)

  step : Step p s i (event.FreeTask t) u
  step =
      gives p w m events s actors i before standing at tt (freeable.Joined r member) front (event.FreeTask t) u refl refl rule
      (at_current between i k listed_task (freed between t behind) (current_middle p w m events s actors i before standing at tt))

  -- ---- words

  abbrev n : Memory
  n = with_task_emptied m t

  may_between : MayFreeMember between t r member
  may_between =
      let (x, v, is, o) =
      in_middle p w m events s actors i before standing at tt (λ (z : State). Rule z i (event.FreeTask t) (item.Frees (freeable.Joined r member)))
      (rule_moved s i (event.FreeTask t) (item.Frees (freeable.Joined r member)) own_task.list rule) in o

  -- the task is an implicit one of a joined region: no thread is at work in it, or in the region
  unowed : IsOwedNothing between (all_owed actors) t
  unowed = record {
    raised = λ j known is.
        let (x, live, begun) = raised_begun p w m events s actors before.rule j known t is in begun_apart t x live begun refl;
    referred = λ j known is.
        let (x, live, begun) = referred_begun p w m events s actors before.rule j known t is in begun_apart t x live begun refl;
    returned = λ j q known is. other_place j q known is (is_at t q) refl;
  }
    where
      other_place : (j : ℕ) (q : Place) → j < s.count → (all_owed actors j).returned ≡ Some q
          → (b : Bool) → is_at t q ≡ b → is_at t q ≡ false
      other_place j q known is false e = e
      other_place j q known is true e =
          let (x, at_q, there) = (before.rule.words.made j known).objects.returned q is in
          let (v, live, inside) = there in
          let here = at_place t q e in
          let that = at_place x q at_q in
          let (one, same) = same_name s t x old v may.spent.live live (that.0 ∙ sym here.0) (that.1 ∙ sym here.1) in
          let (region, found, unjoined) = pending_open p w m events s actors before.rule j known v.region inside in
          let of_r : v.region ≡ r = ap (λ (y : Task). y.region) same ∙ may.mine in
          let whole : region ≡ may.region = some_same found (ap (region_of s) of_r ∙ may.ended.live) in
          absurd (cc (ap (λ (y : Region). y.joined) whole, unjoined, may.ended.joined))

  words : KeepsWords w n u (all_owed actors)
  words =
      member_frees_keep w m between (all_owed actors) t r member behind k listed_task
      (middle_words p w m events s actors i before standing at tt)
      (within_relisted s k own_task.list w before.rule.within)
      (in_middle p w m events s actors i before standing at tt AreImplicitUndeferred
      (undeferred_stay s i own_task.list (members_undeferred s (names_live p events s before.rule.reached) (members_known p events s before.rule.reached))))
      may_between unowed

  -- ---- the thread

  leaves : LeavesUnder s u t
  leaves = record {
    environment = refl;
    others = λ x other v live.
        let (free, there) = middle_tasks p w m events s actors i before standing at tt x v live in
        freeing_later (gone between.tasks t.0) behind (Some k) x (record v { frees = free })
        (gone_other between.tasks t.0 x.0 (record v { frees = free }) other there);
    regions = λ x v live q found. (q, found, refl, refl, refl);
  }

  abbrev on_life : RecordWord
  on_life = record { creator = t.0.creator; slot = t.0.slot; field = TaskLife; place = 0 }

  abbrev Goes : JoinCounter → Type 0
  Goes y =
      KeepsRule p w m events s actors i (op.Store (of_task w t TaskLife) (unused_word t.0)) on_life
      (at_counter (counter.Join y) a, outcome.Event (event.FreeTask t))

  -- the current task has the same list, and the next record in front of it
  now : (x : Task) → task_of u k ≡ Some x → (x.list ≡ own_task.list) × (x.frees ≡ behind)
  now x live =
      let (free, there) =
      task_kept p s u i t leaves a.context (begun_apart k own_task here_now.live here_now.begun) own_task here_now.live in (
        ap (λ (y : Task). y.list) (some_same live there),
        freeing_front behind (gone between.tasks t.0) (Some k) k refl x live,
      )

  goes : (y : JoinCounter) → FitsCounter p (at_counter (counter.Join y) a) (counter.Join y)
      → IsPlacedCounter w (at_counter (counter.Join y) a) (counter.Join y)
      → IsAhead p (sees p w m events s actors i before standing at tt) a.stack (counter.Join y) own_task.list
      → IsFront (counter.Join y) behind → KeepsRow p w n u i (at_counter (counter.Join y) a) (counter.Join y)
      → owed (at_counter (counter.Join y) a) ≡ owed a → Goes y
  goes y fit place ahead first row owes =
      plain_event_keeps p w m events s actors i before (op.Store (of_task w t TaskLife) (unused_word t.0)) on_life
      (at_counter (counter.Join y) a, outcome.Event (event.FreeTask t)) (event.FreeTask t) u
      (λ none. none) refl step (unused_word t.0, refl)
      (none_waits p w m events s actors i before standing at tt (freeable.Joined r member) front (event.FreeTask t) u refl step)
      (moves_keep w n u actors i (at_counter (counter.Join y) a) words owes)
      (λ j other.
      spares_task m s t old TaskLife 0 (unused_word t.0) j (actors j) may.spent.live (inl (λ same. omega (arith, same)))
      (λ g of field deferred known is. cc (sym deferred, may.spent.over)))
      (goes_back p w m events s actors i before standing at tt u t leaves (λ c o same. begun_apart c.task o.task o.live o.begun same) refl
      (stays_step p s i (event.FreeTask t) u step) n (events ++ (i, event.FreeTask t) ∷ []) (counter.Join y)
      (λ x live. ((now x live).0, subst (IsFront (counter.Join y)) (sym (now x live).1) first)) fit place ahead row tt)

  still_given : IsGivenBack u r size (λ team. Unit {0})
  still_given = let (region, found, joined, same, known) = given in (region, found, joined, same, tt)

  next_goes : (b : Bool) → nat_lt (member + 1) size ≡ b
      → Goes (if b then join.LoadMember r size (member + 1) else join.FreeRegion r size)
  next_goes true e =
      goes (join.LoadMember r size (member + 1)) (fits.0, ltb-true (member + 1) size e) placed.0
      (ahead_is p w m events s actors i before standing at tt) refl still_given (sym (owes_now p w m events s actors i before standing at tt))
  next_goes false e =
      let last : member + 1 ≡ size = (let less = fits.1 in grind (arith, nat_tests, less, e)) in
      goes (join.FreeRegion r size) fits.0 placed.0
      (ahead_is p w m events s actors i before standing at tt) (ap (λ (j : ℕ). Some (freeable.Joined r j)) last) still_given
      (sym (owes_now p w m events s actors i before standing at tt))

  pub free_task_keeps : StepKeeps p w m events s actors i (join_next w (actors i) (join.FreeTask r size member t))
      (λ old. (join_moved p w (actors i) (join.FreeTask r size member t) old, join_outcome w (actors i) (join.FreeTask r size member t) old))
  free_task_keeps = (
    on_life,
    record { there = record { field = numbered_field TaskLife; record_slot = placed.1; within = wide p w m events s actors i before standing at tt (number TaskLife) }; address = refl },
    next_goes (nat_lt (member + 1) size) refl,
  )
