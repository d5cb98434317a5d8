-- An event that gives back what stands in front of the current task's list: the event is legal, and the bodies that are open stay.
use Rattle.std.proofs.Common.{◌≡◌, ◌⊎◌, ℕ, inl, inr, Bool, true, List, Option, Some, None, sym, ap, ◌∙◌, subst, if◌then◌else◌}
use Rattle.std.specs.Option.{option_and_then, option_map}
use Rattle.omi_script.specs.declared.program.Program.{Program}
use Rattle.omi_model.specs.declared.encounter.Encounter.{Encounter}
use Rattle.omi_model.specs.declared.event.Event.{Event}
use Rattle.omi_model.specs.declared.freeable.Freeable.{Freeable}
use Rattle.omi_model.specs.declared.id.Id.{Id}
use Rattle.omi_model.specs.declared.id.Tid.{Tid}
use Rattle.omi_model.specs.declared.item.Item.{Item}
use Rattle.omi_model.specs.declared.item.Item.TheVariants as item
use Rattle.omi_model.specs.declared.task.Task.{Task}
use Rattle.omi_model.specs.Changes.{IsCurrent, encounter, in_front, on_task, with_list}
use Rattle.omi_model.specs.LawStays.{Stays}
use Rattle.omi_model.specs.Lists.{fits, may_drop, stays, take_item}
use Rattle.omi_model.specs.Put.{named, on}
use Rattle.omi_model.specs.Reached.{Step}
use Rattle.omi_model.specs.Rules.{Rule, effect, moved, taken_by}
use Rattle.omi_model.specs.State.{State, task_of}
use Rattle.omi_model.proofs.EachObject.{ahead_of_current}
use Rattle.omi_model.proofs.Slots.{on_other, on_same, same_or_not, some_same}
use Rattle.omi_model.proofs.Steps.{current_moved, relisted}
use Rattle.omi_layout.specs.Memory.{Memory}
use Rattle.omi_pc.specs.declared.actor.Actor.{Actor}
use Rattle.omi_pc.specs.declared.context.Context.{Context}
use Rattle.omi_pc.specs.declared.counter.Counter.{Counter}
use Rattle.omi_pc.specs.Fits.{FitsCounter}
use Rattle.omi_rule_words.specs.Owes.{all_owed}
use Rattle.omi_rule_words.specs.Words.{KeepsWords}
use Rattle.omi_rule_words.proofs.ListMoves.{list_moves_keep}
use Rattle.omi_step_words.specs.Placed.{IsPlacedCounter}
use Rattle.omi_rule.specs.Ahead.{IsAhead}
use Rattle.omi_rule.specs.Chains.{IsFront, KeepsContext, StandsWith}
use Rattle.omi_rule.specs.Rows.{KeepsRow}
use Rattle.omi_rule.specs.Rule.{HasEnded, KeepsThread, AreNewMembers}
use Rattle.omi_rule.proofs.Assembly.{Before}
use Rattle.omi_rule.proofs.OwnTask.{is_current, list_moved}
use Rattle.omi_rule.proofs.Runs.{stack_runs}
use Rattle.omi_rule.proofs.barrier.AtCounter.{IsOfMember, at_counter, body, here, own, sees, stands}
use Rattle.omi_rule.proofs.join.BodiesUnder.{LeavesUnder, encounter_kept, below_apart, under_kept}
use Rattle.omi_rule.proofs.NewMembers.{waiting_step}

module _ (p : Program) (w : List ℕ) (m : Memory) (events : List (ℕ × Event)) (s : State) (actors : ℕ → Actor)
    (i : ℕ) (before : Before p w m events s actors i) (x : Counter) (at : (actors i).counter ≡ x) (of_member : IsOfMember x) where
  abbrev a : Actor
  a = actors i

  abbrev pub mine : Task
  mine = (here p w m events s actors i before x at of_member).task

  abbrev At : Encounter
  At = sees p w m events s actors i before x at of_member

  pub current : IsCurrent s i (actors i).context.task mine
  current = is_current p s i a (stands p w m events s actors i before x at of_member)

  -- the state in which nothing stands in front of the list
  abbrev pub middle : State
  middle = on_task s (actors i).context.task (relisted mine.list)

  same_middle : with_list s i mine.list ≡ middle
  same_middle = list_moved p s i a (stands p w m events s actors i before x at of_member) mine.list

  pub current_middle : IsCurrent middle i (actors i).context.task (relisted mine.list mine)
  current_middle = current_moved s i a.context.task current.name mine.list a.context.task mine current

  -- what holds of the state in which a list has moved on
  pub in_middle : (P : State → Type 0) → P (with_list s i mine.list) → P middle
  in_middle P is = subst P same_middle is

  pub middle_words : KeepsWords w m middle (all_owed actors)
  middle_words =
      in_middle (λ (z : State). KeepsWords w m z (all_owed actors))
      (list_moves_keep w m s (all_owed actors) i mine.list before.rule.words before.known)

  -- the tasks are as they were, but for what stands in front of their lists
  pub middle_tasks : (n : Tid) (t : Task) → task_of s n ≡ Some t
      → (free : Option Freeable) × (task_of middle n ≡ Some (record t { frees = free }))
  middle_tasks n t live = go (same_or_not n.0 a.context.task.0)
    where
      go : (n.0 ≡ a.context.task.0) ⊎ (n.0 ≡ a.context.task.0 → ⊥)
          → (free : Option Freeable) × (task_of middle n ≡ Some (record t { frees = free }))
      go (inl same) =
          let there : task_of s a.context.task ≡ Some t = subst (λ (k : Id). named s.tasks k ≡ Some t) same live in
          let one : t ≡ mine = some_same there current.live in (
            None,
            ap (λ (k : Id). named (on s.tasks a.context.task.0 (relisted mine.list)) k) same
                ∙ on_same s.tasks a.context.task.0 (relisted mine.list) ∙ ap (option_map (relisted mine.list)) there
                ∙ ap (λ (v : Task). Some (record t { frees = None; list = v.list })) (sym one),
          )
      go (inr apart) = (t.frees, on_other s.tasks a.context.task.0 (relisted mine.list) n.0 apart ∙ live)

  -- ---- the event

  module _ (f : Freeable) (front : mine.frees ≡ Some f) where
    taken : (e : Event) → fits e (item.Frees f) ≡ true → taken_by p s i e ≡ Some (item.Frees f, mine.list)
    taken e fit =
        ap (take_item p (encounter s i) e)
        (ahead_of_current s i a.context.task mine current ∙ ap (λ (o : Option Freeable). in_front o mine.list) front)
        ∙ ap (λ (b : Bool). if b then Some (item.Frees f, mine.list) else (if may_drop (item.Frees f) then take_item p (encounter s i) e mine.list else None)) fit

    pub gives : (e : Event) (u : State) → fits e (item.Frees f) ≡ true
        → stays (encounter s i) e (item.Frees f) mine.list ≡ mine.list → Rule s i e (item.Frees f)
        → effect p middle i e (item.Frees f) ≡ Some u → Step p s i e u
    gives e u fit stay rule is = record {
      legal = record { known = before.known; item = item.Frees f; behind = mine.list; taken = taken e fit; rule = rule };
      after_is =
          ap (option_and_then (moved p s i e)) (taken e fit)
          ∙ ap (λ (xs : List Item). effect p (with_list s i xs) i e (item.Frees f)) stay
          ∙ ap (λ (z : State). effect p z i e (item.Frees f)) same_middle
          ∙ is;
    }

    -- it makes no member
    pub none_waits : (e : Event) (u : State) → fits e (item.Frees f) ≡ true → Step p s i e u → AreNewMembers p u
    none_waits e u fit step =
        waiting_step p s i e u step
        (λ y is g fork.
        let first : item.Frees f ≡ y.0 = ap (λ (q : Item × List Item). q.0) (some_same (taken e fit) is) in
        let same : item.Frees f ≡ item.Fork g = first ∙ fork in absurd (cc same))
        before.rule.waiting

  -- ---- the thread behind it

  module _ (u : State) (k : Tid) (leaves : LeavesUnder s u k)
      (apart : (c : Context) → KeepsContext s i c → c.task ≡ k → ⊥)
      (same : (u.threads i).current ≡ (s.threads i).current) (stay : Stays s u) (n : Memory) (later : List (ℕ × Event))
      (y : Counter) where
    pub goes_back : ((t : Task) → task_of u (actors i).context.task ≡ Some t → (t.list ≡ mine.list) × IsFront y t.frees)
        → FitsCounter p (at_counter y (actors i)) y → IsPlacedCounter w (at_counter y (actors i)) y
        → IsAhead p At (actors i).stack y mine.list → KeepsRow p w n u i (at_counter y (actors i)) y
        → HasEnded later i y → KeepsThread p w n later u i (at_counter y (actors i))
    goes_back lists fit placed ahead row ended =
        let o = own p w m events s actors i before x at of_member in
        let (f, fs, is, task) = body p w m events s actors i before x at of_member in
        let top = here p w m events s actors i before x at of_member in
        record {
          thread = o.thread;
          fits = record { thread = o.fits.thread; variables = o.fits.variables; bodies = o.fits.bodies; counter = fit };
          placed = record { bodies = o.placed.bodies; counter = placed };
          stands = subst (StandsWith p u i (at_counter y a)) (sym is) (record {
            current = same ∙ task.current;
            bodies = under_kept p s u i k leaves a.context a.stack (apart a.context top) (below_apart p s i k apart a.context a.stack task.bodies) task.bodies;
            ahead = λ t live.
                subst (λ (e : Encounter). IsAhead p e a.stack y t.list) (sym (encounter_kept p s u i k leaves a.context (apart a.context top) top))
                (subst (λ (xs : List Item). IsAhead p At a.stack y xs) (sym (lists t live).0) ahead);
            front = λ t live. (lists t live).1;
          });
          runs = stack_runs p s u i stay a o.stands o.runs;
          row = row;
          ended = ended;
        }
