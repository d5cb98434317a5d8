-- The task of a member is given back.
use Rattle.std.proofs.Common.{◌≡◌, ◌≢◌, ◌==◌, ◌&&◌, ◌<◌, ℕ, Bool, true, false, not, inl, inr, List, Some, refl, sym, ap, ◌∙◌, arith, ne_eqb}
use Rattle.std.specs.Prelude.{◌⊎◌}
use Rattle.omi_model.specs.declared.id.Rid.{Rid}
use Rattle.omi_model.specs.declared.id.Tid.{Tid}
use Rattle.omi_model.specs.declared.task.Task.{Task}
use Rattle.omi_model.specs.Freeing.{MayFreeMember}
use Rattle.omi_model.specs.Put.{gone}
use Rattle.omi_model.specs.State.{State, task_of}
use Rattle.omi_model.proofs.Slots.{found_live, some_same}
use Rattle.omi_numbers.specs.declared.limits.TheConstants.{OWN_SLOTS}
use Rattle.omi_layout.specs.declared.field.Field.TheVariants.{TaskSlots}
use Rattle.omi_layout.specs.Field.{tasks}
use Rattle.omi_layout.specs.Memory.{Memory, Rec}
use Rattle.omi_layout.specs.Named.{number}
use Rattle.omi_rep.specs.Records.{slot_word}
use Rattle.omi_rep.specs.Shows.{IsWithin}
use Rattle.omi_rule_words.specs.Owes.{Owed}
use Rattle.omi_rule_words.specs.Counts.{is_explicit, is_some_task, one, sum_below}
use Rattle.omi_rule_words.specs.Objects.{IsDeferredIn}
use Rattle.omi_rule_words.specs.Threads.{Has}
use Rattle.omi_rule_words.specs.Words.{HasFinished, KeepsWords}
use Rattle.omi_rule_words.specs.FreeKinds.{AreImplicitUndeferred, IsOwedNothing, MemberFreesKeep, with_task_emptied}
use Rattle.omi_rule_words.proofs.GoneTasks.{OwesElse, on_others, owes_else, referred_in, slots_of, task_gone, tasks_recounted}
use Rattle.omi_rule_words.proofs.ListMoves.{task_list_keeps}
use Rattle.omi_rule_words.proofs.LiveTasks.{found_below, named_as}
use Rattle.omi_rule_words.proofs.OwedTasks.{OwesOnTasks, lowered_finished}
use Rattle.omi_rule_words.proofs.Sums.{sum_none_within}

module _ (w : List ℕ) (m : Memory) (s : State) (owes : ℕ → Owed) (task : Tid) (n : Rid) (member : ℕ)
    (keeps : KeepsWords w m s owes) (within : IsWithin w s) (undeferred : AreImplicitUndeferred s)
    (may : MayFreeMember s task n member) (unowed : IsOwedNothing s owes task) where
  abbrev old : Task
  old = may.old

  abbrev after : State
  after = record s { tasks = gone s.tasks task.0 }

  alike : (j : ℕ) → OwesElse (owes j) (owes j)
  alike j = owes_else (owes j)

  -- what has finished of explicit tasks is another
  explicit_apart : (q : Tid) → HasFinished s q → q.0 ≡ task.0 → ⊥
  explicit_apart q x same =
      let is = some_same (ap (λ y. task_of s (record { 0 = y })) (sym same) ∙ x.live) may.spent.live in
      let explicit : old.implicit ≡ false = sym (ap (λ (y : Task). y.implicit) is) ∙ x.explicit in
      let implicit = may.implicit in
      absurd (cc)

  unlowered : (j : ℕ) → j < s.count → (owes j).lowered ≢ Some task
  unlowered j below is =
      explicit_apart task (lowered_finished s (owes j) (keeps.made j below).objects task is) refl

  ungrouped : (j : ℕ) → j < s.count → (owes j).uncounted ≢ Some task
  ungrouped j below is =
      explicit_apart task ((keeps.made j below).objects.own task (keeps.groups.uncounted j task below is)).0 refl

  references_counted : (q : Tid) (x : Task) → (q.0 ≡ task.0 → ⊥) → task_of s q ≡ Some x
      → referred_in w after owes q ≡ referred_in w s owes q
  references_counted q x ne is =
      let change =
      tasks_recounted w m s owes owes task old keeps within may.spent alike
      (λ _ _ y. one (is_explicit y && is_some_task q y.generating)) in
      let none : one (is_explicit old && is_some_task q old.generating) ≡ 0 =
      ap (λ b. one (not b && is_some_task q old.generating)) may.implicit in
      omega (arith, change, none)

  -- its slots are empty, as no explicit task of the region lives
  abbrev own : Rec
  own = m task.0.creator tasks task.0.slot

  empty_slot : (at : ℕ) → at < OWN_SLOTS
      → Has own TaskSlots at 0
      ⊎ ((q : Tid) × IsDeferredIn s old at q × Has own TaskSlots at (slot_word w q))
      → Has own TaskSlots at 0
  empty_slot at below (inl none) = none
  empty_slot at below (inr (q, d, word)) = absurd (go d.task.implicit refl)
    where
      go : (b : Bool) → d.task.implicit ≡ b → ⊥
      go true implicit = undeferred q d.task d.live implicit d.progress
      go false explicit =
          may.ended.alone q.0.creator q.0.slot d.task
          (found_live q.0.generation (s.tasks q.0.creator q.0.slot) d.task d.live) explicit
          (d.region ∙ may.mine)

  no_slot : (code : ℕ) → code ≢ 0
      → sum_below OWN_SLOTS (λ at. one (own (number TaskSlots) at == code)) ≡ 0
  no_slot code some =
      let place = found_below w s within task.0.creator task.0.slot task.0.generation old may.spent.live in
      let there = found_live task.0.generation (s.tasks task.0.creator task.0.slot) old may.spent.live in
      let record_is = (keeps.made task.0.creator place.0).tasks task.0.slot place.1 in
      let slots = (record_is.live old there).slots may.implicit in
      sum_none_within OWN_SLOTS
      (λ at. one (own (number TaskSlots) at == code))
      (λ at below. ap one (ne_eqb _ _ (λ same. some (sym same ∙ empty_slot at below (slots at below)))))

  on_tasks : (j : ℕ) → j < s.count → OwesOnTasks after (owes j)
  on_tasks j below =
      let o = (keeps.made j below).objects in
      on_others w m s owes owes task old keeps within may.spent alike (owes j) o
      (λ q is same. unowed.referred j below (is ∙ ap Some (named_as q task same)))
      (λ q is. explicit_apart q (o.own q is).0)
      (λ p is. unowed.returned j p below is)
      (λ q is. explicit_apart q (o.gives q is).0)

  pub member_frees : KeepsWords w (with_task_emptied m task) after owes
  member_frees =
      task_gone w m s owes owes task old keeps within may.spent alike unlowered unowed.raised ungrouped references_counted
      (λ q ne. refl)
      (λ q x is deferred.
      ap
      (λ b. slots_of m (slot_word w q) task.0.creator task.0.slot (record old { implicit = b })) may.implicit
      ∙ no_slot (slot_word w q) (λ none. omega (arith, none)))
      on_tasks

pub member_frees_keep : MemberFreesKeep
member_frees_keep =
    λ w m s owes task n member next k t keeps within undeferred may unowed.
    task_list_keeps w (with_task_emptied m task) (record s { tasks = gone s.tasks task.0 }) owes k
    (λ u. record u { frees = next }) (λ u. refl)
    (member_frees w m s owes task n member keeps within undeferred may unowed)
