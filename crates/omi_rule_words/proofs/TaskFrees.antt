-- An explicit task without a reference is given back.
use Rattle.std.proofs.Common.{◌≡◌, ◌≢◌, ◌==◌, ◌&&◌, ◌+◌, ◌<◌, ◌≤◌, ℕ, Bool, true, false, not, List, Some, refl, sym, ap, subst, ◌∙◌, arith}
use Rattle.omi_model.specs.declared.id.Rid.{Rid}
use Rattle.omi_model.specs.declared.id.Tid.{Tid}
use Rattle.omi_model.specs.declared.task.Task.{Task}
use Rattle.omi_model.specs.Freeing.{IsSpent}
use Rattle.omi_model.specs.Put.{gone}
use Rattle.omi_model.specs.State.{State, task_of}
use Rattle.omi_model.proofs.Slots.{found_live, some_same}
use Rattle.omi_layout.specs.declared.field.Field.TheVariants.{TaskReferences}
use Rattle.omi_layout.specs.Field.{tasks}
use Rattle.omi_layout.specs.Memory.{Memory, replace_at}
use Rattle.omi_layout.specs.Named.{number}
use Rattle.omi_layout.proofs.Puts.{each_put}
use Rattle.omi_pc.specs.declared.place.Place.{Place}
use Rattle.omi_rep.specs.Records.{slot_word}
use Rattle.omi_rep.specs.Shows.{IsWithin}
use Rattle.omi_rule_words.specs.Owes.{Owed, nothing}
use Rattle.omi_rule_words.specs.Counts.{gives_owed, is_at, is_at_some, is_explicit, is_some_task, is_task, one, references_owed, sum_of_owed}
use Rattle.omi_rule_words.specs.Words.{IsOwedIn, KeepsWords}
use Rattle.omi_rule_words.specs.FreeKinds.{TaskFreesKeep, with_task_emptied}
use Rattle.omi_rule_words.proofs.GoneTasks.{OwesElse, on_others, owes_else, referred_in, slots_of, task_after, task_gone, tasks_recounted}
use Rattle.omi_rule_words.proofs.ListMoves.{task_list_keeps}
use Rattle.omi_rule_words.proofs.LiveTasks.{counts_of, named_as, one_at, same_name}
use Rattle.omi_rule_words.proofs.OtherCounts.{is_own_id, owed_put}
use Rattle.omi_rule_words.proofs.OwedTasks.{OwesOnTasks}
use Rattle.omi_rule_words.proofs.Starts.{other_name}
use Rattle.omi_rule_words.proofs.Sums.{part_below, parts_below}
use Rattle.omi_rule_words.proofs.TaskCounts.{on_own}
use Rattle.omi_rule_words.proofs.TasksGone.{given_word}

module _ (w : List ℕ) (m : Memory) (s : State) (owes : ℕ → Owed) (i : ℕ) (n : Rid) (task g : Tid)
    (old above : Task) (at : Place) (keeps : KeepsWords w m s owes) (within : IsWithin w s) (known : i < s.count)
    (owed : owes i ≡ record nothing { pending = Some n; gives = Some task })
    (spent : IsSpent s task old) (explicit : old.implicit ≡ false) (made : old.generating ≡ Some g)
    (live : task_of s g ≡ Some above) (same_region : above.region ≡ old.region) (there : is_at g at ≡ true) where
  abbrev p : Owed
  p = record nothing { pending = Some n; returned = Some at }

  abbrev other : ℕ → Owed
  other = replace_at owes i p

  abbrev after : State
  after = record s { tasks = gone s.tasks task.0 }

  alike : (j : ℕ) → OwesElse (other j) (owes j)
  alike j =
      each_put (λ c (x : Owed). OwesElse x (owes c)) owes i p
      (subst (λ (o : Owed). OwesElse p o) (sym owed)
      (record {
        region = refl;
        tasks = refl;
        pending = refl;
        raised = refl;
        lowered = refl;
        referred = refl;
        own = refl;
        left = refl;
        assigns = refl;
        met = refl;
        hand = refl;
        counted = refl;
        uncounted = refl;
      })) j (λ _. owes_else (owes j))

  gives : (owes i).gives ≡ Some task
  gives = ap (λ (o : Owed). o.gives) owed

  -- ---- nothing else is owed on the task

  none_owed : (j : ℕ) → j < s.count → references_owed task (owes j) ≡ 0
  none_owed j below =
      let references = (counts_of w s within m owes keeps task old spent.live).references in
      let word = given_word w m s owes i task keeps within known gives in
      let part : references_owed task (owes j) ≤ sum_of_owed s owes (references_owed task) =
      part_below s.count j (λ c. references_owed task (owes c)) below in
      omega (arith, references, word, part)

  unreferred : (j : ℕ) → j < s.count → (owes j).referred ≢ Some task
  unreferred j below is =
      let none = none_owed j below in let own = on_own task (owes j).referred is in omega (arith, none, own)

  unowned : (j : ℕ) → j < s.count → (owes j).own ≢ Some task
  unowned j below is =
      let none = none_owed j below in let own = on_own task (owes j).own is in omega (arith, none, own)

  unreturned : (j : ℕ) → j < s.count → (q : Place) → (owes j).returned ≡ Some q → is_at task q ≡ false
  unreturned j below q is = go (is_at task q) refl
    where
      go : (b : Bool) → is_at task q ≡ b → b ≡ false
      go false e = refl
      go true e =
          let none = none_owed j below in
          let here : one (is_at_some task (owes j).returned) ≡ 1 = ap (λ x. one (is_at_some task x)) is ∙ ap one e in
          absurd (omega (arith, none, here))

  unlowered : (j : ℕ) → j < s.count → (owes j).lowered ≢ Some task
  unlowered j below is = unowned j below ((keeps.made j below).objects.lowered task is).0

  ungrouped : (j : ℕ) → j < s.count → (owes j).uncounted ≢ Some task
  ungrouped j below is = unowned j below (keeps.groups.uncounted j task below is)

  -- this thread alone gives it back
  ungiven : (j : ℕ) → j < s.count → j ≢ i → (owes j).gives ≢ Some task
  ungiven j below ne is =
      let given = (counts_of w s within m owes keeps task old spent.live).given in
      let most = at_most (is_explicit old && m task.0.creator tasks task.0.slot (number TaskReferences) 0 == 0) in
      let here = on_own task (owes i).gives gives in
      let too = on_own task (owes j).gives is in
      let parts : gives_owed task (owes i) + gives_owed task (owes j) ≤ sum_of_owed s owes (gives_owed task) =
      parts_below s.count i j (λ c. gives_owed task (owes c)) known below ne in
      omega (arith, given, most, here, too, parts)
    where
      at_most : (b : Bool) → one b ≤ 1
      at_most true = omega arith
      at_most false = omega arith

  -- ---- the task that generated it

  above_apart : g.0 ≡ task.0 → ⊥
  above_apart same =
      spent.childless task.0.creator task.0.slot old
      (found_live task.0.generation (s.tasks task.0.creator task.0.slot) old spent.live)
      (made ∙ ap (λ x. Some (record { 0 = x })) same)

  generated : (q : Tid) (x : Task) → task_of s q ≡ Some x → is_task q g ≡ is_at q at
  generated q x is = go (is_task q g) refl (is_at q at) refl
    where
      go : (a : Bool) → is_task q g ≡ a → (b : Bool) → is_at q at ≡ b → a ≡ b
      go true e true f = refl
      go false e false f = refl
      go true e false f =
          let here : is_at q at ≡ true = subst (λ (y : Tid). is_at y at ≡ true) (same_name g q e) there in
          absurd (cc)
      go false e true f =
          let name = (one_at s g q at above x live is there f).0 in
          let here : is_task q g ≡ true =
          ap (λ (y : Tid). is_task y g) name ∙ is_own_id g.0 in
          absurd (cc)

  -- it has one live child less, and one reference more is owed on it
  references_counted : (q : Tid) (x : Task) → (q.0 ≡ task.0 → ⊥) → task_of s q ≡ Some x
      → referred_in w after other q ≡ referred_in w s owes q
  references_counted q x ne is =
      let change =
      tasks_recounted w m s owes other task old keeps within spent alike
      (λ _ _ y. one (is_explicit y && is_some_task q y.generating)) in
      let child : one (is_explicit old && is_some_task q old.generating) ≡ one (is_at q at) =
      ap (λ b. one (not b && is_some_task q old.generating)) explicit
      ∙ (ap (λ o. one (is_some_task q o)) made ∙ ap one (generated q x is)) in
      let more = owed_put s owes i p known (references_owed q) in
      let before : references_owed q (owes i) ≡ 0 = ap (references_owed q) owed in
      omega (arith, change, child, more, before)

  gives_counted : (q : Tid) → (q.0 ≡ task.0 → ⊥)
      → sum_of_owed s other (gives_owed q) ≡ sum_of_owed s owes (gives_owed q)
  gives_counted q ne =
      let more = owed_put s owes i p known (gives_owed q) in
      let before : gives_owed q (owes i) ≡ 0 =
      ap (gives_owed q) owed ∙ ap one (other_name q task ne) in
      omega (arith, more, before)

  on_tasks : (j : ℕ) → j < s.count → OwesOnTasks after (other j)
  on_tasks j below =
      each_put (λ c (o : Owed). c < s.count → OwesOnTasks after o) owes i p
      (λ _. record {
        referred = λ q is. absurd (cc);
        own = λ q is. absurd (cc);
        returned = λ q is.
            let same : at ≡ q = cc in
            subst (λ (y : Place). (k : Tid) × (is_at k y ≡ true) × IsOwedIn after p k) same (g, there, above_owed);
        gives = λ q is. absurd (cc);
      })
      j
      (λ ne c. on_others w m s owes other task old keeps within spent alike (owes j) (keeps.made j c).objects
      (λ q is same. unreferred j c (is ∙ ap Some (named_as q task same)))
      (λ q is same. unowned j c (is ∙ ap Some (named_as q task same)))
      (unreturned j c)
      (λ q is same. ungiven j c ne (is ∙ ap Some (named_as q task same)))) below
    where
      above_owed : IsOwedIn after p g
      above_owed =
          let (u, is, region) = ((keeps.made i known).objects.gives task gives).1 in
          let names : Some n ≡ Some u.region = sym (ap (λ (o : Owed). o.pending) owed) ∙ region in
          let same = some_same is spent.live in
          let there = task_after w m s owes other task old keeps within spent alike g above above_apart live in
          (above, there, names ∙ ap (λ (y : Task). Some y.region) same ∙ ap Some (sym same_region))

  pub task_frees : ((j : ℕ) → j < s.count → (owes j).raised ≢ Some task)
      → KeepsWords w (with_task_emptied m task) after other
  task_frees unraised =
      task_gone w m s owes other task old keeps within spent alike unlowered unraised ungrouped references_counted gives_counted
      (λ q x is deferred.
      ap
      (λ b. slots_of m (slot_word w q) task.0.creator task.0.slot (record old { implicit = b })) explicit)
      on_tasks

pub task_frees_keep : TaskFreesKeep
task_frees_keep =
    λ w m s owes i n task g old above at next k t keeps within names known owed spent explicit made live region there unraised is ne.
    task_list_keeps w (with_task_emptied m task) (record s { tasks = gone s.tasks task.0 })
    (replace_at owes i (record nothing { pending = Some n; returned = Some at })) k
    (λ u. record u { frees = next }) (λ u. refl)
    (task_frees w m s owes i n task g old above at keeps within known owed spent explicit made live region there unraised)
