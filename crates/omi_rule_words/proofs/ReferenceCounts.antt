-- References of a task are lowered: its own, and that of a task that it generated and that was given back.
use Rattle.std.proofs.Common.{◌≡◌, ◌==◌, ◌&&◌, ◌+◌, ◌<◌, ◌≤◌, ◌^◌, Bool, true, false, not, inl, inr, ℕ, List, Some, None, refl, sym, ap, subst, ◌∙◌, arith, eq-eqb, eqb-true, ne_eqb, if◌then◌else◌}
use Rattle.std.specs.Prelude.{◌⊎◌, ◌≢◌}
use Rattle.std.proofs.lemmas.Bool.{cases_eq}
use Rattle.std.proofs.lemmas.Bool.Decides.{nat_tests}
use Rattle.omi_model.specs.declared.id.Rid.{Rid}
use Rattle.omi_model.specs.declared.id.Tid.{Tid}
use Rattle.omi_model.specs.declared.task.Task.{Task}
use Rattle.omi_model.specs.State.{State, task_of}
use Rattle.omi_model.proofs.Slots.{some_same}
use Rattle.omi_layout.specs.declared.field.Field.TheVariants.{TaskReferences}
use Rattle.omi_layout.specs.Field.{tasks}
use Rattle.omi_layout.specs.Memory.{Memory, replace_at}
use Rattle.omi_pc.specs.declared.place.Place.{Place}
use Rattle.omi_rep.specs.Shows.{IsWithin}
use Rattle.omi_rule_words.specs.Owes.{Owed, nothing}
use Rattle.omi_rule_words.specs.Counts.{children_owed, gives_owed, is_at, is_explicit, is_some_region, is_some_task, one, references_owed, sum_of_owed}
use Rattle.omi_rule_words.specs.Objects.{KeepsCounts}
use Rattle.omi_rule_words.specs.Words.{HasFinished, IsOwedIn, KeepsWords, OwesOnLive}
use Rattle.omi_rule_words.specs.CountKinds.{one_less, with_task_word, word_of_task}
use Rattle.omi_rule_words.specs.FreeKinds.{OwnSubtractsKeep, ReturnedSubtractsKeep, given_at}
use Rattle.omi_rule_words.proofs.LiveTasks.{counts_of, one_at, over}
use Rattle.omi_rule_words.proofs.OtherCounts.{is_own_id, owed_put}
use Rattle.omi_rule_words.proofs.OwedTasks.{nothing_on_live, referred_to}
use Rattle.omi_rule_words.proofs.Sums.{part_below}
use Rattle.omi_rule_words.proofs.TaskCounts.{on_other, on_own}
use Rattle.omi_rule_words.proofs.TaskWords.{references_stored}

-- what a thread owes on references of one task, and on its region
pub record OwesOnce (s : State) (o : Owed) (n : Rid) (k : Tid) : Type 0 where
  region : o.region ≡ None
  tasks : o.tasks ≡ nothing.tasks
  left : o.left ≡ None
  assigns : o.assigns ≡ nothing.assigns
  met : o.met ≡ false
  hand : o.hand ≡ None
  counted : o.counted ≡ None
  uncounted : o.uncounted ≡ None
  pending : o.pending ≡ Some n
  once : references_owed k o ≡ 1
  apart : (q : Tid) → (q.0.creator ≡ k.0.creator → q.0.slot ≡ k.0.slot → ⊥) → references_owed q o ≡ 0
  children : (q : Tid) → children_owed s q o ≡ 0
  gives : (q : Tid) → gives_owed q o ≡ 0

-- the word for references is lowered by 1
lowered_to : (word : ℕ) → 1 ≤ word → word < 2 ^ 64 → one_less word + 1 ≡ word
lowered_to word some small = omega (arith, some, small)

last_one : (word : ℕ) → 1 ≤ word → word < 2 ^ 64 → one_less word == 0 ≡ word == 1
last_one word some small = go (cases_eq word 1)
  where
    less : one_less word + 1 ≡ word
    less = lowered_to word some small

    go : (word ≡ 1) ⊎ (word ≢ 1) → one_less word == 0 ≡ word == 1
    go (inl is) = eq-eqb (one_less word) 0 (omega (arith, is, less)) ∙ sym (eq-eqb word 1 is)
    go (inr ne) =
        ne_eqb (one_less word) 0 (λ none. ne (omega (arith, none, less))) ∙ sym (ne_eqb word 1 ne)

module _ (w : List ℕ) (m : Memory) (s : State) (owes : ℕ → Owed) (i : ℕ) (n : Rid) (k : Tid) (t : Task)
    (keeps : KeepsWords w m s owes) (known : i < s.count) (live : task_of s k ≡ Some t)
    (owed : OwesOnce s (owes i) n k) (in_region : t.region ≡ n)
    (finished : is_explicit t && word_of_task m k TaskReferences == 1 ≡ true → HasFinished s k)
    (small : word_of_task m k TaskReferences < 2 ^ 64) where
  abbrev word : ℕ
  word = word_of_task m k TaskReferences

  abbrev p : Owed
  p = record nothing { pending = Some n; gives = given_at k t word }

  abbrev other : ℕ → Owed
  other = replace_at owes i p

  -- the task is given back by this thread where this was its last reference
  given_here : (b : Bool) → one (is_some_task k (if b then Some k else None)) ≡ one b
  given_here true = ap one (is_own_id k.0)
  given_here false = refl

  given_elsewhere : (q : Tid) → (q.0.creator ≡ k.0.creator → q.0.slot ≡ k.0.slot → ⊥) → (b : Bool)
      → one (is_some_task q (if b then Some k else None)) ≡ 0
  given_elsewhere q apart true = on_other q k (Some k) refl apart
  given_elsewhere q apart false = refl

  given : KeepsCounts w s owes k (m k.0.creator tasks k.0.slot) t
      → sum_of_owed s other (gives_owed k) ≡ one (is_explicit t && one_less word == 0)
  given o =
      let change = owed_put s owes i p known (gives_owed k) in
      let none = owed.gives k in
      let least : references_owed k (owes i) ≤ sum_of_owed s owes (references_owed k) =
      part_below s.count i (λ j. references_owed k (owes j)) known in
      let once = owed.once in
      let word_is = o.references in
      let some : 1 ≤ word = omega (arith, least, once, word_is) in
      let was : sum_of_owed s owes (gives_owed k) ≡ 0 =
      o.given ∙ referred_to (is_explicit t) word (at_most (is_explicit t) word some) in
      let now : gives_owed k p ≡ one (is_explicit t && one_less word == 0) =
      given_here (is_explicit t && word == 1)
      ∙ sym (ap (λ b. one (is_explicit t && b)) (last_one word some small)) in
      omega (arith, change, none, was, now)
    where
      at_most : (b : Bool) (x : ℕ) → 1 ≤ x → one b ≤ x
      at_most true x some = some
      at_most false x some = omega arith

  objects : OwesOnLive s (owes i) → OwesOnLive s p
  objects x = record {
    pending = λ q is. x.pending q (owed.pending ∙ is);
    left = λ q is. absurd (cc);
    raised = λ q is. absurd (cc);
    lowered = λ q is. absurd (cc);
    referred = λ q is. absurd (cc);
    own = λ q is. absurd (cc);
    returned = λ at is. absurd (cc);
    gives = λ q is. go q (is_explicit t && word == 1) refl is;
    assigns = (nothing_on_live s).assigns;
  }
    where
      go : (q : Tid) (b : Bool) → is_explicit t && word == 1 ≡ b → (if b then Some k else None) ≡ Some q
          → HasFinished s q × IsOwedIn s p q
      go q true e is =
          let same : k ≡ q = cc in
          subst (λ (y : Tid). HasFinished s y × IsOwedIn s p y) same
          (finished e, (t, live, ap Some (sym in_region)))
      go q false e is = absurd (cc)

  pub reference_lowered : KeepsWords w (with_task_word m k TaskReferences (one_less word)) s other
  reference_lowered =
      references_stored w m s owes i p k t keeps known
      (record {
        region = sym owed.region;
        tasks = sym owed.tasks;
        left = sym owed.left;
        assigns = sym owed.assigns;
        met = sym owed.met;
        hand = sym owed.hand;
      })
      (record { counted = sym owed.counted; uncounted = sym owed.uncounted; raised = λ q none. absurd (cc); own = λ q none. absurd (cc) }) live
      (λ q. sym (ap (λ o. one (is_some_region q o)) owed.pending))
      (λ q apart. record {
        children = sym (owed.children q);
        references = sym (owed.apart q apart);
        gives = given_elsewhere q apart (is_explicit t && word == 1) ∙ sym (owed.gives q);
      })
      objects (one_less word) (sym (owed.children k)) given
      (λ least.
      let before = owed.once in
      let now : references_owed k p ≡ 0 = refl in
      omega (arith, least, before, now, small))

pub own_subtracts_keep : OwnSubtractsKeep
own_subtracts_keep =
    λ w m s owes i n k t keeps known owed live small. kept w m s owes i n k t keeps known owed live small
  where
    kept : (w : List ℕ) (m : Memory) (s : State) (owes : ℕ → Owed) (i : ℕ) (n : Rid) (k : Tid) (t : Task)
        → KeepsWords w m s owes → i < s.count → owes i ≡ record nothing { pending = Some n; own = Some k }
        → task_of s k ≡ Some t → word_of_task m k TaskReferences < 2 ^ 64
        → KeepsWords w
        (with_task_word m k TaskReferences (one_less (word_of_task m k TaskReferences))) s
        (replace_at owes i
        (record nothing { pending = Some n; gives = given_at k t (word_of_task m k TaskReferences) }))
    kept w m s owes i n k t keeps known owed live small =
        let (finished, of_region) = whole in
        let (u, there, region) = of_region in
        reference_lowered w m s owes i n k t keeps known live
        (subst (λ (o : Owed). OwesOnce s o n k) (sym owed) once)
        (let same : u ≡ t = some_same there live in
        let names : Some n ≡ Some u.region = sym (ap (λ (o : Owed). o.pending) owed) ∙ region in
        ap (λ (x : Task). x.region) (sym same) ∙ some_same names refl)
        (λ _. finished) small
      where
        whole : HasFinished s k × IsOwedIn s (owes i) k
        whole = (keeps.made i known).objects.own k (ap (λ (o : Owed). o.own) owed)

        once : OwesOnce s (record nothing { pending = Some n; own = Some k }) n k
        once = record {
          region = refl;
          tasks = refl;
          left = refl;
          assigns = refl;
          met = refl;
          hand = refl;
          counted = refl;
          uncounted = refl;
          pending = refl;
          once = let own = on_own k (Some k) refl in omega (arith, own);
          apart = λ q apart. let none = on_other q k (Some k) refl apart in omega (arith, none);
          children = λ q. refl;
          gives = λ q. refl;
        }

pub returned_subtracts_keep : ReturnedSubtractsKeep
returned_subtracts_keep =
    λ w m s owes i n at k t keeps within known owed live there small.
    kept w m s owes i n at k t keeps within known owed live there small
  where
    kept : (w : List ℕ) (m : Memory) (s : State) (owes : ℕ → Owed) (i : ℕ) (n : Rid) (at : Place) (k : Tid) (t : Task)
        → KeepsWords w m s owes → IsWithin w s → i < s.count
        → owes i ≡ record nothing { pending = Some n; returned = Some at }
        → task_of s k ≡ Some t → is_at k at ≡ true → word_of_task m k TaskReferences < 2 ^ 64
        → KeepsWords w
        (with_task_word m k TaskReferences (one_less (word_of_task m k TaskReferences))) s
        (replace_at owes i
        (record nothing { pending = Some n; gives = given_at k t (word_of_task m k TaskReferences) }))
    kept w m s owes i n at k t keeps within known owed live there small =
        let (q, here, of_region) = named in
        let (u, other, region) = of_region in
        reference_lowered w m s owes i n k t keeps known live
        (subst (λ (o : Owed). OwesOnce s o n k) (sym owed) once)
        (let same = (one_at s k q at t u live other there here).1 in
        let names : Some n ≡ Some u.region = sym (ap (λ (o : Owed). o.pending) owed) ∙ region in
        ap (λ (x : Task). x.region) (sym same) ∙ some_same names refl)
        finished small
      where
        named : (q : Tid) × (is_at q at ≡ true) × IsOwedIn s (owes i) q
        named = (keeps.made i known).objects.returned at (ap (λ (o : Owed). o.returned) owed)

        beside : (q : Tid) → (q.0.creator ≡ k.0.creator → q.0.slot ≡ k.0.slot → ⊥) → is_at q at ≡ false
        beside q apart = go (is_at q at) refl
          where
            go : (b : Bool) → is_at q at ≡ b → b ≡ false
            go false e = refl
            go true e =
                let creator : q.0.creator ≡ k.0.creator = grind (arith, nat_tests) in
                let slot : q.0.slot ≡ k.0.slot = grind (arith, nat_tests) in absurd (apart creator slot)

        once : OwesOnce s (record nothing { pending = Some n; returned = Some at }) n k
        once = record {
          region = refl;
          tasks = refl;
          left = refl;
          assigns = refl;
          met = refl;
          hand = refl;
          counted = refl;
          uncounted = refl;
          pending = refl;
          once = let own : one (is_at k at) ≡ 1 = ap one there in omega (arith, own);
          apart = λ q apart. let none : one (is_at q at) ≡ 0 = ap one (beside q apart) in omega (arith, none);
          children = λ q. refl;
          gives = λ q. refl;
        }

        -- where this was its last reference, its own was lowered before
        finished : is_explicit t && word_of_task m k TaskReferences == 1 ≡ true → HasFinished s k
        finished e =
            let (explicit, last) = both (is_explicit t) (word_of_task m k TaskReferences == 1) e in
            let word = (counts_of w s within m owes keeps k t live).references in
            let least : references_owed k (owes i) ≤ sum_of_owed s owes (references_owed k) =
            part_below s.count i (λ j. references_owed k (owes j)) known in
            let here : references_owed k (owes i) ≡ 1 = ap (references_owed k) owed ∙ once.once in
            let last_is : word_of_task m k TaskReferences ≡ 1 = eqb-true _ _ last in
            record {
              task = t;
              live = live;
              explicit = implicit_not t.implicit explicit;
              progress = over t (implicit_not t.implicit explicit) (omega (arith, word, least, here, last_is));
            }
          where
            both : (a b : Bool) → a && b ≡ true → (a ≡ true) × (b ≡ true)
            both true b is = (refl, is)
            both false b is = absurd (cc)

            implicit_not : (b : Bool) → not b ≡ true → b ≡ false
            implicit_not true is = absurd (cc)
            implicit_not false is = refl
