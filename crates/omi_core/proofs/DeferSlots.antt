-- A task is deferred in a slot of its thread's row, so at no word behind the slots of a record.
use Rattle.std.proofs.Common.{◌≡◌, ◌<◌, ◌≤◌, ◌+◌, ◌*◌, ◌++◌, nat_lt, ℕ, Bool, true, false, List, [], ◌∷◌, Some, None, refl, sym, ap, ◌∙◌, subst, arith, if◌then◌else◌}
use Rattle.std.proofs.lemmas.Bool.Decides.{nat_tests}
use Rattle.std.proofs.Math.Nat.{mul-le-mul_left}
use Rattle.omi_numbers.specs.declared.limits.TheConstants.{OWN_SLOTS}
use Rattle.omi_word.specs.Memory.{address_of, words_after}
use Rattle.omi_script.specs.declared.program.Program.{Program}
use Rattle.omi_model.specs.declared.encounter.Encounter.{Encounter}
use Rattle.omi_model.specs.declared.event.Event.{Event}
use Rattle.omi_model.specs.declared.event.Event.TheVariants as event
use Rattle.omi_model.specs.declared.id.Tid.{Tid}
use Rattle.omi_model.specs.declared.item.Item.{Item}
use Rattle.omi_model.specs.declared.item.Item.TheVariants as item
use Rattle.omi_model.specs.Changes.{encounter}
use Rattle.omi_model.specs.Lists.{take_item}
use Rattle.omi_model.specs.Reached.{Step}
use Rattle.omi_model.specs.State.{State}
use Rattle.omi_layout.specs.Field.{slots, tasks}
use Rattle.omi_layout.specs.Memory.{replace_at, word_address}
use Rattle.omi_layout.specs.Place.{index_of, slot_address}
use Rattle.omi_layout.specs.Table.{offset, size, slot_words, version}
use Rattle.omi_layout.specs.Valid.{IsValid, is_inside, overlap}
use Rattle.omi_layout.proofs.SlotWords.{own_slots_within}
use Rattle.omi_rep.specs.declared.outcome.Outcome.{Outcome}
use Rattle.omi_rep.specs.declared.outcome.Outcome.TheVariants as outcome
use Rattle.omi_rule.specs.Commits.{ComesOf, defers_next, of_row_slot}
use Rattle.omi_rule.specs.Steps.{LeadsOn, committed}
use Rattle.omi_core.specs.declared.entry.Entry.{Entry}
use Rattle.omi_core.specs.DeferLaws.{DefersBehindSlots, NoRunDefersBehindSlots}
use Rattle.omi_core.specs.Steps.{IsStepFrom, Steps, Watches}
use Rattle.omi_model.proofs.EachObject.{ahead_of_current}
use Rattle.omi_model.proofs.ListLaws.{taken_other}

-- ---- the slot of a deferred task

-- where a task is deferred next, fewer slots were seen taken than there are
few_seen : (p : Program) (at : Encounter) (task : Tid) (xs : List Item) (found : Item × List Item) (j : ℕ)
    → defers_next j xs → take_item p at (event.Defer task) xs ≡ Some found → j < OWN_SLOTS
few_seen p at task (item.Defer seen f final ∷ xs) found j is taken = go (nat_lt seen 4) refl taken
  where
    go : (b : Bool) → nat_lt seen 4 ≡ b
        → (if b then Some (item.Defer seen f final, xs) else None) ≡ Some found → j < OWN_SLOTS
    go true few e = grind (arith, nat_tests)
    go false few e = absurd (cc)
few_seen p at task xs found j is taken = absurd is

-- ---- the words of a record

-- a record with slots has another word
five_words : (w : List ℕ) → IsValid w → 5 ≤ size w tasks
five_words w v =
    let here : is_inside w slots ≡ true = v.inside slots (record { from = omega arith; to = omega arith }) in
    let life : is_inside w 25 ≡ true = v.inside 25 (record { from = omega arith; to = omega arith }) in
    let apart : overlap w 25 slots ≡ false =
    v.apart 25 (record { from = omega arith; to = omega arith }) slots
    (record { from = omega arith; to = omega arith }) (omega arith) in
    let few : OWN_SLOTS ≤ slot_words (version w) = own_slots_within (version w) in
    grind (arith, nat_tests)

-- so no slot of a record lies behind the slots of one
places_apart : (a b n o j : ℕ) → 5 ≤ n → j < 4 → a * n + (o + j) ≡ b * n + (o + 4) → ⊥
places_apart a b n o j five below same = go (nat_lt b a) refl
  where
    more : nat_lt b a ≡ true → b + 1 ≤ a
    more is = grind (arith, nat_tests)

    less : nat_lt b a ≡ false → a ≤ b
    less is = grind (arith, nat_tests)

    go : (t : Bool) → nat_lt b a ≡ t → ⊥
    go true is = let most = mul-le-mul_left n (more is) in omega (arith, most, five, below, same)
    go false is = let most = mul-le-mul_left n (less is) in omega (arith, most, below, same)

slots_apart : (w : List ℕ) (x y : Tid) (j : ℕ) → IsValid w → j < OWN_SLOTS
    → of_row_slot w x j ≡ of_row_slot w y OWN_SLOTS → ⊥
unfolding word_address slot_address
slots_apart w x y j v below same =
    places_apart (index_of w tasks x.0.creator x.0.slot) (index_of w tasks y.0.creator y.0.slot)
    (size w tasks) (offset w slots) j (five_words w v) below (omega (arith, same))

-- ---- steps

-- a step that commits a `defer` is on a slot
defers_in_slot : (p : Program) (w words : List ℕ) (past : List (ℕ × Event)) (s : State) (i : ℕ) (e : Entry) (next : State) (task : Tid)
    → IsStepFrom p w words past s i e next → e.outcome ≡ outcome.Event (event.Defer task)
    → (x : Tid) × (j : ℕ) × (j < OWN_SLOTS) × (address_of e.op ≡ of_row_slot w x j)
defers_in_slot p w words past s i e next task from is =
    let comes : ComesOf w s i e.op e.old (outcome.Event (event.Defer task)) =
    subst (λ (o : Outcome). ComesOf w s i e.op e.old o) is from.comes in
    let leads : Step p s i (event.Defer task) next =
    subst (λ (o : Outcome). LeadsOn p w past s i o next) is from.leads in
    let (j, here, (k, t, r, current, found, (x, member, (word, stores)))) = comes.0 in (
      x,
      j,
      few_seen p (encounter s i) task here.1.list (leads.legal.item, leads.legal.behind) j here.3
          (taken_other p (encounter s i) (event.Defer task) here.1.frees here.1.list (leads.legal.item, leads.legal.behind) refl
          (ap (take_item p (encounter s i) (event.Defer task)) (sym (ahead_of_current s i here.0 here.1 here.2)) ∙ leads.legal.taken)),
      ap address_of stores,
    )

step_not_behind : (p : Program) (w words : List ℕ) (past : List (ℕ × Event)) (s : State) (i : ℕ) (e : Entry) (next : State)
    → IsValid w → IsStepFrom p w words past s i e next → DefersBehindSlots w e → ⊥
step_not_behind p w words past s i e next v from at =
    let (x, j, below, there) = defers_in_slot p w words past s i e next at.task from at.defers in
    slots_apart w x at.row j v below (sym there ∙ at.behind)

pub no_run_defers_behind : NoRunDefersBehindSlots
no_run_defers_behind =
    λ p w words past s watches before behind i e last t later v steps at. go p w v i e behind last t later at before words past s watches steps
  where
    go : (p : Program) (w : List ℕ) → IsValid w
        → (i : ℕ) (e : Entry) (behind : List (ℕ × Entry)) (last : List ℕ) (t : State) (later : Watches)
        → DefersBehindSlots w e
        → (before : List (ℕ × Entry)) (words : List ℕ) (past : List (ℕ × Event)) (s : State) (watches : Watches)
        → Steps p w words past s watches (before ++ (i, e) ∷ behind) last t later → ⊥
    go p w v i e behind last t later at [] words past s watches (next, watch, from, watched, rest) =
        step_not_behind p w words past s i e next v from at
    go p w v i e behind last t later at (x ∷ xs) words past s watches (next, watch, from, watched, rest) =
        go p w v i e behind last t later at xs (words_after words x.1.op)
        (past ++ committed x.0 x.1.outcome) next (replace_at watches x.0 watch) rest
