-- In each list the asks of a fork stand between its want and the fork itself.
use Rattle.std.proofs.Common.{◌≡◌, ◌==◌, ℕ, zero, suc, Bool, true, false, List, [], ◌∷◌, Some, None, if◌then◌else◌, refl, sym, ap, ◌∙◌, subst}
use Rattle.omi_script.specs.Bodies.{body_of}
use Rattle.omi_script.specs.declared.program.Program.{Program}
use Rattle.omi_script.specs.declared.statement.Stmt.{Stmt}
use Rattle.omi_script.specs.declared.statement.Stmt.TheVariants as stmt
use Rattle.omi_model.specs.declared.encounter.Encounter.{Encounter}
use Rattle.omi_model.specs.declared.event.Event.{Event}
use Rattle.omi_model.specs.declared.event.Event.TheVariants as event
use Rattle.omi_model.specs.declared.item.Item.{Item}
use Rattle.omi_model.specs.declared.item.Item.TheVariants as item
use Rattle.omi_model.specs.LawClaims.{asks_next}
use Rattle.omi_model.specs.Lists.{fits, may_drop, opened, stays, take_item}
use Rattle.omi_model.specs.Rows.{first_of, main_items, member_items, task_items}
use Rattle.omi_model.specs.Shapes.{shape_of}
use Rattle.omi_model.proofs.EachObject.{start_list}
use Rattle.omi_model.proofs.ListLaws.{take_keeps}
use Rattle.omi_model.proofs.RowLaws.{KeepsPlain, KeepsRows, barrier_keeps, critical_keeps, group_keeps, last_keeps, main_keeps, member_keeps, row_keeps, shown_keeps, start_keeps, task_keeps}
use Rattle.omi_model.proofs.Slots.{false_true, none_some, some_same}

abbrev pub fork_next : List Item → Bool
fork_next (item.Fork f ∷ xs) = true
fork_next xs = false

abbrev pub IsPlain : List Item → Type 0
IsPlain xs = (asks_next xs ≡ false) × (fork_next xs ≡ false)

-- what may stand behind an item
abbrev pub Follows : Item → List Item → Type 0
Follows (item.Want num) xs = asks_next xs ≡ true
Follows item.Asks xs = fork_next xs ≡ true
Follows x xs = IsPlain xs

abbrev pub Placed : List Item → Type 0
Placed [] = Unit {0}
Placed (x ∷ xs) = Follows x xs × Placed xs

-- such a list that begins with neither
abbrev pub Plainly : List Item → Type 0
Plainly xs = IsPlain xs × Placed xs

plain_asks : KeepsPlain Plainly
plain_asks (item.Want num) xs plain h = absurd (false_true plain)
plain_asks item.Asks xs plain h = absurd (false_true plain)
plain_asks (item.Fork f) xs plain h = absurd (false_true plain)
plain_asks x xs plain h = ((refl, refl), h)

module _ (p : Program) where
  asks : (at : Encounter) → KeepsRows p at Plainly
  asks at = record {
    plain = plain_asks;
    fork = λ num f xs h. ((refl, refl), (refl, (refl, h)));
    taskwait = λ xs h. ((refl, refl), h);
    barrier = λ state xs other h. ((refl, refl), ((refl, refl), ((refl, refl), h)));
    first_barrier = λ state xs first h. ((refl, refl), ((refl, refl), ((refl, refl), ((refl, refl), h))));
    critical = λ k f xs h. ((refl, refl), critical_keeps Plainly plain_asks p at f (item.Unlock k ∷ xs) ((refl, refl), h));
    taskgroup = λ f xs h. ((refl, refl), group_keeps Plainly plain_asks p at f xs (λ ys q. ((refl, refl), ((refl, refl), q))) h);
  }

  pub take_placed : (at : Encounter) (e : Event) (xs : List Item) (y : Item) (ys : List Item)
      → take_item p at e xs ≡ Some (y, ys) → Placed xs → Placed (y ∷ ys)
  take_placed at =
      take_keeps p at Placed (λ x xs may h. h.1)
      (λ s xs h. (row_keeps p at Plainly (asks at) (shape_of s) xs h).1)

  pub task_plain : (f : ℕ) → Plainly (task_items p f)
  task_plain f = task_keeps Plainly plain_asks p f ((refl, refl), ((refl, refl), tt))

  pub member_plain : (at : Encounter) (f : ℕ) → Plainly (member_items p at f)
  member_plain at f =
      member_keeps Plainly plain_asks p at f
      (barrier_keeps p at Plainly (asks at) _ _ (last_keeps Plainly ((refl, refl), ((refl, refl), tt)) ((refl, refl), ((refl, refl), tt)) at.number))

  pub main_plain : (at : Encounter) → Plainly (main_items at (body_of p.funcs p.main))
  main_plain at =
      main_keeps Plainly plain_asks p at
      (barrier_keeps p at Plainly (asks at) _ (item.Done ∷ []) ((refl, refl), ((refl, refl), tt)))

pub start_plain : (x : Item) (at : Encounter) (xs : List Item) → Plainly xs → Plainly (start_list x at xs)
start_plain x at xs h = start_keeps Plainly plain_asks x at xs h

-- ---- what an event leaves

asks_no_fork : (xs : List Item) → asks_next xs ≡ true → fork_next xs ≡ false
asks_no_fork [] h = absurd (false_true h)
asks_no_fork (item.Asks ∷ xs) h = refl
asks_no_fork (x ∷ xs) h = absurd (false_true h)

-- such a list does not begin with a fork
abbrev pub StartsPlaced : List Item → Type 0
StartsPlaced xs = Placed xs × (fork_next xs ≡ false)

pub stays_placed : (at : Encounter) (e : Event) (y : Item) (ys : List Item) → Placed (y ∷ ys)
    → StartsPlaced (stays at e y ys)
stays_placed at e item.Asks ys h = (h, refl)
stays_placed at e item.Serve ys h =
    let q = shown_keeps Plainly plain_asks at _ 0 (item.Offer ∷ item.Serve ∷ ys) ((refl, refl), ((refl, refl), h)) in (q.1, q.0.1)
stays_placed at e (item.Tasks state) ys h =
    let q = shown_keeps Plainly plain_asks at state 0 (item.Tasks state ∷ ys) ((refl, refl), h) in (q.1, q.0.1)
stays_placed at e (item.Want num) ys h = (h.1, asks_no_fork ys h.0)
stays_placed at (event.Seen j) (item.Defer seen f final) ys h = (h, refl)
stays_placed at e y ys h = (h.1, h.0.1)

-- the items of which an event may leave the asks at the head
abbrev pub is_asking : Item → Bool
is_asking (item.Want num) = true
is_asking item.Asks = true
is_asking x = false

pub stays_asking : (at : Encounter) (e : Event) (y : Item) (ys : List Item) → Placed (y ∷ ys)
    → asks_next (stays at e y ys) ≡ true → is_asking y ≡ true
stays_asking at e item.Asks ys h is = refl
stays_asking at e (item.Want num) ys h is = refl
stays_asking at e item.Serve ys h is =
    let q = shown_keeps Plainly plain_asks at _ 0 (item.Offer ∷ item.Serve ∷ ys) ((refl, refl), ((refl, refl), h)) in absurd (false_true (sym q.0.0 ∙ is))
stays_asking at e (item.Tasks state) ys h is =
    let q = shown_keeps Plainly plain_asks at state 0 (item.Tasks state ∷ ys) ((refl, refl), h) in absurd (false_true (sym q.0.0 ∙ is))
stays_asking at (event.Seen j) (item.Defer seen f final) ys h is = absurd (false_true is)
stays_asking at e y ys h is = absurd (false_true (sym h.0.0 ∙ is))

-- ---- which events take the asks or the fork

-- an ask or a fork
abbrev pub is_forking : Item → Bool
is_forking item.Asks = true
is_forking (item.Fork f) = true
is_forking x = false

abbrev at_head : Item → List Item → Item × List Item
at_head x xs = (x, xs)

first_plain : (at : Encounter) (s : Stmt) → is_forking (first_of at s) ≡ false
first_plain at (stmt.Only m f) = go (at.number == m)
  where
    go : (c : Bool) → is_forking (if c then item.Call f else item.Skip) ≡ false
    go true = refl
    go false = refl
first_plain at (stmt.Repeat zero f) = refl
first_plain at (stmt.Repeat (suc n) f) = refl
first_plain at s = refl

module _ (p : Program) (at : Encounter) (e : Event) (y : Item) (ys : List Item) where
  head_plain : (x : Item) (xs : List Item) → IsPlain (x ∷ xs) → is_forking (opened p at x xs).0 ≡ false
  head_plain (item.Do s) xs h = first_plain at s
  head_plain item.Asks xs h = absurd (false_true (sym h.0))
  head_plain (item.Fork f) xs h = absurd (false_true (sym h.1))
  head_plain x xs h = refl

  dropped_plain : (x : Item) (xs : List Item) → may_drop x ≡ true → Plainly (x ∷ xs) → Plainly xs
  dropped_plain item.Asks xs may h = absurd (false_true (sym h.0.0))
  dropped_plain (item.Tasks state) xs may h = h.1
  dropped_plain item.OneTask xs may h = h.1
  dropped_plain (item.Frees n) xs may h = h.1
  dropped_plain x xs may h = absurd (false_true may)

  -- from a list that begins with neither, neither is taken
  plain_take : (xs : List Item) → Plainly xs → take_item p at e xs ≡ Some (y, ys) → is_forking y ≡ false
  plain_take [] h is = absurd (none_some refl is)
  plain_take (x ∷ xs) h is =
      fit (λ may t. plain_take xs (dropped_plain x xs may h) t) (fits e (opened p at x xs).0) is
    where
      dropped : (may_drop x ≡ true → take_item p at e xs ≡ Some (y, ys) → is_forking y ≡ false) → (d : Bool)
          → may_drop x ≡ d → (if d then take_item p at e xs else None) ≡ Some (y, ys) → is_forking y ≡ false
      dropped more true may t = more may t
      dropped more false may t = absurd (none_some refl t)

      fit : (may_drop x ≡ true → take_item p at e xs ≡ Some (y, ys) → is_forking y ≡ false) → (d : Bool)
          → (if d then Some (opened p at x xs) else (if may_drop x then take_item p at e xs else None)) ≡ Some (y, ys)
          → is_forking y ≡ false
      fit more true t =
          let same : opened p at x xs ≡ (y, ys) = some_same refl t in subst (λ (o : Item × List Item). is_forking o.0 ≡ false) same (head_plain x xs h.0)
      fit more false t = dropped more (may_drop x) refl t

  -- so an ask or a fork is taken where the asks stand at the head
  pub asks_at_head : (xs : List Item) → StartsPlaced xs → take_item p at e xs ≡ Some (y, ys)
      → is_forking y ≡ true → asks_next xs ≡ true
  asks_at_head xs h is forks = go (asks_next xs) refl
    where
      go : (b : Bool) → asks_next xs ≡ b → asks_next xs ≡ true
      go true e' = e'
      go false e' = absurd (false_true (sym (plain_take xs ((e', h.1), h.0) is) ∙ forks))

  fork_taken : (xs : List Item) → fork_next xs ≡ true → take_item p at e xs ≡ Some (y, ys)
      → is_forking y ≡ true
  fork_taken [] h is = absurd (false_true h)
  fork_taken (item.Fork f ∷ xs) h is = fit (fits e (item.Fork f)) is
    where
      fit : (d : Bool) → (if d then Some (at_head (item.Fork f) xs) else None) ≡ Some (y, ys)
          → is_forking y ≡ true
      fit true t =
          let same : at_head (item.Fork f) xs ≡ (y, ys) = some_same refl t in ap (λ (o : Item × List Item). is_forking o.0) (sym same)
      fit false t = absurd (none_some refl t)
  fork_taken (x ∷ xs) h is = absurd (false_true h)

  -- and where they do, nothing else is taken
  pub asks_taken : (xs : List Item) → Placed xs → asks_next xs ≡ true → take_item p at e xs ≡ Some (y, ys)
      → is_forking y ≡ true
  asks_taken [] h first is = absurd (false_true first)
  asks_taken (item.Asks ∷ xs) h first is = fit (fits e item.Asks) is
    where
      fit : (d : Bool) → (if d then Some (at_head item.Asks xs) else take_item p at e xs) ≡ Some (y, ys)
          → is_forking y ≡ true
      fit true t =
          let same : at_head item.Asks xs ≡ (y, ys) = some_same refl t in ap (λ (o : Item × List Item). is_forking o.0) (sym same)
      fit false t = fork_taken xs h.0 t
  asks_taken (x ∷ xs) h first is = absurd (false_true first)
