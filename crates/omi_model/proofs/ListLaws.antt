-- Laws of to-do lists: what holds of a list holds of an event's item and what stands behind it.
use Rattle.std.proofs.Common.{◌≡◌, ℕ, Bool, true, false, List, [], ◌∷◌, Some, None, if◌then◌else◌, refl, subst, Option, sym, ap, ◌∙◌}
use Rattle.omi_script.specs.declared.program.Program.{Program}
use Rattle.omi_script.specs.declared.statement.Stmt.{Stmt}
use Rattle.omi_model.specs.declared.encounter.Encounter.{Encounter}
use Rattle.omi_model.specs.declared.event.Event.{Event}
use Rattle.omi_model.specs.declared.event.Event.TheVariants as event
use Rattle.omi_model.specs.declared.id.Rid.{Rid}
use Rattle.omi_model.specs.declared.item.Item.{Item}
use Rattle.omi_model.specs.declared.item.Item.TheVariants as item
use Rattle.omi_model.specs.Lists.{fits, may_drop, opened, take_item}
use Rattle.omi_model.specs.Rows.{behind, first_of}
use Rattle.omi_model.proofs.Slots.{none_some, some_same, false_true}
use Rattle.omi_model.specs.Changes.{in_front}
use Rattle.omi_model.specs.declared.freeable.Freeable.{Freeable}
use Rattle.omi_model.specs.declared.freeable.Freeable.TheVariants as freeable
use Rattle.omi_model.specs.LawStays.{is_free}

-- a law of lists is kept where an item is passed over and where a statement is replaced by its row
module _ (p : Program) (at : Encounter) (P : List Item → Type 0)
    (drops : (x : Item) (xs : List Item) → may_drop x ≡ true → P (x ∷ xs) → P xs)
    (rows : (s : Stmt) (xs : List Item) → P (item.Do s ∷ xs) → P (first_of at s ∷ behind p at s xs)) where
  opened_keeps : (x : Item) (xs : List Item) → P (x ∷ xs) → P ((opened p at x xs).0 ∷ (opened p at x xs).1)
  opened_keeps (item.Do s) xs h = rows s xs h
  opened_keeps x xs h = h

  pub take_keeps : (e : Event) (xs : List Item) (y : Item) (ys : List Item)
      → take_item p at e xs ≡ Some (y, ys) → P xs → P (y ∷ ys)
  take_keeps e [] y ys is h = absurd (none_some refl is)
  take_keeps e (x ∷ xs) y ys is h =
      fit (λ t may. take_keeps e xs y ys t (drops x xs may h)) (fits e (opened p at x xs).0) is
    where
      dropped : (take_item p at e xs ≡ Some (y, ys) → may_drop x ≡ true → P (y ∷ ys)) → (d : Bool)
          → may_drop x ≡ d → (if d then take_item p at e xs else None) ≡ Some (y, ys) → P (y ∷ ys)
      dropped more true may t = more t may
      dropped more false may t = absurd (none_some refl t)

      fit : (take_item p at e xs ≡ Some (y, ys) → may_drop x ≡ true → P (y ∷ ys)) → (d : Bool)
          → (if d then Some (opened p at x xs) else (if may_drop x then take_item p at e xs else None)) ≡ Some (y, ys)
          → P (y ∷ ys)
      fit more true t =
          let same : opened p at x xs ≡ (y, ys) = some_same refl t in subst (λ (o : Item × List Item). P (o.0 ∷ o.1)) same (opened_keeps x xs h)
      fit more false t = dropped more (may_drop x) refl t

-- an event takes an item of its own
pub take_fits : (p : Program) (at : Encounter) (e : Event) (xs : List Item) (y : Item) (ys : List Item)
    → take_item p at e xs ≡ Some (y, ys) → fits e y ≡ true
take_fits p at e [] y ys is = absurd (none_some refl is)
take_fits p at e (x ∷ xs) y ys is = fit (take_fits p at e xs y ys) (fits e (opened p at x xs).0) refl is
  where
    dropped : (take_item p at e xs ≡ Some (y, ys) → fits e y ≡ true) → (d : Bool)
        → (if d then take_item p at e xs else None) ≡ Some (y, ys) → fits e y ≡ true
    dropped more true t = more t
    dropped more false t = absurd (none_some refl t)

    fit : (take_item p at e xs ≡ Some (y, ys) → fits e y ≡ true) → (d : Bool)
        → fits e (opened p at x xs).0 ≡ d
        → (if d then Some (opened p at x xs) else (if may_drop x then take_item p at e xs else None)) ≡ Some (y, ys) → fits e y ≡ true
    fit more true f t =
        let same : opened p at x xs ≡ (y, ys) = some_same refl t in subst (λ (o : Item × List Item). fits e o.0 ≡ true) same f
    fit more false f t = dropped more (may_drop x) t

-- ---- in front of a list

-- what stands in front of a list may be passed over
abbrev pub may_pass : Option Freeable → Bool
may_pass None = true
may_pass (Some n) = may_drop (item.Frees n)

-- an event takes its item of the list, or something is given back in front of it
pub by_taken : (p : Program) (at : Encounter) (e : Event) (f : Option Freeable) (xs : List Item) (y : Item) (ys : List Item)
    (Z : Event → Item → List Item → Type 0) → take_item p at e (in_front f xs) ≡ Some (y, ys)
    → (take_item p at e xs ≡ Some (y, ys) → Z e y ys)
    → ((g : Event) (n : Freeable) → Z g (item.Frees n) xs) → Z e y ys
by_taken p at e None xs y ys Z is from free = from is
by_taken p at e (Some n) xs y ys Z is from free = of_event n e refl is
  where
    front : Freeable → Item × List Item
    front m = (item.Frees m, xs)

    given_back : (m : Freeable) → Some (front m) ≡ Some (y, ys) → Z e y ys
    given_back m f =
        let same : front m ≡ (y, ys) = some_same refl f in
        subst (λ (o : Item × List Item). Z e o.0 o.1) same (free e m)

    of_event : (m : Freeable) (g : Event) → e ≡ g → take_item p at g (item.Frees m ∷ xs) ≡ Some (y, ys) → Z e y ys
    of_event m (event.FreeTask task) same f = given_back m f
    of_event (freeable.Joined region number) (event.FreeRegion of) same f =
        given_back (freeable.Joined region number) f
    of_event (freeable.Joined region number) g same f = absurd (none_some refl f)
    of_event (freeable.Finished task) g same f = from (ap (λ d. take_item p at d xs) same ∙ f)

-- any other event passes it over, where this may be
pub passes_front : (p : Program) (at : Encounter) (e : Event) (f : Option Freeable) (xs : List Item) → is_free e ≡ false
    → may_pass f ≡ true → take_item p at e (in_front f xs) ≡ take_item p at e xs
passes_front p at e None xs other may = refl
passes_front p at e (Some (freeable.Joined region number)) xs other may = absurd (false_true may)
passes_front p at (event.FreeTask task) (Some n) xs other may = absurd (false_true (sym other))
passes_front p at (event.FreeRegion region) (Some n) xs other may = absurd (false_true (sym other))
passes_front p at e (Some (freeable.Finished task)) xs other may = refl

-- and takes nothing where it may not
pub taken_may_pass : (p : Program) (at : Encounter) (e : Event) (f : Option Freeable) (xs : List Item) (x : Item × List Item)
    → is_free e ≡ false → take_item p at e (in_front f xs) ≡ Some x → may_pass f ≡ true
taken_may_pass p at e None xs x other is = refl
taken_may_pass p at e (Some (freeable.Finished task)) xs x other is = refl
taken_may_pass p at (event.FreeTask task) (Some n) xs x other is = absurd (false_true (sym other))
taken_may_pass p at (event.FreeRegion region) (Some n) xs x other is = absurd (false_true (sym other))
taken_may_pass p at e (Some (freeable.Joined region number)) xs x other is = absurd (none_some refl is)

-- so it takes its item of the list itself
pub taken_other : (p : Program) (at : Encounter) (e : Event) (f : Option Freeable) (xs : List Item) (x : Item × List Item)
    → is_free e ≡ false → take_item p at e (in_front f xs) ≡ Some x → take_item p at e xs ≡ Some x
taken_other p at e f xs x other is =
    sym (passes_front p at e f xs other (taken_may_pass p at e f xs x other is)) ∙ is

-- a region that is being given back is taken before all else
pub takes_joined : (p : Program) (at : Encounter) (e : Event) (n : Rid) (number : ℕ) (xs : List Item) (x : Item × List Item)
    → take_item p at e (item.Frees (freeable.Joined n number) ∷ xs) ≡ Some x
    → (is_free e ≡ true) × (x.0 ≡ item.Frees (freeable.Joined n number))
takes_joined p at (event.FreeTask task) n number xs x is = (refl, ap (λ (o : Item × List Item). o.0) (sym (some_same refl is)))
takes_joined p at (event.FreeRegion region) n number xs x is = (refl, ap (λ (o : Item × List Item). o.0) (sym (some_same refl is)))
takes_joined p at e n number xs x is = absurd (none_some refl is)

-- an item that stands for what may be given back
abbrev pub is_frees : Item → Bool
is_frees (item.Frees n) = true
is_frees y = false

pub taken_plain : (p : Program) (at : Encounter) (e : Event) (f : Option Freeable) (xs : List Item) (y : Item) (ys : List Item)
    → is_frees y ≡ false → take_item p at e (in_front f xs) ≡ Some (y, ys) → take_item p at e xs ≡ Some (y, ys)
taken_plain p at e f xs y ys plain is =
    by_taken p at e f xs y ys (λ g z zs. is_frees z ≡ false → take_item p at g xs ≡ Some (z, zs)) is (λ from h. from)
    (λ task n h. absurd (false_true (sym h))) plain

-- an event takes the head, once a statement is replaced by its row
pub takes_head : (p : Program) (at : Encounter) (e : Event) (x : Item) (xs : List Item) (y : Item) (zs : List Item)
    → opened p at x xs ≡ (y, zs) → fits e y ≡ true → take_item p at e (x ∷ xs) ≡ Some (y, zs)
takes_head p at e x xs y zs is fit =
    ap
    (λ (h : Item × List Item). if fits e h.0 then Some h else (if may_drop x then take_item p at e xs else None)) is
    ∙ ap (λ (b : Bool). if b then Some (y, zs) else (if may_drop x then take_item p at e xs else None)) fit
