-- Slots where one object is changed or made: what stands under each name afterwards.
use Rattle.std.proofs.Common.{◌≡◌, ◌≢◌, ◌==◌, ℕ, ◌+◌, ◌⊎◌, inl, inr, Bool, true, false, cond, Option, Some, None, if◌then◌else◌, refl, sym, ap, ◌∙◌, subst, arith, eqb-true, eq-eqb, ne_eqb}
use Rattle.std.specs.Option.{option_map}
use Rattle.std.proofs.lemmas.Bool.{cases_eq}
use Rattle.omi_model.specs.declared.id.Id.{Id}
use Rattle.omi_model.specs.declared.slot.Slot.{Slot}
use Rattle.omi_model.specs.Put.{Slots, put, found, named, changed, emptied, gone, on, made}

pub none_some : {A : Type 0} {o : Option A} {x : A} → o ≡ None → o ≡ Some x → ⊥
none_some e f = cc

pub some_same : {A : Type 0} {o : Option A} {x y : A} → o ≡ Some x → o ≡ Some y → x ≡ y
some_same e f = cc

pub false_true : false ≡ true → ⊥
false_true h = cc

-- ---- one place

pub put_same : {A : Type 0} (m : ℕ → A) (i : ℕ) (x : A) → put m i x i ≡ x
put_same m i x = ap (λ b. cond b x (m i)) (eq-eqb i i refl)

pub put_other : {A : Type 0} (m : ℕ → A) (i j : ℕ) (x : A) → j ≢ i → put m i x j ≡ m j
put_other m i j x ne = ap (λ b. cond b x (m j)) (ne_eqb j i ne)

-- a fact of each place, where one place is replaced
pub each_put : {A : Type 0} (P : ℕ → A → Type 0) (m : ℕ → A) (i : ℕ) (x : A) → P i x → (j : ℕ)
    → (j ≢ i → P j (m j)) → P j (put m i x j)
each_put P m i x here j other = go (j == i) refl
  where
    clash : j == i ≡ true → j == i ≡ false → ⊥
    clash p q = cc

    go : (b : Bool) → j == i ≡ b → P j (cond b x (m j))
    go true e = subst (λ k. P k x) (sym (eqb-true j i e)) here
    go false e = other (λ same. clash (eq-eqb j i same) e)

-- ---- names

pub id_same : (n k : Id) → n.creator ≡ k.creator → n.slot ≡ k.slot → n.generation ≡ k.generation → n ≡ k
id_same n k a b c =
    ap (λ x. record { creator = x; slot = n.slot; generation = n.generation }) a
    ∙ (ap (λ x. record { creator = k.creator; slot = x; generation = n.generation }) b
    ∙ ap (λ x. record { creator = k.creator; slot = k.slot; generation = x }) c)

pub same_or_not : (n k : Id) → (n ≡ k) ⊎ (n ≡ k → ⊥)
same_or_not n k =
    go (cases_eq n.creator k.creator) (cases_eq n.slot k.slot) (cases_eq n.generation k.generation)
  where
    go : (n.creator ≡ k.creator) ⊎ (n.creator ≢ k.creator) → (n.slot ≡ k.slot) ⊎ (n.slot ≢ k.slot)
        → (n.generation ≡ k.generation) ⊎ (n.generation ≢ k.generation) → (n ≡ k) ⊎ (n ≡ k → ⊥)
    go (inl a) (inl b) (inl c) = inl (id_same n k a b c)
    go (inr ne) q r = inr (λ same. ne (ap (λ (x : Id). x.creator) same))
    go (inl a) (inr ne) r = inr (λ same. ne (ap (λ (x : Id). x.slot) same))
    go (inl a) (inl b) (inr ne) = inr (λ same. ne (ap (λ (x : Id). x.generation) same))

-- what is found is live
pub found_live : {A : Type 0} (g : ℕ) (slot : Slot A) (x : A) → found g slot ≡ Some x → slot.live ≡ Some x
found_live {A} g slot x e = go (slot.generations == g + 1) e
  where
    go : (b : Bool) → (if b then slot.live else None) ≡ Some x → slot.live ≡ Some x
    go true f = f
    go false f = absurd (none_some refl f)

-- ---- a slot that is changed

found_changed : {A : Type 0} (g : ℕ) (f : A → A) (slot : Slot A)
    → found g (changed g f slot) ≡ option_map f (found g slot)
found_changed {A} g f slot = go (slot.generations == g + 1) refl
  where
    go : (b : Bool) → slot.generations == g + 1 ≡ b
        → found g (if b then record { generations = slot.generations; live = option_map f slot.live } else slot) ≡ option_map f (if b then slot.live else None)
    go true e = ap (λ t. if t then option_map f slot.live else None) e
    go false e = ap (λ t. if t then slot.live else None) e

found_beside : {A : Type 0} (g h : ℕ) (f : A → A) (slot : Slot A) → g ≢ h
    → found g (changed h f slot) ≡ found g slot
found_beside {A} g h f slot ne = go (slot.generations == h + 1) refl
  where
    none : slot.generations == h + 1 ≡ true → slot.generations == g + 1 ≡ false
    none e =
        let is = eqb-true slot.generations (h + 1) e in ne_eqb slot.generations (g + 1) (λ same. ne (omega arith))

    go : (b : Bool) → slot.generations == h + 1 ≡ b
        → found g (if b then record { generations = slot.generations; live = option_map f slot.live } else slot) ≡ found g slot
    go true e =
        ap (λ t. if t then option_map f slot.live else None) (none e)
        ∙ sym (ap (λ t. if t then slot.live else None) (none e))
    go false e = refl

module _ {A : Type 0} (slots : Slots A) (k : Id) where
  -- the slot of a name, and the slots beside it
  at_slot : (x : Slot A) → put slots k.creator (put (slots k.creator) k.slot x) k.creator k.slot ≡ x
  at_slot x =
      ap (λ (row : ℕ → Slot A). row k.slot) (put_same slots k.creator (put (slots k.creator) k.slot x))
      ∙ put_same (slots k.creator) k.slot x

  pub each_slot : (P : ℕ → ℕ → Slot A → Type 0) (x : Slot A) → P k.creator k.slot x
      → ((c j : ℕ) → (c ≡ k.creator → j ≡ k.slot → ⊥) → P c j (slots c j)) → (c j : ℕ)
      → P c j (put slots k.creator (put (slots k.creator) k.slot x) c j)
  each_slot P x here other c j =
      each_put (λ d (row : ℕ → Slot A). P d j (row j)) slots k.creator (put (slots k.creator) k.slot x)
      (each_put (λ h (y : Slot A). P k.creator h y) (slots k.creator) k.slot x here j (λ ne. other k.creator j (λ a b. ne b)))
      c (λ ne. other c j (λ a b. ne a))

  pub on_same : (f : A → A) → named (on slots k f) k ≡ option_map f (named slots k)
  on_same f =
      ap (found k.generation) (at_slot (changed k.generation f (slots k.creator k.slot)))
      ∙ found_changed k.generation f (slots k.creator k.slot)

  pub on_other : (f : A → A) (n : Id) → (n ≡ k → ⊥) → named (on slots k f) n ≡ named slots n
  on_other f n ne =
      each_slot
      (λ c j (slot : Slot A). n.creator ≡ c → n.slot ≡ j → found n.generation slot ≡ found n.generation (slots c j))
      (changed k.generation f (slots k.creator k.slot))
      (λ a b. found_beside n.generation k.generation f (slots k.creator k.slot) (λ g. ne (id_same n k a b g)))
      (λ c j apart a b. refl) n.creator n.slot refl refl

  pub made_same : (x : A) → named (made slots k x) k ≡ Some x
  made_same x =
      ap (found k.generation) (at_slot (record { generations = k.generation + 1; live = Some x }))
      ∙ ap (λ t. if t then Some x else None) (eq-eqb (k.generation + 1) (k.generation + 1) refl)

  -- what is found afterwards under another name was there
  pub made_other : (x : A) (n : Id) (y : A) → (n ≡ k → ⊥) → named (made slots k x) n ≡ Some y
      → named slots n ≡ Some y
  made_other x n y ne e =
      each_slot
      (λ c j (slot : Slot A). n.creator ≡ c → n.slot ≡ j → found n.generation slot ≡ Some y → found n.generation (slots c j) ≡ Some y)
      (record { generations = k.generation + 1; live = Some x })
      (λ a b h. absurd (none_some (ap (λ t. if t then Some x else None) (ne_eqb (k.generation + 1) (n.generation + 1) (λ g. ne (id_same n k a b (omega arith))))) h))
      (λ c j apart a b h. h) n.creator n.slot refl refl e

  -- what was there is found afterwards, where the slot was empty
  pub made_stays : (x : A) (n : Id) (y : A) → (slots k.creator k.slot).live ≡ None → named slots n ≡ Some y
      → named (made slots k x) n ≡ Some y
  made_stays x n y empty e =
      each_slot
      (λ c j (slot : Slot A). n.creator ≡ c → n.slot ≡ j → found n.generation (slots c j) ≡ Some y → found n.generation slot ≡ Some y)
      (record { generations = k.generation + 1; live = Some x })
      (λ a b h. absurd (none_some empty (found_live n.generation (slots k.creator k.slot) y h)))
      (λ c j apart a b h. h) n.creator n.slot refl refl e

  pub made_beside : (x : A) (c j : ℕ) → (c ≡ k.creator → j ≡ k.slot → ⊥) → made slots k x c j ≡ slots c j
  made_beside x =
      each_slot (λ c j (slot : Slot A). (c ≡ k.creator → j ≡ k.slot → ⊥) → slot ≡ slots c j)
      (record { generations = k.generation + 1; live = Some x }) (λ apart. absurd (apart refl refl))
      (λ c j other apart. refl)

  -- an empty slot stays empty
  pub on_empty : (f : A → A) (c j : ℕ) → (slots c j).live ≡ None → (on slots k f c j).live ≡ None
  on_empty f =
      each_slot (λ c j (slot : Slot A). (slots c j).live ≡ None → slot.live ≡ None)
      (changed k.generation f (slots k.creator k.slot))
      (λ e. go ((slots k.creator k.slot).generations == k.generation + 1) e) (λ c j apart e. e)
    where
      go : (b : Bool) → (slots k.creator k.slot).live ≡ None
          → (if b then record { generations = (slots k.creator k.slot).generations; live = option_map f (slots k.creator k.slot).live } else slots k.creator k.slot).live ≡ None
      go true e = ap (option_map f) e
      go false e = e

  pub on_generations : (f : A → A) (c j : ℕ) → (on slots k f c j).generations ≡ (slots c j).generations
  on_generations f =
      each_slot (λ c j (slot : Slot A). slot.generations ≡ (slots c j).generations)
      (changed k.generation f (slots k.creator k.slot))
      (go ((slots k.creator k.slot).generations == k.generation + 1)) (λ c j apart. refl)
    where
      go : (b : Bool)
          → (if b then record { generations = (slots k.creator k.slot).generations; live = option_map f (slots k.creator k.slot).live } else slots k.creator k.slot).generations ≡ (slots k.creator k.slot).generations
      go true = refl
      go false = refl

-- ---- a slot that is emptied

pub found_generation : {A : Type 0} (g : ℕ) (slot : Slot A) (x : A) → found g slot ≡ Some x
    → slot.generations ≡ g + 1
found_generation {A} g slot x e = go (slot.generations == g + 1) refl e
  where
    go : (b : Bool) → slot.generations == g + 1 ≡ b → (if b then slot.live else None) ≡ Some x
        → slot.generations ≡ g + 1
    go true is h = eqb-true slot.generations (g + 1) is
    go false is h = absurd (none_some refl h)

module _ {A : Type 0} (h : ℕ) (slot : Slot A) where
  abbrev left : Bool → Slot A
  left b = if b then record { generations = slot.generations; live = None } else slot

  emptied_live : (x : A) → (emptied h slot).live ≡ Some x → slot.live ≡ Some x
  emptied_live x e = go (slot.generations == h + 1) e
    where
      go : (b : Bool) → (left b).live ≡ Some x → slot.live ≡ Some x
      go true f = absurd (none_some refl f)
      go false f = f

  emptied_generations : (emptied h slot).generations ≡ slot.generations
  emptied_generations = go (slot.generations == h + 1)
    where
      go : (b : Bool) → (left b).generations ≡ slot.generations
      go true = refl
      go false = refl

  -- what is found afterwards was there, and is not the object that is gone
  emptied_found : (g : ℕ) (x : A) → found g (emptied h slot) ≡ Some x → (found g slot ≡ Some x) × (g ≢ h)
  emptied_found g x e = go (slot.generations == h + 1) refl e
    where
      go : (b : Bool) → slot.generations == h + 1 ≡ b → found g (left b) ≡ Some x
          → (found g slot ≡ Some x) × (g ≢ h)
      go true is f = absurd (none_some refl (found_live g (left true) x f))
      go false is f = (f, λ same. differ (found_generation g slot x f) same is)
        where
          differ : slot.generations ≡ g + 1 → g ≡ h → slot.generations == h + 1 ≡ false → ⊥
          differ a b c = false_true (sym c ∙ eq-eqb slot.generations (h + 1) (a ∙ ap (λ n. n + 1) b))

  -- another object stays
  emptied_other : (g : ℕ) (x : A) → g ≢ h → found g slot ≡ Some x → found g (emptied h slot) ≡ Some x
  emptied_other g x ne e = go (slot.generations == h + 1) refl
    where
      go : (b : Bool) → slot.generations == h + 1 ≡ b → found g (left b) ≡ Some x
      go true is =
          let a = found_generation g slot x e in
          let b = eqb-true slot.generations (h + 1) is in absurd (ne (omega arith))
      go false is = e

module _ {A : Type 0} (slots : Slots A) (k : Id) where
  abbrev old_slot : Slot A
  old_slot = slots k.creator k.slot

  pub gone_live : (c j : ℕ) (x : A) → (gone slots k c j).live ≡ Some x → (slots c j).live ≡ Some x
  gone_live =
      each_slot slots k (λ c j (slot : Slot A). (x : A) → slot.live ≡ Some x → (slots c j).live ≡ Some x)
      (emptied k.generation old_slot) (emptied_live k.generation old_slot) (λ c j apart x e. e)

  pub gone_generations : (c j : ℕ) → (gone slots k c j).generations ≡ (slots c j).generations
  gone_generations =
      each_slot slots k (λ c j (slot : Slot A). slot.generations ≡ (slots c j).generations)
      (emptied k.generation old_slot) (emptied_generations k.generation old_slot) (λ c j apart. refl)

  pub gone_was : (n : Id) (x : A) → named (gone slots k) n ≡ Some x → named slots n ≡ Some x
  gone_was n x e =
      each_slot slots k
      (λ c j (slot : Slot A). found n.generation slot ≡ Some x → found n.generation (slots c j) ≡ Some x)
      (emptied k.generation old_slot)
      (λ f. (emptied_found k.generation old_slot n.generation x f).0) (λ c j apart f. f) n.creator n.slot e

  pub gone_apart : (x : A) → named (gone slots k) k ≡ Some x → ⊥
  gone_apart x e =
      (emptied_found k.generation old_slot k.generation x
      (sym (ap (found k.generation) (at_slot slots k (emptied k.generation old_slot))) ∙ e)).1 refl

  pub gone_other : (n : Id) (x : A) → (n ≡ k → ⊥) → named slots n ≡ Some x → named (gone slots k) n ≡ Some x
  gone_other n x ne e =
      each_slot slots k
      (λ c j (slot : Slot A). n.creator ≡ c → n.slot ≡ j → found n.generation (slots c j) ≡ Some x → found n.generation slot ≡ Some x)
      (emptied k.generation old_slot)
      (λ a b f. emptied_other k.generation old_slot n.generation x (λ same. ne (id_same n k a b same)) f)
      (λ c j apart a b f. f) n.creator n.slot refl refl e

-- ---- facts of each object by name

abbrev pub Each : {A : Type 0} → (Id → A → Type 0) → Slots A → Type 0
Each {A = A} P slots = (n : Id) (x : A) → named slots n ≡ Some x → P n x

pub map_some : {A : Type 0} (f : A → A) (o : Option A) (y : A) → option_map f o ≡ Some y
    → (x : A) × (o ≡ Some x) × (y ≡ f x)
map_some {A} f None y e = absurd (none_some refl e)
map_some {A} f (Some x) y e = (x, refl, cc)

pub each_on : {A : Type 0} (P : Id → A → Type 0) (slots : Slots A) (k : Id) (f : A → A) → Each P slots
    → ((x : A) → named slots k ≡ Some x → P k x → P k (f x)) → Each P (on slots k f)
each_on {A} P slots k f all keeps n y e = go (same_or_not n k)
  where
    go : (n ≡ k) ⊎ (n ≡ k → ⊥) → P n y
    go (inl same) =
        let (x, was, is) =
        map_some f (named slots k) y (sym (on_same slots k f) ∙ (ap (named (on slots k f)) (sym same) ∙ e)) in
        subst (λ m. P m y) (sym same) (subst (P k) (sym is) (keeps x was (all k x was)))
    go (inr ne) = all n y (sym (on_other slots k f n ne) ∙ e)

-- the same, where the fact becomes another one
pub each_on_to : {A : Type 0} (P Q : Id → A → Type 0) (slots : Slots A) (k : Id) (f : A → A) → Each P slots
    → ((x : A) → named slots k ≡ Some x → P k x → Q k (f x))
    → ((n : Id) (x : A) → (n ≡ k → ⊥) → named slots n ≡ Some x → P n x → Q n x) → Each Q (on slots k f)
each_on_to {A} P Q slots k f all here other n y e = go (same_or_not n k)
  where
    go : (n ≡ k) ⊎ (n ≡ k → ⊥) → Q n y
    go (inl same) =
        let (x, was, is) =
        map_some f (named slots k) y (sym (on_same slots k f) ∙ (ap (named (on slots k f)) (sym same) ∙ e)) in
        subst (λ m. Q m y) (sym same) (subst (Q k) (sym is) (here x was (all k x was)))
    go (inr ne) = let was = sym (on_other slots k f n ne) ∙ e in other n y ne was (all n y was)

pub each_made : {A : Type 0} (P : Id → A → Type 0) (slots : Slots A) (k : Id) (x : A) → Each P slots → P k x
    → Each P (made slots k x)
each_made {A} P slots k x all here n y e = go (same_or_not n k)
  where
    go : (n ≡ k) ⊎ (n ≡ k → ⊥) → P n y
    go (inl same) =
        let is : x ≡ y = some_same (made_same slots k x) (ap (named (made slots k x)) (sym same) ∙ e) in
        subst (λ m. P m y) (sym same) (subst (P k) is here)
    go (inr ne) = all n y (made_other slots k x n y ne e)

-- a relation between each object and what stands under its name afterwards
abbrev pub Later : {A : Type 0} → (A → A → Type 0) → Slots A → Slots A → Type 0
Later {A = A} R slots next =
    (n : Id) (x : A) → named slots n ≡ Some x → (y : A) × (named next n ≡ Some y) × R x y

pub later_on : {A : Type 0} (R : A → A → Type 0) → ((x : A) → R x x) → (slots : Slots A) (k : Id) (f : A → A)
    → ((x : A) → named slots k ≡ Some x → R x (f x)) → Later R slots (on slots k f)
later_on {A} R same slots k f here n x e = go (same_or_not n k)
  where
    go : (n ≡ k) ⊎ (n ≡ k → ⊥) → (y : A) × (named (on slots k f) n ≡ Some y) × R x y
    go (inl is) =
        let was : named slots k ≡ Some x = ap (named slots) (sym is) ∙ e in
        (f x, ap (named (on slots k f)) is ∙ (on_same slots k f ∙ ap (option_map f) was), here x was)
    go (inr ne) = (x, on_other slots k f n ne ∙ e, same x)

pub later_made : {A : Type 0} (R : A → A → Type 0) → ((x : A) → R x x) → (slots : Slots A) (k : Id) (new : A)
    → (slots k.creator k.slot).live ≡ None → Later R slots (made slots k new)
later_made R same slots k new empty n x e = (x, made_stays slots k new n x empty e, same x)

pub each_gone : {A : Type 0} (P : Id → A → Type 0) (slots : Slots A) (k : Id) → Each P slots
    → Each P (gone slots k)
each_gone P slots k all n x e = all n x (gone_was slots k n x e)
