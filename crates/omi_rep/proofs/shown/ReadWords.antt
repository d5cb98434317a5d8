-- What reads of words that show a state give: the word that stands there, and the object to which it leads.
use Rattle.std.proofs.Common.{◌≡◌, ◌==◌, ◌&&◌, ◌||◌, ℕ, suc, ◌+◌, ◌*◌, ◌/◌, ◌<◌, ◌≤◌, Bool, true, false, cond, List, [], ◌∷◌, length, map, Option, Some, None, refl, ap, ◌∙◌, arith}
use Rattle.std.specs.Prelude.{Ok, Err, Contains, nat_le, slice_get}
use Rattle.std.specs.Option.{option_map, option_map_or, option_and_then, ok_or}
use Rattle.std.specs.List.{AllZip, range_with_len}
use Rattle.std.proofs.lemmas.Bool.Decides.{nat_tests}
use Rattle.omi_layout.specs.declared.field.Field.{Field}
use Rattle.omi_layout.specs.Field.{IsKind, threads, regions, tasks}
use Rattle.omi_layout.specs.Named.{number}
use Rattle.omi_layout.specs.Place.{IsSlot}
use Rattle.omi_layout.specs.Valid.{IsValid}
use Rattle.omi_word.specs.Words.{Words}
use Rattle.omi_layout.proofs.Frame.{none_is_null, kind_2, kind_3, kind_4}
use Rattle.omi_model.specs.declared.id.Id.{Id}
use Rattle.omi_model.specs.declared.id.Rid.{Rid}
use Rattle.omi_model.specs.declared.id.Tid.{Tid}
use Rattle.omi_model.specs.State.{State}
use Rattle.omi_model.specs.Visible.{IsVisibleRegion, IsVisibleTask}
use Rattle.omi_model.specs.WellFormed.{HasBegun}
use Rattle.omi_rep.specs.declared.fault.LookFault.TheVariants.{Damaged, Cycle}
use Rattle.omi_rep.specs.Records.{record_at}
use Rattle.omi_rep.specs.Look.{Look, mapped, each, is_live, life_of, id_address, was_met, live_at, lead, look_word, look_object, look_optional, look_onward}
use Rattle.omi_rep.specs.LookView.{look_within}
use Rattle.omi_rep.specs.Shows.{Shows}
use Rattle.omi_rep.proofs.Looks.{step}
use Rattle.omi_rep.proofs.Same.{region_slot, task_slot}
use Rattle.omi_rep.specs.ShownLooks.{AreNames}
use Rattle.omi_rep.proofs.LiveObjects.{thread_lives, region_lives, task_lives}
use Rattle.omi_rep.proofs.Lists.{here, later}
use Rattle.omi_rep.proofs.Slots.{slot_found}

-- looks at all elements, each of which gives something
pub all_looked : {A B : Type 0} (look : A → Look B) (R : A → B → Type 0) (xs : List A)
    → ((x : A) → Contains xs x → (y : B) × (look x ≡ Ok y) × R x y)
    → (ys : List B) × (each look xs ≡ Ok ys) × AllZip R xs ys
all_looked look R [] gives = ([], refl, tt)
all_looked {A} {B} look R (x ∷ xs) gives =
    let (y, is, right) = gives x (here x xs) in
    let (ys, are, all) = all_looked look R xs (λ z inside. gives z (later x z xs inside)) in
    (y ∷ ys, step (look x) _ y _ is (step (each look xs) _ ys _ are refl), (right, all))

-- and this is told by a function
pub images_looked : {A B : Type 0} (look : A → Look B) (f : A → B) (xs : List A)
    → ((x : A) → Contains xs x → look x ≡ Ok (f x)) → each look xs ≡ Ok (map f xs)
images_looked look f [] gives = refl
images_looked look f (x ∷ xs) gives =
    step (look x) _ (f x) _ (gives x (here x xs))
    (step (each look xs) _ (map f xs) _ (images_looked look f xs (λ z inside. gives z (later x z xs inside))) refl)

-- looks by place at the elements of a list
pub places_looked : {A B : Type 0} (look : ℕ → Look B) (f : A → B) (a : ℕ) (xs : List A)
    → ((j : ℕ) (x : A) → slice_get xs j ≡ Some x → look (a + j) ≡ Ok (f x))
    → each look (range_with_len a (length xs)) ≡ Ok (map f xs)
places_looked look f a [] gives = refl
places_looked {A} {B} look f a (x ∷ xs) gives =
    step (look a) _ (f x) _ first
    (step (each look (range_with_len (a + 1) (length xs))) _ (map f xs) _ (places_looked look f (a + 1) xs rest) refl)
  where
    first : look a ≡ Ok (f x)
    first = let e : a ≡ a + 0 = omega arith in ap look e ∙ gives 0 x refl

    rest : (j : ℕ) (z : A) → slice_get xs j ≡ Some z → look (a + 1 + j) ≡ Ok (f z)
    rest j z is = let e : a + 1 + j ≡ a + suc j = omega arith in ap look e ∙ gives (suc j) z is

-- the address is met only where an element has it
pub not_met : {A : Type 0} (address : A → ℕ) (xs : List A) (at : ℕ)
    → ((x : A) → Contains xs x → address x ≡ at → ⊥) → was_met (map address xs) at ≡ false
not_met address [] at none = refl
not_met {A} address (x ∷ xs) at none =
    let other : address x == at ≡ false = (let differs = none x (here x xs) in grind (arith, nat_tests)) in
    ap (λ (b : Bool). b || was_met (map address xs) at) other
    ∙ not_met address xs at (λ y inside same. none y (later x y xs inside) same)

module _ (w : List ℕ) (words : Words) where
  -- a word that stands in a record
  pub word_looked : (address : ℕ) (f : Field) (at x : ℕ) → record_at w words address (number f) at ≡ Some x
      → look_word w words address f at ≡ Ok x
  word_looked address f at x stands = ap (λ o. ok_or o (Damaged address (number f))) stands

  -- one that is within bounds
  pub within_looked : (address : ℕ) (f : Field) (least most x : ℕ)
      → record_at w words address (number f) 0 ≡ Some x → least ≤ x → x ≤ most
      → look_within w words address f least most ≡ Ok x
  within_looked address f least most x stands low high =
      step _ _ x _ (word_looked address f 0 x stands)
      (let test : nat_le least x && nat_le x most ≡ true = grind (arith, nat_tests) in
      ap (λ (b : Bool). cond b (Ok x) (Err (Damaged address (number f)))) test)

  -- the live object whose record is in a slot
  pub live_found : IsValid w → (kind : ℕ) → IsKind kind → (n : Id) (life : ℕ) → IsSlot w kind n.creator n.slot
      → record_at w words (id_address w kind n) (number (life_of kind)) 0 ≡ Some life → is_live kind life ≡ true → life / 2 ≡ n.generation
      → live_at w words kind (id_address w kind n) ≡ Some n
  live_found valid kind known n life is word live half =
      ap (option_and_then (λ (at : ℕ × ℕ). option_and_then (λ (x : ℕ). cond (is_live kind x) (Some (record { creator = at.0; slot = at.1; generation = x / 2 })) None)
      (record_at w words (id_address w kind n) (number (life_of kind)) 0))) (slot_found w valid kind known n.creator n.slot is)
      ∙ ap
      (option_and_then (λ (x : ℕ). cond (is_live kind x) (Some (record { creator = n.creator; slot = n.slot; generation = x / 2 })) None)) word
      ∙ ap
      (λ (b : Bool). cond b (Some (record { creator = n.creator; slot = n.slot; generation = life / 2 })) None) live
      ∙ ap (λ (g : ℕ). Some (record { creator = n.creator; slot = n.slot; generation = g })) half

  module _ (kind : ℕ) (address : ℕ) (f : Field) where
    lead_looked : (n : Id) → live_at w words kind (id_address w kind n) ≡ Some n
        → lead w words kind f (id_address w kind n) ≡ Ok n
    lead_looked n live = ap (λ o. ok_or o (Damaged (id_address w kind n) (number f))) live

    -- the object to which a word points
    pub object_looked : (at : ℕ) (n : Id)
        → record_at w words address (number f) at ≡ Some (id_address w kind n)
        → live_at w words kind (id_address w kind n) ≡ Some n
        → look_object w words kind address f at ≡ Ok n
    object_looked at n stands live =
        step _ _ (id_address w kind n) _ (word_looked address f at _ stands) (lead_looked n live)

    -- the same of a word that may name none
    module _ {N : Type 0} (name : N → Id) (named : Option N)
        (positive : (n : N) → 0 < id_address w kind (name n))
        (lives : (n : N) → named ≡ Some n → live_at w words kind (id_address w kind (name n)) ≡ Some (name n))
        (stands : record_at w words address (number f) 0 ≡ Some (option_map_or (λ n. id_address w kind (name n)) named 0)) where
      pub optional_looked : look_optional w words kind address f 0 ≡ Ok (option_map name named)
      optional_looked =
          step _ _ (option_map_or (λ n. id_address w kind (name n)) named 0) _
          (word_looked address f 0 _ stands) (go named lives)
        where
          none : Look (Option Id)
          none = Ok None

          go : (o : Option N)
              → ((n : N) → o ≡ Some n → live_at w words kind (id_address w kind (name n)) ≡ Some (name n))
              → cond (option_map_or (λ n. id_address w kind (name n)) o 0 == 0) (Ok None)
              (mapped (λ (n : Id). Some n) (lead w words kind f (option_map_or (λ n. id_address w kind (name n)) o 0)))
              ≡ Ok (option_map name o)
          go None are = refl
          go (Some n) are =
              let some : id_address w kind (name n) == 0 ≡ false =
              (let low = positive n in grind (arith, nat_tests)) in
              ap
              (λ (b : Bool). cond b (Ok None) (mapped (λ (m : Id). Some m) (lead w words kind f (id_address w kind (name n))))) some
              ∙ step _ _ (name n) _ (lead_looked (name n) (are n refl)) refl

      -- and was not met before
      pub onward_looked : (met : List ℕ)
          → ((n : N) → named ≡ Some n → was_met met (id_address w kind (name n)) ≡ false)
          → look_onward w words kind met address f ≡ Ok (option_map name named)
      onward_looked met new = step _ _ (option_map name named) _ optional_looked (go named new)
        where
          go : (o : Option N) → ((n : N) → o ≡ Some n → was_met met (id_address w kind (name n)) ≡ false)
              → option_map_or (λ (n : Id). cond (was_met met (id_address w kind n)) (Err (Cycle (id_address w kind n))) (Ok (Some n))) (option_map name o) (Ok None) ≡ Ok (option_map name o)
          go None are = refl
          go (Some n) are =
              ap (λ (b : Bool). cond b (Err (Cycle (id_address w kind (name n)))) (Ok (Some (name n))))
              (are n refl)

-- a life word tells its generation
half_of : (g : ℕ) → (2 * g + 1) / 2 ≡ g
half_of g = omega arith

-- a thread as an object
abbrev pub thread_name : ℕ → Id
thread_name i = record { creator = i; slot = 0; generation = 0 }

module _ (w : List ℕ) (words : Words) (s : State) (valid : IsValid w) (names : AreNames s)
    (shown : Shows w words s) where
  -- the objects that words lead to
  pub thread_live : (i : ℕ) → HasBegun s i
      → live_at w words threads (id_address w threads (thread_name i)) ≡ Some (thread_name i)
  thread_live i has =
      let lives = thread_lives w words s valid shown i has in
      live_found w words valid threads kind_2 (thread_name i) 1
      (record { made_by = omega (arith, has.known, shown.within.count); within = omega arith }) lives.word lives.live refl

  pub region_live : (n : Rid) → IsVisibleRegion s n
      → live_at w words regions (id_address w regions n.0) ≡ Some n.0
  region_live n seen =
      let lives = region_lives w words s valid shown names n seen in
      live_found w words valid regions kind_3 n.0 (2 * n.0.generation + 1)
      (region_slot w words valid s shown n seen) lives.word lives.live (half_of n.0.generation)

  pub task_live : (k : Tid) → IsVisibleTask s k → live_at w words tasks (id_address w tasks k.0) ≡ Some k.0
  task_live k seen =
      let lives = task_lives w words s valid shown names k seen in
      live_found w words valid tasks kind_4 k.0 (2 * k.0.generation + 1)
      (task_slot w words valid s shown k seen) lives.word lives.live (half_of k.0.generation)

  pub region_somewhere : (n : Rid) → 0 < id_address w regions n.0
  region_somewhere n = none_is_null w valid 3 n.0.creator n.0.slot kind_3

  pub task_somewhere : (k : Tid) → 0 < id_address w tasks k.0
  task_somewhere k = none_is_null w valid 4 k.0.creator k.0.slot kind_4
