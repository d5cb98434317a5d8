-- A walk goes on from one look to the next, and ends at the first refusal.
use Rattle.std.proofs.Common.{append_assoc, append-nil, ◌≡◌, ◌≤◌, ◌<◌, ◌+◌, ◌-◌, ℕ, suc, List, [], ◌∷◌, ◌++◌, refl, sym, ap, subst, ◌∙◌, arith}
use Rattle.std.specs.FinMap.{get}
use Rattle.std.specs.List.{range_with_len}
use Rattle.std.specs.Prelude.{Result, Ok, Err}
use Rattle.omi_word.specs.Words.{Words}
use Rattle.omi_calls.specs.Told.{Told}
use Rattle.omi_handle.specs.declared.handle.Kind.{Kind}
use Rattle.omi_model.specs.declared.id.Id.{Id}
use Rattle.omi_rep.specs.Look.{Look, and_then, mapped, each}
use Rattle.omi_session.specs.Handles.{name_of}
use Rattle.omi_session.specs.Inquiry.{unchanged}
use Rattle.omi_session.specs.Named.{IsNamed}
use Rattle.omi_session.specs.Opened.{Opened, Stays}
use Rattle.omi_session.specs.Reads.{answer_on}
use Rattle.omi_session.specs.Tells.{Tells}
use Rattle.omi_session.proofs.Told.{still_tells, keeps_then}
use Rattle.omi_walk.specs.declared.fault.WalkFault.{WalkFault}
use Rattle.omi_walk.specs.declared.fault.WalkFault.TheVariants.{Damaged, Cycle, Callback, OutOfMemory}
use Rattle.omi_walk.specs.Gives.{Gives, Looks}
use Rattle.omi_walk.specs.declared.met.Met.{Met}
use Rattle.omi_walk.specs.Leaves.{Leaves}
use Rattle.omi_walk.specs.Objects.{IsMet, Stands}

-- ---- one memory

-- a refusal ends a look
pub stop_gives : {A B : Type 0} (f : WalkFault) (a : Look A) (b : A → Look B) → Gives {A = A} (Err f) a
    → Gives {A = B} (Err f) (and_then a b)
unfolding and_then
stop_gives (Damaged addr field) a b is = ap (λ l. and_then l b) is
stop_gives (Cycle addr) a b is = ap (λ l. and_then l b) is
stop_gives Callback a b is = tt
stop_gives OutOfMemory a b is = tt

pub then_gives : {A B : Type 0} (r : Result B WalkFault) (x : A) (a : Look A) (b : A → Look B) → a ≡ Ok x
    → Gives r (b x) → Gives r (and_then a b)
unfolding and_then
then_gives r x a b is rest = subst (λ l. Gives r (and_then l b)) (sym is) rest

-- a refusal is one of any look that is refused alike
pub same_gives : {A : Type 0} (r : Result A WalkFault) (a b : Look A) → a ≡ b → Gives r a → Gives r b
same_gives r a b is given = subst (Gives r) is given

-- ---- sessions

module _ {C F : Type 0} (told : C → Told) where
  -- what is told in a later session is told in the one before
  pub looks_before : {A : Type 0} (s t : Opened C F) (r : Result A WalkFault) (look : List ℕ → Words → Look A)
      → Stays told s t → Looks told t r look → Looks told s r look
  unfolding Looks
  looks_before s t r look stays there = λ memory tells.
      subst (λ w. Gives r (look w memory)) stays.layout
      (there memory (still_tells (told s.table.calls) (told t.table.calls) memory stays.table.same tells))

  -- an object that was met still lives, and a handle still stands for it
  pub met_after : (s t : Opened C F) (kind : Kind) (m : Met) → Stays told s t → IsMet told s kind m
      → IsMet told t kind m
  met_after s t kind m stays met = record {
    of_kind = met.of_kind;
    place = subst (λ w. IsNamed w m.held) (sym stays.layout) met.place;
    name = ap (λ w. name_of w m.held) stays.layout ∙ met.name;
    lives = λ memory tells. subst (λ w. answer_on memory (unchanged w m.held) ≡ Ok m.held) (sym stays.layout)
        (met.lives memory (still_tells (told t.table.calls) (told s.table.calls) memory (sym stays.table.same) tells));
  }

  pub stands_after : (most : ℕ) (s t : Opened C F) (kind : Kind) (pair : ℕ × ℕ) (n : Id)
      → Leaves told most s t → Stands told s kind pair n → Stands told t kind pair n
  stands_after most s t kind pair n leaves st = record {
    object = st.object;
    is = ap (λ held. get held pair) leaves.held ∙ st.is;
    met = met_after s t kind (record { name = n; held = st.object }) leaves.stays st.met;
  }

  -- a look gave this, and another one follows
  pub look_then : {A B : Type 0} (s t : Opened C F) (x : A) (r : Result B WalkFault) (a : List ℕ → Words → Look A) (b : List ℕ → Words → A → Look B)
      → Looks told s (Ok x) a → Stays told s t → Looks told t r (λ w memory. b w memory x) → Looks told s r (λ w memory. and_then (a w memory) (b w memory))
  unfolding Looks
  look_then s t x r a b first stays rest = λ memory tells.
      then_gives r x (a s.layout memory) (b s.layout memory) (first memory tells)
      (looks_before s t r (λ w memory. b w memory x) stays rest memory tells)

  -- a look was refused
  pub look_stops : {A B : Type 0} (s : Opened C F) (f : WalkFault) (a : List ℕ → Words → Look A) (b : List ℕ → Words → A → Look B)
      → Looks {A = A} told s (Err f) a → Looks {A = B} told s (Err f) (λ w memory. and_then (a w memory) (b w memory))
  unfolding Looks
  look_stops s f a b first =
      λ memory tells. stop_gives f (a s.layout memory) (b s.layout memory) (first memory tells)

  -- what is there is given
  pub look_is : {A : Type 0} (s : Opened C F) (x : A) → Looks told s (Ok x) (λ w memory. Ok x)
  unfolding Looks
  look_is s x = λ memory tells. refl

  -- want of memory, and a callback that failed, say nothing of a look
  pub look_unsaid : {A : Type 0} (s : Opened C F) (look : List ℕ → Words → Look A)
      → Looks told s (Err OutOfMemory) look
  unfolding Looks
  look_unsaid s look = λ memory tells. tt

  pub stays_then : (a b c : Opened C F) → Stays told a b → Stays told b c → Stays told a c
  stays_then a b c first second = record {
    table = keeps_then told a.table b.table c.table first.table second.table;
    layout = second.layout ∙ first.layout;
  }

  -- nothing was asked yet
  pub leaves_same : (most : ℕ) (s : Opened C F) → Leaves told most s s
  leaves_same most s = record {
    stays = record { table = record { same = refl; order = refl; to_host = refl }; layout = refl };
    held = refl;
    later = omega arith;
    made = omega arith;
  }

  -- what is left is left over two calls
  pub leaves_then : (m n most : ℕ) (a b c : Opened C F) → m + n ≤ most → Leaves told m a b → Leaves told n b c
      → Leaves told most a c
  leaves_then m n most a b c few first second = record {
    stays = stays_then a b c first.stays second.stays;
    held = second.held ∙ first.held;
    later = omega (arith, first.later, second.later);
    made = omega (arith, few, first.made, second.made);
  }

-- ---- one element after the other

-- to look at these elements so far gave those, and what is left to look at gives the rest
pub record EachSoFar {A B C F : Type 0} (told : C → Told) (s t : Opened C F) (look : List ℕ → Words → A → Look B) (all : List A) (ys : List B) (left : List A) : Type 0 where
  pub stays : Stays told s t
  pub rest : (memory : Words) → Tells (told s.table.calls) memory
      → each (look s.layout memory) all ≡ mapped (λ more. ys ++ more) (each (look s.layout memory) left)

pub mapped_same : {A : Type 0} (l : Look (List A)) → l ≡ mapped (λ more. [] ++ more) l
unfolding and_then
mapped_same (Ok x) = refl
mapped_same (Err fault) = refl

pub mapped_next : {A : Type 0} (ys : List A) (y : A) (l : Look (List A))
    → mapped (λ more. ys ++ more) (mapped (λ more. y ∷ more) l) ≡ mapped (λ more. (ys ++ y ∷ []) ++ more) l
unfolding and_then
mapped_next ys y (Ok more) = ap Ok (sym (append_assoc ys (y ∷ []) more))
mapped_next ys y (Err fault) = refl

module _ {A B C F : Type 0} (told : C → Told) (s : Opened C F) (look : List ℕ → Words → A → Look B)
    (all : List A) where
  pub each_begins : EachSoFar told s s look all [] all
  each_begins = record {
    stays = record { table = record { same = refl; order = refl; to_host = refl }; layout = refl };
    rest = λ memory tells. mapped_same (each (look s.layout memory) all);
  }

  module _ (t : Opened C F) (ys : List B) where
    pub each_next : (u : Opened C F) (x : A) (left : List A) (y : B)
        → EachSoFar told s t look all ys (x ∷ left) → Looks told t (Ok y) (λ w memory. look w memory x)
        → Stays told t u
        → EachSoFar told s u look all (ys ++ y ∷ []) left
    unfolding Looks and_then
    each_next u x left y so first stays = record {
      stays = stays_then told s t u so.stays stays;
      rest = λ memory tells.
          so.rest memory tells
          ∙ ap
          (λ (l : Look B). mapped (λ more. ys ++ more) (and_then l (λ z. mapped (λ more. z ∷ more) (each (look s.layout memory) left))))
          (looks_before told s t (Ok y) (λ w memory. look w memory x) so.stays first memory tells)
          ∙ mapped_next ys y (each (look s.layout memory) left);
    }

    pub each_stops : (x : A) (left : List A) (f : WalkFault) → EachSoFar told s t look all ys (x ∷ left)
        → Looks {A = B} told t (Err f) (λ w memory. look w memory x)
        → Looks {A = List B} told s (Err f) (λ w memory. each (look w memory) all)
    unfolding Looks and_then
    each_stops x left f so first = λ memory tells.
        same_gives (Err f) (mapped (λ more. ys ++ more) (each (look s.layout memory) (x ∷ left)))
        (each (look s.layout memory) all) (sym (so.rest memory tells))
        (stop_gives f (each (look s.layout memory) (x ∷ left)) (λ more. Ok (ys ++ more))
        (stop_gives f (look s.layout memory x) (λ z. mapped (λ more. z ∷ more) (each (look s.layout memory) left))
        (looks_before told s t (Err f) (λ w memory. look w memory x) so.stays first memory tells)))

    pub each_ends : EachSoFar told s t look all ys []
        → Looks told s (Ok ys) (λ w memory. each (look w memory) all)
    unfolding Looks and_then
    each_ends so = λ memory tells. so.rest memory tells ∙ ap Ok (append-nil ys)

-- the numbers that are left begin with the next
pub next_range : (i n : ℕ) → i < n → range_with_len i (n - i) ≡ i ∷ range_with_len (i + 1) (n - (i + 1))
next_range i n below = let one : n - i ≡ suc (n - (i + 1)) = omega (arith, below) in ap (range_with_len i) one

-- and past the last there is none
pub no_more : (i n : ℕ) → n ≤ i → range_with_len i (n - i) ≡ []
no_more i n over = let none : n - i ≡ 0 = omega (arith, over) in ap (range_with_len i) none
