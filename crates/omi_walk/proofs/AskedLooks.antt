-- What a walk asks is a plain look at the words: the parts of it, and one part after the other.
use Rattle.std.proofs.Common.{◌≡◌, ℕ, Bool, cond, List, [], ◌∷◌, Option, Some, None, refl, sym, ap, subst, ◌∙◌, eq-eqb}
use Rattle.std.specs.Option.{option_map, option_map_or}
use Rattle.std.specs.Prelude.{Result, Ok, Err}
use Rattle.omi_word.specs.Words.{Words}
use Rattle.omi_handle.specs.declared.handle.Kind.{Kind}
use Rattle.omi_handle.specs.declared.handle.Held.{Held}
use Rattle.omi_model.specs.declared.id.Id.{Id}
use Rattle.omi_layout.specs.declared.field.Field.{Field}
use Rattle.omi_rep.specs.declared.fault.LookFault.{LookFault}
use Rattle.omi_rep.specs.declared.fault.LookFault.TheVariants as look
use Rattle.omi_rep.specs.Look.{Look, and_then, mapped, each, id_address, look_word, look_object, look_optional}
use Rattle.omi_session.specs.declared.rc.Rc.{Rc}
use Rattle.omi_session.specs.declared.rc.Rc.TheVariants.{BadInput}
use Rattle.omi_session.specs.Handles.{name_of}
use Rattle.omi_session.specs.Inquiry.{object_of, live_handle, unchanged, word_of, follow, follow_some}
use Rattle.omi_session.specs.Looked.{IsLook, IsOf, IsOptional, IsFault}
use Rattle.omi_session.specs.Named.{record_kind}
use Rattle.omi_session.specs.Reads.{Reads, Answer, answer_on, after, then_reads}
use Rattle.omi_session.proofs.Asked.{answer_then}
use Rattle.omi_session.proofs.ShownParts.{then_answered}
use Rattle.omi_walk.specs.declared.fault.WalkFault.{WalkFault}
use Rattle.omi_walk.specs.declared.met.Met.{Met}
use Rattle.omi_walk.specs.Asking.{Asks, answering, with_answer, ask_each, ask_object, ask_maybe, maybe_absent, met}
use Rattle.omi_walk.specs.AskLooked.{as_fault}
use Rattle.omi_walk.specs.Fault.{fault_of, walked}
use Rattle.omi_walk.proofs.Goes.{answer_answering}
use Rattle.omi_walk.proofs.Looked.{look_by, optional_by, word_there, object_there, optional_there, followed_lives, optional_lives}
use Rattle.omi_walk.proofs.MemberLooks.{follow_kind, some_kind}
use Rattle.omi_walk.proofs.Names.{named_address}

-- ---- answers and looks

-- an answer is what a look gives, where a value of the one and of the other belong together, and is refused where it is
abbrev pub Alike : {A B : Type 0} → (A → B → Type 0) → Result A WalkFault → Look B → Type 0
Alike R (Ok x) (Ok y) = R x y
Alike R (Ok x) (Err fault) = ⊥
Alike R (Err why) (Ok y) = ⊥
Alike R (Err why) (Err fault) = why ≡ as_fault fault

-- the same value
abbrev pub Same : {A : Type 0} → A → A → Type 0
Same x y = x ≡ y

module _ {A B D E : Type 0} (R : A → B → Type 0) (S : D → E → Type 0) (memory : Words) where
  -- one after the other
  pub alike_then : (reads : Asks A) (more : A → Asks D) (l : Look B) (next : B → Look E)
      → Alike R (answer_on memory reads) l
      →
      ((x : A) (y : B) → answer_on memory reads ≡ Ok x → l ≡ Ok y → R x y → Alike S (answer_on memory (more x)) (next y))
      → Alike S (answer_on memory (then_reads reads more)) (and_then l next)
  unfolding and_then
  alike_then reads more l next first rest =
      subst (λ (a : Result D WalkFault). Alike S a (and_then l next)) (sym (answer_then memory reads more))
      (go (answer_on memory reads) l refl refl first)
    where
      go : (a : Result A WalkFault) (b : Look B) → answer_on memory reads ≡ a → l ≡ b → Alike R a b
          → Alike S (answer_on memory (after a more)) (and_then b next)
      go (Ok x) (Ok y) e f same = rest x y e f same
      go (Ok x) (Err fault) e f same = absurd same
      go (Err why) (Ok y) e f same = absurd same
      go (Err why) (Err fault) e f same = same

-- the same where both have one value
pub alike_on : {A D E : Type 0} (S : D → E → Type 0) (memory : Words) (reads : Asks A) (more : A → Asks D) (l : Look A) (next : A → Look E)
    → Alike Same (answer_on memory reads) l
    → ((x : A) → answer_on memory reads ≡ Ok x → l ≡ Ok x → Alike S (answer_on memory (more x)) (next x)) → Alike S (answer_on memory (then_reads reads more)) (and_then l next)
alike_on {A} S memory reads more l next first rest =
    alike_then (Same {A = A}) S memory reads more l next first
    (λ x y e f same. subst (λ z. Alike S (answer_on memory (more x)) (next z)) same (rest x e (f ∙ ap Ok (sym same))))

pub alike_map : {A B D E : Type 0} (R : A → B → Type 0) (S : D → E → Type 0) (memory : Words) (reads : Asks A) (f : A → D) (l : Look B) (g : B → E)
    → Alike R (answer_on memory reads) l
    → ((x : A) (y : B) → answer_on memory reads ≡ Ok x → l ≡ Ok y → R x y → S (f x) (g y)) → Alike S (answer_on memory (with_answer f reads)) (mapped g l)
unfolding with_answer
alike_map R S memory reads f l g first rest =
    alike_then R S memory reads (λ x. Answer (Ok (f x))) l (λ y. Ok (g y)) first rest

-- lists whose elements belong together
abbrev pub AllAlike : {A B : Type 0} → (A → B → Type 0) → List A → List B → Type 0
AllAlike R [] [] = Unit {0}
AllAlike R [] (y ∷ ys) = ⊥
AllAlike R (x ∷ xs) [] = ⊥
AllAlike R (x ∷ xs) (y ∷ ys) = R x y × AllAlike R xs ys

-- the same answer with a look's value beside it
pub alike_with : {A B D : Type 0} (R : A → B → Type 0) (S : D → B → Type 0) (memory : Words) (reads : Asks A) (f : A → D) (l : Look B)
    → Alike R (answer_on memory reads) l
    → ((x : A) (y : B) → answer_on memory reads ≡ Ok x → l ≡ Ok y → R x y → S (f x) y) → Alike S (answer_on memory (with_answer f reads)) l
unfolding and_then
alike_with {A} {B} {D} R S memory reads f l first rest =
    subst (λ l. Alike S (answer_on memory (with_answer f reads)) l) (same l)
    (alike_map R S memory reads f l (λ y. y) first rest)
  where
    same : (l : Look B) → mapped (λ y. y) l ≡ l
    same (Ok y) = refl
    same (Err fault) = refl

pub alike_each : {X Z A B : Type 0} (Q : X → Z → Type 0) (R : A → B → Type 0) (memory : Words) (ask : X → Asks A) (l : Z → Look B)
    → ((x : X) (z : Z) → Q x z → Alike R (answer_on memory (ask x)) (l z))
    → (xs : List X) (zs : List Z) → AllAlike Q xs zs → Alike (AllAlike R) (answer_on memory (ask_each ask xs)) (each l zs)
unfolding ask_each
alike_each Q R memory ask l one [] [] both = tt
alike_each Q R memory ask l one [] (z ∷ zs) both = absurd both
alike_each Q R memory ask l one (x ∷ xs) [] both = absurd both
alike_each Q R memory ask l one (x ∷ xs) (z ∷ zs) both =
    alike_then R (AllAlike R) memory (ask x) (λ y. with_answer (λ ys. y ∷ ys) (ask_each ask xs)) (l z)
    (λ y. mapped (λ ys. y ∷ ys) (each l zs)) (one x z both.0)
    (λ a b e f r. alike_map (AllAlike R) (AllAlike R) memory (ask_each ask xs) (λ ys. a ∷ ys) (each l zs) (λ ys. b ∷ ys) (alike_each Q R memory ask l one xs zs both.1)
    (λ us vs e f rs. (r, rs)))

-- ---- inquiries

-- a refusal that is a look's fault is that fault to a walk
pub fault_is : (found : Option Held) (rc : Rc) (fault : LookFault) → IsFault rc fault
    → fault_of found rc ≡ as_fault fault
fault_is found rc (look.Damaged addr field) is = ap (fault_of found) is
fault_is found rc (look.Cycle addr) is = absurd is

-- the answer of an inquiry for a value
pub alike_walked : {A : Type 0} (memory : Words) (found : Option Held) (reads : Reads A) (l : Look A)
    → IsLook {A = A} {B = A} (λ x y. x ≡ y) (answer_on memory reads) l
    → Alike Same (answer_on memory (answering (walked found) reads)) l
alike_walked {A} memory found reads l looked =
    subst (λ (a : Result A WalkFault). Alike Same a l) (sym (answer_answering memory (walked found) reads))
    (go (answer_on memory reads) l looked)
  where
    go : (a : Result A Rc) (l : Look A) → IsLook {A = A} {B = A} (λ x y. x ≡ y) a l
        → Alike Same (walked found a) l
    go (Ok x) (Ok y) same = same
    go (Ok x) (Err fault) same = absurd same
    go (Err rc) (Ok y) same = absurd same
    go (Err rc) (Err fault) same = fault_is found rc fault same

-- the object of this name lives, and what is held is it
pub record Lives (w : List ℕ) (memory : Words) (kind : Kind) (h : Held) (n : Id) : Type 0 where
  pub of_kind : h.kind ≡ kind
  pub at : h.addr ≡ id_address w (record_kind kind) n
  pub lives : answer_on memory (unchanged w h) ≡ Ok h

pub record IsObject (w : List ℕ) (memory : Words) (kind : Kind) (m : Met) (n : Id) : Type 0 where
  pub name : m.name ≡ n
  pub lives : Lives w memory kind m.held n

-- the same of what may have been met
abbrev pub MaybeObject : List ℕ → Words → Kind → Option Met → Option Id → Type 0
MaybeObject w memory kind (Some m) (Some n) = IsObject w memory kind m n
MaybeObject w memory kind (Some m) None = ⊥
MaybeObject w memory kind None (Some n) = ⊥
MaybeObject w memory kind None None = Unit {0}

-- the name by which an object is met
abbrev name_from : Option Id → Id
name_from o = option_map_or (λ (n : Id). n) o (record { creator = 0; slot = 0; generation = 0 })

module _ (w : List ℕ) (memory : Words) (kind : Kind) where
  -- an object that was found has the name that it is met by
  pub found_object : (o : Held) (n : Id) → name_of w o ≡ Some n → answer_on memory (unchanged w o) ≡ Ok o
      → o.kind ≡ kind → IsObject w memory kind (met w o) n
  found_object o n named lives of_kind = record {
    name = ap name_from named;
    lives = record {
      of_kind = of_kind;
      at = named_address w o n named ∙ ap (λ k. id_address w (record_kind k) n) of_kind;
      lives = lives;
    };
  }

  -- what is found
  pub alike_object : (change : Result Held Rc → Result Held WalkFault) (reads : Reads Held) (l : Look Id)
      → IsLook (IsOf w) (answer_on memory reads) l
      →
      ((o : Held) → answer_on memory reads ≡ Ok o → (answer_on memory (unchanged w o) ≡ Ok o) × (o.kind ≡ kind))
      → ((o : Held) → change (Ok o) ≡ Ok o) → ((rc : Rc) (fault : LookFault) → IsFault rc fault → change (Err rc) ≡ Err (as_fault fault))
      → Alike (IsObject w memory kind) (answer_on memory (ask_object w change reads)) l
  unfolding ask_object with_answer
  alike_object change reads l looked living given refused =
      subst (λ (a : Result Met WalkFault). Alike (IsObject w memory kind) a l)
      (sym (answer_then memory (answering change reads) (λ x. Answer (Ok (met w x))) ∙ ap (λ a. answer_on memory (after a (λ x. Answer (Ok (met w x))))) (answer_answering memory change reads)))
      (go (answer_on memory reads) l refl looked)
    where
      go : (a : Result Held Rc) (l : Look Id) → answer_on memory reads ≡ a → IsLook (IsOf w) a l
          → Alike (IsObject w memory kind)
          (answer_on memory (after (change a) (λ x. Answer (Ok (met w x))))) l
      go (Ok o) (Ok n) e named =
          subst
          (λ a. Alike (IsObject w memory kind) (answer_on memory (after a (λ x. Answer (Ok (met w x))))) (Ok n))
          (sym (given o)) (found_object o n named (living o e).0 (living o e).1)
      go (Ok o) (Err fault) e same = absurd same
      go (Err rc) (Ok n) e same = absurd same
      go (Err rc) (Err fault) e same =
          subst
          (λ (a : Result Held WalkFault). Alike (IsObject w memory kind) (answer_on memory (after a (λ x. Answer (Ok (met w x))))) (Err fault))
          (sym (refused rc fault same)) refl

  -- and what may be found
  abbrev pub some_met : Option Held → Asks (Option Met)
  some_met x = Answer (Ok (option_map (met w) x))

  pub maybe_answers : (found : Option Held) (reads : Reads Held)
      → answer_on memory (ask_maybe w found reads) ≡ answer_on memory (after (maybe_absent found (answer_on memory reads)) some_met)
  unfolding ask_maybe with_answer
  maybe_answers found reads =
      answer_then memory (answering (maybe_absent found) reads) some_met
      ∙ ap (λ a. answer_on memory (after a some_met)) (answer_answering memory (maybe_absent found) reads)

  pub maybe_refused : {N : Type 0} (R : Option Met → N → Type 0) (found : Option Held) (rc : Rc) (fault : LookFault)
      → IsFault rc fault
      → Alike R (answer_on memory (after (maybe_absent {A = Held} found (Err rc)) some_met)) (Err fault)
  maybe_refused R found rc (look.Damaged addr field) is =
      subst
      (λ c. Alike R (answer_on memory (after (maybe_absent {A = Held} found (Err c)) some_met)) (Err (look.Damaged addr field)))
      (sym is) refl
  maybe_refused R found rc (look.Cycle addr) is = absurd is

  pub alike_maybe : (found : Option Held) (reads : Reads Held) (l : Look (Option Id))
      → IsOptional w (answer_on memory reads) l
      →
      ((o : Held) → answer_on memory reads ≡ Ok o → (answer_on memory (unchanged w o) ≡ Ok o) × (o.kind ≡ kind))
      → Alike (MaybeObject w memory kind) (answer_on memory (ask_maybe w found reads)) l
  alike_maybe found reads l looked living =
      subst (λ (a : Result (Option Met) WalkFault). Alike (MaybeObject w memory kind) a l)
      (sym (maybe_answers found reads)) (go (answer_on memory reads) l refl looked)
    where
      go : (a : Result Held Rc) (l : Look (Option Id)) → answer_on memory reads ≡ a → IsOptional w a l
          → Alike (MaybeObject w memory kind) (answer_on memory (after (maybe_absent found a) some_met)) l
      go (Ok o) (Ok (Some n)) e named = found_object o n named (living o e).0 (living o e).1
      go (Ok o) (Ok None) e same = absurd same
      go (Ok o) (Err fault) e same = absurd same
      go (Err rc) (Ok (Some n)) e same = absurd same
      go (Err rc) (Ok None) e same =
          subst
          (λ c. Alike (MaybeObject w memory kind) (answer_on memory (after (maybe_absent {A = Held} found (Err c)) some_met)) (Ok None))
          (sym same) tt
      go (Err rc) (Err fault) e same = maybe_refused (MaybeObject w memory kind) found rc fault same

-- ---- an object that is asked about

module _ (w : List ℕ) (memory : Words) (kind : Kind) (h : Held) (n : Id) (st : Lives w memory kind h n) where
  pub object_answers : answer_on memory (object_of w kind (Some h)) ≡ Ok h
  unfolding object_of
  object_answers =
      then_answered memory (Answer (live_handle kind (Some h))) (unchanged w) h
      (ap (λ (b : Bool). cond b (Ok h) (Err BadInput)) (eq-eqb _ _ (ap record_kind st.of_kind)))
      ∙ st.lives

  pub after_object : {A : Type 0} (more : Held → Reads A)
      → answer_on memory (then_reads (object_of w kind (Some h)) more) ≡ answer_on memory (more h)
  after_object more = then_answered memory (object_of w kind (Some h)) more h object_answers

  -- a word of its record
  pub word_looked : (f : Field) (at : ℕ)
      → IsLook {A = ℕ} {B = ℕ} (λ x y. x ≡ y) (answer_on memory (word_of w h.addr f at))
      (look_word w memory (id_address w (record_kind kind) n) f at)
  word_looked f at = word_there w memory f at st.at

  -- the object to which one points
  pub alike_follow : (target : Kind) (f : Field) (at : ℕ) (reads : Reads Held)
      → reads ≡ then_reads (object_of w kind (Some h)) (λ o. follow w target o.addr f at)
      → Alike (IsObject w memory target) (answer_on memory (ask_object w (walked (Some h)) reads))
      (look_object w memory (record_kind target) (id_address w (record_kind kind) n) f at)
  alike_follow target f at reads is =
      let here : answer_on memory reads ≡ answer_on memory (follow w target h.addr f at) =
      ap (answer_on memory) is ∙ after_object (λ o. follow w target o.addr f at) in
      alike_object w memory target (walked (Some h)) reads
      (look_object w memory (record_kind target) (id_address w (record_kind kind) n) f at)
      (look_by (IsOf w)
      (look_object w memory (record_kind target) (id_address w (record_kind kind) n) f at) here
      (object_there w memory target f at st.at))
      (λ o e. (
        followed_lives w memory (object_of w kind (Some h)) target f at (λ x. x.addr) o
            (sym (ap (answer_on memory) is) ∙ e),
        follow_kind w memory target h.addr f at o (sym here ∙ e),
      ))
      (λ o. refl) (λ rc fault same. ap Err (fault_is (Some h) rc fault same))

  -- and one that there may be
  pub alike_follow_some : (target : Kind) (f : Field) (reads : Reads Held)
      → reads ≡ then_reads (object_of w kind (Some h)) (λ o. follow_some w target o.addr f)
      → Alike (MaybeObject w memory target) (answer_on memory (ask_maybe w (Some h) reads))
      (look_optional w memory (record_kind target) (id_address w (record_kind kind) n) f 0)
  alike_follow_some target f reads is =
      let here : answer_on memory reads ≡ answer_on memory (follow_some w target h.addr f) =
      ap (answer_on memory) is ∙ after_object (λ o. follow_some w target o.addr f) in
      alike_maybe w memory target (Some h) reads
      (look_optional w memory (record_kind target) (id_address w (record_kind kind) n) f 0)
      (optional_by w (look_optional w memory (record_kind target) (id_address w (record_kind kind) n) f 0)
      here (optional_there w memory target f st.at))
      (λ o e. (
        optional_lives w memory (object_of w kind (Some h)) target f (λ x. x.addr) o
            (sym (ap (answer_on memory) is) ∙ e),
        some_kind w memory target h.addr f o (sym here ∙ e),
      ))
