-- What an inquiry on a handle answers is a plain look at the record of the handle's object.
use Rattle.std.proofs.Common.{◌≡◌, ◌==◌, arith, ℕ, Bool, true, false, cond, List, Option, Some, None, refl, sym, ap, subst, ◌∙◌, eq-eqb}
use Rattle.std.specs.Prelude.{Result, Ok, Err, is_some}
use Rattle.std.specs.Option.{option_and_then, ok_or}
use Rattle.std.specs.FinMap.{get, remove}
use Rattle.omi_calls.specs.Kept.{Kept}
use Rattle.omi_word.specs.Words.{Words}
use Rattle.omi_calls.specs.Told.{Told}
use Rattle.omi_handle.specs.declared.handle.Kind.{Kind}
use Rattle.omi_handle.specs.declared.handle.Held.{Held}
use Rattle.omi_handle.specs.Ledger.{Ledger}
use Rattle.omi_model.specs.declared.id.Id.{Id}
use Rattle.omi_layout.specs.declared.field.Field.{Field}
use Rattle.omi_layout.specs.Named.{number}
use Rattle.omi_rep.specs.declared.fault.LookFault.TheVariants as look
use Rattle.omi_rep.specs.Look.{Look, id_address, look_word, look_object, look_optional, slot_at, life_of, is_live}
use Rattle.omi_session.specs.declared.rc.Rc.{Rc}
use Rattle.omi_session.specs.declared.rc.Rc.TheVariants.{Unavailable, BadInput, Error}
use Rattle.omi_session.specs.Handles.{name_of}
use Rattle.omi_session.specs.Inquiry.{object, object_of, live_handle, unchanged, place_of, word_of, lead, follow, follow_some}
use Rattle.omi_session.specs.Looked.{IsLook, IsOf, IsOptional}
use Rattle.omi_session.specs.Made.{IsMade, IsMadeOf, Makes}
use Rattle.omi_session.specs.Named.{record_kind, IsNamed}
use Rattle.omi_session.specs.Opened.{Opened, Stays}
use Rattle.omi_session.specs.Reads.{Reads, Answer, Read, answer_on, after, then_reads}
use Rattle.omi_session.specs.Tells.{Tells}
use Rattle.omi_session.proofs.LookedLaws.{word_is_looked, object_is_looked, optional_is_looked}
use Rattle.omi_session.proofs.Asked.{answer_then}
use Rattle.omi_session.proofs.ShownParts.{then_answered, unchanged_told}
use Rattle.omi_session.proofs.Told.{still_tells}
use Rattle.omi_walk.specs.declared.met.Met.{Met}
use Rattle.omi_walk.specs.Leaves.{Leaves}
use Rattle.omi_walk.specs.Objects.{IsMet, Stands}
use Rattle.omi_walk.proofs.Names.{named_address, restored}

-- ---- answers and looks

-- an answer is the value that a look gives
abbrev pub ValueIs : {A : Type 0} → Result A Rc → Look A → Type 0
ValueIs {A} answer l = IsLook {A = A} {B = A} (λ x y. x ≡ y) answer l

-- an equal answer is the same look
pub value_by : {A : Type 0} (l : Look A) {a b : Result A Rc} → a ≡ b → ValueIs b l → ValueIs a l
value_by {A} l same looked = subst (λ (r : Result A Rc). ValueIs r l) (sym same) looked

pub look_by : {A B : Type 0} (R : A → B → Type 0) (l : Look B) {a b : Result A Rc} → a ≡ b
    → IsLook R b l → IsLook R a l
look_by {A} R l same looked = subst (λ (r : Result A Rc). IsLook R r l) (sym same) looked

pub optional_by : (w : List ℕ) (l : Look (Option Id)) {a b : Result Held Rc} → a ≡ b
    → IsOptional w b l → IsOptional w a l
optional_by w l same looked =
    subst (λ (r : Result Held Rc). IsOptional w r l) (sym same) looked

-- a word of the record that stands at an address, the object to which it points, and one that there may be
module _ (w : List ℕ) (memory : Words) where
  pub word_there : (f : Field) (at : ℕ) {there address : ℕ} → there ≡ address
      → ValueIs (answer_on memory (word_of w there f at)) (look_word w memory address f at)
  word_there f at {there} is =
      subst (λ a. ValueIs (answer_on memory (word_of w there f at)) (look_word w memory a f at)) is
      (word_is_looked w memory there f at)

  pub object_there : (target : Kind) (f : Field) (at : ℕ) {there address : ℕ} → there ≡ address
      → IsLook (IsOf w) (answer_on memory (follow w target there f at))
      (look_object w memory (record_kind target) address f at)
  object_there target f at {there} is =
      subst
      (λ a. IsLook (IsOf w) (answer_on memory (follow w target there f at))
      (look_object w memory (record_kind target) a f at)) is
      (object_is_looked w memory target there f at)

  pub optional_there : (target : Kind) (f : Field) {there address : ℕ} → there ≡ address
      → IsOptional w (answer_on memory (follow_some w target there f))
      (look_optional w memory (record_kind target) address f 0)
  optional_there target f {there} is =
      subst
      (λ a. IsOptional w (answer_on memory (follow_some w target there f))
      (look_optional w memory (record_kind target) a f 0)) is
      (optional_is_looked w memory target there f)

-- ---- faults

-- ---- handles

module _ {C F : Type 0} (told : C → Told) (s : Opened C F) (kind : Kind) (pair : ℕ × ℕ) (n : Id)
    (st : Stands told s kind pair n) where
  -- the record of the object is the one that its name has
  pub stands_at : st.object.addr ≡ id_address s.layout (record_kind kind) n
  stands_at =
      named_address s.layout st.object n st.met.name
      ∙ ap (λ k. id_address s.layout (record_kind k) n) st.met.of_kind

  module _ (memory : Words) (t : Tells (told s.table.calls) memory) where
    -- the object of the handle is found
    pub object_answers : answer_on memory (object_of s.layout kind (get s.handles.held pair)) ≡ Ok st.object
    unfolding object_of
    object_answers =
        then_answered memory (Answer (live_handle kind (get s.handles.held pair)))
        (unchanged s.layout) st.object
        (ap (live_handle kind) st.is ∙ ap (λ (b : Bool). cond b (Ok st.object) (Err BadInput)) (eq-eqb _ _ (ap record_kind st.met.of_kind)))
        ∙ st.met.lives memory t

    pub after_object : {A : Type 0} (more : Held → Reads A)
        → answer_on memory (then_reads (object_of s.layout kind (get s.handles.held pair)) more) ≡ answer_on memory (more st.object)
    after_object more =
        then_answered memory (object_of s.layout kind (get s.handles.held pair)) more st.object object_answers

    -- an inquiry for a word of its record
    pub word_looked : (f : Field) (at : ℕ)
        → ValueIs
        (answer_on memory (then_reads (object_of s.layout kind (get s.handles.held pair))
        (λ o. word_of s.layout o.addr f at)))
        (look_word s.layout memory (id_address s.layout (record_kind kind) n) f at)
    word_looked f at =
        value_by (look_word s.layout memory (id_address s.layout (record_kind kind) n) f at)
        (after_object (λ o. word_of s.layout o.addr f at))
        (word_there s.layout memory f at stands_at)

    -- an inquiry for the object to which a word of its record points
    pub object_looked : (target : Kind) (f : Field) (at : ℕ)
        → IsLook (IsOf s.layout)
        (answer_on memory (then_reads (object_of s.layout kind (get s.handles.held pair))
        (λ o. follow s.layout target o.addr f at)))
        (look_object s.layout memory (record_kind target)
        (id_address s.layout (record_kind kind) n) f at)
    object_looked target f at =
        let address : ℕ = id_address s.layout (record_kind kind) n in
        look_by (IsOf s.layout) (look_object s.layout memory (record_kind target) address f at)
        (after_object (λ o. follow s.layout target o.addr f at))
        (object_there s.layout memory target f at stands_at)

    pub optional_looked : (target : Kind) (f : Field)
        → IsOptional s.layout
        (answer_on memory (then_reads (object_of s.layout kind (get s.handles.held pair))
        (λ o. follow_some s.layout target o.addr f)))
        (look_optional s.layout memory (record_kind target)
        (id_address s.layout (record_kind kind) n) f 0)
    optional_looked target f =
        let address : ℕ = id_address s.layout (record_kind kind) n in
        optional_by s.layout (look_optional s.layout memory (record_kind target) address f 0)
        (after_object (λ o. follow_some s.layout target o.addr f))
        (optional_there s.layout memory target f stands_at)

-- ---- what was found

-- there is no such object
pub found_none : (w : List ℕ) (new : Ledger) (answer : Result Held Rc) (l : Look (Option Id))
    → IsMade new (Err Unavailable) answer → IsOptional w answer l → l ≡ Ok None
found_none w new (Ok h) l made looked = absurd (cc)
found_none w new (Err rc) (Ok (Some m)) made looked = absurd looked
found_none w new (Err rc) (Ok None) made looked = refl
found_none w new (Err rc) (Err (look.Damaged addr field)) made looked =
    let clash : Unavailable ≡ Error addr field = (let one : rc ≡ Unavailable = cc in sym one ∙ looked) in absurd (cc)
found_none w new (Err rc) (Err (look.Cycle addr)) made looked = absurd looked

-- ---- objects that live

-- the object to which an address leads lives
lead_lives : (w : List ℕ) (memory : Words) (kind : Kind) (f : Field) (pointer : ℕ) (o : Held)
    → answer_on memory (lead w kind f pointer) ≡ Ok o
    → answer_on memory (unchanged w o) ≡ Ok o
unfolding lead
lead_lives w memory kind f pointer o is = place (is_some (slot_at w (record_kind kind) pointer)) refl is
  where
    live : (x : ℕ) → memory (place_of w pointer (life_of (record_kind kind)) 0) ≡ Some x
        → is_some (slot_at w (record_kind kind) pointer) ≡ true
        → (b : Bool) → is_live (record_kind kind) x ≡ b
        → ok_or (cond b (Some (record { kind = kind; addr = pointer; life = x })) None) (Error pointer (number f)) ≡ Ok o
        → answer_on memory (unchanged w o) ≡ Ok o
    live x there slot true alive is =
        let same : record { kind = kind; addr = pointer; life = x } ≡ o = cc in
        subst (λ (h : Held). answer_on memory (unchanged w h) ≡ Ok h) same
        (unchanged_told w memory kind x pointer (record { place = slot; word = there; live = alive }))
    live x there slot false alive is = absurd (cc)

    word : (found : Option ℕ) → memory (place_of w pointer (life_of (record_kind kind)) 0) ≡ found
        → is_some (slot_at w (record_kind kind) pointer) ≡ true
        → ok_or (option_and_then (object kind pointer) found) (Error pointer (number f)) ≡ Ok o → answer_on memory (unchanged w o) ≡ Ok o
    word None there slot is = absurd (cc)
    word (Some x) there slot is = live x there slot (is_live (record_kind kind) x) refl is

    place : (b : Bool) → is_some (slot_at w (record_kind kind) pointer) ≡ b
        → answer_on memory (cond b (Read (place_of w pointer (life_of (record_kind kind)) 0) (λ life. Answer (ok_or (option_and_then (object kind pointer) life) (Error pointer (number f))))) (Answer (Err (Error pointer (number f))))) ≡ Ok o
        → answer_on memory (unchanged w o) ≡ Ok o
    place true slot is = word (memory (place_of w pointer (life_of (record_kind kind)) 0)) refl slot is
    place false slot is = absurd (cc)

-- what reads answer at their end
pub last_part : {A : Type 0} (memory : Words) (reads : Reads A) (more : A → Reads Held) (o : Held)
    → answer_on memory (then_reads reads more) ≡ Ok o
    → (x : A) × (answer_on memory (more x) ≡ Ok o)
last_part {A} memory reads more o is = go (answer_on memory reads) (sym (answer_then memory reads more) ∙ is)
  where
    go : (a : Result A Rc) → answer_on memory (after a more) ≡ Ok o
        → (x : A) × (answer_on memory (more x) ≡ Ok o)
    go (Ok x) is = (x, is)
    go (Err rc) is = absurd (cc)

pub followed_lives : {A : Type 0} (w : List ℕ) (memory : Words) (reads : Reads A) (kind : Kind) (f : Field) (at : ℕ) (address : A → ℕ) (o : Held)
    → answer_on memory (then_reads reads (λ x. follow w kind (address x) f at)) ≡ Ok o → answer_on memory (unchanged w o) ≡ Ok o
unfolding follow
followed_lives w memory reads kind f at address o is =
    let first = last_part memory reads (λ x. follow w kind (address x) f at) o is in
    let second = last_part memory (word_of w (address first.0) f at) (lead w kind f) o first.1 in
    lead_lives w memory kind f second.0 o second.1

pub optional_lives : {A : Type 0} (w : List ℕ) (memory : Words) (reads : Reads A) (kind : Kind) (f : Field) (address : A → ℕ) (o : Held)
    → answer_on memory (then_reads reads (λ x. follow_some w kind (address x) f)) ≡ Ok o → answer_on memory (unchanged w o) ≡ Ok o
unfolding follow_some
optional_lives w memory reads kind f address o is =
    let first = last_part memory reads (λ x. follow_some w kind (address x) f) o is in
    let second =
    last_part memory (word_of w (address first.0) f 0)
    (λ pointer. cond (pointer == 0) (Answer (Err Unavailable)) (lead w kind f pointer)) o first.1 in
    go second.0 (second.0 == 0) second.1
  where
    go : (p : ℕ) (b : Bool) → answer_on memory (cond b (Answer (Err Unavailable)) (lead w kind f p)) ≡ Ok o
        → answer_on memory (unchanged w o) ≡ Ok o
    go p true is = absurd (cc)
    go p false is = lead_lives w memory kind f p o is

-- ---- an object that was found and let go

module _ {C F : Type 0} (told : C → Told) (old mid new : Opened C F) (kind : Kind) (pair : ℕ × ℕ)
    (makes : Makes kind old.handles mid.handles (Ok pair)) (stays : Stays told old mid)
    (layout : new.layout ≡ mid.layout) (table : new.table ≡ mid.table) where
  -- all handles are as they were
  pub found_leaves : new.handles.held ≡ remove mid.handles.held pair → new.handles.made ≡ mid.handles.made
      → Leaves told 1 old new
  found_leaves removed made = record {
    stays = record {
      table = record {
        same = ap (λ (t : Kept C F). told t.calls) table ∙ stays.table.same;
        order = ap (λ (t : Kept C F). t.order) table ∙ stays.table.order;
        to_host = ap (λ (t : Kept C F). t.to_host) table ∙ stays.table.to_host;
      };
      layout = layout ∙ stays.layout;
    };
    held = removed ∙ ap (λ held. remove held pair) makes.adds.added ∙ restored old.handles.held pair makes.object makes.adds.unheld;
    later = omega (arith, made, makes.adds.counted);
    made = omega (arith, made, makes.adds.counted);
  }

  -- and it lives
  pub found_met : (m : Met) (reads : Reads Held) → get mid.handles.held pair ≡ Some m.held
      → m.held.kind ≡ kind → IsNamed mid.layout m.held → name_of mid.layout m.held ≡ Some m.name
      → IsMadeOf (told old.table.calls) mid.handles (Ok pair) reads
      →
      ((memory : Words) (o : Held) → answer_on memory reads ≡ Ok o → answer_on memory (unchanged old.layout o) ≡ Ok o)
      → IsMet told new kind m
  found_met m reads there of_kind place name answered lives = record {
    of_kind = of_kind;
    place = subst (λ w. IsNamed w m.held) (sym layout) place;
    name = ap (λ w. name_of w m.held) layout ∙ name;
    lives = λ memory t.
        let then : Tells (told old.table.calls) memory = still_tells (told new.table.calls) (told old.table.calls) memory
        (sym (ap (λ (t : Kept C F). told t.calls) table ∙ stays.table.same)) t in
        let made = answered memory then in
        let same : made.object ≡ m.held =
        (let both : Some made.object ≡ Some m.held = sym made.found ∙ there in cc) in
        subst (λ w. answer_on memory (unchanged w m.held) ≡ Ok m.held) (sym (layout ∙ stays.layout))
        (lives memory m.held (made.answers ∙ ap Ok same));
  }
