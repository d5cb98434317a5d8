-- What the inquiries for a member of a region answer are plain looks, where the region has this size.
use Rattle.std.proofs.Common.{◌≡◌, ◌≢◌, ◌==◌, ◌&&◌, ◌<◌, ◌≤◌, leb-true, arith, ℕ, Bool, true, false, cond, nat_le, nat_lt, List, Option, Some, None, refl, sym, ap, subst, ◌∙◌}
use Rattle.std.proofs.lemmas.Bool.Decides.{nat_tests}
use Rattle.std.specs.Prelude.{Result, Ok, Err, is_some}
use Rattle.std.specs.Option.{option_and_then, ok_or}
use Rattle.std.specs.FinMap.{get}
use Rattle.omi_word.specs.Words.{Words}
use Rattle.omi_calls.specs.Told.{Told}
use Rattle.omi_handle.specs.declared.handle.Kind.{Kind}
use Rattle.omi_handle.specs.declared.handle.Kind.TheVariants.{Region, Task}
use Rattle.omi_handle.specs.declared.handle.Held.{Held}
use Rattle.omi_handle.specs.Ledger.{Ledger}
use Rattle.omi_layout.specs.declared.field.Field.{Field}
use Rattle.omi_layout.specs.declared.field.Field.TheVariants.{RegionSize, RegionTeam}
use Rattle.omi_layout.specs.Field.{regions, tasks}
use Rattle.omi_layout.specs.Named.{number}
use Rattle.omi_layout.specs.Table.{thread_count}
use Rattle.omi_model.specs.declared.id.Id.{Id}
use Rattle.omi_rep.specs.declared.fault.LookFault.TheVariants.{Damaged}
use Rattle.omi_rep.specs.Look.{Look, id_address, and_then, look_word, look_object, slot_at, is_live, life_of}
use Rattle.omi_rep.specs.LookView.{look_within}
use Rattle.omi_session.specs.declared.rc.Rc.{Rc}
use Rattle.omi_session.specs.declared.rc.Rc.TheVariants.{Unavailable, BadInput, Error}
use Rattle.omi_session.specs.Handles.{name_of}
use Rattle.omi_session.specs.Inquiry.{object, place_of, word_of, lead, follow, follow_some, team_size, member}
use Rattle.omi_session.specs.Looked.{IsLook, IsOf}
use Rattle.omi_session.specs.Made.{IsMade}
use Rattle.omi_session.specs.Named.{record_kind}
use Rattle.omi_session.specs.Opened.{Opened}
use Rattle.omi_session.specs.Reads.{Answer, Read, answer_on, after, then_reads}
use Rattle.omi_session.specs.Tells.{Tells}
use Rattle.omi_session.proofs.Asked.{answer_then}
use Rattle.omi_session.proofs.LookedLaws.{word_is_looked, object_is_looked}
use Rattle.omi_session.proofs.ShownParts.{then_answered}
use Rattle.omi_walk.specs.Objects.{Stands}
use Rattle.omi_walk.specs.Gives.{Looks}
use Rattle.omi_walk.specs.Fault.{fault_of, member_fault}
use Rattle.omi_walk.specs.Members.{HasSize}
use Rattle.omi_walk.proofs.Looked.{stands_at, after_object, last_part}

-- the object to which an address leads is of the kind that is asked for
lead_kind : (w : List ℕ) (memory : Words) (kind : Kind) (f : Field) (pointer : ℕ) (o : Held)
    → answer_on memory (lead w kind f pointer) ≡ Ok o → o.kind ≡ kind
unfolding lead
lead_kind w memory kind f pointer o is = place (is_some (slot_at w (record_kind kind) pointer)) is
  where
    live : (x : ℕ) (b : Bool)
        → ok_or (cond b (Some (record { kind = kind; addr = pointer; life = x })) None) (Error pointer (number f)) ≡ Ok o
        → o.kind ≡ kind
    live x true is =
        let same : record { kind = kind; addr = pointer; life = x } ≡ o = cc in ap (λ (h : Held). h.kind) (sym same)
    live x false is = absurd (cc)

    word : (found : Option ℕ)
        → ok_or (option_and_then (object kind pointer) found) (Error pointer (number f)) ≡ Ok o
        → o.kind ≡ kind
    word None is = absurd (cc)
    word (Some x) is = live x (is_live (record_kind kind) x) is

    place : (b : Bool)
        → answer_on memory (cond b (Read (place_of w pointer (life_of (record_kind kind)) 0) (λ life. Answer (ok_or (option_and_then (object kind pointer) life) (Error pointer (number f))))) (Answer (Err (Error pointer (number f))))) ≡ Ok o
        → o.kind ≡ kind
    place true is = word (memory (place_of w pointer (life_of (record_kind kind)) 0)) is
    place false is = absurd (cc)

pub follow_kind : (w : List ℕ) (memory : Words) (kind : Kind) (address : ℕ) (f : Field) (at : ℕ) (o : Held)
    → answer_on memory (follow w kind address f at) ≡ Ok o → o.kind ≡ kind
unfolding follow
follow_kind w memory kind address f at o is =
    let first = last_part memory (word_of w address f at) (lead w kind f) o is in lead_kind w memory kind f first.0 o first.1

pub some_kind : (w : List ℕ) (memory : Words) (kind : Kind) (address : ℕ) (f : Field) (o : Held)
    → answer_on memory (follow_some w kind address f) ≡ Ok o → o.kind ≡ kind
unfolding follow_some
some_kind w memory kind address f o is =
    let first =
    last_part memory (word_of w address f 0)
    (λ pointer. cond (pointer == 0) (Answer (Err Unavailable)) (lead w kind f pointer)) o is in
    go first.0 (first.0 == 0) first.1
  where
    go : (p : ℕ) (b : Bool) → answer_on memory (cond b (Answer (Err Unavailable)) (lead w kind f p)) ≡ Ok o
        → o.kind ≡ kind
    go p true is = absurd (cc)
    go p false is = lead_kind w memory kind f p o is

-- a word that is read within bounds is the one that is looked at
pub within_looked : (w : List ℕ) (memory : Words) (address : ℕ) (f : Field) (least most : ℕ)
    → IsLook {A = ℕ} {B = ℕ} (λ x y. x ≡ y)
    (answer_on memory (then_reads (word_of w address f 0) (λ x. Answer (cond (nat_le least x && nat_le x most) (Ok x) (Err (Error address (number f)))))))
    (look_within w memory address f least most)
unfolding and_then
within_looked w memory address f least most =
    subst
    (λ (a : Result ℕ Rc). IsLook {A = ℕ} {B = ℕ} (λ x y. x ≡ y) a (look_within w memory address f least most))
    (sym (answer_then memory (word_of w address f 0) (λ x. Answer (cond (nat_le least x && nat_le x most) (Ok x) (Err (Error address (number f)))))))
    (go (answer_on memory (word_of w address f 0)) (look_word w memory address f 0) (word_is_looked w memory address f 0))
  where
    test : (x : ℕ) (b : Bool)
        → IsLook {A = ℕ} {B = ℕ} (λ x y. x ≡ y) (cond b (Ok x) (Err (Error address (number f)))) (cond b (Ok x) (Err (Damaged address (number f))))
    test x true = refl
    test x false = refl

    go : (a : Result ℕ Rc) (l : Look ℕ) → IsLook {A = ℕ} {B = ℕ} (λ x y. x ≡ y) a l
        → IsLook {A = ℕ} {B = ℕ} (λ x y. x ≡ y)
        (answer_on memory (after a (λ x. Answer (cond (nat_le least x && nat_le x most) (Ok x) (Err (Error address (number f)))))))
        (and_then l (λ word. cond (nat_le least word && nat_le word most) (Ok word) (Err (Damaged address (number f)))))
    go (Ok x) (Ok y) same =
        subst (λ z. IsLook {A = ℕ} {B = ℕ} (λ x y. x ≡ y) (cond (nat_le least x && nat_le x most) (Ok x) (Err (Error address (number f))))
        (cond (nat_le least z && nat_le z most) (Ok z) (Err (Damaged address (number f))))) same (test x (nat_le least x && nat_le x most))
    go (Ok x) (Err fault) h = absurd h
    go (Err rc) (Ok y) h = absurd h
    go (Err rc) (Err fault) h = h

-- and so is the size of a region
pub size_looked : (w : List ℕ) (memory : Words) (address : ℕ)
    → IsLook {A = ℕ} {B = ℕ} (λ x y. x ≡ y) (answer_on memory (team_size w address))
    (look_within w memory address RegionSize 1 (thread_count w))
unfolding team_size
size_looked w memory address = within_looked w memory address RegionSize 1 (thread_count w)

and_right : (a b : Bool) → (a && b) ≡ true → b ≡ true
and_right true b e = e
and_right false b e = absurd (cc)

-- a word that is looked at within bounds is within them
within_bound : (w : List ℕ) (memory : Words) (address : ℕ) (f : Field) (least most x : ℕ)
    → look_within w memory address f least most ≡ Ok x → x ≤ most
unfolding and_then
within_bound w memory address f least most x is = go (look_word w memory address f 0) is
  where
    test : (y : ℕ) (b : Bool) → (nat_le least y && nat_le y most) ≡ b
        → cond b (Ok y) (Err (Damaged address (number f))) ≡ Ok x → x ≤ most
    test y true e is =
        let same : y ≡ x = cc in let low : y ≤ most = leb-true y most (and_right (nat_le least y) (nat_le y most) e) in omega (arith, low, same)
    test y false e is = absurd (cc)

    go : (l : Look ℕ)
        → and_then l (λ word. cond (nat_le least word && nat_le word most) (Ok word) (Err (Damaged address (number f)))) ≡ Ok x
        → x ≤ most
    go (Ok y) is = test y (nat_le least y && nat_le y most) refl is
    go (Err fault) is = absurd (cc)

-- a size that is read is at most the number of threads, so a bound changes nothing
module _ {C F : Type 0} (told : C → Told) (s : Opened C F) (n : Id) (size count most : ℕ)
    (bound : most ≡ thread_count s.layout) (same : size ≤ most → count ≡ size)
    (has : HasSize told s n size) where
  count_is : (memory : Words) → Tells (told s.table.calls) memory → count ≡ size
  unfolding Looks
  count_is memory t =
      same
      (let low = within_bound s.layout memory (id_address s.layout regions n) RegionSize 1 (thread_count s.layout) size (has memory t) in omega (arith, low, bound))

  pub has_count : HasSize told s n count
  unfolding Looks
  has_count memory t = has memory t ∙ ap Ok (sym (count_is memory t))

-- what a look gives is what is answered
pub looked_ok : {A : Type 0} (a : Result A Rc) (l : Look A) (x : A)
    → IsLook {A = A} {B = A} (λ x y. x ≡ y) a l → l ≡ Ok x → a ≡ Ok x
looked_ok (Ok y) (Ok z) x same is = ap Ok (let second : z ≡ x = cc in same ∙ second)
looked_ok (Ok y) (Err fault) x same is = absurd same
looked_ok (Err rc) (Ok z) x same is = absurd same
looked_ok (Err rc) (Err fault) x same is = absurd (cc)

pub named_ok : (w : List ℕ) (a : Result Held Rc) (l : Look Id) (n : Id) → IsLook (IsOf w) a l → l ≡ Ok n
    → (o : Held) × (a ≡ Ok o) × (name_of w o ≡ Some n)
named_ok w (Ok o) (Ok m) n same is = (o, refl, same ∙ ap Some (let one : m ≡ n = cc in one))
named_ok w (Ok o) (Err fault) n same is = absurd same
named_ok w (Err rc) (Ok m) n same is = absurd same
named_ok w (Err rc) (Err fault) n same is = absurd (cc)

module _ {C F : Type 0} (told : C → Told) (s : Opened C F) (pair : ℕ × ℕ) (n : Id) (size num : ℕ)
    (st : Stands told s Region pair n) (has : HasSize told s n size)
    (memory : Words) (t : Tells (told s.table.calls) memory) where
  -- whether there is such a member is told by the size
  member_by : (b : Bool) → nat_lt num size ≡ b
      → answer_on memory (member s.layout (get s.handles.held pair) num) ≡ answer_on memory (cond b (follow s.layout Task st.object.addr RegionTeam num) (Answer (Err BadInput)))
  unfolding member Looks
  member_by b test =
      after_object told s Region pair n st memory t
      (λ region. then_reads (team_size s.layout region.addr) (λ size. cond (nat_lt num size) (follow s.layout Task region.addr RegionTeam num) (Answer (Err BadInput))))
      ∙ then_answered memory (team_size s.layout st.object.addr)
      (λ size. cond (nat_lt num size) (follow s.layout Task st.object.addr RegionTeam num) (Answer (Err BadInput))) size
      (looked_ok (answer_on memory (team_size s.layout st.object.addr)) _ size (size_looked s.layout memory st.object.addr)
      (ap (λ a. look_within s.layout memory a RegionSize 1 (thread_count s.layout)) (stands_at told s Region pair n st) ∙ has memory t))
      ∙ ap
      (λ (c : Bool). answer_on memory (cond c (follow s.layout Task st.object.addr RegionTeam num) (Answer (Err BadInput)))) test

module _ {C F : Type 0} (told : C → Told) (s : Opened C F) (pair : ℕ × ℕ) (n : Id) (size num : ℕ)
    (st : Stands told s Region pair n) (has : HasSize told s n size) (low : num < size)
    (memory : Words) (t : Tells (told s.table.calls) memory) where
  -- the task of the member is the one to which the team's word points
  member_answers : answer_on memory (member s.layout (get s.handles.held pair) num) ≡ answer_on memory (follow s.layout Task st.object.addr RegionTeam num)
  member_answers =
      member_by told s pair n size num st has memory t true
      (let yes : nat_lt num size ≡ true = grind (arith, nat_tests) in yes)

  pub member_looked : IsLook (IsOf s.layout) (answer_on memory (member s.layout (get s.handles.held pair) num)) (look_object s.layout memory tasks (id_address s.layout regions n) RegionTeam num)
  member_looked =
      subst
      (λ (a : Result Held Rc). IsLook (IsOf s.layout) a (look_object s.layout memory tasks (id_address s.layout regions n) RegionTeam num))
      (sym member_answers)
      (subst (λ a. IsLook (IsOf s.layout) (answer_on memory (follow s.layout Task st.object.addr RegionTeam num)) (look_object s.layout memory tasks a RegionTeam num)) (stands_at told s Region pair n st)
      (object_is_looked s.layout memory Task st.object.addr RegionTeam num))

-- ---- what is made of a refusal

-- of another refusal than that a number is out of range
other_fault : (found : Option Held) (rc : Rc) → rc ≢ BadInput → fault_of found rc ≡ member_fault found rc
other_fault found BadInput ne = absurd (ne refl)
other_fault found rc ne = refl

-- and it makes no handle
pub no_member : {A : Type 0} (new : Ledger) (pair : ℕ × ℕ) (answer : Result Held Rc) → answer ≡ Err BadInput
    → IsMade new (Ok pair) answer → A
no_member new pair answer is made =
    absurd (let clash : Err BadInput ≡ Ok made.object = sym is ∙ made.answers in cc)
