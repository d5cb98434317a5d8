-- The parts of inquiries are plain looks at the words.
use Rattle.std.proofs.Common.{◌≡◌, ◌==◌, ◌/◌, ℕ, Bool, true, false, cond, List, Option, Some, None, refl, sym, ap, subst}
use Rattle.std.specs.Prelude.{Result, Ok, Err, is_some}
use Rattle.std.specs.Option.{option_map, option_and_then, ok_or}
use Rattle.omi_handle.specs.declared.handle.Kind.{Kind}
use Rattle.omi_handle.specs.declared.handle.Held.{Held}
use Rattle.omi_model.specs.declared.id.Id.{Id}
use Rattle.omi_layout.specs.Named.{number}
use Rattle.omi_rep.specs.declared.fault.LookFault.TheVariants.{Damaged}
use Rattle.omi_rep.specs.Records.{record_at}
use Rattle.omi_rep.specs.Look.{Look, and_then, life_of, slot_at, is_live, look_word, look_object, look_optional}
use Rattle.omi_rep.specs.Look as look
use Rattle.omi_session.specs.declared.rc.Rc.{Rc}
use Rattle.omi_session.specs.declared.rc.Rc.TheVariants.{Unavailable, Error}
use Rattle.omi_session.specs.Named.{record_kind}
use Rattle.omi_session.specs.Reads.{Answer, Read, answer_on, after}
use Rattle.omi_session.specs.Inquiry.{place_of, object, word_of, lead, follow, follow_some}
use Rattle.omi_session.specs.Looked.{IsLook, IsOf, IsOptional, WordIsLooked, LeadIsLooked, ObjectIsLooked, OptionalIsLooked}
use Rattle.omi_session.proofs.Asked.{answer_then}

pub word_is_looked : WordIsLooked
unfolding word_of
word_is_looked w memory address f at = go (memory (place_of w address f at))
  where
    go : (o : Option ℕ)
        → IsLook {A = ℕ} {B = ℕ} (λ x y. x ≡ y) (ok_or o (Error address (number f))) (ok_or o (Damaged address (number f)))
    go None = refl
    go (Some x) = refl

-- the object of a record that begins at an address, by its life word
named : List ℕ → Kind → ℕ × ℕ → ℕ → Option Id
named w kind at life =
    cond (is_live (record_kind kind) life)
    (Some (record { creator = at.0; slot = at.1; generation = life / 2 })) None

pub lead_is_looked : LeadIsLooked
unfolding lead
lead_is_looked w memory kind f pointer = go (slot_at w (record_kind kind) pointer) refl
  where
    life : (at : ℕ × ℕ) → slot_at w (record_kind kind) pointer ≡ Some at → (o : Option ℕ)
        → IsLook (IsOf w) (ok_or (option_and_then (object kind pointer) o) (Error pointer (number f)))
        (ok_or (option_and_then (λ (life : ℕ). cond (is_live (record_kind kind) life) (Some (record { creator = at.0; slot = at.1; generation = life / 2 })) None) o) (Damaged pointer (number f)))
    life at there None = refl
    life at there (Some x) = live (is_live (record_kind kind) x)
      where
        live : (b : Bool)
            → IsLook (IsOf w) (ok_or (cond b (Some (record { kind = kind; addr = pointer; life = x })) None) (Error pointer (number f)))
            (ok_or (cond b (Some (record { creator = at.0; slot = at.1; generation = x / 2 })) None) (Damaged pointer (number f)))
        live true =
            ap (option_map (λ (at : ℕ × ℕ). record { creator = at.0; slot = at.1; generation = x / 2 })) there
        live false = refl

    go : (o : Option (ℕ × ℕ)) → slot_at w (record_kind kind) pointer ≡ o
        → IsLook (IsOf w)
        (answer_on memory (cond (is_some o)
        (Read (place_of w pointer (life_of (record_kind kind)) 0) (λ life. Answer (ok_or (option_and_then (object kind pointer) life) (Error pointer (number f)))))
        (Answer (Err (Error pointer (number f))))))
        (ok_or (option_and_then (λ (at : ℕ × ℕ). option_and_then (λ (life : ℕ). cond (is_live (record_kind kind) life) (Some (record { creator = at.0; slot = at.1; generation = life / 2 })) None)
        (record_at w memory pointer (number (life_of (record_kind kind))) 0)) o) (Damaged pointer (number f)))
    go None e = refl
    go (Some at) e = life at e (memory (place_of w pointer (life_of (record_kind kind)) 0))

pub object_is_looked : ObjectIsLooked
unfolding follow and_then
object_is_looked w memory kind address f at =
    subst (λ (a : Result Held Rc). IsLook (IsOf w) a (look_object w memory (record_kind kind) address f at))
    (sym (answer_then memory (word_of w address f at) (lead w kind f)))
    (go (answer_on memory (word_of w address f at)) (look_word w memory address f at) (word_is_looked w memory address f at))
  where
    go : (a : Result ℕ Rc) (b : Look ℕ) → IsLook {A = ℕ} {B = ℕ} (λ x y. x ≡ y) a b
        → IsLook (IsOf w) (answer_on memory (after a (lead w kind f)))
        (and_then b (look.lead w memory (record_kind kind) f))
    go (Ok x) (Ok y) same =
        subst
        (λ p. IsLook (IsOf w) (answer_on memory (lead w kind f x)) (look.lead w memory (record_kind kind) f p)) same
        (lead_is_looked w memory kind f x)
    go (Ok x) (Err fault) h = absurd h
    go (Err rc) (Ok y) h = absurd h
    go (Err rc) (Err fault) h = h

pub optional_is_looked : OptionalIsLooked
unfolding follow_some and_then
optional_is_looked w memory kind address f =
    subst (λ (a : Result Held Rc). IsOptional w a (look_optional w memory (record_kind kind) address f 0))
    (sym (answer_then memory (word_of w address f 0) (λ pointer. cond (pointer == 0) (Answer (Err Unavailable)) (lead w kind f pointer))))
    (go (answer_on memory (word_of w address f 0)) (look_word w memory address f 0) (word_is_looked w memory address f 0))
  where
    found : (a : Result Held Rc) (b : Look Id) → IsLook (IsOf w) a b
        → IsOptional w a (and_then b (λ n. Ok (Some n)))
    found (Ok h) (Ok n) is = is
    found (Ok h) (Err fault) is = absurd is
    found (Err rc) (Ok n) is = absurd is
    found (Err rc) (Err fault) is = is

    test : (x : ℕ) (b : Bool)
        → IsOptional w (answer_on memory (cond b (Answer (Err Unavailable)) (lead w kind f x)))
        (cond b (Ok None) (and_then (look.lead w memory (record_kind kind) f x) (λ n. Ok (Some n))))
    test x true = refl
    test x false =
        found (answer_on memory (lead w kind f x)) (look.lead w memory (record_kind kind) f x)
        (lead_is_looked w memory kind f x)

    go : (a : Result ℕ Rc) (b : Look ℕ) → IsLook {A = ℕ} {B = ℕ} (λ x y. x ≡ y) a b
        → IsOptional w
        (answer_on memory (after a (λ pointer. cond (pointer == 0) (Answer (Err Unavailable)) (lead w kind f pointer))))
        (and_then b (λ pointer. cond (pointer == 0) (Ok None) (and_then (look.lead w memory (record_kind kind) f pointer) (λ n. Ok (Some n)))))
    go (Ok x) (Ok y) same =
        subst (λ p. IsOptional w (answer_on memory (cond (x == 0) (Answer (Err Unavailable)) (lead w kind f x)))
        (cond (p == 0) (Ok None) (and_then (look.lead w memory (record_kind kind) f p) (λ n. Ok (Some n))))) same (test x (x == 0))
    go (Ok x) (Err fault) h = absurd h
    go (Err rc) (Ok y) h = absurd h
    go (Err rc) (Err fault) h = h
