use Rattle.std.proofs.Common.{◌≡◌, ℕ, ◌+◌, ◌*◌, Bool, false, true, cond, List, Option, Some, None, sym, ap, ◌∙◌, arith}
use Rattle.std.specs.Prelude.{Result, Err, is_err, is_some}
use Rattle.std.specs.Option.{option_and_then, ok_or}
use Rattle.omi_word.specs.Words.{Words}
use Rattle.omi_calls.specs.Asked.{Asked, AsksWord}
use Rattle.omi_calls.specs.Told.{Told}
use Rattle.omi_handle.specs.declared.handle.Held.{Held}
use Rattle.omi_handle.specs.declared.handle.Kind.{Kind}
use Rattle.omi_layout.specs.declared.field.Field.{Field}
use Rattle.omi_layout.specs.Named.{number}
use Rattle.omi_layout.specs.Table.{offset}
use Rattle.omi_rep.specs.Look.{slot_at, life_of}
use Rattle.omi_session.specs.declared.rc.Rc.{Rc}
use Rattle.omi_session.specs.declared.rc.Rc.TheVariants.{Error}
use Rattle.omi_session.specs.Named.{record_kind}
use Rattle.omi_session.specs.Inquiry.{lead, object, place_of}
use Rattle.omi_session.specs.Opened.{Opened}
use Rattle.omi_session.specs.Reads.{Answers}
use Rattle.omi_session.specs.Tells.{Tells}
use Rattle.omi_session.proofs.Asked.{asked_answer, asked_failed, asked_false, asked_once, asked_true, worked}
use Rattle.omi_session.proofs.asking.lead.Goals as goal

-- whether a record begins where the pointer leads, in the layout of a session
begins : {b : Bool} (t w : List ℕ) (kind : Kind) (pointer : ℕ) (place : Bool) → t ≡ w
    → place ≡ is_some (slot_at t (record_kind kind) pointer) → place ≡ b
    → is_some (slot_at w (record_kind kind) pointer) ≡ b
begins t w kind pointer place same value is =
    ap (λ l. is_some (slot_at l (record_kind kind) pointer)) (sym same) ∙ sym value ∙ is

-- how far its life word is from where it begins
life_offset : (t w : List ℕ) (kind : Kind) (f : Field) (n at front : ℕ) → front ≡ at → at ≡ offset t n → t ≡ w
    → n ≡ number f → f ≡ life_of (record_kind kind) → front ≡ offset w (number (life_of (record_kind kind)))
life_offset t w kind f n at front is there same numbered of_kind =
    is ∙ there ∙ (λ i. offset (same i) ((numbered ∙ ap number of_kind) i))

-- a record begins where the pointer leads, and its life word was read
lead_read : {C F Failed : Type 0} {told : C → Told} {asked : C → Asked} {s t : Opened C F} (w : List ℕ) (kind : Kind) (f : Field) (pointer front : ℕ)
    (found : Option ℕ) (result : Result Held Rc) → is_some (slot_at w (record_kind kind) pointer) ≡ true
    → front ≡ offset w (number (life_of (record_kind kind)))
    → AsksWord (told s.table.calls) (pointer + 8 * front) (asked s.table.calls) (asked t.table.calls) Failed → ¬ Failed
    → ((memory : Words) → Tells (told s.table.calls) memory → found ≡ memory (pointer + 8 * front))
    → result ≡ ok_or (option_and_then (object kind pointer) found) (Error pointer (number f))
    → Answers told asked s t result (lead w kind f pointer)
unfolding lead
lead_read w kind f pointer front found result some first asks here read is =
    let place : pointer + 8 * front ≡ place_of w pointer (life_of (record_kind kind)) 0 = omega (arith, first) in
    asked_true _ some (asked_once (pointer + 8 * front) place asks here (λ memory t.
    is ∙ ap (λ o. ok_or (option_and_then (object kind pointer) o) (Error pointer (number f))) (read memory t ∙ ap memory place)))

pub returns-then-not-is_place-clause-answer : goal.returns-then-not-is_place-clause-answer
unfolding lead
returns-then-not-is_place-clause-answer g c =
    let no : c.is_place.result ≡ false = grind arith in
    asked_false _
    (begins _ _ c.args.kind c.args.pointer _ c.layout.ensures c.is_place.ensures.value no)
    (asked_answer (ap (λ n. Err (Error c.args.pointer n)) c.number.ensures.value))

pub returns-in-Some-clause-answer : goal.returns-in-Some-clause-answer
returns-in-Some-clause-answer g c =
    let some : c.is_place.result ≡ true = grind arith in
    lead_read c.args.s.now.layout c.args.kind c.args.field c.args.pointer c.from-front.result c.in-Ok.found _
    (begins _ _ c.args.kind c.args.pointer _ c.layout.ensures c.is_place.ensures.value some)
    (life_offset _ _ c.args.kind _ _ _ _ c.from-front.ensures c.offset.ensures c.layout-2.ensures c.number-2.ensures.value c.life_field.ensures)
    c.peek.ensures.asked (worked c.in-Ok.is) c.in-Ok.ensures.word
    (ap
    (λ (b : Bool). ok_or (cond b (Some (record { kind = c.args.kind; addr = c.args.pointer; life = c.in-Some.life })) None) (Error c.args.pointer (number c.args.field)))
    (sym c.if-is_live.true ∙ c.is_live.ensures)
    ∙ ap
    (λ o. ok_or (option_and_then (object c.args.kind c.args.pointer) o) (Error c.args.pointer (number c.args.field)))
    (sym c.in-Some.is))

pub returns-in_default-found-clause-answer : goal.returns-in_default-found-clause-answer
returns-in_default-found-clause-answer g c =
    let some : c.is_place.result ≡ true = grind arith in
    lead_read c.args.s.now.layout c.args.kind c.args.field c.args.pointer c.from-front.result c.in-Ok.found _
    (begins _ _ c.args.kind c.args.pointer _ c.layout.ensures c.is_place.ensures.value some)
    (life_offset _ _ c.args.kind _ _ _ _ c.from-front.ensures c.offset.ensures c.layout-2.ensures c.number-2.ensures.value c.life_field.ensures)
    c.peek.ensures.asked (worked c.in-Ok.is) c.in-Ok.ensures.word
    (ap (λ n. Err (Error c.args.pointer n)) c.number.ensures.value
    ∙ ap
    (λ (b : Bool). ok_or (cond b (Some (record { kind = c.args.kind; addr = c.args.pointer; life = c.in-Some.life })) None) (Error c.args.pointer (number c.args.field)))
    (sym c.if-is_live.false ∙ c.is_live.ensures)
    ∙ ap
    (λ o. ok_or (option_and_then (object c.args.kind c.args.pointer) o) (Error c.args.pointer (number c.args.field)))
    (sym c.in-Some.is))

pub returns-in_default-found-2-clause-answer : goal.returns-in_default-found-2-clause-answer
returns-in_default-found-2-clause-answer g c =
    let some : c.is_place.result ≡ true = grind arith in
    lead_read c.args.s.now.layout c.args.kind c.args.field c.args.pointer c.from-front.result c.in-Ok.found _
    (begins _ _ c.args.kind c.args.pointer _ c.layout.ensures c.is_place.ensures.value some)
    (life_offset _ _ c.args.kind _ _ _ _ c.from-front.ensures c.offset.ensures c.layout-2.ensures c.number-2.ensures.value c.life_field.ensures)
    c.peek.ensures.asked (worked c.in-Ok.is) c.in-Ok.ensures.word
    (ap (λ n. Err (Error c.args.pointer n)) c.number.ensures.value
    ∙ ap
    (λ o. ok_or (option_and_then (object c.args.kind c.args.pointer) o) (Error c.args.pointer (number c.args.field)))
    (sym c.in_default-found.is))

pub returns-in_default-clause-answer : goal.returns-in_default-clause-answer
unfolding lead
returns-in_default-clause-answer g c =
    let some : c.is_place.result ≡ true = grind arith in
    let front : c.from-front.result ≡ offset c.args.s.now.layout (number (life_of (record_kind c.args.kind))) =
    life_offset _ _ c.args.kind _ _ _ _ c.from-front.ensures c.offset.ensures c.layout-2.ensures c.number-2.ensures.value c.life_field.ensures in
    let place : c.args.pointer + 8 * c.from-front.result ≡ place_of c.args.s.now.layout c.args.pointer (life_of (record_kind c.args.kind)) 0 =
    omega (arith, front) in
    asked_true _
    (begins _ _ c.args.kind c.args.pointer _ c.layout.ensures c.is_place.ensures.value some)
    (asked_failed (c.args.pointer + 8 * c.from-front.result) place c.peek.ensures.asked (ap is_err c.in_default.is))
