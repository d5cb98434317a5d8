-- What a session's look at a pointer tells: whether a live record of the kind is there, at the pointer itself.
use Rattle.std.proofs.Common.{◌≡◌, ◌≢◌, ◌==◌, ℕ, sym, ◌/◌, ◌∙◌, Bool, true, false, cond, List, Option, Some, None, refl, ap}
use Rattle.std.specs.Prelude.{Result, Ok, Err, is_some}
use Rattle.std.specs.Option.{option_and_then, ok_or}
use Rattle.omi_handle.specs.declared.handle.Kind.{Kind}
use Rattle.omi_handle.specs.declared.handle.Kind.TheVariants.{Thread, Region, Task}
use Rattle.omi_layout.specs.Field.{threads}
use Rattle.omi_handle.specs.declared.handle.Held.{Held}
use Rattle.omi_layout.specs.declared.field.Field.{Field}
use Rattle.omi_layout.specs.Named.{number}
use Rattle.omi_model.specs.declared.id.Id.{Id}
use Rattle.omi_rep.specs.Records.{record_at}
use Rattle.omi_rep.specs.Look.{life_of, slot_at, is_live, live_at}
use Rattle.omi_session.specs.declared.rc.Rc.{Rc}
use Rattle.omi_session.specs.declared.rc.Rc.TheVariants.{Error}
use Rattle.omi_session.specs.Inquiry.{place_of, object, lead, word_of}
use Rattle.omi_session.specs.Named.{record_kind}
use Rattle.omi_session.specs.Reads.{ReadsOr, answer_on}
use Rattle.omi_word.specs.Words.{Words}

chosen : {E A : Type 0} (memory : Words) (b : Bool) (first second : ReadsOr E A)
    → answer_on memory (cond b first second) ≡ cond b (answer_on memory first) (answer_on memory second)
chosen memory true first second = refl
chosen memory false first second = refl

module _ (kind : Kind) (pointer : ℕ) (why : Rc) where
  abbrev found : ℕ × ℕ → Bool → ℕ → Option Id
  found at b life = cond b (Some (record { creator = at.0; slot = at.1; generation = life / 2 })) None

  abbrev lives : Option ℕ → Option (ℕ × ℕ) → Option Id
  lives word slot =
      option_and_then (λ at. option_and_then (λ life. found at (is_live (record_kind kind) life) life) word) slot

  ok_life : (at : ℕ × ℕ) (b : Bool) (life : ℕ) (h : Held)
      → Ok h ≡ ok_or (cond b (Some (record { kind = kind; addr = pointer; life = life })) None) why
      → (is_some (found at b life) ≡ true) × (h.addr ≡ pointer)
  ok_life at true life h is =
      (refl, (let same : h ≡ record { kind = kind; addr = pointer; life = life } = cc in ap (λ (q : Held). q.addr) same))
  ok_life at false life h is = absurd (cc)

  err_life : (at : ℕ × ℕ) (b : Bool) (life : ℕ) (rc : Rc)
      → ◌≡◌ {A = Result Held Rc} (Err rc) (ok_or (cond b (Some (record { kind = kind; addr = pointer; life = life })) None) why)
      → is_some (found at b life) ≡ false
  err_life at true life rc is = absurd (cc)
  err_life at false life rc is = refl

  ok_slot : (slot : Option (ℕ × ℕ)) (word : Option ℕ) (h : Held)
      → Ok h ≡ cond (is_some slot) (ok_or (option_and_then (object kind pointer) word) why) (Err why)
      → (is_some (lives word slot) ≡ true) × (h.addr ≡ pointer)
  ok_slot None word h is = absurd (cc)
  ok_slot (Some at) None h is = absurd (cc)
  ok_slot (Some at) (Some life) h is = ok_life at (is_live (record_kind kind) life) life h is

  err_slot : (slot : Option (ℕ × ℕ)) (word : Option ℕ) (rc : Rc)
      → Err rc ≡ cond (is_some slot) (ok_or (option_and_then (object kind pointer) word) why) (Err why)
      → is_some (lives word slot) ≡ false
  err_slot None word rc is = refl
  err_slot (Some at) None rc is = refl
  err_slot (Some at) (Some life) rc is = err_life at (is_live (record_kind kind) life) life rc is

module _ (w : List ℕ) (memory : Words) (kind : Kind) (f : Field) (pointer : ℕ) where
  -- a live record is there, and it is the pointer's
  pub lead_ok : (h : Held) → Ok h ≡ answer_on memory (lead w kind f pointer)
      → (is_some (live_at w memory (record_kind kind) pointer) ≡ true) × (h.addr ≡ pointer)
  unfolding lead
  lead_ok h is =
      ok_slot kind pointer (Error pointer (number f)) (slot_at w (record_kind kind) pointer)
      (memory (place_of w pointer (life_of (record_kind kind)) 0)) h
      (is ∙ chosen memory (is_some (slot_at w (record_kind kind) pointer)) _ _)

  -- none is
  pub lead_err : (rc : Rc) → Err rc ≡ answer_on memory (lead w kind f pointer)
      → is_some (live_at w memory (record_kind kind) pointer) ≡ false
  unfolding lead
  lead_err rc is =
      err_slot kind pointer (Error pointer (number f)) (slot_at w (record_kind kind) pointer)
      (memory (place_of w pointer (life_of (record_kind kind)) 0)) rc
      (is ∙ chosen memory (is_some (slot_at w (record_kind kind) pointer)) _ _)

-- no other kind is that of threads
pub not_thread : (kind : Kind) → ◌≢◌ {A = Kind} kind Thread → (record_kind kind == threads) ≡ false
not_thread Thread is = absurd (is refl)
not_thread Region is = refl
not_thread Task is = refl

-- the word of a field is the one that is found there
module _ (w : List ℕ) (memory : Words) (address : ℕ) (f : Field) (at : ℕ) where
  pub word_ok : (found : ℕ) → Ok found ≡ answer_on memory (word_of w address f at)
      → record_at w memory address (number f) at ≡ Some found
  unfolding word_of
  word_ok found is = go (record_at w memory address (number f) at) is
    where
      go : (o : Option ℕ) → Ok found ≡ ok_or o (Error address (number f)) → o ≡ Some found
      go None is = absurd (cc)
      go (Some x) is = let same : found ≡ x = cc in ap (λ (q : ℕ). Some q) (sym same)

  pub word_err : (rc : Rc) → ◌≡◌ {A = Result ℕ Rc} (Err rc) (answer_on memory (word_of w address f at))
      → record_at w memory address (number f) at ≡ None
  unfolding word_of
  word_err rc is = go (record_at w memory address (number f) at) is
    where
      go : (o : Option ℕ) → ◌≡◌ {A = Result ℕ Rc} (Err rc) (ok_or o (Error address (number f))) → o ≡ None
      go None is = refl
      go (Some x) is = absurd (cc)
