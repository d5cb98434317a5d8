-- A task that was met lives by its name: what is held of it is what a handle to this name stands for.
use Rattle.std.proofs.Common.{◌≡◌, ◌==◌, ◌&&◌, ℕ, ◌+◌, ◌*◌, ◌/◌, ◌%◌, true, List, ◌++◌, Option, Some, None, refl, sym, ap, subst, ◌∙◌, arith}
use Rattle.std.proofs.lemmas.Bool.Decides.{nat_tests}
use Rattle.std.proofs.lemmas.List.Elements.{All-append, All-weaker}
use Rattle.std.specs.Option.{option_map}
use Rattle.std.specs.Prelude.{All, IsTrue, Ok, nat_lt}
use Rattle.omi_calls.specs.Told.{Told}
use Rattle.omi_handle.specs.declared.handle.Held.{Held}
use Rattle.omi_handle.specs.declared.handle.Kind.TheVariants.{Task}
use Rattle.omi_layout.specs.Field.{tasks}
use Rattle.omi_layout.specs.Place.{IsSlot}
use Rattle.omi_model.specs.declared.id.Id.{Id}
use Rattle.omi_model.specs.declared.id.Tid.{Tid}
use Rattle.omi_model.specs.declared.view.TaskRow.{TaskRow}
use Rattle.omi_numbers.specs.declared.lives.TheConstants.{LIFE_END}
use Rattle.omi_rep.specs.Look.{slot_at, id_address, is_live}
use Rattle.omi_rep.proofs.Slots.{slot_is}
use Rattle.omi_session.specs.Handles.{name_of}
use Rattle.omi_session.specs.Inquiry.{unchanged}
use Rattle.omi_session.specs.Named.{IsNamed, record_kind}
use Rattle.omi_session.specs.Opened.{Opened, Stays}
use Rattle.omi_session.specs.Reads.{answer_on}
use Rattle.omi_session.proofs.Told.{still_tells}
use Rattle.omi_walk.specs.declared.met.Met.{Met}
use Rattle.omi_walk.specs.Kept.{IsLive, task_object}
use Rattle.omi_walk.specs.Objects.{IsMet}
use Rattle.omi_walk.proofs.Names.{named_address}

-- a life word of a live task is that of its generation
life_is : (life : ℕ) → IsTrue (is_live tasks life) → life ≡ 2 * (life / 2) + 1
life_is life is =
    let tests : ((life % 2 == 1) && nat_lt life LIFE_END) ≡ true = is in
    let odd : life % 2 ≡ 1 = grind (arith, nat_tests) in
    omega (arith, odd)

-- an object's name has a slot, and its generation is that of the life word
named_slot : (w : List ℕ) (h : Held) (n : Id) → name_of w h ≡ Some n
    → IsSlot w (record_kind h.kind) n.creator n.slot × (n.generation ≡ h.life / 2)
named_slot w h n is = go (slot_at w (record_kind h.kind) h.addr) refl is
  where
    go : (o : Option (ℕ × ℕ)) → slot_at w (record_kind h.kind) h.addr ≡ o
        → option_map (λ (at : ℕ × ℕ). record { creator = at.0; slot = at.1; generation = h.life / 2 }) o ≡ Some n
        → IsSlot w (record_kind h.kind) n.creator n.slot × (n.generation ≡ h.life / 2)
    go None e is = absurd (cc)
    go (Some at) e is =
        let there = slot_is w (record_kind h.kind) h.addr at e in
        let same : record { creator = at.0; slot = at.1; generation = h.life / 2 } ≡ n = cc in
        (subst (λ (m : Id). IsSlot w (record_kind h.kind) m.creator m.slot) same there.0, sym (ap (λ (m : Id). m.generation) same))

module _ {C F : Type 0} (told : C → Told) (s : Opened C F) where
  object_is : (m : Met) → IsMet told s Task m → m.held ≡ task_object s.layout (record { 0 = m.name })
  object_is m met =
      let address =
      named_address s.layout m.held m.name met.name
      ∙ ap (λ kind. id_address s.layout (record_kind kind) m.name) met.of_kind in
      let named = named_slot s.layout m.held m.name met.name in
      let live = subst (λ kind. IsTrue (is_live (record_kind kind) m.held.life)) met.of_kind met.place.live in
      let life : m.held.life ≡ 2 * m.name.generation + 1 =
      (let odd = life_is m.held.life live in omega (arith, odd, named.1)) in
      λ i. record { kind = met.of_kind i; addr = address i; life = life i }

  -- a task that was met lives
  pub live_met : (m : Met) → IsMet told s Task m → IsLive told s (record { 0 = m.name })
  live_met m met =
      let same = object_is m met in
      record {
        slot =
            subst (λ kind. IsSlot s.layout (record_kind kind) m.name.creator m.name.slot) met.of_kind
            (named_slot s.layout m.held m.name met.name).0;
        named = subst (IsNamed s.layout) same met.place;
        lives = λ memory tells.
            subst (λ h. answer_on memory (unchanged s.layout h) ≡ Ok h) same (met.lives memory tells);
      }

  module _ (t : Opened C F) (stays : Stays told s t) where
    -- and it lives in a later session
    pub live_after : (task : Tid) → IsLive told s task → IsLive told t task
    live_after task live = record {
      slot = subst (λ w. IsSlot w tasks task.0.creator task.0.slot) (sym stays.layout) live.slot;
      named = subst (λ w. IsNamed w (task_object w task)) (sym stays.layout) live.named;
      lives = λ memory tells.
          subst (λ w. answer_on memory (unchanged w (task_object w task)) ≡ Ok (task_object w task)) (sym stays.layout)
          (live.lives memory (still_tells (told t.table.calls) (told s.table.calls) memory (sym stays.table.same) tells));
    }

    pub rows_after : (rows : List TaskRow) → All (λ row. IsLive told s row.task) rows
        → All (λ row. IsLive told t row.task) rows
    rows_after rows all =
        All-weaker (λ (row : TaskRow). IsLive told s row.task) (λ (row : TaskRow). IsLive told t row.task)
        (λ row. live_after row.task) rows all

    -- so do those of rows to which others were added
    pub rows_added : (old added new : List TaskRow) → new ≡ old ++ added
        → All (λ row. IsLive told s row.task) old → All (λ row. IsLive told t row.task) added
        → All (λ row. IsLive told t row.task) new
    rows_added old added new is before more =
        subst (All (λ (row : TaskRow). IsLive told t row.task)) (sym is)
        (All-append (λ (row : TaskRow). IsLive told t row.task) old added (rows_after old before) more)
