-- The objects of the opening state: one region, one task, thread 0 and the other threads.
use Rattle.std.proofs.Common.{◌≡◌, ◌==◌, ◌+◌, ◌&&◌, ℕ, arith, eqb-true, Bool, true, false, Some, None, if◌then◌else◌, refl, sym, subst}
use Rattle.omi_script.specs.declared.program.Program.{Program}
use Rattle.omi_model.specs.declared.id.Id.{Id}
use Rattle.omi_model.specs.declared.id.Rid.{Rid}
use Rattle.omi_model.specs.declared.id.Tid.{Tid}
use Rattle.omi_model.specs.declared.region.Region.{Region}
use Rattle.omi_model.specs.declared.slot.Slot.{Slot}
use Rattle.omi_model.specs.declared.task.Task.{Task}
use Rattle.omi_model.specs.declared.thread.Thread.{Thread}
use Rattle.omi_model.specs.Opening.{initial_region, initial_task, initial_thread, opening, opening_region, opening_task, waiting_worker}
use Rattle.omi_model.specs.Put.{first_alone, found, named, unused}
use Rattle.omi_model.proofs.EachObject.{EachRegion, EachTask}
use Rattle.omi_model.proofs.EachThread.{EachThread}
use Rattle.omi_model.proofs.Slots.{found_live, id_same, none_some, some_same}

-- the only object of the opening slots
pub first_alone_named : {A : Type 0} (x : A) (n : Id) (y : A) → named (first_alone x) n ≡ Some y
    → (n ≡ record { creator = 0; slot = 0; generation = 0 }) × (y ≡ x)
first_alone_named {A} x n y e = go (n.creator == 0) (n.slot == 0) refl refl e
  where
    first : Slot A
    first = record { generations = 1; live = Some x }

    of_generation : (b : Bool) → 1 == n.generation + 1 ≡ b → n.creator == 0 ≡ true → n.slot == 0 ≡ true
        → (if b then Some x else None) ≡ Some y
        → (n ≡ record { creator = 0; slot = 0; generation = 0 }) × (y ≡ x)
    of_generation true g c k h =
        let next : 1 ≡ n.generation + 1 = eqb-true 1 (n.generation + 1) g in
        (id_same n (record { creator = 0; slot = 0; generation = 0 }) (eqb-true n.creator 0 c) (eqb-true n.slot 0 k) (omega arith), sym (some_same refl h))
    of_generation false g c k h = absurd (none_some refl h)

    go : (a b : Bool) → n.creator == 0 ≡ a → n.slot == 0 ≡ b
        → found n.generation (if a && b then first else unused) ≡ Some y
        → (n ≡ record { creator = 0; slot = 0; generation = 0 }) × (y ≡ x)
    go true true c k h = of_generation (1 == n.generation + 1) refl c k h
    go true false c k h = absurd (none_some refl (found_live n.generation unused y h))
    go false b c k h = absurd (none_some refl (found_live n.generation unused y h))

pub each_first_task : (p : Program) (P : Tid → Task → Type 0) → P initial_task (opening_task p)
    → EachTask P (opening p)
each_first_task p P here k t e =
    let (name, is) = first_alone_named (opening_task p) k.0 t e in
    subst (λ (a : Id). P (record { 0 = a }) t) (sym name) (subst (P initial_task) (sym is) here)

pub each_first_region : (p : Program) (Q : Rid → Region → Type 0) → Q initial_region (opening_region p)
    → EachRegion Q (opening p)
each_first_region p Q here n r e =
    let (name, is) = first_alone_named (opening_region p) n.0 r e in
    subst (λ (a : Id). Q (record { 0 = a }) r) (sym name) (subst (Q initial_region) (sym is) here)

pub each_first_thread : (p : Program) (R : ℕ → Thread → Type 0) → R 0 initial_thread
    → ((j : ℕ) → R j waiting_worker) → EachThread R (opening p)
each_first_thread p R here others j = go (j == 0) refl
  where
    go : (b : Bool) → j == 0 ≡ b → R j (if b then initial_thread else waiting_worker)
    go true e = subst (λ i. R i initial_thread) (sym (eqb-true j 0 e)) here
    go false e = others j
