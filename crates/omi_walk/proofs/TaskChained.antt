-- A chain of tasks, of which none comes twice.
use Rattle.std.proofs.Common.{◌≡◌, ℕ, suc, zero, Bool, List, [], ◌∷◌, ◌++◌, Option, Some, None, refl, sym, ap, ◌∙◌, append-nil}
use Rattle.std.specs.Prelude.{Ok, Err}
use Rattle.std.specs.Option.{option_map}
use Rattle.omi_word.specs.Words.{Words}
use Rattle.omi_calls.specs.Told.{Told}
use Rattle.omi_layout.specs.Field.{tasks}
use Rattle.omi_layout.specs.Table.{records}
use Rattle.omi_model.specs.declared.id.Id.{Id}
use Rattle.omi_model.specs.declared.id.Tid.{Tid}
use Rattle.omi_model.specs.declared.view.TaskRow.{TaskRow}
use Rattle.omi_rep.specs.declared.fault.LookFault.TheVariants.{Cycle}
use Rattle.omi_rep.specs.Look.{Look, and_then, mapped, id_address, was_met}
use Rattle.omi_rep.specs.LookView.{look_task, look_chain}
use Rattle.omi_session.specs.Opened.{Opened, Stays}
use Rattle.omi_session.specs.Tells.{Tells}
use Rattle.omi_walk.specs.declared.fault.WalkFault.{WalkFault}
use Rattle.omi_walk.specs.declared.fault.WalkFault.TheVariants as fault
use Rattle.omi_walk.specs.Gives.{Looks}
use Rattle.omi_walk.proofs.Steps.{mapped_next, stop_gives, same_gives, looks_before}

-- the rows so far, and the tasks that are left
pub record TasksSoFar {C F : Type 0} (told : C → Told) (s : Opened C F) (thread : ℕ) (first : Option Id) (rows : List TaskRow) (known : ℕ → Bool) (left : ℕ) (current : Option Id) : Type 0 where
  pub before : List ℕ
  pub same : (address : ℕ) → known address ≡ was_met before address
  pub rest : (memory : Words) → Tells (told s.table.calls) memory
      → look_chain s.layout memory (records s.layout tasks) [] thread first
      ≡ mapped (λ more. rows ++ more) (look_chain s.layout memory left before thread current)

-- the name of a scheduling task is that of the row
pub named_back : (o : Option Id)
    → option_map (λ (n : Tid). n.0) (option_map (λ (n : Id). record { 0 = n }) o) ≡ o
named_back None = refl
named_back (Some n) = refl

module _ {C F : Type 0} (told : C → Told) (s : Opened C F) (thread : ℕ) (first : Option Id) where
  module _ (t : Opened C F) (stays : Stays told s t) (rows : List TaskRow) (known : ℕ → Bool) (left : ℕ)
      (task : Id) (so : TasksSoFar told s thread first rows known (suc left) (Some task)) where
    -- the addresses that were met, this one included
    abbrev pub now_met : List ℕ
    now_met = id_address s.layout tasks task ∷ so.before

    pub tasks_next : (known_now : ℕ → Bool) (row : TaskRow) (next : Option Id)
        → ((address : ℕ) → known_now address ≡ was_met now_met address)
        → row.scheduling ≡ option_map (λ n. record { 0 = n }) next
        → Looks told t (Ok row) (λ w memory. look_task w memory now_met thread task)
        → TasksSoFar told s thread first (rows ++ row ∷ []) known_now left next
    unfolding Looks and_then
    tasks_next known_now row next same scheduling looked = record {
      before = now_met;
      same = same;
      rest = λ memory tells.
          so.rest memory tells
          ∙ ap
          (λ (l : Look TaskRow). mapped (λ more. rows ++ more) (and_then l (λ row. mapped (λ more. row ∷ more) (look_chain s.layout memory left now_met thread (option_map (λ next. next.0) row.scheduling)))))
          (looks_before told s t (Ok row) (λ w memory. look_task w memory now_met thread task) stays looked memory tells)
          ∙ mapped_next rows row
          (look_chain s.layout memory left now_met thread (option_map (λ next. next.0) row.scheduling))
          ∙ ap
          (λ o. mapped (λ more. (rows ++ row ∷ []) ++ more) (look_chain s.layout memory left now_met thread o))
          (ap (λ o. option_map (λ (n : Tid). n.0) o) scheduling ∙ named_back next);
    }

    pub tasks_stop : (f : WalkFault)
        → Looks {A = TaskRow} told t (Err f) (λ w memory. look_task w memory now_met thread task)
        → Looks {A = List TaskRow} told s (Err f)
        (λ w memory. look_chain w memory (records w tasks) [] thread first)
    unfolding Looks and_then
    tasks_stop f looked = λ memory tells.
        same_gives (Err f) _ _ (sym (so.rest memory tells))
        (stop_gives f (look_chain s.layout memory (suc left) so.before thread (Some task)) (λ more. Ok (rows ++ more))
        (stop_gives f (look_task s.layout memory now_met thread task) (λ row. mapped (λ more. row ∷ more) (look_chain s.layout memory left now_met thread (option_map (λ next. next.0) row.scheduling)))
        (looks_before told s t (Err f) (λ w memory. look_task w memory now_met thread task) stays looked memory tells)))

  module _ (rows : List TaskRow) (known : ℕ → Bool) where
    pub tasks_end : (left : ℕ) → TasksSoFar told s thread first rows known left None
        → Looks told s (Ok rows) (λ w memory. look_chain w memory (records w tasks) [] thread first)
    unfolding Looks and_then
    tasks_end zero so = λ memory tells. so.rest memory tells ∙ ap Ok (append-nil rows)
    tasks_end (suc left) so = λ memory tells. so.rest memory tells ∙ ap Ok (append-nil rows)

    pub tasks_cycle : (task : Id) (addr : ℕ) → addr ≡ id_address s.layout tasks task
        → TasksSoFar told s thread first rows known zero (Some task)
        → Looks {A = List TaskRow} told s (Err (fault.Cycle addr))
        (λ w memory. look_chain w memory (records w tasks) [] thread first)
    unfolding Looks and_then
    tasks_cycle task addr there so =
        λ memory tells. so.rest memory tells ∙ ap (λ a. Err (Cycle a)) (sym there)
