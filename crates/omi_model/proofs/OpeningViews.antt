-- The view of the opening state.
use Rattle.std.proofs.Common.{◌≡◌, ℕ, zero, suc, true, [], ◌∷◌, Option, Some, None, refl, sym, subst, arith}
use Rattle.std.specs.Prelude.{Contains, map, nat_lt}
use Rattle.std.specs.Option.{option_map}
use Rattle.std.specs.List.{cons_option}
use Rattle.std.proofs.lemmas.Bool.{lt-ltb}
use Rattle.omi_numbers.specs.Words.{native_id}
use Rattle.omi_script.specs.declared.program.Program.{Program}
use Rattle.omi_script.proofs.RuleLemmas.{Rules-from_accepted}
use Rattle.omi_model.specs.declared.id.Rid.{Rid}
use Rattle.omi_model.specs.declared.view.RegionRow.{RegionRow}
use Rattle.omi_model.specs.State.{region_of, current_task, enclosing_of}
use Rattle.omi_model.specs.declared.region.Region.{Region}
use Rattle.omi_model.specs.declared.task.Task.{Task}
use Rattle.omi_model.specs.WellFormed.{along}
use Rattle.omi_model.specs.Opening.{opening, opening_region, opening_task, initial_region}
use Rattle.omi_model.specs.OpeningView.{opening_view}
use Rattle.omi_model.specs.Views.{AreRegions, IsReported, AreChains, IsViewOf, region_row, thread_with}

-- nothing follows the end of a chain
past_end : (p : Program) (steps : ℕ) (n : Rid) → along (enclosing_of (opening p)) steps None ≡ Some n → ⊥
past_end p zero n is = absurd (cc)
past_end p (suc steps) n is = past_end p steps n is

-- the initial region alone is reported
only_initial : (p : Program) (n : Rid) (steps : ℕ)
    → along (enclosing_of (opening p)) steps (Some initial_region) ≡ Some n → initial_region ≡ n
only_initial p n zero is = let same : Some initial_region ≡ Some n = is in cc same
only_initial p n (suc steps) is = absurd (past_end p steps n is)

regions_viewed : (p : Program) → AreRegions (opening p) (0 ∷ []) (opening_view p).regions
regions_viewed p = record { in_order = tt; each = each; all = all }
  where
    each : (row : RegionRow) → Contains (opening_view p).regions row
        → IsReported (opening p) (0 ∷ []) row.region × (r : Region) × (region_of (opening p) row.region ≡ Some r) × (row ≡ region_row row.region r)
    each row (zero, within, is) =
        subst
        (λ (x : RegionRow). IsReported (opening p) (0 ∷ []) x.region × (r : Region) × (region_of (opening p) x.region ≡ Some r) × (x ≡ region_row x.region r)) is
        ((0, 0, (0, omega arith, refl), refl), opening_region p, refl, refl)
    each row (suc k, within, is) = absurd (omega (arith, within))

    all : (n : Rid) → IsReported (opening p) (0 ∷ []) n
        → Contains (map (λ (row : RegionRow). row.region) (opening_view p).regions) n
    all n (i, steps, (zero, within, first), is) =
        (0, omega arith, only_initial p n steps (subst (λ (j : ℕ). along (enclosing_of (opening p)) steps (option_map (λ (t : Task). t.region) (current_task (opening p) j)) ≡ Some n) (sym first) is))
    all n (i, steps, (suc k, within, first), is) = absurd (omega (arith, within))

tasks_viewed : (p : Program) → AreChains (opening p) (0 ∷ []) (opening_view p).tasks
tasks_viewed p = ((opening_view p).tasks, [], refl, (opening_task p, refl, refl, tt), refl)

pub opening_viewed : (p : Program) → IsViewOf (opening p) (native_id 0 ∷ []) (opening_view p)
opening_viewed p =
    let some : nat_lt 0 p.threads ≡ true =
    lt-ltb 0 p.threads (omega (arith, (Rules-from_accepted p).threads.0)) in
    let first : thread_with (opening p) (native_id 0) ≡ Some 0 = rw some refl in
    record {
      head = refl;
      threads = rw first refl;
      regions = subst (λ (o : Option ℕ). AreRegions (opening p) (cons_option o []) (opening_view p).regions) (sym first) (regions_viewed p);
      tasks = subst (λ (o : Option ℕ). AreChains (opening p) (cons_option o []) (opening_view p).tasks) (sym first) (tasks_viewed p);
    }
