-- A look at words that show a state gives the view of this state.
use Rattle.std.proofs.Common.{◌≡◌, ℕ, List, map, refl, subst}
use Rattle.std.specs.Prelude.{Ok, Contains}
use Rattle.std.specs.List.{filter_map, flat_map}
use Rattle.omi_layout.specs.Valid.{IsValid}
use Rattle.omi_word.specs.Words.{Words}
use Rattle.omi_model.specs.declared.view.View.{View}
use Rattle.omi_model.specs.State.{State}
use Rattle.omi_model.specs.Views.{IsViewOf, AreRegions, AreChains, IsChain, head_row, thread_row, thread_with}
use Rattle.omi_model.specs.WellFormed.{HasBegun}
use Rattle.omi_rep.specs.LookView.{look_regions, look_tasks, look_view, found_threads}
use Rattle.omi_rep.specs.Shows.{Shows}
use Rattle.omi_rep.proofs.Looks.{step}
use Rattle.omi_rep.specs.ShownLooks.{AreNames}
use Rattle.omi_rep.specs.ShownLooks.{ShownIsLooked}
use Rattle.omi_rep.proofs.Lists.{from_given}
use Rattle.omi_rep.proofs.shown.ReadWords.{all_looked}
use Rattle.omi_rep.proofs.shown.Threads.{with_native, head_looked, threads_looked, threads_found}
use Rattle.omi_rep.proofs.shown.Enclosing.{AreRegionsOf, regions_looked}
use Rattle.omi_rep.proofs.shown.RegionRows.{rows_looked}
use Rattle.omi_rep.proofs.shown.Tasks.{tasks_looked, chains_are}

module _ (w : List ℕ) (words : Words) (s : State) (contexts : List ℕ) (valid : IsValid w) (names : AreNames s)
    (shown : Shows w words s) where
  -- the threads that a look finds
  abbrev looked_for : List ℕ
  looked_for = found_threads w words (map (thread_row s) contexts)

  are_found : looked_for ≡ filter_map (thread_with s) contexts
  are_found = threads_found w words s valid names shown contexts

  begun : (i : ℕ) → Contains looked_for i → HasBegun s i
  begun i inside =
      let (native, _, is) =
      from_given (thread_with s) contexts i (subst (λ (is : List ℕ). Contains is i) are_found inside) in
      (with_native s native i is).1

  view_looked : (v : View) × (look_view w words contexts ≡ Ok v) × IsViewOf s contexts v
  view_looked =
      let (met, are, of_threads) =
      all_looked (look_regions w words) (AreRegionsOf s) looked_for
      (λ i inside. regions_looked w words s valid names shown i (begun i inside)) in
      let (regions, rows_are, right) =
      rows_looked w words s valid names shown looked_for begun met of_threads in
      let (chains, chains_looked, of_each) = all_looked (look_tasks w words) (λ i rows. IsChain s i (s.threads i).current rows) looked_for
      (λ i inside. tasks_looked w words s valid names shown i (begun i inside)) in (
        record { head = head_row s; threads = map (thread_row s) contexts; regions = regions; tasks = flat_map (λ rows. rows) chains },
        step _ _ _ _ (head_looked w words s valid names shown)
            (step _ _ _ _ (threads_looked w words s valid names shown contexts)
            (step _ _ met _ are
            (step _ _ regions _ rows_are
            (step _ _ chains _ chains_looked refl)))),
        record {
          head = refl;
          threads = refl;
          regions = subst (λ (is : List ℕ). AreRegions s is regions) are_found right;
          tasks = subst (λ (is : List ℕ). AreChains s is (flat_map (λ rows. rows) chains)) are_found (chains_are s looked_for chains of_each);
        },
      )

pub shown_looked : ShownIsLooked
shown_looked = λ w words s contexts valid names shown. view_looked w words s contexts valid names shown
