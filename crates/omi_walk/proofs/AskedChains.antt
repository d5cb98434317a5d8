-- The chains of a walk are those of a plain look.
use Rattle.std.proofs.Common.{◌≡◌, ℕ, zero, suc, Bool, List, [], ◌∷◌, Option, Some, None, refl, sym, ap, subst}
use Rattle.std.specs.Option.{option_map}
use Rattle.std.specs.Prelude.{Ok}
use Rattle.omi_word.specs.Words.{Words}
use Rattle.omi_handle.specs.declared.handle.Kind.TheVariants.{Region, Task}
use Rattle.omi_layout.specs.declared.field.Field.TheVariants.{RegionEnclosing}
use Rattle.omi_layout.specs.Field.{regions, tasks}
use Rattle.omi_layout.specs.Table.{records}
use Rattle.omi_model.specs.declared.id.Id.{Id}
use Rattle.omi_model.specs.declared.id.Tid.{Tid}
use Rattle.omi_model.specs.declared.view.TaskRow.{TaskRow}
use Rattle.omi_rep.specs.Look.{and_then, id_address, was_met, look_optional, look_onward}
use Rattle.omi_rep.specs.LookView.{look_current, look_enclosing, look_regions, look_task, look_chain, look_tasks}
use Rattle.omi_session.specs.Reads.{answer_on}
use Rattle.omi_walk.specs.declared.fault.WalkFault.TheVariants.{Cycle}
use Rattle.omi_walk.specs.declared.found.Found.{Found}
use Rattle.omi_walk.specs.declared.met.Met.{Met}
use Rattle.omi_walk.specs.declared.tasks.Link.{Link}
use Rattle.omi_walk.specs.Asking.{ask_chain, also, none_met}
use Rattle.omi_walk.specs.AskRegions.{ask_region_of, ask_enclosing, ask_outward, ask_enclosed, ask_outwards, ask_regions_of, ask_regions}
use Rattle.omi_walk.specs.AskTasks.{ask_link, ask_task, ask_chained, ask_tasks}
use Rattle.omi_walk.proofs.AskedLooks.{Alike, Same, AllAlike, IsObject, MaybeObject, alike_then, alike_map, alike_with}
use Rattle.omi_walk.proofs.AskedRows.{alike_enclosing}
use Rattle.omi_walk.proofs.AskedTasks.{LinkAs, alike_onward, also_met_before, alike_link, alike_region_of}
use Rattle.omi_walk.proofs.FoundRegions.{regions_at, by_task, regions_by, region_at}

module _ (w : List ℕ) (memory : Words) where
  -- ---- regions

  -- a region, and the next one
  abbrev OutwardAs : Met → Met × Option Met → Option Id → Type 0
  OutwardAs m found next = (found.0 ≡ m) × MaybeObject w memory Region found.1 next

  alike_enclosed : (m : Met) (r : Id) → IsObject w memory Region m r → (known : ℕ → Bool) (before : List ℕ)
      → ((address : ℕ) → known address ≡ was_met before address)
      → Alike (OutwardAs m) (answer_on memory (ask_enclosed w known m))
      (look_onward w memory regions before (id_address w regions r) RegionEnclosing)
  unfolding ask_enclosed ask_outward
  alike_enclosed m r is known before same =
      alike_with (MaybeObject w memory Region) (OutwardAs m) memory (ask_outward w known (Some m.held))
      (λ next. (m, next)) (look_onward w memory regions before (id_address w regions r) RegionEnclosing)
      (alike_onward w memory Region known before same (ask_enclosing w (Some m.held)) (look_optional w memory regions (id_address w regions r) RegionEnclosing 0) (alike_enclosing w memory m.held r is.lives))
      (λ next there e f r. (refl, r))

  pub alike_outwards : (n : ℕ) (known : ℕ → Bool) (before : List ℕ)
      → ((address : ℕ) → known address ≡ was_met before address) → (o : Option Met) (r : Option Id)
      → MaybeObject w memory Region o r
      → Alike (AllAlike (IsObject w memory Region)) (answer_on memory (ask_chain (ask_enclosed w) n known o))
      (look_enclosing w memory n before r)
  unfolding ask_chain
  alike_outwards zero known before same None None is = tt
  alike_outwards (suc n) known before same None None is = tt
  alike_outwards n known before same None (Some r) is = absurd is
  alike_outwards n known before same (Some m) None is = absurd is
  alike_outwards zero known before same (Some m) (Some r) is = ap Cycle is.lives.at
  alike_outwards (suc n) known before same (Some m) (Some r) is =
      let now = also_met_before known before m.held.addr (id_address w regions r) is.lives.at same in
      alike_then (OutwardAs m) (AllAlike (IsObject w memory Region)) memory
      (ask_enclosed w (also m.held.addr known) m) _
      (look_onward w memory regions (id_address w regions r ∷ before) (id_address w regions r) RegionEnclosing) _
      (alike_enclosed m r is (also m.held.addr known) (id_address w regions r ∷ before) now)
      (λ found next e f to.
      alike_map (AllAlike (IsObject w memory Region)) (AllAlike (IsObject w memory Region)) memory
      (ask_chain (ask_enclosed w) n (also m.held.addr known) found.1) (λ more. found.0 ∷ more)
      (look_enclosing w memory n (id_address w regions r ∷ before) next) (λ more. r ∷ more)
      (alike_outwards n (also m.held.addr known) (id_address w regions r ∷ before) now found.1 next to.1)
      (λ xs ys e f all. (subst (λ k. IsObject w memory Region k r) (sym to.0) is, all)))

  -- ---- tasks

  alike_chained : (i : ℕ) (m : Met) (k : Id) → IsObject w memory Task m k
      → (known : ℕ → Bool) (before : List ℕ) → ((address : ℕ) → known address ≡ was_met before address)
      → Alike
      (λ (found : TaskRow × Option Met) row. (found.0 ≡ row) × MaybeObject w memory Task found.1 (option_map (λ (t : Tid). t.0) row.scheduling))
      (answer_on memory (ask_chained w i known m)) (look_task w memory before i k)
  unfolding ask_chained
  alike_chained i m k is known before same =
      alike_with (LinkAs w memory)
      (λ (found : TaskRow × Option Met) row. (found.0 ≡ row) × MaybeObject w memory Task found.1 (option_map (λ (t : Tid). t.0) row.scheduling)) memory
      (ask_task w known i m) (λ (link : Link). (link.row, link.next)) (look_task w memory before i k)
      (subst (λ n. Alike (LinkAs w memory) (answer_on memory (ask_link w known i n (Some m.held))) (look_task w memory before i k)) (sym is.name)
      (alike_link w memory m.held k is.lives known before same i))
      (λ link row e f r. r)

  pub alike_chain : (i n : ℕ) (known : ℕ → Bool) (before : List ℕ)
      → ((address : ℕ) → known address ≡ was_met before address) → (o : Option Met) (k : Option Id)
      → MaybeObject w memory Task o k
      → Alike Same (answer_on memory (ask_chain (ask_chained w i) n known o))
      (look_chain w memory n before i k)
  unfolding ask_chain
  alike_chain i zero known before same None None is = refl
  alike_chain i (suc n) known before same None None is = refl
  alike_chain i n known before same None (Some k) is = absurd is
  alike_chain i n known before same (Some m) None is = absurd is
  alike_chain i zero known before same (Some m) (Some k) is = ap Cycle is.lives.at
  alike_chain i (suc n) known before same (Some m) (Some k) is =
      let now = also_met_before known before m.held.addr (id_address w tasks k) is.lives.at same in
      alike_then
      (λ (found : TaskRow × Option Met) row. (found.0 ≡ row) × MaybeObject w memory Task found.1 (option_map (λ (t : Tid). t.0) row.scheduling)) Same memory
      (ask_chained w i (also m.held.addr known) m) _
      (look_task w memory (id_address w tasks k ∷ before) i k) _
      (alike_chained i m k is (also m.held.addr known) (id_address w tasks k ∷ before) now)
      (λ found row e f to.
      alike_map Same Same memory (ask_chain (ask_chained w i) n (also m.held.addr known) found.1)
      (λ more. found.0 ∷ more)
      (look_chain w memory n (id_address w tasks k ∷ before) i (option_map (λ (t : Tid). t.0) row.scheduling))
      (λ more. row ∷ more)
      (alike_chain i n (also m.held.addr known) (id_address w tasks k ∷ before) now found.1 (option_map (λ (t : Tid). t.0) row.scheduling) to.1)
      (λ xs ys e f all. λ j. to.0 j ∷ all j))

  -- ---- a thread that was found

  -- its current task was looked at, and lives
  pub record FoundIs (f : Found) : Type 0 where
    pub current : Option Id
    pub looked : look_current w memory f.thread ≡ Ok current
    pub met : MaybeObject w memory Task f.current current

  pub alike_tasks : (f : Found) → FoundIs f
      → Alike Same (answer_on memory (ask_tasks w f)) (look_tasks w memory f.thread)
  unfolding and_then
  alike_tasks f is =
      subst
      (λ l. Alike Same (answer_on memory (ask_tasks w f)) (and_then l (look_chain w memory (records w tasks) [] f.thread)))
      (sym is.looked)
      (alike_chain f.thread (records w tasks) none_met [] (λ address. refl) f.current is.current is.met)

  regions_met_by : (o : Option Met) (k : Option Id) → MaybeObject w memory Task o k
      → Alike (AllAlike (IsObject w memory Region)) (answer_on memory (ask_regions_of w o)) (regions_by w memory (Ok k))
  unfolding ask_regions_of and_then regions_by
  regions_met_by None None is = tt
  regions_met_by None (Some k) is = absurd is
  regions_met_by (Some m) None is = absurd is
  regions_met_by (Some m) (Some k) is =
      subst
      (λ l. Alike (AllAlike (IsObject w memory Region)) (answer_on memory (ask_regions_of w (Some m))) l)
      (sym (by_task w memory k))
      (alike_then (IsObject w memory Region) (AllAlike (IsObject w memory Region)) memory (ask_region_of w (Some m.held)) (ask_outwards w) (region_at w memory k) (regions_at w memory)
      (alike_region_of w memory m.held k is.lives)
      (λ first r e f to. alike_outwards (records w regions) none_met [] (λ address. refl) (Some first) (Some r) to))

  pub alike_regions : (f : Found) → FoundIs f
      → Alike (AllAlike (IsObject w memory Region)) (answer_on memory (ask_regions w f)) (look_regions w memory f.thread)
  unfolding and_then regions_by
  alike_regions f is =
      subst
      (λ l. Alike (AllAlike (IsObject w memory Region)) (answer_on memory (ask_regions w f)) (regions_by w memory l))
      (sym is.looked) (regions_met_by f.current is.current is.met)
