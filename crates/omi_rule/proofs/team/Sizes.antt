-- The elements of nthreads-var are sizes of teams, in each data environment.
use Rattle.std.proofs.Common.{◌≡◌, ◌<◌, ◌==◌, ◌⊎◌, inl, inr, ℕ, suc, true, List, [], ◌∷◌, length, slice_index, Some, refl, sym, ◌∙◌, subst, arith, eqb-true}
use Rattle.omi_script.proofs.RuleLemmas.{Rules-from_accepted}
use Rattle.omi_script.specs.declared.program.Program.{Program}
use Rattle.omi_script.specs.Rules.{IsSize}
use Rattle.omi_model.specs.declared.event.Event.{Event}
use Rattle.omi_model.specs.declared.event.Event.TheVariants as event
use Rattle.omi_model.specs.declared.id.Tid.{Tid}
use Rattle.omi_model.specs.declared.item.Item.{Item}
use Rattle.omi_model.specs.declared.item.Item.TheVariants as item
use Rattle.omi_model.specs.declared.task.Task.{Task}
use Rattle.omi_model.specs.declared.task.Variables.{Variables}
use Rattle.omi_model.specs.LawStays.{Stays}
use Rattle.omi_model.specs.Lists.{fits}
use Rattle.omi_numbers.specs.declared.variables.TheConstants.{NTHREADS_VAR}
use Rattle.omi_model.specs.Opening.{opening}
use Rattle.omi_model.specs.Reached.{Reached, Step}
use Rattle.omi_model.specs.Settings.{with_head, with_variable}
use Rattle.omi_model.specs.State.{State}
use Rattle.omi_model.specs.Teams.{shortened}
use Rattle.omi_model.proofs.BarrierOrder.{and_left, and_right}
use Rattle.omi_model.proofs.EachObject.{EachTask, IsTaskLaw, task_step}
use Rattle.omi_model.proofs.NthreadsShortened.{set_nthreads}
use Rattle.omi_model.proofs.OpeningObjects.{each_first_task}
use Rattle.omi_model.proofs.ReachedStates.{over_reached}
use Rattle.omi_model.proofs.Slots.{false_true}
use Rattle.omi_model.proofs.Steps.{IsRelisted}
use Rattle.omi_model.proofs.TableItems.{IsItemRight}
use Rattle.omi_model.proofs.Tables.{in_tables, item_fits, item_right, m}

abbrev pub AreSizes : List ℕ → Type 0
AreSizes [] = Unit {0}
AreSizes (n ∷ ns) = IsSize n × AreSizes ns

abbrev pub HasSizes : Tid → Task → Type 0
HasSizes k t = AreSizes t.variables.nthreads

sizes_of_shortened : (ns : List ℕ) → AreSizes ns → AreSizes (shortened ns)
sizes_of_shortened [] o = o
sizes_of_shortened (n ∷ []) o = o
sizes_of_shortened (n ∷ k ∷ ns) (first, rest) = rest

sizes_of_head : (value : ℕ) (ns : List ℕ) → IsSize value → AreSizes ns → AreSizes (with_head value ns)
sizes_of_head value [] is o = o
sizes_of_head value (n ∷ ns) is (first, rest) = (is, rest)

all_sizes : (ns : List ℕ) → ((k : ℕ) → k < length ns → IsSize (slice_index ns k)) → AreSizes ns
all_sizes [] each = tt
all_sizes (n ∷ ns) each =
    (each 0 (omega arith), all_sizes ns (λ k within. each (suc k) (omega (arith, within))))

size_item : (icv value : ℕ) (y : Item) → fits (event.Set icv value) y ≡ true → IsItemRight y
    → icv ≡ NTHREADS_VAR → IsSize value
size_item icv value (item.Set v x) fit is at =
    let icv_is = eqb-true icv v (and_left (icv == v) (value == x) fit) in
    subst IsSize (sym (eqb-true value x (and_right (icv == v) (value == x) fit))) (is.1 (sym icv_is ∙ at))
size_item icv value y fit is at = absurd (false_true fit)

sizes_step : (p : Program) (events : List (ℕ × Event)) (s : State) → Reached p events s
    → (i : ℕ) (e : Event) (next : State) → Step p s i e next → EachTask HasSizes s → EachTask HasSizes next
sizes_step p events s reached i e next step all =
    task_step p HasSizes s i e next step (λ k t y ys is taken q. q) law all
  where
    of_set : (icv value : ℕ) (v u : Variables) → with_variable icv value v ≡ Some u → e ≡ event.Set icv value
        → AreSizes v.nthreads → AreSizes u.nthreads
    of_set icv value v u f at_set o = go (set_nthreads icv value v u f)
      where
        go : (u.nthreads ≡ v.nthreads) ⊎ ((icv ≡ NTHREADS_VAR) × (u.nthreads ≡ with_head value v.nthreads))
            → AreSizes u.nthreads
        go (inl same) = subst AreSizes (sym same) o
        go (inr (at, same)) =
            let tables = in_tables p events s reached in
            let size =
            size_item icv value (m p s i e next step tables).item
            (subst (λ (x : Event). fits x (m p s i e next step tables).item ≡ true) at_set (item_fits p s i e next step tables))
            (item_right p s i e next step tables) at in
            subst AreSizes (sym same) (sizes_of_head value v.nthreads size o)

    law : (middle : State) (y : Item) → IsRelisted s middle → Stays middle next → EachTask HasSizes middle
        → IsTaskLaw p middle i e y next HasSizes
    law middle y before later of_tasks = record {
      frees = λ k t free how q. q;
      shows = λ k t x q. q;
      tools = λ k t x q. q;
      groups = λ k t n is how q. q;
      begins = λ k t waits mine by q. q;
      finishes = λ k t is over q. q;
      sets = λ k t icv value v f at_set q. of_set icv value t.variables v f at_set q;
      starts = λ k u j t x is live ex de may of by q. q;
      members = λ region team f k t r is found may new of by j n at. sizes_of_shortened t.variables.nthreads (of_tasks k t is.live);
      deferred = λ task f final seen k t is of fresh. of_tasks k t is.live;
      made = λ task f final k t is of fresh by. of_tasks k t is.live;
    }

pub have_sizes : (p : Program) (events : List (ℕ × Event)) (s : State) → Reached p events s
    → EachTask HasSizes s
have_sizes p events s reached =
    over_reached p (EachTask HasSizes)
    (λ first u was i e next step h. sizes_step p first u was i e next step h) []
    (opening p) refl events s reached
    (each_first_task p HasSizes (all_sizes p.env.nthreads (Rules-from_accepted p).sizes))
