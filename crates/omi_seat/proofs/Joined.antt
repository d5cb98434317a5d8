-- What workers left, one after another, and what is kept of it.
use Rattle.std.proofs.Common.{◌≡◌, ◌+◌, ◌++◌, ℕ, zero, suc, List, [], ◌∷◌, length, map, slice_get, Some, refl, sym, ap, ◌∙◌, subst, arith, ⊎_elim}
use Rattle.std.proofs.lemmas.List.{append_assoc, append-nil, length-append}
use Rattle.omi_script.specs.declared.program.Program.{Program}
use Rattle.omi_layout.specs.declared.layout.Layout.{Layout}
use Rattle.omi_run_lists.specs.Events.{Events}
use Rattle.omi_run_lists.specs.Steps.{Steps}
use Rattle.omi_core.specs.declared.thread_run.ThreadRun.{ThreadRun}
use Rattle.omi_core.specs.RunSteps.{made_of}
use Rattle.omi_seat.specs.declared.known.Known.{Known}
use Rattle.omi_seat.specs.declared.step_log.Kept.{Kept}
use Rattle.omi_seat.specs.declared.step_log.Kept.TheVariants as kept
use Rattle.omi_seat.specs.declared.workers.Runner.{Runner}
use Rattle.omi_seat.specs.Known.{steps_known}
use Rattle.omi_seat.specs.StepLog.{IsLogOf}
use Rattle.omi_seat.specs.Workers.{AreJoined, AreKept, IsJoined, IsKept, IsLeft, IsRunOfKnown}
use Rattle.omi_seat.proofs.Learnt.{steps_found}
use Rattle.omi_seat.proofs.Lists.{get_front, get_last, get_more}

-- ---- one after another

pub none_joined : {X : Type 0} → (threads : ℕ) (all : List (Runner X)) (before : List X) (runs : List ThreadRun)
    → runs ≡ [] → AreJoined threads all before before runs
none_joined {X} threads all before runs none = record {
  parts = [];
  now_are = sym (append-nil before);
  many = ap (λ (rs : List ThreadRun). length rs) (sym none);
  each = λ thread r got.
      absurd (let not : slice_get [] thread ≡ Some r = subst (λ (rs : List ThreadRun). slice_get rs thread ≡ Some r) none got in grind (arith, not));
}

module _ {X : Type 0} (threads : ℕ) (all : List (Runner X)) (before old now : List X) (runs : List ThreadRun)
    (so_far : AreJoined threads all before old runs) (place : ℕ) (e : Runner X) (run : ThreadRun) (x : X)
    (number : length runs + place + 1 ≡ threads) (there : slice_get all place ≡ Some e) (left : IsLeft e run)
    (knows : e.worker.seat.me ≡ (x ∷ [], [])) (more : now ≡ old ++ x ∷ []) where
  each_joined : (thread : ℕ) (r : ThreadRun) → slice_get (runs ++ run ∷ []) thread ≡ Some r
      → IsJoined threads all (so_far.parts ++ x ∷ []) thread r
  each_joined thread r got = ⊎_elim earlier last (get_more runs run r thread got)
    where
      earlier : slice_get runs thread ≡ Some r → IsJoined threads all (so_far.parts ++ x ∷ []) thread r
      earlier was =
          let one = so_far.each thread r was in
          record {
            place = one.place;
            number = one.number;
            runner = one.runner;
            there = one.there;
            left = one.left;
            part = one.part;
            knows = one.knows;
            taken_in = get_front so_far.parts x one.part thread one.taken_in;
          }

      last : (thread ≡ length runs) × (run ≡ r) → IsJoined threads all (so_far.parts ++ x ∷ []) thread r
      last (at, is) = record {
        place = place;
        number = omega (arith, number, at);
        runner = e;
        there = there;
        left = subst (IsLeft e) is left;
        part = x;
        knows = knows;
        taken_in = ap (slice_get (so_far.parts ++ x ∷ [])) (at ∙ sym so_far.many) ∙ get_last so_far.parts x;
      }

  pub joined_more : AreJoined threads all before now (runs ++ run ∷ [])
  joined_more = record {
    parts = so_far.parts ++ x ∷ [];
    now_are =
        more ∙ ap (λ (xs : List X). xs ++ x ∷ []) so_far.now_are ∙ append_assoc before so_far.parts (x ∷ []);
    many =
        length-append so_far.parts (x ∷ []) ∙ ap (λ n. n + 1) so_far.many
        ∙ sym (length-append runs (run ∷ []));
    each = each_joined;
  }

-- what is left of a thread is what is known of it
pub left_known : {X : Type 0} → (p : Program) (l : Layout) (k : Known) (e : Runner X) (r : ThreadRun)
    → IsLogOf p l k e.worker.log → IsLeft e r → IsRunOfKnown p l e.worker.log.kept k.thread k r
left_known {X} p l k e r log left = record {
  own = refl;
  program = log.program;
  layout = log.layout;
  steps = left.steps ∙ log.steps ∙ sym (steps_found k);
  made = λ keeps. ap (λ (m : Steps). m.items) left.made ∙ log.made keeps;
  events = ap (λ (m : Events). m.items) left.events ∙ log.events;
  actor = left.actor ∙ log.actor;
}

-- ---- all of it, where only a part is kept

-- with the steps that are known
abbrev pub whole_run : Known → ThreadRun → ThreadRun
whole_run k r = record r {
  made = record { items = map (made_of k.thread) (steps_known k); spare = r.made.spare };
}

module _ (p : Program) (l : Layout) (keeps : Kept) (thread : ℕ) (k : Known) (r : ThreadRun)
    (known : IsRunOfKnown p l keeps thread k r) where
  pub whole_known : IsRunOfKnown p l kept.Steps thread k (whole_run k r)
  whole_known = record {
    own = known.own;
    program = known.program;
    layout = known.layout;
    steps = known.steps;
    made = λ is. refl;
    events = known.events;
    actor = known.actor;
  }

  pub whole_kept : IsKept keeps (whole_run k r) r
  whole_kept = record {
    steps = refl;
    until = refl;
    events = refl;
    actor = refl;
    same = λ is i. record r { made = record { items = known.made is i; spare = r.made.spare } };
  }

-- such runs for all, of each of which is told so
pub all_whole : (keeps : Kept) (runs : List ThreadRun) (Is : ℕ → ThreadRun → Type 0)
    → ((i : ℕ) (r : ThreadRun) → slice_get runs i ≡ Some r → (w : ThreadRun) × IsKept keeps w r × Is i w)
    → (whole : List ThreadRun) × AreKept keeps whole runs
    × ((i : ℕ) (w : ThreadRun) → slice_get whole i ≡ Some w → Is i w)
all_whole keeps [] Is each = (
  [],
  record { many = refl; each = λ i w r got there. absurd (grind (arith, got)) },
  λ i w got. absurd (grind (arith, got)),
)
all_whole keeps (r ∷ runs) Is each =
    let first = each 0 r refl in
    let rest = all_whole keeps runs (λ i. Is (suc i)) (λ i q got. each (suc i) q got) in (
      first.0 ∷ rest.0,
      record { many = ap suc rest.1.many; each = kept_at first.0 first.1 rest.0 rest.1 },
      is_at first.0 first.2 rest.0 rest.2,
    )
  where
    kept_at : (w : ThreadRun) → IsKept keeps w r → (ws : List ThreadRun) → AreKept keeps ws runs
        → (i : ℕ) (v q : ThreadRun) → slice_get (w ∷ ws) i ≡ Some v → slice_get (r ∷ runs) i ≡ Some q
        → IsKept keeps v q
    kept_at w is ws are zero v q got there =
        let w_is : w ≡ v = grind (arith, got) in
        let r_is : r ≡ q = grind (arith, there) in
        subst (λ (z : ThreadRun × ThreadRun). IsKept keeps z.0 z.1) (λ k. (w_is k, r_is k)) is
    kept_at w is ws are (suc i) v q got there = are.each i v q got there

    is_at : (w : ThreadRun) → Is 0 w → (ws : List ThreadRun)
        → ((i : ℕ) (v : ThreadRun) → slice_get ws i ≡ Some v → Is (suc i) v) → (i : ℕ) (v : ThreadRun)
        → slice_get (w ∷ ws) i ≡ Some v → Is i v
    is_at w is ws are zero v got = let w_is : w ≡ v = grind (arith, got) in subst (Is 0) w_is is
    is_at w is ws are (suc i) v got = are i v got

-- where steps are kept, these are the same runs
pub same_runs : (whole runs : List ThreadRun) → AreKept kept.Steps whole runs → whole ≡ runs
same_runs [] [] are = refl
same_runs [] (r ∷ runs) are = absurd (let many = are.many in omega (arith, many))
same_runs (w ∷ whole) [] are = absurd (let many = are.many in omega (arith, many))
same_runs (w ∷ whole) (r ∷ runs) are =
    let one = (are.each 0 w r refl refl).same refl in
    let rest = same_runs whole runs record {
      many = let many = are.many in omega (arith, many);
      each = λ i v q got there. are.each (suc i) v q got there;
    } in
    λ k. sym one k ∷ rest k

-- what is told of runs one after another, each by the number of its steps and its events, is told of what is kept of them
module _ (line : ℕ → ThreadRun → List ℕ) (lines : ℕ → List ThreadRun → List ℕ)
    (none : (thread : ℕ) → lines thread [] ≡ [])
    (more : (thread : ℕ) (r : ThreadRun) (rs : List ThreadRun)
    → lines thread (r ∷ rs) ≡ line thread r ++ lines (thread + 1) rs)
    (told : (thread : ℕ) (w r : ThreadRun) → r.steps ≡ w.steps → r.events ≡ w.events → line thread r ≡ line thread w) where
  pub told_alike : {keeps : Kept} → (thread : ℕ) (whole runs : List ThreadRun) → AreKept keeps whole runs
      → lines thread runs ≡ lines thread whole
  told_alike thread [] [] are = refl
  told_alike thread [] (r ∷ runs) are = absurd (let many = are.many in omega (arith, many))
  told_alike thread (w ∷ whole) [] are = absurd (let many = are.many in omega (arith, many))
  told_alike thread (w ∷ whole) (r ∷ runs) are =
      let one = are.each 0 w r refl refl in
      let rest = told_alike (thread + 1) whole runs record {
        many = let many = are.many in omega (arith, many);
        each = λ i v q got there. are.each (suc i) v q got there;
      } in
      more thread r runs
      ∙ (λ k. told thread w r one.steps one.events k ++ rest k)
      ∙ sym (more thread w whole)
