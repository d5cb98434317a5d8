-- Walking from a region to those that enclose it: where it begins, one region more, and where it ends.
use Rattle.std.proofs.Common.{◌≡◌, ◌⊎◌, inl, inr, ℕ, zero, suc, List, [], ◌∷◌, ◌++◌, length, Option, Some, None, refl, sym, ap, subst, ◌∙◌, arith}
use Rattle.std.specs.Prelude.{Contains}
use Rattle.std.specs.Option.{option_map, option_and_then}
use Rattle.std.proofs.lemmas.List.Elements.{Contains-append_left, Contains-append_right, Contains-append_cases}
use Rattle.omi_model.specs.declared.id.Id.{Id}
use Rattle.omi_model.specs.declared.id.Rid.{Rid}
use Rattle.omi_model.specs.declared.region.Region.{Region}
use Rattle.omi_model.specs.Put.{named}
use Rattle.omi_model.specs.State.{State, region_of, enclosing_of}
use Rattle.omi_model.specs.Views.{IsReported}
use Rattle.omi_model.specs.WellFormed.{along}
use Rattle.omi_machine_view.specs.Marks.{WasMet, IsMetSlot, Stops}
use Rattle.omi_machine_view.specs.Reported.{AreMet, AreMetBut, IsLive, region_name, root_of}
use Rattle.omi_machine_view.proofs.Alongs.{along_more}
use Rattle.omi_machine_view.proofs.LiveNames.{one_name}

some_same : {A : Type 0} (x y : A) → Some x ≡ Some y → x ≡ y
some_same x y e = cc e

name_at : (at : Option Rid) (n : Id) → option_map (λ (k : Rid). k.0) at ≡ Some n → at ≡ Some (region_name n)
name_at None n e = absurd (cc e)
name_at (Some k) n e = let same : k.0 ≡ n = some_same k.0 n e in ap (λ (m : Id). Some (region_name m)) same

last : (threads : List ℕ) (i : ℕ) → Contains (threads ++ i ∷ []) i
last threads i = Contains-append_right threads (i ∷ []) i (0, omega arith, refl)

more : (s : State) (threads : List ℕ) (i : ℕ) (n : Rid) → IsReported s threads n
    → IsReported s (threads ++ i ∷ []) n
more s threads i n (j, steps, among, is) = (j, steps, Contains-append_left threads (i ∷ []) j among, is)

only_one : (i j : ℕ) → Contains (i ∷ []) j → i ≡ j
only_one i j (zero, within, is) = is
only_one i j (suc k, within, is) = absurd (omega (arith, within))

-- before any thread's walk
pub none_met : (s : State) (met : List (Option Id)) → ((n : Id) → WasMet met n → ⊥) → AreMet s [] met
none_met s met none = record {
  live = λ n was. absurd (none n was);
  reported = λ n was. absurd (none n was);
  closed = λ n o was. absurd (none n was);
  roots = λ i o (k, within, is) root live. absurd (omega (arith, within));
}

pub walk_begins : (s : State) (threads : List ℕ) (i : ℕ) (met : List (Option Id)) → AreMet s threads met
    → AreMetBut s threads i met (root_of s i)
walk_begins s threads i met are = record {
  live = are.live;
  reported = λ n was. more s threads i (region_name n) (are.reported n was);
  closed = λ n o was encloses live. inl (are.closed n o was encloses live);
  roots = λ j o among is live. root j o is live (Contains-append_cases threads (i ∷ []) j among);
  steps = 0;
  here = refl;
}
  where
    root : (j : ℕ) (o : Rid) → root_of s j ≡ Some o → IsLive s o → Contains threads j ⊎ Contains (i ∷ []) j
        → WasMet met o.0 ⊎ (root_of s i ≡ Some o)
    root j o is live (inl before) = inl (are.roots j o before is live)
    root j o is live (inr new) = inr (ap (root_of s) (only_one i j new) ∙ is)

module _ (s : State) (threads : List ℕ) (i : ℕ) (met : List (Option Id)) (at : Option Rid)
    (are : AreMetBut s threads i met at) where
  pub walk_more : (after : List (Option Id)) (n : Id) (r : Region) → option_map (λ (k : Rid). k.0) at ≡ Some n
      → region_of s (region_name n) ≡ Some r
      → ((m : Id) → WasMet met m → WasMet after m) → ((m : Id) → WasMet after m → WasMet met m ⊎ (m ≡ n)) → WasMet after n
      → AreMetBut s threads i after r.enclosing
  walk_more after n r is live kept only added = record {
    live = λ m was. lives m (only m was);
    reported = λ m was. reports m (only m was);
    closed = λ m o was encloses alive. closes m o encloses alive (only m was);
    roots = λ j o among root alive. settled o (are.roots j o among root alive);
    steps = suc are.steps;
    here = along_more (enclosing_of s) are.steps (root_of s i) ∙ ap (option_and_then (enclosing_of s)) (are.here ∙ here) ∙ encloses_is;
  }
    where
      here : at ≡ Some (region_name n)
      here = name_at at n is

      encloses_is : enclosing_of s (region_name n) ≡ r.enclosing
      encloses_is = ap (option_and_then (λ (q : Region). q.enclosing)) live

      lives : (m : Id) → WasMet met m ⊎ (m ≡ n) → IsLive s (region_name m)
      lives m (inl was) = are.live m was
      lives m (inr same) = (r, ap (λ (j : Id). region_of s (region_name j)) same ∙ live)

      reports : (m : Id) → WasMet met m ⊎ (m ≡ n) → IsReported s (threads ++ i ∷ []) (region_name m)
      reports m (inl was) = are.reported m was
      reports m (inr same) =
          (i, are.steps, last threads i, are.here ∙ here ∙ ap (λ (j : Id). Some (region_name j)) (sym same))

      settled : (o : Rid) → WasMet met o.0 ⊎ (at ≡ Some o) → WasMet after o.0 ⊎ (r.enclosing ≡ Some o)
      settled o (inl was) = inl (kept o.0 was)
      settled o (inr e) =
          let same : region_name n ≡ o = some_same (region_name n) o (sym here ∙ e) in
          inl (subst (λ (m : Rid). WasMet after m.0) same added)

      closes : (m : Id) (o : Rid) → enclosing_of s (region_name m) ≡ Some o → IsLive s o
          → WasMet met m ⊎ (m ≡ n) → WasMet after o.0 ⊎ (r.enclosing ≡ Some o)
      closes m o encloses alive (inl was) = settled o (are.closed m o was encloses alive)
      closes m o encloses alive (inr same) =
          inr (sym encloses_is ∙ ap (λ (j : Id). enclosing_of s (region_name j)) (sym same) ∙ encloses)

  pub walk_ends : Stops s.regions met (option_map (λ (k : Rid). k.0) at) → AreMet s (threads ++ i ∷ []) met
  walk_ends stops = record {
    live = are.live;
    reported = are.reported;
    closed = λ n o was encloses alive. settled o alive (are.closed n o was encloses alive);
    roots = λ j o among root alive. settled o alive (are.roots j o among root alive);
  }
    where
      there : (o : Rid) → IsLive s o → (named s.regions o.0 ≡ None) ⊎ IsMetSlot met o.0 → WasMet met o.0
      there o (r, alive) (inl dead) = absurd (let clash : None ≡ Some r = sym dead ∙ alive in cc clash)
      there o (r, alive) (inr (m, was, creators, slots)) =
          let living = are.live m was in
          let same : m ≡ o.0 = one_name s.regions m o.0 living.0 r living.1 alive creators slots in
          subst (WasMet met) same was

      settled : (o : Rid) → IsLive s o → WasMet met o.0 ⊎ (at ≡ Some o) → WasMet met o.0
      settled o alive (inl was) = was
      settled o alive (inr e) =
          there o alive
          (subst (λ (x : Option Rid). Stops s.regions met (option_map (λ (k : Rid). k.0) x)) e stops)
