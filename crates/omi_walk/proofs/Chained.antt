-- A chain of regions, of which none comes twice.
use Rattle.std.proofs.Common.{◌≡◌, suc, zero, arith, ℕ, Bool, List, [], ◌∷◌, ◌++◌, map, Option, Some, None, refl, sym, ap, subst, ◌∙◌, append_assoc, append-nil}
use Rattle.std.specs.Prelude.{Ok, Err, All}
use Rattle.omi_word.specs.Words.{Words}
use Rattle.omi_calls.specs.Told.{Told}
use Rattle.omi_layout.specs.declared.field.Field.TheVariants.{RegionEnclosing}
use Rattle.omi_layout.specs.Field.{regions}
use Rattle.omi_layout.specs.Table.{records}
use Rattle.omi_model.specs.declared.id.Id.{Id}
use Rattle.omi_rep.specs.declared.fault.LookFault.TheVariants.{Cycle}
use Rattle.omi_rep.specs.Look.{Look, and_then, mapped, id_address, was_met, look_onward}
use Rattle.omi_rep.specs.LookView.{look_enclosing}
use Rattle.omi_session.specs.Opened.{Opened, Stays}
use Rattle.omi_session.specs.Tells.{Tells}
use Rattle.omi_walk.specs.declared.fault.WalkFault.{WalkFault}
use Rattle.omi_walk.specs.declared.fault.WalkFault.TheVariants as fault
use Rattle.omi_walk.specs.declared.met.Met.{Met}
use Rattle.omi_walk.specs.Gives.{Looks}
use Rattle.omi_walk.specs.Objects.{name_in}
use Rattle.omi_walk.proofs.Steps.{stop_gives, same_gives, looks_before}

names_append : (xs ys : List Met)
    → map (λ m. m.name) (xs ++ ys) ≡ map (λ m. m.name) xs ++ map (λ m. m.name) ys
names_append [] ys = refl
names_append (x ∷ xs) ys = ap (λ names. x.name ∷ names) (names_append xs ys)

-- what holds where a chain goes on, at the object there and for as many steps as are left
pub goes_on : {A : Type 0} (P : ℕ → Option A → Type 0) (left next : ℕ) (o : Option A) (x : A) → o ≡ Some x
    → left ≡ next → P left o → P next (Some x)
goes_on P left next o x is same so = subst (λ n. P n (Some x)) same (subst (P left) is so)

-- the chain so far, and what is left of it
pub record ChainSoFar {C F : Type 0} (told : C → Told) (s : Opened C F) (first : Id) (chain : List Met) (known : ℕ → Bool) (left : ℕ) (current : Option Met) : Type 0 where
  pub before : List ℕ
  pub same : (address : ℕ) → known address ≡ was_met before address
  pub rest : (memory : Words) → Tells (told s.table.calls) memory
      → look_enclosing s.layout memory (records s.layout regions) [] (Some first)
      ≡ mapped (λ more. map (λ m. m.name) chain ++ more)
      (look_enclosing s.layout memory left before (name_in current))

module _ {C F : Type 0} (told : C → Told) (s : Opened C F) (first : Id) where
  module _ (t : Opened C F) (stays : Stays told s t) (chain : List Met) (known : ℕ → Bool) (left : ℕ)
      (region : Met) (so : ChainSoFar told s first chain known (suc left) (Some region)) where
    -- the addresses that were met, this one included
    abbrev pub now_met : List ℕ
    now_met = id_address s.layout regions region.name ∷ so.before

    pub chain_next : (known_now : ℕ → Bool) (next : Option Met)
        → ((address : ℕ) → known_now address ≡ was_met now_met address)
        → Looks told t (Ok (name_in next))
        (λ w memory. look_onward w memory regions now_met (id_address w regions region.name) RegionEnclosing)
        → ChainSoFar told s first (chain ++ region ∷ []) known_now left next
    unfolding Looks and_then
    chain_next known_now next same onward = record {
      before = now_met;
      same = same;
      rest = λ memory tells.
          so.rest memory tells
          ∙ ap
          (λ (l : Look (Option Id)). mapped (λ more. map (λ m. m.name) chain ++ more) (and_then l (λ next. mapped (λ more. region.name ∷ more) (look_enclosing s.layout memory left now_met next))))
          (looks_before told s t (Ok (name_in next)) (λ w memory. look_onward w memory regions now_met (id_address w regions region.name) RegionEnclosing) stays onward memory tells)
          ∙ go (look_enclosing s.layout memory left now_met (name_in next));
    }
      where
        go : (l : Look (List Id))
            → mapped (λ more. map (λ m. m.name) chain ++ more) (mapped (λ more. region.name ∷ more) l)
            ≡ mapped (λ more. map (λ m. m.name) (chain ++ region ∷ []) ++ more) l
        go (Ok more) =
            ap Ok
            (sym (append_assoc (map (λ m. m.name) chain) (region.name ∷ []) more) ∙ ap (λ names. names ++ more) (sym (names_append chain (region ∷ []))))
        go (Err fault) = refl

    pub chain_stops : (f : WalkFault)
        → Looks {A = Option Id} told t (Err f) (λ w memory. look_onward w memory regions now_met (id_address w regions region.name) RegionEnclosing)
        → Looks {A = List Id} told s (Err f)
        (λ w memory. look_enclosing w memory (records w regions) [] (Some first))
    unfolding Looks and_then
    chain_stops f onward = λ memory tells.
        same_gives (Err f) _ _ (sym (so.rest memory tells))
        (stop_gives f (look_enclosing s.layout memory (suc left) so.before (Some region.name)) (λ more. Ok (map (λ m. m.name) chain ++ more))
        (stop_gives f (look_onward s.layout memory regions now_met (id_address s.layout regions region.name) RegionEnclosing) (λ next. mapped (λ more. region.name ∷ more) (look_enclosing s.layout memory left now_met next))
        (looks_before told s t (Err f) (λ w memory. look_onward w memory regions now_met (id_address w regions region.name) RegionEnclosing) stays onward memory tells)))

  module _ (chain : List Met) (known : ℕ → Bool) where
    pub chain_ends : (left : ℕ) → ChainSoFar told s first chain known left None
        → Looks told s (Ok (map (λ m. m.name) chain)) (λ w memory. look_enclosing w memory (records w regions) [] (Some first))
    unfolding Looks and_then
    chain_ends zero so = λ memory tells. so.rest memory tells ∙ ap Ok (append-nil (map (λ m. m.name) chain))
    chain_ends (suc left) so =
        λ memory tells. so.rest memory tells ∙ ap Ok (append-nil (map (λ m. m.name) chain))

    pub chain_cycles : (region : Met) → region.held.addr ≡ id_address s.layout regions region.name
        → ChainSoFar told s first chain known zero (Some region)
        → Looks {A = List Id} told s (Err (fault.Cycle region.held.addr))
        (λ w memory. look_enclosing w memory (records w regions) [] (Some first))
    unfolding Looks and_then
    chain_cycles region there so = λ memory tells. so.rest memory tells ∙ ap (λ a. Err (Cycle a)) (sym there)

-- one element alone
pub one_met : {A : Type 0} (P : A → Type 0) (x : A) → P x → All P (x ∷ [])
one_met P x is zero d low = is
one_met P x is (suc k) d low = absurd (omega (arith, low))
