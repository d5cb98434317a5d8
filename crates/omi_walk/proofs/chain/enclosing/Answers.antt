-- The regions from one on are asked for one after the other, each enclosed by the next.
use Rattle.std.proofs.Common.{◌≡◌, ◌∷◌, ◌++◌, List, [], ℕ, ◌-◌, ◌+◌, suc, refl, ap, subst, ◌∙◌, arith, Bool, Option, Some}
use Rattle.std.specs.Prelude.{IfSome, Result, Ok, Err, IsErrAnd}
use Rattle.std.specs.Ordering.{nat_cmp}
use Rattle.std.specs.BTreeSet.{contains}
use Rattle.std.proofs.lemmas.List.Elements.{All-append, All-weaker, All-nil}
use Rattle.omi_handle.specs.declared.handle.Kind.TheVariants.{Region}
use Rattle.omi_layout.specs.Field.{regions}
use Rattle.omi_layout.specs.Table.{records}
use Rattle.omi_walk.specs.Objects.{IsMet}
use Rattle.omi_walk.proofs.Chained.{one_met}
use Rattle.omi_walk.proofs.Steps.{leaves_same, leaves_then, met_after}
use Rattle.omi_calls.specs.Asked.{Asked}
use Rattle.omi_calls.specs.Told.{Told}
use Rattle.omi_session.specs.Opened.{Opened}
use Rattle.omi_walk.specs.declared.met.Met.{Met}
use Rattle.omi_walk.specs.declared.fault.WalkFault.{WalkFault}
use Rattle.omi_walk.specs.Asking.{also}
use Rattle.omi_walk.specs.Leaves.{Leaves}
use Rattle.omi_walk.specs.Walks.{Walks}
use Rattle.omi_walk.specs.AskRegions.{ask_outward, ask_enclosed}
use Rattle.omi_walk.proofs.ChainAsked.{all_asked, ChainGoes, also_met, chain_begin, chain_at, chain_next, chain_stop, chain_none, chain_cycle}
use Rattle.omi_walk.proofs.Goes.{goes_unsaid, walks_ok, walks_err}
use Rattle.omi_walk.proofs.chain.enclosing.Goals as goal

-- the next region was asked for
walked_enclosed : {C F : Type 0} (told : C → Told) (asked : C → Asked) (s t : Opened C F)
    (known : ℕ → Bool) (r : Met) (next : Option Met)
    → Walks told asked s t (Ok next) (ask_outward s.layout known (Some r.held))
    → Walks told asked s t (Ok (r, next)) (ask_enclosed s.layout known r)
unfolding ask_enclosed
walked_enclosed told asked s t known r next walks =
    walks_ok told asked s t (λ next. (r, next)) next (r, next)
    (ask_outward s.layout known (Some r.held)) refl walks

-- the chain of regions from one on, in the session where it began
module _ {C F : Type 0} (told : C → Told) (asked : C → Asked) (s : Opened C F) (first : Met) where
  abbrev count : ℕ
  count = records s.layout regions

  abbrev RegionsGo : Opened C F → List Met → ℕ → (ℕ → Bool) → Option Met → Type 0
  RegionsGo t chain left known current =
      ChainGoes told asked s ask_enclosed count (Some first) t chain left known current

  module _ (t u : Opened C F) (chain : List Met) (known now : ℕ → Bool) (left next : ℕ)
      (current : Option Met) (r : Met) (is : current ≡ Some r) (one : left ≡ suc next)
      (met : (address : ℕ) → now address ≡ also r.held.addr known address)
      (so : RegionsGo t chain left known current) where
    -- the region is the next
    at_region : RegionsGo t chain (suc next) known (Some r)
    at_region =
        chain_at told asked s ask_enclosed count (Some first) t chain known left (suc next) current r is
        one so

    -- it is added
    region_added : (n : ℕ) (outer : Option Met) → Leaves told n t u
        → Walks told asked t u (Ok outer) (ask_outward t.layout now (Some r.held))
        → RegionsGo u (chain ++ r ∷ []) next now outer
    region_added n outer leaves walks =
        chain_next told asked s ask_enclosed count (Some first) t u chain known now next r met at_region
        n r outer leaves (walked_enclosed told asked t u now r outer walks)

    -- or what encloses it is refused
    region_refused : (fault : WalkFault) (result : Result (List Met) WalkFault)
        → Walks {A = Option Met} told asked t u (Err fault) (ask_outward t.layout now (Some r.held))
        → IsErrAnd result (λ why. why ≡ fault)
        → Walks told asked s u result (all_asked told asked s ask_enclosed count (Some first))
    unfolding ask_enclosed
    region_refused fault result walks is_refused =
        chain_stop told asked s ask_enclosed count (Some first) t u chain known now next r met at_region
        fault result
        (walks_err told asked t u (λ next. (r, next)) fault
        (ask_outward t.layout now (Some r.held)) walks) is_refused

pub loop-init : goal.loop-init
loop-init g c =
    let s = c.args.s.now in
    let count = c.region_count-end.ensures.value ∙ ap (λ w. records w regions) (c.layout.ensures) in
    record {
      current = c.requires.met;
      chain = rw c.new-chain.ensures (All-nil (IsMet g.C.Callbacks.told s Region));
      leaves = leaves_same g.C.Callbacks.told _ c.args.s.now;
      later = omega arith;
      bound = count;
      few = c.region_count-end.ensures.few;
      goes =
          chain_begin g.C.Callbacks.told g.C.Callbacks.asked s ask_enclosed (records s.layout regions)
          (Some c.args.first) c.new-chain.result (contains nat_cmp c.new-met.result)
          (c.region_count-end.result - 0) c.new-chain.ensures
          (λ address. rw c.new-met.ensures.empty refl) (omega (arith, count));
    }

pub loop-preserved : goal.loop-preserved
loop-preserved g c =
    let told = g.C.Callbacks.told in
    let asked = g.C.Callbacks.asked in
    let now = c.loop.invariant in
    let region = c.in-Some.region in
    let leaves = c.onward.ensures.leaves in
    record {
      leaves = leaves_then told _ _ _ _ _ _ (omega arith) now.leaves leaves;
      later = omega (arith, now.later, c.onward.ensures.cause.later);
      bound = now.bound;
      few = now.few;
      current = c.in_ok-current.ensures.met;
      chain =
          let IsNow : Met → Type 0 = IsMet told c.loop.s Region in
          let IsThen : Met → Type 0 = IsMet told c.onward.new.s Region in
          let met = subst (λ o. IfSome o (IsMet told c.loop.s Region)) c.in-Some.is now.current in
          rw c.in_ok-push.ensures.added (All-append IsThen c.loop.chain (region ∷ [])
          (All-weaker IsNow IsThen (λ m. met_after told c.loop.s c.onward.new.s Region m leaves.stays)
          c.loop.chain now.chain)
          (one_met IsThen region (met_after told c.loop.s c.onward.new.s Region region leaves.stays met)));
      goes =
          rw c.in_ok-push.ensures.added (region_added told asked c.args.s.now c.args.first c.loop.s
          c.onward.new.s c.loop.chain (contains nat_cmp c.loop.met) (contains nat_cmp c.insert.new.self)
          (c.region_count-end.result - c.loop.counter)
          (c.region_count-end.result - (c.loop.counter + 1)) _ region c.in-Some.is
          (omega (arith, c.loop-test.true))
          (also_met c.loop.met c.insert.new.self region.held.addr c.in_ok-insert.ensures.updates)
          now.goes _ c.in_ok-current.current leaves c.in_ok-current.ensures.reads);
    }

-- reads: what was asked

pub returns-in_default-clause-reads : goal.returns-in_default-clause-reads
returns-in_default-clause-reads g c =
    let s = c.args.s.now in
    chain_none g.C.Callbacks.told g.C.Callbacks.asked s ask_enclosed (records s.layout regions)
    (Some c.args.first) c.loop.s c.loop.chain (contains nat_cmp c.loop.met)
    (c.region_count-end.result - c.loop.counter) _ c.in_default.is c.loop.invariant.goes

pub returns-in_err-insert-clause-reads : goal.returns-in_err-insert-clause-reads
returns-in_err-insert-clause-reads g c =
    goes_unsaid g.C.Callbacks.told g.C.Callbacks.asked c.args.s.now c.loop.s _ _ _
    c.loop.invariant.goes c.from_residual.ensures.1

pub returns-in_err-current-clause-reads : goal.returns-in_err-current-clause-reads
returns-in_err-current-clause-reads g c =
    let region = c.in-Some.region in
    region_refused g.C.Callbacks.told g.C.Callbacks.asked c.args.s.now c.args.first c.loop.s
    c.onward.new.s c.loop.chain (contains nat_cmp c.loop.met) (contains nat_cmp c.insert.new.self)
    (c.region_count-end.result - c.loop.counter) (c.region_count-end.result - (c.loop.counter + 1)) _
    region c.in-Some.is (omega (arith, c.loop-test.true))
    (also_met c.loop.met c.insert.new.self region.held.addr c.in_ok-insert.ensures.updates)
    c.loop.invariant.goes c.in_err-current.field-0.0 _ c.in_err-current.ensures.reads
    c.from_residual-in_err-current.ensures.1

pub returns-in_err-push-clause-reads : goal.returns-in_err-push-clause-reads
returns-in_err-push-clause-reads g c =
    let told = g.C.Callbacks.told in
    let asked = g.C.Callbacks.asked in
    let s = c.args.s.now in
    let region = c.in-Some.region in
    goes_unsaid told asked s c.onward.new.s _ _ _
    (region_added told asked s c.args.first c.loop.s c.onward.new.s c.loop.chain
    (contains nat_cmp c.loop.met) (contains nat_cmp c.insert.new.self)
    (c.region_count-end.result - c.loop.counter) (c.region_count-end.result - (c.loop.counter + 1)) _
    region c.in-Some.is (omega (arith, c.loop-test.true))
    (also_met c.loop.met c.insert.new.self region.held.addr c.in_ok-insert.ensures.updates)
    c.loop.invariant.goes _ c.in_ok-current.current c.onward.ensures.leaves
    c.in_ok-current.ensures.reads)
    c.from_residual-in_err-push.ensures.1

pub returns-in-None-clause-reads : goal.returns-in-None-clause-reads
returns-in-None-clause-reads g c =
    let s = c.args.s.now in
    chain_none g.C.Callbacks.told g.C.Callbacks.asked s ask_enclosed (records s.layout regions)
    (Some c.args.first) c.loop.s c.loop.chain (contains nat_cmp c.loop.met)
    (c.region_count-end.result - c.loop.counter) _ c.in-None.is c.loop.invariant.goes

pub returns-clause-reads : goal.returns-clause-reads
returns-clause-reads g c =
    let told = g.C.Callbacks.told in
    let asked = g.C.Callbacks.asked in
    let s = c.args.s.now in
    let count = records s.layout regions in
    let region = c.in-Some-current.region in
    chain_cycle told asked s ask_enclosed count (Some c.args.first) c.loop.s c.loop.chain
    (contains nat_cmp c.loop.met) region
    (chain_at told asked s ask_enclosed count (Some c.args.first) c.loop.s c.loop.chain
    (contains nat_cmp c.loop.met) (c.region_count-end.result - c.loop.counter) 0 _ region
    c.in-Some-current.is (omega (arith, c.loop-test.false)) c.loop.invariant.goes)
