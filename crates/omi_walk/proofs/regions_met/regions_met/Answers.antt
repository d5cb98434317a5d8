use Rattle.std.proofs.Common.{◌<◌, ◌++◌, ◌∷◌, [], List, refl, ap, subst, ◌∙◌, arith, sym}
use Rattle.std.proofs.lemmas.List.{flat_map_more, drop_all}
use Rattle.std.proofs.lemmas.List.Elements.{All-append, All-nil, All-weaker}
use Rattle.std.proofs.lemmas.Result.{err_from_is_err_and}
use Rattle.omi_handle.specs.declared.handle.Kind.TheVariants.{Region}
use Rattle.omi_walk.specs.declared.met.Met.{Met}
use Rattle.omi_walk.specs.Objects.{IsMet}
use Rattle.omi_walk.proofs.FoundLooks.{found_after}
use Rattle.omi_walk.proofs.FoundTasks.{found_at}
use Rattle.omi_walk.proofs.Steps.{leaves_same, leaves_then, met_after}
use Rattle.std.specs.Prelude.{Err}
use Rattle.omi_walk.specs.declared.found.Found.{Found}
use Rattle.omi_walk.specs.declared.fault.WalkFault.TheVariants.{OutOfMemory}
use Rattle.omi_walk.specs.Index.{HasFirst, AreSmall}
use Rattle.omi_walk.specs.AskRegions.{ask_regions}
use Rattle.omi_walk.proofs.SlotsAsked.{next_found}
use Rattle.omi_walk.proofs.EachAsked.{EachGoes, asks_begin, asks_next, asks_stop, asks_end}
use Rattle.omi_walk.proofs.Goes.{goes_unsaid}
use Rattle.omi_walk.proofs.ViewLooks.{index_lives}
use Rattle.omi_walk.proofs.regions_met.regions_met.Goals as goal

pub loop-at-init : goal.loop-at-init
loop-at-init g c = record {
  leaves = leaves_same g.C.Callbacks.told _ c.args.s.now;
  later = omega arith;
  bound = c.len-at-end.ensures;
  met = [];
  first = λ key. rw c.new-index.ensures.empty refl;
  small = All-nil _;
  live = All-nil _;
  all = [];
  flat = refl;
  goes = asks_begin g.C.Callbacks.told g.C.Callbacks.asked c.args.s.now (0, 0) (λ w k f. ask_regions w f) c.args.found.now;
}

pub regions_of-requires-clause-found : goal.regions_of-requires-clause-found
regions_of-requires-clause-found g c =
    let told = g.C.Callbacks.told in
    found_after told c.args.s.now c.loop-at.s c.loop-at.invariant.leaves.stays c.get.result.now
    (found_at told c.args.s.now c.args.found.now c.loop-at.at c.get.result.now c.get.ensures c.requires.found)

pub loop-at-preserved : goal.loop-at-preserved
loop-at-preserved g c = record {
  leaves = leaves_then g.C.Callbacks.told _ _ _ _ _ _ (omega arith) c.loop-at.invariant.leaves c.regions_of.ensures.leaves;
  later = omega (arith, c.loop-at.invariant.later, c.regions_of.ensures.cause.later);
  bound = c.loop-at.invariant.bound;
  met = c.loop-at.invariant.met ++ c.in_ok-chain.chain;
  first = c.in_ok-index_all.ensures.first c.loop-at.invariant.met c.loop-at.invariant.first;
  small = All-append (λ m. m.name.slot < 65536) c.loop-at.invariant.met c.in_ok-chain.chain c.loop-at.invariant.small c.in_ok-index_all.ensures.small;
  live =
      let told = g.C.Callbacks.told in
      All-append (IsMet told c.regions_of.new.s Region) c.loop-at.invariant.met c.in_ok-chain.chain
      (All-weaker (IsMet told c.loop-at.s Region) (IsMet told c.regions_of.new.s Region) (λ m met. met_after told c.loop-at.s c.regions_of.new.s Region m c.regions_of.ensures.leaves.stays met)
      c.loop-at.invariant.met c.loop-at.invariant.live)
      c.in_ok-chain.ensures.met;
  all = c.loop-at.invariant.all ++ c.in_ok-chain.chain ∷ [];
  flat =
      sym (flat_map_more (λ (chain : List Met). chain) [] c.loop-at.invariant.all c.in_ok-chain.chain)
      ∙ ap (λ met. met ++ c.in_ok-chain.chain) c.loop-at.invariant.flat;
  goes =
      asks_next g.C.Callbacks.told g.C.Callbacks.asked c.args.s.now (0, 0)
      (λ w k f. ask_regions w f) c.args.found.now c.loop-at.s c.regions_of.new.s c.loop-at.invariant.all _ c.get.result.now _ c.in_ok-chain.chain
      (subst (λ left. EachGoes g.C.Callbacks.told g.C.Callbacks.asked c.args.s.now (0, 0) (λ w k f. ask_regions w f) c.args.found.now c.loop-at.s c.loop-at.invariant.all left)
      (next_found c.args.found.now c.loop-at.at c.get.result.now c.get.ensures) c.loop-at.invariant.goes) c.regions_of.ensures.leaves c.in_ok-chain.ensures.reads;
}

-- reads: what was asked

pub returns-in_err-chain-clause-reads : goal.returns-in_err-chain-clause-reads
returns-in_err-chain-clause-reads g c =
    let told = g.C.Callbacks.told in
    let asked = g.C.Callbacks.asked in
    let p = err_from_is_err_and c.from_residual.result c.from_residual.ensures.1 in
    let s = c.args.s.now in
    let f = c.get.result.now in
    let so = subst (λ left. EachGoes g.C.Callbacks.told g.C.Callbacks.asked s (0, 0) (λ w k f. ask_regions w f) c.args.found.now c.loop-at.s c.loop-at.invariant.all left)
    (next_found c.args.found.now c.loop-at.at f c.get.ensures) c.loop-at.invariant.goes in
    rw (p.1, p.2)
    (asks_stop told asked s (0, 0) (λ w k f. ask_regions w f) c.args.found.now c.loop-at.s c.regions_of.new.s c.loop-at.invariant.all f _ c.in_err-chain.field-0.0 (Err c.in_err-chain.field-0.0) so c.in_err-chain.ensures.reads refl)

pub returns-in_err-index_all-clause-reads : goal.returns-in_err-index_all-clause-reads
returns-in_err-index_all-clause-reads g c =
    let told = g.C.Callbacks.told in
    let asked = g.C.Callbacks.asked in
    let p = err_from_is_err_and c.from_residual-in_err-index_all.result c.from_residual-in_err-index_all.ensures.1 in
    let s = c.args.s.now in
    let f = c.get.result.now in
    let so = subst (λ left. EachGoes g.C.Callbacks.told g.C.Callbacks.asked s (0, 0) (λ w k f. ask_regions w f) c.args.found.now c.loop-at.s c.loop-at.invariant.all left)
    (next_found c.args.found.now c.loop-at.at f c.get.ensures) c.loop-at.invariant.goes in
    rw (p.1, p.2, c.in_err-index_all.ensures.memory) (goes_unsaid told asked s c.regions_of.new.s _ _ (Err OutOfMemory)
    (asks_next told asked s (0, 0) (λ w k f. ask_regions w f) c.args.found.now c.loop-at.s c.regions_of.new.s c.loop-at.invariant.all _ f _ c.in_ok-chain.chain so c.regions_of.ensures.leaves c.in_ok-chain.ensures.reads) refl)

pub returns-clause-reads : goal.returns-clause-reads
returns-clause-reads g c =
    let told = g.C.Callbacks.told in
    let asked = g.C.Callbacks.asked in
    let s = c.args.s.now in
    record {
      met = c.loop-at.invariant.all;
      walks =
          asks_end told asked s (0, 0)
          (λ w k f. ask_regions w f) c.args.found.now c.loop-at.s c.loop-at.invariant.all
          (subst (λ (left : List Found). EachGoes g.C.Callbacks.told g.C.Callbacks.asked s (0, 0) (λ w k f. ask_regions w f) c.args.found.now c.loop-at.s c.loop-at.invariant.all left)
          (drop_all c.loop-at.at c.args.found.now (omega (arith, c.loop-at.invariant.bound, c.loop-at-test.false))) c.loop-at.invariant.goes);
      first = subst (HasFirst c.loop-at.index) (sym c.loop-at.invariant.flat) c.loop-at.invariant.first;
      small = subst AreSmall (sym c.loop-at.invariant.flat) c.loop-at.invariant.small;
    }

pub returns-clause-live : goal.returns-clause-live
returns-clause-live g c =
    index_lives g.C.Callbacks.told c.loop-at.s c.loop-at.index c.loop-at.invariant.met c.loop-at.invariant.first c.loop-at.invariant.live
