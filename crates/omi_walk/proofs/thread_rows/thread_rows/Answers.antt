use Rattle.std.proofs.Common.{◌≡◌, ℕ, List, refl, subst, sym, arith, ◌++◌, ◌∷◌, [], ◌∙◌, ap}
use Rattle.std.proofs.Math.ListN.{drop_of_length-le}
use Rattle.std.proofs.lemmas.List.Elements.{All-nil}
use Rattle.omi_walk.proofs.FoundLooks.{found_few, found_all, next_left}
use Rattle.omi_walk.proofs.Steps.{leaves_same, leaves_then}
use Rattle.std.proofs.lemmas.List.{map-append, flat_map_more}
use Rattle.std.specs.Prelude.{Result, Ok, Err, IsErrAnd}
use Rattle.omi_walk.specs.declared.threads.SeenThread.{SeenThread}
use Rattle.omi_walk.specs.SeenThreads.{found_in}
use Rattle.omi_walk.specs.AskThreads.{ask_thread, all_seen, ask_threads}
use Rattle.omi_walk.proofs.EachAsked.{EachGoes, asks_begin, asks_next, asks_stop, asks_end}
use Rattle.omi_walk.proofs.Goes.{goes_unsaid, walks_ok, walks_err, walks_as, walks_unsaid}
use Rattle.omi_walk.specs.declared.fault.WalkFault.TheVariants.{OutOfMemory}
use Rattle.omi_walk.specs.Walks.{Walks}
use Rattle.omi_walk.specs.declared.fault.WalkFault.{WalkFault}
use Rattle.omi_walk.specs.declared.thread_rows.SeenThreads.{SeenThreads}
use Rattle.omi_walk.proofs.thread_rows.thread_rows.Given.{Over}
use Rattle.omi_walk.proofs.thread_rows.thread_rows.Goals.{In_ok-seen}
use Rattle.omi_walk.proofs.thread_rows.thread_rows.Goals as goal

pub loop-native-init : goal.loop-native-init
loop-native-init g c = record {
  leaves = leaves_same g.C.Callbacks.told _ c.args.s.now;
  later = omega arith;
  each = rw c.new-found.ensures (All-nil _);
  few = rw c.new-found.ensures (omega arith);
  seen = [];
  rows_are = c.new-rows.ensures;
  found_are = c.new-found.ensures;
  goes = asks_begin g.C.Callbacks.told g.C.Callbacks.asked c.args.s.now (0, 0) (λ w k native. ask_thread w native) c.as_slice-native-items.result.now;
}

pub loop-native-preserved : goal.loop-native-preserved
loop-native-preserved g c = record {
  leaves = leaves_then g.C.Callbacks.told _ _ _ _ _ _ (omega arith) c.loop-native.invariant.leaves c.thread_row.ensures.leaves;
  later = omega (arith, c.loop-native.invariant.later, c.thread_row.ensures.cause.later);
  each = rw c.in_ok-add_found.ensures
      (found_all g.C.Callbacks.told c.loop-native.s c.thread_row.new.s c.thread_row.ensures.leaves.stays c.loop-native.found c.in_ok-seen.seen.row.found c.in_ok-seen.seen.current
      c.loop-native.invariant.each c.in_ok-seen.ensures.met);
  few = rw c.in_ok-add_found.ensures (found_few c.loop-native.found c.in_ok-seen.seen.row.found c.in_ok-seen.seen.current c.loop-native.native-index c.loop-native.invariant.few);
  seen = c.loop-native.invariant.seen ++ c.in_ok-seen.seen ∷ [];
  rows_are =
      c.in_ok-push.ensures.added
      ∙ ap (λ rows. rows ++ c.in_ok-seen.seen.row ∷ []) c.loop-native.invariant.rows_are
      ∙ sym (map-append (λ (x : SeenThread). x.row) c.loop-native.invariant.seen (c.in_ok-seen.seen ∷ []));
  found_are =
      c.in_ok-add_found.ensures
      ∙ ap
      (λ found. found ++ found_in c.in_ok-seen.seen.row.found c.in_ok-seen.seen.current) c.loop-native.invariant.found_are
      ∙ flat_map_more (λ (x : SeenThread). found_in x.row.found x.current) [] c.loop-native.invariant.seen c.in_ok-seen.seen;
  goes =
      let contexts = c.as_slice-native-items.result.now in
      asks_next g.C.Callbacks.told g.C.Callbacks.asked c.args.s.now (0, 0)
      (λ w k native. ask_thread w native) contexts c.loop-native.s c.thread_row.new.s c.loop-native.invariant.seen _ _ _ c.in_ok-seen.seen
      (subst (λ left. EachGoes g.C.Callbacks.told g.C.Callbacks.asked c.args.s.now (0, 0) (λ w k native. ask_thread w native) contexts c.loop-native.s c.loop-native.invariant.seen left)
      (next_left contexts c.loop-native.native-index c.loop-native-test.true) c.loop-native.invariant.goes) c.thread_row.ensures.leaves c.in_ok-seen.ensures.reads;
}

-- reads: what was asked

pub returns-in_err-seen-clause-reads : goal.returns-in_err-seen-clause-reads
unfolding ask_threads
returns-in_err-seen-clause-reads g c =
    let told = g.C.Callbacks.told in
    let asked = g.C.Callbacks.asked in
    let s = c.args.s.now in
    let contexts = c.as_slice-native-items.result.now in
    let so = subst (λ left. EachGoes told asked s (0, 0) (λ w k native. ask_thread w native) contexts c.loop-native.s c.loop-native.invariant.seen left)
    (next_left contexts c.loop-native.native-index c.loop-native-test.true) c.loop-native.invariant.goes in
    let r = c.from_residual.result in
    subst
    (λ xs. Walks told asked s c.thread_row.new.s r (ask_threads s.layout xs)) c.as_slice-native-items.ensures
    (walks_as told asked s c.thread_row.new.s c.in_err-seen.field-0.0 r _ c.from_residual.ensures.1
    (walks_err told asked s c.thread_row.new.s all_seen c.in_err-seen.field-0.0 _
    (asks_stop told asked s (0, 0) (λ w k native. ask_thread w native) contexts c.loop-native.s c.thread_row.new.s c.loop-native.invariant.seen _ _ c.in_err-seen.field-0.0 (Err c.in_err-seen.field-0.0) so c.in_err-seen.ensures.reads refl)))

-- memory runs out behind a thread
unsaid : (g : Over) (c : In_ok-seen g) (r : Result SeenThreads WalkFault) → IsErrAnd r (λ why. why ≡ OutOfMemory)
    → Walks g.C.Callbacks.told g.C.Callbacks.asked c.args.s.now c.thread_row.new.s r (ask_threads c.args.s.now.layout c.args.contexts.now)
unfolding ask_threads
unsaid g c r is =
    let told = g.C.Callbacks.told in
    let asked = g.C.Callbacks.asked in
    let s = c.args.s.now in
    let contexts = c.as_slice-native-items.result.now in
    let so = subst (λ left. EachGoes told asked s (0, 0) (λ w k native. ask_thread w native) contexts c.loop-native.s c.loop-native.invariant.seen left)
    (next_left contexts c.loop-native.native-index c.loop-native-test.true) c.loop-native.invariant.goes in
    subst
    (λ xs. Walks told asked s c.thread_row.new.s r (ask_threads s.layout xs)) c.as_slice-native-items.ensures
    (walks_unsaid told asked s c.thread_row.new.s all_seen (Err OutOfMemory) r _ (λ e. (cc))
    (goes_unsaid told asked s c.thread_row.new.s _ _ (Err OutOfMemory)
    (asks_next told asked s (0, 0) (λ w k native. ask_thread w native) contexts c.loop-native.s c.thread_row.new.s c.loop-native.invariant.seen _ _ _ c.in_ok-seen.seen so c.thread_row.ensures.leaves c.in_ok-seen.ensures.reads) refl)
    is)

pub returns-in_err-push-clause-reads : goal.returns-in_err-push-clause-reads
returns-in_err-push-clause-reads g c =
    unsaid g (goal.at.returns-in_err-push-clause-reads g c).In_ok-seen c.from_residual-in_err-push.result c.from_residual-in_err-push.ensures.1

pub returns-in_err-add_found-clause-reads : goal.returns-in_err-add_found-clause-reads
returns-in_err-add_found-clause-reads g c =
    unsaid g (goal.at.returns-in_err-add_found-clause-reads g c).In_ok-seen c.from_residual-in_err-add_found.result c.from_residual-in_err-add_found.ensures.1

pub returns-clause-reads : goal.returns-clause-reads
unfolding ask_threads
returns-clause-reads g c =
    let told = g.C.Callbacks.told in
    let asked = g.C.Callbacks.asked in
    let s = c.args.s.now in
    let contexts = c.as_slice-native-items.result.now in
    subst
    (λ xs. Walks told asked s c.loop-native.s (Ok (record { rows = c.loop-native.rows; found = c.loop-native.found })) (ask_threads s.layout xs)) c.as_slice-native-items.ensures
    (walks_ok told asked s c.loop-native.s all_seen c.loop-native.invariant.seen (record { rows = c.loop-native.rows; found = c.loop-native.found }) _
    (λ i. record { rows = c.loop-native.invariant.rows_are i; found = c.loop-native.invariant.found_are i })
    (asks_end told asked s (0, 0) (λ w k native. ask_thread w native) contexts c.loop-native.s c.loop-native.invariant.seen
    (subst (λ (left : List ℕ). EachGoes told asked s (0, 0) (λ w k native. ask_thread w native) contexts c.loop-native.s c.loop-native.invariant.seen left)
    (drop_of_length-le contexts (omega (arith, c.loop-native-test.false))) c.loop-native.invariant.goes)))
