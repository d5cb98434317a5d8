use Rattle.std.proofs.Common.{Some, None, refl, subst, arith}
use Rattle.std.specs.Prelude.{Ok}
use Rattle.omi_walk.proofs.Lent.{lent_leaves}
use Rattle.omi_walk.proofs.Steps.{leaves_then}
use Rattle.omi_walk.specs.declared.threads.SeenPart.{SeenPart}
use Rattle.omi_walk.specs.Walks.{Walks}
use Rattle.omi_walk.specs.Asking.{with_answer}
use Rattle.omi_walk.specs.AskThreads.{ask_thread_with, ask_part, ask_found, ask_thread}
use Rattle.omi_walk.proofs.Goes.{goes_begin, goes_on, goes_stop, goes_last, goes_end, goes_unmade, walks_ok, lent_walks}
use Rattle.omi_walk.proofs.threads.thread_row.Goals as goal

pub returns-in_err-seen-clause-leaves : goal.returns-in_err-seen-clause-leaves
returns-in_err-seen-clause-leaves g c =
    leaves_then g.C.Callbacks.told 1 2 3 _ _ _ (omega arith) c.thread_with.ensures.leaves
    (lent_leaves 1 2 (omega arith) c.in_ok-key.ensures.handed c.hand.ensures.stays c.part_of-seen.ensures.leaves c.release.ensures.removed c.release.ensures.made c.release.ensures.layout c.release.ensures.table)

pub returns-clause-leaves : goal.returns-clause-leaves
returns-clause-leaves g c =
    leaves_then g.C.Callbacks.told 1 2 3 _ _ _ (omega arith) c.thread_with.ensures.leaves
    (lent_leaves 1 2 (omega arith) c.in_ok-key.ensures.handed c.hand.ensures.stays c.part_of-seen.ensures.leaves c.release.ensures.removed c.release.ensures.made c.release.ensures.layout c.release.ensures.table)

-- reads: what was asked

-- a thread was looked for, with this outcome
pub returns-in_err-t-clause-reads : goal.returns-in_err-t-clause-reads
unfolding ask_thread
returns-in_err-t-clause-reads g c =
    let told = g.C.Callbacks.told in
    let asked = g.C.Callbacks.asked in
    let s = c.args.s.now in
    let all = ask_thread s.layout c.args.native in
    goes_stop told asked s s _ (0, 0) all (λ w k. ask_thread_with w c.args.native) _
    (goes_begin told asked s all) c.in_err-t.field-0.0 _ c.in_err-t.ensures.reads c.from_residual.ensures.1

pub returns-in_default-clause-reads : goal.returns-in_default-clause-reads
unfolding ask_thread ask_found
returns-in_default-clause-reads g c =
    let told = g.C.Callbacks.told in
    let asked = g.C.Callbacks.asked in
    let s = c.args.s.now in
    let t = c.thread_with.new.s in
    let all = ask_thread s.layout c.args.native in
    let so1 = goes_on told asked s s t (0, 0) all (λ w k. ask_thread_with w c.args.native) (ask_found s.layout c.args.native) (goes_begin told asked s all) _ None c.thread_with.ensures.leaves
    (subst (λ o. Walks told asked s t (Ok o) (ask_thread_with s.layout c.args.native)) c.in_default.is c.in_ok-t.ensures.reads) in
    goes_end told asked s t all _ _ refl so1

pub returns-in_err-key-clause-reads : goal.returns-in_err-key-clause-reads
unfolding ask_thread
returns-in_err-key-clause-reads g c =
    let told = g.C.Callbacks.told in
    let asked = g.C.Callbacks.asked in
    let s = c.args.s.now in
    let t = c.thread_with.new.s in
    let all = ask_thread s.layout c.args.native in
    let so1 = goes_on told asked s s t (0, 0) all (λ w k. ask_thread_with w c.args.native) (ask_found s.layout c.args.native) (goes_begin told asked s all) _ (Some c.in-Some.t) c.thread_with.ensures.leaves
    (subst (λ o. Walks told asked s t (Ok o) (ask_thread_with s.layout c.args.native)) c.in-Some.is c.in_ok-t.ensures.reads) in
    goes_unmade told asked s t _ all _ _ _ so1 c.hand.ensures.table c.from_residual-in_err-key.ensures.1 c.in_err-key.ensures.memory

pub returns-in_err-seen-clause-reads : goal.returns-in_err-seen-clause-reads
unfolding ask_thread ask_found with_answer
returns-in_err-seen-clause-reads g c =
    let told = g.C.Callbacks.told in
    let asked = g.C.Callbacks.asked in
    let s = c.args.s.now in
    let t = c.thread_with.new.s in
    let m = c.in-Some.t in
    let all = ask_thread s.layout c.args.native in
    let so1 = goes_on told asked s s t (0, 0) all (λ w k. ask_thread_with w c.args.native) (ask_found s.layout c.args.native) (goes_begin told asked s all) _ (Some m) c.thread_with.ensures.leaves
    (subst (λ o. Walks told asked s t (Ok o) (ask_thread_with s.layout c.args.native)) c.in-Some.is c.in_ok-t.ensures.reads) in
    goes_stop told asked s t _ (0, 0) all
    (λ w k. ask_part w m.name.creator (Some m.held)) _ so1 c.in_err-seen.field-0.0 _
    (lent_walks _ m.held (λ w k. ask_part w m.name.creator k)
    c.hand.ensures.table c.hand.ensures.stays.layout c.in_ok-key.ensures.handed.found c.release.ensures.table c.in_err-seen.ensures.reads) c.from_residual-in_err-seen.ensures.1

pub returns-clause-reads : goal.returns-clause-reads
unfolding ask_thread ask_found
returns-clause-reads g c =
    let told = g.C.Callbacks.told in
    let asked = g.C.Callbacks.asked in
    let s = c.args.s.now in
    let t = c.thread_with.new.s in
    let m = c.in-Some.t in
    let all = ask_thread s.layout c.args.native in
    let so1 = goes_on told asked s s t (0, 0) all (λ w k. ask_thread_with w c.args.native) (ask_found s.layout c.args.native) (goes_begin told asked s all) _ (Some m) c.thread_with.ensures.leaves
    (subst (λ o. Walks told asked s t (Ok o) (ask_thread_with s.layout c.args.native)) c.in-Some.is c.in_ok-t.ensures.reads) in
    goes_last told asked s t _ (0, 0) all (λ w k. ask_found w c.args.native (Some m)) _ so1
    (walks_ok told asked t _ (λ (seen : SeenPart). record {
      row = record { native = c.args.native; found = Some seen.part };
      current = seen.current;
    }) c.in_ok-seen.seen _ _ refl
    (lent_walks _ m.held (λ w k. ask_part w m.name.creator k)
    c.hand.ensures.table c.hand.ensures.stays.layout c.in_ok-key.ensures.handed.found c.release.ensures.table c.in_ok-seen.ensures.reads))
