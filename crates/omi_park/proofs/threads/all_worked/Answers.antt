use Rattle.std.proofs.Common.{rules, ◌≡◌, ◌<◌, ◌+◌, ◌++◌, ℕ, List, length, take, drop, slice_get, vec_len, Some, sym, ap, ◌∙◌, subst, arith}
use Rattle.std.proofs.Math.Seq.{take-append_seam}
use Rattle.std.proofs.lemmas.Option.{get_or_from_slice_get, slice_get-get_or}
use Rattle.omi_seat.specs.Workers.{IsToBegin}
use Rattle.omi_seat.specs.declared.step_log.Kept.{Kept}
use Rattle.omi_seat.specs.declared.workers.Runner.{Runner}
use Rattle.omi_seat.proofs.Lists.{get_within}
use Rattle.omi_park.specs.declared.known.Part.{Part}
use Rattle.omi_park.specs.Joined.{HasEnded}
use Rattle.omi_park.specs.Plays.{first_part}
use Rattle.omi_park.proofs.threads.all_worked.Goals as goal

pub for_each_mut-requires-clause-accepts : goal.for_each_mut-requires-clause-accepts
for_each_mut-requires-clause-accepts g c κs held i r below is =
    let there : slice_get c.deref_mut.result.now i ≡ Some r.now =
    slice_get-get_or c.deref_mut.result.now i r.now below ∙ ap (λ (x : Runner Part). Some x) (sym is) in
    let got : slice_get c.args.workers.now.items i ≡ Some r.now =
    subst (λ (rs : List (Runner Part)). slice_get rs i ≡ Some r.now) c.deref_mut.ensures.value there in
    let begins = (c.requires.begin.1 i r.now got).0 in
    ((c.requires.suits, c.requires.table, c.requires.budget, subst (λ keeps. IsToBegin c.args.p.now c.args.l.now c.args.words.now.table_id c.args.budget keeps (first_part c.args.p.now c.args.l.now r.now.worker.log.thread) r.now.worker) (sym begins.ready.kept) begins), search rules)

pub returns-clause-ended : goal.returns-clause-ended
returns-clause-ended g c keeps begin i thread e got at =
    let count = c.deref_mut.ensures.len in
    let long : length c.for_each_mut.new.s ≡ vec_len c.args.workers.now = c.for_each_mut.auto.s ∙ count in
    let after = drop (length c.for_each_mut.new.s) c.args.workers.now.items in
    let same : take (vec_len c.args.workers.now) (c.for_each_mut.new.s ++ after) ≡ c.for_each_mut.new.s =
    ap (λ n. take n (c.for_each_mut.new.s ++ after)) (sym long) ∙ take-append_seam c.for_each_mut.new.s after in
    let there : slice_get c.for_each_mut.new.s i ≡ Some e =
    subst (λ (rs : List (Runner Part)). slice_get rs i ≡ Some e) same got in
    let within = get_within c.for_each_mut.new.s e i there in
    let below : i < length c.deref_mut.result.now = omega (arith, within, long, count) in
    let fact = (c.for_each_mut.ensures i e below).1 in
    let was : slice_get c.deref_mut.result.now i ≡ Some fact.argument.now =
    slice_get-get_or c.deref_mut.result.now i e below ∙ ap (λ (x : Runner Part). Some x) (sym fact.argument_is) in
    let begins =
    begin i fact.argument.now (subst (λ (rs : List (Runner Part)). slice_get rs i ≡ Some fact.argument.now) c.deref_mut.ensures.value was) in
    let number = begins.1 in
    subst (HasEnded c.args.p.now c.args.l.now c.args.words.now.table_id c.args.budget keeps thread)
    (fact.left ∙ get_or_from_slice_get c.for_each_mut.new.s i e e there)
    (subst (λ (z : Kept × ℕ). HasEnded c.args.p.now c.args.l.now c.args.words.now.table_id c.args.budget z.0 z.1 fact.after_call.now)
    (λ k. (begins.0.ready.kept k, the_thread i number at k)) fact.call)
  where
    the_thread : {own thread threads : ℕ} → (i : ℕ) → own + i + 1 ≡ threads → thread + i + 1 ≡ threads → own ≡ thread
    the_thread i is at = omega (arith, is, at)
