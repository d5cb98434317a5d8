use Rattle.std.proofs.Common.{◌≡◌, ◌+◌, ◌-◌, ◌++◌, suc, List, [], ◌∷◌, length, slice_get, Some, sym, ap, ◌∙◌, subst, arith, ⊎_elim}
use Rattle.std.proofs.lemmas.List.{length-append}
use Rattle.atomic_table.specs.Table.{Splits}
use Rattle.omi_core.specs.declared.thread_run.Until.TheVariants as until
use Rattle.omi_seat.specs.Seats.{all_below, first_alone, without_first}
use Rattle.omi_seat.specs.Workers.{IsToBegin}
use Rattle.omi_seat.specs.declared.workers.Runner.{Runner}
use Rattle.omi_seat.proofs.Lists.{get_more}
use Rattle.omi_seat.proofs.workers.workers_at.Goals as goal

pub split_seat-own-requires : goal.split_seat-own-requires
split_seat-own-requires g c =
    let now = c.loop-made.invariant in
    let below = c.loop-made-test.true in
    let part = c.requires.split.0 in
    let rest = c.requires.split.1 in
    let split = c.requires.split.2 in
    let left : c.args.p.now.threads - c.loop-made.made ≡ suc (c.args.p.now.threads - c.loop-made.made - 1) =
    omega (arith, below) in
    let knows : c.loop-made.seat.me.0 ≡ all_below part (suc (c.args.p.now.threads - c.loop-made.made - 1)) ++ rest =
    ap (λ m. m.0) (now.knows part rest split) ∙ ap (λ n. all_below part n ++ rest) left in (
      now.seated,
      c.requires.count,
      subst (λ (v : List _). Splits (g.P.TableRule.holds c.args.words.now.key) c.loop-made.seat.id v (without_first v) (first_alone v)) (sym knows)
          (split.may c.loop-made.seat.id (c.args.p.now.threads - c.loop-made.made - 1)),
    )

pub loop-made-preserved : goal.loop-made-preserved
loop-made-preserved g c =
    let now = c.loop-made.invariant in
    let below = c.loop-made-test.true in
    let left : c.args.p.now.threads - c.loop-made.made ≡ suc (c.args.p.now.threads - (c.loop-made.made + 1)) =
    omega (arith, below) in
    let split = c.split_seat-own.ensures in
    let count : length c.loop-made.workers.items ≡ c.loop-made.made =
    sym c.loop-made.workers.ok.0 ∙ now.count in
    let one : Runner _ = record { worker = c.in_ok-worker.worker; until = until.Budget } in
    record {
      seated = split.0 ∙ now.seated;
      knows = λ part rest may.
          split.2 ∙ ap (λ m. (without_first m.0, m.1)) (now.knows part rest may ∙ ap (λ n. (all_below part n ++ rest, [])) left);
      count = c.push.new.self.ok.0 ∙ ap (λ (rs : List (Runner _)). length rs) c.in_ok-push.ensures.items ∙ length-append c.loop-made.workers.items (one ∷ []) ∙ ap (λ n. n + 1) count;
      begin = λ m part rest may i r got. ⊎_elim (now.begin m part rest may i r)
          (λ last.
          let r_is = last.1 in
          let at = last.0 in
          let thread = c.in_ok-worker.ensures.thread in
          let own : c.split_seat-own.result.me ≡ (part (c.args.p.now.threads - (c.loop-made.made + 1)) ∷ [], []) =
          split.4 ∙ ap (λ m. (first_alone m.0, [])) (now.knows part rest may ∙ ap (λ n. (all_below part n ++ rest, [])) left) in
          let begins : IsToBegin c.args.p.now m c.args.words.now.table_id c.args.budget c.args.kept (part c.in_ok-worker.worker.log.thread) c.in_ok-worker.worker = record {
            table = ap (λ z. z.table_id) c.in_ok-worker.ensures.seat ∙ split.3 ∙ now.seated;
            knows =
                ap (λ z. z.me) c.in_ok-worker.ensures.seat ∙ own
                ∙ ap (λ n. (part n ∷ [], [])) (omega (arith, below, thread));
            ready = c.in_ok-worker.ensures.ready m;
          } in (
            subst
                (λ (x : Runner _). IsToBegin c.args.p.now m c.args.words.now.table_id c.args.budget c.args.kept (part x.worker.log.thread) x.worker)
                r_is begins,
            subst (λ (x : Runner _). x.worker.log.thread + i + 1 ≡ c.args.p.now.threads) r_is (omega (arith, thread, at, count, below)),
          ))
          (get_more c.loop-made.workers.items one r i (subst (λ (rs : List (Runner _)). slice_get rs i ≡ Some r) c.in_ok-push.ensures.items got));
    }

pub returns-clause-rest : goal.returns-clause-rest
returns-clause-rest g c part rest may =
    let now = c.loop-made.invariant in
    let end = c.loop-made-test.false in
    let most = c.loop-made.auto.made-end in
    let none : c.args.p.now.threads - c.loop-made.made ≡ 0 = omega (arith, end, most) in
    now.knows part rest may ∙ ap (λ n. (all_below part n ++ rest, [])) none
