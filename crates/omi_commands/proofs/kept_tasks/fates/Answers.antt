use Rattle.std.proofs.Common.{◌+◌, List, ℕ, drop, inl, inr, refl, subst, sym, arith}
use Rattle.std.specs.Prelude.{string_bytes}
use Rattle.std.proofs.lemmas.Result.{err_from_is_err_and}
use Rattle.omi_session.proofs.Told.{stays_then}
use Rattle.omi_commands.proofs.FateLines.{FatesSoFar, all_lines, fates_begin, names, next_line, no_line}
use Rattle.omi_frame.proofs.Behind.{cause_behind}
use Rattle.omi_commands.proofs.kept_tasks.fates.Goals as goal

pub loop-at-init : goal.loop-at-init
loop-at-init g c = record {
  stays = record { table = record { same = refl; order = refl; to_host = refl }; layout = refl; handles = refl };
  later = omega arith;
  bound = c.len-at-end.ensures;
  lines = λ memory tells held.
      subst
      (λ (text : List ℕ). FatesSoFar c.args.session.now.layout memory (names c.args.tasks.now) text (names c.args.tasks.now))
      (sym c.new-text.ensures.bytes) (fates_begin c.args.session.now.layout memory (names c.args.tasks.now));
}

pub loop-at-preserved : goal.loop-at-preserved
loop-at-preserved g c =
    let told = g.C.Callbacks.told in
    let so = c.loop-at.invariant in
    record {
      stays = stays_then told c.args.session.now c.loop-at.session c.is_current.new.session so.stays c.is_current.ensures.same;
      later = omega (arith, so.later, c.is_current.ensures.cause.later);
      bound = so.bound;
      lines = λ memory tells held.
          subst
          (λ (text : List ℕ). FatesSoFar c.args.session.now.layout memory (names c.args.tasks.now) text (names (drop (c.loop-at.at + 1) c.args.tasks.now)))
          (sym c.in_ok-push_fate.ensures)
          (next_line told c.args.session.now c.loop-at.session c.args.tasks.now c.loop-at.at c.get.result.now so.stays c.get.ensures
          memory tells held (string_bytes c.loop-at.text) c.in_ok-current.current (so.lines memory tells held)
          (c.in_ok-current.ensures.fate memory c.get.result.now.0));
    }

pub returns-clause-fates : goal.returns-clause-fates
returns-clause-fates g c = λ memory tells held.
    all_lines c.args.session.now.layout memory c.args.tasks.now c.loop-at.at _ (omega (arith, c.loop-at.invariant.bound, c.loop-at-test.false))
    (c.loop-at.invariant.lines memory tells held)

pub returns-in_err-current-clause-fates : goal.returns-in_err-current-clause-fates
returns-in_err-current-clause-fates g c = λ memory tells held.
    let p = err_from_is_err_and c.from_residual.result c.from_residual.ensures.1 in
    let so = c.loop-at.invariant in
    rw (p.1, p.2)
    (no_line g.C.Callbacks.told c.args.session.now c.loop-at.session c.args.tasks.now c.loop-at.at c.get.result.now so.stays c.get.ensures
    memory tells held (string_bytes c.loop-at.text) c.in_err-current.field-0.0 (so.lines memory tells held)
    (c.in_err-current.ensures.fate memory c.get.result.now.0))

pub returns-in_err-current-clause-cause : goal.returns-in_err-current-clause-cause
returns-in_err-current-clause-cause g c =
    let p = err_from_is_err_and c.from_residual.result c.from_residual.ensures.1 in
    let so = c.loop-at.invariant in
    rw (p.1, p.2) (cause_behind _ _ _ so.later c.in_err-current.ensures.cause)

pub returns-in_err-push_fate-clause-fates : goal.returns-in_err-push_fate-clause-fates
returns-in_err-push_fate-clause-fates g c = λ memory tells held.
    let p = err_from_is_err_and c.from_residual-in_err-push_fate.result c.from_residual-in_err-push_fate.ensures.1 in
    rw (p.1, p.2) (inl (inr refl))
