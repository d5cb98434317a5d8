use Rattle.std.proofs.Common.{◌≡◌, Some, None, subst, sym, ◌∙◌, ap}
use Rattle.std.specs.Ordering.{nat_cmp}
use Rattle.std.specs.Option.{is_some}
use Rattle.std.specs.BTreeMap.{get, Updates}
use Rattle.omi_walk.proofs.Indexed.{no_some, first_put, first_kept}
use Rattle.omi_walk.proofs.index.index_one.Goals as goal

pub returns-in_ok-insert-clause-first : goal.returns-in_ok-insert-clause-first
returns-in_ok-insert-clause-first c = λ before has.
    first_put c.args.index.now before c.args.m has c.insert.new.self
    (subst (λ k. get nat_cmp c.args.index.now k ≡ None) c.slot_key-key.ensures (no_some _ c.if-not-contains_key.ensures))
    (subst (λ k. Updates nat_cmp c.args.index.now c.insert.new.self k (Some c.args.m)) c.slot_key-key.ensures c.in_ok-insert.ensures.updates)

pub returns-else-not-contains_key-clause-first : goal.returns-else-not-contains_key-clause-first
returns-else-not-contains_key-clause-first c = λ before has.
    first_kept c.args.index.now before c.args.m has
    (sym (c.if-not-contains_key.ensures ∙ ap (λ k. is_some (get nat_cmp c.args.index.now k)) c.slot_key-key.ensures))
