use Rattle.std.proofs.Common.{sym, ◌∙◌}
use Rattle.omi_layout.proofs.Arenas.{small, few}
use Rattle.omi_layout.proofs.judging.is_arena.Goals as goal

pub is_placed-requires-clause-few : goal.is_placed-requires-clause-few
is_placed-requires-clause-few c =
    few c.args.w.now c.args.p c.requires.is
    (sym c.is_counted.ensures ∙ c.if-not-is_counted.false) c.requires.below

pub is_placed-requires-clause-small : goal.is_placed-requires-clause-small
is_placed-requires-clause-small c = small c.args.w.now c.requires.inside c.args.p c.requires.is

pub is_taken-first-requires-clause-few : goal.is_taken-first-requires-clause-few
is_taken-first-requires-clause-few c =
    few c.args.w.now c.args.p c.requires.is
    (sym c.is_counted.ensures ∙ c.if-not-is_counted.false) c.requires.below

pub is_taken-first-requires-clause-small : goal.is_taken-first-requires-clause-small
is_taken-first-requires-clause-small c = small c.args.w.now c.requires.inside c.args.p c.requires.is

pub is_taken-second-requires-clause-few : goal.is_taken-second-requires-clause-few
is_taken-second-requires-clause-few c =
    few c.args.w.now c.args.p c.requires.is
    (sym c.is_counted.ensures ∙ c.if-not-is_counted.false) c.requires.below

pub is_taken-second-requires-clause-small : goal.is_taken-second-requires-clause-small
is_taken-second-requires-clause-small c = small c.args.w.now c.requires.inside c.args.p c.requires.is

pub is_taken-third-requires-clause-few : goal.is_taken-third-requires-clause-few
is_taken-third-requires-clause-few c =
    few c.args.w.now c.args.p c.requires.is
    (sym c.is_counted.ensures ∙ c.if-not-is_counted.false) c.requires.below

pub is_taken-third-requires-clause-small : goal.is_taken-third-requires-clause-small
is_taken-third-requires-clause-small c = small c.args.w.now c.requires.inside c.args.p c.requires.is
