use Rattle.std.proofs.Common.{◌≤◌, ℕ, List, ap, arith}
use Rattle.omi_rep.specs.LookView.{look_view}
use Rattle.omi_word.specs.Words.{Words}
use Rattle.omi_walk.specs.Gives.{Looks}
use Rattle.omi_commands.proofs.Imaged.{core_words, failed, opens, walk_free, walk_gives, walked}
use Rattle.omi_commands.proofs.image_view.view_by.Goals as goal

pub unreachable-requires : goal.unreachable-requires
unreachable-requires g c =
    opens c.args.image.now c.requires.shown c.in_ok-core.core c.in_default.field-0
    (core_words c.args.image.now c.args.contexts.now c.in_ok-core.core c.requires.shown.some c.in_ok-core.ensures.order c.in_ok-core.ensures.contexts c.in_ok-core.ensures.segments)
    c.in_default.ensures.refused

pub returns-in-Ok-walk : goal.returns-in-Ok-walk
unfolding Looks
returns-in-Ok-walk g c = λ w gives.
    walk_gives c.args.image.now c.requires.shown c.in_ok-core.core _ c.in-Ok.session.layout w (walked c.in-Ok-walk.view) (λ (l : List ℕ) (m : Words). look_view l m c.args.contexts.now)
    (core_words c.args.image.now c.args.contexts.now c.in_ok-core.core c.requires.shown.some c.in_ok-core.ensures.order c.in_ok-core.ensures.contexts c.in_ok-core.ensures.segments)
    c.in-Ok.ensures.told c.in-Ok.ensures.layout c.in-Ok-walk.ensures.look gives

pub unreachable-requires-in_default-fault : goal.unreachable-requires-in_default-fault
unfolding Looks
unreachable-requires-in_default-fault g c =
    walk_free c.args.image.now c.requires.shown c.args.contexts.now c.in-Err.fault
    (walk_gives c.args.image.now c.requires.shown c.in_ok-core.core _ c.in-Ok.session.layout c.requires.shown.w (failed c.in-Err.fault) (λ (l : List ℕ) (m : Words). look_view l m c.args.contexts.now)
    (core_words c.args.image.now c.args.contexts.now c.in_ok-core.core c.requires.shown.some c.in_ok-core.ensures.order c.in_ok-core.ensures.contexts c.in_ok-core.ensures.segments)
    c.in-Ok.ensures.told c.in-Ok.ensures.layout c.in-Err.ensures.look c.requires.shown.shows.layout)
    (λ e. let rose : 1 ≤ 0 = c.in-Err.ensures.cause.failed (ap failed e) in omega (arith, rose))
    c.in_default-fault.not-OutOfMemory
