use Rattle.std.proofs.Common.{◌≡◌, ◌≤◌, ℕ, List, ap, subst, arith}
use Rattle.omi_layout.proofs.OneAnswer.{one_layout}
use Rattle.omi_layout.specs.Given.{GivesLayout}
use Rattle.omi_commands.proofs.Imaged.{core_words, opens, walk_gives}
use Rattle.omi_walk.specs.Gives.{Looks}
use Rattle.omi_walk.specs.Kept.{look_names, names_kept}
use Rattle.omi_word.specs.Words.{Words, words_of}
use Rattle.omi_park.proofs.Asking.{names_free, refused, tasks_held, tasks_kept}
use Rattle.omi_park.proofs.copies.tasks_by.Goals as goal

pub unreachable-requires : goal.unreachable-requires
unreachable-requires g c =
    let (w, copy) = c.requires.copy in
    opens c.args.image.now copy.shown c.in_ok-core.core c.in_default.field-0
    (core_words c.args.image.now c.args.contexts.now c.in_ok-core.core copy.shown.some c.in_ok-core.ensures.order c.in_ok-core.ensures.contexts c.in_ok-core.ensures.segments)
    c.in_default.ensures.refused

pub returns-in-Ok-kept : goal.returns-in-Ok-kept
unfolding Looks
returns-in-Ok-kept g c = λ w v copy looked.
    let same =
    core_words c.args.image.now c.args.contexts.now c.in_ok-core.core copy.shown.some c.in_ok-core.ensures.order c.in_ok-core.ensures.contexts c.in_ok-core.ensures.segments in
    let here : c.in-Ok.session.layout ≡ w =
    one_layout (words_of c.args.image.now) c.in-Ok.session.layout w
    (subst (λ (m : Words). GivesLayout m c.in-Ok.session.layout) same c.in-Ok.ensures.layout) copy.gives in
    tasks_held w c.args.image.now copy _ c.in-Ok.session c.kept.new.s c.args.contexts.now v c.in-Ok-kept.tasks c.part-parted.result.0 here
    c.in-Ok-kept.ensures.stays.layout looked
    (walk_gives c.args.image.now copy.shown c.in_ok-core.core _ c.in-Ok.session.layout w (names_kept (tasks_kept c.in-Ok-kept.tasks)) (λ (l : List ℕ) (m : Words). look_names l m c.args.contexts.now)
    same c.in-Ok.ensures.told c.in-Ok.ensures.layout c.in-Ok-kept.ensures.look copy.gives)
    c.in-Ok-kept.ensures.keeps c.in-Ok-kept.ensures.live c.part-parted.ensures.layout c.part-parted.ensures.handles

pub unreachable-requires-in_default-fault : goal.unreachable-requires-in_default-fault
unfolding Looks
unreachable-requires-in_default-fault g c =
    let (w, copy) = c.requires.copy in
    let same =
    core_words c.args.image.now c.args.contexts.now c.in_ok-core.core copy.shown.some c.in_ok-core.ensures.order c.in_ok-core.ensures.contexts c.in_ok-core.ensures.segments in
    names_free w c.args.image.now copy c.args.contexts.now c.in-Err.fault
    (walk_gives c.args.image.now copy.shown c.in_ok-core.core _ c.in-Ok.session.layout copy.shown.w (names_kept (refused c.in-Err.fault)) (λ (l : List ℕ) (m : Words). look_names l m c.args.contexts.now)
    same c.in-Ok.ensures.told c.in-Ok.ensures.layout c.in-Err.ensures.look copy.shown.shows.layout)
    (λ e. let rose : 1 ≤ 0 = c.in-Err.ensures.cause.failed (ap refused e) in omega (arith, rose))
    c.in_default-fault.not-OutOfMemory
