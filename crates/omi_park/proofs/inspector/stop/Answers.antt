-- A stop: each part of it finds the inspector as the one before left it.
use Rattle.omi_park.proofs.Holding.{held_now, over_now, seeing_all}
use Rattle.omi_park.proofs.inspector.stop.Goals as goal

pub await_all-steps-requires-clause-seeing : goal.await_all-steps-requires-clause-seeing
await_all-steps-requires-clause-seeing g c =
    let i = c.requires.call.0 in
    (record i { epoch = c.args.epoch }, c.call.ensures.called i c.requires.call.1)

pub copied-image-requires-clause-seen : goal.copied-image-requires-clause-seen
copied-image-requires-clause-seen g c =
    let i = c.requires.call.0 in
    let called = c.call.ensures.called i c.requires.call.1 in
    let has = c.await_all-steps.ensures.seen (record i { epoch = c.args.epoch }) called in
    (record i { epoch = c.args.epoch; seen = has.words }, seeing_all called has)

pub let_go-requires-clause-held : goal.let_go-requires-clause-held
let_go-requires-clause-held g c =
    let i = c.requires.call.0 in
    let called = c.call.ensures.called i c.requires.call.1 in
    let has = c.await_all-steps.ensures.seen (record i { epoch = c.args.epoch }) called in
    let seeing = seeing_all called has in (
      record i { epoch = c.args.epoch; seen = has.words; copied = c.copied-image.result },
      held_now called has (c.copied-image.ensures.copied (record i { epoch = c.args.epoch; seen = has.words }) seeing) c.copied-image.ensures.long,
    )

pub returns-clause-over : goal.returns-clause-over
returns-clause-over g c i call =
    let called = c.call.ensures.called i call in
    let has = c.await_all-steps.ensures.seen (record i { epoch = c.args.epoch }) called in
    let seeing = seeing_all called has in
    let held = held_now called has (c.copied-image.ensures.copied (record i { epoch = c.args.epoch; seen = has.words }) seeing) c.copied-image.ensures.long in
    over_now i c.args.epoch c.copied-image.result has call.none_seen call.none_copied (c.let_go.ensures.over _ held)
