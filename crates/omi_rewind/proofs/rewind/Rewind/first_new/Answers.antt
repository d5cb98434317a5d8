use Rattle.std.proofs.Common.{◌≤◌, ◌∙◌, ℕ, List, Some, arith, ap, inl, inr, length, subst, sym}
use Rattle.std.specs.Prelude.{IsTrue}
use Rattle.omi_layout.specs.Place.{fits}
use Rattle.omi_rewind.specs.Answers.{IsFirst}
use Rattle.omi_rewind.specs.Rewound.{steps_in}
use Rattle.omi_rewind.specs.Tests.{holds}
use Rattle.omi_rewind.proofs.Searched.{count_later, done_last, done_never, first_later, goes_none, goes_one, listed_later, nowhere_later, nowhere_until}
use Rattle.omi_rewind.proofs.Stays.{later_self, later_two}
use Rattle.omi_rewind.proofs.rewind.Rewind.first_new.Goals as goal

pub more-init : goal.more-init
more-init g c = (goes_none c.args.self.now c.args.last (later_self c.args.self.now), c.requires.before)

pub returns-then-is_some-clause-first : goal.returns-then-is_some-clause-first
returns-then-is_some-clause-first g c = (
  inr (done_last c.done.result _ _ c.done.ensures.done c.done.ensures.last (sym c.is_some.ensures ∙ c.if-is_some.true)),
  nowhere_until c.args.q.now.test c.args.q.now.table c.more.self c.args.last c.more.invariant.1,
)

pub advance-requires-clause-going : goal.advance-requires-clause-going
advance-requires-clause-going g c =
    done_never c.done.result _ c.done.ensures.done (sym c.is_some.ensures ∙ c.if-is_some.false)

pub advance-requires-clause-listed : goal.advance-requires-clause-listed
advance-requires-clause-listed g c =
    let less = c.more-test.true in
    let count = c.made.ensures.count in
    listed_later c.args.self.now c.more.self c.args.last c.more.invariant.0.later c.requires.listed (omega (arith, less, count))

pub returns-in_err-advance-clause-later : goal.returns-in_err-advance-clause-later
returns-in_err-advance-clause-later g c =
    later_two c.args.self.now c.more.self c.advance.new.self c.more.invariant.0.later c.in_err-advance.ensures.later

pub holds-requires : goal.holds-requires
holds-requires g c =
    let later = later_two c.args.self.now c.more.self c.advance.new.self c.more.invariant.0.later c.in_ok-advance.ensures.later in
    subst (λ n. IsTrue (fits c.args.q.now.table n))
    (sym (ap (λ (ws : List ℕ). length ws) c.furthest.ensures ∙ count_later c.args.self.now c.advance.new.self later (steps_in c.advance.new.self) c.args.self.now.at))
    c.requires.fits

pub returns-then-holds-clause-later : goal.returns-then-holds-clause-later
returns-then-holds-clause-later g c =
    later_two c.args.self.now c.more.self c.advance.new.self c.more.invariant.0.later c.in_ok-advance.ensures.later

pub returns-then-holds-clause-first : goal.returns-then-holds-clause-first
returns-then-holds-clause-first g c =
    let less = c.more-test.true in
    let count = c.made.ensures.count in
    let one = c.in_ok-advance.ensures.one in
    let within : steps_in c.advance.new.self ≤ c.args.last = omega (arith, less, count, one) in
    subst (λ n. IsFirst c.advance.new.self c.args.q.now.test c.args.q.now.table c.args.last (Some n)) (sym c.made-then-holds.ensures.count)
    (first_later c.args.q.now.test c.args.q.now.table c.more.self c.advance.new.self c.in_ok-advance.ensures.later one c.more.invariant.1
    (ap (holds c.args.q.now.test c.args.q.now.table) (sym c.furthest.ensures) ∙ sym c.holds.ensures ∙ c.if-holds.true) c.args.last within)

pub more-preserved : goal.more-preserved
more-preserved g c =
    let less = c.more-test.true in
    let count = c.made.ensures.count in
    let one = c.in_ok-advance.ensures.one in (
      goes_one c.args.self.now c.more.self c.advance.new.self c.args.last c.more.invariant.0 (omega (arith, less, count)) c.in_ok-advance.ensures.later one c.in_ok-advance.ensures.at,
      nowhere_later c.args.q.now.test c.args.q.now.table c.more.self c.advance.new.self c.in_ok-advance.ensures.later one c.more.invariant.1
          (ap (holds c.args.q.now.test c.args.q.now.table) (sym c.furthest.ensures) ∙ sym c.holds.ensures ∙ c.if-holds.false),
    )

pub returns-clause-first : goal.returns-clause-first
returns-clause-first g c =
    let past = c.more-test.false in
    let count = c.made.ensures.count in
    let all : c.args.last ≤ steps_in c.more.self = omega (arith, past, count) in
    (inl all, nowhere_until c.args.q.now.test c.args.q.now.table c.more.self c.args.last c.more.invariant.1)
