-- Each kind of operation is allowed as the rule asks.
use Rattle.std.proofs.Common.{◌-◌, ◌/◌, ap, ◌∙◌, arith}
use Rattle.omi_word.specs.declared.op.Op.{Op}
use Rattle.omi_word.specs.Memory.{left_of}
use Rattle.omi_seat.proofs.Applied.{allowed, exchanged, inside}
use Rattle.omi_seat.proofs.operation.apply.Goals as goal

pub overflow_sub-place : goal.overflow_sub-place
overflow_sub-place g c =
    let above = c.requires.may.above in
    let is = c.address.ensures in
    omega (arith, above, is)

pub load-requires : goal.load-requires
load-requires g c =
    let at = ap (λ n. (n - 65536) / 8) c.address.ensures in (
      c.requires.seated,
      inside c.requires.may at,
      allowed c.requires.may at (λ n. ap (λ (o : Op). left_of o n) c.in-Load.is) _,
    )

pub swap-requires : goal.swap-requires
swap-requires g c =
    let at = ap (λ n. (n - 65536) / 8) c.address.ensures in (
      c.requires.seated,
      inside c.requires.may at,
      allowed c.requires.may at (λ n. ap (λ (o : Op). left_of o n) c.in-Store.is) _,
    )

pub compare_exchange-requires : goal.compare_exchange-requires
compare_exchange-requires g c =
    let at = ap (λ n. (n - 65536) / 8) c.address.ensures in (
      c.requires.seated,
      inside c.requires.may at,
      allowed c.requires.may at (λ n. ap (λ (o : Op). left_of o n) c.in-Cas.is ∙ exchanged n c.in-Cas.old c.in-Cas.new) _,
    )

pub fetch_add-requires : goal.fetch_add-requires
fetch_add-requires g c =
    let at = ap (λ n. (n - 65536) / 8) c.address.ensures in (
      c.requires.seated,
      inside c.requires.may at,
      allowed c.requires.may at (λ n. ap (λ (o : Op). left_of o n) c.in-Add.is) _,
    )

pub fetch_sub-requires : goal.fetch_sub-requires
fetch_sub-requires g c =
    let at = ap (λ n. (n - 65536) / 8) c.address.ensures in (
      c.requires.seated,
      inside c.requires.may at,
      allowed c.requires.may at (λ n. ap (λ (o : Op). left_of o n) c.in-Sub.is) _,
    )

pub returns-in-Load-clause-told : goal.returns-in-Load-clause-told
returns-in-Load-clause-told g c = (_, c.load.ensures.2)

pub returns-in-Store-clause-told : goal.returns-in-Store-clause-told
returns-in-Store-clause-told g c = (_, c.swap.ensures.2)

pub returns-in-Cas-clause-told : goal.returns-in-Cas-clause-told
returns-in-Cas-clause-told g c = (_, c.compare_exchange.ensures.2)

pub returns-in-Add-clause-told : goal.returns-in-Add-clause-told
returns-in-Add-clause-told g c = (_, c.fetch_add.ensures.2)

pub returns-in-Sub-clause-told : goal.returns-in-Sub-clause-told
returns-in-Sub-clause-told g c = (_, c.fetch_sub.ensures.2)
