use Rattle.std.proofs.Common.{◌≡◌, ◌∙◌, true, false, sym, ap}
use Rattle.std.specs.Prelude.{is_some}
use Rattle.omi_layout.specs.Field.{regions, tasks}
use Rattle.omi_rep.specs.Look.{live_at, slot_at}
use Rattle.omi_rep.proofs.Slots.{slot_same}
use Rattle.omi_session.specs.Named.{record_kind}
use Rattle.omi_audit.proofs.LivesThere.{region_lives, task_lives}
use Rattle.omi_audit.proofs.search.Search.has_met.Goals as goal
use Rattle.omi_audit.proofs.search.Search.has_met.Goals.{in-Thread, in-Region, in-Task}

pub returns-then-place-clause-lives : goal.returns-then-place-clause-lives
returns-then-place-clause-lives c = λ memory known is.
    elim c.match-kind.branch [
      | in-Thread u ↦ absurd (let never : false ≡ true = sym u.place-is ∙ c.if-place.true in cc)
      | in-Region u ↦
          ap (λ kind. is_some (live_at c.args.layout.now.table memory (record_kind kind) c.args.addr)) u.in-Region.is
          ∙ region_lives c.args.layout.now.table c.args.layout.now.valid memory c.args.addr
          (ap is_some (slot_same c.args.layout.now.table regions c.args.addr u.region_of.result u.region_of.ensures) ∙ sym u.is_some-place.ensures ∙ sym u.place-is ∙ c.if-place.true)
          (known.met c.args.addr (sym c.contains.ensures ∙ is))
      | in-Task u ↦
          ap (λ kind. is_some (live_at c.args.layout.now.table memory (record_kind kind) c.args.addr)) u.in-Task.is
          ∙ task_lives c.args.layout.now.table c.args.layout.now.valid memory c.args.addr
          (ap is_some (slot_same c.args.layout.now.table tasks c.args.addr u.task_of.result u.task_of.ensures) ∙ sym u.is_some-place-in-Task.ensures ∙ sym u.place-is ∙ c.if-place.true)
          (known.met c.args.addr (sym c.contains.ensures ∙ is))
    ]

pub returns-else-place-clause-new : goal.returns-else-place-clause-new
returns-else-place-clause-new c = λ is other place.
    elim c.match-kind.branch [
      | in-Thread u ↦ absurd (other (ap record_kind u.in-Thread.is))
      | in-Region u ↦ absurd (
          let begins = ap (λ kind. is_some (slot_at c.args.layout.now.table (record_kind kind) c.args.addr)) (sym u.in-Region.is) ∙ place in
          let same = ap is_some (slot_same c.args.layout.now.table regions c.args.addr u.region_of.result u.region_of.ensures) ∙ sym u.is_some-place.ensures ∙ sym u.place-is ∙ is in
          let never : true ≡ false = sym begins ∙ same in cc)
      | in-Task u ↦ absurd (
          let begins = ap (λ kind. is_some (slot_at c.args.layout.now.table (record_kind kind) c.args.addr)) (sym u.in-Task.is) ∙ place in
          let same = ap is_some (slot_same c.args.layout.now.table tasks c.args.addr u.task_of.result u.task_of.ensures) ∙ sym u.is_some-place-in-Task.ensures ∙ sym u.place-is ∙ is in
          let never : true ≡ false = sym begins ∙ same in cc)
    ]
