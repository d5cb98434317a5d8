use Rattle.std.proofs.Common.{◌≡◌, ℕ, suc, ◌+◌, ◌-◌, length, Some, sym, ap, ◌∙◌, arith}
use Rattle.std.proofs.lemmas.Result.{err_from_is_err_and}
use Rattle.omi_elf.specs.Notes.{notes_from}
use Rattle.omi_process.specs.Reading.{gathered}
use Rattle.omi_process.proofs.AlongNotes.{stopped, no_status, one_thread, no_thread}
use Rattle.omi_process.proofs.threads.add_from.Goals.{then-note+in_ok-id-in-There+in-Some+in_ok-push-in-There, else-note}
use Rattle.omi_process.proofs.threads.add_from.Goals as goal

pub returns-in_err-note_at-clause-gathered : goal.returns-in_err-note_at-clause-gathered
returns-in_err-note_at-clause-gathered g c = λ bytes told.
    let left : ℕ = length bytes - (c.loop.counter + 1) in
    let more : length bytes - c.loop.counter ≡ suc left = omega (arith, c.requires.len (Some bytes) told) in
    let now = ap (λ t. t c.args.name.now) c.loop.invariant.same ∙ told in
    let sought = ap (λ (m : ℕ). gathered c.args.order bytes c.loop.ids (notes_from c.args.order bytes m c.loop.place c.loop.room)) (sym more)
    ∙ c.loop.invariant.sought bytes told in
    let p = err_from_is_err_and c.from_residual.result c.from_residual.ensures.1 in
    rw (p.1, p.2)
    (stopped c.args.order bytes c.loop.ids c.loop.place c.loop.room left c.in_err-note_at.field-0.0 _ sought (c.in_err-note_at.ensures.place bytes now))

pub returns-in-End-clause-gathered : goal.returns-in-End-clause-gathered
returns-in-End-clause-gathered g c = λ bytes told.
    let left : ℕ = length bytes - (c.loop.counter + 1) in
    let more : length bytes - c.loop.counter ≡ suc left = omega (arith, c.requires.len (Some bytes) told) in
    let now = ap (λ t. t c.args.name.now) c.loop.invariant.same ∙ told in
    let sought = ap (λ (m : ℕ). gathered c.args.order bytes c.loop.ids (notes_from c.args.order bytes m c.loop.place c.loop.room)) (sym more)
    ∙ c.loop.invariant.sought bytes told in
    let there = rw c.in-End.is at c.in_ok-note_at.ensures.place bytes now in
    sym sought ∙ ap (gathered c.args.order bytes c.loop.ids) (there left)

pub returns-in_default-clause-gathered : goal.returns-in_default-clause-gathered
returns-in_default-clause-gathered g c = λ bytes told.
    let left : ℕ = length bytes - (c.loop.counter + 1) in
    let more : length bytes - c.loop.counter ≡ suc left = omega (arith, c.requires.len (Some bytes) told) in
    let now = ap (λ t. t c.args.name.now) c.loop.invariant.same ∙ told in
    let sought = ap (λ (m : ℕ). gathered c.args.order bytes c.loop.ids (notes_from c.args.order bytes m c.loop.place c.loop.room)) (sym more)
    ∙ c.loop.invariant.sought bytes told in
    let there = rw c.in-There.is at c.in_ok-note_at.ensures.place bytes now in
    let then = ap (λ t. t c.args.name.now) (c.note_at.ensures.same ∙ c.loop.invariant.same) ∙ told in
    let none = sym (c.in_ok-id-in-There.ensures.thread bytes then c.loop.place there.0) ∙ c.in_default.is in (
      c.loop.place,
      sym sought ∙ ap (gathered c.args.order bytes c.loop.ids) (there.1 left)
          ∙ no_thread c.args.order bytes c.loop.ids c.loop.place _ (sym there.0.status ∙ c.if-note.true) none,
      there.0.description,
      there.0.description,
    )

pub loop-preserved : goal.loop-preserved
loop-preserved g c =
    elim c.if-note.branch [
      | then-note+in_ok-id-in-There+in-Some+in_ok-push-in-There w ↦ record {
        sought = λ bytes told.
            let left : ℕ = length bytes - (c.loop.counter + 1) in
            let more : length bytes - c.loop.counter ≡ suc left = omega (arith, c.requires.len (Some bytes) told) in
            let now = ap (λ t. t c.args.name.now) c.loop.invariant.same ∙ told in
            let sought = ap (λ (m : ℕ). gathered c.args.order bytes c.loop.ids (notes_from c.args.order bytes m c.loop.place c.loop.room)) (sym more)
            ∙ c.loop.invariant.sought bytes told in
            let there = rw c.in-There.is at c.in_ok-note_at.ensures.place bytes now in
            let then = ap (λ t. t c.args.name.now) (c.note_at.ensures.same ∙ c.loop.invariant.same) ∙ told in
            let id = sym (w.in_ok-id-in-There.ensures.thread bytes then c.loop.place there.0) ∙ w.in-Some.is in
            let added = w.ids-is ∙ w.in_ok-push-in-There.ensures.added in
            rw (c.saturating_sub-room.ensures, added)
            (sym (one_thread c.args.order bytes c.loop.ids c.loop.place _ _ (sym there.0.status ∙ w.if-note.true) id)
            ∙ ap (gathered c.args.order bytes c.loop.ids) (sym (there.1 left)) ∙ sought);
        same = ap g.F.Files.told w.files-is ∙ w.thread_at.ensures.same ∙ c.note_at.ensures.same ∙ c.loop.invariant.same;
        later = omega (arith, ap g.F.Files.reads w.files-is, w.thread_at.ensures.cause.later, c.note_at.ensures.cause.later, c.loop.invariant.later);
        writes = ap g.F.Files.writes w.files-is ∙ w.thread_at.ensures.writes ∙ c.note_at.ensures.writes ∙ c.loop.invariant.writes;
      }
      | else-note w ↦ record {
        sought = λ bytes told.
            let left : ℕ = length bytes - (c.loop.counter + 1) in
            let more : length bytes - c.loop.counter ≡ suc left = omega (arith, c.requires.len (Some bytes) told) in
            let now = ap (λ t. t c.args.name.now) c.loop.invariant.same ∙ told in
            let sought = ap (λ (m : ℕ). gathered c.args.order bytes c.loop.ids (notes_from c.args.order bytes m c.loop.place c.loop.room)) (sym more)
            ∙ c.loop.invariant.sought bytes told in
            let there = rw c.in-There.is at c.in_ok-note_at.ensures.place bytes now in
            rw (c.saturating_sub-room.ensures, w.ids-is)
            (sym (no_status c.args.order bytes c.loop.ids c.loop.place _ (sym there.0.status ∙ w.if-note.false))
            ∙ ap (gathered c.args.order bytes c.loop.ids) (sym (there.1 left)) ∙ sought);
        same = ap g.F.Files.told w.files-is ∙ c.note_at.ensures.same ∙ c.loop.invariant.same;
        later = omega (arith, ap g.F.Files.reads w.files-is, c.note_at.ensures.cause.later, c.loop.invariant.later);
        writes = ap g.F.Files.writes w.files-is ∙ c.note_at.ensures.writes ∙ c.loop.invariant.writes;
      }
    ]

pub returns-clause-gathered : goal.returns-clause-gathered
returns-clause-gathered g c = λ bytes told.
    let none : length bytes - c.loop.counter ≡ 0 = omega (arith, c.requires.len (Some bytes) told) in
    sym (c.loop.invariant.sought bytes told)
    ∙ ap (λ (m : ℕ). gathered c.args.order bytes c.loop.ids (notes_from c.args.order bytes m c.loop.place c.loop.room)) none
