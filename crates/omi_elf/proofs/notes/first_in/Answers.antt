use Rattle.std.proofs.Common.{◌≡◌, suc, ◌+◌, ◌-◌, ℕ, length, Some, sym, ap, ◌∙◌, arith}
use Rattle.std.proofs.lemmas.Result.{err_from_is_err_and}
use Rattle.omi_elf.specs.Found.{last_from}
use Rattle.omi_elf.proofs.NoteSegments.{found_cut}
use Rattle.omi_elf.proofs.NoteSteps.{none_there, ours_there, other_there}
use Rattle.omi_elf.proofs.notes.first_in.Goals as goal

pub loop-preserved : goal.loop-preserved
loop-preserved g c = record {
  sought = λ bytes told.
      let long = c.requires.len (Some bytes) told in
      let left : ℕ = length bytes - (c.loop.counter + 1) in
      let more : length bytes - c.loop.counter ≡ suc left = omega arith in
      let now = ap (λ t. t c.args.name.now) c.loop.invariant.same ∙ told in
      let there = rw c.in-There.is at c.in_ok-note_at.ensures.place bytes now in
      rw c.saturating_sub-room.ensures
      (sym (other_there c.args.order bytes c.loop.place c.loop.room left c.in-There.step (there.1 left) (sym there.0.ours ∙ c.if-note.false))
      ∙ ap (λ (m : ℕ). last_from c.args.order bytes m c.loop.place c.loop.room) (sym more) ∙ c.loop.invariant.sought bytes told);
  same = c.note_at.ensures.same ∙ c.loop.invariant.same;
  later = omega (arith, c.note_at.ensures.cause.later, c.loop.invariant.later);
  writes = c.note_at.ensures.writes ∙ c.loop.invariant.writes;
}

pub returns-in_err-note_at-clause-found : goal.returns-in_err-note_at-clause-found
returns-in_err-note_at-clause-found g c = λ bytes told.
    let long = c.requires.len (Some bytes) told in
    let left : ℕ = length bytes - (c.loop.counter + 1) in
    let more : length bytes - c.loop.counter ≡ suc left = omega (arith, long) in
    let now = ap (λ t. t c.args.name.now) c.loop.invariant.same ∙ told in
    let sought = ap (λ (m : ℕ). last_from c.args.order bytes m c.loop.place c.loop.room) (sym more) ∙ c.loop.invariant.sought bytes told in
    let p = err_from_is_err_and c.from_residual.result c.from_residual.ensures.1 in
    rw (p.1, p.2) (found_cut c.args.order bytes c.loop.place c.loop.room left c.in_err-note_at.field-0.0 _ sought (c.in_err-note_at.ensures.place bytes now))

pub returns-in-End-clause-found : goal.returns-in-End-clause-found
returns-in-End-clause-found g c = λ bytes told.
    let long = c.requires.len (Some bytes) told in
    let left : ℕ = length bytes - (c.loop.counter + 1) in
    let more : length bytes - c.loop.counter ≡ suc left = omega (arith, long) in
    let now = ap (λ t. t c.args.name.now) c.loop.invariant.same ∙ told in
    let sought = ap (λ (m : ℕ). last_from c.args.order bytes m c.loop.place c.loop.room) (sym more) ∙ c.loop.invariant.sought bytes told in
    let there = rw c.in-End.is at c.in_ok-note_at.ensures.place bytes now in
    sym sought ∙ none_there c.args.order bytes c.loop.place c.loop.room left (there left)

pub returns-then-note-clause-found : goal.returns-then-note-clause-found
returns-then-note-clause-found g c = λ bytes told.
    let long = c.requires.len (Some bytes) told in
    let left : ℕ = length bytes - (c.loop.counter + 1) in
    let more : length bytes - c.loop.counter ≡ suc left = omega (arith, long) in
    let now = ap (λ t. t c.args.name.now) c.loop.invariant.same ∙ told in
    let sought = ap (λ (m : ℕ). last_from c.args.order bytes m c.loop.place c.loop.room) (sym more) ∙ c.loop.invariant.sought bytes told in
    let there = rw c.in-There.is at c.in_ok-note_at.ensures.place bytes now in
    sym sought
    ∙ ours_there c.args.order bytes c.loop.place c.loop.room left _ (there.1 left) (sym there.0.ours ∙ c.if-note.true)
    ∙ ap (λ (a : ℕ). Some (Some a)) (sym there.0.at_is)

pub returns-clause-found : goal.returns-clause-found
returns-clause-found g c = λ bytes told.
    let long = c.requires.len (Some bytes) told in
    let none : length bytes - c.loop.counter ≡ 0 = omega (arith, long) in
    sym (c.loop.invariant.sought bytes told) ∙ ap (λ (m : ℕ). last_from c.args.order bytes m c.loop.place c.loop.room) none
