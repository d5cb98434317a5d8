-- The place of the name is found, and what stood there decides.
use Rattle.std.proofs.Common.{◌≡◌, ◌+◌, ◌*◌, ◌<◌, ℕ, Option, Some, None, length, refl, sym, ap, subst, ◌∙◌, arith}
use Rattle.std.specs.Prelude.{slice_get}
use Rattle.std.proofs.lemmas.Nat.{mul-add-lt}
use Rattle.omi_machine_view.specs.Marks.{place_of}
use Rattle.omi_machine_view.proofs.MarkLemmas.{free_at, met_at, one_slot, added, kept, only, still_placed, unmet-set}
use Rattle.omi_machine_view.proofs.marks.Marks.mark.Goals as goal

within : (creators width creator slot len : ℕ) → creator < creators → slot < width → len ≡ creators * width
    → creator * width + slot < len
within creators width creator slot len a b e =
    subst (λ x. creator * width + slot < x) (sym e)
    (omega (arith, mul-add-lt creator width slot creators a b))

pub returns-then-is_some-clause-met : goal.returns-then-is_some-clause-met
returns-then-is_some-clause-met c refused has =
    let s = c.args.self.now in
    let n = c.args.n in
    let inside : n.creator * s.width + n.slot < length s.met.items =
    omega (arith, within s.creators s.width n.creator n.slot s.met.len has.creator has.slot s.sized) in
    let (m, there) =
    met_at s.met.items (place_of s.width n) c.index.result.now inside c.index.ensures
    (sym c.is_some.ensures ∙ c.if-is_some.true) in
    let same =
    one_slot s.creators s.width (place_of s.width n) m n (s.placed (place_of s.width n) m there) has refl in
    (m, (place_of s.width n, there), same.0, same.1)

-- nothing was met at the place
free : (c : goal.After-self-1)
    → slice_get c.args.self.now.met.items (c.args.n.creator * c.args.self.now.width + c.args.n.slot) ≡ Some None
free c =
    let s = c.args.self.now in
    let n = c.args.n in
    let inside : n.creator * s.width + n.slot < length s.met.items =
    omega (arith, within s.creators s.width n.creator n.slot s.met.len (omega arith) (omega arith) s.sized) in
    free_at s.met.items (place_of s.width n) c.index.result.now inside c.index.ensures
    (sym c.is_some.ensures ∙ c.if-is_some.false)

free_then : (c : goal.After-self-2-1)
    → slice_get c.args.self.now.met.items (c.args.n.creator * c.args.self.now.width + c.args.n.slot) ≡ Some None
free_then c =
    let s = c.args.self.now in
    let n = c.args.n in
    let inside : n.creator * s.width + n.slot < length s.met.items =
    omega (arith, within s.creators s.width n.creator n.slot s.met.len (omega arith) (omega arith) s.sized) in
    free_at s.met.items (place_of s.width n) c.index.result.now inside c.index.ensures
    (sym c.is_some.ensures ∙ c.if-is_some.false)

pub invariant_of-self : goal.invariant_of-self
invariant_of-self c =
    let s = c.args.self.now in
    record { sized = s.sized; placed = still_placed s.creators s.width s.met.items c.args.n (free c) s.placed (record { creator = omega arith; slot = omega arith }) }

pub returns-clause-marked : goal.returns-clause-marked
returns-clause-marked c done =
    let s = c.args.self.now in
    let n = c.args.n in
    record {
      creators = refl;
      width = refl;
      kept = kept 0 s.width s.met.items n (free_then c);
      only = only 0 s.width s.met.items n (free_then c);
      added = added 0 s.width s.met.items n (free_then c);
      fewer = unmet-set s.met.items (place_of s.width n) n (free_then c);
    }
