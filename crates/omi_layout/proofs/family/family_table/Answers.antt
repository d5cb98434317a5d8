use Rattle.std.proofs.Common.{◌≡◌, ◌+◌, set, get_or-set_same, get_or-set_other, length-set, ◌∙◌, arith}
use Rattle.omi_layout.specs.Table.{place, size, offset}
use Rattle.omi_layout.specs.Family.{family_place, family_size, family_offset}
use Rattle.omi_layout.proofs.Arenas.{each_kind, next_below}
use Rattle.omi_layout.proofs.family.family_table.Goals as goal

pub loop-f-preserved : goal.loop-f-preserved
loop-f-preserved c =
    let v = c.args.version in
    let k = c.args.k in
    let t = c.args.threads in
    let f = c.loop-f.f in
    let xs = c.loop-f.table in
    let x = c.family_offset.result in
    record {
      words = length-set xs (11 + f) x ∙ c.loop-f.invariant.words;
      head = λ i h. get_or-set_other xs (11 + f) i x 0 (λ e. omega (arith, e, h)) ∙ c.loop-f.invariant.head i h;
      offsets = λ g is. next_below (λ g. offset (set xs (11 + f) x) g ≡ family_offset v k t g) f g
          (λ order. get_or-set_other xs (11 + f) (11 + g) x 0 (λ e. omega (arith, e, order)) ∙ c.loop-f.invariant.offsets g is order)
          (get_or-set_same xs (11 + f) x 0 (omega (arith, c.loop-f.invariant.words)) ∙ c.family_offset.ensures);
    }

pub returns : goal.returns
returns c =
    let v = c.args.version in
    let k = c.args.k in
    let t = c.args.threads in
    let w = c.loop-f.table in
    let head = c.loop-f.invariant.head in
    record {
      words = c.loop-f.invariant.words;
      known = head 0 (omega arith);
      threads = head 5 (omega arith) ∙ c.from.ensures;
      regions = head 8 (omega arith);
      tasks = head 11 (omega arith);
      places = each_kind (λ p. place w p ≡ family_place v k t p) (head 1 (omega arith) ∙ c.family_place.ensures) (head 3 (omega arith) ∙ c.family_place-2.ensures) (head 6 (omega arith) ∙ c.family_place-3.ensures) (head 9 (omega arith) ∙ c.family_place-4.ensures);
      sizes = each_kind (λ p. size w p ≡ family_size v k t p) (head 2 (omega arith) ∙ c.family_size.ensures) (head 4 (omega arith) ∙ c.family_size-2.ensures) (head 7 (omega arith) ∙ c.family_size-3.ensures) (head 10 (omega arith) ∙ c.family_size-4.ensures);
      offsets = λ f is. c.loop-f.invariant.offsets f is (omega (arith, is.to));
    }
