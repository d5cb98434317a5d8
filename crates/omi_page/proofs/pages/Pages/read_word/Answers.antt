use Rattle.std.proofs.Common.{◌≡◌, ◌/◌, ◌%◌, length, inl, inr, sym, ap, ◌∙◌, subst, arith}
use Rattle.omi_page.specs.Spans.{eight_at}
use Rattle.omi_page.specs.Paging.{IsPage}
use Rattle.omi_page.proofs.Answering.{not_err, lent_whole}
use Rattle.omi_page.proofs.Telling.{unaligned, not_mapped, mapped, in_page}
use Rattle.omi_page.proofs.pages.Pages.read_word.Goals.{then-addr-ne0-via-then-addr-ne0, then-addr-ne0-via-else-addr-ne0+then-not-stands}
use Rattle.omi_page.proofs.pages.Pages.read_word.Goals as goal

pub returns-then-addr-ne0-clause-mapped : goal.returns-then-addr-ne0-clause-mapped
returns-then-addr-ne0-clause-mapped g c = λ words rest told.
    elim c.then-addr-ne0.branch [
      | then-addr-ne0-via-then-addr-ne0 w ↦ unaligned words c.args.addr w.if-addr-ne0.true
      | then-addr-ne0-via-else-addr-ne0+then-not-stands w ↦ not_mapped _ c.args.self.now.order c.args.self.now.contexts c.args.self.now.spans words rest c.args.addr told c.args.self.now.parts w.if-addr-ne0.false (sym w.stands.ensures.stands ∙ w.if-not-stands.true)
    ]

pub invariant_of-self-in-Some-1 : goal.invariant_of-self-in-Some-1
invariant_of-self-in-Some-1 g c = record {
  room = c.args.self.now.room;
  known = c.args.self.now.known;
  length = c.args.self.now.length;
  ends = c.args.self.now.ends;
  ordered = c.args.self.now.ordered;
  few_spans = c.args.self.now.few_spans;
  places = c.kept_word.ensures.places ∙ c.args.self.now.places;
  few = omega (arith, c.kept_word.ensures.few, c.kept_word.ensures.places, c.args.self.now.places);
  long = λ page items kept. c.args.self.now.long page items (c.kept_word.ensures.others page items kept);
  pages = λ bytes holds page items kept. c.args.self.now.pages bytes holds page items (c.kept_word.ensures.others page items kept);
  parts = c.args.self.now.parts;
}

pub returns-in-Some-clause-mapped : goal.returns-in-Some-clause-mapped
returns-in-Some-clause-mapped g c = λ words rest told.
    mapped _ c.args.self.now.order c.args.self.now.contexts c.args.self.now.spans words rest c.args.addr told c.args.self.now.parts c.if-addr-ne0.false
    (sym c.stands.ensures.stands ∙ c.if-not-stands.false)

pub returns-in-Some-clause-bytes : goal.returns-in-Some-clause-bytes
returns-in-Some-clause-bytes g c = λ words rest order told told_order got.
    let word = c.in-Some.ensures.word in
    in_page _ c.args.self.now.order c.args.self.now.contexts c.args.self.now.spans words rest order c.args.addr c.in-Some.word word.0.items told told_order c.args.self.now.parts c.if-addr-ne0.false
    (sym c.stands.ensures.stands ∙ c.if-not-stands.false)
    (λ bytes holds. c.args.self.now.pages bytes holds _ word.0 word.1) word.2

pub invariant_of-self-then-is_err : goal.invariant_of-self-then-is_err
invariant_of-self-then-is_err g c =
    let before = sym (ap (λ t. t c.args.self.now.name.now) c.load-loaded.ensures.same) in
    record {
      room = c.args.self.now.room;
      known = c.args.self.now.known;
      length = λ content told. c.args.self.now.length content (before ∙ told);
      ends = c.args.self.now.ends;
      ordered = c.args.self.now.ordered;
      few_spans = c.args.self.now.few_spans;
      places = c.kept_word.ensures.places ∙ c.args.self.now.places;
      few = omega (arith, c.kept_word.ensures.few, c.kept_word.ensures.places, c.args.self.now.places);
      long = λ page items kept. c.args.self.now.long page items (c.kept_word.ensures.others page items kept);
      pages = λ bytes holds page items kept. c.args.self.now.pages bytes (before ∙ holds) page items (c.kept_word.ensures.others page items kept);
      parts = λ bytes parts holds. c.args.self.now.parts bytes parts (before ∙ holds);
    }

pub invariant_of-self-2 : goal.invariant_of-self-2
invariant_of-self-2 g c =
    let before = sym (ap (λ t. t c.args.self.now.name.now) c.load-loaded.ensures.same) in
    let room : c.args.self.now.buffer.len ≡ length c.load-loaded.new.buffer =
    sym (c.load-loaded.ensures.length ∙ c.deref_mut.ensures.len) in
    let whole =
    c.deref.ensures.value ∙ lent_whole c.args.self.now.buffer.len c.load-loaded.new.buffer _ room in
    record {
      room = c.args.self.now.room;
      known = c.args.self.now.known;
      length = λ content told. c.args.self.now.length content (before ∙ told);
      ends = c.args.self.now.ends;
      ordered = c.args.self.now.ordered;
      few_spans = c.args.self.now.few_spans;
      places = c.keep.ensures.places ∙ c.kept_word.ensures.places ∙ c.args.self.now.places;
      few = omega (arith, c.keep.ensures.few, c.keep.ensures.places, c.kept_word.ensures.places, c.args.self.now.places);
      long = λ page items kept. elim (c.keep.ensures.pages page items kept) [
        | inl was ↦ c.args.self.now.long page items (c.kept_word.ensures.others page items was)
        | inr put ↦ ap length (put.1 ∙ whole) ∙ sym room ∙ c.args.self.now.room
      ];
      pages = λ bytes holds page items kept. elim (c.keep.ensures.pages page items kept) [
        | inl was ↦ c.args.self.now.pages bytes (before ∙ holds) page items (c.kept_word.ensures.others page items was)
        | inr put ↦
            subst (λ k. IsPage bytes c.args.self.now.spans k items.items) (sym put.0)
            (subst (IsPage bytes c.args.self.now.spans (c.args.addr / 4096)) (sym (put.1 ∙ whole))
            (not_err c.load-loaded.result _ (sym c.is_err.ensures.value ∙ c.if-is_err.false) (c.load-loaded.ensures.page bytes (before ∙ holds))))
      ];
      parts = λ bytes parts holds. c.args.self.now.parts bytes parts (before ∙ holds);
    }

pub returns-clause-mapped : goal.returns-clause-mapped
returns-clause-mapped g c = λ words rest told.
    mapped _ c.args.self.now.order c.args.self.now.contexts c.args.self.now.spans words rest c.args.addr told c.args.self.now.parts c.if-addr-ne0.false
    (sym c.stands.ensures.stands ∙ c.if-not-stands.false)

pub returns-clause-bytes : goal.returns-clause-bytes
returns-clause-bytes g c = λ words rest order told told_order got.
    let room : c.args.self.now.buffer.len ≡ length c.load-loaded.new.buffer =
    sym (c.load-loaded.ensures.length ∙ c.deref_mut.ensures.len) in
    let whole =
    c.deref-2.ensures.value ∙ lent_whole c.args.self.now.buffer.len c.load-loaded.new.buffer _ room in
    in_page _ c.args.self.now.order c.args.self.now.contexts c.args.self.now.spans words rest order c.args.addr c.word_of.result c.load-loaded.new.buffer told told_order c.args.self.now.parts c.if-addr-ne0.false
    (sym c.stands.ensures.stands ∙ c.if-not-stands.false)
    (λ bytes holds. not_err c.load-loaded.result _ (sym c.is_err.ensures.value ∙ c.if-is_err.false) (c.load-loaded.ensures.page bytes holds))
    (c.word_of.ensures ∙ ap (λ items. eight_at items (c.args.addr % 4096)) whole)
