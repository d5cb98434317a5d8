use Rattle.std.proofs.Common.{◌∷◌, length, sym, refl, arith}
use Rattle.std.proofs.lemmas.List.Elements.{All-get_or, All-same, All-head, All-tail}
use Rattle.omi_elf.specs.Found.{IsReadable, IsBounded}
use Rattle.omi_elf.proofs.NoteSegments.{no_header}
use Rattle.omi_elf.proofs.Gathers.{gathers_touching, gathers_apart, end_of_segment, end_of_longer}
use Rattle.omi_elf.proofs.gathering.gathered.Goals as goal
use Rattle.omi_elf.proofs.gathering.gathered.Goals.{then-open-len+in_ok-put_words, else-open-len+in_ok-next+in_ok-push}

pub loop-h-init : goal.loop-h-init
loop-h-init c =
    let readable = All-same (IsReadable (length c.args.bytes.now)) (c.in-Some.first.now ∷ c.in-Some.others.now) c.args.sorted.now (sym c.in-Some.ensures.cases.0) c.requires.readable in
    let bounded = All-same IsBounded (c.in-Some.first.now ∷ c.in-Some.others.now) c.args.sorted.now (sym c.in-Some.ensures.cases.0) c.requires.bounded in
    record {
      all = rw (c.new-segments.ensures, c.in_ok-open.ensures, c.in-Some.ensures.cases.0) refl;
      low = rw c.in_ok-open.ensures (end_of_segment c.args.order c.args.bytes.now c.in-Some.first.now (All-head IsBounded c.in-Some.first.now c.in-Some.others.now bounded));
      readable = All-tail (IsReadable (length c.args.bytes.now)) c.in-Some.first.now c.in-Some.others.now readable;
      bounded = All-tail IsBounded c.in-Some.first.now c.in-Some.others.now bounded;
    }

pub put_words-requires : goal.put_words-requires
put_words-requires c =
    let h = All-get_or (IsReadable (length c.args.bytes.now)) c.in-Some.others.now c.loop-h.h-index no_header c.loop-h-test.true c.loop-h.invariant.readable in
    omega (arith, h.within, c.word_count.ensures)

pub segment_of-requires-else-open-len : goal.segment_of-requires-else-open-len
segment_of-requires-else-open-len c =
    All-get_or (IsReadable (length c.args.bytes.now)) c.in-Some.others.now c.loop-h.h-index no_header c.loop-h-test.true c.loop-h.invariant.readable

pub loop-h-preserved : goal.loop-h-preserved
loop-h-preserved c =
    let b = All-get_or IsBounded c.in-Some.others.now c.loop-h.h-index no_header c.loop-h-test.true c.loop-h.invariant.bounded in
    elim c.if-open-len.branch [
      | then-open-len+in_ok-put_words w ↦ record {
        all = rw (w.segments-is, w.open-is, w.in_ok-put_words.ensures, w.word_count.ensures)
            (gathers_touching c.args.order c.args.bytes.now c.loop-h.open c.in-Some.others.now c.loop-h.h-index c.loop-h.segments _ c.loop-h-test.true
            (omega (arith, w.if-open-len.true, c.len.ensures)) c.loop-h.invariant.all);
        low = rw (w.open-is, w.in_ok-put_words.ensures, w.word_count.ensures) (end_of_longer c.args.order c.args.bytes.now c.loop-h.open _ b (omega (arith, w.if-open-len.true, c.len.ensures)));
        readable = c.loop-h.invariant.readable;
        bounded = c.loop-h.invariant.bounded;
      }
      | else-open-len+in_ok-next+in_ok-push w ↦ record {
        all = rw (w.segments-is, w.open-is, w.in_ok-push.ensures.added, w.replace.ensures.value, w.replace.ensures.after, w.in_ok-next.ensures)
            (gathers_apart c.args.order c.args.bytes.now c.loop-h.open c.in-Some.others.now c.loop-h.h-index c.loop-h.segments _ c.loop-h-test.true
            (λ e. w.if-open-len.false (omega (arith, e, c.len.ensures))) c.loop-h.invariant.all);
        low = rw (w.open-is, w.replace.ensures.after, w.in_ok-next.ensures) (end_of_segment c.args.order c.args.bytes.now _ b);
        readable = c.loop-h.invariant.readable;
        bounded = c.loop-h.invariant.bounded;
      }
    ]
