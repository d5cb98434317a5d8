use Rattle.std.proofs.Common.{◌∙◌, ◌+◌, ap, rules, sym, ℕ}
use Rattle.std.specs.Prelude.{string_bytes}
use Rattle.omi_usage.specs.Form.{form_of}
use Rattle.omi_usage.specs.Reading.{end_of, state_of, step_of}
use Rattle.omi_usage.proofs.Places.{continued, ended, stopped}
use Rattle.omi_usage.proofs.reading.first_complaint.Goals as goal

pub returns-in-Err : goal.returns-in-Err
returns-in-Err c =
    sym
    (stopped c.args.words.now c.loop-word.word-index c.word-item.result (search rules) c.word-item.is
    (form_of c.args.form.now) (state_of c.loop-word.reading) _
    (ap (λ (i : ℕ). step_of (form_of c.args.form.now) (state_of c.loop-word.reading) i (string_bytes c.word-item.result)) (sym c.loop-word.invariant.counted)
    ∙ ap (step_of (form_of c.args.form.now) (state_of c.loop-word.reading) c.loop-word.place) (sym c.as_str.ensures.value) ∙ c.in-Err.ensures))
    ∙ c.loop-word.invariant.same

pub loop-word-preserved : goal.loop-word-preserved
loop-word-preserved c = record {
  counted = ap (λ (i : ℕ). i + 1) c.loop-word.invariant.counted;
  same = sym
      (continued c.args.words.now c.loop-word.word-index c.word-item.result (search rules) c.word-item.is
      (form_of c.args.form.now) (state_of c.loop-word.reading) (state_of c.in-Ok.next)
      (ap (λ (i : ℕ). step_of (form_of c.args.form.now) (state_of c.loop-word.reading) i (string_bytes c.word-item.result)) (sym c.loop-word.invariant.counted)
      ∙ ap (step_of (form_of c.args.form.now) (state_of c.loop-word.reading) c.loop-word.place) (sym c.as_str.ensures.value) ∙ c.in-Ok.ensures))
      ∙ c.loop-word.invariant.same;
}

pub returns : goal.returns
returns c =
    c.end.ensures
    ∙ ap (λ (i : ℕ). end_of (form_of c.args.form.now) (state_of c.loop-word.reading) i) c.loop-word.invariant.counted
    ∙ sym (ended c.args.words.now c.loop-word.word-index (form_of c.args.form.now) (state_of c.loop-word.reading) (search rules))
    ∙ c.loop-word.invariant.same
