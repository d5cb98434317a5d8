use Rattle.std.proofs.Common.{◌≡◌, drop, map, string_bytes}
use Rattle.omi_usage.specs.Form.{form_of}
use Rattle.omi_usage.specs.Reading.{complaint_about, complaint_from, state_of}
use Rattle.omi_usage.proofs.reading.first_complaint.Given as goal

-- what the words that are left give is what all words give
abbrev pub invariant-loop-word : goal.invariant-loop-word
invariant-loop-word l = record {
  counted : l.place ≡ l.word-index;
  same : complaint_from (form_of l.form) (drop l.word-index (map string_bytes l.words)) (state_of l.reading) l.word-index ≡ complaint_about (form_of l.form) (map string_bytes l.words);
}
