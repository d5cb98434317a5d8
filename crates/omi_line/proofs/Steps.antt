-- One step of `clap`'s walk, for each kind of word.
use Rattle.std.proofs.Common.{◌≡◌, ◌∙◌, Bool, true, false, refl, ap, ap₂, List, [], Option, None}
use Rattle.clap.specs.Kinds.{Kinds, or_else}
use Rattle.clap.specs.Simple.{Shape}
use Rattle.clap.specs.Faults.{bundle_fault, long_fault, other_fault, step_fault, turn_fault}
use Rattle.clap.specs.Walk.{Held, Row, Rule, Step, Text, Waiting, Walk, idle, option, positional, trailing, after_step, arg_by_long, long_word, plain_word, subcommand_met, subcommand_or_other, walked}
use Rattle.omi_line.proofs.Sees.{IsLongWord, IsPlainWord, IsShortWord, is_rest}

-- ---- any command without subcommands

abbrev pub held_at : List Row → Option (Text × List Text) → Held
held_at rows pending = record { rows = rows; pending = pending; skip = 0 }

abbrev pub walk_at : List Row → Option (Text × List Text) → Waiting → Bool → Walk
walk_at rows pending waiting is_trailing = record {
  held = held_at rows pending;
  waiting = waiting;
  position = 1;
  is_trailing = is_trailing;
  stopped = None;
}

-- the word has this fault, and the walk goes on from there
pub record Steps (s : Shape) (w : Walk) (word : Text) (kinds : Kinds) (next_walk : Walk) : Type 0 where
  pub fault : turn_fault s [] w word ≡ kinds
  pub after : walked s.rules [] w word ≡ next_walk

no_subcommand : (waiting : Waiting) (word : Text) → subcommand_met [] waiting word ≡ None
no_subcommand idle word = refl
no_subcommand (option id) word = refl
no_subcommand positional word = refl

-- a word before `--`, by what it is
word_steps : (s : Shape) (rows : List Row) (pending : Option (Text × List Text)) (waiting : Waiting) (word : Text) (fault : Kinds) (met : Held × Step)
    → other_fault s None word (held_at rows pending) ≡ fault
    → subcommand_or_other s.rules None waiting 1 word (held_at rows pending) ≡ met
    → Steps s (walk_at rows pending waiting false) word (or_else fault (step_fault s 1 met.0 met.1))
    (after_step s.rules word (walk_at rows pending waiting false) met.0 met.1)
unfolding walked
word_steps s rows pending waiting word fault met is_fault is_met =
    let h = held_at rows pending in
    let same =
    ap (λ (o : Option Text). subcommand_or_other s.rules o waiting 1 word h) (no_subcommand waiting word)
    ∙ is_met in
    record {
      fault = ap₂ (λ (f : Kinds) (m : Held × Step). or_else f (step_fault s 1 m.0 m.1))
          (ap (λ (o : Option Text). other_fault s o word h) (no_subcommand waiting word) ∙ is_fault) same;
      after = ap (λ (m : Held × Step). after_step s.rules word (walk_at rows pending waiting false) m.0 m.1) same;
    }

module _ (s : Shape) (rows : List Row) (pending : Option (Text × List Text)) (waiting : Waiting)
    (word : Text) where
  pub plain_steps : IsPlainWord word
      → Steps s (walk_at rows pending waiting false) word
      (step_fault s 1 (plain_word s.rules waiting word (held_at rows pending)).0 (plain_word s.rules waiting word (held_at rows pending)).1)
      (after_step s.rules word (walk_at rows pending waiting false)
      (plain_word s.rules waiting word (held_at rows pending)).0 (plain_word s.rules waiting word (held_at rows pending)).1)
  plain_steps plain =
      word_steps s rows pending waiting word [] (plain_word s.rules waiting word (held_at rows pending))
      (rw (plain.rest, plain.long, plain.short) refl) (rw (plain.rest, plain.long, plain.short) refl)

  -- `--`
  pub rest_steps : is_rest word ≡ true
      → Steps s (walk_at rows pending waiting false) word [] (walk_at rows pending waiting true)
  rest_steps is =
      word_steps s rows pending waiting word [] (held_at rows pending, trailing 1) (rw is refl) (rw is refl)

  pub long_steps : (name : Text) (given : Option Text) (found : Option Rule) (met : Held × Step)
      → IsLongWord word name given → arg_by_long s.rules name ≡ found
      → long_word s.rules waiting word name given (held_at rows pending) ≡ met
      → Steps s (walk_at rows pending waiting false) word
      (or_else (long_fault s.rules s.args_override_self found given (held_at rows pending)) (step_fault s 1 met.0 met.1))
      (after_step s.rules word (walk_at rows pending waiting false) met.0 met.1)
  long_steps name given found met is is_found is_met = word_steps s rows pending waiting word _ met
      (rw (is.rest, is.long, is_found) refl) (rw (is.rest, is.long) is_met)

  pub short_steps : (is : IsShortWord word) → Steps s (walk_at rows pending waiting false) word
      (or_else (bundle_fault s.rules s.args_override_self is.flags (held_at rows pending))
      (step_fault s 1 (subcommand_or_other s.rules None waiting 1 word (held_at rows pending)).0 (subcommand_or_other s.rules None waiting 1 word (held_at rows pending)).1))
      (after_step s.rules word (walk_at rows pending waiting false)
      (subcommand_or_other s.rules None waiting 1 word (held_at rows pending)).0 (subcommand_or_other s.rules None waiting 1 word (held_at rows pending)).1)
  short_steps is = word_steps s rows pending waiting word _ _ (rw (is.rest, is.long, is.short) refl) refl
