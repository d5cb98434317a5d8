-- There is no complaint exactly where the words are a command of the form.
use Rattle.std.proofs.Common.{◌≡◌, ◌∙◌, ◌+◌, ◌&&◌, ℕ, Bool, true, false, cond, refl, sym, ap, subst, List, [], ◌∷◌, ◌++◌, Option, Some, None, is_some}
use Rattle.std.specs.Prelude.{option_and_then, Ok, Err}
use Rattle.std.specs.Option.{is_none, option_map_or}
use Rattle.std.proofs.lemmas.List.{append-nil, append_assoc}
use Rattle.omi_line.specs.Word.{OptionName, Kind, Seed, Break, Count, Layout, Positional, Rest, Given, Named, RefusedWord, begins_with_hyphen, word_kind}
use Rattle.omi_line.specs.Line.{empty_line, set_value, split_from, split_of, split_word, value_in, with_value, with_words}
use Rattle.omi_line.specs.declared.line.Line.{Line}
use Rattle.omi_line.proofs.Shown.{value_keeps}
use Rattle.omi_usage.specs.Form.{Want, CommandForm, fits, fits_form, fits_one, form_of_verb, is_command, is_command_of, no_form, option_of, options_fit, stand_together, value_fits, value_wanted, words_fit}
use Rattle.omi_usage.specs.Reading.{State, alone, cause_of, complain, complaint_about, complaint_from, first_from, form_in, missing, mode_behind, named_fault, none_seen, option_fault, or_else, place_in, positional_step, settled, step_then, unless_fault, with_place, word_or, word_step}
use Rattle.omi_usage.specs.declared.complaint.Cause.TheVariants as cause
use Rattle.omi_usage.specs.declared.complaint.Complaint.{Complaint}
use Rattle.omi_usage.specs.declared.reading.Mode.{Mode}
use Rattle.omi_usage.specs.declared.reading.Mode.TheVariants as mode
use Rattle.omi_usage.specs.declared.reading.Seen.{Seen}

-- ---- what reading more words adds to a line

record Extends (line final : Line) : Type 0 where
  more : List (List ℕ)
  words : final.words ≡ line.words ++ more
  keeps : (name : OptionName) (value : List ℕ) → value_in name line ≡ Some value → value_in name final ≡ Some value

stays : (line : Line) → Extends line line
stays line = record { more = []; words = sym (append-nil line.words); keeps = λ name value is. is }

then_extends : (line next final : Line) → Extends line next → Extends next final → Extends line final
then_extends line next final one two = record {
  more = one.more ++ two.more;
  words = two.words ∙ ap (λ (l : List (List ℕ)). l ++ two.more) one.words ∙ append_assoc line.words one.more two.more;
  keeps = λ name value is. two.keeps name value (one.keeps name value is);
}

same_value : (name : OptionName) (words : List (List ℕ)) (line : Line)
    → value_in name (with_words words line) ≡ value_in name line
same_value Seed words line = refl
same_value Break words line = refl
same_value Count words line = refl
same_value Layout words line = refl

with_more : (words : List (List ℕ)) (line : Line) → Extends line (with_words words line)
with_more words line = record {
  more = words;
  words = refl;
  keeps = λ name value is. same_value name words line ∙ is;
}

none_some : (value : List ℕ) (o : Option (List ℕ)) → None ≡ Some value → o ≡ Some value
none_some value o is = absurd (cc)

-- another option keeps its value
set_keeps : (name other : OptionName) (value kept : List ℕ) (line : Line) → value_in name line ≡ None
    → value_in other line ≡ Some kept → value_in other (set_value name value line) ≡ Some kept
set_keeps Seed Seed value kept line none is = none_some kept _ (sym none ∙ is)
set_keeps Seed Break value kept line none is = is
set_keeps Seed Count value kept line none is = is
set_keeps Seed Layout value kept line none is = is
set_keeps Break Seed value kept line none is = is
set_keeps Break Break value kept line none is = none_some kept _ (sym none ∙ is)
set_keeps Break Count value kept line none is = is
set_keeps Break Layout value kept line none is = is
set_keeps Count Seed value kept line none is = is
set_keeps Count Break value kept line none is = is
set_keeps Count Count value kept line none is = none_some kept _ (sym none ∙ is)
set_keeps Count Layout value kept line none is = is
set_keeps Layout Seed value kept line none is = is
set_keeps Layout Break value kept line none is = is
set_keeps Layout Count value kept line none is = is
set_keeps Layout Layout value kept line none is = none_some kept _ (sym none ∙ is)

value_set : (name : OptionName) (value : List ℕ) (line : Line) → value_in name (set_value name value line) ≡ Some value
value_set Seed value line = refl
value_set Break value line = refl
value_set Count value line = refl
value_set Layout value line = refl

with_set : (name : OptionName) (value : List ℕ) (line : Line) → value_in name line ≡ None
    → Extends line (set_value name value line)
with_set name value line none = record {
  more = [];
  words = value_keeps name value line ∙ sym (append-nil line.words);
  keeps = λ other kept is. set_keeps name other value kept line none is;
}

-- an option that is added has no value before
added : (name : OptionName) (value : List ℕ) (line next : Line) → with_value name value line ≡ Some next
    → (value_in name line ≡ None) × (set_value name value line ≡ next)
added name value line next is = go (value_in name line) refl is
  where
    go : (o : Option (List ℕ)) → value_in name line ≡ o
        → cond (is_some o) None (Some (set_value name value line)) ≡ Some next
        → (value_in name line ≡ None) × (set_value name value line ≡ next)
    go None none is = (none, cc)
    go (Some old) some is = absurd (cc)

with_added : (name : OptionName) (value : List ℕ) (line next : Line) → with_value name value line ≡ Some next
    → Extends line next
with_added name value line next is =
    let (none, same) = added name value line next is in
    subst (λ (l : Line). Extends line l) same (with_set name value line none)

record Lengthens (words : List (List ℕ)) : Type 0 where
  free : (line final : Line) → split_from words None line ≡ Some final → Extends line final
  waits : (name : OptionName) (line final : Line) → split_from words (Some name) line ≡ Some final → Extends line final

lengthens_none : Lengthens []
unfolding split_from
lengthens_none = record {
  free = λ line final is. subst (λ (l : Line). Extends line l) (let same : line ≡ final = cc in same) (stays line);
  waits = λ name line final is. absurd (cc);
}

lengthens_word : (word : List ℕ) (rest : List (List ℕ)) → Lengthens rest → Lengthens (word ∷ rest)
unfolding split_from
lengthens_word word rest next = record {
  free = λ line final is. free_word (word_kind word) line final is;
  waits = λ name line final is. waiting_word (begins_with_hyphen word) name line final is;
}
  where
    behind : (o : Option Line) (line final : Line) → ((l : Line) → o ≡ Some l → Extends line l)
        → option_and_then (split_from rest None) o ≡ Some final → Extends line final
    behind None line final adds is = absurd (cc)
    behind (Some l) line final adds is = then_extends line l final (adds l refl) (next.free l final is)

    free_word : (k : Kind) (line final : Line) → split_word k word rest (split_from rest) line ≡ Some final
        → Extends line final
    free_word Positional line final is =
        then_extends line (with_words (word ∷ []) line) final (with_more (word ∷ []) line) (next.free _ final is)
    free_word Rest line final is =
        subst (λ (l : Line). Extends line l) (let same : with_words rest line ≡ final = cc in same) (with_more rest line)
    free_word (Given name given) line final is =
        behind (with_value name given line) line final (λ l adds. with_added name given line l adds) is
    free_word (Named name) line final is = next.waits name line final is
    free_word RefusedWord line final is = absurd (cc)

    waiting_word : (begins : Bool) (name : OptionName) (line final : Line)
        → cond begins None (option_and_then (split_from rest None) (with_value name word line)) ≡ Some final
        → Extends line final
    waiting_word true name line final is = absurd (cc)
    waiting_word false name line final is =
        behind (with_value name word line) line final (λ l adds. with_added name word line l adds) is

lengthens : (words : List (List ℕ)) → Lengthens words
lengthens [] = lengthens_none
lengthens (word ∷ rest) = lengthens_word word rest (lengthens rest)

extends : (words : List (List ℕ)) (w : Option OptionName) (line final : Line)
    → split_from words w line ≡ Some final → Extends line final
extends words None line final is = (lengthens words).free line final is
extends words (Some name) line final is = (lengthens words).waits name line final is

-- ---- an option that is there already is refused

twice : (rest : List (List ℕ)) (name : OptionName) (value : List ℕ) (line : Line) → value_in name line ≡ Some value
    → split_from rest (Some name) line ≡ None
unfolding split_from
twice [] name value line there = refl
twice (word ∷ rest) name value line there = go (begins_with_hyphen word)
  where
    go : (begins : Bool) → cond begins None (option_and_then (split_from rest None) (with_value name word line)) ≡ None
    go true = refl
    go false =
        ap (λ (o : Option (List ℕ)). option_and_then (split_from rest None) (cond (is_some o) None (Some (set_value name word line)))) there

and_false : (a : Bool) → (a && false) ≡ false
and_false true = refl
and_false false = refl

and_other : (a b : Bool) → (a && b) ≡ (b && a)
and_other true true = refl
and_other true false = refl
and_other false true = refl
and_other false false = refl

all_true : (s o c l t : Bool) → s ≡ true → o ≡ true → c ≡ true → l ≡ true → (s && (o && (c && (l && t)))) ≡ t
all_true s o c l t a b d e =
    ap (λ (x : Bool). x && (o && (c && (l && t)))) a ∙ ap (λ (x : Bool). x && (c && (l && t))) b
    ∙ ap (λ (x : Bool). x && (l && t)) d ∙ ap (λ (x : Bool). x && t) e

module _ (form : CommandForm) where
  -- the value of an option that is there isn't what it is to be
  bad_value : (name : OptionName) (value : List ℕ) (final : Line) → value_in name final ≡ Some value
      → value_fits (value_wanted form (option_of name)) (Some value) ≡ false → fits_form form final ≡ false
  bad_value Seed value final is bad =
      ap (λ (b : Bool). words_fit form.words final.words && (b && (value_fits form.on final.on && (value_fits form.count final.count && (value_fits form.layout final.layout && stand_together form.on form.count (is_some final.on) (is_some final.count)))))) (ap (value_fits form.seed) is ∙ bad)
      ∙ and_false _
  bad_value Break value final is bad =
      ap (λ (b : Bool). words_fit form.words final.words && (value_fits form.seed final.seed && (b && (value_fits form.count final.count && (value_fits form.layout final.layout && stand_together form.on form.count (is_some final.on) (is_some final.count)))))) (ap (value_fits form.on) is ∙ bad)
      ∙ ap (λ (b : Bool). words_fit form.words final.words && b) (and_false _) ∙ and_false _
  bad_value Count value final is bad =
      ap (λ (b : Bool). words_fit form.words final.words && (value_fits form.seed final.seed && (value_fits form.on final.on && (b && (value_fits form.layout final.layout && stand_together form.on form.count (is_some final.on) (is_some final.count)))))) (ap (value_fits form.count) is ∙ bad)
      ∙ ap (λ (b : Bool). words_fit form.words final.words && (value_fits form.seed final.seed && b)) (and_false _)
      ∙ ap (λ (b : Bool). words_fit form.words final.words && b) (and_false _) ∙ and_false _
  bad_value Layout value final is bad =
      ap (λ (b : Bool). words_fit form.words final.words && (value_fits form.seed final.seed && (value_fits form.on final.on && (value_fits form.count final.count && (b && stand_together form.on form.count (is_some final.on) (is_some final.count)))))) (ap (value_fits form.layout) is ∙ bad)
      ∙ ap (λ (b : Bool). words_fit form.words final.words && (value_fits form.seed final.seed && (value_fits form.on final.on && b))) (and_false _)
      ∙ ap (λ (b : Bool). words_fit form.words final.words && (value_fits form.seed final.seed && b)) (and_false _)
      ∙ ap (λ (b : Bool). words_fit form.words final.words && b) (and_false _) ∙ and_false _

  -- no line that extends this one is a command
  doom : (words : List (List ℕ)) (w : Option OptionName) (line : Line)
      → ((final : Line) → Extends line final → fits_form form final ≡ false)
      → false ≡ is_command form (split_from words w line)
  doom words w line bad = go (split_from words w line) refl
    where
      go : (o : Option Line) → split_from words w line ≡ o → false ≡ is_command form o
      go None is = refl
      go (Some final) is = sym (bad final (extends words w line final is))

  doom_value : (words : List (List ℕ)) (w : Option OptionName) (name : OptionName) (value : List ℕ) (line : Line)
      → value_fits (value_wanted form (option_of name)) (Some value) ≡ false
      → false ≡ is_command form (split_from words w (set_value name value line))
  doom_value words w name value line bad =
      doom words w (set_value name value line)
      (λ final ext. bad_value name value final (ext.keeps name value (value_set name value line)) bad)

  doom_words : (words : List (List ℕ)) (w : Option OptionName) (line : Line)
      → ((more : List (List ℕ)) → words_fit form.words (line.words ++ more) ≡ false)
      → false ≡ is_command form (split_from words w line)
  doom_words words w line bad =
      doom words w line
      (λ final ext. ap (λ (l : List (List ℕ)). words_fit form.words l && options_fit form final) ext.words
      ∙ ap (λ (b : Bool). b && options_fit form final) (bad ext.more))

  -- a command hasn't the option
  foreign : (rest : List (List ℕ)) (name : OptionName) (line : Line) → value_in name line ≡ None
      → value_wanted form (option_of name) ≡ None → false ≡ is_command form (split_from rest (Some name) line)
  unfolding split_from
  foreign [] name line none lacks = refl
  foreign (word ∷ rest) name line none lacks = go (begins_with_hyphen word)
    where
      go : (begins : Bool)
          → false ≡ is_command form (cond begins None (option_and_then (split_from rest None) (with_value name word line)))
      go true = refl
      go false = doom_value rest None name word line (ap (λ (w : Option Want). value_fits w (Some word)) lacks)
          ∙ ap (λ (o : Option (List ℕ)). is_command form (option_and_then (split_from rest None) (cond (is_some o) None (Some (set_value name word line))))) (sym none)

  -- ---- the line so far, and what is left

  record Fits (line : Line) (left : List Want) (seen : Seen) : Type 0 where
    words : (more : List (List ℕ)) → words_fit form.words (line.words ++ more) ≡ words_fit left more
    values : (name : OptionName) → value_fits (value_wanted form (option_of name)) (value_in name line) ≡ true
    places : (name : OptionName) → is_some (place_in (option_of name) seen) ≡ is_some (value_in name line)

  word_read : (line : Line) (want : Want) (left : List Want) (seen : Seen) (word : List ℕ) → Fits line (want ∷ left) seen
      → fits want word ≡ true → Fits (with_words (word ∷ []) line) left seen
  word_read line want left seen word so is = record {
    words = λ more. ap (words_fit form.words) (append_assoc line.words (word ∷ []) more) ∙ so.words (word ∷ more)
        ∙ ap (λ (b : Bool). b && words_fit left more) is;
    values = λ name. ap (value_fits (value_wanted form (option_of name))) (same_value name (word ∷ []) line) ∙ so.values name;
    places = λ name. so.places name ∙ ap is_some (sym (same_value name (word ∷ []) line));
  }

  set_values : (name other : OptionName) (line : Line) (left : List Want) (seen : Seen) (value : List ℕ) → Fits line left seen
      → value_fits (value_wanted form (option_of name)) (Some value) ≡ true
      → value_fits (value_wanted form (option_of other)) (value_in other (set_value name value line)) ≡ true
  set_values Seed Seed line left seen value so is = is
  set_values Seed Break line left seen value so is = so.values Break
  set_values Seed Count line left seen value so is = so.values Count
  set_values Seed Layout line left seen value so is = so.values Layout
  set_values Break Seed line left seen value so is = so.values Seed
  set_values Break Break line left seen value so is = is
  set_values Break Count line left seen value so is = so.values Count
  set_values Break Layout line left seen value so is = so.values Layout
  set_values Count Seed line left seen value so is = so.values Seed
  set_values Count Break line left seen value so is = so.values Break
  set_values Count Count line left seen value so is = is
  set_values Count Layout line left seen value so is = so.values Layout
  set_values Layout Seed line left seen value so is = so.values Seed
  set_values Layout Break line left seen value so is = so.values Break
  set_values Layout Count line left seen value so is = so.values Count
  set_values Layout Layout line left seen value so is = is

  set_places : (name other : OptionName) (line : Line) (left : List Want) (seen : Seen) (value : List ℕ) (place : ℕ)
      → Fits line left seen
      → is_some (place_in (option_of other) (with_place (option_of name) place seen)) ≡ is_some (value_in other (set_value name value line))
  set_places Seed Seed line left seen value place so = refl
  set_places Seed Break line left seen value place so = so.places Break
  set_places Seed Count line left seen value place so = so.places Count
  set_places Seed Layout line left seen value place so = so.places Layout
  set_places Break Seed line left seen value place so = so.places Seed
  set_places Break Break line left seen value place so = refl
  set_places Break Count line left seen value place so = so.places Count
  set_places Break Layout line left seen value place so = so.places Layout
  set_places Count Seed line left seen value place so = so.places Seed
  set_places Count Break line left seen value place so = so.places Break
  set_places Count Count line left seen value place so = refl
  set_places Count Layout line left seen value place so = so.places Layout
  set_places Layout Seed line left seen value place so = so.places Seed
  set_places Layout Break line left seen value place so = so.places Break
  set_places Layout Count line left seen value place so = so.places Count
  set_places Layout Layout line left seen value place so = refl

  value_read : (name : OptionName) (line : Line) (left : List Want) (seen : Seen) (value : List ℕ) (place : ℕ)
      → Fits line left seen → value_fits (value_wanted form (option_of name)) (Some value) ≡ true
      → Fits (set_value name value line) left (with_place (option_of name) place seen)
  value_read name line left seen value place so is = record {
    words = λ more. ap (λ (l : List (List ℕ)). words_fit form.words (l ++ more)) (value_keeps name value line) ∙ so.words more;
    values = λ other. set_values name other line left seen value so is;
    places = λ other. set_places name other line left seen value place so;
  }

  -- ---- behind the last word

  alone_none : (a b : Option Want) (x y : Option ℕ) → is_none (alone a b x y) ≡ stand_together a b (is_some x) (is_some y)
  alone_none (Some a) (Some b) (Some x) (Some y) = refl
  alone_none (Some a) (Some b) (Some x) None = refl
  alone_none (Some a) (Some b) None (Some y) = refl
  alone_none (Some a) (Some b) None None = refl
  alone_none (Some a) None x y = refl
  alone_none None b x y = refl

  missing_none : (left : List Want) (place : ℕ) → is_none (missing left place) ≡ words_fit left []
  missing_none [] place = refl
  missing_none (want ∷ left) place = refl

  neither : (o p : Option Complaint) → is_none (or_else o p) ≡ (is_none o && is_none p)
  neither None p = refl
  neither (Some found) p = refl

  ends : (line : Line) (left : List Want) (seen : Seen) (place : ℕ) (words : List (List ℕ)) → Fits line left seen
      → words_fit form.words words ≡ words_fit left []
      → is_none (or_else (alone form.on form.count seen.on seen.count) (missing left place)) ≡ (words_fit form.words words && options_fit form line)
  ends line left seen place words so is =
      let together : is_none (alone form.on form.count seen.on seen.count) ≡ options_fit form line =
      alone_none form.on form.count seen.on seen.count
      ∙ ap (λ (b : Bool). stand_together form.on form.count b (is_some seen.count)) (so.places Break)
      ∙ ap (λ (b : Bool). stand_together form.on form.count (is_some line.on) b) (so.places Count)
      ∙ sym (all_true _ _ _ _ (stand_together form.on form.count (is_some line.on) (is_some line.count)) (so.values Seed) (so.values Break) (so.values Count) (so.values Layout)) in
      neither (alone form.on form.count seen.on seen.count) (missing left place)
      ∙ ap (λ (b : Bool). b && is_none (missing left place)) together
      ∙ ap (λ (b : Bool). options_fit form line && b) (missing_none left place ∙ sym is)
      ∙ and_other (options_fit form line) (words_fit form.words words)

  -- ---- word by word

  record Judges (words : List (List ℕ)) : Type 0 where
    free : (line : Line) (left : List Want) (seen : Seen) (place : ℕ) → Fits line left seen
        → is_none (complaint_from form words (record { left = left; mode = mode.Word; seen = seen }) place) ≡ is_command form (split_from words None line)
    waits : (name : OptionName) (line : Line) (left : List Want) (seen : Seen) (place : ℕ) → Fits line left seen
        → value_in name line ≡ None
        → is_none (complaint_from form words (record { left = left; mode = mode.Value (option_of name); seen = seen }) place) ≡ is_command form (split_from words (Some name) line)
    behind : (line : Line) (left : List Want) (seen : Seen) (place : ℕ) → Fits line left seen
        → is_none (complaint_from form words (record { left = left; mode = mode.Behind; seen = seen }) place) ≡ fits_form form (with_words words line)

  judges_none : Judges []
  unfolding complaint_from split_from
  judges_none = record {
    free = λ line left seen place so. ends line left seen place line.words so
        (ap (words_fit form.words) (sym (append-nil line.words)) ∙ so.words []);
    waits = λ name line left seen place so none. refl;
    behind = λ line left seen place so. ends line left seen place (line.words ++ []) so (so.words []);
  }

  judges_word : (word : List ℕ) (rest : List (List ℕ)) → Judges rest → Judges (word ∷ rest)
  unfolding complaint_from split_from
  judges_word word rest next = record {
    free = λ line left seen place so. free_word (word_kind word) line left seen place so;
    waits = λ name line left seen place so none. waiting_word (begins_with_hyphen word) name line left seen place so none;
    behind = λ line left seen place so. later line left seen place so;
  }
    where
      on : ℕ → State → Option Complaint
      on place state = complaint_from form rest state (place + 1)

      positional : (line : Line) (left : List Want) (seen : Seen) (place : ℕ) → Fits line left seen
          → is_none (step_then (positional_step left mode.Word seen (place + 1) word) (on place)) ≡ is_command form (split_from rest None (with_words (word ∷ []) line))
      positional line [] seen place so =
          doom_words rest None (with_words (word ∷ []) line)
          (λ more. ap (words_fit form.words) (append_assoc line.words (word ∷ []) more) ∙ so.words (word ∷ more))
      positional line (want ∷ left) seen place so = go (fits want word) refl
        where
          go : (b : Bool) → fits want word ≡ b
              → is_none (step_then (cond b (Ok (record { left = left; mode = mode.Word; seen = seen })) (Err (complain (place + 1) (cause_of want)))) (on place)) ≡ is_command form (split_from rest None (with_words (word ∷ []) line))
          go true is = next.free (with_words (word ∷ []) line) left seen (place + 1) (word_read line want left seen word so is)
          go false is =
              doom_words rest None (with_words (word ∷ []) line)
              (λ more. ap (words_fit form.words) (append_assoc line.words (word ∷ []) more) ∙ so.words (word ∷ more)
              ∙ ap (λ (b : Bool). b && words_fit left more) is)

      later : (line : Line) (left : List Want) (seen : Seen) (place : ℕ) → Fits line left seen
          → is_none (step_then (positional_step left mode.Behind seen (place + 1) word) (on place)) ≡ fits_form form (with_words (word ∷ rest) line)
      later line [] seen place so = sym (ap (λ (b : Bool). b && options_fit form line) (so.words (word ∷ rest)))
      later line (want ∷ left) seen place so = go (fits want word) refl
        where
          go : (b : Bool) → fits want word ≡ b
              → is_none (step_then (cond b (Ok (record { left = left; mode = mode.Behind; seen = seen })) (Err (complain (place + 1) (cause_of want)))) (on place)) ≡ fits_form form (with_words (word ∷ rest) line)
          go true is =
              next.behind (with_words (word ∷ []) line) left seen (place + 1) (word_read line want left seen word so is)
              ∙ ap (λ (l : List (List ℕ)). words_fit form.words l && options_fit form line) (append_assoc line.words (word ∷ []) rest)
          go false is =
              sym (ap (λ (b : Bool). b && options_fit form line) (so.words (word ∷ rest) ∙ ap (λ (b : Bool). b && words_fit left rest) is))

      settles : (name : OptionName) (value : List ℕ) (line : Line) (left : List Want) (seen : Seen) (m : Mode) (place at there : ℕ)
          → Fits line left seen → value_in name line ≡ None
          → is_none (step_then (settled (value_wanted form (option_of name)) (option_of name) (record { left = left; mode = m; seen = seen }) at there value) (on place)) ≡ is_command form (option_and_then (split_from rest None) (with_value name value line))
      settles name value line left seen m place at there so none =
          go (value_wanted form (option_of name)) refl
          ∙ ap (λ (o : Option (List ℕ)). is_command form (option_and_then (split_from rest None) (cond (is_some o) None (Some (set_value name value line))))) (sym none)
        where
          fit : (want : Want) (b : Bool) → value_wanted form (option_of name) ≡ Some want → fits want value ≡ b
              → is_none (step_then (cond b (Ok (record { left = left; mode = mode.Word; seen = with_place (option_of name) at seen })) (Err (complain there (cause_of want)))) (on place)) ≡ is_command form (split_from rest None (set_value name value line))
          fit want true wanted is =
              next.free (set_value name value line) left (with_place (option_of name) at seen) (place + 1)
              (value_read name line left seen value at so (ap (λ (w : Option Want). value_fits w (Some value)) wanted ∙ is))
          fit want false wanted is =
              doom_value rest None name value line (ap (λ (w : Option Want). value_fits w (Some value)) wanted ∙ is)

          go : (w : Option Want) → value_wanted form (option_of name) ≡ w
              → is_none (step_then (settled w (option_of name) (record { left = left; mode = m; seen = seen }) at there value) (on place)) ≡ is_command form (split_from rest None (set_value name value line))
          go None lacks = doom_value rest None name value line (ap (λ (w : Option Want). value_fits w (Some value)) lacks)
          go (Some want) wanted = fit want (fits want value) wanted refl

      seen_none : (o : Option ℕ) → is_some o ≡ false → o ≡ None
      seen_none None is = refl
      seen_none (Some place) is = absurd (cc)

      given : (name : OptionName) (value : List ℕ) (line : Line) (left : List Want) (seen : Seen) (place : ℕ) → Fits line left seen
          → is_none (step_then (unless_fault (option_fault form seen (option_of name)) (place + 1) (settled (value_wanted form (option_of name)) (option_of name) (record { left = left; mode = mode.Word; seen = seen }) (place + 1) (place + 1) value)) (on place)) ≡ is_command form (option_and_then (split_from rest None) (with_value name value line))
      given name value line left seen place so = go (value_in name line) (place_in (option_of name) seen) refl refl (so.places name)
        where
          free : (w : Option Want) → value_wanted form (option_of name) ≡ w → value_in name line ≡ None
              → is_none (step_then (unless_fault (named_fault w None (option_of name)) (place + 1) (settled (value_wanted form (option_of name)) (option_of name) (record { left = left; mode = mode.Word; seen = seen }) (place + 1) (place + 1) value)) (on place)) ≡ is_command form (option_and_then (split_from rest None) (with_value name value line))
          free None lacks none =
              doom_value rest None name value line (ap (λ (w : Option Want). value_fits w (Some value)) lacks)
              ∙ ap (λ (o : Option (List ℕ)). is_command form (option_and_then (split_from rest None) (cond (is_some o) None (Some (set_value name value line))))) (sym none)
          free (Some want) wanted none = settles name value line left seen mode.Word place (place + 1) (place + 1) so none

          go : (v : Option (List ℕ)) (p : Option ℕ) → value_in name line ≡ v → place_in (option_of name) seen ≡ p
              → is_some (place_in (option_of name) seen) ≡ is_some (value_in name line)
              → is_none (step_then (unless_fault (named_fault (value_wanted form (option_of name)) (place_in (option_of name) seen) (option_of name)) (place + 1) (settled (value_wanted form (option_of name)) (option_of name) (record { left = left; mode = mode.Word; seen = seen }) (place + 1) (place + 1) value)) (on place)) ≡ is_command form (option_and_then (split_from rest None) (with_value name value line))
          go None p none at same =
              ap (λ (q : Option ℕ). is_none (step_then (unless_fault (named_fault (value_wanted form (option_of name)) q (option_of name)) (place + 1) (settled (value_wanted form (option_of name)) (option_of name) (record { left = left; mode = mode.Word; seen = seen }) (place + 1) (place + 1) value)) (on place)))
              (seen_none _ (same ∙ ap is_some none))
              ∙ free (value_wanted form (option_of name)) refl none
          go (Some old) (Some p) some at same =
              ap (λ (q : Option ℕ). is_none (step_then (unless_fault (named_fault (value_wanted form (option_of name)) q (option_of name)) (place + 1) (settled (value_wanted form (option_of name)) (option_of name) (record { left = left; mode = mode.Word; seen = seen }) (place + 1) (place + 1) value)) (on place))) at
              ∙ ap (λ (o : Option (List ℕ)). is_command form (option_and_then (split_from rest None) (cond (is_some o) None (Some (set_value name value line))))) (sym some)
          go (Some old) None some at same =
              let apart : false ≡ true = sym (ap is_some at) ∙ same ∙ ap is_some some in absurd (cc)

      named : (name : OptionName) (line : Line) (left : List Want) (seen : Seen) (place : ℕ) → Fits line left seen
          → is_none (step_then (unless_fault (option_fault form seen (option_of name)) (place + 1) (Ok (record { left = left; mode = mode.Value (option_of name); seen = seen }))) (on place)) ≡ is_command form (split_from rest (Some name) line)
      named name line left seen place so = go (value_in name line) (place_in (option_of name) seen) refl refl (so.places name)
        where
          free : (w : Option Want) → value_wanted form (option_of name) ≡ w → value_in name line ≡ None
              → is_none (step_then (unless_fault (named_fault w None (option_of name)) (place + 1) (Ok (record { left = left; mode = mode.Value (option_of name); seen = seen }))) (on place)) ≡ is_command form (split_from rest (Some name) line)
          free None lacks none = foreign rest name line none lacks
          free (Some want) wanted none = next.waits name line left seen (place + 1) so none

          go : (v : Option (List ℕ)) (p : Option ℕ) → value_in name line ≡ v → place_in (option_of name) seen ≡ p
              → is_some (place_in (option_of name) seen) ≡ is_some (value_in name line)
              → is_none (step_then (unless_fault (named_fault (value_wanted form (option_of name)) (place_in (option_of name) seen) (option_of name)) (place + 1) (Ok (record { left = left; mode = mode.Value (option_of name); seen = seen }))) (on place)) ≡ is_command form (split_from rest (Some name) line)
          go None p none at same =
              ap (λ (q : Option ℕ). is_none (step_then (unless_fault (named_fault (value_wanted form (option_of name)) q (option_of name)) (place + 1) (Ok (record { left = left; mode = mode.Value (option_of name); seen = seen }))) (on place)))
              (seen_none _ (same ∙ ap is_some none))
              ∙ free (value_wanted form (option_of name)) refl none
          go (Some old) (Some p) some at same =
              ap (λ (q : Option ℕ). is_none (step_then (unless_fault (named_fault (value_wanted form (option_of name)) q (option_of name)) (place + 1) (Ok (record { left = left; mode = mode.Value (option_of name); seen = seen }))) (on place))) at
              ∙ ap (is_command form) (sym (twice rest name old line some))
          go (Some old) None some at same =
              let apart : false ≡ true = sym (ap is_some at) ∙ same ∙ ap is_some some in absurd (cc)

      free_word : (k : Kind) (line : Line) (left : List Want) (seen : Seen) (place : ℕ) → Fits line left seen
          → is_none (step_then (word_step k form (record { left = left; mode = mode.Word; seen = seen }) (place + 1) word) (on place)) ≡ is_command form (split_word k word rest (split_from rest) line)
      free_word Positional line left seen place so = positional line left seen place so
      free_word Rest line left seen place so = next.behind line left seen (place + 1) so
      free_word (Given name value) line left seen place so = given name value line left seen place so
      free_word (Named name) line left seen place so = named name line left seen place so
      free_word RefusedWord line left seen place so = refl

      waiting_word : (begins : Bool) (name : OptionName) (line : Line) (left : List Want) (seen : Seen) (place : ℕ)
          → Fits line left seen → value_in name line ≡ None
          → is_none (step_then (cond begins (Err (complain place (cause.NoValue (option_of name)))) (settled (value_wanted form (option_of name)) (option_of name) (record { left = left; mode = mode.Value (option_of name); seen = seen }) place (place + 1) word)) (on place)) ≡ is_command form (cond begins None (option_and_then (split_from rest None) (with_value name word line)))
      waiting_word true name line left seen place so none = refl
      waiting_word false name line left seen place so none =
          settles name word line left seen (mode.Value (option_of name)) place place (place + 1) so none

  judges : (words : List (List ℕ)) → Judges words
  judges [] = judges_none
  judges (word ∷ rest) = judges_word word rest (judges rest)

  opening_fits : Fits empty_line form.words none_seen
  opening_fits = record { words = λ more. refl; values = λ name. values name; places = λ name. places name }
    where
      values : (name : OptionName) → value_fits (value_wanted form (option_of name)) (value_in name empty_line) ≡ true
      values Seed = refl
      values Break = refl
      values Count = refl
      values Layout = refl

      places : (name : OptionName) → is_some (place_in (option_of name) none_seen) ≡ is_some (value_in name empty_line)
      places Seed = refl
      places Break = refl
      places Count = refl
      places Layout = refl

  pub silent_about : (words : List (List ℕ)) → is_none (complaint_about form words) ≡ is_command form (split_of words)
  silent_about words = (judges words).free empty_line form.words none_seen 0 opening_fits

-- ---- the first positional word

head_of : List (List ℕ) → Option (List ℕ)
head_of [] = None
head_of (word ∷ words) = Some word

record Firsts (words : List (List ℕ)) : Type 0 where
  free : (line final : Line) → line.words ≡ [] → split_from words None line ≡ Some final
      → first_from words mode.Word ≡ head_of final.words
  waits : (name : OptionName) (line final : Line) → line.words ≡ [] → split_from words (Some name) line ≡ Some final
      → first_from words (mode.Value (option_of name)) ≡ head_of final.words

firsts_none : Firsts []
unfolding split_from first_from head_of
firsts_none = record {
  free = λ line final none is.
      let same : line ≡ final = cc in
      ap head_of (sym none) ∙ ap (λ (l : Line). head_of l.words) same;
  waits = λ name line final none is. absurd (cc);
}

firsts_word : (word : List ℕ) (rest : List (List ℕ)) → Firsts rest → Firsts (word ∷ rest)
unfolding split_from first_from head_of
firsts_word word rest next = record {
  free = λ line final none is. free_word (word_kind word) line final none is;
  waits = λ name line final none is. waiting_word (begins_with_hyphen word) name line final none is;
}
  where
    added_then : (name : OptionName) (value : List ℕ) (line final : Line) → line.words ≡ []
        → (o : Option Line) → with_value name value line ≡ o → option_and_then (split_from rest None) o ≡ Some final
        → first_from rest mode.Word ≡ head_of final.words
    added_then name value line final none None adds is = absurd (cc)
    added_then name value line final none (Some l) adds is =
        let (free, same) = added name value line l adds in
        next.free l final
        (ap (λ (x : Line). x.words) (sym same) ∙ value_keeps name value line ∙ none) is

    all_behind : (words : List (List ℕ)) → first_from words mode.Behind ≡ head_of words
    all_behind [] = refl
    all_behind (x ∷ words) = refl

    free_word : (k : Kind) (line final : Line) → line.words ≡ []
        → split_word k word rest (split_from rest) line ≡ Some final
        → word_or word (mode_behind k) (first_from rest) ≡ head_of final.words
    free_word Positional line final none is =
        let ext = extends rest None (with_words (word ∷ []) line) final is in
        sym (ap head_of (ext.words ∙ ap (λ (l : List (List ℕ)). (l ++ word ∷ []) ++ ext.more) none))
    free_word Rest line final none is =
        let same : with_words rest line ≡ final = cc in
        all_behind rest ∙ ap (λ (l : List (List ℕ)). head_of (l ++ rest)) (sym none) ∙ ap (λ (l : Line). head_of l.words) same
    free_word (Given name value) line final none is =
        added_then name value line final none (with_value name value line) refl is
    free_word (Named name) line final none is = next.waits name line final none is
    free_word RefusedWord line final none is = absurd (cc)

    waiting_word : (begins : Bool) (name : OptionName) (line final : Line) → line.words ≡ []
        → cond begins None (option_and_then (split_from rest None) (with_value name word line)) ≡ Some final
        → first_from rest mode.Word ≡ head_of final.words
    waiting_word true name line final none is = absurd (cc)
    waiting_word false name line final none is =
        added_then name word line final none (with_value name word line) refl is

firsts : (words : List (List ℕ)) → Firsts words
firsts [] = firsts_none
firsts (word ∷ rest) = firsts_word word rest (firsts rest)

pub silent_of : (forms : List CommandForm) (words : List (List ℕ))
    → is_none (complaint_about (form_in forms words) words) ≡ is_command_of forms (split_of words)
unfolding head_of
silent_of forms words = silent_about (form_in forms words) words ∙ go (split_of words) refl
  where
    verb : (line : Line) (ws : List (List ℕ)) → line.words ≡ ws → first_from words mode.Word ≡ head_of ws
        → fits_form (form_in forms words) line ≡ fits_one forms ws line
    verb line [] none first =
        ap (λ (o : Option (List ℕ)). fits_form (option_map_or (form_of_verb forms) o no_form) line) first
        ∙ ap (λ (ws : List (List ℕ)). words_fit no_form.words ws && options_fit no_form line) none
    verb line (v ∷ ws) some first =
        ap (λ (o : Option (List ℕ)). fits_form (option_map_or (form_of_verb forms) o no_form) line) first

    go : (o : Option Line) → split_of words ≡ o → is_command (form_in forms words) o ≡ is_command_of forms o
    go None is = refl
    go (Some line) is = verb line line.words refl ((firsts words).free empty_line line refl is)
