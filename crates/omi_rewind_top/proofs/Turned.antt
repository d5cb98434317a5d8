-- A rewind whose threads step in turn, before its first step and later; and the state word of a thread.
use Rattle.std.proofs.Common.{Option, ◌≡◌, ◌%◌, ◌^◌, ◌==◌, Bool, ◌≤◌, ◌<◌, ℕ, List, length, take, sym, ap, ◌∙◌, subst, arith}
use Rattle.std.specs.Prelude.{IsTrue}
use Rattle.omi_core.specs.declared.schedule.Schedule.TheVariants.{RoundRobin}
use Rattle.omi_core.specs.Runs.{events_in}
use Rattle.omi_layout.proofs.Stored.{on_word}
use Rattle.omi_layout.specs.Family.{IsFamily}
use Rattle.omi_layout.specs.Named.{number}
use Rattle.omi_layout.specs.Table.{thread_count}
use Rattle.omi_layout.specs.declared.field.Field.TheVariants.{ThreadState}
use Rattle.omi_layout.specs.Frame.{IsOnWord}
use Rattle.omi_layout.specs.Memory.{IsRecordWord, word_address}
use Rattle.omi_layout.specs.Place.{fits, image_words}
use Rattle.omi_layout.specs.Valid.{IsValid}
use Rattle.omi_rep.specs.Suits.{Suits}
use Rattle.omi_rewind.proofs.Fronts.{count_behind}
use Rattle.omi_rewind.specs.Answers.{IsFirst}
use Rattle.omi_rewind.specs.Rewound.{IsLater, IsOpened, IsRewound, Rewound, ShowsReached, events_until, image_of, words_at}
use Rattle.omi_rewind.specs.Tests.{IsFit, holds}
use Rattle.omi_rewind.specs.declared.test.Test.{Test}
use Rattle.omi_rewind.specs.declared.test.Test.TheVariants.{State}
use Rattle.omi_script.specs.declared.program.Program.{Program}
use Rattle.omi_session.proofs.NamesReached.{reached_are_names}
use Rattle.omi_commands.specs.Cores.{thread_ids}
use Rattle.omi_word.specs.Memory.{IsWordOf, word_at}
use Rattle.omi_word.specs.declared.op.Op.TheVariants.{Load}
use Rattle.omi_commands.specs.Imaged.{ShowsSome}
use Rattle.omi_rewind_top.specs.Looked.{IsInTurn}
use Rattle.omi_rewind_top.specs.Turns.{IsTurned, IsWhenText}
use Rattle.omi_rewind_top.specs.Lines.{first_line}

-- ---- before the first step

pub turned_first : (p : Program) (w : List ℕ) (a : Rewound) → IsOpened p w RoundRobin a
    → IsFamily 0 p.threads w → IsValid w → IsTurned p a
turned_first p w a o family valid = record {
  program = o.opens.program;
  family = subst (λ (t : List ℕ). IsFamily 0 p.threads t) (sym o.opens.table) family;
  valid = subst (λ (t : List ℕ). IsValid t) (sym o.opens.table) valid;
  how = o.how_is;
}

pub image_fits : (p : Program) (w : List ℕ) (a : Rewound) → IsOpened p w RoundRobin a → Suits p w
    → IsTrue (fits w (length (image_of a)))
image_fits p w a o suits =
    let count : length (image_of a) ≡ image_words w =
    ap (λ n. length (words_at a n)) o.at ∙ ap (λ (ws : List ℕ). length ws) o.first ∙ o.opens.words.count in
    subst (λ n. IsTrue (fits w n)) (sym count) suits.fits

-- ---- later

pub turned_later : (p : Program) (a b : Rewound) → IsTurned p a → IsLater a b → IsTurned p b
turned_later p a b t later = record {
  program = later.program ∙ t.program;
  family = subst (λ (w : List ℕ). IsFamily 0 p.threads w) (sym later.table) t.family;
  valid = subst (λ (w : List ℕ). IsValid w) (sym later.table) t.valid;
  how = later.how ∙ t.how;
}

pub turn_later : (a b : Rewound) (ids : List ℕ) → IsInTurn a ids → IsLater a b → IsInTurn b ids
turn_later a b ids t later = record {
  how = later.how ∙ t.how;
  valid = subst (λ (w : List ℕ). IsValid w) (sym later.table) t.valid;
  few = subst (λ (p : Program). p.threads ≤ 64) (sym later.program) t.few;
  ids_are = t.ids_are ∙ ap (λ (p : Program). thread_ids p.threads) (sym later.program);
}

pub in_turn : (p : Program) (a : Rewound) (ids : List ℕ) → IsTurned p a → p.threads ≤ 64 → ids ≡ thread_ids p.threads
    → IsInTurn a ids
in_turn p a ids t few are = record {
  how = t.how;
  valid = t.valid;
  few = subst (λ (q : Program). q.threads ≤ 64) (sym t.program) few;
  ids_are = are ∙ ap (λ (q : Program). thread_ids q.threads) (sym t.program);
}

-- a first step is of the run that it was found in
pub first_shown : (p : Program) (a b : Rewound) (w : List ℕ) → IsTurned p a → a.run.table ≡ w → IsLater a b → IsRewound b
    → (test : Test) (last : ℕ) (first : Option ℕ) → IsFirst b test w last first → (text : List ℕ)
    → text ≡ first_line first → IsWhenText p test last text
first_shown p a b w t table later r test last first is_first text is = record {
  rewind = b;
  turned = turned_later p a b t later;
  rewound = r;
  first = first;
  is_first = subst (λ (l : List ℕ). IsFirst b test l last first) (sym (later.table ∙ table)) is_first;
  is = is;
}

-- ---- what an image shows

pub image_shows : (a : Rewound) → IsValid a.run.table → IsRewound a → ShowsReached a a.at
    → ShowsSome (image_of a)
image_shows a valid r k =
    let long = r.opens.tables.long in
    let count : length (image_of a) ≡ length a.first = count_behind a.first (take a.at a.run.made.items) in
    record {
      some = omega (arith, long, count);
      w = a.run.table;
      valid = valid;
      state = k.state;
      names = reached_are_names a.run.program (events_in (events_until a.at a.run.events.items)) k.state k.reached;
      shows = k.shows;
    }

-- ---- a thread's state word

-- there is one of each thread
pub state_of_thread : (w : List ℕ) (thread : ℕ) → thread < thread_count w → IsRecordWord w thread 0 (number ThreadState) 0
state_of_thread w thread has = record {
  field = record { from = omega arith; to = omega arith };
  record_slot = record { made_by = has; within = omega arith };
  within = omega arith;
}

pub state_word : (w words : List ℕ) (thread f addr : ℕ) → IsValid w → IsTrue (fits w (length words))
    → IsRecordWord w thread 0 f 0 → addr ≡ word_address w thread 0 f 0 → IsOnWord w words (Load addr) thread 0 f 0
state_word w words thread f addr valid fit is at = on_word w valid words (Load addr) thread 0 f 0 fit is at

-- its word is in the image, and a test of the word answers the state's test
pub state_taken : (w words : List ℕ) (thread addr : ℕ) → IsValid w → thread < thread_count w
    → addr ≡ word_address w thread 0 (number ThreadState) 0 → IsFit w words → IsWordOf words addr
state_taken w words thread addr valid has at fit =
    (state_word w words thread (number ThreadState) addr valid fit.fits (state_of_thread w thread has) at).inside

pub state_answers : (w words : List ℕ) (thread state addr : ℕ) → IsValid w → thread < thread_count w
    → addr ≡ word_address w thread 0 (number ThreadState) 0 → IsFit w words → (shown : List ℕ) → shown ≡ words → (answer : Bool)
    → answer ≡ (word_at shown addr % 2 ^ 16 == state) → answer ≡ holds (State thread state) w words
state_answers w words thread state addr valid has at fit shown same answer is =
    is
    ∙ ap (λ (ws : List ℕ). word_at ws addr % 2 ^ 16 == state) same
    ∙ ap (λ n. n % 2 ^ 16 == state) (state_word w words thread (number ThreadState) addr valid fit.fits (state_of_thread w thread has) at).finds
