-- The words of a table under the rule, and what its operations change in them.
use Rattle.std.proofs.Common.{◌≡◌, ◌<◌, ◌-◌, ◌+◌, ◌++◌, ℕ, suc, List, [], ◌∷◌, length, slice_get, slice_index, slice_set, Some, sym, ap, ◌∙◌, subst, arith}
use Rattle.std.proofs.Math.Seq.{get_or-append_seam, set-append_seam}
use Rattle.std.proofs.lemmas.List.{get_or-append_right, get_or_append_left, set-append_right, set-get_or}
use Rattle.std.proofs.lemmas.Option.{get_or_from_slice_get}
use Rattle.atomic_table.specs.Table.{State, keeps, stepped as state_after}
use Rattle.omi_script.specs.declared.program.Program.{Program}
use Rattle.omi_layout.specs.declared.layout.Layout.{Layout}
use Rattle.omi_layout.specs.Place.{image_words}
use Rattle.omi_seat.specs.Behind.{HasRun}
use Rattle.omi_seat.specs.Seats.{AreSeated}
use Rattle.omi_seat.proofs.Stepped.{image_long}
use Rattle.omi_park.specs.declared.known.InspectorPart.{InspectorPart}
use Rattle.omi_park.specs.declared.known.Part.{Part}
use Rattle.omi_park.specs.Running.{IsInspector, IsPart, Keeps, number_of}

module _ (p : Program) (l : Layout) (s : State (Unit {0}) (List Part)) (h : Keeps p l s) where
  abbrev pub image : List ℕ
  image = h.behind.run.words

  pub long : length image ≡ image_words l.table
  long = image_long p l s.words (h.epoch ∷ h.acks) h.behind

  -- ---- the words behind the image

  pub epoch_found : slice_index s.words (image_words l.table) ≡ h.epoch
  epoch_found =
      ap (λ (ws : List ℕ). slice_index ws (image_words l.table)) h.behind.are
      ∙ ap (λ i. slice_index (image ++ h.epoch ∷ h.acks) i) (sym long)
      ∙ get_or-append_seam image h.epoch h.acks 0

  pub epoch_set : (n : ℕ) → slice_set s.words (image_words l.table) n ≡ image ++ n ∷ h.acks
  epoch_set n =
      ap (λ (ws : List ℕ). slice_set ws (image_words l.table) n) h.behind.are
      ∙ ap (λ i. slice_set (image ++ h.epoch ∷ h.acks) i n) (sym long)
      ∙ set-append_seam image h.epoch h.acks n

  place_behind : (i : ℕ) → image_words l.table + 1 + i - image_words l.table ≡ suc i
  place_behind i = omega arith

  pub ack_found : (i n : ℕ) → slice_get h.acks i ≡ Some n
      → slice_index s.words (image_words l.table + 1 + i) ≡ n
  ack_found i n is =
      ap (λ (ws : List ℕ). slice_index ws (image_words l.table + 1 + i)) h.behind.are
      ∙ get_or-append_right image (h.epoch ∷ h.acks) (image_words l.table) (image_words l.table + 1 + i) 0 long (omega arith)
      ∙ ap (λ k. slice_index (h.epoch ∷ h.acks) k) (place_behind i)
      ∙ get_or_from_slice_get h.acks i n 0 is

  pub ack_set : (i n : ℕ)
      → slice_set s.words (image_words l.table + 1 + i) n ≡ image ++ h.epoch ∷ slice_set h.acks i n
  ack_set i n =
      ap (λ (ws : List ℕ). slice_set ws (image_words l.table + 1 + i) n) h.behind.are
      ∙ set-append_right image (h.epoch ∷ h.acks) (image_words l.table) (image_words l.table + 1 + i) n long (omega arith)
      ∙ ap (λ k. image ++ slice_set (h.epoch ∷ h.acks) k n) (place_behind i)

  -- a word of the image
  pub word_found : (k : ℕ) → k < image_words l.table → slice_index s.words k ≡ slice_index image k
  word_found k below =
      ap (λ (ws : List ℕ). slice_index ws k) h.behind.are
      ∙ get_or_append_left image (h.epoch ∷ h.acks) 0 k (subst (λ n. k < n) (sym long) below)

  -- the same run, with other words behind the image
  abbrev pub run_with : (words others : List ℕ) → words ≡ image ++ others → HasRun p l words others
  run_with words others is = record {
    run = h.behind.run;
    keeps = h.behind.keeps;
    program = h.behind.program;
    table = h.behind.table;
    are = is;
    few = h.behind.few;
  }

  -- ---- the rule, where the words stay

  abbrev pub Now : InspectorPart → Part → Type 0
  Now i = IsPart p l h.behind.keeps.entries h.behind.run.actors h.epoch h.acks i

  -- other seats, and another inspector
  pub reseated : (i : InspectorPart) (views : List (List Part))
      → IsInspector p l h.behind.keeps.entries h.epoch image h.acks i
      → AreSeated number_of (Now i) views
      → Keeps p l record { words = s.words; homes = s.homes; views = views }
  reseated i views inspects seats = record {
    epoch = h.epoch;
    last = h.last;
    acks = h.acks;
    many = h.many;
    behind = h.behind;
    said = h.said;
    inspector = i;
    inspects = inspects;
    seats = seats;
  }

  -- a load changes no word
  pub loaded_on : (k id : ℕ) (me : List Part)
      → Keeps p l record { words = s.words; homes = s.homes; views = slice_set s.views id me }
      → Keeps p l (state_after s k (slice_index s.words k) id [] me keeps)
  loaded_on k id me kept =
      subst (λ (ws : List ℕ). Keeps p l record { words = ws; homes = s.homes; views = slice_set s.views id me })
      (sym (set-get_or s.words k 0)) kept
