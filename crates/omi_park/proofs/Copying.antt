-- Words that the inspector copies one after another, and acknowledgements that it sees one after another.
use Rattle.std.proofs.Common.{◌≡◌, ◌<◌, ◌≤◌, ◌+◌, ◌++◌, ℕ, Bool, true, false, List, [], ◌∷◌, length, map, slice_index, slice_set, refl, sym, ap, ◌∙◌, arith, ⊎_elim, if◌then◌else◌}
use Rattle.std.proofs.Math.Seq.{get_or-append_seam}
use Rattle.std.proofs.lemmas.Bool.{cases_lt}
use Rattle.std.proofs.lemmas.List.{get_or-set_other, get_or-set_same, get_or_append_left, length-append, map-append}
use Rattle.omi_seat.specs.Seats.{Seated}
use Rattle.omi_park.specs.declared.known.InspectorPart.{InspectorPart}
use Rattle.omi_park.specs.declared.known.Part.{Part}
use Rattle.omi_park.specs.declared.known.Part.TheVariants as part
use Rattle.omi_park.specs.Acknowledged.{is_still, steps_said}
use Rattle.omi_park.specs.Inspecting.{HasCopied, HasSeen, HasSeenAll, IsInspectorSeat}
use Rattle.omi_park.specs.Plays.{copies, sees}

-- ---- words

pub none_yet : (i : InspectorPart) (image : List ℕ) (me : Seated Part) → IsInspectorSeat i me → i.copied ≡ []
    → HasCopied i 0 image me
none_yet i image me knows none = record {
  words = i.copied;
  knows = knows;
  many = ap length none;
  same = λ k below. absurd (omega (arith, below));
}

pub copied_more : (i : InspectorPart) (at word : ℕ) (image : List ℕ) (old new : Seated Part) → (has : HasCopied i at image old)
    → at < length image
    → new ≡ (part.Inspector (copies word (record i { copied = has.words })) ∷ [], [])
    → HasCopied i (at + 1) (slice_set image at word) new
copied_more i at word image old new has below knows = record {
  words = has.words ++ word ∷ [];
  knows = knows;
  many = length-append has.words (word ∷ []) ∙ ap (λ n. n + 1) has.many;
  same = λ k within. ⊎_elim (before k) (here k within) (cases_lt k at);
}
  where
    many : length has.words ≡ at
    many = has.many

    before : (k : ℕ) → k < at → slice_index (slice_set image at word) k ≡ slice_index (has.words ++ word ∷ []) k
    before k less =
        get_or-set_other image at k word 0 (λ eq. omega (arith, less, eq))
        ∙ has.same k less
        ∙ sym (get_or_append_left has.words (word ∷ []) 0 k (omega (arith, less, many)))

    here : (k : ℕ) → k < at + 1 → at ≤ k
        → slice_index (slice_set image at word) k ≡ slice_index (has.words ++ word ∷ []) k
    here k within more =
        let k_is : k ≡ at = omega (arith, within, more) in
        ap (λ j. slice_index (slice_set image at word) j) k_is
        ∙ get_or-set_same image at word 0 below
        ∙ sym (get_or-append_seam has.words word [] 0)
        ∙ ap (λ j. slice_index (has.words ++ word ∷ []) j) (many ∙ sym k_is)

-- ---- acknowledgements

pub none_seen_yet : (i : InspectorPart) (me : Seated Part) → IsInspectorSeat i me → length i.seen ≡ 0
    → HasSeenAll i 0 [] me
none_seen_yet i me knows none = record {
  words = i.seen;
  knows = knows;
  many = none;
  say = sym (ap (map steps_said) (none_is i.seen none));
}
  where
    none_is : (xs : List ℕ) → length xs ≡ 0 → xs ≡ []
    none_is [] none = refl
    none_is (x ∷ xs) none = absurd (omega (arith, none))

pub seen_more : (i : InspectorPart) (count steps : ℕ) (made : List ℕ) (old new : Seated Part)
    → (has : HasSeenAll i count made old) → HasSeen (record i { seen = has.words }) steps new
    → HasSeenAll i (count + 1) (made ++ steps ∷ []) new
seen_more i count steps made old new has seen = record {
  words = has.words ++ seen.word ∷ [];
  knows = seen.knows;
  many = length-append has.words (seen.word ∷ []) ∙ ap (λ n. n + 1) has.many;
  say =
      (λ k. has.say k ++ seen.says k ∷ [])
      ∙ sym (map-append steps_said has.words (seen.word ∷ []));
}

-- an acknowledgement that does not say that its worker is still changes nothing, and one that does is seen
pub not_seen : (i : InspectorPart) (word : ℕ) (new old : Seated Part) → is_still i.epoch word ≡ false
    → new ≡ (part.Inspector (sees word i) ∷ [], []) → old ≡ (part.Inspector i ∷ [], []) → new ≡ old
not_seen i word new old not is was =
    let more : InspectorPart = record i { seen = i.seen ++ word ∷ [] } in
    is ∙ ap (λ (b : Bool). (part.Inspector (if b then more else i) ∷ [], [])) not ∙ sym was

pub has_seen : (i : InspectorPart) (word : ℕ) (new : Seated Part) → is_still i.epoch word ≡ true
    → new ≡ (part.Inspector (sees word i) ∷ [], []) → HasSeen i (steps_said word) new
has_seen i word new still is =
    let more : InspectorPart = record i { seen = i.seen ++ word ∷ [] } in
    record {
      word = word;
      knows = is ∙ ap (λ (b : Bool). (part.Inspector (if b then more else i) ∷ [], [])) still;
      says = refl;
    }
