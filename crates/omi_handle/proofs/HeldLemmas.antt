-- What a slab of entries holds: the entry under a key, where its serial is the one asked for.
use Rattle.std.proofs.Common.{◌≡◌, ◌≢◌, ℕ, zero, suc, ◌+◌, ◌<◌, ◌==◌, Bool, true, false, cond, ◌&&◌, List, [], ◌∷◌, map, Option, Some, None, refl, sym, ap, ◌∙◌, slice_index_or, is_some, ◌⊎◌, inl, inr, arith}
use Rattle.std.proofs.lemmas.Grind.{common_steps}
use Rattle.std.proofs.lemmas.Bool.Decides.{nat_tests}
use Rattle.std.specs.Ordering.{eq_by_cmp, is_eq}
use Rattle.std.specs.Cmp.{IsTotalOrder, nat_cmp_total, on_total, then_total, both_tied, unsigned_ties}
use Rattle.std.specs.FinMap.{FinMap, find, get, get-empty, get-from_entries, insert, remove, get-insert, get-remove, same_map, IsAntisymmetric}
use Rattle.slab.specs.Slab.{Slab, entries_from, Updates}
use Rattle.slab.specs.Slab as slab
use Rattle.omi_handle.specs.declared.handle.Held.{Held}
use Rattle.omi_handle.specs.declared.handles.Entry.{Entry}
use Rattle.omi_handle.specs.Ledger.{pair_cmp}
use Rattle.omi_handle.specs.Entries.{pair_of, held_by, ledger_of, AreBelow, SerialsBelow}

pub pair_cmp_total : IsTotalOrder pair_cmp
pair_cmp_total =
    then_total (on_total (λ (pair : ℕ × ℕ). pair.0) nat_cmp_total)
    (on_total (λ (pair : ℕ × ℕ). pair.1) nat_cmp_total)

pair_ties : (key serial other another : ℕ)
    → eq_by_cmp pair_cmp (key, serial) (other, another) ≡ ((key == other) && (serial == another))
pair_ties key serial other another =
    sym (both_tied _ _ _ _ (unsigned_ties key other) (unsigned_ties serial another))

-- what an entry is, to a serial
abbrev pub entry_at : Option Entry → ℕ → Option Held
entry_at None serial = None
entry_at (Some e) serial = cond (serial == e.serial) (Some e.held) None

ties_same : (key serial another : ℕ) → eq_by_cmp pair_cmp (key, serial) (key, another) ≡ (serial == another)
ties_same key serial another = pair_ties key serial key another ∙ grind (arith, nat_tests)

ties_other : (key serial other another : ℕ) → key ≢ other
    → eq_by_cmp pair_cmp (key, serial) (other, another) ≡ false
ties_other key serial other another apart = pair_ties key serial other another ∙ grind (arith, nat_tests)

pub tied : (pair other : ℕ × ℕ) → eq_by_cmp pair_cmp pair other ≡ true → pair ≡ other
tied pair other is =
    let tests : ((pair.0 == other.0) && (pair.1 == other.1)) ≡ true =
    sym (pair_ties pair.0 pair.1 other.0 other.1) ∙ is in
    let keys : pair.0 ≡ other.0 = grind (arith, nat_tests) in
    let serials : pair.1 ≡ other.1 = grind (arith, nat_tests) in
    λ i. (keys i, serials i)

pub pair_cmp_antisymmetric : IsAntisymmetric pair_cmp
pair_cmp_antisymmetric pair other is = tied pair other (ap is_eq is)

-- the entries from a key on hold nothing under a lesser key
find_before : (key serial first : ℕ) (slots : List (Option Entry)) → key < first
    → find pair_cmp (key, serial) (map pair_of (entries_from first slots)) ≡ None
find_before key serial first [] before = refl
find_before key serial first (None ∷ slots) before = find_before key serial (first + 1) slots (omega arith)
find_before key serial first (Some e ∷ slots) before =
    rw (ties_other key serial first e.serial (λ same. absurd (omega arith)))
    (find_before key serial (first + 1) slots (omega arith))

find_at : (place serial first key : ℕ) (slots : List (Option Entry)) → key ≡ first + place
    → find pair_cmp (key, serial) (map pair_of (entries_from first slots)) ≡ entry_at (slice_index_or slots place None) serial
find_at place serial first key [] is = refl
find_at zero serial first key (None ∷ slots) is = find_before key serial (first + 1) slots (omega arith)
find_at zero serial first key (Some e ∷ slots) is =
    let same : first ≡ key = omega arith in
    rw (same, ties_same key serial e.serial)
    (ap (cond (serial == e.serial) (Some e.held)) (find_before key serial (key + 1) slots (omega arith)))
find_at (suc place) serial first key (None ∷ slots) is =
    find_at place serial (first + 1) key slots (omega arith)
find_at (suc place) serial first key (Some e ∷ slots) is =
    rw (ties_other key serial first e.serial (λ same. absurd (omega arith)))
    (find_at place serial (first + 1) key slots (omega arith))

-- what is held under a pair is the entry under its key, where that has the pair's serial
pub held_at : (s : Slab Entry) (key serial : ℕ)
    → get (held_by s) (key, serial) ≡ entry_at (slab.get s key) serial
held_at s key serial = get-from_entries pair_cmp_total _ _ ∙ find_at key serial 0 key s.slots (omega arith)

more_at : (k s key : ℕ) (e : Entry) (now before : Option Entry) → (k ≡ key → now ≡ Some e)
    → (k ≡ key → before ≡ None)
    → (k ≢ key → now ≡ before)
    → entry_at now s ≡ cond (eq_by_cmp pair_cmp (k, s) (key, e.serial)) (Some e.held) (entry_at before s)
more_at k s key e now before here vacant elsewhere = grind (arith, common_steps, ties_same, ties_other)

less_at : (k s key : ℕ) (e : Entry) (now before : Option Entry) → (k ≡ key → now ≡ None)
    → (k ≡ key → before ≡ Some e)
    → (k ≢ key → now ≡ before)
    → entry_at now s ≡ cond (eq_by_cmp pair_cmp (k, s) (key, e.serial)) None (entry_at before s)
less_at k s key e now before here vacant elsewhere = grind (arith, common_steps, ties_same, ties_other)

-- an entry more is a pair more
pub held_more : (old new : Slab Entry) (key : ℕ) (e : Entry) → slab.get old key ≡ None
    → Updates old new key (Some e)
    → held_by new ≡ insert (held_by old) (key, e.serial) e.held
held_more old new key e vacant more = same_map pair_cmp_total pair_cmp_antisymmetric _ _ (λ pair.
    held_at new pair.0 pair.1
    ∙ more_at pair.0 pair.1 key e _ _ (λ same. rw same more.changed) (λ same. rw same vacant)
    (λ apart. more.others _ apart)
    ∙ sym (get-insert pair_cmp_total (held_by old) (key, e.serial) e.held pair ∙ ap (cond (eq_by_cmp pair_cmp pair (key, e.serial)) (Some e.held)) (held_at old pair.0 pair.1)))

-- an entry less is a pair less
pub held_less : (old new : Slab Entry) (key : ℕ) (e : Entry) → slab.get old key ≡ Some e
    → Updates old new key None
    → held_by new ≡ remove (held_by old) (key, e.serial)
held_less old new key e there less = same_map pair_cmp_total pair_cmp_antisymmetric _ _ (λ pair.
    held_at new pair.0 pair.1
    ∙ less_at pair.0 pair.1 key e _ _ (λ same. rw same less.changed) (λ same. rw same there)
    (λ apart. less.others _ apart)
    ∙ sym (get-remove pair_cmp_total (held_by old) (key, e.serial) pair ∙ ap (cond (eq_by_cmp pair_cmp pair (key, e.serial)) None) (held_at old pair.0 pair.1)))

ties_itself : (pair : ℕ × ℕ) → eq_by_cmp pair_cmp pair pair ≡ true
ties_itself pair = ties_same pair.0 pair.1 pair.1 ∙ grind (arith, nat_tests)

pub one_of_both : (b : Bool) → (b ≡ true) ⊎ (b ≡ false)
one_of_both true = inl refl
one_of_both false = inr refl

not_tied : (pair other : ℕ × ℕ) → other ≢ pair → eq_by_cmp pair_cmp other pair ≡ false
not_tied pair other apart = elim (one_of_both (eq_by_cmp pair_cmp other pair)) [ inl is ↦ absurd (apart (tied other pair is)) | inr is ↦ is ]

module _ (held : FinMap pair_cmp Held) (pair : ℕ × ℕ) where
  pub found_inserted : (h : Held) → get (insert held pair h) pair ≡ Some h
  found_inserted h =
      get-insert pair_cmp_total held pair h pair
      ∙ ap (λ b. cond b (Some h) (get held pair)) (ties_itself pair)

  pub kept_inserted : (h : Held) → get held pair ≡ None → (other : ℕ × ℕ) (found : Held)
      → get held other ≡ Some found
      → get (insert held pair h) other ≡ Some found
  kept_inserted h unheld other found is =
      let apart : other ≢ pair = λ same. cc (ap (get held) same) in
      get-insert pair_cmp_total held pair h other
      ∙ ap (λ b. cond b (Some h) (get held other)) (not_tied pair other apart) ∙ is

  pub gone_removed : get (remove held pair) pair ≡ None
  gone_removed =
      get-remove pair_cmp_total held pair pair ∙ ap (λ b. cond b None (get held pair)) (ties_itself pair)

  pub others_removed : (other : ℕ × ℕ) → other ≢ pair → get (remove held pair) other ≡ get held other
  others_removed other apart =
      get-remove pair_cmp_total held pair other
      ∙ ap (λ b. cond b None (get held other)) (not_tied pair other apart)

-- to remove what isn't there changes nothing
pub absent_removed : (held : FinMap pair_cmp Held) (pair : ℕ × ℕ) → get held pair ≡ None
    → remove held pair ≡ held
absent_removed held pair absent = same_map pair_cmp_total pair_cmp_antisymmetric _ _ (λ other.
    get-remove pair_cmp_total held pair other
    ∙ elim (one_of_both (eq_by_cmp pair_cmp other pair)) [
      | inl is ↦ rw is (sym (ap (get held) (tied other pair is) ∙ absent))
      | inr is ↦ rw is refl
    ])

-- the serials that are held are those of the entries
pub serial_below : (s : Slab Entry) (made key serial : ℕ) → AreBelow s made
    → get (held_by s) (key, serial) ≢ None → serial < made
serial_below s made key serial below held =
    by_entry (slab.get s key) (λ e is. below key e is) (λ none. held (held_at s key serial ∙ none))
  where
    by_entry : (found : Option Entry) → ((e : Entry) → found ≡ Some e → e.serial < made)
        → entry_at found serial ≢ None → serial < made
    by_entry None below held = absurd (held refl)
    by_entry (Some e) below held = elim (one_of_both (serial == e.serial)) [
      | inl is ↦ let same : serial ≡ e.serial = grind (arith, nat_tests) in let less : e.serial < made = below e refl in omega arith
      | inr is ↦ absurd (held (ap (λ b. cond b (Some e.held) None) is))
    ]

-- where there are any
pub any_below : (entries : Option (Slab Entry)) (made key serial : ℕ) → SerialsBelow entries made
    → get (ledger_of entries made).held (key, serial) ≢ None → serial < made
any_below (Some s) made key serial below held = serial_below s made key serial below held
any_below None made key serial below held = absurd (held (get-empty pair_cmp (key, serial)))

-- what is held under a pair stands in an entry with the pair's serial
pub entry_of : (s : Slab Entry) (key serial : ℕ) (h : Held) → get (held_by s) (key, serial) ≡ Some h
    → (e : Entry) × (slab.get s key ≡ Some e) × (e.serial ≡ serial)
entry_of s key serial h held = by_entry (slab.get s key) (sym (held_at s key serial) ∙ held)
  where
    by_entry : (found : Option Entry) → entry_at found serial ≡ Some h
        → (e : Entry) × (found ≡ Some e) × (e.serial ≡ serial)
    by_entry None held = absurd (cc)
    by_entry (Some e) held = elim (one_of_both (serial == e.serial)) [
      | inl is ↦ (e, refl, grind (arith, nat_tests))
      | inr is ↦ absurd (let none : ◌≡◌ {A = Option Held} (Some h) None = sym held ∙ ap (λ b. cond b (Some e.held) None) is in cc)
    ]

-- nothing is held under a key that has no entry
pub vacant_held : (s : Slab Entry) (key serial : ℕ) → slab.get s key ≡ None
    → get (held_by s) (key, serial) ≡ None
vacant_held s key serial vacant = held_at s key serial ∙ ap (λ found. entry_at found serial) vacant

-- an entry less is the pair that it held less
pub held_released : (old new : Slab Entry) (key serial : ℕ) (h : Held)
    → get (held_by old) (key, serial) ≡ Some h
    → Updates old new key None → held_by new ≡ remove (held_by old) (key, serial)
held_released old new key serial h held less =
    let found = entry_of old key serial h held in
    held_less old new key found.0 found.1 less ∙ ap (λ n. remove (held_by old) (key, n)) found.2

pub key_of : (s : Slab Entry) (key serial : ℕ) (h : Held) → get (held_by s) (key, serial) ≡ Some h
    → slab.ContainsKey s key
key_of s key serial h held = ap is_some (entry_of s key serial h held).1
