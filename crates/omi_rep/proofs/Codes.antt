-- Codes one by one, and that each is of a word of its record.
use Rattle.std.proofs.Common.{◌≡◌, ◌<◌, ◌≤◌, ℕ, zero, suc, Bool, true, false, List, length, slice_get, nat_lt, Option, Some, None, refl, sym, ap, subst, ◌∙◌, arith, if◌then◌else◌}
use Rattle.std.specs.Option.{option_map}
use Rattle.std.proofs.lemmas.Bool.Decides.{nat_tests}
use Rattle.std.proofs.lemmas.Option.{slice_get_within}
use Rattle.omi_model.specs.declared.id.Tid.{Tid}
use Rattle.omi_layout.specs.declared.field.Field.{Field}
use Rattle.omi_layout.specs.declared.field.Field.TheVariants.{RuntimeLocks, ThreadLife, RegionTeam, TaskNthreads, TaskSlots}
use Rattle.omi_layout.specs.Field.{kind_of, runtime, threads, regions, tasks}
use Rattle.omi_layout.specs.Memory.{memory_of, word_address, IsRecordWord}
use Rattle.omi_layout.specs.Named.{number}
use Rattle.omi_layout.specs.Place.{image_words, IsSlot}
use Rattle.omi_layout.specs.Table.{thread_count, width}
use Rattle.omi_layout.specs.Valid.{IsValid}
use Rattle.omi_layout.proofs.Arenas.{some_threads}
use Rattle.omi_layout.proofs.Numbers.{numbered_field}
use Rattle.omi_layout.proofs.Stored.{mapped}
use Rattle.omi_word.specs.Words.{words_of}
use Rattle.omi_rep.specs.Codes.{Codes, HasCodes, RuntimeWords, ThreadWords, RegionWords, TaskWords, group_code, lock_word, runtime_code, thread_code, region_code, task_code}
use Rattle.omi_rep.specs.Records.{records_of, task_address}
use Rattle.omi_rep.specs.Shows.{CodesStand, Stands}

-- a code is one word
pub same_word : (a b : ℕ) → Some a ≡ Some b → a ≡ b
same_word a b e = cc e

-- the code of a lock, and of a member of a team
pub lock_code : (w : List ℕ) (r : RuntimeWords) (lock : ℕ) → lock < width w (number RuntimeLocks)
    → runtime_code w r RuntimeLocks lock ≡ Some (lock_word (r.locks lock))
lock_code w r lock within =
    let low : nat_lt lock (width w (number RuntimeLocks)) ≡ true = grind (arith, nat_tests) in
    ap (λ (b : Bool). if b then Some (lock_word (r.locks lock)) else None) low

pub member_code : (w : List ℕ) (r : RegionWords) (j : ℕ) (m : Tid × ℕ) → slice_get r.team j ≡ Some m
    → region_code w r RegionTeam j ≡ Some (task_address w m.0)
member_code w r j m is = ap (option_map (λ (m : Tid × ℕ). task_address w m.0)) is

-- where a member has a code, there is one
pub record IsMemberCode (w : List ℕ) (team : List (Tid × ℕ)) (j word : ℕ) : Type 0 where
  pub member : Tid × ℕ
  pub is : slice_get team j ≡ Some member
  pub code : task_address w member.0 ≡ word

pub member_of_code : (w : List ℕ) (r : RegionWords) (j word : ℕ) → region_code w r RegionTeam j ≡ Some word
    → IsMemberCode w r.team j word
member_of_code w r j word = go (slice_get r.team j) refl
  where
    go : (o : Option (Tid × ℕ)) → slice_get r.team j ≡ o
        → option_map (λ (m : Tid × ℕ). task_address w m.0) o ≡ Some word → IsMemberCode w r.team j word
    go None e is = absurd (cc)
    go (Some m) e is = record { member = m; is = e; code = same_word (task_address w m.0) word is }

-- ---- each code is of a word of its record

-- a place of a field of this kind of record
pub record IsPlaceOf (w : List ℕ) (kind : ℕ) (f : Field) (at : ℕ) : Type 0 where
  pub kind_is : kind_of (number f) ≡ kind
  pub within : at < width w (number f)

pub wide : (w : List ℕ) → IsValid w → (f : ℕ) → 0 < width w f
wide w v f = grind (arith, nat_tests, some_threads w v)

pub runtime_coded : (w : List ℕ) → IsValid w → (r : RuntimeWords) (f : Field) (at word : ℕ)
    → runtime_code w r f at ≡ Some word → IsPlaceOf w runtime f at
runtime_coded w v r RuntimeLocks at word is = go (nat_lt at (width w (number RuntimeLocks))) refl is
  where
    go : (b : Bool) → nat_lt at (width w (number RuntimeLocks)) ≡ b
        → (if b then Some (lock_word (r.locks at)) else None) ≡ Some word
        → IsPlaceOf w runtime RuntimeLocks at
    go true e some = record { kind_is = refl; within = grind (arith, nat_tests) }
    go false e none = absurd (cc)
runtime_coded w v r f zero word is = record { kind_is = cc; within = wide w v (number f) }
runtime_coded w v r f (suc at) word is = absurd (cc)

pub thread_coded : (w : List ℕ) → IsValid w → (i : ℕ) (h : ThreadWords) (f : Field) (at word : ℕ)
    → thread_code w i h f at ≡ Some word → IsPlaceOf w threads f at
thread_coded w v i h ThreadLife zero word is = record { kind_is = refl; within = wide w v (number ThreadLife) }
thread_coded w v i h f zero word is = record { kind_is = cc; within = wide w v (number f) }
thread_coded w v i h ThreadLife (suc at) word is = absurd (cc)
thread_coded w v i h f (suc at) word is = absurd (cc)

pub region_coded : (w : List ℕ) → IsValid w → (r : RegionWords) → length r.team ≤ thread_count w
    → (f : Field) (at word : ℕ) → region_code w r f at ≡ Some word → IsPlaceOf w regions f at
region_coded w v r few RegionTeam at word is =
    let o = member_of_code w r at word is in
    let inside = slice_get_within r.team at o.member o.is in
    record { kind_is = refl; within = omega (arith, inside, few) }
region_coded w v r few f zero word is = record { kind_is = cc; within = wide w v (number f) }
region_coded w v r few f (suc at) word is = absurd (cc)

pub task_coded : (w : List ℕ) → IsValid w → (t : TaskWords) → length t.variables.nthreads ≤ 4
    → (f : Field) (at word : ℕ) → task_code w t f at ≡ Some word → IsPlaceOf w tasks f at
task_coded w v t few TaskNthreads at word is =
    let inside = slice_get_within t.variables.nthreads at word is in
    record { kind_is = refl; within = omega (arith, inside, few) }
task_coded w v t few TaskSlots at word is = go (nat_lt at (width w (number TaskSlots))) refl is
  where
    go : (b : Bool) → nat_lt at (width w (number TaskSlots)) ≡ b
        → (if b then group_code w t at else None) ≡ Some word → IsPlaceOf w tasks TaskSlots at
    go true e some = record { kind_is = refl; within = grind (arith, nat_tests) }
    go false e none = absurd (cc)
task_coded w v t few f zero word is = record { kind_is = cc; within = wide w v (number f) }
task_coded w v t few f (suc at) word is = absurd (cc)

-- so codes that a record of a memory has stand in it, as it is seen
pub codes_stand : (w words : List ℕ) → IsValid w → length words ≡ image_words w
    → (fields : Field → Bool) (codes : Codes) (kind creator slot : ℕ) → IsSlot w kind creator slot
    → ((f : Field) (at word : ℕ) → codes f at ≡ Some word → IsPlaceOf w kind f at) → HasCodes codes (memory_of w words creator kind slot)
    → CodesStand fields codes (records_of w (words_of words) creator kind slot)
unfolding word_address
codes_stand w words v count fields codes kind creator slot there coded has f at word _ is =
    let place = coded f at word is in
    let record_word : IsRecordWord w creator slot (number f) at
    = record { field = numbered_field f; record_slot = subst (λ q. IsSlot w q creator slot) (sym place.kind_is) there; within = place.within } in
    subst (λ q. Stands (records_of w (words_of words) creator q slot) f at word) place.kind_is
    (mapped w v words creator slot (number f) at (omega (arith, count)) record_word
    ∙ ap Some (subst (λ q. memory_of w words creator q slot (number f) at ≡ word) (sym place.kind_is) (has f at word is)))
