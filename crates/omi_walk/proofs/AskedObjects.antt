-- The objects that inquiries find, as a walk meets them.
use Rattle.std.proofs.Common.{◌≡◌, ◌≤◌, ◌&&◌, ℕ, Bool, true, false, cond, nat_le, leb-true, List, Option, Some, refl, sym, ap, ◌∙◌, arith}
use Rattle.std.specs.Option.{option_map, option_map_or}
use Rattle.std.specs.Prelude.{Result, Ok, Err}
use Rattle.omi_word.specs.Words.{Words}
use Rattle.omi_handle.specs.declared.handle.Held.{Held}
use Rattle.omi_icv.specs.declared.scoped.Scoped.TheVariants.{Parallel}
use Rattle.omi_icv.specs.Icvs.{icv_from_scope}
use Rattle.omi_icv.specs.Records.{record_of_handle}
use Rattle.omi_handle.specs.declared.handle.Kind.TheVariants as kind
use Rattle.omi_layout.specs.declared.field.Field.TheVariants.{RegionSize}
use Rattle.omi_layout.specs.Named.{number}
use Rattle.omi_layout.specs.Table.{thread_count}
use Rattle.omi_model.specs.declared.id.Id.{Id}
use Rattle.omi_numbers.specs.declared.variables.TheConstants.{TEAM_SIZE_VAR}
use Rattle.omi_ask.specs.Regions.{enclosing_region}
use Rattle.omi_asktask.specs.Tasks.{generating_task, scheduling_task}
use Rattle.omi_session.specs.declared.rc.Rc.{Rc}
use Rattle.omi_session.specs.declared.rc.Rc.TheVariants.{Unavailable, Error}
use Rattle.omi_session.specs.Handles.{name_of}
use Rattle.omi_session.specs.Inquiry.{word_of, team_size, related, current_task}
use Rattle.omi_session.specs.Reads.{ReadsOr, Reads, Answer, answer_on, after, then_reads}
use Rattle.omi_session.proofs.Asked.{answer_then}
use Rattle.omi_walk.specs.declared.met.Met.{Met}
use Rattle.omi_walk.specs.declared.related.Relation.{Relation}
use Rattle.omi_walk.specs.declared.related.Relation.TheVariants.{Current, Generating, Scheduling, Enclosing}
use Rattle.omi_walk.specs.Asking.{met}
use Rattle.omi_walk.specs.AskWords.{ask_region_variable}
use Rattle.omi_walk.specs.Fault.{absent, walked}
use Rattle.omi_walk.specs.Relations.{kind_from, kind_to, field_of, inquiry_of}
use Rattle.omi_walk.proofs.Goes.{map_ok, answer_answering}

-- an object by the name that it has
by_name : Held → Option Id → Met
by_name h o = record { name = option_map_or (λ (n : Id). n) o (record { creator = 0; slot = 0; generation = 0 }); held = h }

-- what was met is the object with its name
pub met_is : (w : List ℕ) (m : Met) → name_of w m.held ≡ Some m.name → m ≡ met w m.held
unfolding by_name
met_is w m is = ap (by_name m.held) (sym is)

-- of an object of which there may be none
pub absent_map : {A B : Type 0} (f : A → B) (found : Option Held) (rc : Rc)
    → absent {A = B} found rc ≡ map_ok (option_map f) (absent {A = A} found rc)
absent_map f found Unavailable = refl
absent_map f found rc = refl

-- a relation leads to what its inquiry finds
pub inquiry_is : (w : List ℕ) (relation : Relation) (found : Option Held)
    → related w (kind_from relation) found (kind_to relation) (field_of relation) ≡ inquiry_of w relation found
unfolding current_task generating_task scheduling_task enclosing_region
inquiry_is w (Current t) found = refl
inquiry_is w (Generating k) found = refl
inquiry_is w (Scheduling k) found = refl
inquiry_is w (Enclosing r) found = refl

-- ---- the size of a region

-- reads that answer had their first part answered
pub last_ok : {E A B : Type 0} (memory : Words) (reads : ReadsOr E A) (more : A → ReadsOr E B) (y : B)
    → answer_on memory (then_reads reads more) ≡ Ok y
    → (x : A) × (answer_on memory reads ≡ Ok x) × (answer_on memory (more x) ≡ Ok y)
last_ok {E} {A} {B} memory reads more y is =
    go (answer_on memory reads) refl (sym (answer_then memory reads more) ∙ is)
  where
    go : (a : Result A E) → answer_on memory reads ≡ a → answer_on memory (after a more) ≡ Ok y
        → (x : A) × (answer_on memory reads ≡ Ok x) × (answer_on memory (more x) ≡ Ok y)
    go (Ok x) e is = (x, e, is)
    go (Err why) e is = absurd (cc)

both_true : (a b : Bool) → (a && b) ≡ true → b ≡ true
both_true true b e = e
both_true false b e = absurd (cc)

-- a team that is answered has at most as many members as there are threads
team_within : (w : List ℕ) (memory : Words) (address size : ℕ)
    → answer_on memory (team_size w address) ≡ Ok size → size ≤ thread_count w
unfolding team_size
team_within w memory address size is =
    let first =
    last_ok memory (word_of w address RegionSize 0)
    (λ x. Answer (cond (nat_le 1 x && nat_le x (thread_count w)) (Ok x) (Err (Error address (number RegionSize))))) size is in
    go first.0 (nat_le 1 first.0 && nat_le first.0 (thread_count w)) refl first.2
  where
    go : (x : ℕ) (b : Bool) → (nat_le 1 x && nat_le x (thread_count w)) ≡ b
        → cond b (Ok x) (Err (Error address (number RegionSize))) ≡ Ok size → size ≤ thread_count w
    go x true e is =
        let same : x ≡ size = cc in
        let low : x ≤ thread_count w =
        leb-true x (thread_count w) (both_true (nat_le 1 x) (nat_le x (thread_count w)) e) in
        omega (arith, low, same)
    go x false e is = absurd (cc)

pub size_within : (w : List ℕ) (memory : Words) (r : Option Held) (size : ℕ)
    → Ok size ≡ answer_on memory (ask_region_variable w TEAM_SIZE_VAR r) → size ≤ thread_count w
unfolding ask_region_variable icv_from_scope then_reads
size_within w memory r size is =
    go (answer_on memory inquiry) refl (is ∙ answer_answering memory (walked r) inquiry)
  where
    inquiry : Reads ℕ
    inquiry = icv_from_scope w (λ _. r) (Parallel (record { key = 0; serial = 0 })) TEAM_SIZE_VAR

    go : (a : Result ℕ Rc) → answer_on memory inquiry ≡ a → Ok size ≡ walked r a → size ≤ thread_count w
    go (Ok x) e is =
        let same : size ≡ x = cc in
        let place = last_ok memory (record_of_handle w kind.Region r) (λ address. team_size w address) x e in
        let low = team_within w memory place.0 x place.2 in
        omega (arith, low, same)
    go (Err rc) e is = absurd (cc)
