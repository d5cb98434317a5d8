-- What a walk asks about a region and its members is a plain look at their records.
use Rattle.std.proofs.Common.{◌≡◌, ◌<◌, ◌+◌, ℕ, zero, suc, Bool, true, cond, nat_lt, List, [], ◌∷◌, Option, Some, None, refl, sym, ap, subst, ◌∙◌, arith}
use Rattle.std.proofs.lemmas.Bool.Decides.{nat_tests}
use Rattle.std.specs.List.{range_with_len}
use Rattle.std.specs.Option.{option_map}
use Rattle.std.specs.Prelude.{Result, Ok, Err}
use Rattle.omi_word.specs.Words.{Words}
use Rattle.omi_handle.specs.declared.handle.Kind.{Kind}
use Rattle.omi_handle.specs.declared.handle.Kind.TheVariants.{Thread, Region, Task}
use Rattle.omi_handle.specs.declared.handle.Held.{Held}
use Rattle.omi_layout.specs.declared.field.Field.TheVariants.{RegionFunction, RegionEnclosing, RegionSize, RegionLevels, RegionActive, RegionTeam, TaskThread}
use Rattle.omi_layout.specs.Field.{threads, regions, tasks}
use Rattle.omi_layout.specs.Table.{thread_count}
use Rattle.omi_model.specs.declared.id.Id.{Id}
use Rattle.omi_numbers.specs.declared.variables.TheConstants.{LEVELS_VAR, ACTIVE_LEVELS_VAR, TEAM_SIZE_VAR}
use Rattle.omi_rep.specs.declared.fault.LookFault.{LookFault}
use Rattle.omi_rep.specs.declared.fault.LookFault.TheVariants as look
use Rattle.omi_rep.specs.Look.{each, id_address, look_object, look_optional}
use Rattle.omi_rep.specs.LookView.{look_within, look_member, look_region, read_region}
use Rattle.omi_session.specs.declared.rc.Rc.{Rc}
use Rattle.omi_session.specs.declared.rc.Rc.TheVariants.{BadInput}
use Rattle.omi_session.specs.Inquiry.{team_size, follow, member}
use Rattle.omi_session.specs.Looked.{IsLook, IsOf, IsFault}
use Rattle.omi_session.specs.Named.{record_kind}
use Rattle.omi_session.specs.Reads.{Answer, answer_on, then_reads}
use Rattle.omi_session.proofs.LookedLaws.{object_is_looked}
use Rattle.omi_session.proofs.ShownParts.{then_answered}
use Rattle.omi_ask.specs.Regions.{enclosing_region}
use Rattle.omi_ask.specs.Threads.{thread_of_member}
use Rattle.omi_walk.specs.declared.met.Met.{Met}
use Rattle.omi_walk.specs.AskLooked.{as_fault}
use Rattle.omi_walk.specs.Asking.{ask_each, of_member}
use Rattle.omi_walk.specs.AskWords.{ask_entry, ask_region_variable}
use Rattle.omi_walk.specs.AskRegions.{ask_enclosing, ask_member_task, ask_member_thread, ask_member, ask_row}
use Rattle.omi_walk.specs.Objects.{name_in}
use Rattle.omi_walk.specs.Parts.{look_size}
use Rattle.omi_walk.proofs.AskedLooks.{Alike, Same, AllAlike, Lives, IsObject, MaybeObject, alike_then, alike_on, alike_each, alike_object, alike_follow_some, after_object}
use Rattle.omi_walk.proofs.AskedWords.{alike_entry, alike_region_variable, alike_size}
use Rattle.omi_walk.proofs.Looked.{followed_lives}
use Rattle.omi_walk.proofs.MemberLooks.{follow_kind, size_looked, looked_ok, named_ok}
use Rattle.omi_walk.proofs.Names.{named_address}

-- elements that are the same are one list
pub all_same : {A : Type 0} (xs ys : List A) → AllAlike Same xs ys → xs ≡ ys
all_same [] [] same = refl
all_same [] (y ∷ ys) same = absurd same
all_same (x ∷ xs) [] same = absurd same
all_same (x ∷ xs) (y ∷ ys) same = λ i. same.0 i ∷ all_same xs ys same.1 i

-- and what may have been met has the name that there may be
pub name_same : (w : List ℕ) (memory : Words) (kind : Kind) (o : Option Met) (n : Option Id)
    → MaybeObject w memory kind o n → name_in o ≡ n
name_same w memory kind (Some m) (Some n) is = ap Some is.name
name_same w memory kind (Some m) None is = absurd is
name_same w memory kind None (Some n) is = absurd is
name_same w memory kind None None is = refl

-- the numbers of a range are below its end
pub range_below : (a n most : ℕ) → a + n < most + 1
    → AllAlike (λ num same. (num ≡ same) × (num < most)) (range_with_len a n) (range_with_len a n)
range_below a zero most few = tt
range_below a (suc n) most few = ((refl, omega (arith, few)), range_below (a + 1) n most (omega (arith, few)))

-- a refusal that is a look's fault, of an inquiry for a member
member_refused : (found : Option Held) (rc : Rc) (fault : LookFault) → IsFault rc fault
    → of_member {A = Held} found (Err rc) ≡ Err (as_fault fault)
member_refused found rc (look.Damaged addr field) is = ap (λ c. of_member {A = Held} found (Err c)) is
member_refused found rc (look.Cycle addr) is = absurd is

module _ (w : List ℕ) (memory : Words) (h : Held) (n : Id) (st : Lives w memory Region h n) where
  -- the region that encloses it
  pub alike_enclosing : Alike (MaybeObject w memory Region) (answer_on memory (ask_enclosing w (Some h))) (look_optional w memory regions (id_address w regions n) RegionEnclosing 0)
  unfolding enclosing_region
  alike_enclosing =
      alike_follow_some w memory Region h n st Region RegionEnclosing (enclosing_region w (Some h)) refl

  module _ (size num : ℕ) (has : look_size w memory n ≡ Ok size) (below : num < size) where
    -- the task of a member is the one to which the team's word points
    member_answers : answer_on memory (member w (Some h) num) ≡ answer_on memory (follow w Task h.addr RegionTeam num)
    unfolding member
    member_answers =
        let yes : nat_lt num size ≡ true = grind (arith, nat_tests) in
        after_object w memory Region h n st
        (λ region. then_reads (team_size w region.addr) (λ size. cond (nat_lt num size) (follow w Task region.addr RegionTeam num) (Answer (Err BadInput))))
        ∙ then_answered memory (team_size w h.addr)
        (λ size. cond (nat_lt num size) (follow w Task h.addr RegionTeam num) (Answer (Err BadInput))) size
        (looked_ok (answer_on memory (team_size w h.addr)) _ size (size_looked w memory h.addr) (ap (λ a. look_within w memory a RegionSize 1 (thread_count w)) st.at ∙ has))
        ∙ ap
        (λ (c : Bool). answer_on memory (cond c (follow w Task h.addr RegionTeam num) (Answer (Err BadInput)))) yes

    member_looked : IsLook (IsOf w) (answer_on memory (member w (Some h) num)) (look_object w memory tasks (id_address w regions n) RegionTeam num)
    member_looked =
        subst
        (λ (a : Result Held Rc). IsLook (IsOf w) a (look_object w memory tasks (id_address w regions n) RegionTeam num))
        (sym member_answers)
        (subst (λ a. IsLook (IsOf w) (answer_on memory (follow w Task h.addr RegionTeam num)) (look_object w memory tasks a RegionTeam num)) st.at
        (object_is_looked w memory Task h.addr RegionTeam num))

    pub alike_member_task : Alike (IsObject w memory Task) (answer_on memory (ask_member_task w num (Some h))) (look_object w memory tasks (id_address w regions n) RegionTeam num)
    unfolding then_reads
    alike_member_task =
        alike_object w memory Task (of_member (Some h)) (member w (Some h) num) _ member_looked
        (λ o e.
        let there = sym member_answers ∙ e in
        (followed_lives {A = Unit {0}} w memory (Answer (Ok tt)) Task RegionTeam num (λ x. h.addr) o there, follow_kind w memory Task h.addr RegionTeam num o there))
        (λ o. refl) (member_refused (Some h))

    -- and its thread the one to which this task's word points
    pub alike_member_thread : (k : Id)
        → look_object w memory tasks (id_address w regions n) RegionTeam num ≡ Ok k
        → Alike (IsObject w memory Thread) (answer_on memory (ask_member_thread w num (Some h)))
        (look_object w memory threads (id_address w tasks k) TaskThread 0)
    unfolding thread_of_member
    alike_member_thread k is =
        let found = named_ok w _ _ k member_looked is in
        let o = found.0 in
        let of_kind : o.kind ≡ Task =
        follow_kind w memory Task h.addr RegionTeam num o (sym member_answers ∙ found.1) in
        let there : o.addr ≡ id_address w tasks k =
        named_address w o k found.2 ∙ ap (λ kind. id_address w (record_kind kind) k) of_kind in
        let answers : answer_on memory (thread_of_member w (Some h) num) ≡ answer_on memory (follow w Thread o.addr TaskThread 0) =
        then_answered memory (member w (Some h) num)
        (λ task. follow w Thread task.addr TaskThread 0) o found.1 in
        alike_object w memory Thread (of_member (Some h)) (thread_of_member w (Some h) num) _
        (subst (λ (a : Result Held Rc). IsLook (IsOf w) a (look_object w memory threads (id_address w tasks k) TaskThread 0)) (sym answers)
        (subst (λ a. IsLook (IsOf w) (answer_on memory (follow w Thread o.addr TaskThread 0)) (look_object w memory threads a TaskThread 0)) there
        (object_is_looked w memory Thread o.addr TaskThread 0)))
        (λ t e. (followed_lives w memory (member w (Some h) num) Thread TaskThread 0 (λ x. x.addr) t e, follow_kind w memory Thread o.addr TaskThread 0 t (sym answers ∙ e)))
        (λ t. refl) (member_refused (Some h))

    pub alike_member : Alike Same (answer_on memory (ask_member w (Some h) num)) (look_member w memory n num)
    unfolding ask_member
    alike_member =
        alike_then (IsObject w memory Task) Same memory (ask_member_task w num (Some h)) _
        (look_object w memory tasks (id_address w regions n) RegionTeam num) _ alike_member_task
        (λ m k e f r.
        alike_then (IsObject w memory Thread) Same memory (ask_member_thread w num (Some h)) _
        (look_object w memory threads (id_address w tasks k) TaskThread 0) _ (alike_member_thread k f)
        (λ t i e' f' r'. λ j. record { thread = (r'.name j).creator; task = record { 0 = r.name j } }))

  pub alike_members : (size : ℕ) → look_size w memory n ≡ Ok size
      → Alike (AllAlike Same) (answer_on memory (ask_each (ask_member w (Some h)) (range_with_len 0 size)))
      (each (look_member w memory n) (range_with_len 0 size))
  alike_members size has =
      alike_each (λ num same. (num ≡ same) × (num < size)) Same memory (ask_member w (Some h))
      (look_member w memory n)
      (λ num same below. subst (λ j. Alike Same (answer_on memory (ask_member w (Some h) num)) (look_member w memory n j)) below.0 (alike_member size num has below.1))
      (range_with_len 0 size) (range_with_len 0 size)
      (range_below 0 size size (omega arith))

  -- the row of the region
  pub alike_row : Alike Same (answer_on memory (ask_row w n (Some h))) (look_region w memory n)
  unfolding ask_row
  alike_row =
      alike_on Same memory (ask_entry w (Some h)) _ (read_region w memory n RegionFunction) _
      (alike_entry w memory h n st)
      (λ func e f. alike_on Same memory (ask_region_variable w LEVELS_VAR (Some h)) _ (read_region w memory n RegionLevels) _ (alike_region_variable w memory h n LEVELS_VAR _ RegionLevels st refl refl)
      (λ levels e f. alike_on Same memory (ask_region_variable w ACTIVE_LEVELS_VAR (Some h)) _ (read_region w memory n RegionActive) _ (alike_region_variable w memory h n ACTIVE_LEVELS_VAR _ RegionActive st refl refl)
      (λ active e f. alike_on Same memory (ask_region_variable w TEAM_SIZE_VAR (Some h)) _ (look_size w memory n) _ (alike_size w memory h n st)
      (λ size e has. alike_then (MaybeObject w memory Region) Same memory (ask_enclosing w (Some h)) _ (look_optional w memory regions (id_address w regions n) RegionEnclosing 0) _ alike_enclosing
      (λ enclosing outer e f r. alike_then (AllAlike Same) Same memory (ask_each (ask_member w (Some h)) (range_with_len 0 size)) _ (each (look_member w memory n) (range_with_len 0 size)) _ (alike_members size has)
      (λ members those e f same. λ j. record {
        region = record { 0 = n };
        func = func;
        levels = levels;
        active = active;
        size = size;
        enclosing = option_map (λ (n : Id). record { 0 = n }) (name_same w memory Region enclosing outer r j);
        members = all_same members those same j;
      }))))))
