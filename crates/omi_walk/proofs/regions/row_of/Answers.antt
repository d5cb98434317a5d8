use Rattle.std.proofs.Common.{◌≡◌, refl, ap, ◌∙◌, arith, ℕ, List, Option, sym}
use Rattle.std.specs.Prelude.{Ok}
use Rattle.std.specs.FinMap.{get}
use Rattle.std.specs.List.{range_with_len}
use Rattle.std.specs.Option.{option_map}
use Rattle.omi_layout.specs.Table.{thread_count}
use Rattle.omi_layout.proofs.Arenas.{threads_of_valid}
use Rattle.omi_model.specs.declared.id.Id.{Id}
use Rattle.omi_model.specs.declared.view.MemberRow.{MemberRow}
use Rattle.omi_model.specs.declared.view.RegionRow.{RegionRow}
use Rattle.omi_numbers.specs.declared.variables.TheConstants.{LEVELS_VAR, ACTIVE_LEVELS_VAR, TEAM_SIZE_VAR}
use Rattle.omi_session.specs.Made.{region_pair}
use Rattle.omi_session.specs.Reads.{Answer, then_reads}
use Rattle.omi_session.proofs.Told.{still_tells}
use Rattle.omi_walk.specs.declared.met.Met.{Met}
use Rattle.omi_walk.specs.Asking.{ask_each, Asks}
use Rattle.omi_walk.specs.AskWords.{ask_entry, ask_region_variable}
use Rattle.omi_walk.specs.AskRegions.{ask_enclosing, ask_member, ask_row}
use Rattle.omi_walk.specs.Objects.{name_in}
use Rattle.omi_walk.proofs.AskedObjects.{size_within}
use Rattle.omi_walk.proofs.Goes.{goes_told}
use Rattle.omi_walk.proofs.Goes.{Left, left_first, left_on, left_stop, left_end}
use Rattle.omi_walk.proofs.regions.row_of.Given.{Over}
use Rattle.omi_walk.proofs.regions.row_of.Goals.{After-bounded, In_ok-func, In_ok-levels, In_ok-active, In_ok-size, In_ok-enclosing, In_ok-members}
use Rattle.omi_walk.proofs.Goes.{walks_is}
use Rattle.omi_walk.proofs.regions.row_of.Goals as goal

pub members-requires-clause-few : goal.members-requires-clause-few
members-requires-clause-few g c =
    let threads = threads_of_valid c.layout.result.now.table c.layout.result.now.valid in
    omega (arith, threads, c.bounded.ensures.few, c.from-most.ensures, c.threads.ensures)

-- the row with these members
row_with : Id → ℕ → ℕ → ℕ → ℕ → Option Met → List MemberRow → Asks RegionRow
row_with n func levels active size enclosing members = Answer (Ok (record {
  region = record { 0 = n };
  func = func;
  levels = levels;
  active = active;
  size = size;
  enclosing = option_map (λ n. record { 0 = n }) (name_in enclosing);
  members = members;
}))

-- reads: what is left to ask behind each inquiry
module _ (g : Over) where
  abbrev asked_func : (c : In_ok-func g)
      → Left g.C.Callbacks.told g.C.Callbacks.asked c.args.s.now c.entry_of.new.s (ask_row c.args.s.now.layout c.args.region (get c.args.s.now.handles.held (region_pair c.args.r)))
  unfolding ask_row row_with
  asked_func c =
      left_on (λ w k. ask_entry w k) (region_pair c.args.r) _ (left_first _ _ _ (ask_row c.args.s.now.layout c.args.region (get c.args.s.now.handles.held (region_pair c.args.r)))) refl c.entry_of.ensures.leaves c.in_ok-func.ensures.reads

  abbrev asked_levels : (c : In_ok-levels g)
      → Left g.C.Callbacks.told g.C.Callbacks.asked c.args.s.now c.region_variable.new.s (ask_row c.args.s.now.layout c.args.region (get c.args.s.now.handles.held (region_pair c.args.r)))
  unfolding ask_row row_with
  asked_levels c =
      left_on (λ w k. ask_region_variable w LEVELS_VAR k) (region_pair c.args.r) _ (asked_func (goal.at.In_ok-levels g c).In_ok-func) refl c.region_variable.ensures.leaves c.in_ok-levels.ensures.reads

  abbrev asked_active : (c : In_ok-active g)
      → Left g.C.Callbacks.told g.C.Callbacks.asked c.args.s.now c.region_variable-2.new.s (ask_row c.args.s.now.layout c.args.region (get c.args.s.now.handles.held (region_pair c.args.r)))
  unfolding ask_row row_with
  asked_active c =
      left_on (λ w k. ask_region_variable w ACTIVE_LEVELS_VAR k) (region_pair c.args.r) _ (asked_levels (goal.at.In_ok-active g c).In_ok-levels) refl c.region_variable-2.ensures.leaves c.in_ok-active.ensures.reads

  abbrev asked_size : (c : In_ok-size g)
      → Left g.C.Callbacks.told g.C.Callbacks.asked c.args.s.now c.size_of.new.s (ask_row c.args.s.now.layout c.args.region (get c.args.s.now.handles.held (region_pair c.args.r)))
  unfolding ask_row row_with
  asked_size c =
      left_on (λ w k. ask_region_variable w TEAM_SIZE_VAR k) (region_pair c.args.r) _ (asked_active (goal.at.In_ok-size g c).In_ok-active) refl c.size_of.ensures.leaves c.in_ok-size.ensures.reads

  abbrev asked_enclosing : (c : In_ok-enclosing g)
      → Left g.C.Callbacks.told g.C.Callbacks.asked c.args.s.now c.related_of.new.s (ask_row c.args.s.now.layout c.args.region (get c.args.s.now.handles.held (region_pair c.args.r)))
  unfolding ask_row row_with
  asked_enclosing c =
      left_on (λ w k. ask_enclosing w k) (region_pair c.args.r) _ (asked_size (goal.at.In_ok-enclosing g c).In_ok-size) refl c.related_of.ensures.leaves c.in_ok-enclosing.ensures.reads

  -- the size that is told is at most the number of threads, so it is the one that is taken
  members_of : (c : After-bounded g) → ℕ → Asks RegionRow
  members_of c n =
      then_reads (ask_each (ask_member c.args.s.now.layout (get c.args.s.now.handles.held (region_pair c.args.r))) (range_with_len 0 n))
      (row_with c.args.region c.in_ok-func.func c.in_ok-levels.levels c.in_ok-active.active c.in_ok-size.size c.in_ok-enclosing.enclosing)

  abbrev asked_bounded : (c : After-bounded g)
      → Left g.C.Callbacks.told g.C.Callbacks.asked c.args.s.now c.related_of.new.s (ask_row c.args.s.now.layout c.args.region (get c.args.s.now.handles.held (region_pair c.args.r)))
  unfolding ask_row row_with members_of
  asked_bounded c =
      let told = g.C.Callbacks.told in
      let s = c.args.s.now in
      let t = c.region_variable-2.new.s in
      let so = asked_active (goal.at.After-bounded g c).In_ok-active in
      record {
        rest = members_of c c.bounded.result;
        goes = goes_told told g.C.Callbacks.asked s c.related_of.new.s (ask_row c.args.s.now.layout c.args.region (get c.args.s.now.handles.held (region_pair c.args.r))) (members_of c c.in_ok-size.size) (members_of c c.bounded.result)
            (λ memory tells. ap (members_of c) (sym (c.bounded.ensures.same (
            let known = size_within t.layout memory (get t.handles.held (region_pair c.args.r)) c.in_ok-size.size
            (walks_is told g.C.Callbacks.asked c.in_ok-size.ensures.reads memory (still_tells (told s.table.calls) (told t.table.calls) memory so.goes.stays.table.same tells) (λ e. cc) (λ e. cc)) in
            let bound : c.from-most.result ≡ thread_count t.layout =
            c.from-most.ensures
            ∙ c.threads.ensures
            ∙ ap thread_count
            (c.layout.ensures ∙ c.related_of.ensures.leaves.stays.layout ∙ c.size_of.ensures.leaves.stays.layout) in
            omega (arith, known, bound)))))
            (asked_enclosing (goal.at.After-bounded g c).In_ok-enclosing).goes;
      }

  abbrev asked_members : (c : In_ok-members g)
      → Left g.C.Callbacks.told g.C.Callbacks.asked c.args.s.now c.members.new.s (ask_row c.args.s.now.layout c.args.region (get c.args.s.now.handles.held (region_pair c.args.r)))
  unfolding ask_row row_with members_of
  asked_members c =
      left_on (λ w k. ask_each (ask_member w k) (range_with_len 0 c.bounded.result)) (region_pair c.args.r) _ (asked_bounded (goal.at.In_ok-members g c).After-bounded) refl c.members.ensures.leaves c.in_ok-members.ensures.reads

pub returns-clause-reads : goal.returns-clause-reads
unfolding ask_row row_with members_of
returns-clause-reads g c =
    left_end (asked_members g (goal.at.returns-clause-reads g c).In_ok-members) refl (rw c.region_name.ensures refl)

pub returns-in_err-func-clause-reads : goal.returns-in_err-func-clause-reads
unfolding ask_row row_with
returns-in_err-func-clause-reads g c =
    left_stop (λ w k. ask_entry w k) (region_pair c.args.r) _ (left_first _ _ _ (ask_row c.args.s.now.layout c.args.region (get c.args.s.now.handles.held (region_pair c.args.r)))) refl c.in_err-func.ensures.reads c.from_residual.ensures.1

pub returns-in_err-levels-clause-reads : goal.returns-in_err-levels-clause-reads
unfolding ask_row row_with
returns-in_err-levels-clause-reads g c =
    left_stop (λ w k. ask_region_variable w LEVELS_VAR k) (region_pair c.args.r) _ (asked_func g (goal.at.returns-in_err-levels-clause-reads g c).In_ok-func) refl c.in_err-levels.ensures.reads c.from_residual-in_err-levels.ensures.1

pub returns-in_err-active-clause-reads : goal.returns-in_err-active-clause-reads
unfolding ask_row row_with
returns-in_err-active-clause-reads g c =
    left_stop (λ w k. ask_region_variable w ACTIVE_LEVELS_VAR k) (region_pair c.args.r) _ (asked_levels g (goal.at.returns-in_err-active-clause-reads g c).In_ok-levels) refl c.in_err-active.ensures.reads c.from_residual-in_err-active.ensures.1

pub returns-in_err-size-clause-reads : goal.returns-in_err-size-clause-reads
unfolding ask_row row_with
returns-in_err-size-clause-reads g c =
    left_stop (λ w k. ask_region_variable w TEAM_SIZE_VAR k) (region_pair c.args.r) _ (asked_active g (goal.at.returns-in_err-size-clause-reads g c).In_ok-active) refl c.in_err-size.ensures.reads c.from_residual-in_err-size.ensures.1

pub returns-in_err-enclosing-clause-reads : goal.returns-in_err-enclosing-clause-reads
unfolding ask_row row_with
returns-in_err-enclosing-clause-reads g c =
    left_stop (λ w k. ask_enclosing w k) (region_pair c.args.r) _ (asked_size g (goal.at.returns-in_err-enclosing-clause-reads g c).In_ok-size) refl c.in_err-enclosing.ensures.reads c.from_residual-in_err-enclosing.ensures.1

pub returns-in_err-members-clause-reads : goal.returns-in_err-members-clause-reads
unfolding ask_row row_with members_of
returns-in_err-members-clause-reads g c =
    left_stop (λ w k. ask_each (ask_member w k) (range_with_len 0 c.bounded.result)) (region_pair c.args.r) _ (asked_bounded g (goal.at.returns-in_err-members-clause-reads g c).After-bounded) refl c.in_err-members.ensures.reads c.from_residual-in_err-members.ensures.1
