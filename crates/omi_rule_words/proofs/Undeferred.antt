-- No implicit task is deferred where names are live and members are known, and as a to-do list moves on.
use Rattle.std.proofs.Common.{◌≡◌, ℕ, List, sym, ap, subst, ◌∙◌}
use Rattle.omi_model.specs.declared.item.Item.{Item}
use Rattle.omi_model.specs.declared.progress.Progress.TheVariants as progress
use Rattle.omi_model.specs.declared.task.Task.{Task}
use Rattle.omi_model.specs.Changes.{with_list}
use Rattle.omi_model.specs.LawMembers.{AreMembersKnown}
use Rattle.omi_model.specs.LawNames.{AreNamesLive}
use Rattle.omi_model.specs.State.{State}
use Rattle.omi_model.proofs.Slots.{some_same}
use Rattle.omi_model.proofs.Steps.{is_relisted}
use Rattle.omi_rule_words.specs.FreeKinds.{AreImplicitUndeferred}

pub members_undeferred : (s : State) → AreNamesLive s → AreMembersKnown s → AreImplicitUndeferred s
members_undeferred s names members k t live implicit =
    let (r, there, at) = members.tasks k t live implicit in
    let member = (names.regions t.region r there).members t.number (k, t.thread) at t live in
    subst (λ (u : Task). u.progress ≡ progress.Deferred → ⊥) (some_same member.live live) member.undeferred

pub undeferred_stay : (s : State) (i : ℕ) (list : List Item) → AreImplicitUndeferred s
    → AreImplicitUndeferred (with_list s i list)
undeferred_stay s i list undeferred k t live implicit deferred =
    let (u, items, was, same) = (is_relisted s i list).tasks k t live in
    undeferred k u was (sym (ap (λ (x : Task). x.implicit) same) ∙ implicit)
    (sym (ap (λ (x : Task). x.progress) same) ∙ deferred)
