use Rattle.std.proofs.Common.{◌≡◌, List, [], ◌∷◌, ◌++◌, Some, sym, ap, subst, ◌∙◌, arith}
use Rattle.omi_model.specs.declared.view.TaskRow.{TaskRow}
use Rattle.std.specs.Option.{option_map}
use Rattle.omi_model.specs.State.{task_of}
use Rattle.omi_model.specs.Views.{task_row}
use Rattle.omi_model.specs.Put.{named}
use Rattle.omi_machine.specs.Kept.{state_of, slots_of}
use Rattle.omi_machine_view.specs.Chains.{IsWalked, task_name}
use Rattle.omi_machine_view.specs.Marks.{Stops}
use Rattle.omi_machine_view.proofs.MarkLemmas.{places_stay, stop_at}
use Rattle.omi_machine_view.proofs.ChainWalks.{walk_begins, walk_more, walk_ends}
use Rattle.omi_machine_view.proofs.chains.push_chain.Goals as goal

pub loop-n-init : goal.loop-n-init
loop-n-init c =
    let s = state_of c.args.s.now in
    let rows = c.args.rows.now in
    let met = c.in_ok-marks.marks.met.items in
    record {
      places = λ n x is. c.in_ok-marks.ensures.places n x (ap (λ m. named m n) (sym c.tasks.ensures) ∙ is);
      walked = subst (λ h. IsWalked s c.args.i rows rows met h.current) (sym c.thread.ensures) (walk_begins s c.args.i rows met c.requires c.in_ok-marks.ensures.empty);
    }

pub next_live-requires : goal.next_live-requires
next_live-requires c =
    λ n x is. c.loop-n.invariant.places n x (ap (λ m. named m n) c.tasks-in-loop-n.ensures ∙ is)

pub loop-n-preserved : goal.loop-n-preserved
loop-n-preserved c =
    let s = state_of c.args.s.now in
    let found = c.in-Some.ensures in
    let before = c.loop-n.invariant in
    let n = c.in-Some.n in
    let t = c.in-Some.t.now in
    let row : c.loop-n.rows ++ task_row c.args.i (task_name n) t ∷ [] ≡ c.push.new.self =
    ap (λ r. c.loop-n.rows ++ r ∷ []) (sym c.in_ok-task_row.ensures) ∙ sym c.in_ok-push.ensures.added in
    let live : task_of s (task_name n) ≡ Some t =
    ap (λ m. named m n) c.tasks-in-loop-n.ensures ∙ found.live in
    let walked =
    walk_more s c.args.i c.args.rows.now c.loop-n.rows c.loop-n.marks.met.items c.loop-n.at before.walked c.next_live.new.marks.met.items n t
    (sym c.id_of.ensures ∙ found.next) live found.marked.only in
    record {
      places = places_stay s.tasks c.loop-n.marks c.next_live.new.marks n found.marked before.places;
      walked = subst (λ rows. IsWalked s c.args.i c.args.rows.now rows c.next_live.new.marks.met.items t.scheduling) row walked;
    }

pub returns : goal.returns
returns c right =
    let s = state_of c.args.s.now in
    let stops =
    stop_at s.tasks (slots_of c.tasks-in-loop-n.result.now) c.loop-n.marks.met.items c.id_of.result
    (option_map (λ k. k.0) c.loop-n.at) c.tasks-in-loop-n.ensures c.id_of.ensures c.in_default.ensures.stops in
    walk_ends s c.args.i c.args.rows.now c.loop-n.rows c.loop-n.marks.met.items c.loop-n.at c.loop-n.invariant.walked stops right
