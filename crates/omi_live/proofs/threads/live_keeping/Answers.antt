use Rattle.std.proofs.Common.{◌≡◌, ◌+◌, ◌-◌, ℕ, List, [], ◌∷◌, length, vec_len, sym, ap, ◌∙◌, subst, arith}
use Rattle.atomic_table.specs.Table.{opening}
use Rattle.omi_script.specs.declared.program.Program.{Program}
use Rattle.omi_layout.specs.declared.layout.Layout.{Layout}
use Rattle.omi_live.specs.declared.rule.Given.{Given}
use Rattle.omi_live.specs.Joined.{HaveEnded}
use Rattle.omi_seat.proofs.Opened.{opening_long}
use Rattle.omi_seat.proofs.Stepped.{image_long}
use Rattle.omi_seat.specs.Workers.{AreJoined, AreToBegin}
use Rattle.omi_live.specs.Plays.{first_part, first_parts}
use Rattle.omi_live.specs.Running.{Keeps}
use Rattle.omi_live.proofs.Ending.{is_live_kept}
use Rattle.omi_live.proofs.Joining.{runs_known}
use Rattle.omi_seat.proofs.Lists.{get_within}
use Rattle.omi_live.proofs.Seats.{join_allowed, opening_keeps, to_split}
use Rattle.omi_live.proofs.threads.live_keeping.Goals as goal

pub of_words-requires : goal.of_words-requires
of_words-requires g c =
    let words = c.deref.ensures.value ∙ c.in_ok-opening.ensures in
    subst (λ (z : Program × Layout × List ℕ). Keeps z.0 z.1 c.args.on (opening z.2 [] (first_parts z.0 z.1)))
    (λ k. (sym c.of.ensures k, sym c.of-2.ensures k, sym words k))
    (opening_keeps c.args.p.now c.args.l.now c.in_ok-first.first c.requires.suits c.in_ok-first.ensures c.args.on)

pub workers_at-requires-clause-split : goal.workers_at-requires-clause-split
workers_at-requires-clause-split g c =
    let knows = c.in_ok-table.ensures.4 ∙ (λ k. (first_parts (c.of.ensures k) (c.of-2.ensures k), [])) in
    let key = c.in_ok-table.table.shared.key in
    let split = to_split key.program.value key.layout.value key.on c.args.p.now c.args.l.now _ knows in (first_part c.args.p.now c.args.l.now, [], split)

pub all_worked-requires-clause-begin : goal.all_worked-requires-clause-begin
all_worked-requires-clause-begin g c κs held =
    let knows = c.in_ok-table.ensures.4 ∙ (λ k. (first_parts (c.of.ensures k) (c.of-2.ensures k), [])) in
    let key = c.in_ok-table.table.shared.key in
    let split = to_split key.program.value key.layout.value key.on c.args.p.now c.args.l.now _ knows in
    let begin : AreToBegin c.args.p.now c.args.l.now c.in_ok-table.table.shared.table_id c.args.budget c.args.kept (first_part c.args.p.now c.args.l.now) (vec_len c.in_ok-workers.workers) c.in_ok-workers.workers.items =
    λ i r got. let begins = c.in_ok-workers.ensures.begin c.args.l.now (first_part c.args.p.now c.args.l.now) [] split i r got in (begins.0, begins.1 ∙ sym c.in_ok-workers.ensures.threads) in
    (c.args.kept, begin)

pub all_joined-runs-requires-clause-theirs : goal.all_joined-runs-requires-clause-theirs
all_joined-runs-requires-clause-theirs g c i e got =
    let knows = c.in_ok-table.ensures.4 ∙ (λ k. (first_parts (c.of.ensures k) (c.of-2.ensures k), [])) in
    let key = c.in_ok-table.table.shared.key in
    let split = to_split key.program.value key.layout.value key.on c.args.p.now c.args.l.now _ knows in
    let begin : AreToBegin c.args.p.now c.args.l.now c.in_ok-table.table.shared.table_id c.args.budget c.args.kept (first_part c.args.p.now c.args.l.now) (vec_len c.in_ok-workers.workers) c.in_ok-workers.workers.items =
    λ i r got. let begins = c.in_ok-workers.ensures.begin c.args.l.now (first_part c.args.p.now c.args.l.now) [] split i r got in (begins.0, begins.1 ∙ sym c.in_ok-workers.ensures.threads) in
    let within = get_within c.all_worked.new.workers.items e i got in
    let long = c.all_worked.new.workers.ok.0 in
    let threads = c.all_worked.ensures.threads in
    let ended =
    c.all_worked.ensures.ended c.args.kept begin i (vec_len c.in_ok-workers.workers - (i + 1)) e got
    (omega (arith, within, long, threads)) in
    record { table = ended.work.table; part = ended.part; knows = ended.work.knows }

pub all_joined-runs-requires-clause-may : goal.all_joined-runs-requires-clause-may
all_joined-runs-requires-clause-may g c =
    let key = c.in_ok-table.table.shared.key in join_allowed key.program.value key.layout.value key.on

pub all_joined-runs-requires-clause-none : goal.all_joined-runs-requires-clause-none
all_joined-runs-requires-clause-none g c =
    let knows = c.in_ok-table.ensures.4 ∙ (λ k. (first_parts (c.of.ensures k) (c.of-2.ensures k), [])) in
    let key = c.in_ok-table.table.shared.key in
    let split = to_split key.program.value key.layout.value key.on c.args.p.now c.args.l.now _ knows in
    ap (λ m. m.1) (c.in_ok-workers.ensures.rest (first_part c.args.p.now c.args.l.now) [] split)

pub returns : goal.returns
returns g c =
    let knows = c.in_ok-table.ensures.4 ∙ (λ k. (first_parts (c.of.ensures k) (c.of-2.ensures k), [])) in
    let key = c.in_ok-table.table.shared.key in
    let split = to_split key.program.value key.layout.value key.on c.args.p.now c.args.l.now _ knows in
    let begin : AreToBegin c.args.p.now c.args.l.now c.in_ok-table.table.shared.table_id c.args.budget c.args.kept (first_part c.args.p.now c.args.l.now) (vec_len c.in_ok-workers.workers) c.in_ok-workers.workers.items =
    λ i r got. let begins = c.in_ok-workers.ensures.begin c.args.l.now (first_part c.args.p.now c.args.l.now) [] split i r got in (begins.0, begins.1 ∙ sym c.in_ok-workers.ensures.threads) in
    let values = c.close_with-closed.ensures.values in
    let s = values.2.0 in
    let seen = values.2.1 in
    let h : Keeps c.args.p.now c.args.l.now c.args.on s =
    subst (λ (z : Program × Layout). Keeps z.0 z.1 c.args.on s) (λ k. (c.of.ensures k, c.of-2.ensures k))
    (subst (λ (z : Given). Keeps z.program.value z.layout.value z.on s) c.in_ok-table.ensures.5 seen.0) in
    let all = c.all_worked.ensures.threads in
    let ended : HaveEnded c.args.p.now c.args.l.now c.in_ok-table.table.shared.table_id c.args.budget c.args.on c.args.kept (vec_len c.all_worked.new.workers) c.all_worked.new.workers.items =
    λ i thread e got at. c.all_worked.ensures.ended c.args.kept begin i thread e got (at ∙ all) in
    let long : length h.behind.run.words ≡ length c.in_ok-first.first =
    image_long c.args.p.now c.args.l.now s.words (h.stop ∷ []) h.behind ∙ sym (opening_long c.args.p.now c.args.l.now c.in_ok-first.first [] c.requires.suits c.in_ok-first.ensures) in
    let joined = subst (λ before. AreJoined (vec_len c.all_worked.new.workers) c.all_worked.new.workers.items before c.all_joined-runs.new.seat.me.0 c.all_joined-runs.result)
    (ap (λ m. m.0) (c.in_ok-workers.ensures.rest (first_part c.args.p.now c.args.l.now) [] split)) c.all_joined-runs.ensures.joined in
    let known = runs_known c.args.p.now c.args.l.now c.in_ok-table.table.shared.table_id c.args.budget c.args.on c.args.kept _ _ ended _ _ joined in
    is_live_kept c.args.p.now c.args.l.now c.args.budget c.args.on c.args.kept s h c.all_joined-runs.new.seat.id c.all_joined-runs.new.seat.me.0 seen.1 c.all_joined-runs.result known
    (c.all_joined-runs.ensures.threads ∙ all ∙ c.in_ok-workers.ensures.threads) c.image_of-image.result
    (c.image_of-image.ensures h.behind.run.words (h.stop ∷ []) (sym values.2.2 ∙ h.behind.are) long)
