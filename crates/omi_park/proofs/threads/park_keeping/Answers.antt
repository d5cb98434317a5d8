use Rattle.std.proofs.Common.{◌≡◌, ◌+◌, ◌-◌, ◌++◌, ℕ, suc, List, [], ◌∷◌, length, replicate, vec_len, sym, ap, ◌∙◌, subst, arith}
use Rattle.std.proofs.lemmas.List.{length-append, length-replicate}
use Rattle.atomic_table.specs.Table.{opening}
use Rattle.omi_script.specs.declared.program.Program.{Program}
use Rattle.omi_layout.specs.declared.layout.Layout.{Layout}
use Rattle.omi_seat.proofs.Lists.{get_within}
use Rattle.omi_seat.proofs.Opened.{opening_long}
use Rattle.omi_seat.proofs.Stepped.{image_long}
use Rattle.omi_seat.specs.Seats.{Seated}
use Rattle.omi_seat.specs.Workers.{AreJoined, AreToBegin}
use Rattle.omi_park.specs.declared.known.Part.{Part}
use Rattle.omi_park.specs.declared.known.Part.TheVariants as part
use Rattle.omi_park.specs.declared.rule.Given.{Given}
use Rattle.omi_park.specs.declared.stopped.Stopped.{Stopped}
use Rattle.omi_park.specs.Joined.{HaveEnded, IsParkedKept}
use Rattle.omi_park.specs.Inspecting.{IsBetween}
use Rattle.omi_park.specs.Plays.{first_inspector, first_part, first_parts}
use Rattle.omi_park.specs.Running.{Keeps}
use Rattle.omi_park.proofs.Ending.{is_parked_kept}
use Rattle.omi_park.proofs.Joining.{runs_known}
use Rattle.omi_park.proofs.Seats.{join_allowed, opening_keeps, to_split}
use Rattle.omi_park.proofs.threads.park_keeping.Goals as goal

pub of_words-requires : goal.of_words-requires
of_words-requires g c =
    let none : ℕ = 0 in
    let from = c.from.ensures in
    let more : 1 + c.from.result ≡ suc c.args.p.now.threads = omega (arith, from) in
    let words =
    c.deref.ensures.value
    ∙ c.in_ok-opening.ensures
    ∙ ap (λ n. c.in_ok-first.first ++ replicate n none) more in
    subst (λ (z : Program × Layout × List ℕ). Keeps z.0 z.1 (opening z.2 [] (first_parts z.0 z.1)))
    (λ k. (sym c.of.ensures k, sym c.of-2.ensures k, sym words k))
    (opening_keeps c.args.p.now c.args.l.now c.in_ok-first.first c.requires.suits c.in_ok-first.ensures)

pub workers_at-requires-clause-split : goal.workers_at-requires-clause-split
workers_at-requires-clause-split g c =
    let knows = c.in_ok-table.ensures.4 ∙ (λ k. (first_parts (c.of.ensures k) (c.of-2.ensures k), [])) in
    let key = c.in_ok-table.table.shared.key in
    let split = to_split key.program.value key.layout.value c.args.p.now c.args.l.now _ knows in (
      first_part c.args.p.now c.args.l.now,
      part.Inspector first_inspector ∷ [],
      split,
    )

pub all_joined-runs-requires-clause-theirs : goal.all_joined-runs-requires-clause-theirs
all_joined-runs-requires-clause-theirs g c i e got =
    let knows = c.in_ok-table.ensures.4 ∙ (λ k. (first_parts (c.of.ensures k) (c.of-2.ensures k), [])) in
    let key = c.in_ok-table.table.shared.key in
    let split = to_split key.program.value key.layout.value c.args.p.now c.args.l.now _ knows in
    let begin : AreToBegin c.args.p.now c.args.l.now c.in_ok-table.table.shared.table_id c.args.budget c.args.kept (first_part c.args.p.now c.args.l.now) (vec_len c.in_ok-workers.workers) c.in_ok-workers.workers.items =
    λ i r got. let begins = c.in_ok-workers.ensures.begin c.args.l.now (first_part c.args.p.now c.args.l.now) (part.Inspector first_inspector ∷ []) split i r got in (begins.0, begins.1 ∙ sym c.in_ok-workers.ensures.threads) in
    let within = get_within c.beside-inspector.result.1.items e i got in
    let long = c.beside-inspector.result.1.ok.0 in
    let threads = c.beside-inspector.ensures.threads in
    let ended =
    c.beside-inspector.ensures.ended c.args.kept begin i (vec_len c.in_ok-workers.workers - (i + 1)) e got
    (omega (arith, within, long, threads)) in
    record { table = ended.work.table; part = part.Worker ended.part; knows = ended.work.knows }

pub all_joined-runs-requires-clause-may : goal.all_joined-runs-requires-clause-may
all_joined-runs-requires-clause-may g c =
    let key = c.in_ok-table.table.shared.key in join_allowed key.program.value key.layout.value

pub returns-clause-parked : goal.returns-clause-parked
returns-clause-parked g c =
    let knows = c.in_ok-table.ensures.4 ∙ (λ k. (first_parts (c.of.ensures k) (c.of-2.ensures k), [])) in
    let key = c.in_ok-table.table.shared.key in
    let split = to_split key.program.value key.layout.value c.args.p.now c.args.l.now _ knows in
    let begin : AreToBegin c.args.p.now c.args.l.now c.in_ok-table.table.shared.table_id c.args.budget c.args.kept (first_part c.args.p.now c.args.l.now) (vec_len c.in_ok-workers.workers) c.in_ok-workers.workers.items =
    λ i r got. let begins = c.in_ok-workers.ensures.begin c.args.l.now (first_part c.args.p.now c.args.l.now) (part.Inspector first_inspector ∷ []) split i r got in (begins.0, begins.1 ∙ sym c.in_ok-workers.ensures.threads) in
    let values = c.close_with-closed.ensures.values in
    let s = values.2.0 in
    let seen = values.2.1 in
    let h : Keeps c.args.p.now c.args.l.now s =
    subst (λ (z : Program × Layout). Keeps z.0 z.1 s) (λ k. (c.of.ensures k, c.of-2.ensures k))
    (subst (λ (z : Given). Keeps z.program.value z.layout.value s) c.in_ok-table.ensures.5 seen.0) in
    let long : length h.behind.run.words ≡ length c.in_ok-first.first =
    image_long c.args.p.now c.args.l.now s.words (h.epoch ∷ h.acks) h.behind
    ∙ sym (opening_long c.args.p.now c.args.l.now c.in_ok-first.first [] c.requires.suits c.in_ok-first.ensures) in
    let all = c.beside-inspector.ensures.threads in
    let ended : HaveEnded c.args.p.now c.args.l.now c.in_ok-table.table.shared.table_id c.args.budget c.args.kept (vec_len c.beside-inspector.result.1) c.beside-inspector.result.1.items =
    λ i thread e got at. c.beside-inspector.ensures.ended c.args.kept begin i thread e got (at ∙ all) in
    let inspected = c.beside-inspector.ensures.inspected in
    let alone =
    ap (λ z. z.me.0) c.parts-seat.ensures.seat ∙ ap (λ (m : Seated Part). m.0) inspected.knows in
    let joined = subst (λ before. AreJoined (vec_len c.beside-inspector.result.1) c.beside-inspector.result.1.items before c.all_joined-runs.new.seat.me.0 c.all_joined-runs.result)
    alone c.all_joined-runs.ensures.joined in
    let known = runs_known c.args.p.now c.args.l.now c.in_ok-table.table.shared.table_id c.args.budget c.args.kept _ _ ended inspected.part _ _ joined in
    let parked = is_parked_kept c.args.p.now c.args.l.now c.args.budget c.args.kept s h c.all_joined-runs.new.seat.id c.all_joined-runs.new.seat.me.0 seen.1 inspected.part c.all_joined-runs.result known
    (c.all_joined-runs.ensures.threads ∙ all ∙ c.in_ok-workers.ensures.threads) c.image_of-image.result
    (c.image_of-image.ensures h.behind.run.words (h.epoch ∷ h.acks) (sym values.2.2 ∙ h.behind.are) long) in
    subst (λ (stops : List Stopped). IsParkedKept c.args.p.now c.args.l.now c.args.budget c.args.kept c.image_of-image.result c.all_joined-runs.result stops)
    (inspected.stops ∙ sym c.parts-seat.ensures.stops) parked

pub returns-clause-stops : goal.returns-clause-stops
returns-clause-stops g c =
    ap (λ (stops : List Stopped). length stops) c.parts-seat.ensures.stops
    ∙ c.beside-inspector.ensures.inspected.many
    ∙ c.in_ok-inspector.ensures.rooms

pub beside-inspector-requires-clause-table : goal.beside-inspector-requires-clause-table
beside-inspector-requires-clause-table g c κs held =
    let none : ℕ = 0 in
    let from = c.from.ensures in
    let key = c.in_ok-table.ensures.5 in
    let program = ap (λ (z : Given). z.program.value) key ∙ c.of.ensures in
    let words = ap (λ (ws : List ℕ). length ws) (c.deref.ensures.value ∙ c.in_ok-opening.ensures) in
    let parts = length-append c.in_ok-first.first (replicate (1 + c.from.result) none) in
    let zeros = length-replicate (1 + c.from.result) none in
    let first = opening_long c.args.p.now c.args.l.now c.in_ok-first.first [] c.requires.suits c.in_ok-first.ensures in
    let threads = ap (λ (q : Program). q.threads) program in
    let count = c.in_ok-table.ensures.0 in
    record {
      program = program;
      of = record {
        layout = ap (λ (z : Given). z.layout.value) key ∙ c.of-2.ensures;
        size = c.requires.suits.size;
        count = omega (arith, count, words, parts, zeros, first, threads, from);
      };
    }

pub beside-inspector-requires-clause-begin : goal.beside-inspector-requires-clause-begin
beside-inspector-requires-clause-begin g c κs held =
    let knows = c.in_ok-table.ensures.4 ∙ (λ k. (first_parts (c.of.ensures k) (c.of-2.ensures k), [])) in
    let key = c.in_ok-table.table.shared.key in
    let split = to_split key.program.value key.layout.value c.args.p.now c.args.l.now _ knows in
    let begin : AreToBegin c.args.p.now c.args.l.now c.in_ok-table.table.shared.table_id c.args.budget c.args.kept (first_part c.args.p.now c.args.l.now) (vec_len c.in_ok-workers.workers) c.in_ok-workers.workers.items =
    λ i r got. let begins = c.in_ok-workers.ensures.begin c.args.l.now (first_part c.args.p.now c.args.l.now) (part.Inspector first_inspector ∷ []) split i r got in (begins.0, begins.1 ∙ sym c.in_ok-workers.ensures.threads) in
    (c.args.kept, begin)

pub beside-inspector-requires-clause-between : goal.beside-inspector-requires-clause-between
beside-inspector-requires-clause-between g c κs held =
    let knows = c.in_ok-table.ensures.4 ∙ (λ k. (first_parts (c.of.ensures k) (c.of-2.ensures k), [])) in
    let key = c.in_ok-table.table.shared.key in
    let split = to_split key.program.value key.layout.value c.args.p.now c.args.l.now _ knows in
    subst (λ id. IsBetween c.args.p.now c.args.l.now id first_inspector c.in_ok-inspector.inspector)
    c.workers_at.ensures.seated
    (c.in_ok-inspector.ensures.between (c.in_ok-workers.ensures.rest (first_part c.args.p.now c.args.l.now) (part.Inspector first_inspector ∷ []) split))

pub all_joined-runs-requires-clause-seated : goal.all_joined-runs-requires-clause-seated
all_joined-runs-requires-clause-seated g c =
    ap (λ z. z.table_id) c.parts-seat.ensures.seat ∙ c.beside-inspector.ensures.inspected.table

pub all_joined-runs-requires-clause-none : goal.all_joined-runs-requires-clause-none
all_joined-runs-requires-clause-none g c =
    ap (λ z. z.me.1) c.parts-seat.ensures.seat
    ∙ ap (λ (m : Seated Part). m.1) c.beside-inspector.ensures.inspected.knows
