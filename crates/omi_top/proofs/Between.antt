-- A task of one stop is current at a later one exactly where no event between them gave it back.
use Rattle.std.proofs.Common.{◌≡◌, ◌≢◌, ◌+◌, ◌*◌, ◌<◌, ◌==◌, ◌||◌, ◌++◌, ℕ, Bool, true, false, not, List, [], ◌∷◌, map, Option, Some, None, Ok, refl, sym, ap, subst, ◌∙◌, arith, ne_eqb}
use Rattle.std.specs.Prelude.{IfSome, ⊤}
use Rattle.std.specs.List.{filter_map}
use Rattle.std.proofs.lemmas.Bool.Decides.{nat_tests}
use Rattle.std.proofs.lemmas.List.{map-append}
use Rattle.omi_corefile.specs.declared.core_image.CoreImage.{CoreImage}
use Rattle.omi_layout.specs.Field.{tasks}
use Rattle.omi_layout.specs.Named.{number}
use Rattle.omi_layout.specs.Place.{IsSlot}
use Rattle.omi_layout.proofs.OneAnswer.{one_layout}
use Rattle.omi_layout.specs.Valid.{IsValid}
use Rattle.omi_layout.specs.declared.field.Field.TheVariants.{TaskLife}
use Rattle.omi_model.specs.Freeing.{MayFree, MayFreeMember, above, freed}
use Rattle.omi_model.specs.Put.{found, named}
use Rattle.omi_model.specs.Reached.{Leads, Step}
use Rattle.omi_model.specs.Rules.{Rule, effect}
use Rattle.omi_model.specs.State.{State, task_of}
use Rattle.omi_model.specs.Views.{AreChains, IsChain, IsViewOf, thread_with}
use Rattle.omi_model.specs.declared.event.Event.{Event}
use Rattle.omi_model.specs.declared.event.Event.TheVariants as event
use Rattle.omi_model.specs.declared.freeable.Freeable.TheVariants as freeable
use Rattle.omi_model.specs.declared.id.Id.{Id}
use Rattle.omi_model.specs.declared.id.Tid.{Tid}
use Rattle.omi_model.specs.declared.item.Item.{Item}
use Rattle.omi_model.specs.declared.item.Item.TheVariants as item
use Rattle.omi_model.specs.declared.slot.Slot.{Slot}
use Rattle.omi_model.specs.declared.task.Task.{Task}
use Rattle.omi_model.specs.declared.view.TaskRow.{TaskRow}
use Rattle.omi_model.specs.declared.view.View.{View}
use Rattle.omi_model.proofs.NamesKept.{AreKept, IsMade, kept_same, kept_trans, made_later, made_live, tasks_kept}
use Rattle.omi_model.proofs.Slots.{false_true, id_same, some_same}
use Rattle.omi_model.proofs.Steps.{from_some, move_of, moved_on, of_current}
use Rattle.omi_model.proofs.freeing.WhatStays.{SparesTask, task_gone, task_stays}
use Rattle.omi_rep.specs.Look.{Look, and_then, id_address, mapped}
use Rattle.omi_rep.specs.Records.{record_at, records_of}
use Rattle.omi_rep.specs.Shows.{Shows, ShowsSlot}
use Rattle.omi_rep.specs.LookView.{look_view}
use Rattle.omi_rule_words.specs.Counts.{is_task}
use Rattle.omi_script.specs.declared.program.Program.{Program}
use Rattle.omi_walk.specs.Kept.{task_names}
use Rattle.omi_word.specs.Words.{Words}
use Rattle.omi_top.specs.Between.{AreStops, fates_after, gives_back, is_given_back}
use Rattle.omi_session.proofs.NamesReached.{reached_are_names}
use Rattle.omi_top.specs.Cores.{IsLooked, ShowsState, words_of_core}
use Rattle.omi_top.specs.Follow.{IsFollowed}
use Rattle.omi_commands.specs.Fates.{HasRecords, fate_line, is_current, look_fates}
use Rattle.omi_commands.proofs.Current.{by_life, found_at, life, told_current, told_stale}
use Rattle.omi_commands.proofs.FateLines.{fates_on}
use Rattle.omi_top.proofs.LeftByShow.{shown_looked}

-- ---- the events between

-- an event gives back the task that it names
same_task : (k : Tid) → is_task k k ≡ true
same_task k = grind (arith, nat_tests)

task_is : (k task : Tid) → is_task k task ≡ true → k ≡ task
task_is k task is =
    ap (λ (n : Id). record { 0 = n })
    (id_same k.0 task.0 (grind (arith, nat_tests, is)) (grind (arith, nat_tests, is)) (grind (arith, nat_tests, is)))

spares : (k : Tid) (x : ℕ × Event) → gives_back k x ≡ false → SparesTask x.1 k
spares k (i, e) not task is same =
    false_is_true
    (sym (subst (λ (t : Tid). is_task k t ≡ true) same (same_task k)) ∙ sym (ap (λ (f : Event). gives_back k (i, f)) is) ∙ not)
  where
    false_is_true : true ≡ false → ⊥
    false_is_true e = cc

given_is : (k : Tid) (x : ℕ × Event) → gives_back k x ≡ true → x.1 ≡ event.FreeTask k
given_is k (i, event.FreeTask task) is = ap event.FreeTask (sym (task_is k task is))
given_is k (i, e) is = absurd (false_true is)

-- what it gives back is gone
module _ (p : Program) (s : State) (i : ℕ) (task : Tid) (next : State)
    (step : Step p s i (event.FreeTask task) next) where
  gone_next : (v : Task) → task_of next task ≡ Some v → ⊥
  gone_next =
      let m = move_of p s i (event.FreeTask task) next step in
      let middle : State = moved_on s i (event.FreeTask task) m.item m.behind in
      from_some (λ (u : State). (v : Task) → task_of u task ≡ Some v → ⊥) (effect p middle i (event.FreeTask task) m.item) next
      m.effect_is
      (by_rule middle m.item m.rule_moved)
    where
      by_rule : (u : State) (y : Item) → Rule u i (event.FreeTask task) y
          → IfSome (effect p u i (event.FreeTask task) y) (λ (q : State). (v : Task) → task_of q task ≡ Some v → ⊥)
      by_rule u (item.Frees (freeable.Finished n)) rule =
          of_current u i (freed u task (above u task)) (λ (q : State). (v : Task) → task_of q task ≡ Some v → ⊥)
          (λ k t. MayFree u task n) rule (λ k t is may v. task_gone u task (above u task) k t v)
      by_rule u (item.Frees (freeable.Joined n number)) rule =
          of_current u i (freed u task (Some (freeable.Joined n (number + 1))))
          (λ (q : State). (v : Task) → task_of q task ≡ Some v → ⊥) (λ k t. MayFreeMember u task n number) rule
          (λ k t is may v. task_gone u task (Some (freeable.Joined n (number + 1))) k t v)
      by_rule u y rule = absurd rule

-- over events, names are kept
kept_over : (p : Program) (s : State) (xs : List (ℕ × Event)) (u : State) → Leads p s xs u → AreKept s.tasks u.tasks
kept_over p s [] u is = subst (λ (q : State). AreKept s.tasks q.tasks) (sym is) (kept_same s.tasks)
kept_over p s (x ∷ xs) u (next, step, leads) =
    kept_trans s.tasks next.tasks u.tasks (tasks_kept p s x.0 x.1 next step) (kept_over p next xs u leads)

neither : (a b : Bool) → a || b ≡ false → (a ≡ false) × (b ≡ false)
neither false false is = (refl, refl)
neither true b is = absurd (cc)
neither false true is = absurd (cc)

module _ (p : Program) (k : Tid) where
  -- a task that no event gives back stays
  stays_over : (s : State) (xs : List (ℕ × Event)) (u : State) → Leads p s xs u → is_given_back xs k ≡ false
      → (t : Task) → task_of s k ≡ Some t → (v : Task) × (task_of u k ≡ Some v)
  stays_over s [] u is not t live = (t, ap (λ (q : State). task_of q k) is ∙ live)
  stays_over s (x ∷ xs) u (next, step, leads) not t live =
      let (first, later) = neither (gives_back k x) (is_given_back xs k) not in
      let (v, there) = task_stays p s x.0 x.1 next step k t live (spares k x first) in
      stays_over next xs u leads later v there

  -- one that an event gives back is gone, and doesn't come back
  gone_over : (s : State) (xs : List (ℕ × Event)) (u : State) → Leads p s xs u → is_given_back xs k ≡ true
      → IsMade s.tasks k.0 → (v : Task) → task_of u k ≡ Some v → ⊥
  gone_over s [] u is given made = λ v live. cc
  gone_over s (x ∷ xs) u (next, step, leads) given made =
      go (gives_back k x) refl
      (λ behind. gone_over next xs u leads behind (made_later s.tasks next.tasks (tasks_kept p s x.0 x.1 next step) k.0 made))
    where
      later : IsMade next.tasks k.0
      later = made_later s.tasks next.tasks (tasks_kept p s x.0 x.1 next step) k.0 made

      go : (b : Bool) → gives_back k x ≡ b → (is_given_back xs k ≡ true → (v : Task) → task_of u k ≡ Some v → ⊥)
          → (v : Task) → task_of u k ≡ Some v → ⊥
      go true here behind = λ v live.
          let (w, there) = (kept_over p next xs u leads).back k.0 v later live in
          gone_next p s x.0 k next (subst (λ (e : Event). Step p s x.0 e next) (given_is k x here) step) w there
      go false here behind = behind (sym (ap (λ (b : Bool). b || is_given_back xs k) here) ∙ given)

-- ---- the words of the later stop

module _ (w : List ℕ) (words : Words) (u : State) (valid : IsValid w) (shows : Shows w words u)
    (records : HasRecords w words) (k : Tid) (slot : IsSlot w tasks k.0.creator k.0.slot) where
  -- the life word of its record
  abbrev word : (x : ℕ) × (record_at w words (id_address w tasks k.0) (number TaskLife) 0 ≡ Some x)
  word = life w words valid records k slot

  abbrev here : Slot Task
  here = u.tasks k.0.creator k.0.slot

  task_shown : ShowsSlot (records_of w words k.0.creator tasks k.0.slot) TaskLife here
  task_shown = shows.records.task_lives k.0.creator k.0.slot slot.made_by slot.within

  -- it is current where the task lives
  live_current : (v : Task) → task_of u k ≡ Some v → is_current w words k ≡ Ok true
  live_current v live =
      found_at w words valid records k slot (2 * k.0.generation + 1) (task_shown.live k.0.generation v live)
      ∙ ap (by_life w words valid records k slot) (let same : 2 * k.0.generation + 1 == 2 * k.0.generation + 1 ≡ true = grind (arith, nat_tests) in same)
      ∙ told_current w words valid records k slot

  -- it is stale where the task is gone
  differs : k.0.generation < here.generations → ((v : Task) → task_of u k ≡ Some v → ⊥)
      → (o : Option Task) → here.live ≡ o → word.0 ≢ 2 * k.0.generation + 1
  differs made gone None none same =
      let least = task_shown.free word.0 none word.1 in omega (arith, least, same, made)
  differs made gone (Some v) live same =
      let (g, named) = shows.within.tasks_named k.0.creator k.0.slot v live in
      let same_word : word.0 ≡ 2 * g + 1 = some_same word.1 (task_shown.live g v named) in
      let one : g ≡ k.0.generation = omega (arith, same_word, same) in
      gone v (ap (λ h. found h here) (sym one) ∙ named)

  gone_stale : k.0.generation < here.generations → ((v : Task) → task_of u k ≡ Some v → ⊥)
      → is_current w words k ≡ Ok false
  gone_stale made gone =
      found_at w words valid records k slot word.0 word.1 ∙ ap (by_life w words valid records k slot) (ne_eqb word.0 (2 * k.0.generation + 1) (differs made gone here.live refl))
      ∙ told_stale w words valid records k slot

-- ---- the lines on the tasks of a report

-- each of these tasks lives
abbrev AreLive : State → List Tid → Type 0
AreLive s [] = ⊤
AreLive s (k ∷ ks) = ((t : Task) × (task_of s k ≡ Some t)) × AreLive s ks

live_append : (s : State) (xs ys : List Tid) → AreLive s xs → AreLive s ys → AreLive s (xs ++ ys)
live_append s [] ys a b = b
live_append s (x ∷ xs) ys a b = (a.0, live_append s xs ys a.1 b)

-- so do the tasks of a chain, of chains, and of a report
names : List TaskRow → List Tid
names rows = map (λ (row : TaskRow). row.task) rows

chain_live : (s : State) (i : ℕ) (k : Option Tid) (rows : List TaskRow) → IsChain s i k rows → AreLive s (names rows)
unfolding names
chain_live s i None [] is = tt
chain_live s i None (row ∷ rows) is = absurd is
chain_live s i (Some k) [] is = absurd is
chain_live s i (Some k) (row ∷ rows) (t, live, same, rest) =
    ((t, ap (λ (r : TaskRow). task_of s r.task) same ∙ live), chain_live s i t.scheduling rows rest)

chains_live : (s : State) (threads : List ℕ) (rows : List TaskRow) → AreChains s threads rows → AreLive s (names rows)
unfolding names
chains_live s [] rows none = subst (λ (xs : List TaskRow). AreLive s (names xs)) (sym none) tt
chains_live s (i ∷ threads) rows (chain, rest, same, is, more) =
    subst (λ (xs : List TaskRow). AreLive s (names xs)) (sym same)
    (subst (AreLive s) (sym (map-append (λ (row : TaskRow). row.task) chain rest))
    (live_append s (names chain) (names rest) (chain_live s i (s.threads i).current chain is)
    (chains_live s threads rest more)))

view_live : (s : State) (contexts : List ℕ) (v : View) → IsViewOf s contexts v → AreLive s (task_names v)
unfolding names
view_live s contexts v is = chains_live s (filter_map (thread_with s) contexts) v.tasks is.tasks

module _ (core later : CoreImage) (stops : AreStops core later) where
  abbrev given : Tid → Bool
  given k = is_given_back stops.between k

  task_told : (k : Tid) (t : Task) → task_of stops.state k ≡ Some t
      → is_current stops.w (words_of_core later) k ≡ Ok (not (given k))
  task_told k t live = go (given k) refl
    where
      slot : IsSlot stops.w tasks k.0.creator k.0.slot
      slot =
          let at = stops.shows.within.tasks k.0.creator k.0.slot k.0.generation t live in
          record { made_by = at.maker; within = at.place }

      made : IsMade stops.state.tasks k.0
      made = made_live stops.state.tasks k.0 t live

      go : (b : Bool) → given k ≡ b → is_current stops.w (words_of_core later) k ≡ Ok (not b)
      go true is =
          gone_stale stops.w (words_of_core later) stops.next stops.valid stops.shows_next stops.records k slot
          (made_later stops.state.tasks stops.next.tasks (kept_over stops.program stops.state stops.between stops.next stops.leads) k.0 made)
          (gone_over stops.program k stops.state stops.between stops.next stops.leads is made)
      go false is =
          let (v, there) = stays_over stops.program k stops.state stops.between stops.next stops.leads is t live in
          live_current stops.w (words_of_core later) stops.next stops.valid stops.shows_next stops.records k slot v there

  lines_told : (ks : List Tid) → AreLive stops.state ks
      → look_fates stops.w (words_of_core later) ks ≡ Ok (fates_after stops.between ks)
  unfolding and_then
  lines_told [] all = refl
  lines_told (k ∷ ks) all =
      fates_on stops.w (words_of_core later) k ks
      ∙ ap (λ (l : Look Bool). and_then l (λ current. mapped (λ rest. fate_line k current ++ rest) (look_fates stops.w (words_of_core later) ks)))
      (task_told k all.0.0 all.0.1)
      ∙ ap (mapped (λ rest. fate_line k (not (given k)) ++ rest)) (lines_told ks all.1)

  -- so the two cores are followed
  pub followed_stops : (v : View) × IsViewOf stops.state core.contexts v
      × IsFollowed core later (Ok (fates_after stops.between (task_names v)))
  followed_stops =
      let (v, looked, view) = shown_looked core stops.state shows in (
        v,
        view,
        record {
          w = stops.w;
          valid = stops.valid;
          layout = stops.shows.layout;
          same = stops.shows_next.layout;
          view = v;
          looked = at_layout v looked;
          is = lines_told (task_names v) (view_live stops.state core.contexts v view);
        },
      )
    where
      shows : ShowsState core stops.state
      shows = record {
        w = stops.w;
        valid = stops.valid;
        names = reached_are_names stops.program stops.events stops.state stops.reached;
        shows = stops.shows;
      }

      at_layout : (v : View) (looked : IsLooked core (Ok v)) → look_view stops.w (words_of_core core) core.contexts ≡ Ok v
      at_layout v looked =
          ap (λ (w : List ℕ). look_view w (words_of_core core) core.contexts)
          (one_layout (words_of_core core) stops.w looked.w stops.shows.layout looked.layout)
          ∙ looked.is
