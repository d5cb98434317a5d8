-- What is known of the asks of a team in the making, and where its thread goes on behind one: it asks another thread, or searches a record.
use Rattle.std.proofs.Common.{◌≡◌, ◌≢◌, ◌+◌, ◌==◌, ◌<◌, ◌≤◌, ◌&&◌, inl, inr, nat_lt, ℕ, zero, suc, Bool, true, false, List, [], ◌∷◌, ◌++◌, length, refl, sym, ap, ◌∙◌, subst, arith, eq-eqb, eqb-true, ltb-true, ne_eqb, if◌then◌else◌, slice_index}
use Rattle.omi_model.specs.declared.item.Item.{Item}
use Rattle.omi_model.specs.declared.task.Task.{Task}
use Rattle.omi_model.specs.declared.region.Region.{Region}
use Rattle.std.specs.Option.{option_map}
use Rattle.omi_model.specs.Put.{Slots, named, on}
use Rattle.omi_model.proofs.Slots.{on_same}
use Rattle.omi_model.proofs.Steps.{relisted}
use Rattle.omi_model.specs.declared.id.Tid.{Tid}
use Rattle.std.proofs.Common.{length-append}
use Rattle.std.specs.List.{Contains}
use Rattle.std.proofs.lemmas.Bool.Decides.{nat_tests}
use Rattle.std.proofs.lemmas.List.{append-nil, length-map}
use Rattle.std.proofs.lemmas.List.Elements.{Contains-append_left, Contains-append_right}
use Rattle.omi_script.specs.declared.program.Program.{Program}
use Rattle.omi_model.specs.declared.event.Event.{Event}
use Rattle.omi_model.specs.LawClaims.{others_below}
use Rattle.omi_model.specs.State.{State}
use Rattle.omi_model.specs.Teams.{AreAsksOver, got_threads}
use Rattle.omi_layout.proofs.Arenas.{some_regions, test_left, test_right}
use Rattle.omi_layout.specs.Memory.{Memory}
use Rattle.omi_pc.specs.declared.actor.Actor.{Actor}
use Rattle.omi_pc.specs.declared.gathered.Gathered.{Gathered}
use Rattle.omi_pc.specs.declared.limits.TheConstants.{VARIABLE_WORDS}
use Rattle.omi_pc.specs.declared.team_counter.TeamCounter.{TeamCounter}
use Rattle.omi_pc.specs.declared.team_counter.TeamCounter.TheVariants as team
use Rattle.omi_pc.specs.Fits.{IsAtParallel}
use Rattle.omi_fork.specs.TeamSteps.{but_own}
use Rattle.omi_rule.specs.Rows.{HasAsked, IsVariable, Knows}
use Rattle.omi_rule.proofs.Assembly.{Before}
use Rattle.omi_rule.proofs.team.Events.{IsReady}
use Rattle.omi_rule.proofs.team.Members.{others_known}
use Rattle.omi_rule.proofs.team.Within.{going}

-- ---- the threads below a bound, without one

pub others_within : (i n v : ℕ) → Contains (others_below i n) v → v < n
others_within i n v (k, within, e) = subst (λ x. x < n) e (others_known i n n (omega arith) k v within)

pub others_there : (i n v : ℕ) → v < n → v ≢ i → Contains (others_below i n) v
others_there i zero v below other = absurd (omega (arith, below))
others_there i (suc n) v below other = go (λ less. others_there i n v less other) (v == n) refl
  where
    go : (v < n → Contains (others_below i n) v) → (b : Bool) → v == n ≡ b
        → Contains (others_below i n ++ (if n == i then [] else n ∷ [])) v
    go before true e =
        let same : v ≡ n = eqb-true v n e in
        Contains-append_right (others_below i n) (if n == i then [] else n ∷ []) v
        (subst (λ (b : Bool). Contains (if b then [] else n ∷ []) v) (sym (ne_eqb n i (λ own. other (same ∙ own)))) (0, omega arith, sym same))
    go before false e =
        let apart : v ≢ n = (λ same. cc (sym (eq-eqb v n same), e)) in
        Contains-append_left (others_below i n) (if n == i then [] else n ∷ []) v
        (before (omega (arith, below, apart)))

pub others_next : (i n : ℕ) → n ≢ i → others_below i n ++ n ∷ [] ≡ others_below i (suc n)
others_next i n other =
    ap (λ (b : Bool). others_below i n ++ (if b then [] else n ∷ [])) (sym (ne_eqb n i other))

pub others_skip : (i n : ℕ) → others_below i (but_own i n) ≡ others_below i n
others_skip i n = go (n == i) refl
  where
    more : n + 1 ≡ suc n
    more = omega arith

    go : (b : Bool) → n == i ≡ b → others_below i (if b then n + 1 else n) ≡ others_below i n
    go true e =
        ap (others_below i) more
        ∙ ap (λ (b : Bool). others_below i n ++ (if b then [] else n ∷ [])) e
        ∙ append-nil (others_below i n)
    go false e = refl

pub skip_other : (i n : ℕ) → but_own i n ≢ i
skip_other i n = go (n == i) refl
  where
    go : (b : Bool) → n == i ≡ b → (if b then n + 1 else n) ≢ i
    go true e = let same : n ≡ i = eqb-true n i e in λ own. absurd (omega (arith, same, own))
    go false e = λ own. cc (sym (eq-eqb n i own), e)

pub skip_known : (i n count : ℕ) → i < count → n ≤ count → but_own i n ≤ count
skip_known i n count own few = go (n == i) refl
  where
    go : (b : Bool) → n == i ≡ b → (if b then n + 1 else n) ≤ count
    go true e = let same : n ≡ i = eqb-true n i e in omega (arith, same, own)
    go false e = few

others_few : (i n : ℕ) → length (others_below i n) ≤ n
others_few i zero = omega arith
others_few i (suc n) = go (others_few i n) (n == i)
  where
    go : length (others_below i n) ≤ n → (b : Bool)
        → length (others_below i n ++ (if b then [] else n ∷ [])) ≤ suc n
    go before true =
        let long : length (others_below i n ++ []) ≡ length (others_below i n) + 0 = length-append (others_below i n) [] in omega (arith, before, long)
    go before false =
        let long : length (others_below i n ++ n ∷ []) ≡ length (others_below i n) + 1 = length-append (others_below i n) (n ∷ []) in omega (arith, before, long)

others_fewer : (i n : ℕ) → i < n → length (others_below i n) + 1 ≤ n
others_fewer i zero within = absurd (omega (arith, within))
others_fewer i (suc n) within = go (λ less. others_fewer i n less) (n == i) refl
  where
    go : (i < n → length (others_below i n) + 1 ≤ n) → (b : Bool) → n == i ≡ b
        → length (others_below i n ++ (if b then [] else n ∷ [])) + 1 ≤ suc n
    go rest true e =
        let before = others_few i n in let long : length (others_below i n ++ []) ≡ length (others_below i n) + 0 = length-append (others_below i n) [] in omega (arith, before, long)
    go rest false e =
        let apart : i ≢ n = (λ same. cc (sym (eq-eqb n i (sym same)), e)) in
        let before = rest (omega (arith, within, apart)) in
        let long : length (others_below i n ++ n ∷ []) ≡ length (others_below i n) + 1 =
        length-append (others_below i n) (n ∷ []) in
        omega (arith, before, long)

-- with the one they are no more than there are
others_and_own : (i n count : ℕ) → i < count → n ≤ count → length (others_below i n) + 1 ≤ count
others_and_own i n count own few = go (nat_lt i n) refl
  where
    go : (b : Bool) → nat_lt i n ≡ b → length (others_below i n) + 1 ≤ count
    go true e = let less = others_fewer i n (ltb-true i n e) in omega (arith, less, few)
    go false e =
        let less = others_few i n in let past : n ≤ i = grind (arith, nat_tests) in omega (arith, less, past, own)

-- and fewer where another thread than the one is next
others_short : (i n count : ℕ) → i < count → n < count → n ≢ i → length (others_below i n) + 1 < count
others_short i n count own within apart = go (nat_lt i n) refl
  where
    go : (b : Bool) → nat_lt i n ≡ b → length (others_below i n) + 1 < count
    go true e = let less = others_fewer i n (ltb-true i n e) in omega (arith, less, within)
    go false e =
        let less = others_few i n in
        let past : n ≤ i = grind (arith, nat_tests) in omega (arith, less, past, own, apart)

got_short : (asks : List (ℕ × Bool)) → length (got_threads asks) ≤ length asks
got_short [] = omega arith
got_short ((v, true) ∷ asks) = let rest = got_short asks in omega (arith, rest)
got_short ((v, false) ∷ asks) = let rest = got_short asks in omega (arith, rest)

-- ---- what is asked

-- the row says the same at another counter
pub asked_goes : (u : State) (i : ℕ) (a : Actor) (c d : TeamCounter) (g : Gathered)
    → HasAsked u i (going c g a) → HasAsked u i (going d g a)
asked_goes u i a c d g o = record { knows = record { region = o.knows.region; task = o.knows.task }; wanted = o.wanted; joined = o.joined; asked = o.asked; few = o.few }

-- the levels and the data environment are known after an event that moves the list of the task on
pub knows_then : (s u : State) (a : Actor) (d : TeamCounter) (g : Gathered) (zs : List Item)
    → g.variables ≡ a.gathered.variables → g.levels ≡ a.gathered.levels → g.active ≡ a.gathered.active
    → u.tasks ≡ on s.tasks a.context.task.0 (relisted zs) → u.regions ≡ s.regions
    → Knows s a → Knows u (going d g a)
knows_then s u a d g zs variables levels active tasks regions k =
    let (r, found, its_levels, its_active) = k.region in
    let (t, live, are) = k.task in
    record {
      region = (r, ap (λ (x : Slots Region). named x a.context.region.0) regions ∙ found, its_levels ∙ sym levels, its_active ∙ sym active);
      task = (
        relisted zs t,
        ap (λ (x : Slots Task). named x a.context.task.0) tasks ∙ on_same s.tasks a.context.task.0 (relisted zs) ∙ ap (option_map (relisted zs)) live,
        λ j within. subst (λ (xs : List ℕ). IsVariable t.variables j (slice_index xs j)) (sym variables) (are j within),
      );
    }

module _ (u : State) (i : ℕ) (a : Actor) (o : HasAsked u i a) where
  pub team_size_is : length a.gathered.team ≡ suc (length (got_threads (u.threads i).asks))
  team_size_is = sym (length-map a.gathered.team (λ (x : Tid × ℕ). x.1)) ∙ ap length o.joined

  -- it has this thread, and others of those that were asked
  team_of_asked : length a.gathered.team ≤ length (others_below i a.gathered.asked) + 1
  team_of_asked =
      let asks : length (u.threads i).asks ≡ length (others_below i a.gathered.asked) =
      sym (length-map (u.threads i).asks (λ (x : ℕ × Bool). x.0)) ∙ ap length o.asked in
      let got = got_short (u.threads i).asks in
      let size = team_size_is in
      omega (arith, asks, got, size)

  pub team_few : i < u.count → length a.gathered.team ≤ u.count
  team_few known =
      let team = team_of_asked in
      let most = others_and_own i a.gathered.asked u.count known o.few in
      omega (arith, team, most)

  -- where another one is asked next, a thread is not in it
  pub team_short : i < u.count → a.gathered.asked < u.count → a.gathered.asked ≢ i
      → length a.gathered.team < u.count
  team_short known within apart =
      let team = team_of_asked in
      let most = others_short i a.gathered.asked u.count known within apart in
      omega (arith, team, most)

  -- no more threads are asked
  pub asks_over : length a.gathered.team ≤ a.gathered.wanted
      → (nat_lt (length a.gathered.team) a.gathered.wanted && nat_lt a.gathered.asked u.count) ≡ false
      → AreAsksOver u i
  asks_over few = go (nat_lt (length a.gathered.team) a.gathered.wanted) refl
    where
      go : (b : Bool) → nat_lt (length a.gathered.team) a.gathered.wanted ≡ b
          → (b && nat_lt a.gathered.asked u.count) ≡ false → AreAsksOver u i
      go false e none =
          let whole : length a.gathered.team ≡ a.gathered.wanted = grind (arith, nat_tests, few) in
          inl (sym team_size_is ∙ whole ∙ o.wanted)
      go true e none =
          let all : a.gathered.asked ≡ u.count = (let most = o.few in grind (arith, nat_tests, most)) in
          inr
          (λ v known other. subst (λ xs. Contains xs v) (sym o.asked) (others_there i a.gathered.asked v (omega (arith, known, all)) other))

module _ (p : Program) (w : List ℕ) (m : Memory) (events : List (ℕ × Event)) (s : State) (actors : ℕ → Actor)
    (i : ℕ) (before : Before p w m events s actors i) where
  pub ready_behind : (n : Memory) (u : State) (g : Gathered) → u.count ≡ s.count
      → HasAsked u i (going team.Ask g (actors i)) → length g.variables ≡ VARIABLE_WORDS
      → length g.team ≤ g.wanted → g.asked ≢ i → IsAtParallel p (actors i)
      → (b : Bool) → (nat_lt (length g.team) g.wanted && nat_lt g.asked p.threads) ≡ b → IsReady p w n u i (actors i) (if b then team.Ask else team.LoadRegionLife 0) g
  ready_behind n u g count o variables few other parallel = go
    where
      threads : p.threads ≡ u.count
      threads = before.suits.threads ∙ sym before.rule.within.count ∙ sym count

      known : i < u.count
      known = let own = before.known in omega (arith, own, count)

      some : 1 ≤ length g.team
      some = let size = team_size_is u i (going team.Ask g (actors i)) o in omega (arith, size)

      most : length g.team ≤ p.threads
      most = let size = team_few u i (going team.Ask g (actors i)) o known in omega (arith, size, threads)

      go : (b : Bool) → (nat_lt (length g.team) g.wanted && nat_lt g.asked p.threads) ≡ b
          → IsReady p w n u i (actors i) (if b then team.Ask else team.LoadRegionLife 0) g
      go true e =
          let within : g.asked < p.threads = ltb-true g.asked p.threads (test_right (nat_lt (length g.team) g.wanted) (nat_lt g.asked p.threads) e) in
          record {
            variables = variables;
            fits = (
              (parallel, some, most),
              ltb-true (length g.team) g.wanted (test_left (nat_lt (length g.team) g.wanted) (nat_lt g.asked p.threads) e),
              within,
              subst (λ j. g.asked ≢ j) (sym (before.rule.threads i before.known).thread) other,
              subst (λ k. length g.team < k) (sym threads)
                  (team_short u i (going team.Ask g (actors i)) o known (subst (λ k. g.asked < k) threads within) other),
            );
            placed = tt;
            row = o;
          }
      go false e = record {
        variables = variables;
        fits = (parallel, some, most);
        placed = some_regions w before.valid;
        row = record {
          asks = asked_goes u i (actors i) team.Ask (team.LoadRegionLife 0) g o;
          over = asks_over u i (going team.Ask g (actors i)) o few (ap (λ k. nat_lt (length g.team) g.wanted && nat_lt g.asked k) (sym threads) ∙ e);
        };
      }
