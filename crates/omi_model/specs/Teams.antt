-- Threads, claims and teams: a worker begins and offers itself; a task that encounters a parallel construct asks for threads and forks a team; members begin and end, and member 0 joins them.
use Rattle.std.specs.Prelude.{◌≡◌, ◌≢◌, ◌==◌, ◌⊎◌, ◌<◌, ℕ, suc, ◌+◌, Bool, true, false, nat_le, nat_lt, List, [], ◌∷◌, ◌++◌, length, map, drop, get_or, slice_set, Option, Some, None, All, Contains, replicate, if◌then◌else◌}
use Rattle.std.specs.List.{filter_map}
use Rattle.omi_script.specs.declared.program.Program.{Program}
use Rattle.omi_model.specs.declared.claim.Claim.TheVariants as claim
use Rattle.omi_model.specs.declared.freeable.Freeable.TheVariants as freeable
use Rattle.omi_model.specs.declared.id.Rid.{Rid}
use Rattle.omi_model.specs.declared.id.Tid.{Tid}
use Rattle.omi_model.specs.declared.progress.Progress.TheVariants.{NotBegun, Begun, Finished}
use Rattle.omi_model.specs.Changes.{on_thread, on_task, on_region, with_current}
use Rattle.omi_model.specs.Fresh.{IsFresh, AreDistinct}
use Rattle.omi_numbers.specs.Addresses.{exit_frame, exit_below}
use Rattle.omi_model.specs.Freeing.{freeing}
use Rattle.omi_model.specs.Put.{Slots, made, on}
use Rattle.omi_model.specs.Rows.{member_items}
use Rattle.omi_model.specs.State.{State, task_of}
use Rattle.omi_model.specs.declared.thread.Thread.{Thread}
use Rattle.omi_model.specs.declared.region.Region.{Region}
use Rattle.omi_model.specs.declared.task.Task.{Task}
use Rattle.omi_model.specs.declared.task.Variables.{Variables}

-- ---- begin, offer

-- A worker begins once.
abbrev pub MayBegin : Thread → Type 0
MayBegin h = h.begun ≡ false

abbrev pub begun : State → ℕ → State
begun s i = on_thread s i (λ h. record h { begun = true })

-- A thread without a task that nobody may claim yet offers itself.
pub record MayOffer (h : Thread) : Type 0 where
  pub idle : h.current ≡ None
  pub held : h.claim ≢ claim.Free

abbrev pub offered : State → ℕ → State
offered s i = on_thread s i (λ h. record h { claim = claim.Free })

-- ---- want, ask

-- The size that is wanted: one thread where enough levels are active, else the clause num_threads, else the first element of nthreads-var (the algorithm of 2.6.1, as far as it is used here).
abbrev pub wanted_size : State → Task → Region → Option ℕ → ℕ
wanted_size s t r num =
    if nat_le s.max_active r.active then 1 else by_clause num
  where
    by_clause : Option ℕ → ℕ
    by_clause None = get_or t.variables.nthreads 0 0
    by_clause (Some n) = n

abbrev pub wanting : State → ℕ → ℕ → State
wanting s i n = on_thread s i (λ h. record h { wanted = n; asks = [] })

-- the threads that joined, in the order of asking
abbrev pub got_threads : List (ℕ × Bool) → List ℕ
got_threads asks = filter_map (λ a. if a.1 then Some a.0 else None) asks

-- a thread was asked
abbrev pub WasAsked : Thread → ℕ → Type 0
WasAsked h w = Contains (map (λ a. a.0) h.asks) w

-- Threads are asked in rising order, the asker left out, while the team is smaller than wanted. A thread joins exactly where it may be claimed.
pub record MayAsk (s : State) (i w : ℕ) (got : Bool) : Type 0 where
  pub known : w < s.count
  pub other : w ≢ i
  pub new : WasAsked (s.threads i) w → ⊥
  pub least : (v : ℕ) → v < w → v ≢ i → WasAsked (s.threads i) v
  pub smaller : suc (length (got_threads (s.threads i).asks)) < (s.threads i).wanted
  pub joins : got ≡ true → (s.threads w).claim ≡ claim.Free
  pub busy : got ≡ false → (s.threads w).claim ≢ claim.Free

abbrev pub asked : State → ℕ → ℕ → Bool → State
asked s i w got =
    let listed = on_thread s i (λ h. record h { asks = h.asks ++ (w, got) ∷ [] }) in
    if got then on_thread listed w (λ h. record h { claim = claim.By i }) else listed

-- ---- fork

-- The asks are over: the team has the wanted size, or every other thread was asked.
abbrev pub AreAsksOver : State → ℕ → Type 0
AreAsksOver s i = (suc (length (got_threads (s.threads i).asks)) ≡ (s.threads i).wanted)
    ⊎ ((w : ℕ) → w < s.count → w ≢ i → WasAsked (s.threads i) w)

-- A team has the asking thread and then those that joined. Region and tasks are new.
pub record MayFork (s : State) (i : ℕ) (region : Rid) (team : List (Tid × ℕ)) : Type 0 where
  pub over : AreAsksOver s i
  pub threads : map (λ m. m.1) team ≡ i ∷ got_threads (s.threads i).asks
  pub region_new : IsFresh s.regions i region.0
  pub tasks_new : All (λ m. IsFresh s.tasks i m.0.0) team
  pub distinct : AreDistinct (map (λ m. m.0) team)

-- nthreads-var of an implicit task: that of the encountering task without its first element, or the same where it has one
abbrev pub shortened : List ℕ → List ℕ
shortened [] = []
shortened (n ∷ []) = n ∷ []
shortened (n ∷ m ∷ ns) = m ∷ ns

abbrev pub inherited : Variables → Variables
inherited v = record v { nthreads = shortened v.nthreads }

-- the region of a team, encountered by task k, which is t, in region r
abbrev pub new_region : Tid → Task → Region → List (Tid × ℕ) → ℕ → Region
new_region k t r team f = record {
  enclosing = Some t.region;
  encountering = Some k;
  team = team;
  function = f;
  levels = r.levels + 1;
  active = r.active + (if nat_lt 1 (length team) then 1 else 0);
  arrivals = replicate (length team) 0;
  released = 0;
  ended = replicate (length team) false;
  joined = false;
}

-- The implicit task of a member. Member 0 has begun on the encountering thread, scheduled from the encountering task; the others have not begun.
abbrev pub member_task : Program → Rid → Tid → Task → Region → ℕ → ℕ → ℕ → Task
member_task p region k t r f number thread = record {
  implicit = true;
  region = region;
  thread = thread;
  number = number;
  generating = Some k;
  scheduling = if number == 0 then Some k else None;
  function = f;
  exit = if number == 0 then exit_below t.exit else exit_frame thread 1;
  enter = 0;
  variables = inherited t.variables;
  is_final = false;
  tool = 0;
  progress = if number == 0 then Begun else NotBegun;
  place = 0;
  group = None;
  open_groups = 0;
  frees = None;
  list = member_items p
      (record { debug = p.env.debug; number = number; level = r.levels + 1; is_final = false }) f;
}

-- the tasks of members, of which the first has this number
abbrev pub with_members : (ℕ → ℕ → Task) → ℕ → List (Tid × ℕ) → Slots Task → Slots Task
with_members task number [] tasks = tasks
with_members task number (m ∷ ms) tasks =
    with_members task (number + 1) ms (made tasks m.0.0 (task number m.1))

-- the first of a team
abbrev pub master_of : List (Tid × ℕ) → Option Tid
master_of [] = None
master_of (m ∷ ms) = Some m.0

-- the region and the tasks begin, and the encountering thread goes on with member 0
abbrev pub forked : Program → State → ℕ → Rid → List (Tid × ℕ) → ℕ → Tid → Task → Region → State
forked p s i region team f k t r =
    with_current
    (record s {
      regions = made s.regions region.0 (new_region k t r team f);
      tasks = with_members (member_task p region k t r f) 0 team s.tasks;
    })
    i (master_of team)

-- ---- implicit tasks begin and end

-- A thread without a task begins an implicit task that was made for it.
pub record MayBeginTask (s : State) (i : ℕ) (task : Tid) : Type 0 where
  pub idle : (s.threads i).current ≡ None
  pub member : Task
  pub live : task_of s task ≡ Some member
  pub waiting : member.progress ≡ NotBegun
  pub mine : member.thread ≡ i

abbrev pub task_begun : State → ℕ → Tid → State
task_begun s i task =
    with_current (on_task s task (λ t. record t { progress = Begun })) i (Some task)

-- A member other than member 0 ends its implicit task.
pub record MayEnd (task k : Tid) (t : Task) : Type 0 where
  pub current : task ≡ k
  pub implicit : t.implicit ≡ true
  pub other : t.number ≢ 0

abbrev pub task_ended : State → ℕ → Tid → Task → State
task_ended s i k t =
    with_current
    (on_region (on_task s k (λ u. record u { progress = Finished })) t.region
    (λ r. record r { ended = slice_set r.ended t.number true }))
    i None

-- Member 0 joins the others once each of them has ended.
pub record MayJoin (region : Rid) (t : Task) (r : Region) : Type 0 where
  pub mine : region ≡ t.region
  pub implicit : t.implicit ≡ true
  pub first : t.number ≡ 0
  pub ended : All (λ b. b ≡ true) (drop 1 r.ended)

-- the region is over, and its encountering task goes on: the region may be given back
abbrev pub joined : State → ℕ → Tid → Task → Region → State
joined s i k t r =
    with_current
    (record (on_region s t.region (λ n. record n { joined = true })) {
      tasks = freeing (Some (freeable.Joined t.region 0)) r.encountering
          (on s.tasks k.0 (λ u. record u { progress = Finished }));
    })
    i r.encountering
