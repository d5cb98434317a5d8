-- The contents of the report of a state, for contexts in their order, apart from any memory. A state has at most one, as a law says. A function stands in it as its entry address, and a schedule as its chunk times 8 plus its kind.
use Rattle.std.specs.Prelude.{◌≡◌, ◌<◌, ◌⊎◌, ◌&&◌, ℕ, ◌-◌, nat_le, nat_lt, List, [], ◌∷◌, ◌++◌, length, map, Option, Some, None, Contains, ⊤, if◌then◌else◌}
use Rattle.std.specs.Option.{option_map}
use Rattle.std.specs.List.{filter_map}
use Rattle.omi_script.specs.Schedules.{schedule_word}
use Rattle.omi_numbers.specs.declared.words.TheConstants.{OPENMP_VERSION, FIRST_NATIVE}
use Rattle.omi_numbers.specs.Addresses.{entry_address}
use Rattle.omi_model.specs.declared.id.Id.{Id}
use Rattle.omi_model.specs.declared.id.Rid.{Rid}
use Rattle.omi_model.specs.declared.id.Tid.{Tid}
use Rattle.omi_model.specs.declared.view.View.{View}
use Rattle.omi_model.specs.declared.view.HeadRow.{HeadRow}
use Rattle.omi_model.specs.declared.view.ThreadRow.{ThreadRow}
use Rattle.omi_model.specs.declared.view.ThreadPart.{ThreadPart}
use Rattle.omi_model.specs.declared.view.RegionRow.{RegionRow}
use Rattle.omi_model.specs.declared.view.TaskRow.{TaskRow}
use Rattle.omi_numbers.specs.Words.{flag}
use Rattle.omi_model.specs.State.{State, region_of, task_of, current_task, enclosing_of}
use Rattle.omi_model.specs.declared.region.Region.{Region}
use Rattle.omi_model.specs.declared.task.Task.{Task}
use Rattle.omi_model.specs.WellFormed.{along}

-- the header. The version is that of OpenMP 5.0.
abbrev pub head_row : State → HeadRow
head_row s =
    record {
      version = OPENMP_VERSION;
      threads = s.count;
      debug = flag s.environment.debug;
      procs = s.environment.procs;
      max_active = s.max_active;
    }

-- a thread that has begun, with its state where states are kept
abbrev pub thread_part : State → ℕ → ThreadPart
thread_part s i = record {
  thread = i;
  state = if s.environment.debug then Some ((s.threads i).state, (s.threads i).wait) else None;
  number = option_map (λ t. t.number) (current_task s i);
  current = (s.threads i).current;
}

-- the thread with a native id, where it has begun
abbrev pub thread_with : State → ℕ → Option ℕ
thread_with s native = if nat_le FIRST_NATIVE native && nat_lt (native - FIRST_NATIVE) s.count
    && (s.threads (native - FIRST_NATIVE)).begun then Some (native - FIRST_NATIVE) else None

abbrev pub thread_row : State → ℕ → ThreadRow
thread_row s native =
    record { native = native; found = option_map (thread_part s) (thread_with s native) }

-- a region and its members
abbrev pub region_row : Rid → Region → RegionRow
region_row n r = record {
  region = n;
  func = entry_address r.function;
  levels = r.levels;
  active = r.active;
  size = length r.team;
  enclosing = r.enclosing;
  members = map (λ m. record { thread = m.1; task = m.0 }) r.team;
}

-- a task on the chain of a thread
abbrev pub task_row : ℕ → Tid → Task → TaskRow
task_row i k t = record {
  task = k;
  thread = i;
  implicit = flag t.implicit;
  region = t.region;
  func = entry_address t.function;
  generating = t.generating;
  scheduling = t.scheduling;
  exit = t.exit;
  enter = t.enter;
  tool = t.tool;
  dyn_var = flag t.variables.dynamic;
  nthreads = t.variables.nthreads;
  sched = schedule_word t.variables.schedule;
  device = t.variables.device;
  final_task = flag t.is_final;
}

-- the order of names: creator, then slot, then generation
abbrev pub ComesBefore : Id → Id → Type 0
ComesBefore a b = (a.creator < b.creator)
    ⊎ ((a.creator ≡ b.creator)
    × ((a.slot < b.slot) ⊎ ((a.slot ≡ b.slot) × (a.generation < b.generation))))

-- the rows come in the order of names, none twice
abbrev pub AreInOrder : List RegionRow → Type 0
AreInOrder [] = ⊤
AreInOrder (x ∷ []) = ⊤
AreInOrder (x ∷ y ∷ rows) = ComesBefore x.region.0 y.region.0 × AreInOrder (y ∷ rows)

-- a region is that of the current task of one of these threads, or encloses it
abbrev pub IsReported : State → List ℕ → Rid → Type 0
IsReported s threads n = (i : ℕ) × (steps : ℕ) × Contains threads i
    × (along (enclosing_of s) steps (option_map (λ t. t.region) (current_task s i)) ≡ Some n)

-- the region rows of these threads: exactly the reported regions, in order
pub record AreRegions (s : State) (threads : List ℕ) (rows : List RegionRow) : Type 0 where
  pub in_order : AreInOrder rows
  pub each : (row : RegionRow) → Contains rows row
      → IsReported s threads row.region × (r : Region) × (region_of s row.region ≡ Some r)
      × (row ≡ region_row row.region r)
  pub all : (n : Rid) → IsReported s threads n → Contains (map (λ row. row.region) rows) n

-- the chain of a thread, from a task on by scheduling task
abbrev pub IsChain : State → ℕ → Option Tid → List TaskRow → Type 0
IsChain s i None [] = ⊤
IsChain s i None (row ∷ rows) = ⊥
IsChain s i (Some k) [] = ⊥
IsChain s i (Some k) (row ∷ rows) = (t : Task) × (task_of s k ≡ Some t) × (row ≡ task_row i k t)
    × IsChain s i t.scheduling rows

-- the chains of these threads, one after the other
abbrev pub AreChains : State → List ℕ → List TaskRow → Type 0
AreChains s [] rows = rows ≡ []
AreChains s (i ∷ threads) rows = (chain : List TaskRow) × (rest : List TaskRow)
    × (rows ≡ chain ++ rest) × IsChain s i (s.threads i).current chain × AreChains s threads rest

-- the view is that of the state, for these contexts
pub record IsViewOf (s : State) (contexts : List ℕ) (v : View) : Type 0 where
  pub head : v.head ≡ head_row s
  pub threads : v.threads ≡ map (thread_row s) contexts
  pub regions : AreRegions s (filter_map (thread_with s) contexts) v.regions
  pub tasks : AreChains s (filter_map (thread_with s) contexts) v.tasks
