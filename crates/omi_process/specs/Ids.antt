-- The native ids that the core of a process lists: those of the note of ours, where there is one, and else one for each thread that the kernel
-- or a debugger wrote.
use Rattle.std.specs.Prelude.{ℕ, ◌+◌, ◌^◌, Bool, ◌&&◌, not, nat_lt, nat_le, List, [], ◌∷◌, filter, find, map, Option, Some, None, if◌then◌else◌}
use Rattle.std.specs.List.{flat_map}
use Rattle.std.specs.Int.{w32}
use Rattle.omi_elf.specs.Header.{field, order_of}
use Rattle.omi_elf.specs.Notes.{NotePlace, description_place, ids_found, is_status, n_descsz, note_found, notes}
use Rattle.omi_process.specs.declared.listed.Listed.{Listed}
use Rattle.omi_process.specs.declared.listed.Listed.TheVariants.{Contexts, Threads}
use Rattle.omi_process.specs.declared.limits.TheConstants.{PID_PLACE, PID_END}

-- A note of the name CORE and the type NT_PRSTATUS has the status of a thread. Its description is the `struct elf_prstatus` of a 64-bit system,
-- in which pr_pid, the thread's native id, is the int at place 32.
abbrev pub pr_pid : ℕ → List ℕ → ℕ → ℕ
pr_pid order bytes at = field w32 order bytes (description_place order bytes at + PID_PLACE)

-- the description has pr_pid, and that is above 0: its highest bit is the sign
abbrev pub tells_thread : ℕ → List ℕ → ℕ → Bool
tells_thread order bytes at = nat_le PID_END (n_descsz order bytes at)
    && nat_lt 0 (pr_pid order bytes at) && nat_lt (pr_pid order bytes at) (2 ^ 31)

-- the id that the note tells
abbrev pub thread_at : ℕ → List ℕ → ℕ → Option ℕ
thread_at order bytes at = if tells_thread order bytes at then Some (pr_pid order bytes at) else None

-- the place of a note that the file has whole
abbrev pub whole : NotePlace → List ℕ
whole None = []
whole (Some at) = at ∷ []

-- the notes of threads among some notes, in the file's order
abbrev pub statuses_in : ℕ → List ℕ → List NotePlace → List ℕ
statuses_in order bytes places = filter (is_status order bytes) (flat_map whole places)

abbrev pub statuses : List ℕ → List ℕ
statuses bytes = statuses_in (order_of bytes) bytes (notes bytes)

-- the first of them that tells no thread
abbrev pub first_untold : ℕ → List ℕ → List ℕ → Option ℕ
first_untold order bytes places = find (λ at. not (tells_thread order bytes at)) places

-- what is listed, by the note at which the search for ours ends
abbrev pub listed_by : List ℕ → Option NotePlace → Listed
listed_by bytes None = Threads (map (pr_pid (order_of bytes) bytes) (statuses bytes))
listed_by bytes (Some note) = Contexts (ids_found (order_of bytes) bytes (Some note))

abbrev pub listed : List ℕ → Listed
listed bytes = listed_by bytes (note_found bytes)
