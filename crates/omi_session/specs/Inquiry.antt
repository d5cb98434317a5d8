-- The parts of which inquiries are made: the word of a field, a handle whose object lives, and the live object to which a word points.
use Rattle.std.specs.Prelude.{◌==◌, ◌&&◌, ℕ, ◌+◌, ◌*◌, Bool, nat_lt, nat_le, List, Option, Some, None, Result, Ok, Err, is_some, if◌then◌else◌}
use Rattle.std.specs.Option.{option_and_then, ok_or}
use Rattle.omi_handle.specs.declared.handle.Kind.{Kind}
use Rattle.omi_handle.specs.declared.handle.Kind.TheVariants.{Thread, Region, Task}
use Rattle.omi_handle.specs.declared.handle.Held.{Held}
use Rattle.omi_layout.specs.declared.field.Field.{Field}
use Rattle.omi_layout.specs.declared.field.Field.TheVariants.{ThreadCurrent, RegionSize, RegionTeam}
use Rattle.omi_layout.specs.Named.{number}
use Rattle.omi_layout.specs.Table.{offset, thread_count}
use Rattle.omi_rep.specs.Look.{life_of, slot_at, is_live}
use Rattle.omi_session.specs.declared.rc.Rc.{Rc}
use Rattle.omi_session.specs.declared.rc.Rc.TheVariants.{Unavailable, StaleHandle, BadInput, Error}
use Rattle.omi_session.specs.Named.{record_kind}
use Rattle.omi_session.specs.Reads.{Reads, Answer, Read, then_reads}

-- two kinds of objects are the same
abbrev pub is_kind : Kind → Kind → Bool
is_kind kind other = record_kind kind == record_kind other

-- the handle that stands under a pair, where it is one of this kind
abbrev pub of_kind : Kind → Held → Result Held Rc
of_kind kind h = if is_kind h.kind kind then Ok h else Err BadInput

abbrev pub live_handle : Kind → Option Held → Result Held Rc
live_handle kind None = Err BadInput
live_handle kind (Some h) = of_kind kind h

-- the life word of a record makes an object of this kind
abbrev pub object : Kind → ℕ → ℕ → Option Held
object kind address life =
    if is_live (record_kind kind) life
    then Some (record { kind = kind; addr = address; life = life }) else None

module _ (w : List ℕ) where
  -- the object of a kind whose record begins at an address and has this life word
  abbrev pub object_at : Kind → ℕ → ℕ → Option Held
  object_at kind address life =
      if is_some (slot_at w (record_kind kind) address) then object kind address life else None

  -- where a word of the record at an address stands
  abbrev pub place_of : ℕ → Field → ℕ → ℕ
  place_of address f at = address + 8 * (offset w (number f) + at)

  -- a word of the record at an address
  unfoldable pub word_of : ℕ → Field → ℕ → Reads ℕ
  word_of address f at =
      Read (place_of address f at) (λ word. Answer (ok_or word (Error address (number f))))

  -- the life word of a handle's record, which has to be the one that the handle keeps
  unfoldable pub unchanged : Held → Reads Held
  unchanged h =
      then_reads (word_of h.addr (life_of (record_kind h.kind)) 0)
      (λ life. Answer (if life == h.life then Ok h else Err StaleHandle))

  -- the object of a handle: the handle is one of this kind, and its object still lives
  unfoldable pub object_of : Kind → Option Held → Reads Held
  object_of kind found = then_reads (Answer (live_handle kind found)) unchanged

  -- the live object of a kind to which an address that a field holds leads. Its life word is read right after the address
  unfoldable pub lead : Kind → Field → ℕ → Reads Held
  lead kind f pointer =
      if is_some (slot_at w (record_kind kind) pointer)
      then Read (place_of pointer (life_of (record_kind kind)) 0)
      (λ life. Answer
      (ok_or (option_and_then (object kind pointer) life) (Error pointer (number f))))
      else Answer (Err (Error pointer (number f)))

  -- the live object to which a word points
  unfoldable pub follow : Kind → ℕ → Field → ℕ → Reads Held
  follow kind address f at = then_reads (word_of address f at) (lead kind f)

  -- the same of a word that may be 0, where there is none
  unfoldable pub follow_some : Kind → ℕ → Field → Reads Held
  follow_some kind address f =
      then_reads (word_of address f 0)
      (λ pointer. if pointer == 0 then Answer (Err Unavailable) else lead kind f pointer)

  -- the live object of a kind to which a field of a handle's object points, which may be 0
  abbrev pub related : Kind → Option Held → Kind → Field → Reads Held
  related kind found other f =
      then_reads (object_of kind found) (λ from. follow_some other from.addr f)

  -- the current task of a thread
  unfoldable pub current_task : Option Held → Reads Held
  current_task t = related Thread t Task ThreadCurrent

  -- the number of members of the region at an address, which is from 1 to the number of threads
  unfoldable pub team_size : ℕ → Reads ℕ
  team_size address =
      then_reads (word_of address RegionSize 0)
      (λ size. Answer (if nat_le 1 size && nat_le size (thread_count w)
      then Ok size else Err (Error address (number RegionSize))))

  -- the implicit task of a member of a region
  unfoldable pub member : Option Held → ℕ → Reads Held
  member r num =
      then_reads (object_of Region r) (λ region.
      then_reads (team_size region.addr) (λ size.
      if nat_lt num size then follow Task region.addr RegionTeam num else Answer (Err BadInput)))
