-- What the inquiries for words of an object answer are plain looks at its record.
use Rattle.std.proofs.Common.{◌≡◌, ℕ, List, Option, ap, ◌∙◌}
use Rattle.std.specs.Prelude.{Result, Ok, Err}
use Rattle.std.specs.FinMap.{get}
use Rattle.omi_word.specs.Words.{Words}
use Rattle.omi_calls.specs.Told.{Told}
use Rattle.omi_handle.specs.declared.handle.Kind.{Kind}
use Rattle.omi_handle.specs.declared.handle.Kind.TheVariants.{Task}
use Rattle.omi_handle.specs.declared.handle.Held.{Held}
use Rattle.omi_asktask.specs.declared.words.Frames.{Frames}
use Rattle.omi_asktask.specs.Frame.{flag_of}
use Rattle.omi_asktask.specs.TaskWords.{frames}
use Rattle.omi_icv.specs.declared.scoped.Scoped.TheVariants as scoped
use Rattle.omi_icv.specs.declared.variable.Source.{Source}
use Rattle.omi_icv.specs.declared.variable.Variable.{Variable}
use Rattle.omi_icv.specs.Icvs.{icv_from_scope}
use Rattle.omi_icv.specs.Records.{Handles, record_of, record_of_handle}
use Rattle.omi_icv.specs.Scopes.{scope_of}
use Rattle.omi_icv.specs.Table.{variable_in}
use Rattle.omi_icv.specs.Values.{number_in}
use Rattle.omi_icv.specs.declared.scoped.Scoped.{Scoped}
use Rattle.omi_layout.specs.declared.field.Field.TheVariants.{TaskExit, TaskEnter}
use Rattle.omi_layout.specs.Field.{tasks}
use Rattle.omi_model.specs.declared.id.Id.{Id}
use Rattle.omi_rep.specs.Look.{Look, and_then, id_address}
use Rattle.omi_rep.specs.LookView.{read_task}
use Rattle.omi_session.specs.declared.rc.Rc.{Rc}
use Rattle.omi_session.specs.Inquiry.{object_of, word_of}
use Rattle.omi_session.specs.Opened.{Opened}
use Rattle.omi_session.specs.Reads.{Reads, Answer, answer_on, after, then_reads}
use Rattle.omi_session.specs.Tells.{Tells}
use Rattle.omi_session.proofs.Asked.{answer_then}
use Rattle.omi_session.proofs.ShownParts.{then_answered}
use Rattle.omi_walk.specs.Objects.{Stands}
use Rattle.omi_walk.specs.Parts.{look_frames}
use Rattle.omi_walk.proofs.Looked.{ValueIs, value_by, word_there, after_object}

-- the addresses of frames, without their flags
abbrev pub as_places : Result Frames Rc → Result (ℕ × ℕ) Rc
as_places (Ok frames) = Ok (frames.exit, frames.enter)
as_places (Err rc) = Err rc

-- a variable of the table is read where the record stands
pub variable_answers : (w : List ℕ) (memory : Words) (held : Handles) (of : Scoped)
    (icv address : ℕ) (v : Variable)
    → answer_on memory (record_of w held of) ≡ Ok address → variable_in (scope_of of) icv ≡ Ok v
    → answer_on memory (icv_from_scope w held of icv) ≡ answer_on memory (number_in w v.source address)
unfolding icv_from_scope
variable_answers w memory held of icv address v there is =
    let table : Reads Variable = Answer (variable_in (scope_of of) icv) in
    then_answered memory (record_of w held of)
    (λ address. then_reads table (λ variable. number_in w variable.source address)) address there
    ∙ then_answered memory table (λ variable. number_in w variable.source address) v is

-- and by this source
pub sourced_answers : (w : List ℕ) (memory : Words) (held : Handles) (of : Scoped)
    (icv address : ℕ) (v : Variable) (source : Source)
    → answer_on memory (record_of w held of) ≡ Ok address → variable_in (scope_of of) icv ≡ Ok v
    → v.source ≡ source
    → answer_on memory (icv_from_scope w held of icv) ≡ answer_on memory (number_in w source address)
sourced_answers w memory held of icv address v source there is from =
    variable_answers w memory held of icv address v there is
    ∙ ap (λ (source : Source). answer_on memory (number_in w source address)) from

-- the frames of a task whose handle leads to the record of this name
pub frames_there : (w : List ℕ) (memory : Words) (k : Option Held) (h : Held) (n : Id)
    → answer_on memory (object_of w Task k) ≡ Ok h → h.addr ≡ id_address w tasks n
    → ValueIs (as_places (answer_on memory (frames w k))) (look_frames w memory n)
unfolding frames and_then
frames_there w memory k h n answers at =
    let exit : Reads ℕ = word_of w h.addr TaskExit 0 in
    let read : answer_on memory (frames w k)
    ≡ answer_on memory (after (answer_on memory exit) (places h.addr)) =
    then_answered memory (object_of w Task k)
    (λ task. then_reads (word_of w task.addr TaskExit 0) (places task.addr)) h answers
    ∙ answer_then memory exit (places h.addr) in
    value_by (look_frames w memory n) (ap (λ (r : Result Frames Rc). as_places r) read)
    (first (answer_on memory exit) (read_task w memory n TaskExit) (word_there w memory TaskExit 0 at))
  where
    made : ℕ → ℕ → Frames
    made exit enter = record {
      exit = exit;
      exit_flag = flag_of exit;
      enter = enter;
      enter_flag = flag_of enter;
    }

    places : ℕ → ℕ → Reads Frames
    places address exit =
        then_reads (word_of w address TaskEnter 0) (λ enter. Answer (Ok (made exit enter)))

    -- the look at the enter frame, behind this exit frame
    look_enter : ℕ → Look (ℕ × ℕ)
    look_enter exit = and_then (read_task w memory n TaskEnter) (λ enter. Ok (exit, enter))

    second : (x y : ℕ) → x ≡ y → (a : Result ℕ Rc) (l : Look ℕ) → ValueIs a l
        → ValueIs (as_places (answer_on memory (after a (λ enter. Answer (Ok (made x enter))))))
        (and_then l (λ enter. Ok (y, enter)))
    second x y one (Ok e) (Ok f) same = λ i. (one i, same i)
    second x y one (Ok e) (Err fault) same = absurd same
    second x y one (Err rc) (Ok f) same = absurd same
    second x y one (Err rc) (Err fault) same = same

    first : (a : Result ℕ Rc) (l : Look ℕ) → ValueIs a l
        → ValueIs (as_places (answer_on memory (after a (places h.addr)))) (and_then l look_enter)
    first (Ok x) (Ok y) same =
        let enter : Reads ℕ = word_of w h.addr TaskEnter 0 in
        let read = answer_then memory enter (λ enter. Answer (Ok (made x enter))) in
        value_by (look_enter y) (ap (λ (r : Result Frames Rc). as_places r) read)
        (second x y same (answer_on memory enter) (read_task w memory n TaskEnter)
        (word_there w memory TaskEnter 0 at))
    first (Ok x) (Err fault) same = absurd same
    first (Err rc) (Ok y) same = absurd same
    first (Err rc) (Err fault) same = same

module _ {C F : Type 0} (told : C → Told) (s : Opened C F) (kind : Kind) (pair : ℕ × ℕ) (n : Id)
    (st : Stands told s kind pair n) (memory : Words) (t : Tells (told s.table.calls) memory) where
  pub record_answers : answer_on memory (record_of_handle s.layout kind (get s.handles.held pair))
      ≡ Ok st.object.addr
  unfolding record_of_handle
  record_answers = after_object told s kind pair n st memory t (λ h. Answer (Ok h.addr))
