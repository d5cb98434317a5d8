-- What the clauses of the top call say of `show`, from what it leaves.
use Rattle.std.proofs.Common.{◌≡◌, inl, inr, ℕ, List, Option, Some, None, Ok, Err, sym, ◌∙◌, ap, subst}
use Rattle.omi_outside.specs.Outside.{Told, put_on}
use Rattle.omi_outside.specs.declared.status.Status.{Status}
use Rattle.omi_outside.specs.declared.status.Status.TheVariants as status
use Rattle.omi_corefile.specs.declared.core_image.CoreImage.{CoreImage}
use Rattle.omi_text.specs.Report.{report}
use Rattle.omi_word.specs.Words.{Words}
use Rattle.omi_core.specs.Runs.{events_in}
use Rattle.omi_core.specs.Steps.{events_behind}
use Rattle.omi_session.proofs.NamesReached.{reached_are_names}
use Rattle.omi_rep.specs.Shows.{Shows}
use Rattle.omi_script.specs.declared.program.Program.{Program}
use Rattle.omi_model.specs.State.{State}
use Rattle.omi_model.specs.Views.{IsViewOf}
use Rattle.omi_model.specs.declared.view.View.{View}
use Rattle.omi_frame.specs.declared.refusal.Refusal.{Refusal}
use Rattle.omi_top.specs.declared.plan.Plan.{Plan}
use Rattle.omi_frame.specs.Verb.{Answer, Gives}
use Rattle.omi_frame.specs.Left.{IsLeft, IsRefused}
use Rattle.omi_frame.specs.Statuses.{ComesWhere, IsDoneOrFailed, IsFaultStatus}
use Rattle.omi_top.specs.Command.{Show}
use Rattle.omi_top.specs.Cores.{IsDamaged, IsIncompatible, IsLooked, ShowsState, Spells, words_of_core}
use Rattle.omi_frame.specs.Refusal.{status_of}
use Rattle.omi_commands.specs.Cores.{IsReachedCore, thread_ids}
use Rattle.omi_calls.proofs.ImageWords.{image_words}
use Rattle.omi_rep.proofs.shown.ShownViews.{shown_looked as shown_look}
use Rattle.omi_top.specs.Files.{HasFault}
use Rattle.omi_page.specs.CoreFiles.{IsFileOf}
use Rattle.omi_top.specs.CommandVerbs.{AreTold, IsAnswer, verb_of}
use Rattle.omi_top.specs.verbs.Show.{IsReportOf, IsShowAnswer, IsShowRefusal, IsReported, IsShown, ShowPromise}
use Rattle.omi_top.specs.verbs.Stop.{IsStopped}
use Rattle.omi_top.proofs.Files.{core_is_file}
use Rattle.omi_page.proofs.OpenedFiles.{file_unique}
use Rattle.omi_top.proofs.ShowVerdicts.{Refusing, all_refusing, damaged as damaged_refused, faulty, incompatible as incompatible_refused, missing, one_looked, one_view, report_not_refused, says_core, says_damaged, says_incompatible, says_missing}
use Rattle.omi_top.proofs.Recoded.{one_report, recoded_alike, report_alike}
use Rattle.omi_frame.proofs.Statuses.{DidMore, DoesMore, IsDoneStatus, one_content, comes_where, never_refused as nothing_refused, written_more}

-- the core's file has a report
abbrev pub HasReport : Option (List ℕ) → Type 0
HasReport None = ⊥
HasReport (Some bytes) = (text : List ℕ) × IsReportOf bytes text

pub not_refused : (content : Option (List ℕ)) (r : Refusal) → HasReport content → IsShowRefusal content r → ⊥
not_refused None r none refuses = none
not_refused (Some bytes) r (text, (v, spells, is)) refuses = report_not_refused bytes v r spells refuses

-- what an answer says of the core, where the core's content is told
module _ (core : List ℕ) (told : List ℕ → Told) (content : Option (List ℕ))
    (is : told core ≡ Some content) where
  show_answer : (a : Answer) → IsAnswer (Show core) told a → IsShowAnswer content a
  show_answer a (c, here, answer) =
      subst (λ (x : Option (List ℕ)). IsShowAnswer x a) (one_content (told core) c content here is) answer

  refusals : (written : Option (List ℕ)) (r : Refusal) → IsAnswer (Show core) told (Gives written (Err r))
      → IsShowRefusal content r
  refusals written r answer = go content written (show_answer (Gives written (Err r)) answer)
    where
      go : (c written : Option (List ℕ)) → IsShowAnswer c (Gives written (Err r)) → IsShowRefusal c r
      go None None said = said
      go (Some bytes) None said = said
      go None (Some core) said = absurd said
      go (Some bytes) (Some core) said = absurd said

  reports : (a : Answer) → DoesMore a → IsAnswer (Show core) told a → HasReport content
  reports a more answer = go content a more (show_answer a answer)
    where
      go : (c : Option (List ℕ)) (a : Answer) → DoesMore a → IsShowAnswer c a → HasReport c
      go c (Gives None (Err r)) more said = absurd more
      go None (Gives None (Ok text)) more said = said
      go None (Gives (Some core) (Ok text)) more said = said
      go None (Gives (Some core) (Err r)) more said = said
      go (Some bytes) (Gives None (Ok text)) more said = (text, said)
      go (Some bytes) (Gives (Some core) (Ok text)) more said = absurd said
      go (Some bytes) (Gives (Some core) (Err r)) more said = absurd said

  did : DidMore (verb_of (Show core)) told → HasReport content
  did (inl (a, more, answer)) = reports a more answer
  did (inr (bytes, (says, answer))) = reports (Gives (Some bytes) says) (written_more bytes says) answer

-- ---- a core whose words show a state

-- a look at it gives the state's view
pub shown_looked : (image : CoreImage) (s : State) → ShowsState image s
    → (v : View) × IsLooked image (Ok v) × IsViewOf s image.contexts v
shown_looked image s shows =
    let (v, looked, view) =
    shown_look shows.w (words_of_core image) s image.contexts shows.valid shows.names shows.shows in
    (v, record { w = shows.w; valid = shows.valid; layout = shows.shows.layout; is = looked }, view)

-- so what a look gives is the state's view
pub looked_shown : (image : CoreImage) (v : View) → IsLooked image (Ok v) → (s : State) → ShowsState image s
    → IsViewOf s image.contexts v
looked_shown image v looked s shows =
    let (u, also, view) = shown_looked image s shows in
    subst (λ (x : View). IsViewOf s image.contexts x)
    (one_view u v (one_looked image (Ok u) (Ok v) also looked)) view

-- words that show a state which events reach are those of its core
reached_shown : (p : Program) (ids bytes : List ℕ) (s : State) (r : IsReachedCore p ids bytes s)
    → ShowsState r.core_of.core s
reached_shown p ids bytes s r = record {
  w = r.w;
  valid = r.valid;
  names = reached_are_names p r.events s r.reached;
  shows = subst (λ (words : Words). Shows r.w words s) (sym (image_words ids r.words r.core_of.core r.core_of.image)) r.shows;
}

-- a run left such a core
abbrev stopped_reached : (p : Program) (plan : Plan) (bytes text : List ℕ) (run : IsStopped p plan bytes text)
    → IsReachedCore p (thread_ids p.threads) bytes run.state
stopped_reached p plan bytes text run = record {
  w = run.w;
  valid = run.valid;
  words = run.words;
  core_of = run.core_of;
  events = events_in (events_behind 0 run.entries);
  reached = run.run.reached;
  shows = run.run.shows;
}

pub run_shown : (p : Program) (plan : Plan) (bytes text : List ℕ) (run : IsStopped p plan bytes text)
    → ShowsState run.core_of.core run.state
run_shown p plan bytes text run =
    reached_shown p (thread_ids p.threads) bytes run.state (stopped_reached p plan bytes text run)

module _ (core : List ℕ) (told : List ℕ → Told) (old new : Told) (counted : Type 0)
    (out after : Option (List ℕ)) where
  -- a status comes exactly where a fact holds of the core's content
  comes : (content : Option (List ℕ)) → told core ≡ Some content → (refused s : Status) (fact : Type 0)
      → (IsFaultStatus refused → ⊥) → (IsDoneStatus refused → ⊥)
      → ((r : Refusal) → IsShowRefusal content r → status_of r ≡ refused → fact) → (fact → Refusing content refused)
      → IsLeft (verb_of (Show core)) told s old new counted out after → ComesWhere refused s fact
  comes content is refused s fact no_fault no_text says refusing =
      comes_where (verb_of (Show core)) told old new counted out after (IsShowRefusal content) (HasReport content)
      (refusals core told content is) (did core told content is)
      refused s fact no_fault no_text says (λ holds. all_refusing content refused (refusing holds))
      (λ holds reported. not_refused content (refusing holds).0 reported (refusing holds).1)

  -- there is no file exactly where the status says so
  pub no_file : (s : Status) (content : Option (List ℕ)) → told core ≡ Some content
      → IsLeft (verb_of (Show core)) told s old new counted out after → ComesWhere status.NoFile s (content ≡ None)
  no_file s content is =
      comes content is status.NoFile s (content ≡ None) (λ no. no) (λ no. no) (says_missing content)
      (λ none. subst (λ (c : Option (List ℕ)). Refusing c status.NoFile) (sym none) missing)

  -- the file has a fault of its format exactly where the status says so
  pub core_refused : (s : Status) (bytes : List ℕ) → told core ≡ Some (Some bytes)
      → IsLeft (verb_of (Show core)) told s old new counted out after → ComesWhere status.Core s (HasFault bytes)
  core_refused s bytes is =
      comes (Some bytes) is status.Core s (HasFault bytes) (λ no. no) (λ no. no) (says_core bytes)
      (faulty bytes)

  -- no layout table of this version is found exactly where the status says so
  pub incompatible : (s : Status) (bytes : List ℕ) → told core ≡ Some (Some bytes)
      → IsLeft (verb_of (Show core)) told s old new counted out after
      → ComesWhere status.Incompatible s (Spells bytes IsIncompatible)
  incompatible s bytes is =
      comes (Some bytes) is status.Incompatible s (Spells bytes IsIncompatible) (λ no. no) (λ no. no)
      (says_incompatible bytes) (incompatible_refused bytes)

  -- the layout table is wrong or the look has a fault exactly where the status says so
  pub damaged : (s : Status) (bytes : List ℕ) → told core ≡ Some (Some bytes)
      → IsLeft (verb_of (Show core)) told s old new counted out after
      → ComesWhere status.Damaged s (Spells bytes IsDamaged)
  damaged s bytes is =
      comes (Some bytes) is status.Damaged s (Spells bytes IsDamaged) (λ no. no) (λ no. no)
      (says_damaged bytes) (damaged_refused bytes)

  -- a core that has a report is refused nothing
  pub shows : (s : Status) (bytes text : List ℕ) → told core ≡ Some (Some bytes) → IsReportOf bytes text
      → IsLeft (verb_of (Show core)) told s old new counted out after → IsDoneOrFailed s
  shows s bytes text is report_is =
      nothing_refused (verb_of (Show core)) told old new counted out after
      (λ written r answer. not_refused (Some bytes) r (text, report_is) (refusals core told (Some bytes) is written r answer)) s

  -- what success puts
  abbrev Reported : List ℕ → Type 0
  Reported bytes =
      (image : CoreImage) × (v : View) × IsFileOf bytes image × IsLooked image (Ok v) × (after ≡ put_on out (report v))
      × ((s : State) → ShowsState image s → IsViewOf s image.contexts v)

  put_by : (bytes : List ℕ) → told core ≡ Some (Some bytes)
      → IsLeft (verb_of (Show core)) told status.Success old new counted out after → Reported bytes
  put_by bytes is (None, text, answer, held, put) =
      let (v, (image, spelled, looked), same) =
      show_answer core told (Some bytes) is (Gives None (Ok text)) answer in
      (image, v, spelled, looked, put ∙ ap (λ (t : List ℕ). put_on out t) same, looked_shown image v looked)
  put_by bytes is (Some written, text, answer, held, put) =
      absurd (show_answer core told (Some bytes) is (Gives (Some written) (Ok text)) answer)

  pub report_put : (s : Status) (bytes : List ℕ) → told core ≡ Some (Some bytes) → s ≡ status.Success
      → IsLeft (verb_of (Show core)) told s old new counted out after → Reported bytes
  report_put s bytes is done left =
      put_by bytes is (subst (λ (x : Status). IsLeft (verb_of (Show core)) told x old new counted out after) done left)

  -- what is put of a core whose words show a state
  module _ (bytes : List ℕ) (is : told core ≡ Some (Some bytes)) (image : CoreImage)
      (spelled : IsFileOf bytes image) (state : State) (shows : ShowsState image state) where
    never_refused : {C : Type 0} (s : Status) → IsRefused (verb_of (Show core)) told s old new counted out after → C
    never_refused s (r, same, written, answer, held, said) =
        let (v, looked, view) = shown_looked image state shows in
        absurd
        (report_not_refused bytes v r (image, spelled, looked) (refusals core told (Some bytes) is written r answer))

    pub shown : (s : Status) → IsLeft (verb_of (Show core)) told s old new counted out after
        → IsShown state image.contexts s out after
    shown status.Success left =
        let (other, v, also, looked, put, views) = put_by bytes is left in
        (v, looked_shown image v (subst (λ (c : CoreImage). IsLooked c (Ok v)) (file_unique bytes other image also spelled) looked) state shows, put)
    shown status.ReadFault left = tt
    shown status.WriteFault left = tt
    shown status.OutOfMemory left = tt
    shown status.Usage left = never_refused status.Usage left
    shown status.NoFile left = never_refused status.NoFile left
    shown status.Script left = never_refused status.Script left
    shown status.Core left = never_refused status.Core left
    shown status.Damaged left = never_refused status.Damaged left
    shown status.Incompatible left = never_refused status.Incompatible left

  -- what is put of a core that has a report
  module _ (bytes : List ℕ) (is : told core ≡ Some (Some bytes)) (text : List ℕ)
      (reported : IsReportOf bytes text) where
    no_refusal : {C : Type 0} (s : Status) → IsRefused (verb_of (Show core)) told s old new counted out after → C
    no_refusal s (r, same, written, answer, held, said) =
        absurd (not_refused (Some bytes) r (text, reported) (refusals core told (Some bytes) is written r answer))

    pub put_report : (s : Status) → IsLeft (verb_of (Show core)) told s old new counted out after
        → IsReported text s out after
    put_report status.Success (None, other, answer, held, put) =
        put
        ∙ ap (λ (t : List ℕ). put_on out t)
        (one_report bytes other text (show_answer core told (Some bytes) is (Gives None (Ok other)) answer) reported)
    put_report status.Success (Some written, other, answer, held, put) =
        absurd (show_answer core told (Some bytes) is (Gives (Some written) (Ok other)) answer)
    put_report status.ReadFault left = tt
    put_report status.WriteFault left = tt
    put_report status.OutOfMemory left = tt
    put_report status.Usage left = no_refusal status.Usage left
    put_report status.NoFile left = no_refusal status.NoFile left
    put_report status.Script left = no_refusal status.Script left
    put_report status.Core left = no_refusal status.Core left
    put_report status.Damaged left = no_refusal status.Damaged left
    put_report status.Incompatible left = no_refusal status.Incompatible left

  -- and of a core of words that show a state which events reach, as a run left it
  pub shown_reached : (s : Status) (bytes : List ℕ) → told core ≡ Some (Some bytes)
      → (p : Program) (ids : List ℕ) (state : State) (r : IsReachedCore p ids bytes state)
      → IsLeft (verb_of (Show core)) told s old new counted out after → IsShown state ids s out after
  shown_reached s bytes is p ids state r left =
      subst (λ (xs : List ℕ). IsShown state xs s out after) r.core_of.image.contexts_are
      (shown bytes is r.core_of.core (core_is_file bytes r.core_of.core r.core_of.spelled) state (reached_shown p ids bytes state r) s left)

  pub shown_again : (s : Status) (bytes : List ℕ) → told core ≡ Some (Some bytes)
      → (p : Program) (plan : Plan) (text : List ℕ) (run : IsStopped p plan bytes text)
      → IsLeft (verb_of (Show core)) told s old new counted out after → IsShown run.state (thread_ids p.threads) s out after
  shown_again s bytes is p plan text run =
      shown_reached s bytes is p (thread_ids p.threads) run.state (stopped_reached p plan bytes text run)

  -- what is left keeps the promise
  pub kept : (s : Status) → (AreTold (Show core) told → IsLeft (verb_of (Show core)) told s old new counted out after)
      → ShowPromise core s told out after
  kept s left = record {
    no_file = λ content is. no_file s content is (left (content, is));
    core_fault = λ bytes is. core_refused s bytes is (left (Some bytes, is));
    incompatible = λ bytes is. incompatible s bytes is (left (Some bytes, is));
    damaged = λ bytes is. damaged s bytes is (left (Some bytes, is));
    accepts = λ bytes text is report_is. shows s bytes text is report_is (left (Some bytes, is));
    success = λ bytes is done. report_put s bytes is done (left (Some bytes, is));
    shown = λ bytes is image spelled state shows. shown bytes is image spelled state shows s (left (Some bytes, is));
    shown_again = λ bytes is p plan text run. shown_again s bytes is p plan text run (left (Some bytes, is));
    shown_reached = λ bytes is p ids state reached. shown_reached s bytes is p ids state reached (left (Some bytes, is));
    alike = λ bytes is other text alike reported.
        put_report bytes is text (report_alike other bytes alike text reported) s (left (Some bytes, is));
    recoded = λ bytes is order other text recoded_from reported.
        put_report bytes is text (report_alike other bytes (recoded_alike order other bytes recoded_from) text reported) s (left (Some bytes, is));
  }
