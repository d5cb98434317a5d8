-- What the clauses of the top call say of `audit`, from what it leaves.
use Rattle.std.proofs.Common.{◌≡◌, inl, inr, ℕ, List, Option, Some, None, Ok, Err, sym, ◌∙◌, ap, subst}
use Rattle.omi_audit.specs.declared.verdict.Verdict.{Verdict}
use Rattle.omi_audit.specs.declared.verdict.Verdict.TheVariants.{Yes, No}
use Rattle.omi_audit.proofs.Verdicts.{reached_yes, yes_shows}
use Rattle.omi_outside.specs.Outside.{Told, put_on}
use Rattle.omi_outside.specs.declared.status.Status.{Status}
use Rattle.omi_outside.specs.declared.status.Status.TheVariants as status
use Rattle.omi_corefile.specs.declared.core_image.CoreImage.{CoreImage}
use Rattle.omi_layout.proofs.OneAnswer.{one_layout}
use Rattle.omi_rep.specs.Shows.{Shows}
use Rattle.omi_frame.specs.Verb.{Answer, Gives}
use Rattle.omi_frame.specs.Statuses.{IsDoneOrFailed, ComesWhere, IsFaultStatus}
use Rattle.omi_frame.specs.Left.{IsLeft, IsRefused}
use Rattle.omi_top.specs.Audit.{IsAudited, ShowsWhereYes, audit_line}
use Rattle.omi_top.specs.Command.{Audit}
use Rattle.omi_top.specs.Cores.{HasLayout, HasWrongTable, IsIncompatible, ShowsReached, Spells, words_of_core}
use Rattle.omi_top.proofs.AuditVerdicts.{Declining, all_declining, audited_layout, faulty, incompatible as incompatible_refused, layout_not_refused, missing, refused_by_show, says_wrong, wrong}
use Rattle.omi_top.specs.Files.{HasFault}
use Rattle.omi_page.specs.CoreFiles.{IsFileOf}
use Rattle.omi_page.proofs.OpenedFiles.{file_unique}
use Rattle.omi_top.proofs.ShowVerdicts.{says_core, says_incompatible, says_missing}
use Rattle.omi_frame.proofs.Statuses.{DidMore, DoesMore, IsDoneStatus, one_content, comes_where, never_refused as nothing_refused, written_more}
use Rattle.omi_frame.specs.Refusal.{status_of}
use Rattle.omi_frame.specs.declared.refusal.Refusal.{Refusal}
use Rattle.omi_top.specs.CommandVerbs.{AreTold, IsAnswer, verb_of}
use Rattle.omi_top.specs.verbs.Audit.{IsAuditAnswer, IsAuditRefusal, AuditPromise, IsApproved}

-- the core in the file gives a layout
abbrev GivesOne : Option (List ℕ) → Type 0
GivesOne None = ⊥
GivesOne (Some bytes) = Spells bytes HasLayout

not_refused : (content : Option (List ℕ)) (r : Refusal) → GivesOne content → IsAuditRefusal content r → ⊥
not_refused None r none refuses = none
not_refused (Some bytes) r gives refuses = layout_not_refused bytes r gives refuses

-- what an answer says of the core, where the core's content is told
module _ (core : List ℕ) (told : List ℕ → Told) (content : Option (List ℕ))
    (is : told core ≡ Some content) where
  audit_answer : (a : Answer) → IsAnswer (Audit core) told a → IsAuditAnswer content a
  audit_answer a (c, here, answer) =
      subst (λ (x : Option (List ℕ)). IsAuditAnswer x a) (one_content (told core) c content here is) answer

  refusals : (written : Option (List ℕ)) (r : Refusal) → IsAnswer (Audit core) told (Gives written (Err r))
      → IsAuditRefusal content r
  refusals written r answer = go content written (audit_answer (Gives written (Err r)) answer)
    where
      go : (c written : Option (List ℕ)) → IsAuditAnswer c (Gives written (Err r)) → IsAuditRefusal c r
      go None None said = said
      go (Some bytes) None said = said
      go None (Some core) said = absurd said
      go (Some bytes) (Some core) said = absurd said

  verdicts : (a : Answer) → DoesMore a → IsAnswer (Audit core) told a → GivesOne content
  verdicts a more answer = go content a more (audit_answer a answer)
    where
      go : (c : Option (List ℕ)) (a : Answer) → DoesMore a → IsAuditAnswer c a → GivesOne c
      go c (Gives None (Err r)) more said = absurd more
      go None (Gives None (Ok text)) more said = said
      go None (Gives (Some core) (Ok text)) more said = said
      go None (Gives (Some core) (Err r)) more said = said
      go (Some bytes) (Gives None (Ok text)) more (v, spells, same) = audited_layout bytes v spells
      go (Some bytes) (Gives (Some core) (Ok text)) more said = absurd said
      go (Some bytes) (Gives (Some core) (Err r)) more said = absurd said

  did : DidMore (verb_of (Audit core)) told → GivesOne content
  did (inl (a, more, answer)) = verdicts a more answer
  did (inr (bytes, (says, answer))) = verdicts (Gives (Some bytes) says) (written_more bytes says) answer

-- where the verdict is Yes, the words show a state
shown_where_yes : (image : CoreImage) (v : Verdict) → IsAudited image v → ShowsWhereYes image v
shown_where_yes image (Yes records) audited =
    let some = yes_shows audited.w (words_of_core image) audited.valid records audited.is audited.layout in
    (some.state, record { w = audited.w; valid = audited.valid; names = some.names; shows = some.shows })
shown_where_yes image (No addr field clause) audited = tt

-- a core whose words show a state that events reach has no other verdict
reached_not_no : (image : CoreImage) → ShowsReached image → (addr field clause : ℕ)
    → IsAudited image (No addr field clause) → ⊥
reached_not_no image r addr field clause audited =
    reached_yes audited.w (words_of_core image) audited.valid addr field clause audited.is
    (record {
      program = r.program;
      events = r.events;
      state = r.state;
      reached = r.reached;
      shows =
          subst (λ (w : List ℕ). Shows w (words_of_core image) r.state)
          (one_layout (words_of_core image) r.w audited.w r.shows.layout audited.layout) r.shows;
    })

module _ (core : List ℕ) (told : List ℕ → Told) (old new : Told) (counted : Type 0)
    (out after : Option (List ℕ)) where
  -- a status comes exactly where a fact holds of the core's content
  comes : (content : Option (List ℕ)) → told core ≡ Some content → (refused s : Status) (fact : Type 0)
      → (IsFaultStatus refused → ⊥) → (IsDoneStatus refused → ⊥)
      → ((r : Refusal) → IsAuditRefusal content r → status_of r ≡ refused → fact) → (fact → Declining content refused)
      → IsLeft (verb_of (Audit core)) told s old new counted out after → ComesWhere refused s fact
  comes content is refused s fact no_fault no_text says declining =
      comes_where (verb_of (Audit core)) told old new counted out after (IsAuditRefusal content) (GivesOne content)
      (refusals core told content is) (did core told content is)
      refused s fact no_fault no_text says (λ holds. all_declining content refused (declining holds))
      (λ holds gives. not_refused content (declining holds).0 gives (declining holds).1)

  -- there is no file exactly where the status says so
  pub no_file : (s : Status) (content : Option (List ℕ)) → told core ≡ Some content
      → IsLeft (verb_of (Audit core)) told s old new counted out after → ComesWhere status.NoFile s (content ≡ None)
  no_file s content is =
      comes content is status.NoFile s (content ≡ None) (λ no. no) (λ no. no)
      (λ r refuses. says_missing content r (refused_by_show content r refuses))
      (λ none. subst (λ (c : Option (List ℕ)). Declining c status.NoFile) (sym none) missing)

  -- the file has a fault of its format exactly where the status says so
  pub core_refused : (s : Status) (bytes : List ℕ) → told core ≡ Some (Some bytes)
      → IsLeft (verb_of (Audit core)) told s old new counted out after → ComesWhere status.Core s (HasFault bytes)
  core_refused s bytes is =
      comes (Some bytes) is status.Core s (HasFault bytes) (λ no. no) (λ no. no)
      (λ r refuses. says_core bytes r (refused_by_show (Some bytes) r refuses)) (faulty bytes)

  -- no layout table of this version is found exactly where the status says so
  pub incompatible : (s : Status) (bytes : List ℕ) → told core ≡ Some (Some bytes)
      → IsLeft (verb_of (Audit core)) told s old new counted out after
      → ComesWhere status.Incompatible s (Spells bytes IsIncompatible)
  incompatible s bytes is =
      comes (Some bytes) is status.Incompatible s (Spells bytes IsIncompatible) (λ no. no) (λ no. no)
      (λ r refuses. says_incompatible bytes r (refused_by_show (Some bytes) r refuses)) (incompatible_refused bytes)

  -- the layout table is wrong exactly where the status says so
  pub damaged : (s : Status) (bytes : List ℕ) → told core ≡ Some (Some bytes)
      → IsLeft (verb_of (Audit core)) told s old new counted out after
      → ComesWhere status.Damaged s (Spells bytes HasWrongTable)
  damaged s bytes is =
      comes (Some bytes) is status.Damaged s (Spells bytes HasWrongTable) (λ no. no) (λ no. no) (says_wrong bytes)
      (wrong bytes)

  -- a core that gives a layout is refused nothing
  pub audits : (s : Status) (bytes : List ℕ) → told core ≡ Some (Some bytes) → Spells bytes HasLayout
      → IsLeft (verb_of (Audit core)) told s old new counted out after → IsDoneOrFailed s
  audits s bytes is gives =
      nothing_refused (verb_of (Audit core)) told old new counted out after
      (λ written r answer. layout_not_refused bytes r gives (refusals core told (Some bytes) is written r answer)) s

  -- what success puts
  abbrev Judged : List ℕ → Type 0
  Judged bytes =
      (image : CoreImage) × (v : Verdict) × IsFileOf bytes image × IsAudited image v × (after ≡ put_on out (audit_line v))
      × ShowsWhereYes image v

  put_by : (bytes : List ℕ) → told core ≡ Some (Some bytes)
      → IsLeft (verb_of (Audit core)) told status.Success old new counted out after → Judged bytes
  put_by bytes is (None, text, answer, held, put) =
      let (v, (image, spelled, audited), same) =
      audit_answer core told (Some bytes) is (Gives None (Ok text)) answer in
      (image, v, spelled, audited, put ∙ ap (λ (t : List ℕ). put_on out t) same, shown_where_yes image v audited)
  put_by bytes is (Some written, text, answer, held, put) =
      absurd (audit_answer core told (Some bytes) is (Gives (Some written) (Ok text)) answer)

  pub judged : (s : Status) (bytes : List ℕ) → told core ≡ Some (Some bytes) → s ≡ status.Success
      → IsLeft (verb_of (Audit core)) told s old new counted out after → Judged bytes
  judged s bytes is done left =
      put_by bytes is (subst (λ (x : Status). IsLeft (verb_of (Audit core)) told x old new counted out after) done left)

  -- of words that show a state which events reach the verdict is Yes
  module _ (bytes : List ℕ) (is : told core ≡ Some (Some bytes)) (image : CoreImage)
      (spelled : IsFileOf bytes image) (r : ShowsReached image) where
    never_refused : {C : Type 0} (s : Status) → IsRefused (verb_of (Audit core)) told s old new counted out after → C
    never_refused s (why, same, written, answer, held, said) =
        absurd
        (layout_not_refused bytes why (image, spelled, (r.w, r.valid, r.shows.layout)) (refusals core told (Some bytes) is written why answer))

    approved_by : (v : Verdict) → IsAudited image v → after ≡ put_on out (audit_line v)
        → IsApproved status.Success out after
    approved_by (Yes records) audited put = (records, put)
    approved_by (No addr field clause) audited put =
        absurd (reached_not_no image r addr field clause audited)

    pub approved : (s : Status) → IsLeft (verb_of (Audit core)) told s old new counted out after → IsApproved s out after
    approved status.Success left =
        let (other, v, also, audited, put, shows) = put_by bytes is left in
        approved_by v (subst (λ (c : CoreImage). IsAudited c v) (file_unique bytes other image also spelled) audited) put
    approved status.ReadFault left = tt
    approved status.WriteFault left = tt
    approved status.OutOfMemory left = tt
    approved status.Usage left = never_refused status.Usage left
    approved status.NoFile left = never_refused status.NoFile left
    approved status.Script left = never_refused status.Script left
    approved status.Core left = never_refused status.Core left
    approved status.Damaged left = never_refused status.Damaged left
    approved status.Incompatible left = never_refused status.Incompatible left

  -- what is left keeps the promise
  pub kept : (s : Status) → (AreTold (Audit core) told → IsLeft (verb_of (Audit core)) told s old new counted out after)
      → AuditPromise core s told out after
  kept s left = record {
    no_file = λ content is. no_file s content is (left (content, is));
    core_fault = λ bytes is. core_refused s bytes is (left (Some bytes, is));
    incompatible = λ bytes is. incompatible s bytes is (left (Some bytes, is));
    damaged = λ bytes is. damaged s bytes is (left (Some bytes, is));
    accepts = λ bytes is gives. audits s bytes is gives (left (Some bytes, is));
    success = λ bytes is done. judged s bytes is done (left (Some bytes, is));
    reached = λ bytes is image spelled reached. approved bytes is image spelled reached s (left (Some bytes, is));
  }
