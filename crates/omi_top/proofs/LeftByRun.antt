-- What the clauses of the top call say of `run`, from what it leaves.
use Rattle.std.proofs.Common.{◌≡◌, ◌⊎◌, ◌++◌, inl, inr, ℕ, List, Option, Some, None, Ok, Err, refl, sym, ◌∙◌, ap, subst}
use Rattle.std.specs.Prelude.{Result}
use Rattle.omi_outside.specs.Outside.{Told, holding, put_on}
use Rattle.omi_outside.specs.declared.status.Status.{Status}
use Rattle.omi_outside.specs.declared.status.Status.TheVariants as status
use Rattle.omi_corefile.specs.declared.core_image.CoreImage.{CoreImage}
use Rattle.omi_model.specs.Views.{IsViewOf}
use Rattle.omi_script.specs.Grammar.{Grammar, Refused}
use Rattle.omi_script.specs.declared.fault.ScriptFault.{ScriptFault}
use Rattle.omi_script.specs.declared.program.Program.{Program}
use Rattle.omi_script.proofs.VerdictLemmas.{not_both}
use Rattle.omi_frame.specs.Verb.{Answer, Gives}
use Rattle.omi_frame.specs.Statuses.{IsDoneOrFailed, IsOutsideStatus, ComesWhere}
use Rattle.omi_frame.specs.Left.{IsLeft, IsRefused}
use Rattle.omi_frame.specs.Scripts.{HoldsProgram, IsScriptRefusal}
use Rattle.omi_top.specs.Command.{Run}
use Rattle.omi_top.specs.Cores.{IsDamaged, IsIncompatible, IsLooked, Spells}
use Rattle.omi_frame.specs.Refusal.{status_of}
use Rattle.omi_top.specs.declared.plan.Plan.{Plan}
use Rattle.omi_frame.specs.declared.refusal.Refusal.{Refusal}
use Rattle.omi_top.proofs.LeftByShow.{HasReport, looked_shown, not_refused, run_shown, shown_looked}
use Rattle.omi_top.specs.Files.{HasFault}
use Rattle.omi_top.proofs.Files.{core_is_file}
use Rattle.omi_page.proofs.OpenedFiles.{file_unique}
use Rattle.omi_top.proofs.ShowVerdicts.{Refusing, all_refusing, damaged as damaged_refused, faulty, incompatible as incompatible_refused, kinds, missing, report_not_refused, says_core, says_damaged, says_incompatible, says_missing}
use Rattle.omi_frame.proofs.Statuses.{DidMore, DoesMore, SaysWith, comes_where, never_refused as nothing_refused, one_content}
use Rattle.omi_top.specs.CommandVerbs.{AreTold, IsAnswer, verb_of}
use Rattle.omi_top.specs.verbs.Run.{IsRunAnswer, ComesBehind, IsReadBackStatus, IsRunShown, RunPromise}
use Rattle.omi_top.specs.verbs.Show.{IsReportOf, IsShowAnswer, IsShowRefusal}
use Rattle.omi_top.specs.verbs.Stop.{IsStopAnswer, IsStopped}

-- the script has a fault
abbrev HasScriptFault : List ℕ → Type 0
HasScriptFault text = (fault : ScriptFault) × Refused text fault

-- why `run` refuses: for its script; or for what it reads back, where this is a program
abbrev IsRunRefusal : Option (List ℕ) → Option (List ℕ) → Refusal → Type 0
IsRunRefusal text content r = IsScriptRefusal text r ⊎ (HoldsProgram text × IsShowRefusal content r)

-- a script is no program and refused
program_not_refused : (text : Option (List ℕ)) (r : Refusal) → HoldsProgram text → IsScriptRefusal text r → ⊥
program_not_refused None r (p, nothing) refuses = nothing
program_not_refused (Some bytes) r (p, grammar) (fault, why, same) = not_both bytes p fault grammar why

-- a run of the script's program left this core, and printed these lines
abbrev Left : Plan → Option (List ℕ) → List ℕ → List ℕ → Type 0
Left plan None written lines = ⊥
Left plan (Some text) written lines = (p : Program) × Grammar text p × IsStopped p plan written lines

left_by_stop : (plan : Plan) (text : Option (List ℕ)) (written lines : List ℕ)
    → IsStopAnswer plan text (Gives (Some written) (Ok lines)) → Left plan text written lines
left_by_stop plan None written lines said = said
left_by_stop plan (Some text) written lines said = said

left_program : (plan : Plan) (text : Option (List ℕ)) (written lines : List ℕ) → Left plan text written lines
    → HoldsProgram text
left_program plan None written lines left = absurd left
left_program plan (Some text) written lines (p, grammar, stopped) = (p, grammar)

-- a refusal: for the script, where nothing was written; or for what was read back, where a run left the core
abbrev RefusedBy : Plan → Option (List ℕ) → Option (List ℕ) → Option (List ℕ) → Refusal → Type 0
RefusedBy plan text content None r = IsScriptRefusal text r
RefusedBy plan text content (Some written) r =
    ((lines : List ℕ) × Left plan text written lines) × IsShowRefusal content r

-- success: a run left the core, and what was read back has a report
record Done (plan : Plan) (text content written : Option (List ℕ)) (put : List ℕ) : Type 0 where
  pub bytes : List ℕ
  pub is_written : written ≡ Some bytes
  pub lines : List ℕ
  pub left : Left plan text bytes lines
  pub shown : List ℕ
  pub said : IsShowAnswer content (Gives None (Ok shown))
  pub joined : put ≡ lines ++ shown

-- what is read back has a report, and this is it
reported : (plan : Plan) (text content written : Option (List ℕ)) (put : List ℕ)
    → Done plan text content written put → HasReport content
reported plan text content written put done = go content done.said
  where
    go : (c : Option (List ℕ)) → IsShowAnswer c (Gives None (Ok done.shown)) → HasReport c
    go None said = said
    go (Some bytes) said = (done.shown, said)

-- what an answer says, where both contents are told
module _ (plan : Plan) (script core : List ℕ) (told : List ℕ → Told) (text content : Option (List ℕ))
    (is : told script ≡ Some text) (back : told core ≡ Some content) where
  run_answer : (a : Answer) → IsAnswer (Run plan script core) told a → IsRunAnswer plan text content a
  run_answer a (t, here, c, there, answer) =
      subst (λ (x : Option (List ℕ)). IsRunAnswer plan x content a) (one_content (told script) t text here is)
      (subst (λ (x : Option (List ℕ)). IsRunAnswer plan t x a) (one_content (told core) c content there back) answer)

  refused_by : (written : Option (List ℕ)) (r : Refusal)
      → IsAnswer (Run plan script core) told (Gives written (Err r)) → RefusedBy plan text content written r
  refused_by None r answer = go text (run_answer (Gives None (Err r)) answer)
    where
      go : (t : Option (List ℕ)) → IsStopAnswer plan t (Gives None (Err r)) → IsScriptRefusal t r
      go None said = said
      go (Some bytes) said = said
  refused_by (Some written) r answer =
      let (lines, left, said) = run_answer (Gives (Some written) (Err r)) answer in
      ((lines, left_by_stop plan text written lines left), shown content said)
    where
      shown : (c : Option (List ℕ)) → IsShowAnswer c (Gives None (Err r)) → IsShowRefusal c r
      shown None said = said
      shown (Some bytes) said = said

  refusals : (written : Option (List ℕ)) (r : Refusal)
      → IsAnswer (Run plan script core) told (Gives written (Err r)) → IsRunRefusal text content r
  refusals None r answer = inl (refused_by None r answer)
  refusals (Some written) r answer =
      let ((lines, left), refuses) = refused_by (Some written) r answer in
      inr (left_program plan text written lines left, refuses)

  done_by : (written : Option (List ℕ)) (put : List ℕ)
      → IsAnswer (Run plan script core) told (Gives written (Ok put)) → Done plan text content written put
  done_by None put answer = absurd (go text (run_answer (Gives None (Ok put)) answer))
    where
      go : (t : Option (List ℕ)) → IsStopAnswer plan t (Gives None (Ok put)) → ⊥
      go None said = said
      go (Some bytes) said = said
  done_by (Some written) put answer =
      let (lines, left, (shown, said, joined)) = run_answer (Gives (Some written) (Ok put)) answer in
      record { bytes = written; is_written = refl; lines = lines; left = left_by_stop plan text written lines left; shown = shown; said = said; joined = joined }

  -- where more than a refusal was answered, the script is a program
  programs : (a : Answer) → DoesMore a → IsAnswer (Run plan script core) told a → HoldsProgram text
  programs (Gives None (Err r)) more answer = absurd more
  programs (Gives None (Ok put)) more answer =
      let done = done_by None put answer in left_program plan text done.bytes done.lines done.left
  programs (Gives (Some written) (Ok put)) more answer =
      let done = done_by (Some written) put answer in left_program plan text done.bytes done.lines done.left
  programs (Gives (Some written) (Err r)) more answer =
      let ((lines, left), refuses) = refused_by (Some written) r answer in left_program plan text written lines left

  did : DidMore (verb_of (Run plan script core)) told → HoldsProgram text
  did (inl (a, more, answer)) = programs a more answer
  did (inr (bytes, (says, (t, here, answer)))) =
      go text says
      (subst (λ (x : Option (List ℕ)). IsStopAnswer plan x (Gives (Some bytes) says)) (one_content (told script) t text here is) answer)
    where
      go : (t : Option (List ℕ)) (says : Result (List ℕ) Refusal)
          → IsStopAnswer plan t (Gives (Some bytes) says) → HoldsProgram t
      go None (Ok lines) said = absurd said
      go None (Err r) said = absurd said
      go (Some script_text) (Ok lines) (p, grammar, stopped) = (p, grammar)
      go (Some script_text) (Err r) said = absurd said

-- ---- where each status comes

-- the status of what is read back is never that of a script
show_not_script : (content : Option (List ℕ)) (r : Refusal) → IsShowRefusal content r
    → status_of r ≡ status.Script → ⊥
show_not_script None r refuses is =
    let wrong : status.NoFile ≡ status.Script = ap status_of (sym refuses) ∙ is in cc wrong
show_not_script (Some bytes) r refuses is =
    elim (kinds bytes r refuses) [
      | inl k ↦ let wrong : status.Core ≡ status.Script = sym k.is ∙ is in absurd (cc)
      | inr (inl k) ↦ let wrong : status.Incompatible ≡ status.Script = sym k.is ∙ is in absurd (cc)
      | inr (inr k) ↦ let wrong : status.Damaged ≡ status.Script = sym k.is ∙ is in absurd (cc)
    ]

-- a file that was told holds what it was given
held_whole : (old : Told) (written bytes : List ℕ) → holding old written ≡ Some (Some bytes) → written ≡ bytes
held_whole None written bytes is = absurd (cc is)
held_whole (Some content) written bytes is = cc

-- a status of a script's refusal
abbrev IsScriptStatus : Status → Type 0
IsScriptStatus status.NoFile = Unit {0}
IsScriptStatus status.Script = Unit {0}
IsScriptStatus other = ⊥

script_status : (text : Option (List ℕ)) (r : Refusal) → IsScriptRefusal text r → IsScriptStatus (status_of r)
script_status None r refuses = subst (λ (x : Refusal). IsScriptStatus (status_of x)) (sym refuses) tt
script_status (Some bytes) r (fault, why, same) =
    subst (λ (x : Refusal). IsScriptStatus (status_of x)) (sym same) tt

module _ (plan : Plan) (script core : List ℕ) (told : List ℕ → Told) (old new : Told) (counted : Type 0)
    (out after : Option (List ℕ)) where
  -- a fault of the outside, a refusal, or success
  ends : (s : Status) → IsLeft (verb_of (Run plan script core)) told s old new counted out after
      → IsOutsideStatus s ⊎ (SaysWith (IsAnswer (Run plan script core) told) s ⊎ (s ≡ status.Success))
  ends status.Success left = inr (inr refl)
  ends status.ReadFault left = inl tt
  ends status.WriteFault left = inl tt
  ends status.OutOfMemory left = inl tt
  ends status.Usage (r, is, written, answer, held, said) = inr (inl (r, is, written, answer))
  ends status.NoFile (r, is, written, answer, held, said) = inr (inl (r, is, written, answer))
  ends status.Script (r, is, written, answer, held, said) = inr (inl (r, is, written, answer))
  ends status.Core (r, is, written, answer, held, said) = inr (inl (r, is, written, answer))
  ends status.Damaged (r, is, written, answer, held, said) = inr (inl (r, is, written, answer))
  ends status.Incompatible (r, is, written, answer, held, said) = inr (inl (r, is, written, answer))

  -- the script is refused exactly where the status says so
  pub script_refused : (s : Status) (bytes : List ℕ) (content : Option (List ℕ))
      → told script ≡ Some (Some bytes) → told core ≡ Some content
      → IsLeft (verb_of (Run plan script core)) told s old new counted out after → ComesWhere status.Script s (HasScriptFault bytes)
  script_refused s bytes content is back =
      comes_where (verb_of (Run plan script core)) told old new counted out after (IsRunRefusal (Some bytes) content)
      (HoldsProgram (Some bytes))
      (refusals plan script core told (Some bytes) content is back)
      (did plan script core told (Some bytes) content is back)
      status.Script s (HasScriptFault bytes) (λ no. no) (λ no. no) says all none
    where
      says : (r : Refusal) → IsRunRefusal (Some bytes) content r → status_of r ≡ status.Script
          → HasScriptFault bytes
      says r (inl (fault, why, same)) is = (fault, why)
      says r (inr (program, refuses)) is = absurd (show_not_script content r refuses is)

      all : HasScriptFault bytes → (r : Refusal) → IsRunRefusal (Some bytes) content r
          → status_of r ≡ status.Script
      all refused r (inl (fault, why, same)) = ap status_of same
      all (fault, why) r (inr ((p, grammar), refuses)) = absurd (not_both bytes p fault grammar why)

      none : HasScriptFault bytes → HoldsProgram (Some bytes) → ⊥
      none (fault, why) (p, grammar) = not_both bytes p fault grammar why

  -- where both contents are told
  module _ (text content : Option (List ℕ)) (is : told script ≡ Some text) (back : told core ≡ Some content)
      (s : Status) (left : IsLeft (verb_of (Run plan script core)) told s old new counted out after) where
    -- what success leaves
    done_at : IsLeft (verb_of (Run plan script core)) told status.Success old new counted out after
        → (bytes : List ℕ) × (lines : List ℕ) × Left plan text bytes lines × (shown : List ℕ) × IsShowAnswer content (Gives None (Ok shown)) × (new ≡ holding old bytes) × (after ≡ put_on out (lines ++ shown))
    done_at (None, put, answer, held, same) =
        let done = done_by plan script core told text content is back None put answer in let wrong : None ≡ Some done.bytes = done.is_written in absurd (cc wrong)
    done_at (Some written, put, answer, held, same) =
        let done = done_by plan script core told text content is back (Some written) put answer in
        let bytes : written ≡ done.bytes = let both : Some written ≡ Some done.bytes = done.is_written in cc in
        (done.bytes, done.lines, done.left, done.shown, done.said, held ∙ ap (holding old) bytes, same ∙ ap (put_on out) done.joined)

    left_success : s ≡ status.Success
        → IsLeft (verb_of (Run plan script core)) told status.Success old new counted out after
    left_success done =
        subst (λ (x : Status). IsLeft (verb_of (Run plan script core)) told x old new counted out after) done left

    report_at : s ≡ status.Success → HasReport content
    report_at done = let t = done_at (left_success done) in go content t.3 t.4
      where
        go : (c : Option (List ℕ)) (shown : List ℕ) → IsShowAnswer c (Gives None (Ok shown)) → HasReport c
        go None shown said = said
        go (Some bytes) shown said = (shown, said)

    program_at : s ≡ status.Success → HoldsProgram text
    program_at done = let t = done_at (left_success done) in left_program plan text t.0 t.1 t.2

    -- a fact of what is read back decides, where the script is a program
    decides : (refused : Status) → HoldsProgram text → Refusing content refused
        → (s ≡ refused) ⊎ IsOutsideStatus s
    decides refused program refusing =
        elim (ends s left) [
          | inl fault ↦ inr fault
          | inr (inl (r, of, written, answer)) ↦ inl (sym of ∙ all r (refusals plan script core told text content is back written r answer))
          | inr (inr done) ↦ absurd (not_refused content refusing.0 (report_at done) refusing.1)
        ]
      where
        all : (r : Refusal) → IsRunRefusal text content r → status_of r ≡ refused
        all r (inl refuses) = absurd (program_not_refused text r program refuses)
        all r (inr (also, refuses)) = all_refusing content refused refusing r refuses

    -- and a status says why the script or what is read back is refused
    says_of : (refused : Status) (P : Type 0) → (IsOutsideStatus refused → ⊥) → (refused ≡ status.Success → ⊥)
        → ((r : Refusal) → IsRunRefusal text content r → status_of r ≡ refused → P) → s ≡ refused → P
    says_of refused P no_fault no_success says same =
        elim (ends s left) [
          | inl fault ↦ absurd (no_fault (subst IsOutsideStatus same fault))
          | inr (inl (r, of, written, answer)) ↦ says r (refusals plan script core told text content is back written r answer) (of ∙ same)
          | inr (inr done) ↦ absurd (no_success (sym same ∙ done))
        ]

    comes_behind : (refused : Status) (fact : Type 0) → (IsOutsideStatus refused → ⊥)
        → (IsScriptStatus refused → ⊥) → (refused ≡ status.Success → ⊥)
        → ((r : Refusal) → IsShowRefusal content r → status_of r ≡ refused → fact) → (fact → Refusing content refused) → ComesBehind refused s (HoldsProgram text × fact)
    comes_behind refused fact no_fault no_script no_success says refusing =
        (says_of refused (HoldsProgram text × fact) no_fault no_success says_both, λ holds. decides refused holds.0 (refusing holds.1))
      where
        says_both : (r : Refusal) → IsRunRefusal text content r → status_of r ≡ refused
            → HoldsProgram text × fact
        says_both r (inl refuses) same =
            absurd (no_script (subst IsScriptStatus same (script_status text r refuses)))
        says_both r (inr (program, refuses)) same = (program, says r refuses same)

    -- there is no script, or the script is a program and there is nothing to read back
    pub no_file : ComesBehind status.NoFile s ((text ≡ None) ⊎ (HoldsProgram text × (content ≡ None)))
    no_file =
        (says_of status.NoFile ((text ≡ None) ⊎ (HoldsProgram text × (content ≡ None))) (λ no. no) (λ same. absurd (cc)) says, to)
      where
        no_script : (t : Option (List ℕ)) (r : Refusal) → IsScriptRefusal t r → status_of r ≡ status.NoFile
            → t ≡ None
        no_script None r refuses same = refl
        no_script (Some bytes) r (fault, why, is) same =
            let wrong : status.Script ≡ status.NoFile = ap status_of (sym is) ∙ same in absurd (cc wrong)

        says : (r : Refusal) → IsRunRefusal text content r → status_of r ≡ status.NoFile
            → (text ≡ None) ⊎ (HoldsProgram text × (content ≡ None))
        says r (inl refuses) same = inl (no_script text r refuses same)
        says r (inr (program, refuses)) same = inr (program, says_missing content r refuses same)

        script_missing : (t : Option (List ℕ)) (r : Refusal) → t ≡ None → IsScriptRefusal t r
            → status_of r ≡ status.NoFile
        script_missing None r none refuses = ap status_of refuses
        script_missing (Some bytes) r none refuses = absurd (cc none)

        no_program : (t : Option (List ℕ)) → t ≡ None → HoldsProgram t → ⊥
        no_program None none (p, nothing) = nothing
        no_program (Some bytes) none program = cc none

        all : text ≡ None → (r : Refusal) → IsRunRefusal text content r → status_of r ≡ status.NoFile
        all none r (inl refuses) = script_missing text r none refuses
        all none r (inr (program, refuses)) = absurd (no_program text none program)

        to : (text ≡ None) ⊎ (HoldsProgram text × (content ≡ None)) → (s ≡ status.NoFile) ⊎ IsOutsideStatus s
        to (inr (program, none)) =
            decides status.NoFile program
            (subst (λ (c : Option (List ℕ)). Refusing c status.NoFile) (sym none) missing)
        to (inl none) =
            elim (ends s left) [
              | inl fault ↦ inr fault
              | inr (inl (r, of, written, answer)) ↦ inl (sym of ∙ all none r (refusals plan script core told text content is back written r answer))
              | inr (inr done) ↦ absurd (no_program text none (program_at done))
            ]

  -- what is read back is refused exactly where a status says so
  module _ (text : Option (List ℕ)) (bytes : List ℕ) (is : told script ≡ Some text)
      (back : told core ≡ Some (Some bytes)) (s : Status)
      (left : IsLeft (verb_of (Run plan script core)) told s old new counted out after) where
    pub core_refused : ComesBehind status.Core s (HoldsProgram text × HasFault bytes)
    core_refused =
        comes_behind text (Some bytes) is back s left status.Core (HasFault bytes) (λ no. no) (λ no. no)
        (λ same. absurd (cc)) (says_core bytes) (faulty bytes)

    pub incompatible : ComesBehind status.Incompatible s (HoldsProgram text × Spells bytes IsIncompatible)
    incompatible =
        comes_behind text (Some bytes) is back s left status.Incompatible (Spells bytes IsIncompatible)
        (λ no. no) (λ no. no) (λ same. absurd (cc)) (says_incompatible bytes) (incompatible_refused bytes)

    pub damaged : ComesBehind status.Damaged s (HoldsProgram text × Spells bytes IsDamaged)
    damaged =
        comes_behind text (Some bytes) is back s left status.Damaged (Spells bytes IsDamaged) (λ no. no)
        (λ no. no) (λ same. absurd (cc)) (says_damaged bytes) (damaged_refused bytes)

  -- ---- what a run of a program leaves

  module _ (text : List ℕ) (content : Option (List ℕ)) (is : told script ≡ Some (Some text))
      (back : told core ≡ Some content) where
    -- the core of a run was written
    abbrev Wrote : Type 0
    Wrote =
        (p : Program) × (written : List ℕ) × (lines : List ℕ) × Grammar text p × IsStopped p plan written lines × (new ≡ holding old written)

    refused_wrote : (s : Status) → IsReadBackStatus s
        → IsRefused (verb_of (Run plan script core)) told s old new counted out after → Wrote
    refused_wrote s read_back (r, same, None, answer, held, said) =
        let (fault, why, refuses) =
        refused_by plan script core told (Some text) content is back None r answer in
        absurd (subst IsReadBackStatus (sym same ∙ ap status_of refuses) read_back)
    refused_wrote s read_back (r, same, Some written, answer, held, said) =
        let ((lines, (p, grammar, stopped)), refuses) =
        refused_by plan script core told (Some text) content is back (Some written) r answer in
        (p, written, lines, grammar, stopped, held)

    pub wrote : (s : Status) → IsReadBackStatus s
        → IsLeft (verb_of (Run plan script core)) told s old new counted out after → Wrote
    wrote status.Success read_back left =
        let (written, lines, (p, grammar, stopped), shown, said, held, put) =
        done_at (Some text) content is back status.Success left left in
        (p, written, lines, grammar, stopped, held)
    wrote status.NoFile read_back left = refused_wrote status.NoFile read_back left
    wrote status.Core read_back left = refused_wrote status.Core read_back left
    wrote status.Damaged read_back left = refused_wrote status.Damaged read_back left
    wrote status.Incompatible read_back left = refused_wrote status.Incompatible read_back left
    wrote status.Usage read_back left = absurd read_back
    wrote status.Script read_back left = absurd read_back
    wrote status.ReadFault read_back left = absurd read_back
    wrote status.WriteFault read_back left = absurd read_back
    wrote status.OutOfMemory read_back left = absurd read_back

  module _ (text bytes : List ℕ) (is : told script ≡ Some (Some text))
      (back : told core ≡ Some (Some bytes)) where
    -- with success what is put is the lines of the run and the report of what is read back
    pub put_report : (s : Status) → s ≡ status.Success
        → IsLeft (verb_of (Run plan script core)) told s old new counted out after
        → (p : Program) × (written : List ℕ) × (lines : List ℕ) × (shown : List ℕ) × Grammar text p × IsStopped p plan written lines × (new ≡ holding old written) × IsReportOf bytes shown × (after ≡ put_on out (lines ++ shown))
    put_report s done left =
        let (written, lines, (p, grammar, stopped), shown, said, held, put) =
        done_at (Some text) (Some bytes) is back s left
        (left_success (Some text) (Some bytes) is back s left done) in
        (p, written, lines, shown, grammar, stopped, held, said, put)

    -- a program is refused nothing, where what is read back has a report
    pub runs : (shown : List ℕ) → (s : Status) → (p : Program) → Grammar text p → IsReportOf bytes shown
        → IsLeft (verb_of (Run plan script core)) told s old new counted out after → IsDoneOrFailed s
    runs shown s p grammar report_is =
        nothing_refused (verb_of (Run plan script core)) told old new counted out after none s
      where
        never : (r : Refusal) → IsRunRefusal (Some text) (Some bytes) r → ⊥
        never r (inl (fault, why, same)) = not_both text p fault grammar why
        never r (inr (program, refuses)) = not_refused (Some bytes) r (shown, report_is) refuses

        none : (written : Option (List ℕ)) (r : Refusal)
            → IsAnswer (Run plan script core) told (Gives written (Err r)) → ⊥
        none written r answer =
            never r (refusals plan script core told (Some text) (Some bytes) is back written r answer)

    -- where it is the core that was written, its report is that of the run's state
    module _ (same_core : new ≡ Some (Some bytes)) where
      own : (p : Program) (written lines : List ℕ) → new ≡ holding old written
          → IsStopped p plan written lines → IsStopped p plan bytes lines
      own p written lines held stopped =
          subst (λ (b : List ℕ). IsStopped p plan b lines)
          (held_whole old written bytes (sym held ∙ same_core)) stopped

      never_refused : (s : Status) → IsReadBackStatus s
          → IsRefused (verb_of (Run plan script core)) told s old new counted out after → ⊥
      never_refused s read_back (r, same, None, answer, held, said) =
          let (fault, why, refuses) =
          refused_by plan script core told (Some text) (Some bytes) is back None r answer in
          subst IsReadBackStatus (sym same ∙ ap status_of refuses) read_back
      never_refused s read_back (r, same, Some written, answer, held, said) =
          let ((lines, (p, grammar, stopped)), refuses) =
          refused_by plan script core told (Some text) (Some bytes) is back (Some written) r answer in
          let run : IsStopped p plan bytes lines = own p written lines held stopped in
          let (v, looked, view) =
          shown_looked run.core_of.core run.state (run_shown p plan bytes lines run) in
          report_not_refused bytes v r (run.core_of.core, core_is_file bytes run.core_of.core run.core_of.spelled, looked) refuses

      pub shown : (s : Status) → IsLeft (verb_of (Run plan script core)) told s old new counted out after
          → IsRunShown text plan bytes s out after
      shown status.Success left =
          let (p, written, lines, text_shown, grammar, stopped, held, (v, (image, spelled, looked), report_is), put) =
          put_report status.Success refl left in
          let run : IsStopped p plan bytes lines = own p written lines held stopped in
          let here : IsLooked run.core_of.core (Ok v) =
          subst (λ (c : CoreImage). IsLooked c (Ok v))
          (file_unique bytes image run.core_of.core spelled (core_is_file bytes run.core_of.core run.core_of.spelled)) looked in
          let view : IsViewOf run.state run.core_of.core.contexts v =
          looked_shown run.core_of.core v here run.state (run_shown p plan bytes lines run) in
          (p, lines, grammar, run, v, subst (λ (ids : List ℕ). IsViewOf run.state ids v) run.core_of.image.contexts_are view, put ∙ ap (λ (t : List ℕ). put_on out (lines ++ t)) report_is)
      shown status.NoFile left = never_refused status.NoFile tt left
      shown status.Core left = never_refused status.Core tt left
      shown status.Damaged left = never_refused status.Damaged tt left
      shown status.Incompatible left = never_refused status.Incompatible tt left
      shown status.Usage left = tt
      shown status.Script left = tt
      shown status.ReadFault left = tt
      shown status.WriteFault left = tt
      shown status.OutOfMemory left = tt

  -- what is left keeps the promise
  pub kept : (s : Status) → (AreTold (Run plan script core) told → IsLeft (verb_of (Run plan script core)) told s old new counted out after)
      → RunPromise plan script core s told old new out after
  kept s left = record {
    script_fault = λ bytes content is back. script_refused s bytes content is back (left ((Some bytes, is), (content, back)));
    no_file = λ text content is back. no_file text content is back s (left ((text, is), (content, back)));
    core_fault = λ text bytes is back. core_refused text bytes is back s (left ((text, is), (Some bytes, back)));
    incompatible = λ text bytes is back. incompatible text bytes is back s (left ((text, is), (Some bytes, back)));
    damaged = λ text bytes is back. damaged text bytes is back s (left ((text, is), (Some bytes, back)));
    accepts = λ text bytes report_text is back p grammar report_is.
        runs text bytes is back report_text s p grammar report_is (left ((Some text, is), (Some bytes, back)));
    written = λ bytes content is back read_back. wrote bytes content is back s read_back (left ((Some bytes, is), (content, back)));
    success = λ text bytes is back done. put_report text bytes is back s done (left ((Some text, is), (Some bytes, back)));
    shown = λ text bytes is back same. shown text bytes is back same s (left ((Some text, is), (Some bytes, back)));
  }
