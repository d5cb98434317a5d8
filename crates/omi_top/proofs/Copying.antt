-- What a command answers that writes a copy of a core: where the core is read, where it isn't, and where the copy can't be written.
use Rattle.std.proofs.Common.{◌≡◌, ◌⊎◌, inl, inr, ℕ, false, List, Option, Some, None, Ok, Err, refl, sym, ◌∙◌, subst, take}
use Rattle.std.specs.Prelude.{Result}
use Rattle.std.specs.Global.{Vec}
use Rattle.omi_outside.specs.Outside.{Told, IsCut, holding}
use Rattle.omi_outside.specs.declared.files.Refused.{Refused as RefusedWrite}
use Rattle.omi_outside.specs.declared.status.Status.TheVariants as status
use Rattle.omi_corefile.proofs.Fronts.{front_core, front_enough}
use Rattle.omi_corefile.specs.Outcomes.{IsFaultOf}
use Rattle.omi_corefile.specs.Refusals.{CoreRefused}
use Rattle.omi_corefile.specs.Spelling.{Core}
use Rattle.omi_corefile.specs.declared.core_image.CoreImage.{CoreImage}
use Rattle.omi_corefile.specs.declared.fault.CoreError.{CoreError}
use Rattle.omi_corefile.specs.declared.fault.CoreError.TheVariants as error
use Rattle.omi_frame.specs.Verb.{Gives, Verb}
use Rattle.omi_frame.specs.Left.{IsAnswered, IsEarly}
use Rattle.omi_top.specs.verbs.Copy.{IsCopyAnswer, copy_verb}
use Rattle.omi_top.specs.Copy.{IsOfCoreFile}
use Rattle.omi_top.specs.Files.{Holds}
use Rattle.omi_top.specs.Questions.{IsCoreRefusal}
use Rattle.omi_top.specs.declared.limits.TheConstants.{CORE_FRONT}
use Rattle.omi_frame.specs.Refusal.{IsReadFault, IsUnread, refusal_of_core, refusal_of_write, status_of}
use Rattle.omi_frame.specs.Statuses.{IsOfCore}
use Rattle.omi_frame.specs.declared.refusal.Input.TheVariants as input
use Rattle.omi_frame.specs.declared.refusal.Refusal.{Refusal}
use Rattle.omi_frame.specs.declared.refusal.Refusal.TheVariants as refusal
use Rattle.omi_frame.proofs.Elsewhere.{late}

-- ---- a file that isn't there, or can't be read

pub unread : (content : Option (List ℕ)) (r : Refusal) → ((r ≡ refusal.NoFile input.Core) × (content ≡ None)) ⊎ IsUnread input.Core r
    → IsCoreRefusal content r ⊎ IsUnread input.Core r
unread content r (inl (missing, none)) = inl (subst (λ (c : Option (List ℕ)). IsCoreRefusal c r) (sym none) missing)
unread content r (inr failed) = inr failed

pub unread_kind : (r : Refusal) → (r ≡ refusal.NoFile input.Core) ⊎ IsUnread input.Core r → IsOfCoreFile r
unread_kind r (inl missing) = subst IsOfCoreFile (sym missing) tt
unread_kind r (inr (inl failed)) = subst IsOfCoreFile (sym failed) tt
unread_kind r (inr (inr memory)) = subst IsOfCoreFile (sym memory) tt

-- the error of reading a core is one of its file
pub fault_kind : (e : CoreError) → IsOfCoreFile (refusal_of_core e)
fault_kind (error.Fault at why) = tt
fault_kind error.OutOfMemory = tt

pub fault_not_read : (e : CoreError) → IsReadFault (refusal_of_core e) → ⊥
fault_not_read (error.Fault at why) is = is
fault_not_read error.OutOfMemory is = is

-- ---- a file whose first bytes were read

module _ (content : Option (List ℕ)) (whole bytes : List ℕ) (holds : content ≡ Some bytes)
    (read : whole ≡ take CORE_FRONT bytes) where
  pub core_held : (c : CoreImage) → Core whole c → Holds false content c
  core_held c is =
      subst (λ (x : Option (List ℕ)). Holds false x c) (sym holds) (front_core bytes c (sym read ∙ is))

  pub core_refused : (e : CoreError) → IsFaultOf whole e
      → IsCoreRefusal content (refusal_of_core e) ⊎ IsUnread input.Core (refusal_of_core e)
  core_refused (error.Fault at why) is =
      let front : CoreRefused (take CORE_FRONT bytes) at why =
      subst (λ (xs : List ℕ). CoreRefused xs at why) read is in
      inl
      (subst (λ (x : Option (List ℕ)). IsCoreRefusal x (refusal.Core at why)) (sym holds) (at, why, sym (front_enough bytes) ∙ front, refl))
  core_refused error.OutOfMemory is = inr (inr refl)

-- ---- what a refusal of the core's file is not

abbrev ended : Refusal → Result (Vec ℕ) Refusal
ended r = Err r

pub never_usage : (r : Refusal) → IsOfCoreFile r → ended r ≡ ended refusal.Usage → ⊥
never_usage refusal.Usage is same = is
never_usage r is same = cc

pub never_write : (r : Refusal) → IsOfCoreFile r → ended r ≡ ended refusal.WriteFault → ⊥
never_write refusal.WriteFault is same = is
never_write r is same = cc

pub only_bytes : (r : Refusal) → IsOfCoreFile r → IsOfCore (status_of r) → status_of r ≡ status.Core
only_bytes (refusal.Core at why) is of_core = refl
only_bytes (refusal.Elf at why) is of_core = absurd is
only_bytes (refusal.Damaged addr field) is of_core = absurd is
only_bytes (refusal.Cycle addr) is of_core = absurd is
only_bytes refusal.Incompatible is of_core = absurd is
only_bytes r is of_core = absurd of_core

-- ---- the answers

module _ (copies : List ℕ → List ℕ → List ℕ → Type 0) (core copy : List ℕ) (told : List ℕ → Told) where
  abbrev verb : Verb
  verb = copy_verb copies core copy

  early : (r : Refusal) (old : Told) → IsUnread input.Core r → IsAnswered verb told (Err r) old old
  early r old (inl failed) =
      inr (inl (subst (λ (x : Refusal). IsEarly verb x) (sym failed) tt, refl))
  early r old (inr memory) = inr (inl (subst (λ (x : Refusal). IsEarly verb x) (sym memory) tt, refl))

  -- memory ran out before anything was written
  pub no_memory : (old : Told) → IsAnswered verb told (Err refusal.OutOfMemory) old old
  no_memory old = inr (inl (tt, refl))

  module _ (content : Option (List ℕ)) (is : told core ≡ Some content) where
    refusal_answer : (r : Refusal) → IsCoreRefusal content r → verb.answers told (Gives None (Err r))
    refusal_answer r refuses = (content, is, go content refuses)
      where
        go : (c : Option (List ℕ)) → IsCoreRefusal c r → IsCopyAnswer copies c (Gives None (Err r))
        go None refuses = refuses
        go (Some bytes) refuses = refuses

    -- the core is refused, can't be read, or memory ran out
    pub refused_answered : (r : Refusal) (old : Told) → IsCoreRefusal content r ⊎ IsUnread input.Core r
        → IsAnswered verb told (Err r) old old
    refused_answered r old (inl refuses) = inl (None, refusal_answer r refuses, refl)
    refused_answered r old (inr unread) = early r old unread

    module _ (image : CoreImage) (holds : Holds false content image) (written line : List ℕ)
        (copied : (bytes : List ℕ) → Core bytes image → copies bytes written line) where
      answer : verb.answers told (Gives (Some written) (Ok line))
      answer = (content, is, go content holds)
        where
          go : (c : Option (List ℕ)) → Holds false c image → IsCopyAnswer copies c (Gives (Some written) (Ok line))
          go None nothing = absurd nothing
          go (Some bytes) spelled = copied bytes spelled

      -- the copy is partly written
      pub partly_answered : (r : RefusedWrite) (old new : Told) → IsCut old new written
          → IsAnswered verb told (Err (refusal_of_write r)) old new
      partly_answered r old new cut = inr (inr (inl (late r, (written, (Ok line, answer), cut))))

      -- the copy is written, and the line is handed up
      pub done_answered : (v : Vec ℕ) (old new : Told) → v.items ≡ line → new ≡ holding old written
          → IsAnswered verb told (Ok v) old new
      done_answered v old new same held = (
        Some written,
        subst (λ (x : List ℕ). verb.answers told (Gives (Some written) (Ok x))) (sym same) answer,
        held,
      )
