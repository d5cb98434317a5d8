-- A core has one refusal or one report: what each says of its bytes and of its words.
use Rattle.std.proofs.Common.{◌≡◌, ◌⊎◌, inl, inr, ℕ, List, Option, Some, None, Ok, Err, refl, sym, ◌∙◌, ap, subst}
use Rattle.omi_outside.specs.declared.status.Status.{Status}
use Rattle.omi_outside.specs.declared.status.Status.TheVariants as status
use Rattle.omi_corefile.specs.declared.core_image.CoreImage.{CoreImage}
use Rattle.omi_layout.specs.declared.fault.LayoutFault.TheVariants.{Version, Overlap, OutOfRecord, BadArena}
use Rattle.omi_layout.specs.declared.reading.LayoutError.{LayoutError}
use Rattle.omi_layout.specs.declared.reading.LayoutError.TheVariants as error
use Rattle.omi_layout.proofs.OneAnswer.{one_layout, one_cause, not_both}
use Rattle.omi_model.specs.declared.view.View.{View}
use Rattle.omi_rep.specs.Look.{Look}
use Rattle.omi_rep.specs.LookView.{look_view}
use Rattle.omi_rep.specs.declared.fault.LookFault.{LookFault}
use Rattle.omi_rep.specs.declared.fault.LookFault.TheVariants as look
use Rattle.omi_top.specs.verbs.Show.{IsShowRefusal}
use Rattle.omi_top.proofs.Files.{fault_told, file_not_refused, one_told, says_fault, told_status}
use Rattle.omi_page.proofs.OpenedFiles.{file_unique}
use Rattle.omi_top.specs.Files.{HasFault}
use Rattle.omi_top.specs.Cores.{IsDamaged, IsIncompatible, IsLooked, IsWrongTable, LacksTable, Spells, words_of_core}
use Rattle.omi_top.specs.Questions.{refusal_of_layout}
use Rattle.omi_top.specs.Shown.{IsRefusedCore}
use Rattle.omi_commands.specs.Inquiries.{refusal_of_look}
use Rattle.omi_frame.specs.Refusal.{status_of}
use Rattle.omi_frame.specs.declared.refusal.Input.TheVariants as input
use Rattle.omi_frame.specs.declared.refusal.Refusal.{Refusal}
use Rattle.omi_frame.specs.declared.refusal.Refusal.TheVariants as refusal

-- ---- one answer

-- a look at a core gives one thing
pub one_looked : (core : CoreImage) (x y : Look View) → IsLooked core x → IsLooked core y → x ≡ y
one_looked core x y a b =
    sym a.is
    ∙ ap (λ (w : List ℕ). look_view w (words_of_core core) core.contexts)
    (one_layout (words_of_core core) a.w b.w a.layout b.layout)
    ∙ b.is

pub one_fault : (e f : LookFault) → (let failed : LookFault → Look View = λ x. Err x in failed e ≡ failed f) → e ≡ f
one_fault e f same = cc

pub one_view : (u v : View) → (let gives : View → Look View = λ x. Ok x in gives u ≡ gives v) → u ≡ v
one_view u v same = cc

view_no_fault : (v : View) (e : LookFault) → (let gives : Look View = Ok v in gives ≡ Err e) → ⊥
view_no_fault v e same = cc

one_of_core : (core : CoreImage) (r s : Refusal) → IsRefusedCore core r → IsRefusedCore core s → r ≡ s
one_of_core core r s (inl (e, a, p)) (inl (f, b, q)) =
    p ∙ ap refusal_of_layout (one_cause (words_of_core core) e f a b) ∙ sym q
one_of_core core r s (inl (e, a, p)) (inr (f, b, q)) =
    absurd (not_both (words_of_core core) b.w e b.valid b.layout a)
one_of_core core r s (inr (e, a, p)) (inl (f, b, q)) =
    absurd (not_both (words_of_core core) a.w f a.valid a.layout b)
one_of_core core r s (inr (e, a, p)) (inr (f, b, q)) =
    p ∙ ap refusal_of_look (one_fault e f (one_looked core (Err e) (Err f) a b)) ∙ sym q

pub one_refusal : (content : Option (List ℕ)) (r s : Refusal) → IsShowRefusal content r
    → IsShowRefusal content s → r ≡ s
one_refusal None r s p q = p ∙ sym q
one_refusal (Some bytes) r s (inl a) (inl b) = one_told bytes r s a b
one_refusal (Some bytes) r s (inl a) (inr (core, is, b)) = absurd (file_not_refused bytes core r is a)
one_refusal (Some bytes) r s (inr (core, is, a)) (inl b) = absurd (file_not_refused bytes core s is b)
one_refusal (Some bytes) r s (inr (core, spelled, a)) (inr (other, also, b)) =
    one_of_core core r s a
    (subst (λ (c : CoreImage). IsRefusedCore c s) (file_unique bytes other core also spelled) b)

looked_not_refused : (core : CoreImage) (v : View) (r : Refusal) → IsLooked core (Ok v) → IsRefusedCore core r
    → ⊥
looked_not_refused core v r looked (inl (e, a, p)) =
    not_both (words_of_core core) looked.w e looked.valid looked.layout a
looked_not_refused core v r looked (inr (e, a, p)) =
    view_no_fault v e (one_looked core (Ok v) (Err e) looked a)

pub report_not_refused : (bytes : List ℕ) (v : View) (r : Refusal)
    → Spells bytes (λ core. IsLooked core (Ok v)) → IsShowRefusal (Some bytes) r → ⊥
report_not_refused bytes v r (core, is, looked) (inl told) = file_not_refused bytes core r is told
report_not_refused bytes v r (core, spelled, looked) (inr (other, also, a)) =
    looked_not_refused core v r looked
    (subst (λ (c : CoreImage). IsRefusedCore c r) (file_unique bytes other core also spelled) a)

-- ---- the status of each

look_status : (fault : LookFault) → status_of (refusal_of_look fault) ≡ status.Damaged
look_status (look.Damaged addr field) = refl
look_status (look.Cycle addr) = refl

pub lacking_status : (e : LayoutError) → LacksTable e → status_of (refusal_of_layout e) ≡ status.Incompatible
lacking_status error.NoSymbol lacks = refl
lacking_status (error.Unmapped addr) lacks = absurd lacks
lacking_status (error.Refused addr (Version v)) lacks = refl
lacking_status (error.Refused addr (Overlap f g)) lacks = absurd lacks
lacking_status (error.Refused addr (OutOfRecord f)) lacks = absurd lacks
lacking_status (error.Refused addr (BadArena p)) lacks = absurd lacks

pub wrong_status : (e : LayoutError) → IsWrongTable e → status_of (refusal_of_layout e) ≡ status.Damaged
wrong_status error.NoSymbol wrong = absurd wrong
wrong_status (error.Unmapped addr) wrong = refl
wrong_status (error.Refused addr (Version v)) wrong = absurd wrong
wrong_status (error.Refused addr (Overlap f g)) wrong = refl
wrong_status (error.Refused addr (OutOfRecord f)) wrong = refl
wrong_status (error.Refused addr (BadArena p)) wrong = refl

pub either_table : (e : LayoutError) → LacksTable e ⊎ IsWrongTable e
either_table error.NoSymbol = inl tt
either_table (error.Unmapped addr) = inr tt
either_table (error.Refused addr (Version v)) = inl tt
either_table (error.Refused addr (Overlap f g)) = inr tt
either_table (error.Refused addr (OutOfRecord f)) = inr tt
either_table (error.Refused addr (BadArena p)) = inr tt

-- what a refusal of a file's bytes says of them, by its status
pub record SaysCore (bytes : List ℕ) (s : Status) : Type 0 where
  pub is : s ≡ status.Core
  pub fact : HasFault bytes

pub record SaysIncompatible (bytes : List ℕ) (s : Status) : Type 0 where
  pub is : s ≡ status.Incompatible
  pub fact : Spells bytes IsIncompatible

pub record SaysDamaged (bytes : List ℕ) (s : Status) : Type 0 where
  pub is : s ≡ status.Damaged
  pub fact : Spells bytes IsDamaged

pub kinds : (bytes : List ℕ) (r : Refusal) → IsShowRefusal (Some bytes) r
    → SaysCore bytes (status_of r) ⊎ (SaysIncompatible bytes (status_of r) ⊎ SaysDamaged bytes (status_of r))
kinds bytes r (inl told) = inl (record { is = told_status bytes r told; fact = says_fault bytes r told })
kinds bytes r (inr (core, spelled, inr (fault, looked, same))) =
    inr
    (inr (record { is = ap status_of same ∙ look_status fault; fact = (core, spelled, inr (fault, looked)) }))
kinds bytes r (inr (core, spelled, inl (e, none, same))) = go (either_table e)
  where
    go : LacksTable e ⊎ IsWrongTable e
        → SaysCore bytes (status_of r) ⊎ (SaysIncompatible bytes (status_of r) ⊎ SaysDamaged bytes (status_of r))
    go (inl lacks) =
        inr
        (inl (record { is = ap status_of same ∙ lacking_status e lacks; fact = (core, spelled, (e, none, lacks)) }))
    go (inr wrong) =
        inr
        (inr (record { is = ap status_of same ∙ wrong_status e wrong; fact = (core, spelled, inl (e, none, wrong)) }))

pub says_core : (bytes : List ℕ) (r : Refusal) → IsShowRefusal (Some bytes) r → status_of r ≡ status.Core
    → HasFault bytes
says_core bytes r refuses is =
    elim (kinds bytes r refuses) [
      | inl k ↦ k.fact
      | inr (inl k) ↦ let wrong : status.Incompatible ≡ status.Core = sym k.is ∙ is in absurd (cc)
      | inr (inr k) ↦ let wrong : status.Damaged ≡ status.Core = sym k.is ∙ is in absurd (cc)
    ]

pub says_incompatible : (bytes : List ℕ) (r : Refusal) → IsShowRefusal (Some bytes) r
    → status_of r ≡ status.Incompatible → Spells bytes IsIncompatible
says_incompatible bytes r refuses is =
    elim (kinds bytes r refuses) [
      | inl k ↦ let wrong : status.Core ≡ status.Incompatible = sym k.is ∙ is in absurd (cc)
      | inr (inl k) ↦ k.fact
      | inr (inr k) ↦ let wrong : status.Damaged ≡ status.Incompatible = sym k.is ∙ is in absurd (cc)
    ]

pub says_damaged : (bytes : List ℕ) (r : Refusal) → IsShowRefusal (Some bytes) r
    → status_of r ≡ status.Damaged → Spells bytes IsDamaged
says_damaged bytes r refuses is =
    elim (kinds bytes r refuses) [
      | inl k ↦ let wrong : status.Core ≡ status.Damaged = sym k.is ∙ is in absurd (cc)
      | inr (inl k) ↦ let wrong : status.Incompatible ≡ status.Damaged = sym k.is ∙ is in absurd (cc)
      | inr (inr k) ↦ k.fact
    ]

-- a content that is refused as no file is none
pub says_missing : (content : Option (List ℕ)) (r : Refusal) → IsShowRefusal content r
    → status_of r ≡ status.NoFile → content ≡ None
says_missing None r refuses is = refl
says_missing (Some bytes) r refuses is =
    elim (kinds bytes r refuses) [
      | inl k ↦ let wrong : status.Core ≡ status.NoFile = sym k.is ∙ is in absurd (cc)
      | inr (inl k) ↦ let wrong : status.Incompatible ≡ status.NoFile = sym k.is ∙ is in absurd (cc)
      | inr (inr k) ↦ let wrong : status.Damaged ≡ status.NoFile = sym k.is ∙ is in absurd (cc)
    ]

-- and each such fact is the cause of a refusal with this status
abbrev pub Refusing : Option (List ℕ) → Status → Type 0
Refusing content s = (r : Refusal) × IsShowRefusal content r × (status_of r ≡ s)

pub missing : Refusing None status.NoFile
missing = (refusal.NoFile input.Core, refl, refl)

pub faulty : (bytes : List ℕ) → HasFault bytes → Refusing (Some bytes) status.Core
faulty bytes fault = let (r, told) = fault_told bytes fault in (r, inl told, told_status bytes r told)

pub incompatible : (bytes : List ℕ) → Spells bytes IsIncompatible → Refusing (Some bytes) status.Incompatible
incompatible bytes (core, spelled, (e, none, lacks)) =
    (refusal_of_layout e, inr (core, spelled, inl (e, none, refl)), lacking_status e lacks)

pub damaged : (bytes : List ℕ) → Spells bytes IsDamaged → Refusing (Some bytes) status.Damaged
damaged bytes (core, spelled, inl (e, none, wrong)) =
    (refusal_of_layout e, inr (core, spelled, inl (e, none, refl)), wrong_status e wrong)
damaged bytes (core, spelled, inr (fault, looked)) =
    (refusal_of_look fault, inr (core, spelled, inr (fault, looked, refl)), look_status fault)

-- nothing else is refused where a refusal with this status is
pub all_refusing : (content : Option (List ℕ)) (s : Status) → Refusing content s → (r : Refusal)
    → IsShowRefusal content r → status_of r ≡ s
all_refusing content s (one, is, same) r refuses = ap status_of (one_refusal content r one refuses is) ∙ same
